-- The bytes of a float as its reader takes them, the lowest first, and as they are spelled.
use Rattle.std.proofs.Common.{◌≡◌, ℕ, zero, suc, ◌+◌, ◌*◌, ◌/◌, ◌%◌, ◌^◌, ◌<◌, List, [], ◌∷◌, ◌++◌, refl, sym, ap, ◌∙◌, subst, arith, mul_assoc, pow-suc}
use Rattle.wm_syntax.specs.Spelling.{Form}
use Rattle.wm_syntax.specs.Encodings.{SpellsFloat}
use Rattle.wm_machine.specs.exact.OpSteps.{pushed}
use Rattle.wm_machine.proofs.FirstBytes.{not_nil}

-- with these further bytes the reader comes to n, where so many come after the next
abbrev pub FloatRest : ℕ → ℕ → ℕ → ℕ → Form ℕ
FloatRest top zero low n b = (c : ℕ) × (c < 2 ^ 8) × (n ≡ pushed top low c) × (b ≡ c ∷ [])
FloatRest top (suc left) low n b = (c : ℕ) × (rest : List ℕ) × (c < 2 ^ 8) × (b ≡ c ∷ rest) × FloatRest top left (pushed top low c) n rest

pub float_some : (top left low n : ℕ) → FloatRest top left low n [] → ⊥
float_some top zero low n h = not_nil h.0 [] (sym h.3)
float_some top (suc left) low n h = not_nil h.0 h.1 (sym h.3)

-- something may still come
pub float_comes : (top left low : ℕ) → (n : ℕ) × (b : List ℕ) × FloatRest top left low n b
float_comes top zero low = (pushed top low 0, 0 ∷ [], (0, omega arith, refl, refl))
float_comes top (suc left) low = let g = float_comes top left (pushed top low 0) in (g.0, 0 ∷ g.1, (0, g.1, omega arith, refl, g.2))

-- digits of 256
digits : (m : ℕ) → m ≡ 256 * (m / 256) + m % 256
digits m = omega arith

digit : (m : ℕ) → m % 256 < 2 ^ 8
digit m = omega arith

low_digit : (d c : ℕ) → c < 2 ^ 8 → c ≡ (256 * d + c) % 256
low_digit d c byte = omega (arith, byte)

high_digits : (d c : ℕ) → c < 2 ^ 8 → d ≡ (256 * d + c) / 256
high_digits d c byte = omega (arith, byte)

times_over : (x : ℕ) → 256 * x / 256 ≡ x
times_over x = omega arith

-- products, as far as they are needed
over : (v : ℕ) → v * 256 / 256 ≡ v
over v = omega arith

sum_times : (v x w : ℕ) → v * w + x * w ≡ (v + x) * w
sum_times v x w = omega arith

times_one : (s : ℕ) → s * 1 ≡ s
times_one s = omega arith

pow256 : (k : ℕ) → 256 ^ suc k ≡ 256 * 256 ^ k
pow256 k = omega (arith, pow-suc 256 k)

raised : (v w u low : ℕ) → u ≡ 256 * w → low ≡ v * u → low ≡ 256 * (v * w)
raised v w u low e f = f ∙ (ap (λ x. v * x) e ∙ (let q : v * (256 * w) ≡ 256 * (v * w) = omega arith in q))

weighed : (s w u t : ℕ) → u ≡ 256 * w → t ≡ s * u → t ≡ (s * 256) * w
weighed s w u t e f = f ∙ (ap (λ x. s * x) e ∙ (let q : s * (256 * w) ≡ (s * 256) * w = omega arith in q))

-- the reader holds the value v so far above the bytes to come, of which the next counts for s
last_low : (v m s low c t : ℕ) → low ≡ v * 256 → t ≡ s → c ≡ m → pushed t low c ≡ v + m * s
last_low v m s low c t e f g = ap (λ x. x / 256 + c * t) e ∙ (ap (λ x. x + c * t) (over v) ∙ (ap (λ y. v + c * y) f ∙ ap (λ z. v + z * s) g))

more_low : (v c s w low t : ℕ) → low ≡ 256 * (v * w) → t ≡ s * w → pushed t low c ≡ (v + c * s) * w
more_low v c s w low t e f =
    ap (λ x. x / 256 + c * t) e ∙ (ap (λ x. x + c * t) (times_over (v * w))
    ∙ (ap (λ y. v * w + c * y) f ∙ (ap (λ z. v * w + z) (sym (mul_assoc c s w)) ∙ sum_times v (c * s) w)))

more_value : (v c d s m : ℕ) → m ≡ 256 * d + c → (v + c * s) + d * (s * 256) ≡ v + m * s
more_value v c d s m e = (let q : (v + c * s) + d * (s * 256) ≡ v + (256 * d + c) * s = omega arith in q) ∙ ap (λ x. v + x * s) (sym e)

-- what is spelled is taken so
taken : (l v s m low t : ℕ) (b : List ℕ) → low ≡ v * 256 ^ suc l → t ≡ s * 256 ^ l → SpellsFloat (suc l) m b → FloatRest t l low (v + m * s) b
taken zero v s m low t b e f (x, y, eb, ex, (ez, ey)) =
    let all : m % 256 ≡ m = omega (arith, ez) in
    (m % 256, digit m, sym (last_low v m s low (m % 256) t e (f ∙ times_one s) all), eb ∙ (ap (λ (z : List ℕ). z ++ y) ex ∙ ap (λ (z : List ℕ). m % 256 ∷ z) ey))
taken (suc l) v s m low t b e f (x, y, eb, ex, rest) =
    let next : pushed t low (m % 256) ≡ (v + (m % 256) * s) * 256 ^ suc l = more_low v (m % 256) s (256 ^ suc l) low t (raised v (256 ^ suc l) (256 ^ suc (suc l)) low (pow256 (suc l)) e) f in
    let weight : t ≡ (s * 256) * 256 ^ l = weighed s (256 ^ l) (256 ^ suc l) t (pow256 l) f in
    let r : FloatRest t l (pushed t low (m % 256)) ((v + (m % 256) * s) + (m / 256) * (s * 256)) y = taken l (v + (m % 256) * s) (s * 256) (m / 256) (pushed t low (m % 256)) t y next weight rest in
    (m % 256, y, digit m, eb ∙ ap (λ (z : List ℕ). z ++ y) ex, subst (λ n. FloatRest t l (pushed t low (m % 256)) n y) (more_value v (m % 256) (m / 256) s m (digits m)) r)

-- and what is taken so is spelled
told : (l v s n low t : ℕ) (b : List ℕ) → low ≡ v * 256 ^ suc l → t ≡ s * 256 ^ l → FloatRest t l low n b → (m : ℕ) × SpellsFloat (suc l) m b × (n ≡ v + m * s)
told zero v s n low t b e f (c, byte, en, eb) =
    let same : c ≡ c % 256 = omega (arith, byte) in
    let none : c / 256 ≡ 0 = omega (arith, byte) in
    (c, (c ∷ [], [], eb, ap (λ y. y ∷ []) same, (none, refl)), en ∙ last_low v c s low c t e (f ∙ times_one s) refl)
told (suc l) v s n low t b e f (c, y, byte, eb, rest) =
    let next : pushed t low c ≡ (v + c * s) * 256 ^ suc l = more_low v c s (256 ^ suc l) low t (raised v (256 ^ suc l) (256 ^ suc (suc l)) low (pow256 (suc l)) e) f in
    let weight : t ≡ (s * 256) * 256 ^ l = weighed s (256 ^ l) (256 ^ suc l) t (pow256 l) f in
    let r : (d : ℕ) × SpellsFloat (suc l) d y × (n ≡ (v + c * s) + d * (s * 256)) = told l (v + c * s) (s * 256) n (pushed t low c) t y next weight rest in (
      256 * r.0 + c,
      (c ∷ [], y, eb, ap (λ z. z ∷ []) (low_digit r.0 c byte), subst (λ k. SpellsFloat (suc l) k y) (high_digits r.0 c byte) r.1),
      r.2 ∙ more_value v c r.0 s (256 * r.0 + c) refl,
    )

zero_one : (n : ℕ) → 0 + n * 1 ≡ n
zero_one n = omega arith

-- from the first byte
pub float_32_left : (n : ℕ) (b : List ℕ) → SpellsFloat 4 n b → FloatRest (2 ^ 24) 3 0 n b
float_32_left n b h = subst (λ k. FloatRest (2 ^ 24) 3 0 k b) (zero_one n) (taken 3 0 1 n 0 (2 ^ 24) b refl refl h)

pub float_64_left : (n : ℕ) (b : List ℕ) → SpellsFloat 8 n b → FloatRest (2 ^ 56) 7 0 n b
float_64_left n b h = subst (λ k. FloatRest (2 ^ 56) 7 0 k b) (zero_one n) (taken 7 0 1 n 0 (2 ^ 56) b refl refl h)

pub left_float_32 : (n : ℕ) (b : List ℕ) → FloatRest (2 ^ 24) 3 0 n b → SpellsFloat 4 n b
left_float_32 n b h =
    let r : (m : ℕ) × SpellsFloat 4 m b × (n ≡ 0 + m * 1) = told 3 0 1 n 0 (2 ^ 24) b refl refl h in
    subst (λ k. SpellsFloat 4 k b) (sym (r.2 ∙ zero_one r.0)) r.1

pub left_float_64 : (n : ℕ) (b : List ℕ) → FloatRest (2 ^ 56) 7 0 n b → SpellsFloat 8 n b
left_float_64 n b h =
    let r : (m : ℕ) × SpellsFloat 8 m b × (n ≡ 0 + m * 1) = told 7 0 1 n 0 (2 ^ 56) b refl refl h in
    subst (λ k. SpellsFloat 8 k b) (sym (r.2 ∙ zero_one r.0)) r.1
