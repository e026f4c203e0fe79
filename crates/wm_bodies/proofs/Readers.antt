-- Readers are sound and complete: they read exactly what tokens write.
use Rattle.std.proofs.Common.{◌≡◌, ℕ, zero, suc, ◌<◌, Bool, true, false, List, [], ◌∷◌, ◌++◌, length, Option, Some, None, refl, sym, ap, subst, ◌∙◌, inl, inr, arith, append_assoc, length-append}
use Rattle.std.specs.Prelude.{◌==◌}
use Rattle.std.proofs.lemmas.Bool.{cond-true, cond-false, eqb-true, eq-eqb, and_parts, and_from}
use Rattle.wm_syntax.specs.Spelling.{Form, Each, ◌▸◌}
use Rattle.wm_tokens.specs.Tokens.{Token, open_paren, close_paren, string, atom}
use Rattle.wm_tokens.proofs.Basics.{chosen, same_some}
use Rattle.wm_tokens.specs.Identifiers.{One}
use Rattle.wm_tokens.specs.Written.{Paren}
use Rattle.wm_bodies.specs.exact.Reading.{Reader, same_bytes, made, ◌>>=◌, open_at, close_at, atom_at, word_of, then_at, paren_at, many_at}

-- The tokens in front write the value that was read.
abbrev pub Sound : {X : Type 0} → Reader X → (X → Form Token) → Type 0
Sound {X} r W = (k : List Token) (x : X) (rest : List Token) → r k ≡ Some (x, rest) → (front : List Token) × (k ≡ front ++ rest) × W x front

-- A value that the tokens in front write is read, if F holds of the tokens after them.
abbrev pub Complete : {X : Type 0} → Reader X → (X → Form Token) → (List Token → Type 0) → Type 0
Complete {X} r W F = (x : X) (front rest : List Token) → W x front → F rest → r (front ++ rest) ≡ Some (x, rest)

abbrev pub Any : List Token → Type 0
Any k = Unit {0}

pub bind_ok : {A B : Type 0} (o : Option A) (f : A → Option B) (y : B) → (o >>= f) ≡ Some y → (x : A) × (o ≡ Some x) × (f x ≡ Some y)
bind_ok None f y e = absurd cc
bind_ok (Some x) f y e = (x, refl, e)

pub bind_is : {A B : Type 0} (o : Option A) (f : A → Option B) (x : A) → o ≡ Some x → (o >>= f) ≡ f x
bind_is o f x e = ap (λ z. z >>= f) e

pub same_is : (a b : List ℕ) → same_bytes a b ≡ true → a ≡ b
same_is [] [] e = refl
same_is (c ∷ a) (d ∷ b) e = let p = and_parts (c == d) (same_bytes a b) e in ap (λ (x : ℕ). x ∷ a) (eqb-true c d p.0) ∙ ap (λ (x : List ℕ). d ∷ x) (same_is a b p.1)
same_is [] (d ∷ b) e = absurd (let f : false ≡ true = e in cc)
same_is (c ∷ a) [] e = absurd (let f : false ≡ true = e in cc)

pub is_same : (a : List ℕ) → same_bytes a a ≡ true
is_same [] = refl
is_same (c ∷ a) = and_from (c == c) (same_bytes a a) (eq-eqb c c refl) (is_same a)

-- ---- one token

pub atom_sound : {X : Type 0} (read : List ℕ → Option X) (P : X → List ℕ → Type 0) → ((a : List ℕ) (x : X) → read a ≡ Some x → P x a) → Sound (atom_at read) (One P)
atom_sound {X} read P h [] x rest e = absurd cc
atom_sound {X} read P h (open_paren ∷ k) x rest e = absurd cc
atom_sound {X} read P h (close_paren ∷ k) x rest e = absurd cc
atom_sound {X} read P h (string b ∷ k) x rest e = absurd cc
atom_sound {X} read P h (atom a ∷ k) x rest e =
    let g = bind_ok (read a) (λ y. Some (y, k)) (x, rest) e in
    let p : ◌≡◌ {A = X × List Token} (g.0, k) (x, rest) = same_some (g.0, k) (x, rest) g.2 in
    (atom a ∷ [], ap (λ (z : X × List Token). atom a ∷ z.1) p, (a, refl, h a x (g.1 ∙ ap (λ (z : X × List Token). Some z.0) p)))

pub atom_complete : {X : Type 0} (read : List ℕ → Option X) (P : X → List ℕ → Type 0) → ((a : List ℕ) (x : X) → P x a → read a ≡ Some x) → Complete (atom_at read) (One P) Any
atom_complete {X} read P h x front rest (a, e, p) f = ap (λ (z : List Token). atom_at read (z ++ rest)) e ∙ bind_is (read a) (λ y. Some (y, rest)) x (h a x p)

-- ---- one after another

abbrev pub Both : {X Y : Type 0} → (X → Form Token) → (Y → Form Token) → X × Y → Form Token
Both P Q z = P z.0 ▸ Q z.1

pub then_sound : {X Y : Type 0} (r : Reader X) (s : Reader Y) (P : X → Form Token) (Q : Y → Form Token) → Sound r P → Sound s Q → Sound (then_at r s) (Both P Q)
then_sound {X} {Y} r s P Q p q k z rest e =
    let a = bind_ok (r k) (λ x. s x.1 >>= λ y. Some ((x.0, y.0), y.1)) (z, rest) e in
    let b = bind_ok (s a.0.1) (λ y. Some ((a.0.0, y.0), y.1)) (z, rest) a.2 in
    let one = p k a.0.0 a.0.1 a.1 in
    let two = q a.0.1 b.0.0 b.0.1 b.1 in
    let is : ◌≡◌ {A = (X × Y) × List Token} ((a.0.0, b.0.0), b.0.1) (z, rest) = same_some ((a.0.0, b.0.0), b.0.1) (z, rest) b.2 in
    let whole : k ≡ (one.0 ++ two.0) ++ b.0.1 = one.1 ∙ ap (λ (w : List Token). one.0 ++ w) two.1 ∙ sym (append_assoc one.0 two.0 b.0.1) in
    (one.0 ++ two.0, whole ∙ ap (λ (w : (X × Y) × List Token). (one.0 ++ two.0) ++ w.1) is, subst (λ (w : (X × Y) × List Token). Both P Q w.0 (one.0 ++ two.0)) is (one.0, two.0, refl, one.2, two.2))

-- The tokens after the first part are those of the second, and then the rest.
pub then_complete : {X Y : Type 0} (r : Reader X) (s : Reader Y) (P : X → Form Token) (Q : Y → Form Token) (F G : List Token → Type 0)
    → Complete r P F → Complete s Q G → ((y : Y) (front rest : List Token) → Q y front → G rest → F (front ++ rest)) → Complete (then_at r s) (Both P Q) G
then_complete r s P Q F G p q follow z front rest (x, y, e, a, b) g =
    ap (λ (w : List Token). then_at r s (w ++ rest)) e ∙ ap (then_at r s) (append_assoc x y rest)
    ∙ bind_is (r (x ++ (y ++ rest))) _ (z.0, y ++ rest) (p z.0 x (y ++ rest) a (follow z.1 y rest b g))
    ∙ bind_is (s (y ++ rest)) _ (z.1, rest) (q z.1 y rest b g)

-- ---- in parentheses

abbrev pub BeginsClose : List Token → Type 0
BeginsClose (close_paren ∷ k) = Unit {0}
BeginsClose _ = ⊥

pub open_found : (k : List Token) (x : Unit {0} × List Token) → open_at k ≡ Some x → k ≡ open_paren ∷ x.1
open_found [] x e = absurd cc
open_found (open_paren ∷ k) x e = ap (λ (z : Unit {0} × List Token). open_paren ∷ z.1) (same_some (tt, k) x e)
open_found (close_paren ∷ k) x e = absurd cc
open_found (string b ∷ k) x e = absurd cc
open_found (atom a ∷ k) x e = absurd cc

pub close_found : (k : List Token) (x : Unit {0} × List Token) → close_at k ≡ Some x → k ≡ close_paren ∷ x.1
close_found [] x e = absurd cc
close_found (close_paren ∷ k) x e = ap (λ (z : Unit {0} × List Token). close_paren ∷ z.1) (same_some (tt, k) x e)
close_found (open_paren ∷ k) x e = absurd cc
close_found (string b ∷ k) x e = absurd cc
close_found (atom a ∷ k) x e = absurd cc

pub word_found : (w : List ℕ) (k : List Token) (x : Unit {0} × List Token) → atom_at (word_of w) k ≡ Some x → k ≡ atom w ∷ x.1
word_found w k x e =
    let g = atom_sound (word_of w) (λ _ a. a ≡ w) (λ a y h. word a h) k x.0 x.1 e in
    g.1 ∙ ap (λ (z : List Token). z ++ x.1) g.2.1 ∙ ap (λ (z : List ℕ). atom z ∷ x.1) g.2.2
  where
    word : (a : List ℕ) {y : Unit {0}} → word_of w a ≡ Some y → a ≡ w
    word a {y} h = elim (chosen (same_bytes a w) (Some tt) None (Some y) h) [ inl p ↦ same_is a w p.0 | inr p ↦ absurd (let f : ◌≡◌ {A = Option (Unit {0})} None (Some y) = p.1 in cc) ]

pub word_is : (w : List ℕ) (k : List Token) → atom_at (word_of w) (atom w ∷ k) ≡ Some (tt, k)
word_is w k = bind_is (word_of w w) (λ y. Some (y, k)) tt (cond-true (same_bytes w w) _ _ (is_same w))

pub paren_sound : {X : Type 0} (word : List ℕ) (r : Reader X) (P : X → Form Token) → Sound r P → Sound (paren_at word r) (λ x. Paren word (P x))
paren_sound {X} word r P p k x rest e =
    let o = bind_ok (open_at k) _ (x, rest) e in
    let w = bind_ok (atom_at (word_of word) o.0.1) _ (x, rest) o.2 in
    let a = bind_ok (r w.0.1) _ (x, rest) w.2 in
    let c = bind_ok (close_at a.0.1) _ (x, rest) a.2 in
    let is : ◌≡◌ {A = X × List Token} (a.0.0, c.0.1) (x, rest) = same_some (a.0.0, c.0.1) (x, rest) c.2 in
    let one = p w.0.1 a.0.0 a.0.1 a.1 in
    let text : k ≡ open_paren ∷ atom word ∷ (one.0 ++ close_paren ∷ c.0.1) =
    open_found k o.0 o.1 ∙ ap (λ (z : List Token). open_paren ∷ z) (word_found word o.0.1 w.0 w.1)
    ∙ ap (λ (z : List Token). open_paren ∷ atom word ∷ z) (one.1 ∙ ap (λ (z : List Token). one.0 ++ z) (close_found a.0.1 c.0 c.1)) in
    let whole : k ≡ (open_paren ∷ atom word ∷ (one.0 ++ close_paren ∷ [])) ++ c.0.1 = text ∙ ap (λ (z : List Token). open_paren ∷ atom word ∷ z) (sym (append_assoc one.0 (close_paren ∷ []) c.0.1)) in (
      open_paren ∷ atom word ∷ (one.0 ++ close_paren ∷ []),
      whole ∙ ap (λ (z : X × List Token). (open_paren ∷ atom word ∷ (one.0 ++ close_paren ∷ [])) ++ z.1) is,
      (open_paren ∷ atom word ∷ [], one.0 ++ close_paren ∷ [], refl, refl, (one.0, close_paren ∷ [], refl, subst (λ (z : X × List Token). P z.0 one.0) is one.2, refl)),
    )

pub paren_complete : {X : Type 0} (word : List ℕ) (r : Reader X) (P : X → Form Token) → Complete r P BeginsClose → Complete (paren_at word r) (λ x. Paren word (P x)) Any
paren_complete word r P p x front rest (a, b, e, is, (f, c, e2, h, last)) any =
    let text : front ++ rest ≡ open_paren ∷ atom word ∷ (f ++ close_paren ∷ rest) =
    ap (λ (z : List Token). z ++ rest) (e ∙ ap (λ (z : List Token). z ++ b) is ∙ ap (λ (z : List Token). open_paren ∷ atom word ∷ z) (e2 ∙ ap (λ (z : List Token). f ++ z) last))
    ∙ ap (λ (z : List Token). open_paren ∷ atom word ∷ z) (append_assoc f (close_paren ∷ []) rest) in
    ap (paren_at word r) text ∙ bind_is (atom_at (word_of word) (atom word ∷ (f ++ close_paren ∷ rest))) _ (tt, f ++ close_paren ∷ rest) (word_is word (f ++ close_paren ∷ rest))
    ∙ bind_is (r (f ++ close_paren ∷ rest)) _ (x, close_paren ∷ rest) (p x f (close_paren ∷ rest) h tt)

-- ---- as many as there are

pub many_sound : {X : Type 0} (n : ℕ) (goes : List Token → Bool) (r : Reader X) (P : X → Form Token) → Sound r P → Sound (many_at n goes r) (Each P)
many_sound {X} zero goes r P p k xs rest e = absurd cc
many_sound {X} (suc n) goes r P p k xs rest e = elim (chosen (goes k) _ _ (Some (xs, rest)) e) [
  | inl t ↦ (
      let a = bind_ok (r k) _ (xs, rest) t.1 in
      let b = bind_ok (many_at n goes r a.0.1) _ (xs, rest) a.2 in
      let one = p k a.0.0 a.0.1 a.1 in
      let more = many_sound n goes r P p a.0.1 b.0.0 b.0.1 b.1 in
      let is : ◌≡◌ {A = List X × List Token} (a.0.0 ∷ b.0.0, b.0.1) (xs, rest) = same_some (a.0.0 ∷ b.0.0, b.0.1) (xs, rest) b.2 in
      let whole : k ≡ (one.0 ++ more.0) ++ b.0.1 = one.1 ∙ ap (λ (w : List Token). one.0 ++ w) more.1 ∙ sym (append_assoc one.0 more.0 b.0.1) in
      (one.0 ++ more.0, whole ∙ ap (λ (z : List X × List Token). (one.0 ++ more.0) ++ z.1) is, subst (λ (z : List X × List Token). Each P z.0 (one.0 ++ more.0)) is (one.0, more.0, refl, one.2, more.2)))
  | inr t ↦ (let is : ◌≡◌ {A = List X × List Token} ([], k) (xs, rest) = same_some ([], k) (xs, rest) t.1 in
      ([], ap (λ (z : List X × List Token). z.1) is, subst (λ (z : List X × List Token). Each P z.0 []) is refl))
]

-- each has a token, with which it may begin
abbrev pub Begins : {X : Type 0} → (List Token → Bool) → (X → Form Token) → Type 0
Begins {X} goes P = (x : X) (front rest : List Token) → P x front → (goes (front ++ rest) ≡ true) × (0 < length front)

pub many_complete : {X : Type 0} (n : ℕ) (goes : List Token → Bool) (r : Reader X) (P : X → Form Token) (F : List Token → Type 0)
    → Complete r P F → Begins goes P → ((xs : List X) (front rest : List Token) → Each P xs front → goes rest ≡ false → F (front ++ rest))
    → (xs : List X) (front rest : List Token) → length front < n → Each P xs front → goes rest ≡ false → many_at n goes r (front ++ rest) ≡ Some (xs, rest)
many_complete zero goes r P F p begins follow xs front rest lt h g = absurd (omega (arith, lt))
many_complete (suc n) goes r P F p begins follow [] front rest lt h g = ap (λ (z : List Token). many_at (suc n) goes r (z ++ rest)) h ∙ cond-false (goes rest) _ _ g
many_complete (suc n) goes r P F p begins follow (x ∷ xs) front rest lt (a, b, e, h, more) g =
    let text : front ++ rest ≡ a ++ (b ++ rest) = ap (λ (z : List Token). z ++ rest) e ∙ append_assoc a b rest in
    let start = begins x a (b ++ rest) h in
    let size : length front ≡ length (a ++ b) = ap length e in
    ap (many_at (suc n) goes r) text ∙ cond-true (goes (a ++ (b ++ rest))) _ _ start.0
    ∙ bind_is (r (a ++ (b ++ rest))) _ (x, b ++ rest) (p x a (b ++ rest) h (follow xs b rest more g))
    ∙ bind_is (many_at n goes r (b ++ rest)) _ (xs, rest) (many_complete n goes r P F p begins follow xs b rest (omega (arith, size, length-append a b, start.1, lt)) more g)

-- The comparison of bytes in the code.
pub same_from : (a b : List ℕ) → a ≡ b → same_bytes a b ≡ true
same_from a b e = ap (same_bytes a) (sym e) ∙ is_same a

pub ruleset same_laws = (same_is, same_from)

-- ---- a value made from another

pub made_sound : {X Y : Type 0} (f : X → Y) (r : Reader X) (P : X → Form Token) (Q : Y → Form Token) → Sound r P → ((x : X) (front : List Token) → P x front → Q (f x) front) → Sound (λ k. made f (r k)) Q
made_sound {X} {Y} f r P Q p q k y rest e =
    let a = bind_ok (r k) (λ x. Some (f x.0, x.1)) (y, rest) e in
    let one = p k a.0.0 a.0.1 a.1 in
    let is : ◌≡◌ {A = Y × List Token} (f a.0.0, a.0.1) (y, rest) = same_some (f a.0.0, a.0.1) (y, rest) a.2 in
    (one.0, one.1 ∙ ap (λ (z : Y × List Token). one.0 ++ z.1) is, subst (λ (z : Y × List Token). Q z.0 one.0) is (q a.0.0 one.0 one.2))

pub made_is : {X Y : Type 0} (f : X → Y) (o : Option (X × List Token)) (x : X) (rest : List Token) → o ≡ Some (x, rest) → made f o ≡ Some (f x, rest)
made_is f o x rest e = bind_is o (λ y. Some (f y.0, y.1)) (x, rest) e
