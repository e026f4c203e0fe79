-- The kinds in words, those of the topmost operands held separately.
use Rattle.std.proofs.Common.{ℕ, zero, suc, ◌≡◌, ◌+◌, ◌-◌, ◌*◌, ◌/◌, ◌%◌, ◌^◌, ◌<◌, ◌≤◌, List, [], ◌∷◌, ◌++◌, length, take, drop, get_or, sym, refl, ap, ◌∙◌, arith}
use Rattle.std.proofs.lemmas.List.{append-nil, append_assoc, drop_all, drop-append-le, drop-drop, length-append}
use Rattle.std.proofs.Math.Seq.{drop-append-add}
use Rattle.std.proofs.lemmas.Nat.{shr-shr, mod-pow-add}
use Rattle.wm_stacks.specs.declared.words.Kind.{Kind}
use Rattle.wm_stacks.specs.declared.words.Kind.TheVariants.{I32, I64, Unknown, Float}
use Rattle.wm_stacks.specs.exact.Words.{code_of, kind_of_code, kinds_in, kinds_of_word, kinds_under}

pub decoded : (e : Kind) → kind_of_code (code_of e) ≡ e
decoded I32 = refl
decoded I64 = refl
decoded Unknown = refl
decoded Float = refl

length-word : (n w : ℕ) → length (kinds_of_word n w) ≡ n
length-word zero w = refl
length-word (suc n) w = ap suc (length-word n (w / 4))

length-under : (ws : List ℕ) → length (kinds_under ws) ≡ 32 * length ws
length-under [] = refl
length-under (w ∷ ws) =
    omega (arith, length-append (kinds_under ws) (kinds_of_word 32 w), length-under ws, length-word 32 w)

pub length-standing : (ws : List ℕ) (c n : ℕ) → length (kinds_in ws c n) ≡ n + 32 * length ws
length-standing ws c n = omega (arith, length-append (kinds_of_word n c) (kinds_under ws), length-under ws, length-word n c)

-- A word that loses its highest bits keeps its lowest kinds.
cut_word : (n m w : ℕ) → n ≤ m → kinds_of_word n (w % 2 ^ (2 * m)) ≡ kinds_of_word n w
cut_word zero m w h = refl
cut_word (suc n) zero w h = absurd (omega (arith, h))
cut_word (suc n) (suc m) w h =
    let k : 2 * suc m ≡ 2 * m + 2 = omega arith in
    let split : w % 2 ^ (2 * suc m) ≡ (w / 4 % 2 ^ (2 * m)) * 4 + w % 4 = ap (λ i. w % 2 ^ i) k ∙ mod-pow-add w (2 * m) 2 in
    let low : w % 2 ^ (2 * suc m) % 4 ≡ w % 4 = omega (arith, split) in
    let high : w % 2 ^ (2 * suc m) / 4 ≡ w / 4 % 2 ^ (2 * m) = omega (arith, split) in
    ap (λ d. kind_of_code d ∷ kinds_of_word n (w % 2 ^ (2 * suc m) / 4)) low
    ∙ ap (λ v. kind_of_code (w % 4) ∷ kinds_of_word n v) high
    ∙ ap (λ ks. kind_of_code (w % 4) ∷ ks) (cut_word n m (w / 4) (omega (arith, h)))

-- one operand more, in the lowest place
pub pushed_standing : (ws : List ℕ) (c v n : ℕ) (e : Kind) → n ≤ 31 → v % 4 ≡ code_of e → v / 4 ≡ c % 2 ^ 62
    → kinds_in ws v (n + 1) ≡ e ∷ kinds_in ws c n
pushed_standing ws c v n e h there others =
    let k : n + 1 ≡ suc n = omega arith in
    ap (λ i. kinds_in ws v i) k
    ∙ ap (λ x. x ∷ (kinds_of_word n (v / 4) ++ kinds_under ws)) (ap kind_of_code there ∙ decoded e)
    ∙ ap (λ w. e ∷ (kinds_of_word n w ++ kinds_under ws)) others
    ∙ ap (λ ks. e ∷ (ks ++ kinds_under ws)) (cut_word n 31 c h)

-- the top operand, and those under it
pub split_standing : (ws : List ℕ) (c n : ℕ) → 0 < n → kinds_in ws c n ≡ kind_of_code (c % 4) ∷ kinds_in ws (c / 4) (n - 1)
split_standing ws c zero h = absurd (omega (arith, h))
split_standing ws c (suc n) h = let e : n ≡ suc n - 1 = omega arith in ap (λ k. kind_of_code (c % 4) ∷ kinds_in ws (c / 4) k) e

drop-word : (k n w : ℕ) → drop k (kinds_of_word n w) ≡ kinds_of_word (n - k) (w / 2 ^ (2 * k))
drop-word zero n w =
    let a : n ≡ n - 0 = omega arith in
    let b : w ≡ w / 1 = omega arith in
    ap (λ i. kinds_of_word i w) a ∙ ap (kinds_of_word (n - 0)) b
drop-word (suc k) zero w = let e : 0 ≡ 0 - suc k = omega arith in ap (λ i. kinds_of_word i (w / 2 ^ (2 * suc k))) e
drop-word (suc k) (suc n) w =
    let e : n - k ≡ suc n - suc k = omega arith in
    let i : 2 + 2 * k ≡ 2 * suc k = omega arith in
    drop-word k n (w / 4) ∙ ap (kinds_of_word (n - k)) (shr-shr w 2 (2 * k) ∙ ap (λ j. w / 2 ^ j) i)
    ∙ ap (λ j. kinds_of_word j (w / 2 ^ (2 * suc k))) e

-- Some operands of the current word are removed.
pub dropped_standing : (ws : List ℕ) (c n k : ℕ) → k ≤ n → drop k (kinds_in ws c n) ≡ kinds_in ws (c / 2 ^ (2 * k)) (n - k)
dropped_standing ws c n k h =
    drop-append-le k (kinds_of_word n c) (kinds_under ws) (omega (arith, length-word n c, h))
    ∙ ap (λ ks. ks ++ kinds_under ws) (drop-word k n c)

-- The full current word goes on the list, and another begins.
pub kept_word : (ws : List ℕ) → (c v : ℕ) → kinds_in (ws ++ c ∷ []) v 0 ≡ kinds_in ws c 32
kept_word [] c v = refl
kept_word (w ∷ ws) c v =
    ap (λ ks. ks ++ kinds_of_word 32 w) (kept_word ws c v)
    ∙ append_assoc (kinds_of_word 32 c) (kinds_under ws) (kinds_of_word 32 w)

-- The word with this index becomes the current one, and those above it are removed.
back_to : (ws : List ℕ) (index : ℕ) → index < length ws
    → drop (32 * (length ws - index - 1)) (kinds_under ws) ≡ kinds_in (take index ws) (get_or ws index 0) 32
back_to [] index h = absurd (omega (arith, h))
back_to (w ∷ ws) zero h =
    let k : 32 * (suc (length ws) - 0 - 1) ≡ length (kinds_under ws) = omega (arith, length-under ws) in
    ap (λ n. drop n (kinds_under ws ++ kinds_of_word 32 w)) k
    ∙ drop-append-le (length (kinds_under ws)) (kinds_under ws) (kinds_of_word 32 w) (omega arith)
    ∙ ap (λ ks. ks ++ kinds_of_word 32 w) (drop_all (length (kinds_under ws)) (kinds_under ws) (omega arith))
    ∙ sym (append-nil (kinds_of_word 32 w))
back_to (w ∷ ws) (suc index) h =
    let k : 32 * (suc (length ws) - suc index - 1) ≡ 32 * (length ws - index - 1) = omega arith in
    let l : 32 * (length ws - index - 1) ≤ length (kinds_under ws) = omega (arith, length-under ws) in
    ap (λ n. drop n (kinds_under ws ++ kinds_of_word 32 w)) k
    ∙ drop-append-le (32 * (length ws - index - 1)) (kinds_under ws) (kinds_of_word 32 w) l
    ∙ ap (λ ks. ks ++ kinds_of_word 32 w) (back_to ws index (omega (arith, h)))
    ∙ append_assoc (kinds_of_word 32 (get_or ws index 0)) (kinds_under (take index ws)) (kinds_of_word 32 w)

-- Operands are removed, so that some of the word with this index are left.
pub back : (ws : List ℕ) (c n k index : ℕ) → index < length ws → k ≤ 32
    → drop (n + 32 * (length ws - index - 1) + k) (kinds_in ws c n) ≡ kinds_in (take index ws) (get_or ws index 0 / 2 ^ (2 * k)) (32 - k)
back ws c n k index h l =
    let m = 32 * (length ws - index - 1) in
    let under : drop (n + m) (kinds_in ws c n) ≡ drop m (kinds_under ws) =
    ap (λ i. drop (i + m) (kinds_in ws c n)) (sym (length-word n c)) ∙ drop-append-add (kinds_of_word n c) (kinds_under ws) m in
    sym (drop-drop k (n + m) (kinds_in ws c n))
    ∙ ap (drop k) (under ∙ back_to ws index h)
    ∙ dropped_standing (take index ws) (get_or ws index 0) 32 k l
