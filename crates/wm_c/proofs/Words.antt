-- A word that is written behind another one: the buffer is as if both were written at once.
use Rattle.std.proofs.Common.{◌≡◌, ◌<◌, ◌≤◌, ◌+◌, ◌++◌, ◌∷◌, ℕ, List, [], length, take, drop, min, refl, sym, ap, subst, arith, append_assoc, length-append, ◌∙◌}
use Rattle.std.proofs.Math.Seq.{take-append_seam, drop-append_seam, take-append-add, drop-append-add, take-length}
use Rattle.std.proofs.lemmas.List.{take-append-drop, length-take-le, length-take, length-drop, take_all}
use Rattle.wm_c.specs.Names.{written}

-- the buffer has room for the whole word and the 0
whole : (front p q : List ℕ) (c : ℕ) → length p ≡ length front → written front (c ∷ (p ++ q)) ≡ front ++ (0 ∷ q)
whole front p q c e =
    let m : min (length front) (length (p ++ q)) ≡ length front = grind (arith, length-append) in
    let d : drop (length front) (p ++ q) ≡ q = subst (λ (n : ℕ). drop n (p ++ q) ≡ q) e (drop-append_seam p q) in
    rw (m, take-length front, d) refl

-- it has room for the first of two words
both : (front word p q : List ℕ) (c : ℕ) → length p ≡ length front
    → written (front ++ word) (c ∷ (p ++ q)) ≡ front ++ written word (0 ∷ q)
both front word p q c e =
    let m : min (length (front ++ word)) (length (p ++ q)) ≡ length front + min (length word) (length q) = grind (arith, length-append) in
    let d : drop (length front + min (length word) (length q)) (p ++ q) ≡ drop (min (length word) (length q)) q =
    subst (λ (n : ℕ). drop (n + min (length word) (length q)) (p ++ q) ≡ drop (min (length word) (length q)) q) e (drop-append-add p q (min (length word) (length q))) in
    rw (m, take-append-add front word (min (length word) (length q)), d) (append_assoc front (take (min (length word) (length q)) word) (0 ∷ drop (min (length word) (length q)) q))

first_of : (n : ℕ) (xs ys : List ℕ) → n ≡ length xs → take n (xs ++ ys) ≡ xs
first_of n xs ys e = rw e (take-append_seam xs ys)

rest_of : (n : ℕ) (xs ys : List ℕ) → n ≡ length xs → drop n (xs ++ ys) ≡ ys
rest_of n xs ys e = rw e (drop-append_seam xs ys)

length_written : (w b : List ℕ) → length (written w b) ≡ length b
length_written w [] = refl
length_written w (c ∷ more) = grind (arith, length-append, length-take, length-drop)

-- the same, for a buffer that was written
pub behind : (n k : ℕ) (front word before to rest : List ℕ) → n ≡ length front → to ≡ written front before → n < length to → length to ≤ n + k
    → rest ≡ written word (take k (drop n to)) → take n to ++ rest ≡ written (front ++ word) before
behind n k front word [] to rest e is fits all new = absurd (omega (arith, fits, ap length is))
behind n k front word (c ∷ more) to rest e is fits all new =
    let room : n ≤ length more = omega (arith, fits, ap length is, length_written front (c ∷ more)) in
    let cut : length (take n more) ≡ length front = length-take-le n more room ∙ e in
    let parts : take n more ++ drop n more ≡ more = take-append-drop n more in
    let before : to ≡ front ++ (0 ∷ drop n more) = subst (λ (m : List ℕ). to ≡ written front (c ∷ m)) (sym parts) is ∙ whole front (take n more) (drop n more) c cut in
    let first : take n to ≡ front = rw before (first_of n front (0 ∷ drop n more) e) in
    let left : drop n to ≡ 0 ∷ drop n more = rw before (rest_of n front (0 ∷ drop n more) e) in
    let last : take k (drop n to) ≡ 0 ∷ drop n more = rw left (take_all k (0 ∷ drop n more) (omega (arith, all, length-drop n more, ap length is, length_written front (c ∷ more)))) in
    subst (λ (m : List ℕ). take n to ++ rest ≡ written (front ++ word) (c ∷ m)) parts
    (rw (first, new, last) (sym (both front word (take n more) (drop n more) c cut)))
