-- Names are pairwise different if and only if each one is new after those before it.
use Rattle.std.proofs.Common.{min, ◌-◌, ◌^◌, subst, suc, ◌+◌, length, sum_by, cond, Ok, Err, arith, ℕ, ◌≡◌, ◌≢◌, List, [], ◌∷◌, Bool, true, false, ◌||◌, refl, sym, ◌∙◌, ap, ◌↔◌}
use Rattle.std.specs.declared.cmp.Ordering.{Ordering}
use Rattle.std.specs.declared.cmp.Ordering.TheVariants.{Less, Equal, Greater}
use Rattle.std.specs.Cmp.Lexicographic.{slice_cmp}
use Rattle.std.specs.List.{AllByRecursion}
use Rattle.std.specs.Ordering.{is_eq, match_ordering, nat_cmp}
use Rattle.std.specs.Str.{bytes_eq}
use Rattle.std.proofs.lemmas.Map.Text.{is_eq-slice_cmp}
use Rattle.std.proofs.lemmas.Slice.Eq.{bytes_eq-Decides}
use Rattle.std.proofs.lemmas.List.Sums.{sum_by-cons}
use Rattle.wm_syntax.specs.declared.why.Why.TheVariants.{DuplicateExport}
use Rattle.wm_rules.specs.exact.Checking.{is_taken, names_with, put_name}
use Rattle.wm_rules.specs.Kept.{capped_count, name_entries}
use Rattle.wm_rules.proofs.GoodValues.{AreDistinct}

or_swap : (a b c : Bool) → (a || (b || c)) ≡ (b || (a || c))
or_swap true true c = refl
or_swap true false c = refl
or_swap false true c = refl
or_swap false false c = refl

or_same : (a c : Bool) → (a || c) ≡ (a || (a || c))
or_same true c = refl
or_same false c = refl

-- a name is taken after another was put where it is that one, or was taken before
pub taken_put : (x y : List ℕ) (ys : List (List ℕ)) → is_taken x (put_name y ys) ≡ (bytes_eq x y || is_taken x ys)
taken_put x y [] = refl
taken_put x y (z ∷ zs) = go (taken_put x y zs) (slice_cmp nat_cmp y z) refl
  where
    equal : slice_cmp nat_cmp y z ≡ Equal → y ≡ z
    equal e = (bytes_eq-Decides y z).0 (sym (is_eq-slice_cmp y z) ∙ ap is_eq e)

    go : is_taken x (put_name y zs) ≡ (bytes_eq x y || is_taken x zs) → (o : Ordering) → slice_cmp nat_cmp y z ≡ o → is_taken x (match_ordering o (y ∷ z ∷ zs) (z ∷ zs) (z ∷ put_name y zs)) ≡ (bytes_eq x y || (bytes_eq x z || is_taken x zs))
    go next Less e = refl
    go next Equal e = or_same (bytes_eq x z) (is_taken x zs) ∙ ap (λ w. bytes_eq x w || (bytes_eq x z || is_taken x zs)) (sym (equal e))
    go next Greater e = ap (λ b. bytes_eq x z || b) next ∙ or_swap (bytes_eq x z) (bytes_eq x y) (is_taken x zs)

abbrev pub New : List (List ℕ) → List (List ℕ) → Type 0
New seen [] = Unit {0}
New seen (x ∷ xs) = (is_taken x seen ≡ false) × New (put_name x seen) xs

or_false : (a b : Bool) → (a || b) ≡ false → (a ≡ false) × (b ≡ false)
or_false true b e = absurd (cc)
or_false false b e = (refl, e)

both_false : (a b : Bool) → a ≡ false → b ≡ false → (a || b) ≡ false
both_false true b d e = absurd (cc)
both_false false b d e = e

differ : (x y : List ℕ) → bytes_eq x y ≡ false → y ≢ x
differ x y e s = let t : bytes_eq x y ≡ true = (bytes_eq-Decides x y).1 (sym s) in let no : true ≡ false = sym t ∙ e in absurd (cc)

not_equal : (x y : List ℕ) → y ≢ x → bytes_eq x y ≡ false
not_equal x y h = go (bytes_eq x y) refl
  where
    go : (b : Bool) → bytes_eq x y ≡ b → bytes_eq x y ≡ false
    go true e = absurd (h (sym ((bytes_eq-Decides x y).0 e)))
    go false e = e

abbrev Free : List (List ℕ) → List (List ℕ) → Type 0
Free seen xs = AllByRecursion (λ z. is_taken z seen ≡ false) xs

free_put : (y : List ℕ) (seen xs : List (List ℕ)) → Free (put_name y seen) xs ↔ (AllByRecursion (λ z. y ≢ z) xs × Free seen xs)
free_put y seen [] = ((λ h. (tt, tt)), (λ h. tt))
free_put y seen (z ∷ zs) = (
  (λ h. let p = or_false (bytes_eq z y) (is_taken z seen) (sym (taken_put z y seen) ∙ h.0) in
      let r = (free_put y seen zs).0 h.1 in ((differ z y p.0, r.0), (p.1, r.1))),
  (λ h. (taken_put z y seen ∙ both_false (bytes_eq z y) (is_taken z seen) (not_equal z y h.0.0) h.1.0, (free_put y seen zs).1 (h.0.1, h.1.1))),
)

new_to : (xs seen : List (List ℕ)) → New seen xs → AreDistinct xs × Free seen xs
new_to [] seen h = (tt, tt)
new_to (x ∷ xs) seen h = let r = new_to xs (put_name x seen) h.1 in let f = (free_put x seen xs).0 r.1 in ((f.0, r.0), (h.0, f.1))

new_from : (xs seen : List (List ℕ)) → AreDistinct xs → Free seen xs → New seen xs
new_from [] seen d h = tt
new_from (x ∷ xs) seen d h = (h.0, new_from xs (put_name x seen) d.1 ((free_put x seen xs).1 (d.0, h.1)))

none_taken : (xs : List (List ℕ)) → Free [] xs
none_taken [] = tt
none_taken (x ∷ xs) = (refl, none_taken xs)

pub distinct_new : (xs : List (List ℕ)) → New [] xs ↔ AreDistinct xs
distinct_new xs = ((λ h. (new_to xs [] h).0), (λ d. new_from xs [] d (none_taken xs)))

-- a new name adds itself and its bytes
put_count : (x : List ℕ) (ys : List (List ℕ)) → is_taken x ys ≡ false → (length (put_name x ys) ≡ suc (length ys)) × (sum_by length (put_name x ys) ≡ length x + sum_by length ys)
put_count x [] e = (refl, omega arith)
put_count x (z ∷ zs) e =
    let p = or_false (bytes_eq x z) (is_taken x zs) e in
    go (put_count x zs p.1) p.0 (slice_cmp nat_cmp x z) refl
  where
    go : (length (put_name x zs) ≡ suc (length zs)) × (sum_by length (put_name x zs) ≡ length x + sum_by length zs) → bytes_eq x z ≡ false → (o : Ordering) → slice_cmp nat_cmp x z ≡ o
        → (length (match_ordering o (x ∷ z ∷ zs) (z ∷ zs) (z ∷ put_name x zs)) ≡ suc (length (z ∷ zs)))
        × (sum_by length (match_ordering o (x ∷ z ∷ zs) (z ∷ zs) (z ∷ put_name x zs)) ≡ length x + sum_by length (z ∷ zs))
    go next apart Less c = (refl, sum_by-cons length x (z ∷ zs))
    go next apart Equal c = let t : true ≡ false = sym (ap is_eq c) ∙ (is_eq-slice_cmp x z ∙ apart) in absurd (cc)
    go next apart Greater c = (ap suc next.0, omega (arith, next.1, sum_by-cons length z (put_name x zs), sum_by-cons length z zs))

pub names_more : (x : List ℕ) (ys zs : List (List ℕ)) → names_with x ys ≡ Ok zs → name_entries zs ≡ name_entries ys + 1 + length x
names_more x ys zs e = go (is_taken x ys) refl e
  where
    go : (b : Bool) → is_taken x ys ≡ b → cond b (Err DuplicateExport) (Ok (put_name x ys)) ≡ Ok zs → name_entries zs ≡ name_entries ys + 1 + length x
    go true t e = absurd (cc)
    go false t e =
        let same : put_name x ys ≡ zs = cc in
        let n = put_count x ys t in
        subst (λ ns. name_entries ns ≡ name_entries ys + 1 + length x) same (omega (arith, n.0, n.1))

pub capped_more : (k a n s r : ℕ) → k ≡ capped_count a → n ≡ a + 1 + s → r ≡ min (min (k + 1) (2 ^ 64 - 1) + s) (2 ^ 64 - 1) → r ≡ capped_count n
capped_more k a n s r hk hn hr = omega arith
