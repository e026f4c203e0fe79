-- The search for a word among the sorted names.
use Rattle.std.proofs.Common.{◌≡◌, ℕ, zero, suc, ◌<◌, ◌≤◌, ◌+◌, Bool, true, false, ◌&&◌, cond, List, [], ◌∷◌, length, Option, Some, None as Nothing, refl, sym, ap, subst, ◌∙◌, inl, inr, arith, get_or, slice_get}
use Rattle.std.specs.Prelude.{map}
use Rattle.std.specs.List.{list_all, list_any}
use Rattle.std.specs.Ordering.{nat_cmp, is_lt, ordering_then, ordering_reverse}
use Rattle.std.specs.declared.cmp.Ordering.{Ordering}
use Rattle.std.specs.declared.cmp.Ordering.TheVariants.{Less, Equal, Greater}
use Rattle.std.specs.Cmp.Lexicographic.{slice_cmp}
use Rattle.std.proofs.lemmas.Cmp.{nat_list_cmp_total, tied_itself}
use Rattle.std.proofs.lemmas.Bool.{and_parts, or_cases, ltb-true, ltb-false}
use Rattle.wm_syntax.specs.declared.instructions.op_class.OpClass.{OpClass}
use Rattle.wm_syntax.specs.declared.instructions.op_class.OpClass.TheVariants.{None}
use Rattle.wm_syntax.specs.declared.profile.Profile.{Profile}
use Rattle.wm_syntax.specs.exact.ByteTable.{classes, class_in, row_in, class_under}
use Rattle.wm_syntax.specs.exact.NameTable.{names, by_name, class_name, first_named, class_named}
use Rattle.std.proofs.lemmas.Bool.{eqb-true}
use Rattle.std.specs.Prelude.{nat_lt, ◌==◌}
use Rattle.std.specs.Str.{bytes_eq}
use Rattle.std.proofs.lemmas.Slice.Eq.{bytes_eq-Decides}
use Rattle.wm_syntax.proofs.NamedOps.{chosen, first_has}

same_some : {A : Type 0} (x y : A) → ◌≡◌ {A = Option A} (Some x) (Some y) → x ≡ y
same_some x y e = cc

-- The name at this index.
abbrev pub at_rank : ℕ → List ℕ
at_rank i = get_or names (get_or by_name i 0) []

abbrev pub Below : List ℕ → ℕ → Type 0
Below w low = (i : ℕ) → i < low → slice_cmp nat_cmp (at_rank i) w ≡ Less

abbrev pub Above : List ℕ → ℕ → Type 0
Above w high = (i : ℕ) → high ≤ i → i < 192 → slice_cmp nat_cmp (at_rank i) w ≡ Greater

-- All names are in rising order.
sorted : List (List ℕ) → Bool
sorted [] = true
sorted (x ∷ xs) = list_all (λ y. is_lt (slice_cmp nat_cmp x y)) xs && sorted xs

ordered : List (List ℕ)
ordered = map (λ b. get_or names b []) by_name

is_sorted : sorted ordered ≡ true
unfolding sorted ordered
is_sorted = refl

all_get : {X : Type 0} (t : X → Bool) (xs : List X) (i : ℕ) (d : X) → list_all t xs ≡ true → i < length xs → t (get_or xs i d) ≡ true
all_get t [] i d h lt = absurd (omega (arith, lt))
all_get t (x ∷ xs) zero d h lt = (and_parts (t x) (list_all t xs) h).0
all_get t (x ∷ xs) (suc i) d h lt = all_get t xs i d (and_parts (t x) (list_all t xs) h).1 (omega (arith, lt))

is_less : (o : Ordering) → is_lt o ≡ true → o ≡ Less
is_less Less h = refl
is_less Equal h = cc
is_less Greater h = cc

sorted_at : (xs : List (List ℕ)) (i j : ℕ) → sorted xs ≡ true → i < j → j < length xs → slice_cmp nat_cmp (get_or xs i []) (get_or xs j []) ≡ Less
unfolding sorted
sorted_at [] i j h lt le = absurd (omega (arith, le))
sorted_at (x ∷ xs) i zero h lt le = absurd (omega (arith, lt))
sorted_at (x ∷ xs) zero (suc j) h lt le = is_less _ (all_get (λ y. is_lt (slice_cmp nat_cmp x y)) xs j [] (and_parts (list_all (λ y. is_lt (slice_cmp nat_cmp x y)) xs) (sorted xs) h).0 (omega (arith, le)))
sorted_at (x ∷ xs) (suc i) (suc j) h lt le = sorted_at xs i j (and_parts (list_all (λ y. is_lt (slice_cmp nat_cmp x y)) xs) (sorted xs) h).1 (omega (arith, lt)) (omega (arith, le))

map_get : {B : Type 0} (f : ℕ → B) (xs : List ℕ) (i : ℕ) (d : B) → i < length xs → get_or (map f xs) i d ≡ f (get_or xs i 0)
map_get f [] i d lt = absurd (omega (arith, lt))
map_get f (x ∷ xs) zero d lt = refl
map_get f (x ∷ xs) (suc i) d lt = map_get f xs i d (omega (arith, lt))

in_order : (i : ℕ) → i < 192 → get_or ordered i [] ≡ at_rank i
unfolding ordered
in_order i lt = map_get (λ b. get_or names b []) by_name i [] lt

ordered_long : length ordered ≡ 192
unfolding ordered
ordered_long = refl

rising : (i j : ℕ) → i < j → j < 192 → slice_cmp nat_cmp (at_rank i) (at_rank j) ≡ Less
rising i j lt le =
    let ilt : i < 192 = omega arith in
    subst (λ (z : List ℕ). slice_cmp nat_cmp z (at_rank j) ≡ Less) (in_order i ilt)
    (subst (λ (z : List ℕ). slice_cmp nat_cmp (get_or ordered i []) z ≡ Less) (in_order j le) (sorted_at ordered i j is_sorted lt (omega (arith, le, ordered_long))))

pub below_more : (w : List ℕ) (middle : ℕ) → middle < 192 → slice_cmp nat_cmp (at_rank middle) w ≡ Less → Below w (middle + 1)
below_more w middle lt e i il = elim (chosen (nat_lt i middle) true false _ refl) [
  | inl p ↦ nat_list_cmp_total.trans (at_rank i) (at_rank middle) w (rising i middle (ltb-true i middle p.0) lt) e
  | inr p ↦ (let same : i ≡ middle = (let ge : middle ≤ i = ltb-false i middle p.0 in omega arith) in subst (λ (k : ℕ). slice_cmp nat_cmp (at_rank k) w ≡ Less) (sym same) e)
]

pub above_more : (w : List ℕ) (middle : ℕ) → middle < 192 → slice_cmp nat_cmp (at_rank middle) w ≡ Greater → Above w middle
above_more w middle lt e i ge il = elim (chosen (nat_lt middle i) true false _ refl) [
  | inl p ↦ (
      let back : slice_cmp nat_cmp w (at_rank middle) ≡ Less = nat_list_cmp_total.antisymm w (at_rank middle) ∙ ap ordering_reverse e in
      nat_list_cmp_total.antisymm (at_rank i) w ∙ ap ordering_reverse (nat_list_cmp_total.trans w (at_rank middle) (at_rank i) back (rising middle i (ltb-true middle i p.0) il)))
  | inr p ↦ (let same : i ≡ middle = (let le : i ≤ middle = ltb-false middle i p.0 in omega arith) in subst (λ (k : ℕ). slice_cmp nat_cmp (at_rank k) w ≡ Greater) (sym same) e)
]

equal_numbers : (x y : ℕ) (o : Ordering) → ordering_then (nat_cmp x y) o ≡ Equal → (x ≡ y) × (o ≡ Equal)
equal_numbers x y o e = elim (chosen (nat_lt x y) Less (cond (x == y) Equal Greater) _ refl) [
  | inl p ↦ absurd (let f : Less ≡ Equal = ap (λ (z : Ordering). ordering_then z o) p.1 ∙ e in cc)
  | inr p ↦ elim (chosen (x == y) Equal Greater _ refl) [
    | inl q ↦ (eqb-true x y q.0, ap (λ (z : Ordering). ordering_then z o) (q.1 ∙ p.1) ∙ e)
    | inr q ↦ absurd (let f : Greater ≡ Equal = ap (λ (z : Ordering). ordering_then z o) (q.1 ∙ p.1) ∙ e in cc)
  ]
]

equal_lists : (xs ys : List ℕ) → slice_cmp nat_cmp xs ys ≡ Equal → xs ≡ ys
equal_lists [] [] e = refl
equal_lists [] (y ∷ ys) e = cc
equal_lists (x ∷ xs) [] e = cc
equal_lists (x ∷ xs) (y ∷ ys) e = let g = equal_numbers x y (slice_cmp nat_cmp xs ys) e in ap (λ (z : ℕ). z ∷ xs) g.0 ∙ ap (λ (z : List ℕ). y ∷ z) (equal_lists xs ys g.1)

-- The class at each index is that of its name.
rows : map (λ b. slice_get classes b) by_name ≡ map (λ b. Some (first_named classes (get_or names b []))) by_name
rows = refl

row_at : (i : ℕ) → i < 192 → slice_get classes (get_or by_name i 0) ≡ Some (first_named classes (at_rank i))
row_at i lt =
    sym (map_get (λ b. slice_get classes b) by_name i Nothing lt) ∙ ap (λ (z : List (Option OpClass)). get_or z i Nothing) rows
    ∙ map_get (λ b. Some (first_named classes (get_or names b []))) by_name i Nothing lt

pub search_found : (p : Profile) (w : List ℕ) (middle : ℕ) → middle < 192 → slice_cmp nat_cmp (at_rank middle) w ≡ Equal → class_under p (get_or by_name middle 0) ≡ class_named p w
unfolding class_under class_named
search_found p w middle lt e = ap (row_in p) (row_at middle lt) ∙ ap (λ (z : List ℕ). class_in p (first_named classes z)) (equal_lists (at_rank middle) w e)

-- Each name of the table has an index.
listed : OpClass → Bool
listed c = elim (class_name c) [ Nothing ↦ true | Some name ↦ list_any (λ n. bytes_eq n name) ordered ]

all_listed : list_all listed classes ≡ true
unfolding listed ordered
all_listed = refl

get_all : (xs : List OpClass) (i : ℕ) (c : OpClass) → list_all listed xs ≡ true → slice_get xs i ≡ Some c → listed c ≡ true
get_all [] i c h e = cc
get_all (x ∷ xs) zero c h e = ap listed (sym (same_some x c e)) ∙ (and_parts (listed x) (list_all listed xs) h).0
get_all (x ∷ xs) (suc i) c h e = get_all xs i c (and_parts (listed x) (list_all listed xs) h).1 e

any_get : (xs : List (List ℕ)) (w : List ℕ) → list_any (λ n. bytes_eq n w) xs ≡ true → (i : ℕ) × (i < length xs) × (get_or xs i [] ≡ w)
any_get [] w h = absurd (let f : false ≡ true = h in cc)
any_get (x ∷ xs) w h = elim (or_cases (bytes_eq x w) (list_any (λ n. bytes_eq n w) xs) h) [
  | inl p ↦ (0, omega arith, (bytes_eq-Decides x w).0 p)
  | inr p ↦ (let g = any_get xs w p in (suc g.0, omega (arith, g.1), g.2))
]

ranked : (c : OpClass) (w : List ℕ) → listed c ≡ true → class_name c ≡ Some w → (i : ℕ) × (i < 192) × (at_rank i ≡ w)
unfolding listed
ranked c w h e =
    let g = any_get ordered w (ap (λ (o : Option (List ℕ)). elim o as (λ _. Bool) [ Nothing ↦ true | Some name ↦ list_any (λ n. bytes_eq n name) ordered ]) (sym e) ∙ h) in
    let lt : g.0 < 192 = omega (arith, g.1, ordered_long) in (g.0, lt, sym (in_order g.0 lt) ∙ g.2)

none_within : (p : Profile) → class_in p None ≡ None
none_within p = refl

pub search_none : (p : Profile) (w : List ℕ) (low high : ℕ) → Below w low → Above w high → high ≤ low → None ≡ class_named p w
unfolding class_named
search_none p w low high below above le = elim (first_has classes w) [
  | inl n ↦ sym (ap (class_in p) n ∙ none_within p)
  | inr m ↦ absurd (apart (ranked (first_named classes w) w (get_all classes m.0 (first_named classes w) all_listed m.1) m.2))
]
  where
    apart : (i : ℕ) × (i < 192) × (at_rank i ≡ w) → ⊥
    apart (i, lt, e) =
        let tied : slice_cmp nat_cmp (at_rank i) w ≡ Equal = ap (λ (z : List ℕ). slice_cmp nat_cmp z w) e ∙ tied_itself nat_list_cmp_total w in
        elim (chosen (nat_lt i low) true false _ refl) [
          | inl p ↦ (let f : Less ≡ Equal = sym (below i (ltb-true i low p.0)) ∙ tied in cc)
          | inr p ↦ (let ge : low ≤ i = ltb-false i low p.0 in let f : Greater ≡ Equal = sym (above i (omega arith) lt) ∙ tied in cc)
        ]

pub ruleset search_laws = (below_more, above_more, search_found, search_none)

-- The comparison that the code made.
pub compared : (w name : List ℕ) (byte middle : ℕ) (r o : Ordering) → byte ≡ get_or by_name middle 0 → name ≡ get_or names byte [] → r ≡ slice_cmp nat_cmp name w → r ≡ o → slice_cmp nat_cmp (at_rank middle) w ≡ o
compared w name byte middle r o b n e s = ap (λ (z : List ℕ). slice_cmp nat_cmp z w) (sym (n ∙ ap (λ (z : ℕ). get_or names z []) b)) ∙ sym e ∙ s
