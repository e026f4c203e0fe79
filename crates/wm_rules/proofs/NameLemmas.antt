-- A set of names with their hashes is the list of their bytes in order.
use Rattle.std.proofs.Common.{◌≡◌, ℕ, Bool, true, false, not, List, [], ◌∷◌, map, Ok, Err, refl, ap, sym, ◌∙◌, ◌||◌}
use Rattle.std.specs.declared.cmp.Ordering.{Ordering}
use Rattle.std.specs.declared.cmp.Ordering.TheVariants.{Less, Equal, Greater}
use Rattle.std.specs.BTreeSet.{BTreeSet, contains, insert_key}
use Rattle.std.specs.BTreeMap.{is_at}
use Rattle.std.specs.Cmp.{nat_cmp_total, tied_itself}
use Rattle.std.specs.Cmp.Lexicographic.{slice_cmp, nat_list_cmp_total}
use Rattle.std.specs.List.{list_any}
use Rattle.std.specs.Ordering.{is_eq, match_ordering, nat_cmp, ordering_reverse, ordering_then}
use Rattle.std.specs.Str.{bytes_eq}
use Rattle.std.proofs.lemmas.Map.Text.{is_eq-slice_cmp}
use Rattle.std.proofs.lemmas.Slice.Eq.{bytes_eq-Decides}
use Rattle.wm_rules.specs.declared.export_names.HashedName.{HashedName}
use Rattle.wm_rules.specs.exact.Checking.{is_taken, names_with, put_name}
use Rattle.wm_rules.specs.exact.Names.{AreHashed, hash_of, in_order}
use Rattle.wm_rules.proofs.NewNames.{taken_put}
use Rattle.wm_syntax.specs.declared.why.Why.TheVariants.{DuplicateExport}

not_true : {b : Bool} → not b ≡ true → b ≡ false
not_true {b = true} e = cc
not_true {b = false} e = refl

not_false : {b : Bool} → not b ≡ false → b ≡ true
not_false {b = true} e = refl
not_false {b = false} e = cc

-- The order of the bytes.
abbrev order : List ℕ → List ℕ → Ordering
order x y = slice_cmp nat_cmp x y

back : (x y : List ℕ) (o : Ordering) → order x y ≡ o → order y x ≡ ordering_reverse o
back x y o e = nat_list_cmp_total.antisymm y x ∙ ap ordering_reverse e

equal : (x y : List ℕ) → order x y ≡ Equal → x ≡ y
equal x y e = (bytes_eq-Decides x y).0 (sym (is_eq-slice_cmp x y) ∙ ap is_eq e)

itself : (x : List ℕ) → order x x ≡ Equal
itself x = tied_itself nat_list_cmp_total x

-- Where a name goes before a name, is it, or goes behind it.
put_less : (x z : List ℕ) (zs : List (List ℕ)) → order x z ≡ Less → put_name x (z ∷ zs) ≡ x ∷ z ∷ zs
put_less x z zs e = rw e refl

put_equal : (x z : List ℕ) (zs : List (List ℕ)) → order x z ≡ Equal → put_name x (z ∷ zs) ≡ z ∷ zs
put_equal x z zs e = rw e refl

put_more : (x z : List ℕ) (zs : List (List ℕ)) → order x z ≡ Greater → put_name x (z ∷ zs) ≡ z ∷ put_name x zs
put_more x z zs e = rw e refl

-- A name below both that may be the first: it goes before them.
put_first : (x y z : List ℕ) (zs : List (List ℕ)) → order x y ≡ Less → order x z ≡ Less → put_name x (put_name y (z ∷ zs)) ≡ x ∷ put_name y (z ∷ zs)
put_first x y z zs xy xz = go (order y z) refl
  where
    go : (o : Ordering) → order y z ≡ o → put_name x (put_name y (z ∷ zs)) ≡ x ∷ put_name y (z ∷ zs)
    go Less e = ap (put_name x) (put_less y z zs e) ∙ put_less x y (z ∷ zs) xy ∙ ap (λ ns. x ∷ ns) (sym (put_less y z zs e))
    go Equal e = ap (put_name x) (put_equal y z zs e) ∙ put_less x z zs xz ∙ ap (λ ns. x ∷ ns) (sym (put_equal y z zs e))
    go Greater e = ap (put_name x) (put_more y z zs e) ∙ put_less x z (put_name y zs) xz ∙ ap (λ ns. x ∷ ns) (sym (put_more y z zs e))

-- Two names may be put in either order.
swap_less : (x y : List ℕ) (zs : List (List ℕ)) → order x y ≡ Less → put_name x (put_name y zs) ≡ put_name y (put_name x zs)
swap_less x y [] e = put_less x y [] e ∙ sym (put_more y x [] (back x y Less e))
swap_less x y (z ∷ zs) e = go (order x z) refl (swap_less x y zs e)
  where
    above : order y x ≡ Greater
    above = back x y Less e

    go : (o : Ordering) → order x z ≡ o → put_name x (put_name y zs) ≡ put_name y (put_name x zs) → put_name x (put_name y (z ∷ zs)) ≡ put_name y (put_name x (z ∷ zs))
    go Less f next = put_first x y z zs e f ∙ sym (ap (put_name y) (put_less x z zs f) ∙ put_more y x (z ∷ zs) above)
    go Equal f next =
        let same : x ≡ z = equal x z f in
        let more : order y z ≡ Greater = ap (λ w. order y w) (sym same) ∙ above in
        ap (put_name x) (put_more y z zs more) ∙ put_equal x z (put_name y zs) f
        ∙ sym (ap (put_name y) (put_equal x z zs f) ∙ put_more y z zs more)
    go Greater f next =
        let less : order z y ≡ Less = nat_list_cmp_total.trans z x y (back x z Greater f) e in
        let more : order y z ≡ Greater = back z y Less less in
        ap (put_name x) (put_more y z zs more) ∙ put_more x z (put_name y zs) f ∙ ap (λ ns. z ∷ ns) next
        ∙ sym (ap (put_name y) (put_more x z zs f) ∙ put_more y z (put_name x zs) more)

-- A name that is put twice is put once.
twice : (x : List ℕ) (zs : List (List ℕ)) → put_name x (put_name x zs) ≡ put_name x zs
twice x [] = put_equal x x [] (itself x)
twice x (z ∷ zs) = go (order x z) refl (twice x zs)
  where
    go : (o : Ordering) → order x z ≡ o → put_name x (put_name x zs) ≡ put_name x zs → put_name x (put_name x (z ∷ zs)) ≡ put_name x (z ∷ zs)
    go Less e next = ap (put_name x) (put_less x z zs e) ∙ put_equal x x (z ∷ zs) (itself x) ∙ sym (put_less x z zs e)
    go Equal e next = ap (put_name x) (put_equal x z zs e)
    go Greater e next = ap (put_name x) (put_more x z zs e) ∙ put_more x z (put_name x zs) e ∙ ap (λ ns. z ∷ ns) next ∙ sym (put_more x z zs e)

swap : (x y : List ℕ) (zs : List (List ℕ)) → put_name x (put_name y zs) ≡ put_name y (put_name x zs)
swap x y zs = go (order x y) refl
  where
    go : (o : Ordering) → order x y ≡ o → put_name x (put_name y zs) ≡ put_name y (put_name x zs)
    go Less e = swap_less x y zs e
    go Equal e = ap (λ w. put_name x (put_name w zs)) (sym (equal x y e)) ∙ ap (λ w. put_name w (put_name x zs)) (equal x y e)
    go Greater e = sym (swap_less y x zs (back x y Greater e))

-- The order of the set: by hash, and then by bytes.
abbrev pub hashed_cmp : HashedName → HashedName → Ordering
hashed_cmp a b = ordering_then (nat_cmp a.hash b.hash) (slice_cmp nat_cmp a.name.items b.name.items)

abbrev bytes : HashedName → List ℕ
bytes k = k.name.items

then_equal : (o p : Ordering) → ordering_then o p ≡ Equal → p ≡ Equal
then_equal Less p e = absurd (cc)
then_equal Equal p e = e
then_equal Greater p e = absurd (cc)

pub put_hashed : (ks : List HashedName) (k : HashedName) → in_order (map bytes (insert_key hashed_cmp ks k)) ≡ put_name (bytes k) (in_order (map bytes ks))
put_hashed [] k = refl
put_hashed (x ∷ xs) k = go (hashed_cmp k x) refl (put_hashed xs k)
  where
    go : (o : Ordering) → hashed_cmp k x ≡ o → in_order (map bytes (insert_key hashed_cmp xs k)) ≡ put_name (bytes k) (in_order (map bytes xs))
        → in_order (map bytes (match_ordering o (k ∷ x ∷ xs) (x ∷ xs) (x ∷ insert_key hashed_cmp xs k))) ≡ put_name (bytes k) (put_name (bytes x) (in_order (map bytes xs)))
    go Less e next = refl
    go Equal e next =
        let same : bytes k ≡ bytes x = equal (bytes k) (bytes x) (then_equal (nat_cmp k.hash x.hash) _ e) in
        sym (twice (bytes x) (in_order (map bytes xs))) ∙ ap (λ w. put_name w (put_name (bytes x) (in_order (map bytes xs)))) (sym same)
    go Greater e next = ap (put_name (bytes x)) next ∙ swap (bytes x) (bytes k) (in_order (map bytes xs))

-- Two names that have their hashes are one where their bytes are.
then_other : (o p : Ordering) → is_eq p ≡ false → is_eq (ordering_then o p) ≡ false
then_other Less p e = refl
then_other Equal p e = e
then_other Greater p e = refl

same_key : (h i : ℕ) (a b : List ℕ) → (a ≡ b → h ≡ i) → is_eq (ordering_then (nat_cmp h i) (slice_cmp nat_cmp a b)) ≡ bytes_eq a b
same_key h i a b f = go (bytes_eq a b) refl
  where
    go : (c : Bool) → bytes_eq a b ≡ c → is_eq (ordering_then (nat_cmp h i) (slice_cmp nat_cmp a b)) ≡ bytes_eq a b
    go true e =
        let hashes : h ≡ i = f ((bytes_eq-Decides a b).0 e) in
        let tied : nat_cmp h i ≡ Equal = ap (λ n. nat_cmp n i) hashes ∙ tied_itself nat_cmp_total i in
        ap (λ o. is_eq (ordering_then o (slice_cmp nat_cmp a b))) tied ∙ is_eq-slice_cmp a b
    go false e = then_other (nat_cmp h i) (slice_cmp nat_cmp a b) (is_eq-slice_cmp a b ∙ e) ∙ sym e

pub taken_hashed : (ks : List HashedName) (k : HashedName) → k.hash ≡ hash_of (bytes k) → AreHashed ks → list_any (is_at (hashed_cmp k)) ks ≡ is_taken (bytes k) (in_order (map bytes ks))
taken_hashed [] k e h = refl
taken_hashed (x ∷ xs) k e h =
    ap (λ b. b || list_any (is_at (hashed_cmp k)) xs) (same_key k.hash x.hash (bytes k) (bytes x) (λ s. e ∙ ap hash_of s ∙ sym h.0))
    ∙ ap (λ b. bytes_eq (bytes k) (bytes x) || b) (taken_hashed xs k e h.1)
    ∙ sym (taken_put (bytes k) (bytes x) (in_order (map bytes xs)))

pub insert_hashed : (ks : List HashedName) (k : HashedName) → k.hash ≡ hash_of (bytes k) → AreHashed ks → AreHashed (insert_key hashed_cmp ks k)
insert_hashed [] k e h = (e, tt)
insert_hashed (x ∷ xs) k e h = go (hashed_cmp k x) (insert_hashed xs k e h.1)
  where
    go : (o : Ordering) → AreHashed (insert_key hashed_cmp xs k) → AreHashed (match_ordering o (k ∷ x ∷ xs) (x ∷ xs) (x ∷ insert_key hashed_cmp xs k))
    go Less next = (e, h)
    go Equal next = h
    go Greater next = (h.0, next)

pub added_new : (s : BTreeSet HashedName) (k : HashedName) (n : BTreeSet HashedName) → k.hash ≡ hash_of (bytes k) → AreHashed s.keys → not (contains hashed_cmp s k) ≡ true → n.keys ≡ insert_key hashed_cmp s.keys k
    → names_with (bytes k) (in_order (map bytes s.keys)) ≡ Ok (in_order (map bytes n.keys))
added_new s k n e h new keys =
    let free : is_taken (bytes k) (in_order (map bytes s.keys)) ≡ false = sym (taken_hashed s.keys k e h) ∙ not_true new in
    rw (free, keys) (ap Ok (sym (put_hashed s.keys k)))

pub added_known : (s : BTreeSet HashedName) (k : HashedName) → k.hash ≡ hash_of (bytes k) → AreHashed s.keys → not (contains hashed_cmp s k) ≡ false → names_with (bytes k) (in_order (map bytes s.keys)) ≡ Err DuplicateExport
added_known s k e h known =
    let has : is_taken (bytes k) (in_order (map bytes s.keys)) ≡ true = sym (taken_hashed s.keys k e h) ∙ not_false known in
    rw has refl
