-- Identifiers are distinct if and only if each is new where it is appended.
use Rattle.std.proofs.Common.{◌≡◌, ℕ, zero, suc, ◌⊎◌, true, false, List, [], ◌∷◌, ◌++◌, length, Option, Some, None, refl, sym, ap, subst, ◌∙◌, inl, inr, arith, append_assoc}
use Rattle.std.specs.Prelude.{is_none, slice_get}
use Rattle.std.proofs.lemmas.Bool.{and_from, and_parts}
use Rattle.std.proofs.lemmas.List.{append-nil}
use Rattle.std.proofs.lemmas.Option.{slice_get_within}
use Rattle.wm_tokens.specs.Identifiers.{Id, Ids, AreDistinct}
use Rattle.wm_bodies.specs.exact.Reading.{place_of}
use Rattle.wm_read.specs.exact.Fields.{all_new}
use Rattle.wm_tokens.proofs.Basics.{same_some}
use Rattle.wm_bodies.proofs.Indices.{distinct_nearest, place_found, place_nearest}

-- the last one of a list, and those before it
get_last : (ids : Ids) (id : Id) (x : ℕ) (name : List ℕ) → slice_get (ids ++ id ∷ []) x ≡ Some (Some name)
    → (slice_get ids x ≡ Some (Some name)) ⊎ ((x ≡ length ids) × (id ≡ Some name))
get_last [] id zero name e = inr (refl, same_some id (Some name) e)
get_last [] id (suc x) name e = absurd cc
get_last (i ∷ ids) id zero name e = inl e
get_last (i ∷ ids) id (suc x) name e = elim (get_last ids id x name e) [
  | inl h ↦ inl h
  | inr h ↦ inr (ap suc h.0, h.1)
]

get_front : (ids more : Ids) (x : ℕ) (id : Id) → slice_get ids x ≡ Some id → slice_get (ids ++ more) x ≡ Some id
get_front [] more x id e = absurd cc
get_front (i ∷ ids) more zero id e = e
get_front (i ∷ ids) more (suc x) id e = get_front ids more x id e

get_seam : (ids more : Ids) (id : Id) → slice_get (ids ++ id ∷ more) (length ids) ≡ Some id
get_seam [] more id = refl
get_seam (i ∷ ids) more id = get_seam ids more id

-- an identifier with no place is none of the list's
absent : (ids : Ids) (name : List ℕ) (x : ℕ) → AreDistinct ids → is_none (place_of ids name) ≡ true → slice_get ids x ≡ Some (Some name) → ⊥
absent ids name x d none e = let f : false ≡ true = ap is_none (sym (place_nearest ids name x e (distinct_nearest ids name x d e))) ∙ none in cc

added : (ids : Ids) (id : Id) → AreDistinct ids → ((name : List ℕ) → id ≡ Some name → is_none (place_of ids name) ≡ true) → AreDistinct (ids ++ id ∷ [])
added ids id d new name x y e g = by (get_last ids id x name e) (get_last ids id y name g)
  where
    by : (slice_get ids x ≡ Some (Some name)) ⊎ ((x ≡ length ids) × (id ≡ Some name)) → (slice_get ids y ≡ Some (Some name)) ⊎ ((y ≡ length ids) × (id ≡ Some name)) → x ≡ y
    by (inl a) (inl b) = d name x y a b
    by (inl a) (inr b) = absurd (absent ids name x d (new name b.1) a)
    by (inr a) (inl b) = absurd (absent ids name y d (new name a.1) b)
    by (inr a) (inr b) = a.0 ∙ sym b.0

pub new_distinct : (seen ids : Ids) → AreDistinct seen → all_new seen ids ≡ true → AreDistinct (seen ++ ids)
new_distinct seen [] d h = subst AreDistinct (sym (append-nil seen)) d
new_distinct seen (None ∷ ids) d h =
    subst AreDistinct (append_assoc seen (None ∷ []) ids)
    (new_distinct (seen ++ None ∷ []) ids (added seen None d (λ name e. let f : ◌≡◌ {A = Id} None (Some name) = e in cc)) h)
new_distinct seen (Some a ∷ ids) d h =
    let p = and_parts (is_none (place_of seen a)) (all_new (seen ++ Some a ∷ []) ids) h in
    subst AreDistinct (append_assoc seen (Some a ∷ []) ids)
    (new_distinct (seen ++ Some a ∷ []) ids (added seen (Some a) d (λ name e. ap (λ (z : List ℕ). is_none (place_of seen z)) (sym (same_some a name e)) ∙ p.0)) p.1)

pub distinct_new : (seen ids : Ids) → AreDistinct (seen ++ ids) → all_new seen ids ≡ true
distinct_new seen [] d = refl
distinct_new seen (None ∷ ids) d = distinct_new (seen ++ None ∷ []) ids (subst AreDistinct (sym (append_assoc seen (None ∷ []) ids)) d)
distinct_new seen (Some a ∷ ids) d =
    and_from (is_none (place_of seen a)) (all_new (seen ++ Some a ∷ []) ids) (by (place_of seen a) refl)
    (distinct_new (seen ++ Some a ∷ []) ids (subst AreDistinct (sym (append_assoc seen (Some a ∷ []) ids)) d))
  where
    by : (o : Option ℕ) → place_of seen a ≡ o → is_none o ≡ true
    by None e = refl
    by (Some x) e =
        let at = place_found seen a x e in
        let same : x ≡ length seen = d a x (length seen) (get_front seen (Some a ∷ ids) x (Some a) at) (get_seam seen ids (Some a)) in
        absurd (omega (arith, same, slice_get_within seen x (Some a) at))

none_distinct : AreDistinct []
none_distinct name x y e g = absurd (let f : ◌≡◌ {A = Option Id} None (Some (Some name)) = e in cc)

pub are_distinct : (ids : Ids) → all_new [] ids ≡ true → AreDistinct ids
are_distinct ids h = new_distinct [] ids none_distinct h
