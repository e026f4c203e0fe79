-- Indices: numbers, and identifiers with the item or label that they name.
use Rattle.std.proofs.Common.{◌≡◌, ℕ, zero, suc, ◌<◌, true, false, List, [], ◌∷◌, Option, Some, None, refl, sym, ap, subst, ◌∙◌, inl, inr, arith}
use Rattle.std.specs.Prelude.{◌==◌, ◌^◌, nat_lt, slice_get, ◌≢◌}
use Rattle.std.proofs.lemmas.Bool.{cond-true, cond-false, cond_both, eqb-true, eq-eqb, and_parts, and_from, ltb-true, lt-ltb, and_left, ne_eqb}
use Rattle.wm_tokens.specs.Tokens.{IsUnsigned, IsIdentifier}
use Rattle.wm_tokens.specs.exact.Scan.{magnitude_of}
use Rattle.wm_tokens.proofs.Basics.{chosen, same_some}
use Rattle.wm_tokens.proofs.Atoms.{magnitude_more, magnitude_found}
use Rattle.wm_tokens.specs.Written.{UnsignedNumber}
use Rattle.wm_tokens.specs.Identifiers.{Id, Ids, AreDistinct, IsIndex, IsLabel, Resolves, ResolvesLabel}
use Rattle.wm_bodies.specs.exact.Reading.{same_bytes, atom_at, unsigned_of, is_id, place_of, index_of}
use Rattle.wm_bodies.proofs.Readers.{Sound, Complete, Any, bind_ok, bind_is, same_is, is_same, atom_sound, atom_complete}

-- ---- numbers and identifiers are apart

pub number_not_id : (n : ℕ) (a : List ℕ) → magnitude_of a ≡ Some n → is_id a ≡ false
number_not_id n [] e = refl
number_not_id n (c ∷ a) e = and_left (c == 36) _ (ne_eqb c 36 (λ t. by a (ap (λ (x : ℕ). magnitude_of (x ∷ a)) (sym t) ∙ e)))
  where
    by : (a : List ℕ) → magnitude_of (36 ∷ a) ≡ Some n → ⊥
    by [] e = cc
    by (d ∷ a) e = cc

pub id_is : (a : List ℕ) → IsIdentifier a → is_id a ≡ true
id_is [] h = absurd h
id_is (c ∷ []) (e, h) = absurd (omega (arith, h))
id_is (c ∷ d ∷ a) (e, h) = and_from (c == 36) true (eq-eqb c 36 e) refl

pub is_identifier : (a : List ℕ) → is_id a ≡ true → IsIdentifier a
is_identifier [] h = absurd (let f : false ≡ true = h in cc)
is_identifier (c ∷ []) h = absurd (let p = and_parts (c == 36) false h in let f : false ≡ true = p.1 in cc)
is_identifier (c ∷ d ∷ a) h = let p = and_parts (c == 36) true h in (eqb-true c 36 p.0, omega arith)

pub unsigned_found : (a : List ℕ) (n : ℕ) → unsigned_of a ≡ Some n → IsUnsigned 32 n a
unsigned_found a n e =
    let g = bind_ok (magnitude_of a) _ n e in
    elim (chosen (nat_lt g.0 0x1_0000_0000) (Some g.0) None (Some n) g.2) [
      | inl p ↦ (let k : g.0 ≡ n = same_some g.0 n p.1 in (subst (λ (x : ℕ). x < 2 ^ 32) k (ltb-true g.0 0x1_0000_0000 p.0), magnitude_found n a (g.1 ∙ ap Some k)))
      | inr p ↦ absurd (let f : ◌≡◌ {A = Option ℕ} None (Some n) = p.1 in cc)
    ]

pub unsigned_more : (a : List ℕ) (n : ℕ) → IsUnsigned 32 n a → unsigned_of a ≡ Some n
unsigned_more a n (lt, h) = bind_is (magnitude_of a) _ n (magnitude_more n a h) ∙ cond-true (nat_lt n 0x1_0000_0000) _ _ (lt-ltb n 0x1_0000_0000 lt)

-- ---- the place of an identifier

pub place_found : (ids : Ids) (a : List ℕ) (x : ℕ) → place_of ids a ≡ Some x → slice_get ids x ≡ Some (Some a)
place_found [] a x e = absurd cc
place_found (None ∷ ids) a x e = let g = bind_ok (place_of ids a) (λ y. Some (suc y)) x e in ap (slice_get (None ∷ ids)) (sym (same_some (suc g.0) x g.2)) ∙ place_found ids a g.0 g.1
place_found (Some b ∷ ids) a x e = elim (chosen (same_bytes b a) _ _ (Some x) e) [
  | inl p ↦ (ap (slice_get (Some b ∷ ids)) (sym (same_some 0 x p.1)) ∙ ap (λ (z : List ℕ). Some (Some z)) (same_is b a p.0))
  | inr p ↦ (let g = bind_ok (place_of ids a) (λ y. Some (suc y)) x p.1 in ap (slice_get (Some b ∷ ids)) (sym (same_some (suc g.0) x g.2)) ∙ place_found ids a g.0 g.1)
]

-- No item before it has this identifier.
pub place_first : (ids : Ids) (a : List ℕ) (x : ℕ) → place_of ids a ≡ Some x → (j : ℕ) → j < x → slice_get ids j ≢ Some (Some a)
place_first [] a x e j lt h = absurd cc
place_first (None ∷ ids) a x e zero lt h = let q : ◌≡◌ {A = Id} None (Some a) = same_some None (Some a) h in absurd cc
place_first (None ∷ ids) a x e (suc j) lt h =
    let g = bind_ok (place_of ids a) (λ y. Some (suc y)) x e in
    let q : suc g.0 ≡ x = same_some (suc g.0) x g.2 in place_first ids a g.0 g.1 j (omega (arith, q, lt)) h
place_first (Some b ∷ ids) a x e j lt h = elim (chosen (same_bytes b a) _ _ (Some x) e) [
  | inl p ↦ (let q : 0 ≡ x = same_some 0 x p.1 in absurd (omega (arith, q, lt)))
  | inr p ↦ by (λ y i f l g. place_first ids a y f i l g) j p.0 (bind_ok (place_of ids a) (λ y. Some (suc y)) x p.1) lt h
]
  where
    by : ((y i : ℕ) → place_of ids a ≡ Some y → i < y → slice_get ids i ≡ Some (Some a) → ⊥) → (j : ℕ) → same_bytes b a ≡ false → (g : (y : ℕ) × (place_of ids a ≡ Some y) × (Some (suc y) ≡ Some x)) → j < x → slice_get (Some b ∷ ids) j ≡ Some (Some a) → ⊥
    by more zero f g lt h = let q : b ≡ a = same_some b a (same_some (Some b) (Some a) h) in let t : same_bytes b a ≡ true = ap (λ (z : List ℕ). same_bytes z a) q ∙ is_same a in let r : true ≡ false = sym t ∙ f in cc
    by more (suc j) f g lt h = let q : suc g.0 ≡ x = same_some (suc g.0) x g.2 in more g.0 j g.1 (omega (arith, q, lt)) h

-- An identifier at an index is found there, if none before it is the same.
pub place_nearest : (ids : Ids) (a : List ℕ) (x : ℕ) → slice_get ids x ≡ Some (Some a) → ((j : ℕ) → j < x → slice_get ids j ≢ Some (Some a)) → place_of ids a ≡ Some x
place_nearest [] a x e n = absurd cc
place_nearest (None ∷ ids) a zero e n = let q : ◌≡◌ {A = Id} None (Some a) = same_some None (Some a) e in absurd cc
place_nearest (None ∷ ids) a (suc x) e n = bind_is (place_of ids a) _ x (place_nearest ids a x e (λ j lt. n (suc j) (omega (arith, lt))))
place_nearest (Some b ∷ ids) a zero e n = let k : b ≡ a = same_some b a (same_some (Some b) (Some a) e) in cond-true (same_bytes b a) _ _ (ap (λ (z : List ℕ). same_bytes z a) k ∙ is_same a)
place_nearest (Some b ∷ ids) a (suc x) e n =
    cond_both (same_bytes b a) _ _ (λ z. z ≡ Some (suc x))
    (λ t. absurd (n 0 (omega arith) (ap (λ (z : List ℕ). Some (Some z)) (same_is b a t))))
    (λ _. bind_is (place_of ids a) _ x (place_nearest ids a x e (λ j lt. n (suc j) (omega (arith, lt)))))

-- If identifiers are distinct, none before an index is the same.
pub distinct_nearest : (ids : Ids) (a : List ℕ) (x : ℕ) → AreDistinct ids → slice_get ids x ≡ Some (Some a) → (j : ℕ) → j < x → slice_get ids j ≢ Some (Some a)
distinct_nearest ids a x d e j lt h = let q : j ≡ x = d a j x h e in omega (arith, q, lt)

pub label_found : (ids : Ids) (a : List ℕ) (x : ℕ) → index_of ids a ≡ Some x → IsLabel ids x a
label_found ids a x e = elim (chosen (is_id a) _ _ (Some x) e) [
  | inl p ↦ (
      let g = bind_ok (place_of ids a) _ x p.1 in
      elim (chosen (nat_lt g.0 0x1_0000_0000) (Some g.0) None (Some x) g.2) [
        | inl q ↦ (let k : g.0 ≡ x = same_some g.0 x q.1 in let f : place_of ids a ≡ Some x = g.1 ∙ ap Some k in
            (subst (λ (z : ℕ). z < 2 ^ 32) k (ltb-true g.0 0x1_0000_0000 q.0), inr (is_identifier a p.0, place_found ids a x f, place_first ids a x f)))
        | inr q ↦ absurd (let f : ◌≡◌ {A = Option ℕ} None (Some x) = q.1 in cc)
      ])
  | inr p ↦ (let u = unsigned_found a x p.1 in (u.0, inl u))
]

pub label_more : (ids : Ids) (a : List ℕ) (x : ℕ) → IsLabel ids x a → index_of ids a ≡ Some x
label_more ids a x (lt, inl h) = cond-false (is_id a) _ _ (number_not_id x a (magnitude_more x a h.1)) ∙ unsigned_more a x h
label_more ids a x (lt, inr (i, e, n)) =
    cond-true (is_id a) _ _ (id_is a i) ∙ bind_is (place_of ids a) _ x (place_nearest ids a x e n) ∙ cond-true (nat_lt x 0x1_0000_0000) _ _ (lt-ltb x 0x1_0000_0000 lt)

pub index_found : (ids : Ids) (a : List ℕ) (x : ℕ) → index_of ids a ≡ Some x → IsIndex ids x a
index_found ids a x e = by (label_found ids a x e)
  where
    by : IsLabel ids x a → IsIndex ids x a
    by (lt, inl h) = (lt, inl h)
    by (lt, inr (i, g, n)) = (lt, inr (i, g))

pub index_more : (ids : Ids) → AreDistinct ids → (a : List ℕ) (x : ℕ) → IsIndex ids x a → index_of ids a ≡ Some x
index_more ids d a x (lt, inl h) = label_more ids a x (lt, inl h)
index_more ids d a x (lt, inr (i, e)) = label_more ids a x (lt, inr (i, e, distinct_nearest ids a x d e))

pub number_sound : Sound (atom_at unsigned_of) UnsignedNumber
number_sound = atom_sound unsigned_of (IsUnsigned 32) unsigned_found

pub number_complete : Complete (atom_at unsigned_of) UnsignedNumber Any
number_complete = atom_complete unsigned_of (IsUnsigned 32) unsigned_more

pub index_sound : (ids : Ids) → Sound (atom_at (index_of ids)) (Resolves ids)
index_sound ids = atom_sound (index_of ids) (λ x a. IsIndex ids x a) (index_found ids)

pub index_complete : (ids : Ids) → AreDistinct ids → Complete (atom_at (index_of ids)) (Resolves ids) Any
index_complete ids d = atom_complete (index_of ids) (λ x a. IsIndex ids x a) (index_more ids d)

pub label_sound : (ids : Ids) → Sound (atom_at (index_of ids)) (ResolvesLabel ids)
label_sound ids = atom_sound (index_of ids) (λ x a. IsLabel ids x a) (label_found ids)

pub label_complete : (ids : Ids) → Complete (atom_at (index_of ids)) (ResolvesLabel ids) Any
label_complete ids = atom_complete (index_of ids) (λ x a. IsLabel ids x a) (label_more ids)
