-- The positions of the open blocks' identifiers, in the list and in the map.
use Rattle.std.proofs.Common.{◌≡◌, ℕ, suc, ◌<◌, ◌+◌, ◌-◌, Bool, true, false, cond, List, [], ◌∷◌, ◌++◌, length, Option, Some, None, refl, sym, ap, subst, ◌∙◌, arith, get_or, length-append}
use Rattle.std.specs.Prelude.{drop, map, reverse, take}
use Rattle.std.specs.Borrow.{Bor}
use Rattle.std.specs.Str.{bytes_eq}
use Rattle.std.proofs.lemmas.Bool.{cond-true, cond-false}
use Rattle.std.proofs.lemmas.List.{reverse-append, take_more, take_all}
use Rattle.std.proofs.lemmas.Slice.Eq.{bytes_eq-Decides}
use Rattle.wm_bodies.specs.declared.blocks.Block.{Block}
use Rattle.wm_tokens.specs.Identifiers.{Ids}
use Rattle.wm_bodies.specs.inner.Blocks.{IsMissing, IsOuter, changed, open_of, blocks_of, place_from}
use Rattle.wm_bodies.specs.inner.Ids.{id_of}
use Rattle.wm_bodies.specs.inner.Pieces.{labels}
use Rattle.wm_bodies.specs.exact.Reading.{◌>>=◌, place_of, same_bytes}
use Rattle.wm_tokens.proofs.Basics.{same_some}
use Rattle.wm_bodies.proofs.Readers.{same_is, same_from, is_same}

pub same_back : (a b : List ℕ) → same_bytes a b ≡ true → same_bytes b a ≡ true
same_back a b h = ap (λ (z : List ℕ). same_bytes b z) (same_is a b h) ∙ is_same b

pub differ_back : (a b : List ℕ) → same_bytes a b ≡ false → same_bytes b a ≡ false
differ_back a b h = by (same_bytes b a) refl
  where
    by : (t : Bool) → same_bytes b a ≡ t → same_bytes b a ≡ false
    by true e = absurd (let f : true ≡ false = sym (same_back b a e) ∙ h in cc)
    by false e = e

same_eq : (a b : List ℕ) → same_bytes a b ≡ bytes_eq a b
same_eq a b = by (bytes_eq a b) refl
  where
    differ : bytes_eq a b ≡ false → (t : Bool) → same_bytes a b ≡ t → same_bytes a b ≡ false
    differ h true e = absurd (let f : true ≡ false = sym ((bytes_eq-Decides a b).1 (same_is a b e)) ∙ h in cc)
    differ h false e = e

    by : (t : Bool) → bytes_eq a b ≡ t → same_bytes a b ≡ bytes_eq a b
    by true h = same_from a b ((bytes_eq-Decides a b).0 h) ∙ sym h
    by false h = differ h (same_bytes a b) refl ∙ sym h

-- ---- depths of blocks, the innermost first

abbrev Raw : Type 0
Raw = Option (Bor (List ℕ))

-- The depth of a position among n blocks.
abbrev pub deep : ℕ → Option ℕ → Option ℕ
deep n None = None
deep n (Some p) = Some (n - 1 - p)

abbrev IsWithin : ℕ → Option ℕ → Type 0
IsWithin n o = (p : ℕ) → o ≡ Some p → p < n

within_more : (i : Raw) (n : ℕ) (f : List ℕ → Option ℕ) (name : List ℕ) → IsWithin n (f name) → IsWithin (suc n) (changed (id_of i) (Some n) f name)
within_more None n f name h = λ p e. let lt : p < n = h p e in omega (arith, lt)
within_more (Some r) n f name h = by (bytes_eq r.now name)
  where
    by : (t : Bool) → IsWithin (suc n) (cond t (Some n) (f name))
    by true = λ p e. let same : n ≡ p = same_some n p e in omega (arith, same)
    by false = λ p e. let lt : p < n = h p e in omega (arith, lt)

within : (bs : List Block) (name : List ℕ) → IsWithin (length bs) (place_from bs name)
within [] name = λ p e. absurd (let f : None ≡ Some p = e in cc)
within (b ∷ bs) name = within_more b.id (length bs) (place_from bs) name (within bs name)

one_deeper : (n : ℕ) (o : Option ℕ) → IsWithin n o → (deep n o >>= λ x. Some (suc x)) ≡ deep (suc n) o
one_deeper n None h = refl
one_deeper n (Some p) h = let lt : p < n = h p refl in ap Some (omega (arith, lt))

depth_more : (i : Raw) (n : ℕ) (ids : Ids) (f : List ℕ → Option ℕ) (name : List ℕ) → IsWithin n (f name) → place_of ids name ≡ deep n (f name)
    → place_of (id_of i ∷ ids) name ≡ deep (suc n) (changed (id_of i) (Some n) f name)
depth_more None n ids f name h e = ap (λ (o : Option ℕ). o >>= λ x. Some (suc x)) e ∙ one_deeper n (f name) h
depth_more (Some r) n ids f name h e = ap (λ (t : Bool). cond t (Some 0) (place_of ids name >>= λ x. Some (suc x))) (same_eq r.now name) ∙ by (bytes_eq r.now name)
  where
    by : (t : Bool) → cond t (Some 0) (place_of ids name >>= λ x. Some (suc x)) ≡ deep (suc n) (cond t (Some n) (f name))
    by true = ap Some (omega arith)
    by false = ap (λ (o : Option ℕ). o >>= λ x. Some (suc x)) e ∙ one_deeper n (f name) h

depth_of : (bs : List Block) (name : List ℕ) → place_of (labels (map open_of bs)) name ≡ deep (length bs) (place_from bs name)
depth_of [] name = refl
depth_of (b ∷ bs) name = depth_more b.id (length bs) (labels (map open_of bs)) (place_from bs) name (within bs name) (depth_of bs name)

length_reverse : (bs : List Block) → length (reverse bs) ≡ length bs
length_reverse [] = refl
length_reverse (b ∷ bs) = ap length (reverse-append (b ∷ []) bs) ∙ length-append (reverse bs) (b ∷ []) ∙ let e : length (reverse bs) ≡ length bs = length_reverse bs in omega (arith, e)

pub place_below : (bs : List Block) (name : List ℕ) (p : ℕ) → place_from (reverse bs) name ≡ Some p → p < length bs
place_below bs name p e = subst (λ (n : ℕ). p < n) (length_reverse bs) (within (reverse bs) name p e)

depth_found : (bs : List Block) (name : List ℕ) → place_of (labels (blocks_of bs)) name ≡ deep (length bs) (place_from (reverse bs) name)
depth_found bs name = depth_of (reverse bs) name ∙ ap (λ (n : ℕ). deep n (place_from (reverse bs) name)) (length_reverse bs)

pub depth_some : (bs : List Block) (name : List ℕ) (p : ℕ) → place_from (reverse bs) name ≡ Some p → Some (length bs - 1 - p) ≡ place_of (labels (blocks_of bs)) name
depth_some bs name p e = sym (depth_found bs name ∙ ap (deep (length bs)) e)

pub depth_none : (bs : List Block) (name : List ℕ) → place_from (reverse bs) name ≡ None → None ≡ place_of (labels (blocks_of bs)) name
depth_none bs name e = sym (depth_found bs name ∙ ap (deep (length bs)) e)

-- ---- a block more, and one less

reverse_push : (bs : List Block) (b : Block) → reverse (bs ++ b ∷ []) ≡ b ∷ reverse bs
reverse_push bs b = reverse-append bs (b ∷ [])

-- A property of a list of blocks, after its last block is split off.
pub at_last : (P : List Block → Type 0) (old new : List Block) (b : Block) → old ≡ new ++ b ∷ [] → P (reverse old) → P (b ∷ reverse new)
at_last P old new b e h = subst P (ap reverse e ∙ reverse_push new b) h

pub blocks_push : (bs : List Block) (b : Block) → blocks_of (bs ++ b ∷ []) ≡ open_of b ∷ blocks_of bs
blocks_push bs b = ap (map open_of) (reverse_push bs b)

pub popped : (i : Raw) (outer : Option ℕ) (n : ℕ) (f g h : List ℕ → Option ℕ) → IsOuter i outer f → ((name : List ℕ) → g name ≡ changed (id_of i) (Some n) f name)
    → ((name : List ℕ) → h name ≡ changed (id_of i) outer g name) → (name : List ℕ) → h name ≡ f name
popped None outer n f g h back same put name = put name ∙ same name
popped (Some r) outer n f g h back same put name = put name ∙ by (bytes_eq r.now name) refl
  where
    by : (t : Bool) → bytes_eq r.now name ≡ t → cond t outer (g name) ≡ f name
    by true e = back ∙ ap f ((bytes_eq-Decides r.now name).0 e)
    by false e = same name ∙ cond-false (bytes_eq r.now name) (Some n) (f name) e

-- an open block's identifier has a place
pub not_missing : (i : Raw) (n : ℕ) (f g : List ℕ → Option ℕ) → ((name : List ℕ) → g name ≡ changed (id_of i) (Some n) f name) → IsMissing g (id_of i) → ⊥
not_missing None n f g same h = h
not_missing (Some r) n f g same h =
    let has : g r.now ≡ Some n = same r.now ∙ cond-true (bytes_eq r.now r.now) (Some n) (f r.now) ((bytes_eq-Decides r.now r.now).1 refl) in
    let f : None ≡ Some n = sym h ∙ has in cc

-- ---- the innermost block

pub last_none : (bs : List Block) → length bs ≡ 0 → blocks_of bs ≡ []
last_none [] e = refl
last_none (b ∷ bs) e = absurd (omega (arith, e))

pub last_some : (bs : List Block) (d : Block) → 0 < length bs → blocks_of bs ≡ open_of (get_or bs (length bs - 1) d) ∷ drop 1 (blocks_of bs)
last_some bs d pos =
    let one : length bs ≡ (length bs - 1) + 1 = omega arith in let lt : length bs - 1 < length bs = omega arith in
    let e = ap blocks_of (sym whole ∙ ap (λ (n : ℕ). take n bs) one ∙ take_more bs (length bs - 1) d lt) ∙ blocks_push (take (length bs - 1) bs) (get_or bs (length bs - 1) d) in
    e ∙ ap (λ z. open_of (get_or bs (length bs - 1) d) ∷ drop 1 z) (sym e)
  where
    whole : take (length bs) bs ≡ bs
    whole = take_all (length bs) bs (omega arith)

pub pop_none : (old new : List Block) → old ≡ new ++ [] → length old ≡ 0 → (blocks_of old ≡ []) × (blocks_of new ≡ [])
pop_none old new e z = (last_none old z, last_none new (let l : length old ≡ length (new ++ []) = ap length e in omega (arith, z, l, length-append new [])))

pub pop_some : (old new : List Block) (b : Block) → old ≡ new ++ b ∷ [] → blocks_of old ≡ open_of b ∷ blocks_of new
pop_some old new b e = ap blocks_of e ∙ blocks_push new b

pub ruleset pop_laws = (pop_none, pop_some)

pub ruleset last_laws = (last_none, last_some)
