-- The indices of a space's identifiers, in the list and in the map.
use Rattle.std.proofs.Common.{◌≡◌, ℕ, zero, suc, ◌+◌, ◌≤◌, Bool, true, false, cond, List, [], ◌∷◌, ◌++◌, length, replicate, Option, Some, None, refl, sym, ap, ◌∙◌, append_assoc, arith, length-append}
use Rattle.std.specs.Prelude.{is_some}
use Rattle.std.specs.Borrow.{Bor}
use Rattle.std.specs.BTreeMap.{BTreeMap}
use Rattle.std.specs.Map.{update}
use Rattle.std.specs.Option.{option_copied}
use Rattle.std.specs.Str.{bytes_eq}
use Rattle.std.proofs.lemmas.Bool.{cond-true, cond-false}
use Rattle.std.proofs.lemmas.List.{append-nil, length-replicate, replicate-append-replicate}
use Rattle.std.proofs.lemmas.Slice.Eq.{bytes_eq-Decides}
use Rattle.wm_tokens.specs.Identifiers.{Id, Ids}
use Rattle.wm_bodies.specs.declared.identifiers.Identified.{Identified}
use Rattle.wm_bodies.specs.exact.Reading.{◌>>=◌, is_same_id, place_of, same_bytes}
use Rattle.wm_bodies.specs.inner.Ids.{HasPlaces, defined, spaced, spread}
use Rattle.wm_bodies.proofs.OpenBlocks.{same_back, differ_back}
use Rattle.wm_bodies.proofs.Readers.{same_is, same_from}

-- ---- in the list

later : (o : Option ℕ) (id : Id) (at : ℕ) (name : List ℕ) → (defined o id at name >>= λ x. Some (suc x)) ≡ defined (o >>= λ x. Some (suc x)) id (suc at) name
later (Some x) id at name = refl
later None id at name = by (is_same_id id name)
  where
    by : (t : Bool) → ◌>>=◌ {B = ℕ} (cond t (Some at) None) (λ x. Some (suc x)) ≡ cond t (Some (suc at)) None
    by true = refl
    by false = refl

turned : (a b : List ℕ) → same_bytes a b ≡ same_bytes b a
turned a b = by (same_bytes a b) refl
  where
    by : (t : Bool) → same_bytes a b ≡ t → same_bytes a b ≡ same_bytes b a
    by true h = h ∙ sym (same_back a b h)
    by false h = h ∙ sym (differ_back a b h)

place_added : (ids : Ids) (id : Id) (name : List ℕ) → place_of (ids ++ id ∷ []) name ≡ defined (place_of ids name) id (length ids) name
place_added [] None name = refl
place_added [] (Some a) name = ap (λ (t : Bool). cond t (Some 0) None) (turned a name)
place_added (None ∷ ids) id name = ap (λ (o : Option ℕ). o >>= λ x. Some (suc x)) (place_added ids id name) ∙ later (place_of ids name) id (length ids) name
place_added (Some a ∷ ids) id name = by (place_added ids id name) (same_bytes a name)
  where
    by : place_of (ids ++ id ∷ []) name ≡ defined (place_of ids name) id (length ids) name → (t : Bool) → cond t (Some 0) (place_of (ids ++ id ∷ []) name >>= λ x. Some (suc x)) ≡ defined (cond t (Some 0) (place_of ids name >>= λ x. Some (suc x))) id (suc (length ids)) name
    by more true = refl
    by more false = ap (λ (o : Option ℕ). o >>= λ x. Some (suc x)) more ∙ later (place_of ids name) id (length ids) name

none_placed : (n : ℕ) (name : List ℕ) → place_of (replicate n None) name ≡ None
none_placed zero name = refl
none_placed (suc n) name = ap (λ (o : Option ℕ). o >>= λ x. Some (suc x)) (none_placed n name)

unnamed_placed : (ids : Ids) (n : ℕ) (name : List ℕ) → place_of (ids ++ replicate n None) name ≡ place_of ids name
unnamed_placed [] n name = none_placed n name
unnamed_placed (None ∷ ids) n name = ap (λ (o : Option ℕ). o >>= λ x. Some (suc x)) (unnamed_placed ids n name)
unnamed_placed (Some a ∷ ids) n name = ap (λ (o : Option ℕ). cond (same_bytes a name) (Some 0) (o >>= λ x. Some (suc x))) (unnamed_placed ids n name)

-- ---- items with identifiers, and items with none

spread_pushed : (xs : List Identified) (x : Identified) → spread (xs ++ x ∷ []) ≡ spread xs ++ (replicate x.before None ++ Some x.id.now ∷ [])
spread_pushed [] x = refl
spread_pushed (y ∷ xs) x =
    ap (λ (z : Ids). replicate y.before None ++ Some y.id.now ∷ z) (spread_pushed xs x)
    ∙ sym (append_assoc (replicate y.before None) (Some y.id.now ∷ spread xs) (replicate x.before None ++ Some x.id.now ∷ []))

pub none_of : (n : ℕ) → spaced [] n ≡ replicate n None
none_of n = refl

pub none_places : (n : ℕ) (name : List ℕ) → None ≡ place_of (spaced [] n) name
none_places n name = sym (none_placed n name)

pub none_length : (n : ℕ) → n ≡ length (spaced [] n)
none_length n = sym (length-replicate {A = Id} n None)

pub ruleset of_laws = (none_of, none_places, none_length)

pub unnamed_more : (xs : List Identified) (n m k : ℕ) → k ≡ n + m → spaced xs k ≡ spaced xs n ++ replicate m None
unnamed_more xs n m k e =
    ap (spaced xs) e ∙ ap (λ (z : Ids). spread xs ++ z) (sym (replicate-append-replicate {A = Id} n m None)) ∙ sym (append_assoc (spread xs) (replicate n None) (replicate m None))

pub unnamed_within : (xs : List Identified) (n : ℕ) → n ≤ length (spaced xs n)
unnamed_within xs n = omega (arith, length-append (spread xs) (replicate n None), length-replicate {A = Id} n None)

pub unnamed_places : (places : BTreeMap (Bor (List ℕ)) ℕ) (xs : List Identified) (n m k : ℕ) → k ≡ n + m → HasPlaces places (spaced xs n) → HasPlaces places (spaced xs k)
unnamed_places places xs n m k e h name =
    h name ∙ sym (unnamed_placed (spaced xs n) m name) ∙ ap (λ (z : Ids). place_of z name) (sym (unnamed_more xs n m k e))

pub unnamed_length : (xs : List Identified) (n m k c : ℕ) → k ≡ n + m → c ≡ length (spaced xs n) → c + m ≡ length (spaced xs k)
unnamed_length xs n m k c e h =
    let size : length (spaced xs k) ≡ length (spaced xs n ++ replicate m None) = ap length (unnamed_more xs n m k e) in
    omega (arith, size, h, length-append (spaced xs n) (replicate m None), length-replicate {A = Id} m None)

pub ruleset unnamed_laws = (unnamed_more, unnamed_within, unnamed_places, unnamed_length)

pub identified_more : (xs ys : List Identified) (x : Identified) → ys ≡ xs ++ x ∷ [] → spaced ys 0 ≡ spaced xs x.before ++ Some x.id.now ∷ []
identified_more xs ys x e =
    ap (λ (z : List Identified). spaced z 0) e ∙ append-nil (spread (xs ++ x ∷ [])) ∙ spread_pushed xs x
    ∙ sym (append_assoc (spread xs) (replicate x.before None) (Some x.id.now ∷ []))

pub identified_places : (old new : List ℕ → Option ℕ) (xs ys : List Identified) (x : Identified) (at : ℕ) → ys ≡ xs ++ x ∷ [] → at ≡ length (spaced xs x.before)
    → ((name : List ℕ) → old name ≡ place_of (spaced xs x.before) name) → ((name : List ℕ) → new name ≡ defined (old name) (Some x.id.now) at name)
    → (name : List ℕ) → new name ≡ place_of (spaced ys 0) name
identified_places old new xs ys x at e l h g name =
    g name ∙ ap (λ (o : Option ℕ). defined o (Some x.id.now) at name) (h name) ∙ ap (λ (k : ℕ). defined (place_of (spaced xs x.before) name) (Some x.id.now) k name) l
    ∙ sym (ap (λ (z : Ids). place_of z name) (identified_more xs ys x e) ∙ place_added (spaced xs x.before) (Some x.id.now) name)

pub identified_length : (xs ys : List Identified) (x : Identified) (c : ℕ) → ys ≡ xs ++ x ∷ [] → c ≡ length (spaced xs x.before) → c + 1 ≡ length (spaced ys 0)
identified_length xs ys x c e h =
    let size : length (spaced ys 0) ≡ length (spaced xs x.before ++ Some x.id.now ∷ []) = ap length (identified_more xs ys x e) in
    omega (arith, size, h, length-append (spaced xs x.before) (Some x.id.now ∷ []))

pub ruleset identified_laws = (identified_more, identified_length)

-- ---- in the map, by its answers

absent : (found : Option (Bor ℕ)) (o : Option ℕ) → option_copied found ≡ o → is_some found ≡ false → o ≡ None
absent None o e h = sym e
absent (Some x) o e h = absurd (let f : true ≡ false = h in cc)

present : (found : Option (Bor ℕ)) → option_copied found ≡ None → is_some found ≡ false
present None e = refl
present (Some x) e = absurd cc

differs : (a name : List ℕ) → (a ≡ name → ⊥) → same_bytes name a ≡ false
differs a name h = by (same_bytes name a) refl
  where
    by : (t : Bool) → same_bytes name a ≡ t → same_bytes name a ≡ false
    by true e = absurd (h (sym (same_is name a e)))
    by false e = e

-- an item with no place of this identifier before it
stays : (o : Option ℕ) (a : List ℕ) (at : ℕ) (name : List ℕ) → (o ≡ None → a ≡ name → ⊥) → o ≡ defined o (Some a) at name
stays (Some x) a at name h = refl
stays None a at name h = sym (cond-false (same_bytes name a) (Some at) None (differs a name (h refl)))

pub known : (f : List ℕ → Option ℕ) (a : List ℕ) (at : ℕ) (found : Option (Bor ℕ)) → option_copied found ≡ f a → is_some found ≡ true
    → (name : List ℕ) → f name ≡ defined (f name) (Some a) at name
known f a at found e some name =
    stays (f name) a at name (λ none same. let c : false ≡ true = sym (present found (e ∙ ap f same ∙ none)) ∙ some in cc)

pub noted : (f g : List ℕ → Option ℕ) (a : List ℕ) (at : ℕ) (found : Option (Bor ℕ)) → option_copied found ≡ f a → is_some found ≡ false
    → ((name : List ℕ) → g name ≡ update bytes_eq f a (Some at) name) → (name : List ℕ) → g name ≡ defined (f name) (Some a) at name
noted f g a at found e none u name = u name ∙ by (bytes_eq a name) refl
  where
    by : (t : Bool) → bytes_eq a name ≡ t → cond t (Some at) (f name) ≡ defined (f name) (Some a) at name
    by true h =
        let same = (bytes_eq-Decides a name).0 h in
        let new : f name ≡ None = ap f (sym same) ∙ absent found (f a) e none in
        sym (ap (λ (o : Option ℕ). defined o (Some a) at name) new ∙ cond-true (same_bytes name a) (Some at) None (same_from name a (sym same)))
    by false h = stays (f name) a at name (λ o same. let c : true ≡ false = sym ((bytes_eq-Decides a name).1 same) ∙ h in cc)
