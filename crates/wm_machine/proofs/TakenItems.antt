-- A sink that takes a list of items takes its parts one after the other, and a slice of data in bulk.
use Rattle.std.proofs.Common.{arith, ◌≡◌, ◌≢◌, ◌⊎◌, inl, inr, ℕ, List, [], ◌∷◌, ◌++◌, Result, Ok, Err, IfErr, IsOk, MatchResult, map, refl, sym, ◌∙◌, ap, ◌+◌, ◌<◌, length, take, slice_index}
use Rattle.std.proofs.lemmas.List.{map-append, take_more}
use Rattle.wm_syntax.specs.declared.why.Why.{Why}
use Rattle.wm_syntax.specs.declared.why.Why.TheVariants as why
use Rattle.wm_machine.specs.Items.{Item, data_byte}
use Rattle.wm_machine.specs.Sinks.{RunsOut, and_then, all_taken, Took}

-- Parts in two lists are taken one list after the other.
taken_then : {H : Type 0} (after : H → Item → Result H Why) (r : Result H Why) (xs ys : List Item) → ((h : H) → all_taken after h (xs ++ ys) ≡ and_then (all_taken after h xs) (λ g. all_taken after g ys))
    → and_then r (λ g. all_taken after g (xs ++ ys)) ≡ and_then (and_then r (λ g. all_taken after g xs)) (λ g. all_taken after g ys)
taken_then after (Ok h) xs ys e = e h
taken_then after (Err w) xs ys e = refl

pub all_taken-append : {H : Type 0} (after : H → Item → Result H Why) (xs ys : List Item) (h : H) → all_taken after h (xs ++ ys) ≡ and_then (all_taken after h xs) (λ g. all_taken after g ys)
all_taken-append after [] ys h = refl
all_taken-append after (x ∷ xs) ys h = taken_then after (after h x) xs ys (λ g. all_taken-append after xs ys g)

pub split : {A B : Type 0} (r : Result A Why) (f : A → Result B Why) (y : B) → and_then r f ≡ Ok y → (x : A) × (r ≡ Ok x) × (f x ≡ Ok y)
split (Ok x) f y e = (x, refl, e)
split (Err r) f y e = cc

-- the same of the items that numbers in two lists are
module _ {H : Type 0} (after : H → Item → Result H Why) (item : ℕ → Item) where
  pub numbers_taken : (h : H) (a b : List ℕ) → all_taken after h (map item (a ++ b)) ≡ and_then (all_taken after h (map item a)) (λ g. all_taken after g (map item b))
  numbers_taken h a b = ap (all_taken after h) (map-append item a b) ∙ all_taken-append after (map item a) (map item b) h

  -- one more
  pub number_taken : (h f g : H) (bytes : List ℕ) (i : ℕ) → i < length bytes → all_taken after h (map item (take i bytes)) ≡ Ok f
      → after f (item (slice_index bytes i)) ≡ Ok g → all_taken after h (map item (take (i + 1) bytes)) ≡ Ok g
  number_taken h f g bytes i less before given =
      ap (λ (y : List ℕ). all_taken after h (map item y)) (take_more bytes i 0 less)
      ∙ (numbers_taken h (take i bytes) (slice_index bytes i ∷ [])
      ∙ (ap (λ r. and_then r (λ k. all_taken after k (item (slice_index bytes i) ∷ []))) before
      ∙ ap (λ r. and_then r (λ k. Ok k)) given))

  -- the last
  pub last_number : (h g : H) (bytes : List ℕ) (i : ℕ) → i < length bytes → all_taken after h (map item (take (i + 1) bytes)) ≡ Ok g
      → (f : H) × (all_taken after h (map item (take i bytes)) ≡ Ok f) × (after f (item (slice_index bytes i)) ≡ Ok g)
  last_number h g bytes i less taken =
      let c = slice_index bytes i in
      let both = sym (numbers_taken h (take i bytes) (c ∷ [])) ∙ (ap (λ (y : List ℕ). all_taken after h (map item y)) (sym (take_more bytes i 0 less)) ∙ taken) in
      let s = split (all_taken after h (map item (take i bytes))) (λ k. all_taken after k (item c ∷ [])) g both in
      let t = split (after s.0 (item c)) (λ k. Ok k) g s.2 in
      (s.0, s.1, t.1 ∙ t.2)

pub slices_taken : {H : Type 0} (after : H → Item → Result H Why) (h : H) (a b : List ℕ) → all_taken after h (map data_byte (a ++ b)) ≡ and_then (all_taken after h (map data_byte a)) (λ g. all_taken after g (map data_byte b))
slices_taken after h a b = numbers_taken after data_byte h a b

-- where no byte of data is refused
pub is_memory : (w : Why) → (w ≡ why.Memory) ⊎ (w ≡ why.Memory → ⊥)
is_memory why.Memory = inl refl
is_memory w = inr (λ e. cc)

one_taken : {H : Type 0} (after : H → Item → Result H Why) (r : Result H Why) → IsOk r → (xs : List Item) → ((g : H) → (k : H) × (all_taken after g xs ≡ Ok k))
    → (k : H) × (and_then r (λ g. all_taken after g xs) ≡ Ok k)
one_taken after (Ok g) ok xs rest = rest g
one_taken after (Err w) ok xs rest = cc

data_taken : {H : Type 0} (after : H → Item → Result H Why) → ((h : H) (c : ℕ) → IsOk (after h (data_byte c))) → (bytes : List ℕ) (h : H)
    → (g : H) × (all_taken after h (map data_byte bytes) ≡ Ok g)
data_taken after law [] h = (h, refl)
data_taken after law (c ∷ b) h = one_taken after (after h (data_byte c)) (law h c) (map data_byte b) (λ g. data_taken after law b g)

only_memory : {H : Type 0} (x : Result H Why) (w : Why) → IsOk x → (w ≢ why.Memory → x ≡ Err w) → w ≡ why.Memory
only_memory (Ok h) why.Memory ok refused = refl
only_memory (Ok h) w ok refused = elim (is_memory w) [ inl e ↦ e | inr ne ↦ let bad = refused ne in cc ]
only_memory (Err v) w ok refused = cc

not_taken : {H : Type 0} (x : Result H Why) (g : H) (w : Why) → x ≡ Ok g → (w ≢ why.Memory → (h : H) → x ≡ Ok h → ⊥) → w ≡ why.Memory
not_taken x g w e refused = elim (is_memory w) [ inl m ↦ m | inr ne ↦ absurd (refused ne g e) ]

pub slice_taken : {H U : Type 0} (after : H → Item → Result H Why) → ((h : H) (c : ℕ) → IsOk (after h (data_byte c))) → (h g : H) (bytes : List ℕ) (r : Result U Why)
    → Took after h (map data_byte bytes) r g → MatchResult r (λ u. all_taken after h (map data_byte bytes) ≡ Ok g) (λ w. w ≡ why.Memory)
slice_taken after law h g [] (Ok u) t = t
slice_taken after law h g (c ∷ []) (Ok u) t = ap (λ r. and_then r (λ k. Ok k)) t
slice_taken after law h g (c ∷ d ∷ b) (Ok u) t = t
slice_taken after law h g [] (Err w) t = not_taken (Ok h) h w refl t
slice_taken after law h g (c ∷ []) (Err w) t = only_memory (after h (data_byte c)) w (law h c) t
slice_taken after law h g (c ∷ d ∷ b) (Err w) t = let s = data_taken after law (c ∷ d ∷ b) h in not_taken (all_taken after h (map data_byte (c ∷ d ∷ b))) s.0 w s.1 t

pub slice_room : {H U : Type 0} (may : H → Item → Type 0) (h : H) (bytes : List ℕ) (r : Result U Why)
    → RunsOut may h (map data_byte bytes) r → length bytes ≡ 1 → IfErr r (λ w. w ≡ why.Memory → may h (data_byte (slice_index bytes 0)))
slice_room may h bytes (Ok u) t one = tt
slice_room may h [] (Err w) t one = absurd (omega (arith, one))
slice_room may h (c ∷ []) (Err w) t one = t
slice_room may h (c ∷ d ∷ b) (Err w) t one = absurd (omega (arith, one))
