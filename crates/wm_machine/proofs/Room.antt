-- Where memory may run out at one byte.
use Rattle.std.proofs.Common.{◌≡◌, ◌≢◌, ℕ, zero, suc, ◌+◌, ◌<◌, ◌≤◌, ◌⊎◌, inl, inr, List, [], ◌∷◌, ◌++◌, Result, Ok, Err, MatchResult, IfErr, length, drop, take, refl, sym, ◌∙◌, ap, subst, slice_range, slice_index, arith}
use Rattle.wm_syntax.specs.declared.profile.Profile.{Profile}
use Rattle.wm_syntax.specs.declared.why.Why.TheVariants as why
use Rattle.wm_machine.specs.declared.machine.NameKind.{NameKind}
use Rattle.wm_machine.specs.declared.refusal.Refusal.{Refusal}
use Rattle.wm_machine.specs.Items.{Item}
use Rattle.wm_machine.specs.exact.Runs.{name_item}
use Rattle.wm_machine.specs.exact.Live.{Live, MayRunOutAtByte, MayRunOutAt}
use Rattle.wm_machine.proofs.Ranges.{name_more}

-- at the last byte of a name
pub name_ends : {H : Type 0} (may : H → Item → Type 0) (kind : NameKind) (buffer piece : List ℕ) (from i : ℕ) (h : H) → from ≤ i → i < length piece
    → (buffer ≢ []) ⊎ MayRunOutAt may (name_item kind (buffer ++ slice_range piece from (i + 1))) h
    → (buffer ++ slice_range piece from i ≢ []) ⊎ MayRunOutAt may (name_item kind ((buffer ++ slice_range piece from i) ++ slice_index piece i ∷ [])) h
name_ends may kind buffer piece from i h order within (inl n) = inl (λ e. n (first buffer (slice_range piece from i) e))
  where
    first : (a b : List ℕ) → a ++ b ≡ [] → a ≡ []
    first [] b e = refl
    first (c ∷ a) b e = cc
name_ends may kind buffer piece from i h order within (inr m) = inr (subst (λ y. MayRunOutAt may (name_item kind y) h) (sym (name_more buffer piece from i order within)) m)

-- at the only byte of a piece
pub only_byte : {H : Type 0} (may : H → Item → Type 0) (p q : Profile) (l m : Live H) (piece : List ℕ) (i c : ℕ) → p ≡ q → l ≡ m → i ≡ 0 → piece ≡ c ∷ []
    → MayRunOutAtByte may p l (slice_index piece i) → MayRunOutAtByte may q m c
only_byte may p q l m piece i c e f g h r =
    let at : slice_index piece i ≡ c = ap (slice_index piece) g ∙ ap (λ (y : List ℕ). slice_index y 0) h in
    subst (λ x. MayRunOutAtByte may x m c) e (subst (λ x. MayRunOutAtByte may p x c) f (subst (MayRunOutAtByte may p l) at r))

abbrev no_bytes : List ℕ
no_bytes = []

none_left : (m : ℕ) → drop m no_bytes ≡ no_bytes
none_left zero = refl
none_left (suc m) = refl

take_none : (m : ℕ) → take m no_bytes ≡ no_bytes
take_none zero = refl
take_none (suc m) = refl

-- what was kept of a name, at the only byte of a piece
pub kept_byte : {U : Type 0} (A : U → Type 0) (B C : Refusal → Type 0) (D : Type 0) (result : Result U Refusal) (piece : List ℕ) (from many c : ℕ) → piece ≡ c ∷ [] → (from < 1 → D)
    → MatchResult result A (λ r. B r × C r × (take many (drop from piece) ≢ [])) → IfErr result (λ r. r.why ≡ why.Memory → D)
kept_byte A B C D (Ok u) piece from many c e may h = tt
kept_byte A B C D (Err r) piece from many c e may h = λ _. go from (λ z. h.2 (ap (λ (y : List ℕ). take many (drop from y)) e ∙ (ap (take many) z ∙ take_none many))) may
  where
    go : (n : ℕ) → (drop n (c ∷ []) ≡ [] → ⊥) → (n < 1 → D) → D
    go zero n f = f (omega arith)
    go (suc m) n f = absurd (n (none_left m))
