-- Function types whose parameters are in one list.
use Rattle.std.specs.Prelude.{ℕ, ◌+◌, ◌≤◌, ◌≡◌, List, [], ◌∷◌, map, slice_range, option_to_list}
use Rattle.wm_syntax.specs.declared.types.ValType.{ValType}
use Rattle.wm_syntax.specs.Types.{Signature}
use Rattle.wm_typing.specs.declared.func_types.TypeEntry.{TypeEntry}

-- The type of an entry, given the parameters of all types.
abbrev pub signature_in : List ValType → TypeEntry → Signature
signature_in params e = record {
  params = slice_range params e.start (e.start + e.count);
  results = option_to_list e.result;
}

abbrev pub signatures_in : List ValType → List TypeEntry → List Signature
signatures_in params es = map (signature_in params) es

-- The parameters of each entry are among the first n, and those of the last entry end there.
abbrev pub AreEntries : ℕ → List TypeEntry → Type 0
AreEntries n [] = Unit {0}
AreEntries n (e ∷ []) = e.start + e.count ≡ n
AreEntries n (e ∷ f ∷ es) = (e.start + e.count ≤ n) × AreEntries n (f ∷ es)

-- The list with its last item changed, if there is one.
abbrev pub with_last : {X : Type 0} → (X → X) → List X → List X
with_last g [] = []
with_last g (x ∷ []) = g x ∷ []
with_last g (x ∷ y ∷ ys) = x ∷ with_last g (y ∷ ys)
