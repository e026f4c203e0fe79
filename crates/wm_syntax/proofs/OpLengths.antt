-- The length of ops is unchanged if one op is replaced by another of the same length. Whether they name a data segment
-- is unchanged if it is the same of both ops.
use Rattle.std.proofs.Common.{◌≡◌, ℕ, zero, suc, ◌+◌, List, [], ◌∷◌, Some, slice_get, refl, sym, ap, ◌∙◌, ◌||◌}
use Rattle.std.specs.Prelude.{slice_set}
use Rattle.std.proofs.lemmas.List.Sums.{sum_by-cons}
use Rattle.wm_syntax.specs.Instructions.{name_segment, names_segment}
use Rattle.wm_syntax.specs.Lengths.{op_len, ops_len}
use Rattle.wm_syntax.specs.declared.instructions.Op.{Op}

pub same_len : (x y : Op) → op_len x ≡ op_len y → (ops : List Op) (i : ℕ) → slice_get ops i ≡ Some x → ops_len (slice_set ops i y) ≡ ops_len ops
same_len x y same [] i is = refl
same_len x y same (z ∷ ops) zero is =
    let first : op_len y ≡ op_len z = sym same ∙ ap op_len (cc) in
    sum_by-cons op_len y ops ∙ ap (λ n. n + ops_len ops) first ∙ sym (sum_by-cons op_len z ops)
same_len x y same (z ∷ ops) (suc i) is =
    sum_by-cons op_len z (slice_set ops i y) ∙ ap (λ n. op_len z + n) (same_len x y same ops i is) ∙ sym (sum_by-cons op_len z ops)

pub same_naming : (x y : Op) → names_segment x ≡ names_segment y → (ops : List Op) (i : ℕ) → slice_get ops i ≡ Some x → name_segment (slice_set ops i y) ≡ name_segment ops
same_naming x y same [] i is = refl
same_naming x y same (z ∷ ops) zero is =
    let first : names_segment y ≡ names_segment z = sym same ∙ ap names_segment (cc) in
    ap (λ b. b || name_segment ops) first
same_naming x y same (z ∷ ops) (suc i) is = ap (λ b. names_segment z || b) (same_naming x y same ops i is)
