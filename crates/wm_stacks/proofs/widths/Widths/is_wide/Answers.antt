-- The test reads the operand's bit.
use Rattle.std.proofs.Common.{◌%◌, nat_eq, ap, ◌∙◌}
use Rattle.std.specs.Int.{bit_at}
use Rattle.std.proofs.lemmas.Nat.Bits.{shr_and_one}
use Rattle.wm_stacks.proofs.widths.Widths.is_wide.Goals as goal

pub returns : goal.returns
returns c =
    ap (λ n. nat_eq n 1) (shr_and_one c.word-bits.result (c.args.at % 64)) ∙ ap (λ x. nat_eq (bit_at x (c.args.at % 64)) 1) c.word-bits.ensures
