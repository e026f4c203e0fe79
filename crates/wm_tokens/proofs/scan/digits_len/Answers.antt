use Rattle.std.proofs.Common.{arith, below_more, sym, ◌∙◌}
use Rattle.wm_tokens.proofs.scan.digits_len.Goals as goal

pub loop-i-preserved : goal.loop-i-preserved
loop-i-preserved c = record { within = omega arith; digits = below_more _ _ c.loop-i.invariant.digits (sym c.is_digit.ensures ∙ c.if-not-is_digit.false) }
