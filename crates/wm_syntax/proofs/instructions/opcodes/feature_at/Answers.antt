use Rattle.std.proofs.Common.{arith}
use Rattle.std.proofs.lemmas.Option.{slice_get-get_or}
use Rattle.wm_syntax.specs.exact.ByteTable.{features}
use Rattle.wm_syntax.proofs.instructions.opcodes.feature_at.Goals as goal

pub returns : goal.returns
returns c = slice_get-get_or features c.args.byte _ (omega (arith, c.ranges.byte.fits))
