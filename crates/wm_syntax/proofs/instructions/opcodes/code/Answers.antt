use Rattle.std.proofs.Common.{refl}
use Rattle.wm_syntax.proofs.OpTable.{byte_code, long_code, small_code}
use Rattle.wm_syntax.proofs.instructions.opcodes.code.Goals as goal

pub returns : goal.returns
returns c = rw c.simple_code.ensures (record { value = refl; range = small_code c.args.simple; byte = byte_code c.args.simple; prefixed = long_code c.args.simple })
