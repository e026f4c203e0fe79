use Rattle.std.specs.Prelude.{codes}
use Rattle.wm_write.specs.FloatText.{hexadecimal}
use Rattle.wm_write.proofs.FloatPieces.{two_pieces}
use Rattle.wm_write.proofs.print.float_text.push_nan.Goals as goal

pub returns : goal.returns
returns c =
    two_pieces c.args.line.now c.push.new.self c.push_hexadecimal.new.line (codes "nan:0x") (hexadecimal 16 c.args.payload) c.push.ensures
    c.push_hexadecimal.ensures.text
