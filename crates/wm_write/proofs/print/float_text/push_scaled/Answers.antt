use Rattle.wm_write.specs.FloatText.{exponent_text, fraction_text}
use Rattle.wm_write.proofs.FloatPieces.{three_pieces}
use Rattle.wm_write.proofs.print.float_text.push_scaled.Goals as goal

pub returns : goal.returns
returns c =
    three_pieces c.args.line.now c.push.new.self c.push_fraction.new.line c.push_exponent.new.line c.args.first.now (fraction_text c.args.n)
    (exponent_text c.args.bias c.args.exponent) c.push.ensures c.push_fraction.ensures.text c.push_exponent.ensures
