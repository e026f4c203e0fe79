use Rattle.wm_write.proofs.FloatPieces.{digits_of_none, digits_out, no_digits}
use Rattle.wm_write.proofs.print.float_text.+push_hexadecimal.Goals as goal

pub returns-then-most-eq0-clause-text : goal.returns-then-most-eq0-clause-text
returns-then-most-eq0-clause-text t c = no_digits c.args.line.now c.args.most c.args.n c.if-most-eq0.true

pub returns-then-n-eq0-clause-text : goal.returns-then-n-eq0-clause-text
returns-then-n-eq0-clause-text t c = digits_of_none c.args.line.now c.args.most c.args.n c.if-n-eq0.true

pub returns-clause-text : goal.returns-clause-text
returns-clause-text t c =
    digits_out c.args.most c.args.n c.hex_digit.result c.args.line.now c.push_hexadecimal.new.line c.push_byte.new.self c.if-most-eq0.false
    c.if-n-eq0.false c.push_hexadecimal.ensures.text c.hex_digit.ensures c.push_byte.ensures
