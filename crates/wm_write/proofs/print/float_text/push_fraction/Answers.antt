use Rattle.std.proofs.Common.{[], ◌∷◌}
use Rattle.wm_write.specs.FloatText.{places}
use Rattle.wm_write.proofs.FloatPieces.{no_fraction, same_piece, some_fraction, two_pieces}
use Rattle.wm_write.proofs.print.float_text.push_fraction.Goals as goal

pub returns-then-n-eq0-clause-text : goal.returns-then-n-eq0-clause-text
returns-then-n-eq0-clause-text c = no_fraction c.args.line.now c.args.n c.if-n-eq0.true

pub returns-clause-text : goal.returns-clause-text
returns-clause-text c =
    same_piece c.args.line.now c.push_places.new.line _ _
    (two_pieces c.args.line.now c.push_byte.new.self c.push_places.new.line (46 ∷ []) (places 13 c.args.n) c.push_byte.ensures c.push_places.ensures.text)
    (some_fraction c.args.n c.if-n-eq0.false)
