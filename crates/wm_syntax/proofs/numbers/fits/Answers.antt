use Rattle.std.proofs.Common.{sym, ◌∙◌}
use Rattle.std.proofs.lemmas.Bool.{lt-ltb}
use Rattle.wm_syntax.proofs.Room.{below_pow}
use Rattle.wm_syntax.proofs.numbers.fits.Goals as goal

pub returns-then-bits-gt6 : goal.returns-then-bits-gt6
returns-then-bits-gt6 c = lt-ltb _ _ c.if-bits-gt6.true ∙ sym (lt-ltb _ _ (below_pow c.args.bits c.args.byte c.if-bits-gt6.true c.requires))
