use Rattle.std.proofs.Common.{◌≤◌, ◌+◌, ◌^◌, arith}
use Rattle.std.proofs.lemmas.Bool.Decides.{nat_tests}
use Rattle.wm_syntax.proofs.Room.{above_pow}
use Rattle.wm_syntax.proofs.numbers.fits_below.Goals as goal

pub returns-then-bits-gt5 : goal.returns-then-bits-gt5
returns-then-bits-gt5 c =
    let h : 128 ≤ c.args.byte + 2 ^ c.args.bits = above_pow c.args.bits c.args.byte c.if-bits-gt5.true c.requires.from in
    grind (arith, nat_tests, h)
