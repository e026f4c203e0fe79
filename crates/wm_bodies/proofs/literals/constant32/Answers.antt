use Rattle.std.proofs.Common.{◌∙◌, Some, ap, arith, w32, ℤ}
use Rattle.std.proofs.lemmas.Int.{to_z_pos}
use Rattle.wm_bodies.proofs.Numbers.{short_constant}
use Rattle.wm_bodies.proofs.literals.constant32.Goals as goal

pub returns-in-Some : goal.returns-in-Some
returns-in-Some c = ap (λ (z : ℤ). Some z) (to_z_pos w32 c.in-Some.short (omega (arith, c.in-Some.ensures.small))) ∙ short_constant c.args.atom.now c.in-Some.short c.in-Some.ensures.value c.in-Some.ensures.small
