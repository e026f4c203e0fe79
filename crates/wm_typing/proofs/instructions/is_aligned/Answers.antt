-- From 4 on the power is above every width.
use Rattle.std.proofs.Common.{◌≡◌, ◌<◌, ◌≤◌, ◌^◌, false, lit<, sym, ◌∙◌, arith}
use Rattle.std.specs.Prelude.{nat_le, nat_lt}
use Rattle.std.proofs.Math.Nat.{pow-le-pow_right}
use Rattle.std.proofs.lemmas.Bool.Decides.{nat_tests}
use Rattle.wm_typing.proofs.instructions.is_aligned.Goals as goal

pub returns-else-align-lt4 : goal.returns-else-align-lt4
returns-else-align-lt4 c =
    let p : 2 ^ 4 ≤ 2 ^ c.args.align = pow-le-pow_right (lit< tt) c.if-align-lt4.false in
    let w : c.args.width < 2 ^ c.args.align = omega (arith, p, c.requires) in
    let a : nat_lt c.args.align 4 ≡ false = grind (arith, nat_tests) in
    let b : nat_le (2 ^ c.args.align) c.args.width ≡ false = grind (arith, nat_tests) in
    a ∙ sym b
