use Rattle.std.proofs.Common.{rules, sym, subst, SFits, w64}
use Rattle.std.proofs.lemmas.Int.{to_z-of_z}
use Rattle.wm_machine.specs.exact.OpSteps.{const_64_op}
use Rattle.wm_shortcuts.specs.exact.WholeOps.{WholeOp}
use Rattle.wm_shortcuts.proofs.OpLists.{whole_const_64}
use Rattle.wm_shortcuts.proofs.whole_ops.const_64.Goals as goal

pub returns : goal.returns
returns c =
    let z = c.in_ok-number.number in
    let fits : SFits w64 z.value = search rules in
    subst (λ v. WholeOp c.args.bytes.now c.args.at z.next c.args.depth c.args.depth (const_64_op v)) (sym (to_z-of_z w64 z.value fits))
    (whole_const_64 c.args.bytes.now c.args.at z.next c.args.depth z.value c.requires.first c.in_ok-number.ensures)
