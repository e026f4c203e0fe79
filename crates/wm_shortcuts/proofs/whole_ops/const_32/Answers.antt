use Rattle.std.proofs.Common.{rules, sym, subst, SFits, w32}
use Rattle.std.proofs.lemmas.Int.{to_z-of_z}
use Rattle.wm_machine.specs.exact.OpSteps.{const_32_op}
use Rattle.wm_shortcuts.specs.exact.WholeOps.{WholeOp}
use Rattle.wm_shortcuts.proofs.OpLists.{whole_const_32}
use Rattle.wm_shortcuts.proofs.whole_ops.const_32.Goals as goal

pub returns : goal.returns
returns c =
    let z = c.in_ok-number.number in
    let fits : SFits w32 z.value = search rules in
    subst (λ v. WholeOp c.args.bytes.now c.args.at z.next c.args.depth c.args.depth (const_32_op v)) (sym (to_z-of_z w32 z.value fits))
    (whole_const_32 c.args.bytes.now c.args.at z.next c.args.depth z.value c.requires.first c.in_ok-number.ensures)
