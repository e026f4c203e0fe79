use Rattle.std.proofs.Common.{arith, rules, sym, subst, ◌+◌, SFits, w64}
use Rattle.std.proofs.lemmas.Int.{to_z-of_z}
use Rattle.wm_shortcuts.specs.exact.WholeOps.{LiesAt}
use Rattle.wm_syntax.specs.exact.Reading.{signed_push}
use Rattle.wm_shortcuts.proofs.WholeNumbers.{range_stands, range_done}
use Rattle.wm_shortcuts.proofs.whole_numbers.long_s64.Goals as goal

pub returns-in-Done : goal.returns-in-Done
returns-in-Done c _ =
    let fits : SFits w64 c.in-Done.value = search rules in
    subst (λ v. LiesAt (signed_push 64) c.args.bytes.now c.args.at (c.loop-i.i + 1) v) (sym (to_z-of_z w64 c.in-Done.value fits)) (range_done (signed_push 64) c.args.bytes.now c.args.at c.loop-i.i c.loop-i.number c.push.new.self c.in-Done.value (omega arith) (omega arith) c.loop-i.invariant c.in-Done.ensures.pushed)

pub loop-i-preserved : goal.loop-i-preserved
loop-i-preserved c =
    range_stands (signed_push 64) c.args.bytes.now c.args.at c.loop-i.i c.loop-i.number c.push.new.self (omega arith) (omega arith) c.loop-i.invariant c.in-More.ensures.pushed
