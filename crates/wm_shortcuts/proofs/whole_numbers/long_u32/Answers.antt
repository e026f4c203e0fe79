use Rattle.std.proofs.Common.{arith}
use Rattle.wm_syntax.specs.exact.Reading.{unsigned_push}
use Rattle.wm_shortcuts.proofs.WholeNumbers.{range_stands, range_done}
use Rattle.wm_shortcuts.proofs.whole_numbers.long_u32.Goals as goal

pub returns-in-Done : goal.returns-in-Done
returns-in-Done c _ =
    range_done (unsigned_push 32) c.args.bytes.now c.args.at c.loop-i.i c.loop-i.number c.push.new.self c.in-Done.value (omega arith) (omega arith) c.loop-i.invariant c.in-Done.ensures.pushed

pub loop-i-preserved : goal.loop-i-preserved
loop-i-preserved c =
    range_stands (unsigned_push 32) c.args.bytes.now c.args.at c.loop-i.i c.loop-i.number c.push.new.self (omega arith) (omega arith) c.loop-i.invariant c.in-More.ensures.pushed
