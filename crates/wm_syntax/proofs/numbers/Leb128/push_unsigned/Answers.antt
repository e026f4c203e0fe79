use Rattle.wm_syntax.specs.inner.Numbers.{Partial}
use Rattle.wm_syntax.proofs.Readers.{unsigned_in_range, unsigned_reads}
use Rattle.wm_syntax.proofs.numbers.Leb128.push_unsigned.Goals as goal

pub returns-clause-answers : goal.returns-clause-answers
returns-clause-answers c = λ before a.
    let inner : Partial = record { low = c.self.inside.low; count = c.self.inside.count } in
    (unsigned_reads c.args.bits c.requires c.advance_unsigned-step.result inner c.args.self.now c.args.byte c.advance_unsigned-step.ensures c.self.view_is c.ranges.byte.fits before a).0

pub returns-clause-after : goal.returns-clause-after
returns-clause-after c = λ before a.
    let inner : Partial = record { low = c.self.inside.low; count = c.self.inside.count } in
    rw c.next.view_is ((unsigned_reads c.args.bits c.requires c.advance_unsigned-step.result inner c.args.self.now c.args.byte c.advance_unsigned-step.ensures c.self.view_is c.ranges.byte.fits before a).1)

pub returns-clause-range : goal.returns-clause-range
returns-clause-range c =
    let inner : Partial = record { low = c.self.inside.low; count = c.self.inside.count } in
    unsigned_in_range c.args.bits c.advance_unsigned-step.result inner c.args.byte c.advance_unsigned-step.ensures c.self.invariant.1
