-- The bit is set or cleared, and no other changes.
use Rattle.std.proofs.Common.{sym, ◌∙◌, ◌%◌, arith}
use Rattle.wm_stacks.proofs.WidthWords.{one_there, one_apart, none_there, none_apart}
use Rattle.wm_stacks.proofs.widths.with_bit.Goals as goal

pub returns-then-wide-clause-there : goal.returns-then-wide-clause-there
returns-then-wide-clause-there c = one_there c.args.word (c.args.at % 64) (omega arith) ∙ sym c.if-wide.true

pub returns-then-wide-clause-others : goal.returns-then-wide-clause-others
returns-then-wide-clause-others c = λ i l n. one_apart c.args.word (c.args.at % 64) i (omega arith) n

pub returns-else-wide-clause-there : goal.returns-else-wide-clause-there
returns-else-wide-clause-there c = none_there c.args.word (c.args.at % 64) (omega arith) ∙ sym c.if-wide.false

pub returns-else-wide-clause-others : goal.returns-else-wide-clause-others
returns-else-wide-clause-others c = λ i l n. none_apart c.args.word (c.args.at % 64) i (omega arith) l n
