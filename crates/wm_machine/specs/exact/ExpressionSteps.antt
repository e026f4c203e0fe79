-- Exact answers of the reader of an expression.
use Rattle.std.specs.Prelude.{ℕ, zero, suc, ◌-◌, ◌^◌, nat_lt, if◌then◌else◌, Option, Some, None}
use Rattle.wm_syntax.specs.inner.Numbers.{Partial}
use Rattle.wm_syntax.specs.exact.Reading.{fresh, unsigned_push}
use Rattle.wm_syntax.specs.declared.profile.Profile.{Profile}
use Rattle.wm_syntax.specs.declared.why.Why.{Why}
use Rattle.wm_syntax.specs.declared.why.Why.TheVariants as why
use Rattle.wm_syntax.specs.declared.instructions.Op.{Op}
use Rattle.wm_syntax.specs.declared.instructions.Op.TheVariants as op
use Rattle.wm_machine.specs.declared.step.reading.Reading.{Reading}
use Rattle.wm_machine.specs.declared.step.reading.Reading.TheVariants.{More, Done, Bad}
use Rattle.wm_machine.specs.declared.step.ops.InOp.{InOp}
use Rattle.wm_machine.specs.declared.step.ops.InOp.TheVariants.{First}
use Rattle.wm_machine.specs.declared.step.expressions.InExpression.{InExpression}
use Rattle.wm_machine.specs.declared.step.expressions.InExpression.TheVariants as expression
use Rattle.wm_machine.specs.exact.OpSteps.{on_answer, op_push}

abbrev pub at_next_op : ℕ → InExpression
at_next_op depth = expression.Op depth First

abbrev pub start : InExpression
start = at_next_op 0

-- one more open block, at most 2^32 - 1
abbrev pub deeper : ℕ → ℕ
deeper depth = if nat_lt depth (2 ^ 32 - 1) then suc depth else depth

-- the state after an `end` with this many blocks open before it
abbrev pub ends : ℕ → InExpression
ends zero = expression.Over
ends (suc n) = at_next_op n

abbrev pub after_op : ℕ → Op → InExpression
after_op depth (op.Block t) = at_next_op (deeper depth)
after_op depth (op.Loop t) = at_next_op (deeper depth)
after_op depth (op.If t) = at_next_op (deeper depth)
after_op depth op.End = ends depth
after_op depth (op.BrTable n) = expression.Label depth n fresh
after_op depth o = at_next_op depth

-- the state after a label, with this many labels after it
abbrev pub after_label : ℕ → ℕ → InExpression
after_label depth zero = at_next_op depth
after_label depth (suc n) = expression.Label depth n fresh

abbrev pub expression_failed : Why → InExpression × Option Op
expression_failed w = (expression.Failed w, None)

abbrev pub label_step : ℕ → ℕ → Partial → ℕ → InExpression × Option Op
label_step depth left r c =
    on_answer (unsigned_push 32 r c) (λ s. (expression.Label depth left s, None))
    (λ l. (after_label depth left, Some (op.Label l))) (expression_failed why.BadNumber)

abbrev pub after_reading : ℕ → Reading InOp Op → InExpression × Option Op
after_reading depth (More at) = (expression.Op depth at, None)
after_reading depth (Done o) = (after_op depth o, Some o)
after_reading depth (Bad w) = expression_failed w

abbrev pub op_step : Profile → ℕ → InOp → ℕ → InExpression × Option Op
op_step p depth at c = after_reading depth (op_push p at c)

abbrev pub expression_step : Profile → InExpression → ℕ → InExpression × Option Op
expression_step p (expression.Op depth at) c = op_step p depth at c
expression_step p (expression.Label depth left r) c = label_step depth left r c
expression_step p expression.Over c = expression_failed why.SectionEnd
expression_step p (expression.Failed w) c = expression_failed why.SectionEnd
