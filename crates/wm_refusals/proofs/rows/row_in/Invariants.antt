use Rattle.wm_refusals.proofs.Lines.{AreLeft}
use Rattle.wm_refusals.proofs.rows.row_in.Given as goal

abbrev pub invariant-loop-line : goal.invariant-loop-line
invariant-loop-line l =
    (goal.iterator-loop-line).can_next l.line-iterator ×
    (goal.iterator-loop-line).is_finite l.line-iterator ×
    AreLeft l.fn.table l.line-iterator
