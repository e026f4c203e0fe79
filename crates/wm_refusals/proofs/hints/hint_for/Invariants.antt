use Rattle.wm_refusals.specs.declared.hints.TheConstants.{OF_FEATURES}
use Rattle.wm_refusals.proofs.Lines.{AreLeft}
use Rattle.wm_refusals.proofs.hints.hint_for.Given as goal

abbrev pub invariant-loop-line : goal.invariant-loop-line
invariant-loop-line l =
    (goal.iterator-loop-line).can_next l.line-iterator ×
    (goal.iterator-loop-line).is_finite l.line-iterator ×
    AreLeft OF_FEATURES.now l.line-iterator
