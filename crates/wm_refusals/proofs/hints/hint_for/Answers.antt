use Rattle.std.proofs.Common.{ℕ, List, Contains, ap, subst, ◌∙◌}
use Rattle.std.specs.Str.Iter.{lines_rest}
use Rattle.std.specs.Str.Lines.{lines}
use Rattle.wm_refusals.specs.declared.hints.TheConstants.{OF_FEATURES}
use Rattle.wm_refusals.proofs.Lines.{all_left, next_left}
use Rattle.wm_refusals.proofs.hints.hint_for.Goals as goal

pub loop-line-init : goal.loop-line-init
loop-line-init c =
    (tt, tt, all_left OF_FEATURES.now c.into_iter-line-iterator.result (ap lines_rest c.into_iter-line-iterator.ensures.into_iter_gives ∙ c.lines-line-items.ensures.rest))

pub returns-in-Some-of-clause-line : goal.returns-in-Some-of-clause-line
returns-in-Some-of-clause-line c =
    subst (λ (v : List ℕ). Contains (lines OF_FEATURES.now) v) c.in-Some-of.ensures
    (next_left OF_FEATURES.now _ c.next.new.self c.in-Some.line c.loop-line.invariant.2 c.in-Some.ensures.steps).0

pub loop-line-preserved-else-eq : goal.loop-line-preserved-else-eq
loop-line-preserved-else-eq c =
    (tt, tt, (next_left OF_FEATURES.now _ c.next.new.self c.in-Some.line c.loop-line.invariant.2 c.in-Some.ensures.steps).1)

pub loop-line-preserved-else-is_for : goal.loop-line-preserved-else-is_for
loop-line-preserved-else-is_for c =
    (tt, tt, (next_left OF_FEATURES.now _ c.next.new.self c.in-Some.line c.loop-line.invariant.2 c.in-Some.ensures.steps).1)

pub loop-line-preserved : goal.loop-line-preserved
loop-line-preserved c =
    (tt, tt, (next_left OF_FEATURES.now _ c.next.new.self c.in-Some.line c.loop-line.invariant.2 c.in-Some.ensures.steps).1)
