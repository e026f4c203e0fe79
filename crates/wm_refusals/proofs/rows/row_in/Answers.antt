use Rattle.std.proofs.Common.{ℕ, List, Contains, ap, subst, ◌∙◌}
use Rattle.std.specs.Str.Iter.{lines_rest}
use Rattle.std.specs.Str.Lines.{lines}
use Rattle.wm_refusals.proofs.Lines.{all_left, next_left}
use Rattle.wm_refusals.proofs.rows.row_in.Goals as goal

pub loop-line-init : goal.loop-line-init
loop-line-init c =
    (tt, tt, all_left c.args.table.now c.into_iter-line-iterator.result (ap lines_rest c.into_iter-line-iterator.ensures.into_iter_gives ∙ c.lines-line-items.ensures.rest))

pub returns-in-Some-of-clause-line : goal.returns-in-Some-of-clause-line
returns-in-Some-of-clause-line c =
    subst (λ (v : List ℕ). Contains (lines c.args.table.now) v) c.in-Some-of.ensures
    (next_left c.args.table.now _ c.next.new.self c.in-Some.line c.loop-line.invariant.2 c.in-Some.ensures.steps).0

pub loop-line-preserved-in-Some-of : goal.loop-line-preserved-in-Some-of
loop-line-preserved-in-Some-of c =
    (tt, tt, (next_left c.args.table.now _ c.next.new.self c.in-Some.line c.loop-line.invariant.2 c.in-Some.ensures.steps).1)

pub loop-line-preserved : goal.loop-line-preserved
loop-line-preserved c =
    (tt, tt, (next_left c.args.table.now _ c.next.new.self c.in-Some.line c.loop-line.invariant.2 c.in-Some.ensures.steps).1)
