use Rattle.std.proofs.Common.{◌≤◌, List, ℕ, Some, arith, drop, inl, length, map, refl, subst, sym}
use Rattle.wm_command.specs.Several.{IsOfEach, IsRightAt}
use Rattle.wm_command.specs.declared.status.Status.TheVariants.{Io}
use Rattle.wm_command.proofs.SeveralLemmas.{reached_at, reached_cut, reached_end, reached_none}
use Rattle.wm_command.proofs.several.execute_each.Goals as goal

pub loop-name-init : goal.loop-name-init
loop-name-init g c = reached_none _ _ _ c.new-progress.ensures

pub returns-in-Err : goal.returns-in-Err
returns-in-Err g c =
    let all = map (λ s. s.now) c.args.names.now in
    let right = λ (name : List ℕ). IsRightAt (g.O.Opens.held_at c.args.files.now) c.args.line.now (Some name) in
    subst (IsOfEach right all) (sym c.greater_of.ensures) (reached_cut right all (drop c.loop-name.name-index all) c.loop-name.progress.worst Io c.loop-name.invariant (inl refl))

pub loop-name-preserved : goal.loop-name-preserved
loop-name-preserved g c =
    let right = λ (name : List ℕ). IsRightAt (g.O.Opens.held_at c.args.files.now) c.args.line.now (Some name) in
    reached_at right c.args.names.now c.loop-name.name-index _ c.loop-name.progress.worst c.in-Ok.ensures.0 c.in-Ok.next.worst c.loop-name-test.true c.loop-name.invariant c.in-Ok.ensures.1 c.in-Ok.ensures.2

pub returns : goal.returns
returns g c =
    let right = λ (name : List ℕ). IsRightAt (g.O.Opens.held_at c.args.files.now) c.args.line.now (Some name) in
    let le : length c.args.names.now ≤ c.loop-name.name-index = omega (arith, c.loop-name-test.false) in
    reached_end right c.args.names.now c.loop-name.name-index c.loop-name.progress.worst le c.loop-name.invariant
