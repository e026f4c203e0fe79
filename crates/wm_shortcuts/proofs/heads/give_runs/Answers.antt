use Rattle.std.proofs.Common.{◌≡◌, suc, ◌-◌, arith, refl}
use Rattle.wm_shortcuts.proofs.Completed.{none_yet, ok, then_refused, then_taken}
use Rattle.wm_shortcuts.proofs.Completed.Gave.{nothing}
use Rattle.wm_shortcuts.proofs.HeadBytes.{head_start, run_completes}
use Rattle.wm_shortcuts.proofs.heads.give_runs.Goals as goal

pub loop-runs-init : goal.loop-runs-init
loop-runs-init g c = record {
  within = omega arith;
  section = omega arith;
  own = omega arith;
  advanced = none_yet (head_start c.args.start);
}

pub returns-in-Err-clause-advances : goal.returns-in-Err-clause-advances
returns-in-Err-clause-advances g c =
    let l = c.loop-runs in
    let x = c.in-Some in
    let one : l.runs ≡ suc (l.runs - 1) = omega arith in
    then_refused refl l.invariant.advanced (run_completes c.args.start l.used one x.ensures.count.0 x.ensures.count.1 x.ensures.typed (omega arith) (omega arith) (omega arith)) (omega arith) nothing refl c.give_locals.result _ refl c.in-Err.is c.give_locals.ensures.given c.give_locals.ensures.room

pub loop-runs-preserved : goal.loop-runs-preserved
loop-runs-preserved g c =
    let l = c.loop-runs in
    let x = c.in-Some in
    let one : l.runs ≡ suc (l.runs - 1) = omega arith in
    record {
      within = omega arith;
      section = omega arith;
      own = omega arith;
      advanced = then_taken refl l.invariant.advanced (run_completes c.args.start l.used one x.ensures.count.0 x.ensures.count.1 x.ensures.typed (omega arith) (omega arith) (omega arith)) (omega arith) nothing refl ok _ refl refl c.in_default-give_locals.ensures.given tt;
    }
