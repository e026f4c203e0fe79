-- The output of each action is right for its input.
use Rattle.std.proofs.Common.{Err, IfSome, ap, subst, sym}
use Rattle.wm_rules.specs.Reading.{LoadedInput, ValidInput}
use Rattle.wm_rules.specs.inner.Loaders.{module_in}
use Rattle.wm_syntax.specs.Values.{value_of}
use Rattle.wm_write.specs.Canon.{canon}
use Rattle.wm_write.specs.Layout.{layout}
use Rattle.wm_command.specs.Outcome.{IsOutput, IsRightFor}
use Rattle.wm_command.specs.Refused.{refusal_line}
use Rattle.wm_command.specs.declared.status.Status.TheVariants as status
use Rattle.wm_command.proofs.RunLemmas.{IsJudged, not_both, out_of_fault, out_of_loaded, writes_canon, writes_layout}
use Rattle.wm_command.proofs.run.run.Goals as goal

pub returns-in-Err-clause-answered : goal.returns-in-Err-clause-answered
returns-in-Err-clause-answered g c = λ o m.
    let told = c.answer_fault.ensures.answered (λ e. not_both _ (c.in-Err.ensures.failed.0 (ap Err e)) o) m in
    let r = told.0 in
    let out =
    out_of_fault (ValidInput c.args.profile c.args.limit c.args.policy) c.args.action (subst IsJudged (sym c.in-Check.is) tt) c.args.profile c.args.limit c.args.policy c.args.spellings
    (g.R.Source.remaining c.args.r.now) (g.R.Source.remaining c.validate_from.new.r) c.in-Err.fault c.in-Err.ensures.judged r told.1 told.2
    in (refusal_line r.at r.why, status.Refused, out.0, out.1, told.3)

pub returns-in-Err-validate_from-clause-answered : goal.returns-in-Err-validate_from-clause-answered
returns-in-Err-validate_from-clause-answered g c = λ o m.
    let told = c.answer_fault-in-Err-validate_from.ensures.answered (λ e. not_both _ (c.in-Err-validate_from.ensures.failed.0 (ap Err e)) o) m in
    let r = told.0 in
    let out =
    out_of_fault (ValidInput c.args.profile c.args.limit c.args.policy) c.args.action (subst IsJudged (sym c.in-Stats.is) tt) c.args.profile c.args.limit c.args.policy c.args.spellings
    (g.R.Source.remaining c.args.r.now) (g.R.Source.remaining c.validate_from-in-Stats.new.r) c.in-Err-validate_from.fault c.in-Err-validate_from.ensures.judged r told.1 told.2
    in (refusal_line r.at r.why, status.Refused, out.0, out.1, told.3)

pub returns-in-Err-load_from-clause-answered : goal.returns-in-Err-load_from-clause-answered
returns-in-Err-load_from-clause-answered g c = λ o m.
    let told = c.answer_fault-in-Err-load_from.ensures.answered (λ e. not_both _ (c.in-Err-load_from.ensures.failed.0 (ap Err e)) o) m in
    let r = told.0 in
    let out =
    out_of_fault (LoadedInput c.args.profile c.args.limit c.args.policy) c.args.action (subst IsJudged (sym c.in-Canon.is) tt) c.args.profile c.args.limit c.args.policy c.args.spellings
    (g.R.Source.remaining c.args.r.now) (g.R.Source.remaining c.load_from.new.r) c.in-Err-load_from.fault c.in-Err-load_from.ensures.loaded r told.1 told.2
    in (refusal_line r.at r.why, status.Refused, out.0, out.1, told.3)

pub returns-in-Err-load_from-2-clause-answered : goal.returns-in-Err-load_from-2-clause-answered
returns-in-Err-load_from-2-clause-answered g c = λ o m.
    let told = c.answer_fault-in-Err-load_from-2.ensures.answered (λ e. not_both _ (c.in-Err-load_from-2.ensures.failed.0 (ap Err e)) o) m in
    let r = told.0 in
    let out =
    out_of_fault (LoadedInput c.args.profile c.args.limit c.args.policy) c.args.action (subst IsJudged (sym c.in-Show.is) tt) c.args.profile c.args.limit c.args.policy c.args.spellings
    (g.R.Source.remaining c.args.r.now) (g.R.Source.remaining c.load_from-in-Show.new.r) c.in-Err-load_from-2.fault c.in-Err-load_from-2.ensures.loaded r told.1 told.2
    in (refusal_line r.at r.why, status.Refused, out.0, out.1, told.3)

pub returns-in-Ok-load_from-clause-answered : goal.returns-in-Ok-load_from-clause-answered
returns-in-Ok-load_from-clause-answered g c = λ o m.
    let checked = c.in-Ok-load_from.checked in
    let out =
    out_of_loaded c.args.action canon (writes_canon c.args.action c.in-Canon.is) c.args.profile c.args.limit c.args.policy c.args.spellings (g.R.Source.remaining c.args.r.now)
    (g.R.Source.remaining c.load_from.new.r) checked c.in-Ok-load_from.ensures.loaded
    in (canon (value_of (module_in checked)), status.Done, out.0, out.1, c.write_canonical.ensures)

pub returns-in-Ok-load_from-2-clause-answered : goal.returns-in-Ok-load_from-2-clause-answered
returns-in-Ok-load_from-2-clause-answered g c = λ o m.
    let checked = c.in-Ok-load_from-2.checked in
    let out =
    out_of_loaded c.args.action layout (writes_layout c.args.action c.in-Show.is) c.args.profile c.args.limit c.args.policy c.args.spellings (g.R.Source.remaining c.args.r.now)
    (g.R.Source.remaining c.load_from-in-Show.new.r) checked c.in-Ok-load_from-2.ensures.loaded
    in (layout (value_of (module_in checked)), status.Done, out.0, out.1, c.write_text.ensures)

pub returns-in-Build-clause-answered : goal.returns-in-Build-clause-answered
returns-in-Build-clause-answered g c = λ o n.
    let out = c.build.ensures.answered o n in
    let is = sym c.in-Build.is in (
      out.0,
      out.1,
      subst (λ a. IsOutput a out.0 out.1) is out.2,
      subst (λ a. IfSome (g.R.Source.remaining c.args.r.now) (λ input. IsRightFor a c.args.profile c.args.limit c.args.policy c.args.spellings input (g.R.Source.remaining c.build.new.r) out.0 out.1)) is out.3,
      out.4,
    )
