use Rattle.std.proofs.Common.{◌≡◌, ◌∙◌, ℕ, Err}
use Rattle.wm_syntax.specs.declared.profile.Profile.{Profile}
use Rattle.wm_syntax.specs.Modules.{Module}
use Rattle.wm_rules.specs.declared.policy.Policy.{Policy}
use Rattle.wm_rules.specs.Loading.{Loads}
use Rattle.wm_write.specs.Layout.{layout}
use Rattle.wm_c.specs.Answers.{IsRight}
use Rattle.wm_c.specs.Conversions.{IsRefused}
use Rattle.wm_c.proofs.Conversions.{converted, misusing, refused_from}
use Rattle.wm_c.proofs.Statuses.{as_asked}
use Rattle.wm_c.proofs.convert.wmod_show.Goals as goal
use Rattle.wm_c.proofs.convert.wmod_show.Goals.{in-Some+in-Ok, in-Some+in-Err, in-None}

pub returns-clause-converted : goal.returns-clause-converted
returns-clause-converted c =
    let o = c.args.options.now in let input = c.args.bytes.now in let Of : Profile → ℕ → Policy → Module → Type 0 = λ p limit q m. Loads p limit q input m in
    elim c.match-asked.branch [
      | in-Some+in-Ok w ↦ converted Of layout (IsRefused input) o _ w.deref.result.now c.args.out.now _ c.match-asked.out _ c.match-asked.output
          (as_asked o _ _ _ _ w.in-Some.ensures (λ (p : Profile) (limit : ℕ) (q : Policy). (m : Module) × Of p limit q m × (w.in-Ok.text.items ≡ layout m)) w.in-Ok.ensures.made)
          w.deref.ensures.value w.filled.ensures.whole w.filled.ensures.room w.out-is w.output-is
      | in-Some+in-Err w ↦ refused_from layout o input c.args.out.now c.match-asked.out w.in-Err.refusal c.match-asked.output
          (as_asked o _ _ _ _ w.in-Some.ensures (λ (p : Profile) (limit : ℕ) (q : Policy). IsRight p limit q input (Err w.in-Err.refusal)) w.in-Err.ensures.refused)
          (w.output-is ∙ w.refused.ensures) w.out-is
      | in-None w ↦ misusing Of layout (IsRefused input) o c.args.out.now c.match-asked.out c.match-asked.output (w.output-is ∙ w.misused.ensures) w.in-None.ensures w.out-is
    ]
