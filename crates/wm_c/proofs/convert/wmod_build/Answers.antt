use Rattle.std.proofs.Common.{◌≡◌, ◌∙◌, ◌<◌, ◌+◌, ℕ, Result, Ok, Err, ap, length, subst, sym}
use Rattle.wm_syntax.specs.declared.profile.Profile.{Profile}
use Rattle.wm_syntax.specs.Modules.{Module}
use Rattle.wm_rules.specs.declared.policy.Policy.{Policy}
use Rattle.wm_read.specs.declared.spellings.Spellings.{Spellings}
use Rattle.wm_write.specs.Canon.{canon}
use Rattle.wm_c.specs.declared.output.Output.{Output}
use Rattle.wm_c.specs.declared.output.Unbuilt.{Unbuilt}
use Rattle.wm_c.specs.declared.output.Unbuilt.TheVariants.{TooLong}
use Rattle.wm_c.specs.Conversions.{Builds, IsUnbuilt, unbuilt}
use Rattle.wm_c.specs.Options.{spellings_of}
use Rattle.wm_c.proofs.Conversions.{converted, misusing, unbuilt_from}
use Rattle.wm_c.proofs.Statuses.{as_asked}
use Rattle.wm_c.proofs.convert.wmod_build.Goals as goal
use Rattle.wm_c.proofs.convert.wmod_build.Goals.{in-Some+in-Ok, in-Some+in-Err, in-None}

pub returns-clause-converted : goal.returns-clause-converted
returns-clause-converted c =
    let o = c.args.options.now in let input = c.args.text.now in
    let R : Profile → ℕ → Policy → Output → Type 0 = λ p limit q out. (u : Unbuilt) × IsUnbuilt (spellings_of o) input p limit q u × (out ≡ unbuilt u) in
    elim c.match-asked.branch [
      | in-Some+in-Ok w ↦
          let a = w.in-Some.asked in
          converted (Builds (spellings_of o) input) canon R o _ w.deref.result.now c.args.out.now _ c.match-asked.out _ c.match-asked.output
          (as_asked o a.profile a.max_bytes a.policy a.spellings w.in-Some.ensures (λ (p : Profile) (limit : ℕ) (q : Policy). (m : Module) × Builds (spellings_of o) input p limit q m × (w.in-Ok.binary.items ≡ canon m))
          (subst (λ (s : Spellings). (m : Module) × Builds s input a.profile a.max_bytes a.policy m × (w.in-Ok.binary.items ≡ canon m)) w.in-Some.ensures.3 w.in-Ok.ensures.made))
          w.deref.ensures.value w.filled.ensures.whole w.filled.ensures.room w.out-is w.output-is
      | in-Some+in-Err w ↦
          let a = w.in-Some.asked in let u = w.in-Err.unbuilt in
          unbuilt_from o input c.args.out.now c.match-asked.out u c.match-asked.output
          (as_asked o a.profile a.max_bytes a.policy a.spellings w.in-Some.ensures (λ (p : Profile) (limit : ℕ) (q : Policy). IsUnbuilt (spellings_of o) input p limit q u)
          (subst (λ (s : Spellings). IsUnbuilt s input a.profile a.max_bytes a.policy u) w.in-Some.ensures.3 w.in-Err.ensures.unbuilt))
          (w.output-is ∙ w.unbuilt.ensures) w.out-is
      | in-None w ↦ misusing (Builds (spellings_of o) input) canon R o c.args.out.now c.match-asked.out c.match-asked.output (w.output-is ∙ w.misused.ensures) w.in-None.ensures w.out-is
    ]

clash : {A B : Type 0} (x : A) (y : B) → ◌≡◌ {A = Result A B} (Ok x) (Err y) → ⊥
clash x y e = cc

same : {A B : Type 0} (x y : B) → ◌≡◌ {A = Result A B} (Err x) (Err y) → x ≡ y
same x y e = cc

pub returns-clause-too_long : goal.returns-clause-too_long
returns-clause-too_long c used longer =
    elim c.match-asked.branch [
      | in-Some+in-Ok w ↦
          let most = w.in-Some.ensures.1 in
          absurd (clash _ _ (w.in-Ok.ensures.too_long (subst (λ (n : ℕ). n < length c.args.text.now) (sym most) longer)))
      | in-Some+in-Err w ↦
          let most = w.in-Some.ensures.1 in
          w.output-is ∙ w.unbuilt.ensures ∙ ap unbuilt (same _ _ (w.in-Err.ensures.too_long (subst (λ (n : ℕ). n < length c.args.text.now) (sym most) longer))
          ∙ ap (λ (n : ℕ). TooLong (n + 1)) most)
      | in-None w ↦ absurd (used (ap (λ (x : Output). x.status) (w.output-is ∙ w.misused.ensures)))
    ]
