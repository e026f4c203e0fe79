-- A refusal that is right for all continuations of the bytes is right for the bytes.
use Rattle.std.proofs.Common.{◌≡◌, ◌++◌, List, ℕ, [], Result, Err, append-nil, subst}
use Rattle.wm_machine.specs.declared.refusal.Refusal.{Refusal}
use Rattle.wm_rules.specs.declared.checker.Summary.{Summary}
use Rattle.wm_rules.specs.inner.Validators.{verdict}
use Rattle.wm_rules.specs.Meanings.{Meaning}
use Rattle.wm_rules.specs.Validation.{Accepted}
use Rattle.wm_c.proofs.convert.load.Goals as goal

of_these : (P : List ℕ → Type 0) (bytes : List ℕ) → ((more : List ℕ) → P (([] ++ bytes) ++ more)) → P bytes
of_these P bytes said = subst P (append-nil bytes) (said [])

pub returns-in-Err-clause-refused : goal.returns-in-Err-clause-refused
returns-in-Err-clause-refused c =
    let a = c.args.asked in let bytes = c.args.bytes.now in let r = c.in-Err.refusal in
    let told : Result Summary Refusal = Err r in let begun = c.new-loader.ensures in (
      (λ n. (
        of_these (λ (b : List ℕ). Accepted a.profile a.max_bytes a.policy b → ⊥) bytes (c.in-Err.ensures.never n a.profile a.max_bytes a.policy [] begun),
        of_these (λ (b : List ℕ). verdict a.profile a.max_bytes a.policy b ≡ told) bytes (c.in-Err.ensures.same n a.profile a.max_bytes a.policy [] begun),
        of_these (λ (b : List ℕ). Meaning a.profile a.max_bytes a.policy b r) bytes (c.in-Err.ensures.means n a.profile a.max_bytes a.policy [] begun),
      )),
      c.in-Err.ensures.place a.profile a.max_bytes a.policy [] begun,
    )

pub returns-in-Err-finish-clause-refused : goal.returns-in-Err-finish-clause-refused
returns-in-Err-finish-clause-refused c =
    let a = c.args.asked in let bytes = c.args.bytes.now in
    let read = c.in-Ok.ensures.read a.profile a.max_bytes a.policy [] c.new-loader.ensures in (
      (λ n. (
        c.in-Err-finish.ensures.refused n a.profile a.max_bytes a.policy bytes read,
        c.in-Err-finish.ensures.same n a.profile a.max_bytes a.policy bytes read,
        c.in-Err-finish.ensures.means n a.profile a.max_bytes a.policy bytes read,
      )),
      c.in-Err-finish.ensures.place a.profile a.max_bytes a.policy bytes read,
    )
