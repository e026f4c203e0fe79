use Rattle.std.proofs.Common.{ℕ}
use Rattle.wm_syntax.specs.declared.profile.Profile.{Profile}
use Rattle.wm_rules.specs.declared.policy.Policy.{Policy}
use Rattle.wm_rules.specs.Validation.{Accepted}
use Rattle.wm_c.proofs.Statuses.{as_asked, refused_right, valid_right}
use Rattle.wm_c.proofs.whole.judged.Goals as goal

pub returns-in-Some-clause-valid : goal.returns-in-Some-clause-valid
returns-in-Some-clause-valid c is_none =
    let a = c.in-Some.asked in let bytes = c.args.bytes.now in
    as_asked c.args.options.now a.profile a.max_bytes a.policy a.spellings c.in-Some.ensures
    (λ (p : Profile) (limit : ℕ) (q : Policy). Accepted p limit q bytes)
    (valid_right a.profile a.max_bytes a.policy bytes c.found.result c.of.result c.of.ensures
    (c.found.ensures.right a.profile a.max_bytes a.policy bytes c.read.ensures) is_none)

pub returns-in-Some-clause-refused : goal.returns-in-Some-clause-refused
returns-in-Some-clause-refused c is_one =
    let a = c.in-Some.asked in let bytes = c.args.bytes.now in
    as_asked c.args.options.now a.profile a.max_bytes a.policy a.spellings c.in-Some.ensures
    (λ (p : Profile) (limit : ℕ) (q : Policy). Accepted p limit q bytes → ⊥)
    (refused_right a.profile a.max_bytes a.policy bytes c.found.result c.of.result c.of.ensures
    (c.found.ensures.right a.profile a.max_bytes a.policy bytes c.read.ensures) is_one)
