use Rattle.std.proofs.Common.{◌≡◌, MatchOption, None, Option, Some}
use Rattle.wm_c.proofs.options.Options.asked.Goals as goal

-- an absent value is right
absent : {T A : Type 0} (B : T → Type 0) (o : Option T) → o ≡ None → A → MatchOption o A B
absent B None is a = a
absent B (Some x) is a = absurd (cc)

pub returns-in_err-profile : goal.returns-in_err-profile
returns-in_err-profile c = absent _ c.from_residual.result c.from_residual.ensures (λ p asks. c.in_err-profile.ensures p asks.profile)
