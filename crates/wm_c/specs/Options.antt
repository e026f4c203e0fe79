-- The options of a call from C, and which of them are in range.
use Rattle.std.specs.Prelude.{◌≡◌, ◌≤◌, ◌^◌, ℕ, Option, Some, None, if◌then◌else◌, nat_eq, nat_lt}
use Rattle.wm_syntax.specs.declared.profile.Profile.{Profile}
use Rattle.wm_rules.specs.declared.policy.Policy.{Policy}
use Rattle.wm_read.specs.declared.spellings.Spellings.{Spellings}
use Rattle.wm_read.specs.declared.spellings.Spellings.TheVariants.{Standard, Older}
use Rattle.wm_c.specs.declared.options.Options.{Options}
use Rattle.wm_c.specs.Codes.{IsProfileCode}

-- The limit of a policy for a number. A number from 2^32 up is no limit.
abbrev pub limit_of : ℕ → Option ℕ
limit_of n = if nat_lt n (2 ^ 32) then Some n else None

-- The policy that the options ask for.
abbrev pub policy_of : Options → Policy
policy_of o = record {
  functions = limit_of o.functions;
  locals = limit_of o.locals;
  depth = limit_of o.depth;
}

-- The spellings for a number: `Older` for 1, and `Standard` for any other.
abbrev pub spellings_by : ℕ → Spellings
spellings_by n = if nat_eq n 1 then Older else Standard

-- The spellings that the options ask for.
abbrev pub spellings_of : Options → Spellings
spellings_of o = spellings_by o.old_words

-- The options are in range, and ask for this profile.
pub record Asks (o : Options) (p : Profile) : Type 0 where
  pub size : o.size ≡ 56
  pub profile : IsProfileCode o.profile p
  pub max_bytes : o.max_bytes ≤ 2 ^ 62
  pub old_words : o.old_words ≤ 1

-- The options are in range, and P holds for the profile, the limit and the policy that they ask for.
abbrev pub Asking : Options → (Profile → ℕ → Policy → Type 0) → Type 0
Asking o P = (p : Profile) × Asks o p × P p o.max_bytes (policy_of o)

-- The options with this profile's number and this limit, no policy and the standard spellings.
abbrev pub plain_options : ℕ → ℕ → Options
plain_options profile limit = record {
  size = 56;
  profile = profile;
  max_bytes = limit;
  functions = 2 ^ 32;
  locals = 2 ^ 32;
  depth = 2 ^ 32;
  old_words = 0;
}
