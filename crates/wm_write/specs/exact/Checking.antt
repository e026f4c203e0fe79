-- The facts about the canonical binary of a module that is to be checked.
use Rattle.std.specs.Prelude.{◌≡◌, ℕ, List}
use Rattle.wm_syntax.specs.declared.profile.Profile.{Profile}
use Rattle.wm_syntax.specs.Modules.{IsModule, Module}
use Rattle.wm_write.specs.Canon.{FitsUnder, canon_under}

-- The bytes are the module's canonical binary as the profile reads it, its sections fit, and its numbers are in range.
pub record SpelledFor (p : Profile) (m : Module) (bytes : List ℕ) : Type 0 where
  pub is : bytes ≡ canon_under p m
  pub in_range : IsModule m
  pub fits : FitsUnder p m
