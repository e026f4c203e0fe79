-- Exact answers about the header and section headers.
use Rattle.std.specs.Prelude.{◌≡◌, ◌<◌, ◌≤◌, ℕ, List, [], None, length}
use Rattle.wm_syntax.specs.declared.profile.Profile.{Profile}
use Rattle.wm_machine.specs.declared.machine.Machine.{Machine}
use Rattle.wm_machine.specs.declared.machine.Event.TheVariants.{Nothing}
use Rattle.wm_shortcuts.specs.exact.Completed.{Completes}
use Rattle.wm_machine.specs.exact.Steps.{step_of}
use Rattle.wm_machine.specs.exact.Live.{refusal_in_machine}

-- Under every profile, the byte leads from machine m to machine n, which has not refused. It completes nothing.
pub record IsFrameStep (m : Machine) (c : ℕ) (n : Machine) : Type 0 where
  pub steps : (p : Profile) → step_of p m c ≡ (n, Nothing)
  pub goes_on : refusal_in_machine n ≡ None

-- Under the profile, the first `used` bytes lead from m to n and complete nothing. If there are any, n has not refused.
pub record LeadsTo (p : Profile) (bytes : List ℕ) (m : Machine) (used : ℕ) (n : Machine) : Type 0 where
  pub within : used ≤ length bytes
  pub completes : Completes p bytes 0 m [] None used n
  pub goes_on : 0 < used → refusal_in_machine n ≡ None
