-- The place of a byte in a module.
use Rattle.std.specs.Prelude.{◌≡◌, ℕ, List, Option, length}
use Rattle.wm_syntax.specs.declared.profile.Profile.{Profile}
use Rattle.wm_machine.specs.declared.machine.Machine.{Machine}
use Rattle.wm_machine.specs.declared.machine.Machine.TheVariants as machine
use Rattle.wm_machine.specs.exact.Live.{IsRefused}
use Rattle.wm_machine.specs.exact.Runs.{state_after, state_at_start}
use Rattle.wm_decode.specs.declared.place.Place.{Place}
use Rattle.wm_decode.specs.declared.place.Snapshot.{Snapshot}
use Rattle.wm_decode.specs.exact.Awaited.{machine_from, place_in}

-- the machine after these bytes of an input
abbrev pub machine_after : Profile → List ℕ → Machine
machine_after p bytes = machine_from p (machine.Header 0) bytes

-- The place of the byte after these bytes. `None` in the header and before the id of a section.
abbrev pub place_after : Profile → List ℕ → Option Place
place_after p bytes = place_in (machine_after p bytes)

-- The snapshot was made after these bytes, of which none was refused.
pub record IsAfter (s : Snapshot) (p : Profile) (bytes : List ℕ) : Type 0 where
  pub profile : s.profile ≡ p
  pub machine : s.machine ≡ machine_after p bytes
  pub at : s.at ≡ length bytes

-- the format refuses none of these bytes
abbrev pub GoesOn : Profile → List ℕ → Type 0
GoesOn p bytes = IsRefused (state_after p state_at_start bytes).machine → ⊥
