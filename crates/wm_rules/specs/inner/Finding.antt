-- The byte at which an input was refused, and its place.
use Rattle.std.specs.Prelude.{◌≡◌, ◌≢◌, ◌-◌, ◌⊎◌, ℕ, List, Option, None, Some, IfSome, Result, Ok, Err, slice_get, take}
use Rattle.wm_syntax.specs.declared.profile.Profile.{Profile}
use Rattle.wm_syntax.specs.declared.why.Why.TheVariants as why
use Rattle.wm_machine.specs.declared.refusal.Refusal.{Refusal}
use Rattle.wm_decode.specs.declared.place.Snapshot.{Snapshot}
use Rattle.wm_decode.specs.inner.Places.{IsAfter, place_after}
use Rattle.wm_rules.specs.declared.found.Found.{Found}
use Rattle.wm_rules.specs.declared.reading.FromFault.{FromFault}
use Rattle.wm_rules.specs.declared.reading.FromFault.TheVariants.{Refused, Io}

-- The place is that of the byte at the offset of the refusal, and it is the refused byte.
pub record IsFound (f : Found) (p : Profile) (bytes : List ℕ) (r : Refusal) : Type 0 where
  pub place : f.place ≡ place_after p (take (r.at - 1) bytes)
  pub byte : r.why ≢ why.Memory → r.why ≢ why.TooLong → f.byte ≡ slice_get bytes (r.at - 1)

-- The place is that of the end of the bytes.
pub record IsFoundAtEnd (f : Found) (p : Profile) (bytes : List ℕ) : Type 0 where
  pub place : f.place ≡ place_after p bytes
  pub byte : f.byte ≡ None

-- The snapshot is that of a decoder after these bytes. No absent one is.
abbrev pub IsAfterAny : Option Snapshot → Profile → List ℕ → Type 0
IsAfterAny None p bytes = ⊥
IsAfterAny (Some s) p bytes = IsAfter s p bytes

-- The place in a refusal of this input is that of the byte that decided, or of the end. Nothing is claimed of a refusal
-- with `Memory`.
abbrev pub IsFoundIn : {A : Type 0} → Profile → List ℕ → Result A FromFault → Type 0
IsFoundIn {A} p input (Ok x) = Unit {0}
IsFoundIn {A} p input (Err (Refused r f)) = r.why ≢ why.Memory → IsFound f p input r ⊎ IsFoundAtEnd f p input
IsFoundIn {A} p input (Err Io) = Unit {0}

-- `IsFoundIn` holds for the bytes of a source. Nothing is claimed if they are unknown.
abbrev pub FindsIn : {A : Type 0} → Profile → Option (List ℕ) → Result A FromFault → Type 0
FindsIn p all result = IfSome all (λ input. IsFoundIn p input result)
