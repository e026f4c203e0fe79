-- The bytes that a writer received, and the status that a run returns.
use Rattle.std.specs.Prelude.{◌≡◌, ℕ, ◌≤◌, Bool, true, false, List, Option, length, take}
use Rattle.std.specs.Io.KnownBytes.{Appends}
use Rattle.wm_command.specs.declared.status.Status.{Status}
use Rattle.wm_command.specs.declared.status.Status.TheVariants.{Io}

-- Either the whole text was written and flushed, and the status is `wanted`. Or the writer failed, a prefix of
-- the text was written, and the status is `Io`.
abbrev pub IsAnswered : List ℕ → Status → Option (List ℕ) → Option (List ℕ) → Bool → Bool → Status → Type 0
IsAnswered text wanted old new false flushed status = Appends old new text × (flushed ≡ true)
    × (status ≡ wanted)
IsAnswered text wanted old new true flushed status =
    ((n : ℕ) × (n ≤ length text) × Appends old new (take n text)) × (status ≡ Io)
