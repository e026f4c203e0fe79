-- The output that `build` may write for a text, and the status that belongs to it.
use Rattle.std.specs.Prelude.{◌≡◌, ◌≢◌, ◌≤◌, ◌<◌, ◌^◌, ◌+◌, ◌⊎◌, ℕ, List, Err, length}
use Rattle.wm_syntax.specs.declared.profile.Profile.{Profile}
use Rattle.wm_syntax.specs.declared.why.Why.{Why}
use Rattle.wm_syntax.specs.declared.why.Why.TheVariants.{Memory, TooLong}
use Rattle.wm_syntax.specs.Modules.{Module}
use Rattle.wm_machine.specs.declared.refusal.Refusal.{Refusal}
use Rattle.wm_rules.specs.declared.policy.Policy.{Policy}
use Rattle.wm_rules.specs.Policies.{Within}
use Rattle.wm_rules.specs.Meanings.{Meaning}
use Rattle.wm_rules.specs.Validation.{Valid}
use Rattle.wm_rules.specs.inner.Validators.{verdict}
use Rattle.wm_write.specs.Canon.{FitsUnder, canon, canon_under}
use Rattle.wm_tokens.specs.declared.faults.TextWhy.{TextWhy}
use Rattle.wm_tokens.specs.declared.faults.TextWhy.TheVariants as fault
use Rattle.wm_read.specs.declared.spellings.Spellings.{Spellings}
use Rattle.wm_read.specs.Spellings.{IsTextOf}
use Rattle.wm_tokens.specs.TokenFaults.{TellsText}
use Rattle.wm_command.specs.declared.status.Status.{Status}
use Rattle.wm_command.specs.declared.status.Status.TheVariants.{Done, Refused}
use Rattle.wm_command.specs.Refused.{module_line, refusal_line, text_line, too_large_line}

-- The output and the status for the module m that a text writes, in three cases:
-- 1. m is valid, within the policy, and each section fits its size field: its canonical binary, and `Done`.
-- 2. m fits, but is not valid or not within the policy: the refusal of its canonical binary other than `Memory`,
--    with its meaning, and `Refused`.
-- 3. A section of m does not fit its size field, so m has no canonical binary: `too_large_line`, and `Refused`.
-- The canonical binary is judged under the limit 2^62. It is that of the profile, which is `canon m` for a valid m.
abbrev pub ModuleOut : Profile → Policy → Module → List ℕ → Status → Type 0
ModuleOut p q m written status =
    (Valid m × Within q m × FitsUnder p m × (written ≡ canon m) × (status ≡ Done))
    ⊎ ((Valid m → Within q m → ⊥) × FitsUnder p m
    × ((r : Refusal) × (r.why ≢ Memory) × (r.at ≤ length (canon_under p m))
    × (verdict p (2 ^ 62) q (canon_under p m) ≡ Err r)
    × Meaning p (2 ^ 62) q (canon_under p m) r × (written ≡ module_line r.at r.why)) × (status ≡ Refused))
    ⊎ ((FitsUnder p m → ⊥) × (written ≡ too_large_line) × (status ≡ Refused))

-- The output and the status for a text. A text that writes a module gives the output for that module. A text
-- that writes none gives a refusal other than `Memory`, at an offset within the text, for which `TellsText` holds.
abbrev pub TextOut : Profile → Policy → Spellings → List ℕ → List ℕ → Status → Type 0
TextOut p q s text written status =
    ((m : Module) × IsTextOf p s m text × ModuleOut p q m written status)
    ⊎ (((m : Module) → IsTextOf p s m text → ⊥)
    × ((place : ℕ) × (why : TextWhy) × (why ≢ fault.Memory) × (place ≤ length text)
    × TellsText p text why place × (written ≡ text_line text place why))
    × (status ≡ Refused))

-- The output and the status for an input: that for its text if the input is at most `limit` bytes long, and the
-- refusal `TooLong` at offset `limit + 1` otherwise.
abbrev pub BuildOut : Profile → ℕ → Policy → Spellings → List ℕ → List ℕ → Status → Type 0
BuildOut p limit q s input written status =
    ((length input ≤ limit) × TextOut p q s input written status)
    ⊎ ((limit < length input) × (written ≡ refusal_line (limit + 1) TooLong) × (status ≡ Refused))

-- The line of some refusal of a text, or of the module that it writes, other than `Memory`.
abbrev pub IsBuildRefusal : List ℕ → Type 0
IsBuildRefusal written =
    ((text : List ℕ) × (place : ℕ) × (why : TextWhy) × (why ≢ fault.Memory) × (written ≡ text_line text place why))
    ⊎ ((place : ℕ) × (why : Why) × (why ≢ Memory) × (written ≡ module_line place why))
    ⊎ (written ≡ too_large_line)
