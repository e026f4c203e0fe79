-- The output that the program may write for an input, and the status that belongs to it.
use Rattle.std.specs.Prelude.{◌≡◌, ◌≢◌, ◌≤◌, ◌⊎◌, ℕ, List, [], ◌∷◌, ◌++◌, Option, Ok, Err, codes, decimal}
use Rattle.std.specs.Prelude.{length}
use Rattle.wm_syntax.specs.declared.profile.Profile.{Profile}
use Rattle.wm_syntax.specs.declared.why.Why.{Why}
use Rattle.wm_syntax.specs.declared.why.Why.TheVariants.{Memory}
use Rattle.wm_command.specs.declared.status.Status.{Status}
use Rattle.wm_command.specs.declared.status.Status.TheVariants.{Done, Refused}
use Rattle.wm_command.specs.declared.arguments.Action.{Action}
use Rattle.wm_command.specs.declared.arguments.Action.TheVariants.{Check, Stats, Canon, Show, Build}
use Rattle.std.specs.Io.KnownBytes.{IsAtEnd}
use Rattle.wm_rules.specs.declared.checker.Summary.{Summary}
use Rattle.wm_rules.specs.declared.policy.Policy.{Policy}
use Rattle.wm_read.specs.declared.spellings.Spellings.{Spellings}
use Rattle.wm_rules.specs.Bounds.{SummaryOf}
use Rattle.wm_rules.specs.Loading.{Loads}
use Rattle.wm_syntax.specs.Modules.{Module}
use Rattle.wm_write.specs.Canon.{canon}
use Rattle.wm_write.specs.Layout.{layout}
use Rattle.wm_rules.specs.inner.Validators.{verdict}
use Rattle.wm_rules.specs.Validation.{Accepted}
use Rattle.wm_machine.specs.declared.refusal.Refusal.{Refusal}
use Rattle.wm_rules.specs.Meanings.{Meaning}
use Rattle.wm_command.specs.Refused.{refusal_line}
use Rattle.wm_command.specs.Building.{BuildOut, IsBuildRefusal}

-- The line for a valid input.
abbrev pub valid_line : List ℕ
valid_line = codes "valid" ++ 10 ∷ []

-- The line of a figure: its name, a space and the number in decimal digits.
abbrev pub figure_line : List ℕ → ℕ → List ℕ
figure_line name n = name ++ (codes " " ++ (decimal n ++ 10 ∷ []))

-- The five lines of a summary.
abbrev pub stats_text : Summary → List ℕ
stats_text s =
    figure_line (codes "functions") s.functions
    ++ (figure_line (codes "moves") s.moves
    ++ (figure_line (codes "operands") s.operands
    ++ (figure_line (codes "controls") s.controls
    ++ figure_line (codes "probes") s.probes)))

-- The output and the status for a binary input. An accepted input gives a report, and `Done`. Any other gives its
-- refusal, and `Refused`. The refusal is other than `Memory`, its offset is within the input, and its meaning
-- holds. The input alone determines it (`verdict`).
abbrev pub Judged : (List ℕ → Type 0) → Profile → ℕ → Policy → List ℕ → List ℕ → Status → Type 0
Judged Report p limit q input written status =
    (Accepted p limit q input × Report written × (status ≡ Done))
    ⊎ ((Accepted p limit q input → ⊥)
    × ((r : Refusal) × (r.why ≢ Memory) × (r.at ≤ length input) × (verdict p limit q input ≡ Err r)
    × Meaning p limit q input r × (written ≡ refusal_line r.at r.why))
    × (status ≡ Refused))

-- The output and the status of an action for an input. For an accepted input, `check` reports `valid`, and `stats`
-- reports the figures of its summary, which the input alone determines. `canon` reports the canonical binary of
-- the module that the input spells (Core spec 5.5.15), and `show` its printed text (Core spec 6). Only `build`
-- reads a text, and only it uses the spellings.
abbrev pub OutOf : Action → Profile → ℕ → Policy → Spellings → List ℕ → List ℕ → Status → Type 0
OutOf Check p limit q s input = Judged (λ written. written ≡ valid_line) p limit q input
OutOf Stats p limit q s input =
    Judged (λ written. (f : Summary) × SummaryOf p limit q input f × (verdict p limit q input ≡ Ok f)
    × (written ≡ stats_text f)) p limit q input
OutOf Canon p limit q s input =
    Judged (λ written. (m : Module) × Loads p limit q input m × (written ≡ canon m)) p limit q input
OutOf Show p limit q s input =
    Judged (λ written. (m : Module) × Loads p limit q input m × (written ≡ layout m)) p limit q input
OutOf Build p limit q s input = BuildOut p limit q s input

-- The output and the status are right for the input. Either the input was read to its end, or they are right for
-- every input that begins with some prefix of this one.
abbrev pub IsRightFor : Action → Profile → ℕ → Policy → Spellings → List ℕ → Option (List ℕ) → List ℕ → Status
    → Type 0
IsRightFor action p limit q s input left written status =
    (IsAtEnd left × OutOf action p limit q s input written status)
    ⊎ ((read rest : List ℕ) × (input ≡ read ++ rest)
    × ((more : List ℕ) → OutOf action p limit q s (read ++ more) written status))

-- A text that the action may write for some accepted input.
abbrev pub IsReport : Action → List ℕ → Type 0
IsReport Check written = written ≡ valid_line
IsReport Stats written = (s : Summary) × (written ≡ stats_text s)
IsReport Canon written = (m : Module) × (written ≡ canon m)
IsReport Show written = (m : Module) × (written ≡ layout m)
IsReport Build written = (m : Module) × (written ≡ canon m)

-- The line of a refusal other than `Memory`. For `build` it may be that of a text or of the module that it writes.
abbrev pub IsRefusalLine : Action → List ℕ → Type 0
IsRefusalLine Build written =
    ((place : ℕ) × (why : Why) × (why ≢ Memory) × (written ≡ refusal_line place why)) ⊎ IsBuildRefusal written
IsRefusalLine _ written = (place : ℕ) × (why : Why) × (why ≢ Memory) × (written ≡ refusal_line place why)

-- A text that the action may write, and the status that belongs to it.
abbrev pub IsOutput : Action → List ℕ → Status → Type 0
IsOutput action written status = (IsReport action written × (status ≡ Done))
    ⊎ (IsRefusalLine action written × (status ≡ Refused))
