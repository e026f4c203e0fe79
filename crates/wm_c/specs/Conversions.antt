-- The output and the buffer that C gets from a conversion.
use Rattle.std.specs.Prelude.{◌≡◌, ◌≢◌, ◌<◌, ◌≤◌, ◌^◌, ◌+◌, ◌++◌, ◌⊎◌, ℕ, List, Err, drop, length}
use Rattle.wm_syntax.specs.declared.profile.Profile.{Profile}
use Rattle.wm_syntax.specs.declared.why.Why.TheVariants as why
use Rattle.wm_syntax.specs.Modules.{Module}
use Rattle.wm_machine.specs.declared.refusal.Refusal.{Refusal}
use Rattle.wm_rules.specs.declared.policy.Policy.{Policy}
use Rattle.wm_rules.specs.inner.Validators.{verdict}
use Rattle.wm_rules.specs.Loading.{Loads}
use Rattle.wm_rules.specs.Meanings.{Meaning}
use Rattle.wm_rules.specs.Policies.{Within}
use Rattle.wm_rules.specs.Validation.{Valid}
use Rattle.wm_write.specs.Canon.{FitsUnder, canon, canon_under}
use Rattle.wm_write.specs.declared.check_module.CheckFault.{CheckFault}
use Rattle.wm_write.specs.declared.check_module.CheckFault.TheVariants as check
use Rattle.wm_tokens.specs.declared.faults.TextWhy.TheVariants as text
use Rattle.wm_read.specs.declared.spellings.Spellings.{Spellings}
use Rattle.wm_read.specs.Spellings.{IsTextOf}
use Rattle.wm_tokens.specs.TokenFaults.{TellsText}
use Rattle.wm_c.specs.declared.output.Output.{Output}
use Rattle.wm_c.specs.declared.output.Unbuilt.{Unbuilt}
use Rattle.wm_c.specs.declared.output.Unbuilt.TheVariants.{TooLong, Text, Check}
use Rattle.wm_c.specs.declared.options.Options.{Options}
use Rattle.wm_c.specs.Answers.{IsRight}
use Rattle.wm_c.specs.Codes.{status_code, text_code, text_status_code, why_code}
use Rattle.wm_c.specs.Options.{Asking, Asks, spellings_of}

-- The output if n bytes were written.
abbrev pub wrote : ℕ → Output
wrote n = record { status = 0; why = 0; at = 0; length = n }

-- The output if the buffer is too short for the n bytes.
abbrev pub no_room : ℕ → Output
no_room n = record { status = 5; why = 0; at = 0; length = n }

-- The output if an option is out of range.
abbrev pub misuse : Output
misuse = record { status = 2; why = 0; at = 0; length = 0 }

-- The output for a refusal of a module.
abbrev pub refuses : Refusal → Output
refuses r = record { status = status_code r.why; why = why_code r.why; at = r.at; length = 0 }

-- The output for a module, written by a text, for which no binary is given.
abbrev pub unchecked : CheckFault → Output
unchecked (check.Refused r) = refuses r
unchecked check.TooLarge = record { status = 1; why = 100; at = 0; length = 0 }
unchecked check.Memory = record { status = 4; why = why_code why.Memory; at = 0; length = 0 }

-- The output for a text for which no binary is given.
abbrev pub unbuilt : Unbuilt → Output
unbuilt (TooLong at) = record { status = 1; why = why_code why.TooLong; at = at; length = 0 }
unbuilt (Text r) = record { status = text_status_code r.why; why = text_code r.why; at = r.at; length = 0 }
unbuilt (Check f) = unchecked f

-- The buffer has room for these bytes. They are at its front, and the bytes after them are unchanged.
abbrev pub Fills : List ℕ → List ℕ → List ℕ → Type 0
Fills text before after =
    (length text ≤ length before) × (after ≡ text ++ drop (length text) before)

-- A status of a conversion: 0 written, 1 refused, 2 misuse, 4 out of memory, 5 no room.
abbrev pub IsStatus : ℕ → Type 0
IsStatus n = (n ≡ 0) ⊎ (n ≡ 1) ⊎ (n ≡ 2) ⊎ (n ≡ 4) ⊎ (n ≡ 5)

-- The number of the refusal `Memory`, of a module or of a text.
abbrev pub IsMemory : ℕ → Type 0
IsMemory n = (n ≡ why_code why.Memory) ⊎ (n ≡ text_code text.Memory)

-- How a conversion by these options ends: the buffer before and after, and the output. `Of` holds for the module,
-- and `form` gives the bytes to write. `Refuses` holds for the output of a refusal, `Memory` included.
pub record Converted (Of : Profile → ℕ → Policy → Module → Type 0) (form : Module → List ℕ)
    (Refuses : Profile → ℕ → Policy → Output → Type 0) (o : Options) (before after : List ℕ) (out : Output)
    : Type 0 where
  pub status : IsStatus out.status
  pub written : out.status ≡ 0 → Asking o (λ p limit q. (m : Module) × Of p limit q m
      × Fills (form m) before after × (out ≡ wrote (length (form m))))
  -- the bytes to write are longer than the buffer
  pub room : out.status ≡ 5 → Asking o (λ p limit q. (m : Module) × Of p limit q m
      × (length before < length (form m)) × (out ≡ no_room (length (form m))))
  -- 1: the input is refused; 4: memory is refused
  pub refused : (out.status ≡ 1) ⊎ (out.status ≡ 4) → Asking o (λ p limit q. Refuses p limit q out)
  pub misused : out.status ≡ 2 → (out ≡ misuse) × ((p : Profile) → Asks o p → ⊥)
  pub memory : out.status ≡ 4 → IsMemory out.why × (out.length ≡ 0)
  pub untouched : out.status ≢ 0 → after ≡ before

-- The output is that of a right refusal of the module's bytes. With status 1 the refusal is other than `Memory`.
abbrev pub IsRefused : List ℕ → Profile → ℕ → Policy → Output → Type 0
IsRefused input p limit q out = (r : Refusal) × (out.status ≡ 1 → r.why ≢ why.Memory)
    × IsRight p limit q input (Err r) × (out ≡ refuses r)

-- How a conversion of the module that these bytes spell ends.
abbrev pub ConvertedFrom : (Module → List ℕ) → Options → List ℕ → List ℕ → List ℕ → Output → Type 0
ConvertedFrom form o input =
    Converted (λ p limit q m. Loads p limit q input m) form (IsRefused input) o

-- The text is at most `limit` bytes long and writes this module, which is valid and within the policy.
pub record Builds (s : Spellings) (input : List ℕ) (p : Profile) (limit : ℕ) (q : Policy) (m : Module)
    : Type 0 where
  pub short : length input ≤ limit
  pub writes : IsTextOf p s m input
  pub valid : Valid m
  pub within : Within q m

-- Why no canonical binary is given for a module. `Refused`: the module is not valid or not within the policy. The
-- refusal is that of its canonical binary under the profile and the limit 2^62, other than `Memory`, and its meaning
-- holds. `TooLarge`: a section would be too large. `Memory` may come for any module.
abbrev pub IsUnchecked : Profile → Policy → Module → CheckFault → Type 0
IsUnchecked p q m (check.Refused r) = (Valid m → Within q m → ⊥) × (r.why ≢ why.Memory)
    × (verdict p (2 ^ 62) q (canon_under p m) ≡ Err r) × (r.at ≤ length (canon_under p m))
    × Meaning p (2 ^ 62) q (canon_under p m) r
IsUnchecked p q m check.TooLarge = FitsUnder p m → ⊥
IsUnchecked p q m check.Memory = Unit {0}

-- Why no binary is given for a text. `TooLong`: it is longer than the limit, and the offset is `limit + 1`. `Text`:
-- it is within the limit and, unless the refusal is `Memory`, writes no module. The offset is within the text, and
-- `TellsText` holds. `Check`: it is within the limit, and writes a module for which `IsUnchecked` holds.
abbrev pub IsUnbuilt : Spellings → List ℕ → Profile → ℕ → Policy → Unbuilt → Type 0
IsUnbuilt s input p limit q (TooLong at) = (limit < length input) × (at ≡ limit + 1)
IsUnbuilt s input p limit q (Text r) = (length input ≤ limit)
    × (r.why ≢ text.Memory → (m : Module) → IsTextOf p s m input → ⊥) × (r.at ≤ length input)
    × TellsText p input r.why r.at
IsUnbuilt s input p limit q (Check f) =
    (length input ≤ limit) × ((m : Module) × IsTextOf p s m input × IsUnchecked p q m f)

-- How a conversion of a text to the canonical binary of its module ends.
abbrev pub ConvertedText : Options → List ℕ → List ℕ → List ℕ → Output → Type 0
ConvertedText o input = Converted (Builds (spellings_of o) input) canon
    (λ p limit q out. (u : Unbuilt) × IsUnbuilt (spellings_of o) input p limit q u × (out ≡ unbuilt u)) o
