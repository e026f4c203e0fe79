-- The detail of a refusal: the token that it shows, and the line on standard output that it belongs to.
use Rattle.std.specs.Prelude.{◌≡◌, ℕ, IsSomeAnd, List, Option, take}
use Rattle.std.specs.Io.KnownBytes.{Appends}
use Rattle.wm_tokens.specs.Faults as names
use Rattle.wm_command.specs.declared.detail.Detail.{Detail}
use Rattle.wm_command.specs.declared.detail.Detail.TheVariants.{Built, Input, Text, TooLarge}
use Rattle.wm_command.specs.declared.detail.Ended.{Ended}
use Rattle.wm_command.specs.declared.detail.TextDetail.{TextDetail}
use Rattle.wm_command.specs.declared.detail.Token.{Token}
use Rattle.wm_command.specs.declared.status.Status.TheVariants.{Refused}
use Rattle.wm_command.specs.Refused.{module_line, placed_line, refusal_line, too_large_line}

-- The bytes of the token that are shown.
abbrev pub shown_of : Token → List ℕ
shown_of t = take t.used t.bytes

-- The line of the refusal of a text.
abbrev pub text_told : TextDetail → List ℕ
text_told d = placed_line d.at d.line d.column (names.text_name_of d.why)

-- The line of the refusal.
abbrev pub line_told : Detail → List ℕ
line_told (Input r found) = refusal_line r.at r.why
line_told (Text d) = text_told d
line_told (Built r found) = module_line r.at r.why
line_told TooLarge = too_large_line

-- A run that refused its input has a detail, and wrote the line of this refusal.
abbrev pub IsTold : Ended → Option (List ℕ) → Option (List ℕ) → Type 0
IsTold e old new = e.status ≡ Refused → IsSomeAnd e.detail (λ d. Appends old new (line_told d))
