use Rattle.std.proofs.Common.{◌≡◌, length}
use Rattle.wm_tokens.specs.exact.Scan.{lexed}
use Rattle.wm_read.specs.exact.Fields.{bytes_at, strings_at}
use Rattle.wm_read.proofs.FieldCode.{after_bytes}
use Rattle.wm_read.proofs.fields.strings.bytes.Given as goal

abbrev pub invariant-loop-inside : goal.invariant-loop-inside
invariant-loop-inside l = after_bytes l.bytes.items (strings_at (lexed l.rest)) ≡ bytes_at (lexed l.text)

abbrev pub decreases-loop-inside : goal.decreases-loop-inside
decreases-loop-inside l = length l.rest
