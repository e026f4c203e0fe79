use Rattle.std.proofs.Common.{◌≡◌, ◌+◌, rules, sym, ◌∙◌, subst, slice_index, SFits, w8, w64}
use Rattle.std.proofs.lemmas.Int.{to_z-of_z}
use Rattle.wm_syntax.specs.exact.Reading.{signed_push}
use Rattle.wm_shortcuts.specs.exact.WholeOps.{LiesAt, one_signed}
use Rattle.wm_shortcuts.proofs.WholeNumbers.{s64_short}
use Rattle.wm_shortcuts.proofs.whole_numbers.s64_at.Goals as goal

pub returns-then-byte-lt128 : goal.returns-then-byte-lt128
returns-then-byte-lt128 c =
    let fits : SFits w64 c.from.result = search rules in
    let narrow : SFits w8 c.signed.result = search rules in
    let same : c.from.result ≡ one_signed (slice_index c.args.bytes.now c.args.at) = c.from.ensures ∙ (to_z-of_z w8 c.signed.result narrow ∙ c.signed.ensures) in
    subst (λ v. LiesAt (signed_push 64) c.args.bytes.now c.args.at (c.args.at + 1) v) (sym (to_z-of_z w64 c.from.result fits ∙ same))
    (s64_short c.args.bytes.now c.args.at c.requires c.if-byte-lt128.true)
