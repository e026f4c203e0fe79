use Rattle.std.proofs.Common.{ℕ, ◌≡◌, ◌+◌, ◌*◌, ◌∷◌, [], sym, ap, subst, ◌∙◌, arith}
use Rattle.std.specs.Str.Parse.{digits_value_after}
use Rattle.wm_floats.specs.exact.Atoms.{plain}
use Rattle.wm_floats.specs.inner.Leading.{Leads}
use Rattle.wm_floats.proofs.Underscores.{byte_below, value_skip, value_keep}
use Rattle.wm_floats.proofs.hexadecimal.one_byte.Goals as goal

pub returns-then-byte-eq95-clause-leads : goal.returns-then-byte-eq95-clause-leads
returns-then-byte-eq95-clause-leads c n h = subst (λ (m : ℕ). Leads m c.args.so_far) (sym (value_skip 16 n c.args.byte c.if-byte-eq95.true)) h

pub digit_of-requires : goal.digit_of-requires
digit_of-requires c = byte_below 16 c.args.byte c.if-byte-eq95.false c.requires.digit

pub one_more-requires-clause-digit : goal.one_more-requires-clause-digit
one_more-requires-clause-digit c = omega (arith, c.digit_of.ensures, byte_below 16 c.args.byte c.if-byte-eq95.false c.requires.digit)

pub returns-clause-leads : goal.returns-clause-leads
returns-clause-leads c n h =
    let e : n * 16 + c.digit_of.result ≡ digits_value_after 16 n (plain (c.args.byte ∷ [])) =
    ap (λ (d : ℕ). n * 16 + d) c.digit_of.ensures ∙ sym (value_keep 16 n c.args.byte c.if-byte-eq95.false) in
    subst (λ (m : ℕ). Leads m c.one_more.result) e (c.one_more.ensures.leads n h)
