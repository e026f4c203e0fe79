use Rattle.std.proofs.Common.{arith, ◌≡◌, ◌≤◌, length, refl, subst, sym, take}
use Rattle.std.specs.Io.KnownBytes.{Appends}
use Rattle.wm_syntax.specs.Values.{value_of}
use Rattle.wm_write.specs.Canon.{canon_with}
use Rattle.wm_write.proofs.SectionLemmas.{canon_short}
use Rattle.wm_write.proofs.Writes.{sent_front, sent_whole}
use Rattle.wm_write.proofs.encode.encode_with.Goals as goal

pub returns-then-failed-clause-beginning : goal.returns-then-failed-clause-beginning
returns-then-failed-clause-beginning g c = λ n e.
    let m = value_of c.args.m.now in
    let same : c.put_module.new.written ≡ n = cc e in
    subst (λ z. (z ≤ length (canon_with c.args.flagged m)) × Appends (g.W.Dest.contents c.args.w.now) (g.W.Dest.contents c.put_module.new.w) (take z (canon_with c.args.flagged m))) same
    (sent_front (canon_with c.args.flagged m) _ _ _ _ _ c.requires.open (sym c.if-failed.ensures) (omega (arith, canon_short c.args.flagged m (c.in-Some.ensures.fits.0 refl))) c.put_module.ensures)

pub returns-then-failed-clause-too_large : goal.returns-then-failed-clause-too_large
returns-then-failed-clause-too_large g c = (λ e. absurd (cc e), λ large. absurd (large (c.in-Some.ensures.fits.0 refl)))

pub returns-else-failed-clause-written : goal.returns-else-failed-clause-written
returns-else-failed-clause-written g c =
    let m = value_of c.args.m.now in
    sent_whole (canon_with c.args.flagged m) _ _ _ _ _ c.requires.open (sym c.if-failed.ensures) (omega (arith, canon_short c.args.flagged m (c.in-Some.ensures.fits.0 refl))) c.put_module.ensures

pub returns-else-failed-clause-too_large : goal.returns-else-failed-clause-too_large
returns-else-failed-clause-too_large g c = (λ e. absurd (cc e), λ large. absurd (large (c.in-Some.ensures.fits.0 refl)))
