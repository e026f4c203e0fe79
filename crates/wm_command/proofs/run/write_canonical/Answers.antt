-- A loaded module is not too large, and the bytes written are flushed.
use Rattle.std.proofs.Common.{ap, Err, subst}
use Rattle.wm_syntax.specs.Values.{value_of}
use Rattle.wm_write.specs.Canon.{canon}
use Rattle.wm_command.specs.Answers.{IsAnswered}
use Rattle.wm_command.specs.declared.status.Status.TheVariants as status
use Rattle.wm_command.proofs.RunLemmas.{flushed, loaded_fits, unwritten}
use Rattle.wm_command.proofs.run.write_canonical.Goals as goal

pub returns-in-Ok : goal.returns-in-Ok
returns-in-Ok g c =
    subst (λ m. IsAnswered (canon (value_of m)) status.Done (g.W.Dest.contents c.args.w.now) (g.W.Dest.contents c.answer.new.w) (g.W.Dest.has_failed c.answer.new.w) (g.W.Dest.is_flushed c.answer.new.w) c.answer.result)
    c.module.ensures.value (flushed _ _ _ _ _ _ _ _ c.in-Ok.ensures.written.1 c.answer.ensures)

pub returns-in-Err-TooLarge : goal.returns-in-Err-TooLarge
returns-in-Err-TooLarge g c = absurd (loaded_fits _ c.module.ensures.loaded (c.in-Err-TooLarge.ensures.too_large.0 (ap Err c.in-Err-TooLarge.field-0-is)))

pub returns-in-Err-Io : goal.returns-in-Err-Io
returns-in-Err-Io g c =
    let is = ap Err c.in-Err-Io.field-0-is in
    let beginning = c.in-Err-Io.ensures.beginning c.in-Err-Io.field-0-0 is in
    let failed = c.in-Err-Io.ensures.failed.0 (c.in-Err-Io.field-0-0, is) in
    subst (λ m. IsAnswered (canon (value_of m)) status.Done (g.W.Dest.contents c.args.w.now) (g.W.Dest.contents c.encode.new.w) (g.W.Dest.has_failed c.encode.new.w) (g.W.Dest.is_flushed c.encode.new.w) status.Io)
    c.module.ensures.value (unwritten _ _ _ _ _ _ failed (c.in-Err-Io.field-0-0, beginning.0, beginning.1))
