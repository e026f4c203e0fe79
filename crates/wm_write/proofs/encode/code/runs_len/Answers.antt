use Rattle.std.proofs.Common.{◌+◌, [], ◌∷◌, length, sym, ap, ◌∙◌, arith, length-append}
use Rattle.wm_syntax.specs.Runs.{runs_of}
use Rattle.wm_syntax.specs.Types.{type_byte}
use Rattle.wm_write.specs.Canon.{run_bytes, u32_bytes}
use Rattle.wm_write.proofs.Writes.{len_read}
use Rattle.wm_write.proofs.encode.code.runs_len.Goals as goal

pub loop-index-preserved : goal.loop-index-preserved
loop-index-preserved c =
    let run = c.unwrap-count.result in
    let same = ap (λ n. length (u32_bytes n)) c.from.ensures in
    len_read run_bytes (length (u32_bytes (length (runs_of c.args.locals.now)))) (runs_of c.args.locals.now) c.loop-index.index run (c.number_len.result + 1) _ _
    (sym c.run.ensures ∙ c.unwrap-count.ensures)
    (omega (arith, length-append (u32_bytes run.0) (type_byte run.1 ∷ []), c.number_len.ensures.value, same))
    c.loop-index.invariant c.saturating_add-sum.ensures
