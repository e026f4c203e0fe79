use Rattle.std.proofs.Common.{◌<◌, refl, ◌∙◌, sym, subst, length, arith}
use Rattle.std.specs.Option.{IsSome}
use Rattle.std.proofs.lemmas.Option.{slice_get-get_or}
use Rattle.wm_syntax.specs.declared.types.ValType.TheVariants.{I32}
use Rattle.wm_syntax.specs.Runs.{runs_of}
use Rattle.wm_write.proofs.Writes.{sent_none}
use Rattle.wm_write.proofs.PrintedWords.{sent_run}
use Rattle.wm_write.proofs.print.body_lines.put_local_types.Goals as goal

pub loop-index-init : goal.loop-index-init
loop-index-init g c = sent_none _

pub unwrap-count-requires : goal.unwrap-count-requires
unwrap-count-requires g c =
    let less : c.loop-index.index < length (runs_of c.args.locals.now) = omega (arith, c.loop-index-test.true, c.runs-index-end.ensures.of) in
    subst IsSome (sym (c.run.ensures ∙ slice_get-get_or (runs_of c.args.locals.now) c.loop-index.index (0, I32) less)) refl

pub loop-index-preserved : goal.loop-index-preserved
loop-index-preserved g c =
    sent_run (runs_of c.args.locals.now) c.loop-index.index c.unwrap-count.result _ _ _ (sym c.run.ensures ∙ c.unwrap-count.ensures)
    c.loop-index.invariant c.put_run.ensures
