use Rattle.std.specs.Prelude.{codes}
use Rattle.wm_write.specs.Layout.{body_line}
use Rattle.wm_write.proofs.PrintedWords.{no_locals, some_locals}
use Rattle.wm_write.proofs.print.body_lines.put_locals.Goals as goal

pub returns-then-runs-eq0 : goal.returns-then-runs-eq0
returns-then-runs-eq0 g c = no_locals body_line (codes "local") c.args.locals.now c.runs.result _ c.runs.ensures.of c.if-runs-eq0.true

pub returns : goal.returns
returns g c =
    some_locals body_line (codes "local") c.args.locals.now c.runs.result _ _ _ _ c.runs.ensures.of c.if-runs-eq0.false c.put_bytes.ensures
    c.put_local_types.ensures c.put_bytes-2.ensures
