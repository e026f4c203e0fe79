use Rattle.std.proofs.Common.{◌≡◌, rules, true}
use Rattle.wm_read.proofs.FunctionCode.{ids_joined, ids_more}
use Rattle.wm_read.proofs.fields.functions.with_ids.Goals as goal

pub loop-run-preserved : goal.loop-run-preserved
loop-run-preserved c =
    let yes : c.in_ok-add_run.field-0 ≡ true = search rules in record {
      new = ids_more c.args.space c.loop-run.space c.args.items.now c.loop-run.run-index _ c.in_ok-add_run.field-0 c.loop-run-test.true
          c.loop-run.invariant.new c.loop-run.invariant.added c.in_ok-add_run.ensures.new yes;
      added = ids_joined c.args.space c.loop-run.space c.add_run.new.space c.args.items.now c.loop-run.run-index _ c.loop-run-test.true
          c.loop-run.invariant.added (c.in_ok-add_run.ensures.added yes);
    }
