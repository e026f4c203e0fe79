use Rattle.std.proofs.Common.{◌≡◌, ◌++◌, take, true}
use Rattle.wm_read.specs.exact.Fields.{all_new}
use Rattle.wm_read.proofs.FunctionCode.{code_ids}
use Rattle.wm_read.proofs.fields.functions.with_ids.Given as goal

abbrev pub invariant-loop-run : goal.invariant-loop-run
invariant-loop-run l = record {
  new : all_new l.fn.space (code_ids (take l.run-index l.items)) ≡ true;
  added : l.space ≡ l.fn.space ++ code_ids (take l.run-index l.items);
}
