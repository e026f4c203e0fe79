use Rattle.wm_syntax.proofs.OpTable.{found_in, begins_in, float_in, float_never}
use Rattle.wm_syntax.proofs.FirstBytes.{feature_there, row_under}
use Rattle.wm_syntax.proofs.instructions.opcodes.op_of.Goals as goal

pub returns : goal.returns
returns c = rw c.within.ensures (record {
  found = found_in c.args.profile c.args.byte c.class_at.result c.class_at.ensures;
  only = begins_in c.args.profile c.args.byte c.class_at.result c.class_at.ensures;
  float = λ l. float_in c.args.profile c.args.byte c.class_at.result c.class_at.ensures l;
  floats = λ l. float_never c.args.profile c.args.byte c.class_at.result c.class_at.ensures l;
  exact = row_under c.args.profile c.args.byte c.class_at.result c.class_at.ensures;
})

pub within-requires : goal.within-requires
within-requires c = feature_there c.args.byte c.class_at.result c.feature_at.result c.class_at.ensures c.feature_at.ensures
