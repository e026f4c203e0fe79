use Rattle.wm_write.proofs.OpLengths.{op_counted, ops_counted}
use Rattle.wm_write.proofs.laws.ops_have_their_length.Goals as goal

pub returns-clause-one : goal.returns-clause-one
returns-clause-one c = op_counted

pub returns-clause-all : goal.returns-clause-all
returns-clause-all c = ops_counted
