use Rattle.wm_read.proofs.ModuleLaws.{heads_are_written, heads_are_read}
use Rattle.wm_read.proofs.laws.heads_are_read_as_written.Goals as goal

pub returns-clause-read : goal.returns-clause-read
returns-clause-read c = heads_are_written

pub returns-clause-written : goal.returns-clause-written
returns-clause-written c = heads_are_read
