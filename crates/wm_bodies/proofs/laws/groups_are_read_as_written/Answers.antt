use Rattle.wm_bodies.proofs.NamedGroups.{groups_are_written, groups_are_read}
use Rattle.wm_bodies.proofs.laws.groups_are_read_as_written.Goals as goal

pub returns-clause-read : goal.returns-clause-read
returns-clause-read c = groups_are_written

pub returns-clause-written : goal.returns-clause-written
returns-clause-written c = groups_are_read
