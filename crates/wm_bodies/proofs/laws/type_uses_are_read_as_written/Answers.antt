use Rattle.wm_bodies.proofs.NamedUses.{uses_are_written, uses_are_read}
use Rattle.wm_bodies.proofs.TypeUseLaws.{call_sound, calls_are_read}
use Rattle.wm_bodies.proofs.laws.type_uses_are_read_as_written.Goals as goal

pub returns-clause-read : goal.returns-clause-read
returns-clause-read c = uses_are_written

pub returns-clause-written : goal.returns-clause-written
returns-clause-written c = uses_are_read

pub returns-clause-call_read : goal.returns-clause-call_read
returns-clause-call_read c = call_sound

pub returns-clause-call_written : goal.returns-clause-call_written
returns-clause-call_written c = calls_are_read
