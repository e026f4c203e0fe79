use Rattle.std.proofs.Common.{inl, refl}
use Rattle.wm_command.proofs.line.read_line.Goals as goal

pub returns-in_default-profile_in-clause-fault : goal.returns-in_default-profile_in-clause-fault
returns-in_default-profile_in-clause-fault c = inl (refl, λ l says. c.in_default-profile_in.ensures l.profile says.profile)
