use Rattle.wm_machine.proofs.Zones.{all_bytes, at_hand}
use Rattle.wm_machine.proofs.laws.bytes_are_in_zones.Goals as goal

pub returns-clause-all : goal.returns-clause-all
returns-clause-all c = λ k. all_bytes k

pub returns-clause-at_hand : goal.returns-clause-at_hand
returns-clause-at_hand c = λ k. at_hand k
