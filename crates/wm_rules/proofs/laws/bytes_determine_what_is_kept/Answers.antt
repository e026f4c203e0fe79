use Rattle.wm_rules.proofs.KeptAtAnyMoment.{same_bytes}
use Rattle.wm_rules.proofs.laws.bytes_determine_what_is_kept.Goals as goal

pub returns : goal.returns
returns c = same_bytes
