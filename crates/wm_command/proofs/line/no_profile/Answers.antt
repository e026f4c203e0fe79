use Rattle.wm_command.proofs.LineLemmas.{default_profile}
use Rattle.wm_command.proofs.line.no_profile.Goals as goal

pub returns-in-None : goal.returns-in-None
returns-in-None c = default_profile c.get_str.result (λ s. s.now) _ c.get_str.ensures c.in-None.is
