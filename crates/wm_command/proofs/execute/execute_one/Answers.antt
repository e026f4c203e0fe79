use Rattle.wm_command.proofs.LineLemmas.{opened}
use Rattle.wm_command.proofs.execute.execute_one.Goals as goal

pub returns-in-Ok : goal.returns-in-Ok
returns-in-Ok g c =
    λ io memory. opened _ c.in-Some.path.now (λ path. g.O.Opens.held_at c.args.files.now path) _ _ c.in-Some.ensures c.in-Ok.ensures (c.follow_into-in-Ok.ensures io memory)
