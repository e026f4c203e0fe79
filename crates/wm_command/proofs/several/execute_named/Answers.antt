use Rattle.std.proofs.lemmas.Result.{IfOk-weaker}
use Rattle.wm_command.proofs.LineLemmas.{opened}
use Rattle.wm_command.proofs.several.execute_named.Goals as goal

pub returns-in-Ok : goal.returns-in-Ok
returns-in-Ok g c =
    IfOk-weaker c.follow_named-in-Ok.result _ _
    (λ status right io memory. opened _ c.in-Some.path.now (λ path. g.O.Opens.held_at c.args.files.now path) _ _ c.in-Some.ensures c.in-Ok.ensures (right io memory)) c.follow_named-in-Ok.ensures
