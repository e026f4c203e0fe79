use Rattle.wm_command.proofs.LineLemmas.{match_weaker, none_wrong}
use Rattle.wm_command.proofs.line.wrong_in.Goals as goal

pub returns : goal.returns
returns c =
    match_weaker c.wrong_in_files.result c.wrong_in_files.ensures
    (none_wrong _ _ c.in_default.ensures c.in_default-no_topic.ensures c.in_default-no_profile.ensures c.in_default-no_feature.ensures c.in_default-no_limit.ensures c.in_default-wrong_in_policy.ensures c.in_default-no_build.ensures)
    (λ w h. h)
