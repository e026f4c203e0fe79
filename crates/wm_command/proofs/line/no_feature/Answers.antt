use Rattle.wm_command.specs.Lines.{words_in}
use Rattle.wm_syntax.specs.Profiles.{one}
use Rattle.wm_command.proofs.FeatureLemmas.{each_names}
use Rattle.wm_command.proofs.LineLemmas.{said_names}
use Rattle.wm_command.proofs.line.no_feature.Goals as goal

pub returns-in-Ok : goal.returns-in-Ok
returns-in-Ok c =
    said_names c.get_str.result (λ s. s.now) _ c.in_ok-list.list c.get_str.ensures c.in_ok-list.was
    (each_names (words_in c.in_ok-list.list.now) one c.in-Ok.field-0 c.in-Ok.ensures.ok)
