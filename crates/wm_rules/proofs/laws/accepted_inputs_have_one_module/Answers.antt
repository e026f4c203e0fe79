use Rattle.std.proofs.Common.{◌∙◌, refl, sym}
use Rattle.wm_syntax.proofs.ProfileLaws.{every_extends}
use Rattle.wm_syntax.specs.Profiles.{every}
use Rattle.wm_machine.proofs.OneSpelling.{one_spelling}
use Rattle.wm_rules.proofs.MoreFeatures.{accepted_more}
use Rattle.wm_rules.proofs.laws.accepted_inputs_have_one_module.Goals as goal

pub returns : goal.returns
returns c = λ p r limit most q s bytes a b.
    let first = accepted_more p every limit q bytes (every_extends p) a in
    let second = accepted_more r every most s bytes (every_extends r) b in
    sym first.1 ∙ one_spelling every every first.0.module_value second.0.module_value bytes refl first.0.spelled.1 second.0.spelled.1 ∙ second.1
