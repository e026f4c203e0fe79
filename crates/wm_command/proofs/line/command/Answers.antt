use Rattle.std.proofs.Common.{◌∙◌, ap, ap₂}
use Rattle.std.proofs.lemmas.Result.{IfOk-weaker}
use Rattle.clap.specs.Words.{with_rule}
use Rattle.wm_command.specs.Lines.{file_rules, module_rules, with_rules}
use Rattle.wm_command.proofs.line.command.Goals as goal

pub returns : goal.returns
returns c =
    let one = c.in_ok-command.ensures.shape c.action_arg.ensures.local ∙ ap₂ with_rule c.bare_command.ensures c.action_arg.ensures.rule in
    let two = c.in_ok-command-2.ensures ∙ ap (λ a. with_rules a module_rules) one in
    IfOk-weaker c.with_rules_of_files.result _ _ (λ x h. h ∙ ap (λ a. with_rules a file_rules) two) c.with_rules_of_files.ensures
