use Rattle.std.proofs.Common.{◌∙◌, ap, ap₂, refl}
use Rattle.std.proofs.lemmas.Result.{IfOk-weaker}
use Rattle.clap.specs.Words.{with_rule}
use Rattle.wm_command.specs.Lines.{with_letter}
use Rattle.wm_command.proofs.line.with_rules_of_files.Goals as goal

pub returns : goal.returns
returns c =
    let null = c.with_short.ensures.rule ∙ ap (with_letter 48) c.flag_arg.ensures.rule in
    let output = c.with_short-2.ensures.rule ∙ ap (with_letter 111) c.option_arg-2.ensures.rule in
    let quiet = c.with_short-3.ensures.rule ∙ ap (with_letter 113) c.flag_arg-2.ensures.rule in
    let one = c.in_ok-arg.ensures.shape c.option_arg.ensures.local ∙ ap₂ with_rule refl c.option_arg.ensures.rule in
    let two = c.in_ok-arg-2.ensures.shape (c.with_short.ensures.local ∙ c.flag_arg.ensures.local) ∙ ap₂ with_rule one null in
    let three = c.in_ok-arg-3.ensures.shape (c.with_short-2.ensures.local ∙ c.option_arg-2.ensures.local) ∙ ap₂ with_rule two output in
    let four = c.in_ok-arg-4.ensures.shape (c.with_short-3.ensures.local ∙ c.flag_arg-2.ensures.local) ∙ ap₂ with_rule three quiet in
    IfOk-weaker c.arg-5.result _ _ (λ x h. h.shape c.file_arg.ensures.local ∙ ap₂ with_rule four c.file_arg.ensures.rule) c.arg-5.ensures
