use Rattle.std.proofs.Common.{◌∙◌, map}
use Rattle.clap.specs.Words.{app_of, fault_of, first_value, found_of}
use Rattle.wm_command.specs.Lines.{files_found, files_of, wmod, word_of}
use Rattle.wm_command.proofs.LineLemmas.{faulty, match_weaker, none_along, refused, taken, wrong_along}
use Rattle.wm_command.proofs.line.wrong_word.Goals as goal

pub returns-in-Ok : goal.returns-in-Ok
returns-in-Ok g c =
    let words = map g.S.AsStr.text c.args.words.now in
    let found = found_of c.in-Ok.matches in
    let parse = taken (app_of c.in_ok-command.field-0) c.in-Ok.matches words c.in_ok-command.ensures c.in-Ok.ensures.matches c.in-Ok.ensures.kinds in
    match_weaker c.wrong_in.result c.wrong_in.ensures (λ none _. none_along (first_value found) (word_of words) parse.word (files_found found) (files_of words) parse.files none)
    (wrong_along (first_value found) (word_of words) parse.word (files_found found) (files_of words) parse.files)

pub returns : goal.returns
returns g c =
    let words = map g.S.AsStr.text c.args.words.now in
    let kinds = refused (app_of c.in_ok-command.field-0) words c.in-Err.error c.in_ok-command.ensures c.in-Err.ensures.kinds in
    λ none. absurd (faulty (fault_of wmod words) c.in-Err.error kinds (λ memory. c.in_default.not-OutOfMemory (c.kind.ensures ∙ memory)) none)
