use Rattle.wm_tokens.proofs.Whole.{stand_err}
use Rattle.wm_tokens.proofs.Places.{utf8_err, first_err, at_err, utf8_at_err}
use Rattle.wm_tokens.proofs.lexeme.check_tokens.Goals as goal

pub returns-in-Ok-clause-err : goal.returns-in-Ok-clause-err
returns-in-Ok-clause-err c = stand_err c.args.text.now c.check_whole.result c.check_whole.ensures.tokens

pub returns-in-Ok-clause-utf8 : goal.returns-in-Ok-clause-utf8
returns-in-Ok-clause-utf8 c = utf8_err c.args.text.now c.check_whole.result c.in-Ok.ensures.cases.1 c.check_whole.ensures.fault

pub returns-in-Ok-clause-fault : goal.returns-in-Ok-clause-fault
returns-in-Ok-clause-fault c = first_err c.args.text.now c.check_whole.result c.in-Ok.ensures.cases.1 c.check_whole.ensures.fault

pub returns-in-Ok-clause-at : goal.returns-in-Ok-clause-at
returns-in-Ok-clause-at c = at_err c.args.text.now c.check_whole.result c.check_whole.ensures.fault

pub returns-in-Ok-clause-utf8_at : goal.returns-in-Ok-clause-utf8_at
returns-in-Ok-clause-utf8_at c = utf8_at_err c.args.text.now c.check_whole.result c.check_whole.ensures.fault
