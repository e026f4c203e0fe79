use Rattle.std.proofs.Common.{arith}
use Rattle.wm_tokens.proofs.Ahead.{no_opening}
use Rattle.wm_tokens.proofs.lexeme.opening_alone.Goals as goal

pub returns-in-59-clause-none : goal.returns-in-59-clause-none
returns-in-59-clause-none c = no_opening c.args.text.now (omega arith)
