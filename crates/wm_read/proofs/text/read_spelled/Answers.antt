use Rattle.wm_read.proofs.TextLaws.{followed_itself}
use Rattle.wm_read.proofs.text.read_spelled.Goals as goal

pub returns-in-Standard-clause-followed : goal.returns-in-Standard-clause-followed
returns-in-Standard-clause-followed c = followed_itself c.args.profile c.args.spellings c.args.text.now _ c.in-Standard.is c.read_module.ensures.followed
