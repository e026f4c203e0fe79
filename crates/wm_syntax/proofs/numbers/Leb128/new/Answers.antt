use Rattle.wm_syntax.proofs.Readers.{signed_fresh, unsigned_fresh}
use Rattle.wm_syntax.proofs.numbers.Leb128.new.Goals as goal

pub returns-clause-unsigned : goal.returns-clause-unsigned
returns-clause-unsigned c = unsigned_fresh

pub returns-clause-signed : goal.returns-clause-signed
returns-clause-signed c = signed_fresh
