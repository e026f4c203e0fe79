use Rattle.std.proofs.Common.{arith}
use Rattle.wm_tokens.proofs.PlainAtoms.{word_cut}
use Rattle.wm_tokens.proofs.scan.plain_atom.Goals as goal

pub returns-in-97-to-122 : goal.returns-in-97-to-122
returns-in-97-to-122 c = word_cut c.args.text.now _ _ c.atom_len.result (omega arith) (omega arith) c.atom_len.ensures.atom c.split_at.ensures.front c.split_at.ensures.back
