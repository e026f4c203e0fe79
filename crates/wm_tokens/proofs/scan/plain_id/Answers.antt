use Rattle.std.proofs.Common.{arith}
use Rattle.wm_tokens.proofs.PlainAtoms.{id_cut}
use Rattle.wm_tokens.proofs.scan.plain_id.Goals as goal

pub returns-else-n-lt2 : goal.returns-else-n-lt2
returns-else-n-lt2 c = id_cut c.args.text.now _ _ c.atom_len-n.result c.requires (omega (arith, c.if-n-lt2.false)) c.split_at.ensures.front_len c.atom_len-n.ensures.atom c.split_at.ensures.front c.split_at.ensures.back
