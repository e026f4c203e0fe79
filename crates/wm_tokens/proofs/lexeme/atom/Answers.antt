use Rattle.std.proofs.Common.{sym, ◌∙◌}
use Rattle.wm_tokens.proofs.Ahead.{atom_cut, atom_bad}
use Rattle.wm_tokens.proofs.lexeme.atom.Goals as goal

pub returns-then-is_atom-clause-found : goal.returns-then-is_atom-clause-found
returns-then-is_atom-clause-found c = atom_cut c.args.text.now _ _ c.atom_len.result c.requires c.atom_len.ensures.atom c.split_at.ensures.front c.split_at.ensures.back (sym c.is_atom.ensures ∙ c.if-is_atom.true)

pub returns-else-is_atom-clause-found : goal.returns-else-is_atom-clause-found
returns-else-is_atom-clause-found c = atom_bad c.args.text.now _ _ c.atom_len.result c.requires c.atom_len.ensures.atom c.split_at.ensures.front c.split_at.ensures.back (sym c.is_atom.ensures ∙ c.if-is_atom.false)
