use Rattle.std.proofs.Common.{inl, inr, arith, below_more, sym, ◌∙◌}
use Rattle.wm_tokens.proofs.Atoms.{atom_at}
use Rattle.wm_tokens.proofs.scan.atom_end.Goals as goal

pub returns-then-not-is_id_char-clause-atom : goal.returns-then-not-is_id_char-clause-atom
returns-then-not-is_id_char-clause-atom c = atom_at c.args.text.now c.loop-i.i (omega arith) c.loop-i.invariant.known (inr (sym c.is_id_char.ensures ∙ c.if-not-is_id_char.true))

pub loop-i-preserved : goal.loop-i-preserved
loop-i-preserved c = record { within = omega arith; known = below_more _ _ c.loop-i.invariant.known (sym c.is_id_char.ensures ∙ c.if-not-is_id_char.false) }

pub returns-clause-atom : goal.returns-clause-atom
returns-clause-atom c = atom_at c.args.text.now c.loop-i.i (omega arith) c.loop-i.invariant.known (inl (omega arith))
