use Rattle.std.proofs.Common.{◌≤◌, length, subst, sym, List, ℕ}
use Rattle.wm_write.proofs.Lines.{short_name}
use Rattle.wm_write.proofs.print.body_lines.name.Goals as goal

pub returns-clause-short : goal.returns-clause-short
returns-clause-short c = subst (λ (z : List ℕ). length z ≤ 19) (sym c.name_of.ensures.exact) (short_name c.args.wanted)
