use Rattle.std.proofs.Common.{List, ℕ, ap, length, subst}
use Rattle.wm_c.specs.Names.{IsWritten}
use Rattle.wm_c.proofs.names.wmod_why_name.Goals as goal

pub returns-clause-named : goal.returns-clause-named
returns-clause-named c = λ word h.
    let e = c.word_of-word.ensures.named word h in
    (ap length e, subst (λ (w : List ℕ). IsWritten w c.args.name.now c.write.new.to) e c.write.ensures)
