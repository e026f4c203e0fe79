-- A float is determined by its width.
use Rattle.std.proofs.Common.{ap, ◌∙◌}
use Rattle.wm_stacks.specs.declared.words.Kind.TheVariants.{Float}
use Rattle.wm_stacks.specs.inner.Operands.{entry_of}
use Rattle.wm_stacks.proofs.operands.entry_at.Goals as goal

pub returns-in-Float : goal.returns-in-Float
returns-in-Float c = rw c.in-Float.is (c.float.ensures ∙ ap (λ b. entry_of Float b) c.is_wide.ensures)
