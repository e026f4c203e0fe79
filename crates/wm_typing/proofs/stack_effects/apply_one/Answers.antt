-- The fast path does as the type says.
use Rattle.std.proofs.Common.{None}
use Rattle.wm_typing.proofs.Costs.{near_acts}
use Rattle.wm_typing.proofs.stack_effects.apply_one.Goals as goal

pub returns-then-replace_fast : goal.returns-then-replace_fast
returns-then-replace_fast c =
    near_acts None c.args.only c.args.given c.entry_given.result c.args.stacks.now c.replace_fast.new.self c.entry_given.ensures
    (c.replace_fast.ensures.0 c.if-replace_fast.true)
