-- The fast path does as the type says.
use Rattle.std.proofs.Common.{Some}
use Rattle.wm_typing.proofs.Costs.{near_acts}
use Rattle.wm_typing.proofs.stack_effects.apply_two_apart.Goals as goal

pub returns-then-replace_two_floats_fast : goal.returns-then-replace_two_floats_fast
returns-then-replace_two_floats_fast c =
    near_acts (Some c.args.under) c.args.top c.args.given c.entry_given.result c.args.stacks.now c.replace_two_floats_fast.new.self c.entry_given.ensures
    (c.replace_two_floats_fast.ensures.0 c.if-replace_two_floats_fast.true)
