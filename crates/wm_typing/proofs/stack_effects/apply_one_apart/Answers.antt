-- The fast path does as the type says.
use Rattle.std.proofs.Common.{None, option_map, refl}
use Rattle.wm_typing.specs.exact.OperandTypes.{entry_of_type}
use Rattle.wm_typing.proofs.Costs.{near_acts}
use Rattle.wm_typing.proofs.stack_effects.apply_one_apart.Goals as goal

pub returns-then-replaced_float : goal.returns-then-replaced_float
returns-then-replaced_float c =
    near_acts None c.args.only c.args.given (option_map entry_of_type c.args.given) c.args.stacks.now c.replaced_float.new.stacks refl
    (c.replaced_float.ensures.0 c.if-replaced_float.true)
