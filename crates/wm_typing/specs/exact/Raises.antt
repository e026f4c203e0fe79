-- Which ops may grow the operand stack or the control stack. They follow the code.
use Rattle.std.specs.Prelude.{Bool, true, false}
use Rattle.wm_syntax.specs.declared.instructions.Op.{Op}
use Rattle.wm_syntax.specs.declared.instructions.Op.TheVariants as op
use Rattle.wm_syntax.specs.declared.instructions.Simple.{Simple}
use Rattle.wm_syntax.specs.declared.instructions.Simple.TheVariants.{LocalSet, GlobalSet, Store, Drop}

abbrev pub gives : Simple → Bool
gives (LocalSet x) = false
gives (GlobalSet x) = false
gives (Store o at) = false
gives Drop = false
gives i = true

abbrev pub may_push : Op → Bool
may_push (op.Simple i) = gives i
may_push op.Else = true
may_push op.End = true
may_push x = false

abbrev pub may_open : Op → Bool
may_open (op.Block t) = true
may_open (op.Loop t) = true
may_open (op.If t) = true
may_open op.Else = true
may_open x = false
