-- Ops taken one after another, for the layers above. They follow the code exactly, and the laws in `laws` state
-- what they mean.
use Rattle.std.specs.Prelude.{ℕ, List, [], ◌∷◌, Result, Ok, Err}
use Rattle.wm_syntax.specs.declared.types.ValType.{ValType}
use Rattle.wm_syntax.specs.declared.why.Why.{Why}
use Rattle.wm_syntax.specs.declared.why.Why.TheVariants.{BodyEnd}
use Rattle.wm_syntax.specs.declared.instructions.Op.{Op}
use Rattle.wm_stacks.specs.declared.stack_entries.Frame.{Frame}
use Rattle.wm_typing.specs.Typing.{Context}
use Rattle.wm_typing.specs.Bodies.{Body}
use Rattle.wm_typing.specs.exact.Bodies.{body_at_start, body_after_op}

-- A body that has begun, with these declared locals.
abbrev pub body_with_locals : Context → ℕ → List ValType → Body
body_with_locals c x locals = record (body_at_start c x) { declared = locals }

-- `BodyEnd` if an op comes after the end of the body.
abbrev pub while_inside : List Frame → Result Body Why → Result Body Why
while_inside [] r = Err BodyEnd
while_inside (f ∷ fs) r = r

abbrev pub body_after_ops : Context → Result Body Why → List Op → Result Body Why
body_after_ops c (Err why) ops = Err why
body_after_ops c (Ok b) [] = Ok b
body_after_ops c (Ok b) (x ∷ ops) =
    body_after_ops c (while_inside b.state.stacks.frames (body_after_op c x b)) ops
