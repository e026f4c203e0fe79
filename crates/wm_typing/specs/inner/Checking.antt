-- The state of a body's check after the ops so far.
use Rattle.std.specs.Prelude.{ℕ, ◌+◌, ◌-◌, ◌*◌, ◌^◌, ◌<◌, ◌≤◌, ◌≡◌, List, [], Option, None, length}
use Rattle.wm_syntax.specs.declared.types.ValType.{ValType}
use Rattle.wm_syntax.specs.declared.instructions.Op.{Op}
use Rattle.wm_stacks.specs.Stack.{Stack}
use Rattle.wm_typing.specs.declared.labels.BrTable.{BrTable}
use Rattle.wm_typing.specs.Typing.{Context}
use Rattle.wm_typing.specs.Contexts.{body_context, result_of}
use Rattle.wm_typing.specs.OpenLists.{Place, IsSoFar, levels, deepest_so_far}
use Rattle.wm_syntax.specs.Instructions.{openings, endings}
use Rattle.wm_typing.specs.inner.Frames.{Frames, Holds, TracksWith}
use Rattle.wm_typing.specs.Bodies.{Body, WithinOps}

-- The stacks and the br_table after these ops, in the context of a body.
pub record Keeps (c : Context) (ops : List Op) (t : Option BrTable) (s : Stack) : Type 0 where
  pub frames : Frames
  pub place : Place
  pub so_far : IsSoFar c.result place ops
  pub holds : Holds c place frames
  pub goes : TracksWith t s frames

-- All that was pushed so far was removed again or is still on its stack.
pub record Steady (b : Body) : Type 0 where
  pub operands : length b.state.stacks.operands ≤ b.stats.moves
  pub frames : length b.state.stacks.frames ≤ b.stats.moves
  pub most_operands : 2 * b.stats.operands ≤ b.stats.moves + length b.state.stacks.operands
  pub most_controls : 2 * b.stats.controls ≤ b.stats.moves + length b.state.stacks.frames

-- The state after `begin` with a context and a type index, then the declared locals and the ops, if nothing was
-- refused. The clauses of the calls state what follows from it, so a reader need not believe it.
pub record BodyAfter (c : Context) (x : ℕ) (locals : List ValType) (ops : List Op) (b : Body) : Type 0 where
  pub unrefused : b.refused ≡ None
  pub type_index : b.type_index ≡ x
  pub result : b.result ≡ result_of c x
  pub declared : 0 < length b.state.stacks.frames → b.declared ≡ locals
  pub emptied : b.state.stacks.frames ≡ [] → b.declared ≡ []
  pub keeps : Keeps (body_context c x locals) ops b.state.table b.state.stacks
  pub within : WithinOps (length ops) b
  pub nested : levels keeps.place + endings ops ≡ openings ops + 1
  pub controls : b.stats.controls ≡ deepest_so_far keeps.place
  pub steady : b.stats.moves < 2 ^ 64 - 1 → Steady b
