-- The number of runs of locals that an op reads to find its local.
use Rattle.std.specs.Prelude.{ℕ, ◌-◌, List, Option, None, length, nat_lt, if◌then◌else◌}
use Rattle.wm_syntax.specs.declared.types.ValType.{ValType}
use Rattle.wm_syntax.specs.declared.instructions.Simple.{Simple}
use Rattle.wm_syntax.specs.declared.instructions.Simple.TheVariants.{LocalGet, LocalSet, LocalTee}
use Rattle.wm_syntax.specs.declared.instructions.Op.{Op}
use Rattle.wm_stacks.specs.Probes.{probes_for}
use Rattle.wm_typing.specs.declared.labels.BrTable.{BrTable}
use Rattle.wm_typing.specs.Typing.{Context}
use Rattle.wm_typing.specs.Contexts.{params_of}
use Rattle.wm_typing.specs.Bodies.{Body}
use Rattle.wm_syntax.specs.declared.instructions.Op.TheVariants as op

-- The number of runs read to find this local; 0 for a parameter.
abbrev pub local_probes : List ValType → List ValType → ℕ → ℕ
local_probes params declared x = if nat_lt x (length params) then 0
    else probes_for declared (x - length params)

abbrev pub simple_probes : List ValType → List ValType → Simple → ℕ
simple_probes params declared (LocalGet x) = local_probes params declared x
simple_probes params declared (LocalSet x) = local_probes params declared x
simple_probes params declared (LocalTee x) = local_probes params declared x
simple_probes params declared _ = 0

-- The number of runs that an op reads. Nothing is searched within the labels of a br_table.
abbrev pub op_probes : List ValType → List ValType → Option BrTable → Op → ℕ
op_probes params declared None (op.Simple i) = simple_probes params declared i
op_probes params declared _ _ = 0

abbrev pub probes_in : Context → Body → Op → ℕ
probes_in c b x = op_probes (params_of c b.type_index) b.declared b.state.table x
