-- Exact answers about the place of the next byte, in a state of the machine.
use Rattle.std.specs.Prelude.{ℕ, ◌-◌, List, [], ◌∷◌, Option, Some, None}
use Rattle.wm_syntax.specs.declared.profile.Profile.{Profile}
use Rattle.wm_machine.specs.declared.machine.InCustom.{InCustom}
use Rattle.wm_machine.specs.declared.machine.InCustom.TheVariants as custom
use Rattle.wm_machine.specs.declared.machine.Machine.{Machine}
use Rattle.wm_machine.specs.declared.machine.Machine.TheVariants as machine
use Rattle.wm_machine.specs.declared.machine.member.InEntry.{InEntry}
use Rattle.wm_machine.specs.declared.machine.member.InEntry.TheVariants as entry
use Rattle.wm_machine.specs.declared.machine.member.InMember.{InMember}
use Rattle.wm_machine.specs.declared.machine.member.InMember.TheVariants as member
use Rattle.wm_machine.specs.declared.step.expressions.InExpression.{InExpression}
use Rattle.wm_machine.specs.declared.step.expressions.InExpression.TheVariants as expression
use Rattle.wm_machine.specs.declared.step.ops.InOp.{InOp}
use Rattle.wm_machine.specs.declared.step.ops.InOp.TheVariants as op
use Rattle.wm_machine.specs.declared.step.values.InExportDesc.{InExportDesc}
use Rattle.wm_machine.specs.declared.step.values.InExportDesc.TheVariants as export
use Rattle.wm_machine.specs.declared.step.values.InGlobalType.{InGlobalType}
use Rattle.wm_machine.specs.declared.step.values.InGlobalType.TheVariants as global
use Rattle.wm_machine.specs.declared.step.values.InImportDesc.{InImportDesc}
use Rattle.wm_machine.specs.declared.step.values.InImportDesc.TheVariants as import
use Rattle.wm_machine.specs.declared.step.values.InLimits.{InLimits}
use Rattle.wm_machine.specs.declared.step.values.InLimits.TheVariants as limits
use Rattle.wm_machine.specs.declared.step.values.InRun.{InRun}
use Rattle.wm_machine.specs.declared.step.values.InRun.TheVariants as run
use Rattle.wm_machine.specs.declared.step.values.InTableType.{InTableType}
use Rattle.wm_machine.specs.declared.step.values.InTableType.TheVariants as table
use Rattle.wm_machine.specs.declared.step.values.InValue.{InValue}
use Rattle.wm_machine.specs.declared.step.values.InValue.TheVariants as value
use Rattle.wm_machine.specs.exact.Members.{id_of}
use Rattle.wm_machine.specs.exact.Steps.{step_of}
use Rattle.wm_decode.specs.declared.place.Place.{Place}
use Rattle.wm_decode.specs.declared.place.awaits.Awaits.{Awaits}
use Rattle.wm_decode.specs.declared.place.awaits.Awaits.TheVariants as awaits

abbrev pub awaits_in_limits : InLimits → Awaits
awaits_in_limits limits.Flag = awaits.LimitsFlag
awaits_in_limits (limits.Min bounded r) = awaits.Number
awaits_in_limits (limits.Max min r) = awaits.Number

abbrev pub awaits_in_table_type : InTableType → Awaits
awaits_in_table_type table.ElementType = awaits.ElementType
awaits_in_table_type (table.Limits l) = awaits_in_limits l

abbrev pub awaits_in_global_type : InGlobalType → Awaits
awaits_in_global_type global.Type = awaits.ValueType
awaits_in_global_type (global.Var t) = awaits.Mutability

abbrev pub awaits_in_import : InImportDesc → Awaits
awaits_in_import import.Kind = awaits.Kind
awaits_in_import (import.Func r) = awaits.Number
awaits_in_import (import.Table t) = awaits_in_table_type t
awaits_in_import (import.Memory l) = awaits_in_limits l
awaits_in_import (import.Global g) = awaits_in_global_type g

abbrev pub awaits_in_export : InExportDesc → Awaits
awaits_in_export export.Kind = awaits.Kind
awaits_in_export (export.Index kind r) = awaits.Number

abbrev pub awaits_in_value : InValue → Awaits
awaits_in_value (value.Import d) = awaits_in_import d
awaits_in_value (value.Table t) = awaits_in_table_type t
awaits_in_value (value.Memory l) = awaits_in_limits l
awaits_in_value (value.Export d) = awaits_in_export d

abbrev pub awaits_in_op : InOp → Awaits
awaits_in_op op.First = awaits.Opcode
awaits_in_op op.Code = awaits.OpcodeNumber
awaits_in_op (op.Padding n left) = awaits.Number
awaits_in_op (op.BlockType b) = awaits.BlockType
awaits_in_op (op.Table t left) = awaits.TableByte
awaits_in_op op.FirstZero = awaits.MemoryByte
awaits_in_op (op.Memory m) = awaits.MemoryByte
awaits_in_op (op.InitMemory n) = awaits.MemoryByte
awaits_in_op (op.Float32 left bits) = awaits.Any
awaits_in_op (op.Float64 left bits) = awaits.Any
awaits_in_op _ = awaits.Number

abbrev pub awaits_in_expression : InExpression → Awaits
awaits_in_expression (expression.Op depth o) = awaits_in_op o
awaits_in_expression (expression.Label depth left r) = awaits.Number
awaits_in_expression _ = awaits.Any

abbrev pub awaits_in_run : InRun → Awaits
awaits_in_run (run.Count r) = awaits.Number
awaits_in_run (run.Type n) = awaits.ValueType

abbrev pub awaits_in_entry : InEntry → Awaits
awaits_in_entry (entry.RunCount r) = awaits.Number
awaits_in_entry (entry.Run more r) = awaits_in_run r
awaits_in_entry (entry.Body e) = awaits_in_expression e
awaits_in_entry _ = awaits.Any

abbrev pub awaits_in_member : InMember → Awaits
awaits_in_member member.TypeForm = awaits.TypeForm
awaits_in_member (member.ParamCount r) = awaits.Number
awaits_in_member (member.Param more) = awaits.ValueType
awaits_in_member (member.ResultCount r) = awaits.Number
awaits_in_member (member.ResultType more) = awaits.ValueType
awaits_in_member (member.NameLength kind r) = awaits.Number
awaits_in_member (member.Name kind more) = awaits.Name
awaits_in_member (member.Value v) = awaits_in_value v
awaits_in_member (member.Index kind r) = awaits.Number
awaits_in_member (member.SegmentStart of r) = awaits.Number
awaits_in_member member.ElementKind = awaits.Kind
awaits_in_member (member.GlobalType g) = awaits_in_global_type g
awaits_in_member (member.Constant kind e) = awaits_in_expression e
awaits_in_member (member.Length kind r) = awaits.Number
awaits_in_member (member.EntrySize r) = awaits.Number
awaits_in_member (member.Entry more e) = awaits_in_entry e
awaits_in_member _ = awaits.Any

abbrev pub awaits_in_custom : InCustom → Awaits
awaits_in_custom (custom.Length r) = awaits.Number
awaits_in_custom (custom.Name more) = awaits.Name
awaits_in_custom _ = awaits.Any

-- a place in a section with this id, in none of its members
abbrev pub in_no_member : ℕ → Awaits → Place
in_no_member id a = record { section = id; item = None; awaits = a }

-- the place of the next byte; `None` in the header and before the id of a section
abbrev pub place_in : Machine → Option Place
place_in (machine.CustomSize last counts r) = Some (in_no_member 0 awaits.Number)
place_in (machine.Custom last counts more q) = Some (in_no_member 0 (awaits_in_custom q))
place_in (machine.Size of counts r) = Some (in_no_member (id_of of) awaits.Number)
place_in (machine.Count of counts more r) = Some (in_no_member (id_of of) awaits.Number)
place_in (machine.Section of counts more left q) =
    Some (record { section = id_of of; item = Some (counts.members - left - 1); awaits = awaits_in_member q })
place_in _ = None

-- the machine after these bytes, whatever a sink says
abbrev pub machine_from : Profile → Machine → List ℕ → Machine
machine_from p m [] = m
machine_from p m (c ∷ b) = machine_from p (step_of p m c).0 b
