-- Exact answers of the readers of values.
use Rattle.std.specs.Prelude.{ℕ, zero, suc, Bool, true, false, ◌==◌, if◌then◌else◌, Some, None, Result, Ok}
use Rattle.std.specs.Prelude.{Err}
use Rattle.wm_syntax.specs.declared.numbers.Step.{Step}
use Rattle.wm_syntax.specs.declared.numbers.Step.TheVariants as step
use Rattle.wm_syntax.specs.inner.Numbers.{Partial}
use Rattle.wm_syntax.specs.exact.Reading.{fresh, unsigned_push}
use Rattle.wm_syntax.specs.declared.why.Why.{Why}
use Rattle.wm_syntax.specs.declared.why.Why.TheVariants as why
use Rattle.wm_syntax.specs.declared.types.ValType.{ValType}
use Rattle.wm_syntax.specs.declared.types.ValType.TheVariants.{I32, I64, F32, F64}
use Rattle.wm_syntax.specs.declared.types.Limits.{Limits}
use Rattle.wm_syntax.specs.declared.types.GlobalType.{GlobalType}
use Rattle.wm_syntax.specs.declared.profile.Profile.{Profile}
use Rattle.wm_syntax.specs.Profiles.{has, type_feature}
use Rattle.wm_syntax.specs.declared.modules.ImportDesc.{ImportDesc}
use Rattle.wm_syntax.specs.declared.modules.ImportDesc.TheVariants as desc
use Rattle.wm_syntax.specs.declared.modules.ExportKind.{ExportKind}
use Rattle.wm_syntax.specs.declared.modules.ExportKind.TheVariants as kind
use Rattle.wm_machine.specs.declared.machine.Plain.{Plain}
use Rattle.wm_machine.specs.declared.machine.Plain.TheVariants as plain
use Rattle.wm_machine.specs.declared.step.reading.Reading.{Reading}
use Rattle.wm_machine.specs.declared.step.reading.Reading.TheVariants.{More, Done, Bad}
use Rattle.wm_machine.specs.declared.step.values.InLimits.{InLimits}
use Rattle.wm_machine.specs.declared.step.values.InLimits.TheVariants as limits
use Rattle.wm_machine.specs.declared.step.values.InTableType.{InTableType}
use Rattle.wm_machine.specs.declared.step.values.InTableType.TheVariants as table
use Rattle.wm_machine.specs.declared.step.values.InGlobalType.{InGlobalType}
use Rattle.wm_machine.specs.declared.step.values.InGlobalType.TheVariants as global
use Rattle.wm_machine.specs.declared.step.values.InImportDesc.{InImportDesc}
use Rattle.wm_machine.specs.declared.step.values.InImportDesc.TheVariants as import
use Rattle.wm_machine.specs.declared.step.values.InExportDesc.{InExportDesc}
use Rattle.wm_machine.specs.declared.step.values.InExportDesc.TheVariants as target
use Rattle.wm_machine.specs.declared.step.values.InRun.{InRun}
use Rattle.wm_machine.specs.declared.step.values.InRun.TheVariants as run
use Rattle.wm_machine.specs.declared.step.values.InValue.{InValue}
use Rattle.wm_machine.specs.declared.step.values.InValue.TheVariants as value

-- the result that follows an answer of the reader of a number
abbrev pub read_number : {R X : Type 0} → Step ℕ × Partial → (Partial → R) → (ℕ → Reading R X) → Reading R X
read_number (step.More, r) more done = More (more r)
read_number (step.Done n, r) more done = done n
read_number (step.Bad, r) more done = Bad why.BadNumber

-- the result of an inner reader, as one of the outer reader
abbrev pub map_reading : {R S X Y : Type 0} → (R → S) → (X → Y) → Reading R X → Reading S Y
map_reading f g (More r) = More (f r)
map_reading f g (Done x) = Done (g x)
map_reading f g (Bad w) = Bad w

-- limits
abbrev pub after_min : Bool → ℕ → Reading InLimits Limits
after_min true n = More (limits.Max n fresh)
after_min false n = Done (record { min = n; max = None })

abbrev pub min_step : Bool → Partial → ℕ → Reading InLimits Limits
min_step bounded r c = read_number (unsigned_push 32 r c) (λ s. limits.Min bounded s) (after_min bounded)

abbrev pub max_step : ℕ → Partial → ℕ → Reading InLimits Limits
max_step min r c =
    read_number (unsigned_push 32 r c) (λ s. limits.Max min s) (λ n. Done (record {
      min = min;
      max = Some n;
    }))

abbrev pub flag_step : ℕ → Reading InLimits Limits
flag_step c =
    if c == 0x00 then More (limits.Min false fresh)
    else (if c == 0x01 then More (limits.Min true fresh) else Bad why.BadByte)

abbrev pub limits_push : InLimits → ℕ → Reading InLimits Limits
limits_push limits.Flag c = flag_step c
limits_push (limits.Min bounded r) c = min_step bounded r c
limits_push (limits.Max min r) c = max_step min r c

-- table types
abbrev pub table_type_push : InTableType → ℕ → Reading InTableType Limits
table_type_push table.ElementType c = if c == 0x70 then More (table.Limits limits.Flag) else Bad why.BadByte
table_type_push (table.Limits at) c = map_reading table.Limits (λ l. l) (limits_push at c)

-- the value type, or `Float` if the profile lacks it
abbrev pub type_under : Profile → ValType → Result ValType Why
type_under p t = if has p (type_feature t) then Ok t else Err why.Float

-- value types
abbrev pub value_type_of : Profile → ℕ → Result ValType Why
value_type_of p c =
    if c == 0x7F then type_under p I32
    else (if c == 0x7E then type_under p I64
    else (if c == 0x7D then type_under p F32
    else (if c == 0x7C then type_under p F64 else Err why.BadByte)))

abbrev pub read_type : {R X : Type 0} → Result ValType Why → (ValType → Reading R X) → Reading R X
read_type (Ok t) f = f t
read_type (Err w) f = Bad w

-- global types
abbrev pub var_step : ValType → ℕ → Reading InGlobalType GlobalType
var_step t zero = Done (record { ty = t; var = false })
var_step t (suc zero) = Done (record { ty = t; var = true })
var_step t c = Bad why.BadByte

abbrev pub global_type_push : Profile → InGlobalType → ℕ → Reading InGlobalType GlobalType
global_type_push p global.Type c = read_type (value_type_of p c) (λ t. More (global.Var t))
global_type_push p (global.Var t) c = var_step t c

-- import descriptors
abbrev pub func_step : Partial → ℕ → Reading InImportDesc ImportDesc
func_step r c = read_number (unsigned_push 32 r c) import.Func (λ n. Done (desc.Func n))

abbrev pub in_table : Reading InTableType Limits → Reading InImportDesc ImportDesc
in_table = map_reading import.Table desc.Table

abbrev pub in_memory : Reading InLimits Limits → Reading InImportDesc ImportDesc
in_memory = map_reading import.Memory desc.Memory

abbrev pub in_global : Reading InGlobalType GlobalType → Reading InImportDesc ImportDesc
in_global = map_reading import.Global desc.Global

abbrev pub desc_kind_step : ℕ → Reading InImportDesc ImportDesc
desc_kind_step zero = More (import.Func fresh)
desc_kind_step (suc zero) = More (import.Table table.ElementType)
desc_kind_step (suc (suc zero)) = More (import.Memory limits.Flag)
desc_kind_step (suc (suc (suc zero))) = More (import.Global global.Type)
desc_kind_step c = Bad why.BadByte

abbrev pub desc_push : Profile → InImportDesc → ℕ → Reading InImportDesc ImportDesc
desc_push p import.Kind c = desc_kind_step c
desc_push p (import.Func r) c = func_step r c
desc_push p (import.Table at) c = in_table (table_type_push at c)
desc_push p (import.Memory at) c = in_memory (limits_push at c)
desc_push p (import.Global at) c = in_global (global_type_push p at c)

-- export descriptors
abbrev pub target_step : ExportKind → Partial → ℕ → Reading InExportDesc (ExportKind × ℕ)
target_step k r c = read_number (unsigned_push 32 r c) (λ s. target.Index k s) (λ n. Done (k, n))

abbrev pub target_kind_step : ℕ → Reading InExportDesc (ExportKind × ℕ)
target_kind_step zero = More (target.Index kind.Func fresh)
target_kind_step (suc zero) = More (target.Index kind.Table fresh)
target_kind_step (suc (suc zero)) = More (target.Index kind.Memory fresh)
target_kind_step (suc (suc (suc zero))) = More (target.Index kind.Global fresh)
target_kind_step c = Bad why.BadByte

abbrev pub target_push : InExportDesc → ℕ → Reading InExportDesc (ExportKind × ℕ)
target_push target.Kind c = target_kind_step c
target_push (target.Index k r) c = target_step k r c

-- a run of locals
abbrev pub run_count_step : Partial → ℕ → Reading InRun (ℕ × ValType)
run_count_step r c = read_number (unsigned_push 32 r c) run.Count (λ n. More (run.Type n))

abbrev pub run_push : Profile → InRun → ℕ → Reading InRun (ℕ × ValType)
run_push p (run.Count r) c = run_count_step r c
run_push p (run.Type n) c = read_type (value_type_of p c) (λ t. Done (n, t))

-- the value that ends an import, a table, a memory or an export
abbrev pub of_import : Reading InImportDesc ImportDesc → Reading InValue Plain
of_import = map_reading value.Import plain.Import

abbrev pub of_table : Reading InTableType Limits → Reading InValue Plain
of_table = map_reading value.Table plain.Table

abbrev pub of_memory : Reading InLimits Limits → Reading InValue Plain
of_memory = map_reading value.Memory plain.Memory

abbrev pub of_export : Reading InExportDesc (ExportKind × ℕ) → Reading InValue Plain
of_export = map_reading value.Export (λ t. plain.Export t.0 t.1)

abbrev pub value_push : Profile → InValue → ℕ → Reading InValue Plain
value_push p (value.Import at) c = of_import (desc_push p at c)
value_push p (value.Table at) c = of_table (table_type_push at c)
value_push p (value.Memory at) c = of_memory (limits_push at c)
value_push p (value.Export at) c = of_export (target_push at c)
