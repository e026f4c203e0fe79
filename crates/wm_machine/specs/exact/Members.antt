-- Exact answers about the kinds of sections, their ranks and ids (Core spec 5.5.2), and the state before a member.
use Rattle.std.specs.Prelude.{ℕ, zero, suc, Option, Some, None, if◌then◌else◌}
use Rattle.wm_syntax.specs.declared.profile.Feature.TheVariants.{BulkMemory}
use Rattle.wm_syntax.specs.declared.profile.Profile.{Profile}
use Rattle.wm_syntax.specs.Profiles.{has}
use Rattle.wm_syntax.specs.exact.Reading.{fresh}
use Rattle.wm_machine.specs.declared.machine.NameKind.TheVariants as name
use Rattle.wm_machine.specs.declared.step.values.InLimits.TheVariants as limits
use Rattle.wm_machine.specs.declared.step.values.InTableType.TheVariants as table
use Rattle.wm_machine.specs.declared.step.values.InGlobalType.TheVariants as global
use Rattle.wm_machine.specs.declared.step.values.InValue.TheVariants as value
use Rattle.wm_machine.specs.declared.machine.member.SectionKind.{SectionKind}
use Rattle.wm_machine.specs.declared.machine.member.SectionKind.TheVariants as section_kind
use Rattle.wm_machine.specs.declared.machine.member.IndexOf.TheVariants as index
use Rattle.wm_machine.specs.declared.machine.member.SegmentKind.TheVariants as segment
use Rattle.wm_machine.specs.declared.machine.member.InMember.{InMember}
use Rattle.wm_machine.specs.declared.machine.member.InMember.TheVariants as at
use Rattle.wm_machine.specs.Grammar.{id_at}

abbrev pub rank_of : SectionKind → ℕ
rank_of section_kind.Type = 1
rank_of section_kind.Import = 2
rank_of section_kind.Function = 3
rank_of section_kind.Table = 4
rank_of section_kind.Memory = 5
rank_of section_kind.Global = 6
rank_of section_kind.Export = 7
rank_of section_kind.Start = 8
rank_of section_kind.Element = 9
rank_of section_kind.DataCount = 10
rank_of section_kind.Code = 11
rank_of section_kind.Segment = 12

abbrev pub id_of : SectionKind → ℕ
id_of of = id_at (rank_of of)

abbrev pub section_kind_of : Profile → ℕ → Option SectionKind
section_kind_of p (suc zero) = Some section_kind.Type
section_kind_of p (suc (suc zero)) = Some section_kind.Import
section_kind_of p (suc (suc (suc zero))) = Some section_kind.Function
section_kind_of p (suc (suc (suc (suc zero)))) = Some section_kind.Table
section_kind_of p (suc (suc (suc (suc (suc zero))))) = Some section_kind.Memory
section_kind_of p (suc (suc (suc (suc (suc (suc zero)))))) = Some section_kind.Global
section_kind_of p (suc (suc (suc (suc (suc (suc (suc zero))))))) = Some section_kind.Export
section_kind_of p (suc (suc (suc (suc (suc (suc (suc (suc zero)))))))) = Some section_kind.Start
section_kind_of p (suc (suc (suc (suc (suc (suc (suc (suc (suc zero))))))))) = Some section_kind.Element
section_kind_of p (suc (suc (suc (suc (suc (suc (suc (suc (suc (suc zero)))))))))) = Some section_kind.Code
section_kind_of p (suc (suc (suc (suc (suc (suc (suc (suc (suc (suc (suc zero))))))))))) = Some section_kind.Segment
section_kind_of p (suc (suc (suc (suc (suc (suc (suc (suc (suc (suc (suc (suc zero)))))))))))) =
    if has p BulkMemory then Some section_kind.DataCount else None
section_kind_of p _ = None

-- The data count section has no member; nothing asks for the state before one.
abbrev pub member_at_start : SectionKind → InMember
member_at_start section_kind.Type = at.TypeForm
member_at_start section_kind.Import = at.NameLength name.ImportModule fresh
member_at_start section_kind.Function = at.Index index.Function fresh
member_at_start section_kind.Table = at.Value (value.Table table.ElementType)
member_at_start section_kind.Memory = at.Value (value.Memory limits.Flag)
member_at_start section_kind.Global = at.GlobalType global.Type
member_at_start section_kind.Export = at.NameLength name.Export fresh
member_at_start section_kind.Start = at.Index index.Start fresh
member_at_start section_kind.Element = at.SegmentStart segment.Element fresh
member_at_start section_kind.DataCount = at.Index index.Start fresh
member_at_start section_kind.Code = at.EntrySize fresh
member_at_start section_kind.Segment = at.SegmentStart segment.Data fresh
