-- Exact answers about the head of a segment.
use Rattle.wm_machine.specs.declared.machine.member.SectionKind.{SectionKind}
use Rattle.wm_machine.specs.declared.machine.member.SectionKind.TheVariants as section_kind
use Rattle.wm_machine.specs.declared.machine.member.SegmentKind.{SegmentKind}
use Rattle.wm_machine.specs.declared.machine.member.SegmentKind.TheVariants as segment
use Rattle.wm_machine.specs.declared.machine.member.ConstantOf.{ConstantOf}
use Rattle.wm_machine.specs.declared.machine.member.ConstantOf.TheVariants as constant
use Rattle.wm_machine.specs.declared.machine.member.LengthOf.{LengthOf}
use Rattle.wm_machine.specs.declared.machine.member.LengthOf.TheVariants as length_of

-- the section of the segments of a kind, and the parts of a head after its first byte: an offset, and a count or a
-- length
abbrev pub section_of : SegmentKind → SectionKind
section_of segment.Element = section_kind.Element
section_of segment.Data = section_kind.Segment

abbrev pub offset_of : SegmentKind → ConstantOf
offset_of segment.Element = constant.Element
offset_of segment.Data = constant.Segment

abbrev pub size_of : SegmentKind → LengthOf
size_of segment.Element = length_of.Functions
size_of segment.Data = length_of.Bytes
