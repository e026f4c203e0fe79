-- Exact answers of the machine over a list of bytes. The state is the machine, and the bytes of an unfinished name.
use Rattle.std.specs.Prelude.{ℕ, zero, suc, List, [], ◌∷◌, ◌++◌, Option, Some, None, if◌then◌else◌}
use Rattle.std.specs.Str.{is_utf8}
use Rattle.wm_syntax.specs.declared.why.Why.{Why}
use Rattle.wm_syntax.specs.declared.why.Why.TheVariants as why
use Rattle.wm_machine.specs.declared.machine.NameKind.{NameKind}
use Rattle.wm_machine.specs.declared.machine.NameKind.TheVariants as kind
use Rattle.wm_machine.specs.declared.machine.Plain.{Plain}
use Rattle.wm_machine.specs.declared.machine.Plain.TheVariants as plain
use Rattle.wm_machine.specs.declared.machine.Machine.{Machine}
use Rattle.wm_machine.specs.declared.machine.Machine.TheVariants as machine
use Rattle.wm_machine.specs.declared.machine.Event.{Event}
use Rattle.wm_machine.specs.declared.machine.Event.TheVariants as event
use Rattle.wm_syntax.specs.declared.profile.Profile.{Profile}
use Rattle.wm_machine.specs.declared.machine.member.InMember.{InMember}
use Rattle.wm_machine.specs.declared.machine.member.InMember.TheVariants as at
use Rattle.wm_machine.specs.Items.{Item, new_type, param, result_count, one_result, import_module, import_name}
use Rattle.wm_machine.specs.Items.{import_desc, function, table, memory, global, const_op, export_name, export}
use Rattle.wm_machine.specs.Items.{start, element, element_function, data_count, body, locals, body_op, segment}
use Rattle.wm_machine.specs.Items.{passive_element, passive_segment}
use Rattle.wm_machine.specs.Items.{data_byte}
use Rattle.wm_machine.specs.Items.{Zone, outside, name as in_name, entry, closing, Mark, Marks}
use Rattle.wm_machine.specs.MarkedForms.{outside_mark}
use Rattle.wm_machine.specs.exact.Steps.{step_of}

abbrev pub plain_item : Plain → Item
plain_item plain.NewType = new_type
plain_item (plain.Param t) = param t
plain_item (plain.ResultCount n) = result_count n
plain_item (plain.OneResult t) = one_result t
plain_item (plain.Import d) = import_desc d
plain_item (plain.Function x) = function x
plain_item (plain.Table l) = table l
plain_item (plain.Memory l) = memory l
plain_item (plain.Global g) = global g
plain_item (plain.ConstOp o) = const_op o
plain_item (plain.Export kind x) = export kind x
plain_item (plain.Start x) = start x
plain_item (plain.Element x) = element x
plain_item plain.PassiveElement = passive_element
plain_item (plain.ElementFunction x) = element_function x
plain_item (plain.DataCount n) = data_count n
plain_item plain.Body = body
plain_item (plain.Locals n t) = locals n t
plain_item (plain.BodyOp o) = body_op o
plain_item (plain.Segment x) = segment x
plain_item plain.PassiveSegment = passive_segment

-- the item of a name of this kind; the name of a custom section has none
abbrev pub name_item : NameKind → List ℕ → Option Item
name_item kind.Custom text = None
name_item kind.ImportModule text = Some (import_module text)
name_item kind.ImportName text = Some (import_name text)
name_item kind.Export text = Some (export_name text)

-- the state after a byte, the bytes so far of an unfinished name, and the mark of the byte
pub record ByteRead (M : Type 0) : Type 0 where
  pub at : M
  pub name : List ℕ
  pub mark : Mark

abbrev pub byte_read : {M : Type 0} → (Why → M) → Zone → List ℕ → ℕ → M × Event → ByteRead M
byte_read refuse zone so_far c (m, event.Nothing) = record {
  at = m;
  name = [];
  mark = record { zone = zone; item = None };
}
byte_read refuse zone so_far c (m, event.Complete p) =
    record { at = m; name = []; mark = record { zone = zone; item = Some (plain_item p) } }
byte_read refuse zone so_far c (m, event.DataByte) = record {
  at = m;
  name = [];
  mark = outside_mark (Some (data_byte c));
}
byte_read refuse zone so_far c (m, event.InName) =
    record { at = m; name = so_far ++ c ∷ []; mark = record { zone = in_name; item = None } }
byte_read refuse zone so_far c (m, event.EndsName kind) =
    if is_utf8 (so_far ++ c ∷ [])
    then record { at = m; name = []; mark = outside_mark (name_item kind (so_far ++ c ∷ [])) }
    else record { at = refuse why.BadUtf8; name = []; mark = outside_mark None }
byte_read refuse zone so_far c (m, event.EmptyName kind) = record {
  at = m;
  name = [];
  mark = outside_mark (name_item kind []);
}

-- the zone of the next byte
abbrev pub zone_in : InMember → Zone
zone_in (at.Entry zero q) = closing
zone_in (at.Entry (suc n) q) = entry
zone_in q = outside

abbrev pub zone_of : Machine → Zone
zone_of (machine.Section of counts more left q) = zone_in q
zone_of m = outside

pub record MachineState : Type 0 where
  pub machine : Machine
  pub name : List ℕ

abbrev pub read_byte : Profile → MachineState → ℕ → ByteRead Machine
read_byte p s c = byte_read machine.Refused (zone_of s.machine) s.name c (step_of p s.machine c)

abbrev pub after_byte : Profile → MachineState → ℕ → MachineState
after_byte p s c = record { machine = (read_byte p s c).at; name = (read_byte p s c).name }

abbrev pub state_after : Profile → MachineState → List ℕ → MachineState
state_after p s [] = s
state_after p s (c ∷ b) = state_after p (after_byte p s c) b

-- the marks of these bytes
abbrev pub marks : Profile → MachineState → List ℕ → Marks
marks p s [] = []
marks p s (c ∷ b) = (read_byte p s c).mark ∷ marks p (after_byte p s c) b

abbrev pub state_at_start : MachineState
state_at_start = record { machine = machine.Header 0; name = [] }
