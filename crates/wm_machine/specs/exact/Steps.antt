-- Exact answers of the slow path: the header, section headers, custom sections, and sizes and counts of sections.
use Rattle.std.specs.Prelude.{ℕ, zero, suc, ◌+◌, ◌==◌, nat_lt, nat_le, if◌then◌else◌, slice_index, Option}
use Rattle.std.specs.Prelude.{Some, None, Bool, true}
use Rattle.wm_syntax.specs.declared.numbers.Step.{Step}
use Rattle.wm_syntax.specs.declared.numbers.Step.TheVariants.{More, Done, Bad}
use Rattle.wm_syntax.specs.inner.Numbers.{Partial}
use Rattle.wm_syntax.specs.exact.Reading.{fresh, unsigned_push}
use Rattle.wm_syntax.specs.declared.profile.Profile.{Profile}
use Rattle.wm_syntax.specs.declared.why.Why.{Why}
use Rattle.wm_syntax.specs.declared.why.Why.TheVariants as why
use Rattle.wm_machine.specs.declared.machine.NameKind.TheVariants as kind
use Rattle.wm_machine.specs.declared.machine.InCustom.{InCustom}
use Rattle.wm_machine.specs.declared.machine.InCustom.TheVariants as custom
use Rattle.wm_machine.specs.declared.machine.Counts.{Counts}
use Rattle.wm_machine.specs.declared.machine.Plain.TheVariants as plain
use Rattle.wm_machine.specs.declared.machine.Machine.{Machine}
use Rattle.wm_machine.specs.declared.machine.Machine.TheVariants as machine
use Rattle.wm_machine.specs.declared.machine.Event.{Event}
use Rattle.wm_machine.specs.declared.machine.Event.TheVariants as event
use Rattle.wm_machine.specs.declared.machine.member.SectionKind.{SectionKind}
use Rattle.wm_machine.specs.declared.machine.member.SectionKind.TheVariants as section_kind
use Rattle.wm_machine.specs.declared.machine.member.InMember.{InMember}
use Rattle.wm_machine.specs.declared.machine.member.InMember.TheVariants as at
use Rattle.wm_machine.specs.Sections.{header}
use Rattle.wm_machine.specs.exact.Members.{rank_of, section_kind_of, member_at_start}
use Rattle.wm_machine.specs.exact.MemberSteps.{on_number, member_step}

-- the counts before the first section
abbrev pub no_counts : Counts
no_counts = record { functions = 0; segments = None; members = 0 }

-- The counts in a section after its number n. The function section declares n functions. After the count of the code
-- section, none of them is without code. The data count section gives the number of data segments, and has no members.
-- After the count of the data section, that number is no longer needed.
abbrev pub counts_in : SectionKind → Counts → ℕ → Counts
counts_in section_kind.Function counts n = record { functions = n; segments = counts.segments; members = n }
counts_in section_kind.DataCount counts n = record { functions = counts.functions; segments = Some n; members = 0 }
counts_in section_kind.Code counts n = record { functions = 0; segments = counts.segments; members = n }
counts_in section_kind.Segment counts n = record { functions = counts.functions; segments = None; members = n }
counts_in of counts n = record { functions = counts.functions; segments = counts.segments; members = n }

-- n is the number that was given, if one was
abbrev pub is_given : Option ℕ → ℕ → Bool
is_given None n = true
is_given (Some m) n = n == m

-- custom sections
abbrev pub no_custom : Why → InCustom × Event
no_custom w = (custom.Failed w, event.Nothing)

abbrev pub custom_after_length : ℕ → InCustom × Event
custom_after_length zero = (custom.Skip, event.EmptyName kind.Custom)
custom_after_length (suc n) = (custom.Name n, event.Nothing)

abbrev pub custom_length_step : Partial → ℕ → InCustom × Event
custom_length_step r c = on_number (unsigned_push 32 r c) custom.Length custom_after_length custom.Failed

abbrev pub custom_name_step : ℕ → InCustom × Event
custom_name_step zero = (custom.Skip, event.EndsName kind.Custom)
custom_name_step (suc n) = (custom.Name n, event.InName)

abbrev pub custom_step : InCustom → ℕ → InCustom × Event
custom_step (custom.Length r) c = custom_length_step r c
custom_step (custom.Name more) c = custom_name_step more
custom_step custom.Skip c = (custom.Skip, event.Nothing)
custom_step (custom.Failed w) c = no_custom why.SectionEnd

-- the state with `left` bytes of a custom section to come
abbrev pub machine_in_custom : ℕ → Counts → ℕ → InCustom → Machine
machine_in_custom last counts left (custom.Failed w) = machine.Refused w
machine_in_custom last counts zero custom.Skip = machine.Between last counts
machine_in_custom last counts zero q = machine.Refused why.SectionEnd
machine_in_custom last counts (suc n) q = machine.Custom last counts n q

-- the state inside a member, with `bytes` bytes of the section and `left` further members to come
abbrev pub machine_in_member : SectionKind → Counts → ℕ → ℕ → InMember → Machine
machine_in_member of counts bytes left (at.Failed w) = machine.Refused w
machine_in_member of counts zero zero at.Over = machine.Between (rank_of of) counts
machine_in_member of counts (suc n) zero at.Over = machine.Refused why.SectionEnd
machine_in_member of counts zero (suc l) at.Over = machine.Refused why.SectionEnd
machine_in_member of counts (suc n) (suc l) at.Over = machine.Section of counts n l (member_at_start of)
machine_in_member of counts zero left q = machine.Refused why.SectionEnd
machine_in_member of counts (suc n) left q = machine.Section of counts n left q

abbrev pub machine_refused : Why → Machine × Event
machine_refused w = (machine.Refused w, event.Nothing)

-- the state after the member count of a section
abbrev pub machine_after_count : SectionKind → Counts → ℕ → ℕ → Machine
machine_after_count of counts bytes zero = machine_in_member of counts bytes zero at.Over
machine_after_count of counts bytes (suc n) = machine_in_member of counts bytes n (member_at_start of)

-- the state after the member count; keeps that of the function section and the number of the data count section, and
-- compares those of the code section and the data section with them
abbrev pub machine_after_paired_count : SectionKind → Counts → ℕ → ℕ → Machine
machine_after_paired_count section_kind.Code counts bytes n =
    if n == counts.functions
    then machine_after_count section_kind.Code (counts_in section_kind.Code counts n) bytes n
    else machine.Refused why.CodeCount
machine_after_paired_count section_kind.Segment counts bytes n =
    if is_given counts.segments n
    then machine_after_count section_kind.Segment (counts_in section_kind.Segment counts n) bytes n
    else machine.Refused why.DataCount
machine_after_paired_count section_kind.DataCount counts bytes n =
    machine_after_count section_kind.DataCount (counts_in section_kind.DataCount counts n) bytes zero
machine_after_paired_count of counts bytes n = machine_after_count of (counts_in of counts n) bytes n

abbrev pub count_more : SectionKind → Counts → ℕ → Partial → Machine × Event
count_more of counts zero r = machine_refused why.SectionEnd
count_more of counts (suc n) r = (machine.Count of counts n r, event.Nothing)

-- the effect of the last byte of the number: that of the data count section is an item
abbrev pub count_event : SectionKind → ℕ → Event
count_event section_kind.DataCount n = event.Complete (plain.DataCount n)
count_event of n = event.Nothing

abbrev pub after_count : SectionKind → Counts → ℕ → Step ℕ × Partial → Machine × Event
after_count of counts more (More, r) = count_more of counts more r
after_count of counts more (Done n, r) = (machine_after_paired_count of counts more n, count_event of n)
after_count of counts more (Bad, r) = machine_refused why.BadNumber

abbrev pub count_step : SectionKind → Counts → ℕ → Partial → ℕ → Machine × Event
count_step of counts more r c = after_count of counts more (unsigned_push 32 r c)

-- the data section begins, and this many functions have no code: no code section can follow its id
abbrev pub begun_last : ℕ → Counts → Machine × Event
begun_last zero counts = (machine.Size section_kind.Segment counts fresh, event.Nothing)
begun_last (suc n) counts = machine_refused why.CodeCount

abbrev pub begun_section : SectionKind → Counts → Machine × Event
begun_section section_kind.Segment counts = begun_last counts.functions counts
begun_section of counts = (machine.Size of counts fresh, event.Nothing)

abbrev pub machine_if_rising : ℕ → Counts → Option SectionKind → Machine × Event
machine_if_rising last counts None = machine_refused why.SectionId
machine_if_rising last counts (Some of) = if nat_le (rank_of of) last then machine_refused why.SectionOrder
    else begun_section of counts

abbrev pub section_start : Profile → ℕ → Counts → ℕ → Machine × Event
section_start p last counts zero = (machine.CustomSize last counts fresh, event.Nothing)
section_start p last counts (suc m) = machine_if_rising last counts (section_kind_of p (suc m))

-- the state before the contents of a section, with `more` bytes of it after the next
abbrev pub machine_in_contents : SectionKind → Counts → ℕ → Machine
machine_in_contents section_kind.Start counts more =
    machine.Section section_kind.Start (counts_in section_kind.Start counts 1) more 0 (member_at_start section_kind.Start)
machine_in_contents of counts more = machine.Count of counts more fresh

abbrev pub after_size : SectionKind → Counts → ℕ → Machine
after_size of counts zero = machine.Refused why.SectionEnd
after_size of counts (suc n) = machine_in_contents of counts n

abbrev pub size_step : SectionKind → Counts → Partial → ℕ → Machine × Event
size_step of counts r c =
    on_number (unsigned_push 32 r c) (λ s. machine.Size of counts s)
    (λ n. (after_size of counts n, event.Nothing)) machine.Refused

abbrev pub custom_size : ℕ → Counts → ℕ → Machine
custom_size last counts n = machine_in_custom last counts n (custom.Length fresh)

abbrev pub custom_size_step : ℕ → Counts → Partial → ℕ → Machine × Event
custom_size_step last counts r c =
    on_number (unsigned_push 32 r c) (λ s. machine.CustomSize last counts s)
    (λ n. (custom_size last counts n, event.Nothing)) machine.Refused

abbrev pub header_step : ℕ → ℕ → Machine × Event
header_step n c =
    if nat_lt n 8
    then (if c == slice_index header n
    then (if nat_lt n 7 then (machine.Header (n + 1), event.Nothing)
    else (machine.Between 0 no_counts, event.Nothing))
    else (if nat_lt n 4 then machine_refused why.Magic else machine_refused why.Version))
    else machine_refused why.Version

abbrev pub step_of : Profile → Machine → ℕ → Machine × Event
step_of p (machine.Header n) c = header_step n c
step_of p (machine.Between last counts) c = section_start p last counts c
step_of p (machine.CustomSize last counts r) c = custom_size_step last counts r c
step_of p (machine.Custom last counts more q) c =
    (machine_in_custom last counts more (custom_step q c).0, (custom_step q c).1)
step_of p (machine.Size of counts r) c = size_step of counts r c
step_of p (machine.Count of counts more r) c = count_step of counts more r c
step_of p (machine.Section of counts more left q) c =
    (machine_in_member of counts more left (member_step p q c).0, (member_step p q c).1)
step_of p (machine.Refused w) c = machine_refused w
