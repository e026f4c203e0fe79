-- The possible states of the machine; each byte leads to one of them.
use Rattle.std.proofs.Common.{◌≡◌, ℕ, zero, suc, ◌<◌, ◌≤◌, ◌^◌, List, [], ◌∷◌, ◌++◌, Option, Some, None, Bool, true, false, if◌then◌else◌, refl, sym, arith, nat_eq, nat_lt, nat_le}
use Rattle.std.proofs.lemmas.Bool.{cond_both, leb-false, ltb-true}
use Rattle.std.specs.Str.{is_utf8}
use Rattle.wm_syntax.specs.declared.profile.Feature.TheVariants.{BulkMemory}
use Rattle.wm_syntax.specs.declared.profile.Profile.{Profile}
use Rattle.wm_syntax.specs.Profiles.{has}
use Rattle.wm_syntax.specs.Spelling.{AreBytes}
use Rattle.wm_syntax.specs.declared.numbers.Step.{Step}
use Rattle.wm_syntax.specs.declared.numbers.Step.TheVariants.{More, Done, Bad}
use Rattle.wm_syntax.specs.inner.Numbers.{Partial}
use Rattle.wm_syntax.specs.Reading.{IfDone}
use Rattle.wm_syntax.specs.exact.Reading.{fresh, unsigned_push}
use Rattle.wm_syntax.proofs.Readers.{unsigned_range}
use Rattle.wm_machine.specs.declared.machine.Counts.{Counts}
use Rattle.wm_machine.specs.declared.machine.InCustom.{InCustom}
use Rattle.wm_machine.specs.declared.machine.InCustom.TheVariants as custom
use Rattle.wm_machine.specs.declared.machine.Machine.{Machine}
use Rattle.wm_machine.specs.declared.machine.Machine.TheVariants as machine
use Rattle.wm_machine.specs.declared.machine.Event.{Event}
use Rattle.wm_machine.specs.declared.machine.Event.TheVariants as event
use Rattle.wm_machine.specs.declared.machine.member.SectionKind.{SectionKind}
use Rattle.wm_machine.specs.declared.machine.member.SectionKind.TheVariants as section_kind
use Rattle.wm_machine.specs.declared.machine.member.InMember.{InMember}
use Rattle.wm_machine.specs.declared.machine.member.InMember.TheVariants as at
use Rattle.wm_machine.specs.Grammar.{HasSection, id_at}
use Rattle.wm_machine.specs.Items.{Zone}
use Rattle.wm_machine.specs.exact.Members.{id_of, rank_of, section_kind_of, member_at_start as begin_component}
use Rattle.wm_machine.specs.exact.MemberSteps.{on_number, member_step}
use Rattle.wm_machine.specs.exact.Steps.{counts_in, is_given, begun_last, custom_after_length, machine_in_custom, custom_step, machine_in_member, machine_after_count, machine_after_paired_count, after_count, begun_section, machine_if_rising, section_start, after_size, custom_size, header_step, step_of}
use Rattle.wm_machine.specs.exact.Runs.{byte_read, ByteRead, MachineState, zone_of, after_byte, state_after}
use Rattle.wm_machine.proofs.MemberSound.{CanGo, MayGo, can_begin, can_go_on}
use Rattle.wm_machine.proofs.Ranks.{id_few, rank_is}
use Rattle.wm_machine.proofs.OpSound.{HasRoom, RoomAfter, fresh_32, unsigned_room}

-- which section an id stands for
abbrev pub IsNamed : Profile → ℕ → Option SectionKind → Type 0
IsNamed p id None = (rank : ℕ) → rank ≤ 12 → HasSection p rank → id ≡ id_at rank → ⊥
IsNamed p id (Some of) = (id ≡ id_of of) × HasSection p (rank_of of)

-- every profile has the other sections
pub component_named : (p : Profile) (m : ℕ) → IsNamed p (suc m) (section_kind_of p (suc m))
component_named p zero = (refl, λ e. absurd (omega (arith, e)))
component_named p (suc zero) = (refl, λ e. absurd (omega (arith, e)))
component_named p (suc (suc zero)) = (refl, λ e. absurd (omega (arith, e)))
component_named p (suc (suc (suc zero))) = (refl, λ e. absurd (omega (arith, e)))
component_named p (suc (suc (suc (suc zero)))) = (refl, λ e. absurd (omega (arith, e)))
component_named p (suc (suc (suc (suc (suc zero))))) = (refl, λ e. absurd (omega (arith, e)))
component_named p (suc (suc (suc (suc (suc (suc zero)))))) = (refl, λ e. absurd (omega (arith, e)))
component_named p (suc (suc (suc (suc (suc (suc (suc zero))))))) = (refl, λ e. absurd (omega (arith, e)))
component_named p (suc (suc (suc (suc (suc (suc (suc (suc zero)))))))) = (refl, λ e. absurd (omega (arith, e)))
component_named p (suc (suc (suc (suc (suc (suc (suc (suc (suc zero))))))))) = (refl, λ e. absurd (omega (arith, e)))
component_named p (suc (suc (suc (suc (suc (suc (suc (suc (suc (suc zero)))))))))) = (refl, λ e. absurd (omega (arith, e)))
component_named p (suc (suc (suc (suc (suc (suc (suc (suc (suc (suc (suc zero))))))))))) = by_feature (has p BulkMemory) refl
  where
    by_feature : (b : Bool) → has p BulkMemory ≡ b → IsNamed p 12 (if b then Some section_kind.DataCount else None)
    by_feature true is = (refl, λ e. is)
    by_feature false is = λ rank few there id. let sure : p.bulk_memory ≡ true = there (sym (rank_is 12 rank id)) in cc (is, sure)
component_named p (suc (suc (suc (suc (suc (suc (suc (suc (suc (suc (suc (suc m)))))))))))) = λ rank few there id. omega (arith, id, id_few rank few)

pub rank_few : (of : SectionKind) → rank_of of ≤ 12
rank_few section_kind.Type = omega arith
rank_few section_kind.Import = omega arith
rank_few section_kind.Function = omega arith
rank_few section_kind.Table = omega arith
rank_few section_kind.Memory = omega arith
rank_few section_kind.Global = omega arith
rank_few section_kind.Export = omega arith
rank_few section_kind.Start = omega arith
rank_few section_kind.Element = omega arith
rank_few section_kind.DataCount = omega arith
rank_few section_kind.Code = omega arith
rank_few section_kind.Segment = omega arith

pub rank_some : (of : SectionKind) → 0 < rank_of of
rank_some section_kind.Type = omega arith
rank_some section_kind.Import = omega arith
rank_some section_kind.Function = omega arith
rank_some section_kind.Table = omega arith
rank_some section_kind.Memory = omega arith
rank_some section_kind.Global = omega arith
rank_some section_kind.Export = omega arith
rank_some section_kind.Start = omega arith
rank_some section_kind.Element = omega arith
rank_some section_kind.DataCount = omega arith
rank_some section_kind.Code = omega arith
rank_some section_kind.Segment = omega arith

-- Functions await their code only between the section of functions and that of code. The number of data segments is
-- given only between the data count section and the data section.
abbrev pub FitsAt : (last : ℕ) (counts : Counts) → Type 0
FitsAt last counts = (last < 3 → counts.functions ≡ 0) × (11 ≤ last → counts.functions ≡ 0) × (last < 10 → counts.segments ≡ None) × (12 ≤ last → counts.segments ≡ None)

-- the same where the section of this rank has begun
abbrev pub FitsIn : (rank : ℕ) (counts : Counts) → Type 0
FitsIn rank counts = (rank ≤ 3 → counts.functions ≡ 0) × (11 < rank → counts.functions ≡ 0) × (rank ≤ 10 → counts.segments ≡ None)

-- in a custom section
abbrev pub FitsCustom : InCustom → Type 0
FitsCustom (custom.Length r) = HasRoom 32 r
FitsCustom (custom.Failed w) = ⊥
FitsCustom q = Unit {0}

-- the same of what a byte makes of it, which may be refused
abbrev pub FineCustom : InCustom → Type 0
FineCustom (custom.Failed w) = Unit {0}
FineCustom q = FitsCustom q

length_fine : (q : Step ℕ × Partial) → RoomAfter 32 q → FineCustom (on_number q custom.Length custom_after_length custom.Failed).0
length_fine (More, r) room = room
length_fine (Done zero, r) room = tt
length_fine (Done (suc n), r) room = tt
length_fine (Bad, r) room = tt

pub custom_fine : (q : InCustom) (c : ℕ) → c < 2 ^ 8 → FitsCustom q → FineCustom (custom_step q c).0
custom_fine (custom.Length r) c byte f = length_fine (unsigned_push 32 r c) (unsigned_room 32 r c f byte)
custom_fine (custom.Name zero) c byte f = tt
custom_fine (custom.Name (suc n)) c byte f = tt
custom_fine custom.Skip c byte f = tt
custom_fine (custom.Failed w) c byte f = absurd f

abbrev pub Fits : Profile → Machine → Type 0
Fits p (machine.Header n) = n < 8
Fits p (machine.Between last counts) = FitsAt last counts
Fits p (machine.CustomSize last counts r) = HasRoom 32 r × FitsAt last counts
Fits p (machine.Custom last counts more q) = FitsAt last counts × FitsCustom q
Fits p (machine.Size of counts r) = HasRoom 32 r × FitsIn (rank_of of) counts
Fits p (machine.Count of counts more r) = HasRoom 32 r × FitsIn (rank_of of) counts × (suc more < 2 ^ 32)
Fits p (machine.Section of counts more left q) = FitsAt (rank_of of) counts × (suc more < 2 ^ 32) × CanGo p (suc more) q
Fits p (machine.Refused w) = Unit {0}

-- a member begins
pub may_begin : (p : Profile) (more : ℕ) → more < 2 ^ 32 → (of : SectionKind) → MayGo p more (begin_component of)
may_begin p more few section_kind.Type = can_begin p more few section_kind.Type
may_begin p more few section_kind.Import = can_begin p more few section_kind.Import
may_begin p more few section_kind.Function = can_begin p more few section_kind.Function
may_begin p more few section_kind.Table = can_begin p more few section_kind.Table
may_begin p more few section_kind.Memory = can_begin p more few section_kind.Memory
may_begin p more few section_kind.Global = can_begin p more few section_kind.Global
may_begin p more few section_kind.Export = can_begin p more few section_kind.Export
may_begin p more few section_kind.Start = can_begin p more few section_kind.Start
may_begin p more few section_kind.Element = can_begin p more few section_kind.Element
may_begin p more few section_kind.DataCount = can_begin p more few section_kind.DataCount
may_begin p more few section_kind.Code = can_begin p more few section_kind.Code
may_begin p more few section_kind.Segment = can_begin p more few section_kind.Segment

-- in a section
framed_fits : (p : Profile) (of : SectionKind) (counts : Counts) (more left : ℕ) (q : InMember) → FitsAt (rank_of of) counts → more < 2 ^ 32 → MayGo p more q → Fits p (machine_in_member of counts more left q)
framed_fits p of counts more left (at.Failed w) f few go = tt
framed_fits p of counts zero zero at.Over f few go = f
framed_fits p of counts (suc n) zero at.Over f few go = tt
framed_fits p of counts zero (suc l) at.Over f few go = tt
framed_fits p of counts (suc n) (suc l) at.Over f few go = (f, few, can_begin p (suc n) few of)
framed_fits p of counts zero left q f few go = tt
framed_fits p of counts (suc n) left q f few go = (f, few, go)

listed_fits : (p : Profile) (of : SectionKind) (counts : Counts) (more n : ℕ) → FitsAt (rank_of of) counts → more < 2 ^ 32 → Fits p (machine_after_count of counts more n)
listed_fits p of counts more zero f few = framed_fits p of counts more zero at.Over f few tt
listed_fits p of counts more (suc n) f few = framed_fits p of counts more n (begin_component of) f few (may_begin p more few of)

-- at the count of its members
counted_fits : (p : Profile) (of : SectionKind) (counts : Counts) (more n : ℕ) → FitsIn (rank_of of) counts → more < 2 ^ 32 → Fits p (machine_after_paired_count of counts more n)
counted_fits p section_kind.Function counts more n f few =
    listed_fits p section_kind.Function (counts_in section_kind.Function counts n) more n (λ l. absurd (omega (arith, l)), λ l. absurd (omega (arith, l)), λ l. f.2 (omega arith), λ l. absurd (omega (arith, l))) few
counted_fits p section_kind.DataCount counts more n f few =
    listed_fits p section_kind.DataCount (counts_in section_kind.DataCount counts n) more zero (λ l. absurd (omega (arith, l)), λ l. absurd (omega (arith, l)), λ l. absurd (omega (arith, l)), λ l. absurd (omega (arith, l))) few
counted_fits p section_kind.Code counts more n f few =
    cond_both (nat_eq n counts.functions) _ _ (λ (m : Machine). Fits p m)
    (λ _. listed_fits p section_kind.Code (counts_in section_kind.Code counts n) more n (λ l. refl, λ l. refl, λ l. absurd (omega (arith, l)), λ l. absurd (omega (arith, l))) few) (λ _. tt)
counted_fits p section_kind.Segment counts more n f few =
    cond_both (is_given counts.segments n) _ _ (λ (m : Machine). Fits p m)
    (λ _. listed_fits p section_kind.Segment (counts_in section_kind.Segment counts n) more n (λ l. absurd (omega (arith, l)), λ l. f.1 (omega arith), λ l. refl, λ l. refl) few) (λ _. tt)
counted_fits p of counts more n f few = listed_fits p of (counts_in of counts n) more n (λ l. f.0 (omega (arith, l)), λ l. f.1 (omega (arith, l)), λ l. f.2 (omega (arith, l)), λ l. absurd (omega (arith, l))) few

count_fits : (p : Profile) (of : SectionKind) (counts : Counts) (more : ℕ) (q : Step ℕ × Partial) → FitsIn (rank_of of) counts → suc more < 2 ^ 32 → RoomAfter 32 q → Fits p (after_count of counts more q).0
count_fits p of counts zero (More, r) f few room = tt
count_fits p of counts (suc n) (More, r) f few room = (room, f, omega (arith, few))
count_fits p of counts more (Done n, r) f few room = counted_fits p of counts more n f (omega (arith, few))
count_fits p of counts more (Bad, r) f few room = tt

-- at its size
after_size_fits : (p : Profile) (of : SectionKind) (counts : Counts) (n : ℕ) → FitsIn (rank_of of) counts → n < 2 ^ 32 → Fits p (after_size of counts n)
after_size_fits p of counts zero f few = tt
after_size_fits p section_kind.Start counts (suc n) f few = ((λ l. absurd (omega (arith, l)), λ l. absurd (omega (arith, l)), λ l. f.2 (omega arith), λ l. absurd (omega (arith, l))), few, can_begin p (suc n) few section_kind.Start)
after_size_fits p of counts (suc n) f few = (fresh_32, f, few)

size_fits : (p : Profile) (of : SectionKind) (counts : Counts) (q : Step ℕ × Partial) → FitsIn (rank_of of) counts → RoomAfter 32 q → IfDone q.0 (λ n. n < 2 ^ 32)
    → Fits p (on_number q (λ s. machine.Size of counts s) (λ n. (after_size of counts n, event.Nothing)) machine.Refused).0
size_fits p of counts (More, r) f room few = (room, f)
size_fits p of counts (Done n, r) f room few = after_size_fits p of counts n f few
size_fits p of counts (Bad, r) f room few = tt

-- in a custom section
custom_fits : (p : Profile) (last : ℕ) (counts : Counts) (more : ℕ) (q : InCustom) → FitsAt last counts → FineCustom q → Fits p (machine_in_custom last counts more q)
custom_fits p last counts more (custom.Failed w) f fine = tt
custom_fits p last counts zero custom.Skip f fine = f
custom_fits p last counts zero q f fine = tt
custom_fits p last counts (suc n) q f fine = (f, fine)

custom_size_fits : (p : Profile) (last : ℕ) (counts : Counts) (q : Step ℕ × Partial) → FitsAt last counts → RoomAfter 32 q
    → Fits p (on_number q (λ s. machine.CustomSize last counts s) (λ n. (custom_size last counts n, event.Nothing)) machine.Refused).0
custom_size_fits p last counts (More, r) f room = (room, f)
custom_size_fits p last counts (Done n, r) f room = custom_fits p last counts n (custom.Length fresh) f fresh_32
custom_size_fits p last counts (Bad, r) f room = tt

-- between sections
begun_fits : (p : Profile) (of : SectionKind) (last : ℕ) (counts : Counts) → last < rank_of of → FitsAt last counts → Fits p (begun_section of counts).0
begun_fits p section_kind.Segment last counts above f = at_last counts.functions refl
  where
    at_last : (n : ℕ) → counts.functions ≡ n → Fits p (begun_last n counts).0
    at_last zero e = (fresh_32, (λ l. e, λ l. e, λ l. absurd (omega (arith, l))))
    at_last (suc n) e = tt
begun_fits p of last counts above f = (fresh_32, (λ l. f.0 (omega (arith, above, l)), λ l. absurd (omega (arith, l)), λ l. f.2 (omega (arith, above, l))))

rising_fits : (p : Profile) (last : ℕ) (counts : Counts) (q : Option SectionKind) → FitsAt last counts → Fits p (machine_if_rising last counts q).0
rising_fits p last counts None f = tt
rising_fits p last counts (Some of) f = cond_both (nat_le (rank_of of) last) _ _ (λ (q : Machine × Event). Fits p q.0) (λ _. tt) (λ a. begun_fits p of last counts (leb-false (rank_of of) last a) f)

start_fits : (p : Profile) (last : ℕ) (counts : Counts) (c : ℕ) → FitsAt last counts → Fits p (section_start p last counts c).0
start_fits p last counts zero f = (fresh_32, f)
start_fits p last counts (suc m) f = rising_fits p last counts (section_kind_of p (suc m)) f

header_fits : (p : Profile) (n c : ℕ) → Fits p (header_step n c).0
header_fits p n c =
    let P : Machine × Event → Type 0 = λ q. Fits p q.0 in
    cond_both (nat_lt n 8) _ _ P
    (λ _. cond_both (nat_eq c _) _ _ P
    (λ _. cond_both (nat_lt n 7) _ _ P (λ a. omega (arith, ltb-true n 7 a)) (λ _. (λ l. refl, λ l. refl, λ l. refl, λ l. refl)))
    (λ _. cond_both (nat_lt n 4) _ _ P (λ _. tt) (λ _. tt)))
    (λ _. tt)

pub step_fits : (p : Profile) (m : Machine) (c : ℕ) → c < 2 ^ 8 → Fits p m → Fits p (step_of p m c).0
step_fits p (machine.Header n) c byte f = header_fits p n c
step_fits p (machine.Between last counts) c byte f = start_fits p last counts c f
step_fits p (machine.CustomSize last counts r) c byte f = custom_size_fits p last counts (unsigned_push 32 r c) f.1 (unsigned_room 32 r c f.0 byte)
step_fits p (machine.Custom last counts more q) c byte f = custom_fits p last counts more (custom_step q c).0 f.0 (custom_fine q c byte f.1)
step_fits p (machine.Size of counts r) c byte f = size_fits p of counts (unsigned_push 32 r c) f.1 (unsigned_room 32 r c f.0 byte) (unsigned_range 32 r c f.0.1)
step_fits p (machine.Count of counts more r) c byte f = count_fits p of counts more (unsigned_push 32 r c) f.1 f.2 (unsigned_room 32 r c f.0 byte)
step_fits p (machine.Section of counts more left q) c byte f =
    framed_fits p of counts more left (member_step p q c).0 f.0 (let few = f.1 in omega (arith, few)) (can_go_on p more q c byte f.2)
step_fits p (machine.Refused w) c byte f = tt

heard_fits : (p : Profile) (zone : Zone) (y : List ℕ) (c : ℕ) (m : Machine) (e : Event) → Fits p m → Fits p (byte_read machine.Refused zone y c (m, e)).at
heard_fits p zone y c m event.Nothing f = f
heard_fits p zone y c m (event.Complete x) f = f
heard_fits p zone y c m event.DataByte f = f
heard_fits p zone y c m event.InName f = f
heard_fits p zone y c m (event.EndsName kind) f = cond_both (is_utf8 (y ++ c ∷ [])) _ _ (λ (h : ByteRead Machine). Fits p h.at) (λ _. f) (λ _. tt)
heard_fits p zone y c m (event.EmptyName kind) f = f

pub byte_fits : (p : Profile) (s : MachineState) (c : ℕ) → c < 2 ^ 8 → Fits p s.machine → Fits p (after_byte p s c).machine
byte_fits p s c byte f = heard_fits p (zone_of s.machine) s.name c (step_of p s.machine c).0 (step_of p s.machine c).1 (step_fits p s.machine c byte f)

pub run_fits : (p : Profile) (s : MachineState) (b : List ℕ) → AreBytes b → Fits p s.machine → Fits p (state_after p s b).machine
run_fits p s [] bytes f = f
run_fits p s (c ∷ b) bytes f = run_fits p (after_byte p s c) b bytes.1 (byte_fits p s c bytes.0 f)
