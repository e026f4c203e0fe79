-- The machine in the header, between sections, or inside a section.
use Rattle.std.specs.List.{AllByRecursion}
use Rattle.std.proofs.Common.{◌≡◌, ◌≢◌, ◌≤◌, ℕ, zero, suc, ◌+◌, ◌<◌, ◌^◌, ◌⊎◌, inl, inr, List, [], ◌∷◌, ◌++◌, Option, Some, None, length, take, refl, sym, ◌∙◌, ap, subst, arith, append_assoc, append-nil, length-append, nat_eq, nat_lt, nat_le}
use Rattle.std.proofs.lemmas.Bool.{cond_both, ltb-true, ltb-false, leb-false, eqb-true}
use Rattle.std.specs.Prelude.{slice_index}
use Rattle.std.specs.Str.{is_utf8}
use Rattle.wm_syntax.specs.declared.profile.Profile.{Profile}
use Rattle.wm_syntax.specs.declared.numbers.Step.{Step}
use Rattle.wm_syntax.specs.declared.numbers.Step.TheVariants.{More, Done, Bad}
use Rattle.wm_syntax.specs.Spelling.{AreBytes, Each}
use Rattle.wm_syntax.specs.Leb128.{Unsigned}
use Rattle.wm_syntax.specs.Types.{SpellsU32}
use Rattle.wm_syntax.specs.inner.Numbers.{Partial, UnsignedAfter}
use Rattle.wm_syntax.specs.exact.Reading.{fresh, unsigned_push}
use Rattle.wm_syntax.proofs.Readers.{unsigned_fresh}
use Rattle.wm_machine.specs.declared.machine.Counts.{Counts}
use Rattle.wm_machine.specs.declared.machine.InCustom.{InCustom}
use Rattle.wm_machine.specs.declared.machine.InCustom.TheVariants as custom
use Rattle.wm_machine.specs.declared.machine.Machine.{Machine}
use Rattle.wm_machine.specs.declared.machine.Machine.TheVariants as machine
use Rattle.wm_machine.specs.declared.machine.Event.{Event}
use Rattle.wm_machine.specs.declared.machine.Event.TheVariants as event
use Rattle.wm_machine.specs.declared.machine.member.SectionKind.{SectionKind}
use Rattle.wm_machine.specs.declared.machine.member.SectionKind.TheVariants as section_kind
use Rattle.wm_machine.specs.declared.machine.member.InMember.{InMember}
use Rattle.wm_machine.specs.declared.machine.member.InMember.TheVariants as at
use Rattle.wm_machine.specs.Items.{Zone}
use Rattle.wm_machine.specs.Sections.{header}
use Rattle.wm_machine.specs.exact.Members.{id_of, rank_of, section_kind_of, member_at_start}
use Rattle.wm_machine.specs.exact.MemberSteps.{on_number, member_step}
use Rattle.wm_machine.specs.exact.Steps.{counts_in, is_given, begun_last, machine_in_custom, custom_step, machine_in_member, machine_after_count, machine_after_paired_count, after_count, begun_section, machine_if_rising, section_start, after_size, custom_size, header_step, step_of}
use Rattle.wm_machine.specs.exact.Runs.{byte_read, ByteRead, MachineState, zone_of, after_byte, state_after}
use Rattle.wm_machine.proofs.Numbers.{NumberNext, number_next}
use Rattle.wm_machine.proofs.MachineStates.{IsNamed, component_named, rank_few}
use Rattle.wm_machine.specs.Grammar.{id_at}
use Rattle.wm_machine.specs.Meanings.{RawSection, SpellsRaw, SpellsSections, HasCount, HasFrom, Declare}
use Rattle.wm_machine.proofs.Ranks.{rank_at, rank_of_id}

-- one section more
each_more : (xs : List RawSection) (x : RawSection) (a b : List ℕ) → Each SpellsRaw xs a → SpellsRaw x b → Each SpellsRaw (xs ++ x ∷ []) (a ++ b)
each_more [] x a b e h = (b, [], ap (λ y. y ++ b) e ∙ sym (append-nil b), h, refl)
each_more (y ∷ ys) x a b e h = (e.0, e.1 ++ b, ap (λ z. z ++ b) e.2 ∙ append_assoc e.0 e.1 b, e.3, each_more ys x e.1 b e.4 h)

sections_more : (xs : List RawSection) (x : RawSection) (a b : List ℕ) → SpellsSections xs a → SpellsRaw x b → SpellsSections (xs ++ x ∷ []) (a ++ b)
sections_more xs x a b e h = (e.0, e.1 ++ b, ap (λ z. z ++ b) e.2 ∙ append_assoc e.0 e.1 b, e.3, each_more xs x e.1 b e.4 h)

-- whole sections, the last of which, custom ones aside, has this rank
pub record Past (last : ℕ) (b : List ℕ) : Type 0 where
  pub sections : List RawSection
  pub spelled : SpellsSections sections b
  pub seen : (last ≡ 0) ⊎ HasFrom last sections
  pub declared : ℕ
  pub declares : Declare declared sections
  pub below : AllByRecursion (λ s. rank_at s.id ≤ last) sections

pub record AtSize (last id : ℕ) (r : Partial) (b : List ℕ) : Type 0 where
  pub front : List ℕ
  pub begun : List ℕ
  pub whole : b ≡ front ++ id ∷ begun
  pub past : Past last front
  pub number : UnsignedAfter 32 r begun

-- in the contents of a section, so many bytes of which are left
pub record InContents (last id left : ℕ) (b : List ℕ) : Type 0 where
  pub front : List ℕ
  pub size : List ℕ
  pub contents : List ℕ
  pub n : ℕ
  pub whole : b ≡ front ++ id ∷ (size ++ contents)
  pub past : Past last front
  pub number : SpellsU32 n size
  pub room : n ≡ length contents + left

-- the number of data segments that the machine keeps is that of the data count section
abbrev pub Given : Option ℕ → List RawSection → Type 0
Given None sections = Unit {0}
Given (Some n) sections = HasCount 12 n sections

-- the functions that the machine counts are those that were declared, up to the code section
abbrev pub CountsStand : (last : ℕ) (counts : Counts) {b : List ℕ} → Past last b → Type 0
CountsStand last counts h = (last < 11 → counts.functions ≡ h.declared) × Given counts.segments h.sections

-- these contents begin with the number n
abbrev BeginsWith : (n : ℕ) → List ℕ → Type 0
BeginsWith n contents = (number more : List ℕ) × (contents ≡ number ++ more) × SpellsU32 n number

-- the same in a section of this kind after these sections, once its count was read
abbrev pub CountsIn : SectionKind → Counts → (contents : List ℕ) → ℕ → List RawSection → Type 0
CountsIn section_kind.Function counts contents declared sections = BeginsWith counts.functions contents × Given counts.segments sections
CountsIn section_kind.DataCount counts contents declared sections =
    (10 < 11 → counts.functions ≡ declared) × (n : ℕ) × (counts.segments ≡ Some n) × BeginsWith n contents
CountsIn of counts contents declared sections = (rank_of of < 11 → counts.functions ≡ declared) × Given counts.segments sections

abbrev pub Framed : Machine → List ℕ → Type 0
Framed (machine.Header n) b = (n < 8) × (b ≡ take n header)
Framed (machine.Between last counts) b = (h : Past last b) × CountsStand last counts h
Framed (machine.CustomSize last counts r) b = (h : AtSize last 0 r b) × CountsStand last counts h.past
Framed (machine.Custom last counts more q) b = (h : InContents last 0 (suc more) b) × CountsStand last counts h.past
Framed (machine.Size of counts r) b = (last : ℕ) × (last < rank_of of) × (h : AtSize last (id_of of) r b) × CountsStand last counts h.past
Framed (machine.Count of counts more r) b =
    (last : ℕ) × (last < rank_of of) × (h : InContents last (id_of of) (suc more) b) × CountsStand last counts h.past × UnsignedAfter 32 r h.contents
Framed (machine.Section of counts more left q) b =
    (last : ℕ) × (last < rank_of of) × (h : InContents last (id_of of) (suc more) b) × CountsIn of counts h.contents h.past.declared h.past.sections
Framed (machine.Refused w) b = Unit {0}

-- the section as bytes
raw_section : (last id : ℕ) (b : List ℕ) (h : InContents last id 0 b) → SpellsRaw (record { id = id; contents = h.contents }) (id ∷ (h.size ++ h.contents))
raw_section last id b h =
    let same : h.n ≡ length h.contents = let r = h.room in omega (arith, r) in
    (id ∷ [], h.size ++ h.contents, refl, refl, (h.size, h.contents, refl, subst (λ n. SpellsU32 n h.size) same h.number, refl))

-- one section more
pub all_up : (P Q : RawSection → Type 0) → ((s : RawSection) → P s → Q s) → (xs : List RawSection) → AllByRecursion P xs → AllByRecursion Q xs
all_up P Q f [] a = tt
all_up P Q f (x ∷ xs) a = (f x a.0, all_up P Q f xs a.1)

all_more : (P : RawSection → Type 0) (xs : List RawSection) (x : RawSection) → AllByRecursion P xs → P x → AllByRecursion P (xs ++ x ∷ [])
all_more P [] x a h = (h, tt)
all_more P (y ∷ xs) x a h = (a.0, all_more P xs x a.1 h)

count_more : (id n : ℕ) (xs : List RawSection) (one : RawSection) → HasCount id n xs → HasCount id n (xs ++ one ∷ [])
count_more id n xs one h =
    record { before = h.before; after = h.after ++ one ∷ []; number = h.number; more = h.more; whole = ap (λ y. y ++ one ∷ []) h.whole ∙ append_assoc h.before (record { id = id; contents = h.number ++ h.more } ∷ h.after) (one ∷ []); spelled = h.spelled }

own_count : (id n : ℕ) (xs : List RawSection) (contents : List ℕ) → BeginsWith n contents → HasCount id n (xs ++ record { id = id; contents = contents } ∷ [])
own_count id n xs contents t = record { before = xs; after = []; number = t.0; more = t.1; whole = ap (λ y. xs ++ record { id = id; contents = y } ∷ []) t.2; spelled = t.3 }

given_more : (s : Option ℕ) (xs : List RawSection) (one : RawSection) → Given s xs → Given s (xs ++ one ∷ [])
given_more None xs one h = tt
given_more (Some n) xs one h = count_more 12 n xs one h

declares_more : (n : ℕ) (xs : List RawSection) (one : RawSection) → one.id ≢ 3 → Declare n xs → Declare n (xs ++ one ∷ [])
declares_more n xs one other (inl h) = inl (count_more 3 n xs one h)
declares_more n xs one other (inr h) = inr (h.0, all_more (λ s. s.id ≢ 3) xs one h.1 other)

ended : (last id : ℕ) (b : List ℕ) (next : ℕ) (h : InContents last id 0 b) → last ≤ next → rank_at id ≤ next
    → ((xs : List RawSection) → ((last ≡ 0) ⊎ HasFrom last xs) → (next ≡ 0) ⊎ HasFrom next (xs ++ record { id = id; contents = h.contents } ∷ []))
    → (n : ℕ) → Declare n (h.past.sections ++ record { id = id; contents = h.contents } ∷ []) → Past next b
ended last id b next h up own seen n declares =
    let p = h.past in
    let one : RawSection = record { id = id; contents = h.contents } in
    record {
      sections = p.sections ++ one ∷ [];
      spelled = subst (λ y. SpellsSections (p.sections ++ one ∷ []) y) (sym h.whole) (sections_more p.sections one h.front (id ∷ (h.size ++ h.contents)) p.spelled (raw_section last id b h));
      seen = seen p.sections p.seen;
      declared = n;
      declares = declares;
      below = all_more (λ s. rank_at s.id ≤ next) p.sections one (all_up (λ s. rank_at s.id ≤ last) (λ s. rank_at s.id ≤ next) (λ s l. omega (arith, l, up)) p.sections p.below) own;
    }

-- a custom section leaves what was seen, another one is the last
custom_seen : (last : ℕ) (one : RawSection) (xs : List RawSection) → ((last ≡ 0) ⊎ HasFrom last xs) → (last ≡ 0) ⊎ HasFrom last (xs ++ one ∷ [])
custom_seen last one xs (inl e) = inl e
custom_seen last one xs (inr h) = inr (record { before = h.before; one = h.one; after = h.after ++ one ∷ []; its_rank = h.its_rank; whole = ap (λ y. y ++ one ∷ []) h.whole ∙ append_assoc h.before (h.one ∷ h.after) (one ∷ []); id = h.id; few = h.few; from = h.from })

own_seen : (rank : ℕ) (one : RawSection) → one.id ≡ id_at rank → rank ≤ 12 → (xs : List RawSection) → (rank ≡ 0) ⊎ HasFrom rank (xs ++ one ∷ [])
own_seen rank one e few xs = inr (record { before = xs; one = one; after = []; its_rank = rank; whole = refl; id = e; few = few; from = omega arith })

-- one byte of the contents
unfoldable pub one_byte : (last id left : ℕ) (b : List ℕ) (c : ℕ) → InContents last id (suc left) b → InContents last id left (b ++ c ∷ [])
one_byte last id left b c h = record {
  front = h.front;
  size = h.size;
  contents = h.contents ++ c ∷ [];
  n = h.n;
  whole = ap (λ y. y ++ c ∷ []) h.whole ∙ (append_assoc h.front (id ∷ (h.size ++ h.contents)) (c ∷ []) ∙ ap (λ y. h.front ++ id ∷ y) (append_assoc h.size h.contents (c ∷ [])));
  past = h.past;
  number = h.number;
  room = let r = h.room in omega (arith, r, length-append h.contents (c ∷ []));
}

-- one byte more of the contents leaves their count
begins_more : (n : ℕ) (contents : List ℕ) (c : ℕ) → BeginsWith n contents → BeginsWith n (contents ++ c ∷ [])
begins_more n contents c t = (t.0, t.1 ++ c ∷ [], ap (λ y. y ++ c ∷ []) t.2 ∙ append_assoc t.0 t.1 (c ∷ []), t.3)

one_more : (of : SectionKind) (counts : Counts) (contents : List ℕ) (d : ℕ) (xs : List RawSection) (c : ℕ) → CountsIn of counts contents d xs → CountsIn of counts (contents ++ c ∷ []) d xs
one_more section_kind.Function counts contents d xs c t = (begins_more counts.functions contents c t.0, t.1)
one_more section_kind.DataCount counts contents d xs c t = (t.0, t.1, t.2, begins_more t.1 contents c t.3)
one_more section_kind.Type counts contents d xs c t = t
one_more section_kind.Import counts contents d xs c t = t
one_more section_kind.Table counts contents d xs c t = t
one_more section_kind.Memory counts contents d xs c t = t
one_more section_kind.Global counts contents d xs c t = t
one_more section_kind.Export counts contents d xs c t = t
one_more section_kind.Start counts contents d xs c t = t
one_more section_kind.Element counts contents d xs c t = t
one_more section_kind.Code counts contents d xs c t = t
one_more section_kind.Segment counts contents d xs c t = t

begins_number : (y : List ℕ) → y ≡ [] → UnsignedAfter 32 fresh y
begins_number y e = subst (UnsignedAfter 32 fresh) (sym e) (unsigned_fresh 32 (omega arith))

-- in a custom section
in_custom : (last : ℕ) (counts : Counts) (left : ℕ) (q : InCustom) (b : List ℕ) (h : InContents last 0 left b) → CountsStand last counts h.past → Framed (machine_in_custom last counts left q) b
unfolding ended
in_custom last counts left (custom.Failed w) b h t = tt
in_custom last counts zero custom.Skip b h t =
    (ended last 0 b last h (omega arith) (omega arith) (custom_seen last _) h.past.declared (declares_more h.past.declared h.past.sections (record { id = 0; contents = h.contents }) (λ e. omega (arith, e)) h.past.declares), (t.0, given_more counts.segments h.past.sections (record { id = 0; contents = h.contents }) t.1))
in_custom last counts zero (custom.Length r) b h t = tt
in_custom last counts zero (custom.Name m) b h t = tt
in_custom last counts (suc n) custom.Skip b h t = (h, t)
in_custom last counts (suc n) (custom.Length r) b h t = (h, t)
in_custom last counts (suc n) (custom.Name m) b h t = (h, t)

-- what the sections declare once this one is over
abbrev Declares : SectionKind → Counts → List RawSection → List ℕ → ℕ → Type 0
Declares of counts xs contents n = Declare n (xs ++ record { id = id_of of; contents = contents } ∷ []) × (rank_of of < 11 → counts.functions ≡ n) × Given counts.segments (xs ++ record { id = id_of of; contents = contents } ∷ [])

other_declares : (of : SectionKind) (counts : Counts) (xs : List RawSection) (contents : List ℕ) (d : ℕ) → id_of of ≢ 3 → Declare d xs → (rank_of of < 11 → counts.functions ≡ d) → Given counts.segments xs → (n : ℕ) × Declares of counts xs contents n
other_declares of counts xs contents d other h t g =
    let one : RawSection = record { id = id_of of; contents = contents } in
    (d, (declares_more d xs one other h, t, given_more counts.segments xs one g))

over_declares : (of : SectionKind) (counts : Counts) (xs : List RawSection) (contents : List ℕ) (d : ℕ) → Declare d xs → CountsIn of counts contents d xs → (n : ℕ) × Declares of counts xs contents n
over_declares section_kind.Function counts xs contents d h t =
    (counts.functions, (inl (own_count 3 counts.functions xs contents t.0), (λ l. refl), given_more counts.segments xs (record { id = 3; contents = contents }) t.1))
over_declares section_kind.DataCount counts xs contents d h t =
    let one : RawSection = record { id = 12; contents = contents } in
    (d, (declares_more d xs one (λ e. omega (arith, e)) h, t.0, subst (λ y. Given y (xs ++ one ∷ [])) (sym t.2) (own_count 12 t.1 xs contents t.3)))
over_declares section_kind.Type counts xs contents d h t = other_declares section_kind.Type counts xs contents d (λ e. omega (arith, e)) h t.0 t.1
over_declares section_kind.Import counts xs contents d h t = other_declares section_kind.Import counts xs contents d (λ e. omega (arith, e)) h t.0 t.1
over_declares section_kind.Table counts xs contents d h t = other_declares section_kind.Table counts xs contents d (λ e. omega (arith, e)) h t.0 t.1
over_declares section_kind.Memory counts xs contents d h t = other_declares section_kind.Memory counts xs contents d (λ e. omega (arith, e)) h t.0 t.1
over_declares section_kind.Global counts xs contents d h t = other_declares section_kind.Global counts xs contents d (λ e. omega (arith, e)) h t.0 t.1
over_declares section_kind.Export counts xs contents d h t = other_declares section_kind.Export counts xs contents d (λ e. omega (arith, e)) h t.0 t.1
over_declares section_kind.Start counts xs contents d h t = other_declares section_kind.Start counts xs contents d (λ e. omega (arith, e)) h t.0 t.1
over_declares section_kind.Element counts xs contents d h t = other_declares section_kind.Element counts xs contents d (λ e. omega (arith, e)) h t.0 t.1
over_declares section_kind.Code counts xs contents d h t = other_declares section_kind.Code counts xs contents d (λ e. omega (arith, e)) h t.0 t.1
over_declares section_kind.Segment counts xs contents d h t = other_declares section_kind.Segment counts xs contents d (λ e. omega (arith, e)) h t.0 t.1

-- in another one
in_member : (last : ℕ) (of : SectionKind) (counts : Counts) (bytes left : ℕ) (q : InMember) (b : List ℕ) → last < rank_of of → (h : InContents last (id_of of) bytes b) → CountsIn of counts h.contents h.past.declared h.past.sections → Framed (machine_in_member of counts bytes left q) b
unfolding ended
in_member last of counts bytes left (at.Failed w) b up h t = tt
in_member last of counts zero zero at.Over b up h t =
    let d = over_declares of counts h.past.sections h.contents h.past.declared h.past.declares t in
    (ended last (id_of of) b (rank_of of) h (omega (arith, up)) (omega (arith, rank_of_id (rank_of of))) (λ xs s. own_seen (rank_of of) _ refl (rank_few of) xs) d.0 d.1.0, (d.1.1, d.1.2))
in_member last of counts (suc n) zero at.Over b up h t = tt
in_member last of counts zero (suc l) at.Over b up h t = tt
in_member last of counts (suc n) (suc l) at.Over b up h t = (last, up, h, t)
in_member last of counts zero left q b up h t = tt
in_member last of counts (suc n) left q b up h t = (last, up, h, t)

-- at its count
listed : (last : ℕ) (of : SectionKind) (counts : Counts) (bytes n : ℕ) (b : List ℕ) → last < rank_of of → (h : InContents last (id_of of) bytes b) → CountsIn of counts h.contents h.past.declared h.past.sections → Framed (machine_after_count of counts bytes n) b
listed last of counts bytes zero b up h t = in_member last of counts bytes zero at.Over b up h t
listed last of counts bytes (suc n) b up h t = in_member last of counts bytes n (member_at_start of) b up h t

counted : (last : ℕ) (of : SectionKind) (counts : Counts) (bytes n : ℕ) (b : List ℕ) → last < rank_of of → (h : InContents last (id_of of) bytes b) → CountsStand last counts h.past → SpellsU32 n h.contents → Framed (machine_after_paired_count of counts bytes n) b
counted last section_kind.Function counts bytes n b up h t u = listed last section_kind.Function (counts_in section_kind.Function counts n) bytes n b up h ((h.contents, [], sym (append-nil h.contents), u), t.1)
counted last section_kind.DataCount counts bytes n b up h t u = listed last section_kind.DataCount (counts_in section_kind.DataCount counts n) bytes zero b up h ((λ l. t.0 (omega (arith, up))), n, refl, (h.contents, [], sym (append-nil h.contents), u))
counted last section_kind.Code counts bytes n b up h t u =
    cond_both (nat_eq n counts.functions) _ _ (λ (m : Machine). Framed m b) (λ _. listed last section_kind.Code (counts_in section_kind.Code counts n) bytes n b up h ((λ l. absurd (omega (arith, l))), t.1)) (λ _. tt)
counted last section_kind.Segment counts bytes n b up h t u =
    cond_both (is_given counts.segments n) _ _ (λ (m : Machine). Framed m b) (λ _. listed last section_kind.Segment (counts_in section_kind.Segment counts n) bytes n b up h ((λ l. absurd (omega (arith, l))), tt)) (λ _. tt)
counted last section_kind.Type counts bytes n b up h t u = listed last section_kind.Type (counts_in section_kind.Type counts n) bytes n b up h ((λ l. t.0 (omega (arith, l, up))), t.1)
counted last section_kind.Import counts bytes n b up h t u = listed last section_kind.Import (counts_in section_kind.Import counts n) bytes n b up h ((λ l. t.0 (omega (arith, l, up))), t.1)
counted last section_kind.Table counts bytes n b up h t u = listed last section_kind.Table (counts_in section_kind.Table counts n) bytes n b up h ((λ l. t.0 (omega (arith, l, up))), t.1)
counted last section_kind.Memory counts bytes n b up h t u = listed last section_kind.Memory (counts_in section_kind.Memory counts n) bytes n b up h ((λ l. t.0 (omega (arith, l, up))), t.1)
counted last section_kind.Global counts bytes n b up h t u = listed last section_kind.Global (counts_in section_kind.Global counts n) bytes n b up h ((λ l. t.0 (omega (arith, l, up))), t.1)
counted last section_kind.Export counts bytes n b up h t u = listed last section_kind.Export (counts_in section_kind.Export counts n) bytes n b up h ((λ l. t.0 (omega (arith, l, up))), t.1)
counted last section_kind.Start counts bytes n b up h t u = listed last section_kind.Start (counts_in section_kind.Start counts n) bytes n b up h ((λ l. t.0 (omega (arith, l, up))), t.1)
counted last section_kind.Element counts bytes n b up h t u = listed last section_kind.Element (counts_in section_kind.Element counts n) bytes n b up h ((λ l. t.0 (omega (arith, l, up))), t.1)

-- the number so far, or the number
abbrev pub Numbers : List ℕ → Step ℕ × Partial → Type 0
Numbers y (More, r) = UnsignedAfter 32 r y
Numbers y (Done n, r) = SpellsU32 n y
Numbers y (Bad, r) = Unit {0}

pub numbers : (r : Partial) (y : List ℕ) (c : ℕ) → c < 2 ^ 8 → UnsignedAfter 32 r y → Numbers (y ++ c ∷ []) (unsigned_push 32 r c)
numbers r y c byte u = go (unsigned_push 32 r c) (number_next r c byte)
  where
    go : (q : Step ℕ × Partial) → NumberNext r c q → Numbers (y ++ c ∷ []) q
    go (More, s) next = record {
      same = λ n d more.
          let to = u.same n c (d ∷ more) in
          let on = next n (d ∷ more) in
          let e : (y ++ c ∷ []) ++ d ∷ more ≡ y ++ c ∷ d ∷ more = append_assoc y (c ∷ []) (d ∷ more) in
          (λ v. on.0 (to.0 (subst (λ z. Unsigned 32 n z) e v)), λ v. subst (λ z. Unsigned 32 n z) (sym e) (to.1 (on.1 v)));
    }
    go (Done v, s) next = (u.same v c []).1 ((next v []).1 (refl, refl))
    go (Bad, s) next = tt

at_count : (last : ℕ) (of : SectionKind) (counts : Counts) (more : ℕ) (q : Step ℕ × Partial) (b : List ℕ) → last < rank_of of → (h : InContents last (id_of of) more b) → CountsStand last counts h.past → Numbers h.contents q → Framed (after_count of counts more q).0 b
at_count last of counts zero (More, r) b up h t u = tt
at_count last of counts (suc n) (More, r) b up h t u = (last, up, h, t, u)
at_count last of counts more (Done n, r) b up h t u = counted last of counts more n b up h t u
at_count last of counts more (Bad, r) b up h t u = tt

-- at its size
abbrev pub Sizes : ℕ → Counts → ℕ → List ℕ → Step ℕ × Partial → Type 0
Sizes last counts id b (More, r) = (h : AtSize last id r b) × CountsStand last counts h.past
Sizes last counts id b (Done n, r) = (h : InContents last id n b) × CountsStand last counts h.past × (h.contents ≡ [])
Sizes last counts id b (Bad, r) = Unit {0}

pub at_size : (last : ℕ) (counts : Counts) (id : ℕ) (r : Partial) (b : List ℕ) (c : ℕ) → c < 2 ^ 8 → (h : AtSize last id r b) → CountsStand last counts h.past → Sizes last counts id (b ++ c ∷ []) (unsigned_push 32 r c)
at_size last counts id r b c byte h t = go (unsigned_push 32 r c) (numbers r h.begun c byte h.number)
  where
    joined : b ++ c ∷ [] ≡ h.front ++ id ∷ (h.begun ++ c ∷ [])
    joined = ap (λ y. y ++ c ∷ []) h.whole ∙ append_assoc h.front (id ∷ h.begun) (c ∷ [])

    go : (q : Step ℕ × Partial) → Numbers (h.begun ++ c ∷ []) q → Sizes last counts id (b ++ c ∷ []) q
    go (More, s) u = (record { front = h.front; begun = h.begun ++ c ∷ []; whole = joined; past = h.past; number = u }, t)
    go (Done v, s) u = (
      record {
        front = h.front;
        size = h.begun ++ c ∷ [];
        contents = [];
        n = v;
        whole = joined ∙ ap (λ y. h.front ++ id ∷ y) (sym (append-nil (h.begun ++ c ∷ [])));
        past = h.past;
        number = u;
        room = omega arith;
      },
      t,
      refl,
    )
    go (Bad, s) u = tt

at_custom_size : (last : ℕ) (counts : Counts) (q : Step ℕ × Partial) (b : List ℕ) → Sizes last counts 0 b q
    → Framed (on_number q (λ s. machine.CustomSize last counts s) (λ n. (custom_size last counts n, event.Nothing)) machine.Refused).0 b
at_custom_size last counts (More, r) b h = h
at_custom_size last counts (Done n, r) b h = in_custom last counts n (custom.Length fresh) b h.0 h.1
at_custom_size last counts (Bad, r) b h = tt

in_contents : (last : ℕ) (of : SectionKind) (counts : Counts) (n : ℕ) (b : List ℕ) → last < rank_of of → (h : InContents last (id_of of) n b) → CountsStand last counts h.past → h.contents ≡ [] → Framed (after_size of counts n) b
in_contents last of counts zero b up h t e = tt
in_contents last section_kind.Start counts (suc n) b up h t e = (last, up, h, ((λ l. t.0 (omega (arith, l, up))), t.1))
in_contents last section_kind.Type counts (suc n) b up h t e = (last, up, h, t, begins_number h.contents e)
in_contents last section_kind.Import counts (suc n) b up h t e = (last, up, h, t, begins_number h.contents e)
in_contents last section_kind.Function counts (suc n) b up h t e = (last, up, h, t, begins_number h.contents e)
in_contents last section_kind.Table counts (suc n) b up h t e = (last, up, h, t, begins_number h.contents e)
in_contents last section_kind.Memory counts (suc n) b up h t e = (last, up, h, t, begins_number h.contents e)
in_contents last section_kind.Global counts (suc n) b up h t e = (last, up, h, t, begins_number h.contents e)
in_contents last section_kind.Export counts (suc n) b up h t e = (last, up, h, t, begins_number h.contents e)
in_contents last section_kind.Element counts (suc n) b up h t e = (last, up, h, t, begins_number h.contents e)
in_contents last section_kind.DataCount counts (suc n) b up h t e = (last, up, h, t, begins_number h.contents e)
in_contents last section_kind.Code counts (suc n) b up h t e = (last, up, h, t, begins_number h.contents e)
in_contents last section_kind.Segment counts (suc n) b up h t e = (last, up, h, t, begins_number h.contents e)

at_its_size : (last : ℕ) (of : SectionKind) (counts : Counts) (q : Step ℕ × Partial) (b : List ℕ) → last < rank_of of → Sizes last counts (id_of of) b q
    → Framed (on_number q (λ s. machine.Size of counts s) (λ n. (after_size of counts n, event.Nothing)) machine.Refused).0 b
at_its_size last of counts (More, r) b up h = (last, up, h.0, h.1)
at_its_size last of counts (Done n, r) b up h = in_contents last of counts n b up h.0 h.1 h.2
at_its_size last of counts (Bad, r) b up h = tt

-- at its id
begins : (last id : ℕ) (b : List ℕ) → Past last b → AtSize last id fresh (b ++ id ∷ [])
begins last id b h = record { front = b; begun = []; whole = refl; past = h; number = unsigned_fresh 32 (omega arith) }

begun : (last : ℕ) (of : SectionKind) (counts : Counts) (b : List ℕ) → last < rank_of of → (h : AtSize last (id_of of) fresh b) → CountsStand last counts h.past → Framed (begun_section of counts).0 b
begun last section_kind.Segment counts b up h t = at_last counts.functions
  where
    at_last : (n : ℕ) → Framed (begun_last n counts).0 b
    at_last zero = (last, up, h, t)
    at_last (suc n) = tt
begun last section_kind.Type counts b up h t = (last, up, h, t)
begun last section_kind.Import counts b up h t = (last, up, h, t)
begun last section_kind.Function counts b up h t = (last, up, h, t)
begun last section_kind.Table counts b up h t = (last, up, h, t)
begun last section_kind.Memory counts b up h t = (last, up, h, t)
begun last section_kind.Global counts b up h t = (last, up, h, t)
begun last section_kind.Export counts b up h t = (last, up, h, t)
begun last section_kind.Start counts b up h t = (last, up, h, t)
begun last section_kind.Element counts b up h t = (last, up, h, t)
begun last section_kind.DataCount counts b up h t = (last, up, h, t)
begun last section_kind.Code counts b up h t = (last, up, h, t)

rising : (p : Profile) (last : ℕ) (counts : Counts) (id : ℕ) (q : Option SectionKind) (b : List ℕ) → IsNamed p id q → (h : Past last b) → CountsStand last counts h → Framed (machine_if_rising last counts q).0 (b ++ id ∷ [])
rising p last counts id None b named h t = tt
rising p last counts id (Some of) b named h t =
    cond_both (nat_le (rank_of of) last) _ _ (λ (q : Machine × Event). Framed q.0 (b ++ id ∷ [])) (λ _. tt)
    (λ a. begun last of counts (b ++ id ∷ []) (leb-false (rank_of of) last a) (at_id named.0) t)
  where
    at_id : (e : id ≡ id_of of) → AtSize last (id_of of) fresh (b ++ id ∷ [])
    at_id e = record { front = b; begun = []; whole = ap (λ i. b ++ i ∷ []) e; past = h; number = unsigned_fresh 32 (omega arith) }

starts : (p : Profile) (last : ℕ) (counts : Counts) (c : ℕ) (b : List ℕ) (h : Past last b) → CountsStand last counts h → Framed (section_start p last counts c).0 (b ++ c ∷ [])
unfolding begins
starts p last counts zero b h t = (begins last 0 b h, t)
starts p last counts (suc m) b h t = rising p last counts (suc m) (section_kind_of p (suc m)) b (component_named p m) h t

-- in the header
header_more : (n : ℕ) → n < 8 → take n header ++ slice_index header n ∷ [] ≡ take (n + 1) header
header_more zero l = refl
header_more (suc zero) l = refl
header_more (suc (suc zero)) l = refl
header_more (suc (suc (suc zero))) l = refl
header_more (suc (suc (suc (suc zero)))) l = refl
header_more (suc (suc (suc (suc (suc zero))))) l = refl
header_more (suc (suc (suc (suc (suc (suc zero)))))) l = refl
header_more (suc (suc (suc (suc (suc (suc (suc zero))))))) l = refl
header_more (suc (suc (suc (suc (suc (suc (suc (suc n)))))))) l = absurd (omega (arith, l))

in_header : (n c : ℕ) (b : List ℕ) → n < 8 → b ≡ take n header → Framed (header_step n c).0 (b ++ c ∷ [])
in_header n c b low e =
    let P : Machine × Event → Type 0 = λ q. Framed q.0 (b ++ c ∷ []) in
    cond_both (nat_lt n 8) _ _ P
    (λ _. cond_both (nat_eq c (slice_index header n)) _ _ P
    (λ is.
    let same : b ++ c ∷ [] ≡ take (n + 1) header = ap (λ y. y ++ c ∷ []) e ∙ (ap (λ d. take n header ++ d ∷ []) (eqb-true c (slice_index header n) is) ∙ header_more n low) in
    cond_both (nat_lt n 7) _ _ P
    (λ a. (let l = ltb-true n 7 a in omega (arith, l), same))
    (λ a. let seven : n + 1 ≡ 8 = let l = ltb-false n 7 a in omega (arith, l, low) in
    (record { sections = []; spelled = (b ++ c ∷ [], [], sym (append-nil (b ++ c ∷ [])), same ∙ ap (λ i. take i header) seven, refl); seen = inl refl; declared = 0; declares = inr (refl, tt); below = tt }, ((λ l. refl), tt))))
    (λ _. cond_both (nat_lt n 4) _ _ P (λ _. tt) (λ _. tt)))
    (λ _. tt)

-- each byte
pub step_framed : (p : Profile) (m : Machine) (c : ℕ) (b : List ℕ) → c < 2 ^ 8 → Framed m b → Framed (step_of p m c).0 (b ++ c ∷ [])
unfolding one_byte
step_framed p (machine.Header n) c b byte h = in_header n c b h.0 h.1
step_framed p (machine.Between last counts) c b byte h = starts p last counts c b h.0 h.1
step_framed p (machine.CustomSize last counts r) c b byte h = at_custom_size last counts (unsigned_push 32 r c) (b ++ c ∷ []) (at_size last counts 0 r b c byte h.0 h.1)
step_framed p (machine.Custom last counts more q) c b byte h = in_custom last counts more (custom_step q c).0 (b ++ c ∷ []) (one_byte last 0 more b c h.0) h.1
step_framed p (machine.Size of counts r) c b byte h = at_its_size h.0 of counts (unsigned_push 32 r c) (b ++ c ∷ []) h.1 (at_size h.0 counts (id_of of) r b c byte h.2 h.3)
step_framed p (machine.Count of counts more r) c b byte h = at_count h.0 of counts more (unsigned_push 32 r c) (b ++ c ∷ []) h.1 (one_byte h.0 (id_of of) more b c h.2) h.3 (numbers r h.2.contents c byte h.4)
step_framed p (machine.Section of counts more left q) c b byte h =
    in_member h.0 of counts more left (member_step p q c).0 (b ++ c ∷ []) h.1 (one_byte h.0 (id_of of) more b c h.2) (one_more of counts h.2.contents h.2.past.declared h.2.past.sections c h.3)
step_framed p (machine.Refused w) c b byte h = tt

heard_framed : (zone : Zone) (y : List ℕ) (c : ℕ) (m : Machine) (e : Event) (b : List ℕ) → Framed m b → Framed (byte_read machine.Refused zone y c (m, e)).at b
heard_framed zone y c m event.Nothing b f = f
heard_framed zone y c m (event.Complete x) b f = f
heard_framed zone y c m event.DataByte b f = f
heard_framed zone y c m event.InName b f = f
heard_framed zone y c m (event.EndsName kind) b f = cond_both (is_utf8 (y ++ c ∷ [])) _ _ (λ (h : ByteRead Machine). Framed h.at b) (λ _. f) (λ _. tt)
heard_framed zone y c m (event.EmptyName kind) b f = f

pub run_framed : (p : Profile) (s : MachineState) (before b : List ℕ) → AreBytes b → Framed s.machine before → Framed (state_after p s b).machine (before ++ b)
run_framed p s before [] a f = subst (λ y. Framed s.machine y) (sym (append-nil before)) f
run_framed p s before (c ∷ b) a f =
    let one : Framed (after_byte p s c).machine (before ++ c ∷ []) = heard_framed (zone_of s.machine) s.name c (step_of p s.machine c).0 (step_of p s.machine c).1 (before ++ c ∷ []) (step_framed p s.machine c before a.0 f) in
    subst (λ y. Framed (state_after p (after_byte p s c) b).machine y) (append_assoc before (c ∷ []) b) (run_framed p (after_byte p s c) (before ++ c ∷ []) b a.1 one)
