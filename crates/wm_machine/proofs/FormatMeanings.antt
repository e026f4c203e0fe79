-- The meaning of the names of the format, for the bytes up to the offset of a refusal.
use Rattle.std.proofs.Common.{◌≡◌, ◌≢◌, ℕ, zero, suc, ◌+◌, ◌<◌, ◌≤◌, ◌^◌, ◌⊎◌, inl, inr, List, [], ◌∷◌, ◌++◌, Option, Some, None, Result, Ok, Err, true, false, length, take, refl, sym, ◌∙◌, ap, subst, arith, append_assoc, append-nil, length-append, nat_eq, nat_lt, nat_le}
use Rattle.std.proofs.lemmas.Bool.{cases_lt, cond_both, ltb-true, ltb-false, leb-true, eqb-false}
use Rattle.std.specs.List.{AllByRecursion}
use Rattle.std.specs.Prelude.{slice_index}
use Rattle.std.specs.Str.{is_utf8}
use Rattle.wm_syntax.specs.declared.profile.Profile.{Profile}
use Rattle.wm_syntax.specs.declared.why.Why.{Why}
use Rattle.wm_syntax.specs.declared.why.Why.TheVariants as why
use Rattle.wm_syntax.specs.declared.numbers.Step.{Step}
use Rattle.wm_syntax.specs.declared.numbers.Step.TheVariants.{More, Done, Bad}
use Rattle.wm_syntax.specs.inner.Numbers.{Partial}
use Rattle.wm_syntax.specs.exact.Reading.{unsigned_push}
use Rattle.wm_syntax.specs.Spelling.{AreBytes}
use Rattle.wm_syntax.specs.Types.{SpellsU32}
use Rattle.wm_machine.specs.declared.refusal.Refusal.{Refusal}
use Rattle.wm_machine.specs.declared.machine.NameKind.{NameKind}
use Rattle.wm_machine.specs.declared.machine.Counts.{Counts}
use Rattle.wm_machine.specs.declared.machine.InCustom.{InCustom}
use Rattle.wm_machine.specs.declared.machine.InCustom.TheVariants as custom
use Rattle.wm_machine.specs.declared.machine.Machine.{Machine}
use Rattle.wm_machine.specs.declared.machine.Machine.TheVariants as machine
use Rattle.wm_machine.specs.declared.machine.Event.{Event}
use Rattle.wm_machine.specs.declared.machine.Event.TheVariants as event
use Rattle.wm_machine.specs.declared.machine.member.SectionKind.{SectionKind}
use Rattle.wm_machine.specs.declared.machine.member.SectionKind.TheVariants as section_kind
use Rattle.wm_machine.specs.declared.machine.member.InMember.{InMember}
use Rattle.wm_machine.specs.declared.machine.member.InMember.TheVariants as at
use Rattle.wm_machine.specs.Decoding.{Setting}
use Rattle.wm_machine.specs.Items.{Item, data_byte, items_at}
use Rattle.wm_machine.specs.Sections.{header}
use Rattle.wm_machine.specs.Sinks.{and_then, all_taken}
use Rattle.wm_machine.specs.exact.Members.{id_of, rank_of, section_kind_of}
use Rattle.wm_machine.specs.exact.MemberSteps.{on_number, member_step}
use Rattle.wm_machine.specs.exact.Runs.{name_item, plain_item, marks, MachineState, state_after, state_at_start}
use Rattle.wm_machine.specs.exact.Steps.{counts_in, is_given, begun_last, machine_after_count, machine_after_paired_count, after_count, begun_section, machine_if_rising, section_start, header_step, custom_step, custom_after_length, step_of}
use Rattle.wm_machine.specs.exact.Live.{answer_between, effect_of_maybe, name_taken, event_effect, Live, live_or_refused, live_from, live_byte, decoder_after, live_at_start, answer_at_end_of, answer_at_end, IsRefused}
use Rattle.wm_machine.specs.inner.Answers.{answer_of}
use Rattle.wm_machine.specs.Meanings.{RawSection, WrongInHeader, WrongId, IsUnknown, IsLate, HasCount, HasFrom, EndsInSection, Declare, OtherCount, NoCode, NoData, OtherSize, OtherBodySize, WrongNumber, Wanted, WrongByte, IsNoInstruction, BeginsFloat, IsOtherByte, MeansOfFormat, MeaningOfFormat, IsRuleName, GivesRuleNames}
use Rattle.wm_machine.proofs.ByteLists.{front_bytes}
use Rattle.wm_machine.proofs.WrongBytes.{Found, Says as SaysOfByte}
use Rattle.wm_machine.proofs.WrongMembers.{InInput, byte_says}
use Rattle.wm_machine.proofs.BadNames.{bad_name}
use Rattle.wm_machine.proofs.SectionEnds.{IsText, other_size}
use Rattle.wm_machine.proofs.BodyEnds.{other_body_size}
use Rattle.wm_machine.proofs.BadNumbers.{wrong_number}
use Rattle.wm_machine.proofs.OpSound.{HasRoom, last_byte}
use Rattle.wm_machine.proofs.OpenMembers.{zeros, zeros_length}
use Rattle.wm_machine.proofs.MemberFloats.{IsMemberName, member_name}
use Rattle.wm_machine.proofs.AfterTheHeader.{IsInSection, IsLive, listed_out, more_out, step_in}
use Rattle.wm_machine.proofs.Ranks.{rank_at}
use Rattle.wm_machine.proofs.MachineStates.{FitsAt, Fits, run_fits, IsNamed, component_named, rank_few, rank_some}
use Rattle.wm_machine.proofs.MachineAndSink.{given_taken, used_of, Used, reached, state_of, begin_fits}
use Rattle.wm_machine.proofs.FramedBytes.{Past, AtSize, InContents, CountsStand, Given, Numbers, numbers, one_byte, all_up, Framed, run_framed}

pub last_is_byte : (b : List ℕ) (c : ℕ) → AreBytes (b ++ c ∷ []) → c < 2 ^ 8
last_is_byte [] c h = h.0
last_is_byte (d ∷ b) c h = last_is_byte b c h.1

-- what the machine says where it refuses a byte, which is the last of these
abbrev pub MachineSays : Profile → List ℕ → Why → Type 0
MachineSays p used why.Magic = WrongInHeader 0 4 used
MachineSays p used why.Version = WrongInHeader 4 8 used
MachineSays p used why.SectionId = WrongId (IsUnknown p) used
MachineSays p used why.SectionOrder = WrongId (IsLate p) used
MachineSays p used why.CodeCount = (rest : List ℕ) → OtherCount Declare 10 used ⊎ NoCode used rest
MachineSays p used why.DataCount = (rest : List ℕ) → OtherCount (HasCount 12) 11 used ⊎ NoData used rest
MachineSays p used w = IsMemberName w

header_length : (n : ℕ) → n < 8 → length (take n header) ≡ n
header_length zero l = refl
header_length (suc zero) l = refl
header_length (suc (suc zero)) l = refl
header_length (suc (suc (suc zero))) l = refl
header_length (suc (suc (suc (suc zero)))) l = refl
header_length (suc (suc (suc (suc (suc zero))))) l = refl
header_length (suc (suc (suc (suc (suc (suc zero)))))) l = refl
header_length (suc (suc (suc (suc (suc (suc (suc zero))))))) l = refl
header_length (suc (suc (suc (suc (suc (suc (suc (suc n)))))))) l = absurd (omega (arith, l))

module _ (p : Profile) (used : List ℕ) where
  abbrev Says : Machine → Type 0
  Says m = (w : Why) → m ≡ machine.Refused w → MachineSays p used w

  by_name : (v : Why) → MachineSays p used v → Says (machine.Refused v)
  by_name v h w e = let same : v ≡ w = cc in subst (MachineSays p used) same h

  lives : (m : Machine) → IsLive m → Says m
  lives (machine.Refused v) i w e = absurd i
  lives (machine.Header n) i w e = absurd i
  lives (machine.Between last counts) i w e = absurd (cc)
  lives (machine.CustomSize last counts r) i w e = absurd (cc)
  lives (machine.Custom last counts more q) i w e = absurd (cc)
  lives (machine.Size of counts r) i w e = absurd (cc)
  lives (machine.Count of counts more r) i w e = absurd (cc)
  lives (machine.Section of counts more left q) i w e = absurd (cc)

  -- the names of a member
  of_member : (w : Why) → IsMemberName w → MachineSays p used w
  of_member why.Float i = tt
  of_member why.BadNumber i = tt
  of_member why.BadByte i = tt
  of_member why.BadOpcode i = tt
  of_member why.BodyEnd i = tt
  of_member why.SectionEnd i = tt
  of_member why.Magic i = absurd i
  of_member why.Version i = absurd i
  of_member why.SectionId i = absurd i
  of_member why.SectionOrder i = absurd i
  of_member why.CodeCount i = absurd i
  of_member why.DataCount i = absurd i
  of_member w i = i

  is_name : (w : Why) → (IsMemberName w) ⊎ (IsMemberName w → ⊥)
  is_name why.Float = inl tt
  is_name why.BadNumber = inl tt
  is_name why.BadByte = inl tt
  is_name why.BadOpcode = inl tt
  is_name why.BodyEnd = inl tt
  is_name why.SectionEnd = inl tt
  is_name w = inr (λ i. i)

  member_says : (c : ℕ) (q : InMember) (w : Why) → (member_step p q c).0 ≡ at.Failed w → MachineSays p used w
  member_says c q w e = elim (is_name w) [ inl i ↦ of_member w i | inr differs ↦ absurd (member_name w differs c p q e) ]

  custom_says : (c : ℕ) (q : InCustom) (w : Why) → (custom_step q c).0 ≡ custom.Failed w → MachineSays p used w
  custom_says c (custom.Length r) w e = go (unsigned_push 32 r c) e
    where
      go : (q : Step ℕ × Partial) → (on_number q custom.Length custom_after_length custom.Failed).0 ≡ custom.Failed w → MachineSays p used w
      go (More, s) e = absurd (cc)
      go (Done zero, s) e = absurd (cc)
      go (Done (suc n), s) e = absurd (cc)
      go (Bad, s) e = let same : why.BadNumber ≡ w = cc in subst (MachineSays p used) same tt
  custom_says c (custom.Name zero) w e = absurd (cc)
  custom_says c (custom.Name (suc n)) w e = absurd (cc)
  custom_says c custom.Skip w e = absurd (cc)
  custom_says c (custom.Failed v) w e = let same : why.SectionEnd ≡ w = cc in subst (MachineSays p used) same tt

  -- at an id
  begun_says : (of : SectionKind) (counts : Counts) → (of ≡ section_kind.Segment → 0 < counts.functions → MachineSays p used why.CodeCount) → Says (begun_section of counts).0
  begun_says section_kind.Segment counts k w e = at_last counts.functions (k refl) e
    where
      at_last : (n : ℕ) → (0 < n → MachineSays p used why.CodeCount) → (begun_last n counts).0 ≡ machine.Refused w → MachineSays p used w
      at_last zero k e = absurd (cc)
      at_last (suc n) k e = by_name why.CodeCount (k (omega arith)) w e
  begun_says section_kind.Type counts k w e = absurd (cc)
  begun_says section_kind.Import counts k w e = absurd (cc)
  begun_says section_kind.Function counts k w e = absurd (cc)
  begun_says section_kind.Table counts k w e = absurd (cc)
  begun_says section_kind.Memory counts k w e = absurd (cc)
  begun_says section_kind.Global counts k w e = absurd (cc)
  begun_says section_kind.Export counts k w e = absurd (cc)
  begun_says section_kind.Start counts k w e = absurd (cc)
  begun_says section_kind.Element counts k w e = absurd (cc)
  begun_says section_kind.DataCount counts k w e = absurd (cc)
  begun_says section_kind.Code counts k w e = absurd (cc)

late_from : (rank last : ℕ) (xs : List RawSection) → 0 < rank → rank ≤ last → ((last ≡ 0) ⊎ HasFrom last xs) → HasFrom rank xs
late_from rank last xs some l (inl e) = absurd (omega (arith, some, l, e))
late_from rank last xs some l (inr h) = record { before = h.before; one = h.one; after = h.after; its_rank = h.its_rank; whole = h.whole; id = h.id; few = h.few; from = let f = h.from in omega (arith, l, f) }

-- no section of a rank above the last one came
none_above : (last rank id : ℕ) (b : List ℕ) (h : Past last b) → rank_at id ≡ rank → last < rank → AllByRecursion (λ s. s.id ≢ id) h.sections
none_above last rank id b h its above =
    all_up (λ s. rank_at s.id ≤ last) (λ s. s.id ≢ id) (λ s l e. let same : rank_at s.id ≡ rank_at id = ap rank_at e in omega (arith, l, same, its, above)) h.sections h.below

-- no section with id 10 came while functions await their code
no_code : (last : ℕ) (counts : Counts) (b : List ℕ) (h : Past last b) → CountsStand last counts h → FitsAt last counts → 0 < counts.functions → (used rest : List ℕ) → ((used ≡ b) × (rest ≡ [])) ⊎ (used ≡ b ++ 11 ∷ []) → NoCode used rest
no_code last counts b h t fit some used rest ends =
    let early : last < 11 = elim (cases_lt last 11) [ inl l ↦ l | inr l ↦ absurd (let z = fit.1 l in omega (arith, z, some)) ] in
    (b, ends, record { sections = h.sections; declared = counts.functions; before = h.spelled; says = subst (λ n. Declare n h.sections) (sym (t.0 early)) h.declares; some = some; none = none_above last 11 10 b h refl early })

-- no section with id 11 came while data segments are given
no_data : (last : ℕ) (counts : Counts) (b : List ℕ) (h : Past last b) → CountsStand last counts h → FitsAt last counts → (n : ℕ) → counts.segments ≡ Some (suc n) → NoData b []
no_data last counts b h t fit n is =
    let early : last < 12 = elim (cases_lt last 12) [ inl l ↦ l | inr l ↦ absurd (let z = fit.3 l in cc (is, z)) ] in
    (refl, record { sections = h.sections; declared = suc n; before = h.spelled; says = subst (λ y. Given y h.sections) is t.1; some = omega arith; none = none_above last 12 11 b h refl early })

rising_says : (p : Profile) (last : ℕ) (counts : Counts) (id : ℕ) (q : Option SectionKind) (b : List ℕ) → IsNamed p id q → (h : Past last b) → CountsStand last counts h → FitsAt last counts → Says p (b ++ id ∷ []) (machine_if_rising last counts q).0
rising_says p last counts id None b named h t fit =
    by_name p (b ++ id ∷ []) why.SectionId (record { sections = h.sections; front = b; id = id; whole = refl; before = h.spelled; wrong = named })
rising_says p last counts id (Some of) b named h t fit =
    cond_both (nat_le (rank_of of) last) _ _ (λ (q : Machine × Event). Says p (b ++ id ∷ []) q.0)
    (λ a. by_name p (b ++ id ∷ []) why.SectionOrder (record {
      sections = h.sections;
      front = b;
      id = id;
      whole = refl;
      before = h.spelled;
      wrong = (rank_of of, rank_some of, rank_few of, named.1, named.0, late_from (rank_of of) last h.sections (rank_some of) (leb-true (rank_of of) last a) h.seen);
    }))
    (λ _. begun_says p (b ++ id ∷ []) of counts (λ e n rest. inr (no_code last counts b h t fit n (b ++ id ∷ []) rest (inr (ap (λ i. b ++ i ∷ []) (named.0 ∙ ap id_of e))))))

start_says : (p : Profile) (last : ℕ) (counts : Counts) (c : ℕ) (b : List ℕ) (h : Past last b) → CountsStand last counts h → FitsAt last counts → Says p (b ++ c ∷ []) (section_start p last counts c).0
start_says p last counts zero b h t fit = λ w e. absurd (cc)
start_says p last counts (suc m) b h t fit = rising_says p last counts (suc m) (section_kind_of p (suc m)) b (component_named p m) h t fit

-- in the header
header_says : (p : Profile) (n c : ℕ) (b : List ℕ) → n < 8 → b ≡ take n header → Says p (b ++ c ∷ []) (header_step n c).0
header_says p n c b low e =
    let used : List ℕ = b ++ c ∷ [] in
    let P : Machine × Event → Type 0 = λ q. Says p used q.0 in
    let long : length b ≡ n = ap length e ∙ header_length n low in
    let right : b ≡ take (length b) header = e ∙ ap (λ i. take i header) (sym long) in
    cond_both (nat_lt n 8) _ _ P
    (λ _. cond_both (nat_eq c (slice_index header n)) _ _ P
    (λ _. cond_both (nat_lt n 7) _ _ P (λ _ w i. absurd (cc)) (λ _ w i. absurd (cc)))
    (λ ne.
    let wrong : c ≢ slice_index header (length b) = λ s. eqb-false c (slice_index header n) ne (s ∙ ap (slice_index header) long) in
    cond_both (nat_lt n 4) _ _ P
    (λ a. by_name p used why.Magic (record { front = b; byte = c; whole = refl; right = right; at_least = omega arith; before = let l = ltb-true n 4 a in omega (arith, l, long); wrong = wrong }))
    (λ a. by_name p used why.Version (record { front = b; byte = c; whole = refl; right = right; at_least = let l = ltb-false n 4 a in omega (arith, l, long); before = omega (arith, low, long); wrong = wrong }))))
    (λ a. absurd (let l = ltb-false n 8 a in omega (arith, low, l)))

-- at the count of the members of a section
other_count : (Says : ℕ → List RawSection → Type 0) (id last more : ℕ) (used : List ℕ) (h : InContents last id more used) (m : ℕ) → Says m h.past.sections → (n : ℕ) → SpellsU32 n h.contents → n ≢ m → OtherCount Says id used
other_count Says id last more used h m says n u d = record {
  sections = h.past.sections;
  front = h.front;
  size = h.size;
  count = h.contents;
  bytes = h.n;
  members = n;
  declared = m;
  whole = h.whole;
  before = h.past.spelled;
  spelled_bytes = h.number;
  spelled_members = u;
  says = says;
  differ = d;
}

module _ (p : Profile) (used : List ℕ) where
  abbrev Counted : SectionKind → Counts → ℕ → ℕ → Type 0
  Counted of counts more n = Says p used (machine_after_paired_count of counts more n)

  listed_says : (of : SectionKind) (counts : Counts) (more n : ℕ) → Says p used (machine_after_count of counts more n)
  listed_says = listed_out (Says p used) (lives p used) (by_name p used why.SectionEnd tt) (by_name p used why.BadNumber tt)

  -- another number than the one that was given
  differs : (last more n : ℕ) (h : InContents last 11 more used) → SpellsU32 n h.contents → (s : Option ℕ) → Given s h.past.sections → is_given s n ≡ false → OtherCount (HasCount 12) 11 used
  differs last more n h u None g e = absurd (cc)
  differs last more n h u (Some m) g e = other_count (HasCount 12) 11 last more used h m g n u (eqb-false n m e)

  counted_says : (last : ℕ) (of : SectionKind) (counts : Counts) (more n : ℕ) → last < rank_of of → (h : InContents last (id_of of) more used) → CountsStand last counts h.past → SpellsU32 n h.contents → Counted of counts more n
  counted_says last section_kind.DataCount counts more n up h t u = listed_says section_kind.DataCount (counts_in section_kind.DataCount counts n) more zero
  counted_says last section_kind.Code counts more n up h t u =
      cond_both (nat_eq n counts.functions) _ _ (Says p used) (λ _. listed_says section_kind.Code (counts_in section_kind.Code counts n) more n)
      (λ a. by_name p used why.CodeCount (λ rest. inl (other_count Declare 10 last more used h counts.functions (subst (λ m. Declare m h.past.sections) (sym (t.0 up)) h.past.declares) n u (eqb-false n counts.functions a))))
  counted_says last section_kind.Segment counts more n up h t u =
      cond_both (is_given counts.segments n) _ _ (Says p used) (λ _. listed_says section_kind.Segment (counts_in section_kind.Segment counts n) more n)
      (λ a. by_name p used why.DataCount (λ rest. inl (differs last more n h u counts.segments t.1 a)))
  counted_says last section_kind.Type counts more n up h t u = listed_says section_kind.Type (counts_in section_kind.Type counts n) more n
  counted_says last section_kind.Import counts more n up h t u = listed_says section_kind.Import (counts_in section_kind.Import counts n) more n
  counted_says last section_kind.Function counts more n up h t u = listed_says section_kind.Function (counts_in section_kind.Function counts n) more n
  counted_says last section_kind.Table counts more n up h t u = listed_says section_kind.Table (counts_in section_kind.Table counts n) more n
  counted_says last section_kind.Memory counts more n up h t u = listed_says section_kind.Memory (counts_in section_kind.Memory counts n) more n
  counted_says last section_kind.Global counts more n up h t u = listed_says section_kind.Global (counts_in section_kind.Global counts n) more n
  counted_says last section_kind.Export counts more n up h t u = listed_says section_kind.Export (counts_in section_kind.Export counts n) more n
  counted_says last section_kind.Start counts more n up h t u = listed_says section_kind.Start (counts_in section_kind.Start counts n) more n
  counted_says last section_kind.Element counts more n up h t u = listed_says section_kind.Element (counts_in section_kind.Element counts n) more n

  count_says : (last : ℕ) (of : SectionKind) (counts : Counts) (more : ℕ) (q : Step ℕ × Partial) → last < rank_of of → (h : InContents last (id_of of) more used) → CountsStand last counts h.past → Numbers h.contents q → Says p used (after_count of counts more q).0
  count_says last of counts more (More, r) up h t u = more_out (Says p used) (lives p used) (by_name p used why.SectionEnd tt) (by_name p used why.BadNumber tt) of counts more r
  count_says last of counts more (Done n, r) up h t u = counted_says last of counts more n up h t u
  count_says last of counts more (Bad, r) up h t u = by_name p used why.BadNumber tt

abbrev IsCount : Machine → Type 0
IsCount (machine.Count of counts more r) = Unit {0}
IsCount m = ⊥

section_says : (p : Profile) (m : Machine) (c : ℕ) (used : List ℕ) → IsInSection m → (IsCount m → ⊥) → Says p used (step_of p m c).0
section_says p m c used i other =
    step_in (Says p used) (lives p used) (by_name p used why.SectionEnd tt) (by_name p used why.BadNumber tt) p m c i
    (λ of counts more r s. absurd (other (subst IsCount (sym s) tt)))
    (λ q w e. by_name p used w (custom_says p used c q w e)) (λ of counts more left q w s e. by_name p used w (member_says p used c q w e))

pub step_says : (p : Profile) (m : Machine) (c : ℕ) (b : List ℕ) → c < 2 ^ 8 → (IsRefused m → ⊥) → Fits p m → Framed m b → Says p (b ++ c ∷ []) (step_of p m c).0
unfolding one_byte
step_says p (machine.Header n) c b byte live fit f = header_says p n c b f.0 f.1
step_says p (machine.Between last counts) c b byte live fit f = start_says p last counts c b f.0 f.1 fit
step_says p (machine.Refused w) c b byte live fit f = absurd (live tt)
step_says p (machine.CustomSize last counts r) c b byte live fit f = section_says p (machine.CustomSize last counts r) c (b ++ c ∷ []) tt (λ i. i)
step_says p (machine.Custom last counts more q) c b byte live fit f = section_says p (machine.Custom last counts more q) c (b ++ c ∷ []) tt (λ i. i)
step_says p (machine.Size of counts r) c b byte live fit f = section_says p (machine.Size of counts r) c (b ++ c ∷ []) tt (λ i. i)
step_says p (machine.Count of counts more r) c b byte live fit f =
    count_says p (b ++ c ∷ []) f.0 of counts more (unsigned_push 32 r c) f.1 (one_byte f.0 (id_of of) more b c f.2) f.3 (numbers r f.2.contents c byte f.4)
step_says p (machine.Section of counts more left q) c b byte live fit f = section_says p (machine.Section of counts more left q) c (b ++ c ∷ []) tt (λ i. i)

-- the names that a sink gives are none of these
by_rule : (p : Profile) (limit : ℕ) (used rest : List ℕ) (w : Why) → IsRuleName w → MeansOfFormat p limit used rest w
by_rule p limit used rest why.Magic i = absurd i
by_rule p limit used rest why.Version i = absurd i
by_rule p limit used rest why.SectionId i = absurd i
by_rule p limit used rest why.SectionOrder i = absurd i
by_rule p limit used rest why.Truncated i = absurd i
by_rule p limit used rest why.TooLong i = absurd i
by_rule p limit used rest why.BadOpcode i = absurd i
by_rule p limit used rest why.Float i = absurd i
by_rule p limit used rest why.BadByte i = absurd i
by_rule p limit used rest why.BadUtf8 i = absurd i
by_rule p limit used rest why.CodeCount i = absurd i
by_rule p limit used rest why.DataCount i = absurd i
by_rule p limit used rest why.SectionEnd i = absurd i
by_rule p limit used rest why.BodyEnd i = absurd i
by_rule p limit used rest why.BadNumber i = absurd i
by_rule p limit used rest w i = tt

-- what is found of the last byte
found : (p : Profile) (b : List ℕ) (a : AreBytes b) (c : ℕ) (IsWrong : List ℕ → Wanted → ℕ → Type 0) → Found (InInput p b a c) (IsWrong b) c → WrongByte p IsWrong (b ++ c ∷ [])
found p b a c IsWrong s = record { before = b; byte = c; whole = refl; wanted = s.0; some = s.1.1.some; place = s.1.0; none = s.1.1.none; wrong = s.2 }

by_machine : (p : Profile) (limit : ℕ) (b rest : List ℕ) (a : AreBytes b) (c : ℕ) (w : Why) → MachineSays p (b ++ c ∷ []) w → SaysOfByte b (InInput p b a c) c w → (w ≡ why.SectionEnd → OtherSize p (b ++ c ∷ [])) → (w ≡ why.BodyEnd → OtherBodySize p (b ++ c ∷ [])) → (w ≡ why.BadNumber → WrongNumber p (b ++ c ∷ [])) → MeansOfFormat p limit (b ++ c ∷ []) rest w
by_machine p limit b rest a c why.Magic h s cut body number = h
by_machine p limit b rest a c why.Version h s cut body number = h
by_machine p limit b rest a c why.SectionId h s cut body number = h
by_machine p limit b rest a c why.SectionOrder h s cut body number = h
by_machine p limit b rest a c why.Truncated h s cut body number = absurd h
by_machine p limit b rest a c why.TooLong h s cut body number = absurd h
by_machine p limit b rest a c why.BadOpcode h s cut body number = found p b a c IsNoInstruction s
by_machine p limit b rest a c why.Float h s cut body number = found p b a c BeginsFloat s
by_machine p limit b rest a c why.BadByte h s cut body number = found p b a c IsOtherByte s
by_machine p limit b rest a c why.BadUtf8 h s cut body number = absurd h
by_machine p limit b rest a c why.CodeCount h s cut body number = h rest
by_machine p limit b rest a c why.DataCount h s cut body number = h rest
by_machine p limit b rest a c why.SectionEnd h s cut body number = cut refl
by_machine p limit b rest a c why.BodyEnd h s cut body number = body refl
by_machine p limit b rest a c why.BadNumber h s cut body number = number refl
by_machine p limit b rest a c w h s cut body number = tt

zeros_some : (n : ℕ) → zeros (suc n) ≡ [] → ⊥
zeros_some n e = let l : length (zeros (suc n)) ≡ 0 = ap length e in omega (arith, l, zeros_length (suc n))

cut_size : (last id : ℕ) (r : Partial) (b : List ℕ) → HasRoom 32 r → AtSize last id r b → EndsInSection b
cut_size last id r b room h =
    let past = h.past in
    let more : List ℕ = 0 ∷ zeros r.low in
    let number : SpellsU32 r.low (h.begun ++ 0 ∷ []) = (h.number.same r.low 0 []).1 (last_byte r room.0) in
    record {
      sections = past.sections;
      front = h.front;
      begun = id ∷ h.begun;
      missing = more;
      last = record { id = id; contents = zeros r.low };
      whole = h.whole;
      before = past.spelled;
      some = λ e. cc;
      more = λ e. cc;
      section = (id ∷ [], h.begun ++ more, refl, refl, (h.begun ++ 0 ∷ [], zeros r.low, sym (append_assoc h.begun (0 ∷ []) (zeros r.low)), subst (λ n. SpellsU32 n (h.begun ++ 0 ∷ [])) (sym (zeros_length r.low)) number, refl));
    }

cut_contents : (last id more : ℕ) (b : List ℕ) → InContents last id (suc more) b → EndsInSection b
cut_contents last id more b h =
    let past = h.past in
    let rest : List ℕ = zeros (suc more) in
    let same : h.n ≡ length (h.contents ++ rest) = let r = h.room in omega (arith, r, length-append h.contents rest, zeros_length (suc more)) in
    record {
      sections = past.sections;
      front = h.front;
      begun = id ∷ (h.size ++ h.contents);
      missing = rest;
      last = record { id = id; contents = h.contents ++ rest };
      whole = h.whole;
      before = past.spelled;
      some = λ e. cc;
      more = zeros_some more;
      section = (id ∷ [], (h.size ++ h.contents) ++ rest, refl, refl, (h.size, h.contents ++ rest, append_assoc h.size h.contents rest, subst (λ n. SpellsU32 n h.size) same h.number, refl));
    }

-- a name ends with this event, and is not UTF-8
abbrev BadText : Event → List ℕ → Type 0
BadText e text = (kind : NameKind) × (e ≡ event.EndsName kind) × (is_utf8 text ≡ false)

module _ {H : Type 0} (after : H → Item → Result H Why) (p : Profile) (limit : ℕ) where
  -- why a byte was refused
  data Cause (l : Live H) (c : ℕ) (r : Refusal) : Type 0 where
    too_long : r.at ≡ limit + 1 → r.why ≡ why.TooLong → Cause l c r
    by_step : (step_of p l.machine c).0 ≡ machine.Refused r.why → IsText (step_of p l.machine c).1 (l.name ++ c ∷ []) → Cause l c r
    by_text : BadText (step_of p l.machine c).1 (l.name ++ c ∷ []) → r.why ≡ why.BadUtf8 → Cause l c r
    by_item : (x : Item) → after l.held x ≡ Err r.why → Cause l c r

  abbrev Effects : Type 0 → H → Why → Type 0
  Effects T h w = (T × (w ≡ why.BadUtf8)) ⊎ ((x : Item) × (after h x ≡ Err w))

  then_err : {B : Type 0} (r : Result H Why) (f : H → B) (w : Why) → and_then r (λ g. Ok (f g)) ≡ Err w → r ≡ Err w
  then_err (Ok x) f w e = absurd (cc)
  then_err (Err v) f w e = let same : v ≡ w = cc in ap Err same

  maybe_err : (T : Type 0) (x : Option Item) (h : H) (w : Why) → effect_of_maybe after x h ≡ Err w → Effects T h w
  maybe_err T None h w e = absurd (cc)
  maybe_err T (Some x) h w e = inr (x, e)

  name_err : (kind : NameKind) (text : List ℕ) (h : H) (w : Why) → name_taken after kind text h ≡ Err w → Effects (is_utf8 text ≡ false) h w
  name_err kind text h w = cond_both (is_utf8 text) _ _ (λ (r : Result H Why). r ≡ Err w → Effects (is_utf8 text ≡ false) h w)
      (λ _ e. maybe_err (is_utf8 text ≡ false) (name_item kind text) h w e)
      (λ no e. inl (no, (let same : why.BadUtf8 ≡ w = cc in sym same)))

  of_name : (kind : NameKind) (text : List ℕ) (h : H) (w : Why) → Effects (is_utf8 text ≡ false) h w → Effects (BadText (event.EndsName kind) text) h w
  of_name kind text h w (inl x) = inl ((kind, refl, x.0), x.1)
  of_name kind text h w (inr x) = inr x

  effect_err : (e : Event) (name : List ℕ) (c : ℕ) (h : H) (w : Why) → event_effect after e name c h ≡ Err w → Effects (BadText e (name ++ c ∷ [])) h w
  effect_err event.Nothing name c h w i = absurd (cc)
  effect_err (event.Complete q) name c h w i = inr (plain_item q, then_err (after h (plain_item q)) (λ g. ([], g)) w i)
  effect_err event.DataByte name c h w i = inr (data_byte c, then_err (after h (data_byte c)) (λ g. ([], g)) w i)
  effect_err event.InName name c h w i = absurd (cc)
  effect_err (event.EndsName kind) name c h w i = of_name kind (name ++ c ∷ []) h w (name_err kind (name ++ c ∷ []) h w (then_err (name_taken after kind (name ++ c ∷ []) h) (λ g. ([], g)) w i))
  effect_err (event.EmptyName kind) name c h w i = maybe_err (BadText (event.EmptyName kind) (name ++ c ∷ [])) (name_item kind []) h w (then_err (effect_of_maybe after (name_item kind []) h) (λ g. ([], g)) w i)

  -- what took an event took no name that is not UTF-8
  text_ok : (e : Event) (name : List ℕ) (c : ℕ) (h : H) (x : List ℕ × H) → event_effect after e name c h ≡ Ok x → IsText e (name ++ c ∷ [])
  text_ok (event.EndsName kind) name c h x =
      let text : List ℕ = name ++ c ∷ [] in
      cond_both (is_utf8 text) _ _ (λ (r : Result H Why). and_then r (λ g. Ok ([], g)) ≡ Ok x → is_utf8 text ≡ true) (λ yes e. yes) (λ no e. absurd (cc))
  text_ok event.Nothing name c h x = λ e. tt
  text_ok (event.Complete q) name c h x = λ e. tt
  text_ok event.DataByte name c h x = λ e. tt
  text_ok event.InName name c h x = λ e. tt
  text_ok (event.EmptyName kind) name c h x = λ e. tt

  stands_err : (m : Machine) (name : List ℕ) (h : H) (at : ℕ) (r : Refusal) → live_or_refused m name h at ≡ Err r → m ≡ machine.Refused r.why
  stands_err (machine.Refused w) name h at r e = let s : record { at = at; why = w } ≡ r = cc in ap (λ (y : Refusal). machine.Refused y.why) s
  stands_err m name h at r e = absurd (cc)

  from_err : (m : Machine) (at : ℕ) (q : Result (List ℕ × H) Why) (r : Refusal) → live_from m at q ≡ Err r → ((m ≡ machine.Refused r.why) × (x : List ℕ × H) × (q ≡ Ok x)) ⊎ (q ≡ Err r.why)
  from_err m at (Ok x) r e = inl (stands_err m x.0 x.1 at r e, x, refl)
  from_err m at (Err w) r e = let s : record { at = at; why = w } ≡ r = cc in inr (ap (λ (y : Refusal). Err y.why) s)

  cause : (l : Live H) (c : ℕ) (r : Refusal) → live_byte after p limit l c ≡ Err r → Cause l c r
  cause l c r = cond_both (nat_lt l.at limit) _ _ (λ (q : Result (Live H) Refusal). q ≡ Err r → Cause l c r)
      (λ _ e. elim (from_err (step_of p l.machine c).0 (l.at + 1) (event_effect after (step_of p l.machine c).1 l.name c l.held) r e) [
        | inl m ↦ by_step m.0 (text_ok (step_of p l.machine c).1 l.name c l.held m.1 m.2)
        | inr g ↦ elim (effect_err (step_of p l.machine c).1 l.name c l.held r.why g) [ inl b ↦ by_text b.0 b.1 | inr x ↦ by_item x.0 x.1 ]
      ])
      (λ _ e. let s : record { at = limit + 1; why = why.TooLong } ≡ r = cc in too_long (sym (ap (λ (y : Refusal). y.at) s)) (sym (ap (λ (y : Refusal). y.why) s)))

module _ {H : Type 0} (after : H → Item → Result H Why) (s : Setting H) (names : GivesRuleNames after s.first) where
  abbrev Starts : Live H
  Starts = live_at_start s.first

  abbrev Decoded : List ℕ → Result (Live H) Refusal
  Decoded b = decoder_after after s.profile s.limit Starts b

  framed : (b : List ℕ) (l : Live H) → AreBytes b → Decoded b ≡ Ok l → Framed l.machine b
  framed b l bytes e =
      let q = reached after s.profile s.limit b Starts l e in
      let f = run_framed s.profile state_at_start [] b bytes (omega arith, refl) in
      subst (λ (m : MachineState). Framed m.machine b) (sym q.state) f

  fits : (b : List ℕ) (l : Live H) → AreBytes b → Decoded b ≡ Ok l → Fits s.profile l.machine
  fits b l bytes e =
      let q = reached after s.profile s.limit b Starts l e in
      subst (λ (m : MachineState). Fits s.profile m.machine) (sym q.state) (run_fits s.profile state_at_start b bytes begin_fits)

  held_so : (b : List ℕ) (l : Live H) → Decoded b ≡ Ok l → (parts : List Item) × (all_taken after s.first parts ≡ Ok l.held)
  held_so b l e =
      let q = reached after s.profile s.limit b Starts l e in
      let said = marks s.profile (state_of after s.profile s.limit Starts) b in
      (items_at said, sym (given_taken after said s.first) ∙ q.held)

  -- whatever comes after these bytes
  pub on_byte : (b more : List ℕ) (r : Refusal) → AreBytes b → Decoded b ≡ Err r → MeaningOfFormat s.profile s.limit (b ++ more) r
  on_byte b more r bytes e =
      let low : Starts.at ≤ s.limit = omega arith in
      let u = used_of after s.profile s.limit b Starts r low e in
      let used : List ℕ = u.used ++ u.byte ∷ [] in
      let all : AreBytes used = front_bytes used u.rest (subst AreBytes u.bytes bytes) in
      let so_far : AreBytes u.used = front_bytes u.used (u.byte ∷ []) all in
      let q = reached after s.profile s.limit u.used Starts u.before u.taken in
      let place : r.at ≡ length used = omega (arith, u.at) in
      record {
        used = used;
        rest = u.rest ++ more;
        whole = ap (λ y. y ++ more) u.bytes ∙ append_assoc used u.rest more;
        at = place;
        means = go u so_far (last_is_byte u.used u.byte all) place q.state (q.live (λ i. i)) (fits u.used u.before so_far u.taken) (framed u.used u.before so_far u.taken) (held_so u.used u.before u.taken) (cause after s.profile s.limit u.before u.byte r u.refused);
      }
    where
      go : (u : Used after s.profile s.limit Starts b r) → AreBytes u.used → u.byte < 2 ^ 8 → r.at ≡ length (u.used ++ u.byte ∷ []) → state_of after s.profile s.limit u.before ≡ state_after s.profile state_at_start u.used
          → (IsRefused u.before.machine → ⊥) → Fits s.profile u.before.machine → Framed u.before.machine u.used → ((parts : List Item) × (all_taken after s.first parts ≡ Ok u.before.held)) → Cause after s.profile s.limit u.before u.byte r
          → MeansOfFormat s.profile s.limit (u.used ++ u.byte ∷ []) (u.rest ++ more) r.why
      go u bytes byte place same live fit f parts (too_long at w) = subst (λ y. MeansOfFormat s.profile s.limit (u.used ++ u.byte ∷ []) (u.rest ++ more) y) (sym w) (sym place ∙ at)
      go u bytes byte place same live fit f parts (by_text t w) =
          subst (λ y. MeansOfFormat s.profile s.limit (u.used ++ u.byte ∷ []) (u.rest ++ more) y) (sym w) (bad_name s.profile u.used bytes u.byte u.before.machine u.before.name t.0 (sym same) t.1 t.2)
      go u bytes byte place same live fit f parts (by_step m text) =
          by_machine s.profile s.limit u.used (u.rest ++ more) bytes u.byte r.why (step_says s.profile u.before.machine u.byte u.used byte live fit f r.why m)
          (byte_says s.profile u.used bytes u.byte byte u.before.machine (ap (λ (m : MachineState). m.machine) same) fit live r.why m)
          (λ w. other_size s.profile u.used bytes u.byte byte u.before.machine u.before.name same fit live f text (m ∙ ap machine.Refused w))
          (λ w. other_body_size s.profile u.used bytes u.byte byte u.before.machine u.before.name same fit live (m ∙ ap machine.Refused w))
          (λ w. wrong_number s.profile u.used bytes u.byte byte u.before.machine (ap (λ (m : MachineState). m.machine) same) live (m ∙ ap machine.Refused w))
      go u bytes byte place same live fit f parts (by_item x e) = by_rule s.profile s.limit (u.used ++ u.byte ∷ []) (u.rest ++ more) r.why (names parts.0 u.before.held x r.why parts.1 e)

  at_end : (m : Machine) (h : H) (at : ℕ) (b : List ℕ) (r : Refusal) → (IsRefused m → ⊥) → Fits s.profile m → Framed m b → answer_at_end_of m h at ≡ Err r → MeansOfFormat s.profile s.limit b [] r.why
  at_end m h at b r live fit f e = go m live fit f e
    where
      named : (w : Why) → record { at = at; why = w } ≡ r → MeansOfFormat s.profile s.limit b [] w → MeansOfFormat s.profile s.limit b [] r.why
      named w is x = subst (λ y. MeansOfFormat s.profile s.limit b [] y) (ap (λ (y : Refusal). y.why) is) x

      go : (m : Machine) → (IsRefused m → ⊥) → Fits s.profile m → Framed m b → answer_at_end_of m h at ≡ Err r → MeansOfFormat s.profile s.limit b [] r.why
      go (machine.Refused w) live fit f e = absurd (live tt)
      go (machine.Between last counts) live fit f e = between counts.functions counts.segments (λ some. no_code last counts b f.0 f.1 fit some b [] (inl (refl, refl))) (no_data last counts b f.0 f.1 fit) e
        where
          between : (n : ℕ) (g : Option ℕ) → (0 < n → NoCode b []) → ((m : ℕ) → g ≡ Some (suc m) → NoData b []) → answer_between n g h at ≡ Err r → MeansOfFormat s.profile s.limit b [] r.why
          between (suc n) g k j e = named why.CodeCount (cc (e)) (inr (k (omega arith)))
          between zero None k j e = absurd (cc)
          between zero (Some zero) k j e = absurd (cc)
          between zero (Some (suc m)) k j e = named why.DataCount (cc (e)) (inr (j m refl))
      go (machine.Header n) live fit f e =
          let long : length b ≡ n = ap length f.1 ∙ header_length n f.0 in
          named why.Truncated (cc (e)) (refl, inl ((let l = f.0 in omega (arith, l, long)), f.1 ∙ ap (λ i. take i header) (sym long)))
      go (machine.CustomSize last counts r) live fit f e = named why.Truncated (cc (e)) (refl, inr (cut_size last 0 r b fit.0 f.0))
      go (machine.Custom last counts more q) live fit f e = named why.Truncated (cc (e)) (refl, inr (cut_contents last 0 more b f.0))
      go (machine.Size of counts r) live fit f e = named why.Truncated (cc (e)) (refl, inr (cut_size f.0 (id_of of) r b fit.0 f.2))
      go (machine.Count of counts more r) live fit f e = named why.Truncated (cc (e)) (refl, inr (cut_contents f.0 (id_of of) more b f.2))
      go (machine.Section of counts more left q) live fit f e = named why.Truncated (cc (e)) (refl, inr (cut_contents f.0 (id_of of) more b f.2))

  ended_at : (m : Machine) (h : H) (at : ℕ) (r : Refusal) → answer_at_end_of m h at ≡ Err r → r.at ≡ at
  ended_at m h at r e = go m e
    where
      its : (w : Why) → record { at = at; why = w } ≡ r → r.at ≡ at
      its w is = sym (ap (λ (y : Refusal). y.at) is)

      go : (m : Machine) → answer_at_end_of m h at ≡ Err r → r.at ≡ at
      go (machine.Between last counts) e = between counts.functions counts.segments e
        where
          between : (n : ℕ) (g : Option ℕ) → answer_between n g h at ≡ Err r → r.at ≡ at
          between (suc n) g e = its why.CodeCount (cc (e))
          between zero None e = absurd (cc)
          between zero (Some zero) e = absurd (cc)
          between zero (Some (suc m)) e = its why.DataCount (cc (e))
      go (machine.Refused w) e = its w (cc (e))
      go m e = its why.Truncated (cc (e))

  -- the answer to a whole input
  pub whole_input : (input : List ℕ) (r : Refusal) → AreBytes input → answer_of after s input ≡ Err r → MeaningOfFormat s.profile s.limit input r
  whole_input input r bytes e = go (Decoded input) refl e
    where
      go : (x : Result (Live H) Refusal) → Decoded input ≡ x → and_then x answer_at_end ≡ Err r → MeaningOfFormat s.profile s.limit input r
      go (Err t) is e = let same : t ≡ r = cc (e) in subst (λ y. MeaningOfFormat s.profile s.limit y r) (append-nil input) (on_byte input [] r bytes (is ∙ ap Err same))
      go (Ok l) is e =
          let q = reached after s.profile s.limit input Starts l is in
          record {
            used = input;
            rest = [];
            whole = sym (append-nil input);
            at = (let a = ended_at l.machine l.held l.at r e in omega (arith, a, q.at));
            means = at_end l.machine l.held l.at input r (q.live (λ i. i)) (fits input l bytes is) (framed input l bytes is) e;
          }
