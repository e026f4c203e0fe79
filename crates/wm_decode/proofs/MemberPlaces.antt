-- The members of a section that come before a byte.
use Rattle.std.proofs.Common.{◌≡◌, ◌≢◌, ◌<◌, ◌≤◌, ◌-◌, ◌^◌, ◌⊎◌, inl, inr, ℕ, zero, suc, List, [], ◌∷◌, ◌++◌, Option, Some, None, Ok, true, false, refl, sym, ◌∙◌, ap, subst, arith, append_assoc, append-nil, cond, length, nat_eq, nat_lt, nat_le}
use Rattle.std.proofs.lemmas.Bool.{cond_both}
use Rattle.std.specs.Prelude.{slice_index}
use Rattle.std.specs.Str.{is_utf8}
use Rattle.wm_syntax.specs.Spelling.{AreBytes}
use Rattle.wm_syntax.specs.Types.{SpellsU32}
use Rattle.wm_syntax.specs.declared.profile.Profile.{Profile}
use Rattle.wm_syntax.specs.declared.numbers.Step.{Step}
use Rattle.wm_syntax.specs.declared.numbers.Step.TheVariants.{More, Done, Bad}
use Rattle.wm_syntax.specs.declared.why.Why.TheVariants as why
use Rattle.wm_syntax.specs.inner.Numbers.{Partial}
use Rattle.wm_syntax.specs.exact.Reading.{fresh, unsigned_push}
use Rattle.wm_machine.specs.declared.machine.Counts.{Counts}
use Rattle.wm_machine.specs.declared.machine.InCustom.{InCustom}
use Rattle.wm_machine.specs.declared.machine.InCustom.TheVariants as custom
use Rattle.wm_machine.specs.declared.machine.Machine.{Machine}
use Rattle.wm_machine.specs.declared.machine.Machine.TheVariants as machine
use Rattle.wm_machine.specs.declared.machine.Event.{Event}
use Rattle.wm_machine.specs.declared.machine.Event.TheVariants as event
use Rattle.wm_machine.specs.declared.machine.member.SectionKind.{SectionKind}
use Rattle.wm_machine.specs.declared.machine.member.SectionKind.TheVariants as section_kind
use Rattle.wm_machine.specs.declared.machine.member.InMember.{InMember}
use Rattle.wm_machine.specs.declared.machine.member.InMember.TheVariants as at
use Rattle.wm_machine.specs.Grammar.{strict}
use Rattle.wm_machine.specs.Items.{Mark, Marks, Zone, outside}
use Rattle.wm_machine.specs.MarkedForms.{MarkedForm, Times, outside_mark}
use Rattle.wm_machine.specs.Sections.{header}
use Rattle.wm_machine.specs.exact.Live.{IsRefused}
use Rattle.wm_machine.specs.exact.Members.{id_of, rank_of, section_kind_of, member_at_start}
use Rattle.wm_machine.specs.exact.MemberSteps.{on_number, member_step}
use Rattle.wm_machine.specs.exact.Runs.{ByteRead, MachineState, byte_read, name_item, after_byte, state_after, state_at_start, zone_in, zone_of}
use Rattle.wm_machine.specs.exact.Steps.{after_count, after_size, begun_last, begun_section, count_event, counts_in, is_given, custom_size, custom_step, header_step, machine_after_count, machine_after_paired_count, machine_if_rising, machine_in_custom, machine_in_member, section_start, step_of}
use Rattle.wm_machine.proofs.FirstBytes.{Next}
use Rattle.wm_machine.proofs.FramedBytes.{Framed, InContents, Numbers, Sizes, at_size, numbers, one_byte, run_framed}
use Rattle.wm_machine.proofs.MachineAndSink.{refused_run}
use Rattle.wm_machine.proofs.MachineStates.{Fits, byte_fits, rank_few, rank_some}
use Rattle.wm_machine.proofs.MemberBytes.{ComponentRest, OneOf, component_follows, component_has}
use Rattle.wm_machine.proofs.MemberSound.{CanGo, MayGo, can_go_on}
use Rattle.wm_machine.proofs.WholeMachine.{begin_at, one_has}
use Rattle.wm_decode.specs.InSections.{LiesInMember, SaysMembers}
use Rattle.wm_decode.specs.declared.place.Place.{Place}
use Rattle.wm_decode.specs.declared.place.awaits.Awaits.{Awaits}
use Rattle.wm_decode.specs.exact.Awaited.{awaits_in_member, in_no_member, machine_from, place_in}
use Rattle.wm_decode.specs.inner.Places.{GoesOn, place_after}

-- one more in a row
times_more : (n : ℕ) (P : MarkedForm) (a b : List ℕ) (j k : Marks) → Times n P a j → P b k → Times (suc n) P (a ++ b) (j ++ k)
times_more zero P a b j k h o = record {
  front = b;
  back = [];
  front_marks = k;
  back_marks = [];
  bytes = ap (λ z. z ++ b) h.0 ∙ sym (append-nil b);
  marks = ap (λ z. z ++ k) h.1 ∙ sym (append-nil k);
  first = o;
  second = (refl, refl);
}
times_more (suc n) P a b j k h o = record {
  front = h.front;
  back = h.back ++ b;
  front_marks = h.front_marks;
  back_marks = h.back_marks ++ k;
  bytes = ap (λ z. z ++ b) h.bytes ∙ append_assoc h.front h.back b;
  marks = ap (λ z. z ++ k) h.marks ∙ append_assoc h.front_marks h.back_marks k;
  first = h.first;
  second = times_more n P h.back b h.back_marks k h.second o;
}

-- a front of bytes and one more is a front of the bytes, or all
snoc_front : (y : List ℕ) (c : ℕ) (a b : List ℕ) → y ++ c ∷ [] ≡ a ++ b → (b ≡ []) ⊎ ((d : List ℕ) × (y ≡ a ++ d))
snoc_front y c [] b e = inr (y, refl)
snoc_front [] c (d ∷ []) b e = inl (cc)
snoc_front [] c (d ∷ f ∷ a) b e = cc
snoc_front (x ∷ y) c (d ∷ a) b e =
    let same : x ≡ d = cc in
    let rest : y ++ c ∷ [] ≡ a ++ b = cc in
    elim (snoc_front y c a b rest) [ inl i ↦ inl i | inr r ↦ inr (r.0, let i = r.1 in cc) ]

-- the count of a list of members
abbrev IsListed : SectionKind → Type 0
IsListed section_kind.Start = ⊥
IsListed of = Unit {0}

says_number : (of : SectionKind) → IsListed of → (n : ℕ) (b : List ℕ) → SpellsU32 n b → SaysMembers (id_of of) n b
says_number section_kind.Start listed n b h = absurd listed
says_number of listed n b h = h

-- the data count section has no members
abbrev HasMembers : SectionKind → Type 0
HasMembers section_kind.DataCount = ⊥
HasMembers of = Unit {0}

not_ten : (of : SectionKind) → HasMembers of → rank_of of ≢ 10
not_ten section_kind.DataCount has e = has
not_ten section_kind.Type has e = omega (arith, e)
not_ten section_kind.Import has e = omega (arith, e)
not_ten section_kind.Function has e = omega (arith, e)
not_ten section_kind.Table has e = omega (arith, e)
not_ten section_kind.Memory has e = omega (arith, e)
not_ten section_kind.Global has e = omega (arith, e)
not_ten section_kind.Export has e = omega (arith, e)
not_ten section_kind.Start has e = omega (arith, e)
not_ten section_kind.Element has e = omega (arith, e)
not_ten section_kind.Code has e = omega (arith, e)
not_ten section_kind.Segment has e = omega (arith, e)

members_in : (of : SectionKind) (counts : Counts) (n : ℕ) → HasMembers of → (counts_in of counts n).members ≡ n
members_in section_kind.Function counts n h = refl
members_in section_kind.DataCount counts n h = absurd h
members_in section_kind.Code counts n h = refl
members_in section_kind.Segment counts n h = refl
members_in of counts n h = refl

module _ (p : Profile) where
  abbrev One : SectionKind → MarkedForm
  One = OneOf strict p

  abbrev Rest : InMember → List ℕ → MarkedForm
  Rest = ComponentRest strict p

  -- the bytes so far of a member, and what may still come of it
  record Part (of : SectionKind) (q : InMember) (y begun : List ℕ) : Type 0 where
    to : (x : List ℕ) (k : Marks) → One of (begun ++ x) k → (l : Marks) × Rest q y x l
    from : (x : List ℕ) (k : Marks) → Rest q y x k → (l : Marks) × One of (begun ++ x) l

  part_begins : (of : SectionKind) (y : List ℕ) → Part of (member_at_start of) y []
  part_begins of y = record { to = λ x k o. (k, (begin_at strict p of y).to tt x k o); from = λ x k o. (k, (begin_at strict p of y).from x k o) }

  part_more : (of : SectionKind) (q r : InMember) (y z begun : List ℕ) (c : ℕ) (m : Mark) → Next strict (Rest q y) c m (Rest r z) → Part of q y begun → Part of r z (begun ++ c ∷ [])
  part_more of q r y z begun c m n h = record {
    to = λ x k o.
        let g = h.to (c ∷ x) k (subst (λ b. One of b k) (append_assoc begun (c ∷ []) x) o) in
        let t = n.to tt x g.0 g.1 in
        (t.0, t.2);
    from = λ x k o.
        let g = h.from (c ∷ x) (m ∷ k) (n.from x (m ∷ k) (k, refl, o)) in
        (g.0, subst (λ b. One of b g.0) (sym (append_assoc begun (c ∷ []) x)) g.1);
  }

  -- no front of these bytes is a member
  abbrev Unfinished : SectionKind → List ℕ → Type 0
  Unfinished of begun = (a b : List ℕ) (m : Marks) → begun ≡ a ++ b → One of a m → ⊥

  none_finished : (of : SectionKind) → Unfinished of []
  none_finished of [] b m e o = one_has strict p of tt m o
  none_finished of (d ∷ a) b m e o = cc

  more_unfinished : (of : SectionKind) (n : ℕ) (q : InMember) (y begun : List ℕ) (c : ℕ) → CanGo p n q → Part of q y (begun ++ c ∷ []) → Unfinished of begun → Unfinished of (begun ++ c ∷ [])
  more_unfinished of n q y begun c go part h a b m e o = elim (snoc_front begun c a b e) [
    | inl i ↦
        let whole : a ≡ (begun ++ c ∷ []) ++ [] = sym (append-nil a) ∙ (ap (λ z. a ++ z) (sym i) ∙ (sym e ∙ sym (append-nil (begun ++ c ∷ [])))) in
        let l = part.to [] m (subst (λ z. One of z m) whole o) in
        component_has strict p n q y go tt l.0 l.1
    | inr r ↦ h a r.0 m r.1 o
  ]

  -- whole members, and then the beginning of one
  record Standing (of : SectionKind) (counts : Counts) (left : ℕ) (q : InMember) (y contents : List ℕ) : Type 0 where
    number : List ℕ
    members : List ℕ
    begun : List ℕ
    marks : Marks
    whole : contents ≡ number ++ (members ++ begun)
    numbered : SaysMembers (id_of of) counts.members number
    further : left < counts.members
    each : Times (counts.members - left - 1) (One of) members marks
    part : Part of q y begun
    unfinished : Unfinished of begun

  abbrev Stands : Machine → List ℕ → List ℕ → Type 0
  Stands (machine.Section of counts more left q) y b = HasMembers of × (last : ℕ) × (h : InContents last (id_of of) (suc more) b) × Standing of counts left q y h.contents
  Stands (machine.Count of counts more r) y b = IsListed of
  Stands m y b = Unit {0}

  -- the first member begins
  begins : (last : ℕ) (of : SectionKind) (counts : Counts) (more left : ℕ) (q : InMember) (y b : List ℕ) → HasMembers of → (h : InContents last (id_of of) more b) → Standing of counts left q y h.contents → Stands (machine_in_member of counts more left q) y b
  begins last of counts more left (at.Failed w) y b has h s = tt
  begins last of counts zero zero at.Over y b has h s = tt
  begins last of counts (suc n) zero at.Over y b has h s = tt
  begins last of counts zero (suc l) at.Over y b has h s = tt
  begins last of counts (suc n) (suc l) at.Over y b has h s =
      let o = s.part.from [] [] (refl, refl) in
      absurd (s.unfinished s.begun [] o.0 (sym (append-nil s.begun)) (subst (λ z. One of z o.0) (append-nil s.begun) o.1))
  begins last of counts zero left q y b has h s = tt
  begins last of counts (suc n) left q y b has h s = (has, last, h, s)

  -- a byte of a member, which may be its last
  record Reached (of : SectionKind) (counts : Counts) (left : ℕ) (q : InMember) (y : List ℕ) (c : ℕ) (contents : List ℕ) : Type 0 where
    number : List ℕ
    members : List ℕ
    begun : List ℕ
    marks : Marks
    whole : contents ≡ number ++ (members ++ (begun ++ c ∷ []))
    numbered : SaysMembers (id_of of) counts.members number
    further : left < counts.members
    each : Times (counts.members - left - 1) (One of) members marks
    part : Part of q y (begun ++ c ∷ [])
    unfinished : Unfinished of begun

  placed : (last : ℕ) (of : SectionKind) (counts : Counts) (more left : ℕ) (q : InMember) (y : List ℕ) (c : ℕ) (b : List ℕ) → HasMembers of → MayGo p more q → (h : InContents last (id_of of) more b) → Reached of counts left q y c h.contents
      → Stands (machine_in_member of counts more left q) y b
  placed last of counts more left (at.Failed w) y c b has go h r = tt
  placed last of counts zero zero at.Over y c b has go h r = tt
  placed last of counts (suc n) zero at.Over y c b has go h r = tt
  placed last of counts zero (suc l) at.Over y c b has go h r = tt
  placed last of counts (suc n) (suc l) at.Over y c b has go h r =
      let one : List ℕ = r.begun ++ c ∷ [] in
      let o = r.part.from [] [] (refl, refl) in
      let next : suc (counts.members - suc l - 1) ≡ counts.members - l - 1 = let f = r.further in omega (arith, f) in (
        has,
        last,
        h,
        record {
          number = r.number;
          members = r.members ++ one;
          begun = [];
          marks = r.marks ++ o.0;
          whole = r.whole ∙ ap (λ z. r.number ++ z) (sym (append-nil (r.members ++ one)));
          numbered = r.numbered;
          further = let f = r.further in omega (arith, f);
          each = subst (λ k. Times k (One of) (r.members ++ one) (r.marks ++ o.0)) next
              (times_more (counts.members - suc l - 1) (One of) r.members one r.marks o.0 r.each (subst (λ z. One of z o.0) (append-nil one) o.1));
          part = part_begins of y;
          unfinished = none_finished of;
        },
      )
  placed last of counts zero left q y c b has go h r = tt
  placed last of counts (suc n) left q y c b has go h r = (
    has,
    last,
    h,
    record {
      number = r.number;
      members = r.members;
      begun = r.begun ++ c ∷ [];
      marks = r.marks;
      whole = r.whole;
      numbered = r.numbered;
      further = r.further;
      each = r.each;
      part = r.part;
      unfinished = more_unfinished of (suc n) q y r.begun c go r.part r.unfinished;
    },
  )

  abbrev StandsAt : ByteRead Machine → List ℕ → Type 0
  StandsAt r b = Stands r.at r.name b

  abbrev Heard : Zone → List ℕ → ℕ → List ℕ → Machine × Event → Type 0
  Heard zone y c b q = StandsAt (byte_read machine.Refused zone y c q) b

  -- whatever the byte completes
  heard : (zone : Zone) (y : List ℕ) (c : ℕ) (b : List ℕ) (m : Machine) (e : Event) → ((z : List ℕ) → Stands m z b) → Heard zone y c b (m, e)
  heard zone y c b m event.Nothing h = h []
  heard zone y c b m (event.Complete x) h = h []
  heard zone y c b m event.DataByte h = h []
  heard zone y c b m event.InName h = h (y ++ c ∷ [])
  heard zone y c b m (event.EmptyName kind) h = h []
  heard zone y c b m (event.EndsName kind) h = cond_both (is_utf8 (y ++ c ∷ [])) _ _ (λ (r : ByteRead Machine). Stands r.at r.name b) (λ _. h []) (λ _. tt)

  -- in a section
  module _ (of : SectionKind) (counts : Counts) (more left : ℕ) (q : InMember) (y : List ℕ) (c : ℕ) (b : List ℕ) (has : HasMembers of) (last : ℕ) (h : InContents last (id_of of) (suc more) b) (s : Standing of counts left q y h.contents) where
    abbrev Follows : ByteRead InMember → Type 0
    Follows r = Next strict (Rest q y) c r.mark (Rest r.at r.name)

    goes : (r : InMember) (z : List ℕ) (m : Mark) → MayGo p more r → Next strict (Rest q y) c m (Rest r z) → Stands (machine_in_member of counts more left r) z (b ++ c ∷ [])
    unfolding one_byte
    goes r z m go n = placed last of counts more left r z c (b ++ c ∷ []) has go (one_byte last (id_of of) more b c h) (record {
      number = s.number;
      members = s.members;
      begun = s.begun;
      marks = s.marks;
      whole =
          ap (λ x. x ++ c ∷ []) s.whole
          ∙ (append_assoc s.number (s.members ++ s.begun) (c ∷ [])
          ∙ ap (λ x. s.number ++ x) (append_assoc s.members s.begun (c ∷ [])));
      numbered = s.numbered;
      further = s.further;
      each = s.each;
      part = part_more of q r y z s.begun c m n s.part;
      unfinished = s.unfinished;
    })

    by_event : (zone : Zone) (r : InMember) (e : Event) → MayGo p more r → Follows (byte_read at.Failed zone y c (r, e)) → Heard zone y c (b ++ c ∷ []) (machine_in_member of counts more left r, e)
    by_event zone r event.Nothing go n = goes r [] _ go n
    by_event zone r (event.Complete x) go n = goes r [] _ go n
    by_event zone r event.DataByte go n = goes r [] _ go n
    by_event zone r event.InName go n = goes r (y ++ c ∷ []) _ go n
    by_event zone r (event.EmptyName kind) go n = goes r [] _ go n
    by_event zone r (event.EndsName kind) go n =
        let text : List ℕ = y ++ c ∷ [] in
        let d : List ℕ = b ++ c ∷ [] in
        let k : Machine = machine_in_member of counts more left r in
        (elim (is_utf8 text) as (λ v.
        Follows (cond v (record { at = r; name = []; mark = outside_mark (name_item kind text) }) (record { at = at.Failed why.BadUtf8; name = []; mark = outside_mark None }))
        → StandsAt (cond v (record { at = k; name = []; mark = outside_mark (name_item kind text) }) (record { at = machine.Refused why.BadUtf8; name = []; mark = outside_mark None })) d) [
          | true ↦ λ n. goes r [] _ go n
          | false ↦ λ n. tt
        ]) n

  -- in a custom section
  custom_none : (last : ℕ) (counts : Counts) (more : ℕ) (q : InCustom) (y b : List ℕ) → Stands (machine_in_custom last counts more q) y b
  custom_none last counts more (custom.Failed w) y b = tt
  custom_none last counts zero custom.Skip y b = tt
  custom_none last counts zero (custom.Length r) y b = tt
  custom_none last counts zero (custom.Name n) y b = tt
  custom_none last counts (suc m) custom.Skip y b = tt
  custom_none last counts (suc m) (custom.Length r) y b = tt
  custom_none last counts (suc m) (custom.Name n) y b = tt

  -- in the header
  header_none : (n c : ℕ) (y b : List ℕ) → Heard outside y c b (header_step n c)
  header_none n c y b =
      let P : Machine × Event → Type 0 = Heard outside y c b in
      cond_both (nat_lt n 8) _ _ P
      (λ _. cond_both (nat_eq c (slice_index header n)) _ _ P
      (λ _. cond_both (nat_lt n 7) _ _ P (λ _. tt) (λ _. tt))
      (λ _. cond_both (nat_lt n 4) _ _ P (λ _. tt) (λ _. tt)))
      (λ _. tt)

  -- at an id
  begun_none : (of : SectionKind) (counts : Counts) (y : List ℕ) (c : ℕ) (b : List ℕ) → Heard outside y c b (begun_section of counts)
  begun_none section_kind.Segment counts y c b = at_last counts.functions
    where
      at_last : (n : ℕ) → Heard outside y c b (begun_last n counts)
      at_last zero = tt
      at_last (suc n) = tt
  begun_none of counts y c b = tt

  rising_none : (last : ℕ) (counts : Counts) (q : Option SectionKind) (y : List ℕ) (c : ℕ) (b : List ℕ) → Heard outside y c b (machine_if_rising last counts q)
  rising_none last counts None y c b = tt
  rising_none last counts (Some of) y c b = cond_both (nat_le (rank_of of) last) _ _ (Heard outside y c b) (λ _. tt) (λ _. begun_none of counts y c b)

  start_none : (last : ℕ) (counts : Counts) (c : ℕ) (y b : List ℕ) → Heard outside y c b (section_start p last counts c)
  start_none last counts zero y b = tt
  start_none last counts (suc m) y b = rising_none last counts (section_kind_of p (suc m)) y (suc m) b

  -- at a size
  custom_size_none : (last : ℕ) (counts : Counts) (q : Step ℕ × Partial) (y : List ℕ) (c : ℕ) (b : List ℕ)
      → Heard outside y c b (on_number q (λ s. machine.CustomSize last counts s) (λ n. (custom_size last counts n, event.Nothing)) machine.Refused)
  custom_size_none last counts (More, r) y c b = tt
  custom_size_none last counts (Done n, r) y c b = custom_none last counts n (custom.Length fresh) [] b
  custom_size_none last counts (Bad, r) y c b = tt

  after_none : (last : ℕ) (of : SectionKind) (counts : Counts) (n : ℕ) (b : List ℕ) → (h : InContents last (id_of of) n b) → h.contents ≡ [] → Stands (after_size of counts n) [] b
  after_none last of counts zero b h e = tt
  after_none last section_kind.Start counts (suc n) b h e = (
    tt,
    last,
    h,
    record {
      number = [];
      members = [];
      begun = [];
      marks = [];
      whole = e;
      numbered = (refl, refl);
      further = omega arith;
      each = (refl, refl);
      part = part_begins section_kind.Start [];
      unfinished = none_finished section_kind.Start;
    },
  )
  after_none last of counts (suc n) b h e = tt

  size_none : (last : ℕ) (of : SectionKind) (counts : Counts) (q : Step ℕ × Partial) (y : List ℕ) (c : ℕ) (b : List ℕ) → Sizes last counts (id_of of) b q
      → Heard outside y c b (on_number q (λ s. machine.Size of counts s) (λ n. (after_size of counts n, event.Nothing)) machine.Refused)
  size_none last of counts (More, r) y c b h = tt
  size_none last of counts (Done n, r) y c b h = after_none last of counts n b h.0 h.2
  size_none last of counts (Bad, r) y c b h = tt

  -- at the number of the members
  over_none : (of : SectionKind) (counts : Counts) (bytes : ℕ) (y b : List ℕ) → Stands (machine_in_member of counts bytes zero at.Over) y b
  over_none of counts zero y b = tt
  over_none of counts (suc n) y b = tt

  listed_stands : (last : ℕ) (of : SectionKind) (counts : Counts) (bytes n : ℕ) (b : List ℕ) → IsListed of → HasMembers of → counts.members ≡ n → (h : InContents last (id_of of) bytes b) → SpellsU32 n h.contents
      → Stands (machine_after_count of counts bytes n) [] b
  listed_stands last of counts bytes zero b listed has e h u = over_none of counts bytes [] b
  listed_stands last of counts bytes (suc n) b listed has e h u =
      let none : 0 ≡ counts.members - n - 1 = omega (arith, e) in
      begins last of counts bytes n (member_at_start of) [] b has h (record {
        number = h.contents;
        members = [];
        begun = [];
        marks = [];
        whole = sym (append-nil h.contents);
        numbered = says_number of listed counts.members h.contents (subst (λ k. SpellsU32 k h.contents) (sym e) u);
        further = omega (arith, e);
        each = subst (λ k. Times k (One of) [] []) none (refl, refl);
        part = part_begins of [];
        unfinished = none_finished of;
      })

  paired_stands : (last : ℕ) (of : SectionKind) (counts : Counts) (bytes n : ℕ) (b : List ℕ) → IsListed of → (h : InContents last (id_of of) bytes b) → SpellsU32 n h.contents
      → Stands (machine_after_paired_count of counts bytes n) [] b
  paired_stands last section_kind.Code counts bytes n b listed h u =
      cond_both (nat_eq n counts.functions) _ _ (λ (m : Machine). Stands m [] b)
      (λ _. listed_stands last section_kind.Code (counts_in section_kind.Code counts n) bytes n b listed tt refl h u) (λ _. tt)
  paired_stands last section_kind.DataCount counts bytes n b listed h u = over_none section_kind.DataCount (counts_in section_kind.DataCount counts n) bytes [] b
  paired_stands last section_kind.Segment counts bytes n b listed h u =
      cond_both (is_given counts.segments n) _ _ (λ (m : Machine). Stands m [] b)
      (λ _. listed_stands last section_kind.Segment (counts_in section_kind.Segment counts n) bytes n b listed tt refl h u) (λ _. tt)
  paired_stands last of counts bytes n b listed h u = listed_stands last of (counts_in of counts n) bytes n b listed tt (members_in of counts n tt) h u

  -- whether the number completes an item or not
  count_heard : (of : SectionKind) (n : ℕ) (m : Machine) (y : List ℕ) (c : ℕ) (b : List ℕ) → Stands m [] b → Heard outside y c b (m, count_event of n)
  count_heard section_kind.DataCount n m y c b h = h
  count_heard of n m y c b h = h

  count_stands : (last : ℕ) (of : SectionKind) (counts : Counts) (more : ℕ) (q : Step ℕ × Partial) (y : List ℕ) (c : ℕ) (b : List ℕ) → IsListed of → (h : InContents last (id_of of) more b) → Numbers h.contents q
      → Heard outside y c b (after_count of counts more q)
  count_stands last of counts zero (More, r) y c b listed h u = tt
  count_stands last of counts (suc n) (More, r) y c b listed h u = listed
  count_stands last of counts more (Done n, r) y c b listed h u = count_heard of n (machine_after_paired_count of counts more n) y c b (paired_stands last of counts more n b listed h u)
  count_stands last of counts more (Bad, r) y c b listed h u = tt

  -- each byte
  step_stands : (m : Machine) (y b : List ℕ) (c : ℕ) → c < 2 ^ 8 → Fits p m → Framed m b → Stands m y b → Heard (zone_of m) y c (b ++ c ∷ []) (step_of p m c)
  unfolding one_byte
  step_stands (machine.Header n) y b c byte fits f s = header_none n c y (b ++ c ∷ [])
  step_stands (machine.Between last counts) y b c byte fits f s = start_none last counts c y (b ++ c ∷ [])
  step_stands (machine.CustomSize last counts r) y b c byte fits f s = custom_size_none last counts (unsigned_push 32 r c) y c (b ++ c ∷ [])
  step_stands (machine.Custom last counts more q) y b c byte fits f s =
      heard outside y c (b ++ c ∷ []) (machine_in_custom last counts more (custom_step q c).0) (custom_step q c).1 (λ z. custom_none last counts more (custom_step q c).0 z (b ++ c ∷ []))
  step_stands (machine.Size of counts r) y b c byte fits f s = size_none f.0 of counts (unsigned_push 32 r c) y c (b ++ c ∷ []) (at_size f.0 counts (id_of of) r b c byte f.2 f.3)
  step_stands (machine.Count of counts more r) y b c byte fits f s =
      count_stands f.0 of counts more (unsigned_push 32 r c) y c (b ++ c ∷ []) s (one_byte f.0 (id_of of) more b c f.2) (numbers r f.2.contents c byte f.4)
  step_stands (machine.Section of counts more left q) y b c byte fits f s =
      by_event of counts more left q y c b s.0 s.1 s.2 s.3 (zone_in q) (member_step p q c).0 (member_step p q c).1 (can_go_on p more q c byte fits.2) (component_follows strict p more q y c fits.2 byte)
  step_stands (machine.Refused w) y b c byte fits f s = tt

  run_stands : (s : MachineState) (before b : List ℕ) → AreBytes b → Fits p s.machine → Framed s.machine before → Stands s.machine s.name before → Stands (state_after p s b).machine (state_after p s b).name (before ++ b)
  run_stands s before [] a fits f h = subst (λ z. Stands s.machine s.name z) (sym (append-nil before)) h
  run_stands s before (c ∷ b) a fits f h =
      let t : MachineState = state_after p (after_byte p s c) b in
      subst (λ z. Stands t.machine t.name z) (append_assoc before (c ∷ []) b)
      (run_stands (after_byte p s c) (before ++ c ∷ []) b a.1 (byte_fits p s c a.0 fits) (run_framed p s before (c ∷ []) (a.0, tt) f) (step_stands s.machine s.name before c a.0 fits f h))

  -- the machine, if the format refuses nothing
  heard_or : (zone : Zone) (y : List ℕ) (c : ℕ) (m : Machine) (e : Event) → ((byte_read machine.Refused zone y c (m, e)).at ≡ m) ⊎ ((byte_read machine.Refused zone y c (m, e)).at ≡ machine.Refused why.BadUtf8)
  heard_or zone y c m event.Nothing = inl refl
  heard_or zone y c m (event.Complete x) = inl refl
  heard_or zone y c m event.DataByte = inl refl
  heard_or zone y c m event.InName = inl refl
  heard_or zone y c m (event.EndsName kind) = cond_both (is_utf8 (y ++ c ∷ [])) _ _ (λ (z : ByteRead Machine). (z.at ≡ m) ⊎ (z.at ≡ machine.Refused why.BadUtf8)) (λ _. inl refl) (λ _. inr refl)
  heard_or zone y c m (event.EmptyName kind) = inl refl

  same_machine : (s : MachineState) (b : List ℕ) → (IsRefused (state_after p s b).machine → ⊥) → (state_after p s b).machine ≡ machine_from p s.machine b
  same_machine s [] live = refl
  same_machine s (c ∷ b) live = elim (heard_or (zone_of s.machine) s.name c (step_of p s.machine c).0 (step_of p s.machine c).1) [
    | inl i ↦ same_machine (after_byte p s c) b live ∙ ap (λ m. machine_from p m b) i
    | inr r ↦ absurd (live (refused_run {H = Unit {0}} (λ h x. Ok h) p 0 b (after_byte p s c) (subst IsRefused (sym r) tt)))
  ]

  -- the member that a place names
  no_item : (id : ℕ) (a : Awaits) (place : Place) (k : ℕ) → Some (in_no_member id a) ≡ Some place → place.item ≡ Some k → ⊥
  no_item id a place k e i =
      let is : in_no_member id a ≡ place = cc in
      let none : None ≡ Some k = ap (λ (x : Place). x.item) is ∙ i in
      cc

  found : (m : Machine) (y b : List ℕ) (place : Place) (k : ℕ) → Stands m y b → place_in m ≡ Some place → place.item ≡ Some k → LiesInMember p place.section k b
  found (machine.Header n) y b place k s e i = absurd (cc)
  found (machine.Between last counts) y b place k s e i = absurd (cc)
  found (machine.CustomSize last counts r) y b place k s e i = absurd (no_item 0 _ place k e i)
  found (machine.Custom last counts more q) y b place k s e i = absurd (no_item 0 _ place k e i)
  found (machine.Size of counts r) y b place k s e i = absurd (no_item (id_of of) _ place k e i)
  found (machine.Count of counts more r) y b place k s e i = absurd (no_item (id_of of) _ place k e i)
  found (machine.Section section_kind.DataCount counts more left q) y b place k s e i = absurd s.0
  found (machine.Section of counts more left q) y b place k s e i = subst (λ n. LiesInMember p n k b) section (subst (λ n. LiesInMember p (id_of of) n b) index here)
    where
      section : id_of of ≡ place.section
      section = section_same (cc (e))
        where
          section_same : record { section = id_of of; item = Some (counts.members - left - 1); awaits = awaits_in_member q } ≡ place → id_of of ≡ place.section
          section_same is = ap (λ (x : Place). x.section) is

      index : counts.members - left - 1 ≡ k
      index =
          let is : record { section = id_of of; item = Some (counts.members - left - 1); awaits = awaits_in_member q } ≡ place = cc in
          let same : Some (counts.members - left - 1) ≡ Some k = ap (λ (x : Place). x.item) is ∙ i in
          cc

      here : LiesInMember p (id_of of) (counts.members - left - 1) b
      here =
          let h = s.2 in let r = s.3 in
          record {
            rank = rank_of of;
            sections = h.past.sections;
            front = h.front;
            size = h.size;
            bytes_of_section = h.n;
            number = r.number;
            n = counts.members;
            members = r.members;
            marks = r.marks;
            begun = r.begun;
            whole = h.whole ∙ ap (λ z. h.front ++ id_of of ∷ (h.size ++ z)) r.whole;
            before = h.past.spelled;
            named = refl;
            listed = (rank_some of, rank_few of, not_ten of s.0);
            sized = h.number;
            inside = let room = h.room in omega (arith, room, ap length r.whole);
            numbered = r.numbered;
            further = let f = r.further in omega (arith, f);
            each = r.each;
            unfinished = r.unfinished;
          }
  found (machine.Refused w) y b place k s e i = absurd (cc)

pub lies_in_member : (p : Profile) (b : List ℕ) (place : Place) (k : ℕ) → AreBytes b → GoesOn p b → place_after p b ≡ Some place → place.item ≡ Some k → LiesInMember p place.section k b
lies_in_member p b place k bytes live e i =
    let low : 0 < 8 = omega arith in
    let m : Machine = (state_after p state_at_start b).machine in
    found p m (state_after p state_at_start b).name b place k
    (run_stands p state_at_start [] b bytes low (low, refl) tt)
    (ap place_in (same_machine p state_at_start b live) ∙ e) i
