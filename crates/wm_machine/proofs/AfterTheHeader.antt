-- Properties of every machine that a byte can lead to after the header.
use Rattle.std.proofs.Common.{◌≡◌, ℕ, zero, suc, Option, Some, None, refl, nat_eq, nat_le}
use Rattle.std.proofs.lemmas.Bool.{cond_both}
use Rattle.wm_syntax.specs.declared.numbers.Step.{Step}
use Rattle.wm_syntax.specs.declared.numbers.Step.TheVariants.{More, Done, Bad}
use Rattle.wm_syntax.specs.inner.Numbers.{Partial}
use Rattle.wm_syntax.specs.exact.Reading.{fresh, unsigned_push}
use Rattle.wm_syntax.specs.declared.profile.Profile.{Profile}
use Rattle.wm_syntax.specs.declared.why.Why.{Why}
use Rattle.wm_syntax.specs.declared.why.Why.TheVariants as why
use Rattle.wm_machine.specs.declared.machine.Counts.{Counts}
use Rattle.wm_machine.specs.declared.machine.InCustom.{InCustom}
use Rattle.wm_machine.specs.declared.machine.InCustom.TheVariants as custom
use Rattle.wm_machine.specs.declared.machine.Machine.{Machine}
use Rattle.wm_machine.specs.declared.machine.Machine.TheVariants as machine
use Rattle.wm_machine.specs.declared.machine.Event.{Event}
use Rattle.wm_machine.specs.declared.machine.Event.TheVariants as event
use Rattle.wm_machine.specs.declared.machine.member.SectionKind.{SectionKind}
use Rattle.wm_machine.specs.declared.machine.member.SectionKind.TheVariants as section_kind
use Rattle.wm_machine.specs.declared.machine.member.InMember.{InMember}
use Rattle.wm_machine.specs.declared.machine.member.InMember.TheVariants as at
use Rattle.wm_machine.specs.exact.Members.{rank_of, section_kind_of, member_at_start}
use Rattle.wm_machine.specs.exact.MemberSteps.{on_number, member_step}
use Rattle.wm_machine.specs.exact.Steps.{counts_in, is_given, begun_last, custom_step, machine_in_custom, machine_in_member, machine_after_count, machine_after_paired_count, count_more, after_count, begun_section, machine_if_rising, section_start, machine_in_contents, after_size, custom_size, step_of}

-- past the header, and not refused
abbrev pub IsLive : Machine → Type 0
IsLive (machine.Header n) = ⊥
IsLive (machine.Refused w) = ⊥
IsLive m = Unit {0}

abbrev pub IsInSection : Machine → Type 0
IsInSection (machine.Header n) = ⊥
IsInSection (machine.Between last counts) = ⊥
IsInSection (machine.Refused w) = ⊥
IsInSection m = Unit {0}

abbrev pub IsHeader : Machine → Type 0
IsHeader (machine.Header n) = Unit {0}
IsHeader m = ⊥

module _ (P : Machine → Type 0) (live : (m : Machine) → IsLive m → P m) (end : P (machine.Refused why.SectionEnd)) (number : P (machine.Refused why.BadNumber)) where
  by_number : (q : Step ℕ × Partial) (more : Partial → Machine) (done : ℕ → Machine × Event) → ((s : Partial) → P (more s)) → ((n : ℕ) → P (done n).0) → P (on_number q more done machine.Refused).0
  by_number (More, s) more done a b = a s
  by_number (Done n, s) more done a b = b n
  by_number (Bad, s) more done a b = number

  custom_out : (last : ℕ) (counts : Counts) (left : ℕ) (q : InCustom) → ((w : Why) → q ≡ custom.Failed w → P (machine.Refused w)) → P (machine_in_custom last counts left q)
  custom_out last counts left (custom.Failed w) h = h w refl
  custom_out last counts zero custom.Skip h = live (machine.Between last counts) tt
  custom_out last counts zero (custom.Length r) h = end
  custom_out last counts zero (custom.Name m) h = end
  custom_out last counts (suc n) custom.Skip h = live (machine.Custom last counts n custom.Skip) tt
  custom_out last counts (suc n) (custom.Length r) h = live (machine.Custom last counts n (custom.Length r)) tt
  custom_out last counts (suc n) (custom.Name m) h = live (machine.Custom last counts n (custom.Name m)) tt

  framed_out : (of : SectionKind) (counts : Counts) (bytes left : ℕ) (q : InMember) → ((w : Why) → q ≡ at.Failed w → P (machine.Refused w)) → P (machine_in_member of counts bytes left q)
  framed_out of counts bytes left (at.Failed w) h = h w refl
  framed_out of counts zero zero at.Over h = live _ tt
  framed_out of counts (suc n) zero at.Over h = end
  framed_out of counts zero (suc l) at.Over h = end
  framed_out of counts (suc n) (suc l) at.Over h = live (machine.Section of counts n l (member_at_start of)) tt
  framed_out of counts zero left q h = end
  framed_out of counts (suc n) left q h = live (machine.Section of counts n left q) tt

  begins : (of : SectionKind) (w : Why) → member_at_start of ≡ at.Failed w → P (machine.Refused w)
  begins section_kind.Type w e = cc
  begins section_kind.Import w e = cc
  begins section_kind.Function w e = cc
  begins section_kind.Table w e = cc
  begins section_kind.Memory w e = cc
  begins section_kind.Global w e = cc
  begins section_kind.Export w e = cc
  begins section_kind.Start w e = cc
  begins section_kind.Element w e = cc
  begins section_kind.DataCount w e = cc
  begins section_kind.Code w e = cc
  begins section_kind.Segment w e = cc

  not_over : (w : Why) → at.Over ≡ at.Failed w → P (machine.Refused w)
  not_over w e = cc

  pub listed_out : (of : SectionKind) (counts : Counts) (bytes n : ℕ) → P (machine_after_count of counts bytes n)
  listed_out of counts bytes zero = framed_out of counts bytes zero at.Over not_over
  listed_out of counts bytes (suc n) = framed_out of counts bytes n (member_at_start of) (begins of)

  counted_out : (count : P (machine.Refused why.CodeCount)) (segments : P (machine.Refused why.DataCount)) → (of : SectionKind) (counts : Counts) (bytes n : ℕ) → P (machine_after_paired_count of counts bytes n)
  counted_out count segments section_kind.Function counts bytes n = listed_out section_kind.Function (counts_in section_kind.Function counts n) bytes n
  counted_out count segments section_kind.Code counts bytes n = cond_both (nat_eq n counts.functions) _ _ P (λ _. listed_out section_kind.Code (counts_in section_kind.Code counts n) bytes n) (λ _. count)
  counted_out count segments section_kind.Type counts bytes n = listed_out section_kind.Type (counts_in section_kind.Type counts n) bytes n
  counted_out count segments section_kind.Import counts bytes n = listed_out section_kind.Import (counts_in section_kind.Import counts n) bytes n
  counted_out count segments section_kind.Table counts bytes n = listed_out section_kind.Table (counts_in section_kind.Table counts n) bytes n
  counted_out count segments section_kind.Memory counts bytes n = listed_out section_kind.Memory (counts_in section_kind.Memory counts n) bytes n
  counted_out count segments section_kind.Global counts bytes n = listed_out section_kind.Global (counts_in section_kind.Global counts n) bytes n
  counted_out count segments section_kind.Export counts bytes n = listed_out section_kind.Export (counts_in section_kind.Export counts n) bytes n
  counted_out count segments section_kind.Start counts bytes n = listed_out section_kind.Start (counts_in section_kind.Start counts n) bytes n
  counted_out count segments section_kind.Element counts bytes n = listed_out section_kind.Element (counts_in section_kind.Element counts n) bytes n
  counted_out count segments section_kind.DataCount counts bytes n = listed_out section_kind.DataCount (counts_in section_kind.DataCount counts n) bytes zero
  counted_out count segments section_kind.Segment counts bytes n = cond_both (is_given counts.segments n) _ _ P (λ _. listed_out section_kind.Segment (counts_in section_kind.Segment counts n) bytes n) (λ _. segments)

  pub more_out : (of : SectionKind) (counts : Counts) (more : ℕ) (r : Partial) → P (count_more of counts more r).0
  more_out of counts zero r = end
  more_out of counts (suc n) r = live (machine.Count of counts n r) tt

  pub count_out : (count : P (machine.Refused why.CodeCount)) (segments : P (machine.Refused why.DataCount)) → (of : SectionKind) (counts : Counts) (more : ℕ) (q : Step ℕ × Partial) → P (after_count of counts more q).0
  count_out count segments of counts more (More, r) = more_out of counts more r
  count_out count segments of counts more (Done n, r) = counted_out count segments of counts more n
  count_out count segments of counts more (Bad, r) = number

  pub begun_out : (count : P (machine.Refused why.CodeCount)) → (of : SectionKind) (counts : Counts) → P (begun_section of counts).0
  begun_out count section_kind.Segment counts = at_last counts.functions
    where
      at_last : (n : ℕ) → P (begun_last n counts).0
      at_last zero = live (machine.Size section_kind.Segment counts fresh) tt
      at_last (suc n) = count
  begun_out count section_kind.Type counts = live (machine.Size section_kind.Type counts fresh) tt
  begun_out count section_kind.Import counts = live (machine.Size section_kind.Import counts fresh) tt
  begun_out count section_kind.Function counts = live (machine.Size section_kind.Function counts fresh) tt
  begun_out count section_kind.Table counts = live (machine.Size section_kind.Table counts fresh) tt
  begun_out count section_kind.Memory counts = live (machine.Size section_kind.Memory counts fresh) tt
  begun_out count section_kind.Global counts = live (machine.Size section_kind.Global counts fresh) tt
  begun_out count section_kind.Export counts = live (machine.Size section_kind.Export counts fresh) tt
  begun_out count section_kind.Start counts = live (machine.Size section_kind.Start counts fresh) tt
  begun_out count section_kind.Element counts = live (machine.Size section_kind.Element counts fresh) tt
  begun_out count section_kind.DataCount counts = live (machine.Size section_kind.DataCount counts fresh) tt
  begun_out count section_kind.Code counts = live (machine.Size section_kind.Code counts fresh) tt

  sized_out : (of : SectionKind) (counts : Counts) (more : ℕ) → P (machine_in_contents of counts more)
  sized_out section_kind.Start counts more = live (machine.Section section_kind.Start (counts_in section_kind.Start counts 1) more 0 (member_at_start section_kind.Start)) tt
  sized_out section_kind.Type counts more = live (machine.Count section_kind.Type counts more fresh) tt
  sized_out section_kind.Import counts more = live (machine.Count section_kind.Import counts more fresh) tt
  sized_out section_kind.Function counts more = live (machine.Count section_kind.Function counts more fresh) tt
  sized_out section_kind.Table counts more = live (machine.Count section_kind.Table counts more fresh) tt
  sized_out section_kind.Memory counts more = live (machine.Count section_kind.Memory counts more fresh) tt
  sized_out section_kind.Global counts more = live (machine.Count section_kind.Global counts more fresh) tt
  sized_out section_kind.Export counts more = live (machine.Count section_kind.Export counts more fresh) tt
  sized_out section_kind.Element counts more = live (machine.Count section_kind.Element counts more fresh) tt
  sized_out section_kind.DataCount counts more = live (machine.Count section_kind.DataCount counts more fresh) tt
  sized_out section_kind.Code counts more = live (machine.Count section_kind.Code counts more fresh) tt
  sized_out section_kind.Segment counts more = live (machine.Count section_kind.Segment counts more fresh) tt

  size_out : (of : SectionKind) (counts : Counts) (n : ℕ) → P (after_size of counts n)
  size_out of counts zero = end
  size_out of counts (suc n) = sized_out of counts n

  not_length : (r : Partial) (w : Why) → custom.Length r ≡ custom.Failed w → P (machine.Refused w)
  not_length r w e = cc

  -- in a section: no id comes there
  pub step_in : (p : Profile) (m : Machine) (c : ℕ) → IsInSection m
      → ((of : SectionKind) (counts : Counts) (more : ℕ) (r : Partial) → m ≡ machine.Count of counts more r → P (after_count of counts more (unsigned_push 32 r c)).0)
      → ((q : InCustom) (w : Why) → (custom_step q c).0 ≡ custom.Failed w → P (machine.Refused w)) → ((of : SectionKind) (counts : Counts) (more left : ℕ) (q : InMember) (w : Why) → m ≡ machine.Section of counts more left q → (member_step p q c).0 ≡ at.Failed w → P (machine.Refused w)) → P (step_of p m c).0
  step_in p (machine.CustomSize last counts r) c i k a b = by_number (unsigned_push 32 r c) (λ s. machine.CustomSize last counts s) (λ n. (custom_size last counts n, event.Nothing)) (λ s. live (machine.CustomSize last counts s) tt) (λ n. custom_out last counts n (custom.Length fresh) (not_length fresh))
  step_in p (machine.Custom last counts more q) c i k a b = custom_out last counts more (custom_step q c).0 (a q)
  step_in p (machine.Size of counts r) c i k a b = by_number (unsigned_push 32 r c) (λ s. machine.Size of counts s) (λ n. (after_size of counts n, event.Nothing)) (λ s. live (machine.Size of counts s) tt) (λ n. size_out of counts n)
  step_in p (machine.Count of counts more r) c i k a b = k of counts more r refl
  step_in p (machine.Section of counts more left q) c i k a b = framed_out of counts more left (member_step p q c).0 (λ w e. b of counts more left q w refl e)
  step_in p (machine.Header n) c i k a b = absurd i
  step_in p (machine.Between last counts) c i k a b = absurd i
  step_in p (machine.Refused w) c i k a b = absurd i

module _ (P : Machine → Type 0) (live : (m : Machine) → IsLive m → P m) (end : P (machine.Refused why.SectionEnd)) (number : P (machine.Refused why.BadNumber))
    (id : P (machine.Refused why.SectionId)) (order : P (machine.Refused why.SectionOrder)) (count : P (machine.Refused why.CodeCount)) (segments : P (machine.Refused why.DataCount)) where
  rising_out : (last : ℕ) (counts : Counts) (of : Option SectionKind) → P (machine_if_rising last counts of).0
  rising_out last counts None = id
  rising_out last counts (Some of) = cond_both (nat_le (rank_of of) last) _ _ (λ (q : Machine × Event). P q.0) (λ _. order) (λ _. begun_out P live end number count of counts)

  start_out : (p : Profile) (last : ℕ) (counts : Counts) (c : ℕ) → P (section_start p last counts c).0
  start_out p last counts zero = live (machine.CustomSize last counts fresh) tt
  start_out p last counts (suc m) = rising_out last counts (section_kind_of p (suc m))

  pub step_at : (p : Profile) (m : Machine) (c : ℕ) → (IsHeader m → ⊥) → ((w : Why) → m ≡ machine.Refused w → P (machine.Refused w))
      → ((q : InCustom) (w : Why) → (custom_step q c).0 ≡ custom.Failed w → P (machine.Refused w)) → ((of : SectionKind) (counts : Counts) (more left : ℕ) (q : InMember) (w : Why) → m ≡ machine.Section of counts more left q → (member_step p q c).0 ≡ at.Failed w → P (machine.Refused w)) → P (step_of p m c).0
  step_at p (machine.Header n) c past same a b = absurd (past tt)
  step_at p (machine.Between last counts) c past same a b = start_out p last counts c
  step_at p (machine.CustomSize last counts r) c past same a b = step_in P live end number p (machine.CustomSize last counts r) c tt (λ of counts more r s. count_out P live end number count segments of counts more (unsigned_push 32 r c)) a b
  step_at p (machine.Custom last counts more q) c past same a b = step_in P live end number p (machine.Custom last counts more q) c tt (λ of counts more r s. count_out P live end number count segments of counts more (unsigned_push 32 r c)) a b
  step_at p (machine.Size of counts r) c past same a b = step_in P live end number p (machine.Size of counts r) c tt (λ of counts more r s. count_out P live end number count segments of counts more (unsigned_push 32 r c)) a b
  step_at p (machine.Count of counts more r) c past same a b = step_in P live end number p (machine.Count of counts more r) c tt (λ of counts more r s. count_out P live end number count segments of counts more (unsigned_push 32 r c)) a b
  step_at p (machine.Section of counts more left q) c past same a b = step_in P live end number p (machine.Section of counts more left q) c tt (λ of counts more r s. count_out P live end number count segments of counts more (unsigned_push 32 r c)) a b
  step_at p (machine.Refused w) c past same a b = same w refl

  pub step_out : (p : Profile) (m : Machine) (c : ℕ) → (IsHeader m → ⊥) → ((w : Why) → m ≡ machine.Refused w → P (machine.Refused w))
      → ((q : InCustom) (w : Why) → (custom_step q c).0 ≡ custom.Failed w → P (machine.Refused w)) → ((q : InMember) (w : Why) → (member_step p q c).0 ≡ at.Failed w → P (machine.Refused w)) → P (step_of p m c).0
  step_out p m c past same a b = step_at p m c past same a (λ of counts more left q w s. b q w)
