-- Bytes that were not refused are the front of some module under `loose`.
use Rattle.std.proofs.Common.{◌≡◌, ℕ, zero, suc, ◌-◌, List, [], ◌∷◌, ◌++◌, None, Bool, true, false, length, refl, sym, ◌∙◌, ap, inl, inr, arith, drop}
use Rattle.std.proofs.lemmas.Bool.{cond_both}
use Rattle.std.specs.Str.{is_utf8}
use Rattle.wm_syntax.specs.declared.profile.Feature.TheVariants.{BulkMemory}
use Rattle.wm_syntax.specs.declared.profile.Profile.{Profile}
use Rattle.wm_syntax.specs.Profiles.{has}
use Rattle.wm_syntax.specs.Spelling.{AreBytes}
use Rattle.wm_machine.specs.declared.machine.Counts.{Counts}
use Rattle.wm_machine.specs.declared.machine.InCustom.{InCustom}
use Rattle.wm_machine.specs.declared.machine.InCustom.TheVariants as custom
use Rattle.wm_machine.specs.declared.machine.Machine.{Machine}
use Rattle.wm_machine.specs.declared.machine.Machine.TheVariants as machine
use Rattle.wm_machine.specs.declared.machine.Event.{Event}
use Rattle.wm_machine.specs.declared.machine.Event.TheVariants as event
use Rattle.wm_machine.specs.declared.machine.member.SectionKind.{SectionKind}
use Rattle.wm_machine.specs.declared.machine.member.SectionKind.TheVariants as section_kind
use Rattle.wm_machine.specs.declared.machine.member.InMember.{InMember}
use Rattle.wm_machine.specs.declared.machine.member.InMember.TheVariants as at
use Rattle.wm_machine.specs.Items.{Zone}
use Rattle.wm_machine.specs.MarkedForms.{MarkedForm, MarkedByte, Then, Times, Counted, MarkedNumber, Name, Sized, Filled, nothing_at, marks_ending, outside_mark}
use Rattle.wm_machine.specs.Sections.{header}
use Rattle.wm_machine.specs.Grammar.{ModuleCounts, HasSection, Contents, Customs, Optional, MayMiss, Chain, loose}
use Rattle.wm_machine.specs.exact.Members.{id_of, rank_of}
use Rattle.wm_machine.specs.exact.Steps.{no_counts, step_of}
use Rattle.wm_machine.specs.exact.Runs.{zone_in, zone_of, byte_read, ByteRead, MachineState, after_byte, state_after, marks, state_at_start}
use Rattle.wm_machine.specs.exact.Live.{IsRefused}
use Rattle.wm_machine.specs.Fronts.{IsFront, name_more, name_after, unfinished_name}
use Rattle.wm_machine.proofs.Numbers.{Left}
use Rattle.wm_machine.proofs.OpenMembers.{Comes, some_then, some_times, some_counted, some_number, some_sized, some_filled, some_text, some_name_left, some_name, zeros, zeros_length, zeros_bytes, some_component, some_one}
use Rattle.wm_machine.proofs.MemberBytes.{OneOf, ComponentRest}
use Rattle.wm_machine.proofs.MemberSound.{CanGo}
use Rattle.wm_machine.proofs.Customs.{unnamed, CustomRest}
use Rattle.wm_machine.proofs.LaterNumbers.{ForSome}
use Rattle.wm_machine.proofs.Chains.{Where}
use Rattle.wm_machine.proofs.MachineStates.{FitsCustom, Fits, run_fits}
use Rattle.wm_machine.proofs.WholeMachine.{freely, count_item, Known, KnownIn, Later, After, InSize, ListOf, Listed, Within, MachineRest, begin_from, run_from}
use Rattle.wm_machine.proofs.MachineAndSink.{begin_fits}

pub some_custom : (n : ℕ) (q : InCustom) (y : List ℕ) → FitsCustom q → Comes (CustomRest loose n q y)
some_custom n (custom.Length r) y h = some_filled n _ (some_text unnamed r h)
some_custom n (custom.Name more) y h = some_filled n _ (some_name_left unnamed y (suc more))
some_custom n custom.Skip y h = record { bytes = zeros n; marks = marks_ending None (zeros n); spelled = (zeros_length n, zeros_bytes n, refl) }
some_custom n (custom.Failed w) y h = absurd h

module _ (p : Profile) where
  -- so many members, whatever number of them is required
  required : (of : SectionKind) (n m : ℕ) → Comes (Where (loose → n ≡ m) (Times n (OneOf loose p of)))
  required of n m = let t = some_times n (OneOf loose p of) (some_one p of) in record { bytes = t.bytes; marks = t.marks; spelled = ((λ d. absurd d), t.spelled) }

  pub some_listed : (of : SectionKind) (f : ModuleCounts) (n : ℕ) → Comes (ListOf loose p of f n)
  some_listed section_kind.Function f n = required section_kind.Function n f.functions
  some_listed section_kind.DataCount f n = record { bytes = []; marks = []; spelled = ((λ d. absurd d), (refl, refl)) }
  some_listed section_kind.Code f n = required section_kind.Code n f.functions
  some_listed section_kind.Segment f n = required section_kind.Segment n f.segments
  some_listed of f n = some_times n (OneOf loose p of) (some_one p of)

  some_contents : (of : SectionKind) (f : ModuleCounts) → Comes (Contents loose p f (rank_of of))
  some_contents section_kind.Start f = some_one p section_kind.Start
  some_contents of f = some_number (count_item of) (ListOf loose p of f) (some_listed of f)

  -- each section that the profile has may be there
  with_section : (f : ModuleCounts) (of : SectionKind) → HasSection p (rank_of of) → Comes (Optional loose p f (rank_of of))
  with_section f of there =
      let C : ℕ → MarkedForm = λ n. Sized loose n (Contents loose p f (rank_of of)) in
      let c = some_then (MarkedByte (id_of of) None) (MarkedNumber nothing_at C) (record { bytes = id_of of ∷ []; marks = outside_mark None ∷ []; spelled = (refl, refl) })
      (some_number nothing_at C (λ n. some_sized n (Contents loose p f (rank_of of)) (some_contents of f))) in
      record { bytes = c.bytes; marks = c.marks; spelled = inl (there, c.spelled) }

  without_section : (f : ModuleCounts) (rank : ℕ) → MayMiss f rank → Comes (Optional loose p f rank)
  without_section f rank may = record { bytes = []; marks = []; spelled = inr (may, (refl, refl)) }

  may_miss : (f : ModuleCounts) (rank : ℕ) → (rank ≡ 3 → ⊥) → (rank ≡ 11 → ⊥) → (rank ≡ 12 → ⊥) → MayMiss f rank
  may_miss f rank a b c = ((λ e. elim e [ inl i ↦ absurd (a i) | inr i ↦ absurd (b i) ]), (λ e. absurd (c e)))

  some_optional : (f : ModuleCounts) (rank : ℕ) → Comes (Optional loose p f rank)
  some_optional f zero = without_section f 0 (may_miss f 0 (λ e. cc) (λ e. cc) (λ e. cc))
  some_optional f (suc zero) = with_section f section_kind.Type (λ e. cc)
  some_optional f (suc (suc zero)) = with_section f section_kind.Import (λ e. cc)
  some_optional f (suc (suc (suc zero))) = with_section f section_kind.Function (λ e. cc)
  some_optional f (suc (suc (suc (suc zero)))) = with_section f section_kind.Table (λ e. cc)
  some_optional f (suc (suc (suc (suc (suc zero))))) = with_section f section_kind.Memory (λ e. cc)
  some_optional f (suc (suc (suc (suc (suc (suc zero)))))) = with_section f section_kind.Global (λ e. cc)
  some_optional f (suc (suc (suc (suc (suc (suc (suc zero))))))) = with_section f section_kind.Export (λ e. cc)
  some_optional f (suc (suc (suc (suc (suc (suc (suc (suc zero)))))))) = with_section f section_kind.Start (λ e. cc)
  some_optional f (suc (suc (suc (suc (suc (suc (suc (suc (suc zero))))))))) = with_section f section_kind.Element (λ e. cc)
  some_optional f (suc (suc (suc (suc (suc (suc (suc (suc (suc (suc zero)))))))))) = by_feature (has p BulkMemory) refl
    where
      by_feature : (b : Bool) → has p BulkMemory ≡ b → Comes (Optional loose p f 10)
      by_feature true is = with_section f section_kind.DataCount (λ e. is)
      by_feature false is = without_section f 10 (may_miss f 10 (λ e. cc) (λ e. cc) (λ e. cc))
  some_optional f (suc (suc (suc (suc (suc (suc (suc (suc (suc (suc (suc zero))))))))))) = with_section f section_kind.Code (λ e. cc)
  some_optional f (suc (suc (suc (suc (suc (suc (suc (suc (suc (suc (suc (suc zero)))))))))))) = with_section f section_kind.Segment (λ e. cc)
  some_optional f (suc (suc (suc (suc (suc (suc (suc (suc (suc (suc (suc (suc (suc n))))))))))))) = without_section f (suc (suc (suc (suc (suc (suc (suc (suc (suc (suc (suc (suc (suc n))))))))))))) (may_miss f (suc (suc (suc (suc (suc (suc (suc (suc (suc (suc (suc (suc (suc n))))))))))))) (λ e. absurd (omega (arith, e))) (λ e. absurd (omega (arith, e))) (λ e. absurd (omega (arith, e))))

  no_customs : Comes (Customs loose)
  no_customs = record { bytes = []; marks = []; spelled = (0, (refl, refl)) }

  some_chain : (f : ModuleCounts) (count id : ℕ) → Comes (Chain loose p f count id)
  some_chain f zero id = no_customs
  some_chain f (suc count) id = some_then (Customs loose) (Then (Optional loose p f id) (Chain loose p f count (suc id))) no_customs (some_then (Optional loose p f id) (Chain loose p f count (suc id)) (some_optional f id) (some_chain f count (suc id)))

  some_for : (C : ModuleCounts → Type 0) (P : ModuleCounts → MarkedForm) (f : ModuleCounts) → C f → Comes (P f) → Comes (ForSome C P)
  some_for C P f c s = record { bytes = s.bytes; marks = s.marks; spelled = (f, c, s.spelled) }

  pub some_later : (last : ℕ) (counts : Counts) → Comes (Later loose p last counts)
  some_later last counts = some_for (Known loose last counts) (λ f. Chain loose p f (12 - last) (suc last)) (freely counts) ((λ l. refl), (λ d. absurd d)) (some_chain (freely counts) (12 - last) (suc last))

  pub some_after : (of : SectionKind) (f : ModuleCounts) → Comes (After loose p of f)
  some_after of f = some_chain f (12 - rank_of of) (suc (rank_of of))

  pub some_size : (of : SectionKind) (f : ModuleCounts) (n : ℕ) → Comes (InSize loose p of f n)
  some_size of f n = some_then (Sized loose n (Contents loose p f (rank_of of))) (After loose p of f) (some_sized n (Contents loose p f (rank_of of)) (some_contents of f)) (some_after of f)

  some_within : (of : SectionKind) (left more : ℕ) (q : InMember) (y : List ℕ) → CanGo p more q → Comes (Within loose p of left q y)
  some_within of left more q y go = some_then (ComponentRest loose p q y) (Times left (OneOf loose p of)) (some_component p more q y go) (some_times left (OneOf loose p of) (some_one p of))

  pub some_machine : (m : Machine) (y : List ℕ) → Fits p m → (IsRefused m → ⊥) → Comes (MachineRest loose p m y)
  some_machine (machine.Header n) y h live = let l = some_later 0 no_counts in
      record { bytes = drop n header ++ l.bytes; marks = marks_ending None (drop n header) ++ l.marks; spelled = (h, record { front = drop n header; back = l.bytes; front_marks = marks_ending None (drop n header); back_marks = l.marks; bytes = refl; marks = refl; first = (refl, refl); second = l.spelled }) }
  some_machine (machine.Between last counts) y h live = some_later last counts
  some_machine (machine.CustomSize last counts r) y h live = some_counted nothing_at (λ n. Then (Filled loose n (Name loose unnamed)) (Later loose p last counts)) r h.0 (λ n. some_then (Filled loose n (Name loose unnamed)) (Later loose p last counts) (some_filled n (Name loose unnamed) (some_name unnamed)) (some_later last counts))
  some_machine (machine.Custom last counts more q) y h live = some_then (CustomRest loose (suc more) q y) (Later loose p last counts) (some_custom (suc more) q y h.1) (some_later last counts)
  some_machine (machine.Size of counts r) y h live = some_for (KnownIn loose (rank_of of) counts) (λ f. Counted (Left r) nothing_at (InSize loose p of f)) (freely counts) ((λ l. refl), (λ d. absurd d)) (some_counted nothing_at (InSize loose p of (freely counts)) r h.0 (some_size of (freely counts)))
  some_machine (machine.Count of counts more r) y h live =
      some_for (KnownIn loose (rank_of of) counts) (λ f. Then (Sized loose (suc more) (Listed loose p of r f)) (After loose p of f)) (freely counts) ((λ l. refl), (λ d. absurd d))
      (some_then (Sized loose (suc more) (Listed loose p of r (freely counts))) (After loose p of (freely counts)) (some_sized (suc more) (Listed loose p of r (freely counts)) (some_counted (count_item of) (ListOf loose p of (freely counts)) r h.0 (some_listed of (freely counts)))) (some_after of (freely counts)))
  some_machine (machine.Section of counts more left q) y h live =
      some_then (Sized loose (suc more) (Within loose p of left q y)) (Later loose p (rank_of of) counts) (some_sized (suc more) (Within loose p of left q y) (some_within of left (suc more) q y h.2)) (some_later (rank_of of) counts)
  some_machine (machine.Refused w) y h live = absurd (live tt)

  pub length_marks : (b : List ℕ) (s : MachineState) → length b ≡ length (marks p s b)
  length_marks [] s = refl
  length_marks (c ∷ b) s = ap suc (length_marks b (after_byte p s c))

  -- bytes that were not refused are a front
  pub is_front : (b : List ℕ) → AreBytes b → (IsRefused (state_after p state_at_start b).machine → ⊥) → IsFront p b (marks p state_at_start b)
  is_front b bytes live =
      let c = some_machine (state_after p state_at_start b).machine (state_after p state_at_start b).name (run_fits p state_at_start b bytes begin_fits) live in
      record { rest = c.bytes; rest_marks = c.marks; same = length_marks b state_at_start; whole = begin_from loose p (b ++ c.bytes) (marks p state_at_start b ++ c.marks) (run_from loose p state_at_start b c.bytes c.marks bytes begin_fits c.spelled) }

-- the bytes that are kept of a name: a byte of a code entry is in none
snoc_length : (b : List ℕ) (c : ℕ) → length (b ++ c ∷ []) ≡ suc (length b)
snoc_length [] c = refl
snoc_length (d ∷ b) c = ap suc (snoc_length b c)

no_name : (q : InMember) (n : ℕ) → name_more (zone_in q) n ≡ 0
no_name (at.Entry zero q) n = refl
no_name (at.Entry (suc m) q) n = refl
no_name q n = refl

outside_name : (m : Machine) (n : ℕ) → name_more (zone_of m) n ≡ 0
outside_name (machine.Section of counts more left q) n = no_name q n
outside_name m n = refl

heard_name : (zone : Zone) → ((n : ℕ) → name_more zone n ≡ 0) → (name : List ℕ) (c : ℕ) (m : Machine) (e : Event) → length (byte_read machine.Refused zone name c (m, e)).name ≡ name_more (byte_read machine.Refused zone name c (m, e)).mark.zone (length name)
heard_name zone none name c m event.Nothing = sym (none (length name))
heard_name zone none name c m (event.Complete q) = sym (none (length name))
heard_name zone none name c m event.DataByte = refl
heard_name zone none name c m event.InName = snoc_length name c
heard_name zone none name c m (event.EmptyName kind) = refl
heard_name zone none name c m (event.EndsName kind) = cond_both (is_utf8 (name ++ c ∷ [])) _ _ (λ (d : ByteRead Machine). length d.name ≡ name_more d.mark.zone (length name)) (λ _. refl) (λ _. refl)

run_name : (p : Profile) (b : List ℕ) (s : MachineState) → length (state_after p s b).name ≡ name_after (length s.name) (marks p s b)
run_name p [] s = refl
run_name p (c ∷ b) s =
    run_name p b (after_byte p s c) ∙ ap (λ n. name_after n (marks p (after_byte p s c) b)) (heard_name (zone_of s.machine) (outside_name s.machine) s.name c (step_of p s.machine c).0 (step_of p s.machine c).1)

pub name_kept : (p : Profile) (b : List ℕ) → length (state_after p state_at_start b).name ≡ unfinished_name (marks p state_at_start b)
name_kept p b = run_name p b state_at_start
