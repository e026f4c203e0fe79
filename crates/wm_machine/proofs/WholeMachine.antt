-- The possible rest of a module, and how each byte continues it.
use Rattle.std.proofs.Common.{◌≡◌, ℕ, zero, suc, ◌+◌, ◌-◌, ◌<◌, ◌≤◌, ◌^◌, ◌⊎◌, inl, inr, List, [], ◌∷◌, ◌++◌, Option, Some, None, refl, sym, ◌∙◌, ap, subst, arith, true, false, nat_eq, nat_lt, nat_le, cond, drop, get_or, add-one, drop-cons}
use Rattle.std.proofs.lemmas.Bool.{cond_both, eqb-true, eqb-false, ltb-true, ltb-false, leb-true, leb-false}
use Rattle.std.specs.Str.{is_utf8}
use Rattle.wm_syntax.specs.declared.why.Why.{Why}
use Rattle.wm_syntax.specs.declared.why.Why.TheVariants as why
use Rattle.wm_syntax.specs.declared.profile.Profile.{Profile}
use Rattle.wm_syntax.specs.Spelling.{AreBytes}
use Rattle.wm_syntax.specs.declared.numbers.Step.{Step}
use Rattle.wm_syntax.specs.declared.numbers.Step.TheVariants.{More, Done, Bad}
use Rattle.wm_syntax.specs.inner.Numbers.{Partial}
use Rattle.wm_syntax.specs.exact.Reading.{fresh, unsigned_push}
use Rattle.wm_machine.specs.declared.machine.Counts.{Counts}
use Rattle.wm_machine.specs.declared.machine.InCustom.{InCustom}
use Rattle.wm_machine.specs.declared.machine.InCustom.TheVariants as custom
use Rattle.wm_machine.specs.declared.machine.Machine.{Machine}
use Rattle.wm_machine.specs.declared.machine.Machine.TheVariants as machine
use Rattle.wm_machine.specs.declared.machine.Event.{Event}
use Rattle.wm_machine.specs.declared.machine.Event.TheVariants as event
use Rattle.wm_machine.specs.declared.machine.member.SectionKind.{SectionKind}
use Rattle.wm_machine.specs.declared.machine.member.SectionKind.TheVariants as section_kind
use Rattle.wm_machine.specs.declared.machine.member.InMember.{InMember}
use Rattle.wm_machine.specs.declared.machine.member.InMember.TheVariants as at
use Rattle.wm_machine.specs.Items.{Item, Zone, outside, Mark, Marks, data_byte, data_count}
use Rattle.wm_machine.specs.MarkedForms.{MarkedForm, Empty, Literal, Then, Times, Name, Sized, Filled, Counted, nothing_at, marks_ending, outside_mark}
use Rattle.wm_machine.specs.Sections.{header}
use Rattle.wm_machine.specs.Grammar.{ModuleCounts, HasSection, Contents, Chain, ModuleForm, id_at}
use Rattle.wm_machine.specs.exact.Members.{id_of, rank_of, section_kind_of, member_at_start as begin_component}
use Rattle.wm_machine.specs.exact.MemberSteps.{on_number, member_step}
use Rattle.wm_machine.specs.exact.Steps.{no_counts, counts_in, is_given, begun_last, machine_in_custom, custom_step, machine_in_member, machine_after_count, machine_after_paired_count, count_event, after_count, begun_section, machine_if_rising, section_start, after_size, custom_size, header_step, step_of}
use Rattle.wm_machine.specs.exact.Runs.{name_item, byte_read, ByteRead, MachineState, zone_in, zone_of, read_byte, after_byte, state_after, marks, state_at_start, plain_item}
use Rattle.wm_machine.proofs.FirstBytes.{Next, Same, HasBytes, Never, head_same, tail_same, not_nil, same_refl, same_then, next_to, next_never, next_then, then_has, empty_then, never_then, then_same, ends_first, fails_first}
use Rattle.wm_machine.proofs.Numbers.{Left}
use Rattle.wm_machine.proofs.Counts.{CountedNext, counted_next, counted_has, counted_same, number_fresh}
use Rattle.wm_machine.proofs.NamesAndSizes.{NameLeft, TextLeft, text_has, text_fresh, left_has, named_byte, AnyBytes, any_none, any_more, sized_next, sized_has, sized_none, sized_empty, sized_over, sized_never, sized_same, filled_none, filled_same}
use Rattle.wm_machine.proofs.MemberBytes.{OneOf, ComponentRest, then_empty, begin_same, component_has, component_follows}
use Rattle.wm_machine.proofs.Ranks.{rank_at, rank_is, id_of_rank}
use Rattle.wm_machine.proofs.Customs.{unnamed, CustomRest, custom_follows, custom_has}
use Rattle.wm_machine.proofs.Chains.{Where, Missing, same_or_more, InSection, InCustomSection, custom_next, section_goes, not_first, over_missing, over, renumbered}
use Rattle.wm_machine.proofs.LaterNumbers.{ForSome, some_next, some_none, some_same, some_never, some_then, some_counted, some_known, some_where, some_read}
use Rattle.wm_machine.proofs.MemberSound.{MayGo, can_begin, can_go_on}
use Rattle.wm_machine.proofs.MachineStates.{IsNamed, component_named, rank_few, FitsAt, FitsIn, Fits, may_begin, byte_fits}

-- the number n is the one that was given, if one was
abbrev pub Agrees : Option ℕ → ℕ → Type 0
Agrees None n = Unit {0}
Agrees (Some m) n = m ≡ n

-- a module may end here
abbrev pub MayEnd : Machine → Type 0
MayEnd (machine.Between last counts) = (counts.functions ≡ 0) × Agrees counts.segments 0
MayEnd m = ⊥

-- The number of functions is known after their section, and after code it is zero. That of data segments is known if it
-- was given.
abbrev pub Known : Type 0 → (last : ℕ) (counts : Counts) (f : ModuleCounts) → Type 0
Known demanded last counts f = (3 ≤ last → f.functions ≡ counts.functions) × (demanded → Agrees counts.segments f.segments)

-- the same in the section of this rank
abbrev pub KnownIn : Type 0 → (rank : ℕ) (counts : Counts) (f : ModuleCounts) → Type 0
KnownIn demanded rank counts f = (3 < rank → f.functions ≡ counts.functions) × (demanded → Agrees counts.segments f.segments)

-- under `loose` any number of data segments is known
abbrev pub freely : Counts → ModuleCounts
freely counts = record { functions = counts.functions; segments = 0 }

-- the item that the number at the front of a section completes
abbrev pub count_item : SectionKind → ℕ → Option Item
count_item section_kind.DataCount = λ n. Some (data_count n)
count_item of = nothing_at

given_agrees : (s : Option ℕ) (n : ℕ) → is_given s n ≡ true → Agrees s n
given_agrees None n e = tt
given_agrees (Some m) n e = sym (eqb-true n m e)

given_differs : (s : Option ℕ) (n m : ℕ) → is_given s n ≡ false → Agrees s m → n ≡ m → ⊥
given_differs None n m e a is = cc
given_differs (Some k) n m e a is = eqb-false n k e (is ∙ sym a)

below_or : (a b : ℕ) → (a < b) ⊎ (b ≤ a)
below_or a b = (elim (nat_lt a b) as (λ v. nat_lt a b ≡ v → (a < b) ⊎ (b ≤ a)) [
  | true ↦ λ e. inl (ltb-true a b e)
  | false ↦ λ e. inr (ltb-false a b e)
]) refl

module _ (demanded : Type 0) (p : Profile) where
  -- the sections after the last one, where so many functions await their code
  abbrev pub Later : (last : ℕ) (counts : Counts) → MarkedForm
  Later last counts = ForSome (Known demanded last counts) (λ f. Chain demanded p f (12 - last) (suc last))

  -- the sections after this one
  abbrev pub After : SectionKind → ModuleCounts → MarkedForm
  After of f = Chain demanded p f (12 - rank_of of) (suc (rank_of of))

  abbrev pub InSize : SectionKind → (f : ModuleCounts) (n : ℕ) → MarkedForm
  InSize of f n = Then (Sized demanded n (Contents demanded p f (rank_of of))) (After of f)

  -- so many members
  abbrev pub ListOf : SectionKind → (f : ModuleCounts) (n : ℕ) → MarkedForm
  ListOf section_kind.Function f n = Where (demanded → n ≡ f.functions) (Times n (OneOf demanded p section_kind.Function))
  ListOf section_kind.DataCount f n = Where (demanded → n ≡ f.segments) Empty
  ListOf section_kind.Code f n = Where (demanded → n ≡ f.functions) (Times n (OneOf demanded p section_kind.Code))
  ListOf section_kind.Segment f n = Where (demanded → n ≡ f.segments) (Times n (OneOf demanded p section_kind.Segment))
  ListOf of f n = Times n (OneOf demanded p of)

  abbrev pub Listed : SectionKind → Partial → ModuleCounts → MarkedForm
  Listed of r f = Counted (Left r) (count_item of) (ListOf of f)

  -- the rest of a member, and so many more
  abbrev pub Within : SectionKind → ℕ → InMember → List ℕ → MarkedForm
  Within of left q so_far = Then (ComponentRest demanded p q so_far) (Times left (OneOf demanded p of))

  abbrev pub InHeader : ℕ → MarkedForm
  InHeader n b k = (n < 8) × Then (Literal (drop n header)) (Later 0 no_counts) b k

  abbrev pub MachineRest : Machine → List ℕ → MarkedForm
  MachineRest (machine.Header n) so_far = InHeader n
  MachineRest (machine.Between last counts) so_far = Later last counts
  MachineRest (machine.CustomSize last counts r) so_far = Counted (Left r) nothing_at (λ n. Then (Filled demanded n (Name demanded unnamed)) (Later last counts))
  MachineRest (machine.Custom last counts more q) so_far = Then (CustomRest demanded (suc more) q so_far) (Later last counts)
  MachineRest (machine.Size of counts r) so_far = ForSome (KnownIn demanded (rank_of of) counts) (λ f. Counted (Left r) nothing_at (InSize of f))
  MachineRest (machine.Count of counts more r) so_far = ForSome (KnownIn demanded (rank_of of) counts) (λ f. Then (Sized demanded (suc more) (Listed of r f)) (After of f))
  MachineRest (machine.Section of counts more left q) so_far = Then (Sized demanded (suc more) (Within of left q so_far)) (Later (rank_of of) counts)
  MachineRest (machine.Refused w) so_far = Never

  abbrev pub StateRest : MachineState → MarkedForm
  StateRest s = MachineRest s.machine s.name

  abbrev pub Continues : MarkedForm → ℕ → ByteRead Machine → Type 0
  Continues P c h = Next demanded P c h.mark (MachineRest h.at h.name)

  abbrev listens : List ℕ → ℕ → Machine × Event → ByteRead Machine
  listens so_far c q = byte_read machine.Refused outside so_far c q

  has_same : (P Q : MarkedForm) → Same demanded P Q → HasBytes demanded Q → HasBytes demanded P
  has_same P Q e h = λ s k i. h s k (e.to s [] k i)

  -- from a part of the machine to the whole of it, whatever the byte completes
  module _ {M : Type 0} (refuse : Why → M) (rest : M → List ℕ → MarkedForm) (frame : M → Machine) (stuck : (w : Why) → frame (refuse w) ≡ machine.Refused w)
      (Fine : M → Type 0) (fine : (w : Why) → Fine (refuse w)) (P F : MarkedForm) (zone : Zone) (so_far : List ℕ) (c : ℕ)
      (go : (m : M) (x : Mark) (y : List ℕ) → Fine m → Next demanded P c x (rest m y) → Next demanded F c x (MachineRest (frame m) y)) where
    abbrev Inner : ByteRead M → Type 0
    Inner h = Next demanded P c h.mark (rest h.at h.name)

    lifted : (m : M) (e : Event) → Fine m → Inner (byte_read refuse zone so_far c (m, e)) → Continues F c (byte_read machine.Refused zone so_far c (frame m, e))
    lifted m event.Nothing i h = go m (record { zone = zone; item = None }) [] i h
    lifted m (event.Complete q) i h = go m (record { zone = zone; item = Some (plain_item q) }) [] i h
    lifted m event.DataByte i h = go m (outside_mark (Some (data_byte c))) [] i h
    lifted m event.InName i h = go m named_byte (so_far ++ c ∷ []) i h
    lifted m (event.EmptyName kind) i h = go m (outside_mark (name_item kind [])) [] i h
    lifted m (event.EndsName kind) i h =
        let name : List ℕ = so_far ++ c ∷ [] in
        (elim (is_utf8 name) as (λ v.
        Inner (cond v (record { at = m; name = []; mark = outside_mark (name_item kind name) }) (record { at = refuse why.BadUtf8; name = []; mark = outside_mark None }))
        → Continues F c (cond v (record { at = frame m; name = []; mark = outside_mark (name_item kind name) }) (record { at = machine.Refused why.BadUtf8; name = []; mark = outside_mark None }))) [
          | true ↦ λ g. go m (outside_mark (name_item kind name)) [] i g
          | false ↦ λ g. subst (λ y. Next demanded F c (outside_mark None) (MachineRest y [])) (stuck why.BadUtf8) (go (refuse why.BadUtf8) (outside_mark None) [] (fine why.BadUtf8) g)
        ]) h

  -- in a custom section
  custom_same : (last : ℕ) (counts : Counts) (more : ℕ) (q : InCustom) (y : List ℕ) → Same demanded (Then (CustomRest demanded more q y) (Later last counts)) (MachineRest (machine_in_custom last counts more q) y)
  custom_same last counts more (custom.Failed w) y = never_then demanded Never (Later last counts) (same_refl demanded Never)
  custom_same last counts zero custom.Skip y = let L : MarkedForm = Later last counts in
      same_then demanded (Then (AnyBytes demanded 0) L) (Then Empty L) L (then_same demanded (AnyBytes demanded 0) L Empty L (any_none demanded) (same_refl demanded L)) (empty_then demanded L)
  custom_same last counts zero (custom.Length r) y = never_then demanded (CustomRest demanded 0 (custom.Length r) y) (Later last counts) (filled_none demanded (TextLeft demanded r unnamed) (text_has demanded unnamed r))
  custom_same last counts zero (custom.Name more) y = never_then demanded (CustomRest demanded 0 (custom.Name more) y) (Later last counts) (filled_none demanded (NameLeft demanded y (suc more) unnamed) (left_has demanded y more unnamed))
  custom_same last counts (suc n) custom.Skip y = same_refl demanded (MachineRest (machine.Custom last counts n custom.Skip) y)
  custom_same last counts (suc n) (custom.Length r) y = same_refl demanded (MachineRest (machine.Custom last counts n (custom.Length r)) y)
  custom_same last counts (suc n) (custom.Name more) y = same_refl demanded (MachineRest (machine.Custom last counts n (custom.Name more)) y)

  in_custom : (last : ℕ) (counts : Counts) (more : ℕ) (q : InCustom) (so_far : List ℕ) (c : ℕ) → c < 2 ^ 8 → Continues (MachineRest (machine.Custom last counts more q) so_far) c (listens so_far c (step_of p (machine.Custom last counts more q) c))
  in_custom last counts more q so_far c byte =
      let P : MarkedForm = CustomRest demanded (suc more) q so_far in
      let L : MarkedForm = Later last counts in
      lifted custom.Failed (CustomRest demanded more) (machine_in_custom last counts more) (λ w. refl) (λ m. Unit {0}) (λ w. tt) P (Then P L) outside so_far c
      (λ m x y i h. next_to demanded (Then P L) (Then (CustomRest demanded more m y) L) (MachineRest (machine_in_custom last counts more m) y) c x (custom_same last counts more m y) (next_then demanded P L c x (CustomRest demanded more m y) h (custom_has demanded more q so_far)))
      (custom_step q c).0 (custom_step q c).1 tt (custom_follows demanded more so_far c q byte)

  -- at its size
  abbrev InCustoms : (last : ℕ) (counts : Counts) (n : ℕ) → MarkedForm
  InCustoms last counts n = Then (Filled demanded n (Name demanded unnamed)) (Later last counts)

  custom_size_same : (last : ℕ) (counts : Counts) (n : ℕ) → Same demanded (InCustoms last counts n) (MachineRest (custom_size last counts n) [])
  custom_size_same last counts n =
      let L : MarkedForm = Later last counts in
      let R : MarkedForm = CustomRest demanded n (custom.Length fresh) [] in
      same_then demanded (InCustoms last counts n) (Then R L) (MachineRest (custom_size last counts n) [])
      (then_same demanded (Filled demanded n (Name demanded unnamed)) L R L (filled_same demanded (Name demanded unnamed) (TextLeft demanded fresh unnamed) n (text_fresh demanded unnamed)) (same_refl demanded L))
      (custom_same last counts n (custom.Length fresh) [])

  custom_sizes : (last : ℕ) (counts : Counts) (r : Partial) (so_far : List ℕ) (c : ℕ) (q : Step ℕ × Partial) → CountedNext demanded nothing_at (InCustoms last counts) r c q
      → Continues (Counted (Left r) nothing_at (InCustoms last counts)) c (listens so_far c (on_number q (λ s. machine.CustomSize last counts s) (λ n. (custom_size last counts n, event.Nothing)) machine.Refused))
  custom_sizes last counts r so_far c (More, s) h = h
  custom_sizes last counts r so_far c (Done v, s) h = next_to demanded (Counted (Left r) nothing_at (InCustoms last counts)) (InCustoms last counts v) (MachineRest (custom_size last counts v) []) c (outside_mark None) (custom_size_same last counts v) h
  custom_sizes last counts r so_far c (Bad, s) h = h

  -- the contents of a section
  abbrev IsList : SectionKind → ModuleCounts → MarkedForm
  IsList section_kind.Start f = OneOf demanded p section_kind.Start
  IsList of f = Listed of fresh f

  contents_same : (of : SectionKind) (f : ModuleCounts) → Same demanded (Contents demanded p f (rank_of of)) (IsList of f)
  contents_same section_kind.Start f = same_refl demanded (OneOf demanded p section_kind.Start)
  contents_same of f = number_fresh demanded (count_item of) (ListOf of f) (ListOf of f) (λ n. same_refl demanded (ListOf of f n))

  -- once the number of functions was read
  list_read : (of : SectionKind) (counts : Counts) (more v : ℕ) → (rank_of of ≡ 3 → ⊥) → Same demanded (ForSome (KnownIn demanded (rank_of of) counts) (λ f. Then (Sized demanded more (Times v (OneOf demanded p of))) (After of f))) (Then (Sized demanded more (Times v (OneOf demanded p of))) (Later (rank_of of) counts))
  list_read of counts more v other =
      let S : MarkedForm = Sized demanded more (Times v (OneOf demanded p of)) in
      let C : ModuleCounts → Type 0 = KnownIn demanded (rank_of of) counts in
      let D : ModuleCounts → Type 0 = Known demanded (rank_of of) counts in
      same_then demanded (ForSome C (λ f. Then S (After of f))) (Then S (ForSome C (After of))) (Then S (ForSome D (After of)))
      (some_then demanded C S (After of))
      (then_same demanded S (ForSome C (After of)) S (ForSome D (After of)) (same_refl demanded S)
      (some_known demanded C D (After of) (λ f k. ((λ l. k.0 (above (rank_of of) other l)), k.1)) (λ f k. ((λ l. k.0 (omega (arith, l))), k.1))))
    where
      above : (rank : ℕ) → (rank ≡ 3 → ⊥) → 3 ≤ rank → 3 < rank
      above rank other l = elim (same_or_more 3 rank l) [ inl e ↦ absurd (other (sym e)) | inr a ↦ a ]

  code_read : (counts : Counts) (more v : ℕ) → v ≡ counts.functions
      → Same demanded (ForSome (KnownIn demanded 11 counts) (λ f. Then (Sized demanded more (ListOf section_kind.Code f v)) (After section_kind.Code f))) (Then (Sized demanded more (Times v (OneOf demanded p section_kind.Code))) (Later 11 (counts_in section_kind.Code counts v)))
  code_read counts more v e =
      let X : MarkedForm = Times v (OneOf demanded p section_kind.Code) in
      let D : ModuleCounts → Type 0 = λ f. (f.functions ≡ counts.functions) × (demanded → Agrees counts.segments f.segments) in
      let Q : ModuleCounts → MarkedForm = After section_kind.Code in
      same_then demanded (ForSome (KnownIn demanded 11 counts) (λ f. Then (Sized demanded more (Where (demanded → v ≡ f.functions) X)) (Q f))) (Then (Sized demanded more X) (ForSome D Q)) (Then (Sized demanded more X) (Later 11 (counts_in section_kind.Code counts v)))
      (some_read demanded (KnownIn demanded 11 counts) D (λ f. f.functions) v more X Q (λ f k w. (k.0 (omega arith), k.1)) (λ f d. (((λ l. d.0), d.1), (λ s. e ∙ sym d.0))))
      (then_same demanded (Sized demanded more X) (ForSome D Q) (Sized demanded more X) (Later 11 (counts_in section_kind.Code counts v)) (same_refl demanded (Sized demanded more X)) (record {
        to = λ s b k h. (record { functions = 0; segments = h.0.segments }, ((λ l. refl), h.1.1), renumbered demanded p h.0 0 b k h.2);
        from = λ b k h. (record { functions = counts.functions; segments = h.0.segments }, (refl, h.1.1), renumbered demanded p h.0 counts.functions b k h.2);
      }))

  code_other : (counts : Counts) (more v : ℕ) → (v ≡ counts.functions → ⊥) → Same demanded (ForSome (KnownIn demanded 11 counts) (λ f. Then (Sized demanded more (ListOf section_kind.Code f v)) (After section_kind.Code f))) Never
  code_other counts more v ne =
      some_never demanded (KnownIn demanded 11 counts) (λ f. Then (Sized demanded more (ListOf section_kind.Code f v)) (After section_kind.Code f)) (λ f k.
      never_then demanded (Sized demanded more (ListOf section_kind.Code f v)) (After section_kind.Code f) (record {
        to = λ s b m h. ne (h.1.0 s ∙ k.0 (omega arith));
        from = λ b m h. absurd h;
      }))

  function_read : (counts : Counts) (more v : ℕ)
      → Same demanded (ForSome (KnownIn demanded 3 counts) (λ f. Then (Sized demanded more (ListOf section_kind.Function f v)) (After section_kind.Function f))) (Then (Sized demanded more (Times v (OneOf demanded p section_kind.Function))) (Later 3 (counts_in section_kind.Function counts v)))
  function_read counts more v =
      some_read demanded (KnownIn demanded 3 counts) (Known demanded 3 (counts_in section_kind.Function counts v)) (λ f. f.functions) v more (Times v (OneOf demanded p section_kind.Function)) (After section_kind.Function)
      (λ f k e. ((λ l. sym e), k.1))
      (λ f d. (((λ l. absurd (omega (arith, l))), d.1), (λ s. sym (d.0 (omega arith)))))

  -- once the number of data segments was given, and once they were counted
  number_read : (counts : Counts) (more v : ℕ) → counts.segments ≡ None
      → Same demanded (ForSome (KnownIn demanded 10 counts) (λ f. Then (Sized demanded more (ListOf section_kind.DataCount f v)) (After section_kind.DataCount f))) (Then (Sized demanded more Empty) (Later 10 (counts_in section_kind.DataCount counts v)))
  number_read counts more v none =
      some_read demanded (KnownIn demanded 10 counts) (Known demanded 10 (counts_in section_kind.DataCount counts v)) (λ f. f.segments) v more Empty (After section_kind.DataCount)
      (λ f k e. ((λ l. k.0 (omega arith)), (λ s. e)))
      (λ f d. (((λ l. d.0 (omega arith)), (λ s. subst (λ y. Agrees y f.segments) (sym none) tt)), d.1))

  segment_read : (counts : Counts) (more v : ℕ) → Agrees counts.segments v
      → Same demanded (ForSome (KnownIn demanded 12 counts) (λ f. Then (Sized demanded more (ListOf section_kind.Segment f v)) (After section_kind.Segment f))) (Then (Sized demanded more (Times v (OneOf demanded p section_kind.Segment))) (Later 12 (counts_in section_kind.Segment counts v)))
  segment_read counts more v agrees =
      let X : MarkedForm = Times v (OneOf demanded p section_kind.Segment) in
      let D : ModuleCounts → Type 0 = λ f. (f.functions ≡ counts.functions) × (v ≡ f.segments) in
      let Q : ModuleCounts → MarkedForm = After section_kind.Segment in
      same_then demanded (ForSome (KnownIn demanded 12 counts) (λ f. Then (Sized demanded more (Where (demanded → v ≡ f.segments) X)) (Q f))) (Then (Sized demanded more X) (ForSome D Q)) (Then (Sized demanded more X) (Later 12 (counts_in section_kind.Segment counts v)))
      (some_read demanded (KnownIn demanded 12 counts) D (λ f. f.segments) v more X Q (λ f k w. (k.0 (omega arith), w)) (λ f d. (((λ l. d.0), (λ s. subst (Agrees counts.segments) d.1 agrees)), (λ s. d.1))))
      (then_same demanded (Sized demanded more X) (ForSome D Q) (Sized demanded more X) (Later 12 (counts_in section_kind.Segment counts v)) (same_refl demanded (Sized demanded more X)) (record {
        to = λ s b k h. (h.0, ((λ l. h.1.0), (λ d. tt)), h.2);
        from = λ b k h. (record { functions = counts.functions; segments = v }, (refl, refl), h.2);
      }))

  segment_other : (counts : Counts) (more v : ℕ) → is_given counts.segments v ≡ false → Same demanded (ForSome (KnownIn demanded 12 counts) (λ f. Then (Sized demanded more (ListOf section_kind.Segment f v)) (After section_kind.Segment f))) Never
  segment_other counts more v other =
      some_never demanded (KnownIn demanded 12 counts) (λ f. Then (Sized demanded more (ListOf section_kind.Segment f v)) (After section_kind.Segment f)) (λ f k.
      never_then demanded (Sized demanded more (ListOf section_kind.Segment f v)) (After section_kind.Segment f) (record {
        to = λ s b m h. given_differs counts.segments v f.segments other (k.1 s) (h.1.0 s);
        from = λ b m h. absurd h;
      }))

  -- between sections
  none_rises : (last : ℕ) (counts : Counts) (m : ℕ) → (suc last ≤ rank_at (suc m) → rank_at (suc m) < suc last + (12 - last) → HasSection p (rank_at (suc m)) → ⊥) → Next demanded (Later last counts) (suc m) (outside_mark None) Never
  none_rises last counts m none = next_never demanded (Later last counts) (suc m) (outside_mark None) (λ s b k h. not_first demanded p h.0 (12 - last) (suc last) m b k none h.2)

  -- a section whose rank is above the last one
  abbrev Opens : (f : ModuleCounts) (last rank : ℕ) → Type 0
  Opens f last rank = Next demanded (Chain demanded p f (12 - last) (suc last)) (id_at rank) (outside_mark None) (Where (HasSection p rank × Missing f (suc last) rank) (InSection demanded p f rank (Chain demanded p f (12 - rank) (suc rank))))

  opens : (f : ModuleCounts) (last rank m : ℕ) → suc m ≡ id_at rank → last < rank → rank ≤ 12 → Opens f last rank
  opens f last rank m id above few =
      let e : rank ≡ suc last + (rank - suc last) = omega (arith, above) in
      let n : suc ((rank - suc last) + (12 - rank)) ≡ 12 - last = omega (arith, above, few) in
      let R : MarkedForm = Where (HasSection p rank × Missing f (suc last) rank) (InSection demanded p f rank (Chain demanded p f (12 - rank) (suc rank))) in
      subst (λ y. Next demanded (Chain demanded p f (12 - last) (suc last)) y (outside_mark None) R) id
      (subst (λ y. Next demanded (Chain demanded p f y (suc last)) (suc m) (outside_mark None) R) n (section_goes demanded p f (rank - suc last) (12 - rank) (suc last) rank m id e))

  opens_of : (of : SectionKind) (f : ModuleCounts) (last m : ℕ) → suc m ≡ id_of of → last < rank_of of → Opens f last (rank_of of)
  opens_of of f last m e above = opens f last (rank_of of) m e above (rank_few of)

  -- what is known where it opens
  module _ (last : ℕ) (counts : Counts) (rank : ℕ) (few : rank ≤ 12) (fits : FitsAt last counts) (above : last < rank) (late : 11 < rank → counts.functions ≡ 0) where
    known_in : (f : ModuleCounts) → Known demanded last counts f → Missing f (suc last) rank → KnownIn demanded rank counts f
    known_in f k miss = (functions, k.1)
      where
        functions : 3 < rank → f.functions ≡ counts.functions
        functions l = elim (below_or last 3) [
          | inl few ↦ (miss 3 (omega (arith, few)) l).0 (inl refl) ∙ sym (fits.0 few)
          | inr a ↦ k.0 a
        ]

    none_left : (f : ModuleCounts) → KnownIn demanded rank counts f → Missing f (suc last) rank
    none_left f k i low high = (
      λ e. elim e [
        | inl a ↦ k.0 (omega (arith, a, high)) ∙ fits.0 (omega (arith, a, low))
        | inr a ↦ k.0 (omega (arith, a, high)) ∙ late (omega (arith, a, high))
      ],
      λ e. absurd (omega (arith, e, high, few)),
    )

    known_before : (f : ModuleCounts) → KnownIn demanded rank counts f → Known demanded last counts f
    known_before f k = ((λ l. k.0 (omega (arith, l, above))), k.1)

  size_opens : (of : SectionKind) (last : ℕ) (counts : Counts) (m : ℕ) → suc m ≡ id_of of → HasSection p (rank_of of) → FitsAt last counts → last < rank_of of → (11 < rank_of of → counts.functions ≡ 0) → Next demanded (Later last counts) (id_of of) (outside_mark None) (MachineRest (machine.Size of counts fresh) [])
  size_opens of last counts m e there fits above late =
      let few : rank_of of ≤ 12 = rank_few of in
      let C : ModuleCounts → Type 0 = Known demanded last counts in
      let D : ModuleCounts → Type 0 = KnownIn demanded (rank_of of) counts in
      let M : ModuleCounts → Type 0 = λ f. HasSection p (rank_of of) × Missing f (suc last) (rank_of of) in
      let Q : ModuleCounts → MarkedForm = λ f. Counted (Left fresh) nothing_at (InSize of f) in
      next_to demanded (Later last counts) (ForSome C (λ f. Where (M f) (Q f))) (ForSome D Q) (id_of of) (outside_mark None)
      (some_where demanded C D M Q (λ f k miss. known_in last counts (rank_of of) few fits above late f k miss.1) (λ f k. (known_before last counts (rank_of of) few fits above late f k, (there, none_left last counts (rank_of of) few fits above late f k))))
      (some_next demanded C (λ f. Chain demanded p f (12 - last) (suc last)) (λ f. Where (M f) (Q f)) (id_of of) (outside_mark None) (λ f. opens_of of f last m e above))

  -- no code can come after data
  no_code : (last : ℕ) (counts : Counts) (n m : ℕ) → counts.functions ≡ suc n → suc m ≡ 11 → FitsAt last counts → last < 12 → Next demanded (Later last counts) 11 (outside_mark None) Never
  no_code last counts n m is e fits above = next_never demanded (Later last counts) 11 (outside_mark None) (λ s b k h.
      elim (below_or last 3) [
        | inl few ↦ let z = fits.0 few in omega (arith, z, is)
        | inr known ↦ elim (below_or last 11) [
          | inr late ↦ let z = fits.1 late in omega (arith, z, is)
          | inl early ↦
              let g = (opens_of section_kind.Segment h.0 last m e above).to s b k h.2 in
              let z : h.0.functions ≡ 0 = (g.2.0.1 11 (omega (arith, early)) (omega arith)).0 (inr refl) in
              let y : h.0.functions ≡ counts.functions = h.1.0 known in
              omega (arith, y, z, is)
        ]
      ])

  begun : (of : SectionKind) (last : ℕ) (counts : Counts) (m : ℕ) (so_far : List ℕ) → suc m ≡ id_of of → HasSection p (rank_of of) → FitsAt last counts → last < rank_of of → Continues (Later last counts) (id_of of) (listens so_far (id_of of) (begun_section of counts))
  begun section_kind.Segment last counts m so_far e there fits above = at_last counts.functions refl
    where
      at_last : (n : ℕ) → counts.functions ≡ n → Continues (Later last counts) 11 (listens so_far 11 (begun_last n counts))
      at_last zero is = size_opens section_kind.Segment last counts m e there fits above (λ l. is)
      at_last (suc n) is = no_code last counts n m is e fits above
  begun of last counts m so_far e there fits above = size_opens of last counts m e there fits above (λ l. absurd (omega (arith, l)))

  rises : (last : ℕ) (counts : Counts) (m : ℕ) (so_far : List ℕ) (q : Option SectionKind) → IsNamed p (suc m) q → FitsAt last counts → Continues (Later last counts) (suc m) (listens so_far (suc m) (machine_if_rising last counts q))
  rises last counts m so_far None unnamed_id fits = none_rises last counts m (λ low high there. unnamed_id (rank_at (suc m)) (omega (arith, low, high)) there (sym (id_of_rank (suc m))))
  rises last counts m so_far (Some of) named_id fits =
      let rank : rank_at (suc m) ≡ rank_of of = rank_is (suc m) (rank_of of) named_id.0 in
      cond_both (nat_le (rank_of of) last) _ _ (λ (q : Machine × Event). Continues (Later last counts) (suc m) (listens so_far (suc m) q))
      (λ a. let low : rank_of of ≤ last = leb-true (rank_of of) last a in none_rises last counts m (λ up high there. omega (arith, low, up, rank)))
      (λ a. subst (λ i. Continues (Later last counts) i (listens so_far i (begun_section of counts))) (sym named_id.0) (begun of last counts m so_far named_id.0 named_id.1 fits (leb-false (rank_of of) last a)))

  between : (last : ℕ) (counts : Counts) (so_far : List ℕ) (c : ℕ) → FitsAt last counts → Continues (Later last counts) c (listens so_far c (section_start p last counts c))
  between last counts so_far zero fits =
      let C : ModuleCounts → Type 0 = Known demanded last counts in
      let Q : ModuleCounts → MarkedForm = λ f. Chain demanded p f (12 - last) (suc last) in
      let N : ℕ → MarkedForm = λ n. Filled demanded n (Name demanded unnamed) in
      next_to demanded (Later last counts) (ForSome C (λ f. InCustomSection demanded p f (Q f))) (MachineRest (machine.CustomSize last counts fresh) []) 0 (outside_mark None)
      (same_then demanded (ForSome C (λ f. Counted (Left fresh) nothing_at (λ n. Then (N n) (Q f)))) (Counted (Left fresh) nothing_at (λ n. ForSome C (λ f. Then (N n) (Q f)))) (Counted (Left fresh) nothing_at (λ n. Then (N n) (Later last counts)))
      (some_counted demanded C (Left fresh) nothing_at (λ f n. Then (N n) (Q f)))
      (counted_same demanded (Left fresh) (Left fresh) nothing_at (λ n. ForSome C (λ f. Then (N n) (Q f))) (λ n. Then (N n) (Later last counts)) (λ n b. (λ h. h, λ h. h)) (λ n. some_then demanded C (N n) Q)))
      (some_next demanded C Q (λ f. InCustomSection demanded p f (Q f)) 0 (outside_mark None) (λ f. custom_next demanded p f (12 - last) last))
  between last counts so_far (suc m) fits = rises last counts m so_far (section_kind_of p (suc m)) (component_named p m) fits

  -- in the header
  literal_next : (d : ℕ) (text : List ℕ) → Next demanded (Literal (d ∷ text)) d (outside_mark None) (Literal text)
  literal_next d text = record {
    to = λ s b k h. (marks_ending None text, h.1 ∙ any_more demanded text d, (tail_same d d b text h.0, refl));
    from = λ b k g. (ap (λ y. d ∷ y) g.2.0, g.1 ∙ (ap (λ y. outside_mark None ∷ y) g.2.1 ∙ sym (any_more demanded text d)));
  }

  literal_none : (d c : ℕ) (text : List ℕ) → (c ≡ d → ⊥) → Next demanded (Literal (d ∷ text)) c (outside_mark None) Never
  literal_none d c text ne = next_never demanded (Literal (d ∷ text)) c (outside_mark None) (λ s b k h. ne (head_same c d b text h.0))

  literal_has : (d : ℕ) (text : List ℕ) → HasBytes demanded (Literal (d ∷ text))
  literal_has d text s k h = not_nil d text (sym h.0)

  header_cut : (n : ℕ) → n < 8 → drop n header ≡ get_or header n 0 ∷ drop (n + 1) header
  header_cut n h = rw add-one (drop-cons header n 0 h)

  header_first : (n c : ℕ) (x : Mark) (Q : MarkedForm) → n < 8 → Next demanded (Then (Literal (get_or header n 0 ∷ drop (n + 1) header)) (Later 0 no_counts)) c x Q → Next demanded (InHeader n) c x Q
  header_first n c x Q few h = record {
    to = λ s b k i. h.to s b k (subst (λ y. Then (Literal y) (Later 0 no_counts) (c ∷ b) k) (header_cut n few) i.1);
    from = λ b k g. (few, subst (λ y. Then (Literal y) (Later 0 no_counts) (c ∷ b) k) (sym (header_cut n few)) (h.from b k g));
  }

  header_more : (n : ℕ) → n < 8 → n < 7 → Next demanded (Then (Literal (get_or header n 0 ∷ drop (n + 1) header)) (Later 0 no_counts)) (get_or header n 0) (outside_mark None) (InHeader (n + 1))
  header_more n few fewer =
      let d : ℕ = get_or header n 0 in
      let later : List ℕ = drop (n + 1) header in
      let lt : n + 1 < 8 = omega arith in
      next_to demanded (Then (Literal (d ∷ later)) (Later 0 no_counts)) (Then (Literal later) (Later 0 no_counts)) (InHeader (n + 1)) d (outside_mark None)
      (record { to = λ s b k h. (lt, h); from = λ b k h. h.1 })
      (next_then demanded (Literal (d ∷ later)) (Later 0 no_counts) d (outside_mark None) (Literal later) (literal_next d later) (literal_has d later))

  header_last : (n : ℕ) → n < 8 → 7 ≤ n → Next demanded (Then (Literal (get_or header n 0 ∷ drop (n + 1) header)) (Later 0 no_counts)) (get_or header n 0) (outside_mark None) (Later 0 no_counts)
  header_last n few last =
      let e : n ≡ 7 = omega arith in
      rw e (ends_first demanded (Literal (0 ∷ [])) (Later 0 no_counts) (Later 0 no_counts) 0 (outside_mark None) (literal_next 0 []) (literal_has 0 []) (same_refl demanded (Later 0 no_counts)))

  in_header : (n : ℕ) (so_far : List ℕ) (c : ℕ) → Continues (InHeader n) c (listens so_far c (header_step n c))
  in_header n so_far c =
      let P : Machine × Event → Type 0 = λ q. Continues (InHeader n) c (listens so_far c q) in
      let d : ℕ = get_or header n 0 in
      let later : List ℕ = drop (n + 1) header in
      cond_both (nat_lt n 8) _ _ P
      (λ a. let few : n < 8 = ltb-true n 8 a in
      cond_both (nat_eq c d) _ _ P
      (λ e. rw (eqb-true c d e) (cond_both (nat_lt n 7) _ _ (λ (q : Machine × Event). Continues (InHeader n) d (listens so_far d q))
      (λ f. header_first n d (outside_mark None) (InHeader (n + 1)) few (header_more n few (ltb-true n 7 f)))
      (λ f. header_first n d (outside_mark None) (Later 0 no_counts) few (header_last n few (ltb-false n 7 f)))))
      (λ e. let halt : Next demanded (InHeader n) c (outside_mark None) Never = header_first n c (outside_mark None) Never few (fails_first demanded (Literal (d ∷ later)) (Later 0 no_counts) c (outside_mark None) (literal_none d c later (eqb-false c d e)) (literal_has d later)) in
      cond_both (nat_lt n 4) _ _ P (λ _. halt) (λ _. halt)))
      (λ a. next_never demanded (InHeader n) c (outside_mark None) (λ s b k h. omega (arith, ltb-false n 8 a, h.0)))

  in_header_has : (n : ℕ) → HasBytes demanded (InHeader n)
  in_header_has n s k h = then_has demanded (Literal (get_or header n 0 ∷ drop (n + 1) header)) (Later 0 no_counts) (literal_has (get_or header n 0) (drop (n + 1) header)) s k (subst (λ y. Then (Literal y) (Later 0 no_counts) [] k) (header_cut n h.0) h.1)

  -- a module as the machine sees it
  pub begin_to : (b : List ℕ) (k : Marks) → ModuleForm demanded p b k → StateRest state_at_start b k
  begin_to b k h =
      let few : 0 < 8 = omega arith in
      let t = h.1 in
      (few, record { front = t.front; back = t.back; front_marks = t.front_marks; back_marks = t.back_marks; bytes = t.bytes; marks = t.marks; first = t.first; second = (h.0, ((λ l. absurd (omega (arith, l))), (λ d. tt)), t.second) })

  pub begin_from : (b : List ℕ) (k : Marks) → StateRest state_at_start b k → ModuleForm demanded p b k
  begin_from b k h =
      let t = h.1 in let q = t.second in
      (q.0, record { front = t.front; back = t.back; front_marks = t.front_marks; back_marks = t.back_marks; bytes = t.bytes; marks = t.marks; first = t.first; second = q.2 })

  -- nothing may be left to come, if no function awaits its code; under `strict` no data segment was given either
  pub later_over : (last : ℕ) (counts : Counts) → counts.functions ≡ 0 → (demanded → Agrees counts.segments 0) → Later last counts [] []
  later_over last counts none agrees =
      let no : ModuleCounts = record { functions = 0; segments = 0 } in
      (no, ((λ l. sym none), agrees), over demanded p no (12 - last) (suc last) (λ i. ((λ e. refl), (λ e. refl))))

  pub may_end : (m : Machine) (so_far : List ℕ) → MayEnd m → MachineRest m so_far [] []
  may_end (machine.Between last counts) so_far i = later_over last counts i.0 (λ d. i.1)
  may_end m so_far i = absurd i

  -- no function awaits its code where a module ends, and no data segment was given that did not come
  end_known : demanded → (last : ℕ) (counts : Counts) → FitsAt last counts → (f : ModuleCounts) → Known demanded last counts f → Missing f (suc last) (suc last + (12 - last)) → MayEnd (machine.Between last counts)
  end_known d last counts fits f k miss = (functions, segments)
    where
      functions : counts.functions ≡ 0
      functions = elim (below_or last 3) [
        | inl few ↦ fits.0 few
        | inr known ↦ elim (below_or last 11) [
          | inr late ↦ fits.1 late
          | inl early ↦ sym (k.0 known) ∙ (miss 11 (omega (arith, early)) (omega (arith, early))).0 (inr refl)
        ]
      ]

      segments : Agrees counts.segments 0
      segments = elim (below_or last 12) [
        | inr late ↦ subst (λ y. Agrees y 0) (sym (fits.3 late)) tt
        | inl early ↦ subst (Agrees counts.segments) ((miss 12 (omega (arith, early)) (omega (arith, early))).1 refl) (k.1 d)
      ]

  -- where a member begins
  pub begin_at : (of : SectionKind) (y : List ℕ) → Same demanded (OneOf demanded p of) (ComponentRest demanded p (begin_component of) y)
  begin_at section_kind.Type y = begin_same demanded p section_kind.Type
  begin_at section_kind.Import y = begin_same demanded p section_kind.Import
  begin_at section_kind.Function y = begin_same demanded p section_kind.Function
  begin_at section_kind.Table y = begin_same demanded p section_kind.Table
  begin_at section_kind.Memory y = begin_same demanded p section_kind.Memory
  begin_at section_kind.Global y = begin_same demanded p section_kind.Global
  begin_at section_kind.Export y = begin_same demanded p section_kind.Export
  begin_at section_kind.Start y = begin_same demanded p section_kind.Start
  begin_at section_kind.Element y = begin_same demanded p section_kind.Element
  begin_at section_kind.DataCount y = begin_same demanded p section_kind.DataCount
  begin_at section_kind.Code y = begin_same demanded p section_kind.Code
  begin_at section_kind.Segment y = begin_same demanded p section_kind.Segment

  pub one_has : (of : SectionKind) → HasBytes demanded (OneOf demanded p of)
  one_has of = has_same (OneOf demanded p of) (ComponentRest demanded p (begin_component of) []) (begin_same demanded p of) (component_has demanded p 0 (begin_component of) [] (can_begin p 0 (omega arith) of))

  -- in a section
  abbrev Rest : SectionKind → ℕ → ℕ → InMember → List ℕ → Counts → MarkedForm
  Rest of more left q y counts = Then (Sized demanded more (Within of left q y)) (Later (rank_of of) counts)

  frame_same : (of : SectionKind) (counts : Counts) (more left : ℕ) (q : InMember) (y : List ℕ) → more < 2 ^ 32 → MayGo p more q → Same demanded (Rest of more left q y counts) (MachineRest (machine_in_member of counts more left q) y)
  frame_same of counts more left (at.Failed w) y few go =
      let T : MarkedForm = Times left (OneOf demanded p of) in
      never_then demanded (Sized demanded more (Then Never T)) (Later (rank_of of) counts)
      (same_then demanded (Sized demanded more (Then Never T)) (Sized demanded more Never) Never (sized_same demanded (Then Never T) Never more (never_then demanded Never T (same_refl demanded Never))) (sized_never demanded more))
  frame_same of counts zero zero at.Over y few go =
      let L : MarkedForm = Later (rank_of of) counts in
      let E : MarkedForm = Then Empty Empty in
      same_then demanded (Then (Sized demanded 0 E) L) (Then Empty L) L
      (then_same demanded (Sized demanded 0 E) L Empty L
      (same_then demanded (Sized demanded 0 E) (Sized demanded 0 Empty) Empty (sized_same demanded E Empty 0 (empty_then demanded Empty)) (sized_empty demanded)) (same_refl demanded L))
      (empty_then demanded L)
  frame_same of counts (suc n) zero at.Over y few go =
      let E : MarkedForm = Then Empty Empty in
      never_then demanded (Sized demanded (suc n) E) (Later (rank_of of) counts)
      (same_then demanded (Sized demanded (suc n) E) (Sized demanded (suc n) Empty) Never (sized_same demanded E Empty (suc n) (empty_then demanded Empty)) (sized_over demanded n))
  frame_same of counts zero (suc l) at.Over y few go =
      let T : MarkedForm = Then (OneOf demanded p of) (Times l (OneOf demanded p of)) in
      never_then demanded (Sized demanded 0 (Then Empty T)) (Later (rank_of of) counts)
      (sized_none demanded (Then Empty T) (has_same (Then Empty T) T (empty_then demanded T) (then_has demanded (OneOf demanded p of) (Times l (OneOf demanded p of)) (one_has of))))
  frame_same of counts (suc n) (suc l) at.Over y few go =
      let L : MarkedForm = Later (rank_of of) counts in
      let T : MarkedForm = Times l (OneOf demanded p of) in
      let O : MarkedForm = Then (OneOf demanded p of) T in
      let B : MarkedForm = ComponentRest demanded p (begin_component of) y in
      then_same demanded (Sized demanded (suc n) (Then Empty O)) L (Sized demanded (suc n) (Then B T)) L
      (sized_same demanded (Then Empty O) (Then B T) (suc n) (same_then demanded (Then Empty O) O (Then B T) (empty_then demanded O) (then_same demanded (OneOf demanded p of) T B T (begin_at of y) (same_refl demanded T))))
      (same_refl demanded L)
  frame_same of counts zero left q y few go =
      never_then demanded (Sized demanded 0 (Within of left q y)) (Later (rank_of of) counts)
      (sized_none demanded (Within of left q y) (then_has demanded (ComponentRest demanded p q y) (Times left (OneOf demanded p of)) (component_has demanded p 0 q y go)))
  frame_same of counts (suc n) left q y few go = same_refl demanded (MachineRest (machine.Section of counts n left q) y)

  in_section : (of : SectionKind) (counts : Counts) (more left : ℕ) (q : InMember) (so_far : List ℕ) (c : ℕ) → c < 2 ^ 8 → Fits p (machine.Section of counts more left q)
      → Continues (MachineRest (machine.Section of counts more left q) so_far) c (byte_read machine.Refused (zone_in q) so_far c (step_of p (machine.Section of counts more left q) c))
  in_section of counts more left q so_far c byte fits =
      let P : MarkedForm = ComponentRest demanded p q so_far in
      let T : MarkedForm = Times left (OneOf demanded p of) in
      let L : MarkedForm = Later (rank_of of) counts in
      let F : MarkedForm = Then (Sized demanded (suc more) (Then P T)) L in
      let few : more < 2 ^ 32 = (let l = fits.1 in omega (arith, l)) in
      lifted at.Failed (ComponentRest demanded p) (machine_in_member of counts more left) (λ w. refl) (MayGo p more) (λ w. tt) P F (zone_in q) so_far c
      (λ m x y i h.
      let R : MarkedForm = ComponentRest demanded p m y in
      next_to demanded F (Then (Sized demanded more (Then R T)) L) (MachineRest (machine_in_member of counts more left m) y) c x (frame_same of counts more left m y few i)
      (next_then demanded (Sized demanded (suc more) (Then P T)) L c x (Sized demanded more (Then R T))
      (sized_next demanded (Then P T) (Then R T) more c x (next_then demanded P T c x R h (component_has demanded p (suc more) q so_far fits.2))) (sized_has demanded (Then P T) more)))
      (member_step p q c).0 (member_step p q c).1 (can_go_on p more q c byte fits.2) (component_follows demanded p more q so_far c fits.2 byte)

  -- at the count of its members
  listed_same : (of : SectionKind) (counts : Counts) (more n : ℕ) → more < 2 ^ 32 → Same demanded (Then (Sized demanded more (Times n (OneOf demanded p of))) (Later (rank_of of) counts)) (MachineRest (machine_after_count of counts more n) [])
  listed_same of counts more zero few =
      let L : MarkedForm = Later (rank_of of) counts in
      let E : MarkedForm = Then Empty Empty in
      same_then demanded (Then (Sized demanded more Empty) L) (Then (Sized demanded more E) L) (MachineRest (machine_after_count of counts more zero) [])
      (then_same demanded (Sized demanded more Empty) L (Sized demanded more E) L (sized_same demanded Empty E more (then_empty demanded Empty)) (same_refl demanded L))
      (frame_same of counts more zero at.Over [] few tt)
  listed_same of counts more (suc n) few =
      let L : MarkedForm = Later (rank_of of) counts in
      let O : MarkedForm = OneOf demanded p of in
      let B : MarkedForm = ComponentRest demanded p (begin_component of) [] in
      let T : MarkedForm = Times n O in
      same_then demanded (Then (Sized demanded more (Then O T)) L) (Then (Sized demanded more (Then B T)) L) (MachineRest (machine_after_count of counts more (suc n)) [])
      (then_same demanded (Sized demanded more (Then O T)) L (Sized demanded more (Then B T)) L (sized_same demanded (Then O T) (Then B T) more (then_same demanded O T B T (begin_same demanded p of) (same_refl demanded T))) (same_refl demanded L))
      (frame_same of counts more n (begin_component of) [] few (may_begin p more few of))

  abbrev Read : SectionKind → (counts : Counts) (more v : ℕ) → MarkedForm
  Read of counts more v = ForSome (KnownIn demanded (rank_of of) counts) (λ f. Then (Sized demanded more (ListOf of f v)) (After of f))

  abbrev AllOf : SectionKind → (counts : Counts) (more v : ℕ) → MarkedForm
  AllOf of counts more v = Then (Sized demanded more (Times v (OneOf demanded p of))) (Later (rank_of of) counts)

  counted_as : (of : SectionKind) (counts : Counts) (more v : ℕ) → FitsIn (rank_of of) counts → more < 2 ^ 32 → Same demanded (Read of counts more v) (MachineRest (machine_after_paired_count of counts more v) [])
  counted_as section_kind.Function counts more v fits few =
      same_then demanded (Read section_kind.Function counts more v) (AllOf section_kind.Function (counts_in section_kind.Function counts v) more v) (MachineRest (machine_after_count section_kind.Function (counts_in section_kind.Function counts v) more v) [])
      (function_read counts more v) (listed_same section_kind.Function (counts_in section_kind.Function counts v) more v few)
  counted_as section_kind.DataCount counts more v fits few =
      same_then demanded (Read section_kind.DataCount counts more v) (AllOf section_kind.DataCount (counts_in section_kind.DataCount counts v) more zero) (MachineRest (machine_after_count section_kind.DataCount (counts_in section_kind.DataCount counts v) more zero) [])
      (number_read counts more v (fits.2 (omega arith))) (listed_same section_kind.DataCount (counts_in section_kind.DataCount counts v) more zero few)
  counted_as section_kind.Code counts more v fits few =
      cond_both (nat_eq v counts.functions) _ _ (λ (m : Machine). Same demanded (Read section_kind.Code counts more v) (MachineRest m []))
      (λ a. same_then demanded (Read section_kind.Code counts more v) (AllOf section_kind.Code (counts_in section_kind.Code counts v) more v) (MachineRest (machine_after_count section_kind.Code (counts_in section_kind.Code counts v) more v) [])
      (code_read counts more v (eqb-true v counts.functions a)) (listed_same section_kind.Code (counts_in section_kind.Code counts v) more v few))
      (λ a. code_other counts more v (eqb-false v counts.functions a))
  counted_as section_kind.Segment counts more v fits few =
      cond_both (is_given counts.segments v) _ _ (λ (m : Machine). Same demanded (Read section_kind.Segment counts more v) (MachineRest m []))
      (λ a. same_then demanded (Read section_kind.Segment counts more v) (AllOf section_kind.Segment (counts_in section_kind.Segment counts v) more v) (MachineRest (machine_after_count section_kind.Segment (counts_in section_kind.Segment counts v) more v) [])
      (segment_read counts more v (given_agrees counts.segments v a)) (listed_same section_kind.Segment (counts_in section_kind.Segment counts v) more v few))
      (λ a. segment_other counts more v a)
  counted_as of counts more v fits few =
      same_then demanded (Read of counts more v) (AllOf of (counts_in of counts v) more v) (MachineRest (machine_after_count of (counts_in of counts v) more v) [])
      (list_read of counts more v (λ e. omega (arith, e))) (listed_same of (counts_in of counts v) more v few)

  -- what the last byte of the number completes
  counted_item : (of : SectionKind) (F : MarkedForm) (so_far : List ℕ) (c : ℕ) (m : Machine) (v : ℕ) → Next demanded F c (outside_mark (count_item of v)) (MachineRest m []) → Continues F c (listens so_far c (m, count_event of v))
  counted_item section_kind.DataCount F so_far c m v h = h
  counted_item of F so_far c m v h = h

  module _ (of : SectionKind) (counts : Counts) (more : ℕ) (r : Partial) (so_far : List ℕ) (c : ℕ) (x : Mark) where
    abbrev AtCount : MarkedForm
    AtCount = MachineRest (machine.Count of counts more r) so_far

    count_next : (X : ModuleCounts → MarkedForm) → ((f : ModuleCounts) → Next demanded (Listed of r f) c x (X f)) → Next demanded AtCount c x (ForSome (KnownIn demanded (rank_of of) counts) (λ f. Then (Sized demanded more (X f)) (After of f)))
    count_next X h =
        some_next demanded (KnownIn demanded (rank_of of) counts) (λ f. Then (Sized demanded (suc more) (Listed of r f)) (After of f)) (λ f. Then (Sized demanded more (X f)) (After of f)) c x
        (λ f. next_then demanded (Sized demanded (suc more) (Listed of r f)) (After of f) c x (Sized demanded more (X f)) (sized_next demanded (Listed of r f) (X f) more c x (h f)) (sized_has demanded (Listed of r f) more))

    count_ends : (X : ModuleCounts → MarkedForm) → ((f : ModuleCounts) → Next demanded (Listed of r f) c x (X f)) → ((f : ModuleCounts) → Same demanded (Sized demanded more (X f)) Never) → Next demanded AtCount c x Never
    count_ends X h never =
        next_to demanded AtCount (ForSome (KnownIn demanded (rank_of of) counts) (λ f. Then (Sized demanded more (X f)) (After of f))) Never c x
        (some_never demanded (KnownIn demanded (rank_of of) counts) (λ f. Then (Sized demanded more (X f)) (After of f)) (λ f k. never_then demanded (Sized demanded more (X f)) (After of f) (never f)))
        (count_next X h)

  abbrev CountAt : SectionKind → Counts → ℕ → Partial → List ℕ → MarkedForm
  CountAt of counts more r so_far = MachineRest (machine.Count of counts more r) so_far

  count_follows : (of : SectionKind) (counts : Counts) (more : ℕ) (r : Partial) (so_far : List ℕ) (c : ℕ) (q : Step ℕ × Partial) → FitsIn (rank_of of) counts → suc more < 2 ^ 32 → ((f : ModuleCounts) → CountedNext demanded (count_item of) (ListOf of f) r c q)
      → Continues (CountAt of counts more r so_far) c (listens so_far c (after_count of counts more q))
  count_follows of counts zero r so_far c (More, s) fits few h = count_ends of counts 0 r so_far c (outside_mark None) (Listed of s) h (λ f. sized_none demanded (Listed of s f) (counted_has demanded (count_item of) (ListOf of f) s))
  count_follows of counts (suc n) r so_far c (More, s) fits few h = count_next of counts (suc n) r so_far c (outside_mark None) (Listed of s) h
  count_follows of counts more r so_far c (Done v, s) fits few h =
      let x : Mark = outside_mark (count_item of v) in
      counted_item of (CountAt of counts more r so_far) so_far c (machine_after_paired_count of counts more v) v
      (next_to demanded (CountAt of counts more r so_far) (Read of counts more v) (MachineRest (machine_after_paired_count of counts more v) []) c x (counted_as of counts more v fits (omega (arith, few)))
      (count_next of counts more r so_far c x (λ f. ListOf of f v) h))
  count_follows of counts more r so_far c (Bad, s) fits few h = count_ends of counts more r so_far c (outside_mark None) (λ f. Never) h (λ f. sized_never demanded more)

  -- at its size
  contents_has : (of : SectionKind) (f : ModuleCounts) → HasBytes demanded (Contents demanded p f (rank_of of))
  contents_has section_kind.Start f = one_has section_kind.Start
  contents_has of f = has_same (Contents demanded p f (rank_of of)) (Listed of fresh f) (contents_same of f) (counted_has demanded (count_item of) (ListOf of f) fresh)

  size_same : (of : SectionKind) (counts : Counts) (n : ℕ) → Same demanded (ForSome (KnownIn demanded (rank_of of) counts) (λ f. InSize of f n)) (MachineRest (after_size of counts n) [])
  size_same of counts zero =
      some_never demanded (KnownIn demanded (rank_of of) counts) (λ f. InSize of f 0) (λ f k.
      never_then demanded (Sized demanded 0 (Contents demanded p f (rank_of of))) (After of f) (sized_none demanded (Contents demanded p f (rank_of of)) (contents_has of f)))
  size_same section_kind.Start counts (suc n) =
      let O : MarkedForm = OneOf demanded p section_kind.Start in
      let B : MarkedForm = ComponentRest demanded p (begin_component section_kind.Start) [] in
      let C : ModuleCounts → Type 0 = KnownIn demanded 8 counts in
      let D : ModuleCounts → Type 0 = Known demanded 8 counts in
      let Q : ModuleCounts → MarkedForm = After section_kind.Start in
      same_then demanded (ForSome C (λ f. Then (Sized demanded (suc n) O) (Q f))) (Then (Sized demanded (suc n) O) (ForSome C Q)) (Then (Sized demanded (suc n) (Then B Empty)) (ForSome D Q))
      (some_then demanded C (Sized demanded (suc n) O) Q)
      (then_same demanded (Sized demanded (suc n) O) (ForSome C Q) (Sized demanded (suc n) (Then B Empty)) (ForSome D Q)
      (sized_same demanded O (Then B Empty) (suc n) (same_then demanded O B (Then B Empty) (begin_same demanded p section_kind.Start) (then_empty demanded B)))
      (some_known demanded C D Q (λ f k. ((λ l. k.0 (omega arith)), k.1)) (λ f k. ((λ l. k.0 (omega arith)), k.1))))
  size_same of counts (suc n) =
      some_same demanded (KnownIn demanded (rank_of of) counts) (λ f. InSize of f (suc n)) (λ f. Then (Sized demanded (suc n) (Listed of fresh f)) (After of f)) (λ f.
      then_same demanded (Sized demanded (suc n) (Contents demanded p f (rank_of of))) (After of f) (Sized demanded (suc n) (Listed of fresh f)) (After of f)
      (sized_same demanded (Contents demanded p f (rank_of of)) (Listed of fresh f) (suc n) (contents_same of f)) (same_refl demanded (After of f)))

  abbrev AtSize : SectionKind → Counts → Partial → MarkedForm
  AtSize of counts r = ForSome (KnownIn demanded (rank_of of) counts) (λ f. Counted (Left r) nothing_at (InSize of f))

  sizes : (of : SectionKind) (counts : Counts) (r : Partial) (so_far : List ℕ) (c : ℕ) (q : Step ℕ × Partial) → ((f : ModuleCounts) → CountedNext demanded nothing_at (InSize of f) r c q)
      → Continues (AtSize of counts r) c (listens so_far c (on_number q (λ s. machine.Size of counts s) (λ n. (after_size of counts n, event.Nothing)) machine.Refused))
  sizes of counts r so_far c (More, s) h =
      some_next demanded (KnownIn demanded (rank_of of) counts) (λ f. Counted (Left r) nothing_at (InSize of f)) (λ f. Counted (Left s) nothing_at (InSize of f)) c (outside_mark None) h
  sizes of counts r so_far c (Done v, s) h =
      next_to demanded (AtSize of counts r) (ForSome (KnownIn demanded (rank_of of) counts) (λ f. InSize of f v)) (MachineRest (after_size of counts v) []) c (outside_mark None) (size_same of counts v)
      (some_next demanded (KnownIn demanded (rank_of of) counts) (λ f. Counted (Left r) nothing_at (InSize of f)) (λ f. InSize of f v) c (outside_mark None) h)
  sizes of counts r so_far c (Bad, s) h = some_none demanded (KnownIn demanded (rank_of of) counts) (λ f. Counted (Left r) nothing_at (InSize of f)) c (outside_mark None) h

  -- each byte goes on with what may still come
  pub machine_follows : (m : Machine) (so_far : List ℕ) (c : ℕ) → c < 2 ^ 8 → Fits p m → Continues (MachineRest m so_far) c (byte_read machine.Refused (zone_of m) so_far c (step_of p m c))
  machine_follows (machine.Header n) so_far c byte fits = in_header n so_far c
  machine_follows (machine.Between last counts) so_far c byte fits = between last counts so_far c fits
  machine_follows (machine.CustomSize last counts r) so_far c byte fits = custom_sizes last counts r so_far c (unsigned_push 32 r c) (counted_next demanded nothing_at (InCustoms last counts) r c byte)
  machine_follows (machine.Custom last counts more q) so_far c byte fits = in_custom last counts more q so_far c byte
  machine_follows (machine.Size of counts r) so_far c byte fits = sizes of counts r so_far c (unsigned_push 32 r c) (λ f. counted_next demanded nothing_at (InSize of f) r c byte)
  machine_follows (machine.Count of counts more r) so_far c byte fits = count_follows of counts more r so_far c (unsigned_push 32 r c) fits.1 fits.2 (λ f. counted_next demanded (count_item of) (ListOf of f) r c byte)
  machine_follows (machine.Section of counts more left q) so_far c byte fits = in_section of counts more left q so_far c byte fits
  machine_follows (machine.Refused w) so_far c byte fits = next_never demanded Never c (outside_mark None) (λ s b k h. h)

  pub ends : demanded → (m : Machine) (so_far : List ℕ) (k : Marks) → Fits p m → MachineRest m so_far [] k → (k ≡ []) × MayEnd m
  ends s (machine.Header n) so_far k fits h = absurd (in_header_has n s k h)
  ends s (machine.Between last counts) so_far k fits h =
      let r = over_missing demanded p h.0 (12 - last) (suc last) k h.2 in
      (r.0, end_known s last counts fits h.0 h.1 r.1)
  ends s (machine.CustomSize last counts r) so_far k fits h = absurd (counted_has demanded nothing_at (InCustoms last counts) r s k h)
  ends s (machine.Custom last counts more q) so_far k fits h = absurd (then_has demanded (CustomRest demanded (suc more) q so_far) (Later last counts) (custom_has demanded more q so_far) s k h)
  ends s (machine.Size of counts r) so_far k fits h = absurd (counted_has demanded nothing_at (InSize of h.0) r s k h.2)
  ends s (machine.Count of counts more r) so_far k fits h = absurd (then_has demanded (Sized demanded (suc more) (Listed of r h.0)) (After of h.0) (sized_has demanded (Listed of r h.0) more) s k h.2)
  ends s (machine.Section of counts more left q) so_far k fits h = absurd (then_has demanded (Sized demanded (suc more) (Within of left q so_far)) (Later (rank_of of) counts) (sized_has demanded (Within of left q so_far) more) s k h)
  ends s (machine.Refused w) so_far k fits h = absurd h

  -- what a module that begins with these bytes is after them
  pub run_to : demanded → (s : MachineState) (b more : List ℕ) (k : Marks) → AreBytes b → Fits p s.machine → StateRest s (b ++ more) k → (later : Marks) × (k ≡ marks p s b ++ later) × StateRest (state_after p s b) more later
  run_to d s [] more k a fits h = (k, refl, h)
  run_to d s (c ∷ b) more k a fits h =
      let g = (machine_follows s.machine s.name c a.0 fits).to d (b ++ more) k h in
      let r = run_to d (after_byte p s c) b more g.0 a.1 (byte_fits p s c a.0 fits) g.2 in
      (r.0, g.1 ∙ ap (λ y. (read_byte p s c).mark ∷ y) r.1, r.2)

  pub run_from : (s : MachineState) (b more : List ℕ) (k : Marks) → AreBytes b → Fits p s.machine → StateRest (state_after p s b) more k → StateRest s (b ++ more) (marks p s b ++ k)
  run_from s [] more k a fits h = h
  run_from s (c ∷ b) more k a fits h =
      (machine_follows s.machine s.name c a.0 fits).from (b ++ more) ((read_byte p s c).mark ∷ (marks p (after_byte p s c) b ++ k))
      (marks p (after_byte p s c) b ++ k, refl, run_from (after_byte p s c) b more k a.1 (byte_fits p s c a.0 fits) h)
