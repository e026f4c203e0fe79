-- SectionEnd is given if the size of a section is used up and its contents are incomplete, or if they are complete and
-- bytes are left.
use Rattle.std.proofs.Common.{◌≡◌, ◌≢◌, ℕ, zero, suc, ◌<◌, ◌^◌, ◌⊎◌, inl, inr, List, [], ◌∷◌, ◌++◌, Option, Some, None, true, length, refl, sym, ◌∙◌, ap, subst, arith, nat_eq, nat_lt, nat_le, append_assoc}
use Rattle.std.proofs.lemmas.Bool.{cond_both}
use Rattle.std.specs.Prelude.{slice_index}
use Rattle.std.specs.Str.{is_utf8}
use Rattle.wm_syntax.specs.declared.numbers.Step.{Step}
use Rattle.wm_syntax.specs.declared.numbers.Step.TheVariants.{More, Done, Bad}
use Rattle.wm_syntax.specs.inner.Numbers.{Partial}
use Rattle.wm_syntax.specs.exact.Reading.{unsigned_push}
use Rattle.wm_syntax.specs.Spelling.{AreBytes}
use Rattle.wm_syntax.specs.Types.{SpellsU32}
use Rattle.wm_syntax.specs.declared.profile.Profile.{Profile}
use Rattle.wm_syntax.specs.declared.why.Why.{Why}
use Rattle.wm_syntax.specs.declared.why.Why.TheVariants as why
use Rattle.wm_machine.specs.declared.machine.Counts.{Counts}
use Rattle.wm_machine.specs.declared.machine.InCustom.{InCustom}
use Rattle.wm_machine.specs.declared.machine.InCustom.TheVariants as custom
use Rattle.wm_machine.specs.declared.machine.Machine.{Machine}
use Rattle.wm_machine.specs.declared.machine.Machine.TheVariants as machine
use Rattle.wm_machine.specs.declared.machine.Event.{Event}
use Rattle.wm_machine.specs.declared.machine.Event.TheVariants as event
use Rattle.wm_machine.specs.declared.machine.member.SectionKind.{SectionKind}
use Rattle.wm_machine.specs.declared.machine.member.SectionKind.TheVariants as section_kind
use Rattle.wm_machine.specs.declared.machine.member.InEntry.TheVariants as entry
use Rattle.wm_machine.specs.declared.machine.member.InMember.{InMember}
use Rattle.wm_machine.specs.declared.machine.member.InMember.TheVariants as at
use Rattle.wm_machine.specs.Items.{Zone, outside, Mark, Marks}
use Rattle.wm_machine.specs.MarkedForms.{MarkedForm, Empty, Then, Times, Counted, Sized, Filled, Name, nothing_at, outside_mark}
use Rattle.wm_machine.specs.Sections.{header}
use Rattle.wm_machine.specs.Grammar.{ModuleCounts, Items, ModuleForm, Chain, Section, loose, strict}
use Rattle.wm_machine.specs.Meanings.{CanGoOn, CanEnd, OtherSize}
use Rattle.wm_machine.specs.exact.Members.{id_of, rank_of, section_kind_of, member_at_start}
use Rattle.wm_machine.specs.exact.MemberSteps.{on_number, member_step}
use Rattle.wm_machine.specs.exact.Steps.{counts_in, is_given, begun_last, custom_after_length, machine_in_custom, custom_step, machine_in_member, machine_after_count, machine_after_paired_count, after_count, begun_section, machine_if_rising, section_start, machine_in_contents, after_size, custom_size, header_step, step_of}
use Rattle.wm_machine.specs.exact.Runs.{byte_read, ByteRead, MachineState, zone_in, zone_of, state_after, marks, state_at_start}
use Rattle.wm_machine.specs.exact.Live.{IsRefused}
use Rattle.wm_machine.proofs.FirstBytes.{Next}
use Rattle.wm_machine.proofs.Numbers.{Left}
use Rattle.wm_machine.proofs.Counts.{CountedNext, counted_next}
use Rattle.wm_machine.proofs.OpSound.{HasRoom, RoomAfter, unsigned_room}
use Rattle.wm_machine.proofs.MemberSound.{Stands, CanGo, MayGo, can_go_on}
use Rattle.wm_machine.proofs.MemberBytes.{OneOf, ComponentRest, component_follows}
use Rattle.wm_machine.proofs.MemberFloats.{IsWithin, not_past_end}
use Rattle.wm_machine.proofs.OpenMembers.{Comes, some_then, some_times, some_counted, some_filled, some_name, some_one, zero_u32}
use Rattle.wm_machine.proofs.Customs.{unnamed, CustomRest, custom_follows}
use Rattle.wm_machine.proofs.Chains.{left_out, over}
use Rattle.wm_machine.proofs.MachineStates.{Fits, FitsCustom, FineCustom, custom_fine}
use Rattle.wm_machine.proofs.WholeMachine.{count_item, freely, After, InSize, ListOf, Listed, Later, Within, MachineRest, begin_from, begin_to, machine_follows, run_from, run_to}
use Rattle.wm_machine.proofs.MachineAndSink.{begin_fits}
use Rattle.wm_machine.proofs.Fronts.{some_custom, some_listed, some_after, some_size, some_later}
use Rattle.wm_machine.proofs.FramedBytes.{InContents, Sizes, at_size, one_byte, Framed}
use Rattle.wm_machine.proofs.ItemFronts.{StandsAt, comes_at}
use Rattle.wm_machine.proofs.WrongMembers.{front_of}

-- a name that ends so is UTF-8
abbrev pub IsText : Event → List ℕ → Type 0
IsText (event.EndsName kind) text = is_utf8 text ≡ true
IsText e text = Unit {0}

pub heard_at : {M : Type 0} (fail : Why → M) (zone : Zone) (y : List ℕ) (c : ℕ) (m : M) (e : Event) → IsText e (y ++ c ∷ []) → (byte_read fail zone y c (m, e)).at ≡ m
heard_at fail zone y c m event.Nothing i = refl
heard_at fail zone y c m (event.Complete q) i = refl
heard_at fail zone y c m event.DataByte i = refl
heard_at fail zone y c m event.InName i = refl
heard_at fail zone y c m (event.EmptyName k) i = refl
heard_at fail zone y c m (event.EndsName k) i = rw i refl

-- this byte can stand next, and what is over with it is a module, or with an empty code section
abbrev IsEnd : List ℕ → Type 0
IsEnd rest = (rest ≡ []) ⊎ (rest ≡ 0x0A ∷ 0x01 ∷ 0x00 ∷ [])

module _ (c : ℕ) where
  abbrev Goes : MarkedForm → Type 0
  Goes P = (b : List ℕ) × (k : Marks) × P (c ∷ b) k

  abbrev Ends : MarkedForm → Type 0
  Ends P = (rest : List ℕ) × IsEnd rest × (k : Marks) × P (c ∷ rest) k

  next_goes : (P Q : MarkedForm) (m : Mark) → Next loose P c m Q → Comes Q → Goes P
  next_goes P Q m n q = (q.bytes, m ∷ q.marks, n.from q.bytes (m ∷ q.marks) (q.marks, refl, q.spelled))

  then_goes : (P Q : MarkedForm) → Goes P → Comes Q → Goes (Then P Q)
  then_goes P Q g q = (g.0 ++ q.bytes, g.1 ++ q.marks, record { front = c ∷ g.0; back = q.bytes; front_marks = g.1; back_marks = q.marks; bytes = refl; marks = refl; first = g.2; second = q.spelled })

  sized_goes : (n : ℕ) (P : MarkedForm) → Goes P → Goes (Sized loose n P)
  sized_goes n P g = (g.0, g.1, ((λ d. absurd d), g.2))

  -- where what is sized is over, and another part ends the module
  sized_ends : (n : ℕ) (P Q : MarkedForm) (m : Mark) → P (c ∷ []) (m ∷ []) → ((rest : List ℕ) × IsEnd rest × (k : Marks) × Q rest k) → Ends (Then (Sized loose n P) Q)
  sized_ends n P Q m h l = (l.0, l.1, m ∷ l.2, record { front = c ∷ []; back = l.0; front_marks = m ∷ []; back_marks = l.2; bytes = refl; marks = refl; first = ((λ d. absurd d), h); second = l.3 })

same_refused : (v w : Why) → machine.Refused v ≡ machine.Refused w → v ≡ w
same_refused v w e = cc

-- the end of a module, sizes, names and counts aside
module _ (p : Profile) (counts : Counts) where
  abbrev f : ModuleCounts
  f = freely counts

  abbrev code_bytes : List ℕ
  code_bytes = 0x0A ∷ 0x01 ∷ 0x00 ∷ []

  abbrev code_marks : Marks
  code_marks = outside_mark None ∷ outside_mark None ∷ outside_mark None ∷ []

  skip : (count id : ℕ) → id ≢ 3 → id ≢ 11 → (b : List ℕ) (k : Marks) → Chain loose p f count (suc id) b k → Chain loose p f (suc count) id b k
  skip count id x y b k h = left_out loose p f count id ((λ e. elim e [ inl a ↦ absurd (x a) | inr a ↦ absurd (y a) ]), (λ e. refl)) b k h

  over_code : Chain loose p f 1 12 [] []
  over_code = skip 0 12 (λ e. omega (arith, e)) (λ e. omega (arith, e)) [] [] (0, (refl, refl))

  from_code : Chain loose p f 2 11 code_bytes code_marks
  from_code = record {
    front = [];
    back = code_bytes;
    front_marks = [];
    back_marks = code_marks;
    bytes = refl;
    marks = refl;
    first = (0, (refl, refl));
    second = record { front = code_bytes; back = []; front_marks = code_marks; back_marks = []; bytes = refl; marks = refl; first = inl ((λ e. absurd (omega (arith, e))), no_code); second = over_code };
  }
    where
      one : SpellsU32 1 (1 ∷ [])
      one = inl (omega arith, omega arith, refl, refl)

      no_code : Section loose p f 11 code_bytes code_marks
      no_code = record {
        front = 0x0A ∷ [];
        back = 1 ∷ 0 ∷ [];
        front_marks = outside_mark None ∷ [];
        back_marks = outside_mark None ∷ outside_mark None ∷ [];
        bytes = refl;
        marks = refl;
        first = (refl, refl);
        second = record {
          n = 1;
          front = 1 ∷ [];
          back = 0 ∷ [];
          back_marks = outside_mark None ∷ [];
          bytes = refl;
          marks = refl;
          number = one;
          rest = ((λ d. absurd d), record { n = 0; front = 0 ∷ []; back = []; back_marks = []; bytes = refl; marks = refl; number = zero_u32; rest = ((λ d. absurd d), (refl, refl)) });
        };
      }

  from_10 : Chain loose p f 3 10 code_bytes code_marks
  from_10 = skip 2 10 (λ e. omega (arith, e)) (λ e. omega (arith, e)) code_bytes code_marks from_code

  from_9 : Chain loose p f 4 9 code_bytes code_marks
  from_9 = skip 3 9 (λ e. omega (arith, e)) (λ e. omega (arith, e)) code_bytes code_marks from_10

  from_8 : Chain loose p f 5 8 code_bytes code_marks
  from_8 = skip 4 8 (λ e. omega (arith, e)) (λ e. omega (arith, e)) code_bytes code_marks from_9

  from_7 : Chain loose p f 6 7 code_bytes code_marks
  from_7 = skip 5 7 (λ e. omega (arith, e)) (λ e. omega (arith, e)) code_bytes code_marks from_8

  from_6 : Chain loose p f 7 6 code_bytes code_marks
  from_6 = skip 6 6 (λ e. omega (arith, e)) (λ e. omega (arith, e)) code_bytes code_marks from_7

  from_5 : Chain loose p f 8 5 code_bytes code_marks
  from_5 = skip 7 5 (λ e. omega (arith, e)) (λ e. omega (arith, e)) code_bytes code_marks from_6

  from_4 : Chain loose p f 9 4 code_bytes code_marks
  from_4 = skip 8 4 (λ e. omega (arith, e)) (λ e. omega (arith, e)) code_bytes code_marks from_5

-- after a section
abbrev Closes : MarkedForm → Type 0
Closes Q = (rest : List ℕ) × IsEnd rest × (k : Marks) × Q rest k

-- no functions and no data segments
abbrev nothing : ModuleCounts
nothing = record { functions = 0; segments = 0 }

closing : (p : Profile) (of : SectionKind) (counts : Counts) → Closes (Later loose p (rank_of of) counts)
closing p section_kind.Type counts = ([], inl refl, [], (nothing, ((λ l. absurd (omega (arith, l))), (λ d. absurd d)), over loose p nothing 11 2 (λ i. ((λ e. refl), (λ e. refl)))))
closing p section_kind.Import counts = ([], inl refl, [], (nothing, ((λ l. absurd (omega (arith, l))), (λ d. absurd d)), over loose p nothing 10 3 (λ i. ((λ e. refl), (λ e. refl)))))
closing p section_kind.Function counts = (code_bytes p counts, inr refl, code_marks p counts, (freely counts, ((λ l. refl), (λ d. absurd d)), from_4 p counts))
closing p section_kind.Table counts = (code_bytes p counts, inr refl, code_marks p counts, (freely counts, ((λ l. refl), (λ d. absurd d)), from_5 p counts))
closing p section_kind.Memory counts = (code_bytes p counts, inr refl, code_marks p counts, (freely counts, ((λ l. refl), (λ d. absurd d)), from_6 p counts))
closing p section_kind.Global counts = (code_bytes p counts, inr refl, code_marks p counts, (freely counts, ((λ l. refl), (λ d. absurd d)), from_7 p counts))
closing p section_kind.Export counts = (code_bytes p counts, inr refl, code_marks p counts, (freely counts, ((λ l. refl), (λ d. absurd d)), from_8 p counts))
closing p section_kind.Start counts = (code_bytes p counts, inr refl, code_marks p counts, (freely counts, ((λ l. refl), (λ d. absurd d)), from_9 p counts))
closing p section_kind.Element counts = (code_bytes p counts, inr refl, code_marks p counts, (freely counts, ((λ l. refl), (λ d. absurd d)), from_10 p counts))
closing p section_kind.DataCount counts = (code_bytes p counts, inr refl, code_marks p counts, (freely counts, ((λ l. refl), (λ d. absurd d)), from_code p counts))
closing p section_kind.Code counts = ([], inl refl, [], (freely counts, ((λ l. refl), (λ d. absurd d)), over_code p counts))
closing p section_kind.Segment counts = ([], inl refl, [], (freely counts, ((λ l. refl), (λ d. absurd d)), (0, (refl, refl))))

-- where no size is looked at
header_not : (n c : ℕ) → (header_step n c).0 ≡ machine.Refused why.SectionEnd → ⊥
header_not n c =
    let P : Machine × Event → Type 0 = λ q. q.0 ≡ machine.Refused why.SectionEnd → ⊥ in
    cond_both (nat_lt n 8) _ _ P
    (λ _. cond_both (nat_eq c (slice_index header n)) _ _ P
    (λ _. cond_both (nat_lt n 7) _ _ P (λ _ e. cc) (λ _ e. cc))
    (λ _. cond_both (nat_lt n 4) _ _ P (λ _ e. cc) (λ _ e. cc)))
    (λ _ e. cc)

begun_not : (of : SectionKind) (counts : Counts) → (begun_section of counts).0 ≡ machine.Refused why.SectionEnd → ⊥
begun_not section_kind.Segment counts e = at_last counts.functions e
  where
    at_last : (n : ℕ) → (begun_last n counts).0 ≡ machine.Refused why.SectionEnd → ⊥
    at_last zero e = cc
    at_last (suc n) e = cc
begun_not of counts e = cc

rising_not : (last : ℕ) (counts : Counts) (q : Option SectionKind) → (machine_if_rising last counts q).0 ≡ machine.Refused why.SectionEnd → ⊥
rising_not last counts None e = cc
rising_not last counts (Some of) e =
    (cond_both (nat_le (rank_of of) last) _ _ (λ (q : Machine × Event). q.0 ≡ machine.Refused why.SectionEnd → ⊥) (λ _ e. cc) (λ _. begun_not of counts)) e

start_not : (p : Profile) (last : ℕ) (counts : Counts) (c : ℕ) → (section_start p last counts c).0 ≡ machine.Refused why.SectionEnd → ⊥
start_not p last counts zero e = cc
start_not p last counts (suc m) e = rising_not last counts (section_kind_of p (suc m)) e

contents_not : (of : SectionKind) (counts : Counts) (more : ℕ) → machine_in_contents of counts more ≡ machine.Refused why.SectionEnd → ⊥
contents_not section_kind.Start counts more e = cc
contents_not of counts more e = cc

custom_not : (q : InCustom) (c : ℕ) → FitsCustom q → (custom_step q c).0 ≡ custom.Failed why.SectionEnd → ⊥
custom_not (custom.Length r) c f e = go (unsigned_push 32 r c) e
  where
    go : (x : Step ℕ × Partial) → (on_number x custom.Length custom_after_length custom.Failed).0 ≡ custom.Failed why.SectionEnd → ⊥
    go (More, s) e = cc
    go (Done zero, s) e = cc
    go (Done (suc n), s) e = cc
    go (Bad, s) e = cc
custom_not (custom.Name zero) c f e = cc
custom_not (custom.Name (suc n)) c f e = cc
custom_not custom.Skip c f e = cc
custom_not (custom.Failed w) c f e = absurd f

-- a place where something may come is not over
within : (p : Profile) (left : ℕ) (q : InMember) → Stands p left q → IsWithin q
within p left (at.Constant of e) h = h.0
within p left (at.Entry more (entry.Body e)) h = h.1.0
within p left (at.Entry more q) h = tt
within p left at.Over h = h
within p left (at.Failed w) h = h
within p left q h = tt

-- where the count of the members is the last of the section
begun_end : (of : SectionKind) (counts : Counts) (m n : ℕ) → machine_in_member of counts (suc m) n (member_at_start of) ≡ machine.Refused why.SectionEnd → ⊥
begun_end section_kind.Type counts m n e = cc
begun_end section_kind.Import counts m n e = cc
begun_end section_kind.Function counts m n e = cc
begun_end section_kind.Table counts m n e = cc
begun_end section_kind.Memory counts m n e = cc
begun_end section_kind.Global counts m n e = cc
begun_end section_kind.Export counts m n e = cc
begun_end section_kind.Start counts m n e = cc
begun_end section_kind.Element counts m n e = cc
begun_end section_kind.DataCount counts m n e = cc
begun_end section_kind.Code counts m n e = cc
begun_end section_kind.Segment counts m n e = cc

listed_end : (of : SectionKind) (counts : Counts) (more n : ℕ) → machine_after_count of counts more n ≡ machine.Refused why.SectionEnd → (more ≡ 0) ⊎ (n ≡ 0)
listed_end of counts more zero e = inr refl
listed_end of counts zero (suc n) e = inl refl
listed_end of counts (suc m) (suc n) e = absurd (begun_end of counts m n e)

-- no member comes after this number
abbrev IsLast : SectionKind → ℕ → Type 0
IsLast section_kind.DataCount n = Unit {0}
IsLast of n = n ≡ 0

paired_end : (of : SectionKind) (counts : Counts) (more n : ℕ) → machine_after_paired_count of counts more n ≡ machine.Refused why.SectionEnd → (more ≡ 0) ⊎ IsLast of n
paired_end section_kind.Function counts more n e = listed_end section_kind.Function (counts_in section_kind.Function counts n) more n e
paired_end section_kind.DataCount counts more n e = inr tt
paired_end section_kind.Code counts more n e =
    (cond_both (nat_eq n counts.functions) _ _ (λ (m : Machine). m ≡ machine.Refused why.SectionEnd → (more ≡ 0) ⊎ (n ≡ 0)) (λ _. listed_end section_kind.Code (counts_in section_kind.Code counts n) more n) (λ _ e. absurd (cc))) e
paired_end section_kind.Segment counts more n e =
    (cond_both (is_given counts.segments n) _ _ (λ (m : Machine). m ≡ machine.Refused why.SectionEnd → (more ≡ 0) ⊎ (n ≡ 0)) (λ _. listed_end section_kind.Segment (counts_in section_kind.Segment counts n) more n) (λ _ e. absurd (cc))) e
paired_end of counts more n e = listed_end of (counts_in of counts n) more n e

none_listed : (p : Profile) (of : SectionKind) (f : ModuleCounts) → ListOf loose p of f 0 [] []
none_listed p section_kind.Function f = ((λ d. absurd d), (refl, refl))
none_listed p section_kind.DataCount f = ((λ d. absurd d), (refl, refl))
none_listed p section_kind.Code f = ((λ d. absurd d), (refl, refl))
none_listed p section_kind.Segment f = ((λ d. absurd d), (refl, refl))
none_listed p of f = (refl, refl)

last_listed : (p : Profile) (of : SectionKind) (f : ModuleCounts) (n : ℕ) → IsLast of n → ListOf loose p of f n [] []
last_listed p section_kind.DataCount f n i = ((λ d. absurd d), (refl, refl))
last_listed p of f n i = subst (λ m. ListOf loose p of f m [] []) (sym i) (none_listed p of f)

module _ (p : Profile) (c : ℕ) (byte : c < 2 ^ 8) where
  -- the size is used up, or bytes of it are left
  abbrev Cut : MarkedForm → List ℕ → Type 0
  Cut P used = ((last id : ℕ) × InContents last id 0 used × Goes c P) ⊎ ((last id n : ℕ) × InContents last id (suc n) used × Ends c P)

  -- in a section
  module _ (of : SectionKind) (counts : Counts) (q : InMember) (y : List ℕ) where
    abbrev Here : ℕ → ℕ → MarkedForm
    Here more left = MachineRest loose p (machine.Section of counts more left q) y

    in_section : (more left : ℕ) → Goes c (ComponentRest loose p q y) → Goes c (Here more left)
    in_section more left g =
        let T : MarkedForm = Times left (OneOf loose p of) in
        let W : MarkedForm = Within loose p of left q y in
        then_goes c (Sized loose (suc more) W) (Later loose p (rank_of of) counts) (sized_goes c (suc more) W (then_goes c (ComponentRest loose p q y) T g (some_times left (OneOf loose p of) (some_one p of)))) (some_later p (rank_of of) counts)

    ends_section : (more : ℕ) (m : Mark) → Next loose (ComponentRest loose p q y) c m Empty → Ends c (Here more zero)
    ends_section more m n =
        sized_ends c (suc more) (Within loose p of zero q y) (Later loose p (rank_of of) counts) m
        (record { front = c ∷ []; back = []; front_marks = m ∷ []; back_marks = []; bytes = refl; marks = refl; first = n.from [] (m ∷ []) ([], refl, (refl, refl)); second = (refl, refl) }) (closing p of counts)

    section_cut : (last more left : ℕ) (used : List ℕ) → InContents last (id_of of) more used → CanGo p (suc more) q → IsText (member_step p q c).1 (y ++ c ∷ []) → machine_in_member of counts more left (member_step p q c).0 ≡ machine.Refused why.SectionEnd → Cut (Here more left) used
    section_cut last more left used h can text e = go more left (member_step p q c).0 refl h e
      where
        read : ByteRead InMember
        read = byte_read at.Failed (zone_in q) y c (member_step p q c)

        same : read.at ≡ (member_step p q c).0
        same = heard_at at.Failed (zone_in q) y c (member_step p q c).0 (member_step p q c).1 text

        next : Next loose (ComponentRest loose p q y) c read.mark (ComponentRest loose p read.at read.name)
        next = component_follows loose p more q y c can byte

        goes : StandsAt (member_step p q c).0 → Goes c (ComponentRest loose p q y)
        goes s =
            next_goes c (ComponentRest loose p q y) (ComponentRest loose p read.at read.name) read.mark next
            (comes_at p more read.at read.name (subst (MayGo p more) (sym same) (can_go_on p more q c byte can)) (subst StandsAt (sym same) s))

        go : (n l : ℕ) (r : InMember) → (member_step p q c).0 ≡ r → InContents last (id_of of) n used → machine_in_member of counts n l r ≡ machine.Refused why.SectionEnd → Cut (Here n l) used
        go n l (at.Failed w) s h e = absurd (not_past_end c p q (within p (suc more) q can.1) (s ∙ ap at.Failed (same_refused w why.SectionEnd e)))
        go zero zero at.Over s h e = absurd (cc)
        go (suc n) zero at.Over s h e = inr (last, id_of of, n, h, ends_section (suc n) read.mark (subst (λ r. Next loose (ComponentRest loose p q y) c read.mark (ComponentRest loose p r read.name)) (same ∙ s) next))
        go zero (suc l) at.Over s h e = inl (last, id_of of, h, in_section zero (suc l) (goes (subst StandsAt (sym s) tt)))
        go (suc n) (suc l) at.Over s h e = absurd (cc)
        go zero l r s h e = inl (last, id_of of, h, in_section zero l (goes (subst StandsAt (sym s) tt)))
        go (suc n) l r s h e = absurd (cc)

  -- at the count of its members
  module _ (of : SectionKind) (counts : Counts) (r : Partial) (y : List ℕ) where
    abbrev AtCount : ℕ → MarkedForm
    AtCount more = MachineRest loose p (machine.Count of counts more r) y

    count_goes : (more : ℕ) → Goes c (Listed loose p of r (freely counts)) → Goes c (AtCount more)
    count_goes more g =
        let L : MarkedForm = Listed loose p of r (freely counts) in
        let t = then_goes c (Sized loose (suc more) L) (After loose p of (freely counts)) (sized_goes c (suc more) L g) (some_after p of (freely counts)) in
        (t.0, t.1, (freely counts, ((λ l. refl), (λ d. absurd d)), t.2))

    count_ends : (more v : ℕ) → IsLast of v → ((f : ModuleCounts) → Next loose (Listed loose p of r f) c (outside_mark (count_item of v)) (ListOf loose p of f v)) → Ends c (AtCount more)
    count_ends more v i n =
        let l = closing p of counts in
        let f : ModuleCounts = l.3.0 in
        let m : Mark = outside_mark (count_item of v) in
        let x = n f in
        let t = sized_ends c (suc more) (Listed loose p of r f) (After loose p of f) m (x.from [] (m ∷ []) ([], refl, last_listed p of f v i)) (l.0, l.1, l.2, l.3.2) in
        (t.0, t.1, t.2, (f, ((λ a. l.3.1.0 (omega (arith, a))), l.3.1.1), t.3))

    count_cut : (last more : ℕ) (used : List ℕ) → InContents last (id_of of) more used → HasRoom 32 r → (after_count of counts more (unsigned_push 32 r c)).0 ≡ machine.Refused why.SectionEnd → Cut (AtCount more) used
    count_cut last more used h room = go (unsigned_push 32 r c) (unsigned_room 32 r c room byte) (λ f. counted_next loose (count_item of) (ListOf loose p of f) r c byte) more h
      where
        go : (x : Step ℕ × Partial) → RoomAfter 32 x → ((f : ModuleCounts) → CountedNext loose (count_item of) (ListOf loose p of f) r c x) → (m : ℕ) → InContents last (id_of of) m used → (after_count of counts m x).0 ≡ machine.Refused why.SectionEnd → Cut (AtCount m) used
        go (More, s) a n zero h e =
            let L : MarkedForm = Listed loose p of s (freely counts) in
            inl (last, id_of of, h, count_goes zero (next_goes c (Listed loose p of r (freely counts)) L (outside_mark None) (n (freely counts)) (some_counted (count_item of) (ListOf loose p of (freely counts)) s a (some_listed p of (freely counts)))))
        go (More, s) a n (suc m) h e = absurd (cc)
        go (Done v, s) a n zero h e = inl (last, id_of of, h, count_goes zero (next_goes c (Listed loose p of r (freely counts)) (ListOf loose p of (freely counts) v) (outside_mark (count_item of v)) (n (freely counts)) (some_listed p of (freely counts) v)))
        go (Done v, s) a n (suc m) h e = elim (paired_end of counts (suc m) v e) [ inl i ↦ absurd (omega (arith, i)) | inr i ↦ inr (last, id_of of, m, h, count_ends (suc m) v i n) ]
        go (Bad, s) a n m h e = absurd (cc)

  -- at its size
  size_cut : (last : ℕ) (of : SectionKind) (counts : Counts) (r : Partial) (y used : List ℕ) → Sizes last counts (id_of of) used (unsigned_push 32 r c) → (step_of p (machine.Size of counts r) c).0 ≡ machine.Refused why.SectionEnd → Cut (MachineRest loose p (machine.Size of counts r) y) used
  size_cut last of counts r y used = go (unsigned_push 32 r c) (counted_next loose nothing_at (InSize loose p of (freely counts)) r c byte)
    where
      go : (x : Step ℕ × Partial) → CountedNext loose nothing_at (InSize loose p of (freely counts)) r c x → Sizes last counts (id_of of) used x
          → (on_number x (λ s. machine.Size of counts s) (λ n. (after_size of counts n, event.Nothing)) machine.Refused).0 ≡ machine.Refused why.SectionEnd → Cut (MachineRest loose p (machine.Size of counts r) y) used
      go (More, s) n h e = absurd (cc)
      go (Done zero, s) n h e =
          let g = next_goes c (Counted (Left r) nothing_at (InSize loose p of (freely counts))) (InSize loose p of (freely counts) 0) (outside_mark None) n (some_size p of (freely counts) 0) in
          inl (last, id_of of, h.0, (g.0, g.1, (freely counts, ((λ l. refl), (λ d. absurd d)), g.2)))
      go (Done (suc v), s) n h e = absurd (contents_not of counts v e)
      go (Bad, s) n h e = absurd (cc)

  -- in a custom section
  module _ (last : ℕ) (counts : Counts) where
    abbrev Named : ℕ → MarkedForm
    Named n = Then (Filled loose n (Name loose unnamed)) (Later loose p last counts)

    custom_size_cut : (r : Partial) (y used : List ℕ) → Sizes last counts 0 used (unsigned_push 32 r c) → (step_of p (machine.CustomSize last counts r) c).0 ≡ machine.Refused why.SectionEnd → Cut (MachineRest loose p (machine.CustomSize last counts r) y) used
    custom_size_cut r y used = go (unsigned_push 32 r c) (counted_next loose nothing_at Named r c byte)
      where
        go : (x : Step ℕ × Partial) → CountedNext loose nothing_at Named r c x → Sizes last counts 0 used x
            → (on_number x (λ s. machine.CustomSize last counts s) (λ n. (custom_size last counts n, event.Nothing)) machine.Refused).0 ≡ machine.Refused why.SectionEnd → Cut (MachineRest loose p (machine.CustomSize last counts r) y) used
        go (More, s) n h e = absurd (cc)
        go (Done zero, s) n h e =
            inl (last, 0, h.0, next_goes c (Counted (Left r) nothing_at Named) (Named 0) (outside_mark None) n (some_then (Filled loose 0 (Name loose unnamed)) (Later loose p last counts) (some_filled 0 (Name loose unnamed) (some_name unnamed)) (some_later p last counts)))
        go (Done (suc v), s) n h e = absurd (cc)
        go (Bad, s) n h e = absurd (cc)

    in_custom : (more : ℕ) (q : InCustom) (y : List ℕ) → IsText (custom_step q c).1 (y ++ c ∷ []) → FitsCustom (custom_step q c).0 → Goes c (MachineRest loose p (machine.Custom last counts more q) y)
    in_custom more q y text f =
        let h = byte_read custom.Failed outside y c (custom_step q c) in
        let same : h.at ≡ (custom_step q c).0 = heard_at custom.Failed outside y c (custom_step q c).0 (custom_step q c).1 text in
        let R : MarkedForm = CustomRest loose (suc more) q y in
        then_goes c R (Later loose p last counts) (next_goes c R (CustomRest loose more h.at h.name) h.mark (custom_follows loose more y c q byte) (some_custom more h.at h.name (subst FitsCustom (sym same) f))) (some_later p last counts)

    custom_cut : (more : ℕ) (q : InCustom) (y used : List ℕ) → InContents last 0 more used → FitsCustom q → IsText (custom_step q c).1 (y ++ c ∷ []) → machine_in_custom last counts more (custom_step q c).0 ≡ machine.Refused why.SectionEnd
        → Cut (MachineRest loose p (machine.Custom last counts more q) y) used
    custom_cut more q y used h fits text e =
        let a = ended more (custom_step q c).0 (custom_fine q c byte fits) (custom_not q c fits) e in
        inl (last, 0, subst (λ n. InContents last 0 n used) a.0 h, in_custom more q y text a.1)
      where
        ended : (n : ℕ) (r : InCustom) → FineCustom r → (r ≡ custom.Failed why.SectionEnd → ⊥) → machine_in_custom last counts n r ≡ machine.Refused why.SectionEnd → (n ≡ 0) × FitsCustom r
        ended n (custom.Failed w) f not e = absurd (not (ap custom.Failed (same_refused w why.SectionEnd e)))
        ended zero custom.Skip f not e = absurd (cc)
        ended zero (custom.Length s) f not e = (refl, f)
        ended zero (custom.Name m) f not e = (refl, tt)
        ended (suc n) custom.Skip f not e = absurd (cc)
        ended (suc n) (custom.Length s) f not e = absurd (cc)
        ended (suc n) (custom.Name m) f not e = absurd (cc)

  cut_says : (m : Machine) (b y : List ℕ) → Fits p m → (IsRefused m → ⊥) → Framed m b → IsText (step_of p m c).1 (y ++ c ∷ []) → (step_of p m c).0 ≡ machine.Refused why.SectionEnd → Cut (MachineRest loose p m y) (b ++ c ∷ [])
  cut_says (machine.Header n) b y fits live f text e = absurd (header_not n c e)
  cut_says (machine.Between last counts) b y fits live f text e = absurd (start_not p last counts c e)
  cut_says (machine.CustomSize last counts r) b y fits live f text e = custom_size_cut last counts r y (b ++ c ∷ []) (at_size last counts 0 r b c byte f.0 f.1) e
  cut_says (machine.Custom last counts more q) b y fits live f text e = custom_cut last counts more q y (b ++ c ∷ []) (one_byte last 0 more b c f.0) fits.1 text e
  cut_says (machine.Size of counts r) b y fits live f text e = size_cut f.0 of counts r y (b ++ c ∷ []) (at_size f.0 counts (id_of of) r b c byte f.2 f.3) e
  cut_says (machine.Count of counts more r) b y fits live f text e = count_cut of counts r y f.0 more (b ++ c ∷ []) (one_byte f.0 (id_of of) more b c f.2) fits.0 e
  cut_says (machine.Section of counts more left q) b y fits live f text e = section_cut of counts q y f.0 more left (b ++ c ∷ []) (one_byte f.0 (id_of of) more b c f.2) fits.2 text e
  cut_says (machine.Refused w) b y fits live f text e = absurd (live tt)

-- of the bytes
module _ (p : Profile) (b : List ℕ) (bytes : AreBytes b) (c : ℕ) where
  abbrev Now : MarkedForm
  Now = let s = state_after p state_at_start b in MachineRest loose p s.machine s.name

  whole : (rest : List ℕ) (k : Marks) → Now (c ∷ rest) k → ModuleForm loose p ((b ++ c ∷ []) ++ rest) (marks p state_at_start b ++ k)
  whole rest k h =
      let l : Marks = marks p state_at_start b ++ k in
      subst (λ z. ModuleForm loose p z l) (sym (append_assoc b (c ∷ []) rest)) (begin_from loose p (b ++ c ∷ rest) l (run_from loose p state_at_start b (c ∷ rest) k bytes begin_fits h))

  goes_on : Goes c Now → CanGoOn p (b ++ c ∷ [])
  goes_on g = front_of p (b ++ c ∷ []) g.0 (marks p state_at_start b ++ g.1) (whole g.0 g.1 g.2)

  can_end : Ends c Now → CanEnd p (b ++ c ∷ [])
  can_end g = (g.0, g.1, marks p state_at_start b ++ g.2, whole g.0 g.2 g.3)

  -- no whole input begins so
  no_input : (m : Machine) (y : List ℕ) → record { machine = m; name = y } ≡ state_after p state_at_start b → Fits p m → c < 2 ^ 8 → IsText (step_of p m c).1 (y ++ c ∷ []) → (step_of p m c).0 ≡ machine.Refused why.SectionEnd
      → (more : List ℕ) (k : Marks) → Items p ((b ++ c ∷ []) ++ more) k → ⊥
  no_input m y same fits byte text e more k h =
      let i : Items p (b ++ c ∷ more) k = subst (λ z. Items p z k) (append_assoc b (c ∷ []) more) h in
      let g = run_to strict p tt state_at_start b (c ∷ more) k bytes begin_fits (begin_to strict p (b ++ c ∷ more) k i) in
      let r : MachineRest strict p m y (c ∷ more) g.0 = subst (λ (s : MachineState). MachineRest strict p s.machine s.name (c ∷ more) g.0) (sym same) g.2 in
      let n = byte_read machine.Refused (zone_of m) y c (step_of p m c) in
      let at : n.at ≡ machine.Refused why.SectionEnd = heard_at machine.Refused (zone_of m) y c (step_of p m c).0 (step_of p m c).1 text ∙ e in
      let t = (machine_follows strict p m y c byte fits).to tt more g.0 r in
      absurd (subst (λ z. MachineRest strict p z n.name more t.0) at t.2)

  abbrev NoInput : Type 0
  NoInput = (more : List ℕ) (k : Marks) → Items p ((b ++ c ∷ []) ++ more) k → ⊥

  framed_so : (last id left : ℕ) (h : InContents last id left (b ++ c ∷ [])) → ((length h.contents ≡ h.n) × CanGoOn p (b ++ c ∷ [])) ⊎ ((length h.contents < h.n) × CanEnd p (b ++ c ∷ [])) → NoInput → OtherSize p (b ++ c ∷ [])
  framed_so last id left h wrong none =
      let past = h.past in
      record { sections = past.sections; front = h.front; id = id; size = h.size; contents = h.contents; bytes = h.n; whole = h.whole; before = past.spelled; spelled = h.number; wrong = wrong; none = none }

  by_cut : (byte : c < 2 ^ 8) → Cut p c byte Now (b ++ c ∷ []) → NoInput → OtherSize p (b ++ c ∷ [])
  by_cut byte (inl (last, id, h, g)) none = framed_so last id 0 h (inl ((let r = h.room in omega (arith, r)), goes_on g)) none
  by_cut byte (inr (last, id, n, h, g)) none = framed_so last id (suc n) h (inr ((let r = h.room in omega (arith, r)), can_end g)) none

  pub other_size : c < 2 ^ 8 → (m : Machine) (y : List ℕ) → record { machine = m; name = y } ≡ state_after p state_at_start b → Fits p m → (IsRefused m → ⊥) → Framed m b → IsText (step_of p m c).1 (y ++ c ∷ []) → (step_of p m c).0 ≡ machine.Refused why.SectionEnd
      → OtherSize p (b ++ c ∷ [])
  other_size byte m y same fits live f text e =
      by_cut byte (subst (λ (s : MachineState). Cut p c byte (MachineRest loose p s.machine s.name) (b ++ c ∷ [])) same (cut_says p c byte m b y fits live f text e)) (no_input m y same fits byte text e)
