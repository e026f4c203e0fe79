-- Inside the expression of a code entry, the machine is before a byte of an op.
use Rattle.std.proofs.Common.{◌≡◌, ℕ, zero, suc, ◌+◌, ◌-◌, ◌*◌, ◌<◌, ◌≤◌, ◌^◌, ◌⊎◌, inl, inr, List, [], ◌∷◌, ◌++◌, Option, Some, None, refl, sym, ◌∙◌, ap, subst, arith}
use Rattle.wm_syntax.specs.inner.Numbers.{Partial}
use Rattle.wm_syntax.specs.exact.Reading.{fresh}
use Rattle.wm_syntax.specs.Spelling.{AreBytes}
use Rattle.wm_syntax.specs.declared.profile.Profile.{Profile}
use Rattle.wm_syntax.specs.declared.instructions.Op.{Op}
use Rattle.wm_syntax.specs.declared.types.ValType.{ValType}
use Rattle.wm_syntax.specs.declared.types.ValType.TheVariants.{I32}
use Rattle.wm_syntax.specs.declared.why.Why.TheVariants as why
use Rattle.wm_machine.specs.declared.machine.member.SectionKind.{SectionKind}
use Rattle.wm_machine.specs.declared.machine.member.InMember.{InMember}
use Rattle.wm_machine.specs.declared.machine.member.InMember.TheVariants as at
use Rattle.wm_machine.specs.declared.machine.member.InEntry.{InEntry}
use Rattle.wm_machine.specs.declared.machine.member.InEntry.TheVariants as entry
use Rattle.wm_machine.specs.declared.step.expressions.InExpression.{InExpression as Place}
use Rattle.wm_machine.specs.declared.step.expressions.InExpression.TheVariants as expression
use Rattle.wm_machine.specs.declared.machine.Event.{Event}
use Rattle.wm_machine.specs.declared.machine.Event.TheVariants as event
use Rattle.wm_machine.specs.declared.machine.Counts.{Counts}
use Rattle.wm_machine.specs.declared.machine.Machine.{Machine}
use Rattle.wm_machine.specs.declared.machine.Machine.TheVariants as machine
use Rattle.wm_machine.specs.declared.machine.Plain.TheVariants as plain
use Rattle.wm_machine.specs.exact.MemberSteps.{entry_after_op, member_in_entry, entry_step, op_event}
use Rattle.wm_machine.specs.exact.ExpressionSteps.{expression_step}
use Rattle.wm_machine.specs.Fronts.{InExpression, entry_more, entry_after}
use Rattle.wm_machine.specs.exact.Live.{IsRefused, Live, MayRunOutAtEvent, MayRunOutAtByte}
use Rattle.wm_machine.specs.Items.{Item, body_op, Zone, entry as in_entry, Marks, locals, items_at}
use Rattle.wm_machine.specs.exact.Runs.{MachineState, after_byte, state_at_start, read_byte, byte_read, ByteRead, marks, state_after, zone_of}
use Rattle.wm_machine.specs.exact.Steps.{machine_in_member, step_of}
use Rattle.std.specs.Str.{is_utf8}
use Rattle.std.proofs.Math.Pow.{pow_mono}
use Rattle.std.proofs.lemmas.Bool.{cond_both}
use Rattle.std.proofs.lemmas.Nat.{pow_pos}
use Rattle.wm_machine.specs.declared.step.values.InRun.{InRun}
use Rattle.wm_machine.specs.declared.step.values.InRun.TheVariants as run_at
use Rattle.wm_machine.specs.exact.Members.{rank_of}
use Rattle.wm_machine.specs.Grammar.{ModuleForm, Run, Expression, loose}
use Rattle.wm_machine.specs.MarkedForms.{MarkedForm, Then, Times, Leaf, Sized, marks_ending, entry_marks, outside_mark}
use Rattle.wm_machine.proofs.OpenMembers.{Comes, some_times, some_runs, some_one}
use Rattle.wm_machine.proofs.MemberBytes.{OneOf, ComponentRest}
use Rattle.wm_machine.proofs.MemberSound.{SoundRun, StandsEntry}
use Rattle.wm_machine.proofs.EntryBytes.{EntryRest, run_part, runs_same}
use Rattle.wm_machine.proofs.MachineStates.{Fits, run_fits}
use Rattle.wm_machine.proofs.Fronts.{is_front, some_later}
use Rattle.wm_machine.proofs.Numbers.{Left}
use Rattle.wm_machine.proofs.OneFront.{one_front}
use Rattle.wm_machine.proofs.OpSound.{HasRoom, fresh_32, last_byte, IsOther}
use Rattle.wm_machine.proofs.ReadValues.{parts-append, parts-entered}
use Rattle.wm_machine.proofs.MachineAndSink.{begin_fits}
use Rattle.wm_machine.proofs.ValueBytes.{run_rest}
use Rattle.wm_machine.proofs.WholeMachine.{Later, MachineRest, Within, begin_from, run_from}
use Rattle.wm_machine.proofs.ExpressionSound.{expression_fault}

-- the machine in a code entry, with so many bytes of it after the next
pub record AtEntry (m : Machine) : Type 0 where
  pub of : SectionKind
  pub counts : Counts
  pub more : ℕ
  pub left : ℕ
  pub rest : ℕ
  pub place : InEntry
  pub is : m ≡ machine.Section of counts more left (at.Entry rest place)

abbrev entry_machine : SectionKind → Counts → ℕ → ℕ → ℕ → InEntry → Machine
entry_machine of counts more left rest q = machine.Section of counts more left (at.Entry rest q)

-- within a code entry the machine stands in one, or has refused
abbrev Enters : Machine → Type 0
Enters m = IsRefused m ⊎ AtEntry m

framed_enters : (of : SectionKind) (counts : Counts) (more left rest : ℕ) (q : InEntry) → Enters (machine_in_member of counts more left (at.Entry rest q))
framed_enters of counts zero left rest q = inl tt
framed_enters of counts (suc n) left rest q = inr (record { of = of; counts = counts; more = n; left = left; rest = rest; place = q; is = refl })

entry_enters : (of : SectionKind) (counts : Counts) (more left rest : ℕ) (q : InEntry) → Enters (machine_in_member of counts more left (member_in_entry (suc rest) q))
entry_enters of counts more left rest (entry.Failed w) = inl tt
entry_enters of counts more left rest entry.Over = inl tt
entry_enters of counts more left rest (entry.RunCount r) = framed_enters of counts more left rest (entry.RunCount r)
entry_enters of counts more left rest (entry.Run n r) = framed_enters of counts more left rest (entry.Run n r)
entry_enters of counts more left rest (entry.Body e) = framed_enters of counts more left rest (entry.Body e)

step_enters : (p : Profile) (m : Machine) (c : ℕ) → zone_of m ≡ in_entry → Enters (step_of p m c).0
step_enters p (machine.Section of counts more left (at.Entry zero q)) c e = cc
step_enters p (machine.Section of counts more left (at.Entry (suc n) q)) c e = entry_enters of counts more left n (entry_step p q c).0
step_enters p (machine.Section of counts more left at.TypeForm) c e = cc
step_enters p (machine.Section of counts more left (at.ParamCount r)) c e = cc
step_enters p (machine.Section of counts more left (at.Param n)) c e = cc
step_enters p (machine.Section of counts more left (at.ResultCount r)) c e = cc
step_enters p (machine.Section of counts more left (at.ResultType n)) c e = cc
step_enters p (machine.Section of counts more left (at.NameLength k r)) c e = cc
step_enters p (machine.Section of counts more left (at.Name k n)) c e = cc
step_enters p (machine.Section of counts more left (at.Value v)) c e = cc
step_enters p (machine.Section of counts more left (at.Index x r)) c e = cc
step_enters p (machine.Section of counts more left (at.SegmentStart k r)) c e = cc
step_enters p (machine.Section of counts more left at.ElementKind) c e = cc
step_enters p (machine.Section of counts more left (at.GlobalType g)) c e = cc
step_enters p (machine.Section of counts more left (at.Constant k x)) c e = cc
step_enters p (machine.Section of counts more left (at.Length k r)) c e = cc
step_enters p (machine.Section of counts more left (at.Data n)) c e = cc
step_enters p (machine.Section of counts more left (at.EntrySize r)) c e = cc
step_enters p (machine.Section of counts more left at.Over) c e = cc
step_enters p (machine.Section of counts more left (at.Failed w)) c e = cc
step_enters p (machine.Header n) c e = cc
step_enters p (machine.Between last counts) c e = cc
step_enters p (machine.CustomSize last counts r) c e = cc
step_enters p (machine.Custom last counts more q) c e = cc
step_enters p (machine.Size of counts r) c e = cc
step_enters p (machine.Count of counts more r) c e = cc
step_enters p (machine.Refused w) c e = cc

heard_enters : (zone : Zone) (name : List ℕ) (c : ℕ) (m : Machine) (e : Event) → (zone ≡ in_entry → Enters m)
    → (byte_read machine.Refused zone name c (m, e)).mark.zone ≡ in_entry → Enters (byte_read machine.Refused zone name c (m, e)).at
heard_enters zone name c m event.Nothing f h = f h
heard_enters zone name c m (event.Complete q) f h = f h
heard_enters zone name c m event.DataByte f h = cc
heard_enters zone name c m event.InName f h = cc
heard_enters zone name c m (event.EmptyName kind) f h = cc
heard_enters zone name c m (event.EndsName kind) f h =
    cond_both (is_utf8 (name ++ c ∷ [])) _ _ (λ (d : ByteRead Machine). d.mark.zone ≡ in_entry → Enters d.at) (λ _ e. cc) (λ _ e. cc) h

some_more : (z : Zone) (n : ℕ) → 0 < entry_more z n → z ≡ in_entry
some_more in_entry n l = refl
some_more _ n l = absurd (omega (arith, l))

run_enters : (p : Profile) (b : List ℕ) (s : MachineState) (n : ℕ) → (0 < n → Enters s.machine) → 0 < entry_after n (marks p s b) → Enters (state_after p s b).machine
run_enters p [] s n f l = f l
run_enters p (c ∷ b) s n f l =
    run_enters p b (after_byte p s c) (entry_more (read_byte p s c).mark.zone n)
    (λ m. heard_enters (zone_of s.machine) s.name c (step_of p s.machine c).0 (step_of p s.machine c).1 (step_enters p s.machine c) (some_more (read_byte p s c).mark.zone n m)) l

-- something that may come, and begins with a run of locals
record RunComes (P : MarkedForm) : Type 0 where
  bytes : List ℕ
  marks : Marks
  spelled : P bytes marks
  count : ℕ
  type : ValType
  rest : List Item
  first : items_at marks ≡ locals count type ∷ rest

run_then : (P Q : MarkedForm) → RunComes P → Comes Q → RunComes (Then P Q)
run_then P Q h q = record {
  bytes = h.bytes ++ q.bytes;
  marks = h.marks ++ q.marks;
  spelled = record { front = h.bytes; back = q.bytes; front_marks = h.marks; back_marks = q.marks; bytes = refl; marks = refl; first = h.spelled; second = q.spelled };
  count = h.count;
  type = h.type;
  rest = h.rest ++ items_at q.marks;
  first = parts-append h.marks q.marks ∙ ap (λ y. y ++ items_at q.marks) h.first;
}

run_comes : (p : Profile) (r : InRun) → SoundRun r → RunComes (Leaf (run_rest p r) run_part)
run_comes p (run_at.Count r) h = record {
  bytes = 0 ∷ 0x7F ∷ [];
  marks = marks_ending (Some (locals r.low I32)) (0 ∷ 0x7F ∷ []);
  spelled = ((r.low, I32), (r.low, 0 ∷ [], 0x7F ∷ [], refl, last_byte r h.0, (refl, refl, refl)), refl);
  count = r.low;
  type = I32;
  rest = [];
  first = refl;
}
run_comes p (run_at.Type n) h = record {
  bytes = 0x7F ∷ [];
  marks = marks_ending (Some (locals n I32)) (0x7F ∷ []);
  spelled = ((n, I32), (refl, refl, refl), refl);
  count = n;
  type = I32;
  rest = [];
  first = refl;
}

-- a count that is not 0 ends with a byte
some_count : (r : Partial) → HasRoom 32 r → (n : ℕ) × Left r (suc n) (1 ∷ [])
some_count r h =
    let least : 2 ^ 1 ≤ 2 ^ (32 - 7 * r.count) = pow_mono {i = 1} {j = 32 - 7 * r.count} (omega (arith, h.0)) in
    let low : 1 < 2 ^ (32 - 7 * r.count) = omega (arith, least) in
    let some : 0 < 2 ^ (7 * r.count) = pow_pos (7 * r.count) in
    let n : ℕ = r.low + 1 * 2 ^ (7 * r.count) - 1 in
    let same : suc n ≡ r.low + 1 * 2 ^ (7 * r.count) = omega (arith, some) in
    (n, (h.0, 1, same, inl (omega arith, low, refl, refl)))

-- the place in an entry before its runs are complete
abbrev IsBefore : InEntry → Type 0
IsBefore (entry.RunCount r) = Unit {0}
IsBefore (entry.Run more r) = Unit {0}
IsBefore _ = ⊥

module _ (p : Profile) where
  runs_come : (more : ℕ) (r : InRun) → SoundRun r → RunComes (EntryRest loose p (entry.Run more r))
  runs_come more r h = run_then (Leaf (run_rest p r) run_part) (Then (Times more (Run p)) (Expression p body_op)) (run_comes p r h) (some_runs p more)

  -- a whole run, and what follows it
  first_run : (n : ℕ) → RunComes (Then (Times (suc n) (Run p)) (Expression p body_op))
  first_run n =
      let rest = some_runs p n in
      let r = run_comes p (run_at.Count fresh) fresh_32 in
      let whole = run_then (Leaf (run_rest p (run_at.Count fresh)) run_part) (Then (Times n (Run p)) (Expression p body_op)) r rest in
      record { bytes = whole.bytes; marks = whole.marks; spelled = (runs_same loose p (suc n)).from whole.bytes whole.marks whole.spelled; count = whole.count; type = whole.type; rest = whole.rest; first = whole.first }

  entry_comes : (left : ℕ) (q : InEntry) → StandsEntry p left q → IsBefore q → RunComes (EntryRest loose p q)
  entry_comes left (entry.RunCount r) h i =
      let n = some_count r h in
      let t = first_run n.0 in
      record {
        bytes = 1 ∷ t.bytes;
        marks = outside_mark None ∷ t.marks;
        spelled = record { n = suc n.0; front = 1 ∷ []; back = t.bytes; back_marks = t.marks; bytes = refl; marks = refl; number = n.1; rest = t.spelled };
        count = t.count;
        type = t.type;
        rest = t.rest;
        first = t.first;
      }
  entry_comes left (entry.Run more r) h i = runs_come more r h
  entry_comes left (entry.Body e) h i = absurd i
  entry_comes left entry.Over h i = absurd i
  entry_comes left (entry.Failed w) h i = absurd i

  -- what may come of a machine in an entry before its runs are complete
  machine_comes : (of : SectionKind) (counts : Counts) (more left rest : ℕ) (q : InEntry) (y : List ℕ) → StandsEntry p (suc rest) q → IsBefore q → RunComes (MachineRest loose p (entry_machine of counts more left rest q) y)
  machine_comes of counts more left rest q y h i =
      let t = entry_comes (suc rest) q h i in
      let others = some_times left (OneOf loose p of) (some_one p of) in
      let later = some_later p (rank_of of) counts in
      let inner : RunComes (ComponentRest loose p (at.Entry rest q) y) = record {
        bytes = t.bytes;
        marks = entry_marks t.marks;
        spelled = ((λ d. absurd d), record { inner = t.marks; marks = refl; contents = t.spelled });
        count = t.count;
        type = t.type;
        rest = t.rest;
        first = parts-entered t.marks ∙ t.first;
      } in
      let within = run_then (ComponentRest loose p (at.Entry rest q) y) (Times left (OneOf loose p of)) inner others in
      let sized : RunComes (Sized loose (suc more) (Within loose p of left (at.Entry rest q) y)) = record {
        bytes = within.bytes;
        marks = within.marks;
        spelled = ((λ d. absurd d), within.spelled);
        count = within.count;
        type = within.type;
        rest = within.rest;
        first = within.first;
      } in
      run_then (Sized loose (suc more) (Within loose p of left (at.Entry rest q) y)) (Later loose p (rank_of of) counts) sized later

  -- the machine before a byte of an op of a code entry
  record AtOp (m : Machine) : Type 0 where
    of : SectionKind
    counts : Counts
    more : ℕ
    left : ℕ
    rest : ℕ
    place : Place
    is : m ≡ entry_machine of counts more left rest (entry.Body place)

  module _ (b : List ℕ) (bytes : AreBytes b) (live : IsRefused (state_after p state_at_start b).machine → ⊥) (i : InExpression p b) where
    same_marks : i.marks ≡ marks p state_at_start b
    same_marks = one_front p b i.marks (marks p state_at_start b) i.front (is_front p b bytes live)

    not_before : (of : SectionKind) (counts : Counts) (more left rest : ℕ) (q : InEntry) → (state_after p state_at_start b).machine ≡ entry_machine of counts more left rest q → StandsEntry p (suc rest) q → IsBefore q → ⊥
    not_before of counts more left rest q e h before =
        let t = machine_comes of counts more left rest q (state_after p state_at_start b).name h before in
        let spelled : MachineRest loose p (state_after p state_at_start b).machine (state_after p state_at_start b).name t.bytes t.marks = subst (λ m. MachineRest loose p m (state_after p state_at_start b).name t.bytes t.marks) (sym e) t.spelled in
        let whole : ModuleForm loose p (b ++ t.bytes) (marks p state_at_start b ++ t.marks) = begin_from loose p (b ++ t.bytes) (marks p state_at_start b ++ t.marks) (run_from loose p state_at_start b t.bytes t.marks bytes begin_fits spelled) in
        i.no_run t.bytes t.marks t.count t.type t.rest (subst (λ k. ModuleForm loose p (b ++ t.bytes) (k ++ t.marks)) (sym same_marks) whole) t.first

    by_place : (of : SectionKind) (counts : Counts) (more left rest : ℕ) (q : InEntry) → (state_after p state_at_start b).machine ≡ entry_machine of counts more left rest q → StandsEntry p (suc rest) q → AtOp (state_after p state_at_start b).machine
    by_place of counts more left rest (entry.Body e) is h = record { of = of; counts = counts; more = more; left = left; rest = rest; place = e; is = is }
    by_place of counts more left rest entry.Over is h = absurd h
    by_place of counts more left rest (entry.Failed w) is h = absurd h
    by_place of counts more left rest (entry.RunCount r) is h = absurd (not_before of counts more left rest (entry.RunCount r) is h tt)
    by_place of counts more left rest (entry.Run n r) is h = absurd (not_before of counts more left rest (entry.Run n r) is h tt)

    at_op : AtOp (state_after p state_at_start b).machine
    at_op = elim (run_enters p b state_at_start 0 (λ l. absurd (omega (arith, l))) (subst (λ k. 0 < entry_after 0 k) same_marks i.at_hand)) [
      | inl r ↦ absurd (live r)
      | inr e ↦
          let fits : Fits p (entry_machine e.of e.counts e.more e.left e.rest e.place) = subst (Fits p) e.is (run_fits p state_at_start b bytes begin_fits) in
          by_place e.of e.counts e.more e.left e.rest e.place e.is fits.2.1.1
    ]

-- at such a byte memory may run out at an op of the body alone
not_memory : why.Float ≡ why.Memory → ⊥
not_memory e = cc

expression_memory : (p : Profile) (e : Place) (c : ℕ) → (expression_step p e c).0 ≡ expression.Failed why.Memory → ⊥
expression_memory p e c = expression_fault why.Memory (λ c. ⊥) (λ w i s. subst IsOther s i) (λ c s f. absurd (not_memory s)) p e c (inr (λ s. cc))

abbrev Never : InMember → Type 0
Never q = q ≡ at.Failed why.Memory → ⊥

op_never : (e : Place) → (e ≡ expression.Failed why.Memory → ⊥) → entry_after_op e ≡ entry.Failed why.Memory → ⊥
op_never expression.Over h i = cc
op_never (expression.Failed w) h i = h (let s : w ≡ why.Memory = cc in ap expression.Failed s)
op_never (expression.Op depth q) h i = cc
op_never (expression.Label depth n r) h i = cc

entry_never : (n : ℕ) (q : InEntry) → (q ≡ entry.Failed why.Memory → ⊥) → Never (member_in_entry n q)
entry_never n (entry.Failed w) h e = h (let s : w ≡ why.Memory = cc in ap entry.Failed s)
entry_never zero entry.Over h e = cc
entry_never (suc n) entry.Over h e = cc
entry_never zero (entry.RunCount r) h e = cc
entry_never zero (entry.Run more r) h e = cc
entry_never zero (entry.Body x) h e = cc
entry_never (suc n) (entry.RunCount r) h e = cc
entry_never (suc n) (entry.Run more r) h e = cc
entry_never (suc n) (entry.Body x) h e = cc

framed_never : (of : SectionKind) (counts : Counts) (more left : ℕ) (q : InMember) → Never q → machine_in_member of counts more left q ≡ machine.Refused why.Memory → ⊥
framed_never of counts more left (at.Failed w) h e = h (let s : w ≡ why.Memory = cc in ap at.Failed s)
framed_never of counts zero zero at.Over h e = cc
framed_never of counts (suc n) zero at.Over h e = cc
framed_never of counts zero (suc l) at.Over h e = cc
framed_never of counts (suc n) (suc l) at.Over h e = cc
framed_never of counts zero left q h e = cc
framed_never of counts (suc n) left q h e = cc

event_op : {H : Type 0} (may : H → Item → Type 0) (o : Option Op) (name : List ℕ) (c : ℕ) (h : H) → MayRunOutAtEvent may (op_event plain.BodyOp o) name c h → (x : Op) × may h (body_op x)
event_op may None name c h m = absurd m
event_op may (Some x) name c h m = (x, m)

pub runs_out_at_op : {H : Type 0} (may : H → Item → Type 0) (p : Profile) (b : List ℕ) → AreBytes b → (IsRefused (state_after p state_at_start b).machine → ⊥) → InExpression p b
    → (l : Live H) (c : ℕ) → l.machine ≡ (state_after p state_at_start b).machine → MayRunOutAtByte may p l c → (x : Op) × may l.held (body_op x)
runs_out_at_op {H} may p b bytes live i l c same m =
    let a = at_op p b bytes live i in
    let is : l.machine ≡ entry_machine a.of a.counts a.more a.left a.rest (entry.Body a.place) = same ∙ a.is in
    let n : MayRunOutAtByte may p (record l { machine = entry_machine a.of a.counts a.more a.left a.rest (entry.Body a.place) }) c = subst (λ x. MayRunOutAtByte may p (record l { machine = x }) c) is m in
    elim n [
      | inl g ↦ event_op may (expression_step p a.place c).1 l.name c l.held g
      | inr r ↦ absurd (framed_never a.of a.counts a.more a.left (member_in_entry a.rest (entry_after_op (expression_step p a.place c).0))
          (entry_never a.rest (entry_after_op (expression_step p a.place c).0) (op_never (expression_step p a.place c).0 (expression_memory p a.place c))) r)
    ]
