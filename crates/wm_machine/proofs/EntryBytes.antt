-- The possible rest of a code entry, and how each byte continues it.
use Rattle.std.proofs.Common.{◌≡◌, ℕ, zero, suc, ◌<◌, ◌^◌, List, [], ◌∷◌, ◌++◌, Option, Some, None, length, refl, sym, ◌∙◌, ap, subst, arith}
use Rattle.wm_syntax.specs.declared.numbers.Step.{Step}
use Rattle.wm_syntax.specs.declared.numbers.Step.TheVariants as step
use Rattle.wm_syntax.specs.inner.Numbers.{Partial}
use Rattle.wm_syntax.specs.exact.Reading.{fresh, unsigned_push}
use Rattle.wm_syntax.specs.declared.why.Why.{Why}
use Rattle.wm_syntax.specs.declared.profile.Profile.{Profile}
use Rattle.wm_syntax.specs.declared.types.ValType.{ValType}
use Rattle.wm_syntax.specs.declared.instructions.Op.{Op}
use Rattle.wm_machine.specs.declared.machine.Plain.{Plain}
use Rattle.wm_machine.specs.declared.machine.Plain.TheVariants as plain
use Rattle.wm_machine.specs.declared.machine.Event.{Event}
use Rattle.wm_machine.specs.declared.machine.Event.TheVariants as event
use Rattle.wm_machine.specs.declared.step.reading.Reading.{Reading}
use Rattle.wm_machine.specs.declared.step.reading.Reading.TheVariants.{More, Done, Bad}
use Rattle.wm_machine.specs.declared.step.values.InRun.TheVariants as run
use Rattle.wm_machine.specs.declared.machine.member.InEntry.{InEntry}
use Rattle.wm_machine.specs.declared.machine.member.InEntry.TheVariants as entry
use Rattle.wm_machine.specs.declared.step.expressions.InExpression.{InExpression}
use Rattle.wm_machine.specs.declared.step.expressions.InExpression.TheVariants as expression
use Rattle.wm_machine.specs.Items.{Item, locals, body_op, outside, entry as in_entry, closing, Mark, Marks}
use Rattle.wm_machine.specs.MarkedForms.{MarkedForm, Empty, Then, Times, Leaf, Vector, Counted, Sized, Entry, nothing_at, in_zone, entry_marks, outside_mark}
use Rattle.wm_machine.specs.Grammar.{Run, Expression}
use Rattle.wm_machine.specs.exact.Runs.{byte_read}
use Rattle.wm_machine.specs.exact.ValueSteps.{run_push}
use Rattle.wm_machine.specs.exact.ExpressionSteps.{start, expression_step}
use Rattle.wm_machine.specs.exact.MemberSteps.{on_number, on_value, with_item_given, runs_or_body, entry_after_op, op_event, body_step, entry_step}
use Rattle.wm_machine.proofs.FirstBytes.{Next, Same, HasBytes, Never, not_nil, same_refl, same_then, next_to, next_never, then_has, empty_then, then_assoc, then_same}
use Rattle.wm_machine.proofs.Numbers.{Left, left_nil}
use Rattle.wm_machine.proofs.Counts.{counted_has, counted_fresh}
use Rattle.wm_machine.proofs.Leaves.{leaf_has, leaf_marked}
use Rattle.wm_machine.proofs.ValuesThatAsk.{has_mark}
use Rattle.wm_machine.proofs.ValueBytes.{run_rest, run_reader, run_begins}
use Rattle.wm_machine.proofs.ExpressionRest.{ExpressionRest, IsInside, CanOpen, expression_has, expression_marked, expression_same, expression_follows, mark_of}
use Rattle.wm_machine.proofs.MachineParts.{Follows, number_follows, leaf_follows}

-- the item of a run of locals
abbrev pub run_part : ℕ × ValType → Item
run_part r = locals r.0 r.1

-- a byte of an entry completes an item or nothing
abbrev pub OnlyParts : Event → Type 0
OnlyParts event.Nothing = Unit {0}
OnlyParts (event.Complete q) = Unit {0}
OnlyParts _ = ⊥

number_parts : {M : Type 0} (q : Step ℕ × Partial) (more : Partial → M) (done : ℕ → M × Event) (bad : Why → M) → ((n : ℕ) → OnlyParts (done n).1) → OnlyParts (on_number q more done bad).1
number_parts (step.More, s) more done bad h = tt
number_parts (step.Done n, s) more done bad h = h n
number_parts (step.Bad, s) more done bad h = tt

value_parts : {M R X : Type 0} (q : Reading R X) (more : R → M) (done : X → M × Event) (bad : Why → M) → ((x : X) → OnlyParts (done x).1) → OnlyParts (on_value q more done bad).1
value_parts (More s) more done bad h = tt
value_parts (Done x) more done bad h = h x
value_parts (Bad w) more done bad h = tt

op_parts : (f : Op → Plain) (o : Option Op) → OnlyParts (op_event f o)
op_parts f None = tt
op_parts f (Some o) = tt

pub entry_parts : (p : Profile) (q : InEntry) (c : ℕ) → OnlyParts (entry_step p q c).1
entry_parts p (entry.RunCount r) c = number_parts (unsigned_push 32 r c) entry.RunCount (λ n. (runs_or_body n, event.Nothing)) entry.Failed (λ n. tt)
entry_parts p (entry.Run more r) c = value_parts (run_push p r c) (λ s. entry.Run more s) (λ x. with_item_given (runs_or_body more) (plain.Locals x.0 x.1)) entry.Failed (λ x. tt)
entry_parts p (entry.Body e) c = op_parts plain.BodyOp (expression_step p e c).1
entry_parts p entry.Over c = tt
entry_parts p (entry.Failed w) c = tt

-- places in an entry that is not over
abbrev pub IsInEntry : InEntry → Type 0
IsInEntry (entry.Body e) = IsInside e
IsInEntry entry.Over = ⊥
IsInEntry (entry.Failed w) = ⊥
IsInEntry q = Unit {0}

abbrev pub CanOpenIn : InEntry → Type 0
CanOpenIn (entry.Body e) = CanOpen e
CanOpenIn q = Unit {0}

module _ (demanded : Type 0) (p : Profile) where
  abbrev Body : MarkedForm
  Body = Expression p body_op

  abbrev pub EntryRest : InEntry → MarkedForm
  EntryRest (entry.RunCount r) = Counted (Left r) nothing_at (λ n. Then (Times n (Run p)) Body)
  EntryRest (entry.Run more r) = Then (Leaf (run_rest p r) run_part) (Then (Times more (Run p)) Body)
  EntryRest (entry.Body e) = ExpressionRest p body_op e
  EntryRest entry.Over = Empty
  EntryRest (entry.Failed w) = Never

  abbrev named_rest : InEntry → List ℕ → MarkedForm
  named_rest q y = EntryRest q

  run_same : Same demanded (Run p) (Leaf (run_rest p (run.Count fresh)) run_part)
  run_same = record {
    to = λ s b k h. (h.0, (run_begins p h.0 b).0 h.1, h.2);
    from = λ b k h. (h.0, (run_begins p h.0 b).1 h.1, h.2);
  }

  pub runs_same : (n : ℕ) → Same demanded (Then (Times n (Run p)) Body) (EntryRest (runs_or_body n))
  runs_same zero = same_then demanded (Then Empty Body) Body (ExpressionRest p body_op start) (empty_then demanded Body) (expression_same demanded p body_op)
  runs_same (suc n) =
      same_then demanded (Then (Then (Run p) (Times n (Run p))) Body) (Then (Run p) (Then (Times n (Run p)) Body)) (EntryRest (entry.Run n (run.Count fresh))) (then_assoc demanded (Run p) (Times n (Run p)) Body)
      (then_same demanded (Run p) (Then (Times n (Run p)) Body) (Leaf (run_rest p (run.Count fresh)) run_part) (Then (Times n (Run p)) Body) run_same (same_refl demanded (Then (Times n (Run p)) Body)))

  -- a whole entry from its first byte
  pub entry_same : Same demanded (Then (Vector (Run p)) Body) (EntryRest (entry.RunCount fresh))
  entry_same = counted_fresh demanded nothing_at (λ n. Times n (Run p)) Body (λ n. Then (Times n (Run p)) Body) (λ n. same_refl demanded (Then (Times n (Run p)) Body))

  abbrev EntryFollows : ℕ → MarkedForm → InEntry × Event → Type 0
  EntryFollows c P q = Follows demanded entry.Failed named_rest (λ w. same_refl demanded Never) [] c P q

  after_same : (e : InExpression) → Same demanded (ExpressionRest p body_op e) (EntryRest (entry_after_op e))
  after_same expression.Over = same_refl demanded Empty
  after_same (expression.Failed w) = same_refl demanded Never
  after_same (expression.Op depth q) = same_refl demanded (ExpressionRest p body_op (expression.Op depth q))
  after_same (expression.Label depth left r) = same_refl demanded (ExpressionRest p body_op (expression.Label depth left r))

  heard_op : (m : InEntry) (c : ℕ) (o : Option Op) → (byte_read entry.Failed outside [] c (m, op_event plain.BodyOp o)).mark ≡ outside_mark (mark_of body_op o)
  heard_op m c None = refl
  heard_op m c (Some o) = refl

  heard_at : (m : InEntry) (c : ℕ) (o : Option Op) → (byte_read entry.Failed outside [] c (m, op_event plain.BodyOp o)).at ≡ m
  heard_at m c None = refl
  heard_at m c (Some o) = refl

  body_follows : (e : InExpression) (c : ℕ) → CanOpen e → c < 2 ^ 8 → EntryFollows c (ExpressionRest p body_op e) (body_step p e c)
  body_follows e c room byte =
      let x = expression_step p e c in
      let P : MarkedForm = ExpressionRest p body_op e in
      subst (λ y. Next demanded P c y (EntryRest (byte_read entry.Failed outside [] c (entry_after_op x.0, op_event plain.BodyOp x.1)).at)) (sym (heard_op (entry_after_op x.0) c x.1))
      (subst (λ y. Next demanded P c (outside_mark (mark_of body_op x.1)) (EntryRest y)) (sym (heard_at (entry_after_op x.0) c x.1))
      (next_to demanded P (ExpressionRest p body_op x.0) (EntryRest (entry_after_op x.0)) c (outside_mark (mark_of body_op x.1)) (after_same x.0) (expression_follows demanded p body_op e c room byte)))

  pub entry_follows : (q : InEntry) (c : ℕ) → CanOpenIn q → c < 2 ^ 8 → EntryFollows c (EntryRest q) (entry_step p q c)
  entry_follows (entry.RunCount r) c room byte =
      number_follows demanded entry.Failed named_rest (λ w. same_refl demanded Never) [] c nothing_at (λ n. Then (Times n (Run p)) Body) entry.RunCount (λ n. (runs_or_body n, event.Nothing))
      (λ s. same_refl demanded (EntryRest (entry.RunCount s))) (λ n. refl) runs_same r byte
  entry_follows (entry.Run more r) c room byte =
      leaf_follows demanded entry.Failed named_rest (λ w. same_refl demanded Never) [] c (run_rest p) (run_push p) (run_reader p) run_part (Then (Times more (Run p)) Body) (λ s. entry.Run more s) (λ x. with_item_given (runs_or_body more) (plain.Locals x.0 x.1))
      (λ s. same_refl demanded (EntryRest (entry.Run more s))) (λ x. refl) (λ x. runs_same more) r byte
  entry_follows (entry.Body e) c room byte = body_follows e c room byte
  entry_follows entry.Over c room byte = next_never demanded Empty c (outside_mark None) (λ s b k h. not_nil c b h.0)
  entry_follows (entry.Failed w) c room byte = next_never demanded Never c (outside_mark None) (λ s b k h. h)

  -- an entry that is not over has bytes, and as many marks
  pub entry_has : (q : InEntry) → IsInEntry q → HasBytes demanded (EntryRest q)
  entry_has (entry.RunCount r) i = counted_has demanded nothing_at (λ n. Then (Times n (Run p)) Body) r
  entry_has (entry.Run more r) i = then_has demanded (Leaf (run_rest p r) run_part) (Then (Times more (Run p)) Body) (leaf_has demanded (run_rest p) (run_push p) (run_reader p) run_part r)
  entry_has (entry.Body e) i = λ s k h. expression_has p body_op e i k h
  entry_has entry.Over i = absurd i
  entry_has (entry.Failed w) i = absurd i

  no_marks : (j k : Marks) → [] ≡ j ++ k → j ≡ []
  no_marks [] k e = refl
  no_marks (m ∷ j) k e = cc

  pub entry_marked : (q : InEntry) → IsInEntry q → (b : List ℕ) → EntryRest q b [] → ⊥
  entry_marked (entry.RunCount r) i b h = has_mark (nothing_at h.n) h.front h.back_marks (λ e. left_nil r h.n (subst (Left r h.n) e h.number)) h.marks
  entry_marked (entry.Run more r) i b h = leaf_marked demanded (run_rest p) (run_push p) (run_reader p) run_part r h.front (subst (λ y. Leaf (run_rest p r) run_part h.front y) (no_marks h.front_marks h.back_marks h.marks) h.first)
  entry_marked (entry.Body e) i b h = expression_marked p body_op e i b h
  entry_marked entry.Over i b h = i
  entry_marked (entry.Failed w) i b h = i

  -- all bytes of an entry are marked so
  entered_more : (m : Mark) (k : Marks) → (k ≡ [] → ⊥) → entry_marks (m ∷ k) ≡ in_zone in_entry m ∷ entry_marks k
  entered_more m [] h = absurd (h refl)
  entered_more m (n ∷ k) h = refl

  module _ (P Q : MarkedForm) (c : ℕ) (m : Mark) (n : Next demanded P c m Q) where
    pub goes_inside : ((b : List ℕ) → Q b [] → ⊥) → Next demanded (Entry P) c (in_zone in_entry m) (Entry Q)
    goes_inside some = record {
      to = λ s b k h.
          let g = n.to s b h.inner h.contents in
          (entry_marks g.0, h.marks ∙ (ap entry_marks g.1 ∙ entered_more m g.0 (λ e. some b (subst (λ y. Q b y) e g.2))), record { inner = g.0; marks = refl; contents = g.2 });
      from = λ b k g.
          let t = g.2 in
          record { inner = m ∷ t.inner; marks = g.1 ∙ (ap (λ y. in_zone in_entry m ∷ y) t.marks ∙ sym (entered_more m t.inner (λ e. some b (subst (λ y. Q b y) e t.contents)))); contents = n.from b (m ∷ t.inner) (t.inner, refl, t.contents) };
    }

  pub ends_inside : (P : MarkedForm) (c : ℕ) (m : Mark) → Next demanded P c m Empty → Next demanded (Sized demanded 1 (Entry P)) c (in_zone closing m) Empty
  ends_inside P c m n = record {
    to = λ s b k h.
        let e = h.1 in
        let g = n.to s b e.inner e.contents in
        ([], e.marks ∙ (ap entry_marks g.1 ∙ ap (λ y. entry_marks (m ∷ y)) g.2.1), (g.2.0, refl));
    from = λ b k g. (
      (λ s. ap (λ y. length (c ∷ y)) g.2.0),
      record { inner = m ∷ []; marks = g.1 ∙ ap (λ y. in_zone closing m ∷ y) g.2.1; contents = n.from b (m ∷ []) ([], refl, (g.2.0, refl)) },
    );
  }

  -- the byte at which an entry fails
  pub no_entry : (n : ℕ) (P : MarkedForm) (c : ℕ) (m : Mark) → (demanded → (b : List ℕ) (k : Marks) → length b ≡ n → P (c ∷ b) k → ⊥) → Next demanded (Sized demanded (suc n) (Entry P)) c m Never
  no_entry n P c m none = next_never demanded (Sized demanded (suc n) (Entry P)) c m (λ s b k h. none s b h.1.inner (let l : length (c ∷ b) ≡ suc n = h.0 s in omega (arith, l)) h.1.contents)
