-- The possible rest of an expression, and how each byte continues it.
use Rattle.std.proofs.Common.{◌≡◌, ℕ, zero, suc, ◌+◌, ◌-◌, ◌<◌, ◌^◌, List, [], ◌∷◌, ◌++◌, Option, Some, None, refl, sym, ◌∙◌, ap, subst, arith, nat_lt}
use Rattle.std.specs.List.{AllByRecursion}
use Rattle.std.proofs.lemmas.Bool.{cond_both, ltb-false}
use Rattle.wm_syntax.specs.declared.profile.Profile.{Profile}
use Rattle.wm_syntax.specs.declared.why.Why.TheVariants as why
use Rattle.wm_syntax.specs.declared.instructions.Op.{Op}
use Rattle.wm_syntax.specs.declared.instructions.Op.TheVariants as op
use Rattle.wm_syntax.specs.declared.numbers.Step.{Step}
use Rattle.wm_syntax.specs.declared.numbers.Step.TheVariants as step
use Rattle.wm_syntax.specs.inner.Numbers.{Partial}
use Rattle.wm_syntax.specs.exact.Reading.{fresh, unsigned_push}
use Rattle.wm_syntax.specs.Profiles.{IsOpOf}
use Rattle.wm_machine.specs.declared.step.reading.Reading.{Reading}
use Rattle.wm_machine.specs.declared.step.reading.Reading.TheVariants.{More, Done, Bad}
use Rattle.wm_machine.specs.declared.step.ops.InOp.{InOp}
use Rattle.wm_machine.specs.declared.step.expressions.InExpression.{InExpression}
use Rattle.wm_machine.specs.declared.step.expressions.InExpression.TheVariants as expression
use Rattle.wm_machine.specs.Items.{Item, Marks}
use Rattle.wm_machine.specs.MarkedForms.{MarkedForm, Empty, Counted, marks_ending, outside_mark}
use Rattle.wm_machine.specs.Grammar.{EachOp, Expression}
use Rattle.wm_machine.specs.exact.OpSteps.{on_answer, op_push}
use Rattle.wm_machine.specs.exact.ExpressionSteps.{start, at_next_op, deeper, after_op, after_label, after_reading, expression_failed, expression_step}
use Rattle.wm_machine.specs.exact.Readings.{Goes}
use Rattle.wm_machine.proofs.FirstBytes.{Next, Same, Never, not_nil, next_to, next_never}
use Rattle.wm_machine.proofs.Numbers.{Left, left_nil, fresh_number}
use Rattle.wm_machine.proofs.Counts.{CountedNext, counted_next}
use Rattle.wm_machine.proofs.ValuesThatAsk.{Led, LedNext, led_next, led_has, led_marked, has_mark, no_front}
use Rattle.wm_machine.proofs.OpBytes.{NoLabel}
use Rattle.wm_machine.proofs.OpRest.{op_rest, op_reader, rest_named}
use Rattle.wm_machine.proofs.Endings.{Ends, expression_ends}

-- places in an expression that is not over
abbrev pub IsInside : InExpression → Type 0
IsInside (expression.Op depth at) = Unit {0}
IsInside (expression.Label depth left r) = Unit {0}
IsInside expression.Over = ⊥
IsInside (expression.Failed w) = ⊥

module _ (p : Profile) (part : Op → Item) where
  -- ops up to the end, with so many blocks open and so many labels to come
  abbrev pub OpsFrom : (depth labels : ℕ) → MarkedForm
  OpsFrom depth labels b k = (ops : List Op) × Ends depth labels ops × AllByRecursion (IsOpOf p) ops × EachOp p part ops b k

  -- the same after an op
  abbrev pub OpsAfter : ℕ → Op → MarkedForm
  OpsAfter depth o b k = (ops : List Op) × Ends depth 0 (o ∷ ops) × AllByRecursion (IsOpOf p) ops × EachOp p part ops b k

  abbrev pub label_part : ℕ → Option Item
  label_part l = Some (part (op.Label l))

  abbrev pub ExpressionRest : InExpression → MarkedForm
  ExpressionRest (expression.Op depth at) = Led (op_rest p at) part (OpsAfter depth)
  ExpressionRest (expression.Label depth left r) = Counted (Left r) label_part (λ l. OpsFrom depth left)
  ExpressionRest expression.Over = Empty
  ExpressionRest (expression.Failed w) = Never

  pub expression_has : (at : InExpression) → IsInside at → (k : Marks) → ExpressionRest at [] k → ⊥
  expression_has (expression.Op depth at) i k h = led_has (Unit {0}) (op_rest p) (op_push p) (op_reader p) part (OpsAfter depth) at k h
  expression_has (expression.Label depth left r) i k h = left_nil r h.n (subst (Left r h.n) (no_front h.front h.back h.bytes) h.number)
  expression_has expression.Over i k h = i
  expression_has (expression.Failed w) i k h = i

  pub expression_marked : (at : InExpression) → IsInside at → (b : List ℕ) → ExpressionRest at b [] → ⊥
  expression_marked (expression.Op depth at) i b h = led_marked (Unit {0}) (op_rest p) (op_push p) (op_reader p) part (OpsAfter depth) at b h
  expression_marked (expression.Label depth left r) i b h = has_mark (label_part h.n) h.front h.back_marks (λ e. left_nil r h.n (subst (Left r h.n) e h.number)) h.marks
  expression_marked expression.Over i b h = i
  expression_marked (expression.Failed w) i b h = i

-- the item of an op that is complete
abbrev pub mark_of : (Op → Item) → Option Op → Option Item
mark_of part None = None
mark_of part (Some o) = Some (part o)

-- one block more can be counted
abbrev pub CanOpen : InExpression → Type 0
CanOpen (expression.Op depth at) = depth + 1 < 2 ^ 32
CanOpen _ = Unit {0}

pub deeper_is : (depth : ℕ) → depth + 1 < 2 ^ 32 → deeper depth ≡ suc depth
deeper_is depth h = cond_both (nat_lt depth (2 ^ 32 - 1)) (suc depth) depth (λ y. y ≡ suc depth) (λ _. refl) (λ n. absurd (omega (arith, h, ltb-false depth (2 ^ 32 - 1) n)))

not_label : (depth : ℕ) (o : Op) (ops : List Op) → Ends depth 0 (o ∷ ops) → NoLabel o
not_label depth (op.Label l) ops e = e
not_label depth _ ops e = tt

module _ (demanded : Type 0) (p : Profile) (part : Op → Item) where
  -- the next op
  opened_to : (depth : ℕ) (b : List ℕ) (k : Marks) (ops : List Op) → Ends depth 0 ops → AllByRecursion (IsOpOf p) ops → EachOp p part ops b k → ExpressionRest p part (at_next_op depth) b k
  opened_to depth b k [] e a h = absurd e
  opened_to depth b k (o ∷ ops) e a h = let f = h.first in record {
    value = o;
    front = h.front;
    back = h.back;
    back_marks = h.back_marks;
    bytes = h.bytes;
    marks = h.marks ∙ ap (λ y. y ++ h.back_marks) f.1;
    spelled = (not_label depth o ops e, a.0, f.0);
    rest = (ops, e, a.1, h.second);
  }

  opened_from : (depth : ℕ) (b : List ℕ) (k : Marks) → ExpressionRest p part (at_next_op depth) b k → OpsFrom p part depth 0 b k
  opened_from depth b k h = let r = h.rest in let u = h.spelled in (
    h.value ∷ r.0,
    r.1,
    (u.1, r.2),
    record {
      front = h.front;
      back = h.back;
      front_marks = marks_ending (Some (part h.value)) h.front;
      back_marks = h.back_marks;
      bytes = h.bytes;
      marks = h.marks;
      first = (u.2, refl);
      second = r.3;
    },
  )

  pub opened_same : (depth : ℕ) → Same demanded (OpsFrom p part depth 0) (ExpressionRest p part (at_next_op depth))
  opened_same depth = record { to = λ s b k h. opened_to depth b k h.0 h.1 h.2 h.3; from = opened_from depth }

  -- the next label
  label_to : (depth n : ℕ) (b : List ℕ) (k : Marks) (ops : List Op) → Ends depth (suc n) ops → AllByRecursion (IsOpOf p) ops → EachOp p part ops b k → ExpressionRest p part (expression.Label depth n fresh) b k
  label_to depth n b k [] e a h = absurd e
  label_to depth n b k (op.Label l ∷ ops) e a h = let f = h.first in record {
    n = l;
    front = h.front;
    back = h.back;
    back_marks = h.back_marks;
    bytes = h.bytes;
    marks = h.marks ∙ ap (λ y. y ++ h.back_marks) f.1;
    number = (fresh_number l h.front).0 f.0;
    rest = (ops, e, a.1, h.second);
  }
  label_to depth n b k (_ ∷ ops) e a h = absurd e

  label_from : (depth n : ℕ) (b : List ℕ) (k : Marks) → ExpressionRest p part (expression.Label depth n fresh) b k → OpsFrom p part depth (suc n) b k
  label_from depth n b k h = let r = h.rest in (
    op.Label h.n ∷ r.0,
    r.1,
    (tt, r.2),
    record {
      front = h.front;
      back = h.back;
      front_marks = marks_ending (label_part p part h.n) h.front;
      back_marks = h.back_marks;
      bytes = h.bytes;
      marks = h.marks;
      first = ((fresh_number h.n h.front).1 h.number, refl);
      second = r.3;
    },
  )

  pub label_same : (depth n : ℕ) → Same demanded (OpsFrom p part depth (suc n)) (ExpressionRest p part (expression.Label depth n fresh))
  label_same depth n = record { to = λ s b k h. label_to depth n b k h.0 h.1 h.2 h.3; from = label_from depth n }

  -- after an op, and after a label
  over_same : Same demanded (OpsAfter p part 0 op.End) Empty
  over_same = record { to = λ s b k h. subst (λ y. EachOp p part y b k) h.1 h.3; from = λ b k h. ([], refl, tt, h) }

  deeper_same : (depth : ℕ) → depth + 1 < 2 ^ 32 → Same demanded (OpsFrom p part (suc depth) 0) (ExpressionRest p part (at_next_op (deeper depth)))
  deeper_same depth h = subst (λ y. Same demanded (OpsFrom p part (suc depth) 0) (ExpressionRest p part (at_next_op y))) (sym (deeper_is depth h)) (opened_same (suc depth))

  after_same : (depth : ℕ) → depth + 1 < 2 ^ 32 → (o : Op) → NoLabel o → Same demanded (OpsAfter p part depth o) (ExpressionRest p part (after_op depth o))
  after_same depth h (op.Block t) n = deeper_same depth h
  after_same depth h (op.Loop t) n = deeper_same depth h
  after_same depth h (op.If t) n = deeper_same depth h
  after_same zero h op.End n = over_same
  after_same (suc d) h op.End n = opened_same d
  after_same depth h (op.BrTable m) n = label_same depth m
  after_same depth h op.Else n = opened_same depth
  after_same depth h (op.Simple i) n = opened_same depth
  after_same depth h (op.Label l) n = absurd n

  after_label_same : (depth left : ℕ) → Same demanded (OpsFrom p part depth left) (ExpressionRest p part (after_label depth left))
  after_label_same depth zero = opened_same depth
  after_label_same depth (suc n) = label_same depth n

  -- all of an expression
  pub expression_same : Same demanded (Expression p part) (ExpressionRest p part start)
  expression_same = record {
    to = λ s b k h. (opened_same 0).to s b k (h.0, (expression_ends h.0).0 h.1, h.2, h.3);
    from = λ b k h. let g = (opened_same 0).from b k h in (g.0, (expression_ends g.0).1 g.1, g.2, g.3);
  }

  abbrev Follows : MarkedForm → ℕ → InExpression × Option Op → Type 0
  Follows P c a = Next demanded P c (outside_mark (mark_of part a.1)) (ExpressionRest p part a.0)

  op_follows : (depth : ℕ) → depth + 1 < 2 ^ 32 → (at : InOp) (c : ℕ) (a : Reading InOp Op) → ((o : Op) → a ≡ Done o → NoLabel o) → LedNext demanded (op_rest p) (op_push p) (op_reader p) part (OpsAfter p part depth) at c a
      → Follows (ExpressionRest p part (expression.Op depth at)) c (after_reading depth a)
  op_follows depth h at c (More s) n next = next
  op_follows depth h at c (Done o) n next = next_to demanded (ExpressionRest p part (expression.Op depth at)) (OpsAfter p part depth o) (ExpressionRest p part (after_op depth o)) c (outside_mark (Some (part o))) (after_same depth h o (n o refl)) next
  op_follows depth h at c (Bad w) n next = next

  done_good : (at : InOp) (c : ℕ) → c < 2 ^ 8 → (o : Op) → op_push p at c ≡ Done o → NoLabel o
  done_good at c byte o e =
      let r = op_reader p in
      rest_named p at o (c ∷ []) ((r.law at c byte o []).1 (subst (λ y. Goes (op_rest p) y o []) (sym e) (refl, refl)))

  label_follows : (depth left : ℕ) (r : Partial) (c : ℕ) (q : Step ℕ × Partial) → CountedNext demanded (label_part p part) (λ l. OpsFrom p part depth left) r c q
      → Follows (ExpressionRest p part (expression.Label depth left r)) c (on_answer q (λ s. (expression.Label depth left s, None)) (λ l. (after_label depth left, Some (op.Label l))) (expression_failed why.BadNumber))
  label_follows depth left r c (step.More, s) next = next
  label_follows depth left r c (step.Done v, s) next = next_to demanded (ExpressionRest p part (expression.Label depth left r)) (OpsFrom p part depth left) (ExpressionRest p part (after_label depth left)) c (outside_mark (label_part p part v)) (after_label_same depth left) next
  label_follows depth left r c (step.Bad, s) next = next

  -- each byte goes on with what may still come
  pub expression_follows : (at : InExpression) (c : ℕ) → CanOpen at → c < 2 ^ 8 → Next demanded (ExpressionRest p part at) c (outside_mark (mark_of part (expression_step p at c).1)) (ExpressionRest p part (expression_step p at c).0)
  expression_follows (expression.Op depth at) c h byte = op_follows depth h at c (op_push p at c) (done_good at c byte) (led_next demanded (op_rest p) (op_push p) (op_reader p) part (OpsAfter p part depth) at c byte)
  expression_follows (expression.Label depth left r) c h byte = label_follows depth left r c (unsigned_push 32 r c) (counted_next demanded (label_part p part) (λ l. OpsFrom p part depth left) r c byte)
  expression_follows expression.Over c h byte = next_never demanded Empty c (outside_mark None) (λ s b k e. not_nil c b e.0)
  expression_follows (expression.Failed w) c h byte = next_never demanded Never c (outside_mark None) (λ s b k e. e)
