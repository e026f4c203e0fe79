-- The possible states of the reader of an expression: something may still come in each. Also, where it gives the name
-- Float.
use Rattle.std.proofs.Common.{◌≡◌, ◌⊎◌, inl, inr, subst, ℕ, zero, suc, ◌+◌, ◌-◌, ◌<◌, ◌≤◌, ◌^◌, List, [], ◌∷◌, ◌++◌, Some, None, refl, ap, arith, nat_lt}
use Rattle.std.specs.List.{AllByRecursion}
use Rattle.std.proofs.lemmas.Bool.{cond_both}
use Rattle.wm_syntax.specs.declared.profile.Profile.{Profile}
use Rattle.wm_syntax.specs.declared.why.Why.{Why}
use Rattle.wm_syntax.specs.declared.why.Why.TheVariants as why
use Rattle.wm_syntax.specs.declared.instructions.Op.{Op}
use Rattle.wm_syntax.specs.declared.instructions.Op.TheVariants as op
use Rattle.wm_syntax.specs.declared.numbers.Step.{Step}
use Rattle.wm_syntax.specs.declared.numbers.Step.TheVariants as step
use Rattle.wm_syntax.specs.inner.Numbers.{Partial}
use Rattle.wm_syntax.specs.exact.Reading.{fresh, unsigned_push}
use Rattle.wm_syntax.specs.Profiles.{IsOpOf}
use Rattle.wm_syntax.specs.Encodings.{SpellsOp}
use Rattle.wm_machine.specs.declared.step.reading.Reading.{Reading}
use Rattle.wm_machine.specs.declared.step.reading.Reading.TheVariants.{More, Done, Bad}
use Rattle.wm_machine.specs.declared.step.ops.InOp.{InOp}
use Rattle.wm_machine.specs.declared.step.expressions.InExpression.{InExpression}
use Rattle.wm_machine.specs.declared.step.expressions.InExpression.TheVariants as expression
use Rattle.wm_machine.specs.Items.{Item, Marks}
use Rattle.wm_machine.specs.MarkedForms.{MarkedForm, marks_ending}
use Rattle.wm_machine.specs.Grammar.{EachOp}
use Rattle.wm_machine.specs.exact.OpSteps.{on_answer, op_push}
use Rattle.wm_machine.specs.exact.ExpressionSteps.{start, deeper, ends, after_op, after_label, after_reading, expression_failed, expression_step}
use Rattle.wm_machine.proofs.Numbers.{fresh_number}
use Rattle.wm_machine.proofs.OpBytes.{NoLabel}
use Rattle.wm_machine.proofs.OpRest.{op_rest, rest_named}
use Rattle.wm_machine.specs.Decoding.{IsFloatByte}
use Rattle.wm_machine.proofs.OpSound.{HasRoom, RoomAfter, fresh_32, unsigned_room, SoundOp, FineOp, op_fine, some_op, last_byte, IsOther, op_faults}
use Rattle.wm_machine.proofs.Endings.{Ends}
use Rattle.wm_machine.proofs.ExpressionRest.{OpsFrom, OpsAfter, label_part, ExpressionRest, IsInside, CanOpen}

-- The states in which something may still come, where so many bytes are left at most: a block is opened by a byte at
-- least, so that the open ones can be counted.
abbrev pub SoundExpression : Profile → ℕ → InExpression → Type 0
SoundExpression p left (expression.Op depth at) = SoundOp p at × (depth + left < 2 ^ 32)
SoundExpression p left (expression.Label depth labels r) = HasRoom 32 r × (depth + left < 2 ^ 32)
SoundExpression p left expression.Over = Unit {0}
SoundExpression p left (expression.Failed w) = ⊥

-- the same of what a byte leaves, which may have failed
abbrev pub FineExpression : Profile → ℕ → InExpression → Type 0
FineExpression p left (expression.Failed w) = Unit {0}
FineExpression p left at = SoundExpression p left at

pub start_sound : (p : Profile) (left : ℕ) → left < 2 ^ 32 → SoundExpression p left start
start_sound p left h = (tt, omega (arith, h))

pub sound_opens : (p : Profile) (left : ℕ) (at : InExpression) → SoundExpression p (suc left) at → CanOpen at
sound_opens p left (expression.Op depth at) h = omega (arith, h.1)
sound_opens p left (expression.Label depth labels r) h = tt
sound_opens p left expression.Over h = tt
sound_opens p left (expression.Failed w) h = tt

deeper_most : (depth : ℕ) → deeper depth ≤ suc depth
deeper_most depth = cond_both (nat_lt depth (2 ^ 32 - 1)) (suc depth) depth (λ y. y ≤ suc depth) (λ _. omega arith) (λ _. omega arith)

after_fine : (p : Profile) (left depth : ℕ) (o : Op) → depth + suc left < 2 ^ 32 → FineExpression p left (after_op depth o)
after_fine p left depth (op.Block t) h = (tt, omega (arith, h, deeper_most depth))
after_fine p left depth (op.Loop t) h = (tt, omega (arith, h, deeper_most depth))
after_fine p left depth (op.If t) h = (tt, omega (arith, h, deeper_most depth))
after_fine p left zero op.End h = tt
after_fine p left (suc d) op.End h = (tt, omega (arith, h))
after_fine p left depth (op.BrTable n) h = (fresh_32, omega (arith, h))
after_fine p left depth op.Else h = (tt, omega (arith, h))
after_fine p left depth (op.Simple i) h = (tt, omega (arith, h))
after_fine p left depth (op.Label l) h = (tt, omega (arith, h))

after_label_fine : (p : Profile) (left depth labels : ℕ) → depth + suc left < 2 ^ 32 → FineExpression p left (after_label depth labels)
after_label_fine p left depth zero h = (tt, omega (arith, h))
after_label_fine p left depth (suc n) h = (fresh_32, omega (arith, h))

op_sound : (p : Profile) (left depth : ℕ) (a : Reading InOp Op) → depth + suc left < 2 ^ 32 → FineOp p a → FineExpression p left (after_reading depth a).0
op_sound p left depth (More s) h f = (f, omega (arith, h))
op_sound p left depth (Done o) h f = after_fine p left depth o h
op_sound p left depth (Bad w) h f = tt

label_sound : (p : Profile) (left depth labels : ℕ) (q : Step ℕ × Partial) → depth + suc left < 2 ^ 32 → RoomAfter 32 q
    → FineExpression p left (on_answer q (λ s. (expression.Label depth labels s, None)) (λ l. (after_label depth labels, Some (op.Label l))) (expression_failed why.BadNumber)).0
label_sound p left depth labels (step.More, s) h f = (f, omega (arith, h))
label_sound p left depth labels (step.Done v, s) h f = after_label_fine p left depth labels h
label_sound p left depth labels (step.Bad, s) h f = tt

pub expression_sound : (p : Profile) (left : ℕ) (at : InExpression) (c : ℕ) → c < 2 ^ 8 → SoundExpression p (suc left) at → FineExpression p left (expression_step p at c).0
expression_sound p left (expression.Op depth at) c byte h = op_sound p left depth (op_push p at c) h.1 (op_fine p at c byte h.0)
expression_sound p left (expression.Label depth labels r) c byte h = label_sound p left depth labels (unsigned_push 32 r c) h.1 (unsigned_room 32 r c h.0 byte)
expression_sound p left expression.Over c byte h = tt
expression_sound p left (expression.Failed w) c byte h = tt

-- Something may still come: what is left of an op or a label, zeros for labels, and ends.
module _ (p : Profile) (part : Op → Item) where
  abbrev Comes : MarkedForm → Type 0
  Comes P = (b : List ℕ) × (k : Marks) × P b k

  first_op : (o : Op) (depth labels : ℕ) (ops : List Op) (front b : List ℕ) (k : Marks) → SpellsOp p o front → IsOpOf p o → Ends depth labels (o ∷ ops) → AllByRecursion (IsOpOf p) ops → EachOp p part ops b k → Comes (OpsFrom p part depth labels)
  first_op o depth labels ops front b k s i e a h = (
    front ++ b,
    marks_ending (Some (part o)) front ++ k,
    (
      o ∷ ops,
      e,
      (i, a),
      record {
        front = front;
        back = b;
        front_marks = marks_ending (Some (part o)) front;
        back_marks = k;
        bytes = refl;
        marks = refl;
        first = (s, refl);
        second = h;
      },
    ),
  )

  pub some_ops : (depth labels : ℕ) → Comes (OpsFrom p part depth labels)
  some_ops zero zero = first_op op.End 0 0 [] (0x0B ∷ []) [] [] refl tt refl tt (refl, refl)
  some_ops (suc d) zero = let g = some_ops d zero in let r = g.2 in first_op op.End (suc d) 0 r.0 (0x0B ∷ []) g.0 g.1 refl tt r.1 r.2 r.3
  some_ops depth (suc n) = let g = some_ops depth n in let r = g.2 in first_op (op.Label 0) depth (suc n) r.0 (0 ∷ []) g.0 g.1 ((fresh_number 0 (0 ∷ [])).1 (last_byte fresh (omega arith))) tt r.1 r.2 r.3

  pub some_after : (depth : ℕ) (o : Op) → NoLabel o → (b : List ℕ) × (k : Marks) × OpsAfter p part depth o b k
  some_after depth (op.Block t) n = some_ops (suc depth) 0
  some_after depth (op.Loop t) n = some_ops (suc depth) 0
  some_after depth (op.If t) n = some_ops (suc depth) 0
  some_after zero op.End n = ([], [], ([], refl, tt, (refl, refl)))
  some_after (suc d) op.End n = some_ops d 0
  some_after depth (op.BrTable m) n = some_ops depth (suc m)
  some_after depth op.Else n = some_ops depth 0
  some_after depth (op.Simple i) n = some_ops depth 0
  some_after depth (op.Label l) n = absurd n

  pub some_expression : (left : ℕ) (at : InExpression) → SoundExpression p left at → (b : List ℕ) × (k : Marks) × ExpressionRest p part at b k
  some_expression left (expression.Op depth at) h =
      let s : (o : Op) × (b : List ℕ) × op_rest p at o b = some_op p at h.0 in
      let g = some_after depth s.0 (rest_named p at s.0 s.1 s.2) in
      (s.1 ++ g.0, marks_ending (Some (part s.0)) s.1 ++ g.1, record { value = s.0; front = s.1; back = g.0; back_marks = g.1; bytes = refl; marks = refl; spelled = s.2; rest = g.2 })
  some_expression left (expression.Label depth labels r) h =
      let room : HasRoom 32 r = h.0 in
      let g = some_ops depth labels in
      (0 ∷ g.0, marks_ending (label_part p part r.low) (0 ∷ []) ++ g.1, record { n = r.low; front = 0 ∷ []; back = g.0; back_marks = g.1; bytes = refl; marks = refl; number = last_byte r room.0; rest = g.2 })
  some_expression left expression.Over h = ([], [], (refl, refl))
  some_expression left (expression.Failed w) h = absurd h

-- By which names an expression is refused: never by one that neither the byte nor its op is refused by.
module _ (name : Why) (Fault : ℕ → Type 0) (other : (w : Why) → IsOther w → w ≡ name → ⊥) (float : (c : ℕ) → why.Float ≡ name → IsFloatByte c → Fault c) where
  abbrev Calm : InExpression → Type 0
  Calm at = at ≡ expression.Failed name → ⊥

  ends_calm : (depth : ℕ) → Calm (ends depth)
  ends_calm zero e = cc
  ends_calm (suc d) e = cc

  after_calm : (depth : ℕ) (o : Op) → Calm (after_op depth o)
  after_calm depth op.End = ends_calm depth
  after_calm depth (op.BrTable n) = λ e. cc
  after_calm depth _ = λ e. cc

  after_label_calm : (depth labels : ℕ) → Calm (after_label depth labels)
  after_label_calm depth zero e = cc
  after_label_calm depth (suc n) e = cc

  failed_calm : (w : Why) → IsOther w → Calm (expression.Failed w)
  failed_calm w i e = other w i (let same : w ≡ name = cc in same)

  reading_fault : (depth c : ℕ) (a : Reading InOp Op) → (a ≡ Bad name → Fault c) → (after_reading depth a).0 ≡ expression.Failed name → Fault c
  reading_fault depth c (More s) f e = cc
  reading_fault depth c (Done o) f e = absurd (after_calm depth o e)
  reading_fault depth c (Bad w) f e = let same : w ≡ name = cc in f (ap Bad same)

  label_calm : (depth labels : ℕ) (q : Step ℕ × Partial) → Calm (on_answer q (λ s. (expression.Label depth labels s, None)) (λ l. (after_label depth labels, Some (op.Label l))) (expression_failed why.BadNumber)).0
  label_calm depth labels (step.More, s) = λ e. cc
  label_calm depth labels (step.Done v, s) = after_label_calm depth labels
  label_calm depth labels (step.Bad, s) = failed_calm why.BadNumber tt

  -- after its end it is refused by SectionEnd
  past_end : (at : InExpression) → (IsInside at → ⊥) → IsInside at ⊎ (why.SectionEnd ≡ name → ⊥) → Calm (expression.Failed why.SectionEnd)
  past_end at over (inl i) e = over i
  past_end at over (inr n) e = n (let same : why.SectionEnd ≡ name = cc in same)

  pub expression_fault : (p : Profile) (at : InExpression) (c : ℕ) → IsInside at ⊎ (why.SectionEnd ≡ name → ⊥) → (expression_step p at c).0 ≡ expression.Failed name → Fault c
  expression_fault p (expression.Op depth at) c i e = reading_fault depth c (op_push p at c) (op_faults name Fault other float p at c) e
  expression_fault p (expression.Label depth labels r) c i e = absurd (label_calm depth labels (unsigned_push 32 r c) e)
  expression_fault p expression.Over c i e = absurd (past_end expression.Over (λ h. h) i e)
  expression_fault p (expression.Failed w) c i e = absurd (past_end (expression.Failed w) (λ h. h) i e)

pub expression_float : (p : Profile) (at : InExpression) (c : ℕ) → (expression_step p at c).0 ≡ expression.Failed why.Float → IsFloatByte c
expression_float p at c = expression_fault why.Float IsFloatByte (λ w i e. subst IsOther e i) (λ c e h. h) p at c (inr (λ e. cc))
