-- Ops taken one after another.
use Rattle.std.proofs.Common.{ℕ, ◌≡◌, ◌<◌, List, [], ◌∷◌, ◌++◌, None, Result, Ok, Err, length, sym, refl, ap, ◌∙◌, subst, arith, append_assoc, append-nil, ◌↔◌}
use Rattle.wm_syntax.specs.declared.types.ValType.{ValType}
use Rattle.wm_syntax.specs.declared.why.Why.{Why}
use Rattle.wm_syntax.specs.declared.why.Why.TheVariants.{BodyEnd}
use Rattle.wm_syntax.specs.declared.instructions.Op.{Op}
use Rattle.wm_stacks.specs.declared.stack_entries.Frame.{Frame}
use Rattle.wm_typing.specs.Typing.{Context}
use Rattle.wm_typing.specs.Contexts.{body_context}
use Rattle.wm_typing.specs.exact.Ops.{step}
use Rattle.wm_typing.specs.Bodies.{BodyState, Body}
use Rattle.wm_typing.specs.exact.Answers.{Adds}
use Rattle.wm_typing.specs.exact.Bodies.{context_in, with_state, body_from, unless_refused, body_after_op}
use Rattle.wm_typing.specs.Probes.{probes_in}
use Rattle.wm_typing.specs.exact.Folds.{while_inside, body_after_ops}
use Rattle.wm_typing.specs.TypedBodies.{HaveTyping, IsTypedBody}
use Rattle.wm_typing.specs.inner.Checking.{BodyAfter}
use Rattle.wm_typing.proofs.Costs.{OneResult, MayAddOp, op_adds}
use Rattle.wm_typing.proofs.StacksAfterOps.{typed_at, unfinished, front_typed, ended_none}
use Rattle.wm_typing.proofs.AfterCalls.{within_after, stats_ok, after_ok, no_typing}

-- what an op that is taken adds
step_adds : (c : Context) → OneResult c → (b z : Body) (y : Op) → b.refused ≡ None → body_after_op c y b ≡ Ok z → Adds 4 1 b.state.stacks z.state.stacks
step_adds c one b z y u e =
    go (step (context_in c b) b.state y) refl (sym (ap (λ r. unless_refused r (body_from b (probes_in c b y) (step (context_in c b) b.state y))) u) ∙ e)
  where
    go : (r : Result BodyState Why) → step (context_in c b) b.state y ≡ r → body_from b (probes_in c b y) r ≡ Ok z → Adds 4 1 b.state.stacks z.state.stacks
    go (Err why) k f = cc
    go (Ok s) k f =
        let q : with_state b (probes_in c b y) s ≡ z = cc in
        subst (λ v. Adds 4 1 b.state.stacks v.state.stacks) q
        (subst (λ v. MayAddOp 4 1 b.state.stacks v) k (op_adds (context_in c b) one y b.state.table b.state.stacks))

one_taken : (c : Context) → OneResult c → (x : ℕ) (locals : List ValType) (ops : List Op) (b z : Body) (y : Op) → BodyAfter c x locals ops b → 0 < length b.state.stacks.frames
    → body_after_op c y b ≡ Ok z → BodyAfter c x locals (ops ++ y ∷ []) z
one_taken c one x locals ops b z y a l e =
    let d = step_adds c one b z y a.unrefused e in
    after_ok c x locals ops b y z a l e (within_after c (length ops) b y z a.within (stats_ok c b y z a.unrefused e) d.0 d.1)

-- one op, and those after it
next_one : (c : Context) (ops : List Op) (b : Body) (y : Op) (R : Type 0) (o : Result Body Why) (fs : List Frame) (r : Result Body Why)
    → b.state.stacks.frames ≡ fs → body_after_op c y b ≡ r → body_after_ops c (while_inside fs r) ops ≡ o
    → (b.state.stacks.frames ≡ [] → body_after_ops c (Err BodyEnd) ops ≡ o → R)
    → ((why : Why) → 0 < length b.state.stacks.frames → body_after_op c y b ≡ Err why → body_after_ops c (Err why) ops ≡ o → R)
    → ((z : Body) → 0 < length b.state.stacks.frames → body_after_op c y b ≡ Ok z → body_after_ops c (Ok z) ops ≡ o → R) → R
next_one c ops b y R o [] r n k e past refused taken = past n e
next_one c ops b y R o (f ∷ fs) (Err why) n k e past refused taken = refused why (let l = ap length n in omega (arith, l)) k e
next_one c ops b y R o (f ∷ fs) (Ok z) n k e past refused taken = taken z (let l = ap length n in omega (arith, l)) k e

pub taken_from : (c : Context) → OneResult c → (x : ℕ) (locals : List ValType) (before ops : List Op) (b z : Body) → BodyAfter c x locals before b
    → body_after_ops c (Ok b) ops ≡ Ok z → BodyAfter c x locals (before ++ ops) z
taken_from c one x locals before [] b z a e =
    subst (λ v. BodyAfter c x locals v z) (sym (append-nil before)) (subst (λ v. BodyAfter c x locals before v) (let q : b ≡ z = cc in q) a)
taken_from c one x locals before (y ∷ ops) b z a e =
    next_one c ops b y (BodyAfter c x locals (before ++ y ∷ ops) z) (Ok z) b.state.stacks.frames (body_after_op c y b) refl refl e
    (λ n f. cc)
    (λ why l k f. cc)
    (λ v l k f. subst (λ w. BodyAfter c x locals w z) (append_assoc before (y ∷ []) ops)
    (taken_from c one x locals (before ++ y ∷ []) ops v z (one_taken c one x locals before b v y a l k) f))

pub refused_from : (c : Context) → OneResult c → (x : ℕ) (locals : List ValType) (before ops : List Op) (b : Body) (why : Why) → BodyAfter c x locals before b
    → body_after_ops c (Ok b) ops ≡ Err why → HaveTyping (body_context c x locals) (before ++ ops) → ⊥
refused_from c one x locals before [] b why a e h = cc
refused_from c one x locals before (y ∷ ops) b why a e h =
    let d = body_context c x locals in
    next_one c ops b y ⊥ (Err why) b.state.stacks.frames (body_after_op c y b) refl refl e
    (λ n f. ended_none d before ops y refl (typed_at d before b.state.table b.state.stacks a.keeps n refl) h)
    (λ w l k f. no_typing c x locals before b y w a l k (front_typed d (before ++ y ∷ []) ops (subst (λ v. HaveTyping d v) (sym (append_assoc before (y ∷ []) ops)) h)))
    (λ v l k f. refused_from c one x locals (before ++ y ∷ []) ops v why (one_taken c one x locals before b v y a l k) f
    (subst (λ w. HaveTyping d w) (sym (append_assoc before (y ∷ []) ops)) h))

pub ended_iff : (c : Context) (x : ℕ) (locals : List ValType) (ops : List Op) (b : Body) → BodyAfter c x locals ops b
    → (b.state.stacks.frames ≡ []) ↔ IsTypedBody (body_context c x locals) ops
ended_iff c x locals ops b a = go b.state.stacks.frames refl
  where
    go : (fs : List Frame) → b.state.stacks.frames ≡ fs → (b.state.stacks.frames ≡ []) ↔ IsTypedBody (body_context c x locals) ops
    go [] n = (λ e. typed_at (body_context c x locals) ops b.state.table b.state.stacks a.keeps e refl, λ h. n)
    go (f ∷ fs) n = (
      λ e. cc,
      λ h. absurd (unfinished (body_context c x locals) ops b.state.table b.state.stacks a.keeps (let l = ap length n in omega (arith, l)) refl h),
    )
