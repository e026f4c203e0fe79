-- The checker's answers to the items of a code entry.
use Rattle.std.proofs.Common.{ℕ, ◌+◌, ◌≡◌, ◌≤◌, ◌<◌, ◌^◌, List, [], ◌∷◌, ◌++◌, Option, Some, None, Bool, true, false, cond, Result, Ok, Err, length, max, replicate, refl, sym, ◌∙◌, ap, subst, append_assoc, append-nil, length-append, lit<, arith, map, nat_lt}
use Rattle.std.specs.List.{AllByRecursion}
use Rattle.std.proofs.lemmas.Bool.{lt-ltb, ltb-true}
use Rattle.std.proofs.lemmas.List.{length-replicate}
use Rattle.wm_syntax.specs.declared.types.ValType.{ValType}
use Rattle.wm_syntax.specs.declared.instructions.Op.{Op}
use Rattle.wm_syntax.specs.declared.why.Why.{Why}
use Rattle.wm_syntax.specs.declared.why.Why.TheVariants as why
use Rattle.wm_syntax.specs.Modules.{Function, locals_of}
use Rattle.wm_stacks.specs.declared.stack_entries.Frame.{Frame}
use Rattle.wm_typing.specs.declared.body_checker.Progress.{Progress}
use Rattle.wm_typing.specs.declared.body_checker.Progress.TheVariants.{Inside, Ended}
use Rattle.wm_typing.specs.TypedBodies.{IsTypedBody, HaveTyping}
use Rattle.wm_typing.specs.Bodies.{Body, no_body}
use Rattle.wm_typing.specs.Contexts.{body_context}
use Rattle.wm_typing.specs.Typing.{Context}
use Rattle.wm_typing.specs.exact.Bodies.{body_after_op, progress_at, declared_to}
use Rattle.wm_typing.specs.exact.Folds.{body_after_ops, body_with_locals, while_inside}
use Rattle.wm_typing.specs.Nesting.{nesting}
use Rattle.wm_syntax.specs.Instructions.{openings, endings}
use Rattle.wm_typing.proofs.Folds.{taken_from, refused_from, ended_iff}
use Rattle.wm_typing.proofs.StacksAfterOps.{front_typed, body_can}
use Rattle.wm_typing.proofs.AfterCalls.{after_started, controls_said, nested_said}
use Rattle.wm_machine.specs.Grammar.{IsExpression}
use Rattle.wm_machine.specs.Items.{Item, body_op}
use Rattle.wm_machine.specs.Sinks.{and_then, all_taken}
use Rattle.wm_rules.specs.exact.Spaces.{context_of, next_type}
use Rattle.wm_rules.specs.exact.Checking.{after, body_begun, greatest, checker_after_op, with_body, with_progress}
use Rattle.wm_rules.specs.Holding.{Held}
use Rattle.wm_machine.specs.Flat.{FlatCode, IsCodeOf, code_items}
use Rattle.wm_machine.proofs.EntryBytes.{run_part}
use Rattle.wm_rules.proofs.MemberFolds.{Member}

-- a body is at hand, or it has just ended
abbrev pub in_body : Held → Body → Held
in_body h b = record h { body = b; in_body = true }

abbrev pub settled : Held → Body → Held
settled h b = with_progress (in_body h b) b (progress_at b.state.stacks.frames)

-- the steps of a body and the checker's answers agree
abbrev pub Agree : Held → Result Body Why → Result Held Why → Type 0
Agree h (Ok b) r = r ≡ Ok (settled h b)
Agree h (Err w) r = (x : Why) × (r ≡ Err x)

agree_step : (h : Held) (b : Body) (ops : List Op) (r : Result Body Why)
    → ((d : Body) → Agree h (body_after_ops (context_of h.spaces) (Ok d) ops) (all_taken after (settled h d) (map body_op ops)))
    → Agree h (body_after_ops (context_of h.spaces) r ops) (and_then (checker_after_op (in_body h b) r) (λ g. all_taken after g (map body_op ops)))
agree_step h b ops (Ok d) rest = go (progress_at d.state.stacks.frames) refl
  where
    go : (p : Progress) → progress_at d.state.stacks.frames ≡ p → Agree h (body_after_ops (context_of h.spaces) (Ok d) ops) (all_taken after (with_progress (in_body h b) d (progress_at d.state.stacks.frames)) (map body_op ops))
    go Inside e = subst (λ q. Agree h (body_after_ops (context_of h.spaces) (Ok d) ops) (all_taken after (with_progress (in_body h b) d q) (map body_op ops))) (sym e)
        (subst (λ q. Agree h (body_after_ops (context_of h.spaces) (Ok d) ops) (all_taken after (with_progress (in_body h d) d q) (map body_op ops))) e (rest d))
    go Ended e = subst (λ q. Agree h (body_after_ops (context_of h.spaces) (Ok d) ops) (all_taken after (with_progress (in_body h b) d q) (map body_op ops))) (sym e)
        (subst (λ q. Agree h (body_after_ops (context_of h.spaces) (Ok d) ops) (all_taken after (with_progress (in_body h d) d q) (map body_op ops))) e (rest d))
agree_step h b ops (Err w) rest = failed ops
  where
    failed : (ops : List Op) → Agree h (body_after_ops (context_of h.spaces) (Err w) ops) (Err w)
    failed ops = (w, refl)

pub ops_agree : (h : Held) (ops : List Op) (b : Body) → Agree h (body_after_ops (context_of h.spaces) (Ok b) ops) (all_taken after (settled h b) (map body_op ops))
ops_agree h [] b = refl
ops_agree h (o ∷ ops) b = go (λ d. ops_agree h ops d) b.state.stacks.frames refl
  where
    go : ((d : Body) → Agree h (body_after_ops (context_of h.spaces) (Ok d) ops) (all_taken after (settled h d) (map body_op ops))) → (fs : List Frame) → b.state.stacks.frames ≡ fs → Agree h (body_after_ops (context_of h.spaces) (Ok b) (o ∷ ops)) (all_taken after (settled h b) (body_op o ∷ map body_op ops))
    go rest [] e = subst (λ fs. Agree h (body_after_ops (context_of h.spaces) (while_inside fs (body_after_op (context_of h.spaces) o b)) ops) (all_taken after (with_progress (in_body h b) b (progress_at fs)) (body_op o ∷ map body_op ops))) (sym e) (why.Index, refl)
    go rest (f ∷ fs) e = subst (λ fs. Agree h (body_after_ops (context_of h.spaces) (while_inside fs (body_after_op (context_of h.spaces) o b)) ops) (all_taken after (with_progress (in_body h b) b (progress_at fs)) (body_op o ∷ map body_op ops))) (sym e)
        (agree_step h b ops (body_after_op (context_of h.spaces) o b) rest)

-- The declared locals, before the first op.
abbrev pub declared : Held → ℕ → List ValType → Held
declared h x ls = in_body h (body_with_locals (context_of h.spaces) x ls)

abbrev run_step : Held → ℕ → List ValType → ℕ → ValType → Bool → Result Held Why
run_step h x ls n t b = with_body (declared h x ls) (declared_to (body_with_locals (context_of h.spaces) x ls) (cond b (Ok (ls ++ replicate n t)) (Err why.TooManyLocals)))

run_room : (a c : List ValType) (n : ℕ) (t : ValType) → length (a ++ (replicate n t ++ c)) < 2 ^ 32 → length a + n < 2 ^ 32
run_room a c n t h = omega (arith, simp (length-append, length-replicate) at h)

pub runs_takes : (runs : List (ℕ × ValType)) (rest : List Item) (h : Held) (x : ℕ) (ls : List ValType) → length (ls ++ locals_of runs) < 2 ^ 32
    → all_taken after (declared h x ls) (map run_part runs ++ rest) ≡ all_taken after (declared h x (ls ++ locals_of runs)) rest
runs_takes [] rest h x ls few = ap (λ z. all_taken after (declared h x z) rest) (sym (append-nil ls))
runs_takes (r ∷ runs) rest h x ls few =
    let one : length ls + r.0 < 2 ^ 32 = run_room ls (locals_of runs) r.0 r.1 few in
    let all : length ((ls ++ replicate r.0 r.1) ++ locals_of runs) < 2 ^ 32 = rw (append_assoc ls (replicate r.0 r.1) (locals_of runs)) few in
    ap (λ v. and_then (run_step h x ls r.0 r.1 v) (λ g. all_taken after g (map run_part runs ++ rest))) (lt-ltb (length ls + r.0) (2 ^ 32) one)
    ∙ (runs_takes runs rest h x (ls ++ replicate r.0 r.1) all
    ∙ ap (λ z. all_taken after (declared h x z) rest) (append_assoc ls (replicate r.0 r.1) (locals_of runs)))

pub runs_sound : (runs : List (ℕ × ValType)) (rest : List Item) (h g : Held) (x : ℕ) (ls : List ValType) → length ls < 2 ^ 32
    → all_taken after (declared h x ls) (map run_part runs ++ rest) ≡ Ok g → length (ls ++ locals_of runs) < 2 ^ 32
runs_sound [] rest h g x ls few e = rw (append-nil ls) few
runs_sound (r ∷ runs) rest h g x ls few e = go (λ small e. runs_sound runs rest h g x (ls ++ replicate r.0 r.1) small e) (nat_lt (length ls + r.0) (2 ^ 32)) refl e
  where
    go : (length (ls ++ replicate r.0 r.1) < 2 ^ 32 → all_taken after (declared h x (ls ++ replicate r.0 r.1)) (map run_part runs ++ rest) ≡ Ok g → length ((ls ++ replicate r.0 r.1) ++ locals_of runs) < 2 ^ 32) → (b : Bool) → nat_lt (length ls + r.0) (2 ^ 32) ≡ b → and_then (run_step h x ls r.0 r.1 b) (λ k. all_taken after k (map run_part runs ++ rest)) ≡ Ok g → length (ls ++ locals_of (r ∷ runs)) < 2 ^ 32
    go next true is e =
        let room : length ls + r.0 < 2 ^ 32 = ltb-true (length ls + r.0) (2 ^ 32) is in
        let small : length (ls ++ replicate r.0 r.1) < 2 ^ 32 = simp (length-append, length-replicate) room in
        let more : length ((ls ++ replicate r.0 r.1) ++ locals_of runs) < 2 ^ 32 = next small e in
        rw (← append_assoc ls (replicate r.0 r.1) (locals_of runs)) more
    go next false is e = absurd (cc)

abbrev pub OneResults : Held → Type 0
OneResults h = AllByRecursion (λ f. length f.results ≤ 1) h.spaces.types

-- the function that a code entry is of, and its code
pub record CodeOf (h : Held) (c : FlatCode) : Type 0 where
  pub index : ℕ
  pub has_index : next_type h.spaces ≡ Some index
  pub few : length (locals_of c.runs) < 2 ^ 32
  pub typed : IsTypedBody (body_context (context_of h.spaces) index (locals_of c.runs)) c.ops

-- the body that its ops leave
abbrev ended_body : Result Body Why → Body
ended_body (Ok b) = b
ended_body (Err w) = no_body

abbrev first_body : Option ℕ → ℕ
first_body None = 0
first_body (Some x) = x

abbrev pub entry_held : Held → Held
entry_held h = record h { spaces = record h.spaces { bodies = h.spaces.bodies + 1 } }

abbrev code_run : Held → FlatCode → Result Body Why
code_run h c = body_after_ops (context_of h.spaces) (Ok (body_with_locals (context_of h.spaces) (first_body (next_type h.spaces)) (locals_of c.runs))) c.ops

abbrev pub put_code : Held → FlatCode → Held
put_code h c =
    let d = ended_body (code_run h c) in
    record h { spaces = record h.spaces { bodies = h.spaces.bodies + 1 }; body = d; in_body = false; most = greatest h.most d.stats }

-- the ops of a typed body are taken to its end
typed_ends : (k : Context) (x : ℕ) (ls : List ValType) (ops : List Op) → AllByRecursion (λ f. length f.results ≤ 1) k.types → IsTypedBody (body_context k x ls) ops
    → (d : Body) × (body_after_ops k (Ok (body_with_locals k x ls)) ops ≡ Ok d) × (d.state.stacks.frames ≡ [])
typed_ends k x ls ops one h = go (body_after_ops k (Ok (body_with_locals k x ls)) ops) refl
  where
    typing : HaveTyping (body_context k x ls) (ops ++ [])
    typing = body_can (body_context k x ls) (ops ++ []) refl (subst (IsTypedBody (body_context k x ls)) (sym (append-nil ops)) h)

    front : HaveTyping (body_context k x ls) ops
    front = front_typed (body_context k x ls) ops [] typing

    go : (r : Result Body Why) → body_after_ops k (Ok (body_with_locals k x ls)) ops ≡ r → (d : Body) × (body_after_ops k (Ok (body_with_locals k x ls)) ops ≡ Ok d) × (d.state.stacks.frames ≡ [])
    go (Ok d) e = (d, e, (ended_iff k x ls ops d (taken_from k one x ls [] ops (body_with_locals k x ls) d (after_started k x ls) e)).1 h)
    go (Err w) e = absurd (refused_from k one x ls [] ops (body_with_locals k x ls) w (after_started k x ls) e front)

-- ops that are taken, and are an expression, are a typed body
pub taken_typed : (k : Context) (x : ℕ) (ls : List ValType) (ops : List Op) (d : Body) → AllByRecursion (λ f. length f.results ≤ 1) k.types → IsExpression ops
    → body_after_ops k (Ok (body_with_locals k x ls)) ops ≡ Ok d → IsTypedBody (body_context k x ls) ops × (d.state.stacks.frames ≡ [])
taken_typed k x ls ops d one i e =
    let a = taken_from k one x ls [] ops (body_with_locals k x ls) d (after_started k x ls) e in
    let none : d.state.stacks.frames ≡ [] = no_frames d.state.stacks.frames (nested_said k x ls ops d a) in
    ((ended_iff k x ls ops d a).0 none, none)
  where
    no_frames : (fs : List Frame) → length fs + endings ops ≡ openings ops + 1 → fs ≡ []
    no_frames [] n = refl
    no_frames (f ∷ fs) n = let closed : endings ops ≡ openings ops + 1 = i.closed in absurd (omega (arith, n, closed))

abbrev put_at : Held → Body → Held
put_at h d = record h { spaces = record h.spaces { bodies = h.spaces.bodies + 1 }; body = d; in_body = false; most = greatest h.most d.stats }

ended_is : (h : Held) (d : Body) → d.state.stacks.frames ≡ [] → settled (entry_held h) d ≡ put_at h d
ended_is h d e = ap (λ fs. with_progress (in_body (entry_held h) d) d (progress_at fs)) e

code_takes : (h : Held) (c : FlatCode) → OneResults h → CodeOf h c → all_taken after h (code_items c) ≡ Ok (put_code h c)
code_takes h c one g =
    let k = context_of h.spaces in
    let ls = locals_of c.runs in
    let t = typed_ends k g.index ls c.ops one g.typed in
    let ops : all_taken after (declared (entry_held h) g.index ls) (map body_op c.ops) ≡ Ok (settled (entry_held h) t.0) =
    subst (λ r. Agree (entry_held h) r (all_taken after (declared (entry_held h) g.index ls) (map body_op c.ops))) t.1 (ops_agree (entry_held h) c.ops (body_with_locals k g.index ls)) in
    let put : put_at h t.0 ≡ put_code h c = sym (ap (λ r. put_at h (ended_body r)) (ap (λ o. body_after_ops k (Ok (body_with_locals k (first_body o) ls)) c.ops) g.has_index ∙ t.1)) in
    ap (λ o. and_then (body_begun h o) (λ z. all_taken after z (map run_part c.runs ++ map body_op c.ops))) g.has_index
    ∙ (runs_takes c.runs (map body_op c.ops) (entry_held h) g.index [] g.few
    ∙ (ops ∙ ap Ok (ended_is h t.0 t.2 ∙ put)))

code_sound : (h g : Held) (c : FlatCode) → OneResults h → IsExpression c.ops → all_taken after h (code_items c) ≡ Ok g → CodeOf h c
code_sound h g c one i e = go (next_type h.spaces) refl e
  where
    by_run : (x : ℕ) (r : Result Body Why) → body_after_ops (context_of h.spaces) (Ok (body_with_locals (context_of h.spaces) x (locals_of c.runs))) c.ops ≡ r
        → Agree (entry_held h) r (Ok g) → IsTypedBody (body_context (context_of h.spaces) x (locals_of c.runs)) c.ops
    by_run x (Ok d) is a = (taken_typed (context_of h.spaces) x (locals_of c.runs) c.ops d one i is).0
    by_run x (Err w) is a = absurd (cc (a.1))

    go : (o : Option ℕ) → next_type h.spaces ≡ o → and_then (body_begun h o) (λ z. all_taken after z (map run_part c.runs ++ map body_op c.ops)) ≡ Ok g → CodeOf h c
    go None is e = absurd (cc)
    go (Some x) is e =
        let few = runs_sound c.runs (map body_op c.ops) (entry_held h) g x [] (lit< tt) e in
        let a : all_taken after (declared (entry_held h) x (locals_of c.runs)) (map body_op c.ops) ≡ Ok g = sym (runs_takes c.runs (map body_op c.ops) (entry_held h) x [] few) ∙ e in
        let agree = subst (λ r. Agree (entry_held h) (body_after_ops (context_of h.spaces) (Ok (body_with_locals (context_of h.spaces) x (locals_of c.runs))) c.ops) r) a (ops_agree (entry_held h) c.ops (body_with_locals (context_of h.spaces) x (locals_of c.runs))) in
        record { index = x; has_index = is; few = few; typed = by_run x (body_after_ops (context_of h.spaces) (Ok (body_with_locals (context_of h.spaces) x (locals_of c.runs))) c.ops) refl agree }

abbrev pub IsCode : Held → FlatCode → Type 0
IsCode h c = OneResults h × IsExpression c.ops

pub code_member : Member after code_items IsCode CodeOf put_code
code_member = record {
  takes = λ h c q g. code_takes h c q.0 g;
  sound = λ h g c q e. code_sound h g c q.0 q.1 e;
}

-- a code entry counts one control more than its function's body is nested deep
pub code_controls : (h : Held) (f : Function) (c : FlatCode) → OneResults h → CodeOf h c → IsCodeOf f c → (put_code h c).most.controls ≡ max h.most.controls (nesting f.body + 1)
code_controls h f c one g i =
    let k = context_of h.spaces in
    let ls = locals_of c.runs in
    let t = typed_ends k g.index ls c.ops one g.typed in
    let a = taken_from k one g.index ls [] c.ops (body_with_locals k g.index ls) t.0 (after_started k g.index ls) t.1 in
    let flat = i.2 in
    let n : t.0.stats.controls ≡ nesting f.body + 1 = controls_said k g.index ls c.ops t.0 a f.body (flat.0, flat.3, flat.2 ∙ ap (λ z. flat.0 ++ z) flat.4) in
    ap (λ r. max h.most.controls (ended_body r).stats.controls) (ap (λ o. body_after_ops k (Ok (body_with_locals k (first_body o) ls)) c.ops) g.has_index ∙ t.1)
    ∙ ap (λ z. max h.most.controls z) n
