-- The state after a call, given that after the ops so far.
use Rattle.std.proofs.Common.{◌-◌, ℕ, Bool, true, false, cond, ◌≡◌, ◌≤◌, ◌<◌, ◌+◌, ◌^◌, List, [], ◌∷◌, ◌++◌, Option, None, Result, Ok, Err, MatchResult, OnOk, IfOk, length, max, sym, refl, ap, ◌∙◌, subst, arith, lit≤, length-append, ◌⊎◌, inl, inr, ◌↔◌}
use Rattle.std.specs.Prelude.{nat_lt, replicate}
use Rattle.wm_syntax.specs.declared.types.ValType.{ValType}
use Rattle.wm_syntax.specs.declared.why.Why.{Why}
use Rattle.wm_syntax.specs.declared.why.Why.TheVariants.{Memory, TooManyLocals}
use Rattle.wm_syntax.specs.declared.instructions.Op.{Op}
use Rattle.wm_stacks.specs.declared.stack_entries.Frame.{Frame}
use Rattle.wm_stacks.specs.declared.stack_entries.FrameKind.TheVariants.{Func}
use Rattle.wm_stacks.specs.Stack.{Stack, bare, height_sum}
use Rattle.wm_stacks.specs.exact.Stacks.{open_frame}
use Rattle.wm_syntax.specs.Runs.{run_count}
use Rattle.wm_syntax.specs.exact.Runs.{add_run}
use Rattle.wm_typing.specs.declared.labels.BrTable.{BrTable}
use Rattle.wm_typing.specs.declared.body_checker.Progress.{Progress}
use Rattle.wm_typing.specs.declared.body_checker.Progress.TheVariants.{Inside, Ended}
use Rattle.wm_typing.specs.Typing.{Context}
use Rattle.wm_typing.specs.Contexts.{params_of, result_of, in_function, body_context}
use Rattle.wm_typing.specs.exact.Ops.{step}
use Rattle.wm_typing.specs.Bodies.{BodyState, Body, WithinOps, Twice, stats_after, body_entries}
use Rattle.wm_typing.specs.Answers.{stack_weight}
use Rattle.wm_typing.specs.exact.Bodies.{body_at_start, declared_to, declared_more, context_in, while_open, with_state, body_from, unless_refused, body_after_op, progress_at, refused_with}
use Rattle.wm_typing.specs.Probes.{probes_in}
use Rattle.wm_typing.specs.exact.Folds.{body_with_locals}
use Rattle.wm_typing.specs.TypedBodies.{HasBodyOps, HaveTyping, IsTypedBody, FramesDenote}
use Rattle.wm_typing.specs.inner.Checking.{BodyAfter, Keeps}
use Rattle.wm_syntax.specs.Instructions.{Instructions}
use Rattle.wm_typing.specs.Nesting.{nesting}
use Rattle.wm_syntax.specs.Instructions.{openings, endings}
use Rattle.wm_typing.specs.OpenLists.{levels, deepest_so_far}
use Rattle.wm_typing.proofs.HeightsAndMoves.{step_gains}
use Rattle.wm_typing.proofs.Depths.{grown_to, openings-append, endings-append}
use Rattle.wm_typing.proofs.FewRuns.{op_le}
use Rattle.wm_typing.proofs.StacksAfterOps.{first_kept, next, refused, can_be_typed, denoted, typed_at, unfinished, body_can, no_operands, rekept, begun_open, one_more, levels_are, at_end, from_start}

pub after_started : (c : Context) (x : ℕ) (locals : List ValType) → BodyAfter c x locals [] (body_with_locals c x locals)
after_started c x locals =
    let d = body_context c x locals in
    let p = from_start d None (open_frame Func (result_of c x) bare) (first_kept d) in
    record {
      unrefused = refl;
      type_index = refl;
      result = refl;
      declared = λ o. refl;
      emptied = λ e. cc;
      keeps = first_kept d;
      within = record { heights = lit≤ tt; moves = lit≤ tt; counts = refl; operands = lit≤ tt; controls = lit≤ tt; probes = lit≤ tt };
      nested = let m = ap levels p in omega (arith, m);
      controls = sym (ap deepest_so_far p);
      steady = λ h. record { operands = lit≤ tt; frames = lit≤ tt; most_operands = lit≤ tt; most_controls = lit≤ tt };
    }

pub after_begun : (c : Context) (x : ℕ) → BodyAfter c x [] [] (body_at_start c x)
after_begun c x = after_started c x []

-- the context of the body at hand is that of the function
in_context : (c : Context) (x : ℕ) (locals : List ValType) (ops : List Op) (b : Body) → BodyAfter c x locals ops b → 0 < length b.state.stacks.frames
    → context_in c b ≡ body_context c x locals
in_context c x locals ops b a l =
    ap (λ z. in_function c z b.result b.declared) a.type_index ∙ ap (λ z. in_function c x z b.declared) a.result
    ∙ ap (λ z. in_function c x (result_of c x) z) (a.declared l)

open_keeps : (fs : List Frame) (types : List ValType) → 0 < length fs → while_open fs types ≡ types
open_keeps [] types l = absurd (omega (arith, l))
open_keeps (f ∷ fs) types l = refl

pub within_after : (c : Context) (n : ℕ) (b : Body) (x : Op) (z : Body) → WithinOps n b
    → z.stats ≡ stats_after z.state.stacks (probes_in c b x) b.stats → stack_weight z.state.stacks ≤ stack_weight b.state.stacks + 4
    → height_sum z.state.stacks ≤ height_sum b.state.stacks + 1 → WithinOps (n + 1) z
within_after c n b x z w e h k =
    let p = op_le (params_of c b.type_index) b.declared b.state.table x in
    let o : z.stats.operands ≡ max b.stats.operands (length z.state.stacks.operands) = ap (λ s. s.operands) e in
    let f : z.stats.controls ≡ max b.stats.controls (length z.state.stacks.frames) = ap (λ s. s.controls) e in
    let q : z.stats.probes ≡ max b.stats.probes (probes_in c b x) = ap (λ s. s.probes) e in
    record {
      heights = omega (arith, k, w.heights);
      moves = omega (arith, h, w.moves);
      counts = ap (λ s. s.moves) e;
      operands = omega (arith, o, k, w.heights, w.operands);
      controls = omega (arith, f, k, w.heights, w.controls);
      probes = omega (arith, q, p, w.probes);
    }

-- one op of a body that was not refused, in the context of its function
unrefused_step : (c : Context) (x : ℕ) (locals : List ValType) (ops : List Op) (b : Body) (y : Op) → BodyAfter c x locals ops b → 0 < length b.state.stacks.frames
    → body_after_op c y b ≡ body_from b (probes_in c b y) (step (body_context c x locals) b.state y)
unrefused_step c x locals ops b y a l =
    ap (λ r. unless_refused r (body_from b (probes_in c b y) (step (context_in c b) b.state y))) a.unrefused
    ∙ ap (λ d. body_from b (probes_in c b y) (step d b.state y)) (in_context c x locals ops b a l)

pub after_ok : (c : Context) (x : ℕ) (locals : List ValType) (ops : List Op) (b : Body) (y : Op) (z : Body) → BodyAfter c x locals ops b → 0 < length b.state.stacks.frames
    → body_after_op c y b ≡ Ok z → WithinOps (length ops + 1) z → BodyAfter c x locals (ops ++ y ∷ []) z
after_ok c x locals ops b y z a l e w =
    go (step (body_context c x locals) b.state y) refl (sym (unrefused_step c x locals ops b y a l) ∙ e)
  where
    go : (r : Result BodyState Why) → step (body_context c x locals) b.state y ≡ r → body_from b (probes_in c b y) r ≡ Ok z → BodyAfter c x locals (ops ++ y ∷ []) z
    go (Err why) k f = cc
    go (Ok s) k f =
        let q : with_state b (probes_in c b y) s ≡ z = cc in
        let d = body_context c x locals in
        let f = next d y ops b.state.table s.table b.state.stacks s.stacks l a.keeps k in
        let g = grown_to y a.keeps.place f.place (one_more (result_of c x) a.keeps.place f.place ops y a.keeps.so_far f.so_far) in
        let n = levels_are d (ops ++ y ∷ []) s.table s.stacks f in
        let o = openings-append ops (y ∷ []) in
        let i = endings-append ops (y ∷ []) in
        subst (λ v. BodyAfter c x locals (ops ++ y ∷ []) v) q (record {
          unrefused = a.unrefused;
          type_index = a.type_index;
          result = a.result;
          declared = λ o. open_keeps s.stacks.frames b.declared o ∙ a.declared l;
          emptied = λ n. ap (λ v. while_open v b.declared) n;
          keeps = f;
          within = subst (λ v. WithinOps v (with_state b (probes_in c b y) s)) (sym (length-append ops (y ∷ []))) (subst (λ v. WithinOps (length ops + 1) v) (sym q) w);
          nested = omega (arith, g.open_lists, a.nested, o, i);
          controls = ap (λ v. max v (length s.stacks.frames)) a.controls ∙ ap (λ v. max (deepest_so_far a.keeps.place) v) (sym n) ∙ sym g.depths;
          steady = λ h.
              let v = step_gains d y b.state.table b.state.stacks s k in
              let w = v.1 h in
              let u = a.steady (omega (arith, a.within.counts, v.0, h)) in
              record {
                operands = omega (arith, w.operands_up, u.operands, a.within.counts);
                frames = omega (arith, w.frames_up, u.frames, a.within.counts);
                most_operands = omega (arith, w.operands_up, w.operands_down, u.operands, u.most_operands, a.within.counts);
                most_controls = omega (arith, w.frames_up, w.frames_down, u.frames, u.most_controls, a.within.counts);
              };
        })

pub no_typing : (c : Context) (x : ℕ) (locals : List ValType) (ops : List Op) (b : Body) (y : Op) (why : Why) → BodyAfter c x locals ops b → 0 < length b.state.stacks.frames
    → body_after_op c y b ≡ Err why → HaveTyping (body_context c x locals) (ops ++ y ∷ []) → ⊥
no_typing c x locals ops b y why a l e h =
    go (step (body_context c x locals) b.state y) refl (sym (unrefused_step c x locals ops b y a l) ∙ e)
  where
    go : (r : Result BodyState Why) → step (body_context c x locals) b.state y ≡ r → body_from b (probes_in c b y) r ≡ Err why → ⊥
    go (Err w) k f = refused (body_context c x locals) y ops b.state.table b.state.stacks w l a.keeps k h
    go (Ok s) k f = cc

pub stats_ok : (c : Context) (b : Body) (y : Op) (z : Body) → b.refused ≡ None → body_after_op c y b ≡ Ok z → z.stats ≡ stats_after z.state.stacks (probes_in c b y) b.stats
stats_ok c b y z u e =
    go (step (context_in c b) b.state y) (sym (ap (λ r. unless_refused r (body_from b (probes_in c b y) (step (context_in c b) b.state y))) u) ∙ e)
  where
    go : (r : Result BodyState Why) → body_from b (probes_in c b y) r ≡ Ok z → z.stats ≡ stats_after z.state.stacks (probes_in c b y) b.stats
    go (Err why) f = cc
    go (Ok s) f = let q : with_state b (probes_in c b y) s ≡ z = cc in subst (λ v. v.stats ≡ stats_after v.state.stacks (probes_in c b y) b.stats) q refl

-- the answers of a step
abbrev pub Answers : Context → Op → Body → Body → Result Progress Why → Type 0
Answers c y b z r =
    MatchResult r (λ p. body_after_op c y b ≡ Ok z)
    (λ why. ((why ≡ Memory) ⊎ (body_after_op c y b ≡ Err why)) × (z ≡ refused_with why (probes_in c b y) z.state b))

pub stats_said : (c : Context) (b : Body) (y : Op) (z : Body) (r : Result Progress Why) → b.refused ≡ None → Answers c y b z r
    → z.stats ≡ stats_after z.state.stacks (probes_in c b y) b.stats
stats_said c b y z (Ok p) u e = stats_ok c b y z u e
stats_said c b y z (Err why) u e = ap (λ v. v.stats) e.1

inside_open : (fs : List Frame) → progress_at fs ≡ Inside → 0 < length fs
inside_open [] e = cc
inside_open (f ∷ fs) e = omega arith

ended_closed : (fs : List Frame) → progress_at fs ≡ Ended → fs ≡ []
ended_closed [] e = refl
ended_closed (f ∷ fs) e = cc

ends : (d : Context) (ops : List Op) (t : Option BrTable) (s : Stack) → Keeps d ops t s → d.labels ≡ d.result ∷ [] → (p : Progress) → p ≡ progress_at s.frames
    → (p ≡ Ended) ↔ IsTypedBody d ops
ends d ops t s k e Ended q = (λ i. typed_at d ops t s k (ended_closed s.frames (sym q)) e, λ h. refl)
ends d ops t s k e Inside q = (λ i. cc, λ h. absurd (unfinished d ops t s k (inside_open s.frames (sym q)) e h))

all_gone : (z : Body) → z.declared ≡ [] → z.state.stacks.operands ≡ [] → z.state.stacks.frames ≡ [] → body_entries z ≡ 0
all_gone z d o f =
    let a : run_count z.declared ≡ 0 = ap run_count d in
    let n : length z.state.stacks.operands ≡ 0 = ap length o in
    let m : length z.state.stacks.frames ≡ 0 = ap length f in
    omega (arith, a, n, m)

pub twice_at : (c : Context) (x : ℕ) (locals : List ValType) (ops : List Op) (b : Body) → BodyAfter c x locals ops b → b.state.stacks.frames ≡ []
    → b.stats.moves < 2 ^ 64 - 1 → Twice b.stats
twice_at c x locals ops b a n l =
    let u = a.steady l in
    let f : length b.state.stacks.frames ≡ 0 = ap length n in
    let o : length b.state.stacks.operands ≡ 0 = ap length (no_operands (body_context c x locals) ops b.state.table b.state.stacks a.keeps n) in
    record { operands = omega (arith, u.most_operands, o); controls = omega (arith, u.most_controls, f) }

module _ (c : Context) (x : ℕ) (locals : List ValType) (ops : List Op) (b : Body) (y : Op) (z : Body) (a : BodyAfter c x locals ops b) (l : 0 < length b.state.stacks.frames) (w : WithinOps (length ops + 1) z) where
  pub after_said : (r : Result Progress Why) → Answers c y b z r → OnOk r (BodyAfter c x locals (ops ++ y ∷ []) z)
  after_said (Ok p) e = after_ok c x locals ops b y z a l e w
  after_said (Err why) e = tt

  pub typed_said : (r : Result Progress Why) → Answers c y b z r
      → MatchResult r (λ p. HaveTyping (body_context c x locals) (ops ++ y ∷ [])) (λ why. (why ≡ Memory) ⊎ (HaveTyping (body_context c x locals) (ops ++ y ∷ []) → ⊥))
  typed_said (Ok p) e =
      can_be_typed (body_context c x locals) (ops ++ y ∷ []) z.state.table z.state.stacks (after_ok c x locals ops b y z a l e w).keeps
  typed_said (Err why) e = elim e.0 [ inl m ↦ inl m | inr n ↦ inr (no_typing c x locals ops b y why a l n) ]

  pub ended_said : (r : Result Progress Why) → Answers c y b z r → IfOk r (λ p. p ≡ progress_at z.state.stacks.frames)
      → MatchResult r (λ p. (p ≡ Ended) ↔ IsTypedBody (body_context c x locals) (ops ++ y ∷ [])) (λ why. (why ≡ Memory) ⊎ (IsTypedBody (body_context c x locals) (ops ++ y ∷ []) → ⊥))
  ended_said (Ok p) e q = ends (body_context c x locals) (ops ++ y ∷ []) z.state.table z.state.stacks (after_ok c x locals ops b y z a l e w).keeps refl p q
  ended_said (Err why) e q = elim e.0 [ inl m ↦ inl m | inr n ↦ inr (λ t. no_typing c x locals ops b y why a l n (body_can (body_context c x locals) (ops ++ y ∷ []) refl t)) ]

  pub denotes_said : (r : Result Progress Why) → Answers c y b z r → IfOk r (λ p. p ≡ progress_at z.state.stacks.frames) → r ≡ Ok Inside
      → FramesDenote (body_context c x locals) (ops ++ y ∷ []) z.state.table z.state.stacks
  denotes_said (Ok p) e q i =
      denoted (body_context c x locals) (ops ++ y ∷ []) z.state.table z.state.stacks (after_ok c x locals ops b y z a l e w).keeps
      (inside_open z.state.stacks.frames (let k : p ≡ Inside = cc in sym q ∙ k))
  denotes_said (Err why) e q i = cc

  pub ended_twice : (r : Result Progress Why) → Answers c y b z r → IfOk r (λ p. p ≡ progress_at z.state.stacks.frames) → r ≡ Ok Ended
      → z.stats.moves < 2 ^ 64 - 1 → Twice z.stats
  ended_twice (Ok p) e q i =
      let n : z.state.stacks.frames ≡ [] = ended_closed z.state.stacks.frames (let k : p ≡ Ended = cc in sym q ∙ k) in
      twice_at c x locals (ops ++ y ∷ []) z (after_ok c x locals ops b y z a l e w) n
  ended_twice (Err why) e q i = cc

  pub empty_said : (r : Result Progress Why) → Answers c y b z r → IfOk r (λ p. p ≡ progress_at z.state.stacks.frames) → r ≡ Ok Ended → body_entries z ≡ 0
  empty_said (Ok p) e q i =
      let n : z.state.stacks.frames ≡ [] = ended_closed z.state.stacks.frames (let k : p ≡ Ended = cc in sym q ∙ k) in
      let f = after_ok c x locals ops b y z a l e w in
      all_gone z (f.emptied n) (no_operands (body_context c x locals) (ops ++ y ∷ []) z.state.table z.state.stacks f.keeps n) n
  empty_said (Err why) e q i = cc

-- the counts of nested lists
pub nested_said : (c : Context) (x : ℕ) (locals : List ValType) (ops : List Op) (b : Body) → BodyAfter c x locals ops b
    → length b.state.stacks.frames + endings ops ≡ openings ops + 1
nested_said c x locals ops b a =
    let n = levels_are (body_context c x locals) ops b.state.table b.state.stacks a.keeps in omega (arith, n, a.nested)

pub controls_said : (c : Context) (x : ℕ) (locals : List ValType) (ops : List Op) (b : Body) → BodyAfter c x locals ops b → (s : Instructions) → HasBodyOps s ops
    → b.stats.controls ≡ nesting s + 1
controls_said c x locals ops b a s h = a.controls ∙ ap deepest_so_far (at_end (body_context c x locals) ops b.state.table b.state.stacks a.keeps s h)

no_frames : (fs : List Frame) → length fs ≡ 0 → fs ≡ []
no_frames [] e = refl
no_frames (f ∷ fs) e = absurd (omega (arith, e))

-- at the end of a body
pub twice_said : (c : Context) (x : ℕ) (locals : List ValType) (ops : List Op) (b : Body) → BodyAfter c x locals ops b → IsTypedBody (body_context c x locals) ops
    → b.stats.moves < 2 ^ 64 - 1 → Twice b.stats
twice_said c x locals ops b a t l =
    let n = levels_are (body_context c x locals) ops b.state.table b.state.stacks a.keeps in
    let e : levels a.keeps.place ≡ 0 = ap levels (at_end (body_context c x locals) ops b.state.table b.state.stacks a.keeps t.body t.flat) in
    twice_at c x locals ops b a (no_frames b.state.stacks.frames (sym n ∙ e)) l

-- more locals, before the first op
pub locals_said : (c : Context) (x count : ℕ) (t : ValType) (locals : List ValType) (b z : Body) (A : Type 0) (r : Result A Why) → BodyAfter c x locals [] b
    → MatchResult r (λ u. declared_more count t b ≡ Ok z) (λ why. ((why ≡ Memory) ⊎ (declared_more count t b ≡ Err why)) × (z ≡ refused_with why 0 b.state b))
    → OnOk r (BodyAfter c x (locals ++ replicate count t) [] z)
locals_said c x count t locals b z A (Err why) a e = tt
locals_said c x count t locals b z A (Ok u) a e =
    go (nat_lt (length b.declared + count) (2 ^ 32)) (sym (ap (λ v. unless_refused v (declared_to b (add_run count t b.declared))) a.unrefused) ∙ e)
  where
    go : (o : Bool) → declared_to b (cond o (Ok (b.declared ++ replicate count t)) (Err TooManyLocals)) ≡ Ok z → BodyAfter c x (locals ++ replicate count t) [] z
    go false f = cc
    go true f =
        let y : Body = record b { declared = b.declared ++ replicate count t; stats = stats_after b.state.stacks 0 b.stats } in
        let q : y ≡ z = cc in
        let l = begun_open (body_context c x locals) b.state.table b.state.stacks a.keeps in
        let k = rekept (body_context c x locals) (body_context c x (locals ++ replicate count t)) b.state.table b.state.stacks refl a.keeps in
        subst (λ v. BodyAfter c x (locals ++ replicate count t) [] v) q (record {
          unrefused = a.unrefused;
          type_index = a.type_index;
          result = a.result;
          declared = λ o. ap (λ v. v ++ replicate count t) (a.declared l);
          emptied = λ n. absurd (let k : length b.state.stacks.frames ≡ 0 = ap length n in omega (arith, k, l));
          keeps = k;
          within = record {
            heights = a.within.heights;
            moves = a.within.moves;
            counts = refl;
            operands = omega (arith, a.within.operands, a.within.heights);
            controls = omega (arith, a.within.controls, a.within.heights);
            probes = omega (arith, a.within.probes);
          };
          nested =
              let m = ap levels (from_start (body_context c x (locals ++ replicate count t)) b.state.table b.state.stacks k) in omega (arith, m);
          controls =
              let n = levels_are (body_context c x locals) [] b.state.table b.state.stacks a.keeps in
              let p = from_start (body_context c x locals) b.state.table b.state.stacks a.keeps in
              let m : levels a.keeps.place ≡ 1 = ap levels p in
              let d : deepest_so_far a.keeps.place ≡ 1 = ap deepest_so_far p in
              let e : max b.stats.controls (length b.state.stacks.frames) ≡ 1 = omega (arith, a.controls, n, m, d) in
              e ∙ sym (ap deepest_so_far (from_start (body_context c x (locals ++ replicate count t)) b.state.table b.state.stacks k));
          steady = λ h.
              let u = a.steady (omega (arith, a.within.counts, h)) in
              record {
                operands = omega (arith, u.operands, a.within.counts);
                frames = omega (arith, u.frames, a.within.counts);
                most_operands = omega (arith, u.operands, u.most_operands, a.within.counts);
                most_controls = omega (arith, u.frames, u.most_controls, a.within.counts);
              };
        })

pub on_ok : {A : Type 0} {P Q : Type 0} (r : Result A Why) → OnOk r P → (P → Q) → OnOk r Q
on_ok (Ok u) p f = f p
on_ok (Err why) p f = tt

-- the function and the locals are those that are held
pub as_held : (c : Context) (x : ℕ) (locals : List ValType) (b : Body) → BodyAfter c x locals [] b → BodyAfter c b.type_index b.declared [] b
as_held c x locals b a =
    let l = begun_open (body_context c x locals) b.state.table b.state.stacks a.keeps in
    subst (λ v. BodyAfter c v b.declared [] b) (sym a.type_index) (subst (λ v. BodyAfter c x v [] b) (sym (a.declared l)) a)

pub held_context : (c : Context) (x : ℕ) (locals : List ValType) (b : Body) → BodyAfter c x locals [] b → body_context c b.type_index b.declared ≡ body_context c x locals
held_context c x locals b a =
    let l = begun_open (body_context c x locals) b.state.table b.state.stacks a.keeps in
    ap (λ v. body_context c v b.declared) a.type_index ∙ ap (λ v. body_context c x v) (a.declared l)
