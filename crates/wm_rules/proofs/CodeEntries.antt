-- A code entry item by item. The retained state of its body is within the items so far, and nothing is retained
-- after the last.
use Rattle.std.proofs.Common.{ℕ, ◌+◌, ◌-◌, ◌*◌, ◌≡◌, ◌≤◌, ◌<◌, ◌^◌, List, [], ◌∷◌, ◌++◌, Option, Some, None, true, false, Result, Ok, Err, length, replicate, refl, sym, ◌∙◌, ap, subst, append_assoc, append-nil, arith, lit<, map, length-append, inl, inr, ◌⊎◌}
use Rattle.std.proofs.lemmas.List.{length-map}
use Rattle.wm_syntax.specs.declared.types.ValType.{ValType}
use Rattle.wm_syntax.specs.declared.instructions.Op.{Op}
use Rattle.wm_syntax.specs.declared.why.Why.{Why}
use Rattle.wm_stacks.specs.declared.stack_entries.Frame.{Frame}
use Rattle.wm_syntax.specs.Runs.{run_count}
use Rattle.wm_stacks.specs.Stack.{height_sum}
use Rattle.wm_typing.specs.declared.body_checker.Progress.{Progress}
use Rattle.wm_typing.specs.declared.body_checker.Progress.TheVariants.{Inside, Ended}
use Rattle.wm_typing.specs.declared.stats.BodyStats.{BodyStats}
use Rattle.wm_typing.specs.inner.Checking.{BodyAfter}
use Rattle.wm_typing.specs.Bodies.{Body, body_entries}
use Rattle.wm_typing.specs.Contexts.{body_context}
use Rattle.wm_typing.specs.Typing.{Context}
use Rattle.wm_typing.specs.exact.Bodies.{progress_at}
use Rattle.wm_typing.specs.exact.Folds.{body_after_ops, body_with_locals}
use Rattle.wm_typing.proofs.FewRuns.{run_count_more}
use Rattle.wm_typing.proofs.Folds.{taken_from}
use Rattle.wm_typing.proofs.StacksAfterOps.{no_operands}
use Rattle.wm_syntax.specs.Instructions.{openings, endings}
use Rattle.wm_typing.proofs.AfterCalls.{after_started, nested_said, twice_at}
use Rattle.wm_machine.specs.Grammar.{IsExpression}
use Rattle.wm_machine.specs.Items.{Item, body, body_op}
use Rattle.wm_syntax.specs.Modules.{locals_of}
use Rattle.wm_machine.specs.Sinks.{and_then, all_taken}
use Rattle.wm_rules.specs.Bounds.{FiguresWithin}
use Rattle.wm_rules.specs.exact.Checking.{after, body_begun, empty_checker, greatest, with_progress}
use Rattle.wm_rules.specs.Holding.{Held}
use Rattle.wm_machine.specs.Flat.{FlatCode, code_items}
use Rattle.wm_rules.proofs.OutsideBodies.{parts_one}
use Rattle.wm_rules.specs.exact.Spaces.{context_of, next_type}
use Rattle.wm_rules.proofs.CodeMembers.{Agree, OneResults, declared, entry_held, in_body, ops_agree, runs_sound, runs_takes, settled, taken_typed}
use Rattle.wm_machine.proofs.EntryBytes.{run_part}

-- no body is at hand, and the figures so far are those of entries of at most so many bytes, which are no more than an
-- input may have
pub record Idle (top : ℕ) (h : Held) : Type 0 where
  pub kept : body_entries h.body ≡ 0
  pub closed : h.in_body ≡ false
  pub most : top < 2 ^ 62 → FiguresWithin top h.most
  pub one : OneResults h

-- so many bytes of the entry at hand pay for what is kept of its body, and for its moves
pub record AtHand (n : ℕ) (h : Held) : Type 0 where
  pub heights : height_sum h.body.state.stacks ≤ n + 1
  pub kept : body_entries h.body ≤ n + 1
  pub moves : h.in_body ≡ true → h.body.state.stacks.moves ≤ 4 * n + 4
  pub idle : h.in_body ≡ false → body_entries h.body ≡ 0

pub idle_at_hand : (top n : ℕ) (h : Held) → Idle top h → AtHand n h
idle_at_hand top n h i = record {
  heights = omega (arith, i.kept);
  kept = omega (arith, i.kept);
  moves = λ e. let c : true ≡ false = sym e ∙ i.closed in absurd (cc (c));
  idle = λ e. i.kept;
}

pub more_at_hand : (m n : ℕ) (h : Held) → m ≤ n → AtHand m h → AtHand n h
more_at_hand m n h l a = record {
  heights = omega (arith, l, a.heights);
  kept = omega (arith, l, a.kept);
  moves = λ e. let v = a.moves e in omega (arith, l, v);
  idle = a.idle;
}

greatest_within : (n : ℕ) (a b : BodyStats) → FiguresWithin n a → FiguresWithin n b → FiguresWithin n (greatest a b)
greatest_within n a b f g = record {
  operands = omega (arith, f.operands, g.operands);
  controls = omega (arith, f.controls, g.controls);
  moves = omega (arith, f.moves, g.moves);
  operands_twice = omega (arith, f.operands_twice, g.operands_twice);
  controls_twice = omega (arith, f.controls_twice, g.controls_twice);
  probes = omega (arith, f.probes, g.probes);
}

-- each run of locals is one run more at most
runs_few : (runs : List (ℕ × ValType)) (ls : List ValType) → run_count (ls ++ locals_of runs) ≤ run_count ls + length runs
runs_few [] ls = let e = ap run_count (append-nil ls) in omega (arith, e)
runs_few (r ∷ runs) ls =
    let one = run_count_more ls r.0 r.1 in
    let rest = runs_few runs (ls ++ replicate r.0 r.1) in
    let e = ap run_count (append_assoc ls (replicate r.0 r.1) (locals_of runs)) in
    omega (arith, one, rest, e)

progress_body : (h : Held) (d : Body) (p : Progress) → (with_progress (in_body h d) d p).body ≡ d
progress_body h d Inside = refl
progress_body h d Ended = refl

-- a body that is not at hand any more has no open frame
none_open : (h : Held) (d : Body) (fs : List Frame) → (with_progress (in_body h d) d (progress_at fs)).in_body ≡ false → fs ≡ []
none_open h d [] e = refl
none_open h d (f ∷ fs) e = let c : true ≡ false = e in absurd (cc (c))

-- the declared locals are held as long as a frame is open
declared_runs : (k : Context) (x : ℕ) (runs : List (ℕ × ValType)) (os : List Op) (d : Body) → BodyAfter k x (locals_of runs) os d → run_count d.declared ≤ length runs
declared_runs k x runs os d a = go d.state.stacks.frames refl
  where
    go : (fs : List Frame) → d.state.stacks.frames ≡ fs → run_count d.declared ≤ length runs
    go [] e = let n = ap run_count (a.emptied e) in omega (arith, n)
    go (f ∷ fs) e =
        let l : length d.state.stacks.frames ≡ length (f ∷ fs) = ap length e in
        let n = ap run_count (a.declared (omega (arith, l))) in
        let m = runs_few runs [] in
        omega (arith, n, m)

nothing_kept : (k : Context) (x : ℕ) (ls : List ValType) (os : List Op) (d : Body) → BodyAfter k x ls os d → d.state.stacks.frames ≡ [] → body_entries d ≡ 0
nothing_kept k x ls os d a e =
    let r : run_count d.declared ≡ 0 = ap run_count (a.emptied e) in
    let f : length d.state.stacks.frames ≡ 0 = ap length e in
    let o : length d.state.stacks.operands ≡ 0 = ap length (no_operands (body_context k x ls) os d.state.table d.state.stacks a.keeps e) in
    omega (arith, r, f, o)

module _ (h g : Held) (one : OneResults h) (runs : List (ℕ × ValType)) where
  abbrev Taken : List Item → Type 0
  Taken items = all_taken after h items ≡ Ok g

  -- among the runs of locals
  in_runs : Taken (body ∷ map run_part runs) → AtHand (length runs) g
  in_runs e = go (next_type h.spaces) (ap (λ ps. and_then (body_begun h (next_type h.spaces)) (λ z. all_taken after z ps)) (append-nil (map run_part runs)) ∙ e)
    where
      go : (o : Option ℕ) → and_then (body_begun h o) (λ z. all_taken after z (map run_part runs ++ [])) ≡ Ok g → AtHand (length runs) g
      go None e = absurd (cc)
      go (Some x) e =
          let few = runs_sound runs [] (entry_held h) g x [] (lit< tt) e in
          let a : all_taken after (declared (entry_held h) x (locals_of runs)) [] ≡ Ok g = sym (runs_takes runs [] (entry_held h) x [] few) ∙ e in
          let is : declared (entry_held h) x (locals_of runs) ≡ g = cc in
          let w = (after_started (context_of h.spaces) x (locals_of runs)).within in
          let n = runs_few runs [] in
          subst (AtHand (length runs)) is (record {
            heights = omega (arith, w.heights);
            kept = omega (arith, w.heights, n);
            moves = λ i. omega (arith, w.moves);
            idle = λ i. let c : true ≡ false = i in absurd (cc (c));
          })

  -- among the ops: the body after them
  pub record Reached (ops : List Op) : Type 0 where
    pub index : ℕ
    pub named : next_type h.spaces ≡ Some index
    pub last : Body
    pub taken : body_after_ops (context_of h.spaces) (Ok (body_with_locals (context_of h.spaces) index (locals_of runs))) ops ≡ Ok last
    pub is : settled (entry_held h) last ≡ g

  reached : (ops : List Op) → Taken (body ∷ map run_part runs ++ map body_op ops) → Reached ops
  reached ops e = go (next_type h.spaces) refl e
    where
      by_run : (x : ℕ) → next_type h.spaces ≡ Some x → (r : Result Body Why) → body_after_ops (context_of h.spaces) (Ok (body_with_locals (context_of h.spaces) x (locals_of runs))) ops ≡ r → Agree (entry_held h) r (Ok g) → Reached ops
      by_run x named (Ok d) is a = record { index = x; named = named; last = d; taken = is; is = cc (a) }
      by_run x named (Err w) is a = absurd (cc (a.1))

      go : (o : Option ℕ) → next_type h.spaces ≡ o → and_then (body_begun h o) (λ z. all_taken after z (map run_part runs ++ map body_op ops)) ≡ Ok g → Reached ops
      go None named e = absurd (cc)
      go (Some x) named e =
          let few = runs_sound runs (map body_op ops) (entry_held h) g x [] (lit< tt) e in
          let a : all_taken after (declared (entry_held h) x (locals_of runs)) (map body_op ops) ≡ Ok g = sym (runs_takes runs (map body_op ops) (entry_held h) x [] few) ∙ e in
          by_run x named (body_after_ops (context_of h.spaces) (Ok (body_with_locals (context_of h.spaces) x (locals_of runs))) ops) refl
          (subst (λ r. Agree (entry_held h) (body_after_ops (context_of h.spaces) (Ok (body_with_locals (context_of h.spaces) x (locals_of runs))) ops) r) a (ops_agree (entry_held h) ops (body_with_locals (context_of h.spaces) x (locals_of runs))))

  after_ops : (ops : List Op) (r : Reached ops) → BodyAfter (context_of h.spaces) r.index (locals_of runs) ops r.last
  after_ops ops r = taken_from (context_of h.spaces) one r.index (locals_of runs) [] ops (body_with_locals (context_of h.spaces) r.index (locals_of runs)) r.last (after_started (context_of h.spaces) r.index (locals_of runs)) r.taken

  in_ops : (ops : List Op) → Taken (body ∷ map run_part runs ++ map body_op ops) → AtHand (length runs + length ops) g
  in_ops ops e =
      let r = reached ops e in
      let a = after_ops ops r in
      let n = declared_runs (context_of h.spaces) r.index runs ops r.last a in
      let same : (settled (entry_held h) r.last).body ≡ r.last = progress_body (entry_held h) r.last (progress_at r.last.state.stacks.frames) in
      let is : r.last ≡ g.body = sym same ∙ ap (λ (z : Held). z.body) r.is in
      record {
        heights = subst (λ (b : Body). height_sum b.state.stacks ≤ length runs + length ops + 1) is (omega (arith, a.within.heights));
        kept = subst (λ (b : Body). body_entries b ≤ length runs + length ops + 1) is (omega (arith, a.within.heights, n));
        moves = λ i. subst (λ (b : Body). b.state.stacks.moves ≤ 4 * (length runs + length ops) + 4) is (omega (arith, a.within.moves));
        idle = λ i.
            let over = none_open (entry_held h) r.last r.last.state.stacks.frames (ap (λ (z : Held). z.in_body) r.is ∙ i) in
            subst (λ (b : Body). body_entries b ≡ 0) is (nothing_kept (context_of h.spaces) r.index (locals_of runs) ops r.last a over);
      }

  -- after the last op
  pub entry_whole : (top : ℕ) (ops : List Op) → length ops ≤ top → IsExpression ops → (top < 2 ^ 62 → FiguresWithin top h.most) → Taken (body ∷ map run_part runs ++ map body_op ops) → Idle top g
  entry_whole top ops short i most e =
      let r = reached ops e in
      let a = after_ops ops r in
      let w = a.within in
      let typed = taken_typed (context_of h.spaces) r.index (locals_of runs) ops r.last one i r.taken in
      let own : top < 2 ^ 62 → FiguresWithin top r.last.stats = λ low.
      let two = twice_at (context_of h.spaces) r.index (locals_of runs) ops r.last a typed.1 (omega (arith, w.counts, w.moves, low, short)) in
      record {
        operands = omega (arith, w.operands, short);
        controls = omega (arith, w.controls, short);
        moves = omega (arith, w.counts, w.moves, short);
        operands_twice = two.operands;
        controls_twice = two.controls;
        probes = w.probes;
      } in
      let is : with_progress (in_body (entry_held h) r.last) r.last Ended ≡ g = sym (ap (λ fs. with_progress (in_body (entry_held h) r.last) r.last (progress_at fs)) typed.1) ∙ r.is in
      subst (Idle top) is (record {
        kept = nothing_kept (context_of h.spaces) r.index (locals_of runs) ops r.last a typed.1;
        closed = refl;
        most = λ low. greatest_within top h.most r.last.stats (most low) (own low);
        one = one;
      })

-- what the checker holds of the entry at hand is what the check of its body holds
pub at_hand : (before : List Item) (h g : Held) (c : FlatCode) → all_taken after empty_checker before ≡ Ok h → all_taken after h (code_items c) ≡ Ok g
    → (x : ℕ) × (next_type h.spaces ≡ Some x) × BodyAfter (context_of h.spaces) x (locals_of c.runs) c.ops g.body
at_hand before h g c from e =
    let one = parts_one before empty_checker h from tt in
    let r = reached h g one c.runs c.ops e in
    let same : (settled (entry_held h) r.last).body ≡ r.last = progress_body (entry_held h) r.last (progress_at r.last.state.stacks.frames) in
    let is : r.last ≡ g.body = sym same ∙ ap (λ (z : Held). z.body) r.is in
    (r.index, r.named, subst (BodyAfter (context_of h.spaces) r.index (locals_of c.runs) c.ops) is (after_ops h g one c.runs c.ops r))

-- where it is at hand no more, its ops have ended it
pub over_at_hand : (before : List Item) (h g : Held) (c : FlatCode) → all_taken after empty_checker before ≡ Ok h → all_taken after h (code_items c) ≡ Ok g
    → g.in_body ≡ false → endings c.ops ≡ openings c.ops + 1
over_at_hand before h g c from e over =
    let one = parts_one before empty_checker h from tt in
    let r = reached h g one c.runs c.ops e in
    let none = none_open (entry_held h) r.last r.last.state.stacks.frames (ap (λ (z : Held). z.in_body) r.is ∙ over) in
    let l : length r.last.state.stacks.frames ≡ 0 = ap length none in
    let n = nested_said (context_of h.spaces) r.index (locals_of c.runs) c.ops r.last (after_ops h g one c.runs c.ops r) in
    omega (arith, l, n)

-- a front of members that are an item each, and what comes after them
split_map : {X : Type 0} (f : X → Item) (xs : List X) (a b c : List Item) → a ++ b ≡ map f xs ++ c
    → ((ys : List X) × (a ≡ map f ys)) ⊎ ((r : List Item) × (a ≡ map f xs ++ r) × (r ++ b ≡ c))
split_map f xs [] b c e = inl ([], refl)
split_map f [] (p ∷ a) b c e = inr (p ∷ a, refl, e)
split_map f (x ∷ xs) (p ∷ a) b c e =
    let h : p ≡ f x = cc in
    let t : a ++ b ≡ map f xs ++ c = cc in
    elim (split_map f xs a b c t) [ inl r ↦ inl (x ∷ r.0, cc (h, r.1)) | inr r ↦ inr (r.0, cc (h, r.1), r.2) ]

-- at each of its items
pub entry_front : (top : ℕ) (h g : Held) (runs : List (ℕ × ValType)) (ops : List Op) (front back : List Item) → Idle top h
    → front ++ back ≡ body ∷ map run_part runs ++ map body_op ops → all_taken after h front ≡ Ok g → AtHand (length front - 1) g
entry_front top h g runs ops [] back i s e = let is : h ≡ g = cc in subst (AtHand 0) is (idle_at_hand top 0 h i)
entry_front top h g runs ops (q ∷ front) back i s e =
    let first : q ≡ body = cc in
    let rest : front ++ back ≡ map run_part runs ++ map body_op ops = cc in
    let begins : all_taken after h (body ∷ front) ≡ Ok g = subst (λ z. all_taken after h (z ∷ front) ≡ Ok g) first e in
    more_at_hand (length front) (length (q ∷ front) - 1) g (omega arith) (elim (split_map run_part runs front back (map body_op ops) rest) [
      | inl r ↦ (let n = ap length r.1 in
          more_at_hand (length r.0) (length front) g (omega (arith, n, length-map r.0 run_part)) (in_runs h g i.one r.0 (subst (λ z. all_taken after h (body ∷ z) ≡ Ok g) r.1 begins)))
      | inr r ↦ elim (split_map body_op ops r.0 back [] (r.2 ∙ sym (append-nil (map body_op ops)))) [
        | inl o ↦ within_ops r.0 o.0 r.1 o.1 begins
        | inr o ↦ within_ops r.0 ops r.1 (o.1 ∙ (ap (λ z. map body_op ops ++ z) (none o.0 back o.2) ∙ append-nil (map body_op ops))) begins
      ]
    ])
  where
    none : (a b : List Item) → a ++ b ≡ [] → a ≡ []
    none [] b e = refl
    none (x ∷ a) b e = absurd (cc)

    within_ops : (r : List Item) (os : List Op) → front ≡ map run_part runs ++ r → r ≡ map body_op os → all_taken after h (body ∷ front) ≡ Ok g → AtHand (length front) g
    within_ops r os f o e =
        let whole : front ≡ map run_part runs ++ map body_op os = cc (f, o) in
        let n = ap length whole in
        more_at_hand (length runs + length os) (length front) g
        (omega (arith, n, length-append (map run_part runs) (map body_op os), length-map runs run_part, length-map os body_op))
        (in_ops h g i.one runs os (subst (λ z. all_taken after h (body ∷ z) ≡ Ok g) whole e))
