-- Which ops lead to which body.
use Rattle.std.proofs.Common.{◌≡◌, ℕ, zero, suc, ◌+◌, List, [], ◌∷◌, ◌++◌, length, map, Option, Some, None, inl, inr, refl, sym, ap, ◌∙◌, subst, append_assoc, append-nil, length-append, arith}
use Rattle.wm_syntax.specs.declared.types.ValType.{ValType}
use Rattle.wm_syntax.specs.declared.instructions.Op.{Op}
use Rattle.wm_syntax.specs.declared.instructions.Op.TheVariants as op
use Rattle.wm_syntax.specs.Spelling.{Exactly, ◌▸◌}
use Rattle.wm_syntax.specs.Instructions.{Instruction, Instructions, none, snoc, simple, table, block, loop, choice, HasOp, HasOps, HasElse}
use Rattle.wm_syntax.specs.inner.Building.{Open, in_block, in_loop, in_first, in_second, Place, at, labels, start, closed, divided, placed, if_placed, place_after, body_in, tree_of}

-- Ops after a state that other ops lead to.
then_on : (r : Option Place) (a b : List Op) → ((q : Place) → place_after q (a ++ b) ≡ if_placed (place_after q a) (λ p. place_after p b))
    → if_placed r (λ q. place_after q (a ++ b)) ≡ if_placed (if_placed r (λ q. place_after q a)) (λ p. place_after p b)
then_on None a b h = refl
then_on (Some q) a b h = h q

pub after_append : (a b : List Op) (p : Place) → place_after p (a ++ b) ≡ if_placed (place_after p a) (λ q. place_after q b)
after_append [] b p = refl
after_append (o ∷ a) b p = then_on (placed p o) a b (λ q. after_append a b q)

extend : Instructions → Instructions → Instructions
extend s none = s
extend s (snoc t i) = snoc (extend s t) i

extend_none : (s : Instructions) → extend none s ≡ s
unfolding extend
extend_none none = refl
extend_none (snoc s i) = ap (λ (t : Instructions). snoc t i) (extend_none s)

labels_lead : (outer : List Open) (s : Instructions) (seen ls : List ℕ) (d : ℕ) (r : List Op)
    → place_after (labels outer s seen (length ls)) ((map op.Label ls ++ op.Label d ∷ []) ++ r) ≡ place_after (at outer (snoc s (table (seen ++ ls) d))) r
labels_lead outer s seen [] d r = ap (λ (ls : List ℕ). place_after (at outer (snoc s (table ls d))) r) (sym (append-nil seen))
labels_lead outer s seen (l ∷ ls) d r =
    labels_lead outer s (seen ++ l ∷ []) ls d r ∙ ap (λ (ls : List ℕ). place_after (at outer (snoc s (table ls d))) r) (append_assoc seen (l ∷ []) ls)

-- from inside the first list of an if to after its end
else_leads : (second : Instructions) (ops : List Op) → HasElse second (HasOps second) ops
    → ((os : List Op) → HasOps second os → (outer : List Open) (s : Instructions) (r : List Op) → place_after (at outer s) (os ++ r) ≡ place_after (at outer (extend s second)) r)
    → (t : Option ValType) (first s : Instructions) (outer : List Open) (r : List Op)
    → place_after (at (in_first t s ∷ outer) first) (ops ++ op.End ∷ r) ≡ place_after (at outer (snoc s (choice t first second))) r
unfolding extend
else_leads none ops (inl (x, y, e, h, k)) rest t first s outer r =
    ap (λ (o : List Op). place_after (at (in_first t s ∷ outer) first) (o ++ op.End ∷ r)) (e ∙ ap (λ (o : List Op). o ++ y) h)
    ∙ rest y k (in_second t s first ∷ outer) none (op.End ∷ r)
else_leads none ops (inr h) rest t first s outer r = ap (λ (o : List Op). place_after (at (in_first t s ∷ outer) first) (o ++ op.End ∷ r)) h
else_leads (snoc u i) ops (x, y, e, h, k) rest t first s outer r =
    ap (λ (o : List Op). place_after (at (in_first t s ∷ outer) first) (o ++ op.End ∷ r)) (e ∙ ap (λ (o : List Op). o ++ y) h)
    ∙ rest y k (in_second t s first ∷ outer) none (op.End ∷ r)
    ∙ ap (λ (u : Instructions). place_after (at outer (snoc s (choice t first u))) r) (extend_none (snoc u i))

mutual
  unfolding extend

  op_leads : (i : Instruction) (ops : List Op) → HasOp i ops → (outer : List Open) (s : Instructions) (r : List Op)
      → place_after (at outer s) (ops ++ r) ≡ place_after (at outer (snoc s i)) r
  op_leads (simple i) ops h outer s r = ap (λ (o : List Op). place_after (at outer s) (o ++ r)) h
  op_leads (table ls d) ops h outer s r = ap (λ (o : List Op). place_after (at outer s) (o ++ r)) h ∙ labels_lead outer s [] ls d r
  op_leads (block t body) ops (x, y, e, h, (u, v, f, k, l)) outer s r =
      ap (λ (o : List Op). place_after (at outer s) (o ++ r)) (e ∙ ap (λ (o : List Op). o ++ y) h ∙ ap (λ (o : List Op). op.Block t ∷ o) (f ∙ ap (λ (o : List Op). u ++ o) l))
      ∙ ap (place_after (at (in_block t s ∷ outer) none)) (append_assoc u (op.End ∷ []) r)
      ∙ ops_lead body u k (in_block t s ∷ outer) none (op.End ∷ r)
      ∙ ap (λ (z : Instructions). place_after (at outer (snoc s (block t z))) r) (extend_none body)
  op_leads (loop t body) ops (x, y, e, h, (u, v, f, k, l)) outer s r =
      ap (λ (o : List Op). place_after (at outer s) (o ++ r)) (e ∙ ap (λ (o : List Op). o ++ y) h ∙ ap (λ (o : List Op). op.Loop t ∷ o) (f ∙ ap (λ (o : List Op). u ++ o) l))
      ∙ ap (place_after (at (in_loop t s ∷ outer) none)) (append_assoc u (op.End ∷ []) r)
      ∙ ops_lead body u k (in_loop t s ∷ outer) none (op.End ∷ r)
      ∙ ap (λ (z : Instructions). place_after (at outer (snoc s (loop t z))) r) (extend_none body)
  op_leads (choice t first second) ops (x, y, e, h, (u, v, f, k, (z, w, g, l, m))) outer s r =
      ap (λ (o : List Op). place_after (at outer s) (o ++ r))
      (e ∙ ap (λ (o : List Op). o ++ y) h ∙ ap (λ (o : List Op). op.If t ∷ o) (f ∙ ap (λ (o : List Op). u ++ o) (g ∙ ap (λ (o : List Op). z ++ o) m)))
      ∙ ap (place_after (at (in_first t s ∷ outer) none)) (append_assoc u (z ++ op.End ∷ []) r ∙ ap (λ (o : List Op). u ++ o) (append_assoc z (op.End ∷ []) r))
      ∙ ops_lead first u k (in_first t s ∷ outer) none (z ++ op.End ∷ r)
      ∙ ap (λ (a : Instructions). place_after (at (in_first t s ∷ outer) a) (z ++ op.End ∷ r)) (extend_none first)
      ∙ else_leads second z l (λ os h outer a r. ops_lead second os h outer a r) t first s outer r

  ops_lead : (u : Instructions) (ops : List Op) → HasOps u ops → (outer : List Open) (s : Instructions) (r : List Op)
      → place_after (at outer s) (ops ++ r) ≡ place_after (at outer (extend s u)) r
  ops_lead none ops h outer s r = ap (λ (o : List Op). place_after (at outer s) (o ++ r)) h
  ops_lead (snoc u i) ops (x, y, e, h, k) outer s r =
      ap (λ (o : List Op). place_after (at outer s) (o ++ r)) e
      ∙ ap (place_after (at outer s)) (append_assoc x y r)
      ∙ ops_lead u x h outer s (y ++ r)
      ∙ op_leads i y k outer (extend s u) r

-- the ops of a list, in any form, from the beginning of a list
pub list_leads : (s : Instructions) (ops : List Op) → HasOps s ops → (outer : List Open) (r : List Op)
    → place_after (at outer none) (ops ++ r) ≡ place_after (at outer s) r
unfolding extend
list_leads s ops h outer r = ops_lead s ops h outer none r ∙ ap (λ (u : Instructions). place_after (at outer u) r) (extend_none s)

pub leads : (s : Instructions) (ops : List Op) → HasOps s ops → place_after start ops ≡ Some (at [] s)
leads s ops h = ap (place_after start) (sym (append-nil ops)) ∙ list_leads s ops h [] []

-- The ops so far of a state, in any form.
abbrev OpenOps : Open → List Op → Type 0
OpenOps (in_block t before) = HasOps before ▸ Exactly (op.Block t ∷ [])
OpenOps (in_loop t before) = HasOps before ▸ Exactly (op.Loop t ∷ [])
OpenOps (in_first t before) = HasOps before ▸ Exactly (op.If t ∷ [])
OpenOps (in_second t before first) = HasOps before ▸ Exactly (op.If t ∷ []) ▸ HasOps first ▸ Exactly (op.Else ∷ [])

abbrev OuterOps : List Open → List Op → Type 0
OuterOps [] = Exactly []
OuterOps (o ∷ outer) = OuterOps outer ▸ OpenOps o

abbrev IsAt : Place → List Op → Type 0
IsAt (at outer s) = OuterOps outer ▸ HasOps s
IsAt (labels outer s seen n) = OuterOps outer ▸ HasOps s ▸ Exactly (op.BrTable (length seen + n) ∷ map op.Label seen)

-- one more op at the end of a list
add_last : (outer : List Open) (s : Instructions) (i : Instruction) (ops last : List Op) → IsAt (at outer s) ops → HasOp i last → IsAt (at outer (snoc s i)) (ops ++ last)
add_last outer s i ops last (f, b, e, p, q) h = (f, b ++ last, ap (λ (o : List Op). o ++ last) e ∙ append_assoc f b last, p, (b, last, refl, q, h))

opened : (outer : List Open) (s : Instructions) (o : Open) (ops last : List Op) → ((b : List Op) → HasOps s b → OpenOps o (b ++ last)) → IsAt (at outer s) ops → IsAt (at (o ∷ outer) none) (ops ++ last)
opened outer s o ops last k (f, b, e, p, q) =
    (f ++ (b ++ last), [], ap (λ (o : List Op). o ++ last) e ∙ append_assoc f b last ∙ sym (append-nil (f ++ (b ++ last))), (f, b ++ last, refl, p, k b q), refl)

-- One list of ops, joined in another order.
ended : (f1 g1 g2 b ops f f2 last : List Op) → ops ≡ f ++ b → f ≡ f1 ++ f2 → f2 ≡ g1 ++ g2 → ops ++ last ≡ f1 ++ (g1 ++ (g2 ++ (b ++ last)))
ended f1 g1 g2 b ops f f2 last e e1 e2 = rw (e, e1, e2) (simp append_assoc)

else_of : (t : Option ValType) (s : Instructions) (b : List Op) → HasOps s b → HasElse s (HasOps s) (op.Else ∷ b)
else_of t none b h = inl (op.Else ∷ [], b, refl, refl, h)
else_of t (snoc s i) b h = (op.Else ∷ [], b, refl, refl, h)

close_at : (outer : List Open) (s : Instructions) (q : Place) (ops : List Op) → closed outer s ≡ Some q → IsAt (at outer s) ops → IsAt q (ops ++ op.End ∷ [])
close_at [] s q ops c h = absurd (cc)
close_at (in_block t before ∷ outer) s q ops c (f, b, e, (f1, f2, e1, p1, (g1, g2, e2, hb, e3)), hs) =
    let same : at outer (snoc before (block t s)) ≡ q = cc in
    subst (λ z. IsAt z (ops ++ op.End ∷ [])) same (
      f1,
      g1 ++ (op.Block t ∷ b ++ op.End ∷ []),
      ended f1 g1 g2 b ops f f2 (op.End ∷ []) e e1 e2 ∙ ap (λ z. f1 ++ (g1 ++ (z ++ (b ++ op.End ∷ [])))) e3,
      p1,
      (g1, op.Block t ∷ b ++ op.End ∷ [], refl, hb, (op.Block t ∷ [], b ++ op.End ∷ [], refl, refl, (b, op.End ∷ [], refl, hs, refl))),
    )
close_at (in_loop t before ∷ outer) s q ops c (f, b, e, (f1, f2, e1, p1, (g1, g2, e2, hb, e3)), hs) =
    let same : at outer (snoc before (loop t s)) ≡ q = cc in
    subst (λ z. IsAt z (ops ++ op.End ∷ [])) same (
      f1,
      g1 ++ (op.Loop t ∷ b ++ op.End ∷ []),
      ended f1 g1 g2 b ops f f2 (op.End ∷ []) e e1 e2 ∙ ap (λ z. f1 ++ (g1 ++ (z ++ (b ++ op.End ∷ [])))) e3,
      p1,
      (g1, op.Loop t ∷ b ++ op.End ∷ [], refl, hb, (op.Loop t ∷ [], b ++ op.End ∷ [], refl, refl, (b, op.End ∷ [], refl, hs, refl))),
    )
close_at (in_first t before ∷ outer) s q ops c (f, b, e, (f1, f2, e1, p1, (g1, g2, e2, hb, e3)), hs) =
    let same : at outer (snoc before (choice t s none)) ≡ q = cc in
    subst (λ z. IsAt z (ops ++ op.End ∷ [])) same (
      f1,
      g1 ++ (op.If t ∷ b ++ op.End ∷ []),
      ended f1 g1 g2 b ops f f2 (op.End ∷ []) e e1 e2 ∙ ap (λ z. f1 ++ (g1 ++ (z ++ (b ++ op.End ∷ [])))) e3,
      p1,
      (g1, op.If t ∷ b ++ op.End ∷ [], refl, hb, (op.If t ∷ [], b ++ op.End ∷ [], refl, refl, (b, op.End ∷ [], refl, hs, ([], op.End ∷ [], refl, inr refl, refl)))),
    )
close_at (in_second t before first ∷ outer) s q ops c (f, b, e, (f1, f2, e1, p1, (g1, g2, e2, hb, (k1, k2, e3, hk, (m1, m2, e4, hm, e5)))), hs) =
    let same : at outer (snoc before (choice t first s)) ≡ q = cc in
    let tail : g2 ++ (b ++ op.End ∷ []) ≡ op.If t ∷ m1 ++ (op.Else ∷ b ++ op.End ∷ []) = rw (e3, hk, e4, e5) (ap (λ z. op.If t ∷ z) (append_assoc m1 (op.Else ∷ []) (b ++ op.End ∷ []))) in
    subst (λ z. IsAt z (ops ++ op.End ∷ [])) same (
      f1,
      g1 ++ (op.If t ∷ m1 ++ (op.Else ∷ b ++ op.End ∷ [])),
      ended f1 g1 g2 b ops f f2 (op.End ∷ []) e e1 e2 ∙ ap (λ z. f1 ++ (g1 ++ z)) tail,
      p1,
      (
        g1,
        op.If t ∷ m1 ++ (op.Else ∷ b ++ op.End ∷ []),
        refl,
        hb,
        (op.If t ∷ [], m1 ++ (op.Else ∷ b ++ op.End ∷ []), refl, refl, (m1, op.Else ∷ b ++ op.End ∷ [], refl, hm, (op.Else ∷ b, op.End ∷ [], refl, else_of t s b hs, refl))),
      ),
    )

divide_at : (outer : List Open) (s : Instructions) (q : Place) (ops : List Op) → divided outer s ≡ Some q → IsAt (at outer s) ops → IsAt q (ops ++ op.Else ∷ [])
divide_at [] s q ops c h = absurd (cc)
divide_at (in_block t before ∷ outer) s q ops c h = absurd (cc)
divide_at (in_loop t before ∷ outer) s q ops c h = absurd (cc)
divide_at (in_first t before ∷ outer) s q ops c (f, b, e, (f1, f2, e1, p1, (g1, g2, e2, hb, e3)), hs) =
    let same : at (in_second t before s ∷ outer) none ≡ q = cc in
    subst (λ z. IsAt z (ops ++ op.Else ∷ [])) same (
      f1 ++ (g1 ++ (op.If t ∷ b ++ op.Else ∷ [])),
      [],
      ended f1 g1 g2 b ops f f2 (op.Else ∷ []) e e1 e2 ∙ ap (λ z. f1 ++ (g1 ++ (z ++ (b ++ op.Else ∷ [])))) e3 ∙ sym (append-nil _),
      (f1, g1 ++ (op.If t ∷ b ++ op.Else ∷ []), refl, p1, (g1, op.If t ∷ b ++ op.Else ∷ [], refl, hb, (op.If t ∷ [], b ++ op.Else ∷ [], refl, refl, (b, op.Else ∷ [], refl, hs, refl)))),
      refl,
    )
divide_at (in_second t before first ∷ outer) s q ops c h = absurd (cc)

one_label : (outer : List Open) (s : Instructions) (seen : List ℕ) (n l : ℕ) (ops : List Op)
    → IsAt (labels outer s seen (suc n)) ops → IsAt (labels outer s (seen ++ l ∷ []) n) (ops ++ op.Label l ∷ [])
one_label outer s seen n l ops (f, b, e, p, (u, v, e1, hs, e2)) =
    let count : length seen + suc n ≡ length (seen ++ l ∷ []) + n = omega (arith, length-append seen (l ∷ [])) in
    let names : map op.Label (seen ++ l ∷ []) ≡ map op.Label seen ++ op.Label l ∷ [] = labels_more seen in (
      f,
      b ++ op.Label l ∷ [],
      rw e (append_assoc f b (op.Label l ∷ [])),
      p,
      (u, v ++ op.Label l ∷ [], rw e1 (append_assoc u v (op.Label l ∷ [])), hs, rw (e2, count, names) refl),
    )
  where
    labels_more : (xs : List ℕ) → map op.Label (xs ++ l ∷ []) ≡ map op.Label xs ++ op.Label l ∷ []
    labels_more [] = refl
    labels_more (x ∷ xs) = ap (λ z. op.Label x ∷ z) (labels_more xs)

last_label : (outer : List Open) (s : Instructions) (seen : List ℕ) (l : ℕ) (ops : List Op)
    → IsAt (labels outer s seen 0) ops → IsAt (at outer (snoc s (table seen l))) (ops ++ op.Label l ∷ [])
last_label outer s seen l ops (f, b, e, p, (u, v, e1, hs, e2)) =
    let count : length seen + 0 ≡ length seen = omega arith in (
      f,
      b ++ op.Label l ∷ [],
      rw e (append_assoc f b (op.Label l ∷ [])),
      p,
      (u, v ++ op.Label l ∷ [], rw e1 (append_assoc u v (op.Label l ∷ [])), hs, rw (e2, count) refl),
    )

begin_labels : (outer : List Open) (s : Instructions) (n : ℕ) (ops : List Op) → IsAt (at outer s) ops → IsAt (labels outer s [] n) (ops ++ op.BrTable n ∷ [])
begin_labels outer s n ops (f, b, e, p, hs) =
    let count : 0 + n ≡ n = omega arith in
    (f, b ++ op.BrTable n ∷ [], rw e (append_assoc f b (op.BrTable n ∷ [])), p, (b, op.BrTable n ∷ [], refl, hs, rw count refl))

-- one op more
on_one : (p q : Place) (o : Op) (ops : List Op) → placed p o ≡ Some q → IsAt p ops → IsAt q (ops ++ o ∷ [])
on_one (at outer s) q (op.Simple i) ops c h = let same : at outer (snoc s (simple i)) ≡ q = cc in subst (λ z. IsAt z (ops ++ op.Simple i ∷ [])) same (add_last outer s (simple i) ops (op.Simple i ∷ []) h refl)
on_one (at outer s) q (op.Block t) ops c h = let same : at (in_block t s ∷ outer) none ≡ q = cc in subst (λ z. IsAt z (ops ++ op.Block t ∷ [])) same (opened outer s (in_block t s) ops (op.Block t ∷ []) (λ b k. (b, op.Block t ∷ [], refl, k, refl)) h)
on_one (at outer s) q (op.Loop t) ops c h = let same : at (in_loop t s ∷ outer) none ≡ q = cc in subst (λ z. IsAt z (ops ++ op.Loop t ∷ [])) same (opened outer s (in_loop t s) ops (op.Loop t ∷ []) (λ b k. (b, op.Loop t ∷ [], refl, k, refl)) h)
on_one (at outer s) q (op.If t) ops c h = let same : at (in_first t s ∷ outer) none ≡ q = cc in subst (λ z. IsAt z (ops ++ op.If t ∷ [])) same (opened outer s (in_first t s) ops (op.If t ∷ []) (λ b k. (b, op.If t ∷ [], refl, k, refl)) h)
on_one (at outer s) q op.Else ops c h = divide_at outer s q ops c h
on_one (at outer s) q op.End ops c h = close_at outer s q ops c h
on_one (at outer s) q (op.BrTable n) ops c h = let same : labels outer s [] n ≡ q = cc in subst (λ z. IsAt z (ops ++ op.BrTable n ∷ [])) same (begin_labels outer s n ops h)
on_one (at outer s) q (op.Label l) ops c h = absurd (cc)
on_one (labels outer s seen zero) q (op.Label l) ops c h = let same : at outer (snoc s (table seen l)) ≡ q = cc in subst (λ z. IsAt z (ops ++ op.Label l ∷ [])) same (last_label outer s seen l ops h)
on_one (labels outer s seen (suc n)) q (op.Label l) ops c h = let same : labels outer s (seen ++ l ∷ []) n ≡ q = cc in subst (λ z. IsAt z (ops ++ op.Label l ∷ [])) same (one_label outer s seen n l ops h)
on_one (labels outer s seen n) q o ops c h = absurd (cc)

some_placed : (r : Option Place) (ops : List Op) (q : Place) → if_placed r (λ p. place_after p ops) ≡ Some q → (p : Place) × (r ≡ Some p) × (place_after p ops ≡ Some q)
some_placed None ops q e = absurd (cc)
some_placed (Some p) ops q e = (p, refl, e)

on_more : (ops before : List Op) (p q : Place) → place_after p ops ≡ Some q → IsAt p before → IsAt q (before ++ ops)
on_more [] before p q e h = let same : p ≡ q = cc in subst (λ z. IsAt z (before ++ [])) same (subst (IsAt p) (sym (append-nil before)) h)
on_more (o ∷ ops) before p q e h =
    let r = some_placed (placed p o) ops q e in
    subst (IsAt q) (append_assoc before (o ∷ []) ops) (on_more ops (before ++ o ∷ []) r.0 q r.2 (on_one p r.0 o before r.1 h))

pub led : (s : Instructions) (ops : List Op) → place_after start ops ≡ Some (at [] s) → HasOps s ops
led s ops e = let h = on_more ops [] start (at [] s) e ([], [], refl, refl, refl) in subst (HasOps s) (sym (h.2 ∙ ap (λ z. z ++ h.1) h.3)) h.4

-- every open list can be ended
finish_from : (outer : List Open) (s : Instructions) → (more : List Op) × (t : Instructions) × (place_after (at outer s) more ≡ Some (at [] t))
finish_from [] s = ([], s, refl)
finish_from (in_block t before ∷ outer) s = let r = finish_from outer (snoc before (block t s)) in (op.End ∷ r.0, r.1, r.2)
finish_from (in_loop t before ∷ outer) s = let r = finish_from outer (snoc before (loop t s)) in (op.End ∷ r.0, r.1, r.2)
finish_from (in_first t before ∷ outer) s = let r = finish_from outer (snoc before (choice t s none)) in (op.End ∷ r.0, r.1, r.2)
finish_from (in_second t before first ∷ outer) s = let r = finish_from outer (snoc before (choice t first s)) in (op.End ∷ r.0, r.1, r.2)

finish_labels : (outer : List Open) (s : Instructions) (n : ℕ) (seen : List ℕ) → (more : List Op) × (t : Instructions) × (place_after (labels outer s seen n) more ≡ Some (at [] t))
finish_labels outer s zero seen = let r = finish_from outer (snoc s (table seen 0)) in (op.Label 0 ∷ r.0, r.1, r.2)
finish_labels outer s (suc n) seen = let r = finish_labels outer s n (seen ++ 0 ∷ []) in (op.Label 0 ∷ r.0, r.1, r.2)

pub finish : (p : Place) → (more : List Op) × (t : Instructions) × (place_after p more ≡ Some (at [] t))
finish (at outer s) = finish_from outer s
finish (labels outer s seen n) = finish_labels outer s n seen

pub on : (p : Place) (ops : List Op) → place_after start ops ≡ Some p → (more : List Op) × (s : Instructions) × HasOps s (ops ++ more)
on p ops e =
    let r = finish p in
    (r.0, r.1, led r.1 (ops ++ r.0) (after_append ops r.0 start ∙ ap (λ z. if_placed z (λ q. place_after q r.0)) e ∙ r.2))

-- the ops of a body, in any form, are those of that tree
pub tree_is : (s : Instructions) (ops : List Op) → HasOps s ops → tree_of ops ≡ s
tree_is s ops h = ap body_in (leads s ops h)

-- One more op, if it is allowed.
step : (r : Option Place) (q : Place) → r ≡ Some q → if_placed r (λ p. place_after p []) ≡ Some q
step None q e = absurd cc
step (Some p) q e = e

pub one_more : (p q : Place) (ops : List Op) (o : Op) → place_after start ops ≡ Some p → placed p o ≡ Some q → place_after start (ops ++ o ∷ []) ≡ Some q
one_more p q ops o e n =
    after_append ops (o ∷ []) start
    ∙ ap (λ r. if_placed r (λ x. place_after x (o ∷ []))) e
    ∙ step (placed p o) q n

-- One more op, if it is not allowed.
stuck : (r : Option Place) (more : List Op) (q : Place) → r ≡ None → if_placed r (λ p. place_after p more) ≡ Some q → ⊥
stuck None more q e n = cc
stuck (Some p) more q e n = cc

pub no_body : (p : Place) (ops more : List Op) (o : Op) (s : Instructions) → place_after start ops ≡ Some p → placed p o ≡ None → HasOps s (ops ++ o ∷ more) → ⊥
no_body p ops more o s e n h =
    stuck (placed p o) more (at [] s) n
    (sym (after_append ops (o ∷ more) start ∙ ap (λ r. if_placed r (λ x. place_after x (o ∷ more))) e) ∙ leads s (ops ++ o ∷ more) h)
