-- The ops of a list of instructions, and the end after them, are an expression.
use Rattle.std.proofs.Common.{◌≡◌, ℕ, suc, ◌+◌, ◌≤◌, ◌⊎◌, inl, inr, List, [], ◌∷◌, ◌++◌, length, map, refl, sym, ap, ◌∙◌, subst, append_assoc, append-nil, arith}
use Rattle.wm_syntax.specs.declared.instructions.Op.{Op}
use Rattle.wm_syntax.specs.declared.instructions.Op.TheVariants as op
use Rattle.wm_syntax.specs.Instructions.{Instruction, Instructions, none, snoc, simple, table, block, loop, choice, HasOp, HasOps, HasElse}
use Rattle.wm_machine.specs.Grammar.{IsExpression, HasLabels}
use Rattle.wm_syntax.specs.Instructions.{openings, endings}

-- as many ends as openings, and in no front more
record Balanced (ops : List Op) : Type 0 where
  even : endings ops ≡ openings ops
  fronts : (front back : List Op) → ops ≡ front ++ back → endings front ≤ openings front

opened-append : (x y : List Op) → openings (x ++ y) ≡ openings x + openings y
opened-append [] y = omega arith
opened-append (o ∷ x) y = let r : openings (x ++ y) ≡ openings x + openings y = opened-append x y in omega arith

closed-append : (x y : List Op) → endings (x ++ y) ≡ endings x + endings y
closed-append [] y = omega arith
closed-append (o ∷ x) y = let r : endings (x ++ y) ≡ endings x + endings y = closed-append x y in omega arith

-- what an op at the front adds
abbrev OpensNone : Op → Type 0
OpensNone o = (x : List Op) → openings (o ∷ x) ≡ openings x

abbrev OpensOne : Op → Type 0
OpensOne o = (x : List Op) → openings (o ∷ x) ≡ openings x + 1

abbrev ClosesNone : Op → Type 0
ClosesNone o = (x : List Op) → endings (o ∷ x) ≡ endings x

-- a front of two joined lists ends in the one or in the other
cut : (x y f b : List Op) → x ++ y ≡ f ++ b → ((g : List Op) × (x ≡ f ++ g)) ⊎ ((g : List Op) × (f ≡ x ++ g) × (y ≡ g ++ b))
cut [] y f b e = inr (f, refl, e)
cut (o ∷ x) y [] b e = inl (o ∷ x, refl)
cut (o ∷ x) y (p ∷ f) b e = go (cut x y f b (cc))
  where
    go : ((g : List Op) × (x ≡ f ++ g)) ⊎ ((g : List Op) × (f ≡ x ++ g) × (y ≡ g ++ b)) → ((g : List Op) × (o ∷ x ≡ p ∷ f ++ g)) ⊎ ((g : List Op) × (p ∷ f ≡ o ∷ x ++ g) × (y ≡ g ++ b))
    go (inl (g, h)) = inl (g, cc)
    go (inr (g, h, k)) = inr (g, cc, k)

balanced_none : Balanced []
balanced_none = record { even = refl; fronts = none_front }
  where
    none_front : (f b : List Op) → [] ≡ f ++ b → endings f ≤ openings f
    none_front [] b e = omega arith
    none_front (o ∷ f) b e = cc

balanced_append : (x y : List Op) → Balanced x → Balanced y → Balanced (x ++ y)
balanced_append x y p q = record {
  even = closed-append x y ∙ (let a : endings x ≡ openings x = p.even in let b : endings y ≡ openings y = q.even in let c : endings x + endings y ≡ openings x + openings y = omega arith in c) ∙ sym (opened-append x y);
  fronts = λ f b e. go f b (cut x y f b e);
}
  where
    go : (f b : List Op) → ((g : List Op) × (x ≡ f ++ g)) ⊎ ((g : List Op) × (f ≡ x ++ g) × (y ≡ g ++ b)) → endings f ≤ openings f
    go f b (inl (g, h)) = p.fronts f g h
    go f b (inr (g, h, k)) =
        let inside : endings g ≤ openings g = q.fronts g b k in
        let whole : endings x ≡ openings x = p.even in
        rw h (omega (arith, closed-append x g, opened-append x g))

-- an op that opens and closes nothing
balanced_cons : (o : Op) (x : List Op) → OpensNone o → ClosesNone o → Balanced x → Balanced (o ∷ x)
balanced_cons o x p q h = record {
  even = q x ∙ h.even ∙ sym (p x);
  fronts = fronts;
}
  where
    fronts : (f b : List Op) → o ∷ x ≡ f ++ b → endings f ≤ openings f
    fronts [] b e = omega arith
    fronts (r ∷ f) b e =
        let same : o ≡ r = cc in
        let inside : endings f ≤ openings f = h.fronts f b (cc) in
        let fewer : endings (o ∷ f) ≡ endings f = q f in
        let less : openings (o ∷ f) ≡ openings f = p f in
        subst (λ (r : Op). endings (r ∷ f) ≤ openings (r ∷ f)) same (omega arith)

-- a front of an end
end_front : (g b : List Op) → op.End ∷ [] ≡ g ++ b → endings g ≤ openings g + 1
end_front [] b e = omega arith
end_front (r ∷ []) b e = let same : op.End ≡ r = cc in subst (λ (r : Op). endings (r ∷ []) ≤ openings (r ∷ []) + 1) same (omega arith)
end_front (r ∷ q ∷ g) b e = cc

-- a list between an op that opens it and its end
balanced_wrap : (o : Op) (x : List Op) → OpensOne o → ClosesNone o → Balanced x → Balanced (o ∷ x ++ op.End ∷ [])
balanced_wrap o x p q h = record {
  even =
      let a : endings x ≡ openings x = h.even in
      let b : endings (o ∷ x ++ op.End ∷ []) ≡ endings (x ++ op.End ∷ []) = q (x ++ op.End ∷ []) in
      let c : openings (o ∷ x ++ op.End ∷ []) ≡ openings (x ++ op.End ∷ []) + 1 = p (x ++ op.End ∷ []) in
      omega (arith, closed-append x (op.End ∷ []), opened-append x (op.End ∷ []));
  fronts = fronts;
}
  where
    go : (f b : List Op) → ((g : List Op) × (x ≡ f ++ g)) ⊎ ((g : List Op) × (f ≡ x ++ g) × (op.End ∷ [] ≡ g ++ b)) → endings f ≤ openings f + 1
    go f b (inl (g, k)) = let inside : endings f ≤ openings f = h.fronts f g k in omega arith
    go f b (inr (g, k, l)) =
        let last : endings g ≤ openings g + 1 = end_front g b l in
        let whole : endings x ≡ openings x = h.even in
        rw k (omega (arith, closed-append x g, opened-append x g))

    fronts : (f b : List Op) → o ∷ x ++ op.End ∷ [] ≡ f ++ b → endings f ≤ openings f
    fronts [] b e = omega arith
    fronts (r ∷ f) b e =
        let same : o ≡ r = cc in
        let inside : endings f ≤ openings f + 1 = go f b (cut x (op.End ∷ []) f b (cc)) in
        let fewer : endings (o ∷ f) ≡ endings f = q f in
        let more : openings (o ∷ f) ≡ openings f + 1 = p f in
        subst (λ (r : Op). endings (r ∷ f) ≤ openings (r ∷ f)) same (omega arith)

balanced_labels : (ls : List ℕ) (d : ℕ) → Balanced (map op.Label ls ++ op.Label d ∷ [])
balanced_labels [] d = balanced_cons (op.Label d) [] (λ x. omega arith) (λ x. omega arith) balanced_none
balanced_labels (l ∷ ls) d = balanced_cons (op.Label l) (map op.Label ls ++ op.Label d ∷ []) (λ x. omega arith) (λ x. omega arith) (balanced_labels ls d)

-- the labels of a br_table, and then what follows
has_labels : (ls : List ℕ) (d : ℕ) (r : List Op) → HasLabels 0 r → HasLabels (suc (length ls)) ((map op.Label ls ++ op.Label d ∷ []) ++ r)
has_labels [] d r h = h
has_labels (l ∷ ls) d r h = has_labels ls d r h

-- what an instruction's ops are, and a list's
record IsWhole (ops : List Op) : Type 0 where
  balanced : Balanced ops
  labels : (r : List Op) → HasLabels 0 r → HasLabels 0 (ops ++ r)

whole_append : (x y : List Op) → IsWhole x → IsWhole y → IsWhole (x ++ y)
whole_append x y p q = record {
  balanced = balanced_append x y p.balanced q.balanced;
  labels = λ r h. subst (λ (o : List Op). HasLabels 0 o) (sym (append_assoc x y r)) (p.labels (y ++ r) (q.labels r h));
}

-- a nested list
whole_wrap : (o : Op) (x : List Op) → OpensOne o → ClosesNone o → ((r : List Op) → HasLabels 0 r → HasLabels 0 (o ∷ r)) → IsWhole x → IsWhole (o ∷ x ++ op.End ∷ [])
whole_wrap o x p q l h = record {
  balanced = balanced_wrap o x p q h.balanced;
  labels = λ r k. l ((x ++ op.End ∷ []) ++ r) (subst (λ (o : List Op). HasLabels 0 o) (sym (append_assoc x (op.End ∷ []) r)) (h.labels (op.End ∷ r) k));
}

moved : (x y : List Op) → y ≡ x → IsWhole x → IsWhole y
moved x y e h = subst (λ (o : List Op). IsWhole o) (sym e) h

whole_else : (second : Instructions) (ops : List Op) → HasElse second (HasOps second) ops → ((os : List Op) → HasOps second os → IsWhole os) → IsWhole ops
whole_else none ops (inl (x, y, e, h, k)) rest = after_else x y ops e h (rest y k)
  where
    after_else : (x y ops : List Op) → ops ≡ x ++ y → x ≡ op.Else ∷ [] → IsWhole y → IsWhole ops
    after_else x y ops e h w = moved (op.Else ∷ y) ops (e ∙ ap (λ (o : List Op). o ++ y) h) (record { balanced = balanced_cons op.Else y (λ x. omega arith) (λ x. omega arith) w.balanced; labels = w.labels })
whole_else none ops (inr h) rest = moved [] ops h (record { balanced = balanced_none; labels = λ r k. k })
whole_else (snoc s i) ops (x, y, e, h, k) rest =
    let w : IsWhole y = rest y k in
    moved (op.Else ∷ y) ops (e ∙ ap (λ (o : List Op). o ++ y) h) (record { balanced = balanced_cons op.Else y (λ x. omega arith) (λ x. omega arith) w.balanced; labels = w.labels })

mutual
  whole_op : (i : Instruction) (ops : List Op) → HasOp i ops → IsWhole ops
  whole_op (simple i) ops h = moved (op.Simple i ∷ []) ops h (record { balanced = balanced_cons (op.Simple i) [] (λ x. omega arith) (λ x. omega arith) balanced_none; labels = λ r k. k })
  whole_op (table ls d) ops h =
      moved (op.BrTable (length ls) ∷ map op.Label ls ++ op.Label d ∷ []) ops h
      (record { balanced = balanced_cons (op.BrTable (length ls)) (map op.Label ls ++ op.Label d ∷ []) (λ x. omega arith) (λ x. omega arith) (balanced_labels ls d); labels = has_labels ls d })
  whole_op (block t body) ops (x, y, e, h, (u, v, f, k, l)) =
      moved (op.Block t ∷ u ++ op.End ∷ []) ops (e ∙ ap (λ (o : List Op). o ++ y) h ∙ ap (λ (o : List Op). op.Block t ∷ o) (f ∙ ap (λ (o : List Op). u ++ o) l))
      (whole_wrap (op.Block t) u (λ x. omega arith) (λ x. omega arith) (λ r k. k) (whole_ops body u k))
  whole_op (loop t body) ops (x, y, e, h, (u, v, f, k, l)) =
      moved (op.Loop t ∷ u ++ op.End ∷ []) ops (e ∙ ap (λ (o : List Op). o ++ y) h ∙ ap (λ (o : List Op). op.Loop t ∷ o) (f ∙ ap (λ (o : List Op). u ++ o) l))
      (whole_wrap (op.Loop t) u (λ x. omega arith) (λ x. omega arith) (λ r k. k) (whole_ops body u k))
  whole_op (choice t first second) ops (x, y, e, h, (u, v, f, k, (z, w, g, l, m))) =
      moved (op.If t ∷ (u ++ z) ++ op.End ∷ []) ops
      (e ∙ ap (λ (o : List Op). o ++ y) h ∙ ap (λ (o : List Op). op.If t ∷ o) (f ∙ ap (λ (o : List Op). u ++ o) (g ∙ ap (λ (o : List Op). z ++ o) m) ∙ sym (append_assoc u z (op.End ∷ []))))
      (whole_wrap (op.If t) (u ++ z) (λ x. omega arith) (λ x. omega arith) (λ r k. k) (whole_append u z (whole_ops first u k) (whole_else second z l (λ os h. whole_ops second os h))))

  whole_ops : (s : Instructions) (ops : List Op) → HasOps s ops → IsWhole ops
  whole_ops none ops h = moved [] ops h (record { balanced = balanced_none; labels = λ r k. k })
  whole_ops (snoc s i) ops (x, y, e, h, k) = moved (x ++ y) ops e (whole_append x y (whole_ops s x h) (whole_op i y k))

-- the ops of a list, and the end that closes it, are an expression
pub is_expression : (s : Instructions) (ops : List Op) → HasOps s ops → IsExpression (ops ++ op.End ∷ [])
is_expression s ops h =
    let w : IsWhole ops = whole_ops s ops h in
    record {
      labels = w.labels (op.End ∷ []) tt;
      closed = (let a : endings ops ≡ openings ops = w.balanced.even in let q : endings (ops ++ op.End ∷ []) ≡ openings (ops ++ op.End ∷ []) + 1 = omega (arith, closed-append ops (op.End ∷ []), opened-append ops (op.End ∷ [])) in q);
      first = λ f b e. go w f b (cut ops (op.End ∷ []) f b e);
    }
  where
    go : IsWhole ops → (f b : List Op) → ((g : List Op) × (ops ≡ f ++ g)) ⊎ ((g : List Op) × (f ≡ ops ++ g) × (op.End ∷ [] ≡ g ++ b)) → (b ≡ []) ⊎ (endings f ≤ openings f)
    go w f b (inl (g, k)) = inr (w.balanced.fronts f g k)
    go w f b (inr ([], k, l)) = inr (rw (k, append-nil) (let a : endings ops ≡ openings ops = w.balanced.even in omega arith))
    go w f [] (inr (r ∷ g, k, l)) = inl refl
    go w f (p ∷ b) (inr (r ∷ [], k, l)) = cc
    go w f (p ∷ b) (inr (r ∷ q ∷ g, k, l)) = cc
