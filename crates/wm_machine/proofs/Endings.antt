-- Where the ops of an expression end, as a recursion over them.
use Rattle.std.proofs.Common.{◌≡◌, ℕ, zero, suc, ◌+◌, ◌≤◌, ◌⊎◌, ◌↔◌, inl, inr, List, [], ◌∷◌, ◌++◌, refl, sym, ap, subst, arith}
use Rattle.wm_syntax.specs.declared.instructions.Op.{Op}
use Rattle.wm_syntax.specs.declared.instructions.Op.TheVariants as op
use Rattle.wm_syntax.specs.Instructions.{openings, endings}
use Rattle.wm_machine.specs.Grammar.{HasLabels, IsExpression}
use Rattle.wm_machine.proofs.FirstBytes.{head_same, tail_same}

-- With so many blocks open and so many labels to come, all blocks and the expression are closed just at the last op.
abbrev pub Ends : (depth labels : ℕ) → List Op → Type 0
Ends depth labels [] = ⊥
Ends depth (suc n) (op.Label l ∷ ops) = Ends depth n ops
Ends depth (suc n) (_ ∷ ops) = ⊥
Ends depth zero (op.Label l ∷ ops) = ⊥
Ends zero zero (op.End ∷ ops) = ops ≡ []
Ends (suc d) zero (op.End ∷ ops) = Ends d zero ops
Ends depth zero (op.Block t ∷ ops) = Ends (suc depth) zero ops
Ends depth zero (op.Loop t ∷ ops) = Ends (suc depth) zero ops
Ends depth zero (op.If t ∷ ops) = Ends (suc depth) zero ops
Ends depth zero (op.BrTable n ∷ ops) = Ends depth (suc n) ops
Ends depth zero (_ ∷ ops) = Ends depth zero ops

-- `IsExpression` with so many blocks open before it, and so many labels to come
pub record IsEnding (depth labels : ℕ) (ops : List Op) : Type 0 where
  pub labelled : HasLabels labels ops
  pub closed : endings ops ≡ depth + openings ops + 1
  pub first : (front back : List Op) → ops ≡ front ++ back → (back ≡ []) ⊎ (endings front ≤ depth + openings front)

-- an op that opens u lists and closes v of them
module _ (o : Op) (u v : ℕ) (opened : (ops : List Op) → openings (o ∷ ops) ≡ u + openings ops) (shut : (ops : List Op) → endings (o ∷ ops) ≡ v + endings ops)
    (d e : ℕ) (same : d + u ≡ e + v) where
  fewer : (l m : ℕ) (ops : List Op) → (HasLabels l (o ∷ ops) → HasLabels m ops) → IsEnding d l (o ∷ ops) → IsEnding e m ops
  fewer l m ops labels h = record {
    labelled = labels h.labelled;
    closed = omega (arith, h.closed, opened ops, shut ops, same);
    first = λ front back q. elim (h.first (o ∷ front) back (ap (λ y. o ∷ y) q)) [
      | inl n ↦ inl n
      | inr n ↦ inr (omega (arith, n, opened front, shut front, same))
    ];
  }

  more_front : (m : ℕ) (ops : List Op) → IsEnding e m ops → (front back : List Op) → o ∷ ops ≡ front ++ back → (back ≡ []) ⊎ (endings front ≤ d + openings front)
  more_front m ops h [] back q = inr (omega arith)
  more_front m ops h (x ∷ front) back q = elim (h.first front back (tail_same o x ops (front ++ back) q)) [
    | inl n ↦ inl n
    | inr n ↦
        let w : endings (o ∷ front) ≤ d + openings (o ∷ front) = omega (arith, n, opened front, shut front, same) in
        inr (subst (λ y. endings (y ∷ front) ≤ d + openings (y ∷ front)) (head_same o x ops (front ++ back) q) w)
  ]

  more : (l m : ℕ) (ops : List Op) → (HasLabels m ops → HasLabels l (o ∷ ops)) → IsEnding e m ops → IsEnding d l (o ∷ ops)
  more l m ops labels h = record {
    labelled = labels h.labelled;
    closed = omega (arith, h.closed, opened ops, shut ops, same);
    first = more_front m ops h;
  }

pub ends_to : (d l : ℕ) (ops : List Op) → IsEnding d l ops → Ends d l ops
ends_to d l [] h = omega (arith, h.closed)
ends_to d (suc n) (op.Label x ∷ ops) h = ends_to d n ops (fewer (op.Label x) 0 0 (λ y. refl) (λ y. refl) d d refl (suc n) n ops (λ y. y) h)
ends_to d (suc n) (o ∷ ops) h = h.labelled
ends_to d zero (op.Label x ∷ ops) h = h.labelled
ends_to zero zero (op.End ∷ ops) h = elim (h.first (op.End ∷ []) ops refl) [ inl n ↦ n | inr n ↦ absurd (omega (arith, n)) ]
ends_to (suc d) zero (op.End ∷ ops) h = ends_to d zero ops (fewer op.End 0 1 (λ y. refl) (λ y. refl) (suc d) d (omega arith) zero zero ops (λ y. y) h)
ends_to d zero (op.Block t ∷ ops) h = ends_to (suc d) zero ops (fewer (op.Block t) 1 0 (λ y. refl) (λ y. refl) d (suc d) (omega arith) zero zero ops (λ y. y) h)
ends_to d zero (op.Loop t ∷ ops) h = ends_to (suc d) zero ops (fewer (op.Loop t) 1 0 (λ y. refl) (λ y. refl) d (suc d) (omega arith) zero zero ops (λ y. y) h)
ends_to d zero (op.If t ∷ ops) h = ends_to (suc d) zero ops (fewer (op.If t) 1 0 (λ y. refl) (λ y. refl) d (suc d) (omega arith) zero zero ops (λ y. y) h)
ends_to d zero (op.BrTable n ∷ ops) h = ends_to d (suc n) ops (fewer (op.BrTable n) 0 0 (λ y. refl) (λ y. refl) d d refl zero (suc n) ops (λ y. y) h)
ends_to d zero (op.Else ∷ ops) h = ends_to d zero ops (fewer op.Else 0 0 (λ y. refl) (λ y. refl) d d refl zero zero ops (λ y. y) h)
ends_to d zero (op.Simple i ∷ ops) h = ends_to d zero ops (fewer (op.Simple i) 0 0 (λ y. refl) (λ y. refl) d d refl zero zero ops (λ y. y) h)

no_back : (front back : List Op) → [] ≡ front ++ back → back ≡ []
no_back [] back q = sym q
no_back (x ∷ front) back q = cc

last_front : (front back : List Op) → op.End ∷ [] ≡ front ++ back → (back ≡ []) ⊎ (endings front ≤ 0 + openings front)
last_front [] back q = inr (omega arith)
last_front (x ∷ front) back q = inl (no_back front back (tail_same op.End x [] (front ++ back) q))

last_end : IsEnding 0 0 (op.End ∷ [])
last_end = record { labelled = tt; closed = refl; first = last_front }

pub ends_from : (d l : ℕ) (ops : List Op) → Ends d l ops → IsEnding d l ops
ends_from d l [] h = absurd h
ends_from d (suc n) (op.Label x ∷ ops) h = more (op.Label x) 0 0 (λ y. refl) (λ y. refl) d d refl (suc n) n ops (λ y. y) (ends_from d n ops h)
ends_from d (suc n) (o ∷ ops) h = absurd h
ends_from d zero (op.Label x ∷ ops) h = absurd h
ends_from zero zero (op.End ∷ ops) h = subst (λ y. IsEnding 0 0 (op.End ∷ y)) (sym h) last_end
ends_from (suc d) zero (op.End ∷ ops) h = more op.End 0 1 (λ y. refl) (λ y. refl) (suc d) d (omega arith) zero zero ops (λ y. y) (ends_from d zero ops h)
ends_from d zero (op.Block t ∷ ops) h = more (op.Block t) 1 0 (λ y. refl) (λ y. refl) d (suc d) (omega arith) zero zero ops (λ y. y) (ends_from (suc d) zero ops h)
ends_from d zero (op.Loop t ∷ ops) h = more (op.Loop t) 1 0 (λ y. refl) (λ y. refl) d (suc d) (omega arith) zero zero ops (λ y. y) (ends_from (suc d) zero ops h)
ends_from d zero (op.If t ∷ ops) h = more (op.If t) 1 0 (λ y. refl) (λ y. refl) d (suc d) (omega arith) zero zero ops (λ y. y) (ends_from (suc d) zero ops h)
ends_from d zero (op.BrTable n ∷ ops) h = more (op.BrTable n) 0 0 (λ y. refl) (λ y. refl) d d refl zero (suc n) ops (λ y. y) (ends_from d (suc n) ops h)
ends_from d zero (op.Else ∷ ops) h = more op.Else 0 0 (λ y. refl) (λ y. refl) d d refl zero zero ops (λ y. y) (ends_from d zero ops h)
ends_from d zero (op.Simple i ∷ ops) h = more (op.Simple i) 0 0 (λ y. refl) (λ y. refl) d d refl zero zero ops (λ y. y) (ends_from d zero ops h)

expression_to : (ops : List Op) → IsExpression ops → IsEnding 0 0 ops
expression_to ops h = record {
  labelled = h.labels;
  closed = omega (arith, h.closed);
  first = λ front back q. elim (h.first front back q) [ inl n ↦ inl n | inr n ↦ inr (omega (arith, n)) ];
}

expression_from : (ops : List Op) → IsEnding 0 0 ops → IsExpression ops
expression_from ops h = record {
  labels = h.labelled;
  closed = omega (arith, h.closed);
  first = λ front back q. elim (h.first front back q) [ inl n ↦ inl n | inr n ↦ inr (omega (arith, n)) ];
}

-- the ops of an expression are those that end with it
pub expression_ends : (ops : List Op) → IsExpression ops ↔ Ends 0 0 ops
expression_ends ops = (λ h. ends_to 0 0 ops (expression_to ops h), λ e. expression_from ops (ends_from 0 0 ops e))
