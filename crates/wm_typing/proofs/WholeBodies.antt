-- Whole lists of ops.
use Rattle.std.proofs.Common.{ℕ, zero, suc, ◌≡◌, ◌+◌, List, [], ◌∷◌, ◌++◌, Option, Some, None, map, length, sym, refl, ap, ◌∙◌, subst, append-nil, append_assoc, arith, length-append, inl, inr}
use Rattle.std.proofs.lemmas.List.{map-append}
use Rattle.wm_syntax.specs.Spelling.{Exactly, ◌▸◌}
use Rattle.wm_syntax.specs.declared.types.ValType.{ValType}
use Rattle.wm_syntax.specs.declared.instructions.Simple.{Simple}
use Rattle.wm_syntax.specs.declared.instructions.Op.{Op}
use Rattle.wm_syntax.specs.declared.instructions.Op.TheVariants as op
use Rattle.wm_syntax.specs.Instructions.{Instruction, Instructions, none, snoc, simple, table, block, loop, choice, HasOp, HasOps, HasElse}
use Rattle.wm_stacks.specs.declared.stack_entries.FrameKind.{FrameKind}
use Rattle.wm_stacks.specs.declared.stack_entries.FrameKind.TheVariants.{Func, Block, Loop, If, Else}
use Rattle.wm_typing.specs.Typing.{Context}
use Rattle.wm_typing.specs.OpenLists.{Head, head, Work, work, Place, open_at, within, complete, at, IsWork, IsBodyWork, IsOpen, IsSoFar}
use Rattle.wm_typing.specs.inner.Frames.{Holds}
use Rattle.wm_typing.proofs.BodyOps.{start}
use Rattle.wm_typing.proofs.OpenListOps.{grow, place_grown, fresh, place_else, closed, end_place, place_label, place_after, place_on}
use Rattle.wm_typing.proofs.OneOp.{CanBack, place_back, fresh_meets}

pub can_back_on : (c : Context) (p : Place) (ops : List Op) → CanBack c p (place_on (Some p) ops)
can_back_on c p [] = λ can. can
can_back_on c p (x ∷ ops) = go (place_after p x) (place_back c x p) (λ q. can_back_on c q ops)
  where
    go : (o : Option Place) → CanBack c p o → ((q : Place) → CanBack c q (place_on (Some q) ops)) → CanBack c p (place_on o ops)
    go None b k = tt
    go (Some q) b k = into (place_on (Some q) ops) (k q)
      where
        into : (o : Option Place) → CanBack c q o → CanBack c p o
        into None d = tt
        into (Some r) d = λ can. b (d can)

-- trees after trees
abbrev pub join_lists : Instructions → Instructions → Instructions
join_lists b none = b
join_lists b (snoc s i) = snoc (join_lists b s) i

join_none : (s : Instructions) → join_lists none s ≡ s
join_none none = refl
join_none (snoc s i) = ap (λ z. snoc z i) (join_none s)

table_on : (seen labels : List ℕ) (l : ℕ) (hs : List Head) (w : Work) (ws : List Work) (rest : List Op)
    → place_on (Some (within (length labels) seen hs (w ∷ ws))) (map op.Label (labels ++ l ∷ []) ++ rest)
    ≡ place_on (Some (open_at hs (grow (table (seen ++ labels) l) w ∷ ws))) rest
table_on seen [] l hs w ws rest = ap (λ z. place_on (Some (open_at hs (grow (table z l) w ∷ ws))) rest) (sym (append-nil seen))
table_on seen (k ∷ labels) l hs w ws rest =
    table_on (seen ++ k ∷ []) labels l hs w ws rest
    ∙ ap (λ z. place_on (Some (open_at hs (grow (table z l) w ∷ ws))) rest) (append_assoc seen (k ∷ []) labels)

-- the ops of trees lead to the list with those trees
abbrev pub AddsInstruction : Instruction → List Op → Type 0
AddsInstruction i ops =
    (h : Head) (hs : List Head) (first b : Instructions) (ws : List Work) (rest : List Op)
    → place_on (Some (open_at (h ∷ hs) (work first b ∷ ws))) (ops ++ rest) ≡ place_on (Some (open_at (h ∷ hs) (work first (snoc b i) ∷ ws))) rest

abbrev pub Adds : Instructions → List Op → Type 0
Adds s ops =
    (h : Head) (hs : List Head) (first b : Instructions) (ws : List Work) (rest : List Op)
    → place_on (Some (open_at (h ∷ hs) (work first b ∷ ws))) (ops ++ rest) ≡ place_on (Some (open_at (h ∷ hs) (work first (join_lists b s) ∷ ws))) rest

adds_block : (t : Option ValType) (s : Instructions) (inner : List Op) → Adds s inner → AddsInstruction (block t s) (op.Block t ∷ inner ++ op.End ∷ [])
adds_block t s inner a h hs first b ws rest =
    ap (λ z. place_on (Some (open_at (head Block t ∷ h ∷ hs) (fresh ∷ work first b ∷ ws))) z) (append_assoc inner (op.End ∷ []) rest)
    ∙ a (head Block t) (h ∷ hs) none none (work first b ∷ ws) (op.End ∷ rest)
    ∙ ap (λ z. place_on (Some (open_at (h ∷ hs) (work first (snoc b (block t z)) ∷ ws))) rest) (join_none s)

adds_loop : (t : Option ValType) (s : Instructions) (inner : List Op) → Adds s inner → AddsInstruction (loop t s) (op.Loop t ∷ inner ++ op.End ∷ [])
adds_loop t s inner a h hs first b ws rest =
    ap (λ z. place_on (Some (open_at (head Loop t ∷ h ∷ hs) (fresh ∷ work first b ∷ ws))) z) (append_assoc inner (op.End ∷ []) rest)
    ∙ a (head Loop t) (h ∷ hs) none none (work first b ∷ ws) (op.End ∷ rest)
    ∙ ap (λ z. place_on (Some (open_at (h ∷ hs) (work first (snoc b (loop t z)) ∷ ws))) rest) (join_none s)

adds_if : (t : Option ValType) (s : Instructions) (inner : List Op) → Adds s inner → AddsInstruction (choice t s none) (op.If t ∷ inner ++ op.End ∷ [])
adds_if t s inner a h hs first b ws rest =
    ap (λ z. place_on (Some (open_at (head If t ∷ h ∷ hs) (fresh ∷ work first b ∷ ws))) z) (append_assoc inner (op.End ∷ []) rest)
    ∙ a (head If t) (h ∷ hs) none none (work first b ∷ ws) (op.End ∷ rest)
    ∙ ap (λ z. place_on (Some (open_at (h ∷ hs) (work first (snoc b (choice t z none)) ∷ ws))) rest) (join_none s)

adds_else : (t : Option ValType) (s1 s2 : Instructions) (one two : List Op) → Adds s1 one → Adds s2 two
    → AddsInstruction (choice t s1 s2) (op.If t ∷ one ++ (op.Else ∷ two ++ op.End ∷ []))
adds_else t s1 s2 one two a1 a2 h hs first b ws rest =
    ap (λ z. place_on (Some (open_at (head If t ∷ h ∷ hs) (fresh ∷ work first b ∷ ws))) z) (append_assoc one (op.Else ∷ two ++ op.End ∷ []) rest)
    ∙ a1 (head If t) (h ∷ hs) none none (work first b ∷ ws) ((op.Else ∷ two ++ op.End ∷ []) ++ rest)
    ∙ ap (λ z. place_on (Some (open_at (head If t ∷ h ∷ hs) (work none z ∷ work first b ∷ ws))) ((op.Else ∷ two ++ op.End ∷ []) ++ rest)) (join_none s1)
    ∙ ap (λ z. place_on (Some (open_at (head Else t ∷ h ∷ hs) (work s1 none ∷ work first b ∷ ws))) z) (append_assoc two (op.End ∷ []) rest)
    ∙ a2 (head Else t) (h ∷ hs) s1 none (work first b ∷ ws) (op.End ∷ rest)
    ∙ ap (λ z. place_on (Some (open_at (h ∷ hs) (work first (snoc b (choice t s1 z)) ∷ ws))) rest) (join_none s2)

-- the else of an if, or none
adds_choice : (t : Option ValType) (s1 s2 : Instructions) (one other : List Op) → Adds s1 one → ((ops : List Op) → HasOps s2 ops → Adds s2 ops)
    → HasElse s2 (HasOps s2) other → AddsInstruction (choice t s1 s2) (op.If t ∷ one ++ (other ++ op.End ∷ []))
adds_choice t s1 none one other a1 a2 (inl (x, y, e, h, k)) =
    subst (λ z. AddsInstruction (choice t s1 none) (op.If t ∷ one ++ (z ++ op.End ∷ []))) (sym (e ∙ ap (λ o. o ++ y) h)) (adds_else t s1 none one y a1 (a2 y k))
adds_choice t s1 none one other a1 a2 (inr e) =
    subst (λ z. AddsInstruction (choice t s1 none) (op.If t ∷ one ++ (z ++ op.End ∷ []))) (sym e) (adds_if t s1 one a1)
adds_choice t s1 (snoc s i) one other a1 a2 (x, y, e, h, k) =
    subst (λ z. AddsInstruction (choice t s1 (snoc s i)) (op.If t ∷ one ++ (z ++ op.End ∷ []))) (sym (e ∙ ap (λ o. o ++ y) h)) (adds_else t s1 (snoc s i) one y a1 (a2 y k))

table_ops : (labels : List ℕ) (l : ℕ)
    → op.BrTable (length labels) ∷ map op.Label labels ++ op.Label l ∷ [] ≡ op.BrTable (length labels) ∷ map op.Label (labels ++ l ∷ [])
table_ops labels l = ap (λ z. op.BrTable (length labels) ∷ z) (sym (map-append op.Label labels (l ∷ [])))

nested_ops : (o : Op) (x y u v ops : List Op) → ops ≡ x ++ y → x ≡ o ∷ [] → y ≡ u ++ v → v ≡ op.End ∷ [] → ops ≡ o ∷ u ++ op.End ∷ []
nested_ops o x y u v ops e h f l = e ∙ ap (λ z. z ++ y) h ∙ ap (λ z. o ∷ z) (f ∙ ap (λ z. u ++ z) l)

mutual
  adds_tree : (i : Instruction) (ops : List Op) → HasOp i ops → AddsInstruction i ops
  adds_tree (simple p) ops e = subst (λ z. AddsInstruction (simple p) z) (sym e) (λ h hs first b ws rest. refl)
  adds_tree (table labels l) ops e =
      subst (λ z. AddsInstruction (table labels l) z) (sym (e ∙ table_ops labels l)) (λ h hs first b ws rest. table_on [] labels l (h ∷ hs) (work first b) ws rest)
  adds_tree (block t s) ops (x, y, e, h, (u, v, f, k, l)) =
      subst (λ z. AddsInstruction (block t s) z) (sym (nested_ops (op.Block t) x y u v ops e h f l)) (adds_block t s u (adds s u k))
  adds_tree (loop t s) ops (x, y, e, h, (u, v, f, k, l)) =
      subst (λ z. AddsInstruction (loop t s) z) (sym (nested_ops (op.Loop t) x y u v ops e h f l)) (adds_loop t s u (adds s u k))
  adds_tree (choice t s1 s2) ops (x, y, e, h, (u, v, f, k, (z, w, g, l, m))) =
      subst (λ z. AddsInstruction (choice t s1 s2) z)
      (sym (e ∙ ap (λ o. o ++ y) h ∙ ap (λ o. op.If t ∷ o) (f ∙ ap (λ o. u ++ o) (g ∙ ap (λ o. z ++ o) m))))
      (adds_choice t s1 s2 u z (adds s1 u k) (λ os p. adds s2 os p) l)

  adds : (s : Instructions) (ops : List Op) → HasOps s ops → Adds s ops
  adds none ops e = subst (λ z. Adds none z) (sym e) (λ h hs first b ws rest. refl)
  adds (snoc s i) ops e = subst (λ z. Adds (snoc s i) z) (sym e.2) (λ h hs first b ws rest.
      ap (λ z. place_on (Some (open_at (h ∷ hs) (work first b ∷ ws))) z) (append_assoc e.0 e.1 rest)
      ∙ adds s e.0 e.3 h hs first b ws (e.1 ++ rest)
      ∙ adds_tree i e.1 e.4 h hs first (join_lists b s) ws rest)

-- one op more, of open lists
abbrev pub MaySoFar : Option ValType → Option Place → List Op → Type 0
MaySoFar r None ops = Unit {0}
MaySoFar r (Some p) ops = IsSoFar r p ops

work_more : (h : Head) (first s : Instructions) (i : Instruction) (a b : List Op) → IsWork h (work first s) a → HasOp i b → IsWork h (work first (snoc s i)) (a ++ b)
work_more (head Func t) first s i a b w k = w
work_more (head Block t) first s i a b w k = (w.0, (w.1.0 ++ b, (w.1.0, b, refl, w.1.1, k), ap (λ z. z ++ b) w.1.2))
work_more (head Loop t) first s i a b w k = (w.0, (w.1.0 ++ b, (w.1.0, b, refl, w.1.1, k), ap (λ z. z ++ b) w.1.2))
work_more (head If t) first s i a b w k = (w.0, (w.1.0 ++ b, (w.1.0, b, refl, w.1.1, k), ap (λ z. z ++ b) w.1.2))
work_more (head Else t) first s i a b w k =
    (w.0, w.1 ++ b, w.2, (w.1, b, refl, w.3, k), ap (λ z. z ++ b) w.4 ∙ ap (λ z. op.If t ∷ z) (append_assoc w.0 (op.Else ∷ w.1) b))

body_more : (r : Option ValType) (h : Head) (first s : Instructions) (i : Instruction) (a b : List Op) → IsBodyWork r h (work first s) a → HasOp i b → IsBodyWork r h (work first (snoc s i)) (a ++ b)
body_more r (head Func t) first s i a b w k = (w.0, w.1, (a, b, refl, w.2, k))
body_more r (head Block t) first s i a b w k = w
body_more r (head Loop t) first s i a b w k = w
body_more r (head If t) first s i a b w k = w
body_more r (head Else t) first s i a b w k = w

open_more : (r : Option ValType) (h : Head) (hs : List Head) (first s : Instructions) (ws : List Work) (i : Instruction) (a b : List Op)
    → IsOpen r (h ∷ hs) (work first s ∷ ws) a → HasOp i b → IsOpen r (h ∷ hs) (work first (snoc s i) ∷ ws) (a ++ b)
open_more r h [] first s [] i a b o k = body_more r h first s i a b o k
open_more r h [] first s (v ∷ ws) i a b o k = absurd o
open_more r h (g ∷ hs) first s ws i a b o k =
    (o.0, o.1 ++ b, o.2, work_more h first s i o.1 b o.3 k, ap (λ z. z ++ b) o.4 ∙ append_assoc o.0 o.1 b)

nested_list : (o : Op) (inner : List Op) (s : Instructions) → HasOps s inner → (Exactly (o ∷ []) ▸ HasOps s ▸ Exactly (op.End ∷ [])) (o ∷ inner ++ op.End ∷ [])
nested_list o inner s h = (o ∷ [], inner ++ op.End ∷ [], refl, refl, (inner, op.End ∷ [], refl, h, refl))

chosen : (t : Option ValType) (s1 s2 : Instructions) (one other : List Op) → HasOps s1 one → HasElse s2 (HasOps s2) other → HasOp (choice t s1 s2) (op.If t ∷ one ++ (other ++ op.End ∷ []))
chosen t s1 s2 one other h k =
    (op.If t ∷ [], one ++ (other ++ op.End ∷ []), refl, refl, (one, other ++ op.End ∷ [], refl, h, (other, op.End ∷ [], refl, k, refl)))

with_else : (s : Instructions) (ops : List Op) → HasOps s ops → HasElse s (HasOps s) (op.Else ∷ ops)
with_else none ops h = inl (op.Else ∷ [], ops, refl, refl, h)
with_else (snoc s i) ops h = (op.Else ∷ [], ops, refl, refl, h)

closed_ops : (k : FrameKind) (t : Option ValType) (w : Work) (a : List Op) → IsWork (head k t) w a → HasOp (closed k t w) (a ++ op.End ∷ [])
closed_ops Func t (work first s) a w = absurd w
closed_ops Block t (work first s) a w =
    subst (λ z. HasOp (block t s) z) (sym (ap (λ z. z ++ op.End ∷ []) w.1.2)) (nested_list (op.Block t) w.1.0 s w.1.1)
closed_ops Loop t (work first s) a w =
    subst (λ z. HasOp (loop t s) z) (sym (ap (λ z. z ++ op.End ∷ []) w.1.2)) (nested_list (op.Loop t) w.1.0 s w.1.1)
closed_ops If t (work first s) a w =
    subst (λ z. HasOp (choice t s none) z) (sym (ap (λ z. z ++ op.End ∷ []) w.1.2)) (chosen t s none w.1.0 [] w.1.1 (inr refl))
closed_ops Else t (work first s) a w =
    subst (λ z. HasOp (choice t first s) z)
    (sym (ap (λ z. z ++ op.End ∷ []) w.4 ∙ ap (λ z. op.If t ∷ z) (append_assoc w.0 (op.Else ∷ w.1) (op.End ∷ []))))
    (chosen t first s w.0 (op.Else ∷ w.1) w.2 (with_else s w.1 w.3))

pub end_more : (r : Option ValType) (k : FrameKind) (t : Option ValType) (w : Work) (hs : List Head) (ws : List Work) (ops : List Op)
    → IsOpen r (head k t ∷ hs) (w ∷ ws) ops → MaySoFar r (end_place k t w hs ws) (ops ++ op.End ∷ [])
end_more r Func t (work first s) [] [] ops o = (o.0, (ops, o.2, refl))
end_more r Func t w (h ∷ hs) ws ops o = tt
end_more r Func t w [] (v ∷ ws) ops o = tt
end_more r Block t w [] ws ops o = tt
end_more r Loop t w [] ws ops o = tt
end_more r If t w [] ws ops o = tt
end_more r Else t w [] ws ops o = tt
end_more r k t w (h ∷ hs) [] ops o = absurd o.2
end_more r k t w (h ∷ hs) (work first s ∷ ws) ops o =
    subst (λ z. IsOpen r (h ∷ hs) (work first (snoc s (closed k t w)) ∷ ws) z) (sym (append_assoc o.0 o.1 (op.End ∷ [])) ∙ ap (λ z. z ++ op.End ∷ []) (sym o.4))
    (open_more r h hs first s ws (closed k t w) o.0 (o.1 ++ op.End ∷ []) o.2 (closed_ops k t w o.1 o.3))

begin_more : (r : Option ValType) (h g : Head) (hs : List Head) (w : Work) (ws : List Work) (ops : List Op) (x : Op)
    → IsOpen r (g ∷ hs) (w ∷ ws) ops → IsWork h fresh (x ∷ []) → IsOpen r (h ∷ g ∷ hs) (fresh ∷ w ∷ ws) (ops ++ x ∷ [])
begin_more r h g hs w ws ops x o k = (ops, x ∷ [], o, k, refl)

else_more : (r : Option ValType) (t : Option ValType) (hs : List Head) (first s : Instructions) (ws : List Work) (ops : List Op)
    → IsOpen r (head If t ∷ hs) (work first s ∷ ws) ops → IsOpen r (head Else t ∷ hs) (work s none ∷ ws) (ops ++ op.Else ∷ [])
else_more r t [] first s [] ops o = absurd o
else_more r t [] first s (w ∷ ws) ops o = absurd o
else_more r t (g ∷ hs) first s ws ops o = (
  o.0,
  o.1 ++ op.Else ∷ [],
  o.2,
  (o.3.1.0, [], o.3.1.1, refl, ap (λ z. z ++ op.Else ∷ []) o.3.1.2),
  ap (λ z. z ++ op.Else ∷ []) o.4 ∙ append_assoc o.0 o.1 (op.Else ∷ []),
)

seen_ops : (before : List Op) (n m : ℕ) (seen : List ℕ) (l : ℕ) (ops : List Op) → n ≡ m → ops ≡ before ++ op.BrTable n ∷ map op.Label seen
    → ops ++ op.Label l ∷ [] ≡ before ++ op.BrTable m ∷ map op.Label (seen ++ l ∷ [])
seen_ops before n m seen l ops e f =
    ap (λ z. z ++ op.Label l ∷ []) f ∙ append_assoc before (op.BrTable n ∷ map op.Label seen) (op.Label l ∷ [])
    ∙ ap (λ z. before ++ op.BrTable n ∷ z) (sym (map-append op.Label seen (l ∷ []))) ∙ ap (λ z. before ++ op.BrTable z ∷ map op.Label (seen ++ l ∷ [])) e

count_more : (n l : ℕ) (seen : List ℕ) → length seen + suc n ≡ length (seen ++ l ∷ []) + n
count_more n l seen = omega (arith, length-append seen (l ∷ []))

pub label_more : (r : Option ValType) (l n : ℕ) (seen : List ℕ) (hs : List Head) (ws : List Work) (ops : List Op)
    → IsSoFar r (within n seen hs ws) ops → MaySoFar r (place_label l (within n seen hs ws)) (ops ++ op.Label l ∷ [])
label_more r l zero seen hs [] ops o = tt
label_more r l (suc n) seen hs [] ops o = tt
label_more r l zero seen [] (w ∷ ws) ops o = absurd o.1
label_more r l zero seen (h ∷ hs) (work first s ∷ ws) ops o =
    let e : length seen + 0 ≡ length seen = omega arith in
    subst (λ z. IsOpen r (h ∷ hs) (work first (snoc s (table seen l)) ∷ ws) z) (sym (seen_ops o.0 (length seen + 0) (length seen) seen l ops e o.2))
    (open_more r h hs first s ws (table seen l) o.0 (op.BrTable (length seen) ∷ map op.Label (seen ++ l ∷ [])) o.1 (sym (table_ops seen l)))
label_more r l (suc n) seen hs (w ∷ ws) ops o =
    (o.0, o.1, seen_ops o.0 (length seen + suc n) (length (seen ++ l ∷ []) + n) seen l ops (count_more n l seen) o.2)

simple_more : (r : Option ValType) (p : Simple) (h : Head) (hs : List Head) (ws : List Work) (ops : List Op)
    → IsOpen r (h ∷ hs) ws ops → MaySoFar r (place_grown (simple p) (h ∷ hs) ws) (ops ++ op.Simple p ∷ [])
simple_more r p h hs [] ops o = tt
simple_more r p h hs (work first s ∷ ws) ops o = open_more r h hs first s ws (simple p) ops (op.Simple p ∷ []) o refl

place_more_else : (r : Option ValType) (p : Place) (ops : List Op) → IsSoFar r p ops → MaySoFar r (place_else p) (ops ++ op.Else ∷ [])
place_more_else r (open_at (head If t ∷ hs) (work first s ∷ ws)) ops o = else_more r t hs first s ws ops o
place_more_else r (open_at [] ws) ops o = tt
place_more_else r (open_at (head If t ∷ hs) []) ops o = tt
place_more_else r (open_at (head Func t ∷ hs) ws) ops o = tt
place_more_else r (open_at (head Block t ∷ hs) ws) ops o = tt
place_more_else r (open_at (head Loop t ∷ hs) ws) ops o = tt
place_more_else r (open_at (head Else t ∷ hs) ws) ops o = tt
place_more_else r (within n seen hs ws) ops o = tt
place_more_else r (complete t s) ops o = tt

pub place_more : (r : Option ValType) (x : Op) (p : Place) (ops : List Op) → IsSoFar r p ops → MaySoFar r (place_after p x) (ops ++ x ∷ [])
place_more r (op.Simple i) (open_at (h ∷ hs) ws) ops o = simple_more r i h hs ws ops o
place_more r (op.Simple i) (open_at [] ws) ops o = tt
place_more r (op.Simple i) (within n seen hs ws) ops o = tt
place_more r (op.Simple i) (complete t s) ops o = tt
place_more r (op.Block t) (open_at (g ∷ hs) (w ∷ ws)) ops o = begin_more r (head Block t) g hs w ws ops (op.Block t) o (refl, ([], refl, refl))
place_more r (op.Block t) (open_at [] (w ∷ ws)) ops o = absurd o
place_more r (op.Block t) (open_at hs []) ops o = tt
place_more r (op.Block t) (within n seen hs ws) ops o = tt
place_more r (op.Block t) (complete u s) ops o = tt
place_more r (op.Loop t) (open_at (g ∷ hs) (w ∷ ws)) ops o = begin_more r (head Loop t) g hs w ws ops (op.Loop t) o (refl, ([], refl, refl))
place_more r (op.Loop t) (open_at [] (w ∷ ws)) ops o = absurd o
place_more r (op.Loop t) (open_at hs []) ops o = tt
place_more r (op.Loop t) (within n seen hs ws) ops o = tt
place_more r (op.Loop t) (complete u s) ops o = tt
place_more r (op.If t) (open_at (g ∷ hs) (w ∷ ws)) ops o = begin_more r (head If t) g hs w ws ops (op.If t) o (refl, ([], refl, refl))
place_more r (op.If t) (open_at [] (w ∷ ws)) ops o = absurd o
place_more r (op.If t) (open_at hs []) ops o = tt
place_more r (op.If t) (within n seen hs ws) ops o = tt
place_more r (op.If t) (complete u s) ops o = tt
place_more r op.Else p ops o = place_more_else r p ops o
place_more r op.End (open_at (head k t ∷ hs) (w ∷ ws)) ops o = end_more r k t w hs ws ops o
place_more r op.End (open_at (head k t ∷ hs) []) ops o = tt
place_more r op.End (open_at [] ws) ops o = tt
place_more r op.End (within n seen hs ws) ops o = tt
place_more r op.End (complete t s) ops o = tt
place_more r (op.BrTable n) (open_at hs (w ∷ ws)) ops o = (ops, o, let e : n ≡ 0 + n = omega arith in ap (λ z. ops ++ op.BrTable z ∷ []) e)
place_more r (op.BrTable n) (open_at hs []) ops o = tt
place_more r (op.BrTable n) (within k seen hs ws) ops o = tt
place_more r (op.BrTable n) (complete t s) ops o = tt
place_more r (op.Label l) (within n seen hs ws) ops o = label_more r l n seen hs ws ops o
place_more r (op.Label l) (open_at hs ws) ops o = tt
place_more r (op.Label l) (complete t s) ops o = tt

pub so_far_on : (r : Option ValType) (rest : List Op) (p : Option Place) (ops : List Op) → MaySoFar r p ops → MaySoFar r (place_on p rest) (ops ++ rest)
so_far_on r rest None ops o = tt
so_far_on r [] (Some p) ops o = subst (λ z. IsSoFar r p z) (sym (append-nil ops)) o
so_far_on r (x ∷ rest) (Some p) ops o =
    subst (λ z. MaySoFar r (place_on (place_after p x) rest) z) (append_assoc ops (x ∷ []) rest)
    (so_far_on r rest (place_after p x) (ops ++ x ∷ []) (place_more r x p ops o))

-- and back: the ops lead to the place
work_place : (h g : Head) (hs : List Head) (w v : Work) (ws : List Work) (inner rest : List Op) → IsWork h w inner
    → place_on (Some (open_at (g ∷ hs) (v ∷ ws))) (inner ++ rest) ≡ place_on (Some (open_at (h ∷ g ∷ hs) (w ∷ v ∷ ws))) rest
work_place (head Func t) g hs (work first s) v ws inner rest k = absurd k
work_place (head Block t) g hs (work first s) v ws inner rest k =
    ap (λ z. place_on (Some (open_at (g ∷ hs) (v ∷ ws))) (z ++ rest)) k.1.2
    ∙ adds s k.1.0 k.1.1 (head Block t) (g ∷ hs) none none (v ∷ ws) rest
    ∙ ap (λ z. place_on (Some (open_at (head Block t ∷ g ∷ hs) (work none z ∷ v ∷ ws))) rest) (join_none s)
    ∙ ap (λ z. place_on (Some (open_at (head Block t ∷ g ∷ hs) (work z s ∷ v ∷ ws))) rest) (sym k.0)
work_place (head Loop t) g hs (work first s) v ws inner rest k =
    ap (λ z. place_on (Some (open_at (g ∷ hs) (v ∷ ws))) (z ++ rest)) k.1.2
    ∙ adds s k.1.0 k.1.1 (head Loop t) (g ∷ hs) none none (v ∷ ws) rest
    ∙ ap (λ z. place_on (Some (open_at (head Loop t ∷ g ∷ hs) (work none z ∷ v ∷ ws))) rest) (join_none s)
    ∙ ap (λ z. place_on (Some (open_at (head Loop t ∷ g ∷ hs) (work z s ∷ v ∷ ws))) rest) (sym k.0)
work_place (head If t) g hs (work first s) v ws inner rest k =
    ap (λ z. place_on (Some (open_at (g ∷ hs) (v ∷ ws))) (z ++ rest)) k.1.2
    ∙ adds s k.1.0 k.1.1 (head If t) (g ∷ hs) none none (v ∷ ws) rest
    ∙ ap (λ z. place_on (Some (open_at (head If t ∷ g ∷ hs) (work none z ∷ v ∷ ws))) rest) (join_none s)
    ∙ ap (λ z. place_on (Some (open_at (head If t ∷ g ∷ hs) (work z s ∷ v ∷ ws))) rest) (sym k.0)
work_place (head Else t) g hs (work first s) v ws inner rest k =
    ap (λ z. place_on (Some (open_at (g ∷ hs) (v ∷ ws))) (z ++ rest)) k.4
    ∙ ap (λ z. place_on (Some (open_at (head If t ∷ g ∷ hs) (fresh ∷ v ∷ ws))) z) (append_assoc k.0 (op.Else ∷ k.1) rest)
    ∙ adds first k.0 k.2 (head If t) (g ∷ hs) none none (v ∷ ws) ((op.Else ∷ k.1) ++ rest)
    ∙ ap (λ z. place_on (Some (open_at (head If t ∷ g ∷ hs) (work none z ∷ v ∷ ws))) ((op.Else ∷ k.1) ++ rest)) (join_none first)
    ∙ adds s k.1 k.3 (head Else t) (g ∷ hs) first none (v ∷ ws) rest
    ∙ ap (λ z. place_on (Some (open_at (head Else t ∷ g ∷ hs) (work first z ∷ v ∷ ws))) rest) (join_none s)

abbrev pub from_body : Option ValType → Place
from_body r = open_at (head Func r ∷ []) (fresh ∷ [])

open_place : (r : Option ValType) (hs : List Head) (ws : List Work) (ops rest : List Op) → IsOpen r hs ws ops
    → place_on (Some (from_body r)) (ops ++ rest) ≡ place_on (Some (open_at hs ws)) rest
open_place r [] ws ops rest o = absurd o
open_place r (h ∷ hs) [] ops rest o = absurd o
open_place r (head Func t ∷ []) (work first s ∷ []) ops rest o =
    adds s ops o.2 (head Func r) [] none none [] rest
    ∙ ap (λ z. place_on (Some (open_at (head Func r ∷ []) (work none z ∷ []))) rest) (join_none s)
    ∙ ap (λ z. place_on (Some (open_at (head Func r ∷ []) (work z s ∷ []))) rest) (sym o.1)
    ∙ ap (λ z. place_on (Some (open_at (head Func z ∷ []) (work first s ∷ []))) rest) (sym o.0)
open_place r (head Block t ∷ []) (w ∷ []) ops rest o = absurd o
open_place r (head Loop t ∷ []) (w ∷ []) ops rest o = absurd o
open_place r (head If t ∷ []) (w ∷ []) ops rest o = absurd o
open_place r (head Else t ∷ []) (w ∷ []) ops rest o = absurd o
open_place r (h ∷ []) (w ∷ v ∷ ws) ops rest o = absurd o
open_place r (h ∷ g ∷ hs) (w ∷ []) ops rest o = absurd o.2
open_place r (h ∷ g ∷ hs) (w ∷ v ∷ ws) ops rest o =
    ap (λ z. place_on (Some (from_body r)) (z ++ rest)) o.4
    ∙ ap (λ z. place_on (Some (from_body r)) z) (append_assoc o.0 o.1 rest)
    ∙ open_place r (g ∷ hs) (v ∷ ws) o.0 (o.1 ++ rest) o.2
    ∙ work_place h g hs w v ws o.1 rest o.3

labels_place : (n : ℕ) (seen labels : List ℕ) (hs : List Head) (w : Work) (ws : List Work)
    → place_on (Some (within (length labels + n) seen hs (w ∷ ws))) (map op.Label labels) ≡ Some (within n (seen ++ labels) hs (w ∷ ws))
labels_place n seen [] hs w ws =
    let e : 0 + n ≡ n = omega arith in
    ap (λ z. place_on (Some (within z seen hs (w ∷ ws))) []) e ∙ ap (λ z. Some (within n z hs (w ∷ ws))) (sym (append-nil seen))
labels_place n seen (k ∷ labels) hs w ws =
    let e : suc (length labels) + n ≡ suc (length labels + n) = omega arith in
    ap (λ z. place_on (Some (within z seen hs (w ∷ ws))) (op.Label k ∷ map op.Label labels)) e
    ∙ labels_place n (seen ++ k ∷ []) labels hs w ws
    ∙ ap (λ z. Some (within n z hs (w ∷ ws))) (append_assoc seen (k ∷ []) labels)

within_place : (n : ℕ) (seen : List ℕ) (hs : List Head) (ws : List Work) (r : Option ValType) (before : List Op) → IsOpen r hs ws before
    → place_on (Some (from_body r)) (before ++ op.BrTable (length seen + n) ∷ map op.Label seen) ≡ Some (within n seen hs ws)
within_place n seen [] ws r before o = absurd o
within_place n seen (h ∷ hs) [] r before o = absurd o
within_place n seen (h ∷ hs) (w ∷ ws) r before o =
    open_place r (h ∷ hs) (w ∷ ws) before (op.BrTable (length seen + n) ∷ map op.Label seen) o ∙ labels_place n [] seen (h ∷ hs) w ws

-- the ops so far have one place
pub place_of : (r : Option ValType) (p : Place) (ops : List Op) → IsSoFar r p ops → place_on (Some (from_body r)) ops ≡ Some p
place_of r (open_at hs ws) ops o =
    ap (λ z. place_on (Some (from_body r)) z) (sym (append-nil ops)) ∙ open_place r hs ws ops [] o
place_of r (within n seen hs ws) ops o = ap (λ z. place_on (Some (from_body r)) z) o.2 ∙ within_place n seen hs ws r o.0 o.1
place_of r (complete t s) ops o =
    ap (λ z. place_on (Some (from_body r)) z) o.1.2
    ∙ adds s o.1.0 o.1.1 (head Func r) [] none none [] (op.End ∷ [])
    ∙ ap (λ z. Some (complete r z)) (join_none s) ∙ ap (λ z. Some (complete z s)) (sym o.0)

-- ops so far are open in one way only
pub one_place : (r : Option ValType) (p q : Place) (ops : List Op) → IsSoFar r p ops → IsSoFar r q ops → p ≡ q
one_place r p q ops h k = same (sym (place_of r p ops h) ∙ place_of r q ops k)
  where
    same : {x y : Place} → Some x ≡ Some y → x ≡ y
    same e = cc

pub first_holds : (c : Context) → Holds c (from_body c.result) (start c)
first_holds c = (refl, (fresh_meets (at c (head Func (c.result) ∷ [])) (head Func (c.result)) none tt, tt))

-- no ops are those of two bodies
body_place : (r : Option ValType) (s : Instructions) (ops : List Op) → HasOps s ops
    → place_on (Some (from_body r)) (ops ++ op.End ∷ []) ≡ Some (complete r s)
body_place r s ops k = place_of r (complete r s) (ops ++ op.End ∷ []) (refl, (ops, k, refl))

complete_same : (r : Option ValType) (s t : Instructions) → ◌≡◌ {A = Option Place} (Some (complete r s)) (Some (complete r t)) → s ≡ t
complete_same r s t e = cc

pub flat_unique : (s t : Instructions) (ops : List Op) → HasOps s ops → HasOps t ops → s ≡ t
flat_unique s t ops a b = complete_same None s t (sym (body_place None s ops a) ∙ body_place None t ops b)

place_on_none : (ys : List Op) → place_on None ys ≡ None
place_on_none [] = refl
place_on_none (y ∷ ys) = refl

pub place_on_more : (p : Option Place) (xs ys : List Op) → place_on p (xs ++ ys) ≡ place_on (place_on p xs) ys
place_on_more None xs ys = sym (place_on_none ys)
place_on_more (Some p) [] ys = refl
place_on_more (Some p) (x ∷ xs) ys = place_on_more (place_after p x) xs ys
