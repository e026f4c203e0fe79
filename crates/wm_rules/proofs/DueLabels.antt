-- In an expression, a label comes if and only if one is due, by the open lists.
use Rattle.std.proofs.Common.{◌≡◌, ℕ, zero, suc, Bool, List, [], ◌∷◌, ◌++◌, Option, Some, None, refl, sym, ◌∙◌, ap, subst, map}
use Rattle.wm_syntax.specs.declared.types.ValType.{ValType}
use Rattle.wm_syntax.specs.declared.instructions.Op.{Op}
use Rattle.wm_syntax.specs.declared.instructions.Op.TheVariants as op
use Rattle.wm_stacks.specs.declared.stack_entries.FrameKind.{FrameKind}
use Rattle.wm_stacks.specs.declared.stack_entries.FrameKind.TheVariants.{Func, Block, Loop, If, Else}
use Rattle.wm_stacks.specs.declared.stack_entries.Frame.{Frame}
use Rattle.wm_stacks.specs.Stack.{Stack, label_of}
use Rattle.wm_typing.specs.declared.labels.BrTable.{BrTable}
use Rattle.wm_typing.specs.Typing.{Context}
use Rattle.wm_typing.specs.OpenLists.{Head, head, head_of, label_type, Work, work, Place, open_at, within, complete, IsSoFar}
use Rattle.wm_typing.specs.inner.Frames.{Frames, running, in_table, ended, Holds, TracksWith}
use Rattle.wm_typing.specs.exact.Ops.{labels_of}
use Rattle.wm_typing.proofs.OpenListOps.{end_place, place_after, place_on}
use Rattle.wm_typing.proofs.WholeBodies.{from_body, place_of}
use Rattle.wm_machine.specs.Grammar.{HasLabels}
use Rattle.wm_rules.specs.Meanings.{heads_of}

-- how many labels are due at a place, and after one op more
abbrev pub due_at : Place → ℕ
due_at (open_at hs ws) = 0
due_at (within n seen hs ws) = suc n
due_at (complete r s) = 0

abbrev due_after : ℕ → Op → ℕ
due_after zero (op.BrTable n) = suc n
due_after zero o = zero
due_after (suc n) o = n

labels_next : (n : ℕ) (o : Op) (ops : List Op) → HasLabels n (o ∷ ops) → HasLabels (due_after n o) ops
labels_next zero (op.Label l) ops h = absurd h
labels_next zero (op.BrTable n) ops h = h
labels_next zero o ops h = h
labels_next (suc n) (op.Label l) ops h = h
labels_next (suc n) o ops h = absurd h

abbrev Due : Option Place → ℕ → Type 0
Due None n = Unit {0}
Due (Some p) n = due_at p ≡ n

end_due : (k : FrameKind) (t : Option ValType) (w : Work) (hs : List Head) (ws : List Work) → Due (end_place k t w hs ws) 0
end_due Func t w [] [] = refl
end_due Func t w (h ∷ hs) ws = tt
end_due Func t w [] (v ∷ ws) = tt
end_due Block t w [] ws = tt
end_due Loop t w [] ws = tt
end_due If t w [] ws = tt
end_due Else t w [] ws = tt
end_due k t w (h ∷ hs) [] = tt
end_due k t w (h ∷ hs) (v ∷ ws) = refl

else_due : (p : Place) → Due (place_after p op.Else) (due_after (due_at p) op.Else)
else_due (open_at (head If t ∷ hs) (work first s ∷ ws)) = refl
else_due (open_at (head If t ∷ hs) []) = tt
else_due (open_at [] ws) = tt
else_due (open_at (head Func t ∷ hs) ws) = tt
else_due (open_at (head Block t ∷ hs) ws) = tt
else_due (open_at (head Loop t ∷ hs) ws) = tt
else_due (open_at (head Else t ∷ hs) ws) = tt
else_due (within n seen hs ws) = tt
else_due (complete r s) = tt

one_due : (p : Place) (x : Op) → Due (place_after p x) (due_after (due_at p) x)
one_due (open_at (h ∷ hs) (w ∷ ws)) (op.Simple i) = refl
one_due (open_at (h ∷ hs) []) (op.Simple i) = tt
one_due (open_at [] ws) (op.Simple i) = tt
one_due (within n seen hs ws) (op.Simple i) = tt
one_due (complete r s) (op.Simple i) = tt
one_due (open_at hs (w ∷ ws)) (op.Block t) = refl
one_due (open_at hs []) (op.Block t) = tt
one_due (within n seen hs ws) (op.Block t) = tt
one_due (complete r s) (op.Block t) = tt
one_due (open_at hs (w ∷ ws)) (op.Loop t) = refl
one_due (open_at hs []) (op.Loop t) = tt
one_due (within n seen hs ws) (op.Loop t) = tt
one_due (complete r s) (op.Loop t) = tt
one_due (open_at hs (w ∷ ws)) (op.If t) = refl
one_due (open_at hs []) (op.If t) = tt
one_due (within n seen hs ws) (op.If t) = tt
one_due (complete r s) (op.If t) = tt
one_due p op.Else = else_due p
one_due (open_at (head k t ∷ hs) (w ∷ ws)) op.End = end_due k t w hs ws
one_due (open_at (head k t ∷ hs) []) op.End = tt
one_due (open_at [] ws) op.End = tt
one_due (within n seen hs ws) op.End = tt
one_due (complete r s) op.End = tt
one_due (open_at hs (w ∷ ws)) (op.BrTable n) = refl
one_due (open_at hs []) (op.BrTable n) = tt
one_due (within m seen hs ws) (op.BrTable n) = tt
one_due (complete r s) (op.BrTable n) = tt
one_due (within zero seen hs (w ∷ ws)) (op.Label l) = refl
one_due (within (suc n) seen hs (w ∷ ws)) (op.Label l) = refl
one_due (within zero seen hs []) (op.Label l) = tt
one_due (within (suc n) seen hs []) (op.Label l) = tt
one_due (open_at hs ws) (op.Label l) = tt
one_due (complete r s) (op.Label l) = tt

nowhere : (ops : List Op) → place_on None ops ≡ None
nowhere [] = refl
nowhere (x ∷ ops) = refl

labels_on : (ops more : List Op) (p q : Place) → place_on (Some p) ops ≡ Some q → HasLabels (due_at p) (ops ++ more) → HasLabels (due_at q) more
labels_on [] more p q e h = let s : p ≡ q = cc in subst (λ z. HasLabels (due_at z) more) s h
labels_on (x ∷ ops) more p q e h = go (place_after p x) (one_due p x) e (λ z. labels_on ops more z q)
  where
    go : (o : Option Place) → Due o (due_after (due_at p) x) → place_on o ops ≡ Some q → ((z : Place) → place_on (Some z) ops ≡ Some q → HasLabels (due_at z) (ops ++ more) → HasLabels (due_at q) more) → HasLabels (due_at q) more
    go None d e next = let z = nowhere ops in absurd (cc)
    go (Some z) d e next = next z e (subst (λ m. HasLabels m (ops ++ more)) (sym d) (labels_next (due_at p) x (ops ++ more) h))

labels_due : (r : Option ValType) (p : Place) (ops more : List Op) → IsSoFar r p ops → HasLabels 0 (ops ++ more) → HasLabels (due_at p) more
labels_due r p ops more s h = labels_on ops more (from_body r) p (place_of r p ops s) h

-- what the frames and the table say of the place
abbrev pub due_in : Option BrTable → ℕ
due_in None = 0
due_in (Some t) = suc t.left

due_is : (c : Context) (p : Place) (fs : Frames) (u : Option BrTable) (s : Stack) → Holds c p fs → TracksWith u s fs → due_at p ≡ due_in u
due_is c (open_at hs ws) (running gs fs) None s h m = refl
due_is c (complete r b) ended None s h m = refl
due_is c (within n seen hs ws) (in_table k known gs fs) (Some t) s h m = ap suc (h.0 ∙ sym m.0)
due_is c (within n seen hs ws) (in_table k known gs fs) None s h m = absurd m
due_is c (open_at hs ws) (running gs fs) (Some t) s h m = absurd m
due_is c (complete r b) ended (Some t) s h m = absurd m
due_is c (open_at hs ws) (in_table k known gs fs) u s h m = absurd h
due_is c (open_at hs ws) ended u s h m = absurd h
due_is c (within n seen hs ws) (running gs fs) u s h m = absurd h
due_is c (within n seen hs ws) ended u s h m = absurd h
due_is c (complete r b) (running gs fs) u s h m = absurd h
due_is c (complete r b) (in_table k known gs fs) u s h m = absurd h

pub heads_are : (c : Context) (p : Place) (fs : Frames) (u : Option BrTable) (s : Stack) → Holds c p fs → TracksWith u s fs → heads_of p ≡ map head_of s.frames
heads_are c (open_at hs ws) (running gs fs) None s h m = h.0 ∙ m.2
heads_are c (complete r b) ended None s h m = sym (ap (map head_of) m.0)
heads_are c (within n seen hs ws) (in_table k known gs fs) (Some t) s h m = h.1 ∙ m.2.2
heads_are c (within n seen hs ws) (in_table k known gs fs) None s h m = absurd m
heads_are c (open_at hs ws) (running gs fs) (Some t) s h m = absurd m
heads_are c (complete r b) ended (Some t) s h m = absurd m
heads_are c (open_at hs ws) (in_table k known gs fs) u s h m = absurd h
heads_are c (open_at hs ws) ended u s h m = absurd h
heads_are c (within n seen hs ws) (running gs fs) u s h m = absurd h
heads_are c (within n seen hs ws) ended u s h m = absurd h
heads_are c (complete r b) (running gs fs) u s h m = absurd h
heads_are c (complete r b) (in_table k known gs fs) u s h m = absurd h

-- a label stands where a table is read, and other ops elsewhere
abbrev pub InOrder : Option BrTable → Op → Type 0
InOrder (Some t) (op.Label l) = Unit {0}
InOrder (Some t) o = ⊥
InOrder None (op.Label l) = ⊥
InOrder None o = Unit {0}

ordered : (u : Option BrTable) (o : Op) (rest : List Op) → HasLabels (due_in u) (o ∷ rest) → InOrder u o
ordered (Some t) (op.Label l) rest h = tt
ordered (Some t) o rest h = absurd h
ordered None (op.Label l) rest h = absurd h
ordered None o rest h = tt

pub in_order : (c : Context) (p : Place) (fs : Frames) (u : Option BrTable) (s : Stack) (ops rest : List Op) (o : Op) → IsSoFar c.result p ops → Holds c p fs → TracksWith u s fs → HasLabels 0 (ops ++ o ∷ rest) → InOrder u o
in_order c p fs u s ops rest o k h m l =
    ordered u o rest (subst (λ n. HasLabels n (o ∷ rest)) (due_is c p fs u s h m) (labels_due c.result p ops (o ∷ rest) k l))

-- the labels of the frames
label_is : (k : FrameKind) (t : Option ValType) (floor : ℕ) (u : Bool) → label_of (record { kind = k; result = t; floor = floor; unreachable = u }) ≡ label_type (head k t)
label_is Func t floor u = refl
label_is Block t floor u = refl
label_is Loop t floor u = refl
label_is If t floor u = refl
label_is Else t floor u = refl

pub labels_are : (fs : List Frame) → labels_of fs ≡ map label_type (map head_of fs)
labels_are [] = refl
labels_are (f ∷ fs) = cc (label_is f.kind f.result f.floor f.unreachable, labels_are fs)
