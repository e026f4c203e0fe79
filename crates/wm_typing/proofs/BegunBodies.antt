-- Ops that have a typing in the lists that they leave open begin a typed body. Each of these lists gets an
-- `unreachable` and its end. The first branch of an `if` also gets an `else` and another `unreachable`.
use Rattle.std.proofs.Common.{◌≡◌, List, [], ◌∷◌, ◌++◌, Option, Some, option_to_list, refl, subst}
use Rattle.wm_syntax.specs.declared.types.ValType.{ValType}
use Rattle.wm_syntax.specs.declared.types.ValType.TheVariants.{I32}
use Rattle.wm_syntax.specs.declared.instructions.Simple.TheVariants.{Unreachable}
use Rattle.wm_syntax.specs.declared.instructions.Op.{Op}
use Rattle.wm_syntax.specs.declared.instructions.Op.TheVariants as op
use Rattle.wm_syntax.specs.Instructions.{Instruction, Instructions, none, snoc, simple, block, loop, choice}
use Rattle.wm_stacks.specs.declared.stack_entries.FrameKind.TheVariants.{Func, Block, Loop, If, Else}
use Rattle.wm_typing.specs.Typing.{Context, Typed, TypedInstruction}
use Rattle.wm_typing.specs.OpenLists.{Head, head, Work, work, open_at, complete, at, CanType, IsOpen, IsSoFar, OpenCan, WorkCan}
use Rattle.wm_typing.specs.TypedBodies.{IsTypedBody}
use Rattle.wm_typing.specs.inner.Frames.{Nested}
use Rattle.wm_typing.proofs.OneOp.{work_with}
use Rattle.wm_typing.proofs.OpenListOps.{place_on}
use Rattle.wm_typing.proofs.StacksAfterOps.{typed_body}
use Rattle.wm_typing.proofs.WholeBodies.{MaySoFar, so_far_on}

-- the outermost list alone is that of the body
nested_lists : (r : Option ValType) (hs : List Head) (ws : List Work) (ops : List Op) → IsOpen r hs ws ops → Nested hs
nested_lists r [] ws ops o = absurd o
nested_lists r (h ∷ hs) [] ops o = absurd o
nested_lists r (head Func t ∷ []) (w ∷ []) ops o = refl
nested_lists r (head Block t ∷ []) (w ∷ []) ops o = absurd o
nested_lists r (head Loop t ∷ []) (w ∷ []) ops o = absurd o
nested_lists r (head If t ∷ []) (w ∷ []) ops o = absurd o
nested_lists r (head Else t ∷ []) (w ∷ []) ops o = absurd o
nested_lists r (h ∷ []) (w ∷ v ∷ ws) ops o = absurd o
nested_lists r (head Func t ∷ g ∷ hs) (work first s ∷ ws) ops o = absurd o.3
nested_lists r (head Block t ∷ g ∷ hs) (work first s ∷ ws) ops o = nested_lists r (g ∷ hs) ws o.0 o.2
nested_lists r (head Loop t ∷ g ∷ hs) (work first s ∷ ws) ops o = nested_lists r (g ∷ hs) ws o.0 o.2
nested_lists r (head If t ∷ g ∷ hs) (work first s ∷ ws) ops o = nested_lists r (g ∷ hs) ws o.0 o.2
nested_lists r (head Else t ∷ g ∷ hs) (work first s ∷ ws) ops o = nested_lists r (g ∷ hs) ws o.0 o.2

-- after an unreachable the instructions lead to any types
abbrev dead : Instructions → Instructions
dead s = snoc s (simple Unreachable)

dead_typed : (c : Context) (s : Instructions) (types after : List ValType) → Typed c s [] types → Typed c (dead s) [] after
dead_typed c s types after t = ([], types, after, t, tt, refl)

work_dead : (c : Context) (h : Head) (first s : Instructions) (after : List ValType) → WorkCan c h [] (work first s) → Typed c (dead s) [] after
work_dead c h first s after m = dead_typed c s (m.1.0 ++ []) after m.1.1

-- the instruction that a closed list makes stands in the list around it
work_grown : (c : Context) (h : Head) (took gave : List ValType) (first s : Instructions) (i : Instruction) → WorkCan c h took (work first s) → TypedInstruction c i took gave → WorkCan c h [] (work first (snoc s i))
work_grown c h took gave first s i m t = work_with c h first (snoc s i) (m.1.0 ++ gave) m.0 (m.1.0, took, gave, m.1.1, t, refl)

-- the ops that close these lists, and the body that they complete
abbrev Closed : Context → List Head → List Work → Type 0
Closed c hs ws = (more : List Op) × (t : Option ValType) × (s : Instructions) × (place_on (Some (open_at hs ws)) more ≡ Some (complete t s)) × CanType c (complete t s)

close_all : (c : Context) (hs : List Head) (ws : List Work) → Nested hs → OpenCan c [] hs ws → Closed c hs ws
close_all c [] ws n can = absurd n
close_all c (h ∷ hs) [] n can = absurd can
close_all c (h ∷ []) (w ∷ v ∷ ws) n can = absurd can.1
close_all c (h ∷ g ∷ hs) (w ∷ []) n can = absurd can.1
close_all c (head Func t ∷ []) (work first s ∷ []) n can =
    (op.Simple Unreachable ∷ op.End ∷ [], t, dead s, refl, work_dead (at c (head Func t ∷ [])) (head Func t) first s (option_to_list t) can.0)
close_all c (head Func t ∷ g ∷ hs) (w ∷ v ∷ ws) n can = absurd (cc)
close_all c (head Block t ∷ []) (w ∷ []) n can = absurd n
close_all c (head Loop t ∷ []) (w ∷ []) n can = absurd n
close_all c (head If t ∷ []) (w ∷ []) n can = absurd n
close_all c (head Else t ∷ []) (w ∷ []) n can = absurd n
close_all c (head Block t ∷ g ∷ hs) (work first s ∷ work fv sv ∷ ws) n can =
    let inner = work_dead (at c (head Block t ∷ g ∷ hs)) (head Block t) first s (option_to_list t) can.0 in
    let outer = work_grown (at c (g ∷ hs)) g [] (option_to_list t) fv sv (block t (dead s)) can.1.0 ((refl, refl), inner) in
    let r = close_all c (g ∷ hs) (work fv (snoc sv (block t (dead s))) ∷ ws) n (outer, can.1.1) in
    (op.Simple Unreachable ∷ op.End ∷ r.0, r.1, r.2, r.3, r.4)
close_all c (head Loop t ∷ g ∷ hs) (work first s ∷ work fv sv ∷ ws) n can =
    let inner = work_dead (at c (head Loop t ∷ g ∷ hs)) (head Loop t) first s (option_to_list t) can.0 in
    let outer = work_grown (at c (g ∷ hs)) g [] (option_to_list t) fv sv (loop t (dead s)) can.1.0 ((refl, refl), inner) in
    let r = close_all c (g ∷ hs) (work fv (snoc sv (loop t (dead s))) ∷ ws) n (outer, can.1.1) in
    (op.Simple Unreachable ∷ op.End ∷ r.0, r.1, r.2, r.3, r.4)
close_all c (head If t ∷ g ∷ hs) (work first s ∷ work fv sv ∷ ws) n can =
    let one = work_dead (at c (head If t ∷ g ∷ hs)) (head If t) first s (option_to_list t) can.0 in
    let two = dead_typed (at c (head Else t ∷ g ∷ hs)) none [] (option_to_list t) refl in
    let outer = work_grown (at c (g ∷ hs)) g (I32 ∷ []) (option_to_list t) fv sv (choice t (dead s) (dead none)) can.1.0 ((refl, refl), one, two) in
    let r = close_all c (g ∷ hs) (work fv (snoc sv (choice t (dead s) (dead none))) ∷ ws) n (outer, can.1.1) in
    (op.Simple Unreachable ∷ op.Else ∷ op.Simple Unreachable ∷ op.End ∷ r.0, r.1, r.2, r.3, r.4)
close_all c (head Else t ∷ g ∷ hs) (work first s ∷ work fv sv ∷ ws) n can =
    let two = work_dead (at c (head Else t ∷ g ∷ hs)) (head Else t) first s (option_to_list t) can.0 in
    let outer = work_grown (at c (g ∷ hs)) g (I32 ∷ []) (option_to_list t) fv sv (choice t first (dead s)) can.1.0 ((refl, refl), can.0.0, two) in
    let r = close_all c (g ∷ hs) (work fv (snoc sv (choice t first (dead s))) ∷ ws) n (outer, can.1.1) in
    (op.Simple Unreachable ∷ op.End ∷ r.0, r.1, r.2, r.3, r.4)

pub begun_body : (c : Context) (hs : List Head) (ws : List Work) (ops : List Op) → c.labels ≡ c.result ∷ [] → IsOpen c.result hs ws ops → OpenCan c [] hs ws → (more : List Op) × IsTypedBody c (ops ++ more)
begun_body c hs ws ops e o can =
    let r = close_all c hs ws (nested_lists c.result hs ws ops o) can in
    let s : IsSoFar c.result (complete r.1 r.2) (ops ++ r.0) = subst (λ p. MaySoFar c.result p (ops ++ r.0)) r.3 (so_far_on c.result r.0 (Some (open_at hs ws)) ops o) in
    (r.0, typed_body c (ops ++ r.0) r.2 s.1 (subst (λ t. CanType c (complete t r.2)) s.0 r.4) e)
