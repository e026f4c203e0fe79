-- The number of open lists, and the nesting depth of the instructions so far.
use Rattle.std.proofs.Common.{ℕ, zero, suc, ◌≡◌, ◌+◌, List, [], ◌∷◌, ◌++◌, Option, Some, None, max, refl, subst, arith}
use Rattle.wm_syntax.specs.declared.types.ValType.{ValType}
use Rattle.wm_syntax.specs.declared.instructions.Op.{Op}
use Rattle.wm_syntax.specs.declared.instructions.Op.TheVariants as op
use Rattle.wm_syntax.specs.Instructions.{Instruction, Instructions, snoc, simple, table}
use Rattle.wm_stacks.specs.declared.stack_entries.FrameKind.{FrameKind}
use Rattle.wm_stacks.specs.declared.stack_entries.FrameKind.TheVariants.{Func, Block, Loop, If, Else}
use Rattle.wm_typing.specs.Nesting.{depth}
use Rattle.wm_syntax.specs.Instructions.{opens, closes, openings, endings}
use Rattle.wm_typing.specs.OpenLists.{Head, head, Work, work, Place, open_at, within, complete, levels, work_nesting, deepest_so_far}
use Rattle.wm_typing.proofs.OpenListOps.{fresh, closed, end_place, place_grown, place_label, place_else, place_after}

-- what an op adds
pub record Grows (x : Op) (p q : Place) : Type 0 where
  pub open_lists : levels q + closes x ≡ levels p + opens x
  pub depths : deepest_so_far q ≡ max (deepest_so_far p) (levels q)

abbrev MayGrow : Op → Place → Option Place → Type 0
MayGrow x p None = Unit {0}
MayGrow x p (Some q) = Grows x p q

work_grown : (h : Head) (g b : Instructions) (i : Instruction) → work_nesting h (work g (snoc b i)) ≡ max (work_nesting h (work g b)) (depth i)
work_grown (head Func t) g b i = refl
work_grown (head Block t) g b i = refl
work_grown (head Loop t) g b i = refl
work_grown (head If t) g b i = refl
work_grown (head Else t) g b i = omega arith

closed_depth : (k : FrameKind) (t : Option ValType) (w : Work) → depth (closed k t w) ≡ work_nesting (head k t) w + 1
closed_depth Func t (work f s) = refl
closed_depth Block t (work f s) = refl
closed_depth Loop t (work f s) = refl
closed_depth If t (work f s) = omega arith
closed_depth Else t (work f s) = refl

grown_grows : (x : Op) (i : Instruction) (h : Head) (hs : List Head) (ws : List Work) → opens x ≡ 0 → closes x ≡ 0 → depth i ≡ 0
    → MayGrow x (open_at (h ∷ hs) ws) (place_grown i (h ∷ hs) ws)
grown_grows x i h hs [] o c d = tt
grown_grows x i h hs (work g b ∷ ws) o c d =
    let e = work_grown h g b i in record { open_lists = omega (arith, o, c); depths = omega (arith, e, d) }

begin_grows : (x : Op) (h : Head) (hs : List Head) (w : Work) (ws : List Work) → opens x ≡ 1 → closes x ≡ 0 → work_nesting h fresh ≡ 0
    → Grows x (open_at hs (w ∷ ws)) (open_at (h ∷ hs) (fresh ∷ w ∷ ws))
begin_grows x h hs w ws o c f = record { open_lists = omega (arith, o, c); depths = omega (arith, f) }

else_grows : (p : Place) → MayGrow op.Else p (place_else p)
else_grows (open_at (head If t ∷ hs) (work first s ∷ ws)) = record { open_lists = omega arith; depths = omega arith }
else_grows (open_at [] ws) = tt
else_grows (open_at (head If t ∷ hs) []) = tt
else_grows (open_at (head Func t ∷ hs) ws) = tt
else_grows (open_at (head Block t ∷ hs) ws) = tt
else_grows (open_at (head Loop t ∷ hs) ws) = tt
else_grows (open_at (head Else t ∷ hs) ws) = tt
else_grows (within n seen hs ws) = tt
else_grows (complete r s) = tt

inner_grows : (k : FrameKind) (t : Option ValType) (w : Work) (h : Head) (hs : List Head) (g b : Instructions) (ws : List Work)
    → Grows op.End (open_at (head k t ∷ h ∷ hs) (w ∷ work g b ∷ ws)) (open_at (h ∷ hs) (work g (snoc b (closed k t w)) ∷ ws))
inner_grows k t w h hs g b ws =
    let e = work_grown h g b (closed k t w) in
    let d = closed_depth k t w in
    record { open_lists = omega arith; depths = omega (arith, e, d) }

end_grows : (k : FrameKind) (t : Option ValType) (w : Work) (hs : List Head) (ws : List Work) → MayGrow op.End (open_at (head k t ∷ hs) (w ∷ ws)) (end_place k t w hs ws)
end_grows Func t (work first s) [] [] = record { open_lists = omega arith; depths = omega arith }
end_grows Func t w (h ∷ hs) ws = tt
end_grows Func t w [] (v ∷ ws) = tt
end_grows Block t w [] ws = tt
end_grows Loop t w [] ws = tt
end_grows If t w [] ws = tt
end_grows Else t w [] ws = tt
end_grows Block t w (h ∷ hs) [] = tt
end_grows Loop t w (h ∷ hs) [] = tt
end_grows If t w (h ∷ hs) [] = tt
end_grows Else t w (h ∷ hs) [] = tt
end_grows Block t w (h ∷ hs) (work g b ∷ ws) = inner_grows Block t w h hs g b ws
end_grows Loop t w (h ∷ hs) (work g b ∷ ws) = inner_grows Loop t w h hs g b ws
end_grows If t w (h ∷ hs) (work g b ∷ ws) = inner_grows If t w h hs g b ws
end_grows Else t w (h ∷ hs) (work g b ∷ ws) = inner_grows Else t w h hs g b ws

label_grows : (l n : ℕ) (seen : List ℕ) (hs : List Head) (ws : List Work) → MayGrow (op.Label l) (within n seen hs ws) (place_label l (within n seen hs ws))
label_grows l zero seen hs [] = tt
label_grows l (suc n) seen hs [] = tt
label_grows l zero seen [] (w ∷ ws) = record { open_lists = omega arith; depths = omega arith }
label_grows l zero seen (h ∷ hs) (work g b ∷ ws) =
    let e = work_grown h g b (table seen l) in record { open_lists = omega arith; depths = omega (arith, e) }
label_grows l (suc n) seen [] (w ∷ ws) = record { open_lists = omega arith; depths = omega arith }
label_grows l (suc n) seen (h ∷ hs) (w ∷ ws) = record { open_lists = omega arith; depths = omega arith }

grows : (x : Op) (p : Place) → MayGrow x p (place_after p x)
grows (op.Simple i) (open_at (h ∷ hs) ws) = grown_grows (op.Simple i) (simple i) h hs ws refl refl refl
grows (op.Simple i) (open_at [] ws) = tt
grows (op.Simple i) (within n seen hs ws) = tt
grows (op.Simple i) (complete r s) = tt
grows (op.Block t) (open_at hs (w ∷ ws)) = begin_grows (op.Block t) (head Block t) hs w ws refl refl refl
grows (op.Block t) (open_at hs []) = tt
grows (op.Block t) (within n seen hs ws) = tt
grows (op.Block t) (complete r s) = tt
grows (op.Loop t) (open_at hs (w ∷ ws)) = begin_grows (op.Loop t) (head Loop t) hs w ws refl refl refl
grows (op.Loop t) (open_at hs []) = tt
grows (op.Loop t) (within n seen hs ws) = tt
grows (op.Loop t) (complete r s) = tt
grows (op.If t) (open_at hs (w ∷ ws)) = begin_grows (op.If t) (head If t) hs w ws refl refl refl
grows (op.If t) (open_at hs []) = tt
grows (op.If t) (within n seen hs ws) = tt
grows (op.If t) (complete r s) = tt
grows op.Else p = else_grows p
grows op.End (open_at (head k t ∷ hs) (w ∷ ws)) = end_grows k t w hs ws
grows op.End (open_at (head k t ∷ hs) []) = tt
grows op.End (open_at [] ws) = tt
grows op.End (within n seen hs ws) = tt
grows op.End (complete r s) = tt
grows (op.BrTable n) (open_at [] (w ∷ ws)) = record { open_lists = omega arith; depths = omega arith }
grows (op.BrTable n) (open_at (h ∷ hs) (w ∷ ws)) = record { open_lists = omega arith; depths = omega arith }
grows (op.BrTable n) (open_at hs []) = tt
grows (op.BrTable n) (within k seen hs ws) = tt
grows (op.BrTable n) (complete r s) = tt
grows (op.Label l) (within n seen hs ws) = label_grows l n seen hs ws
grows (op.Label l) (open_at hs ws) = tt
grows (op.Label l) (complete r s) = tt

pub grown_to : (x : Op) (p q : Place) → place_after p x ≡ Some q → Grows x p q
grown_to x p q e = subst (λ z. MayGrow x p z) e (grows x p)

pub openings-append : (xs ys : List Op) → openings (xs ++ ys) ≡ openings xs + openings ys
openings-append [] ys = omega arith
openings-append (x ∷ xs) ys = let e = openings-append xs ys in omega (arith, e)

pub endings-append : (xs ys : List Op) → endings (xs ++ ys) ≡ endings xs + endings ys
endings-append [] ys = omega arith
endings-append (x ∷ xs) ys = let e = endings-append xs ys in omega (arith, e)
