-- The open lists after one more op.
use Rattle.std.proofs.Common.{ℕ, zero, suc, List, [], ◌∷◌, ◌++◌, Option, Some, None}
use Rattle.wm_syntax.specs.declared.types.ValType.{ValType}
use Rattle.wm_syntax.specs.declared.instructions.Simple.{Simple}
use Rattle.wm_syntax.specs.declared.instructions.Op.{Op}
use Rattle.wm_syntax.specs.declared.instructions.Op.TheVariants as op
use Rattle.wm_syntax.specs.Instructions.{Instruction, Instructions, none, snoc, simple, table, block, loop, choice}
use Rattle.wm_stacks.specs.declared.stack_entries.FrameKind.{FrameKind}
use Rattle.wm_stacks.specs.declared.stack_entries.FrameKind.TheVariants.{Func, Block, Loop, If, Else}
use Rattle.wm_typing.specs.OpenLists.{Head, head, Work, work, Place, open_at, within, complete}

abbrev pub grow : Instruction → Work → Work
grow i (work first s) = work first (snoc s i)

abbrev pub place_grown : Instruction → List Head → List Work → Option Place
place_grown i hs [] = None
place_grown i hs (w ∷ ws) = Some (open_at hs (grow i w ∷ ws))

abbrev pub place_simple : Simple → Place → Option Place
place_simple p (open_at (h ∷ hs) ws) = place_grown (simple p) (h ∷ hs) ws
place_simple p _ = None

abbrev pub fresh : Work
fresh = work none none

abbrev pub place_begin : Head → Place → Option Place
place_begin h (open_at hs (w ∷ ws)) = Some (open_at (h ∷ hs) (fresh ∷ w ∷ ws))
place_begin h _ = None

abbrev pub place_else : Place → Option Place
place_else (open_at (head If t ∷ hs) (work first s ∷ ws)) = Some (open_at (head Else t ∷ hs) (work s none ∷ ws))
place_else _ = None

-- the tree that an end completes
abbrev pub closed : FrameKind → Option ValType → Work → Instruction
closed Func t (work first s) = block t s
closed Block t (work first s) = block t s
closed Loop t (work first s) = loop t s
closed If t (work first s) = choice t s none
closed Else t (work first s) = choice t first s

abbrev pub instructions_of : Work → Instructions
instructions_of (work first s) = s

abbrev pub end_place : FrameKind → Option ValType → Work → List Head → List Work → Option Place
end_place Func t w [] [] = Some (complete t (instructions_of w))
end_place Func t w _ _ = None
end_place k t w (h ∷ hs) (v ∷ ws) = Some (open_at (h ∷ hs) (grow (closed k t w) v ∷ ws))
end_place k t w _ _ = None

abbrev pub place_end : Place → Option Place
place_end (open_at (head k t ∷ hs) (w ∷ ws)) = end_place k t w hs ws
place_end _ = None

abbrev pub place_table : ℕ → Place → Option Place
place_table n (open_at hs (w ∷ ws)) = Some (within n [] hs (w ∷ ws))
place_table n _ = None

abbrev pub place_label : ℕ → Place → Option Place
place_label l (within zero seen hs (w ∷ ws)) = Some (open_at hs (grow (table seen l) w ∷ ws))
place_label l (within (suc n) seen hs (w ∷ ws)) = Some (within n (seen ++ l ∷ []) hs (w ∷ ws))
place_label l _ = None

abbrev pub place_after : Place → Op → Option Place
place_after p (op.Simple i) = place_simple i p
place_after p (op.Block t) = place_begin (head Block t) p
place_after p (op.Loop t) = place_begin (head Loop t) p
place_after p (op.If t) = place_begin (head If t) p
place_after p op.Else = place_else p
place_after p op.End = place_end p
place_after p (op.BrTable n) = place_table n p
place_after p (op.Label l) = place_label l p

abbrev pub place_on : Option Place → List Op → Option Place
place_on None ops = None
place_on (Some p) [] = Some p
place_on (Some p) (x ∷ ops) = place_on (place_after p x) ops
