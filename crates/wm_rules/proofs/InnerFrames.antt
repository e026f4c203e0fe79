-- The operands of the innermost frame, and the lists of types that its open list can leave.
use Rattle.std.proofs.Common.{◌≡◌, ℕ, ◌<◌, Bool, List, [], ◌∷◌, ◌++◌, Option, Some, None, reverse, length, refl, sym, ◌∙◌, ap, subst, arith, append-nil}
use Rattle.std.proofs.lemmas.List.{reverse-append, reverse-reverse}
use Rattle.wm_syntax.specs.declared.types.ValType.{ValType}
use Rattle.wm_syntax.specs.declared.types.ValType.TheVariants.{I32}
use Rattle.wm_stacks.specs.declared.stack_entries.Entry.{Entry}
use Rattle.wm_stacks.specs.declared.stack_entries.Frame.{Frame}
use Rattle.wm_stacks.specs.Stack.{Stack}
use Rattle.wm_typing.specs.declared.labels.BrTable.{BrTable}
use Rattle.wm_typing.specs.Typing.{Context, Typed}
use Rattle.wm_typing.specs.OpenLists.{Head, Work, work, Place, open_at, within, complete, at}
use Rattle.wm_typing.specs.inner.Frames.{Pile, Frames, running, in_table, ended, AllMeet, Holds, Segments, Stands, TracksWith, piles_of}
use Rattle.wm_rules.specs.Meanings.{Leaves}

-- these operands stand above the floor of the innermost frame
pub record Over (s : Stack) (f : Frame) (es : List Entry) : Type 0 where
  pub rest : List Frame
  pub below : List Entry
  pub frames : s.frames ≡ f ∷ rest
  pub operands : s.operands ≡ es ++ below
  pub floor : f.floor ≡ length below

turned : (s ts : List ValType) → reverse (reverse s ++ reverse ts) ≡ ts ++ s
turned s ts = reverse-append (reverse s) (reverse ts) ∙ (ap (λ z. z ++ reverse (reverse s)) (reverse-reverse ts) ∙ ap (λ z. ts ++ z) (reverse-reverse s))

-- above what was taken of it
abbrev LeavesOver : Context → List ValType → List Head → List Work → List ValType → Type 0
LeavesOver c taken (h ∷ hs) (work first s ∷ ws) types = Typed (at c (h ∷ hs)) s [] (types ++ taken)
LeavesOver c taken _ _ types = ⊥

stand_for : (c : Context) (taken : List ValType) (hs : List Head) (ws : List Work) (ps : List Pile) (un : Bool) (es : List Entry) (rest : List Pile) → AllMeet c taken hs ws ps
    → ps ≡ record { dead = un; entries = es } ∷ rest → (types : List ValType) → LeavesOver c taken hs ws types → Stands un es (reverse types)
stand_for c taken [] ws ps un es rest m e types l = absurd l
stand_for c taken (h ∷ hs) [] ps un es rest m e types l = absurd l
stand_for c taken (h ∷ hs) (work first s ∷ ws) [] un es rest m e types l = absurd m
stand_for c taken (h ∷ hs) (work first s ∷ ws) (g ∷ ps) un es rest m e types l =
    let is : g ≡ record { dead = un; entries = es } = cc in
    subst (λ (z : Pile). Stands z.dead z.entries (reverse types)) is ((m.0.1 (reverse types)).0 (subst (λ z. Typed (at c (h ∷ hs)) s [] z) (sym (turned taken types)) l))

-- the innermost frame, its operands, and what its open list can leave: what they stand for
pub record Inner (c : Context) (p : Place) (s : Stack) : Type 0 where
  pub f : Frame
  pub es : List Entry
  pub over : Over s f es
  pub stands : (types : List ValType) → Leaves c p types → Stands f.unreachable es (reverse types)

inner_running : (c : Context) (p : Place) (taken : List ValType) (hs : List Head) (ws : List Work) (ps : List Pile) (s : Stack) (fs : List Frame) (ess : List (List Entry))
    → ((types : List ValType) → Leaves c p types → LeavesOver c taken hs ws types) → s.frames ≡ fs → 0 < length fs → AllMeet c taken hs ws ps → Segments fs s.operands ess → ps ≡ piles_of fs ess → Inner c p s
inner_running c p taken hs ws ps s [] ess over is l m g e = absurd (omega (arith, l))
inner_running c p taken hs ws ps s (f ∷ fs) [] over is l m g e = absurd g
inner_running c p taken hs ws ps s (f ∷ fs) (es ∷ ess) over is l m g e = record {
  f = f;
  es = es;
  over = record { rest = fs; below = g.0; frames = is; operands = g.1; floor = g.2 };
  stands = λ types k. stand_for c taken hs ws ps f.unreachable es (piles_of fs ess) m e types (over types k);
}

over_open : (c : Context) (hs : List Head) (ws : List Work) (types : List ValType) → Leaves c (open_at hs ws) types → LeavesOver c [] hs ws types
over_open c [] ws types l = absurd l
over_open c (h ∷ hs) [] types l = absurd l
over_open c (h ∷ hs) (work first s ∷ ws) types l = subst (λ z. Typed (at c (h ∷ hs)) s [] z) (sym (append-nil types)) l

over_table : (c : Context) (n : ℕ) (seen : List ℕ) (hs : List Head) (ws : List Work) (types : List ValType) → Leaves c (within n seen hs ws) types → LeavesOver c (I32 ∷ []) hs ws types
over_table c n seen [] ws types l = absurd l
over_table c n seen (h ∷ hs) [] types l = absurd l
over_table c n seen (h ∷ hs) (work first s ∷ ws) types l = l

pub inner : (c : Context) (p : Place) (fs : Frames) (u : Option BrTable) (s : Stack) → 0 < length s.frames → Holds c p fs → TracksWith u s fs → Inner c p s
inner c (open_at hs ws) (running gs ps) None s l h m = inner_running c (open_at hs ws) [] hs ws ps s s.frames m.0 (over_open c hs ws) refl l h.1 m.1 m.3
inner c (within n seen hs ws) (in_table k known gs ps) (Some t) s l h m = inner_running c (within n seen hs ws) (I32 ∷ []) hs ws ps s s.frames m.2.0 (over_table c n seen hs ws) refl l h.3 m.2.1 m.2.3
inner c (complete r b) ended None s l h m = let z = ap length m.0 in absurd (omega (arith, l, z))
inner c (within n seen hs ws) (in_table k known gs ps) None s l h m = absurd m
inner c (open_at hs ws) (running gs ps) (Some t) s l h m = absurd m
inner c (complete r b) ended (Some t) s l h m = absurd m
inner c (open_at hs ws) (in_table k known gs ps) u s l h m = absurd h
inner c (open_at hs ws) ended u s l h m = absurd h
inner c (within n seen hs ws) (running gs ps) u s l h m = absurd h
inner c (within n seen hs ws) ended u s l h m = absurd h
inner c (complete r b) (running gs ps) u s l h m = absurd h
inner c (complete r b) (in_table k known gs ps) u s l h m = absurd h
