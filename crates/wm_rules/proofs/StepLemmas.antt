-- The checker's answers to single items.
use Rattle.std.proofs.Common.{◌≡◌, ℕ, true, List, [], ◌∷◌, map, Option, Some, None, Ok, Err, refl, sym, ◌∙◌, inl, inr}
use Rattle.wm_syntax.specs.declared.why.Why.TheVariants as why
use Rattle.wm_typing.specs.Answers.{Room}
use Rattle.wm_typing.specs.Bodies.{Body}
use Rattle.wm_syntax.specs.declared.why.Why.{Why}
use Rattle.wm_syntax.specs.declared.instructions.Op.{Op}
use Rattle.wm_typing.specs.exact.Bodies.{body_after_op}
use Rattle.wm_machine.specs.Items.{data_byte}
use Rattle.wm_machine.specs.Sinks.{RunsOut, Took, all_taken}
use Rattle.wm_rules.specs.exact.Spaces.{context_of}
use Rattle.wm_rules.specs.exact.Checking.{after, op_taken}
use Rattle.wm_rules.specs.Holding.{Held}
use Rattle.wm_rules.specs.Room.{IsFull, MayRunOut}

data_all : (bytes : List ℕ) (h : Held) → all_taken after h (map data_byte bytes) ≡ Ok h
data_all [] h = refl
data_all (b ∷ bytes) h = data_all bytes h

-- data bytes change nothing
pub data_taken : (bytes : List ℕ) (h : Held) → Took {U = Unit {0}} after h (map data_byte bytes) (Ok tt) h
data_taken [] h = refl
data_taken (b ∷ []) h = refl
data_taken (b ∷ c ∷ bytes) h = data_all bytes h

-- an op that the body refuses
pub refused_op : (h : Held) (o : Op) (w : Why) → h.in_body ≡ true → body_after_op (context_of h.spaces) o h.body ≡ Err w → op_taken o h ≡ Err w
refused_op h o w is e = rw (is, e) refl

-- data bytes take no memory
pub data_room : (bytes : List ℕ) (h : Held) → RunsOut {U = Unit {0}} MayRunOut h (map data_byte bytes) (Ok tt)
data_room [] h = tt
data_room (b ∷ []) h = tt
data_room (b ∷ c ∷ bytes) h = tt

-- what a body that refused nothing says of its room
pub full_where : (A : Type 0) (b : Body) (w : Why) → (b.refused ≡ None → Room {A = A} b.state.stacks (Err w)) → w ≡ why.Memory → IsFull b
full_where A b w room e = go b.refused refl
  where
    go : (o : Option Why) → b.refused ≡ o → IsFull b
    go None is = elim (room is e) [ inl few ↦ inr (inl few) | inr few ↦ inr (inr few) ]
    go (Some v) is = inl (λ none. let s : Some v ≡ None = sym is ∙ none in cc)
