-- A builder takes the ops of the pieces of a body.
use Rattle.std.proofs.Common.{◌≡◌, ℕ, ◌<◌, ◌+◌, Bool, true, false, List, [], ◌∷◌, ◌++◌, length, take, drop, get_or, Option, Some, None, refl, sym, ap, subst, ◌∙◌, append_assoc}
use Rattle.std.proofs.lemmas.List.{append-nil, map-append, take_more, take-append-drop}
use Rattle.std.specs.Prelude.{map}
use Rattle.wm_syntax.specs.declared.instructions.Op.{Op}
use Rattle.wm_syntax.specs.declared.instructions.Op.TheVariants as op
use Rattle.wm_syntax.specs.Instructions.{Instructions, none, snoc, simple, table, block, loop, choice}
use Rattle.wm_syntax.specs.inner.Building.{Open, in_block, in_loop, in_first, in_second, Place, at, labels, place_after, placed, if_placed}
use Rattle.wm_syntax.proofs.Places.{after_append}
use Rattle.wm_tokens.specs.Tokens.{Token}
use Rattle.wm_tokens.specs.Written.{Scope}
use Rattle.wm_syntax.specs.declared.instructions.op_class.BlockOp.TheVariants.{Block, Loop, If}
use Rattle.wm_bodies.specs.inner.Bodies.{CanTake, is_first, IsOver}
use Rattle.wm_bodies.specs.inner.Pieces.{Opened, Piece, plain, jump, opens, middle, closes, after, piece_ops, WritesPiece}
use Rattle.wm_tokens.proofs.Basics.{same_head, same_tail}

-- ---- ops one after another

pub can_front : (p : Place) (a b : List Op) → CanTake p (a ++ b) → CanTake p a
unfolding CanTake
can_front p a b (r, e) = by (place_after p a) refl
  where
    by : (o : Option Place) → place_after p a ≡ o → CanTake p a
    by None h = absurd (let f : None ≡ Some r = sym (after_append a b p ∙ ap (λ (o : Option Place). if_placed o (λ q. place_after q b)) h) ∙ e in cc)
    by (Some q) h = (q, h)

pub can_back : (p q : Place) (a b : List Op) → CanTake p (a ++ b) → place_after p a ≡ Some q → CanTake q b
unfolding CanTake
can_back p q a b (r, e) h = (r, sym (ap (λ (o : Option Place). if_placed o (λ q. place_after q b)) h) ∙ sym (after_append a b p) ∙ e)

pub took : (p q r : Place) (a b : List Op) → place_after p a ≡ Some q → place_after q b ≡ Some r → place_after p (a ++ b) ≡ Some r
took p q r a b h g = after_append a b p ∙ ap (λ (o : Option Place). if_placed o (λ q. place_after q b)) h ∙ g

-- ---- one op

pub one_can : (p : Place) (o : Op) → CanTake p (o ∷ []) → (q : Place) × (placed p o ≡ Some q)
unfolding CanTake
one_can p o (r, e) = by (placed p o) refl
  where
    by : (x : Option Place) → placed p o ≡ x → (q : Place) × (placed p o ≡ Some q)
    by None h = absurd (let f : None ≡ Some r = sym (ap (λ (x : Option Place). if_placed x (λ q. Some q)) h) ∙ e in cc)
    by (Some q) h = (q, h)

pub one_took : (p q : Place) (o : Op) → placed p o ≡ Some q → place_after p (o ∷ []) ≡ Some q
one_took p q o e = ap (λ (x : Option Place). if_placed x (λ q. Some q)) e

-- ---- labels

abbrev pub label_ops : List ℕ → List Op
label_ops ls = map op.Label ls

labels_so_far : (ls : List ℕ) (i d : ℕ) → i < length ls → label_ops (take (i + 1) ls) ≡ label_ops (take i ls) ++ op.Label (get_or ls i d) ∷ []
labels_so_far ls i d lt = ap label_ops (take_more ls i d lt) ∙ map-append op.Label (take i ls) (get_or ls i d ∷ [])

pub label_can : (p q : Place) (ls : List ℕ) (i d : ℕ) → CanTake p (label_ops ls) → i < length ls → place_after p (label_ops (take i ls)) ≡ Some q → CanTake q (op.Label (get_or ls i d) ∷ [])
label_can p q ls i d c lt e =
    can_back p q (label_ops (take i ls)) (op.Label (get_or ls i d) ∷ []) (subst (CanTake p) (labels_so_far ls i d lt) (front (i + 1) c)) e
  where
    front : (n : ℕ) → CanTake p (label_ops ls) → CanTake p (label_ops (take n ls))
    front n c = can_front p (label_ops (take n ls)) (label_ops (drop n ls)) (subst (CanTake p) (ap label_ops (sym (take-append-drop n ls)) ∙ map-append op.Label (take n ls) (drop n ls)) c)

pub label_took : (p q r : Place) (ls : List ℕ) (i d : ℕ) → i < length ls → place_after p (label_ops (take i ls)) ≡ Some q → place_after q (op.Label (get_or ls i d) ∷ []) ≡ Some r
    → place_after p (label_ops (take (i + 1) ls)) ≡ Some r
label_took p q r ls i d lt e g = ap (place_after p) (labels_so_far ls i d lt) ∙ took p q r (label_ops (take i ls)) (op.Label (get_or ls i d) ∷ []) e g

-- ---- a piece

-- An else may come only if the innermost block allows it, and an end only in a block.
abbrev pub IsNext : Opened → Piece → Type 0
IsNext [] middle = ⊥
IsNext (b ∷ bs) middle = b.may_else ≡ true
IsNext [] closes = ⊥
IsNext bs q = Unit {0}

pub is_next : (sc : Scope) (bs : Opened) (q : Piece) (front : List Token) → WritesPiece sc bs q front → IsNext bs q
is_next sc [] (plain i) front h = tt
is_next sc (b ∷ bs) (plain i) front h = tt
is_next sc [] (jump ls l) front h = tt
is_next sc (b ∷ bs) (jump ls l) front h = tt
is_next sc [] (opens o id t) front h = tt
is_next sc (b ∷ bs) (opens o id t) front h = tt
is_next sc [] middle front h = absurd h
is_next sc (b ∷ bs) middle front h = h.0
is_next sc [] closes front h = absurd h
is_next sc (b ∷ bs) closes front h = tt

labels_take : (outer : List Open) (s : Instructions) (seen ls : List ℕ) (l : ℕ)
    → place_after (labels outer s seen (length ls)) (map op.Label ls ++ op.Label l ∷ []) ≡ Some (at outer (snoc s (table (seen ++ ls) l)))
labels_take outer s seen [] l = ap (λ (z : List ℕ). Some (at outer (snoc s (table z l)))) (sym (append-nil seen))
labels_take outer s seen (x ∷ ls) l =
    labels_take outer s (seen ++ x ∷ []) ls l ∙ ap (λ (z : List ℕ). Some (at outer (snoc s (table z l)))) (append_assoc seen (x ∷ []) ls)

abbrev Takes : Place → Opened → Piece → Type 0
Takes p bs q = (r : Place) × (place_after p (piece_ops q) ≡ Some r) × IsOver r (after bs q)

divides : (outer : List Open) (s : Instructions) (b : Bool) (bs : List Bool) → map is_first outer ≡ b ∷ bs → b ≡ true
    → (r : List Open) × (place_after (at outer s) (op.Else ∷ []) ≡ Some (at r none)) × (map is_first r ≡ false ∷ bs)
divides [] s b bs h e = absurd (let f : ◌≡◌ {A = List Bool} [] (b ∷ bs) = h in cc)
divides (in_block t before ∷ outer) s b bs h e = absurd (let f : false ≡ true = same_head false b (map is_first outer) bs h ∙ e in cc)
divides (in_loop t before ∷ outer) s b bs h e = absurd (let f : false ≡ true = same_head false b (map is_first outer) bs h ∙ e in cc)
divides (in_second t before first ∷ outer) s b bs h e = absurd (let f : false ≡ true = same_head false b (map is_first outer) bs h ∙ e in cc)
divides (in_first t before ∷ outer) s b bs h e = (in_second t before s ∷ outer, refl, ap (λ (z : List Bool). false ∷ z) (same_tail true b (map is_first outer) bs h))

ends : (outer : List Open) (s : Instructions) (b : Bool) (bs : List Bool) → map is_first outer ≡ b ∷ bs
    → (os : List Open) × (r : Instructions) × (place_after (at outer s) (op.End ∷ []) ≡ Some (at os r)) × (map is_first os ≡ bs)
ends [] s b bs h = absurd (let f : ◌≡◌ {A = List Bool} [] (b ∷ bs) = h in cc)
ends (in_block t before ∷ outer) s b bs h = (outer, snoc before (block t s), refl, same_tail false b (map is_first outer) bs h)
ends (in_loop t before ∷ outer) s b bs h = (outer, snoc before (loop t s), refl, same_tail false b (map is_first outer) bs h)
ends (in_first t before ∷ outer) s b bs h = (outer, snoc before (choice t s none), refl, same_tail true b (map is_first outer) bs h)
ends (in_second t before first ∷ outer) s b bs h = (outer, snoc before (choice t first s), refl, same_tail false b (map is_first outer) bs h)

pub takes : (p : Place) (bs : Opened) (q : Piece) → IsOver p bs → IsNext bs q → Takes p bs q
takes (labels outer s seen n) bs q h g = absurd h
takes (at outer s) bs (plain i) h g = (at outer (snoc s (simple i)), refl, h)
takes (at outer s) bs (jump ls l) h g = (at outer (snoc s (table ls l)), labels_take outer s [] ls l, h)
takes (at outer s) bs (opens Block id t) h g = (at (in_block t s ∷ outer) none, refl, ap (λ (z : List Bool). false ∷ z) h)
takes (at outer s) bs (opens Loop id t) h g = (at (in_loop t s ∷ outer) none, refl, ap (λ (z : List Bool). false ∷ z) h)
takes (at outer s) bs (opens If id t) h g = (at (in_first t s ∷ outer) none, refl, ap (λ (z : List Bool). true ∷ z) h)
takes (at outer s) [] middle h g = absurd g
takes (at outer s) (b ∷ bs) middle h g = let d = divides outer s b.may_else (map (λ c. c.may_else) bs) h g in (at d.0 none, d.1, d.2)
takes (at outer s) [] closes h g = absurd g
takes (at outer s) (b ∷ bs) closes h g = let d = ends outer s b.may_else (map (λ c. c.may_else) bs) h in (at d.0 d.1, d.2, d.3)

-- If no block is open, no list is open.
pub whole : (p : Place) (bs : Opened) → IsOver p bs → bs ≡ [] → (s : Instructions) × (p ≡ at [] s)
whole (labels outer s seen n) bs h e = absurd h
whole (at [] s) bs h e = (s, refl)
whole (at (o ∷ outer) s) [] h e = absurd (let f : ◌≡◌ {A = List Bool} (is_first o ∷ map is_first outer) [] = h in cc)
whole (at (o ∷ outer) s) (b ∷ bs) h e = absurd (let f : ◌≡◌ {A = Opened} (b ∷ bs) [] = e in cc)

-- ---- in the terms of the code

pub table_begin : (p : Place) (ls : List ℕ) (l : ℕ) → CanTake p (piece_ops (jump ls l)) → CanTake p (op.BrTable (length ls) ∷ [])
table_begin p ls l c = can_front p (op.BrTable (length ls) ∷ []) (map op.Label ls ++ op.Label l ∷ []) c

pub table_labels : (p q : Place) (ls : List ℕ) (l : ℕ) → CanTake p (piece_ops (jump ls l)) → place_after p (op.BrTable (length ls) ∷ []) ≡ Some q → CanTake q (map op.Label ls)
table_labels p q ls l c e = can_front q (map op.Label ls) (op.Label l ∷ []) (can_back p q (op.BrTable (length ls) ∷ []) (map op.Label ls ++ op.Label l ∷ []) c e)

pub table_default : (p q r : Place) (ls : List ℕ) (l : ℕ) → CanTake p (piece_ops (jump ls l)) → place_after p (op.BrTable (length ls) ∷ []) ≡ Some q → place_after q (map op.Label ls) ≡ Some r
    → CanTake r (op.Label l ∷ [])
table_default p q r ls l c e g = can_back q r (map op.Label ls) (op.Label l ∷ []) (can_back p q (op.BrTable (length ls) ∷ []) (map op.Label ls ++ op.Label l ∷ []) c e) g

pub table_took : (p q r t : Place) (ls : List ℕ) (l : ℕ) → place_after p (op.BrTable (length ls) ∷ []) ≡ Some q → place_after q (map op.Label ls) ≡ Some r → place_after r (op.Label l ∷ []) ≡ Some t
    → place_after p (piece_ops (jump ls l)) ≡ Some t
table_took p q r t ls l e g h = took p q t (op.BrTable (length ls) ∷ []) (map op.Label ls ++ op.Label l ∷ []) e (took q r t (map op.Label ls) (op.Label l ∷ []) g h)

pub ruleset op_laws = (one_can, one_took)

pub ruleset label_laws = (label_can, label_took)

pub ruleset table_laws = (table_begin, table_labels, table_default, table_took)
