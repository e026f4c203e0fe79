-- The state that a builder of bodies keeps agrees with its ops.
use Rattle.std.proofs.Common.{◌≡◌, ℕ, zero, suc, ◌+◌, ◌-◌, Bool, true, false, List, [], ◌∷◌, ◌++◌, length, map, take, Option, Some, None, refl, sym, ap, ◌∙◌, append_assoc, append-nil, length-append, arith, slice_get, is_some, Result, Ok, Err, ◌≢◌}
use Rattle.std.specs.Prelude.{slice_set, OnOk, OnErr}
use Rattle.wm_syntax.specs.declared.modules.body_builder.BodyFault.{BodyFault}
use Rattle.wm_syntax.specs.declared.modules.body_builder.BodyFault.TheVariants as fault
use Rattle.std.proofs.Math.Seq.{set-append_seam}
use Rattle.wm_syntax.specs.declared.types.ValType.{ValType}
use Rattle.wm_syntax.specs.declared.instructions.Op.{Op}
use Rattle.wm_syntax.specs.declared.instructions.Op.TheVariants as op
use Rattle.wm_syntax.specs.Instructions.{Instruction, Instructions, none, snoc, simple, table, block, loop, choice, instruction_ops, ops_of, else_ops}
use Rattle.wm_syntax.specs.declared.modules.body_builder.Opened.{Opened}
use Rattle.wm_syntax.specs.declared.modules.body_builder.Opened.TheVariants as opened
use Rattle.wm_syntax.specs.inner.Building.{Open, in_block, in_loop, in_first, in_second, Place, at, labels, closed, divided, placed, outer_ops, ops_at, place_in}
use Rattle.wm_syntax.specs.inner.Codes.{place_again}
use Rattle.wm_syntax.specs.inner.Builders.{Keeps, kinds, open_at, labels_at, last_of, is_first, is_else, is_open, fits, last_set, next_ops, next_open, next_left}

-- The last element of a list.
one_less : {X : Type 0} (xs : List X) (x : X) → length (xs ++ x ∷ []) - 1 ≡ length xs
one_less xs x = omega (arith, length-append xs (x ∷ []))

seam : {X : Type 0} (xs : List X) (x : X) (ys : List X) → slice_get (xs ++ x ∷ ys) (length xs) ≡ Some x
seam [] x ys = refl
seam (z ∷ xs) x ys = seam xs x ys

last_put : {X : Type 0} (xs : List X) (x : X) → last_of (xs ++ x ∷ []) ≡ Some x
last_put xs x = ap (slice_get (xs ++ x ∷ [])) (one_less xs x) ∙ seam xs x []

last_changed : {X : Type 0} (xs : List X) (x y : X) → last_set y (xs ++ x ∷ []) ≡ xs ++ y ∷ []
last_changed xs x y = ap (λ n. slice_set (xs ++ x ∷ []) n y) (one_less xs x) ∙ set-append_seam xs x [] y

front_taken : {X : Type 0} (xs ys : List X) → take (length xs) (xs ++ ys) ≡ xs
front_taken [] ys = refl
front_taken (x ∷ xs) ys = ap (λ zs. x ∷ zs) (front_taken xs ys)

last_gone : {X : Type 0} (xs : List X) (x : X) → take (length (xs ++ x ∷ []) - 1) (xs ++ x ∷ []) ≡ xs
last_gone xs x = ap (λ n. take n (xs ++ x ∷ [])) (one_less xs x) ∙ front_taken xs (x ∷ [])

some_open : {X : Type 0} (xs : List X) (x : X) → length (xs ++ x ∷ []) ≡ suc (length xs)
some_open xs x = omega (arith, length-append xs (x ∷ []))

-- An op fits if and only if it is allowed.
open_put : (xs : List Opened) (x : Opened) → is_open (xs ++ x ∷ []) ≡ true
open_put [] x = refl
open_put (y ∷ xs) x = refl

closes : (outer : List Open) (s : Instructions) → is_open (kinds outer) ≡ is_some (closed outer s)
closes [] s = refl
closes (in_block t b ∷ outer) s = open_put (kinds outer) opened.List
closes (in_loop t b ∷ outer) s = open_put (kinds outer) opened.List
closes (in_first t b ∷ outer) s = open_put (kinds outer) opened.First
closes (in_second t b f ∷ outer) s = open_put (kinds outer) opened.Second

divides : (outer : List Open) (s : Instructions) → is_first (last_of (kinds outer)) ≡ is_some (divided outer s)
divides [] s = refl
divides (in_block t b ∷ outer) s = ap is_first (last_put (kinds outer) opened.List)
divides (in_loop t b ∷ outer) s = ap is_first (last_put (kinds outer) opened.List)
divides (in_first t b ∷ outer) s = ap is_first (last_put (kinds outer) opened.First)
divides (in_second t b f ∷ outer) s = ap is_first (last_put (kinds outer) opened.Second)

fits_there : (p : Place) (o : Op) → fits (open_at p) (labels_at p) o ≡ is_some (placed p o)
fits_there (at outer s) (op.Simple i) = refl
fits_there (at outer s) (op.Block t) = refl
fits_there (at outer s) (op.Loop t) = refl
fits_there (at outer s) (op.If t) = refl
fits_there (at outer s) op.Else = divides outer s
fits_there (at outer s) op.End = closes outer s
fits_there (at outer s) (op.BrTable n) = refl
fits_there (at outer s) (op.Label l) = refl
fits_there (labels outer s seen zero) (op.Label l) = refl
fits_there (labels outer s seen (suc n)) (op.Label l) = refl
fits_there (labels outer s seen zero) o = refl
fits_there (labels outer s seen (suc n)) o = refl

-- An end after the ops of a list.
after_other : (xs : List Op) (z : Op) → is_else (Some z) ≡ false → next_ops op.End (xs ++ z ∷ []) ≡ (xs ++ z ∷ []) ++ op.End ∷ []
after_other xs z e = rw (last_put xs z, e) refl

after_else : (xs : List Op) → next_ops op.End (xs ++ op.Else ∷ []) ≡ xs ++ op.End ∷ []
after_else xs = rw (last_put xs op.Else) (last_changed xs op.Else op.End)

last_op : (i : Instruction) → (zs : List Op) × (z : Op) × (instruction_ops i ≡ zs ++ z ∷ []) × (is_else (Some z) ≡ false)
last_op (simple i) = ([], op.Simple i, refl, refl)
last_op (table ls d) = (op.BrTable (length ls) ∷ map op.Label ls, op.Label d, refl, refl)
last_op (block t b) = (op.Block t ∷ ops_of b, op.End, refl, refl)
last_op (loop t b) = (op.Loop t ∷ ops_of b, op.End, refl, refl)
last_op (choice t f s) = (op.If t ∷ ops_of f ++ else_ops s (ops_of s), op.End, refl, refl)

end_after : (xs : List Op) (z : Op) (s : Instructions) → is_else (Some z) ≡ false → next_ops op.End ((xs ++ z ∷ []) ++ ops_of s) ≡ ((xs ++ z ∷ []) ++ ops_of s) ++ op.End ∷ []
end_after xs z none e = ap (next_ops op.End) (append-nil (xs ++ z ∷ [])) ∙ after_other xs z e ∙ ap (λ y. y ++ op.End ∷ []) (sym (append-nil (xs ++ z ∷ [])))
end_after xs z (snoc s i) e = end_after_more (xs ++ z ∷ []) s i
  where
    end_after_more : (a : List Op) (s : Instructions) (i : Instruction) → next_ops op.End (a ++ (ops_of s ++ instruction_ops i)) ≡ (a ++ (ops_of s ++ instruction_ops i)) ++ op.End ∷ []
    end_after_more a s i =
        let l = last_op i in
        let same : a ++ (ops_of s ++ instruction_ops i) ≡ (a ++ (ops_of s ++ l.0)) ++ l.1 ∷ [] =
        ap (λ y. a ++ (ops_of s ++ y)) l.2 ∙ ap (λ y. a ++ y) (sym (append_assoc (ops_of s) l.0 (l.1 ∷ []))) ∙ sym (append_assoc a (ops_of s ++ l.0) (l.1 ∷ [])) in
        ap (next_ops op.End) same ∙ after_other (a ++ (ops_of s ++ l.0)) l.1 l.3 ∙ ap (λ y. y ++ op.End ∷ []) (sym same)

-- a list that was opened by an op and has ended
list_ended : (o : Op) (a b c : List Op) → ((a ++ (b ++ o ∷ [])) ++ c) ++ op.End ∷ [] ≡ a ++ (b ++ (o ∷ c ++ op.End ∷ []))
list_ended o a b c =
    append_assoc (a ++ (b ++ o ∷ [])) c (op.End ∷ []) ∙ append_assoc a (b ++ o ∷ []) (c ++ op.End ∷ []) ∙ ap (λ y. a ++ y) (append_assoc b (o ∷ []) (c ++ op.End ∷ []))

plain_end : (o : Op) (a b : List Op) (s : Instructions) → is_else (Some o) ≡ false → next_ops op.End ((a ++ (b ++ o ∷ [])) ++ ops_of s) ≡ a ++ (b ++ (o ∷ ops_of s ++ op.End ∷ []))
plain_end o a b s e =
    let same : a ++ (b ++ o ∷ []) ≡ (a ++ b) ++ o ∷ [] = sym (append_assoc a b (o ∷ [])) in
    ap (λ y. next_ops op.End (y ++ ops_of s)) same ∙ end_after (a ++ b) o s e ∙ ap (λ y. (y ++ ops_of s) ++ op.End ∷ []) (sym same) ∙ list_ended o a b (ops_of s)

-- a second branch that ends, empty or not
second_end : (t : Option ValType) (a b : List Op) (first s : Instructions)
    → next_ops op.End ((a ++ (b ++ (op.If t ∷ ops_of first ++ op.Else ∷ []))) ++ ops_of s) ≡ a ++ (b ++ instruction_ops (choice t first s))
second_end t a b first none =
    let f = op.If t ∷ ops_of first in
    let same : (a ++ (b ++ (f ++ op.Else ∷ []))) ++ [] ≡ (a ++ (b ++ f)) ++ op.Else ∷ [] =
    append-nil (a ++ (b ++ (f ++ op.Else ∷ []))) ∙ ap (λ y. a ++ y) (sym (append_assoc b f (op.Else ∷ []))) ∙ sym (append_assoc a (b ++ f) (op.Else ∷ [])) in
    ap (next_ops op.End) same ∙ after_else (a ++ (b ++ f)) ∙ append_assoc a (b ++ f) (op.End ∷ []) ∙ ap (λ y. a ++ y) (append_assoc b f (op.End ∷ []))
    ∙ ap (λ y. a ++ (b ++ (y ++ op.End ∷ []))) (sym (append-nil f))
second_end t a b first (snoc s i) =
    let l = last_op i in
    let f = op.If t ∷ ops_of first in
    let c = ops_of s in
    let x = a ++ (b ++ (f ++ op.Else ∷ [])) in
    let same : x ++ (c ++ instruction_ops i) ≡ (x ++ (c ++ l.0)) ++ l.1 ∷ [] =
    ap (λ y. x ++ (c ++ y)) l.2 ∙ ap (λ y. x ++ y) (sym (append_assoc c l.0 (l.1 ∷ []))) ∙ sym (append_assoc x (c ++ l.0) (l.1 ∷ [])) in
    let d = c ++ instruction_ops i in
    ap (next_ops op.End) same ∙ after_other (x ++ (c ++ l.0)) l.1 l.3 ∙ ap (λ y. y ++ op.End ∷ []) (sym same)
    ∙ append_assoc x d (op.End ∷ []) ∙ append_assoc a (b ++ (f ++ op.Else ∷ [])) (d ++ op.End ∷ [])
    ∙ ap (λ y. a ++ y) (append_assoc b (f ++ op.Else ∷ []) (d ++ op.End ∷ []) ∙ ap (λ y. b ++ y) (append_assoc f (op.Else ∷ []) (d ++ op.End ∷ []) ∙ sym (append_assoc f (op.Else ∷ d) (op.End ∷ []))))

next_op : (p q : Place) (o : Op) → placed p o ≡ Some q → next_ops o (ops_at p) ≡ ops_at q
next_op (at outer s) q (op.Simple i) e = let same : at outer (snoc s (simple i)) ≡ q = cc in append_assoc (outer_ops outer) (ops_of s) (op.Simple i ∷ []) ∙ ap ops_at same
next_op (at outer s) q (op.Block t) e = let same : at (in_block t s ∷ outer) none ≡ q = cc in append_assoc (outer_ops outer) (ops_of s) (op.Block t ∷ []) ∙ sym (append-nil _) ∙ ap ops_at same
next_op (at outer s) q (op.Loop t) e = let same : at (in_loop t s ∷ outer) none ≡ q = cc in append_assoc (outer_ops outer) (ops_of s) (op.Loop t ∷ []) ∙ sym (append-nil _) ∙ ap ops_at same
next_op (at outer s) q (op.If t) e = let same : at (in_first t s ∷ outer) none ≡ q = cc in append_assoc (outer_ops outer) (ops_of s) (op.If t ∷ []) ∙ sym (append-nil _) ∙ ap ops_at same
next_op (at [] s) q op.Else e = absurd (cc)
next_op (at (in_block t b ∷ outer) s) q op.Else e = absurd (cc)
next_op (at (in_loop t b ∷ outer) s) q op.Else e = absurd (cc)
next_op (at (in_first t b ∷ outer) s) q op.Else e =
    let same : at (in_second t b s ∷ outer) none ≡ q = cc in
    append_assoc (outer_ops outer ++ (ops_of b ++ op.If t ∷ [])) (ops_of s) (op.Else ∷ []) ∙ append_assoc (outer_ops outer) (ops_of b ++ op.If t ∷ []) (ops_of s ++ op.Else ∷ [])
    ∙ ap (λ y. outer_ops outer ++ y) (append_assoc (ops_of b) (op.If t ∷ []) (ops_of s ++ op.Else ∷ [])) ∙ sym (append-nil _) ∙ ap ops_at same
next_op (at (in_second t b f ∷ outer) s) q op.Else e = absurd (cc)
next_op (at [] s) q op.End e = absurd (cc)
next_op (at (in_block t b ∷ outer) s) q op.End e = let same : at outer (snoc b (block t s)) ≡ q = cc in plain_end (op.Block t) (outer_ops outer) (ops_of b) s refl ∙ ap ops_at same
next_op (at (in_loop t b ∷ outer) s) q op.End e = let same : at outer (snoc b (loop t s)) ≡ q = cc in plain_end (op.Loop t) (outer_ops outer) (ops_of b) s refl ∙ ap ops_at same
next_op (at (in_first t b ∷ outer) s) q op.End e =
    let same : at outer (snoc b (choice t s none)) ≡ q = cc in
    plain_end (op.If t) (outer_ops outer) (ops_of b) s refl ∙ ap (λ y. outer_ops outer ++ (ops_of b ++ (op.If t ∷ y ++ op.End ∷ []))) (sym (append-nil (ops_of s))) ∙ ap ops_at same
next_op (at (in_second t b f ∷ outer) s) q op.End e = let same : at outer (snoc b (choice t f s)) ≡ q = cc in second_end t (outer_ops outer) (ops_of b) f s ∙ ap ops_at same
next_op (at outer s) q (op.BrTable n) e =
    let same : labels outer s [] n ≡ q = cc in
    let count : 0 + n ≡ n = omega arith in
    append_assoc (outer_ops outer) (ops_of s) (op.BrTable n ∷ []) ∙ ap (λ k. outer_ops outer ++ (ops_of s ++ op.BrTable k ∷ [])) (sym count) ∙ ap ops_at same
next_op (at outer s) q (op.Label l) e = absurd (cc)
next_op (labels outer s seen zero) q (op.Label l) e =
    let same : at outer (snoc s (table seen l)) ≡ q = cc in
    let count : length seen + 0 ≡ length seen = omega arith in
    append_assoc (outer_ops outer) (ops_of s ++ op.BrTable (length seen + 0) ∷ map op.Label seen) (op.Label l ∷ [])
    ∙ ap (λ y. outer_ops outer ++ y) (append_assoc (ops_of s) (op.BrTable (length seen + 0) ∷ map op.Label seen) (op.Label l ∷ []) ∙ ap (λ k. ops_of s ++ (op.BrTable k ∷ map op.Label seen ++ op.Label l ∷ [])) count)
    ∙ ap ops_at same
next_op (labels outer s seen (suc n)) q (op.Label l) e =
    let same : labels outer s (seen ++ l ∷ []) n ≡ q = cc in
    let count : length seen + suc n ≡ length (seen ++ l ∷ []) + n = omega (arith, length-append seen (l ∷ [])) in
    append_assoc (outer_ops outer) (ops_of s ++ op.BrTable (length seen + suc n) ∷ map op.Label seen) (op.Label l ∷ [])
    ∙ ap (λ y. outer_ops outer ++ y) (append_assoc (ops_of s) (op.BrTable (length seen + suc n) ∷ map op.Label seen) (op.Label l ∷ [])
    ∙ ap (λ k. ops_of s ++ (op.BrTable k ∷ map op.Label seen ++ op.Label l ∷ [])) count ∙ ap (λ y. ops_of s ++ op.BrTable (length (seen ++ l ∷ []) + n) ∷ y) (sym (labels_more seen)))
    ∙ ap ops_at same
  where
    labels_more : (xs : List ℕ) → map op.Label (xs ++ l ∷ []) ≡ map op.Label xs ++ op.Label l ∷ []
    labels_more [] = refl
    labels_more (x ∷ xs) = ap (λ z. op.Label x ∷ z) (labels_more xs)
next_op (labels outer s seen n) q o e = absurd (cc)

next_kinds : (p q : Place) (o : Op) → placed p o ≡ Some q → next_open o (open_at p) ≡ open_at q
next_kinds (at outer s) q (op.Simple i) e = let same : at outer (snoc s (simple i)) ≡ q = cc in ap open_at same
next_kinds (at outer s) q (op.Block t) e = let same : at (in_block t s ∷ outer) none ≡ q = cc in ap open_at same
next_kinds (at outer s) q (op.Loop t) e = let same : at (in_loop t s ∷ outer) none ≡ q = cc in ap open_at same
next_kinds (at outer s) q (op.If t) e = let same : at (in_first t s ∷ outer) none ≡ q = cc in ap open_at same
next_kinds (at [] s) q op.Else e = absurd (cc)
next_kinds (at (in_block t b ∷ outer) s) q op.Else e = absurd (cc)
next_kinds (at (in_loop t b ∷ outer) s) q op.Else e = absurd (cc)
next_kinds (at (in_first t b ∷ outer) s) q op.Else e = let same : at (in_second t b s ∷ outer) none ≡ q = cc in last_changed (kinds outer) opened.First opened.Second ∙ ap open_at same
next_kinds (at (in_second t b f ∷ outer) s) q op.Else e = absurd (cc)
next_kinds (at [] s) q op.End e = absurd (cc)
next_kinds (at (in_block t b ∷ outer) s) q op.End e = let same : at outer (snoc b (block t s)) ≡ q = cc in last_gone (kinds outer) opened.List ∙ ap open_at same
next_kinds (at (in_loop t b ∷ outer) s) q op.End e = let same : at outer (snoc b (loop t s)) ≡ q = cc in last_gone (kinds outer) opened.List ∙ ap open_at same
next_kinds (at (in_first t b ∷ outer) s) q op.End e = let same : at outer (snoc b (choice t s none)) ≡ q = cc in last_gone (kinds outer) opened.First ∙ ap open_at same
next_kinds (at (in_second t b f ∷ outer) s) q op.End e = let same : at outer (snoc b (choice t f s)) ≡ q = cc in last_gone (kinds outer) opened.Second ∙ ap open_at same
next_kinds (at outer s) q (op.BrTable n) e = let same : labels outer s [] n ≡ q = cc in ap open_at same
next_kinds (at outer s) q (op.Label l) e = absurd (cc)
next_kinds (labels outer s seen zero) q (op.Label l) e = let same : at outer (snoc s (table seen l)) ≡ q = cc in ap open_at same
next_kinds (labels outer s seen (suc n)) q (op.Label l) e = let same : labels outer s (seen ++ l ∷ []) n ≡ q = cc in ap open_at same
next_kinds (labels outer s seen n) q o e = absurd (cc)

labels_of_closed : (outer : List Open) (s : Instructions) (q : Place) → closed outer s ≡ Some q → 0 ≡ labels_at q
labels_of_closed [] s q e = absurd (cc)
labels_of_closed (in_block t b ∷ outer) s q e = let same : at outer (snoc b (block t s)) ≡ q = cc in ap labels_at same
labels_of_closed (in_loop t b ∷ outer) s q e = let same : at outer (snoc b (loop t s)) ≡ q = cc in ap labels_at same
labels_of_closed (in_first t b ∷ outer) s q e = let same : at outer (snoc b (choice t s none)) ≡ q = cc in ap labels_at same
labels_of_closed (in_second t b f ∷ outer) s q e = let same : at outer (snoc b (choice t f s)) ≡ q = cc in ap labels_at same

labels_of_divided : (outer : List Open) (s : Instructions) (q : Place) → divided outer s ≡ Some q → 0 ≡ labels_at q
labels_of_divided [] s q e = absurd (cc)
labels_of_divided (in_block t b ∷ outer) s q e = absurd (cc)
labels_of_divided (in_loop t b ∷ outer) s q e = absurd (cc)
labels_of_divided (in_first t b ∷ outer) s q e = let same : at (in_second t b s ∷ outer) none ≡ q = cc in ap labels_at same
labels_of_divided (in_second t b f ∷ outer) s q e = absurd (cc)

next_labels : (p q : Place) (o : Op) → placed p o ≡ Some q → next_left o (labels_at p) ≡ labels_at q
next_labels (at outer s) q (op.Simple i) e = let same : at outer (snoc s (simple i)) ≡ q = cc in ap labels_at same
next_labels (at outer s) q (op.Block t) e = let same : at (in_block t s ∷ outer) none ≡ q = cc in ap labels_at same
next_labels (at outer s) q (op.Loop t) e = let same : at (in_loop t s ∷ outer) none ≡ q = cc in ap labels_at same
next_labels (at outer s) q (op.If t) e = let same : at (in_first t s ∷ outer) none ≡ q = cc in ap labels_at same
next_labels (at outer s) q op.Else e = labels_of_divided outer s q e
next_labels (at outer s) q op.End e = labels_of_closed outer s q e
next_labels (at outer s) q (op.BrTable n) e = let same : labels outer s [] n ≡ q = cc in let one : n + 1 ≡ suc n = omega arith in one ∙ ap labels_at same
next_labels (at outer s) q (op.Label l) e = absurd (cc)
next_labels (labels outer s seen zero) q (op.Label l) e = let same : at outer (snoc s (table seen l)) ≡ q = cc in ap labels_at same
next_labels (labels outer s seen (suc n)) q (op.Label l) e = let same : labels outer s (seen ++ l ∷ []) n ≡ q = cc in let less : suc (suc n) - 1 ≡ suc n = omega arith in less ∙ ap labels_at same
next_labels (labels outer s seen n) q o e = absurd (cc)

-- The builder's fields after an op that is allowed, and its new state.
pub keeps_next : (ops : List Op) (begun : List Opened) (left : ℕ) (p q : Place) (o : Op) → Keeps ops begun left p → placed p o ≡ Some q
    → Keeps (next_ops o ops) (next_open o begun) (next_left o left) q
keeps_next ops begun left p q o k e = record {
  ops_are = ap (next_ops o) k.ops_are ∙ next_op p q o e;
  begun_are = ap (next_open o) k.begun_are ∙ next_kinds p q o e;
  left_are = ap (next_left o) k.left_are ∙ next_labels p q o e;
}

pub keeps_there : (ops : List Op) (begun : List Opened) (left : ℕ) (p : Place) → Keeps ops begun left p → place_in ops ≡ p
keeps_there ops begun left p k = ap place_in k.ops_are ∙ place_again p

pub keeps_fits : (ops : List Op) (begun : List Opened) (left : ℕ) (p : Place) (o : Op) → Keeps ops begun left p → fits begun left o ≡ is_some (placed p o)
keeps_fits ops begun left p o k = ap (λ z. fits z left o) k.begun_are ∙ ap (λ z. fits (open_at p) z o) k.left_are ∙ fits_there p o

-- The outcome of a push, whether the op is taken or refused.
pub record Outcome (r : Result (Unit {0}) BodyFault) (ops : List Op) (begun : List Opened) (left : ℕ) (p : Place) (o : Op) : Type 0 where
  pub place : Place
  pub keeps : Keeps ops begun left place
  pub taken : OnOk r (placed p o ≡ Some place)
  pub refused : OnErr r (place ≡ p)

not_both : (b : Bool) → b ≡ true → b ≡ false → ⊥
not_both true e k = cc
not_both false e k = cc

pub outcome : (r : Result (Unit {0}) BodyFault) (ops ops' : List Op) (begun begun' : List Opened) (left left' : ℕ) (p : Place) (o : Op) → Keeps ops begun left p
    → OnOk r ((ops' ≡ next_ops o ops) × (begun' ≡ next_open o begun) × (left' ≡ next_left o left)) → OnErr r ((ops' ≡ ops) × (begun' ≡ begun) × (left' ≡ left))
    → (fits begun left o ≡ false → r ≡ Err fault.Unbalanced) → Outcome r ops' begun' left' p o
outcome (Err w) ops ops' begun begun' left left' p o k ok err un =
    record { place = p; keeps = rw (err.0, err.1, err.2) k; taken = tt; refused = refl }
outcome (Ok u) ops ops' begun begun' left left' p o k ok err un = go (placed p o) refl
  where
    go : (q : Option Place) → placed p o ≡ q → Outcome (Ok u) ops' begun' left' p o
    go None is = absurd (cc (un (keeps_fits ops begun left p o k ∙ ap is_some is)))
    go (Some q) is = record { place = q; keeps = rw (ok.0, ok.1, ok.2) (keeps_next ops begun left p q o k is); taken = is; refused = tt }

-- The outcome of a push that takes an op on the fast path, or leaves it.
pub record NearOutcome (taken_now : Bool) (ops : List Op) (begun : List Opened) (left : ℕ) (p : Place) (o : Op) : Type 0 where
  pub place : Place
  pub keeps : Keeps ops begun left place
  pub taken : taken_now ≡ true → placed p o ≡ Some place
  pub left_there : taken_now ≡ false → place ≡ p

pub near_outcome : (b : Bool) (ops ops' : List Op) (begun : List Opened) (left : ℕ) (p : Place) (o : Op) → Keeps ops begun left p → (b ≡ true → ops' ≡ next_ops o ops)
    → (b ≡ true → (begun : List Opened) → next_open o begun ≡ begun) → (b ≡ true → next_left o left ≡ left)
    → (b ≡ true → (begun : List Opened) → fits begun left o ≡ true) → (b ≡ false → ops' ≡ ops) → NearOutcome b ops' begun left p o
near_outcome true ops ops' begun left p o k next opens none_left fit still_there =
    let x : Outcome (Ok (tt {0})) ops' begun left p o =
    outcome (Ok (tt {0})) ops ops' begun begun left left p o k (next refl, sym (opens refl begun), sym (none_left refl)) tt
    (λ e. absurd (not_both _ (fit refl begun) e)) in
    record { place = x.place; keeps = x.keeps; taken = λ _. x.taken; left_there = λ e. absurd (cc e) }
near_outcome false ops ops' begun left p o k next opens none_left fit still_there =
    let same : ops' ≡ ops = still_there refl in
    record { place = p; keeps = rw same k; taken = λ e. absurd (cc e); left_there = λ _. refl }

-- When each refusal comes.
pub stands : (r : Result (Unit {0}) BodyFault) (ops : List Op) (begun : List Opened) (left : ℕ) (p q : Place) (o : Op) → Keeps ops begun left p
    → (fits begun left o ≡ true → r ≢ Err fault.Unbalanced) → placed p o ≡ Some q → r ≢ Err fault.Unbalanced
stands r ops begun left p q o k f is = f (keeps_fits ops begun left p o k ∙ ap is_some is)

pub falls : (r : Result (Unit {0}) BodyFault) (ops : List Op) (begun : List Opened) (left : ℕ) (p : Place) (o : Op) → Keeps ops begun left p
    → (fits begun left o ≡ false → r ≡ Err fault.Unbalanced) → placed p o ≡ None → r ≡ Err fault.Unbalanced
falls r ops begun left p o k f is = f (keeps_fits ops begun left p o k ∙ ap is_some is)

pub on_ok_at : (r : Result (Unit {0}) BodyFault) (p q z : Place) (o : Op) → z ≡ q → OnOk r (placed p o ≡ Some q) → OnOk r (placed p o ≡ Some z)
on_ok_at (Ok u) p q z o e h = h ∙ ap Some (sym e)
on_ok_at (Err w) p q z o e h = tt

pub on_err_at : (r : Result (Unit {0}) BodyFault) (p q z : Place) → z ≡ q → OnErr r (q ≡ p) → OnErr r (z ≡ p)
on_err_at (Ok u) p q z e h = tt
on_err_at (Err w) p q z e h = e ∙ h
