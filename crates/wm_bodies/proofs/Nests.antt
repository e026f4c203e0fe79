-- Pieces nest as one tree, and the same tokens write the pieces and the tree.
use Rattle.std.proofs.Common.{◌≡◌, inl, inr, ℕ, Bool, true, false, List, [], ◌∷◌, ◌++◌, Option, refl, sym, ap, subst, ◌∙◌, append_assoc}
use Rattle.std.proofs.lemmas.List.{append-nil}
use Rattle.std.specs.Prelude.{codes, map}
use Rattle.wm_syntax.specs.Spelling.{Form, ◌▸◌}
use Rattle.wm_syntax.specs.declared.types.ValType.{ValType}
use Rattle.wm_syntax.specs.declared.instructions.Op.{Op}
use Rattle.wm_syntax.specs.declared.instructions.Op.TheVariants as op
use Rattle.wm_syntax.specs.declared.instructions.Simple.{Simple}
use Rattle.wm_syntax.specs.declared.profile.Profile.{Profile}
use Rattle.wm_syntax.specs.Instructions.{Instruction, Instructions, none, snoc, simple, table, block, loop, choice, HasOp, HasOps, HasElse}
use Rattle.std.specs.List.{AllByRecursion}
use Rattle.wm_syntax.specs.Profiles.{HasInstructions, IsOpOf}
use Rattle.wm_syntax.proofs.ProfileLaws.{all_append, by_ops, labels_of}
use Rattle.wm_tokens.specs.Tokens.{Token}
use Rattle.wm_syntax.specs.declared.instructions.op_class.BlockOp.{BlockOp}
use Rattle.wm_syntax.specs.declared.instructions.op_class.BlockOp.TheVariants.{Block, Loop, If}
use Rattle.wm_tokens.specs.Identifiers.{Id}
use Rattle.wm_tokens.specs.Written.{Scope, WritesInstruction, WritesInstructions, WritesElse, Opens, Closes}
use Rattle.wm_bodies.specs.inner.Pieces.{Open, Opened, labels, Piece, plain, jump, opens, middle, closes, after, piece_ops, pieces_ops, opening_word, is_if, IsPieceOf, WritesPiece, WritesPieces, WritesOps}
use Rattle.wm_syntax.specs.exact.OpShapes.{block_op}

abbrev opened : Id → Bool → Open
opened id b = record { id = id; may_else = b }

-- An open list around others: the block that opened the next list, and the instructions before it. For an if with an
-- open second list, it also has the first list.
pub data Frame : Type 0 where
  frame : BlockOp → Id → Option ValType → Instructions → Frame
  second : Id → Option ValType → Instructions → Instructions → Frame

abbrev pub open_of : Frame → Open
open_of (frame o id t s) = opened id (is_if o)
open_of (second id t s first) = opened id false

abbrev pub blocks : List Frame → Opened
blocks fs = map open_of fs

abbrev pub one_block : BlockOp → Option ValType → Instructions → Instruction
one_block Block t s = block t s
one_block Loop t s = loop t s
one_block If t s = choice t s none

-- the tree that the pieces complete, where these lists are open
abbrev pub tree_of : List Frame → Instructions → List Piece → Instructions
tree_of fs s [] = s
tree_of fs s (plain i ∷ ps) = tree_of fs (snoc s (simple i)) ps
tree_of fs s (jump ls l ∷ ps) = tree_of fs (snoc s (table ls l)) ps
tree_of fs s (opens o id t ∷ ps) = tree_of (frame o id t s ∷ fs) none ps
tree_of [] s (middle ∷ ps) = s
tree_of (frame o id t before ∷ fs) s (middle ∷ ps) = tree_of (second id t before s ∷ fs) none ps
tree_of (second id t before first ∷ fs) s (middle ∷ ps) = s
tree_of [] s (closes ∷ ps) = s
tree_of (frame o id t before ∷ fs) s (closes ∷ ps) = tree_of fs (snoc before (one_block o t s)) ps
tree_of (second id t before first ∷ fs) s (closes ∷ ps) = tree_of fs (snoc before (choice t first s)) ps

-- Whether a piece may come next: an else or an end needs an open block.
abbrev pub Fits : Opened → Piece → Type 0
Fits [] middle = ⊥
Fits (b ∷ bs) middle = b.may_else ≡ true
Fits [] closes = ⊥
Fits _ _ = Unit {0}

abbrev pub Nests : Opened → List Piece → Type 0
Nests bs [] = bs ≡ []
Nests bs (q ∷ ps) = Fits bs q × Nests (after bs q) ps

-- How a form describes trees and pieces alike.
pub record Grammar (A : Type 0) : Type 1 where
  pub list : Opened → Instructions → Form A
  pub one : Opened → Instruction → Form A
  pub begin : BlockOp → Id → Option ValType → Form A
  pub divide : Id → Form A
  pub finish : Id → Form A
  pub piece : Opened → Piece → Form A
  pub empty : (bs : Opened) → list bs none []
  pub more : (bs : Opened) (s : Instructions) (i : Instruction) (x y : List A) → list bs s x → one bs i y → list bs (snoc s i) (x ++ y)
  pub plain_is : (bs : Opened) (i : Simple) (x : List A) → piece bs (plain i) x → one bs (simple i) x
  pub jump_is : (bs : Opened) (ls : List ℕ) (l : ℕ) (x : List A) → piece bs (jump ls l) x → one bs (table ls l) x
  pub opens_is : (bs : Opened) (o : BlockOp) (id : Id) (t : Option ValType) (x : List A) → piece bs (opens o id t) x → begin o id t x
  pub middle_is : (b : Open) (bs : Opened) (x : List A) → piece (b ∷ bs) middle x → divide b.id x
  pub closes_is : (b : Open) (bs : Opened) (x : List A) → piece (b ∷ bs) closes x → finish b.id x
  pub block_is : (bs : Opened) (o : BlockOp) (id : Id) (t : Option ValType) (s : Instructions) (x u v : List A)
      → begin o id t x → list (opened id (is_if o) ∷ bs) s u → finish id v → one bs (one_block o t s) (x ++ (u ++ v))
  pub choice_is : (bs : Opened) (id : Id) (t : Option ValType) (s r : Instructions) (x u y w v : List A)
      → begin If id t x → list (opened id true ∷ bs) s u → divide id y → list (opened id false ∷ bs) r w → finish id v → one bs (choice t s r) (x ++ (u ++ ((y ++ w) ++ v)))

module _ {A : Type 0} (g : Grammar A) where
  abbrev pub AllPieces : Opened → List Piece → Form A
  AllPieces bs [] = λ k. k ≡ []
  AllPieces bs (q ∷ ps) = g.piece bs q ▸ AllPieces (after bs q) ps

  -- The tokens up to here write these instructions, with these lists open.
  abbrev pub State : List Frame → Instructions → Form A
  State [] s = g.list [] s
  State (frame o id t before ∷ fs) s = State fs before ▸ (g.begin o id t ▸ g.list (opened id (is_if o) ∷ blocks fs) s)
  State (second id t before first ∷ fs) s = State fs before ▸ (g.begin If id t ▸ (g.list (opened id true ∷ blocks fs) first ▸ (g.divide id ▸ g.list (opened id false ∷ blocks fs) s)))

  state_more : (fs : List Frame) (s : Instructions) (i : Instruction) (x y : List A) → State fs s x → g.one (blocks fs) i y → State fs (snoc s i) (x ++ y)
  state_more [] s i x y h w = g.more [] s i x y h w
  state_more (frame o id t before ∷ fs) s i x y (a, b, e, h, (c, d, f, u, v)) w = (
    a,
    c ++ (d ++ y),
    ap (λ (z : List A). z ++ y) (e ∙ ap (λ (z : List A). a ++ z) f) ∙ append_assoc a (c ++ d) y ∙ ap (λ (z : List A). a ++ z) (append_assoc c d y),
    h,
    (c, d ++ y, refl, u, g.more (opened id (is_if o) ∷ blocks fs) s i d y v w),
  )
  state_more (second id t before first ∷ fs) s i x y (a, b, e, h, (c, d, f, u, (k, l, m, v, (n, r, q, j, t')))) w = (
    a,
    c ++ (k ++ (n ++ (r ++ y))),
    ap (λ (z : List A). z ++ y) (e ∙ ap (λ (z : List A). a ++ z) (f ∙ ap (λ (z : List A). c ++ z) (m ∙ ap (λ (z : List A). k ++ z) q)))
        ∙ append_assoc a (c ++ (k ++ (n ++ r))) y ∙ ap (λ (z : List A). a ++ z) (append_assoc c (k ++ (n ++ r)) y ∙ ap (λ (z : List A). c ++ z) (append_assoc k (n ++ r) y ∙ ap (λ (z : List A). k ++ z) (append_assoc n r y))),
    h,
    (c, k ++ (n ++ (r ++ y)), refl, u, (k, n ++ (r ++ y), refl, v, (n, r ++ y, refl, j, g.more (opened id false ∷ blocks fs) s i r y t' w))),
  )

  -- a list of pieces, from where these lists are open
  step : (fs : List Frame) (s : Instructions) (ps : List Piece) (x y b k : List A) → k ≡ y ++ b
      → ((z : List A) → z ≡ (x ++ y) ++ b → State [] (tree_of fs s ps) z) → State [] (tree_of fs s ps) (x ++ k)
  step fs s ps x y b k e h = h (x ++ k) (ap (λ (z : List A). x ++ z) e ∙ sym (append_assoc x y b))

  moved : (s : Instructions) (z w : List A) → z ≡ w → State [] s w → State [] s z
  moved s z w e h = subst (State [] s) (sym e) h

  pub tree_whole : (ps : List Piece) (fs : List Frame) (s : Instructions) (x k : List A) → State fs s x → Nests (blocks fs) ps → AllPieces (blocks fs) ps k → State [] (tree_of fs s ps) (x ++ k)
  tree_whole [] [] s x k h n w = moved s (x ++ k) x (ap (λ (z : List A). x ++ z) w ∙ append-nil x) h
  tree_whole [] (f ∷ fs) s x k h n w = absurd (let e : open_of f ∷ blocks fs ≡ [] = n in cc)
  tree_whole (plain i ∷ ps) fs s x k h n (y, b, e, w, more) =
      step fs s (plain i ∷ ps) x y b k e (λ z f. moved _ z ((x ++ y) ++ b) f
      (tree_whole ps fs (snoc s (simple i)) (x ++ y) b (state_more fs s (simple i) x y h (g.plain_is (blocks fs) i y w)) n.1 more))
  tree_whole (jump ls l ∷ ps) fs s x k h n (y, b, e, w, more) =
      step fs s (jump ls l ∷ ps) x y b k e (λ z f. moved _ z ((x ++ y) ++ b) f
      (tree_whole ps fs (snoc s (table ls l)) (x ++ y) b (state_more fs s (table ls l) x y h (g.jump_is (blocks fs) ls l y w)) n.1 more))
  tree_whole (opens o id t ∷ ps) fs s x k h n (y, b, e, w, more) =
      step fs s (opens o id t ∷ ps) x y b k e (λ z f. moved _ z ((x ++ y) ++ b) f
      (tree_whole ps (frame o id t s ∷ fs) none (x ++ y) b
      (x, y, refl, h, (y, [], sym (append-nil y), g.opens_is (blocks fs) o id t y w, g.empty (opened id (is_if o) ∷ blocks fs))) n.1 more))
  tree_whole (middle ∷ ps) [] s x k h n w = absurd n.0
  tree_whole (middle ∷ ps) (frame Block id t before ∷ fs) s x k h n w = absurd (let e : false ≡ true = n.0 in cc)
  tree_whole (middle ∷ ps) (frame Loop id t before ∷ fs) s x k h n w = absurd (let e : false ≡ true = n.0 in cc)
  tree_whole (middle ∷ ps) (frame If id t before ∷ fs) s x k (a, c, q, h, (u, v, r, i, j)) n (y, b, e, w, more) =
      step (frame If id t before ∷ fs) s (middle ∷ ps) x y b k e (λ z f. moved _ z ((x ++ y) ++ b) f
      (tree_whole ps (second id t before s ∷ fs) none (x ++ y) b (
        a,
        u ++ (v ++ (y ++ [])),
        ap (λ (z : List A). z ++ y) (q ∙ ap (λ (z : List A). a ++ z) r) ∙ append_assoc a (u ++ v) y ∙ ap (λ (z : List A). a ++ z) (append_assoc u v y ∙ ap (λ (z : List A). u ++ (v ++ z)) (sym (append-nil y))),
        h,
        (u, v ++ (y ++ []), refl, i, (v, y ++ [], refl, j, (y, [], refl, g.middle_is (opened id true) (blocks fs) y w, g.empty (opened id false ∷ blocks fs)))),
      ) n.1 more))
  tree_whole (middle ∷ ps) (second id t before first ∷ fs) s x k h n w = absurd (let e : false ≡ true = n.0 in cc)
  tree_whole (closes ∷ ps) [] s x k h n w = absurd n.0
  tree_whole (closes ∷ ps) (frame o id t before ∷ fs) s x k (a, c, q, h, (u, v, r, i, j)) n (y, b, e, w, more) =
      step (frame o id t before ∷ fs) s (closes ∷ ps) x y b k e (λ z f. moved _ z ((a ++ (u ++ (v ++ y))) ++ b) (f ∙ ap (λ (z : List A). z ++ b) (ap (λ (z : List A). z ++ y) (q ∙ ap (λ (z : List A). a ++ z) r) ∙ append_assoc a (u ++ v) y ∙ ap (λ (z : List A). a ++ z) (append_assoc u v y)))
      (tree_whole ps fs (snoc before (one_block o t s)) (a ++ (u ++ (v ++ y))) b
      (state_more fs before (one_block o t s) a (u ++ (v ++ y)) h (g.block_is (blocks fs) o id t s u v y i j (g.closes_is (opened id (is_if o)) (blocks fs) y w))) n.1 more))
  tree_whole (closes ∷ ps) (second id t before first ∷ fs) s x k (a, c, q, h, (u, v, r, i, (m, l, j, o, (p, d, d2, p2, p3)))) n (y, b, e, w, more) =
      step (second id t before first ∷ fs) s (closes ∷ ps) x y b k e (λ z f. moved _ z ((a ++ (u ++ (m ++ ((p ++ d) ++ y)))) ++ b)
      (f ∙ ap (λ (z : List A). z ++ b) (ap (λ (z : List A). z ++ y) (q ∙ ap (λ (z : List A). a ++ z) (r ∙ ap (λ (z : List A). u ++ z) (j ∙ ap (λ (z : List A). m ++ z) d2)))
      ∙ append_assoc a (u ++ (m ++ (p ++ d))) y ∙ ap (λ (z : List A). a ++ z) (append_assoc u (m ++ (p ++ d)) y ∙ ap (λ (z : List A). u ++ z) (append_assoc m (p ++ d) y))))
      (tree_whole ps fs (snoc before (choice t first s)) (a ++ (u ++ (m ++ ((p ++ d) ++ y)))) b
      (state_more fs before (choice t first s) a (u ++ (m ++ ((p ++ d) ++ y))) h (g.choice_is (blocks fs) id t first s u m p d y i o p2 p3 (g.closes_is (opened id false) (blocks fs) y w))) n.1 more))

-- ---- the two forms

abbrev text_divide : Id → Form Token
text_divide id = Closes (codes "else") id

written_block : (sc : Scope) (bs : Opened) (o : BlockOp) (id : Id) (t : Option ValType) (s : Instructions) (x u v : List Token)
    → Opens (opening_word o) id t x → WritesInstructions sc (id ∷ labels bs) s u → Closes (codes "end") id v → WritesInstruction sc (labels bs) (one_block o t s) (x ++ (u ++ v))
written_block sc bs Block id t s x u v a b c = (id, (x, u ++ v, refl, a, (u, v, refl, b, c)))
written_block sc bs Loop id t s x u v a b c = (id, (x, u ++ v, refl, a, (u, v, refl, b, c)))
written_block sc bs If id t s x u v a b c = (id, (x, u ++ v, refl, a, (u, v, refl, b, ([], v, refl, inr refl, c))))

written_else : (sc : Scope) (bs : Opened) (id : Id) (r : Instructions) (y w : List Token) → Closes (codes "else") id y → WritesInstructions sc (id ∷ labels bs) r w
    → WritesElse id r (WritesInstructions sc (id ∷ labels bs) r) (y ++ w)
written_else sc bs id none y w a b = inl (y, w, refl, a, b)
written_else sc bs id (snoc s i) y w a b = (y, w, refl, a, b)

pub text_grammar : Scope → Grammar Token
text_grammar sc = record {
  list = λ bs s. WritesInstructions sc (labels bs) s;
  one = λ bs i. WritesInstruction sc (labels bs) i;
  begin = λ o id t. Opens (opening_word o) id t;
  divide = text_divide;
  finish = λ id. Closes (codes "end") id;
  piece = WritesPiece sc;
  empty = λ bs. refl;
  more = λ bs s i x y h w. (x, y, refl, h, w);
  plain_is = λ bs i x h. h;
  jump_is = λ bs ls l x h. h;
  opens_is = λ bs o id t x h. h;
  middle_is = λ b bs x h. h.1;
  closes_is = λ b bs x h. h;
  block_is = written_block sc;
  choice_is = λ bs id t s r x u y w v a b c d e. (id, (x, u ++ ((y ++ w) ++ v), refl, a, (u, (y ++ w) ++ v, refl, b, (y ++ w, v, refl, written_else sc bs id r y w c d, e))));
}

flat_block : (o : BlockOp) (t : Option ValType) (s : Instructions) (x u v : List Op) → x ≡ block_op o t ∷ [] → HasOps s u → v ≡ op.End ∷ [] → HasOp (one_block o t s) (x ++ (u ++ v))
flat_block Block t s x u v a b c = (x, u ++ v, refl, a, (u, v, refl, b, c))
flat_block Loop t s x u v a b c = (x, u ++ v, refl, a, (u, v, refl, b, c))
flat_block If t s x u v a b c = (x, u ++ v, refl, a, (u, v, refl, b, ([], v, refl, inr refl, c)))

flat_else : (r : Instructions) (y w : List Op) → y ≡ op.Else ∷ [] → HasOps r w → HasElse r (HasOps r) (y ++ w)
flat_else none y w a b = inl (y, w, refl, a, b)
flat_else (snoc s i) y w a b = (y, w, refl, a, b)

pub op_grammar : Grammar Op
op_grammar = record {
  list = λ bs s. HasOps s;
  one = λ bs i. HasOp i;
  begin = λ o id t x. x ≡ block_op o t ∷ [];
  divide = λ id x. x ≡ op.Else ∷ [];
  finish = λ id x. x ≡ op.End ∷ [];
  piece = λ bs q x. x ≡ piece_ops q;
  empty = λ bs. refl;
  more = λ bs s i x y h w. (x, y, refl, h, w);
  plain_is = λ bs i x h. h;
  jump_is = λ bs ls l x h. h;
  opens_is = λ bs o id t x h. h;
  middle_is = λ b bs x h. h;
  closes_is = λ b bs x h. h;
  block_is = λ bs o id t s x u v a b c. flat_block o t s x u v a b c;
  choice_is = λ bs id t s r x u y w v a b c d e. (x, u ++ ((y ++ w) ++ v), refl, a, (u, (y ++ w) ++ v, refl, b, (y ++ w, v, refl, flat_else r y w c d, e)));
}

-- ---- whole bodies

pieces_nest : (p : Profile) (sc : Scope) (bs : Opened) (ps : List Piece) (k : List Token) → WritesPieces p sc bs ps k → Nests bs ps
pieces_nest p sc bs [] k h = h.0
pieces_nest p sc bs (q ∷ ps) k (i, (x, y, e, w, more)) = (fits bs q x w, pieces_nest p sc (after bs q) ps y more)
  where
    fits : (bs : Opened) (q : Piece) (x : List Token) → WritesPiece sc bs q x → Fits bs q
    fits [] (plain i) x w = tt
    fits [] (jump ls l) x w = tt
    fits [] (opens o id t) x w = tt
    fits [] middle x w = w
    fits [] closes x w = w
    fits (b ∷ bs) middle x w = w.0
    fits (b ∷ bs) (plain i) x w = tt
    fits (b ∷ bs) (jump ls l) x w = tt
    fits (b ∷ bs) (opens o id t) x w = tt
    fits (b ∷ bs) closes x w = tt

text_pieces : (p : Profile) (sc : Scope) (bs : Opened) (ps : List Piece) (k : List Token) → WritesPieces p sc bs ps k → AllPieces (text_grammar sc) bs ps k
unfolding text_grammar
text_pieces p sc bs [] k h = h.1
text_pieces p sc bs (q ∷ ps) k (i, (x, y, e, w, more)) = (x, y, e, w, text_pieces p sc (after bs q) ps y more)

op_pieces : (bs : Opened) (ps : List Piece) → AllPieces op_grammar bs ps (pieces_ops ps)
unfolding op_grammar
op_pieces bs [] = refl
op_pieces bs (q ∷ ps) = (piece_ops q, pieces_ops ps, refl, refl, op_pieces (after bs q) ps)

piece_of : (p : Profile) (q : Piece) → IsPieceOf p q → AllByRecursion (IsOpOf p) (piece_ops q)
piece_of p (plain i) h = (h, tt)
piece_of p (jump ls l) h = (tt, labels_of p ls l)
piece_of p (opens Block id t) h = (h, tt)
piece_of p (opens Loop id t) h = (h, tt)
piece_of p (opens If id t) h = (h, tt)
piece_of p middle h = (tt, tt)
piece_of p closes h = (tt, tt)

ops_of_profile : (p : Profile) (sc : Scope) (bs : Opened) (ps : List Piece) (k : List Token) → WritesPieces p sc bs ps k → AllByRecursion (IsOpOf p) (pieces_ops ps)
ops_of_profile p sc bs [] k h = tt
ops_of_profile p sc bs (q ∷ ps) k (i, (x, y, e, w, more)) = all_append (IsOpOf p) (piece_ops q) (pieces_ops ps) (piece_of p q i) (ops_of_profile p sc (after bs q) ps y more)

-- ops that tokens write are those of one tree, which they write
pub body_tree : (p : Profile) (sc : Scope) (ops : List Op) (k : List Token) → WritesOps p sc [] ops k
    → (s : Instructions) × HasOps s ops × WritesInstructions sc [] s k × HasInstructions p s
unfolding text_grammar op_grammar
body_tree p sc ops k (ps, e, h) =
    let n = pieces_nest p sc [] ps k h in
    let text : WritesInstructions sc [] (tree_of [] none ps) k = tree_whole (text_grammar sc) ps [] none [] k refl n (text_pieces p sc [] ps k h) in
    let flat : HasOps (tree_of [] none ps) (pieces_ops ps) = tree_whole op_grammar ps [] none [] (pieces_ops ps) refl n (op_pieces [] ps) in
    (tree_of [] none ps, subst (HasOps (tree_of [] none ps)) (sym e) flat, text, (by_ops p (tree_of [] none ps) (pieces_ops ps) flat).1 (ops_of_profile p sc [] ps k h))
