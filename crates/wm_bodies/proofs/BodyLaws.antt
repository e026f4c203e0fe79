-- Reading a body piece by piece: the open blocks decide what may still follow.
use Rattle.std.proofs.Common.{◌≡◌, ℕ, zero, suc, ◌<◌, ◌≤◌, ◌↔◌, List, [], ◌∷◌, ◌++◌, length, Option, Some, None, refl, sym, ap, subst, ◌∙◌, arith, append_assoc, length-append}
use Rattle.wm_syntax.specs.declared.instructions.Op.{Op}
use Rattle.wm_syntax.specs.declared.profile.Profile.{Profile}
use Rattle.wm_tokens.specs.Tokens.{Token, open_paren, close_paren, string, atom}
use Rattle.wm_tokens.proofs.Basics.{same_some, same_tail}
use Rattle.wm_tokens.specs.Identifiers.{Id, WritesId}
use Rattle.wm_tokens.specs.Written.{Scope, UnnamedTypeUse}
use Rattle.wm_bodies.specs.inner.Pieces.{Opened, Piece, plain, jump, opens, middle, closes, after, piece_ops, pieces_ops, WritesPiece, WritesPieces, WritesOps}
use Rattle.wm_bodies.specs.exact.Reading.{Reader, ◌>>=◌, piece_at, ops_within, ops_at}
use Rattle.wm_bodies.proofs.Readers.{Sound, bind_ok, bind_is, BeginsClose}
use Rattle.wm_bodies.proofs.Immediates.{IsName}
use Rattle.wm_bodies.proofs.PieceLaws.{Follow, IsScope, AreNames, ReadsUse, piece_sound, piece_complete, piece_follows, to_rest}

-- ---- the blocks keep identifiers

is_name : (id : Id) (front : List Token) → WritesId id front → IsName id
is_name None front e = tt
is_name (Some name) front h = h.0

pub names_after : (sc : Scope) (bs : Opened) (q : Piece) (front : List Token) → WritesPiece sc bs q front → AreNames bs → AreNames (after bs q)
names_after sc bs (plain i) front h n = n
names_after sc bs (jump ls l) front h n = n
names_after sc bs (opens o id t) front (x, y, e, w, (u, v, f, g, i)) n = (is_name id u g, n)
names_after sc [] middle front h n = tt
names_after sc (b ∷ bs) middle front h n = n
names_after sc [] closes front h n = tt
names_after sc (b ∷ bs) closes front h n = n.1

pub close_follows : (k : List Token) → BeginsClose k → Follow k
close_follows [] f = absurd f
close_follows (open_paren ∷ k) f = absurd f
close_follows (close_paren ∷ k) f = tt
close_follows (atom a ∷ k) f = absurd f
close_follows (string b ∷ k) f = absurd f

-- the pieces of these tokens, up to what follows them
pub record Still (p : Profile) (sc : Scope) (bs : Opened) (ps : List Piece) (k rest : List Token) : Type 0 where
  pub front : List Token
  pub text : k ≡ front ++ rest
  pub writes : WritesPieces p sc bs ps front

module _ (use_at : Reader ℕ) (p : Profile) (sc : Scope) (use_sound : Sound use_at (UnnamedTypeUse sc.names)) where
  -- ---- the whole body, as one function
  pub shorter : (bs : Opened) (w : List ℕ) (k : List Token) (q : Piece) (left : List Token) → piece_at use_at p sc bs w k ≡ Some (q, left) → length left ≤ length k
  shorter bs w k q left e = let g = piece_sound use_at sc use_sound p bs w k q left e in let s : length k ≡ length (g.0 ++ left) = ap length g.1 in omega (arith, s, length-append g.0 left)

  -- ---- as much fuel as there are tokens
  bind_same : {A B : Type 0} (o : Option A) (f g : A → Option B) → ((x : A) → o ≡ Some x → f x ≡ g x) → (o >>= f) ≡ (o >>= g)
  bind_same None f g h = refl
  bind_same (Some x) f g h = h x refl

  fuel : (n m : ℕ) (bs : Opened) (k : List Token) → length k < n → length k < m → ops_within use_at p sc n bs k ≡ ops_within use_at p sc m bs k
  fuel zero m bs k a b = absurd (omega (arith, a))
  fuel (suc n) zero bs k a b = absurd (omega (arith, b))
  fuel (suc n) (suc m) [] [] a b = refl
  fuel (suc n) (suc m) (o ∷ bs) [] a b = refl
  fuel (suc n) (suc m) [] (open_paren ∷ k) a b = refl
  fuel (suc n) (suc m) (o ∷ bs) (open_paren ∷ k) a b = refl
  fuel (suc n) (suc m) [] (close_paren ∷ k) a b = refl
  fuel (suc n) (suc m) (o ∷ bs) (close_paren ∷ k) a b = refl
  fuel (suc n) (suc m) [] (string x ∷ k) a b = refl
  fuel (suc n) (suc m) (o ∷ bs) (string x ∷ k) a b = refl
  fuel (suc n) (suc m) bs (atom w ∷ k) a b =
      bind_same (piece_at use_at p sc bs w k) _ _ (λ x e.
      let size : length x.1 ≤ length k = shorter bs w k x.0 x.1 e in
      ap (λ (z : Option (List Op × List Token)). z >>= λ y. Some (piece_ops x.0 ++ y.0, y.1)) (fuel n m (after bs x.0) x.1 (omega (arith, a, size)) (omega (arith, b, size))))

  -- the function, one piece further
  pub ops_step : (bs : Opened) (w : List ℕ) (k : List Token) → ops_at use_at p sc bs (atom w ∷ k)
      ≡ (piece_at use_at p sc bs w k >>= λ x. ops_at use_at p sc (after bs x.0) x.1 >>= λ y. Some (piece_ops x.0 ++ y.0, y.1))
  unfolding ops_at
  ops_step bs w k =
      bind_same (piece_at use_at p sc bs w k) _ _ (λ x e.
      let size : length x.1 ≤ length k = shorter bs w k x.0 x.1 e in
      ap (λ (z : Option (List Op × List Token)). z >>= λ y. Some (piece_ops x.0 ++ y.0, y.1)) (fuel (suc (length k)) (suc (length x.1)) (after bs x.0) x.1 (omega (arith, size)) (omega arith)))

  -- ---- the tokens write what is read

  -- a piece that is read, and those after it
  joins : (bs : Opened) (q : Piece) (later : List Piece) (w : List ℕ) (k left rest : List Token) → piece_at use_at p sc bs w k ≡ Some (q, left) → Still p sc (after bs q) later left rest
      → Still p sc bs (q ∷ later) (atom w ∷ k) rest
  joins bs q later w k left rest e still =
      let g = piece_sound use_at sc use_sound p bs w k q left e in
      let y = still.front in
      record {
        front = atom w ∷ (g.0 ++ y);
        text = ap (λ (z : List Token). atom w ∷ z) (g.1 ∙ ap (λ (z : List Token). g.0 ++ z) still.text ∙ sym (append_assoc g.0 y rest));
        writes = (g.2.1, (atom w ∷ g.0, y, refl, g.2.0, still.writes));
      }

  within_sound : (n : ℕ) (bs : Opened) (k : List Token) (ops : List Op) (rest : List Token) → ops_within use_at p sc n bs k ≡ Some (ops, rest)
      → BeginsClose rest × (ps : List Piece) × (ops ≡ pieces_ops ps) × Still p sc bs ps k rest
  within_sound zero bs k ops rest e = absurd cc
  within_sound (suc n) bs [] ops rest e = absurd (none bs e)
    where
      none : (bs : Opened) → ops_within use_at p sc (suc n) bs [] ≡ Some (ops, rest) → ⊥
      none [] e = cc
      none (b ∷ bs) e = cc
  within_sound (suc n) bs (open_paren ∷ k) ops rest e = absurd (none bs e)
    where
      none : (bs : Opened) → ops_within use_at p sc (suc n) bs (open_paren ∷ k) ≡ Some (ops, rest) → ⊥
      none [] e = cc
      none (b ∷ bs) e = cc
  within_sound (suc n) bs (string b ∷ k) ops rest e = absurd (none bs e)
    where
      none : (bs : Opened) → ops_within use_at p sc (suc n) bs (string b ∷ k) ≡ Some (ops, rest) → ⊥
      none [] e = cc
      none (b ∷ bs) e = cc
  within_sound (suc n) [] (close_paren ∷ k) ops rest e =
      let u = same_some ([], close_paren ∷ k) (ops, rest) e in
      subst (λ (z : List Op × List Token). BeginsClose z.1 × (ps : List Piece) × (z.0 ≡ pieces_ops ps) × Still p sc [] ps (close_paren ∷ k) z.1) u
      (tt, [], refl, record { front = []; text = refl; writes = (refl, refl) })
  within_sound (suc n) (b ∷ bs) (close_paren ∷ k) ops rest e = absurd cc
  within_sound (suc n) bs (atom w ∷ k) ops rest e =
      let a = bind_ok (piece_at use_at p sc bs w k) (λ x. ops_within use_at p sc n (after bs x.0) x.1 >>= λ y. Some (piece_ops x.0 ++ y.0, y.1)) (ops, rest) e in
      let b = bind_ok (ops_within use_at p sc n (after bs a.0.0) a.0.1) (λ y. Some (piece_ops a.0.0 ++ y.0, y.1)) (ops, rest) a.2 in
      let u : ◌≡◌ {A = List Op × List Token} (piece_ops a.0.0 ++ b.0.0, b.0.1) (ops, rest) = same_some (piece_ops a.0.0 ++ b.0.0, b.0.1) (ops, rest) b.2 in
      let m = within_sound n (after bs a.0.0) a.0.1 b.0.0 b.0.1 b.1 in
      subst (λ (z : List Op × List Token). BeginsClose z.1 × (ps : List Piece) × (z.0 ≡ pieces_ops ps) × Still p sc bs ps (atom w ∷ k) z.1) u (
        m.0,
        a.0.0 ∷ m.1,
        ap (λ (z : List Op). piece_ops a.0.0 ++ z) m.2,
        joins bs a.0.0 m.1 w k a.0.1 b.0.1 a.1 m.3,
      )

  pub ops_sound : (bs : Opened) (k : List Token) (ops : List Op) (rest : List Token) → ops_at use_at p sc bs k ≡ Some (ops, rest)
      → BeginsClose rest × (front : List Token) × (k ≡ front ++ rest) × WritesOps p sc bs ops front
  unfolding ops_at
  ops_sound bs k ops rest e = let g = within_sound (suc (length k)) bs k ops rest e in (g.0, g.3.front, g.3.text, (g.1, g.2, g.3.writes))

module _ (use_at : Reader ℕ) (p : Profile) (sc : Scope) (uses : ReadsUse use_at sc.names) (scope : IsScope sc) where
  pub pieces_follow : (bs : Opened) (ps : List Piece) (front rest : List Token) → WritesPieces p sc bs ps front → BeginsClose rest → Follow (front ++ rest)
  pieces_follow bs [] front rest h f = subst (λ (z : List Token). Follow (z ++ rest)) (sym h.1) (close_follows rest f)
  pieces_follow bs (q ∷ ps) front rest (i, (x, y, e, w, more)) f =
      subst Follow (sym (ap (λ (z : List Token). z ++ rest) e ∙ append_assoc x y rest)) (piece_follows sc bs q x (y ++ rest) w)

  -- The ops that may still follow, if a keyword comes first: the piece that is read there, and then the rest.
  pub record Comes (bs : Opened) (ps : List Piece) (w : List ℕ) (k rest : List Token) : Type 0 where
    pub piece : Piece
    pub later : List Piece
    pub left : List Token
    pub read : piece_at use_at p sc bs w k ≡ Some (piece, left)
    pub pieces : ps ≡ piece ∷ later
    pub still : Still p sc (after bs piece) later left rest

  comes_to : (bs : Opened) → AreNames bs → (ps : List Piece) (w : List ℕ) (k rest : List Token) → BeginsClose rest → Still p sc bs ps (atom w ∷ k) rest → Comes bs ps w k rest
  comes_to bs n [] w k rest f h = absurd (none rest f (h.text ∙ ap (λ (z : List Token). z ++ rest) h.writes.1))
    where
      none : (rest : List Token) → BeginsClose rest → atom w ∷ k ≡ rest → ⊥
      none [] f e = f
      none (open_paren ∷ r) f e = f
      none (close_paren ∷ r) f e = cc
      none (atom a ∷ r) f e = f
      none (string b ∷ r) f e = f
  comes_to bs n (q ∷ ps) w k rest f h =
      let g = h.writes in
      let y = g.1.1 in
      let c = piece_complete use_at sc uses.sound p bs scope uses.complete n q g.1.0 (y ++ rest) g.1.3 g.0 (pieces_follow (after bs q) ps y rest g.1.4 f) in
      let text : atom w ∷ k ≡ atom c.0 ∷ (c.1 ++ (y ++ rest)) =
      h.text ∙ ap (λ (z : List Token). z ++ rest) g.1.2 ∙ append_assoc g.1.0 y rest ∙ ap (λ (z : List Token). z ++ (y ++ rest)) c.2 in
      let word : w ≡ c.0 = cc in
      let tail : k ≡ c.1 ++ (y ++ rest) = same_tail (atom w) (atom c.0) k (c.1 ++ (y ++ rest)) text in
      record {
        piece = q;
        later = ps;
        left = y ++ rest;
        read = ap (λ (z : List ℕ). piece_at use_at p sc bs z k) word ∙ ap (piece_at use_at p sc bs c.0) tail ∙ c.3;
        pieces = refl;
        still = record { front = y; text = refl; writes = g.1.4 };
      }

  comes_from : (bs : Opened) (ps : List Piece) (w : List ℕ) (k rest : List Token) → Comes bs ps w k rest → Still p sc bs ps (atom w ∷ k) rest
  comes_from bs ps w k rest h =
      let g = piece_sound use_at sc uses.sound p bs w k h.piece h.left h.read in
      let y = h.still.front in
      record {
        front = atom w ∷ (g.0 ++ y);
        text = ap (λ (z : List Token). atom w ∷ z) (g.1 ∙ ap (λ (z : List Token). g.0 ++ z) h.still.text ∙ sym (append_assoc g.0 y rest));
        writes = subst (λ (z : List Piece). WritesPieces p sc bs z (atom w ∷ (g.0 ++ y))) (sym h.pieces) (g.2.1, (atom w ∷ g.0, y, refl, g.2.0, h.still.writes));
      }

  -- a word, of an open body
  pub still_word : (bs : Opened) → AreNames bs → (ps : List Piece) (w : List ℕ) (k rest : List Token) → BeginsClose rest → Still p sc bs ps (atom w ∷ k) rest ↔ Comes bs ps w k rest
  still_word bs n ps w k rest f = (comes_to bs n ps w k rest f, comes_from bs ps w k rest)

  -- pieces that begin with no word are none, and all blocks are closed
  pub still_end : (bs : Opened) (ps : List Piece) (k rest : List Token) → ((w : List ℕ) (l : List Token) → k ≡ atom w ∷ l → ⊥) → Still p sc bs ps k rest → (ps ≡ []) × (bs ≡ []) × (k ≡ rest)
  still_end bs [] k rest never h = (refl, h.writes.0, h.text ∙ ap (λ (z : List Token). z ++ rest) h.writes.1)
  still_end bs (q ∷ ps) k rest never h =
      let g = h.writes in let t = to_rest sc bs q g.1.0 g.1.3 in
      absurd (never _ ((t.0 ++ g.1.1) ++ rest) (h.text ∙ ap (λ (z : List Token). z ++ rest) (g.1.2 ∙ ap (λ (z : List Token). z ++ g.1.1) t.1)))

  at_close : (n : ℕ) (rest : List Token) → BeginsClose rest → ops_within use_at p sc (suc n) [] rest ≡ Some ([], rest)
  at_close n [] f = absurd f
  at_close n (open_paren ∷ k) f = absurd f
  at_close n (close_paren ∷ k) f = refl
  at_close n (atom a ∷ k) f = absurd f
  at_close n (string b ∷ k) f = absurd f

  ended : (n : ℕ) (bs : Opened) (ps : List Piece) (k rest : List Token) → (ps ≡ []) × (bs ≡ []) × (k ≡ rest) → BeginsClose rest → ops_within use_at p sc (suc n) bs k ≡ Some (pieces_ops ps, rest)
  ended n bs ps k rest (a, b, c) f =
      ap (λ (z : Opened). ops_within use_at p sc (suc n) z k) b ∙ ap (ops_within use_at p sc (suc n) []) c ∙ at_close n rest f ∙ ap (λ (z : List Piece). Some (pieces_ops z, rest)) (sym a)

  within_complete : (n : ℕ) (bs : Opened) → AreNames bs → (ps : List Piece) (k rest : List Token) → length k < n → Still p sc bs ps k rest → BeginsClose rest
      → ops_within use_at p sc n bs k ≡ Some (pieces_ops ps, rest)
  within_complete zero bs names ps k rest lt h f = absurd (omega (arith, lt))
  within_complete (suc n) bs names ps (atom w ∷ k) rest lt h f =
      let c = comes_to bs names ps w k rest f h in
      let g = piece_sound use_at sc uses.sound p bs w k c.piece c.left c.read in
      let size : length c.left ≤ length k = shorter use_at p sc uses.sound bs w k c.piece c.left c.read in
      bind_is (piece_at use_at p sc bs w k) _ (c.piece, c.left) c.read
      ∙ bind_is (ops_within use_at p sc n (after bs c.piece) c.left) _ (pieces_ops c.later, rest)
      (within_complete n (after bs c.piece) (names_after sc bs c.piece (atom w ∷ g.0) g.2.0 names) c.later c.left rest (omega (arith, lt, size)) c.still f)
      ∙ ap (λ (z : List Piece). Some (pieces_ops z, rest)) (sym c.pieces)
  within_complete (suc n) bs names ps [] rest lt h f = ended n bs ps [] rest (still_end bs ps [] rest (λ w l e. cc) h) f
  within_complete (suc n) bs names ps (open_paren ∷ k) rest lt h f = ended n bs ps (open_paren ∷ k) rest (still_end bs ps (open_paren ∷ k) rest (λ w l e. cc) h) f
  within_complete (suc n) bs names ps (close_paren ∷ k) rest lt h f = ended n bs ps (close_paren ∷ k) rest (still_end bs ps (close_paren ∷ k) rest (λ w l e. cc) h) f
  within_complete (suc n) bs names ps (string b ∷ k) rest lt h f = ended n bs ps (string b ∷ k) rest (still_end bs ps (string b ∷ k) rest (λ w l e. cc) h) f

  -- What tokens write is read.
  pub ops_complete : (bs : Opened) → AreNames bs → (ops : List Op) (front rest : List Token) → WritesOps p sc bs ops front → BeginsClose rest → ops_at use_at p sc bs (front ++ rest) ≡ Some (ops, rest)
  unfolding ops_at
  ops_complete bs names ops front rest (ps, e, h) f =
      within_complete (suc (length (front ++ rest))) bs names ps (front ++ rest) rest (omega arith) (record { front = front; text = refl; writes = h }) f ∙ ap (λ (z : List Op). Some (z, rest)) (sym e)
