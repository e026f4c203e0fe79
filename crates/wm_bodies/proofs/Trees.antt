-- The tree of a body and its pieces.
use Rattle.std.proofs.Common.{◌≡◌, Bool, true, false, List, [], ◌∷◌, ◌++◌, Option, refl, sym, ap, subst, ◌∙◌, inl, inr, append_assoc}
use Rattle.std.proofs.lemmas.List.{append-nil}
use Rattle.std.specs.Prelude.{codes}
use Rattle.wm_syntax.specs.Spelling.{Form}
use Rattle.wm_syntax.specs.declared.types.ValType.{ValType}
use Rattle.wm_syntax.specs.declared.instructions.Op.{Op}
use Rattle.wm_syntax.specs.declared.instructions.Op.TheVariants as op
use Rattle.wm_syntax.specs.declared.profile.Profile.{Profile}
use Rattle.wm_syntax.specs.Instructions.{Instruction, Instructions, none, snoc, simple, table, block, loop, choice, HasOp, HasOps, HasElse}
use Rattle.wm_syntax.specs.Profiles.{HasBlockType, HasInstruction, HasInstructions}
use Rattle.wm_tokens.specs.Tokens.{Token}
use Rattle.wm_syntax.specs.declared.instructions.op_class.BlockOp.{BlockOp}
use Rattle.wm_syntax.specs.declared.instructions.op_class.BlockOp.TheVariants.{Block, Loop, If}
use Rattle.wm_tokens.specs.Identifiers.{Id}
use Rattle.wm_tokens.specs.Written.{Scope, WritesInstruction, WritesInstructions, WritesElse, Opens, Closes}
use Rattle.wm_bodies.specs.inner.Pieces.{Open, Opened, labels, Piece, plain, jump, opens, middle, closes, after, piece_ops, pieces_ops, opening_word, is_if, IsPieceOf, WritesPiece, WritesPieces, WritesOps}
use Rattle.wm_syntax.specs.exact.OpShapes.{block_op}

abbrev opened : Id → Bool → Open
opened id b = record { id = id; may_else = b }

-- ---- from the tree to its pieces

pub pieces_append : (ps qs : List Piece) → pieces_ops (ps ++ qs) ≡ pieces_ops ps ++ pieces_ops qs
pieces_append [] qs = refl
pieces_append (q ∷ ps) qs = ap (λ (z : List Op). piece_ops q ++ z) (pieces_append ps qs) ∙ sym (append_assoc (piece_ops q) (pieces_ops ps) (pieces_ops qs))

module _ (p : Profile) (sc : Scope) where
  -- pieces that lead from some open blocks to others
  abbrev Runs : Opened → Opened → List Piece → List Token → Type 0
  Runs bs cs ps front = (later : List Piece) (k : List Token) → WritesPieces p sc cs later k → WritesPieces p sc bs (ps ++ later) (front ++ k)

  one_runs : (bs : Opened) (q : Piece) (front : List Token) → WritesPiece sc bs q front → IsPieceOf p q → Runs bs (after bs q) (q ∷ []) front
  one_runs bs q front h i later k w = (i, (front, k, refl, h, w))

  runs_then : (bs cs ds : Opened) (ps qs : List Piece) (f g : List Token) → Runs bs cs ps f → Runs cs ds qs g → Runs bs ds (ps ++ qs) (f ++ g)
  runs_then bs cs ds ps qs f g a b later k w =
      subst (λ (z : List Piece). WritesPieces p sc bs z ((f ++ g) ++ k)) (sym (append_assoc ps qs later))
      (subst (WritesPieces p sc bs (ps ++ (qs ++ later))) (sym (append_assoc f g k)) (a (qs ++ later) (g ++ k) (b later k w)))

  none_runs : (bs : Opened) → Runs bs bs [] []
  none_runs bs later k w = w

  runs_text : (bs cs : Opened) (ps : List Piece) (f g : List Token) → f ≡ g → Runs bs cs ps g → Runs bs cs ps f
  runs_text bs cs ps f g e h = subst (Runs bs cs ps) (sym e) h

  -- The pieces that a tree's tokens write.
  pub record Flat (bs : Opened) (has : Form Op) (front : List Token) : Type 0 where
    pub ps : List Piece
    pub runs : Runs bs bs ps front
    pub ops : has (pieces_ops ps)

  around : (bs : Opened) (o : BlockOp) (id : Id) (t : Option ValType) (x u v : List Token) (inside : List Piece)
      → HasBlockType p t → Opens (opening_word o) id t x → Runs (opened id (is_if o) ∷ bs) (opened id (is_if o) ∷ bs) inside u → Closes (codes "end") id v
      → Runs bs bs (opens o id t ∷ [] ++ (inside ++ closes ∷ [])) (x ++ (u ++ v))
  around bs o id t x u v inside of h r c =
      runs_then bs (opened id (is_if o) ∷ bs) bs (opens o id t ∷ []) (inside ++ closes ∷ []) x (u ++ v) (one_runs bs (opens o id t) x h of)
      (runs_then (opened id (is_if o) ∷ bs) (opened id (is_if o) ∷ bs) bs inside (closes ∷ []) u v r (one_runs (opened id (is_if o) ∷ bs) closes v c tt))

  around_ops : (o : BlockOp) (id : Id) (t : Option ValType) (inside : List Piece) → pieces_ops (opens o id t ∷ [] ++ (inside ++ closes ∷ [])) ≡ block_op o t ∷ [] ++ (pieces_ops inside ++ op.End ∷ [])
  around_ops o id t inside = ap (λ (z : List Op). block_op o t ∷ z) (pieces_append inside (closes ∷ []))

  -- the second list, and the end
  else_flat : (bs : Opened) (id : Id) (second : Instructions) (a : List Token) → WritesElse id second (WritesInstructions sc (id ∷ labels bs) second) a → HasInstructions p second
      → ((y : List Token) → WritesInstructions sc (id ∷ labels bs) second y → HasInstructions p second → Flat (opened id false ∷ bs) (HasOps second) y)
      → (ps : List Piece) × ((b : List Token) → Closes (codes "end") id b → Runs (opened id true ∷ bs) bs (ps ++ closes ∷ []) (a ++ b)) × HasElse second (HasOps second) (pieces_ops ps)
  else_flat bs id none a (inl (x, y, e, c, w)) g go = (
    middle ∷ [],
    λ b d. runs_text (opened id true ∷ bs) bs (middle ∷ closes ∷ []) (a ++ b) (x ++ b) (ap (λ (z : List Token). z ++ b) (e ∙ ap (λ (z : List Token). x ++ z) w ∙ append-nil x))
        (runs_then (opened id true ∷ bs) (opened id false ∷ bs) bs (middle ∷ []) (closes ∷ []) x b (one_runs (opened id true ∷ bs) middle x (refl, c) tt) (one_runs (opened id false ∷ bs) closes b d tt)),
    inl (op.Else ∷ [], [], refl, refl, refl),
  )
  else_flat bs id none a (inr e) g go =
      ([], λ b d. runs_text (opened id true ∷ bs) bs (closes ∷ []) (a ++ b) b (ap (λ (z : List Token). z ++ b) e) (one_runs (opened id true ∷ bs) closes b d tt), inr refl)
  else_flat bs id (snoc s i) a (x, y, e, c, w) g go =
      let r = go y w g in (
        middle ∷ [] ++ r.ps,
        λ b d. subst (λ (z : List Piece). Runs (opened id true ∷ bs) bs z (a ++ b)) (sym (append_assoc (middle ∷ []) r.ps (closes ∷ [])))
            (runs_text (opened id true ∷ bs) bs (middle ∷ [] ++ (r.ps ++ closes ∷ [])) (a ++ b) (x ++ (y ++ b)) (ap (λ (z : List Token). z ++ b) e ∙ append_assoc x y b)
            (runs_then (opened id true ∷ bs) (opened id false ∷ bs) bs (middle ∷ []) (r.ps ++ closes ∷ []) x (y ++ b) (one_runs (opened id true ∷ bs) middle x (refl, c) tt)
            (runs_then (opened id false ∷ bs) (opened id false ∷ bs) bs r.ps (closes ∷ []) y b r.runs (one_runs (opened id false ∷ bs) closes b d tt)))),
        (op.Else ∷ [], pieces_ops r.ps, refl, refl, r.ops),
      )

  mutual
    pub instruction_flat : (bs : Opened) (i : Instruction) (front : List Token) → WritesInstruction sc (labels bs) i front → HasInstruction p i → Flat bs (HasOp i) front
    instruction_flat bs (simple i) front h g = record { ps = plain i ∷ []; runs = one_runs bs (plain i) front h g; ops = refl }
    instruction_flat bs (table ls l) front h g = record { ps = jump ls l ∷ []; runs = one_runs bs (jump ls l) front h tt; ops = append-nil (piece_ops (jump ls l)) }
    instruction_flat bs (block t body) front (id, (x, y, e, o, (u, v, f, w, c))) g =
        let r = instructions_flat (opened id false ∷ bs) body u w g.1 in
        record {
          ps = opens Block id t ∷ [] ++ (r.ps ++ closes ∷ []);
          runs = runs_text bs bs (opens Block id t ∷ [] ++ (r.ps ++ closes ∷ [])) front (x ++ (u ++ v)) (e ∙ ap (λ (z : List Token). x ++ z) f) (around bs Block id t x u v r.ps g.0 o r.runs c);
          ops = (op.Block t ∷ [], pieces_ops r.ps ++ op.End ∷ [], around_ops Block id t r.ps, refl, (pieces_ops r.ps, op.End ∷ [], refl, r.ops, refl));
        }
    instruction_flat bs (loop t body) front (id, (x, y, e, o, (u, v, f, w, c))) g =
        let r = instructions_flat (opened id false ∷ bs) body u w g.1 in
        record {
          ps = opens Loop id t ∷ [] ++ (r.ps ++ closes ∷ []);
          runs = runs_text bs bs (opens Loop id t ∷ [] ++ (r.ps ++ closes ∷ [])) front (x ++ (u ++ v)) (e ∙ ap (λ (z : List Token). x ++ z) f) (around bs Loop id t x u v r.ps g.0 o r.runs c);
          ops = (op.Loop t ∷ [], pieces_ops r.ps ++ op.End ∷ [], around_ops Loop id t r.ps, refl, (pieces_ops r.ps, op.End ∷ [], refl, r.ops, refl));
        }
    instruction_flat bs (choice t first second) front (id, (x, y, e, o, (u, v, f, w, (a, b, d, m, c)))) g =
        let r = instructions_flat (opened id true ∷ bs) first u w g.1 in
        let q = else_flat bs id second a m g.2 (λ y w h. instructions_flat (opened id false ∷ bs) second y w h) in
        record {
          ps = opens If id t ∷ [] ++ (r.ps ++ (q.0 ++ closes ∷ []));
          runs = runs_text bs bs (opens If id t ∷ [] ++ (r.ps ++ (q.0 ++ closes ∷ []))) front (x ++ (u ++ (a ++ b))) (e ∙ ap (λ (z : List Token). x ++ z) (f ∙ ap (λ (z : List Token). u ++ z) d))
              (runs_then bs (opened id true ∷ bs) bs (opens If id t ∷ []) (r.ps ++ (q.0 ++ closes ∷ [])) x (u ++ (a ++ b)) (one_runs bs (opens If id t) x o g.0)
              (runs_then (opened id true ∷ bs) (opened id true ∷ bs) bs r.ps (q.0 ++ closes ∷ []) u (a ++ b) r.runs
              (q.1 b c)));
          ops = (
            op.If t ∷ [],
            pieces_ops r.ps ++ (pieces_ops q.0 ++ op.End ∷ []),
            ap (λ (z : List Op). op.If t ∷ z) (pieces_append r.ps (q.0 ++ closes ∷ []) ∙ ap (λ (z : List Op). pieces_ops r.ps ++ z) (pieces_append q.0 (closes ∷ []))),
            refl,
            (pieces_ops r.ps, pieces_ops q.0 ++ op.End ∷ [], refl, r.ops, (pieces_ops q.0, op.End ∷ [], refl, q.2, refl)),
          );
        }

    pub instructions_flat : (bs : Opened) (s : Instructions) (front : List Token) → WritesInstructions sc (labels bs) s front → HasInstructions p s → Flat bs (HasOps s) front
    instructions_flat bs none front e g = record { ps = []; runs = runs_text bs bs [] front [] e (none_runs bs); ops = refl }
    instructions_flat bs (snoc s i) front (x, y, e, h, w) g =
        let a = instructions_flat bs s x h g.0 in
        let b = instruction_flat bs i y w g.1 in
        record {
          ps = a.ps ++ b.ps;
          runs = runs_text bs bs (a.ps ++ b.ps) front (x ++ y) e (runs_then bs bs bs a.ps b.ps x y a.runs b.runs);
          ops = (pieces_ops a.ps, pieces_ops b.ps, pieces_append a.ps b.ps, a.ops, b.ops);
        }

  -- the tokens of a body write its ops
  pub body_flat : (s : Instructions) (front : List Token) → WritesInstructions sc [] s front → HasInstructions p s → (ops : List Op) × HasOps s ops × WritesOps p sc [] ops front
  body_flat s front h g =
      let r = instructions_flat [] s front h g in
      let w = r.runs [] [] (refl, refl) in
      (pieces_ops r.ps, r.ops, (r.ps, refl, subst (λ (z : List Piece). WritesPieces p sc [] z front) (append-nil r.ps) (subst (WritesPieces p sc [] (r.ps ++ [])) (append-nil front) w)))
