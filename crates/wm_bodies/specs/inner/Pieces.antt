-- The flat form of a body's text, for the proofs: its pieces in the order of the tokens, with the open blocks.
use Rattle.std.specs.Prelude.{◌≡◌, ℕ, List, [], ◌∷◌, ◌++◌, Bool, true, false, Option, codes, length, map}
use Rattle.wm_syntax.specs.Spelling.{Form, ◌▸◌}
use Rattle.wm_syntax.specs.declared.types.ValType.{ValType}
use Rattle.wm_syntax.specs.declared.instructions.Simple.{Simple}
use Rattle.wm_syntax.specs.declared.instructions.Op.{Op}
use Rattle.wm_syntax.specs.declared.instructions.Op.TheVariants as op
use Rattle.wm_syntax.specs.exact.OpShapes.{block_op}
use Rattle.wm_syntax.specs.declared.profile.Profile.{Profile}
use Rattle.wm_syntax.specs.Profiles.{HasBlockType, HasSimple}
use Rattle.wm_tokens.specs.Tokens.{Token}
use Rattle.wm_syntax.specs.declared.instructions.op_class.BlockOp.{BlockOp}
use Rattle.wm_syntax.specs.declared.instructions.op_class.BlockOp.TheVariants.{Block, Loop, If}
use Rattle.wm_tokens.specs.Identifiers.{Id, Ids}
use Rattle.wm_tokens.specs.Written.{Scope, WritesSimple, WritesTable, Opens, Closes}

-- An open block: its identifier, and whether an else may still follow.
pub record Open : Type 0 where
  pub id : Id
  pub may_else : Bool

abbrev pub Opened : Type 0
Opened = List Open

abbrev pub labels : Opened → Ids
labels bs = map (λ b. b.id) bs

-- A piece: an instruction without a nested list, a br_table, or the start, else or end of a block.
pub data Piece : Type 0 where
  plain : Simple → Piece
  jump : List ℕ → ℕ → Piece
  opens : BlockOp → Id → Option ValType → Piece
  middle : Piece
  closes : Piece

abbrev pub is_if : BlockOp → Bool
is_if If = true
is_if Block = false
is_if Loop = false

abbrev pub opening_word : BlockOp → List ℕ
opening_word Block = codes "block"
opening_word Loop = codes "loop"
opening_word If = codes "if"

-- The open blocks after a piece, innermost first.
abbrev pub after : Opened → Piece → Opened
after bs (plain i) = bs
after bs (jump ls l) = bs
after bs (opens o id t) = record { id = id; may_else = is_if o } ∷ bs
after [] middle = []
after (b ∷ bs) middle = record { id = b.id; may_else = false } ∷ bs
after [] closes = []
after (b ∷ bs) closes = bs

abbrev pub piece_ops : Piece → List Op
piece_ops (plain i) = op.Simple i ∷ []
piece_ops (jump ls l) = op.BrTable (length ls) ∷ map op.Label ls ++ op.Label l ∷ []
piece_ops (opens o id t) = block_op o t ∷ []
piece_ops middle = op.Else ∷ []
piece_ops closes = op.End ∷ []

abbrev pub pieces_ops : List Piece → List Op
pieces_ops [] = []
pieces_ops (p ∷ ps) = piece_ops p ++ pieces_ops ps

-- The piece's instruction and value types are of the profile.
abbrev pub IsPieceOf : Profile → Piece → Type 0
IsPieceOf p (plain i) = HasSimple p i
IsPieceOf p (opens o id t) = HasBlockType p t
IsPieceOf p _ = Unit {0}

abbrev pub WritesPiece : Scope → Opened → Piece → Form Token
WritesPiece s bs (plain i) = WritesSimple s (labels bs) i
WritesPiece s bs (jump ls l) = WritesTable (labels bs) ls l
WritesPiece s bs (opens o id t) = Opens (opening_word o) id t
WritesPiece s [] middle = λ k. ⊥
WritesPiece s (b ∷ bs) middle = λ k. (b.may_else ≡ true) × Closes (codes "else") b.id k
WritesPiece s [] closes = λ k. ⊥
WritesPiece s (b ∷ bs) closes = Closes (codes "end") b.id

-- The tokens write these pieces of the profile, and no block is open after them.
abbrev pub WritesPieces : Profile → Scope → Opened → List Piece → Form Token
WritesPieces p s bs [] = λ k. (bs ≡ []) × (k ≡ [])
WritesPieces p s bs (q ∷ ps) = λ k. IsPieceOf p q × (WritesPiece s bs q ▸ WritesPieces p s (after bs q) ps) k

-- The tokens write pieces with these ops.
abbrev pub WritesOps : Profile → Scope → Opened → List Op → Form Token
WritesOps p s bs ops k = (ps : List Piece) × (ops ≡ pieces_ops ps) × WritesPieces p s bs ps k
