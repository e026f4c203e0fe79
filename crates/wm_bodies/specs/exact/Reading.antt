-- Exact answers of the readers of instructions: a value and the tokens after it, or None for a refusal.
use Rattle.std.specs.Prelude.{ℕ, zero, suc, ◌-◌, ◌^◌, ◌==◌, ◌&&◌, not, List, [], ◌∷◌, ◌++◌, Bool, true, false}
use Rattle.std.specs.Prelude.{Option, Some, None, if◌then◌else◌, is_none, length, codes, nat_lt, nat_le, ℤ, pos, neg_ℤ}
use Rattle.std.specs.Prelude.{◌-ℤ◌}
use Rattle.wm_syntax.specs.declared.types.ValType.{ValType}
use Rattle.wm_syntax.specs.declared.types.ValType.TheVariants.{I32, I64, F32, F64}
use Rattle.wm_floats.specs.exact.Atoms.{float_of}
use Rattle.wm_syntax.specs.declared.instructions.FloatType.TheVariants as float
use Rattle.wm_syntax.specs.declared.instructions.MemArg.{MemArg}
use Rattle.wm_syntax.specs.declared.instructions.Simple.{Simple}
use Rattle.wm_syntax.specs.declared.instructions.Simple.TheVariants as s
use Rattle.wm_syntax.specs.declared.instructions.Op.{Op}
use Rattle.wm_syntax.specs.declared.instructions.Op.TheVariants as op
use Rattle.wm_syntax.specs.declared.instructions.op_class.Immediates.{Immediates}
use Rattle.wm_syntax.specs.declared.instructions.op_class.LoadOrStore.TheVariants as accesses
use Rattle.wm_syntax.specs.declared.instructions.op_class.MemoryOp.TheVariants as memory
use Rattle.wm_syntax.specs.declared.instructions.op_class.Indexed.{Indexed}
use Rattle.wm_syntax.specs.declared.instructions.op_class.Indexed.TheVariants as indexed
use Rattle.wm_syntax.specs.declared.instructions.op_class.Immediates.TheVariants as k
use Rattle.wm_syntax.specs.declared.instructions.op_class.OpClass.{OpClass}
use Rattle.wm_syntax.specs.declared.instructions.op_class.OpClass.TheVariants as class
use Rattle.wm_syntax.specs.declared.profile.Profile.{Profile}
use Rattle.wm_syntax.specs.exact.NameTable.{class_named}
use Rattle.wm_syntax.specs.Opcodes.{load, store}
use Rattle.wm_syntax.specs.Profiles.{has, type_feature}
use Rattle.wm_tokens.specs.Tokens.{Token, open_paren, close_paren, atom, is_lower}
use Rattle.wm_tokens.specs.exact.Scan.{magnitude_of, is_nil}
use Rattle.wm_syntax.specs.declared.instructions.op_class.BlockOp.{BlockOp}
use Rattle.wm_tokens.specs.Identifiers.{Id, Ids}
use Rattle.wm_syntax.specs.Types.{type_text}
use Rattle.wm_tokens.specs.Written.{Scope}
use Rattle.wm_bodies.specs.inner.Pieces.{Opened, labels, Piece, plain, jump, opens, middle, closes, after}
use Rattle.wm_bodies.specs.inner.Pieces.{piece_ops}

-- A reader: from tokens to a value and the tokens after it, or None.
abbrev pub Reader : Type 0 → Type 0
Reader X = List Token → Option (X × List Token)

infixl 10 ◌>>=◌
abbrev pub ◌>>=◌ : {A B : Type 0} → Option A → (A → Option B) → Option B
(Some x) >>= f = f x
None >>= f = None

abbrev pub same_bytes : List ℕ → List ℕ → Bool
same_bytes [] [] = true
same_bytes (c ∷ a) (d ∷ b) = (c == d) && same_bytes a b
same_bytes [] (d ∷ b) = false
same_bytes (c ∷ a) [] = false

-- ---- one token
abbrev pub open_at : Reader (Unit {0})
open_at (open_paren ∷ k) = Some (tt, k)
open_at _ = None

abbrev pub close_at : Reader (Unit {0})
close_at (close_paren ∷ k) = Some (tt, k)
close_at _ = None

abbrev pub atom_at : {X : Type 0} → (List ℕ → Option X) → Reader X
atom_at read (atom a ∷ k) = read a >>= λ x. Some (x, k)
atom_at read _ = None

abbrev pub word_of : List ℕ → List ℕ → Option (Unit {0})
word_of w a = if same_bytes a w then Some tt else None

abbrev pub unsigned_of : List ℕ → Option ℕ
unsigned_of a = magnitude_of a >>= λ n. if nat_lt n 0x1_0000_0000 then Some n else None

-- An integer literal of N bits without a sign, with plus, or with minus. `whole` is 2^N, `half` is 2^(N-1).
-- Without a sign, a number from `half` up to `whole` means itself minus `whole` (Core spec 6.3.1).
abbrev pub plain_of : ℕ → ℕ → List ℕ → Option ℤ
plain_of half whole a = magnitude_of a >>= λ n. if nat_lt n half then Some (pos n)
    else if nat_lt n whole then Some (pos n -ℤ pos whole) else None

abbrev pub plus_of : ℕ → List ℕ → Option ℤ
plus_of half a = magnitude_of a >>= λ n. if nat_lt n half then Some (pos n) else None

abbrev pub minus_of : ℕ → List ℕ → Option ℤ
minus_of half a = magnitude_of a >>= λ n. if nat_le n half then Some (neg_ℤ (pos n)) else None

abbrev pub integer_by : ℕ → ℕ → List ℕ → Option ℤ
integer_by half whole [] = None
integer_by half whole (c ∷ a) = if c == 43 then plus_of half a else if c == 45 then minus_of half a
    else plain_of half whole (c ∷ a)

unfoldable pub integer_of : ℕ → List ℕ → Option ℤ
integer_of bits a = integer_by (2 ^ (bits - 1)) (2 ^ bits) a

abbrev pub type_named : List ℕ → Option ValType
type_named a =
    if same_bytes a (type_text I32) then Some I32 else if same_bytes a (type_text I64) then Some I64
    else if same_bytes a (type_text F32) then Some F32 else if same_bytes a (type_text F64) then Some F64
    else None

-- The value type that an atom names, if the profile has it.
abbrev pub type_of : Profile → List ℕ → Option ValType
type_of p a = type_named a >>= λ t. if has p (type_feature t) then Some t else None

abbrev pub is_id : List ℕ → Bool
is_id [] = false
is_id (c ∷ a) = (c == 36) && not (is_nil a)

abbrev pub is_word : List ℕ → Bool
is_word [] = false
is_word (c ∷ a) = is_lower c

-- ---- combinations of readers
abbrev pub then_at : {X Y : Type 0} → Reader X → Reader Y → Reader (X × Y)
then_at r s k = r k >>= λ x. s x.1 >>= λ y. Some ((x.0, y.0), y.1)

abbrev pub paren_at : {X : Type 0} → List ℕ → Reader X → Reader X
paren_at word r k =
    open_at k >>= λ o. atom_at (word_of word) o.1 >>= λ w. r w.1 >>= λ x. close_at x.1
    >>= λ c. Some (x.0, c.1)

-- Reads while `goes` holds, fewer than `n` times; None where it would need more.
abbrev pub many_at : {X : Type 0} → ℕ → (List Token → Bool) → Reader X → Reader (List X)
many_at zero goes r k = None
many_at (suc n) goes r k =
    if goes k then (r k >>= λ x. many_at n goes r x.1 >>= λ xs. Some (x.0 ∷ xs.0, xs.1)) else Some ([], k)

abbrev pub made : {X Y : Type 0} → (X → Y) → Option (X × List Token) → Option (Y × List Token)
made f o = o >>= λ x. Some (f x.0, x.1)

-- An optional identifier.
abbrev pub id_at : Reader Id
id_at (atom a ∷ k) = if is_id a then Some (Some a, k) else Some (None, atom a ∷ k)
id_at k = Some (None, k)

-- The index of the first item with an identifier.
abbrev pub place_of : Ids → List ℕ → Option ℕ
place_of [] name = None
place_of (None ∷ ids) name = place_of ids name >>= λ x. Some (suc x)
place_of (Some a ∷ ids) name = if same_bytes a name then Some 0 else (place_of ids name >>= λ x. Some (suc x))

-- No item of the space has this identifier; true for None.
abbrev pub is_new : Ids → Id → Bool
is_new seen None = true
is_new seen (Some a) = is_none (place_of seen a)

-- Positions of 2^32 and more are no indices and no depths.
abbrev pub small_place : Option ℕ → Option ℕ
small_place place = place >>= λ x. if nat_lt x 0x1_0000_0000 then Some x else None

abbrev pub index_of : Ids → List ℕ → Option ℕ
index_of ids a = if is_id a then small_place (place_of ids a) else unsigned_of a

-- The rest of an atom after a key such as offset=.
abbrev pub after_key : List ℕ → List ℕ → Option (List ℕ)
after_key [] a = Some a
after_key (c ∷ key) [] = None
after_key (c ∷ key) (d ∷ a) = if c == d then after_key key a else None

abbrev pub key_by : ℕ → Option (List ℕ) → List ℕ → Reader ℕ
key_by usual None a k = Some (usual, atom a ∷ k)
key_by usual (Some digits) a k = unsigned_of digits >>= λ n. Some (n, k)

abbrev pub key_at : List ℕ → ℕ → Reader ℕ
key_at key usual (atom a ∷ k) = key_by usual (after_key key a) a k
key_at key usual k = Some (usual, k)

-- The exponent of a power of two, if it is below the bound.
abbrev pub exponent_below : ℕ → ℕ → Option ℕ
exponent_below zero n = None
exponent_below (suc e) n = if 2 ^ e == n then Some e else exponent_below e n

unfoldable pub exponent_of : ℕ → Option ℕ
exponent_of n = exponent_below 32 n

abbrev pub align_at : ℕ → Reader ℕ
align_at width k = key_at (codes "align=") width k >>= λ x. exponent_of x.0 >>= λ e. Some (e, x.1)

abbrev pub memarg : ℕ × ℕ → MemArg
memarg x = record { align = x.1; offset = x.0 }

abbrev pub access_at : ℕ → Reader MemArg
access_at width k = made memarg (then_at (key_at (codes "offset=") 0) (align_at width) k)

-- The optional result type of a block (Core spec 6.4.2, 6.5.2).
abbrev pub block_type_at : Profile → Reader (Option ValType)
block_type_at p (open_paren ∷ k) =
    made Some (paren_at (codes "result") (atom_at (type_of p)) (open_paren ∷ k))
block_type_at p k = Some (None, k)

-- The identifier of a block, optionally repeated after its else or end.
abbrev pub is_same_id : Id → List ℕ → Bool
is_same_id None a = false
is_same_id (Some name) a = same_bytes a name

abbrev pub again_at : Id → Reader (Unit {0})
again_at id (atom a ∷ k) = if is_id a then (if is_same_id id a then Some (tt, k) else None)
    else Some (tt, atom a ∷ k)
again_at id k = Some (tt, k)

-- ---- the labels of a br_table, of which the last is the default
abbrev pub begins_index : List Token → Bool
begins_index (atom a ∷ k) = not (is_word a)
begins_index _ = false

abbrev pub split_last : List ℕ → Option (List ℕ × ℕ)
split_last [] = None
split_last (x ∷ []) = Some ([], x)
split_last (x ∷ y ∷ ys) = split_last (y ∷ ys) >>= λ r. Some (x ∷ r.0, r.1)

abbrev pub labels_at : Ids → Reader (List ℕ)
labels_at ids (atom a ∷ k) = if is_word a then Some ([], atom a ∷ k)
    else (index_of ids a >>= λ x. labels_at ids k >>= λ xs. Some (x ∷ xs.0, xs.1))
labels_at ids k = Some ([], k)

-- At most `most` labels.
abbrev pub few_labels_at : Ids → ℕ → Reader (List ℕ)
few_labels_at ids most k = labels_at ids k >>= λ x. if nat_lt most (length x.0) then None else Some x

abbrev pub table_of : List ℕ → Option Piece
table_of ls = split_last ls >>= λ r. if nat_lt (length r.0) 0x1_0000_0000 then Some (jump r.0 r.1) else None

abbrev pub table_at : Ids → Reader Piece
table_at ids k = labels_at ids k >>= λ x. table_of x.0 >>= λ p. Some (p, x.1)

-- An else needs an open `if` without one; an end needs an open block.
abbrev pub middle_at : Opened → Reader Piece
middle_at [] k = None
middle_at (b ∷ bs) k = if b.may_else then made (λ x. middle) (again_at b.id k) else None

abbrev pub closes_at : Opened → Reader Piece
closes_at [] k = None
closes_at (b ∷ bs) k = made (λ x. closes) (again_at b.id k)

abbrev pub simple_at : {X : Type 0} → (X → Simple) → Reader X → Reader Piece
simple_at f r k = made (λ x. plain (f x)) (r k)

abbrev pub opens_at : Profile → BlockOp → Reader Piece
opens_at p o k = made (λ x. opens o x.0 x.1) (then_at id_at (block_type_at p) k)

-- The reader of the immediate of an instruction with one number.
abbrev pub index_at : Scope → Opened → Indexed → Reader Piece
index_at sc bs indexed.Br = simple_at s.Br (atom_at (index_of (labels bs)))
index_at sc bs indexed.BrIf = simple_at s.BrIf (atom_at (index_of (labels bs)))
index_at sc bs indexed.BrTable = table_at (labels bs)
index_at sc bs indexed.Call = simple_at s.Call (atom_at (index_of sc.names.functions))
index_at sc bs indexed.LocalGet = simple_at s.LocalGet (atom_at (index_of sc.locals))
index_at sc bs indexed.LocalSet = simple_at s.LocalSet (atom_at (index_of sc.locals))
index_at sc bs indexed.LocalTee = simple_at s.LocalTee (atom_at (index_of sc.locals))
index_at sc bs indexed.GlobalGet = simple_at s.GlobalGet (atom_at (index_of sc.names.globals))
index_at sc bs indexed.GlobalSet = simple_at s.GlobalSet (atom_at (index_of sc.names.globals))
index_at sc bs indexed.DataDrop = simple_at s.DataDrop (atom_at unsigned_of)
index_at sc bs indexed.ElemDrop = simple_at s.ElemDrop (atom_at unsigned_of)

-- The reader of the operand of an integer constant, and of an instruction on a whole memory, table or segment.
abbrev pub operand_at : Immediates → Reader Piece
operand_at k.MemoryInit = simple_at s.MemoryInit (atom_at unsigned_of)
operand_at k.TableInit = simple_at s.TableInit (atom_at unsigned_of)
operand_at k.TableCopy = λ t. Some (plain s.TableCopy, t)
operand_at (k.Memory memory.MemorySize) = λ t. Some (plain s.MemorySize, t)
operand_at (k.Memory memory.MemoryGrow) = λ t. Some (plain s.MemoryGrow, t)
operand_at (k.Memory memory.MemoryCopy) = λ t. Some (plain s.MemoryCopy, t)
operand_at (k.Memory memory.MemoryFill) = λ t. Some (plain s.MemoryFill, t)
operand_at k.I32Const = simple_at s.I32Const (atom_at (integer_of 32))
operand_at k.I64Const = simple_at s.I64Const (atom_at (integer_of 64))
operand_at _ = λ t. None

-- The reader of the operand of a float constant, a load or a store.
abbrev pub float_or_access_at : Immediates → Reader Piece
float_or_access_at k.F32Const = simple_at s.F32Const (atom_at (float_of float.F32))
float_or_access_at k.F64Const = simple_at s.F64Const (atom_at (float_of float.F64))
float_or_access_at (k.Access (accesses.Load o)) = simple_at (s.Load o) (access_at (load o).width)
float_or_access_at (k.Access (accesses.Store o)) = simple_at (s.Store o) (access_at (store o).width)
float_or_access_at _ = λ t. None

-- The reader of a call_indirect's type use is a parameter: `TypeUses.antt` has it.
module _ (use_at : Reader ℕ) where
  abbrev pub kind_at : Profile → Scope → Opened → Immediates → Reader Piece
  kind_at p sc bs (k.Block o) = opens_at p o
  kind_at p sc bs (k.Index o) = index_at sc bs o
  kind_at p sc bs k.CallIndirect = simple_at s.CallIndirect use_at
  kind_at p sc bs k.F32Const = float_or_access_at k.F32Const
  kind_at p sc bs k.F64Const = float_or_access_at k.F64Const
  kind_at p sc bs (k.Access a) = float_or_access_at (k.Access a)
  kind_at p sc bs kind = operand_at kind

  abbrev pub class_at : Profile → Scope → Opened → OpClass → Reader Piece
  class_at p sc bs (class.Plain (op.Simple i)) = λ k. Some (plain i, k)
  class_at p sc bs (class.Plain op.Else) = middle_at bs
  class_at p sc bs (class.Plain op.End) = closes_at bs
  class_at p sc bs (class.Plain _) = λ k. None
  class_at p sc bs (class.With kind) = kind_at p sc bs kind
  class_at p sc bs class.Float = λ k. None
  class_at p sc bs class.None = λ k. None

  -- A piece after its keyword `w`.
  unfoldable pub piece_at : Profile → Scope → Opened → List ℕ → Reader Piece
  piece_at p sc bs w = class_at p sc bs (class_named p w)

  -- The ops of pieces up to the parenthesis that closes the function, by recursion on a bound.
  abbrev pub ops_within : Profile → Scope → ℕ → Opened → Reader (List Op)
  ops_within p sc zero bs k = None
  ops_within p sc (suc n) bs (atom w ∷ k) =
      piece_at p sc bs w k >>= λ x. ops_within p sc n (after bs x.0) x.1
      >>= λ y. Some (piece_ops x.0 ++ y.0, y.1)
  ops_within p sc (suc n) [] (close_paren ∷ k) = Some ([], close_paren ∷ k)
  ops_within p sc (suc n) _ _ = None

  unfoldable pub ops_at : Profile → Scope → Opened → Reader (List Op)
  ops_at p sc bs k = ops_within p sc (suc (length k)) bs k
