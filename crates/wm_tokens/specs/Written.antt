-- The text of instructions: which tokens write an instruction or a list of instructions. Core spec 6.5.
use Rattle.std.specs.Prelude.{◌≡◌, ℕ, ◌<◌, ◌^◌, ◌⊎◌, List, [], ◌∷◌, ◌++◌, Option, Some, None, codes, length}
use Rattle.std.specs.Prelude.{map, flat_map, slice_get, ℤ}
use Rattle.wm_syntax.specs.Spelling.{Form, Exactly, Each, ◌▸◌, ◌∣◌}
use Rattle.wm_syntax.specs.declared.types.ValType.{ValType}
use Rattle.wm_floats.specs.FloatText.{IsFloat}
use Rattle.wm_syntax.specs.declared.instructions.FloatType.{FloatType}
use Rattle.wm_syntax.specs.declared.instructions.FloatType.TheVariants as float
use Rattle.wm_syntax.specs.declared.instructions.MemArg.{MemArg}
use Rattle.wm_syntax.specs.declared.instructions.Simple.{Simple}
use Rattle.wm_syntax.specs.declared.instructions.Simple.TheVariants.{Br, BrIf, Call, CallIndirect, LocalGet}
use Rattle.wm_syntax.specs.declared.instructions.Simple.TheVariants.{LocalSet, LocalTee, GlobalGet, GlobalSet}
use Rattle.wm_syntax.specs.declared.instructions.Simple.TheVariants.{I32Const, I64Const, F32Const, F64Const}
use Rattle.wm_syntax.specs.declared.instructions.Simple.TheVariants.{Load, Store, MemoryInit, DataDrop}
use Rattle.wm_syntax.specs.declared.instructions.Simple.TheVariants.{TableInit, ElemDrop}
use Rattle.wm_syntax.specs.Types.{Signature, type_text}
use Rattle.wm_syntax.specs.Opcodes.{opcode, load, store}
use Rattle.wm_syntax.specs.Instructions.{Instruction, Instructions, none, snoc, simple, table, block, loop}
use Rattle.wm_syntax.specs.Instructions.{choice}
use Rattle.wm_tokens.specs.Tokens.{Token, open_paren, close_paren, atom, IsUnsigned, IsInteger}
use Rattle.wm_tokens.specs.Identifiers.{Id, Ids, One, WritesId, Resolves, ResolvesLabel}

-- The token of this keyword. Core spec 6.2.2.
abbrev pub Keyword : List ℕ → Form Token
Keyword w = Exactly (atom w ∷ [])

-- An opening parenthesis, a keyword, `P`, and a closing parenthesis.
abbrev pub Paren : List ℕ → Form Token → Form Token
Paren word P = Exactly (open_paren ∷ atom word ∷ []) ▸ P ▸ Exactly (close_paren ∷ [])

abbrev pub Nothing : Form Token
Nothing = Exactly []

abbrev pub UnsignedNumber : ℕ → Form Token
UnsignedNumber = One (IsUnsigned 32)

-- The keyword of a value type. Core spec 6.4.1.
abbrev pub WritesType : ValType → Form Token
WritesType t = Keyword (type_text t)

-- A parameter or a local, with its identifier or none.
abbrev pub Named : Type 0
Named = Id × ValType

-- `( word id type )` for one, or `( word type* )` for several without identifiers.
abbrev pub WritesNamed : List ℕ → List ℕ → ValType → Form Token
WritesNamed word name t = Paren word (WritesId (Some name) ▸ WritesType t)

abbrev pub WritesUnnamed : List ℕ → List ValType → Form Token
WritesUnnamed word ts = Paren word (Each WritesType ts)

abbrev pub WritesGroup : List ℕ → List Named → Form Token
WritesGroup word group k =
    ((name : List ℕ) × (t : ValType) × (group ≡ (Some name, t) ∷ []) × WritesNamed word name t k)
    ⊎ ((ts : List ValType) × (group ≡ map (λ t. (None, t)) ts) × WritesUnnamed word ts k)

-- Any number of such groups.
abbrev pub WritesGroups : List ℕ → List Named → Form Token
WritesGroups word all k = (groups : List (List Named)) × (all ≡ flat_map (λ g. g) groups)
    × Each (WritesGroup word) groups k

abbrev pub WritesResults : List ValType → Form Token
WritesResults results k = (groups : List (List ValType)) × (results ≡ flat_map (λ g. g) groups)
    × Each (WritesUnnamed (codes "result")) groups k

abbrev pub types_of : List Named → List ValType
types_of ps = map (λ p. p.1) ps

abbrev pub ids_of : List Named → Ids
ids_of ps = map (λ p. p.0) ps

-- The definitions of a text: its types, and the identifiers of each index space.
pub record Names : Type 0 where
  pub signatures : List Signature
  pub types : Ids
  pub functions : Ids
  pub tables : Ids
  pub memories : Ids
  pub globals : Ids

-- A type use of the type with index `x`. Written parameters and results are those of the type, or none are
-- written. `params` has as many parameters as the type, with the written identifiers. Core spec 6.6.3.
abbrev pub TypeUse : Names → ℕ → List Named → Form Token
TypeUse names x params k =
    (f : Signature) × (ps : List Named) × (rs : List ValType) × (slice_get names.signatures x ≡ Some f)
    × (Paren (codes "type") (Resolves names.types x) ▸ WritesGroups (codes "param") ps ▸ WritesResults rs) k
    × (((ps ≡ []) × (rs ≡ []) × (params ≡ map (λ t. (None, t)) f.params))
    ⊎ ((types_of ps ≡ f.params) × (rs ≡ f.results) × (params ≡ ps)))

-- The scope of an instruction: the names of the module, and the identifiers of the locals. The identifiers of
-- the open labels, innermost first, are given beside it. Core spec 6.5.
pub record Scope : Type 0 where
  pub names : Names
  pub locals : Ids

-- `offset=N` or `align=N`; nothing if the value is the usual one, which is 0 or the width.
abbrev pub WritesKey : List ℕ → ℕ → ℕ → Form Token
WritesKey key usual n =
    (λ k. (n ≡ usual) × (k ≡ [])) ∣ One (λ n a. (digits : List ℕ) × (a ≡ key ++ digits)
    × IsUnsigned 32 n digits) n

abbrev pub WritesAccess : ℕ → MemArg → Form Token
WritesAccess width at = WritesKey (codes "offset=") 0 at.offset
    ▸ WritesKey (codes "align=") width (2 ^ at.align)

abbrev pub WritesInteger : ℕ → ℤ → Form Token
WritesInteger bits = One (IsInteger bits)

-- A float with these bits.
abbrev pub WritesFloat : FloatType → ℕ → Form Token
WritesFloat w = One (IsFloat w)

-- A type use whose parameters have no identifiers.
abbrev pub UnnamedTypeUse : Names → ℕ → Form Token
UnnamedTypeUse names x k = (ts : List ValType) × TypeUse names x (map (λ t. (None, t)) ts) k

-- The operands of an instruction. A segment is written as its number (WebAssembly 2.0, 6.5.6 and 6.5.7). The table 0 of
-- `table.init` and `table.copy` is not written, which 6.5.6 allows.
abbrev pub WritesOperand : Scope → Ids → Simple → Form Token
WritesOperand s labels (Br l) = ResolvesLabel labels l
WritesOperand s labels (BrIf l) = ResolvesLabel labels l
WritesOperand s labels (Call x) = Resolves s.names.functions x
WritesOperand s labels (CallIndirect x) = UnnamedTypeUse s.names x
WritesOperand s labels (LocalGet x) = Resolves s.locals x
WritesOperand s labels (LocalSet x) = Resolves s.locals x
WritesOperand s labels (LocalTee x) = Resolves s.locals x
WritesOperand s labels (GlobalGet x) = Resolves s.names.globals x
WritesOperand s labels (GlobalSet x) = Resolves s.names.globals x
WritesOperand s labels (MemoryInit x) = UnsignedNumber x
WritesOperand s labels (DataDrop x) = UnsignedNumber x
WritesOperand s labels (TableInit x) = UnsignedNumber x
WritesOperand s labels (ElemDrop x) = UnsignedNumber x
WritesOperand s labels (I32Const n) = WritesInteger 32 n
WritesOperand s labels (I64Const n) = WritesInteger 64 n
WritesOperand s labels (F32Const n) = WritesFloat float.F32 n
WritesOperand s labels (F64Const n) = WritesFloat float.F64 n
WritesOperand s labels (Load op at) = WritesAccess (load op).width at
WritesOperand s labels (Store op at) = WritesAccess (store op).width at
WritesOperand s labels _ = Nothing

abbrev pub WritesSimple : Scope → Ids → Simple → Form Token
WritesSimple s labels i = Keyword (opcode i).1 ▸ WritesOperand s labels i

abbrev pub WritesBlockType : Option ValType → Form Token
WritesBlockType None = Nothing
WritesBlockType (Some t) = Paren (codes "result") (WritesType t)

-- The keyword `else` or `end`, then the identifier of the block, or none. The identifier may also follow the
-- `end` of an `if` without `else`, where Core spec 6.5.2 has none.
abbrev pub Closes : List ℕ → Id → Form Token
Closes word None = Keyword word
Closes word (Some name) = Keyword word ∣ Exactly (atom word ∷ atom name ∷ [])

abbrev pub WritesElse : Id → Instructions → Form Token → Form Token
WritesElse id none written = (Closes (codes "else") id ▸ written) ∣ Nothing
WritesElse id (snoc s i) written = Closes (codes "else") id ▸ written

-- The keyword of a block, its identifier and its type.
abbrev pub Opens : List ℕ → Id → Option ValType → Form Token
Opens word id t = Keyword word ▸ WritesId id ▸ WritesBlockType t

-- A br_table: fewer than 2^32 labels, and then the default.
abbrev pub WritesTable : Ids → List ℕ → ℕ → Form Token
WritesTable labels ls default =
    λ k. (length ls < 2 ^ 32) × (Keyword (codes "br_table") ▸ Each (ResolvesLabel labels) ls
    ▸ ResolvesLabel labels default) k

abbrev mutual
  pub WritesInstruction : Scope → Ids → Instruction → Form Token
  WritesInstruction s labels (simple i) = WritesSimple s labels i
  WritesInstruction s labels (table ls default) = WritesTable labels ls default
  WritesInstruction s labels (block t body) =
      λ k. (id : Id) × (Opens (codes "block") id t ▸ WritesInstructions s (id ∷ labels) body
      ▸ Closes (codes "end") id) k
  WritesInstruction s labels (loop t body) =
      λ k. (id : Id) × (Opens (codes "loop") id t ▸ WritesInstructions s (id ∷ labels) body
      ▸ Closes (codes "end") id) k
  WritesInstruction s labels (choice t first second) =
      λ k. (id : Id) × (Opens (codes "if") id t ▸ WritesInstructions s (id ∷ labels) first
      ▸ WritesElse id second (WritesInstructions s (id ∷ labels) second) ▸ Closes (codes "end") id) k

  pub WritesInstructions : Scope → Ids → Instructions → Form Token
  WritesInstructions s labels none = Nothing
  WritesInstructions s labels (snoc is i) = WritesInstructions s labels is ▸ WritesInstruction s labels i
