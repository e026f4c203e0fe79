-- A property of the tokens that write any part of a module. It must hold of single tokens, and be kept where token
-- lists are joined or put in parentheses.
use Rattle.std.proofs.Common.{◌≡◌, ℕ, Bool, true, false, List, [], ◌∷◌, ◌++◌, Option, Some, None, refl, sym, ap, subst, ◌∙◌, inl, inr}
use Rattle.wm_tokens.specs.Fields.{WritesMode}
use Rattle.wm_syntax.specs.Profiles.{HasMode}
use Rattle.wm_syntax.specs.declared.modules.SegmentMode.TheVariants.{Passive, Active}
use Rattle.wm_syntax.specs.declared.modules.SegmentMode.{SegmentMode}
use Rattle.std.specs.Prelude.{◌^◌, ℤ, IsTrue, codes, map}
use Rattle.wm_syntax.specs.Spelling.{Form, Exactly, Each, ◌▸◌, ◌∣◌}
use Rattle.wm_syntax.specs.declared.types.ValType.{ValType}
use Rattle.wm_syntax.specs.declared.types.ValType.TheVariants as val
use Rattle.wm_syntax.specs.declared.types.Const.{Const}
use Rattle.wm_syntax.specs.declared.types.Limits.{Limits}
use Rattle.wm_syntax.specs.declared.instructions.MemArg.{MemArg}
use Rattle.wm_syntax.specs.declared.instructions.Simple.{Simple}
use Rattle.wm_syntax.specs.declared.instructions.Simple.TheVariants.{Unreachable, Nop, Return, Drop, Select, Br, BrIf, Call, CallIndirect, LocalGet, LocalSet, LocalTee, GlobalGet, GlobalSet, MemorySize, MemoryGrow, MemoryCopy, MemoryFill, MemoryInit, DataDrop, TableInit, ElemDrop, TableCopy, I32Const, I64Const, F32Const, F64Const, Load, Store, Numeric}
use Rattle.wm_syntax.specs.declared.modules.ExportKind.{ExportKind}
use Rattle.wm_syntax.specs.declared.modules.ExportKind.TheVariants as kind
use Rattle.wm_syntax.specs.declared.profile.Profile.{Profile}
use Rattle.wm_syntax.specs.declared.profile.Feature.TheVariants.{Floats}
use Rattle.wm_syntax.specs.Instructions.{Instruction, Instructions, none, snoc, simple, table, block, loop, choice}
use Rattle.wm_syntax.specs.Modules.{Export, Element, Segment, constant}
use Rattle.wm_syntax.specs.Opcodes.{opcode, load, store}
use Rattle.wm_syntax.specs.Profiles.{has, HasSimple, HasConst, HasInstruction, HasInstructions}
use Rattle.wm_tokens.specs.Tokens.{Token, open_paren, close_paren, string, atom, IsIdentifier, IsInteger, IsNumber, IsUnsigned}
use Rattle.wm_tokens.specs.Identifiers.{Id, Ids, One, IsIndex, IsLabel, WritesId, Resolves, ResolvesLabel}
use Rattle.wm_syntax.specs.Types.{type_text}
use Rattle.wm_tokens.specs.Written.{Keyword, Nothing, Paren, UnsignedNumber, WritesType, Named, WritesGroup, WritesGroups, WritesUnnamed, WritesResults, Names, TypeUse, Scope, WritesKey, WritesAccess, WritesOperand, WritesSimple, WritesBlockType, Closes, WritesElse, Opens, WritesTable, WritesInstruction, WritesInstructions}
use Rattle.wm_tokens.specs.Fields.{WritesName, WritesMax, WritesLimits, WritesTableType, WritesGlobalType, WritesConst, WritesExport, WritesStrings, WritesOffset, WritesFolded, WritesTarget, WritesFunctions}
use Rattle.wm_bodies.specs.exact.Reading.{is_word}
use Rattle.wm_bodies.proofs.PieceLaws.{simple_word}

-- B is the property of token lists, and A that of atoms: keywords, identifiers and numbers.
pub record Closed (B : List Token → Type 0) (A : List ℕ → Type 0) : Type 0 where
  pub nil : B []
  pub join : (f g : List Token) → B f → B g → B (f ++ g)
  pub one : (a : List ℕ) → A a → B (atom a ∷ [])
  pub text : (b : List ℕ) → B (string b ∷ [])
  pub paren : (w : List ℕ) (f : List Token) → A w → B f → B (open_paren ∷ atom w ∷ (f ++ close_paren ∷ []))
  pub word : (w : List ℕ) → is_word w ≡ true → A w
  pub identifier : (a : List ℕ) → IsIdentifier a → A a
  pub number : (a : List ℕ) → IsNumber a → A a

-- A text of the profile has float literals only if the profile has floats.
module _ (B : List Token → Type 0) (A : List ℕ → Type 0) (c : Closed B A) (p : Profile) (float : IsTrue (has p Floats) → (a : List ℕ) → A a) where
  abbrev Keeps : Form Token → Type 0
  Keeps P = (f : List Token) → P f → B f

  -- ---- forms in general

  pub keeps_then : (P Q : Form Token) → Keeps P → Keeps Q → Keeps (P ▸ Q)
  keeps_then P Q p q f (x, y, e, a, b) = subst B (sym e) (c.join x y (p x a) (q y b))

  keeps_nil : Keeps (Exactly [])
  keeps_nil f e = subst B (sym e) c.nil

  keeps_each : {X : Type 0} (P : X → Form Token) → ((x : X) → Keeps (P x)) → (xs : List X) → Keeps (Each P xs)
  keeps_each P p [] f e = keeps_nil f e
  keeps_each P p (x ∷ xs) f h = keeps_then (P x) (Each P xs) (p x) (keeps_each P p xs) f h

  keeps_atom : (a : List ℕ) → A a → (f : List Token) → f ≡ atom a ∷ [] → B f
  keeps_atom a is f e = subst B (sym e) (c.one a is)

  keeps_word : (w : List ℕ) → is_word w ≡ true → Keeps (Keyword w)
  keeps_word w is = keeps_atom w (c.word w is)

  keeps_one : {X : Type 0} (P : X → List ℕ → Type 0) (x : X) → ((a : List ℕ) → P x a → A a) → Keeps (One P x)
  keeps_one P x is f (a, e, h) = keeps_atom a (is a h) f e

  pub keeps_paren : (w : List ℕ) → is_word w ≡ true → (P : Form Token) → Keeps P → Keeps (Paren w P)
  keeps_paren w word P p f (a, b, e, is, (x, y, e2, h, last)) =
      let text : f ≡ open_paren ∷ atom w ∷ (x ++ close_paren ∷ []) =
      e ∙ ap (λ (z : List Token). z ++ b) is ∙ ap (λ (z : List Token). open_paren ∷ atom w ∷ z) (e2 ∙ ap (λ (z : List Token). x ++ z) last) in
      subst B (sym text) (c.paren w x (c.word w word) (p x h))

  -- ---- numbers, identifiers, types, type uses

  unsigned : (bits n : ℕ) (a : List ℕ) → IsUnsigned bits n a → A a
  unsigned bits n a h = c.number a (n, inl h.1)

  integer : (bits : ℕ) (z : ℤ) (a : List ℕ) → IsInteger bits z a → A a
  integer bits z a (n, inl (lt, is, h)) = c.number a (n, inl h)
  integer bits z a (n, inr (inl (le, lt, is, h))) = c.number a (n, inl h)
  integer bits z a (n, inr (inr (inl (lt, is, h)))) = c.number a (n, inr (inl h))
  integer bits z a (n, inr (inr (inr (lt, is, h)))) = c.number a (n, inr (inr h))

  pub keeps_id : (id : Id) → Keeps (WritesId id)
  keeps_id None f e = keeps_nil f e
  keeps_id (Some name) f (i, e) = keeps_atom name (c.identifier name i) f e

  keeps_type : (t : ValType) → Keeps (WritesType t)
  keeps_type t = keeps_word (type_text t) (is t)
    where
      is : (t : ValType) → is_word (type_text t) ≡ true
      is val.I32 = refl
      is val.I64 = refl
      is val.F32 = refl
      is val.F64 = refl

  keeps_unnamed : (w : List ℕ) → is_word w ≡ true → (ts : List ValType) → Keeps (WritesUnnamed w ts)
  keeps_unnamed w word ts = keeps_paren w word (Each WritesType ts) (keeps_each WritesType keeps_type ts)

  keeps_group : (w : List ℕ) → is_word w ≡ true → (g : List Named) → Keeps (WritesGroup w g)
  keeps_group w word g f (inl (name, t, e, h)) =
      keeps_paren w word (WritesId (Some name) ▸ WritesType t) (keeps_then (WritesId (Some name)) (WritesType t) (keeps_id (Some name)) (keeps_type t)) f h
  keeps_group w word g f (inr (ts, e, h)) = keeps_unnamed w word ts f h

  pub keeps_groups : (w : List ℕ) → is_word w ≡ true → (all : List Named) → Keeps (WritesGroups w all)
  keeps_groups w word all f (groups, e, h) = keeps_each (WritesGroup w) (keeps_group w word) groups f h

  pub keeps_results : (rs : List ValType) → Keeps (WritesResults rs)
  keeps_results rs f (groups, e, h) = keeps_each (WritesUnnamed (codes "result")) (keeps_unnamed (codes "result") refl) groups f h

  pub keeps_index : (ids : Ids) (x : ℕ) → Keeps (Resolves ids x)
  keeps_index ids x = keeps_one (IsIndex ids) x is
    where
      is : (a : List ℕ) → IsIndex ids x a → A a
      is a (lt, inl h) = unsigned 32 x a h
      is a (lt, inr h) = c.identifier a h.0

  keeps_label : (ids : Ids) (l : ℕ) → Keeps (ResolvesLabel ids l)
  keeps_label ids l = keeps_one (IsLabel ids) l is
    where
      is : (a : List ℕ) → IsLabel ids l a → A a
      is a (lt, inl h) = unsigned 32 l a h
      is a (lt, inr h) = c.identifier a h.0

  pub keeps_use : (names : Names) (x : ℕ) (params : List Named) → Keeps (TypeUse names x params)
  keeps_use names x params f (g, ps, rs, look, h, which) =
      keeps_then (Paren (codes "type") (Resolves names.types x)) (WritesGroups (codes "param") ps ▸ WritesResults rs)
      (keeps_paren (codes "type") refl (Resolves names.types x) (keeps_index names.types x))
      (keeps_then (WritesGroups (codes "param") ps) (WritesResults rs) (keeps_groups (codes "param") refl ps) (keeps_results rs)) f h

  -- ---- instructions

  keeps_key : (key : List ℕ) → ((b : List ℕ) → is_word (key ++ b) ≡ true) → (usual n : ℕ) → Keeps (WritesKey key usual n)
  keeps_key key word usual n f (inl (e, h)) = keeps_nil f h
  keeps_key key word usual n f (inr (a, e, (digits, is, h))) = keeps_atom a (c.word a (ap is_word is ∙ word digits)) f e

  keeps_access : (width : ℕ) (at : MemArg) → Keeps (WritesAccess width at)
  keeps_access width at f (x, y, e, a, b) =
      subst B (sym e) (c.join x y (keeps_key (codes "offset=") (λ d. refl) 0 at.offset x a) (keeps_key (codes "align=") (λ d. refl) width (2 ^ at.align) y b))

  keeps_operand : (s : Scope) (labels : Ids) (i : Simple) → HasSimple p i → Keeps (WritesOperand s labels i)
  keeps_operand s labels Unreachable has = keeps_nil
  keeps_operand s labels Nop has = keeps_nil
  keeps_operand s labels Return has = keeps_nil
  keeps_operand s labels Drop has = keeps_nil
  keeps_operand s labels Select has = keeps_nil
  keeps_operand s labels (Br l) has = keeps_label labels l
  keeps_operand s labels (BrIf l) has = keeps_label labels l
  keeps_operand s labels (Call x) has = keeps_index s.names.functions x
  keeps_operand s labels (CallIndirect x) has = λ f h. keeps_use s.names x _ f h.1
  keeps_operand s labels (LocalGet x) has = keeps_index s.locals x
  keeps_operand s labels (LocalSet x) has = keeps_index s.locals x
  keeps_operand s labels (LocalTee x) has = keeps_index s.locals x
  keeps_operand s labels (GlobalGet x) has = keeps_index s.names.globals x
  keeps_operand s labels (GlobalSet x) has = keeps_index s.names.globals x
  keeps_operand s labels MemorySize has = keeps_nil
  keeps_operand s labels MemoryGrow has = keeps_nil
  keeps_operand s labels (MemoryInit x) has = keeps_one (IsUnsigned 32) x (unsigned 32 x)
  keeps_operand s labels (DataDrop x) has = keeps_one (IsUnsigned 32) x (unsigned 32 x)
  keeps_operand s labels (TableInit x) has = keeps_one (IsUnsigned 32) x (unsigned 32 x)
  keeps_operand s labels (ElemDrop x) has = keeps_one (IsUnsigned 32) x (unsigned 32 x)
  keeps_operand s labels TableCopy has = keeps_nil
  keeps_operand s labels MemoryCopy has = keeps_nil
  keeps_operand s labels MemoryFill has = keeps_nil
  keeps_operand s labels (I32Const n) has = λ f h. keeps_atom h.0 (integer 32 n h.0 h.2) f h.1
  keeps_operand s labels (I64Const n) has = λ f h. keeps_atom h.0 (integer 64 n h.0 h.2) f h.1
  keeps_operand s labels (F32Const n) has = λ f h. keeps_atom h.0 (float has h.0) f h.1
  keeps_operand s labels (F64Const n) has = λ f h. keeps_atom h.0 (float has h.0) f h.1
  keeps_operand s labels (Load op at) has = keeps_access (load op).width at
  keeps_operand s labels (Store op at) has = keeps_access (store op).width at
  keeps_operand s labels (Numeric op) has = keeps_nil

  keeps_simple : (s : Scope) (labels : Ids) (i : Simple) → HasSimple p i → Keeps (WritesSimple s labels i)
  keeps_simple s labels i has =
      keeps_then (Keyword (opcode i).1) (WritesOperand s labels i) (keeps_word (opcode i).1 (simple_word i).0) (keeps_operand s labels i has)

  keeps_block_type : (t : Option ValType) → Keeps (WritesBlockType t)
  keeps_block_type None = keeps_nil
  keeps_block_type (Some t) = keeps_paren (codes "result") refl (WritesType t) (keeps_type t)

  keeps_opens : (w : List ℕ) → is_word w ≡ true → (id : Id) (t : Option ValType) → Keeps (Opens w id t)
  keeps_opens w word id t =
      keeps_then (Keyword w) (WritesId id ▸ WritesBlockType t) (keeps_word w word) (keeps_then (WritesId id) (WritesBlockType t) (keeps_id id) (keeps_block_type t))

  -- the identifier that a block has
  abbrev IsName : Id → Type 0
  IsName id = (name : List ℕ) → id ≡ Some name → A name

  opened_name : (w : List ℕ) (id : Id) (t : Option ValType) (f : List Token) → Opens w id t f → IsName id
  opened_name w id t f (x, y, e, word, (u, v, e2, written, type)) name is =
      c.identifier name (subst (λ (id : Id). WritesId id u) is written).0

  keeps_closes : (w : List ℕ) → is_word w ≡ true → (id : Id) → IsName id → Keeps (Closes w id)
  keeps_closes w word None is f h = keeps_word w word f h
  keeps_closes w word (Some name) is f (inl h) = keeps_word w word f h
  keeps_closes w word (Some name) is f (inr h) =
      subst B (sym h) (c.join (atom w ∷ []) (atom name ∷ []) (c.one w (c.word w word)) (c.one name (is name refl)))

  keeps_else : (id : Id) → IsName id → (is : Instructions) (P : Form Token) → Keeps P → Keeps (WritesElse id is P)
  keeps_else id name none P p f (inl h) = keeps_then (Closes (codes "else") id) P (keeps_closes (codes "else") refl id name) p f h
  keeps_else id name none P p f (inr h) = keeps_nil f h
  keeps_else id name (snoc is i) P p f h = keeps_then (Closes (codes "else") id) P (keeps_closes (codes "else") refl id name) p f h

  keeps_table : (labels : Ids) (ls : List ℕ) (default : ℕ) → Keeps (WritesTable labels ls default)
  keeps_table labels ls default f (lt, h) =
      keeps_then (Keyword (codes "br_table")) (Each (ResolvesLabel labels) ls ▸ ResolvesLabel labels default) (keeps_word (codes "br_table") refl)
      (keeps_then (Each (ResolvesLabel labels) ls) (ResolvesLabel labels default) (keeps_each (ResolvesLabel labels) (keeps_label labels) ls) (keeps_label labels default)) f h

  -- a block from its word to its end
  keeps_block : (w : List ℕ) → is_word w ≡ true → (id : Id) (t : Option ValType) (P : Form Token) → (IsName id → Keeps P) → Keeps (Opens w id t ▸ P ▸ Closes (codes "end") id)
  keeps_block w word id t P p f (a, b, e, o, h) =
      let name = opened_name w id t a o in
      let inner = keeps_then P (Closes (codes "end") id) (p name) (keeps_closes (codes "end") refl id name) b h in
      subst B (sym e) (c.join a b (keeps_opens w word id t a o) inner)

  mutual
    keeps_instruction : (s : Scope) (labels : Ids) (i : Instruction) → HasInstruction p i → Keeps (WritesInstruction s labels i)
    keeps_instruction s labels (simple i) has f h = keeps_simple s labels i has f h
    keeps_instruction s labels (table ls default) has f h = keeps_table labels ls default f h
    keeps_instruction s labels (block t body) has f (id, h) =
        keeps_block (codes "block") refl id t (WritesInstructions s (id ∷ labels) body) (λ name. keeps_instructions s (id ∷ labels) body has.1) f h
    keeps_instruction s labels (loop t body) has f (id, h) =
        keeps_block (codes "loop") refl id t (WritesInstructions s (id ∷ labels) body) (λ name. keeps_instructions s (id ∷ labels) body has.1) f h
    keeps_instruction s labels (choice t first second) has f (id, (a, b, e, o, (x, y, e2, one, (u, v, e3, other, close)))) =
        let name = opened_name (codes "if") id t a o in
        let two = keeps_else id name second (WritesInstructions s (id ∷ labels) second) (keeps_instructions s (id ∷ labels) second has.2) u other in
        let end = c.join u v two (keeps_closes (codes "end") refl id name v close) in
        let inner = c.join x y (keeps_instructions s (id ∷ labels) first has.1 x one) (subst B (sym e3) end) in
        subst B (sym e) (c.join a b (keeps_opens (codes "if") refl id t a o) (subst B (sym e2) inner))

    pub keeps_instructions : (s : Scope) (labels : Ids) (is : Instructions) → HasInstructions p is → Keeps (WritesInstructions s labels is)
    keeps_instructions s labels none has f h = keeps_nil f h
    keeps_instructions s labels (snoc is i) has f (x, y, e, a, b) =
        subst B (sym e) (c.join x y (keeps_instructions s labels is has.0 x a) (keeps_instruction s labels i has.1 y b))

  -- ---- parts of fields

  pub keeps_limits : (l : Limits) → Keeps (WritesLimits l)
  keeps_limits l = keeps_then (UnsignedNumber l.min) (WritesMax l.max) (keeps_one (IsUnsigned 32) l.min (unsigned 32 l.min)) (most l.max)
    where
      most : (max : Option ℕ) → Keeps (WritesMax max)
      most None = keeps_nil
      most (Some max) = keeps_one (IsUnsigned 32) max (unsigned 32 max)

  pub keeps_table_type : (l : Limits) → Keeps (WritesTableType l)
  keeps_table_type l = keeps_then (WritesLimits l) (Keyword (codes "funcref")) (keeps_limits l) (keeps_word (codes "funcref") refl)

  pub keeps_global_type : (var : Bool) (t : ValType) → Keeps (WritesGlobalType var t)
  keeps_global_type false t = keeps_type t
  keeps_global_type true t = keeps_paren (codes "mut") refl (WritesType t) (keeps_type t)

  keeps_folded : (names : Names) (x : Const) → HasConst p x → Keeps (WritesFolded names x)
  keeps_folded names x has =
      keeps_paren (opcode (constant x)).1 (simple_word (constant x)).0 (WritesOperand (record { names = names; locals = [] }) [] (constant x))
      (keeps_operand (record { names = names; locals = [] }) [] (constant x) has)

  pub keeps_const : (names : Names) (x : Const) → HasConst p x → Keeps (WritesConst names x)
  keeps_const names x has f (inl h) = keeps_simple (record { names = names; locals = [] }) [] (constant x) has f h
  keeps_const names x has f (inr h) = keeps_folded names x has f h

  pub keeps_name : (name : List ℕ) → Keeps (WritesName name)
  keeps_name name f (u, e) = subst B (sym e) (c.text name)

  keeps_exported : (names : Names) (kind : ExportKind) (x : ℕ) → Keeps (WritesExport names kind x)
  keeps_exported names kind.Func x = keeps_paren (codes "func") refl (Resolves names.functions x) (keeps_index names.functions x)
  keeps_exported names kind.Table x = keeps_paren (codes "table") refl (Resolves names.tables x) (keeps_index names.tables x)
  keeps_exported names kind.Memory x = keeps_paren (codes "memory") refl (Resolves names.memories x) (keeps_index names.memories x)
  keeps_exported names kind.Global x = keeps_paren (codes "global") refl (Resolves names.globals x) (keeps_index names.globals x)

  -- strings, however they are cut
  keeps_strings : (bytes : List ℕ) → Keeps (WritesStrings bytes)
  keeps_strings bytes f (items, e, h) = subst B (sym h) (by items)
    where
      by : (items : List (List ℕ)) → B (map string items)
      by [] = c.nil
      by (b ∷ items) = c.join (string b ∷ []) (map string items) (c.text b) (by items)

  keeps_offset : (names : Names) (x : Const) → HasConst p x → Keeps (WritesOffset names x)
  keeps_offset names x has f (inl h) = keeps_paren (codes "offset") refl (WritesConst names x) (keeps_const names x has) f h
  keeps_offset names x has f (inr h) = keeps_folded names x has f h

  keeps_target : (ids : Ids) (x : ℕ) → Keeps (WritesTarget ids x)
  keeps_target ids x f (inl h) = keeps_index ids x f h
  keeps_target ids x f (inr (first, (own, free, h))) = keeps_id own f h

  keeps_functions : (ids : Ids) (d : SegmentMode) (xs : List ℕ) → Keeps (WritesFunctions ids d xs)
  keeps_functions ids Passive xs = keeps_then (Keyword (codes "func")) (Each (Resolves ids) xs) (keeps_word (codes "func") refl) (keeps_each (Resolves ids) (keeps_index ids) xs)
  keeps_functions ids (Active x offset) xs = keeps_then (Nothing ∣ Keyword (codes "func")) (Each (Resolves ids) xs) word (keeps_each (Resolves ids) (keeps_index ids) xs)
    where
      word : Keeps (Nothing ∣ Keyword (codes "func"))
      word f (inl h) = keeps_nil f h
      word f (inr h) = keeps_word (codes "func") refl f h

  keeps_mode : (names : Names) (ids : Ids) (d : SegmentMode) → HasMode p d → Keeps (WritesMode names ids d)
  keeps_mode names ids Passive of f (own, free, h) = keeps_id own f h
  keeps_mode names ids (Active x c) of f h = keeps_then (WritesTarget ids x) (WritesOffset names c) (keeps_target ids x) (keeps_offset names c of) f h

  -- The contents of a field that defines no identifier.
  pub keeps_export : (names : Names) (e : Export) → Keeps (WritesName e.name ▸ WritesExport names e.kind e.index)
  keeps_export names e = keeps_then (WritesName e.name) (WritesExport names e.kind e.index) (keeps_name e.name) (keeps_exported names e.kind e.index)

  pub keeps_element : (names : Names) (e : Element) → HasMode p e.mode → Keeps (WritesMode names names.tables e.mode ▸ WritesFunctions names.functions e.mode e.functions)
  keeps_element names e has =
      keeps_then (WritesMode names names.tables e.mode) (WritesFunctions names.functions e.mode e.functions) (keeps_mode names names.tables e.mode has)
      (keeps_functions names.functions e.mode e.functions)

  pub keeps_segment : (names : Names) (s : Segment) → HasMode p s.mode → Keeps (WritesMode names names.memories s.mode ▸ WritesStrings s.bytes)
  keeps_segment names s has = keeps_then (WritesMode names names.memories s.mode) (WritesStrings s.bytes) (keeps_mode names names.memories s.mode has) (keeps_strings s.bytes)
