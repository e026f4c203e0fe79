-- The canonical binary is no longer than any other spelling of the same parts.
use Rattle.std.proofs.Common.{ℕ, ◌≡◌, ◌<◌, ◌≤◌, ◌^◌, List, [], ◌∷◌, ◌++◌, Option, Some, None, length, refl, sym, ap, subst, ◌∙◌, arith, length-append, append-nil, append_assoc, map, flat_map, inl, inr, Bool, true, false}
use Rattle.std.specs.Prelude.{◌==◌}
use Rattle.std.proofs.lemmas.Bool.{eqb-true}
use Rattle.wm_write.proofs.OpcodeBytes.{two_bytes, zero_bytes}
use Rattle.std.proofs.Common.{◌⊎◌}
use Rattle.wm_machine.specs.Sections.{SpellsMemory, SpellsOffset}
use Rattle.wm_syntax.specs.Modules.{index_of}
use Rattle.wm_syntax.specs.Profiles.{has}
use Rattle.wm_syntax.specs.declared.profile.Feature.TheVariants.{BulkMemory}
use Rattle.wm_syntax.specs.declared.modules.SegmentMode.TheVariants.{Passive, Active}
use Rattle.wm_syntax.specs.declared.modules.SegmentMode.{SegmentMode}
use Rattle.std.proofs.lemmas.Grind.{flat_map-append}
use Rattle.wm_syntax.specs.Spelling.{Form, Byte, Exactly, Each, AreBytes, ◌▸◌}
use Rattle.wm_syntax.specs.declared.types.ValType.{ValType}
use Rattle.wm_syntax.specs.declared.types.Limits.{Limits}
use Rattle.wm_syntax.specs.declared.types.GlobalType.{GlobalType}
use Rattle.wm_syntax.specs.declared.types.Const.{Const}
use Rattle.wm_syntax.specs.declared.modules.ImportDesc.{ImportDesc}
use Rattle.wm_syntax.specs.declared.modules.ImportDesc.TheVariants.{Func, Table, Memory, Global}
use Rattle.wm_syntax.specs.declared.instructions.Simple.{Simple}
use Rattle.wm_syntax.specs.declared.instructions.Simple.TheVariants.{Br, BrIf, Call, CallIndirect, LocalGet, LocalSet, LocalTee, GlobalGet, GlobalSet, MemorySize, MemoryGrow, MemoryCopy, MemoryFill, MemoryInit, DataDrop, I32Const, I64Const, F32Const, F64Const, Load, Store, TableInit, ElemDrop, TableCopy}
use Rattle.wm_syntax.specs.declared.instructions.Op.TheVariants as op
use Rattle.wm_syntax.specs.declared.profile.Profile.{Profile}
use Rattle.wm_syntax.specs.Runs.{runs_of}
use Rattle.wm_syntax.specs.Types.{block_byte, Signature, SpellsU32, SpellsList, SpellsBytes, SpellsName, SpellsValType, SpellsSignature, SpellsBounds, SpellsLimits, SpellsTableType, SpellsVar, SpellsGlobalType, SpellsBlockType}
use Rattle.wm_syntax.specs.Instructions.{Instruction, Instructions, none, snoc, simple, table, block, loop, choice, instruction_ops, ops_of, else_ops}
use Rattle.std.specs.Prelude.{nat_lt, ◌-◌, cond}
use Rattle.wm_syntax.specs.Opcodes.{opcode}
use Rattle.wm_syntax.specs.Encodings.{SpellsOpcode, SpellsOpcodeBy, SpellsImmediates, SpellsSimple, SpellsTable, SpellsElse, SpellsInstruction, SpellsInstructions, SpellsExpression, float_bytes}
use Rattle.wm_syntax.specs.Modules.{bodies_name_segment, Module, Import, Function, GlobalDef, Export, Element, Segment, constant, constant_body}
use Rattle.wm_syntax.proofs.Spellings.{shortest_is_least, signed_is_least, unsigned_range}
use Rattle.wm_syntax.proofs.FloatBytes.{float_one}
use Rattle.wm_machine.specs.Sections.{Customs, DataCountSection, ListSection, StartSection, header, SpellsConst, SpellsDesc, SpellsImport, SpellsGlobal, SpellsExport, SpellsElement, SpellsElements, SpellsRun, SpellsLocals, SpellsCode, SpellsSegment, SpellsModule, kind_byte, Section}
use Rattle.wm_write.specs.Canon.{opcode_bytes, immediates, u32_bytes, op_bytes, ops_bytes, listed, sized, value_type_bytes, signature_bytes, bounds_bytes, limits_bytes, table_bytes, global_type_bytes, desc_bytes, import_bytes, constant_bytes, global_bytes, export_bytes, element_bytes, run_bytes, code_contents, code_bytes, segment_bytes, list_section, start_section, canon_with, FitsWith, start_bytes, element_kind_bytes, offset_bytes, NoLonger, HasShortestSections, data_count_section, canon, Fits}
use Rattle.wm_syntax.proofs.NumberLoops.{short}
use Rattle.wm_write.proofs.LeastRuns.{least_locals, number_rises}

exactly : (a : List ℕ) → NoLonger a (Exactly a)
exactly a b h = omega (arith, ap length h)

then : (a c : List ℕ) (P Q : Form ℕ) → NoLonger a P → NoLonger c Q → NoLonger (a ++ c) (P ▸ Q)
then a c P Q f g b (front, back, is, p, q) = omega (arith, ap length is, length-append front back, length-append a c, f front p, g back q)

number : (n : ℕ) → NoLonger (u32_bytes n) (SpellsU32 n)
number n b h = shortest_is_least 32 5 n b h

each : {X : Type 0} (f : X → List ℕ) (S : X → Form ℕ) → ((x : X) → NoLonger (f x) (S x)) → (xs : List X) → NoLonger (flat_map f xs) (Each S xs)
each f S g [] = exactly []
each f S g (x ∷ xs) = then (f x) (flat_map f xs) (S x) (Each S xs) (g x) (each f S g xs)

list : {X : Type 0} (f : X → List ℕ) (S : X → Form ℕ) → ((x : X) → NoLonger (f x) (S x)) → (xs : List X) → NoLonger (listed f xs) (SpellsList S xs)
list f S g xs = then (u32_bytes (length xs)) (flat_map f xs) (SpellsU32 (length xs)) (Each S xs) (number (length xs)) (each f S g xs)

bytes : (a : List ℕ) → NoLonger (sized a) (SpellsBytes a)
bytes a = then (u32_bytes (length a)) a (SpellsU32 (length a)) (λ b. (b ≡ a) × AreBytes a) (number (length a)) (λ b h. exactly a b h.0)

name : (a : List ℕ) → NoLonger (sized a) (SpellsName a)
name a b h = bytes a b h.0

-- types
value_type : (t : ValType) → NoLonger (value_type_bytes t) (SpellsValType t)
value_type t = exactly (value_type_bytes t)

signature : (s : Signature) → NoLonger (signature_bytes s) (SpellsSignature s)
signature s =
    then (0x60 ∷ []) (listed value_type_bytes s.params ++ listed value_type_bytes s.results) (Byte 0x60) (SpellsList SpellsValType s.params ▸ SpellsList SpellsValType s.results) (exactly (0x60 ∷ []))
    (then (listed value_type_bytes s.params) (listed value_type_bytes s.results) (SpellsList SpellsValType s.params) (SpellsList SpellsValType s.results) (list value_type_bytes SpellsValType value_type s.params) (list value_type_bytes SpellsValType value_type s.results))

byte_number : (byte n : ℕ) → NoLonger (byte ∷ u32_bytes n) (Byte byte ▸ SpellsU32 n)
byte_number byte n = then (byte ∷ []) (u32_bytes n) (Byte byte) (SpellsU32 n) (exactly (byte ∷ [])) (number n)

two_numbers : (n k : ℕ) → NoLonger (u32_bytes n ++ u32_bytes k) (SpellsU32 n ▸ SpellsU32 k)
two_numbers n k = then (u32_bytes n) (u32_bytes k) (SpellsU32 n) (SpellsU32 k) (number n) (number k)

byte_numbers : (byte n k : ℕ) → NoLonger (byte ∷ (u32_bytes n ++ u32_bytes k)) (Byte byte ▸ SpellsU32 n ▸ SpellsU32 k)
byte_numbers byte n k = then (byte ∷ []) (u32_bytes n ++ u32_bytes k) (Byte byte) (SpellsU32 n ▸ SpellsU32 k) (exactly (byte ∷ [])) (two_numbers n k)

limits : (l : Limits) → NoLonger (limits_bytes l) (SpellsLimits l)
limits l = go l.min l.max
  where
    go : (min : ℕ) (max : Option ℕ) → NoLonger (bounds_bytes min max) (SpellsBounds min max)
    go min None = byte_number 0x00 min
    go min (Some max) = byte_numbers 0x01 min max

table_type : (l : Limits) → NoLonger (table_bytes l) (SpellsTableType l)
table_type l = then (0x70 ∷ []) (limits_bytes l) (Byte 0x70) (SpellsLimits l) (exactly (0x70 ∷ [])) (limits l)

global_type : (g : GlobalType) → NoLonger (global_type_bytes g) (SpellsGlobalType g)
global_type g b (front, back, is, p, q) = omega (arith, ap length is, length-append front back, ap length p, some g.var back q)
  where
    some : (v : Bool) (back : List ℕ) → SpellsVar v back → 1 ≤ length back
    some false back q = omega (arith, ap length q)
    some true back q = omega (arith, ap length q)

-- imports, exports
desc : (d : ImportDesc) → NoLonger (desc_bytes d) (SpellsDesc d)
desc (Func x) = byte_number 0x00 x
desc (Table l) = then (0x01 ∷ []) (table_bytes l) (Byte 0x01) (SpellsTableType l) (exactly (0x01 ∷ [])) (table_type l)
desc (Memory l) = then (0x02 ∷ []) (limits_bytes l) (Byte 0x02) (SpellsLimits l) (exactly (0x02 ∷ [])) (limits l)
desc (Global g) = then (0x03 ∷ []) (global_type_bytes g) (Byte 0x03) (SpellsGlobalType g) (exactly (0x03 ∷ [])) (global_type g)

imported : (i : Import) → NoLonger (import_bytes i) (SpellsImport i)
imported i =
    then (sized i.module_name) (sized i.item_name ++ desc_bytes i.desc) (SpellsName i.module_name) (SpellsName i.item_name ▸ SpellsDesc i.desc) (name i.module_name)
    (then (sized i.item_name) (desc_bytes i.desc) (SpellsName i.item_name) (SpellsDesc i.desc) (name i.item_name) (desc i.desc))

exported : (e : Export) → NoLonger (export_bytes e) (SpellsExport e)
exported e = then (sized e.name) (kind_byte e.kind ∷ u32_bytes e.index) (SpellsName e.name) (Byte (kind_byte e.kind) ▸ SpellsU32 e.index) (name e.name) (byte_number (kind_byte e.kind) e.index)

-- instructions
table_index : (p : Profile) → NoLonger (0x00 ∷ []) (SpellsTable p)
table_index p b (inl e) = exactly (0x00 ∷ []) b e
table_index p [] (inr h) = absurd h.1
table_index p (c ∷ b) (inr h) = omega arith

in_opcode : (c : ℕ) → NoLonger (opcode_bytes c) (SpellsOpcode c)
in_opcode c = by (nat_lt c 0x100)
  where
    by : (b : Bool) → NoLonger (cond b (c ∷ []) (0xFC ∷ u32_bytes (c - 0x100))) (SpellsOpcodeBy b c)
    by true = exactly (c ∷ [])
    by false = then (0xFC ∷ []) (u32_bytes (c - 0x100)) (Byte 0xFC) (SpellsU32 (c - 0x100)) (exactly (0xFC ∷ [])) (number (c - 0x100))

one_zero : NoLonger (0x00 ∷ []) (SpellsU32 0)
one_zero b h = subst (λ z. length z ≤ length b) zero_bytes (number 0 b h)

in_immediates : (p : Profile) (i : Simple) → NoLonger (immediates i) (SpellsImmediates p i)
in_immediates p (Br l) = number l
in_immediates p (BrIf l) = number l
in_immediates p (Call x) = number x
in_immediates p (CallIndirect x) = then (u32_bytes x) (0x00 ∷ []) (SpellsU32 x) (SpellsTable p) (number x) (table_index p)
in_immediates p (LocalGet x) = number x
in_immediates p (LocalSet x) = number x
in_immediates p (LocalTee x) = number x
in_immediates p (GlobalGet x) = number x
in_immediates p (GlobalSet x) = number x
in_immediates p MemorySize = exactly (0x00 ∷ [])
in_immediates p MemoryGrow = exactly (0x00 ∷ [])
in_immediates p MemoryCopy = then (0x00 ∷ []) (0x00 ∷ []) (Byte 0x00) (Byte 0x00) (exactly (0x00 ∷ [])) (exactly (0x00 ∷ []))
in_immediates p MemoryFill = exactly (0x00 ∷ [])
in_immediates p (MemoryInit x) = then (u32_bytes x) (0x00 ∷ []) (SpellsU32 x) (Byte 0x00) (number x) (exactly (0x00 ∷ []))
in_immediates p (DataDrop x) = number x
in_immediates p (TableInit x) = then (u32_bytes x) (0x00 ∷ []) (SpellsU32 x) (SpellsU32 0) (number x) one_zero
in_immediates p (ElemDrop x) = number x
in_immediates p TableCopy = then (0x00 ∷ []) (0x00 ∷ []) (SpellsU32 0) (SpellsU32 0) one_zero one_zero
in_immediates p (I32Const n) = λ b h. signed_is_least 32 5 n b h
in_immediates p (I64Const n) = λ b h. signed_is_least 64 10 n b h
in_immediates p (F32Const n) = λ b h. exactly (float_bytes 4 n) b (float_one 4 n b h)
in_immediates p (F64Const n) = λ b h. exactly (float_bytes 8 n) b (float_one 8 n b h)
in_immediates p (Load o at) = two_numbers at.align at.offset
in_immediates p (Store o at) = two_numbers at.align at.offset
in_immediates p _ = exactly []

instruction : (p : Profile) (i : Simple) → NoLonger (op_bytes (op.Simple i)) (SpellsSimple p i)
instruction p i = then (opcode_bytes (opcode i).0) (immediates i) (SpellsOpcode (opcode i).0) (SpellsImmediates p i) (in_opcode (opcode i).0) (in_immediates p i)

block_type : (t : Option ValType) → NoLonger (block_byte t ∷ []) (SpellsBlockType t)
block_type t = exactly (block_byte t ∷ [])

equal : (a c : List ℕ) (P : Form ℕ) → a ≡ c → NoLonger c P → NoLonger a P
equal a c P e f b h = omega (arith, ap length e, f b h)

-- The bytes between a first byte with a block type and an end.
between : (byte : ℕ) (t : Option ValType) (a : List ℕ) (P : Form ℕ) → NoLonger a P → NoLonger (byte ∷ block_byte t ∷ (a ++ 0x0B ∷ [])) (Byte byte ▸ SpellsBlockType t ▸ P ▸ Byte 0x0B)
between byte t a P f =
    then (byte ∷ []) (block_byte t ∷ (a ++ 0x0B ∷ [])) (Byte byte) (SpellsBlockType t ▸ P ▸ Byte 0x0B) (exactly (byte ∷ []))
    (then (block_byte t ∷ []) (a ++ 0x0B ∷ []) (SpellsBlockType t) (P ▸ Byte 0x0B) (block_type t) (then a (0x0B ∷ []) P (Byte 0x0B) f (exactly (0x0B ∷ []))))

labels : (ls : List ℕ) → ops_bytes (map op.Label ls) ≡ flat_map u32_bytes ls
labels [] = refl
labels (l ∷ ls) = ap (λ z. u32_bytes l ++ z) (labels ls)

otherwise : (s : Instructions) (P : Form ℕ) → NoLonger (ops_bytes (ops_of s)) P → NoLonger (ops_bytes (else_ops s (ops_of s))) (SpellsElse s P)
otherwise none P f = λ b h. omega arith
otherwise (snoc s i) P f = then (0x05 ∷ []) (ops_bytes (ops_of (snoc s i))) (Byte 0x05) P (exactly (0x05 ∷ [])) f

mutual
  one : (p : Profile) (i : Instruction) → NoLonger (ops_bytes (instruction_ops i)) (SpellsInstruction p i)
  one p (simple i) = equal _ (op_bytes (op.Simple i)) (SpellsSimple p i) (append-nil (op_bytes (op.Simple i))) (instruction p i)
  one p (table ls d) =
      let e : ops_bytes (map op.Label ls ++ op.Label d ∷ []) ≡ flat_map u32_bytes ls ++ u32_bytes d =
      flat_map-append op_bytes (map op.Label ls) (op.Label d ∷ []) ∙ ap (λ z. z ++ (u32_bytes d ++ [])) (labels ls) ∙ ap (λ z. flat_map u32_bytes ls ++ z) (append-nil (u32_bytes d)) in
      equal _ (0x0E ∷ (listed u32_bytes ls ++ u32_bytes d)) _
      (ap (λ z. 0x0E ∷ (u32_bytes (length ls) ++ z)) e ∙ ap (λ z. 0x0E ∷ z) (sym (append_assoc (u32_bytes (length ls)) (flat_map u32_bytes ls) (u32_bytes d))))
      (then (0x0E ∷ []) (listed u32_bytes ls ++ u32_bytes d) (Byte 0x0E) (SpellsList SpellsU32 ls ▸ SpellsU32 d) (exactly (0x0E ∷ []))
      (then (listed u32_bytes ls) (u32_bytes d) (SpellsList SpellsU32 ls) (SpellsU32 d) (list u32_bytes SpellsU32 number ls) (number d)))
  one p (block t s) =
      equal _ (0x02 ∷ block_byte t ∷ (ops_bytes (ops_of s) ++ 0x0B ∷ [])) _ (ap (λ z. 0x02 ∷ block_byte t ∷ z) (flat_map-append op_bytes (ops_of s) (op.End ∷ [])))
      (between 0x02 t (ops_bytes (ops_of s)) (SpellsInstructions p s) (some p s))
  one p (loop t s) =
      equal _ (0x03 ∷ block_byte t ∷ (ops_bytes (ops_of s) ++ 0x0B ∷ [])) _ (ap (λ z. 0x03 ∷ block_byte t ∷ z) (flat_map-append op_bytes (ops_of s) (op.End ∷ [])))
      (between 0x03 t (ops_bytes (ops_of s)) (SpellsInstructions p s) (some p s))
  one p (choice t f s) =
      let first = ops_bytes (ops_of f) in
      let second = ops_bytes (else_ops s (ops_of s)) in
      let e : ops_bytes ((ops_of f ++ else_ops s (ops_of s)) ++ op.End ∷ []) ≡ first ++ (second ++ 0x0B ∷ []) =
      flat_map-append op_bytes (ops_of f ++ else_ops s (ops_of s)) (op.End ∷ []) ∙ ap (λ z. z ++ 0x0B ∷ []) (flat_map-append op_bytes (ops_of f) (else_ops s (ops_of s))) ∙ append_assoc first second (0x0B ∷ []) in
      equal _ (0x04 ∷ block_byte t ∷ (first ++ (second ++ 0x0B ∷ []))) _ (ap (λ z. 0x04 ∷ block_byte t ∷ z) e)
      (then (0x04 ∷ []) (block_byte t ∷ (first ++ (second ++ 0x0B ∷ []))) (Byte 0x04) (SpellsBlockType t ▸ SpellsInstructions p f ▸ SpellsElse s (SpellsInstructions p s) ▸ Byte 0x0B) (exactly (0x04 ∷ []))
      (then (block_byte t ∷ []) (first ++ (second ++ 0x0B ∷ [])) (SpellsBlockType t) (SpellsInstructions p f ▸ SpellsElse s (SpellsInstructions p s) ▸ Byte 0x0B) (block_type t)
      (then first (second ++ 0x0B ∷ []) (SpellsInstructions p f) (SpellsElse s (SpellsInstructions p s) ▸ Byte 0x0B) (some p f)
      (then second (0x0B ∷ []) (SpellsElse s (SpellsInstructions p s)) (Byte 0x0B) (otherwise s (SpellsInstructions p s) (some p s)) (exactly (0x0B ∷ []))))))

  some : (p : Profile) (s : Instructions) → NoLonger (ops_bytes (ops_of s)) (SpellsInstructions p s)
  some p none = exactly []
  some p (snoc s i) =
      equal _ (ops_bytes (ops_of s) ++ ops_bytes (instruction_ops i)) _ (flat_map-append op_bytes (ops_of s) (instruction_ops i))
      (then (ops_bytes (ops_of s)) (ops_bytes (instruction_ops i)) (SpellsInstructions p s) (SpellsInstruction p i) (some p s) (one p i))

expression : (p : Profile) (s : Instructions) → NoLonger (ops_bytes (ops_of s) ++ 0x0B ∷ []) (SpellsExpression p s)
expression p s = then (ops_bytes (ops_of s)) (0x0B ∷ []) (SpellsInstructions p s) (Byte 0x0B) (some p s) (exactly (0x0B ∷ []))

constant_expression : (p : Profile) (c : Const) → NoLonger (constant_bytes c) (SpellsConst p c)
constant_expression p c = equal _ _ (SpellsConst p c) (ap (λ z. z ++ 0x0B ∷ []) (sym (append-nil (op_bytes (op.Simple (constant c)))))) (expression p (constant_body c))

-- entries
defined : (p : Profile) (g : GlobalDef) → NoLonger (global_bytes g) (SpellsGlobal p g)
defined p g = then (global_type_bytes g.ty) (constant_bytes g.init) (SpellsGlobalType g.ty) (SpellsConst p g.init) (global_type g.ty) (constant_expression p g.init)

-- The front of a segment: with flags where it is read with them, and without flags in any case.
abbrev IsShort : (flagged read : Bool) → Type 0
IsShort flagged read = (flagged ≡ false) ⊎ (flagged ≡ read)

flag_two : NoLonger (0x02 ∷ []) (SpellsU32 2)
flag_two b h = subst (λ z. length z ≤ length b) two_bytes (number 2 b h)

some_memory : (x : ℕ) → NoLonger (start_bytes true (Some x)) (SpellsMemory true (Some x))
some_memory x b h = by (x == 0) refl h
  where
    by : (t : Bool) → (x == 0) ≡ t → SpellsMemory true (Some x) b → length (cond t (u32_bytes 0) (0x02 ∷ u32_bytes x)) ≤ length b
    by true e (inl h) = number 0 b h.1
    by true e (inr (front, back, is, h, k)) = omega (arith, ap length is, length-append front back, number 0 back (subst (λ z. SpellsU32 z back) (eqb-true x 0 e) k))
    by false e (inl h) = let f : true ≡ false = subst (λ z. (z == 0) ≡ false) h.0 e in let g : ⊥ = cc f in absurd g
    by false e (inr h) = then (0x02 ∷ []) (u32_bytes x) (SpellsU32 2) (SpellsU32 x) flag_two (number x) b h

plain_memory : (x : ℕ) → NoLonger (u32_bytes x) (SpellsMemory true (Some x))
plain_memory x b (inl h) = number x b (subst (λ z. SpellsU32 z b) (sym h.0) h.1)
plain_memory x b (inr (front, back, is, h, k)) = omega (arith, ap length is, length-append front back, number x back k)

in_memory : (flagged read : Bool) → IsShort flagged read → (x : Option ℕ) → NoLonger (start_bytes flagged x) (SpellsMemory read x)
in_memory flagged false s None b h = absurd h
in_memory false false s (Some x) b h = number x b h
in_memory true false s (Some x) b h = absurd (never s)
  where
    never : IsShort true false → ⊥
    never (inl e) = cc e
    never (inr e) = cc e
in_memory false true s None b h = number 1 b h
in_memory true true s None b h = number 1 b h
in_memory false true s (Some x) b h = plain_memory x b h
in_memory true true s (Some x) b h = some_memory x b h

in_offset : (p : Profile) (d : SegmentMode) → NoLonger (offset_bytes d) (SpellsOffset p d)
in_offset p Passive = exactly []
in_offset p (Active x c) = constant_expression p c

segment : (flagged : Bool) (p : Profile) → IsShort flagged (has p BulkMemory) → (s : Segment) → NoLonger (segment_bytes flagged s) (SpellsSegment p s)
segment flagged p short s =
    then (start_bytes flagged (index_of s.mode)) (offset_bytes s.mode ++ sized s.bytes) (SpellsMemory (has p BulkMemory) (index_of s.mode)) (SpellsOffset p s.mode ▸ SpellsBytes s.bytes)
    (in_memory flagged (has p BulkMemory) short (index_of s.mode))
    (then (offset_bytes s.mode) (sized s.bytes) (SpellsOffset p s.mode) (SpellsBytes s.bytes) (in_offset p s.mode) (bytes s.bytes))

-- an element segment
module _ (p : Profile) (d : SegmentMode) (xs : List ℕ) where
  abbrev functions : List ℕ
  functions = listed u32_bytes xs

  in_functions : NoLonger functions (SpellsList SpellsU32 xs)
  in_functions = list u32_bytes SpellsU32 number xs

  plainly : NoLonger (offset_bytes d ++ functions) (SpellsOffset p d ▸ SpellsList SpellsU32 xs)
  plainly = then (offset_bytes d) functions (SpellsOffset p d) (SpellsList SpellsU32 xs) (in_offset p d) in_functions

  with_kind : NoLonger (offset_bytes d ++ 0x00 ∷ functions) (SpellsOffset p d ▸ Byte 0x00 ▸ SpellsList SpellsU32 xs)
  with_kind =
      then (offset_bytes d) (0x00 ∷ functions) (SpellsOffset p d) (Byte 0x00 ▸ SpellsList SpellsU32 xs) (in_offset p d)
      (then (0x00 ∷ []) functions (Byte 0x00) (SpellsList SpellsU32 xs) (exactly (0x00 ∷ [])) in_functions)

  without_kind : NoLonger (offset_bytes d ++ functions) (SpellsOffset p d ▸ Byte 0x00 ▸ SpellsList SpellsU32 xs)
  without_kind b h = omega (arith, with_kind b h, length-append (offset_bytes d) (0x00 ∷ functions), length-append (offset_bytes d) functions)

  plain_element : (x : ℕ) → NoLonger (u32_bytes x ++ (offset_bytes d ++ functions)) (SpellsElements true (Some x) (SpellsOffset p d) xs)
  plain_element x b (inl h) =
      then (u32_bytes x) (offset_bytes d ++ functions) (SpellsU32 0) (SpellsOffset p d ▸ SpellsList SpellsU32 xs) (λ c k. number x c (subst (λ z. SpellsU32 z c) (sym h.0) k)) plainly b h.1
  plain_element x b (inr (front, back, is, k, rest)) =
      let l = then (u32_bytes x) (offset_bytes d ++ functions) (SpellsU32 x) (SpellsOffset p d ▸ Byte 0x00 ▸ SpellsList SpellsU32 xs) (number x) without_kind back rest in
      omega (arith, ap length is, length-append front back, l)

  flagged_element : (x : ℕ) → NoLonger (start_bytes true (Some x) ++ (offset_bytes d ++ (element_kind_bytes true (Some x) ++ functions))) (SpellsElements true (Some x) (SpellsOffset p d) xs)
  flagged_element x b h = by (x == 0) refl h
    where
      by : (t : Bool) → (x == 0) ≡ t → SpellsElements true (Some x) (SpellsOffset p d) xs b
          → length (cond t (u32_bytes 0) (0x02 ∷ u32_bytes x) ++ (offset_bytes d ++ (cond t [] (0x00 ∷ []) ++ functions))) ≤ length b
      by true e h = subst (λ z. length (u32_bytes z ++ (offset_bytes d ++ functions)) ≤ length b) (eqb-true x 0 e) (plain_element x b h)
      by false e (inl h) = let f : true ≡ false = subst (λ z. (z == 0) ≡ false) h.0 e in let g : ⊥ = cc f in absurd g
      by false e (inr h) =
          then (0x02 ∷ []) (u32_bytes x ++ (offset_bytes d ++ 0x00 ∷ functions)) (SpellsU32 2) (SpellsU32 x ▸ SpellsOffset p d ▸ Byte 0x00 ▸ SpellsList SpellsU32 xs) flag_two
          (then (u32_bytes x) (offset_bytes d ++ 0x00 ∷ functions) (SpellsU32 x) (SpellsOffset p d ▸ Byte 0x00 ▸ SpellsList SpellsU32 xs) (number x) with_kind) b h

elements : (p : Profile) (flagged read : Bool) → IsShort flagged read → (d : SegmentMode) (xs : List ℕ)
    → NoLonger (start_bytes flagged (index_of d) ++ (offset_bytes d ++ (element_kind_bytes flagged (index_of d) ++ listed u32_bytes xs))) (SpellsElements read (index_of d) (SpellsOffset p d) xs)
elements p flagged false s Passive xs b h = absurd h
elements p false false s (Active x c) xs b h =
    then (u32_bytes x) (offset_bytes (Active x c) ++ listed u32_bytes xs) (SpellsU32 x) (SpellsOffset p (Active x c) ▸ SpellsList SpellsU32 xs) (number x) (plainly p (Active x c) xs) b h
elements p true false s (Active x c) xs b h = absurd (never s)
  where
    never : IsShort true false → ⊥
    never (inl e) = cc e
    never (inr e) = cc e
elements p false true s Passive xs b h =
    then (u32_bytes 1) (offset_bytes Passive ++ 0x00 ∷ listed u32_bytes xs) (SpellsU32 1) (SpellsOffset p Passive ▸ Byte 0x00 ▸ SpellsList SpellsU32 xs) (number 1) (with_kind p Passive xs) b h
elements p true true s Passive xs b h =
    then (u32_bytes 1) (offset_bytes Passive ++ 0x00 ∷ listed u32_bytes xs) (SpellsU32 1) (SpellsOffset p Passive ▸ Byte 0x00 ▸ SpellsList SpellsU32 xs) (number 1) (with_kind p Passive xs) b h
elements p false true s (Active x c) xs b h = plain_element p (Active x c) xs x b h
elements p true true s (Active x c) xs b h = flagged_element p (Active x c) xs x b h

element : (flagged : Bool) (p : Profile) → IsShort flagged (has p BulkMemory) → (e : Element) → NoLonger (element_bytes flagged e) (SpellsElement p e)
element flagged p short e = elements p flagged (has p BulkMemory) short e.mode e.functions

run : (p : Profile) (r : ℕ × ValType) → NoLonger (run_bytes r) (SpellsRun p r)
run p r b h = then (u32_bytes r.0) (value_type_bytes r.1) (SpellsU32 r.0) (SpellsValType r.1) (number r.0) (value_type r.1) b h.1

locals : (p : Profile) (ts : List ValType) → NoLonger (listed run_bytes (runs_of ts)) (SpellsLocals p ts)
locals p ts b (runs, is, few, h) =
    let l = list run_bytes (SpellsRun p) (run p) runs b h in
    subst (λ z. length (listed run_bytes (runs_of z)) ≤ length b) is (omega (arith, l, least_locals runs))

code : (p : Profile) (f : Function) → NoLonger (code_bytes f) (SpellsCode p f)
code p f b (size, contents, is, h, k) =
    let l = then (listed run_bytes (runs_of f.locals)) (ops_bytes (ops_of f.body) ++ 0x0B ∷ []) (SpellsLocals p f.locals) (SpellsExpression p f.body) (locals p f.locals) (expression p f.body) contents k in
    omega (arith, ap length is, length-append size contents, length-append (u32_bytes (length (code_contents f))) (code_contents f), l, number (length contents) size h, number_rises (length (code_contents f)) (length contents) l)

-- sections: their contents are as long as a size can be, or not there
in_section : {X : Type 0} (id : ℕ) (f : X → List ℕ) (S : X → Form ℕ) → ((x : X) → NoLonger (f x) (S x)) → (xs : List X) (b : List ℕ) → ListSection id S xs b → length (listed f xs) < 2 ^ 32
in_section id f S g xs b (inl (byte, back, is, p, (size, contents, e, h, k))) = omega (arith, list f S g xs contents k, unsigned_range 32 (length contents) size h)
in_section id f S g xs b (inr h) = subst (λ z. length (listed f z) < 2 ^ 32) (sym h.0) (omega (arith, length-append (u32_bytes 0) [], short 5 0))

pub spelled_fits : (p : Profile) (m : Module) (b : List ℕ) → SpellsModule p m b → FitsWith (has p BulkMemory) m
spelled_fits p m b h =
    let s1 = h.4 in
    let s2 = s1.4.4 in
    let s3 = s2.4.4 in
    let s4 = s3.4.4 in
    let s5 = s4.4.4 in
    let s6 = s5.4.4 in
    let s7 = s6.4.4 in
    let s8 = s7.4.4 in
    let s9 = s8.4.4 in
    let s10 = s9.4.4.4.4 in
    let s11 = s10.4.4 in
    record {
      types = in_section 1 signature_bytes SpellsSignature signature m.types _ s1.4.3;
      imports = in_section 2 import_bytes SpellsImport imported m.imports _ s2.4.3;
      functions = in_section 3 (λ f. u32_bytes f.type_index) (λ f. SpellsU32 f.type_index) (λ f. number f.type_index) m.functions _ s3.4.3;
      tables = in_section 4 table_bytes SpellsTableType table_type m.tables _ s4.4.3;
      memories = in_section 5 limits_bytes SpellsLimits limits m.memories _ s5.4.3;
      globals = in_section 6 global_bytes (SpellsGlobal p) (defined p) m.globals _ s6.4.3;
      exports = in_section 7 export_bytes SpellsExport exported m.exports _ s7.4.3;
      elements = in_section 9 (element_bytes (has p BulkMemory)) (SpellsElement p) (element (has p BulkMemory) p (inr refl)) m.elements _ s9.4.3;
      codes = in_section 10 code_bytes (SpellsCode p) (code p) m.functions _ s10.4.3;
      segments = in_section 11 (segment_bytes (has p BulkMemory)) (SpellsSegment p) (segment (has p BulkMemory) p (inr refl)) m.segments _ s11.4.3;
    }

section : {X : Type 0} (id : ℕ) (f : X → List ℕ) (S : X → Form ℕ) → ((x : X) → NoLonger (f x) (S x)) → (xs : List X) → NoLonger (list_section id f xs) (ListSection id S xs)
section id f S g [] b h = omega arith
section id f S g (x ∷ xs) b (inr h) = let e : ⊥ = cc h.0 in absurd e
section id f S g (x ∷ xs) b (inl (byte, back, is, p, (size, contents, e, h, k))) =
    let whole = listed f (x ∷ xs) in
    let l = list f S g (x ∷ xs) contents k in
    omega (arith, ap length is, length-append byte back, ap length p, ap length e, length-append size contents, l, number (length contents) size h, number_rises (length whole) (length contents) l, length-append (u32_bytes (length whole)) whole)

-- a section that is one number
one_number : (id x : ℕ) → NoLonger (id ∷ sized (u32_bytes x)) (Section id (SpellsU32 x))
one_number id x b (byte, back, is, p, (size, contents, e, h, k)) =
    let l = number x contents k in
    omega (arith, ap length is, length-append byte back, ap length p, ap length e, length-append size contents, l, number (length contents) size h, number_rises (length (u32_bytes x)) (length contents) l, length-append (u32_bytes (length (u32_bytes x))) (u32_bytes x))

started : (start : Option ℕ) → NoLonger (start_section start) (StartSection start)
started None b h = omega arith
started (Some x) b h = one_number 8 x b h

counted : (p : Profile) (named : Bool) (n : ℕ) → NoLonger (data_count_section named n) (DataCountSection p named n)
counted p false n b h = omega arith
counted p true n b (inl h) = one_number 12 n b h.1
counted p true n b (inr h) = absurd (let f : true ≡ false = h.0 in cc)

-- A section after custom sections.
after : (a : List ℕ) (P : Form ℕ) → NoLonger a P → NoLonger a (Customs ▸ P)
after a P f b (front, back, is, p, q) = omega (arith, ap length is, length-append front back, f back q)

both : (a c : List ℕ) (P Q : Form ℕ) → NoLonger a P → NoLonger c Q → NoLonger (a ++ c) (Customs ▸ P ▸ Q)
both a c P Q f g = after (a ++ c) (P ▸ Q) (then a c P Q f g)

-- Custom sections after the last section.
last : (a : List ℕ) (P : Form ℕ) → NoLonger a P → NoLonger a (Customs ▸ P ▸ Customs)
last a P f b (front, back, is, p, (one, other, e, q, r)) = omega (arith, ap length is, length-append front back, ap length e, length-append one other, f one q)

pub canon_shortest : (p : Profile) (m : Module) → NoLonger (canon_with (has p BulkMemory) m) (SpellsModule p m)
canon_shortest p m =
    then header _ (Exactly header) _ (exactly header)
    (both (list_section 1 signature_bytes m.types) _ (ListSection 1 SpellsSignature m.types) _ (section 1 signature_bytes SpellsSignature signature m.types)
    (both (list_section 2 import_bytes m.imports) _ (ListSection 2 SpellsImport m.imports) _ (section 2 import_bytes SpellsImport imported m.imports)
    (both (list_section 3 (λ f. u32_bytes f.type_index) m.functions) _ (ListSection 3 (λ f. SpellsU32 f.type_index) m.functions) _ (section 3 (λ f. u32_bytes f.type_index) (λ f. SpellsU32 f.type_index) (λ f. number f.type_index) m.functions)
    (both (list_section 4 table_bytes m.tables) _ (ListSection 4 SpellsTableType m.tables) _ (section 4 table_bytes SpellsTableType table_type m.tables)
    (both (list_section 5 limits_bytes m.memories) _ (ListSection 5 SpellsLimits m.memories) _ (section 5 limits_bytes SpellsLimits limits m.memories)
    (both (list_section 6 global_bytes m.globals) _ (ListSection 6 (SpellsGlobal p) m.globals) _ (section 6 global_bytes (SpellsGlobal p) (defined p) m.globals)
    (both (list_section 7 export_bytes m.exports) _ (ListSection 7 SpellsExport m.exports) _ (section 7 export_bytes SpellsExport exported m.exports)
    (both (start_section m.start) _ (StartSection m.start) _ (started m.start)
    (both (list_section 9 (element_bytes (has p BulkMemory)) m.elements) _ (ListSection 9 (SpellsElement p) m.elements) _ (section 9 (element_bytes (has p BulkMemory)) (SpellsElement p) (element (has p BulkMemory) p (inr refl)) m.elements)
    (both (data_count_section (bodies_name_segment m.functions) (length m.segments)) _ (DataCountSection p (bodies_name_segment m.functions) (length m.segments)) _ (counted p (bodies_name_segment m.functions) (length m.segments))
    (both (list_section 10 code_bytes m.functions) _ (ListSection 10 (SpellsCode p) m.functions) _ (section 10 code_bytes (SpellsCode p) (code p) m.functions)
    (last (list_section 11 (segment_bytes (has p BulkMemory)) m.segments) (ListSection 11 (SpellsSegment p) m.segments) (section 11 (segment_bytes (has p BulkMemory)) (SpellsSegment p) (segment (has p BulkMemory) p (inr refl)) m.segments)))))))))))))

pub shortest_sections : (m : Module) → HasShortestSections m
shortest_sections m = record {
  types = list signature_bytes SpellsSignature signature m.types;
  imports = list import_bytes SpellsImport imported m.imports;
  functions = list (λ f. u32_bytes f.type_index) (λ f. SpellsU32 f.type_index) (λ f. number f.type_index) m.functions;
  tables = list table_bytes SpellsTableType table_type m.tables;
  memories = list limits_bytes SpellsLimits limits m.memories;
  globals = λ p. list global_bytes (SpellsGlobal p) (defined p) m.globals;
  exports = list export_bytes SpellsExport exported m.exports;
  start = λ x is. number x;
  elements = λ p. list (element_bytes false) (SpellsElement p) (element false p (inl refl)) m.elements;
  data_count = number (length m.segments);
  codes = λ p. list code_bytes (SpellsCode p) (code p) m.functions;
  segments = λ p. list (segment_bytes false) (SpellsSegment p) (segment false p (inl refl)) m.segments;
}
