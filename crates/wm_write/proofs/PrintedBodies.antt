-- The printed text of a body writes it.
use Rattle.std.proofs.Common.{◌≡◌, ℕ, ◌<◌, ◌≤◌, ◌^◌, Bool, true, false, List, [], ◌∷◌, ◌++◌, length, map, flat_map, Option, Some, None, refl, sym, ap, subst, ◌∙◌, inl, inr, arith, append_assoc, slice_get, lit<, ℤ, pos, negsuc}
use Rattle.std.specs.Prelude.{◌&&◌, codes}
use Rattle.std.proofs.Math.Nat.{pow-le-pow_right}
use Rattle.std.proofs.lemmas.Bool.{and_parts}
use Rattle.wm_syntax.specs.Leb128.{FitsBits}
use Rattle.std.specs.List.{AllByRecursion, list_all}
use Rattle.std.proofs.lemmas.List.{append-nil}
use Rattle.std.proofs.lemmas.Grind.{flat_map-append}
use Rattle.wm_syntax.specs.Spelling.{Form, Each, ◌▸◌}
use Rattle.wm_syntax.specs.Types.{Signature}
use Rattle.wm_syntax.specs.declared.types.ValType.{ValType}
use Rattle.wm_syntax.specs.declared.instructions.IntType.TheVariants.{I32, I64}
use Rattle.wm_syntax.specs.declared.instructions.FloatType.TheVariants as float
use Rattle.wm_syntax.specs.declared.instructions.FloatComparison.TheVariants as fc
use Rattle.wm_syntax.specs.declared.instructions.FloatUnaryOp.TheVariants as fu
use Rattle.wm_syntax.specs.declared.instructions.FloatBinaryOp.TheVariants as fb
use Rattle.wm_syntax.specs.declared.instructions.Conversion.TheVariants.{I32TruncF32S}
use Rattle.wm_syntax.specs.declared.types.Const.{Const}
use Rattle.wm_syntax.specs.declared.instructions.MemArg.{MemArg}
use Rattle.wm_syntax.specs.declared.instructions.Op.{Op}
use Rattle.wm_syntax.specs.declared.instructions.Op.TheVariants as op
use Rattle.wm_syntax.specs.declared.instructions.Simple.{Simple}
use Rattle.wm_syntax.specs.declared.instructions.Simple.TheVariants as s
use Rattle.wm_syntax.specs.declared.instructions.Comparison.TheVariants.{Eq}
use Rattle.wm_syntax.specs.declared.instructions.UnaryOp.TheVariants.{Clz}
use Rattle.wm_syntax.specs.declared.instructions.BinaryOp.TheVariants.{Add}
use Rattle.wm_syntax.specs.declared.instructions.Numeric.TheVariants.{Test, Compare, Unary, Binary, FloatCompare, FloatUnary, FloatBinary, Convert, SignExtend, Saturate}
use Rattle.wm_syntax.specs.declared.instructions.SignExtension.TheVariants.{I32From8}
use Rattle.wm_syntax.specs.declared.instructions.Saturation.TheVariants.{I32TruncSatF32S}
use Rattle.wm_syntax.specs.declared.instructions.LoadOp.TheVariants.{I32Load}
use Rattle.wm_syntax.specs.declared.instructions.StoreOp.TheVariants.{I32Store}
use Rattle.wm_syntax.specs.Opcodes.{load, opcode, store}
use Rattle.wm_syntax.specs.Instructions.{Instruction, Instructions, none, snoc, simple, table, block, loop, choice, else_ops, ops_of, instruction_ops}
use Rattle.wm_syntax.specs.Modules.{IsU32, constant}
use Rattle.wm_write.specs.Layout.{Word, access_words, word_at, atom, body_line, const_words, gap, immediate_words, op_words, result_words, type_name, type_use, type_word}
use Rattle.wm_tokens.specs.Tokens.{Token, IsAtom, is_id_char, is_lower}
use Rattle.wm_tokens.specs.Identifiers.{Ids, ResolvesLabel}
use Rattle.wm_tokens.specs.Written.{Closes, Names, Opens, Scope, TypeUse, WritesAccess, WritesBlockType, WritesElse, WritesInstruction, WritesInstructions, WritesOperand, WritesSimple, WritesTable}
use Rattle.wm_tokens.specs.Written as w
use Rattle.wm_write.specs.inner.Printed.{tokens}
use Rattle.wm_write.proofs.PrintedTokens.{IsBreak, IsHead, body_line_breaks, gap_breaks}
use Rattle.wm_write.proofs.PrintedForms.{IsPrefix, Prints, head_is, id_at, prints_as, prints_float, prints_form, prints_index, prints_integer, prints_key, prints_label, prints_nothing, prints_number, prints_then, prints_type, prints_use, prints_word}
use Rattle.wm_write.proofs.PrintedRanges.{AreFine, Counts, IsFine, IsFineInstruction}

-- ---- the names of instructions are atoms

abbrev is_name : List ℕ → Bool
is_name [] = false
is_name (c ∷ a) = is_lower c && list_all is_id_char (c ∷ a)

name_atom : (a : List ℕ) → is_name a ≡ true → IsAtom a
name_atom [] h = absurd (let f : false ≡ true = h in cc)
name_atom (c ∷ a) h = let p = and_parts (is_lower c) (list_all is_id_char (c ∷ a)) h in (p.1, inr (inr p.0))

simple_name : (i : Simple) → is_name (opcode i).1 ≡ true
simple_name (s.Numeric (Test I32)) = refl
simple_name (s.Numeric (Test I64)) = refl
simple_name (s.Numeric (Compare I32 Eq)) = refl
simple_name (s.Numeric (Compare I32 _)) = refl
simple_name (s.Numeric (Compare I64 Eq)) = refl
simple_name (s.Numeric (Compare I64 _)) = refl
simple_name (s.Numeric (Unary I32 Clz)) = refl
simple_name (s.Numeric (Unary I32 _)) = refl
simple_name (s.Numeric (Unary I64 Clz)) = refl
simple_name (s.Numeric (Unary I64 _)) = refl
simple_name (s.Numeric (Binary I32 Add)) = refl
simple_name (s.Numeric (Binary I32 _)) = refl
simple_name (s.Numeric (Binary I64 Add)) = refl
simple_name (s.Numeric (Binary I64 _)) = refl
simple_name (s.Numeric (FloatCompare float.F32 fc.Eq)) = refl
simple_name (s.Numeric (FloatCompare float.F32 _)) = refl
simple_name (s.Numeric (FloatUnary float.F32 fu.Abs)) = refl
simple_name (s.Numeric (FloatUnary float.F32 _)) = refl
simple_name (s.Numeric (FloatBinary float.F32 fb.Add)) = refl
simple_name (s.Numeric (FloatBinary float.F32 _)) = refl
simple_name (s.Numeric (FloatCompare float.F64 fc.Eq)) = refl
simple_name (s.Numeric (FloatCompare float.F64 _)) = refl
simple_name (s.Numeric (FloatUnary float.F64 fu.Abs)) = refl
simple_name (s.Numeric (FloatUnary float.F64 _)) = refl
simple_name (s.Numeric (FloatBinary float.F64 fb.Add)) = refl
simple_name (s.Numeric (FloatBinary float.F64 _)) = refl
simple_name (s.Numeric (Convert I32TruncF32S)) = refl
simple_name (s.Numeric (Convert _)) = refl
simple_name (s.Numeric (SignExtend I32From8)) = refl
simple_name (s.Numeric (SignExtend _)) = refl
simple_name (s.Numeric (Saturate I32TruncSatF32S)) = refl
simple_name (s.Numeric (Saturate _)) = refl
simple_name (s.Numeric _) = refl
simple_name (s.Load I32Load word_at) = refl
simple_name (s.Load _ word_at) = refl
simple_name (s.Store I32Store word_at) = refl
simple_name (s.Store _ word_at) = refl
simple_name _ = refl

-- ---- type uses

pub type_head : IsHead (codes "type")
type_head = head_is 116 (codes "ype") refl refl refl

pub t_prefix : IsPrefix (codes "$t")
t_prefix = record { first = 116; rest = []; is = refl; chars = refl }

pub f_prefix : IsPrefix (codes "$f")
f_prefix = record { first = 102; rest = []; is = refl; chars = refl }

pub g_prefix : IsPrefix (codes "$g")
g_prefix = record { first = 103; rest = []; is = refl; chars = refl }

-- the identifiers of the first items of a space
abbrev pub Numbers : List ℕ → Ids → ℕ → Type 0
Numbers prefix ids n = (x : ℕ) → x < n → slice_get ids x ≡ Some (id_at prefix x)

-- The definitions of a module, with the identifiers that are printed.
pub record HasNames (names : Names) (c : Counts) : Type 0 where
  pub signatures : (x : ℕ) → x < c.types → (f : Signature) × (slice_get names.signatures x ≡ Some f)
  pub types : Numbers (codes "$t") names.types c.types
  pub functions : Numbers (codes "$f") names.functions c.functions
  pub globals : Numbers (codes "$g") names.globals c.globals

pub prints_type_use : (names : Names) (c : Counts) → HasNames names c → (x : ℕ) → x < 2 ^ 32 → x < c.types → (f : Signature) → slice_get names.signatures x ≡ Some f
    → Prints (TypeUse names x (map (λ t. (None, t)) f.params)) (type_use x)
prints_type_use names c h x lt below f e =
    let used = prints_form gap (codes "type") (type_name x ∷ []) gap_breaks type_head (prints_use (codes "$t") names.types x t_prefix lt (h.types x below)) in
    record {
      stands = used.stands;
      writes = (f, [], [], e, (tokens (type_use x), [], sym (append-nil (tokens (type_use x))), used.writes, ([], [], refl, ([], refl, refl), ([], refl, refl))), inl (refl, refl, refl));
    }

-- ---- operands

prints_access : (width : ℕ) (word_at : MemArg) → IsU32 word_at.offset → word_at.align ≤ 3 → Prints (WritesAccess width word_at) (access_words width word_at)
prints_access width word_at o a =
    prints_then _ _ (prints_key 111 (codes "ffset=") 0 word_at.offset refl refl o) (prints_key 97 (codes "lign=") width (2 ^ word_at.align) refl refl (small word_at.align a))
  where
    small : (n : ℕ) → n ≤ 3 → 2 ^ n < 2 ^ 32
    small n le = let p : 2 ^ n ≤ 2 ^ 3 = pow-le-pow_right (lit< tt) le in omega (arith, p)

wider : (n : ℤ) → FitsBits 32 n → FitsBits 64 n
wider (pos n) h = omega (arith, h)
wider (negsuc n) h = omega (arith, h)

module _ (sc : Scope) (c : Counts) (h : HasNames sc.names c) where
  prints_operand : (labels : Ids) (i : Simple) → IsFine c i → Prints (WritesOperand sc labels i) (immediate_words i)
  prints_operand labels (s.Br l) f = prints_label labels l f
  prints_operand labels (s.BrIf l) f = prints_label labels l f
  prints_operand labels (s.Call x) f = prints_use (codes "$f") sc.names.functions x f_prefix f.0 (h.functions x f.1)
  prints_operand labels (s.CallIndirect x) f =
      let g = h.signatures x f.1 in
      prints_as (type_use x) (λ t. (g.0.params, t)) (prints_type_use sc.names c h x f.0 f.1 g.0 g.1)
  prints_operand labels (s.LocalGet x) f = prints_index sc.locals x f
  prints_operand labels (s.LocalSet x) f = prints_index sc.locals x f
  prints_operand labels (s.LocalTee x) f = prints_index sc.locals x f
  prints_operand labels (s.GlobalGet x) f = prints_use (codes "$g") sc.names.globals x g_prefix f.0 (h.globals x f.1)
  prints_operand labels (s.GlobalSet x) f = prints_use (codes "$g") sc.names.globals x g_prefix f.0 (h.globals x f.1)
  prints_operand labels (s.MemoryInit x) f = prints_number x f
  prints_operand labels (s.DataDrop x) f = prints_number x f
  prints_operand labels (s.TableInit x) f = prints_number x f
  prints_operand labels (s.ElemDrop x) f = prints_number x f
  prints_operand labels (s.I32Const n) f = prints_integer 32 n (lit< tt) f (wider n f)
  prints_operand labels (s.I64Const n) f = prints_integer 64 n (lit< tt) f f
  prints_operand labels (s.F32Const n) f = prints_float float.F32 n f
  prints_operand labels (s.F64Const n) f = prints_float float.F64 n f
  prints_operand labels (s.Load o word_at) f = prints_access (load o).width word_at f.0 f.1
  prints_operand labels (s.Store o word_at) f = prints_access (store o).width word_at f.0 f.1
  prints_operand labels _ f = prints_nothing

  prints_simple : (before : List ℕ) → IsBreak before → (labels : Ids) (i : Simple) → IsFine c i → Prints (WritesSimple sc labels i) (word_at before (atom (opcode i).1) ∷ immediate_words i)
  prints_simple before b labels i f =
      prints_then (word_at before (atom (opcode i).1) ∷ []) (immediate_words i) (prints_word before (opcode i).1 b (name_atom (opcode i).1 (simple_name i))) (prints_operand labels i f)

  -- a constant expression
  pub prints_const : (x : Const) → IsFine c (constant x) → Prints (WritesSimple sc [] (constant x)) (const_words x)
  prints_const x f = prints_simple gap gap_breaks [] (constant x) f

  -- ---- ops

  abbrev printed : List Op → List Word
  printed ops = flat_map op_words ops

  prints_line : (a : List ℕ) → is_name a ≡ true → Prints (w.Keyword a) (word_at body_line (atom a) ∷ [])
  prints_line a h = prints_word body_line a body_line_breaks (name_atom a h)

  prints_block_type : (t : Option ValType) → Prints (WritesBlockType t) (result_words t)
  prints_block_type None = prints_nothing
  prints_block_type (Some t) = prints_form gap (codes "result") (type_word t ∷ []) gap_breaks (head_is 114 (codes "esult") refl refl refl) (prints_type t)

  prints_opens : (a : List ℕ) (t : Option ValType) → is_name a ≡ true → Prints (Opens a None t) (word_at body_line (atom a) ∷ result_words t)
  prints_opens a t n = prints_then (word_at body_line (atom a) ∷ []) (result_words t) (prints_line a n) (prints_then [] (result_words t) prints_nothing (prints_block_type t))

  labels_printed : (ids : Ids) (ls : List ℕ) (l : ℕ) → AllByRecursion IsU32 ls → IsU32 l → Prints (Each (ResolvesLabel ids) ls ▸ ResolvesLabel ids l) (printed (map op.Label ls ++ op.Label l ∷ []))
  labels_printed ids [] l f lt = prints_then [] _ prints_nothing (prints_label ids l lt)
  labels_printed ids (x ∷ ls) l f lt =
      let more = labels_printed ids ls l f.1 lt in
      let first = prints_label ids x f.0 in
      let both = prints_then _ _ first more in
      prints_as _ (λ k. (k.0 ++ k.4.0, k.4.1, k.2 ∙ ap (λ z. k.0 ++ z) k.4.2 ∙ sym (append_assoc k.0 k.4.0 k.4.1), (k.0, k.4.0, refl, k.3, k.4.3), k.4.4)) both

  -- an op, then others, then an end
  prints_within : {P Q R : Form Token} (o : Op) (inner after : List Op) → Prints P (op_words o) → Prints Q (printed inner) → Prints R (printed after) → Prints (P ▸ Q ▸ R) (printed (o ∷ inner ++ after))
  prints_within {P} {Q} {R} o inner after p q r =
      subst (Prints (P ▸ Q ▸ R)) (ap (λ z. op_words o ++ z) (sym (flat_map-append op_words inner after))) (prints_then (op_words o) _ p (prints_then (printed inner) (printed after) q r))

  prints_end : Prints (Closes (codes "end") None) (printed (op.End ∷ []))
  prints_end = prints_line (codes "end") refl

  else_printed : {P : Form Token} (second : Instructions) → Prints P (printed (ops_of second)) → Prints (WritesElse None second P) (printed (else_ops second (ops_of second)))
  else_printed none h = prints_as [] inr prints_nothing
  else_printed (snoc is i) h = prints_then (op_words op.Else) (printed (ops_of (snoc is i))) (prints_line (codes "else") refl) h

  mutual
    instruction_printed : (ids : Ids) (i : Instruction) → IsFineInstruction c i → Prints (WritesInstruction sc ids i) (printed (instruction_ops i))
    instruction_printed ids (simple i) f = subst (Prints (WritesSimple sc ids i)) (sym (append-nil (op_words (op.Simple i)))) (prints_simple body_line body_line_breaks ids i f)
    instruction_printed ids (table ls l) f =
        prints_as _ (λ k. (f.1, k)) (prints_then (op_words (op.BrTable (length ls))) _ (prints_line (codes "br_table") refl) (labels_printed ids ls l f.0 f.2))
    instruction_printed ids (block t body) f =
        prints_as _ (λ k. (None, k)) (prints_within (op.Block t) (ops_of body) (op.End ∷ []) (prints_opens (codes "block") t refl) (instructions_printed (None ∷ ids) body f) prints_end)
    instruction_printed ids (loop t body) f =
        prints_as _ (λ k. (None, k)) (prints_within (op.Loop t) (ops_of body) (op.End ∷ []) (prints_opens (codes "loop") t refl) (instructions_printed (None ∷ ids) body f) prints_end)
    instruction_printed ids (choice t first second) f =
        let other = else_printed second (instructions_printed (None ∷ ids) second f.1) in
        subst (Prints (WritesInstruction sc ids (choice t first second))) (ap printed (sym (append_assoc (op.If t ∷ ops_of first) (else_ops second (ops_of second)) (op.End ∷ []))))
        (prints_as _ (λ k. (None, k)) (prints_within (op.If t) (ops_of first) (else_ops second (ops_of second) ++ op.End ∷ []) (prints_opens (codes "if") t refl) (instructions_printed (None ∷ ids) first f.0)
        (subst (Prints (WritesElse None second (WritesInstructions sc (None ∷ ids) second) ▸ Closes (codes "end") None)) (sym (flat_map-append op_words (else_ops second (ops_of second)) (op.End ∷ [])))
        (prints_then _ (printed (op.End ∷ [])) other prints_end))))

    -- the tokens of a printed body write it
    pub instructions_printed : (ids : Ids) (is : Instructions) → AreFine c is → Prints (WritesInstructions sc ids is) (printed (ops_of is))
    instructions_printed ids none f = prints_nothing
    instructions_printed ids (snoc is i) f =
        subst (Prints (WritesInstructions sc ids (snoc is i))) (sym (flat_map-append op_words (ops_of is) (instruction_ops i)))
        (prints_then (printed (ops_of is)) (printed (instruction_ops i)) (instructions_printed ids is f.0) (instruction_printed ids i f.1))
