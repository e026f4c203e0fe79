-- Pieces of a body are read exactly as tokens write them.
use Rattle.std.proofs.Common.{◌≡◌, ℕ, ◌<◌, ◌≤◌, true, false, cond, List, [], ◌∷◌, ◌++◌, ◌⊎◌, length, Option, Some, None, refl, sym, ap, subst, ◌∙◌, inl, inr, arith, append_assoc}
use Rattle.std.specs.Prelude.{codes, ◌==◌, ◌^◌, nat_lt, not}
use Rattle.std.proofs.lemmas.Bool.{cond-true, ltb-true, lt-ltb, and_left, ne_eqb}
use Rattle.wm_syntax.specs.Spelling.{Form, Each, ◌▸◌}
use Rattle.wm_syntax.specs.declared.types.ValType.{ValType}
use Rattle.wm_syntax.specs.declared.instructions.MemArg.{MemArg}
use Rattle.wm_syntax.specs.declared.instructions.IntType.TheVariants.{I32, I64}
use Rattle.wm_syntax.specs.declared.instructions.FloatType.TheVariants as float
use Rattle.wm_syntax.specs.declared.instructions.Conversion.TheVariants.{I32TruncF32S}
use Rattle.wm_syntax.specs.declared.instructions.Saturation.TheVariants.{I32TruncSatF32S}
use Rattle.wm_syntax.specs.declared.instructions.LoadOp.{LoadOp}
use Rattle.wm_syntax.specs.declared.instructions.LoadOp.TheVariants.{I32Load, F32Load, F64Load}
use Rattle.wm_syntax.specs.declared.instructions.StoreOp.{StoreOp}
use Rattle.wm_syntax.specs.declared.instructions.StoreOp.TheVariants.{I32Store, F32Store, F64Store}
use Rattle.wm_syntax.specs.declared.instructions.Numeric.TheVariants.{Test, Compare, Unary, Binary, FloatCompare, FloatUnary, FloatBinary, Convert, SignExtend, Saturate}
use Rattle.wm_syntax.specs.declared.instructions.SignExtension.TheVariants.{I32From8}
use Rattle.wm_syntax.specs.declared.instructions.Op.{Op}
use Rattle.wm_syntax.specs.declared.instructions.Op.TheVariants as op
use Rattle.wm_syntax.specs.declared.instructions.Simple.{Simple}
use Rattle.wm_syntax.specs.declared.instructions.Simple.TheVariants as s
use Rattle.wm_syntax.specs.declared.instructions.op_class.Immediates.{Immediates}
use Rattle.wm_syntax.specs.declared.instructions.op_class.LoadOrStore.TheVariants as accesses
use Rattle.wm_syntax.specs.declared.instructions.op_class.MemoryOp.TheVariants as memory
use Rattle.wm_syntax.specs.declared.instructions.op_class.BlockOp.TheVariants as opening
use Rattle.wm_syntax.specs.declared.instructions.op_class.Indexed.TheVariants as indexed
use Rattle.wm_syntax.specs.declared.instructions.op_class.Immediates.TheVariants as k
use Rattle.wm_syntax.specs.declared.instructions.op_class.OpClass.{OpClass}
use Rattle.wm_syntax.specs.declared.instructions.op_class.OpClass.TheVariants as class
use Rattle.wm_syntax.specs.declared.profile.Profile.{Profile}
use Rattle.wm_syntax.specs.Opcodes.{opcode, load, store}
use Rattle.wm_syntax.specs.OpClasses.{class_of, IsClassOfOp}
use Rattle.wm_syntax.specs.Profiles.{HasBlockType, HasSimple, IsOpOf}
use Rattle.wm_tokens.specs.Tokens.{Token, open_paren, close_paren, string, atom, is_lower}
use Rattle.wm_tokens.proofs.Basics.{chosen, same_some}
use Rattle.wm_syntax.specs.declared.instructions.op_class.BlockOp.{BlockOp}
use Rattle.wm_syntax.specs.declared.instructions.op_class.BlockOp.TheVariants.{Block, Loop, If}
use Rattle.wm_tokens.specs.Identifiers.{Id, Ids, AreDistinct, WritesId, Resolves, ResolvesLabel}
use Rattle.wm_syntax.specs.OpNames.{op_name}
use Rattle.wm_syntax.specs.exact.NameTable.{class_named, immediates_name}
use Rattle.wm_syntax.proofs.NamedOps.{found_named, only_named}
use Rattle.wm_tokens.specs.Written.{Names, Scope, UnnamedTypeUse, UnsignedNumber, WritesOperand, WritesBlockType, WritesInteger, WritesFloat, WritesAccess}
use Rattle.wm_floats.specs.exact.Atoms.{float_of}
use Rattle.wm_bodies.proofs.Floats.{float_sound, float_complete}
use Rattle.wm_bodies.specs.inner.Pieces.{Opened, labels, Piece, plain, jump, opens, middle, closes, opening_word, IsPieceOf, WritesPiece}
use Rattle.wm_bodies.specs.exact.Reading.{Reader, atom_at, unsigned_of, index_of, integer_of, then_at, id_at, is_id, is_word, after_key, access_at, block_type_at, again_at, split_last, labels_at, table_of, table_at, middle_at, closes_at, simple_at, opens_at, kind_at, class_at, piece_at}
use Rattle.wm_bodies.proofs.Readers.{Sound, Complete, Both, bind_ok, bind_is, then_sound, then_complete, made_sound, made_is}
use Rattle.wm_bodies.proofs.Indices.{index_sound, index_complete, label_sound, label_complete, number_sound, number_complete}
use Rattle.wm_bodies.proofs.Immediates.{integer_sound, integer_complete, NoKeys, access_sound, access_complete, NotId, id_sound, id_complete, NotOpen, OfBlockType, block_type_sound, block_type_complete, IsName, Again, again_sound, again_complete, closes_again, again_closes, NotIndex, labels_sound, labels_complete}

-- ---- a piece's word, and what follows it

abbrev pub piece_word : Piece → List ℕ
piece_word (plain i) = (opcode i).1
piece_word (jump ls l) = codes "br_table"
piece_word (opens o id t) = opening_word o
piece_word middle = codes "else"
piece_word closes = codes "end"

abbrev pub opening_class : BlockOp → OpClass
opening_class Block = class.With (k.Block opening.Block)
opening_class Loop = class.With (k.Block opening.Loop)
opening_class If = class.With (k.Block opening.If)

abbrev pub piece_class : Piece → OpClass
piece_class (plain i) = class_of (op.Simple i)
piece_class (jump ls l) = class.With (k.Index indexed.BrTable)
piece_class (opens o id t) = opening_class o
piece_class middle = class.Plain op.Else
piece_class closes = class.Plain op.End

abbrev pub Jumps : Ids → List ℕ → ℕ → Form Token
Jumps ids ls l = λ k. (length ls < 2 ^ 32) × (Each (ResolvesLabel ids) ls ▸ ResolvesLabel ids l) k

abbrev pub RestOf : Scope → Opened → Piece → Form Token
RestOf sc bs (plain i) = WritesOperand sc (labels bs) i
RestOf sc bs (jump ls l) = Jumps (labels bs) ls l
RestOf sc bs (opens o id t) = WritesId id ▸ WritesBlockType t
RestOf sc [] middle = λ k. ⊥
RestOf sc (b ∷ bs) middle = λ k. (b.may_else ≡ true) × Again b.id k
RestOf sc [] closes = λ k. ⊥
RestOf sc (b ∷ bs) closes = Again b.id

abbrev Split : Scope → Opened → Piece → List Token → Type 0
Split sc bs q front = (more : List Token) × (front ≡ atom (piece_word q) ∷ more) × RestOf sc bs q more

pub to_rest : (sc : Scope) (bs : Opened) (q : Piece) (front : List Token) → WritesPiece sc bs q front → Split sc bs q front
to_rest sc bs (plain i) front (x, y, e, w, h) = (y, e ∙ ap (λ (z : List Token). z ++ y) w, h)
to_rest sc bs (jump ls l) front (lt, (x, y, e, w, h)) = (y, e ∙ ap (λ (z : List Token). z ++ y) w, (lt, h))
to_rest sc bs (opens o id t) front (x, y, e, w, h) = (y, e ∙ ap (λ (z : List Token). z ++ y) w, h)
to_rest sc [] middle front h = absurd h
to_rest sc (b ∷ bs) middle front (may, h) = let g = again_closes (codes "else") b.id front h in (g.0, g.1, (may, g.2))
to_rest sc [] closes front h = absurd h
to_rest sc (b ∷ bs) closes front h = again_closes (codes "end") b.id front h

pub from_rest : (sc : Scope) (bs : Opened) (q : Piece) (more : List Token) → RestOf sc bs q more → WritesPiece sc bs q (atom (piece_word q) ∷ more)
from_rest sc bs (plain i) more h = (atom (opcode i).1 ∷ [], more, refl, refl, h)
from_rest sc bs (jump ls l) more (lt, h) = (lt, (atom (codes "br_table") ∷ [], more, refl, refl, h))
from_rest sc bs (opens o id t) more h = (atom (opening_word o) ∷ [], more, refl, refl, h)
from_rest sc [] middle more h = absurd h
from_rest sc (b ∷ bs) middle more (may, h) = (may, closes_again (codes "else") b.id more h)
from_rest sc [] closes more h = absurd h
from_rest sc (b ∷ bs) closes more h = closes_again (codes "end") b.id more h

-- ---- the tokens after a piece

-- the parenthesis that closes the function, or a word that is no part of a memory argument
abbrev pub Follow : List Token → Type 0
Follow (close_paren ∷ k) = Unit {0}
Follow (atom a ∷ k) = (is_word a ≡ true) × (after_key (codes "offset=") a ≡ None) × (after_key (codes "align=") a ≡ None)
Follow _ = ⊥

word_not_id : (a : List ℕ) → is_word a ≡ true → is_id a ≡ false
word_not_id [] h = refl
word_not_id (c ∷ a) h = and_left (c == 36) _ (ne_eqb c 36 (λ q. let f : false ≡ true = ap is_lower (sym q) ∙ h in cc))

pub follow_id : (k : List Token) → Follow k → NotId k
follow_id [] f = tt
follow_id (open_paren ∷ k) f = absurd f
follow_id (close_paren ∷ k) f = tt
follow_id (string b ∷ k) f = absurd f
follow_id (atom a ∷ k) f = word_not_id a f.0

pub follow_keys : (k : List Token) → Follow k → NoKeys k
follow_keys [] f = absurd f
follow_keys (open_paren ∷ k) f = absurd f
follow_keys (close_paren ∷ k) f = (tt, tt)
follow_keys (string b ∷ k) f = absurd f
follow_keys (atom a ∷ k) f = (f.1, f.2)

pub follow_open : (k : List Token) → Follow k → NotOpen k
follow_open [] f = absurd f
follow_open (open_paren ∷ k) f = absurd f
follow_open (close_paren ∷ k) f = tt
follow_open (string b ∷ k) f = absurd f
follow_open (atom a ∷ k) f = tt

pub follow_index : (k : List Token) → Follow k → NotIndex k
follow_index [] f = absurd f
follow_index (open_paren ∷ k) f = absurd f
follow_index (close_paren ∷ k) f = refl
follow_index (string b ∷ k) f = absurd f
follow_index (atom a ∷ k) f = ap not f.0

abbrev pub IsPlainWord : List ℕ → Type 0
IsPlainWord a = (is_word a ≡ true) × (after_key (codes "offset=") a ≡ None) × (after_key (codes "align=") a ≡ None)

pub simple_word : (i : Simple) → IsPlainWord (opcode i).1
simple_word (s.Numeric (Test I32)) = (refl, refl, refl)
simple_word (s.Numeric (Test I64)) = (refl, refl, refl)
simple_word (s.Numeric (Compare I32 o)) = (refl, refl, refl)
simple_word (s.Numeric (Compare I64 o)) = (refl, refl, refl)
simple_word (s.Numeric (Unary I32 o)) = (refl, refl, refl)
simple_word (s.Numeric (Unary I64 o)) = (refl, refl, refl)
simple_word (s.Numeric (Binary I32 o)) = (refl, refl, refl)
simple_word (s.Numeric (Binary I64 o)) = (refl, refl, refl)
simple_word (s.Numeric (FloatCompare float.F32 o)) = (refl, refl, refl)
simple_word (s.Numeric (FloatCompare float.F64 o)) = (refl, refl, refl)
simple_word (s.Numeric (FloatUnary float.F32 o)) = (refl, refl, refl)
simple_word (s.Numeric (FloatUnary float.F64 o)) = (refl, refl, refl)
simple_word (s.Numeric (FloatBinary float.F32 o)) = (refl, refl, refl)
simple_word (s.Numeric (FloatBinary float.F64 o)) = (refl, refl, refl)
simple_word (s.Numeric (Convert I32TruncF32S)) = (refl, refl, refl)
simple_word (s.Numeric (Convert _)) = (refl, refl, refl)
simple_word (s.Numeric (Saturate I32TruncSatF32S)) = (refl, refl, refl)
simple_word (s.Numeric (Saturate _)) = (refl, refl, refl)
simple_word (s.Numeric (SignExtend I32From8)) = (refl, refl, refl)
simple_word (s.Numeric (SignExtend _)) = (refl, refl, refl)
simple_word (s.Numeric _) = (refl, refl, refl)
simple_word (s.Load I32Load at) = (refl, refl, refl)
simple_word (s.Load _ at) = (refl, refl, refl)
simple_word (s.Store I32Store at) = (refl, refl, refl)
simple_word (s.Store _ at) = (refl, refl, refl)
simple_word _ = (refl, refl, refl)

piece_is_word : (q : Piece) → IsPlainWord (piece_word q)
piece_is_word (plain i) = simple_word i
piece_is_word (jump ls l) = (refl, refl, refl)
piece_is_word (opens Block id t) = (refl, refl, refl)
piece_is_word (opens Loop id t) = (refl, refl, refl)
piece_is_word (opens If id t) = (refl, refl, refl)
piece_is_word middle = (refl, refl, refl)
piece_is_word closes = (refl, refl, refl)

pub piece_follows : (sc : Scope) (bs : Opened) (q : Piece) (front rest : List Token) → WritesPiece sc bs q front → Follow (front ++ rest)
piece_follows sc bs q front rest h = let g = to_rest sc bs q front h in subst (λ (z : List Token). Follow (z ++ rest)) (sym g.1) (piece_is_word q)

-- ---- a class and its word

-- an instruction of every profile, by its form alone
IsFree : Simple → Type 0
IsFree (s.Numeric n) = ⊥
IsFree (s.F32Const n) = ⊥
IsFree (s.F64Const n) = ⊥
IsFree (s.Load o at) = ⊥
IsFree (s.Store o at) = ⊥
IsFree s.MemoryCopy = ⊥
IsFree s.MemoryFill = ⊥
IsFree (s.MemoryInit x) = ⊥
IsFree (s.DataDrop x) = ⊥
IsFree (s.TableInit x) = ⊥
IsFree (s.ElemDrop x) = ⊥
IsFree s.TableCopy = ⊥
IsFree _ = Unit {0}

free : (p : Profile) (i : Simple) → IsFree i → HasSimple p i
unfolding IsFree
free p (s.Numeric n) h = absurd h
free p (s.F32Const n) h = absurd h
free p (s.F64Const n) h = absurd h
free p (s.Load o at) h = absurd h
free p (s.Store o at) h = absurd h
free p s.MemoryCopy h = absurd h
free p s.MemoryFill h = absurd h
free p (s.MemoryInit x) h = absurd h
free p (s.DataDrop x) h = absurd h
free p (s.TableInit x) h = absurd h
free p (s.ElemDrop x) h = absurd h
free p s.TableCopy h = absurd h
free p _ h = refl

-- whether a profile has an access does not depend on its place
load_all : (p : Profile) (o : LoadOp) (at : MemArg) → HasSimple p (s.Load o at) → (a : MemArg) → HasSimple p (s.Load o a)
load_all p F32Load at h a = h
load_all p F64Load at h a = h
load_all p _ at h a = refl

store_all : (p : Profile) (o : StoreOp) (at : MemArg) → HasSimple p (s.Store o at) → (a : MemArg) → HasSimple p (s.Store o a)
store_all p F32Store at h a = h
store_all p F64Store at h a = h
store_all p _ at h a = refl

-- the accesses and the floats with these immediates are of the profile
abbrev KindOf : Profile → Immediates → Type 0
KindOf p k.F32Const = (n : ℕ) → HasSimple p (s.F32Const n)
KindOf p k.F64Const = (n : ℕ) → HasSimple p (s.F64Const n)
KindOf p (k.Access (accesses.Load o)) = (at : MemArg) → HasSimple p (s.Load o at)
KindOf p (k.Access (accesses.Store o)) = (at : MemArg) → HasSimple p (s.Store o at)
KindOf p (k.Memory memory.MemoryCopy) = HasSimple p s.MemoryCopy
KindOf p (k.Memory memory.MemoryFill) = HasSimple p s.MemoryFill
KindOf p k.MemoryInit = (x : ℕ) → HasSimple p (s.MemoryInit x)
KindOf p (k.Index indexed.DataDrop) = (x : ℕ) → HasSimple p (s.DataDrop x)
KindOf p k.TableInit = (x : ℕ) → HasSimple p (s.TableInit x)
KindOf p (k.Index indexed.ElemDrop) = (x : ℕ) → HasSimple p (s.ElemDrop x)
KindOf p k.TableCopy = HasSimple p s.TableCopy
KindOf p _ = Unit {0}

pub piece_named : (p : Profile) (q : Piece) → IsPieceOf p q → class_named p (piece_word q) ≡ piece_class q
piece_named p (plain i) h = found_named p (opcode i).1 (op.Simple i) refl h
piece_named p (jump ls l) h = found_named p (codes "br_table") (op.BrTable 0) refl tt
piece_named p (opens Block id t) h = found_named p (codes "block") (op.Block t) refl h
piece_named p (opens Loop id t) h = found_named p (codes "loop") (op.Loop t) refl h
piece_named p (opens If id t) h = found_named p (codes "if") (op.If t) refl h
piece_named p middle h = found_named p (codes "else") op.Else refl tt
piece_named p closes h = found_named p (codes "end") op.End refl tt

-- A keyword that names an op of the profile.
abbrev Named : Profile → List ℕ → Type 0
Named p w = (o : Op) × (op_name o ≡ Some w) × IsOpOf p o × (class_of o ≡ class_named p w)

named_has : (p : Profile) (w : List ℕ) → (class_named p w ≡ class.None) ⊎ (class_named p w ≡ class.Float) ⊎ Named p w
named_has p w = by (class_named p w) refl
  where
    by : (c : OpClass) → class_named p w ≡ c → (class_named p w ≡ class.None) ⊎ (class_named p w ≡ class.Float) ⊎ Named p w
    by class.None e = inl e
    by class.Float e = inr (inl e)
    by (class.Plain o) e = inr (inr (only_named p w (subst IsClassOfOp (sym e) tt)))
    by (class.With kind) e = inr (inr (only_named p w (subst IsClassOfOp (sym e) tt)))

-- Identifiers of the scope are distinct.
pub record IsScope (sc : Scope) : Type 0 where
  pub functions : AreDistinct sc.names.functions
  pub globals : AreDistinct sc.names.globals
  pub locals : AreDistinct sc.locals

abbrev pub AreNames : Opened → Type 0
AreNames [] = Unit {0}
AreNames (b ∷ bs) = IsName b.id × AreNames bs

-- ---- tables

split_found : (xs ls : List ℕ) (l : ℕ) → split_last xs ≡ Some (ls, l) → xs ≡ ls ++ l ∷ []
split_found [] ls l e = absurd cc
split_found (x ∷ []) ls l e = let p = same_some ([], x) (ls, l) e in ap (λ (z : List ℕ × ℕ). z.0 ++ z.1 ∷ []) p
split_found (x ∷ y ∷ ys) ls l e =
    let g = bind_ok (split_last (y ∷ ys)) (λ r. Some (x ∷ r.0, r.1)) (ls, l) e in
    let p : ◌≡◌ {A = List ℕ × ℕ} (x ∷ g.0.0, g.0.1) (ls, l) = same_some (x ∷ g.0.0, g.0.1) (ls, l) g.2 in
    ap (λ (z : List ℕ). x ∷ z) (split_found (y ∷ ys) g.0.0 g.0.1 g.1) ∙ ap (λ (z : List ℕ × ℕ). z.0 ++ z.1 ∷ []) p

pub split_more : (ls : List ℕ) (l : ℕ) → split_last (ls ++ l ∷ []) ≡ Some (ls, l)
split_more [] l = refl
split_more (x ∷ []) l = refl
split_more (x ∷ y ∷ ls) l = bind_is (split_last (y ∷ ls ++ l ∷ [])) (λ r. Some (x ∷ r.0, r.1)) (y ∷ ls, l) (split_more (y ∷ ls) l)

each_join : (P : ℕ → Form Token) (ls : List ℕ) (l : ℕ) (front : List Token) → (Each P ls ▸ P l) front → Each P (ls ++ l ∷ []) front
each_join P [] l front (x, y, e, h, i) = (front, [], sym (append-none front), subst (P l) (sym (e ∙ ap (λ (z : List Token). z ++ y) h)) i, refl)
  where
    append-none : (f : List Token) → f ++ [] ≡ f
    append-none [] = refl
    append-none (t ∷ f) = ap (λ (z : List Token). t ∷ z) (append-none f)
each_join P (m ∷ ls) l front (x, y, e, (u, v, f, h, more), i) =
    (u, v ++ y, e ∙ ap (λ (z : List Token). z ++ y) f ∙ append_assoc u v y, h, each_join P ls l (v ++ y) (v, y, refl, more, i))

each_cut : (P : ℕ → Form Token) (ls : List ℕ) (l : ℕ) (front : List Token) → Each P (ls ++ l ∷ []) front → (Each P ls ▸ P l) front
each_cut P [] l front (x, y, e, h, i) = ([], front, refl, refl, subst (P l) (sym (e ∙ ap (λ (z : List Token). x ++ z) i ∙ append-none x)) h)
  where
    append-none : (f : List Token) → f ++ [] ≡ f
    append-none [] = refl
    append-none (t ∷ f) = ap (λ (z : List Token). t ∷ z) (append-none f)
each_cut P (m ∷ ls) l front (x, y, e, h, more) =
    let g = each_cut P ls l y more in
    (x ++ g.0, g.1, e ∙ ap (λ (z : List Token). x ++ z) g.2 ∙ sym (append_assoc x g.0 g.1), (x, g.0, refl, h, g.3), g.4)

abbrev IsJump : Scope → Opened → Profile → Piece → Form Token
IsJump sc bs p q front = (piece_word q ≡ codes "br_table") × RestOf sc bs q front × IsPieceOf p q

table_sound : (sc : Scope) (bs : Opened) (p : Profile) → Sound (table_at (labels bs)) (IsJump sc bs p)
table_sound sc bs p k q rest e =
    let a = bind_ok (labels_at (labels bs) k) _ (q, rest) e in
    let b = bind_ok (table_of a.0.0) (λ r. Some (r, a.0.1)) (q, rest) a.2 in
    let is : ◌≡◌ {A = Piece × List Token} (b.0, a.0.1) (q, rest) = same_some (b.0, a.0.1) (q, rest) b.2 in
    let one = labels_sound (labels bs) k a.0.0 a.0.1 a.1 in
    let c = bind_ok (split_last a.0.0) (λ r. cond (nat_lt (length r.0) 0x1_0000_0000) (Some (jump r.0 r.1)) None) b.0 b.1 in (
      one.0,
      one.1 ∙ ap (λ (z : Piece × List Token). one.0 ++ z.1) is,
      subst (λ (z : Piece × List Token). IsJump sc bs p z.0 one.0) is
          (elim (chosen (nat_lt (length c.0.0) 0x1_0000_0000) (Some (jump c.0.0 c.0.1)) None (Some b.0) c.2) as (λ _. IsJump sc bs p b.0 one.0) [
            | inl t ↦ subst (λ (z : Piece). IsJump sc bs p z one.0) (same_some (jump c.0.0 c.0.1) b.0 t.1)
                (refl, (ltb-true (length c.0.0) 0x1_0000_0000 t.0, each_cut (ResolvesLabel (labels bs)) c.0.0 c.0.1 one.0 (subst (λ (z : List ℕ). Each (ResolvesLabel (labels bs)) z one.0) (split_found a.0.0 c.0.0 c.0.1 c.1) one.2)), tt)
            | inr t ↦ absurd (let f : ◌≡◌ {A = Option Piece} None (Some b.0) = t.1 in cc)
          ]),
    )

table_complete : (ids : Ids) (ls : List ℕ) (l : ℕ) (front rest : List Token) → Jumps ids ls l front → NotIndex rest → table_at ids (front ++ rest) ≡ Some (jump ls l, rest)
table_complete ids ls l front rest (lt, h) f =
    bind_is (labels_at ids (front ++ rest)) _ (ls ++ l ∷ [], rest) (labels_complete ids (ls ++ l ∷ []) front rest (each_join (ResolvesLabel ids) ls l front h) f)
    ∙ bind_is (table_of (ls ++ l ∷ [])) (λ r. Some (r, rest)) (jump ls l)
    (bind_is (split_last (ls ++ l ∷ [])) _ (ls, l) (split_more ls l) ∙ cond-true (nat_lt (length ls) 0x1_0000_0000) _ _ (lt-ltb (length ls) 0x1_0000_0000 lt))

-- ---- else and end

middle_sound : (sc : Scope) (p : Profile) (bs : Opened) → Sound (middle_at bs) (λ q front. (piece_word q ≡ codes "else") × RestOf sc bs q front × IsPieceOf p q)
middle_sound sc p [] k q rest e = absurd cc
middle_sound sc p (b ∷ bs) k q rest e = elim (chosen b.may_else _ _ (Some (q, rest)) e) [
  | inl t ↦ made_sound (λ x. middle) (again_at b.id) (λ x. Again b.id) (λ q front. (piece_word q ≡ codes "else") × RestOf sc (b ∷ bs) q front × IsPieceOf p q)
      (again_sound b.id) (λ x front h. (refl, (t.0, h), tt)) k q rest t.1
  | inr t ↦ absurd (let f : ◌≡◌ {A = Option (Piece × List Token)} None (Some (q, rest)) = t.1 in cc)
]

closes_sound : (sc : Scope) (p : Profile) (bs : Opened) → Sound (closes_at bs) (λ q front. (piece_word q ≡ codes "end") × RestOf sc bs q front × IsPieceOf p q)
closes_sound sc p [] k q rest e = absurd cc
closes_sound sc p (b ∷ bs) k q rest e =
    made_sound (λ x. closes) (again_at b.id) (λ x. Again b.id) (λ q front. (piece_word q ≡ codes "end") × RestOf sc (b ∷ bs) q front × IsPieceOf p q)
    (again_sound b.id) (λ x front h. (refl, h, tt)) k q rest e

pub middle_complete : (sc : Scope) (bs : Opened) (front rest : List Token) → AreNames bs → RestOf sc bs middle front → NotId rest → middle_at bs (front ++ rest) ≡ Some (middle, rest)
middle_complete sc [] front rest n h f = absurd h
middle_complete sc (b ∷ bs) front rest n (may, h) f = cond-true b.may_else _ _ may ∙ made_is (λ x. middle) (again_at b.id (front ++ rest)) tt rest (again_complete b.id n.0 tt front rest h f)

pub closes_complete : (sc : Scope) (bs : Opened) (front rest : List Token) → AreNames bs → RestOf sc bs closes front → NotId rest → closes_at bs (front ++ rest) ≡ Some (closes, rest)
closes_complete sc [] front rest n h f = absurd h
closes_complete sc (b ∷ bs) front rest n h f = made_is (λ x. closes) (again_at b.id (front ++ rest)) tt rest (again_complete b.id n.0 tt front rest h f)

-- ---- by classes

load_width : (o : LoadOp) → (load o).width < 2 ^ 32
load_width o = omega (arith, eight o)
  where
    eight : (o : LoadOp) → (load o).width ≤ 8
    eight I32Load = omega arith
    eight _ = omega arith

store_width : (o : StoreOp) → (store o).width < 2 ^ 32
store_width o = omega (arith, eight o)
  where
    eight : (o : StoreOp) → (store o).width ≤ 8
    eight I32Store = omega arith
    eight _ = omega arith

-- how a type use is read
pub record ReadsUse (use_at : Reader ℕ) (names : Names) : Type 0 where
  pub sound : Sound use_at (UnnamedTypeUse names)
  pub complete : Complete use_at (UnnamedTypeUse names) NotOpen

module _ (use_at : Reader ℕ) (sc : Scope) (use_sound : Sound use_at (UnnamedTypeUse sc.names)) (p : Profile) (bs : Opened) where
  abbrev pub Headed : List ℕ → Piece → Form Token
  Headed w q front = (piece_word q ≡ w) × RestOf sc bs q front × IsPieceOf p q

  simple_sound : {X : Type 0} (f : X → Simple) (r : Reader X) (P : X → Form Token) (w : List ℕ) → Sound r P → ((x : X) → (opcode (f x)).1 ≡ w) → ((x : X) → IsFree (f x))
      → ((x : X) (front : List Token) → P x front → WritesOperand sc (labels bs) (f x) front) → Sound (simple_at f r) (Headed w)
  simple_sound f r P w sound word isfree operand = made_sound (λ x. plain (f x)) r P (Headed w) sound (λ x front h. (word x, operand x front h, free p (f x) (isfree x)))

  alone_sound : (i : Simple) (w : List ℕ) → (opcode i).1 ≡ w → WritesOperand sc (labels bs) i [] → HasSimple p i → Sound (λ k. Some (plain i, k)) (Headed w)
  alone_sound i w e h g k q rest is =
      let u = same_some (plain i, k) (q, rest) is in
      ([], ap (λ (z : Piece × List Token). z.1) u, subst (λ (z : Piece × List Token). Headed w z.0 []) u (e, h, g))

  opens_sound : (o : BlockOp) → Sound (opens_at p o) (Headed (opening_word o))
  opens_sound o = made_sound (λ x. opens o x.0 x.1) (then_at id_at (block_type_at p)) (Both WritesId (OfBlockType p)) (Headed (opening_word o))
      (then_sound id_at (block_type_at p) WritesId (OfBlockType p) id_sound (block_type_sound p)) (λ x front h. (refl, (h.0, h.1, h.2, h.3, h.4.0), h.4.1))

  headed_to : (v w : List ℕ) (r : Reader Piece) → v ≡ w → Sound r (Headed v) → Sound r (Headed w)
  headed_to v w r e h = subst (λ (z : List ℕ). Sound r (Headed z)) e h

  kind_sound : (kind : Immediates) (w : List ℕ) → immediates_name kind ≡ w → KindOf p kind → Sound (kind_at use_at p sc bs kind) (Headed w)
  unfolding IsFree
  kind_sound (k.Block opening.Block) w e of = headed_to (codes "block") w (opens_at p Block) e (opens_sound Block)
  kind_sound (k.Block opening.Loop) w e of = headed_to (codes "loop") w (opens_at p Loop) e (opens_sound Loop)
  kind_sound (k.Block opening.If) w e of = headed_to (codes "if") w (opens_at p If) e (opens_sound If)
  kind_sound (k.Index indexed.Br) w e of = simple_sound s.Br (atom_at (index_of (labels bs))) (ResolvesLabel (labels bs)) w (label_sound (labels bs)) (λ x. e) (λ x. tt) (λ x front h. h)
  kind_sound (k.Index indexed.BrIf) w e of = simple_sound s.BrIf (atom_at (index_of (labels bs))) (ResolvesLabel (labels bs)) w (label_sound (labels bs)) (λ x. e) (λ x. tt) (λ x front h. h)
  kind_sound (k.Index indexed.BrTable) w e of = headed_to (codes "br_table") w (table_at (labels bs)) e (table_sound sc bs p)
  kind_sound (k.Index indexed.Call) w e of = simple_sound s.Call (atom_at (index_of sc.names.functions)) (Resolves sc.names.functions) w (index_sound sc.names.functions) (λ x. e) (λ x. tt) (λ x front h. h)
  kind_sound k.CallIndirect w e of = simple_sound s.CallIndirect use_at (UnnamedTypeUse sc.names) w use_sound (λ x. e) (λ x. tt) (λ x front h. h)
  kind_sound (k.Index indexed.LocalGet) w e of = simple_sound s.LocalGet (atom_at (index_of sc.locals)) (Resolves sc.locals) w (index_sound sc.locals) (λ x. e) (λ x. tt) (λ x front h. h)
  kind_sound (k.Index indexed.LocalSet) w e of = simple_sound s.LocalSet (atom_at (index_of sc.locals)) (Resolves sc.locals) w (index_sound sc.locals) (λ x. e) (λ x. tt) (λ x front h. h)
  kind_sound (k.Index indexed.LocalTee) w e of = simple_sound s.LocalTee (atom_at (index_of sc.locals)) (Resolves sc.locals) w (index_sound sc.locals) (λ x. e) (λ x. tt) (λ x front h. h)
  kind_sound (k.Index indexed.GlobalGet) w e of = simple_sound s.GlobalGet (atom_at (index_of sc.names.globals)) (Resolves sc.names.globals) w (index_sound sc.names.globals) (λ x. e) (λ x. tt) (λ x front h. h)
  kind_sound (k.Index indexed.GlobalSet) w e of = simple_sound s.GlobalSet (atom_at (index_of sc.names.globals)) (Resolves sc.names.globals) w (index_sound sc.names.globals) (λ x. e) (λ x. tt) (λ x front h. h)
  kind_sound (k.Index indexed.DataDrop) w e of = made_sound (λ x. plain (s.DataDrop x)) (atom_at unsigned_of) UnsignedNumber (Headed w) number_sound (λ x front h. (e, h, of x))
  kind_sound k.MemoryInit w e of = made_sound (λ x. plain (s.MemoryInit x)) (atom_at unsigned_of) UnsignedNumber (Headed w) number_sound (λ x front h. (e, h, of x))
  kind_sound (k.Index indexed.ElemDrop) w e of = made_sound (λ x. plain (s.ElemDrop x)) (atom_at unsigned_of) UnsignedNumber (Headed w) number_sound (λ x front h. (e, h, of x))
  kind_sound k.TableInit w e of = made_sound (λ x. plain (s.TableInit x)) (atom_at unsigned_of) UnsignedNumber (Headed w) number_sound (λ x front h. (e, h, of x))
  kind_sound k.TableCopy w e of = alone_sound s.TableCopy w e refl of
  kind_sound (k.Memory memory.MemorySize) w e of = alone_sound s.MemorySize w e refl (free p s.MemorySize tt)
  kind_sound (k.Memory memory.MemoryGrow) w e of = alone_sound s.MemoryGrow w e refl (free p s.MemoryGrow tt)
  kind_sound (k.Memory memory.MemoryCopy) w e of = alone_sound s.MemoryCopy w e refl of
  kind_sound (k.Memory memory.MemoryFill) w e of = alone_sound s.MemoryFill w e refl of
  kind_sound k.I32Const w e of = simple_sound s.I32Const (atom_at (integer_of 32)) (WritesInteger 32) w (integer_sound 32) (λ x. e) (λ x. tt) (λ x front h. h)
  kind_sound k.I64Const w e of = simple_sound s.I64Const (atom_at (integer_of 64)) (WritesInteger 64) w (integer_sound 64) (λ x. e) (λ x. tt) (λ x front h. h)
  kind_sound k.F32Const w e of = made_sound (λ x. plain (s.F32Const x)) (atom_at (float_of float.F32)) (WritesFloat float.F32) (Headed w) (float_sound float.F32) (λ x front h. (e, h, of x))
  kind_sound k.F64Const w e of = made_sound (λ x. plain (s.F64Const x)) (atom_at (float_of float.F64)) (WritesFloat float.F64) (Headed w) (float_sound float.F64) (λ x front h. (e, h, of x))
  kind_sound (k.Access (accesses.Load o)) w e of = made_sound (λ x. plain (s.Load o x)) (access_at (load o).width) (WritesAccess (load o).width) (Headed w) (access_sound (load o).width) (λ x front h. (e, h, of x))
  kind_sound (k.Access (accesses.Store o)) w e of = made_sound (λ x. plain (s.Store o x)) (access_at (store o).width) (WritesAccess (store o).width) (Headed w) (access_sound (store o).width) (λ x front h. (e, h, of x))

  some_word : (v w : List ℕ) → ◌≡◌ {A = Option (List ℕ)} (Some v) (Some w) → v ≡ w
  some_word v w e = same_some v w e

  -- The tokens that the reader of an op's class accepts follow the op's name.
  class_sound : (o : Op) (w : List ℕ) → op_name o ≡ Some w → IsOpOf p o → Sound (class_at use_at p sc bs (class_of o)) (Headed w)
  class_sound (op.Simple (s.Br x)) w e h = kind_sound (k.Index indexed.Br) w (some_word (codes "br") w e) tt
  class_sound (op.Simple (s.BrIf x)) w e h = kind_sound (k.Index indexed.BrIf) w (some_word (codes "br_if") w e) tt
  class_sound (op.Simple (s.Call x)) w e h = kind_sound (k.Index indexed.Call) w (some_word (codes "call") w e) tt
  class_sound (op.Simple (s.CallIndirect x)) w e h = kind_sound k.CallIndirect w (some_word (codes "call_indirect") w e) tt
  class_sound (op.Simple (s.LocalGet x)) w e h = kind_sound (k.Index indexed.LocalGet) w (some_word (codes "local.get") w e) tt
  class_sound (op.Simple (s.LocalSet x)) w e h = kind_sound (k.Index indexed.LocalSet) w (some_word (codes "local.set") w e) tt
  class_sound (op.Simple (s.LocalTee x)) w e h = kind_sound (k.Index indexed.LocalTee) w (some_word (codes "local.tee") w e) tt
  class_sound (op.Simple (s.GlobalGet x)) w e h = kind_sound (k.Index indexed.GlobalGet) w (some_word (codes "global.get") w e) tt
  class_sound (op.Simple (s.GlobalSet x)) w e h = kind_sound (k.Index indexed.GlobalSet) w (some_word (codes "global.set") w e) tt
  class_sound (op.Simple (s.MemoryInit x)) w e h = kind_sound k.MemoryInit w (some_word (codes "memory.init") w e) (λ n. h)
  class_sound (op.Simple (s.DataDrop x)) w e h = kind_sound (k.Index indexed.DataDrop) w (some_word (codes "data.drop") w e) (λ n. h)
  class_sound (op.Simple (s.TableInit x)) w e h = kind_sound k.TableInit w (some_word (codes "table.init") w e) (λ n. h)
  class_sound (op.Simple (s.ElemDrop x)) w e h = kind_sound (k.Index indexed.ElemDrop) w (some_word (codes "elem.drop") w e) (λ n. h)
  class_sound (op.Simple s.TableCopy) w e h = kind_sound k.TableCopy w (some_word (codes "table.copy") w e) h
  class_sound (op.Simple s.MemorySize) w e h = kind_sound (k.Memory memory.MemorySize) w (some_word (codes "memory.size") w e) tt
  class_sound (op.Simple s.MemoryGrow) w e h = kind_sound (k.Memory memory.MemoryGrow) w (some_word (codes "memory.grow") w e) tt
  class_sound (op.Simple s.MemoryCopy) w e h = kind_sound (k.Memory memory.MemoryCopy) w (some_word (codes "memory.copy") w e) h
  class_sound (op.Simple s.MemoryFill) w e h = kind_sound (k.Memory memory.MemoryFill) w (some_word (codes "memory.fill") w e) h
  class_sound (op.Simple (s.I32Const x)) w e h = kind_sound k.I32Const w (some_word (codes "i32.const") w e) tt
  class_sound (op.Simple (s.I64Const x)) w e h = kind_sound k.I64Const w (some_word (codes "i64.const") w e) tt
  class_sound (op.Simple (s.F32Const x)) w e h = kind_sound k.F32Const w (some_word (codes "f32.const") w e) (λ n. h)
  class_sound (op.Simple (s.F64Const x)) w e h = kind_sound k.F64Const w (some_word (codes "f64.const") w e) (λ n. h)
  class_sound (op.Simple (s.Load o at)) w e h = kind_sound (k.Access (accesses.Load o)) w (some_word (load o).name w e) (load_all p o at h)
  class_sound (op.Simple (s.Store o at)) w e h = kind_sound (k.Access (accesses.Store o)) w (some_word (store o).name w e) (store_all p o at h)
  class_sound (op.Simple (s.Numeric n)) w e h = alone_sound (s.Numeric n) w (some_word (opcode (s.Numeric n)).1 w e) refl h
  class_sound (op.Simple s.Unreachable) w e h = alone_sound s.Unreachable w (some_word (codes "unreachable") w e) refl h
  class_sound (op.Simple s.Nop) w e h = alone_sound s.Nop w (some_word (codes "nop") w e) refl h
  class_sound (op.Simple s.Return) w e h = alone_sound s.Return w (some_word (codes "return") w e) refl h
  class_sound (op.Simple s.Drop) w e h = alone_sound s.Drop w (some_word (codes "drop") w e) refl h
  class_sound (op.Simple s.Select) w e h = alone_sound s.Select w (some_word (codes "select") w e) refl h
  class_sound (op.Block t) w e h = kind_sound (k.Block opening.Block) w (some_word (codes "block") w e) tt
  class_sound (op.Loop t) w e h = kind_sound (k.Block opening.Loop) w (some_word (codes "loop") w e) tt
  class_sound (op.If t) w e h = kind_sound (k.Block opening.If) w (some_word (codes "if") w e) tt
  class_sound op.Else w e h = headed_to (codes "else") w (middle_at bs) (some_word (codes "else") w e) (middle_sound sc p bs)
  class_sound op.End w e h = headed_to (codes "end") w (closes_at bs) (some_word (codes "end") w e) (closes_sound sc p bs)
  class_sound (op.BrTable n) w e h = kind_sound (k.Index indexed.BrTable) w (some_word (codes "br_table") w e) tt
  class_sound (op.Label l) w e h = absurd (let f : ◌≡◌ {A = Option (List ℕ)} None (Some w) = e in cc)

  -- The tokens in front write the piece that is read.
  pub piece_sound : (w : List ℕ) → Sound (piece_at use_at p sc bs w) (λ q front. WritesPiece sc bs q (atom w ∷ front) × IsPieceOf p q)
  unfolding piece_at
  piece_sound w k q rest e = elim (named_has p w) [
    | inl n ↦ absurd (let f : ◌≡◌ {A = Option (Piece × List Token)} None (Some (q, rest)) = ap (λ (c : OpClass). class_at use_at p sc bs c k) (sym n) ∙ e in cc)
    | inr (inl n) ↦ absurd (let f : ◌≡◌ {A = Option (Piece × List Token)} None (Some (q, rest)) = ap (λ (c : OpClass). class_at use_at p sc bs c k) (sym n) ∙ e in cc)
    | inr (inr h) ↦ (
        let g = class_sound h.0 w h.1 h.2 k q rest (ap (λ (c : OpClass). class_at use_at p sc bs c k) h.3 ∙ e) in
        (g.0, g.1, (subst (λ (z : List ℕ). WritesPiece sc bs q (atom z ∷ g.0)) g.2.0 (from_rest sc bs q g.0 g.2.1), g.2.2)))
  ]

  -- ---- completeness
  alone_complete : (i : Simple) (front rest : List Token) → front ≡ [] → ◌≡◌ {A = Option (Piece × List Token)} (Some (plain i, front ++ rest)) (Some (plain i, rest))
  alone_complete i front rest e = ap (λ (z : List Token). Some (plain i, z ++ rest)) e

  module _ (scope : IsScope sc) (use_complete : Complete use_at (UnnamedTypeUse sc.names) NotOpen) where
    simple_complete : (i : Simple) (front rest : List Token) → WritesOperand sc (labels bs) i front → Follow rest → class_at use_at p sc bs (class_of (op.Simple i)) (front ++ rest) ≡ Some (plain i, rest)
    simple_complete (s.Br x) front rest h f = made_is (λ y. plain (s.Br y)) (atom_at (index_of (labels bs)) (front ++ rest)) x rest (label_complete (labels bs) x front rest h tt)
    simple_complete (s.BrIf x) front rest h f = made_is (λ y. plain (s.BrIf y)) (atom_at (index_of (labels bs)) (front ++ rest)) x rest (label_complete (labels bs) x front rest h tt)
    simple_complete (s.Call x) front rest h f = made_is (λ y. plain (s.Call y)) (atom_at (index_of sc.names.functions) (front ++ rest)) x rest (index_complete sc.names.functions scope.functions x front rest h tt)
    simple_complete (s.CallIndirect x) front rest h f = made_is (λ y. plain (s.CallIndirect y)) (use_at (front ++ rest)) x rest (use_complete x front rest h (follow_open rest f))
    simple_complete (s.LocalGet x) front rest h f = made_is (λ y. plain (s.LocalGet y)) (atom_at (index_of sc.locals) (front ++ rest)) x rest (index_complete sc.locals scope.locals x front rest h tt)
    simple_complete (s.LocalSet x) front rest h f = made_is (λ y. plain (s.LocalSet y)) (atom_at (index_of sc.locals) (front ++ rest)) x rest (index_complete sc.locals scope.locals x front rest h tt)
    simple_complete (s.LocalTee x) front rest h f = made_is (λ y. plain (s.LocalTee y)) (atom_at (index_of sc.locals) (front ++ rest)) x rest (index_complete sc.locals scope.locals x front rest h tt)
    simple_complete (s.GlobalGet x) front rest h f = made_is (λ y. plain (s.GlobalGet y)) (atom_at (index_of sc.names.globals) (front ++ rest)) x rest (index_complete sc.names.globals scope.globals x front rest h tt)
    simple_complete (s.GlobalSet x) front rest h f = made_is (λ y. plain (s.GlobalSet y)) (atom_at (index_of sc.names.globals) (front ++ rest)) x rest (index_complete sc.names.globals scope.globals x front rest h tt)
    simple_complete (s.I32Const z) front rest h f = made_is (λ y. plain (s.I32Const y)) (atom_at (integer_of 32) (front ++ rest)) z rest (integer_complete 32 z front rest h tt)
    simple_complete (s.I64Const z) front rest h f = made_is (λ y. plain (s.I64Const y)) (atom_at (integer_of 64) (front ++ rest)) z rest (integer_complete 64 z front rest h tt)
    simple_complete (s.F32Const n) front rest h f = made_is (λ y. plain (s.F32Const y)) (atom_at (float_of float.F32) (front ++ rest)) n rest (float_complete float.F32 n front rest h tt)
    simple_complete (s.F64Const n) front rest h f = made_is (λ y. plain (s.F64Const y)) (atom_at (float_of float.F64) (front ++ rest)) n rest (float_complete float.F64 n front rest h tt)
    simple_complete (s.Load o at) front rest h f = made_is (λ y. plain (s.Load o y)) (access_at (load o).width (front ++ rest)) at rest (access_complete (load o).width (load_width o) at front rest h (follow_keys rest f))
    simple_complete (s.Store o at) front rest h f = made_is (λ y. plain (s.Store o y)) (access_at (store o).width (front ++ rest)) at rest (access_complete (store o).width (store_width o) at front rest h (follow_keys rest f))
    simple_complete (s.MemoryInit x) front rest h f = made_is (λ y. plain (s.MemoryInit y)) (atom_at unsigned_of (front ++ rest)) x rest (number_complete x front rest h tt)
    simple_complete (s.DataDrop x) front rest h f = made_is (λ y. plain (s.DataDrop y)) (atom_at unsigned_of (front ++ rest)) x rest (number_complete x front rest h tt)
    simple_complete (s.TableInit x) front rest h f = made_is (λ y. plain (s.TableInit y)) (atom_at unsigned_of (front ++ rest)) x rest (number_complete x front rest h tt)
    simple_complete (s.ElemDrop x) front rest h f = made_is (λ y. plain (s.ElemDrop y)) (atom_at unsigned_of (front ++ rest)) x rest (number_complete x front rest h tt)
    simple_complete s.TableCopy front rest h f = alone_complete s.TableCopy front rest h
    simple_complete s.MemorySize front rest h f = alone_complete s.MemorySize front rest h
    simple_complete s.MemoryGrow front rest h f = alone_complete s.MemoryGrow front rest h
    simple_complete s.MemoryCopy front rest h f = alone_complete s.MemoryCopy front rest h
    simple_complete s.MemoryFill front rest h f = alone_complete s.MemoryFill front rest h
    simple_complete (s.Numeric n) front rest h f = alone_complete (s.Numeric n) front rest h
    simple_complete s.Unreachable front rest h f = alone_complete s.Unreachable front rest h
    simple_complete s.Nop front rest h f = alone_complete s.Nop front rest h
    simple_complete s.Return front rest h f = alone_complete s.Return front rest h
    simple_complete s.Drop front rest h f = alone_complete s.Drop front rest h
    simple_complete s.Select front rest h f = alone_complete s.Select front rest h

    type_not_id : (t : Option ValType) (front rest : List Token) → OfBlockType p t front → Follow rest → NotId (front ++ rest)
    type_not_id None front rest (e, of) f = subst (λ (z : List Token). NotId (z ++ rest)) (sym e) (follow_id rest f)
    type_not_id (Some t) front rest ((a, b, e, is, more), of) f = subst (λ (z : List Token). NotId (z ++ rest)) (sym (e ∙ ap (λ (z : List Token). z ++ b) is)) tt

    opens_complete : (o : BlockOp) (id : Id) (t : Option ValType) (front rest : List Token) → (WritesId id ▸ WritesBlockType t) front → HasBlockType p t → Follow rest → opens_at p o (front ++ rest) ≡ Some (opens o id t, rest)
    opens_complete o id t front rest (a, b, e, i, w) of f =
        made_is (λ x. opens o x.0 x.1) (then_at id_at (block_type_at p) (front ++ rest)) (id, t) rest
        (then_complete id_at (block_type_at p) WritesId (OfBlockType p) NotId Follow id_complete (λ u g r h f. block_type_complete p u g r h (follow_open r f)) type_not_id (id, t) front rest (a, b, e, i, (w, of)) f)

    class_complete : AreNames bs → (q : Piece) (front rest : List Token) → RestOf sc bs q front → IsPieceOf p q → Follow rest → class_at use_at p sc bs (piece_class q) (front ++ rest) ≡ Some (q, rest)
    class_complete n (plain i) front rest h of f = simple_complete i front rest h f
    class_complete n (jump ls l) front rest h of f = table_complete (labels bs) ls l front rest h (follow_index rest f)
    class_complete n (opens Block id t) front rest h of f = opens_complete Block id t front rest h of f
    class_complete n (opens Loop id t) front rest h of f = opens_complete Loop id t front rest h of f
    class_complete n (opens If id t) front rest h of f = opens_complete If id t front rest h of f
    class_complete n middle front rest h of f = middle_complete sc bs front rest n h (follow_id rest f)
    class_complete n closes front rest h of f = closes_complete sc bs front rest n h (follow_id rest f)

    -- A piece that the tokens in front write is read.
    pub piece_complete : AreNames bs → (q : Piece) (front rest : List Token) → WritesPiece sc bs q front → IsPieceOf p q → Follow rest
        → (w : List ℕ) × (more : List Token) × (front ≡ atom w ∷ more) × (piece_at use_at p sc bs w (more ++ rest) ≡ Some (q, rest))
    unfolding piece_at
    piece_complete n q front rest h i f =
        let g = to_rest sc bs q front h in
        (piece_word q, g.0, g.1, ap (λ (c : OpClass). class_at use_at p sc bs c (g.0 ++ rest)) (piece_named p q i) ∙ class_complete n q g.0 rest g.2 i f)
