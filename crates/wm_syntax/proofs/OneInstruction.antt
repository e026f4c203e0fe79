-- One encoding belongs to one instruction: for a whole tree, and for a list up to the byte that closes it.
use Rattle.std.proofs.Common.{◌≡◌, ℕ, Bool, true, false, List, [], ◌∷◌, ◌++◌, length, inl, inr, ◌⊎◌, refl, sym, ap, ◌∙◌, subst, append_assoc, append-nil, ◌<◌, arith, Option, Some, slice_get}
use Rattle.std.proofs.lemmas.List.{append_cancel_left}
use Rattle.wm_syntax.specs.Spelling.{Form, Byte, Each, ◌▸◌}
use Rattle.wm_syntax.specs.Types.{SpellsU32, SpellsList, SpellsBlockType, block_byte}
use Rattle.wm_syntax.specs.Opcodes.{opcode}
use Rattle.wm_syntax.specs.OpClasses.{class_of, code}
use Rattle.wm_syntax.specs.exact.ByteTable.{classes}
use Rattle.wm_syntax.specs.Instructions.{Instruction, Instructions, none, snoc, simple, table, block, loop, choice}
use Rattle.wm_syntax.specs.Encodings.{SpellsOpcode, SpellsInstruction, SpellsInstructions, SpellsExpression, SpellsElse}
use Rattle.wm_syntax.specs.declared.types.ValType.{ValType}
use Rattle.wm_syntax.proofs.SameTypes.{block_tells}
use Rattle.wm_syntax.specs.declared.instructions.Simple.{Simple}
use Rattle.wm_syntax.specs.declared.instructions.Simple.TheVariants as s
use Rattle.wm_syntax.specs.declared.instructions.Op.{Op}
use Rattle.wm_syntax.specs.declared.instructions.Op.TheVariants as op
use Rattle.wm_syntax.specs.declared.instructions.op_class.BlockOp.TheVariants as opening
use Rattle.wm_syntax.specs.declared.instructions.op_class.Indexed.TheVariants as indexed
use Rattle.wm_syntax.specs.declared.instructions.op_class.Immediates.TheVariants as k
use Rattle.wm_syntax.specs.declared.instructions.op_class.OpClass.{OpClass}
use Rattle.wm_syntax.specs.declared.instructions.op_class.OpClass.TheVariants.{Plain, With}
use Rattle.wm_syntax.proofs.OpTable.{found_simple}
use Rattle.wm_syntax.proofs.Flat.{each_append, each_one}
use Rattle.wm_syntax.proofs.Unambiguous.{same_simple, same_u32, then_same}
use Rattle.wm_syntax.proofs.CodeBytes.{apart_simple, byte_spells, same_code}
use Rattle.wm_syntax.proofs.ProfileLaws.{every_extends}
use Rattle.wm_syntax.proofs.SpelledMore.{expression_spelled_more, instruction_spelled_more}
use Rattle.wm_syntax.specs.declared.profile.Profile.{Profile}
use Rattle.wm_syntax.specs.Profiles.{every}
use Rattle.wm_syntax.specs.declared.profile.Feature.TheVariants.{LongIndex}

-- The code determines the kind of instruction.
first_op : Instruction → Op
first_op (simple i) = op.Simple i
first_op (table labels default) = op.BrTable (length labels)
first_op (block t body) = op.Block t
first_op (loop t body) = op.Loop t
first_op (choice t first second) = op.If t

-- the code that an instruction begins with, and what follows it
Head : Instruction → List ℕ → Type 0
Head i a = (c : ℕ) × (x r : List ℕ) × (a ≡ x ++ r) × SpellsOpcode c x × (code (first_op i) ≡ Some c)

head_of : (i : Instruction) (a : List ℕ) → SpellsInstruction every i a → Head i a
unfolding first_op Head
head_of (simple i) a (x, y, e, h, p) = ((opcode i).0, x, y, e, h, refl)
head_of (table ls d) a (x, y, e, h, p) = (0x0E, x, y, e, h, refl)
head_of (block t s) a (x, y, e, h, p) = (0x02, x, y, e, h, refl)
head_of (loop t s) a (x, y, e, h, p) = (0x03, x, y, e, h, refl)
head_of (choice t s s') a (x, y, e, h, p) = (0x04, x, y, e, h, refl)

some_same : {X : Type 0} {x y : X} → Some x ≡ Some y → x ≡ y
some_same e = cc

heads_same : {c d : ℕ} {x y : List ℕ} → c ∷ x ≡ d ∷ y → c ≡ d
heads_same e = cc

-- The class at the first byte of an op in the table.
pub class_there : (o : Op) (c : ℕ) → code o ≡ Some c → slice_get classes c ≡ Some (class_of o)
class_there (op.Simple i) c f = subst (λ (n : ℕ). slice_get classes n ≡ Some (class_of (op.Simple i))) (some_same f) (found_simple i)
class_there (op.Block t) c f = subst (λ (n : ℕ). slice_get classes n ≡ Some (With (k.Block opening.Block))) (some_same f) refl
class_there (op.Loop t) c f = subst (λ (n : ℕ). slice_get classes n ≡ Some (With (k.Block opening.Loop))) (some_same f) refl
class_there (op.If t) c f = subst (λ (n : ℕ). slice_get classes n ≡ Some (With (k.Block opening.If))) (some_same f) refl
class_there op.Else c f = subst (λ (n : ℕ). slice_get classes n ≡ Some (Plain op.Else)) (some_same f) refl
class_there op.End c f = subst (λ (n : ℕ). slice_get classes n ≡ Some (Plain op.End)) (some_same f) refl
class_there (op.BrTable n) c f = subst (λ (n : ℕ). slice_get classes n ≡ Some (With (k.Index indexed.BrTable))) (some_same f) refl
class_there (op.Label l) c f = cc

-- no op has the code FC
pub apart_op : (o : Op) (c : ℕ) → code o ≡ Some c → c ≡ 0xFC → ⊥
apart_op (op.Simple i) c f e = apart_simple i (some_same f ∙ e)
apart_op (op.Block t) c f e = let g : ◌≡◌ {A = ℕ} 0x02 0xFC = some_same f ∙ e in absurd (omega arith)
apart_op (op.Loop t) c f e = let g : ◌≡◌ {A = ℕ} 0x03 0xFC = some_same f ∙ e in absurd (omega arith)
apart_op (op.If t) c f e = let g : ◌≡◌ {A = ℕ} 0x04 0xFC = some_same f ∙ e in absurd (omega arith)
apart_op op.Else c f e = let g : ◌≡◌ {A = ℕ} 0x05 0xFC = some_same f ∙ e in absurd (omega arith)
apart_op op.End c f e = let g : ◌≡◌ {A = ℕ} 0x0B 0xFC = some_same f ∙ e in absurd (omega arith)
apart_op (op.BrTable n) c f e = let g : ◌≡◌ {A = ℕ} 0x0E 0xFC = some_same f ∙ e in absurd (omega arith)
apart_op (op.Label l) c f e = cc

-- the codes of two encodings of which one begins the other
heads_one : (c d : ℕ) (a b x y r t u v : List ℕ) → (c ≡ 0xFC → ⊥) → (d ≡ 0xFC → ⊥) → a ≡ x ++ r → SpellsOpcode c x → b ≡ y ++ t → SpellsOpcode d y → a ++ u ≡ b ++ v → c ≡ d
heads_one c d a b x y r t u v n m e p f q h =
    (same_code c d n m x y (r ++ u) (t ++ v) p q
    (sym (append_assoc x r u) ∙ ap (λ (z : List ℕ). z ++ u) (sym e) ∙ h ∙ ap (λ (z : List ℕ). z ++ v) f ∙ append_assoc y t v)).1

same_class : (i j : Instruction) (a b u v : List ℕ) → SpellsInstruction every i a → SpellsInstruction every j b → a ++ u ≡ b ++ v → class_of (first_op i) ≡ class_of (first_op j)
unfolding Head
same_class i j a b u v p q e =
    let h : Head i a = head_of i a p in
    let g : Head j b = head_of j b q in
    let one : h.0 ≡ g.0 = heads_one h.0 g.0 a b h.1 g.1 h.2 g.2 u v (apart_op (first_op i) h.0 h.5) (apart_op (first_op j) g.0 g.5) h.3 h.4 g.3 g.4 e in
    some_same (sym (class_there (first_op i) h.0 h.5) ∙ ap (λ (n : ℕ). slice_get classes n) one ∙ class_there (first_op j) g.0 g.5)

-- The classes that no simple instruction has.
is_structured : OpClass → Bool
is_structured (With (k.Block o)) = true
is_structured (With (k.Index indexed.BrTable)) = true
is_structured (Plain op.Else) = true
is_structured (Plain op.End) = true
is_structured _ = false

simple_class : (i : Simple) → is_structured (class_of (op.Simple i)) ≡ false
unfolding is_structured
simple_class (s.Br l) = refl
simple_class _ = refl

no_structured : (i : Simple) (c : OpClass) → class_of (op.Simple i) ≡ c → is_structured c ≡ true → ⊥
no_structured i c e f = let g : false ≡ true = sym (simple_class i) ∙ ap is_structured e ∙ f in cc

-- A list as one of its members, first to last.
members : Instructions → List Instruction
members none = []
members (snoc s i) = members s ++ i ∷ []

onto : Instructions → List Instruction → Instructions
onto s [] = s
onto s (i ∷ is) = onto (snoc s i) is

onto_members : (s : Instructions) (is : List Instruction) → onto none (members s ++ is) ≡ onto s is
unfolding members onto
onto_members none is = refl
onto_members (snoc s i) is = ap (onto none) (append_assoc (members s) (i ∷ []) is) ∙ onto_members s (i ∷ is)

members_injective : (s t : Instructions) → members s ≡ members t → s ≡ t
unfolding onto
members_injective s t e =
    let back : (r : Instructions) → onto none (members r) ≡ r = λ r. ap (onto none) (sym (append-nil (members r))) ∙ onto_members r [] in
    sym (back s) ∙ ap (onto none) e ∙ back t

spelled_members : (s : Instructions) (a : List ℕ) → SpellsInstructions every s a → Each (SpellsInstruction every) (members s) a
unfolding members
spelled_members none a p = p
spelled_members (snoc s i) a (x, y, e, p, q) = rw e (each_append (SpellsInstruction every) (members s) (i ∷ []) x y (spelled_members s x p) (each_one (SpellsInstruction every) i y q))

-- A list is followed by an else or an end.
Closes : List ℕ → Type 0
Closes u = (c : ℕ) × (r : List ℕ) × (u ≡ c ∷ r) × ((c ≡ 0x05) ⊎ (c ≡ 0x0B))

-- Each encoding belongs to one instruction, whatever follows.
Same : Instruction → Type 0
Same i = (j : Instruction) (a b u v : List ℕ) → SpellsInstruction every i a → SpellsInstruction every j b → a ++ u ≡ b ++ v → (a ≡ b) × (i ≡ j)

AllSame : List Instruction → Type 0
AllSame [] = Unit {0}
AllSame (i ∷ is) = Same i × AllSame is

all_same_append : (is : List Instruction) (i : Instruction) → AllSame is → Same i → AllSame (is ++ i ∷ [])
unfolding AllSame
all_same_append [] i h k = (k, tt)
all_same_append (j ∷ is) i h k = (h.0, all_same_append is i h.1 k)

-- no instruction begins with an else or an end
opens : (i : Instruction) (c : ℕ) → code (first_op i) ≡ Some c → (c ≡ 0x05) ⊎ (c ≡ 0x0B) → ⊥
unfolding first_op is_structured
opens (simple i) c f (inl e) = no_structured i (Plain op.Else) (some_same (sym (class_there (op.Simple i) c f) ∙ ap (λ (n : ℕ). slice_get classes n) e)) refl
opens (simple i) c f (inr e) = no_structured i (Plain op.End) (some_same (sym (class_there (op.Simple i) c f) ∙ ap (λ (n : ℕ). slice_get classes n) e)) refl
opens (table ls d) c f (inl e) = let g : ◌≡◌ {A = ℕ} 0x0E 0x05 = some_same f ∙ e in absurd (omega arith)
opens (table ls d) c f (inr e) = let g : ◌≡◌ {A = ℕ} 0x0E 0x0B = some_same f ∙ e in absurd (omega arith)
opens (block t s) c f (inl e) = let g : ◌≡◌ {A = ℕ} 0x02 0x05 = some_same f ∙ e in absurd (omega arith)
opens (block t s) c f (inr e) = let g : ◌≡◌ {A = ℕ} 0x02 0x0B = some_same f ∙ e in absurd (omega arith)
opens (loop t s) c f (inl e) = let g : ◌≡◌ {A = ℕ} 0x03 0x05 = some_same f ∙ e in absurd (omega arith)
opens (loop t s) c f (inr e) = let g : ◌≡◌ {A = ℕ} 0x03 0x0B = some_same f ∙ e in absurd (omega arith)
opens (choice t s s') c f (inl e) = let g : ◌≡◌ {A = ℕ} 0x04 0x05 = some_same f ∙ e in absurd (omega arith)
opens (choice t s s') c f (inr e) = let g : ◌≡◌ {A = ℕ} 0x04 0x0B = some_same f ∙ e in absurd (omega arith)

closing : (c : ℕ) → (c ≡ 0x05) ⊎ (c ≡ 0x0B) → (c < 0x100) × (c ≡ 0xFC → ⊥)
closing c (inl e) = (omega (arith, e), λ f. absurd (omega (arith, e, f)))
closing c (inr e) = (omega (arith, e), λ f. absurd (omega (arith, e, f)))

closed_again : (i : Instruction) (b u v : List ℕ) → Closes u → SpellsInstruction every i b → u ≡ b ++ v → ⊥
unfolding Closes Head
closed_again i b u v (c, r, e, f) q h =
    let g : Head i b = head_of i b q in
    let w = closing c f in
    let one : c ≡ g.0 = heads_one c g.0 (c ∷ []) b (c ∷ []) g.1 [] g.2 r v w.1 (apart_op (first_op i) g.0 g.5) refl (byte_spells c (c ∷ []) w.0 refl) g.3 g.4 (sym e ∙ h) in
    opens i c (g.5 ∙ ap Some (sym one)) f

each_same : (is js : List Instruction) → AllSame is → (a b u v : List ℕ) → Each (SpellsInstruction every) is a → Each (SpellsInstruction every) js b → a ++ u ≡ b ++ v → Closes u → Closes v → (a ≡ b) × (is ≡ js)
unfolding AllSame Same
each_same [] [] h a b u v p q e cu cv = (p ∙ sym q, refl)
each_same [] (j ∷ js) h a b u v p (y, y', f, q, qs) e cu cv =
    absurd (closed_again j y u (y' ++ v) cu q (ap (λ (z : List ℕ). z ++ u) (sym p) ∙ e ∙ ap (λ (z : List ℕ). z ++ v) f ∙ append_assoc y y' v))
each_same (i ∷ is) [] h a b u v (x, x', f, p, ps) q e cu cv =
    absurd (closed_again i x v (x' ++ u) cv p (ap (λ (z : List ℕ). z ++ v) (sym q) ∙ sym e ∙ ap (λ (z : List ℕ). z ++ u) f ∙ append_assoc x x' u))
each_same (i ∷ is) (j ∷ js) h a b u v (x, x', f, p, ps) (y, y', g, q, qs) e cu cv =
    let whole : x ++ (x' ++ u) ≡ y ++ (y' ++ v) = sym (append_assoc x x' u) ∙ ap (λ (z : List ℕ). z ++ u) (sym f) ∙ e ∙ ap (λ (z : List ℕ). z ++ v) g ∙ append_assoc y y' v in
    let one : (x ≡ y) × (i ≡ j) = h.0 j x y (x' ++ u) (y' ++ v) p q whole in
    let rest : x' ++ u ≡ y' ++ v = append_cancel_left y (x' ++ u) (y' ++ v) (ap (λ (z : List ℕ). z ++ (x' ++ u)) (sym one.0) ∙ whole) in
    let more : (x' ≡ y') × (is ≡ js) = each_same is js h.1 x' y' u v ps qs rest cu cv in
    (f ∙ ap (λ (z : List ℕ). z ++ x') one.0 ∙ ap (λ (z : List ℕ). y ++ z) more.0 ∙ sym g, ap (λ (z : Instruction). z ∷ is) one.1 ∙ ap (λ (z : List Instruction). j ∷ z) more.1)

-- a list of instructions, up to what closes it
lists_same : (s t : Instructions) → AllSame (members s) → (a b u v : List ℕ) → SpellsInstructions every s a → SpellsInstructions every t b → a ++ u ≡ b ++ v → Closes u → Closes v → (a ≡ b) × (s ≡ t)
lists_same s t h a b u v p q e cu cv =
    let r : (a ≡ b) × (members s ≡ members t) = each_same (members s) (members t) h a b u v (spelled_members s a p) (spelled_members t b q) e cu cv in
    (r.0, members_injective s t r.1)

-- An expression is unambiguous if its list is.
ends : (s t : Instructions) → AllSame (members s) → (a b u v : List ℕ) → SpellsExpression every s a → SpellsExpression every t b → a ++ u ≡ b ++ v → (a ≡ b) × (s ≡ t)
unfolding Closes
ends s t h a b u v (x, y, e, p, q) (x', y', e', p', q') f =
    let whole : x ++ (y ++ u) ≡ x' ++ (y' ++ v) = sym (append_assoc x y u) ∙ ap (λ (z : List ℕ). z ++ u) (sym e) ∙ f ∙ ap (λ (z : List ℕ). z ++ v) e' ∙ append_assoc x' y' v in
    let r : (x ≡ x') × (s ≡ t) = lists_same s t h x x' (y ++ u) (y' ++ v) p p' whole
    (0x0B, u, ap (λ (z : List ℕ). z ++ u) q, inr refl) (0x0B, v, ap (λ (z : List ℕ). z ++ v) q', inr refl) in
    (e ∙ ap (λ (z : List ℕ). z ++ y) r.0 ∙ ap (λ (z : List ℕ). x' ++ z) (q ∙ sym q') ∙ sym e', r.1)

same_byte : (c : ℕ) (a b u v : List ℕ) → Byte c a → Byte c b → a ++ u ≡ b ++ v → (a ≡ b) × Unit {0}
same_byte c a b u v p q e = (p ∙ sym q, tt)

codes : (c d : ℕ) (a b u v : List ℕ) → Byte c a → Byte d b → a ++ u ≡ b ++ v → c ≡ d
codes c d a b u v p q e = heads_same (ap (λ (z : List ℕ). z ++ u) (sym p) ∙ e ∙ ap (λ (z : List ℕ). z ++ v) q)

same_block_type : (t t' : Option ValType) (a b u v : List ℕ) → SpellsBlockType t a → SpellsBlockType t' b → a ++ u ≡ b ++ v → (a ≡ b) × (t ≡ t')
same_block_type t t' a b u v p q e =
    let same : block_byte t ≡ block_byte t' = codes (block_byte t) (block_byte t') a b u v p q e in
    (p ∙ ap (λ (n : ℕ). n ∷ []) same ∙ sym q, block_tells t t' same)

-- A byte, a block type, and a form that is unambiguous.
typed_same : (c : ℕ) (t t' : Option ValType) (P P' : Form ℕ) (E : Type 0) → ((a b u v : List ℕ) → P a → P' b → a ++ u ≡ b ++ v → (a ≡ b) × E)
    → (a b u v : List ℕ) → (Byte c ▸ SpellsBlockType t ▸ P) a → (Byte c ▸ SpellsBlockType t' ▸ P') b → a ++ u ≡ b ++ v → (a ≡ b) × (t ≡ t') × E
typed_same c t t' P P' E rest a b u v p q e =
    let r : (a ≡ b) × Unit {0} × ((t ≡ t') × E) = then_same (Byte c) (SpellsBlockType t ▸ P) (Byte c) (SpellsBlockType t' ▸ P') (Unit {0}) ((t ≡ t') × E) (same_byte c)
    (λ a b u v p q e.
    let m : (a ≡ b) × (t ≡ t') × E = then_same (SpellsBlockType t) P (SpellsBlockType t') P' (t ≡ t') E (same_block_type t t') rest a b u v p q e in
    (m.0, (m.1, m.2))) a b u v p q e in
    (r.0, r.2.0, r.2.1)

-- the two forms of a second list
with_else : (s : Instructions) (x : List ℕ) → SpellsElse s (SpellsInstructions every s) x → (Byte 0x05 ▸ SpellsInstructions every s) x ⊎ ((x ≡ []) × (s ≡ none))
with_else none x (inl p) = inl p
with_else none x (inr p) = inr (p, refl)
with_else (snoc s i) x p = inl p

then_assoc : {P Q R : Form ℕ} (a : List ℕ) → ((P ▸ Q) ▸ R) a → (P ▸ Q ▸ R) a
then_assoc a (x, y, e, (w, z, f, p, q), r) = (w, z ++ y, e ∙ ap (λ (c : List ℕ). c ++ y) f ∙ append_assoc w z y, p, (z, y, refl, q, r))

abbrev Tail : Instructions → Form ℕ
Tail s = SpellsElse s (SpellsInstructions every s) ▸ Byte 0x0B

-- after the first list of an if: an else and the second list, or its end alone
tail_forms : (s : Instructions) (a : List ℕ) → Tail s a → (Byte 0x05 ▸ SpellsExpression every s) a ⊎ (Byte 0x0B a × (s ≡ none))
tail_forms s a (x, y, e, p, q) =
    elim (with_else s x p) [
      | inl r ↦ inl (then_assoc {P = Byte 0x05} {Q = SpellsInstructions every s} {R = Byte 0x0B} a (x, y, e, r, q))
      | inr r ↦ inr (e ∙ ap (λ (z : List ℕ). z ++ y) r.0 ∙ q, r.1)
    ]

tail_closes : (s : Instructions) (a u : List ℕ) → Tail s a → Closes (a ++ u)
unfolding Closes
tail_closes s a u p =
    elim (tail_forms s a p) [
      | inl (x, y, e, h, q) ↦ (0x05, y ++ u, ap (λ (z : List ℕ). z ++ u) (e ∙ ap (λ (z : List ℕ). z ++ y) h), inl refl)
      | inr r ↦ (0x0B, u, ap (λ (z : List ℕ). z ++ u) r.0, inr refl)
    ]

tail_same : (s t : Instructions) → AllSame (members s) → (a b u v : List ℕ) → Tail s a → Tail t b → a ++ u ≡ b ++ v → (a ≡ b) × (s ≡ t)
tail_same s t h a b u v p q e = go (tail_forms s a p) (tail_forms t b q)
  where
    five : (x y : List ℕ) → (x' y' : List ℕ) → a ≡ x ++ y → Byte 0x05 x → Byte 0x0B b → ⊥
    five x y x' y' f g k =
        let w : x ++ (y ++ u) ≡ b ++ v = sym (append_assoc x y u) ∙ ap (λ (z : List ℕ). z ++ u) (sym f) ∙ e in
        let d : ◌≡◌ {A = ℕ} 0x05 0x0B = codes 0x05 0x0B x b (y ++ u) v g k w in absurd (omega arith)

    eleven : (x y : List ℕ) → b ≡ x ++ y → Byte 0x05 x → Byte 0x0B a → ⊥
    eleven x y f g k =
        let w : a ++ u ≡ x ++ (y ++ v) = e ∙ ap (λ (z : List ℕ). z ++ v) f ∙ append_assoc x y v in
        let d : ◌≡◌ {A = ℕ} 0x0B 0x05 = codes 0x0B 0x05 a x u (y ++ v) k g w in absurd (omega arith)

    go : (Byte 0x05 ▸ SpellsExpression every s) a ⊎ (Byte 0x0B a × (s ≡ none)) → (Byte 0x05 ▸ SpellsExpression every t) b ⊎ (Byte 0x0B b × (t ≡ none)) → (a ≡ b) × (s ≡ t)
    go (inl f) (inl g) =
        let r : (a ≡ b) × Unit {0} × (s ≡ t) = then_same (Byte 0x05) (SpellsExpression every s) (Byte 0x05) (SpellsExpression every t) (Unit {0}) (s ≡ t) (same_byte 0x05) (λ a b u v p q e. ends s t h a b u v p q e) a b u v f g e in
        (r.0, r.2)
    go (inl (x, y, f, g, k)) (inr r) = absurd (five x y x y f g r.0)
    go (inr r) (inl (x, y, f, g, k)) = absurd (eleven x y f g r.0)
    go (inr f) (inr g) = (f.0 ∙ sym g.0, f.1 ∙ sym g.1)

-- both lists of an if and its end
both_same : (s t s' t' : Instructions) → AllSame (members s) → AllSame (members t) → (a b u v : List ℕ) → (SpellsInstructions every s ▸ Tail t) a → (SpellsInstructions every s' ▸ Tail t') b
    → a ++ u ≡ b ++ v → (a ≡ b) × ((s ≡ s') × (t ≡ t'))
both_same s t s' t' h k a b u v (x, y, e, p, q) (x', y', e', p', q') f =
    let whole : x ++ (y ++ u) ≡ x' ++ (y' ++ v) = sym (append_assoc x y u) ∙ ap (λ (z : List ℕ). z ++ u) (sym e) ∙ f ∙ ap (λ (z : List ℕ). z ++ v) e' ∙ append_assoc x' y' v in
    let r : (x ≡ x') × (s ≡ s') = lists_same s s' h x x' (y ++ u) (y' ++ v) p p' whole (tail_closes t y u q) (tail_closes t' y' v q') in
    let rest : y ++ u ≡ y' ++ v = append_cancel_left x' (y ++ u) (y' ++ v) (ap (λ (z : List ℕ). z ++ (y ++ u)) (sym r.0) ∙ whole) in
    let m : (y ≡ y') × (t ≡ t') = tail_same t t' k y y' u v q q' rest in
    (e ∙ ap (λ (z : List ℕ). z ++ y) r.0 ∙ ap (λ (z : List ℕ). x' ++ z) m.0 ∙ sym e', (r.1, m.1))

-- the labels of a br_table
labels_same : (ls ms : List ℕ) → length ls ≡ length ms → (a b u v : List ℕ) → Each SpellsU32 ls a → Each SpellsU32 ms b → a ++ u ≡ b ++ v → (a ≡ b) × (ls ≡ ms)
labels_same [] [] n a b u v p q e = (p ∙ sym q, refl)
labels_same [] (m ∷ ms) n a b u v p q e = cc
labels_same (l ∷ ls) [] n a b u v p q e = cc
labels_same (l ∷ ls) (m ∷ ms) n a b u v p q e =
    let r : (a ≡ b) × (l ≡ m) × (ls ≡ ms) = then_same (SpellsU32 l) (Each SpellsU32 ls) (SpellsU32 m) (Each SpellsU32 ms) (l ≡ m) (ls ≡ ms) (same_u32 l m)
    (λ a b u v p q e. labels_same ls ms (let f : length ls ≡ length ms = cc in f) a b u v p q e) a b u v p q e in
    (r.0, ap (λ (z : ℕ). z ∷ ls) r.1 ∙ ap (λ (z : List ℕ). m ∷ z) r.2)

list_same : (ls ms : List ℕ) (a b u v : List ℕ) → SpellsList SpellsU32 ls a → SpellsList SpellsU32 ms b → a ++ u ≡ b ++ v → (a ≡ b) × (ls ≡ ms)
list_same ls ms a b u v (x, y, e, p, q) (x', y', e', p', q') f =
    let whole : x ++ (y ++ u) ≡ x' ++ (y' ++ v) = sym (append_assoc x y u) ∙ ap (λ (z : List ℕ). z ++ u) (sym e) ∙ f ∙ ap (λ (z : List ℕ). z ++ v) e' ∙ append_assoc x' y' v in
    let r : (x ≡ x') × (length ls ≡ length ms) = same_u32 (length ls) (length ms) x x' (y ++ u) (y' ++ v) p p' whole in
    let rest : y ++ u ≡ y' ++ v = append_cancel_left x' (y ++ u) (y' ++ v) (ap (λ (z : List ℕ). z ++ (y ++ u)) (sym r.0) ∙ whole) in
    let m : (y ≡ y') × (ls ≡ ms) = labels_same ls ms r.1 y y' u v q q' rest in
    (e ∙ ap (λ (z : List ℕ). z ++ y) r.0 ∙ ap (λ (z : List ℕ). x' ++ z) m.0 ∙ sym e', m.1)

table_same : (ls ms : List ℕ) (d f : ℕ) (a b u v : List ℕ) → (SpellsList SpellsU32 ls ▸ SpellsU32 d) a → (SpellsList SpellsU32 ms ▸ SpellsU32 f) b → a ++ u ≡ b ++ v → (a ≡ b) × ((ls ≡ ms) × (d ≡ f))
table_same ls ms d f a b u v p q e =
    let r : (a ≡ b) × (ls ≡ ms) × (d ≡ f) = then_same (SpellsList SpellsU32 ls) (SpellsU32 d) (SpellsList SpellsU32 ms) (SpellsU32 f) (ls ≡ ms) (d ≡ f) (list_same ls ms) (same_u32 d f) a b u v p q e in
    (r.0, (r.1, r.2))

-- the first op of an instruction that is not of this kind
other_kind : (i j : Instruction) (a b u v : List ℕ) → SpellsInstruction every i a → SpellsInstruction every j b → a ++ u ≡ b ++ v → (class_of (first_op i) ≡ class_of (first_op j) → ⊥) → (a ≡ b) × (i ≡ j)
other_kind i j a b u v p q e differs = absurd (differs (same_class i j a b u v p q e))

mutual
  unfolding Same AllSame members first_op is_structured

  same_instruction : (i : Instruction) → Same i
  same_instruction (simple i) (simple j) a b u v p q e = let r : (a ≡ b) × (i ≡ j) = same_simple i j a b u v p q e in (r.0, ap simple r.1)
  same_instruction (simple i) (table ls d) a b u v p q e = other_kind (simple i) (table ls d) a b u v p q e (λ f. no_structured i _ f refl)
  same_instruction (simple i) (block t s) a b u v p q e = other_kind (simple i) (block t s) a b u v p q e (λ f. no_structured i _ f refl)
  same_instruction (simple i) (loop t s) a b u v p q e = other_kind (simple i) (loop t s) a b u v p q e (λ f. no_structured i _ f refl)
  same_instruction (simple i) (choice t s s') a b u v p q e = other_kind (simple i) (choice t s s') a b u v p q e (λ f. no_structured i _ f refl)
  same_instruction i (simple j) a b u v p q e = other_kind i (simple j) a b u v p q e (λ f. no_structured j (class_of (first_op i)) (sym f) refl)
  same_instruction (table ls d) (table ls' d') a b u v p q e =
      let r : (a ≡ b) × Unit {0} × ((ls ≡ ls') × (d ≡ d')) =
      then_same (Byte 0x0E) (SpellsList SpellsU32 ls ▸ SpellsU32 d) (Byte 0x0E) (SpellsList SpellsU32 ls' ▸ SpellsU32 d') (Unit {0}) ((ls ≡ ls') × (d ≡ d')) (same_byte 0x0E)
      (table_same ls ls' d d') a b u v p q e in
      (r.0, ap (λ (z : List ℕ). table z d) r.2.0 ∙ ap (table ls') r.2.1)
  same_instruction (block t s) (block t' s') a b u v p q e =
      let r : (a ≡ b) × (t ≡ t') × (s ≡ s') = typed_same 0x02 t t' (SpellsExpression every s) (SpellsExpression every s') (s ≡ s') (λ a b u v p q e. ends s s' (same_members s) a b u v p q e) a b u v p q e in
      (r.0, ap (λ (z : Option ValType). block z s) r.1 ∙ ap (block t') r.2)
  same_instruction (loop t s) (loop t' s') a b u v p q e =
      let r : (a ≡ b) × (t ≡ t') × (s ≡ s') = typed_same 0x03 t t' (SpellsExpression every s) (SpellsExpression every s') (s ≡ s') (λ a b u v p q e. ends s s' (same_members s) a b u v p q e) a b u v p q e in
      (r.0, ap (λ (z : Option ValType). loop z s) r.1 ∙ ap (loop t') r.2)
  same_instruction (choice t s1 s2) (choice t' s3 s4) a b u v p q e =
      let r : (a ≡ b) × (t ≡ t') × ((s1 ≡ s3) × (s2 ≡ s4)) =
      typed_same 0x04 t t' (SpellsInstructions every s1 ▸ Tail s2) (SpellsInstructions every s3 ▸ Tail s4) ((s1 ≡ s3) × (s2 ≡ s4))
      (λ a b u v p q e. both_same s1 s2 s3 s4 (same_members s1) (same_members s2) a b u v p q e) a b u v p q e in
      (r.0, ap (λ (z : Option ValType). choice z s1 s2) r.1 ∙ ap (λ (z : Instructions). choice t' z s2) r.2.0 ∙ ap (choice t' s3) r.2.1)
  same_instruction i j a b u v p q e = other_kind i j a b u v p q e (λ f. cc)

  same_members : (s : Instructions) → AllSame (members s)
  same_members none = tt
  same_members (snoc s i) = all_same_append (members s) i (same_members s) (same_instruction i)

-- An encoding under a profile is one under the profile that has every feature.
pub one_instruction : (p q : Profile) (i j : Instruction) (a b u v : List ℕ) → SpellsInstruction p i a → SpellsInstruction q j b → a ++ u ≡ b ++ v → (a ≡ b) × (i ≡ j)
unfolding Same
one_instruction p q i j a b u v x y e =
    same_instruction i j a b u v (instruction_spelled_more p every (every_extends p LongIndex) i a x) (instruction_spelled_more q every (every_extends q LongIndex) j b y) e

pub one_expression : (p q : Profile) (s t : Instructions) (a b u v : List ℕ) → SpellsExpression p s a → SpellsExpression q t b → a ++ u ≡ b ++ v → (a ≡ b) × (s ≡ t)
one_expression p q s t a b u v x y e =
    ends s t (same_members s) a b u v (expression_spelled_more p every (every_extends p LongIndex) s a x) (expression_spelled_more q every (every_extends q LongIndex) t b y) e
