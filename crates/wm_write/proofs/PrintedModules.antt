-- Printing a whole module.
use Rattle.std.proofs.Common.{◌≡◌, ℕ, ◌+◌, ◌≤◌, ◌^◌, Bool, true, false, List, [], ◌∷◌, ◌++◌, length, take, map, flat_map, Option, Some, None, refl, sym, ap, ◌∙◌, append_assoc, arith, lit<}
use Rattle.std.specs.Prelude.{◌&&◌, codes, if◌then◌else◌, is_none, nat_le}
use Rattle.std.specs.Bool.{◌==◌}
use Rattle.std.specs.List.{AllByRecursion, enumerate_from, list_all}
use Rattle.std.specs.Io.KnownBytes.{Appends}
use Rattle.std.proofs.Math.Bool.{and_assoc}
use Rattle.std.proofs.Math.Logic.{∥∥₁_elim}
use Rattle.std.proofs.Math.Nat.{pow-le-pow_right}
use Rattle.std.proofs.lemmas.Bool.Decides.{nat_tests}
use Rattle.std.proofs.lemmas.List.Folds.{list_all-append}
use Rattle.wm_syntax.specs.declared.types.ValType.{ValType}
use Rattle.wm_syntax.specs.declared.instructions.LoadOp.{LoadOp}
use Rattle.wm_syntax.specs.declared.instructions.LoadOp.TheVariants.{I32Load, I64Load, F32Load, F64Load, I32Load8S, I32Load8U, I32Load16S, I32Load16U, I64Load8S, I64Load8U, I64Load16S, I64Load16U, I64Load32S, I64Load32U}
use Rattle.wm_syntax.specs.declared.instructions.StoreOp.{StoreOp}
use Rattle.wm_syntax.specs.declared.instructions.StoreOp.TheVariants.{I32Store, I64Store, F32Store, F64Store, I32Store8, I32Store16, I64Store8, I64Store16, I64Store32}
use Rattle.wm_syntax.specs.declared.instructions.Simple.{Simple}
use Rattle.wm_syntax.specs.declared.instructions.Simple.TheVariants.{Load, Store}
use Rattle.wm_syntax.specs.declared.instructions.Op.{Op}
use Rattle.wm_syntax.specs.declared.instructions.Op.TheVariants as op
use Rattle.wm_syntax.specs.Instructions.{Instruction, Instructions, none, snoc, simple, table, block, loop, choice, else_ops, instruction_ops, ops_of}
use Rattle.wm_syntax.specs.Modules.{Function, Import, Module}
use Rattle.wm_syntax.specs.Opcodes.{load, store}
use Rattle.wm_typing.specs.Typing.{Context, Typed, TypedInstruction, TypedSimple}
use Rattle.wm_rules.specs.Loading.{IsLoaded}
use Rattle.wm_rules.specs.Validation.{ValidFunction}
use Rattle.wm_write.specs.Layout.{Word, element_field, export_field, field_words, function_field, global_field, import_fields, last_line, memory_field, parens, places, segment_field, start_field, table_field, type_field, words_text}
use Rattle.wm_write.specs.exact.Aligns.{is_function_printable, is_printable, is_simple_printable}
use Rattle.wm_write.specs.exact.Printing.{is_empty_module}
use Rattle.wm_write.specs.exact.Writing.{Sent, State}
use Rattle.wm_write.proofs.PrintedWords.{parens_text, sent_each, sent_same, sent_words}
use Rattle.wm_write.proofs.Writes.{sent_then}

-- an alignment of at most eight bytes
is_true : (b : Bool) → (b ≡ false → ⊥) → b ≡ true
is_true true h = refl
is_true false h = absurd (h refl)

small : (align width : ℕ) → width ≤ 8 → 2 ^ align ≤ width → nat_le align 3 ≡ true
small align width w h = is_true (nat_le align 3) (λ e.
    let l : 4 ≤ align = grind (arith, nat_tests) in
    let p : 2 ^ 4 ≤ 2 ^ align = pow-le-pow_right (lit< tt) l in
    omega (arith, p, w, h))

load_width : (o : LoadOp) → (load o).width ≤ 8
load_width I32Load = omega arith
load_width I64Load = omega arith
load_width F32Load = omega arith
load_width F64Load = omega arith
load_width I32Load8S = omega arith
load_width I32Load8U = omega arith
load_width I32Load16S = omega arith
load_width I32Load16U = omega arith
load_width I64Load8S = omega arith
load_width I64Load8U = omega arith
load_width I64Load16S = omega arith
load_width I64Load16U = omega arith
load_width I64Load32S = omega arith
load_width I64Load32U = omega arith

store_width : (o : StoreOp) → (store o).width ≤ 8
store_width I32Store = omega arith
store_width I64Store = omega arith
store_width F32Store = omega arith
store_width F64Store = omega arith
store_width I32Store8 = omega arith
store_width I32Store16 = omega arith
store_width I64Store8 = omega arith
store_width I64Store16 = omega arith
store_width I64Store32 = omega arith

pub simple_printable : (c : Context) (i : Simple) (a b : List ValType) → TypedSimple c i a b → is_simple_printable i ≡ true
simple_printable c (Load o at) a b h = small at.align (load o).width (load_width o) h.1
simple_printable c (Store o at) a b h = small at.align (store o).width (store_width o) h.1
simple_printable c _ a b h = refl

-- typed instructions have such alignments alone
both : (xs ys : List Op) → list_all is_printable xs ≡ true → list_all is_printable ys ≡ true → list_all is_printable (xs ++ ys) ≡ true
both xs ys h k = list_all-append is_printable xs ys ∙ (ap (λ z. z && list_all is_printable ys) h ∙ k)

labels_printable : (ls : List ℕ) (l : ℕ) → list_all is_printable (map op.Label ls ++ op.Label l ∷ []) ≡ true
labels_printable [] l = refl
labels_printable (x ∷ ls) l = labels_printable ls l

else_printable : (s : Instructions) (ops : List Op) → list_all is_printable ops ≡ true → list_all is_printable (else_ops s ops) ≡ true
else_printable none ops h = refl
else_printable (snoc s i) ops h = h

mutual
  instruction_printable : (c : Context) (i : Instruction) (a b : List ValType) → TypedInstruction c i a b → list_all is_printable (instruction_ops i) ≡ true
  instruction_printable c (simple i) a b h = ap (λ z. z && true) (simple_printable c i a b h)
  instruction_printable c (table ls l) a b h = labels_printable ls l
  instruction_printable c (block t body) a b h = both (ops_of body) (op.End ∷ []) (body_printable _ body _ _ h.1) refl
  instruction_printable c (loop t body) a b h = both (ops_of body) (op.End ∷ []) (body_printable _ body _ _ h.1) refl
  instruction_printable c (choice t first second) a b h =
      both (op.If t ∷ ops_of first ++ else_ops second (ops_of second)) (op.End ∷ [])
      (both (op.If t ∷ ops_of first) (else_ops second (ops_of second)) (body_printable _ first _ _ h.1) (else_printable second (ops_of second) (body_printable _ second _ _ h.2))) refl

  pub body_printable : (c : Context) (s : Instructions) (a b : List ValType) → Typed c s a b → list_all is_printable (ops_of s) ≡ true
  body_printable c none a b h = refl
  body_printable c (snoc s i) a b (below, takes, gives, before, last, after) =
      both (ops_of s) (instruction_ops i) (body_printable c s a (below ++ takes) before) (instruction_printable c i takes gives last)

functions_printable : (m : Module) (fs : List Function) → AllByRecursion (ValidFunction m) fs → list_all is_function_printable fs ≡ true
functions_printable m [] h = refl
functions_printable m (f ∷ fs) h =
    ap (λ z. z && list_all is_function_printable fs) (body_printable _ f.body [] _ h.0.2) ∙ functions_printable m fs h.1

-- A loaded module has such alignments.
pub loaded_printable : (m : Module) → ∥ IsLoaded m ∥₁ → list_all is_function_printable m.functions ≡ true
loaded_printable m l = is_true (list_all is_function_printable m.functions)
    (λ e. ∥∥₁_elim l (λ x y. absurd x) (λ h. let k = functions_printable m m.functions h.loads.valid.functions in cc))

-- A property that all values have.
pub all_of : {X : Type 0} (p : X → Bool) → ((x : X) → p x ≡ true) → (xs : List X) → list_all p xs ≡ true
all_of p h [] = refl
all_of p h (x ∷ xs) = ap (λ z. z && list_all p xs) (h x) ∙ all_of p h xs

-- the fields of a part of a module
pub sent_part : {X : Type 0} (f : ℕ × X → List Word) (n k : ℕ) (xs ys : List X) (s t : State) → n ≡ k → xs ≡ ys
    → Sent (words_text (flat_map f (enumerate_from n xs))) s t → Sent (words_text (flat_map f (enumerate_from k ys))) s t
sent_part f n k xs ys s t e d h =
    sent_same _ _ s t (ap (λ z. words_text (flat_map f (enumerate_from z xs))) e ∙ ap (λ z. words_text (flat_map f (enumerate_from k z))) d) h

pub sent_list : {X : Type 0} (f : X → List Word) (xs ys : List X) (s t : State) → xs ≡ ys
    → Sent (flat_map (λ x. words_text (f x)) xs) s t → Sent (words_text (flat_map f ys)) s t
sent_list f xs ys s t e h = sent_same _ _ s t (ap (λ z. words_text (flat_map f z)) e) (sent_each f xs s t h)

-- the fields one after another
pub sent_fields : (m : Module) (s0 s1 s2 s3 s4 s5 s6 s7 s8 s9 s10 : State)
    → Sent (words_text (flat_map type_field (enumerate_from 0 m.types))) s0 s1
    → Sent (words_text (import_fields [] m.imports)) s1 s2
    → Sent (words_text (flat_map function_field (enumerate_from (places m.imports).functions m.functions))) s2 s3
    → Sent (words_text (flat_map table_field (enumerate_from (places m.imports).tables m.tables))) s3 s4
    → Sent (words_text (flat_map memory_field (enumerate_from (places m.imports).memories m.memories))) s4 s5
    → Sent (words_text (flat_map global_field (enumerate_from (places m.imports).globals m.globals))) s5 s6
    → Sent (words_text (flat_map export_field m.exports)) s6 s7
    → Sent (words_text (start_field m.start)) s7 s8
    → Sent (words_text (flat_map element_field m.elements)) s8 s9
    → Sent (words_text (flat_map segment_field m.segments)) s9 s10
    → Sent (words_text (field_words m)) s0 s10
sent_fields m s0 s1 s2 s3 s4 s5 s6 s7 s8 s9 s10 h0 h1 h2 h3 h4 h5 h6 h7 h8 h9 =
    let w0 = flat_map type_field (enumerate_from 0 m.types) in
    let w1 = import_fields [] m.imports in
    let w2 = flat_map function_field (enumerate_from (places m.imports).functions m.functions) in
    let w3 = flat_map table_field (enumerate_from (places m.imports).tables m.tables) in
    let w4 = flat_map memory_field (enumerate_from (places m.imports).memories m.memories) in
    let w5 = flat_map global_field (enumerate_from (places m.imports).globals m.globals) in
    let w6 = flat_map export_field m.exports in
    let w7 = start_field m.start in
    let w8 = flat_map element_field m.elements in
    let w9 = flat_map segment_field m.segments in
    sent_words w0 (w1 ++ (w2 ++ (w3 ++ (w4 ++ (w5 ++ (w6 ++ (w7 ++ (w8 ++ w9)))))))) s0 s1 s10 h0 (sent_words w1 (w2 ++ (w3 ++ (w4 ++ (w5 ++ (w6 ++ (w7 ++ (w8 ++ w9))))))) s1 s2 s10 h1 (sent_words w2 (w3 ++ (w4 ++ (w5 ++ (w6 ++ (w7 ++ (w8 ++ w9)))))) s2 s3 s10 h2 (sent_words w3 (w4 ++ (w5 ++ (w6 ++ (w7 ++ (w8 ++ w9))))) s3 s4 s10 h3 (sent_words w4 (w5 ++ (w6 ++ (w7 ++ (w8 ++ w9)))) s4 s5 s10 h4 (sent_words w5 (w6 ++ (w7 ++ (w8 ++ w9))) s5 s6 s10 h5 (sent_words w6 (w7 ++ (w8 ++ w9)) s6 s7 s10 h6 (sent_words w7 (w8 ++ w9) s7 s8 s10 h7 (sent_words w8 w9 s8 s9 s10 h8 h9))))))))

-- a module and a line feed
pub sent_module : (fields : List Word) (end : List ℕ) (s t u v : State) → Sent (codes "(module") s t → Sent (words_text fields) t u → Sent end u v
    → end ≡ last_line fields ++ 41 ∷ 10 ∷ [] → Sent (words_text (parens [] (codes "module") fields (last_line fields)) ++ 10 ∷ []) s v
sent_module fields end s t u v h k l is =
    let e : words_text (parens [] (codes "module") fields (last_line fields)) ++ 10 ∷ [] ≡ codes "(module" ++ (words_text fields ++ (last_line fields ++ 41 ∷ 10 ∷ [])) =
    ap (λ z. z ++ 10 ∷ []) (parens_text [] (codes "module") fields (last_line fields))
    ∙ (append_assoc (codes "(module") (words_text fields ++ (last_line fields ++ 41 ∷ [])) (10 ∷ [])
    ∙ ap (λ z. codes "(module" ++ z) (append_assoc (words_text fields) (last_line fields ++ 41 ∷ []) (10 ∷ [])
    ∙ ap (λ z. words_text fields ++ z) (append_assoc (last_line fields) (41 ∷ []) (10 ∷ [])))) in
    sent_same _ _ s v (sym e) (sent_then (codes "(module") _ s t v h (sent_then (words_text fields) _ t u v k (sent_same _ _ u v is l)))

-- no field is without words
abbrev nil : List Word → Bool
nil [] = true
nil (w ∷ ws) = false

nil_then : (a b : List Word) → nil (a ++ b) ≡ (nil a && nil b)
nil_then [] b = refl
nil_then (w ∷ a) b = refl

nil_both : (a b : List Word) (x y : Bool) → nil a ≡ x → nil b ≡ y → nil (a ++ b) ≡ (x && y)
nil_both a b x y h k = nil_then a b ∙ (ap (λ (z : Bool). z && nil b) h ∙ ap (λ (z : Bool). x && z) k)

nil_part : {X : Type 0} (f : ℕ × X → List Word) → ((e : ℕ × X) → nil (f e) ≡ false) → (n : ℕ) (xs : List X) → nil (flat_map f (enumerate_from n xs)) ≡ (length xs == 0)
nil_part f h n [] = refl
nil_part f h n (x ∷ xs) =
    let e : false ≡ (length (x ∷ xs) == 0) = grind (arith, nat_tests) in
    nil_then (f (n, x)) (flat_map f (enumerate_from (n + 1) xs)) ∙ (ap (λ z. z && nil (flat_map f (enumerate_from (n + 1) xs))) (h (n, x)) ∙ e)

nil_list : {X : Type 0} (f : X → List Word) → ((x : X) → nil (f x) ≡ false) → (xs : List X) → nil (flat_map f xs) ≡ (length xs == 0)
nil_list f h [] = refl
nil_list f h (x ∷ xs) =
    let e : false ≡ (length (x ∷ xs) == 0) = grind (arith, nat_tests) in
    nil_then (f x) (flat_map f xs) ∙ (ap (λ z. z && nil (flat_map f xs)) (h x) ∙ e)

nil_imports : (before xs : List Import) → nil (import_fields before xs) ≡ (length xs == 0)
nil_imports before [] = refl
nil_imports before (x ∷ xs) = grind (arith, nat_tests)

nil_start : (x : Option ℕ) → nil (start_field x) ≡ is_none x
nil_start None = refl
nil_start (Some x) = refl

-- The fields have words if and only if a module has a part.
grouped : (a b c d e f g h i j : Bool) → (a && b && c && d && e && f && g && h && i && j) ≡ (a && (b && (c && (d && (e && (f && (g && (h && (i && j)))))))))
grouped a b c d e f g h i j = simp and_assoc

empty_fields : (m : Module) → is_empty_module m ≡ nil (field_words m)
empty_fields m =
    let w0 = flat_map type_field (enumerate_from 0 m.types) in
    let x0 = (length m.types == 0) in
    let w1 = import_fields [] m.imports in
    let x1 = (length m.imports == 0) in
    let w2 = flat_map function_field (enumerate_from (places m.imports).functions m.functions) in
    let x2 = (length m.functions == 0) in
    let w3 = flat_map table_field (enumerate_from (places m.imports).tables m.tables) in
    let x3 = (length m.tables == 0) in
    let w4 = flat_map memory_field (enumerate_from (places m.imports).memories m.memories) in
    let x4 = (length m.memories == 0) in
    let w5 = flat_map global_field (enumerate_from (places m.imports).globals m.globals) in
    let x5 = (length m.globals == 0) in
    let w6 = flat_map export_field m.exports in
    let x6 = (length m.exports == 0) in
    let w7 = start_field m.start in
    let x7 = (is_none m.start) in
    let w8 = flat_map element_field m.elements in
    let x8 = (length m.elements == 0) in
    let w9 = flat_map segment_field m.segments in
    let x9 = (length m.segments == 0) in
    let n9 : nil w9 ≡ x9 = nil_list segment_field (λ e. refl) m.segments in
    let n8 : nil (w8 ++ w9) ≡ (x8 && x9) = nil_both w8 w9 x8 x9 (nil_list element_field (λ e. refl) m.elements) n9 in
    let n7 : nil (w7 ++ (w8 ++ w9)) ≡ (x7 && (x8 && x9)) = nil_both w7 (w8 ++ w9) x7 (x8 && x9) (nil_start m.start) n8 in
    let n6 : nil (w6 ++ (w7 ++ (w8 ++ w9))) ≡ (x6 && (x7 && (x8 && x9))) = nil_both w6 (w7 ++ (w8 ++ w9)) x6 (x7 && (x8 && x9)) (nil_list export_field (λ e. refl) m.exports) n7 in
    let n5 : nil (w5 ++ (w6 ++ (w7 ++ (w8 ++ w9)))) ≡ (x5 && (x6 && (x7 && (x8 && x9)))) = nil_both w5 (w6 ++ (w7 ++ (w8 ++ w9))) x5 (x6 && (x7 && (x8 && x9))) (nil_part global_field (λ e. refl) (places m.imports).globals m.globals) n6 in
    let n4 : nil (w4 ++ (w5 ++ (w6 ++ (w7 ++ (w8 ++ w9))))) ≡ (x4 && (x5 && (x6 && (x7 && (x8 && x9))))) = nil_both w4 (w5 ++ (w6 ++ (w7 ++ (w8 ++ w9)))) x4 (x5 && (x6 && (x7 && (x8 && x9)))) (nil_part memory_field (λ e. refl) (places m.imports).memories m.memories) n5 in
    let n3 : nil (w3 ++ (w4 ++ (w5 ++ (w6 ++ (w7 ++ (w8 ++ w9)))))) ≡ (x3 && (x4 && (x5 && (x6 && (x7 && (x8 && x9)))))) = nil_both w3 (w4 ++ (w5 ++ (w6 ++ (w7 ++ (w8 ++ w9))))) x3 (x4 && (x5 && (x6 && (x7 && (x8 && x9))))) (nil_part table_field (λ e. refl) (places m.imports).tables m.tables) n4 in
    let n2 : nil (w2 ++ (w3 ++ (w4 ++ (w5 ++ (w6 ++ (w7 ++ (w8 ++ w9))))))) ≡ (x2 && (x3 && (x4 && (x5 && (x6 && (x7 && (x8 && x9))))))) = nil_both w2 (w3 ++ (w4 ++ (w5 ++ (w6 ++ (w7 ++ (w8 ++ w9)))))) x2 (x3 && (x4 && (x5 && (x6 && (x7 && (x8 && x9)))))) (nil_part function_field (λ e. refl) (places m.imports).functions m.functions) n3 in
    let n1 : nil (w1 ++ (w2 ++ (w3 ++ (w4 ++ (w5 ++ (w6 ++ (w7 ++ (w8 ++ w9)))))))) ≡ (x1 && (x2 && (x3 && (x4 && (x5 && (x6 && (x7 && (x8 && x9)))))))) = nil_both w1 (w2 ++ (w3 ++ (w4 ++ (w5 ++ (w6 ++ (w7 ++ (w8 ++ w9))))))) x1 (x2 && (x3 && (x4 && (x5 && (x6 && (x7 && (x8 && x9))))))) (nil_imports [] m.imports) n2 in
    let n0 : nil (w0 ++ (w1 ++ (w2 ++ (w3 ++ (w4 ++ (w5 ++ (w6 ++ (w7 ++ (w8 ++ w9))))))))) ≡ (x0 && (x1 && (x2 && (x3 && (x4 && (x5 && (x6 && (x7 && (x8 && x9))))))))) = nil_both w0 (w1 ++ (w2 ++ (w3 ++ (w4 ++ (w5 ++ (w6 ++ (w7 ++ (w8 ++ w9)))))))) x0 (x1 && (x2 && (x3 && (x4 && (x5 && (x6 && (x7 && (x8 && x9)))))))) (nil_part type_field (λ e. refl) 0 m.types) n1 in
    grouped x0 x1 x2 x3 x4 x5 x6 x7 x8 x9 ∙ sym n0

line_of : (words : List Word) → last_line words ≡ (if nil words then [] else 10 ∷ [])
line_of [] = refl
line_of (w ∷ words) = refl

pub ends_empty : (m : Module) → is_empty_module m ≡ true → 41 ∷ 10 ∷ [] ≡ last_line (field_words m) ++ 41 ∷ 10 ∷ []
ends_empty m h =
    sym (ap (λ (z : List ℕ). z ++ 41 ∷ 10 ∷ []) (line_of (field_words m)) ∙ ap (λ (z : Bool). (if z then [] else 10 ∷ []) ++ 41 ∷ 10 ∷ []) (sym (empty_fields m) ∙ h))

pub ends_line : (m : Module) → is_empty_module m ≡ false → 10 ∷ 41 ∷ 10 ∷ [] ≡ last_line (field_words m) ++ 41 ∷ 10 ∷ []
ends_line m h =
    sym (ap (λ (z : List ℕ). z ++ 41 ∷ 10 ∷ []) (line_of (field_words m)) ∙ ap (λ (z : Bool). (if z then [] else 10 ∷ []) ++ 41 ∷ 10 ∷ []) (sym (empty_fields m) ∙ h))

-- The bytes that went out, for a writer that has not failed.
pub sent_out : (bytes : List ℕ) (f g : Bool) (c d : Option (List ℕ)) (w v : ℕ) → f ≡ false → g ≡ false → Sent bytes (f, c, w) (g, d, v) → Appends c d bytes
unfolding Sent
sent_out bytes false false c d w v h k s = s.0
sent_out bytes false true c d w v h k s = let e : ⊥ = cc k in absurd e
sent_out bytes true g c d w v h k s = let e : ⊥ = cc h in absurd e

pub sent_begun : (bytes : List ℕ) (f g : Bool) (c d : Option (List ℕ)) (w v : ℕ) → f ≡ false → g ≡ true → Sent bytes (f, c, w) (g, d, v)
    → (n : ℕ) × (n ≤ length bytes) × Appends c d (take n bytes)
unfolding Sent
sent_begun bytes false true c d w v h k (n, less, some, now) = (n, less, some)
sent_begun bytes false false c d w v h k s = let e : ⊥ = cc k in absurd e
sent_begun bytes true g c d w v h k s = let e : ⊥ = cc h in absurd e
