-- A body that names no data segment has the same typings whatever their number is. With no data segments, no body that is
-- typed names one.
use Rattle.std.proofs.Common.{ℕ, ◌≡◌, Bool, true, false, ◌||◌, List, [], ◌∷◌, ◌++◌, Some, map, refl, arith, slice_get}
use Rattle.std.specs.Prelude.{IsFalse}
use Rattle.std.specs.List.{AllByRecursion}
use Rattle.wm_syntax.specs.declared.types.ValType.{ValType}
use Rattle.wm_syntax.specs.declared.instructions.Op.{Op}
use Rattle.wm_syntax.specs.declared.instructions.Op.TheVariants as op
use Rattle.wm_syntax.specs.declared.instructions.Simple.TheVariants as simples
use Rattle.wm_syntax.specs.Instructions.{Instruction, Instructions, none, snoc, simple, table, block, loop, choice, name_segment, names_segment, instruction_ops, ops_of, else_ops}
use Rattle.wm_syntax.specs.Types.{Signature}
use Rattle.wm_syntax.specs.Modules.{Function, bodies_name_segment}
use Rattle.wm_typing.specs.Contexts.{body_context}
use Rattle.wm_typing.specs.Typing.{Context, Typed, TypedInstruction, with_label}

-- the context with this number of data segments
abbrev pub counting : Context → ℕ → Context
counting c n = record c { segments = n }

-- two tests that are false
either_false : (a b : Bool) → IsFalse (a || b) → IsFalse a × IsFalse b
either_false true b h = cc
either_false false b h = (refl, h)

neither : (a b : Bool) → IsFalse a → IsFalse b → IsFalse (a || b)
neither true b h k = h
neither false b h k = k

none_joined : (xs ys : List Op) → IsFalse (name_segment xs) → IsFalse (name_segment ys) → IsFalse (name_segment (xs ++ ys))
none_joined [] ys h k = k
none_joined (x ∷ xs) ys h k =
    let e = either_false (names_segment x) (name_segment xs) h in
    neither (names_segment x) (name_segment (xs ++ ys)) e.0 (none_joined xs ys e.1 k)

none_parted : (xs ys : List Op) → IsFalse (name_segment (xs ++ ys)) → IsFalse (name_segment xs) × IsFalse (name_segment ys)
none_parted [] ys h = (refl, h)
none_parted (x ∷ xs) ys h =
    let e = either_false (names_segment x) (name_segment (xs ++ ys)) h in
    let r = none_parted xs ys e.1 in
    (neither (names_segment x) (name_segment xs) e.0 r.0, r.1)

labels_none : (ls : List ℕ) (d : ℕ) → IsFalse (name_segment (map op.Label ls ++ op.Label d ∷ []))
labels_none [] d = refl
labels_none (l ∷ ls) d = labels_none ls d

else_none : (s : Instructions) → IsFalse (name_segment (ops_of s)) → IsFalse (name_segment (else_ops s (ops_of s)))
else_none none h = refl
else_none (snoc s i) h = h

else_parted : (s : Instructions) → IsFalse (name_segment (else_ops s (ops_of s))) → IsFalse (name_segment (ops_of s))
else_parted none h = refl
else_parted (snoc s i) h = h

mutual
  none_in : (c : Context) (i : Instruction) (a r : List ValType) → TypedInstruction (counting c 0) i a r → IsFalse (name_segment (instruction_ops i))
  none_in c (simple (simples.MemoryInit x)) a r h = absurd (omega (arith, h.1))
  none_in c (simple (simples.DataDrop x)) a r h = absurd (omega (arith, h.0))
  none_in c (simple _) a r h = refl
  none_in c (table ls d) a r h = labels_none ls d
  none_in c (block t body) a r h = none_joined (ops_of body) (op.End ∷ []) (none_of (with_label t c) body _ _ h.1) refl
  none_in c (loop t body) a r h = none_joined (ops_of body) (op.End ∷ []) (none_of (with_label _ c) body _ _ h.1) refl
  none_in c (choice t first second) a r h =
      none_joined (ops_of first ++ else_ops second (ops_of second)) (op.End ∷ [])
      (none_joined (ops_of first) (else_ops second (ops_of second)) (none_of (with_label t c) first _ _ h.1) (else_none second (none_of (with_label t c) second _ _ h.2))) refl

  pub none_of : (c : Context) (s : Instructions) (a r : List ValType) → Typed (counting c 0) s a r → IsFalse (name_segment (ops_of s))
  none_of c none a r h = refl
  none_of c (snoc s i) a r h = none_joined (ops_of s) (instruction_ops i) (none_of c s _ _ h.3) (none_in c i _ _ h.4)

mutual
  recounted_in : (c : Context) (m n : ℕ) (i : Instruction) (a r : List ValType) → IsFalse (name_segment (instruction_ops i)) → TypedInstruction (counting c m) i a r → TypedInstruction (counting c n) i a r
  recounted_in c m n (simple (simples.MemoryInit x)) a r e h = absurd (let f : true ≡ false = e in cc)
  recounted_in c m n (simple (simples.DataDrop x)) a r e h = absurd (let f : true ≡ false = e in cc)
  recounted_in c m n (simple _) a r e h = h
  recounted_in c m n (table ls d) a r e h = h
  recounted_in c m n (block t body) a r e h = (h.0, recounted_of (with_label t c) m n body _ _ (none_parted (ops_of body) (op.End ∷ []) e).0 h.1)
  recounted_in c m n (loop t body) a r e h = (h.0, recounted_of (with_label _ c) m n body _ _ (none_parted (ops_of body) (op.End ∷ []) e).0 h.1)
  recounted_in c m n (choice t first second) a r e h =
      let p = none_parted (ops_of first ++ else_ops second (ops_of second)) (op.End ∷ []) e in
      let q = none_parted (ops_of first) (else_ops second (ops_of second)) p.0 in
      (h.0, recounted_of (with_label t c) m n first _ _ q.0 h.1, recounted_of (with_label t c) m n second _ _ (else_parted second q.1) h.2)

  pub recounted_of : (c : Context) (m n : ℕ) (s : Instructions) (a r : List ValType) → IsFalse (name_segment (ops_of s)) → Typed (counting c m) s a r → Typed (counting c n) s a r
  recounted_of c m n none a r e h = h
  recounted_of c m n (snoc s i) a r e h =
      let p = none_parted (ops_of s) (instruction_ops i) e in
      (h.0, h.1, h.2, recounted_of c m n s _ _ p.0 h.3, recounted_in c m n i _ _ p.1 h.4, h.5)

-- a function whose body has its type
abbrev pub TypedFunction : Context → Function → Type 0
TypedFunction c f = (sig : Signature) × (slice_get c.types f.type_index ≡ Some sig) × Typed (body_context c f.type_index f.locals) f.body [] sig.results

pub functions_none : (c : Context) (fs : List Function) → AllByRecursion (TypedFunction (counting c 0)) fs → IsFalse (bodies_name_segment fs)
functions_none c [] h = refl
functions_none c (f ∷ fs) h =
    neither (name_segment (ops_of f.body)) (bodies_name_segment fs) (none_of (body_context c f.type_index f.locals) f.body [] h.0.0.results h.0.2) (functions_none c fs h.1)

pub functions_recounted : (c : Context) (m n : ℕ) (fs : List Function) → IsFalse (bodies_name_segment fs) → AllByRecursion (TypedFunction (counting c m)) fs → AllByRecursion (TypedFunction (counting c n)) fs
functions_recounted c m n [] e h = tt
functions_recounted c m n (f ∷ fs) e h =
    let p = either_false (name_segment (ops_of f.body)) (bodies_name_segment fs) e in
    ((h.0.0, h.0.1, recounted_of (body_context c f.type_index f.locals) m n f.body [] h.0.0.results p.0 h.0.2), functions_recounted c m n fs p.1 h.1)
