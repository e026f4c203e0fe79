-- The parts of fields are read exactly as tokens write them.
use Rattle.std.proofs.Common.{◌≡◌, ℕ, Bool, true, false, List, [], ◌∷◌, ◌++◌, Option, Some, None, refl, sym, ap, subst, ◌∙◌, inl, inr, append_assoc}
use Rattle.std.specs.Prelude.{codes, flat_map, map}
use Rattle.std.specs.Str.{is_utf8}
use Rattle.std.proofs.lemmas.Str.{IsUtf8-from_is_utf8, is_utf8-from_IsUtf8}
use Rattle.std.proofs.lemmas.Bool.{cond-true, cond-false}
use Rattle.wm_syntax.specs.Spelling.{Form, Each, ◌▸◌}
use Rattle.wm_syntax.specs.declared.types.Const.{Const}
use Rattle.wm_syntax.specs.declared.types.Const.TheVariants as const
use Rattle.wm_syntax.specs.declared.types.Limits.{Limits}
use Rattle.wm_syntax.specs.declared.types.ValType.{ValType}
use Rattle.wm_syntax.specs.declared.types.ValType.TheVariants.{I32, I64, F32, F64}
use Rattle.wm_syntax.specs.declared.instructions.Op.TheVariants as op
use Rattle.wm_syntax.specs.Opcodes.{opcode}
use Rattle.wm_syntax.specs.OpClasses.{class_of}
use Rattle.wm_syntax.specs.declared.modules.ImportDesc.{ImportDesc}
use Rattle.wm_syntax.specs.declared.modules.ImportDesc.TheVariants as desc
use Rattle.wm_syntax.specs.declared.modules.ExportKind.{ExportKind}
use Rattle.wm_syntax.specs.declared.modules.ExportKind.TheVariants as kind
use Rattle.wm_syntax.specs.declared.instructions.op_class.Immediates.{Immediates}
use Rattle.wm_syntax.specs.declared.instructions.op_class.Indexed.TheVariants as indexed
use Rattle.wm_syntax.specs.declared.instructions.op_class.Immediates.TheVariants as k
use Rattle.wm_syntax.specs.declared.instructions.op_class.OpClass.{OpClass}
use Rattle.wm_syntax.specs.declared.instructions.op_class.OpClass.TheVariants as class
use Rattle.wm_syntax.specs.declared.profile.Profile.{Profile}
use Rattle.wm_syntax.specs.exact.NameTable.{class_named}
use Rattle.wm_syntax.specs.Modules.{constant}
use Rattle.wm_syntax.specs.Profiles.{HasConst, HasDesc}
use Rattle.wm_tokens.specs.Tokens.{Token, open_paren, close_paren, string, atom}
use Rattle.wm_tokens.specs.Identifiers.{Id, Ids, AreDistinct, WritesId, Resolves, ResolvesLabel}
use Rattle.wm_tokens.specs.Written.{Named, Names, Scope, Paren, TypeUse, WritesSimple}
use Rattle.wm_tokens.specs.Fields.{HasDistinct, WritesConst, WritesDesc, WritesExport, WritesGlobalType, WritesLimits, WritesName, WritesOffset, WritesFolded, WritesStrings, WritesTableType}
use Rattle.wm_bodies.specs.inner.Pieces.{Piece, plain}
use Rattle.wm_bodies.specs.exact.Reading.{Reader, ◌>>=◌, made, open_at, close_at, atom_at, then_at, paren_at, id_at, index_of, integer_of, labels_at, class_at, kind_at, piece_at, same_bytes}
use Rattle.wm_bodies.specs.exact.TypeUses.{begins_group, begins_open, call_use_at}
use Rattle.wm_bodies.specs.exact.NamedUses.{named_use_at}
use Rattle.wm_read.specs.exact.FieldTypes.{limits_at, table_type_at, global_type_at}
use Rattle.wm_read.specs.exact.Fields.{item_word, with_word, item_named, headed_at, name_at, strings_at, bytes_at, const_kind, const_class, instruction_at, paren_const_at, const_at, offset_at, desc_kind, desc_at, space_of, item_at}
use Rattle.wm_tokens.proofs.Atoms.{magnitude_more}
use Rattle.wm_tokens.proofs.Basics.{chosen, same_some}
use Rattle.wm_read.proofs.FieldTypes.{NoNumber, OfGlobalType, limits_sound, limits_complete, table_type_sound, table_type_complete, global_type_sound, global_type_complete}
use Rattle.wm_floats.specs.exact.Atoms.{float_of}
use Rattle.wm_syntax.specs.declared.instructions.FloatType.TheVariants as float
use Rattle.wm_bodies.proofs.Floats.{float_complete}
use Rattle.wm_bodies.proofs.Immediates.{NotId, NotIndex, id_sound, id_complete, integer_complete, labels_sound, labels_complete}
use Rattle.wm_bodies.proofs.Indices.{distinct_nearest, index_sound, index_complete, number_not_id as number_no_id}
use Rattle.wm_bodies.proofs.NamedUses.{UseEnds, uses_are_written, uses_are_read}
use Rattle.wm_bodies.proofs.PieceLaws.{piece_named, piece_sound}
use Rattle.wm_bodies.proofs.Readers.{Sound, Complete, Any, Both, BeginsClose, bind_ok, bind_is, open_found, close_found, is_same, same_is, made_is, made_sound, paren_complete, paren_sound, then_complete, then_sound}
use Rattle.wm_bodies.proofs.TypeUseLaws.{KnowsTypes, call_sound}

-- ---- a form whose word says what it holds

pub with_found : {K : Type 0} (word : K → List ℕ) (xs : List K) (a : List ℕ) (x : K) → with_word word xs a ≡ Some x → a ≡ word x
with_found word [] a x e = absurd cc
with_found {K} word (y ∷ xs) a x e = elim (chosen (same_bytes a (word y)) (Some y) (with_word word xs a) (Some x) e) [
  | inl p ↦ (same_is a (word y) p.0 ∙ ap word (same_some y x p.1))
  | inr p ↦ with_found word xs a x p.1
]

module _ {K X : Type 0} (named : List ℕ → Option K) (word : K → List ℕ) (r : K → Reader X) where
  -- with this word it is read so
  headed_is : (kind : K) (k : List Token) → named (word kind) ≡ Some kind → headed_at named r (open_paren ∷ atom (word kind) ∷ k) ≡ paren_at (word kind) (r kind) (open_paren ∷ atom (word kind) ∷ k)
  headed_is kind k e =
      ap (λ (o : Option K). ◌>>=◌ {B = X × List Token} (◌>>=◌ {B = K × List Token} o (λ x. Some (x, k))) (λ w. r w.0 w.1 >>= λ x. close_at x.1 >>= λ c. Some (x.0, c.1))) e
      ∙ sym (ap (λ (o : Option (Unit {0})). ◌>>=◌ {B = X × List Token} (◌>>=◌ {B = Unit {0} × List Token} o (λ x. Some (x, k))) (λ w. r kind w.1 >>= λ x. close_at x.1 >>= λ c. Some (x.0, c.1)))
      (cond-true (same_bytes (word kind) (word kind)) (Some tt) None (is_same (word kind))))

  pub headed_sound : (P : K → X → Form Token) → ((a : List ℕ) (kind : K) → named a ≡ Some kind → a ≡ word kind) → ((kind : K) → Sound (r kind) (P kind))
      → Sound (headed_at named r) (λ x front. (kind : K) × Paren (word kind) (P kind x) front)
  headed_sound P found sound [] x rest e = absurd cc
  headed_sound P found sound (close_paren ∷ k) x rest e = absurd cc
  headed_sound P found sound (string b ∷ k) x rest e = absurd cc
  headed_sound P found sound (atom a ∷ k) x rest e = absurd cc
  headed_sound P found sound (open_paren ∷ []) x rest e = absurd cc
  headed_sound P found sound (open_paren ∷ open_paren ∷ k) x rest e = absurd cc
  headed_sound P found sound (open_paren ∷ close_paren ∷ k) x rest e = absurd cc
  headed_sound P found sound (open_paren ∷ string b ∷ k) x rest e = absurd cc
  headed_sound P found sound (open_paren ∷ atom a ∷ k) x rest e =
      let w = bind_ok (atom_at named (atom a ∷ k)) (λ w. r w.0 w.1 >>= λ y. close_at y.1 >>= λ c. Some (y.0, c.1)) (x, rest) e in
      let n = bind_ok (named a) (λ y. Some (y, k)) w.0 w.1 in
      let kind = n.0 in
      let same : a ≡ word kind = found a kind n.1 in
      let text : ◌≡◌ {A = List Token} (open_paren ∷ atom a ∷ k) (open_paren ∷ atom (word kind) ∷ k) = ap (λ (z : List ℕ). open_paren ∷ atom z ∷ k) same in
      let g = paren_sound (word kind) (r kind) (P kind) (sound kind) (open_paren ∷ atom (word kind) ∷ k) x rest
      (sym (headed_is kind k (ap named (sym same) ∙ n.1)) ∙ ap (headed_at named r) (sym text) ∙ e) in
      (g.0, text ∙ g.1, (kind, g.2))

  pub headed_complete : (P : X → Form Token) (kind : K) → named (word kind) ≡ Some kind → Complete (r kind) P BeginsClose → (x : X) (front rest : List Token) → Paren (word kind) (P x) front
      → headed_at named r (front ++ rest) ≡ Some (x, rest)
  headed_complete P kind e complete x front rest (a, b, is, w, more) =
      let text : front ++ rest ≡ open_paren ∷ atom (word kind) ∷ (b ++ rest) = ap (λ (z : List Token). z ++ rest) (is ∙ ap (λ (z : List Token). z ++ b) w) in
      ap (headed_at named r) text ∙ headed_is kind (b ++ rest) e ∙ ap (paren_at (word kind) (r kind)) (sym text)
      ∙ paren_complete (word kind) (r kind) P complete x front rest (a, b, is, w, more) tt

-- ---- names and strings

pub name_sound : Sound name_at WritesName
name_sound [] x rest e = absurd cc
name_sound (open_paren ∷ k) x rest e = absurd cc
name_sound (close_paren ∷ k) x rest e = absurd cc
name_sound (atom a ∷ k) x rest e = absurd cc
name_sound (string b ∷ k) x rest e = elim (chosen (is_utf8 b) (Some (b, k)) None (Some (x, rest)) e) [
  | inl p ↦ (let is = same_some (b, k) (x, rest) p.1 in
      (string b ∷ [], ap (λ (z : List ℕ × List Token). string b ∷ z.1) is, subst (λ (z : List ℕ × List Token). WritesName z.0 (string b ∷ [])) is (IsUtf8-from_is_utf8 b p.0, refl)))
  | inr p ↦ absurd (let f : ◌≡◌ {A = Option (List ℕ × List Token)} None (Some (x, rest)) = p.1 in cc)
]

pub name_complete : Complete name_at WritesName Any
name_complete x front rest (u, e) f = ap (λ (z : List Token). name_at (z ++ rest)) e ∙ cond-true (is_utf8 x) (Some (x, rest)) None (is_utf8-from_IsUtf8 x u)

abbrev Strings : List (List ℕ) → Form Token
Strings parts k = k ≡ map string parts

no_strings : (k : List Token) (parts : List (List ℕ)) (rest : List Token) → ◌≡◌ {A = Option (List (List ℕ) × List Token)} (Some ([], k)) (Some (parts, rest)) → (front : List Token) × (k ≡ front ++ rest) × Strings parts front
no_strings k parts rest e = let p = same_some ([], k) (parts, rest) e in ([], ap (λ (z : List (List ℕ) × List Token). z.1) p, subst (λ (z : List (List ℕ) × List Token). Strings z.0 []) p refl)

strings_sound : Sound strings_at Strings
strings_sound [] parts rest e = no_strings [] parts rest e
strings_sound (open_paren ∷ k) parts rest e = no_strings (open_paren ∷ k) parts rest e
strings_sound (close_paren ∷ k) parts rest e = no_strings (close_paren ∷ k) parts rest e
strings_sound (atom a ∷ k) parts rest e = no_strings (atom a ∷ k) parts rest e
strings_sound (string b ∷ k) parts rest e =
    let g = bind_ok (strings_at k) (λ x. Some (b ∷ x.0, x.1)) (parts, rest) e in
    let more = strings_sound k g.0.0 g.0.1 g.1 in
    let is : ◌≡◌ {A = List (List ℕ) × List Token} (b ∷ g.0.0, g.0.1) (parts, rest) = same_some (b ∷ g.0.0, g.0.1) (parts, rest) g.2 in (
      string b ∷ more.0,
      ap (λ (z : List Token). string b ∷ z) more.1 ∙ ap (λ (z : List (List ℕ) × List Token). (string b ∷ more.0) ++ z.1) is,
      subst (λ (z : List (List ℕ) × List Token). Strings z.0 (string b ∷ more.0)) is (ap (λ (z : List Token). string b ∷ z) more.2),
    )

strings_complete : Complete strings_at Strings BeginsClose
strings_complete [] front rest e f = ap (λ (z : List Token). strings_at (z ++ rest)) e ∙ by rest f
  where
    by : (rest : List Token) → BeginsClose rest → strings_at rest ≡ Some ([], rest)
    by [] f = absurd f
    by (open_paren ∷ k) f = absurd f
    by (close_paren ∷ k) f = refl
    by (atom a ∷ k) f = absurd f
    by (string b ∷ k) f = absurd f
strings_complete (b ∷ parts) front rest e f =
    ap (λ (z : List Token). strings_at (z ++ rest)) e ∙ bind_is (strings_at (map string parts ++ rest)) (λ x. Some (b ∷ x.0, x.1)) (parts, rest) (strings_complete parts (map string parts) rest refl f)

abbrev joined : List (List ℕ) → List ℕ
joined parts = flat_map (λ part. part) parts

pub bytes_sound : Sound bytes_at WritesStrings
bytes_sound = made_sound joined strings_at Strings WritesStrings strings_sound (λ parts front h. (parts, refl, h))

pub bytes_complete : Complete bytes_at WritesStrings BeginsClose
bytes_complete bytes front rest (parts, e, h) f = made_is joined (strings_at (front ++ rest)) parts rest (strings_complete parts front rest h f) ∙ ap (λ (z : List ℕ). Some (z, rest)) (sym e)

-- ---- constants

abbrev scope_with : Names → Scope
scope_with names = record { names = names; locals = [] }

module _ (p : Profile) (names : Names) where
  piece_is : (w : List ℕ) (c : OpClass) (t : List Token) (q : Piece) (rest : List Token) → class_named p w ≡ c → class_at (call_use_at p names) p (scope_with names) [] c t ≡ Some (q, rest)
      → piece_at (call_use_at p names) p (scope_with names) [] w t ≡ Some (q, rest)
  unfolding piece_at
  piece_is w c t q rest n e = ap (λ (z : OpClass). class_at (call_use_at p names) p (scope_with names) [] z t) n ∙ e

  -- a constant is the instruction that a body would have there
  number_piece : {X : Type 0} (f : X → Const) (r : Reader X) (w : List ℕ) (kind : Immediates) (t : List Token) (c : Const) (rest : List Token) → class_named p w ≡ class.With kind
      → ((k : List Token) → kind_at (call_use_at p names) p (scope_with names) [] kind k ≡ made (λ x. plain (constant (f x))) (r k)) → made f (r t) ≡ Some (c, rest)
      → piece_at (call_use_at p names) p (scope_with names) [] w t ≡ Some (plain (constant c), rest)
  number_piece {X} f r w kind t c rest n reads e =
      let g = bind_ok (r t) (λ x. Some (f x.0, x.1)) (c, rest) e in
      let is : ◌≡◌ {A = Const × List Token} (f g.0.0, g.0.1) (c, rest) = same_some (f g.0.0, g.0.1) (c, rest) g.2 in
      piece_is w (class.With kind) t (plain (constant c)) rest n
      (reads t ∙ made_is (λ x. plain (constant (f x))) (r t) g.0.0 g.0.1 g.1 ∙ ap (λ (z : Const × List Token). Some (plain (constant z.0), z.1)) is)

  kind_piece : (w : List ℕ) (kind : Immediates) (t : List Token) (c : Const) (rest : List Token) → class_named p w ≡ class.With kind → const_kind names kind t ≡ Some (c, rest)
      → piece_at (call_use_at p names) p (scope_with names) [] w t ≡ Some (plain (constant c), rest)
  kind_piece w k.I32Const t c rest n e = number_piece const.I32 (atom_at (integer_of 32)) w k.I32Const t c rest n (λ k. refl) e
  kind_piece w k.I64Const t c rest n e = number_piece const.I64 (atom_at (integer_of 64)) w k.I64Const t c rest n (λ k. refl) e
  kind_piece w k.F32Const t c rest n e = number_piece const.F32 (atom_at (float_of float.F32)) w k.F32Const t c rest n (λ k. refl) e
  kind_piece w k.F64Const t c rest n e = number_piece const.F64 (atom_at (float_of float.F64)) w k.F64Const t c rest n (λ k. refl) e
  kind_piece w (k.Index indexed.GlobalGet) t c rest n e = number_piece const.Global (atom_at (index_of names.globals)) w (k.Index indexed.GlobalGet) t c rest n (λ k. refl) e
  kind_piece w _ t c rest n e = absurd cc

  class_piece : (w : List ℕ) (o : OpClass) (t : List Token) (c : Const) (rest : List Token) → class_named p w ≡ o → const_class names o t ≡ Some (c, rest)
      → piece_at (call_use_at p names) p (scope_with names) [] w t ≡ Some (plain (constant c), rest)
  class_piece w (class.With kind) t c rest n e = kind_piece w kind t c rest n e
  class_piece w (class.Plain o) t c rest n e = absurd cc
  class_piece w class.Float t c rest n e = absurd cc
  class_piece w class.None t c rest n e = absurd cc

  -- the instruction of a constant of the profile
  abbrev OfInstruction : Const → Form Token
  OfInstruction c k = WritesSimple (scope_with names) [] (constant c) k × HasConst p c

  instruction_sound : Sound (instruction_at p names) OfInstruction
  instruction_sound [] c rest e = absurd cc
  instruction_sound (open_paren ∷ k) c rest e = absurd cc
  instruction_sound (close_paren ∷ k) c rest e = absurd cc
  instruction_sound (string b ∷ k) c rest e = absurd cc
  instruction_sound (atom w ∷ k) c rest e =
      let g = piece_sound (call_use_at p names) (scope_with names) (call_sound p names) p [] w k (plain (constant c)) rest (class_piece w (class_named p w) k c rest refl e) in
      (atom w ∷ g.0, ap (λ (z : List Token). atom w ∷ z) g.1, (g.2.0, g.2.1))

  const_word : (c : Const) (t : List Token) → HasConst p c → instruction_at p names (atom (opcode (constant c)).1 ∷ t) ≡ const_class names (class_of (op.Simple (constant c))) t
  const_word c t of = ap (λ (o : OpClass). const_class names o t) (piece_named p (plain (constant c)) of)

  instruction_complete : HasDistinct names → Complete (instruction_at p names) OfInstruction Any
  instruction_complete d (const.I32 n) front rest ((a, b, e, w, h), of) f =
      ap (λ (z : List Token). instruction_at p names (z ++ rest)) (e ∙ ap (λ (z : List Token). z ++ b) w) ∙ const_word (const.I32 n) (b ++ rest) of
      ∙ made_is const.I32 (atom_at (integer_of 32) (b ++ rest)) n rest (integer_complete 32 n b rest h tt)
  instruction_complete d (const.I64 n) front rest ((a, b, e, w, h), of) f =
      ap (λ (z : List Token). instruction_at p names (z ++ rest)) (e ∙ ap (λ (z : List Token). z ++ b) w) ∙ const_word (const.I64 n) (b ++ rest) of
      ∙ made_is const.I64 (atom_at (integer_of 64) (b ++ rest)) n rest (integer_complete 64 n b rest h tt)
  instruction_complete d (const.F32 n) front rest ((a, b, e, w, h), of) f =
      ap (λ (z : List Token). instruction_at p names (z ++ rest)) (e ∙ ap (λ (z : List Token). z ++ b) w) ∙ const_word (const.F32 n) (b ++ rest) of
      ∙ made_is const.F32 (atom_at (float_of float.F32) (b ++ rest)) n rest (float_complete float.F32 n b rest h tt)
  instruction_complete d (const.F64 n) front rest ((a, b, e, w, h), of) f =
      ap (λ (z : List Token). instruction_at p names (z ++ rest)) (e ∙ ap (λ (z : List Token). z ++ b) w) ∙ const_word (const.F64 n) (b ++ rest) of
      ∙ made_is const.F64 (atom_at (float_of float.F64) (b ++ rest)) n rest (float_complete float.F64 n b rest h tt)
  instruction_complete d (const.Global x) front rest ((a, b, e, w, h), of) f =
      ap (λ (z : List Token). instruction_at p names (z ++ rest)) (e ∙ ap (λ (z : List Token). z ++ b) w) ∙ const_word (const.Global x) (b ++ rest) of
      ∙ made_is const.Global (atom_at (index_of names.globals) (b ++ rest)) x rest (index_complete names.globals d.globals x b rest h tt)

  -- ---- constants and offsets, without parentheses or within them

  abbrev OfFolded : Const → Form Token
  OfFolded c k = WritesFolded names c k × HasConst p c

  folded_from : (c : Const) (f : List Token) → OfInstruction c f → OfFolded c (open_paren ∷ (f ++ close_paren ∷ []))
  folded_from c f ((a, b, e, w, h), of) = (
    (
      open_paren ∷ a,
      b ++ close_paren ∷ [],
      ap (λ (z : List Token). open_paren ∷ z) (ap (λ (z : List Token). z ++ close_paren ∷ []) e ∙ append_assoc a b (close_paren ∷ [])),
      ap (λ (z : List Token). open_paren ∷ z) w,
      (b, close_paren ∷ [], refl, h, refl),
    ),
    of,
  )

  folded_to : (c : Const) (f : List Token) → OfFolded c f → (g : List Token) × (f ≡ open_paren ∷ (g ++ close_paren ∷ [])) × OfInstruction c g
  folded_to c f ((a, b, e, w, (x, y, e2, h, l)), of) = (
    atom (opcode (constant c)).1 ∷ x,
    e ∙ ap (λ (z : List Token). z ++ b) w ∙ ap (λ (z : List Token). open_paren ∷ atom (opcode (constant c)).1 ∷ z) (e2 ∙ ap (λ (z : List Token). x ++ z) l),
    ((atom (opcode (constant c)).1 ∷ [], x, refl, refl, h), of),
  )

  folded_sound : Sound (paren_const_at p names) OfFolded
  folded_sound k c rest e =
      let o = bind_ok (open_at k) _ (c, rest) e in
      let x = bind_ok (instruction_at p names o.0.1) _ (c, rest) o.2 in
      let d = bind_ok (close_at x.0.1) _ (c, rest) x.2 in
      let is : ◌≡◌ {A = Const × List Token} (x.0.0, d.0.1) (c, rest) = same_some (x.0.0, d.0.1) (c, rest) d.2 in
      let one = instruction_sound o.0.1 x.0.0 x.0.1 x.1 in
      let text : k ≡ open_paren ∷ (one.0 ++ close_paren ∷ d.0.1) =
      open_found k o.0 o.1 ∙ ap (λ (z : List Token). open_paren ∷ z) (one.1 ∙ ap (λ (z : List Token). one.0 ++ z) (close_found x.0.1 d.0 d.1)) in
      let whole : k ≡ (open_paren ∷ (one.0 ++ close_paren ∷ [])) ++ d.0.1 = text ∙ ap (λ (z : List Token). open_paren ∷ z) (sym (append_assoc one.0 (close_paren ∷ []) d.0.1)) in (
        open_paren ∷ (one.0 ++ close_paren ∷ []),
        whole ∙ ap (λ (z : Const × List Token). (open_paren ∷ (one.0 ++ close_paren ∷ [])) ++ z.1) is,
        subst (λ (z : Const × List Token). OfFolded z.0 (open_paren ∷ (one.0 ++ close_paren ∷ []))) is (folded_from x.0.0 one.0 one.2),
      )

  folded_complete : HasDistinct names → Complete (paren_const_at p names) OfFolded Any
  folded_complete d c front rest h any =
      let g = folded_to c front h in
      ap (λ (z : List Token). paren_const_at p names (z ++ rest)) g.1 ∙ ap (λ (z : List Token). paren_const_at p names (open_paren ∷ z)) (append_assoc g.0 (close_paren ∷ []) rest)
      ∙ bind_is (instruction_at p names (g.0 ++ close_paren ∷ rest)) _ (c, close_paren ∷ rest) (instruction_complete d c g.0 (close_paren ∷ rest) g.2 tt)

  -- a constant of the profile
  abbrev pub OfConst : Const → Form Token
  OfConst c k = WritesConst names c k × HasConst p c

  pub const_sound : Sound (const_at p names) OfConst
  const_sound k c rest e = elim (chosen (begins_open k) (paren_const_at p names k) (instruction_at p names k) (Some (c, rest)) e) [
    | inl t ↦ (let g = folded_sound k c rest t.1 in (g.0, g.1, (inr g.2.0, g.2.1)))
    | inr t ↦ (let g = instruction_sound k c rest t.1 in (g.0, g.1, (inl g.2.0, g.2.1)))
  ]

  pub const_complete : HasDistinct names → Complete (const_at p names) OfConst Any
  const_complete d c front rest (inl (a, b, e, w, h), of) any =
      cond-false (begins_open (front ++ rest)) _ _ (ap (λ (z : List Token). begins_open (z ++ rest)) (e ∙ ap (λ (z : List Token). z ++ b) w))
      ∙ instruction_complete d c front rest ((a, b, e, w, h), of) tt
  const_complete d c front rest (inr h, of) any =
      cond-true (begins_open (front ++ rest)) _ _ (ap (λ (z : List Token). begins_open (z ++ rest)) (folded_to c front (h, of)).1) ∙ folded_complete d c front rest (h, of) tt

  abbrev pub OfOffset : Const → Form Token
  OfOffset c k = WritesOffset names c k × HasConst p c

  pub offset_sound : Sound (offset_at p names) OfOffset
  offset_sound k c rest e = elim (chosen (begins_group (codes "offset") k) _ (paren_const_at p names k) (Some (c, rest)) e) [
    | inl t ↦ (let g = paren_sound (codes "offset") (const_at p names) OfConst const_sound k c rest t.1 in (g.0, g.1, by g.0 g.2))
    | inr t ↦ (let g = folded_sound k c rest t.1 in (g.0, g.1, (inr g.2.0, g.2.1)))
  ]
    where
      by : (front : List Token) → Paren (codes "offset") (OfConst c) front → OfOffset c front
      by front (a, b, e, w, (x, y, e2, h, l)) = (inl (a, b, e, w, (x, y, e2, h.0, l)), h.1)

  no_offset_word : (c : Const) → same_bytes (opcode (constant c)).1 (codes "offset") ≡ false
  no_offset_word (const.I32 n) = refl
  no_offset_word (const.I64 n) = refl
  no_offset_word (const.F32 n) = refl
  no_offset_word (const.F64 n) = refl
  no_offset_word (const.Global x) = refl

  pub offset_complete : HasDistinct names → Complete (offset_at p names) OfOffset Any
  offset_complete d c front rest (inl (a, b, e, w, (x, y, e2, h, l)), of) any =
      cond-true (begins_group (codes "offset") (front ++ rest)) _ _ (ap (λ (z : List Token). begins_group (codes "offset") (z ++ rest)) (e ∙ ap (λ (z : List Token). z ++ b) w))
      ∙ paren_complete (codes "offset") (const_at p names) OfConst (λ c f r h i. const_complete d c f r h tt) c front rest (a, b, e, w, (x, y, e2, (h, of), l)) tt
  offset_complete d c front rest (inr (a, b, e, w, h), of) any =
      cond-false (begins_group (codes "offset") (front ++ rest)) _ _
      (ap (λ (z : List Token). begins_group (codes "offset") (z ++ rest)) (e ∙ ap (λ (z : List Token). z ++ b) w) ∙ no_offset_word c)
      ∙ folded_complete d c front rest ((a, b, e, w, h), of) tt

  pub offset_opens : (c : Const) (front rest : List Token) → OfOffset c front → begins_open (front ++ rest) ≡ true
  offset_opens c front rest (inl (a, b, e, w, h), of) = ap (λ (z : List Token). begins_open (z ++ rest)) (e ∙ ap (λ (z : List Token). z ++ b) w)
  offset_opens c front rest (inr (a, b, e, w, h), of) = ap (λ (z : List Token). begins_open (z ++ rest)) (e ∙ ap (λ (z : List Token). z ++ b) w)

-- ---- import descriptors

item_found : (a : List ℕ) (x : ExportKind) → item_named a ≡ Some x → a ≡ item_word x
item_found a x e = with_found item_word (kind.Func ∷ kind.Table ∷ kind.Memory ∷ kind.Global ∷ []) a x e

item_more : (x : ExportKind) → item_named (item_word x) ≡ Some x
item_more kind.Func = refl
item_more kind.Table = refl
item_more kind.Memory = refl
item_more kind.Global = refl

abbrev pub desc_space : ImportDesc → ExportKind
desc_space (desc.Func x) = kind.Func
desc_space (desc.Table l) = kind.Table
desc_space (desc.Memory l) = kind.Memory
desc_space (desc.Global g) = kind.Global

-- The type in an import descriptor.
abbrev DescType : Profile → Names → ImportDesc → Form Token
DescType pr names (desc.Func x) = λ k. (ps : List Named) × TypeUse names x ps k
DescType pr names (desc.Table l) = WritesTableType l
DescType pr names (desc.Memory l) = WritesLimits l
DescType pr names (desc.Global g) = OfGlobalType pr g

abbrev OfKind : Profile → Names → ExportKind → ImportDesc → Form Token
OfKind pr names x d k = (desc_space d ≡ x) × DescType pr names d k

-- An import descriptor of the profile.
abbrev pub OfDesc : Profile → Names → Id × ImportDesc → Form Token
OfDesc pr names x k = WritesDesc names x.0 x.1 k × HasDesc pr x.1

to_desc : (pr : Profile) (names : Names) (id : Id) (d : ImportDesc) (x : ExportKind) (k : List Token) → Paren (item_word x) (WritesId id ▸ OfKind pr names x d) k → OfDesc pr names (id, d) k
to_desc pr names id (desc.Func x) kind k (a, b, e, w, (f, c, e2, (g, h, e3, i, (s, (ps, t))), l)) =
    ((ps, (a, b, e, subst (λ (z : ExportKind). a ≡ open_paren ∷ atom (item_word z) ∷ []) (sym s) w, (f, c, e2, (g, h, e3, i, t), l))), tt)
to_desc pr names id (desc.Table d) kind k (a, b, e, w, (f, c, e2, (g, h, e3, i, (s, t)), l)) =
    ((a, b, e, subst (λ (z : ExportKind). a ≡ open_paren ∷ atom (item_word z) ∷ []) (sym s) w, (f, c, e2, (g, h, e3, i, t), l)), tt)
to_desc pr names id (desc.Memory d) kind k (a, b, e, w, (f, c, e2, (g, h, e3, i, (s, t)), l)) =
    ((a, b, e, subst (λ (z : ExportKind). a ≡ open_paren ∷ atom (item_word z) ∷ []) (sym s) w, (f, c, e2, (g, h, e3, i, t), l)), tt)
to_desc pr names id (desc.Global d) kind k (a, b, e, w, (f, c, e2, (g, h, e3, i, (s, t)), l)) =
    ((a, b, e, subst (λ (z : ExportKind). a ≡ open_paren ∷ atom (item_word z) ∷ []) (sym s) w, (f, c, e2, (g, h, e3, i, t.0), l)), t.1)

from_desc : (pr : Profile) (names : Names) (id : Id) (d : ImportDesc) (k : List Token) → OfDesc pr names (id, d) k → Paren (item_word (desc_space d)) (WritesId id ▸ OfKind pr names (desc_space d) d) k
from_desc pr names id (desc.Func x) k ((ps, (a, b, e, w, (f, c, e2, (g, h, e3, i, t), l))), of) = (a, b, e, w, (f, c, e2, (g, h, e3, i, (refl, (ps, t))), l))
from_desc pr names id (desc.Table d) k ((a, b, e, w, (f, c, e2, (g, h, e3, i, t), l)), of) = (a, b, e, w, (f, c, e2, (g, h, e3, i, (refl, t)), l))
from_desc pr names id (desc.Memory d) k ((a, b, e, w, (f, c, e2, (g, h, e3, i, t), l)), of) = (a, b, e, w, (f, c, e2, (g, h, e3, i, (refl, t)), l))
from_desc pr names id (desc.Global d) k ((a, b, e, w, (f, c, e2, (g, h, e3, i, t), l)), of) = (a, b, e, w, (f, c, e2, (g, h, e3, i, (refl, (t, of))), l))

kind_sound : (pr : Profile) (names : Names) (x : ExportKind) → Sound (desc_kind pr names x) (OfKind pr names x)
kind_sound pr names kind.Func =
    made_sound (λ (u : ℕ × List Named). desc.Func u.0) (named_use_at pr names) (λ y. TypeUse names y.0 y.1) (OfKind pr names kind.Func) (uses_are_written pr names) (λ u front h. (refl, (u.1, h)))
kind_sound pr names kind.Table = made_sound desc.Table table_type_at WritesTableType (OfKind pr names kind.Table) table_type_sound (λ u front h. (refl, h))
kind_sound pr names kind.Memory = made_sound desc.Memory limits_at WritesLimits (OfKind pr names kind.Memory) limits_sound (λ u front h. (refl, h))
kind_sound pr names kind.Global = made_sound desc.Global (global_type_at pr) (OfGlobalType pr) (OfKind pr names kind.Global) (global_type_sound pr) (λ u front h. (refl, h))

close_uses : (k : List Token) → BeginsClose k → UseEnds k
close_uses [] f = absurd f
close_uses (open_paren ∷ k) f = absurd f
close_uses (close_paren ∷ k) f = (refl, refl)
close_uses (string b ∷ k) f = absurd f
close_uses (atom a ∷ k) f = absurd f

pub close_number : (k : List Token) → BeginsClose k → NoNumber k
close_number [] f = absurd f
close_number (open_paren ∷ k) f = absurd f
close_number (close_paren ∷ k) f = tt
close_number (string b ∷ k) f = absurd f
close_number (atom a ∷ k) f = absurd f

kind_complete : (pr : Profile) (names : Names) → HasDistinct names → KnowsTypes pr names → (d : ImportDesc) (front rest : List Token) → DescType pr names d front → BeginsClose rest → desc_kind pr names (desc_space d) (front ++ rest) ≡ Some (d, rest)
kind_complete pr names n knows (desc.Func x) front rest (ps, h) f =
    made_is (λ (u : ℕ × List Named). desc.Func u.0) (named_use_at pr names (front ++ rest)) (x, ps) rest (uses_are_read pr names n.types knows (x, ps) front rest h (close_uses rest f))
kind_complete pr names n knows (desc.Table l) front rest h f = made_is desc.Table (table_type_at (front ++ rest)) l rest (table_type_complete l front rest h tt)
kind_complete pr names n knows (desc.Memory l) front rest h f = made_is desc.Memory (limits_at (front ++ rest)) l rest (limits_complete l front rest h (close_number rest f))
kind_complete pr names n knows (desc.Global g) front rest h f = made_is desc.Global (global_type_at pr (front ++ rest)) g rest (global_type_complete pr g front rest h tt)

-- The tokens that may follow an optional identifier begin with none.
pub number_not_id : (front rest : List Token) (l : Limits) → WritesLimits l front → NotId (front ++ rest)
number_not_id front rest l (a, b, e, (c, i, u), m) =
    subst (λ (z : List Token). NotId (z ++ rest)) (sym (e ∙ ap (λ (z : List Token). z ++ b) i)) (number_no_id l.min c (magnitude_more l.min c u.1))

pub table_not_id : (front rest : List Token) (l : Limits) → WritesTableType l front → NotId (front ++ rest)
table_not_id front rest l (a, b, e, h, w) = subst NotId (sym (ap (λ (z : List Token). z ++ rest) e ∙ append_assoc a b rest)) (number_not_id a (b ++ rest) l h)

pub type_not_id : (var : Bool) (t : ValType) (front rest : List Token) → WritesGlobalType var t front → NotId (front ++ rest)
type_not_id false I32 front rest h = subst (λ (z : List Token). NotId (z ++ rest)) (sym h) refl
type_not_id false I64 front rest h = subst (λ (z : List Token). NotId (z ++ rest)) (sym h) refl
type_not_id false F32 front rest h = subst (λ (z : List Token). NotId (z ++ rest)) (sym h) refl
type_not_id false F64 front rest h = subst (λ (z : List Token). NotId (z ++ rest)) (sym h) refl
type_not_id true t front rest (a, b, e, w, m) = subst (λ (z : List Token). NotId (z ++ rest)) (sym (e ∙ ap (λ (z : List Token). z ++ b) w)) tt

pub use_not_id : (names : Names) (x : ℕ) (ps : List Named) (front rest : List Token) → TypeUse names x ps front → NotId (front ++ rest)
use_not_id names x ps front rest (f, qs, rs, look, (a, b, e, (c, d, e2, w, m), h), which) =
    subst (λ (z : List Token). NotId (z ++ rest)) (sym (e ∙ ap (λ (z : List Token). z ++ b) (e2 ∙ ap (λ (z : List Token). z ++ d) w))) tt

desc_not_id : (pr : Profile) (names : Names) (d : ImportDesc) (front rest : List Token) → DescType pr names d front → NotId (front ++ rest)
desc_not_id pr names (desc.Func x) front rest (ps, h) = use_not_id names x ps front rest h
desc_not_id pr names (desc.Table l) front rest h = table_not_id front rest l h
desc_not_id pr names (desc.Memory l) front rest h = number_not_id front rest l h
desc_not_id pr names (desc.Global g) front rest h = type_not_id g.var g.ty front rest h.0

pub desc_sound : (pr : Profile) (names : Names) → Sound (desc_at pr names) (OfDesc pr names)
desc_sound pr names k x rest e =
    let g = headed_sound item_named item_word (λ kind. then_at id_at (desc_kind pr names kind)) (λ kind. Both WritesId (OfKind pr names kind)) item_found
    (λ kind. then_sound id_at (desc_kind pr names kind) WritesId (OfKind pr names kind) id_sound (kind_sound pr names kind)) k x rest e in
    (g.0, g.1, to_desc pr names x.0 x.1 g.2.0 g.0 g.2.1)

pub desc_complete : (pr : Profile) (names : Names) → HasDistinct names → KnowsTypes pr names → Complete (desc_at pr names) (OfDesc pr names) Any
desc_complete pr names n knows (id, d) front rest h f =
    headed_complete item_named item_word (λ kind. then_at id_at (desc_kind pr names kind)) (Both WritesId (OfKind pr names (desc_space d))) (desc_space d) (item_more (desc_space d))
    (then_complete id_at (desc_kind pr names (desc_space d)) WritesId (OfKind pr names (desc_space d)) NotId BeginsClose id_complete
    (λ y a b w g. ap (λ (z : ExportKind). desc_kind pr names z (a ++ b)) (sym w.0) ∙ kind_complete pr names n knows y a b w.1 g) (λ y a b w g. desc_not_id pr names y a b w.1))
    (id, d) front rest (from_desc pr names id d front h)

-- ---- export descriptors

abbrev WritesPlace : Names → ExportKind × ℕ → Form Token
WritesPlace names x = WritesExport names x.0 x.1

distinct_in : (names : Names) → HasDistinct names → (x : ExportKind) → AreDistinct (space_of names x)
distinct_in names n kind.Func = n.functions
distinct_in names n kind.Table = n.tables
distinct_in names n kind.Memory = n.memories
distinct_in names n kind.Global = n.globals

to_place : (names : Names) (x : ExportKind) (i : ℕ) (k : List Token) → Paren (item_word x) (Resolves (space_of names x) i) k → WritesExport names x i k
to_place names kind.Func i k h = h
to_place names kind.Table i k h = h
to_place names kind.Memory i k h = h
to_place names kind.Global i k h = h

from_place : (names : Names) (x : ExportKind) (i : ℕ) (k : List Token) → WritesExport names x i k → Paren (item_word x) (Resolves (space_of names x) i) k
from_place names kind.Func i k h = h
from_place names kind.Table i k h = h
from_place names kind.Memory i k h = h
from_place names kind.Global i k h = h

abbrev Place : Names → ExportKind → ExportKind × ℕ → Form Token
Place names x y k = (y.0 ≡ x) × Resolves (space_of names x) y.1 k

abbrev place_at : Names → ExportKind → Reader (ExportKind × ℕ)
place_at names kind t = made (λ x. (kind, x)) (atom_at (index_of (space_of names kind)) t)

place_paren : (names : Names) (x : ExportKind) (y : ExportKind × ℕ) (k : List Token) → Paren (item_word x) (Place names x y) k → WritesExport names y.0 y.1 k
place_paren names x y k (a, b, e, w, (f, c, e2, (s, r), l)) =
    subst (λ (z : ExportKind). WritesExport names z y.1 k) (sym s) (to_place names x y.1 k (a, b, e, w, (f, c, e2, r, l)))

paren_place : (names : Names) (x : ExportKind) (i : ℕ) (k : List Token) → Paren (item_word x) (Resolves (space_of names x) i) k → Paren (item_word x) (Place names x (x, i)) k
paren_place names x i k (a, b, e, w, (f, c, e2, r, l)) = (a, b, e, w, (f, c, e2, (refl, r), l))

pub item_sound : (names : Names) → Sound (item_at names) (WritesPlace names)
item_sound names k x rest e =
    let g = headed_sound item_named item_word (place_at names) (Place names) item_found
    (λ kind. made_sound (λ x. (kind, x)) (atom_at (index_of (space_of names kind))) (Resolves (space_of names kind)) (Place names kind) (index_sound (space_of names kind)) (λ i front h. (refl, h))) k x rest e in
    (g.0, g.1, place_paren names g.2.0 x g.0 g.2.1)

pub item_complete : (names : Names) → HasDistinct names → Complete (item_at names) (WritesPlace names) Any
item_complete names n (x, i) front rest h f =
    headed_complete item_named item_word (place_at names) (Place names x) x (item_more x)
    (λ y a b w g. made_is (λ j. (x, j)) (atom_at (index_of (space_of names x)) (a ++ b)) y.1 b (index_complete (space_of names x) (distinct_in names n x) y.1 a b w.1 tt)
    ∙ ap (λ (z : ExportKind). Some ((z, y.1), b)) (sym w.0))
    (x, i) front rest (paren_place names x i front (from_place names x i front h))

-- ---- functions of an element segment

each_index : (ids : Ids) (xs : List ℕ) (k : List Token) → Each (ResolvesLabel ids) xs k → Each (Resolves ids) xs k
each_index ids [] k h = h
each_index ids (x ∷ xs) k (a, b, e, h, more) = (a, b, e, one h, each_index ids xs b more)
  where
    one : ResolvesLabel ids x a → Resolves ids x a
    one (w, is, (lt, inl u)) = (w, is, (lt, inl u))
    one (w, is, (lt, inr (i, s, n))) = (w, is, (lt, inr (i, s)))

each_label : (ids : Ids) → AreDistinct ids → (xs : List ℕ) (k : List Token) → Each (Resolves ids) xs k → Each (ResolvesLabel ids) xs k
each_label ids d [] k h = h
each_label ids d (x ∷ xs) k (a, b, e, h, more) = (a, b, e, one h, each_label ids d xs b more)
  where
    one : Resolves ids x a → ResolvesLabel ids x a
    one (w, is, (lt, inl u)) = (w, is, (lt, inl u))
    one (w, is, (lt, inr (i, s))) = (w, is, (lt, inr (i, s, distinct_nearest ids w x d s)))

pub indices_sound : (ids : Ids) → Sound (labels_at ids) (Each (Resolves ids))
indices_sound ids k xs rest e = let g = labels_sound ids k xs rest e in (g.0, g.1, each_index ids xs g.0 g.2)

close_not_index : (k : List Token) → BeginsClose k → NotIndex k
close_not_index [] f = absurd f
close_not_index (open_paren ∷ k) f = absurd f
close_not_index (close_paren ∷ k) f = refl
close_not_index (string b ∷ k) f = absurd f
close_not_index (atom a ∷ k) f = absurd f

pub indices_complete : (ids : Ids) → AreDistinct ids → Complete (labels_at ids) (Each (Resolves ids)) BeginsClose
indices_complete ids d xs front rest h f = labels_complete ids xs front rest (each_label ids d xs front h) (close_not_index rest f)
