-- The types of tables, memories and globals are read exactly as tokens write them.
use Rattle.std.proofs.Common.{◌≡◌, ℕ, Bool, true, false, ◌||◌, List, [], ◌∷◌, ◌++◌, Option, Some, None, refl, sym, ap, subst, ◌∙◌, inl, inr}
use Rattle.std.specs.Prelude.{codes}
use Rattle.std.proofs.lemmas.Bool.{cond-false, cond-true}
use Rattle.wm_syntax.specs.Spelling.{Form}
use Rattle.wm_syntax.specs.declared.types.GlobalType.{GlobalType}
use Rattle.wm_syntax.specs.declared.types.ValType.{ValType}
use Rattle.wm_syntax.specs.declared.profile.Profile.{Profile}
use Rattle.wm_syntax.specs.Profiles.{HasType}
use Rattle.wm_tokens.specs.Tokens.{Token, open_paren, close_paren, string, atom, IsUnsigned}
use Rattle.wm_tokens.specs.Fields.{WritesGlobalType, WritesLimits, WritesMax, WritesTableType}
use Rattle.wm_syntax.specs.Types.{type_text}
use Rattle.wm_tokens.specs.Written.{UnsignedNumber, Paren, Keyword}
use Rattle.wm_read.specs.exact.FieldTypes.{const_type, global_type_at, limits_at, limits_of, max_at, table_type_at, var_type}
use Rattle.wm_bodies.specs.exact.Reading.{◌>>=◌, atom_at, is_id, is_word, paren_at, then_at, type_of, unsigned_of, word_of}
use Rattle.wm_tokens.proofs.Basics.{chosen, same_some}
use Rattle.wm_bodies.proofs.Immediates.{OfType, number_not_word, type_complete, type_sound}
use Rattle.wm_bodies.proofs.Indices.{number_complete, number_not_id, number_sound, unsigned_found, unsigned_more}
use Rattle.wm_bodies.proofs.Readers.{Sound, Complete, Any, Both, bind_is, bind_ok, made_is, made_sound, paren_complete, paren_sound, then_complete, then_sound, word_found, word_is}

-- ---- limits

no_number : (n : ℕ) (a : List ℕ) → IsUnsigned 32 n a → (is_word a || is_id a) ≡ false
no_number n a u = by (unsigned_more a n u)
  where
    by : unsigned_of a ≡ Some n → (is_word a || is_id a) ≡ false
    by e = let g = bind_ok _ _ n e in ap (λ (z : Bool). z || is_id a) (number_not_word g.0 a g.1) ∙ number_not_id g.0 a g.1

-- no number follows
abbrev pub NoNumber : List Token → Type 0
NoNumber (atom a ∷ k) = (is_word a || is_id a) ≡ true
NoNumber _ = Unit {0}

none_max : (k : List Token) (m : Option ℕ) (rest : List Token) → ◌≡◌ {A = Option (Option ℕ × List Token)} (Some (None, k)) (Some (m, rest)) → (front : List Token) × (k ≡ front ++ rest) × WritesMax m front
none_max k m rest e = let p = same_some (None, k) (m, rest) e in ([], ap (λ (z : Option ℕ × List Token). z.1) p, subst (λ (z : Option ℕ × List Token). WritesMax z.0 []) p refl)

max_sound : Sound max_at WritesMax
max_sound [] m rest e = none_max [] m rest e
max_sound (open_paren ∷ k) m rest e = none_max (open_paren ∷ k) m rest e
max_sound (close_paren ∷ k) m rest e = none_max (close_paren ∷ k) m rest e
max_sound (string b ∷ k) m rest e = none_max (string b ∷ k) m rest e
max_sound (atom a ∷ k) m rest e = elim (chosen (is_word a || is_id a) (Some (None, atom a ∷ k)) (◌>>=◌ {B = Option ℕ × List Token} (unsigned_of a) (λ n. Some (Some n, k))) (Some (m, rest)) e) [
  | inl p ↦ none_max (atom a ∷ k) m rest p.1
  | inr p ↦ (
      let g = bind_ok (unsigned_of a) (λ n. Some (Some n, k)) (m, rest) p.1 in
      let is : ◌≡◌ {A = Option ℕ × List Token} (Some g.0, k) (m, rest) = same_some (Some g.0, k) (m, rest) g.2 in
      (atom a ∷ [], ap (λ (z : Option ℕ × List Token). atom a ∷ z.1) is, subst (λ (z : Option ℕ × List Token). WritesMax z.0 (atom a ∷ [])) is (a, refl, unsigned_found a g.0 g.1)))
]

max_complete : Complete max_at WritesMax NoNumber
max_complete None front rest e f = ap (λ (z : List Token). max_at (z ++ rest)) e ∙ by rest f
  where
    by : (k : List Token) → NoNumber k → max_at k ≡ Some (None, k)
    by [] f = refl
    by (open_paren ∷ k) f = refl
    by (close_paren ∷ k) f = refl
    by (string b ∷ k) f = refl
    by (atom a ∷ k) f = cond-true (is_word a || is_id a) _ _ f
max_complete (Some n) front rest (a, e, u) f =
    ap (λ (z : List Token). max_at (z ++ rest)) e ∙ cond-false (is_word a || is_id a) _ _ (no_number n a u) ∙ bind_is (unsigned_of a) (λ n. Some (Some n, rest)) n (unsigned_more a n u)

pub limits_sound : Sound limits_at WritesLimits
limits_sound = made_sound limits_of (then_at (atom_at unsigned_of) max_at) (Both UnsignedNumber WritesMax) WritesLimits (then_sound (atom_at unsigned_of) max_at UnsignedNumber WritesMax number_sound max_sound) (λ x front h. h)

pub limits_complete : Complete limits_at WritesLimits NoNumber
limits_complete l front rest h f =
    made_is limits_of (then_at (atom_at unsigned_of) max_at (front ++ rest)) (l.min, l.max) rest
    (then_complete (atom_at unsigned_of) max_at UnsignedNumber WritesMax Any NoNumber number_complete max_complete (λ m g r i j. tt) (l.min, l.max) front rest h f)

-- ---- global types

-- a global type, whose value type is of the profile
abbrev pub OfGlobalType : Profile → GlobalType → Form Token
OfGlobalType pr g k = WritesGlobalType g.var g.ty k × HasType pr g.ty

mut_sound : (pr : Profile) → Sound (paren_at (codes "mut") (atom_at (type_of pr))) (λ t. Paren (codes "mut") (OfType pr t))
mut_sound pr = paren_sound (codes "mut") (atom_at (type_of pr)) (OfType pr) (type_sound pr)

var_from : (pr : Profile) (t : ValType) (front : List Token) → Paren (codes "mut") (OfType pr t) front → OfGlobalType pr (var_type t) front
var_from pr t front (a, b, e, is, (c, d, e2, w, last)) = ((a, b, e, is, (c, d, e2, w.0, last)), w.1)

const_sound : (pr : Profile) → Sound (λ k. atom_at (type_of pr) k >>= λ t. Some (const_type t.0, t.1)) (OfGlobalType pr)
const_sound pr = made_sound const_type (atom_at (type_of pr)) (OfType pr) (OfGlobalType pr) (type_sound pr) (λ t front h. h)

pub global_type_sound : (pr : Profile) → Sound (global_type_at pr) (OfGlobalType pr)
global_type_sound pr [] g rest e = const_sound pr [] g rest e
global_type_sound pr (close_paren ∷ k) g rest e = const_sound pr (close_paren ∷ k) g rest e
global_type_sound pr (string b ∷ k) g rest e = const_sound pr (string b ∷ k) g rest e
global_type_sound pr (atom a ∷ k) g rest e = const_sound pr (atom a ∷ k) g rest e
global_type_sound pr (open_paren ∷ k) g rest e =
    made_sound var_type (paren_at (codes "mut") (atom_at (type_of pr))) (λ t. Paren (codes "mut") (OfType pr t)) (OfGlobalType pr) (mut_sound pr) (var_from pr) (open_paren ∷ k) g rest e

pub global_type_complete : (pr : Profile) → Complete (global_type_at pr) (OfGlobalType pr) Any
global_type_complete pr g front rest h f = by g.var g.ty h.0 h.1
  where
    by : (var : Bool) (t : ValType) → WritesGlobalType var t front → HasType pr t → global_type_at pr (front ++ rest) ≡ Some (record { ty = t; var = var }, rest)
    by false t e of = ap (λ (z : List Token). global_type_at pr (z ++ rest)) e ∙ made_is const_type (atom_at (type_of pr) (atom (type_text t) ∷ rest)) t rest (type_complete pr t (atom (type_text t) ∷ []) rest (refl, of) tt)
    by true t (a, b, e, is, (c, d, e2, w, last)) of =
        let text : front ++ rest ≡ open_paren ∷ atom (codes "mut") ∷ (b ++ rest) = ap (λ (z : List Token). z ++ rest) (e ∙ ap (λ (z : List Token). z ++ b) is) in
        ap (global_type_at pr) text
        ∙ made_is var_type (paren_at (codes "mut") (atom_at (type_of pr)) (open_paren ∷ atom (codes "mut") ∷ (b ++ rest))) t rest
        (ap (paren_at (codes "mut") (atom_at (type_of pr))) (sym text)
        ∙ paren_complete (codes "mut") (atom_at (type_of pr)) (OfType pr) (λ u x r w i. type_complete pr u x r w tt) t front rest (a, b, e, is, (c, d, e2, (w, of), last)) tt)

-- ---- table types

word_sound : (w : List ℕ) → Sound (atom_at (word_of w)) (λ u. Keyword w)
word_sound w k u rest e = (atom w ∷ [], word_found w k (u, rest) e, refl)

word_complete : (w : List ℕ) → Complete (atom_at (word_of w)) (λ u. Keyword w) Any
word_complete w u front rest h f = ap (λ (z : List Token). atom_at (word_of w) (z ++ rest)) h ∙ word_is w rest

pub table_type_sound : Sound table_type_at WritesTableType
table_type_sound =
    made_sound (λ x. x.0) (then_at limits_at (atom_at (word_of (codes "funcref")))) (Both WritesLimits (λ u. Keyword (codes "funcref"))) WritesTableType
    (then_sound limits_at (atom_at (word_of (codes "funcref"))) WritesLimits (λ u. Keyword (codes "funcref")) limits_sound (word_sound (codes "funcref"))) (λ x front h. h)

pub table_type_complete : Complete table_type_at WritesTableType Any
table_type_complete l front rest h f =
    made_is (λ x. x.0) (then_at limits_at (atom_at (word_of (codes "funcref"))) (front ++ rest)) (l, tt) rest
    (then_complete limits_at (atom_at (word_of (codes "funcref"))) WritesLimits (λ u. Keyword (codes "funcref")) NoNumber Any limits_complete (word_complete (codes "funcref"))
    (λ u g r w i. subst (λ (z : List Token). NoNumber (z ++ r)) (sym w) refl) (l, tt) front rest h f)
