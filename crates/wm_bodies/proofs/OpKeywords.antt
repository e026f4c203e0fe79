-- The name of a byte names the instruction that the byte begins.
use Rattle.std.proofs.Common.{◌≡◌, ℕ, zero, suc, ◌<◌, List, [], ◌∷◌, length, Some, refl, sym, ap, ◌∙◌, arith, slice_get}
use Rattle.std.specs.Prelude.{map, slice_index_or}
use Rattle.wm_syntax.specs.declared.instructions.op_class.OpClass.{OpClass}
use Rattle.wm_syntax.specs.declared.profile.Profile.{Profile}
use Rattle.wm_syntax.specs.exact.ByteTable.{classes, row_in, class_under}
use Rattle.wm_syntax.specs.exact.NameTable.{names, class_name, name_or_none, first_named, class_named}

abbrev name_of : OpClass → List ℕ
name_of c = name_or_none (class_name c)

-- Each class of the table is the one that its name names. A byte without a name begins nothing.
same_classes : map (λ c. first_named classes (name_of c)) classes ≡ classes
same_classes = refl

named_in : (cs : List OpClass) (i : ℕ) (w : List ℕ) → i < length cs → slice_index_or (map name_of cs) i [] ≡ w
    → slice_get (map (λ c. first_named classes (name_of c)) cs) i ≡ Some (first_named classes w)
named_in [] i w lt e = absurd (omega (arith, lt))
named_in (c ∷ cs) zero w lt e = ap (λ (z : List ℕ). Some (first_named classes z)) e
named_in (c ∷ cs) (suc i) w lt e = named_in cs i w (omega (arith, lt)) e

-- a word that is the name of a byte
pub word_named : (p : Profile) (w name : List ℕ) (byte : ℕ) → byte < 256 → name ≡ slice_index_or names byte [] → name ≡ w → class_under p byte ≡ class_named p w
unfolding class_under class_named
word_named p w name byte lt n e =
    ap (λ (cs : List OpClass). row_in p (slice_get cs byte)) (sym same_classes) ∙ ap (row_in p) (named_in classes byte w (omega (arith, lt)) (sym n ∙ e))
