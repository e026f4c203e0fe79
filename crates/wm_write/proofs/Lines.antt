-- Text that is appended to a line.
use Rattle.std.proofs.Common.{◌≡◌, ℕ, zero, suc, ◌≤◌, Bool, true, List, [], ◌∷◌, ◌++◌, length, refl, sym, ap, ◌∙◌, append_assoc, arith, get_or, Some}
use Rattle.std.specs.Prelude.{nat_le}
use Rattle.std.specs.List.{list_all}
use Rattle.std.proofs.lemmas.Bool.Decides.{nat_tests}
use Rattle.wm_syntax.specs.declared.instructions.Op.{Op}
use Rattle.wm_syntax.specs.declared.instructions.Op.TheVariants as op
use Rattle.wm_syntax.specs.declared.instructions.Simple.{Simple}
use Rattle.wm_syntax.specs.declared.types.Const.{Const}
use Rattle.wm_syntax.specs.exact.NameTable.{names}
use Rattle.wm_syntax.specs.Modules.{constant}
use Rattle.wm_syntax.specs.Opcodes.{opcode}
use Rattle.wm_syntax.specs.OpNames.{op_name}
use Rattle.wm_write.specs.Layout.{const_words, immediate_words, op_words, spaced, words_text}

-- a name has at most nineteen bytes
abbrev is_short : List ℕ → Bool
is_short name = nat_le (length name) 19

all_short : list_all is_short names ≡ true
all_short = refl

short_in : (xs : List (List ℕ)) (i : ℕ) → list_all is_short xs ≡ true → length (get_or xs i []) ≤ 19
short_in [] i h = omega arith
short_in (x ∷ xs) zero h = grind (arith, nat_tests)
short_in (x ∷ xs) (suc i) h = short_in xs i (grind (arith, nat_tests))

pub short_name : (byte : ℕ) → length (get_or names byte []) ≤ 19
short_name byte = short_in names byte all_short

-- a constant expression
pub const_line : (c : Const) (i : Simple) (name l0 l1 l2 l3 : List ℕ) → i ≡ constant c → op_name (op.Simple i) ≡ Some name → l0 ≡ [] → l1 ≡ l0 ++ 32 ∷ []
    → l2 ≡ l1 ++ name → l3 ≡ l2 ++ words_text (immediate_words i) → l3 ≡ words_text (const_words c)
const_line c i name l0 l1 l2 l3 is named none space then rest =
    let e1 : l1 ≡ 32 ∷ [] = space ∙ ap (λ (z : List ℕ). z ++ 32 ∷ []) none in
    let e2 : l2 ≡ 32 ∷ name = then ∙ ap (λ (z : List ℕ). z ++ name) e1 in
    let e3 : l3 ≡ 32 ∷ (name ++ words_text (immediate_words i)) = rest ∙ ap (λ (z : List ℕ). z ++ words_text (immediate_words i)) e2 in
    let same : name ≡ (opcode i).1 = cc named in
    e3 ∙ (ap (λ (z : List ℕ). 32 ∷ (z ++ words_text (immediate_words i))) same ∙ ap (λ (z : Simple). words_text (spaced (opcode z).1 ∷ immediate_words z)) is)

-- An op whose text is appended to a line.
pub op_line : (o p : Op) (line new text : List ℕ) → o ≡ p → new ≡ line ++ text → text ≡ words_text (op_words p) → new ≡ line ++ words_text (op_words o)
op_line o p line new text same put e = put ∙ ap (λ (z : List ℕ). line ++ z) (e ∙ ap (λ (z : Op). words_text (op_words z)) (sym same))

-- An op whose text is appended in two parts.
pub op_line_in_two : (o p : Op) (line then new name rest : List ℕ) → o ≡ p → then ≡ line ++ name → new ≡ then ++ rest → name ++ rest ≡ words_text (op_words p)
    → new ≡ line ++ words_text (op_words o)
op_line_in_two o p line then new name rest same one two e =
    op_line o p line new (name ++ rest) same (two ∙ (ap (λ (z : List ℕ). z ++ rest) one ∙ append_assoc line name rest)) e
