-- The kinds of operands in words of 64 bits, two bits each: 0 is I32, 1 is I64, 2 is Unknown and 3 is Float.
-- In a word the topmost operand has the lowest place.
use Rattle.std.specs.Prelude.{ℕ, zero, suc, ◌/◌, ◌%◌, ◌==◌, if◌then◌else◌}
use Rattle.std.specs.Prelude.{◌≡◌, ◌≤◌, List, [], ◌∷◌, ◌++◌, Option, length, option_to_list}
use Rattle.wm_stacks.specs.declared.words.Kind.{Kind}
use Rattle.wm_stacks.specs.declared.words.Kind.TheVariants.{I32, I64, Unknown, Float}

abbrev pub code_of : Kind → ℕ
code_of I32 = 0
code_of I64 = 1
code_of Unknown = 2
code_of Float = 3

-- The kind with this code.
abbrev pub kind_of_code : ℕ → Kind
kind_of_code c = if c == 0 then I32 else if c == 1 then I64 else if c == 2 then Unknown else Float

-- The kinds in the lowest n places of a word, the lowest place first.
abbrev pub kinds_of_word : ℕ → ℕ → List Kind
kinds_of_word zero word = []
kinds_of_word (suc n) word = kind_of_code (word % 4) ∷ kinds_of_word n (word / 4)

-- The kinds in full words, the topmost kind first. The last word has the topmost operands.
abbrev pub kinds_under : List ℕ → List Kind
kinds_under [] = []
kinds_under (w ∷ ws) = kinds_under ws ++ kinds_of_word 32 w

-- The n kinds in the current word, and those in the words below it.
abbrev pub kinds_in : List ℕ → ℕ → ℕ → List Kind
kinds_in words current n = kinds_of_word n current ++ kinds_under words

-- The kinds of a body's operands, the topmost first, and the floor of its innermost frame.
pub record Kinds : Type 0 where
  pub kinds : List Kind
  pub floor : ℕ

abbrev pub PushesKind : Kind → Kinds → Kinds → Type 0
PushesKind k s z = z ≡ record { kinds = k ∷ s.kinds; floor = s.floor }

-- These kinds are removed above the floor, the topmost first, and the given one is pushed, if any.
abbrev pub ReplacesKinds : List Kind → Option Kind → Kinds → Kinds → Type 0
ReplacesKinds taken given s z =
    (ks : List Kind) × (s.kinds ≡ taken ++ ks) × (s.floor ≤ length ks)
    × (z ≡ record { kinds = option_to_list given ++ ks; floor = s.floor })
