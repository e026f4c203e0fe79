-- Lists of names of files.
use Rattle.std.specs.Prelude.{◌==◌, ℕ, List, [], ◌∷◌, if◌then◌else◌}
use Rattle.wm_command.specs.declared.arguments.Ending.{Ending}
use Rattle.wm_command.specs.declared.arguments.Ending.TheVariants as ends

-- The byte that ends each name.
abbrev pub ending_byte : Ending → ℕ
ending_byte ends.Line = 10
ending_byte ends.Zero = 0

-- The names with this byte before the first one.
abbrev pub with_front : ℕ → List (List ℕ) → List (List ℕ)
with_front byte [] = (byte ∷ []) ∷ []
with_front byte (name ∷ names) = (byte ∷ name) ∷ names

-- The names in a list. This byte ends each name. It may be missing after the last one.
abbrev pub names_in : ℕ → List ℕ → List (List ℕ)
names_in end [] = []
names_in end (byte ∷ bytes) = if byte == end then [] ∷ names_in end bytes else with_front byte (names_in end bytes)
