-- The types of locals as maximal runs of one type (Core spec 5.5.13).
use Rattle.std.specs.Prelude.{ℕ, ◌+◌, ◌==◌, Bool, List, [], ◌∷◌, length, if◌then◌else◌}
use Rattle.wm_syntax.specs.declared.types.ValType.{ValType}
use Rattle.wm_syntax.specs.Types.{type_byte}

-- Whether two value types are the same. Each has a byte of its own (Core spec 5.3.1).
abbrev pub same : ValType → ValType → Bool
same t u = type_byte t == type_byte u

-- The end of each maximal run, as the number of types up to it. Before the list come n types, the last of
-- them t.
abbrev pub ends_from : ValType → ℕ → List ValType → List ℕ
ends_from t n [] = n ∷ []
ends_from t n (u ∷ us) = if same t u then ends_from u (n + 1) us else n ∷ ends_from u (n + 1) us

abbrev pub run_ends : List ValType → List ℕ
run_ends [] = []
run_ends (t ∷ ts) = ends_from t 1 ts

-- The number of maximal runs.
abbrev pub run_count : List ValType → ℕ
run_count ts = length (run_ends ts)

-- Puts one type before maximal runs. It joins the first run if that has the same type, else it is a new run.
abbrev pub type_before : ValType → List (ℕ × ValType) → List (ℕ × ValType)
type_before t [] = (1, t) ∷ []
type_before t ((n, u) ∷ runs) = if same t u then (n + 1, t) ∷ runs else (1, t) ∷ (n, u) ∷ runs

-- The maximal runs of a list of types, each given by its length and its type.
abbrev pub runs_of : List ValType → List (ℕ × ValType)
runs_of [] = []
runs_of (t ∷ ts) = type_before t (runs_of ts)
