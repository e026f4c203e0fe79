-- A list of runs, each given by its end, and the types that it holds.
use Rattle.std.specs.Prelude.{ℕ, zero, suc, ◌-◌, ◌^◌, ◌<◌, ◌≡◌, List, [], ◌∷◌, ◌++◌, Option, Some, replicate}
use Rattle.wm_syntax.specs.declared.types.ValType.{ValType}
use Rattle.wm_syntax.specs.declared.modules.locals.Run.{Run}

-- The types in a list of runs, each given by its end, after `start` types.
abbrev pub types_in : ℕ → List Run → List ValType
types_in start [] = []
types_in start (r ∷ rs) = replicate (r.end - start) r.ty ++ types_in r.end rs

-- No run is empty, none follows one of its own type, and the ends are below 2 ^ 32. Before them come `start`
-- types, the last of them `before`.
abbrev pub AreRuns : Option ValType → ℕ → List Run → Type 0
AreRuns before start [] = Unit {0}
AreRuns before start (r ∷ rs) =
    (start < r.end) × (r.end < 2 ^ 32) × (before ≡ Some r.ty → ⊥) × AreRuns (Some r.ty) r.end rs

-- The end and the type of the last run, or those from before all runs if there is none.
abbrev pub last_end : ℕ → List Run → ℕ
last_end start [] = start
last_end start (r ∷ rs) = last_end r.end rs

abbrev pub last_type : Option ValType → List Run → Option ValType
last_type before [] = before
last_type before (r ∷ rs) = last_type (Some r.ty) rs

-- How many types precede the run with this index, `start` of them before all runs.
abbrev pub start_at : ℕ → List Run → ℕ → ℕ
start_at start [] i = start
start_at start (r ∷ rs) zero = start
start_at start (r ∷ rs) (suc i) = start_at r.end rs i
