-- The answers and the status of a run over several files.
use Rattle.std.specs.Prelude.{◌≡◌, ◌≢◌, ◌⊎◌, ◌==◌, ◌-◌, ℕ, List, [], ◌∷◌, ◌++◌, Option, Some, IfSome, ⊤, codes}
use Rattle.std.specs.Prelude.{false, fold, if◌then◌else◌, length, map, nat_lt, option_map, take}
use Rattle.std.specs.Char.{is_control}
use Rattle.std.specs.List.{list_any}
use Rattle.std.specs.Str.{chars}
use Rattle.wm_command.specs.Codes.{exit_status}
use Rattle.wm_command.specs.Lines.{path_of}
use Rattle.wm_command.specs.Lists.{ending_byte, names_in}
use Rattle.wm_command.specs.Outcome.{IsRightFor}
use Rattle.wm_command.specs.declared.arguments.Inputs.{Inputs}
use Rattle.wm_command.specs.declared.arguments.Inputs.TheVariants as named
use Rattle.wm_command.specs.declared.arguments.Line.{Line}
use Rattle.wm_command.specs.declared.status.Status.{Status}
use Rattle.wm_command.specs.declared.status.Status.TheVariants.{Done, Io, Memory}

-- ---- answers

-- A space for a line feed, and any other byte for itself.
abbrev pub spaced : ℕ → ℕ
spaced byte = if byte == 10 then 32 else byte

-- The text as one line: each line feed but that at the end is a space.
abbrev pub one_line : List ℕ → List ℕ
one_line text = map spaced (take (length text - 1) text) ++ 10 ∷ []

-- The name of a file is shown like this. A name without control characters is shown as it is. How others are escaped is
-- not stated.
abbrev pub IsShown : List ℕ → List ℕ → Type 0
IsShown name shown = list_any is_control (chars name) ≡ false → shown ≡ name

-- The line of one of several files: the name as it is shown, `: ` and the answer as one line.
abbrev pub line_for : List ℕ → List ℕ → List ℕ
line_for shown text = shown ++ (codes ": " ++ one_line text)

-- ---- statuses

-- The status is right for the bytes of the file that this name stands for. `Io` and `Memory` are right for any file. So
-- is each status for standard input, and for a file of unknown bytes.
abbrev pub IsRightAt : (List ℕ → Option (List ℕ)) → Line → Option (List ℕ) → Status → Type 0
IsRightAt held l name status = status ≢ Io → status ≢ Memory → IfSome (path_of name) (λ path. IfSome (held path)
    (λ input. (left : Option (List ℕ)) × (text : List ℕ)
    × IsRightFor l.action l.profile l.limit l.policy l.spellings input left text status))

-- The status with the greater exit status.
abbrev pub greater : Status → Status → Status
greater one other = if nat_lt (exit_status one) (exit_status other) then other else one

-- The greatest of these statuses, or `Done` if there are none.
abbrev pub greatest : List Status → Status
greatest statuses = fold greater Done statuses

-- Each file has its status, in the same order.
abbrev pub AreRight : (List ℕ → Status → Type 0) → List (List ℕ) → List Status → Type 0
AreRight Right [] [] = ⊤
AreRight Right (name ∷ names) (status ∷ statuses) = Right name status × AreRight Right names statuses
AreRight Right _ _ = ⊥

-- The status of a run over the files of these names. Either each file has its status, and the greatest is returned. Or
-- the run ended early with `Io` or `Memory`. Only the files before have a status then, and the greatest of these and of
-- the failure is returned. Why it ended is not said here: standard output or the list of names failed.
abbrev pub IsOfEach : (List ℕ → Status → Type 0) → List (List ℕ) → Status → Type 0
IsOfEach Right names result = (done rest : List (List ℕ)) × (statuses : List Status) × (names ≡ done ++ rest)
    × AreRight Right done statuses
    × (((rest ≡ []) × (result ≡ greatest statuses))
    ⊎ ((failure : Status) × ((failure ≡ Io) ⊎ (failure ≡ Memory)) × (result ≡ greater (greatest statuses) failure)))

-- ---- runs

-- The status of a run is right for its inputs: for the one file, for the files of several names, or for the files that a
-- list names. Nothing is claimed of a list of unknown bytes.
abbrev pub IsRightOn : (List ℕ → Option (List ℕ)) → Line → Inputs → Status → Type 0
IsRightOn held l (named.One name) status = IsRightAt held l (option_map (λ s. s.now) name) status
IsRightOn held l (named.Several names) status =
    IsOfEach (λ name. IsRightAt held l (Some name)) (map (λ s. s.now) names.items) status
IsRightOn held l (named.Listed list ending) status = IfSome (path_of (Some list.now)) (λ path. IfSome (held path)
    (λ bytes. IsOfEach (λ name. IsRightAt held l (Some name)) (names_in (ending_byte ending) bytes) status))
