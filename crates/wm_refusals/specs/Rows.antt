-- The lines of the tables of refusals, and their parts.
use Rattle.std.specs.Prelude.{◌≡◌, ◌++◌, ◌⊎◌, ℕ, List, Contains, codes}
use Rattle.std.specs.Str.Lines.{lines}
use Rattle.wm_refusals.specs.declared.rows.Row.{Row}
use Rattle.wm_refusals.specs.declared.tables.TheConstants.{OF_MODULES, OF_TEXTS, OTHERS}

-- The characters between two parts of a line.
abbrev pub bar : List ℕ
bar = codes " | "

-- The line with the parts of this row.
abbrev pub line_of : Row → List ℕ
line_of r =
    r.name.now ++ (bar ++ (r.means.now ++ (bar ++ (r.section.now ++ (bar ++ (r.input.now ++ (bar ++ r.advice.now)))))))

-- The row has this NAME, and is a line of the table.
abbrev pub IsRowIn : List ℕ → List ℕ → Row → Type 0
IsRowIn table name r = (r.name.now ≡ name) × Contains (lines table) (line_of r)

-- It is a row of a refusal of a module.
abbrev pub IsRowOfModule : List ℕ → Row → Type 0
IsRowOfModule name r = IsRowIn OF_MODULES.now name r ⊎ IsRowIn OTHERS.now name r

-- It is a row of a refusal of a text.
abbrev pub IsRowOfText : List ℕ → Row → Type 0
IsRowOfText name r = IsRowIn OF_TEXTS.now name r ⊎ IsRowIn OTHERS.now name r
