-- The lines of the table of later features, and their parts.
use Rattle.std.specs.Prelude.{◌++◌, ℕ, List}
use Rattle.wm_refusals.specs.Rows.{bar}
use Rattle.wm_refusals.specs.declared.hints.Hint.{Hint}

-- The line with the parts of this hint.
abbrev pub hint_line : Hint → List ℕ
hint_line h =
    h.name.now ++ (bar ++ (h.section.now ++ (bar ++ (h.awaited.now ++ (bar ++ (h.bytes.now ++ (bar ++ (h.begins.now
    ++ (bar ++ (h.feature.now ++ (bar ++ h.remedy.now)))))))))))
