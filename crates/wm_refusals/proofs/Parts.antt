-- A text that is cut at the first bar.
use Rattle.std.proofs.Common.{◌≡◌, ◌++◌, ℕ, List, take, sym, ap, ◌∙◌}
use Rattle.std.proofs.lemmas.List.{take-append-drop}
use Rattle.std.specs.Str.Pattern.{FindsText, SplitsAroundMatch}
use Rattle.wm_refusals.specs.Rows.{bar}

pub joined : (w front back : List ℕ) → SplitsAroundMatch (FindsText bar) w front back → w ≡ front ++ (bar ++ back)
joined w front back h =
    sym (take-append-drop h.0 w) ∙ ap (λ (x : List ℕ). take h.0 w ++ x) (h.2.1.split ∙ ap (λ (x : List ℕ). bar ++ x) (sym h.4))
    ∙ ap (λ (x : List ℕ). x ++ (bar ++ back)) (sym h.3)
