use Rattle.std.proofs.Common.{◌++◌, ℕ, List, ap, ◌∙◌}
use Rattle.wm_refusals.specs.Rows.{bar}
use Rattle.wm_refusals.proofs.Parts.{joined}
use Rattle.wm_refusals.proofs.rows.Row.of.Goals as goal

pub returns : goal.returns
returns c =
    let after = λ (front rest : List ℕ). front ++ (bar ++ rest) in
    joined c.args.line.now _ _ c.in_ok-name.ensures.cases
    ∙ ap (after c.in_ok-name.name.now) (joined c.in_ok-name.rest.now _ _ c.in_ok-means.ensures.cases
    ∙ ap (after c.in_ok-means.means.now) (joined c.in_ok-means.rest.now _ _ c.in_ok-section.ensures.cases
    ∙ ap (after c.in_ok-section.section.now) (joined c.in_ok-section.rest.now _ _ c.in_ok-input.ensures.cases)))
