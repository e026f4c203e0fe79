use Rattle.std.proofs.Common.{◌++◌, ℕ, List, ap, ◌∙◌}
use Rattle.wm_refusals.specs.Rows.{bar}
use Rattle.wm_refusals.proofs.Parts.{joined}
use Rattle.wm_refusals.proofs.hints.Hint.of.Goals as goal

pub returns : goal.returns
returns c =
    let after = λ (front rest : List ℕ). front ++ (bar ++ rest) in
    joined c.args.line.now _ _ c.in_ok-name.ensures.cases
    ∙ ap (after c.in_ok-name.name.now) (joined c.in_ok-name.rest.now _ _ c.in_ok-section.ensures.cases
    ∙ ap (after c.in_ok-section.section.now) (joined c.in_ok-section.rest.now _ _ c.in_ok-awaited.ensures.cases
    ∙ ap (after c.in_ok-awaited.awaited.now) (joined c.in_ok-awaited.rest.now _ _ c.in_ok-bytes.ensures.cases
    ∙ ap (after c.in_ok-bytes.bytes.now) (joined c.in_ok-bytes.rest.now _ _ c.in_ok-begins.ensures.cases
    ∙ ap (after c.in_ok-begins.begins.now) (joined c.in_ok-begins.rest.now _ _ c.in_ok-feature.ensures.cases)))))
