-- The runs are the maximal runs of the list of types.
use Rattle.std.proofs.Common.{None, ◌≡◌, ◌∙◌, length, rules, sym, ap}
use Rattle.wm_syntax.specs.Runs.{run_count, runs_of}
use Rattle.wm_syntax.proofs.RunLists.{run_count_is, runs_length}
use Rattle.wm_syntax.proofs.modules.locals.Locals.runs.Goals as goal

pub returns-clause-count : goal.returns-clause-count
returns-clause-count c =
    let k : c.len.result ≡ length c.self.inside.runs.items = search rules in
    k ∙ sym (run_count_is c.self.inside.runs.items None c.self.invariant) ∙ ap run_count c.self.view_is

pub returns-clause-of : goal.returns-clause-of
returns-clause-of c =
    let k : c.len.result ≡ length c.self.inside.runs.items = search rules in
    k ∙ runs_length c.self.inside.runs.items c.self.invariant ∙ ap (λ z. length (runs_of z)) c.self.view_is
