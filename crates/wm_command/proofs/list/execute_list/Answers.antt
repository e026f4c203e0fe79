use Rattle.std.proofs.Common.{List, ℕ, Some}
use Rattle.wm_command.specs.Lines.{path_of}
use Rattle.wm_command.specs.Lists.{ending_byte}
use Rattle.wm_command.specs.Several.{IsRightAt}
use Rattle.wm_command.proofs.SeveralLemmas.{list_closed}
use Rattle.wm_command.proofs.list.execute_list.Goals as goal

pub returns-in-Err : goal.returns-in-Err
returns-in-Err g c =
    let right = λ (name : List ℕ). IsRightAt (g.O.Opens.held_at c.args.files.now) c.args.line.now (Some name) in
    list_closed right (ending_byte c.args.ending) (path_of (Some c.args.list.now)) (g.O.Opens.held_at c.args.files.now) c.end_of_list.result c.end_of_list.ensures
