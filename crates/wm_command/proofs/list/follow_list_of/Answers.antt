use Rattle.std.proofs.Common.{List, ℕ, Some}
use Rattle.wm_command.specs.Several.{IsRightAt}
use Rattle.wm_command.proofs.SeveralLemmas.{list_unread}
use Rattle.wm_command.proofs.list.follow_list_of.Goals as goal

pub returns-in-Err : goal.returns-in-Err
returns-in-Err g c =
    let right = λ (name : List ℕ). IsRightAt (g.O.Opens.held_at c.args.files.now) c.args.line.now (Some name) in
    list_unread right c.args.end (g.I.Read.remaining c.args.reader) c.end_of_list.result c.end_of_list.ensures
