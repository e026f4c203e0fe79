use Rattle.wm_machine.specs.Sinks.{items_for}
use Rattle.wm_rules.specs.exact.Policing.{counts_in}
use Rattle.wm_rules.proofs.NoCounts.{counted_ran_out, counted_took, refused_ran_out, refused_took}
use Rattle.wm_rules.proofs.checker.Checker.take_by_both.Goals as goal

pub returns-in-Ok-clause-took : goal.returns-in-Ok-clause-took
returns-in-Ok-clause-took c =
    counted_took c.self.inside.rules c.args.self.now (counts_in c.self.inside.counts) (items_for c.args.item) c.self.view_is c.take.new.self (counts_in c.count.new.counts) c.count.result c.in-Ok.ensures.took c.count.ensures.took

pub returns-in-Ok-clause-room : goal.returns-in-Ok-clause-room
returns-in-Ok-clause-room c =
    counted_ran_out c.self.inside.rules c.args.self.now (counts_in c.self.inside.counts) (items_for c.args.item) c.self.view_is c.take.new.self c.count.result c.in-Ok.ensures.took c.count.ensures.room

pub returns-in-Err-clause-took : goal.returns-in-Err-clause-took
returns-in-Err-clause-took c =
    refused_took c.self.inside.rules c.args.self.now (counts_in c.self.inside.counts) (items_for c.args.item) c.self.view_is c.take.new.self c.in-Err.why c.in-Err.ensures.took

pub returns-in-Err-clause-room : goal.returns-in-Err-clause-room
returns-in-Err-clause-room c =
    refused_ran_out c.self.inside.rules c.args.self.now (counts_in c.self.inside.counts) (items_for c.args.item) c.self.view_is c.in-Err.why c.in-Err.ensures.room
