use Rattle.std.proofs.Common.{◌≡◌, ℕ, ◌-◌, ap, arith, refl, ◌∙◌}
use Rattle.wm_machine.specs.declared.machine.Counts.{Counts}
use Rattle.wm_machine.specs.declared.machine.InCustom.{InCustom}
use Rattle.wm_machine.specs.declared.machine.InCustom.TheVariants.{Skip}
use Rattle.wm_machine.specs.declared.machine.Machine.TheVariants.{Custom}
use Rattle.wm_shortcuts.proofs.Advances.{advances_by, advances_pass}
use Rattle.wm_shortcuts.proofs.byte_runs.pass.Goals as goal

passed : (last : ℕ) (counts : Counts) (more used left : ℕ) (part : InCustom) → part ≡ Skip → left ≡ more - used
    → Custom last counts left part ≡ Custom last counts (more - used) Skip
passed last counts more used left part e f = cc

pub returns-in-Custom-default-default-default-Skip : goal.returns-in-Custom-default-default-default-Skip
returns-in-Custom-default-default-default-Skip g c =
    let q = c.in-Custom-default-default-default-Skip in
    let used = c.take_most.result in
    advances_by g.S.Sink.after g.S.Sink.may_run_out c.args.profile _ _ _ _ _ _ _ _ (q.is ∙ ap (Custom q.last q.counts q.more) q.part-is)
    (passed q.last q.counts q.more used c.take_most.new.count q.part q.part-is c.take_most.ensures.left)
    (advances_pass g.S.Sink.after g.S.Sink.may_run_out c.args.profile c.args.bytes.now (g.S.Sink.held c.args.sink.now) _ q.last q.counts q.more (omega arith) (omega arith) refl)
