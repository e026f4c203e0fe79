use Rattle.std.proofs.Common.{◌≤◌, None, length}
use Rattle.wm_machine.specs.declared.machine.member.SectionKind.TheVariants as section_kind
use Rattle.wm_shortcuts.specs.exact.Shortcuts.{Advances}
use Rattle.wm_shortcuts.specs.exact.WholeMembers.{before_member, section_after}
use Rattle.wm_shortcuts.proofs.exports.ExportsBeforeLastLink.take.Given as goal

abbrev pub invariant-loop-left : goal.invariant-loop-left
invariant-loop-left g l = record {
  within : l.used ≤ length l.bytes;
  section : l.used ≤ l.start.more;
  advanced : Advances g.S.Sink.after g.S.Sink.may_run_out l.fn.profile l.bytes (before_member section_kind.Export l.start) (g.S.Sink.held l.fn.sink)
      (record { used = l.used; refused = None }) (before_member section_kind.Export (section_after l.start l.used l.left)) (g.S.Sink.held l.sink);
}

abbrev pub decreases-loop-left : goal.decreases-loop-left
decreases-loop-left g l = l.left
