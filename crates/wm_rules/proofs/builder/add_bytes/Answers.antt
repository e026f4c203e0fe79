use Rattle.std.proofs.Common.{◌<◌, ◌++◌, refl}
use Rattle.wm_syntax.specs.Modules.{Segment}
use Rattle.wm_rules.proofs.ChangedLast.{taken_last}
use Rattle.wm_rules.proofs.builder.add_bytes.Goals as goal

pub returns : goal.returns
returns c =
    let some : 0 < c.args.segments.now.len = c.in-Some.ensures.variant.0 refl in
    taken_last (λ (s : Segment). record s { bytes = s.bytes ++ c.args.bytes.now }) c.args.segments.now.items c.args.segments.now.len c.in-Some.last.now c.extend_bytes.new.last c.extend_bytes.result c.args.segments.now.ok.0 some c.in-Some.ensures.value c.extend_bytes.ensures
