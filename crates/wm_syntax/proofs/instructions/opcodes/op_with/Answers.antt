use Rattle.std.proofs.Common.{◌∙◌}
use Rattle.std.proofs.lemmas.Option.{slice_get-get_or}
use Rattle.wm_syntax.specs.exact.ByteTable.{classes, features}
use Rattle.wm_syntax.proofs.FirstBytes.{feature_there, row_under, none_under}
use Rattle.wm_syntax.proofs.instructions.opcodes.op_with.Goals as goal

pub returns : goal.returns
returns c = c.within.ensures ∙ row_under c.args.profile c.args.wanted _ (slice_get-get_or classes c.args.wanted _ c.if-wanted-ge271.false)

pub returns-then-wanted-ge271 : goal.returns-then-wanted-ge271
returns-then-wanted-ge271 c = none_under c.args.profile c.args.wanted c.if-wanted-ge271.true

pub within-requires : goal.within-requires
within-requires c = feature_there c.args.wanted _ _ (slice_get-get_or classes c.args.wanted _ c.if-wanted-ge271.false) (slice_get-get_or features c.args.wanted _ c.if-wanted-ge271.false)
