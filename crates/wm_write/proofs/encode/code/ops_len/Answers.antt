use Rattle.std.proofs.Common.{ap, sym, ◌∙◌}
use Rattle.wm_syntax.specs.Instructions.{ops_of}
use Rattle.wm_write.specs.exact.Writing.{capped}
use Rattle.wm_write.proofs.OpLengths.{ops_counted}
use Rattle.wm_write.proofs.encode.code.ops_len.Goals as goal

pub returns : goal.returns
returns c = c.encoded_len.ensures ∙ ap capped (sym (ops_counted (ops_of c.args.body.now)))
