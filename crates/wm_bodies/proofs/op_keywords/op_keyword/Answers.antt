use Rattle.std.proofs.Common.{sym, ap, ◌∙◌, [], arith}
use Rattle.std.specs.Prelude.{slice_index_or}
use Rattle.wm_syntax.specs.exact.NameTable.{names}
use Rattle.wm_bodies.proofs.OpKeywords.{word_named}
use Rattle.wm_bodies.proofs.Readers.{same_is}
use Rattle.wm_bodies.proofs.op_keywords.op_keyword.Goals as goal

pub returns-then-is : goal.returns-then-is
returns-then-is c = c.op_of.ensures.exact ∙ word_named c.args.profile c.args.word.now _ c.guess-byte.result (omega arith) (c.name_of.ensures.exact ∙ ap (λ n. slice_index_or names n []) c.from.ensures) (same_is _ _ (sym c.is.ensures ∙ c.if-is.true))
