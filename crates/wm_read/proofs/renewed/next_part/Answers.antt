use Rattle.wm_tokens.specs.inner.Lexemes.{token_of}
use Rattle.wm_read.proofs.OlderWords.{blank_renews, first_renews}
use Rattle.wm_read.proofs.renewed.next_part.Goals as goal

pub returns-in-Blank-clause-part : goal.returns-in-Blank-clause-part
returns-in-Blank-clause-part c = λ out. blank_renews c.args.text.now c.in-Blank.rest.now c.before-in-Blank.result.now out c.in-Blank.ensures.found c.before-in-Blank.ensures

pub returns-in-First-clause-part : goal.returns-in-First-clause-part
returns-in-First-clause-part c = λ out.
    first_renews c.args.text.now c.in-First.rest.now c.part_of.result.now c.before-in-First.result.now out (token_of c.in-First.token) c.in-First.ensures.found c.before-in-First.ensures c.part_of.ensures
