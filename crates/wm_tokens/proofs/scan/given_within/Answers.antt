use Rattle.std.proofs.lemmas.List.{take_rest}
use Rattle.wm_tokens.proofs.Strings.{none_near}
use Rattle.wm_tokens.proofs.scan.given_within.Goals as goal

pub returns-in-On-clause-none : goal.returns-in-On-clause-none
returns-in-On-clause-none c =
    none_near c.args.mode c.in-On.next c.args.text.now _ c.given_last.result c.in-len1-up.len_at_least c.in-On.ensures.step (take_rest c.args.text.now 1) c.given_last.ensures.none
