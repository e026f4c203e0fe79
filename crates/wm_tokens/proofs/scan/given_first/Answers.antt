use Rattle.std.proofs.lemmas.List.{take_rest}
use Rattle.wm_tokens.specs.declared.scan.Mode.TheVariants.{Plain}
use Rattle.wm_tokens.proofs.Strings.{none_far}
use Rattle.wm_tokens.proofs.scan.given_first.Goals as goal

pub returns-in-On-clause-none : goal.returns-in-On-clause-none
returns-in-On-clause-none c =
    none_far Plain c.in-On.mode c.args.text.now _ c.given_within.result c.in-len1-up.len_at_least c.in-On.ensures.step (take_rest c.args.text.now 1) c.given_within.ensures.none
