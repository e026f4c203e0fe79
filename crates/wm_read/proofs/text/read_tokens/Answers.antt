use Rattle.std.proofs.Common.{subst, sym, ◌∙◌}
use Rattle.wm_bodies.specs.inner.Views.{IsOfReaders}
use Rattle.wm_bodies.proofs.Groups.{fails_read}
use Rattle.wm_read.proofs.TextLaws.{followed_text, refused, tells_none}
use Rattle.wm_tokens.specs.exact.Scan.{lexed}
use Rattle.wm_read.proofs.text.read_tokens.Goals as goal

pub returns-in-Err-clause-refused : goal.returns-in-Err-clause-refused
returns-in-Err-clause-refused c = λ n k m t w.
    refused c.args.profile c.args.spellings c.args.text.now c.in-Err.fault.why c.refusal.result.why c.requires c.in-Err.ensures.read c.refusal.ensures.why
    (λ e. n (c.told_first.ensures.memory e)) k m t w

pub told_first-requires-clause-fault : goal.told_first-requires-clause-fault
told_first-requires-clause-fault c =
    tells_none c.args.text.now (lexed c.args.text.now) c.refusal.result.why c.refusal.result.at c.requires (subst IsOfReaders (sym c.refusal.ensures.why) (fails_read c.in-Err.fault.why _ c.in-Err.ensures.read))

pub returns-in-Err-clause-utf8 : goal.returns-in-Err-clause-utf8
returns-in-Err-clause-utf8 c = c.told_first.ensures.utf8 (λ none. subst IsOfReaders (sym c.refusal.ensures.why ∙ none) (fails_read c.in-Err.fault.why _ c.in-Err.ensures.read))

pub returns-in-Err-clause-followed : goal.returns-in-Err-clause-followed
returns-in-Err-clause-followed c = λ n b j k t m all w.
    c.told_first.ensures.same b ∙ c.refusal.ensures.why
    ∙ c.in-Err.ensures.followed (λ e. n (c.told_first.ensures.memory (c.refusal.ensures.why ∙ e))) (followed_text c.args.profile c.args.spellings c.args.text.now j k t m c.requires all w)
