use Rattle.std.proofs.Common.{subst, sym}
use Rattle.wm_tokens.specs.inner.PlainSpans.{Passes}
use Rattle.wm_tokens.proofs.PlainSpans.{passes_join, passes_spaces}
use Rattle.wm_tokens.proofs.plain_spans.after_spans.Goals as goal

pub returns-in-97-to-122-clause-passes : goal.returns-in-97-to-122-clause-passes
returns-in-97-to-122-clause-passes c =
    let first : Passes c.args.text.now c.after_spaces-rest.result.now = subst (Passes c.args.text.now) (sym c.after_spaces-rest.ensures) (passes_spaces c.args.text.now) in
    let last : Passes c.after_span.result.now c.after_spaces.result.now = subst (Passes c.after_span.result.now) (sym c.after_spaces.ensures) (passes_spaces c.after_span.result.now) in
    passes_join _ _ _ first (passes_join _ _ _ c.after_span.ensures.passes last)
