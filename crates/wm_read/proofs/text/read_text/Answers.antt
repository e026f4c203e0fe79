use Rattle.std.proofs.Common.{true, ◌∷◌, ◌++◌}
use Rattle.wm_tokens.proofs.Places.{fault_end, tells_first}
use Rattle.wm_read.proofs.text.read_text.Goals as goal

pub told_first-requires : goal.told_first-requires
told_first-requires c = record {
  at = c.in-Err.ensures.at;
  end = fault_end true c.args.text.now c.in-Err.refusal.why c.in-Err.refusal.at (c.in-Err.ensures.fault c.in_default.not-NotUtf8);
  utf8 = (c.in-Err.ensures.fault c.in_default.not-NotUtf8).utf8;
  fault = tells_first true c.args.text.now c.in-Err.refusal.why c.in-Err.refusal.at (c.in-Err.ensures.fault c.in_default.not-NotUtf8);
}

pub returns-in_default : goal.returns-in_default
returns-in_default c = record {
  written = tt;
  refused = λ _ k m t w. c.in-Err.ensures.err k t;
  at = c.told_first.ensures.at;
  end = c.told_first.ensures.end;
  utf8 = ((λ none. absurd (c.told_first.ensures.utf8 c.in_default.not-NotUtf8 none)), (λ n. absurd (n (c.in-Err.ensures.fault c.in_default.not-NotUtf8).utf8)));
  utf8_at = λ none. absurd (c.told_first.ensures.utf8 c.in_default.not-NotUtf8 none);
  fault = c.told_first.ensures.fault;
  followed = λ _ _ j k t m all w. absurd (c.in-Err.ensures.err (j ++ t ∷ k) all);
}

pub returns-in-NotUtf8-clause-followed : goal.returns-in-NotUtf8-clause-followed
returns-in-NotUtf8-clause-followed c = λ _ _ j k t m all w. absurd (c.in-Err.ensures.err (j ++ t ∷ k) all)
