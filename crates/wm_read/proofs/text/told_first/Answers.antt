use Rattle.std.proofs.Common.{Bool, refl, sym, subst, ◌∙◌, arith}
use Rattle.wm_tokens.specs.TokenFaults.{TellsFault}
use Rattle.wm_tokens.specs.declared.faults.TextWhy.TheVariants.{BadToken}
use Rattle.wm_tokens.proofs.Places.{float_end, float_told, no_float_told}
use Rattle.wm_read.proofs.text.told_first.Goals as goal

pub returns-then-has-clause-fault : goal.returns-then-has-clause-fault
returns-then-has-clause-fault c = λ _. subst (λ (floats : Bool). TellsFault floats c.args.text.now c.args.refusal.why c.args.refusal.at) (sym c.if-has.true ∙ c.has.ensures) c.requires.fault

pub returns-in-Some : goal.returns-in-Some
returns-in-Some c = record {
  at = (let place = c.in-Some.ensures.6 in omega (arith, place));
  end = λ end. absurd (float_end c.args.text.now c.in-Some.at c.in-Some.ensures end);
  memory = λ e. absurd (c.in_default.not-Memory e);
  same = λ n. absurd (n refl);
  utf8 = λ _ e. cc;
  fault = λ _. subst (λ (floats : Bool). TellsFault floats c.args.text.now BadToken c.in-Some.at) (sym c.if-has.false ∙ c.has.ensures) (float_told c.args.text.now c.in-Some.at c.requires.utf8 c.in-Some.ensures);
}

pub returns-in-None : goal.returns-in-None
returns-in-None c = record {
  at = c.requires.at;
  end = c.requires.end;
  memory = λ e. e;
  same = λ _. refl;
  utf8 = λ n. n;
  fault = λ _. subst (λ (floats : Bool). TellsFault floats c.args.text.now c.args.refusal.why c.args.refusal.at) (sym c.if-has.false ∙ c.has.ensures)
      (no_float_told c.args.text.now c.args.refusal.why c.args.refusal.at c.in-None.ensures c.requires.fault);
}
