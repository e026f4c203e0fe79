-- The answers that C gets to an input.
use Rattle.std.specs.Prelude.{◌≡◌, ◌≢◌, ℕ, ◌≤◌, List, Result, Ok, Err, length}
use Rattle.wm_syntax.specs.declared.why.Why.TheVariants.{Memory}
use Rattle.wm_syntax.specs.declared.profile.Profile.{Profile}
use Rattle.wm_machine.specs.declared.refusal.Refusal.{Refusal}
use Rattle.wm_rules.specs.declared.checker.Summary.{Summary}
use Rattle.wm_rules.specs.declared.policy.Policy.{Policy}
use Rattle.wm_rules.specs.Bounds.{SummaryOf}
use Rattle.wm_rules.specs.Meanings.{Meaning}
use Rattle.wm_rules.specs.Validation.{Accepted}
use Rattle.wm_rules.specs.inner.Validators.{verdict}
use Rattle.wm_c.specs.declared.answer.Answer.{Answer}
use Rattle.wm_c.specs.Codes.{status_code, why_code}

-- A validator's answer in numbers.
abbrev pub in_numbers : Result Summary Refusal → Answer
in_numbers (Ok s) = record {
  status = 0;
  why = 0;
  at = 0;
  functions = s.functions;
  moves = s.moves;
  operands = s.operands;
  controls = s.controls;
  probes = s.probes;
}
in_numbers (Err r) = record {
  status = status_code r.why;
  why = why_code r.why;
  at = r.at;
  functions = 0;
  moves = 0;
  operands = 0;
  controls = 0;
  probes = 0;
}

-- The answer for an argument that is out of range, or for an empty handle.
abbrev pub misuse : Answer
misuse = record {
  status = 2;
  why = 0;
  at = 0;
  functions = 0;
  moves = 0;
  operands = 0;
  controls = 0;
  probes = 0;
}

-- A right answer to a whole input. `Ok`: the input is accepted, and this is its summary. A refusal other than
-- `Memory`: the input is not accepted, and the meaning of the refusal holds. Both are the `verdict`, which the input
-- alone determines. The offset of any refusal is within the input.
abbrev pub IsRight : Profile → ℕ → Policy → List ℕ → Result Summary Refusal → Type 0
IsRight p limit q input (Ok s) =
    Accepted p limit q input × SummaryOf p limit q input s × (verdict p limit q input ≡ Ok s)
IsRight p limit q input (Err r) =
    (r.why ≢ Memory → (Accepted p limit q input → ⊥) × (verdict p limit q input ≡ Err r)
    × Meaning p limit q input r)
    × (r.at ≤ length input)

-- The answer is a right answer to a whole input, in numbers.
abbrev pub IsAnswerOf : Profile → ℕ → Policy → List ℕ → Answer → Type 0
IsAnswerOf p limit q input a = (r : Result Summary Refusal) × (a ≡ in_numbers r) × IsRight p limit q input r
