-- Lemmas about the numbers of statuses.
use Rattle.std.proofs.Common.{◌≡◌, ◌≢◌, ◌⊎◌, ℕ, List, Result, Ok, Err, inl, inr, refl, sym, ap, subst, arith, ◌∙◌}
use Rattle.wm_syntax.specs.declared.why.Why.{Why}
use Rattle.wm_syntax.specs.declared.why.Why.TheVariants.{Memory}
use Rattle.wm_syntax.specs.declared.why.Why.TheVariants as why
use Rattle.wm_syntax.specs.declared.profile.Profile.{Profile}
use Rattle.wm_machine.specs.declared.refusal.Refusal.{Refusal}
use Rattle.wm_rules.specs.declared.checker.Summary.{Summary}
use Rattle.wm_rules.specs.declared.policy.Policy.{Policy}
use Rattle.wm_rules.specs.Validation.{Accepted}
use Rattle.wm_c.specs.declared.answer.Answer.{Answer}
use Rattle.wm_c.specs.Answers.{IsRight, in_numbers}
use Rattle.wm_write.specs.declared.check_module.CheckFault.TheVariants as check
use Rattle.wm_tokens.specs.declared.faults.TextWhy.{TextWhy}
use Rattle.wm_tokens.specs.declared.faults.TextWhy.TheVariants as text
use Rattle.wm_c.specs.declared.output.Unbuilt.{Unbuilt}
use Rattle.wm_c.specs.declared.output.Unbuilt.TheVariants.{TooLong, Text, Check}
use Rattle.wm_c.specs.Conversions.{IsMemory, unbuilt}
use Rattle.wm_c.specs.Codes.{status_code, text_code, text_status_code, why_code}
use Rattle.wm_read.specs.declared.spellings.Spellings.{Spellings}
use Rattle.wm_c.specs.declared.options.Options.{Options}
use Rattle.wm_c.specs.Options.{Asking, Asks, policy_of, spellings_of}

pub not_memory : (w : Why) → status_code w ≡ 1 → w ≢ Memory
not_memory w e h =
    let clash : 4 ≡ 1 = subst (λ (v : Why). status_code v ≡ 1) h e in absurd (omega (arith, clash))

-- The status of a refusal is 1, except for `Memory`.
cases : (w : Why) → (status_code w ≡ 1) ⊎ (w ≡ Memory)
cases why.Memory = inr refl
cases _ = inl refl

pub one_or_four : (w : Why) (n : ℕ) → status_code w ≡ n → (n ≡ 1) ⊎ (n ≡ 4)
one_or_four w n e = elim (cases w) [
  | inl one ↦ inl (sym e ∙ one)
  | inr m ↦ inr (sym e ∙ ap status_code m)
]

text_cases : (w : TextWhy) → (text_status_code w ≡ 1) ⊎ (w ≡ text.Memory)
text_cases text.Memory = inr refl
text_cases _ = inl refl

-- The status for a text without a binary is 1 or 4.
pub unbuilt_status : (u : Unbuilt) (n : ℕ) → (unbuilt u).status ≡ n → (n ≡ 1) ⊎ (n ≡ 4)
unbuilt_status (TooLong at) n e = inl (sym e)
unbuilt_status (Text r) n e = elim (text_cases r.why) [
  | inl one ↦ inl (sym e ∙ one)
  | inr m ↦ inr (sym e ∙ ap text_status_code m)
]
unbuilt_status (Check (check.Refused r)) n e = one_or_four r.why n e
unbuilt_status (Check check.TooLarge) n e = inl (sym e)
unbuilt_status (Check check.Memory) n e = inr (sym e)

not_four : ◌≡◌ {A = ℕ} 1 4 → ⊥
not_four e = omega (arith, e)

-- Status 4 comes only for `Memory`.
pub refused_memory : (w : Why) → status_code w ≡ 4 → IsMemory (why_code w)
refused_memory w e = elim (cases w) [
  | inl one ↦ absurd (not_four (sym one ∙ e))
  | inr m ↦ inl (ap why_code m)
]

pub unbuilt_memory : (u : Unbuilt) → (unbuilt u).status ≡ 4 → IsMemory (unbuilt u).why
unbuilt_memory (TooLong at) e = absurd (not_four e)
unbuilt_memory (Text r) e = elim (text_cases r.why) [
  | inl one ↦ absurd (not_four (sym one ∙ e))
  | inr m ↦ inr (ap text_code m)
]
unbuilt_memory (Check (check.Refused r)) e = refused_memory r.why e
unbuilt_memory (Check check.TooLarge) e = absurd (not_four e)
unbuilt_memory (Check check.Memory) e = inl refl

-- The length is 0 for a text without a binary.
pub unbuilt_length : (u : Unbuilt) → (unbuilt u).length ≡ 0
unbuilt_length (TooLong at) = refl
unbuilt_length (Text r) = refl
unbuilt_length (Check (check.Refused r)) = refl
unbuilt_length (Check check.TooLarge) = refl
unbuilt_length (Check check.Memory) = refl

pub not_none : (w : Why) → status_code w ≡ 0 → ⊥
not_none w e = elim (one_or_four w 0 e) [
  | inl one ↦ absurd (omega (arith, one))
  | inr four ↦ absurd (omega (arith, four))
]

-- Status 1 comes only for an input that is not accepted.
pub refused_right : (p : Profile) (limit : ℕ) (q : Policy) (input : List ℕ) (r : Result Summary Refusal) (a : Answer)
    → a ≡ in_numbers r → IsRight p limit q input r → a.status ≡ 1 → Accepted p limit q input → ⊥
refused_right p limit q input (Ok s) a e right is_one =
    let clash : 0 ≡ 1 = sym (ap (λ (x : Answer). x.status) e) ∙ is_one in absurd (omega (arith, clash))
refused_right p limit q input (Err r) a e right is_one =
    (right.0 (not_memory r.why (sym (ap (λ (x : Answer). x.status) e) ∙ is_one))).0

-- Status 0 comes only for an accepted input.
pub valid_right : (p : Profile) (limit : ℕ) (q : Policy) (input : List ℕ) (r : Result Summary Refusal) (a : Answer)
    → a ≡ in_numbers r → IsRight p limit q input r → a.status ≡ 0 → Accepted p limit q input
valid_right p limit q input (Ok s) a e right is_none = right.0
valid_right p limit q input (Err r) a e right is_none =
    absurd (not_none r.why (sym (ap (λ (x : Answer). x.status) e) ∙ is_none))

-- A property of the parsed options holds for what the options ask for.
pub as_asked : (o : Options) (p : Profile) (limit : ℕ) (q : Policy) (s : Spellings)
    → Asks o p × (limit ≡ o.max_bytes) × (q ≡ policy_of o) × (s ≡ spellings_of o) → (P : Profile → ℕ → Policy → Type 0) → P p limit q → Asking o P
as_asked o p limit q s asks P x =
    (p, asks.0, subst (λ (r : Policy). P p o.max_bytes r) asks.2 (subst (λ (n : ℕ). P p n q) asks.1 x))
