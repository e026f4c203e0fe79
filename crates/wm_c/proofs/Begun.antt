-- A validator that has read nothing has refused nothing.
use Rattle.std.proofs.Common.{◌≡◌, ℕ, [], Result, Ok, Err, Some, inl, inr, arith}
use Rattle.wm_syntax.specs.declared.profile.Profile.{Profile}
use Rattle.wm_decode.specs.declared.decoder.state.Decoder.{Decoder}
use Rattle.wm_machine.specs.declared.refusal.Refusal.{Refusal}
use Rattle.wm_rules.specs.declared.checker.Checker.{Checker}
use Rattle.wm_rules.specs.declared.policy.Policy.{Policy}
use Rattle.wm_rules.specs.declared.validator.Validator.{Validator}
use Rattle.wm_rules.specs.inner.Validators.{HasRead, StateRead, refusal_in, validator_refusal}

clash : {A B : Type 0} (x : A) (y : B) → ◌≡◌ {A = Result A B} (Ok x) (Err y) → ⊥
clash x y e = cc

stands : (s : Result (Decoder Checker) Refusal) (p : Profile) (limit : ℕ) (q : Policy) (r : Refusal)
    → StateRead s p limit q [] → validator_refusal s ≡ Some r → ⊥
stands (Ok d) p limit q r read e = cc
stands (Err f) p limit q r read e = elim read.stands [
  | inl is ↦ clash _ _ is
  | inr ran ↦ omega (arith, read.place, ran.1)
]

pub nothing_refused : (v : Validator) (p : Profile) (limit : ℕ) (q : Policy) (r : Refusal)
    → HasRead v p limit q [] → refusal_in v ≡ Some r → ⊥
nothing_refused v p limit q r read e = stands _ p limit q r read e
