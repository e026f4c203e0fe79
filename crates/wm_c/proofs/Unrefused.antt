-- A lemma about a validator that has refused nothing.
use Rattle.std.proofs.Common.{◌≡◌, Option, Some, None, refl}
use Rattle.wm_machine.specs.declared.refusal.Refusal.{Refusal}

pub none_refused : (o : Option Refusal) → ((r : Refusal) → o ≡ Some r → ⊥) → o ≡ None
none_refused None never = refl
none_refused (Some r) never = absurd (never r refl)
