-- A test whether two values are equal gives the same answer as the comparison of their codes.
use Rattle.std.proofs.Common.{◌≡◌, ◌↔◌, Bool, true}
use Rattle.std.specs.Bool.{one_answer}
use Rattle.std.specs.Coded.{Coded}
use Rattle.wm_syntax.specs.inner.Equality.{same_by, same_decides}

pub told : {A : Type 0} (c : Coded A) (a b : A) (r : Bool) → ((r ≡ true) ↔ (a ≡ b)) → r ≡ same_by c a b
told c a b r h = let d = same_decides c a b in one_answer r (same_by c a b) h (λ e. d.0 e, λ e. d.1 e)
