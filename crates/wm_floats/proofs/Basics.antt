-- Small facts on tests, options and lists.
use Rattle.std.proofs.Common.{◌≡◌, ◌⊎◌, Bool, true, false, cond, Option, Some, None, is_some, refl, ap, inl, inr}
use Rattle.wm_floats.specs.exact.Atoms.{◌>>=◌}

pub chosen : {A : Type 0} (t : Bool) (x y z : A) → cond t x y ≡ z → ((t ≡ true) × (x ≡ z)) ⊎ ((t ≡ false) × (y ≡ z))
chosen true x y z e = inl (refl, e)
chosen false x y z e = inr (refl, e)

pub same_some : {A : Type 0} (x y : A) → ◌≡◌ {A = Option A} (Some x) (Some y) → x ≡ y
same_some x y e = cc

pub none_some : {A : Type 0} (x : A) → ◌≡◌ {A = Option A} None (Some x) → ⊥
none_some x e = cc

pub bind_ok : {A B : Type 0} (o : Option A) (f : A → Option B) (y : B) → (o >>= f) ≡ Some y → (x : A) × (o ≡ Some x) × (f x ≡ Some y)
bind_ok None f y e = absurd cc
bind_ok (Some x) f y e = (x, refl, e)

pub bind_is : {A B : Type 0} (o : Option A) (f : A → Option B) (x : A) → o ≡ Some x → (o >>= f) ≡ f x
bind_is o f x e = ap (λ z. z >>= f) e

pub some_is : {A : Type 0} (o : Option A) → is_some o ≡ true → (x : A) × (o ≡ Some x)
some_is None e = absurd (let f : false ≡ true = e in cc)
some_is (Some x) e = (x, refl)

pub is_some_of : {A : Type 0} (o : Option A) (x : A) → o ≡ Some x → is_some o ≡ true
is_some_of o x e = ap is_some e
