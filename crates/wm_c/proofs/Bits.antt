-- Lemmas about the bits of features in a profile's number.
use Rattle.std.proofs.Common.{◌≡◌, ◌≢◌, ◌+◌, ◌*◌, ◌/◌, ◌%◌, ◌≤◌, ℕ, List, ◌∷◌, MatchOption, None, Option, Some, arith, inl, inr, subst}
use Rattle.wm_syntax.specs.Profiles.{AddsFeature}
use Rattle.wm_c.specs.Codes.{AddsBits, IsProfileCode, NumbersProfile}
use Rattle.wm_syntax.specs.declared.profile.Feature.{Feature}
use Rattle.wm_syntax.specs.declared.profile.Profile.{Profile}

-- The lowest bit is 1.
pub bit_added : (feature : Feature) (features : List Feature) (base q p : Profile) (bits : ℕ) → bits % 2 ≡ 1 → AddsFeature base feature q → AddsBits features q (bits / 2) p
    → AddsBits (feature ∷ features) base bits p
bit_added feature features base q p bits odd adds more = let sum : bits ≡ 2 * (bits / 2) + 1 = omega arith in (bits / 2, inr (sum, (q, adds, more)))

-- The lowest bit is 0.
pub bit_passed : (feature : Feature) (features : List Feature) (base p : Profile) (bits : ℕ) → bits % 2 ≢ 1 → AddsBits features base (bits / 2) p → AddsBits (feature ∷ features) base bits p
bit_passed feature features base p bits even more = let sum : bits ≡ 2 * (bits / 2) = omega arith in (bits / 2, inl (sum, more))

-- The bits behind the lowest one.
pub bits_left : (feature : Feature) (features : List Feature) (base p : Profile) (bits : ℕ) → AddsBits (feature ∷ features) base bits p → (q : Profile) × AddsBits features q (bits / 2) p
bits_left feature features base p bits (more, inl h) =
    let sum = h.0 in let half : more ≡ bits / 2 = omega arith in (base, subst (λ (n : ℕ). AddsBits features base n p) half h.1)
bits_left feature features base p bits (more, inr h) =
    let sum = h.0 in let half : more ≡ bits / 2 = omega arith in (h.1.0, subst (λ (n : ℕ). AddsBits features h.1.0 n p) half h.1.2)

-- A number that names a profile is at most 4.
pub numbered_low : (n : ℕ) (p : Profile) → NumbersProfile n p → n ≤ 4
numbered_low n p h = elim h.is [
  | inl a ↦ let is = a.0 in omega arith
  | inr (inl a) ↦ let is = a.0 in omega arith
  | inr (inr (inl a)) ↦ let is = a.0 in omega arith
  | inr (inr (inr a)) ↦ let is = a.0 in omega arith
]

-- The two parts of a number.
pub low_part : (n : ℕ) (p : Profile) (code : IsProfileCode n p) → code.low ≡ n % 256
low_part n p code = let low = numbered_low code.low code.base code.numbered in let sum = code.sum in omega arith

pub bits_part : (n : ℕ) (p : Profile) (code : IsProfileCode n p) → code.bits ≡ n / 256
bits_part n p code = let low = numbered_low code.low code.base code.numbered in let sum = code.sum in omega arith

-- `MatchOption` is monotone in both cases.
pub match_weaker : {X : Type 0} (o : Option X) {N M : Type 0} {P Q : X → Type 0} → MatchOption o N P → (N → M) → ((x : X) → P x → Q x) → MatchOption o M Q
match_weaker None h n s = n h
match_weaker (Some x) h n s = s x h
