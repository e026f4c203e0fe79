-- How the bytes of a u32 continue, by the reader of numbers.
use Rattle.std.proofs.Common.{◌≡◌, ℕ, ◌<◌, ◌^◌, ◌↔◌, List, [], ◌∷◌, arith}
use Rattle.wm_syntax.specs.Types.{SpellsU32}
use Rattle.wm_syntax.specs.declared.numbers.Step.{Step}
use Rattle.wm_syntax.specs.declared.numbers.Step.TheVariants.{More, Done, Bad}
use Rattle.wm_syntax.specs.inner.Numbers.{Partial, UnsignedRest}
use Rattle.wm_syntax.specs.exact.Reading.{fresh, unsigned_push}
use Rattle.wm_syntax.proofs.Readers.{unsigned_law, unsigned_fresh, Goes as NumberGoes}

-- these bytes may still come of a number, after what was read of it
abbrev pub Left : Partial → ℕ → List ℕ → Type 0
Left r n bytes = UnsignedRest 32 r n bytes

abbrev pub NumberNext : Partial → ℕ → Step ℕ × Partial → Type 0
NumberNext r c (More, s) = (n : ℕ) (more : List ℕ) → Left r n (c ∷ more) ↔ Left s n more
NumberNext r c (Done v, s) = (n : ℕ) (more : List ℕ) → Left r n (c ∷ more) ↔ ((n ≡ v) × (more ≡ []))
NumberNext r c (Bad, s) = (n : ℕ) (more : List ℕ) → Left r n (c ∷ more) ↔ ⊥

by_answer : (r : Partial) (c : ℕ) (p : Step ℕ × Partial) → ((n : ℕ) (more : List ℕ) → Left r n (c ∷ more) ↔ NumberGoes (UnsignedRest 32) p n more) → NumberNext r c p
by_answer r c (More, s) h = h
by_answer r c (Done v, s) h = h
by_answer r c (Bad, s) h = h

pub number_next : (r : Partial) (c : ℕ) → c < 2 ^ 8 → NumberNext r c (unsigned_push 32 r c)
number_next r c byte = by_answer r c (unsigned_push 32 r c) (λ n more. unsigned_law 32 r n c more byte)

-- a number has a byte
pub left_nil : (r : Partial) (n : ℕ) → Left r n [] → ⊥
left_nil r n u = u.3

spelled : (n : ℕ) (b : List ℕ) → SpellsU32 n b → Left fresh n b
spelled n [] u = absurd u
spelled n (c ∷ b) u = ((unsigned_fresh 32 (omega arith)).same n c b).0 u

unspelled : (n : ℕ) (b : List ℕ) → Left fresh n b → SpellsU32 n b
unspelled n [] u = absurd (left_nil fresh n u)
unspelled n (c ∷ b) u = ((unsigned_fresh 32 (omega arith)).same n c b).1 u

pub fresh_number : (n : ℕ) (b : List ℕ) → SpellsU32 n b ↔ Left fresh n b
fresh_number n b = (spelled n b, unspelled n b)
