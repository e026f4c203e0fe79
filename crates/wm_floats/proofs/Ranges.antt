-- The bits of a float are in their range.
use Rattle.std.proofs.Common.{ℕ, ◌≡◌, ◌+◌, ◌-◌, ◌^◌, ◌<◌, ◌≤◌, false, List, [], ◌∷◌, Option, Some, None, codes, nat_lt, option_map, refl, sym, ap, subst, ◌∙◌, arith, inl, inr, ltb-true}
use Rattle.std.specs.Prelude.{◌==◌}
use Rattle.std.specs.Str.Parse.{digits_value}
use Rattle.wm_syntax.specs.declared.instructions.FloatType.{FloatType}
use Rattle.wm_syntax.specs.declared.instructions.FloatType.TheVariants.{F32, F64}
use Rattle.wm_syntax.specs.Floats.{signif, expon}
use Rattle.wm_floats.specs.Nearest.{infinity}
use Rattle.wm_floats.specs.exact.Atoms.{nearest, payload_bits, nan_bits, numeral_of, number_by, number_bits, behind, is_just, payload_or_number, magnitude_of, below_zero, float_of, are_digits, plain}
use Rattle.wm_floats.proofs.Basics.{chosen, same_some, none_some, bind_ok}

-- the range of bits with no sign
abbrev pub half : FloatType → ℕ
half w = 2 ^ (signif w + expon w)

record Fits (w : FloatType) : Type 0 where
  pub top : infinity w + 2 ^ signif w ≤ half w
  pub nan : 2 ^ (signif w - 1) < 2 ^ signif w
  pub one : 0 < 2 ^ signif w
  pub twice : half w + half w ≡ 2 ^ (signif w + expon w + 1)
  pub word : half w + half w ≤ 2 ^ 64

fits : (w : FloatType) → Fits w
fits F32 = record { top = omega arith; nan = omega arith; one = omega arith; twice = refl; word = omega arith }
fits F64 = record { top = omega arith; nan = omega arith; one = omega arith; twice = refl; word = omega arith }

nearest_small : (w : FloatType) (num den b : ℕ) → nearest w num den ≡ Some b → b < half w
unfolding nearest
nearest_small w num den b e = elim (chosen (nat_lt _ (infinity w)) _ None (Some b) e) [
  | inl p ↦ (let f = fits w in let k = same_some _ b p.1 in subst (λ (x : ℕ). x < half w) k (omega (arith, ltb-true _ (infinity w) p.0, f.top)))
  | inr p ↦ absurd (none_some b p.1)
]

payload_small : (w : FloatType) (n b : ℕ) → payload_bits w n ≡ Some b → b < half w
payload_small w n b e = elim (chosen (nat_lt 0 n) _ None (Some b) e) [
  | inl p ↦ elim (chosen (nat_lt n (2 ^ signif w)) (Some (infinity w + n)) None (Some b) p.1) [
    | inl q ↦ (let f = fits w in let k = same_some (infinity w + n) b q.1 in omega (arith, ltb-true n (2 ^ signif w) q.0, f.top, k))
    | inr q ↦ absurd (none_some b q.1)
  ]
  | inr p ↦ absurd (none_some b p.1)
]

nan_small : (w : FloatType) (a : List ℕ) (b : ℕ) → nan_bits w a ≡ Some b → b < half w
nan_small w a b e = elim (chosen (are_digits 16 false a) _ None (Some b) e) [
  | inl p ↦ payload_small w (digits_value 16 (plain a)) b p.1
  | inr p ↦ absurd (none_some b p.1)
]

number_small : (w : FloatType) (a : List ℕ) (b : ℕ) → number_bits w a ≡ Some b → b < half w
number_small w a b e = by (behind (codes "0x") a) e
  where
    by : (o : Option (List ℕ)) → number_by w o a ≡ Some b → b < half w
    by None e = let g = bind_ok (numeral_of 10 101 69 a) _ b e in nearest_small w _ _ b g.2
    by (Some d) e = let g = bind_ok (numeral_of 16 112 80 d) _ b e in nearest_small w _ _ b g.2

pub magnitude_small : (w : FloatType) (a : List ℕ) (b : ℕ) → magnitude_of w a ≡ Some b → b < half w
magnitude_small w a b e = elim (chosen (is_just (codes "inf") a) (Some (infinity w)) _ (Some b) e) [
  | inl p ↦ (let f = fits w in let k = same_some (infinity w) b p.1 in omega (arith, f.top, f.one, k))
  | inr p ↦ elim (chosen (is_just (codes "nan") a) (Some (infinity w + 2 ^ (signif w - 1))) _ (Some b) p.1) [
    | inl q ↦ (let f = fits w in let k = same_some (infinity w + 2 ^ (signif w - 1)) b q.1 in omega (arith, f.top, f.nan, k))
    | inr q ↦ by (behind (codes "nan:0x") a) q.1
  ]
]
  where
    by : (o : Option (List ℕ)) → payload_or_number w o a ≡ Some b → b < half w
    by None e = number_small w a b e
    by (Some d) e = nan_small w d b e

-- The sum with the sign bit that the code makes.
pub signed_fits : (w : FloatType) (a : List ℕ) (b s : ℕ) → Some b ≡ magnitude_of w a → s ≡ 2 ^ (signif w + expon w) → s + b < 2 ^ 64
signed_fits w a b s e h = let f = fits w in omega (arith, magnitude_small w a b (sym e), f.word, h)

pub signed_is : (w : FloatType) (a : List ℕ) (b s : ℕ) → Some b ≡ magnitude_of w a → s ≡ 2 ^ (signif w + expon w) → Some (s + b) ≡ option_map (below_zero w) (magnitude_of w a)
signed_is w a b s e h = ap (λ (x : ℕ). Some (x + b)) h ∙ ap (λ (o : Option ℕ). option_map (below_zero w) o) e

pub ruleset range_laws = (signed_fits, signed_is)

-- ---- with a sign

pub float_small : (w : FloatType) (a : List ℕ) (b : ℕ) → float_of w a ≡ Some b → b < 2 ^ (signif w + expon w + 1)
unfolding float_of
float_small w [] b e = absurd (none_some b e)
float_small w (c ∷ a) b e = elim (chosen (c == 43) (magnitude_of w a) _ (Some b) e) [
  | inl p ↦ (let f = fits w in omega (arith, magnitude_small w a b p.1, f.twice))
  | inr p ↦ elim (chosen (c == 45) (option_map (below_zero w) (magnitude_of w a)) _ (Some b) p.1) [
    | inl q ↦ by (magnitude_of w a) refl q.1
    | inr q ↦ (let f = fits w in omega (arith, magnitude_small w (c ∷ a) b q.1, f.twice))
  ]
]
  where
    by : (o : Option ℕ) → magnitude_of w a ≡ o → option_map (below_zero w) o ≡ Some b → b < 2 ^ (signif w + expon w + 1)
    by None h e = absurd (none_some b e)
    by (Some n) h e = let f = fits w in let k = same_some (below_zero w n) b e in omega (arith, magnitude_small w a n h, f.twice, k)
