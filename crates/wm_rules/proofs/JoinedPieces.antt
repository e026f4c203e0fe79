-- The bytes of the pieces so far, and of one piece more.
use Rattle.std.proofs.Common.{◌≡◌, ◌++◌, ◌<◌, ◌≤◌, ◌+◌, ℕ, zero, suc, List, [], ◌∷◌, take, length, get_or, refl, sym, ◌∙◌, ap, append_assoc, append-nil, arith}
use Rattle.std.specs.Borrow.{Bor}
use Rattle.wm_rules.specs.Joining.{joined_bytes}

pub joined_more : (pieces : List (Bor (List ℕ))) (i : ℕ) (d : Bor (List ℕ)) → i < length pieces → joined_bytes (take i pieces) ++ (get_or pieces i d).now ≡ joined_bytes (take (i + 1) pieces)
joined_more pieces i d h = let e : i + 1 ≡ suc i = omega arith in sym (ap (λ n. joined_bytes (take n pieces)) e ∙ step pieces i h)
  where
    step : (pieces : List (Bor (List ℕ))) (i : ℕ) → i < length pieces → joined_bytes (take (suc i) pieces) ≡ joined_bytes (take i pieces) ++ (get_or pieces i d).now
    step [] i h = absurd (omega (arith, h))
    step (p ∷ ps) zero h = append-nil p.now
    step (p ∷ ps) (suc i) h = ap (λ z. p.now ++ z) (step ps i (omega (arith, h))) ∙ sym (append_assoc p.now (joined_bytes (take i ps)) (get_or ps i d).now)

pub whole : (pieces : List (Bor (List ℕ))) (i : ℕ) → length pieces ≤ i → joined_bytes (take i pieces) ≡ joined_bytes pieces
whole [] zero h = refl
whole [] (suc i) h = refl
whole (p ∷ ps) zero h = absurd (omega (arith, h))
whole (p ∷ ps) (suc i) h = ap (λ z. p.now ++ z) (whole ps i (omega (arith, h)))
