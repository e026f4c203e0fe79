-- A comment, part by part.
use Rattle.std.proofs.Common.{◌≡◌, ℕ, zero, suc, ◌<◌, ◌≤◌, ◌+◌, ◌-◌, Bool, true, false, cond, List, [], ◌∷◌, length, Option, Some, None, refl, sym, ap, ◌∙◌, subst, arith}
use Rattle.std.specs.Prelude.{◌==◌, ◌&&◌}
use Rattle.wm_tokens.specs.exact.Scan.{after_comment, comment_part, CommentPart, close, opening, on, over}

-- one test chooses the part and how the whole goes on
chosen_both : {X Y : Type 0} (t : Bool) (x x' : X) (y y' : Y) (P : X → Y → Type 0) → P x y → P x' y' → P (cond t x x') (cond t y y')
chosen_both true x x' y y' P p q = p
chosen_both false x x' y y' P p q = q

abbrev pub Says : ℕ → List ℕ → CommentPart → Option (List ℕ) → Type 0
Says zero b (close r) o = (o ≡ Some r) × (length r < length b)
Says (suc n) b (close r) o = (o ≡ after_comment n r) × (length r + 2 ≤ length b)
Says n b (opening r) o = (o ≡ after_comment (suc n) r) × (length r + 2 ≤ length b)
Says n b (on r) o = (o ≡ after_comment n r) × (length r < length b)
Says n b over o = (o ≡ None)

says : (n : ℕ) (b : List ℕ) → Says n b (comment_part b) (after_comment n b)
unfolding comment_part
says zero [] = refl
says (suc n) [] = refl
says zero (c ∷ []) = (refl, omega arith)
says (suc n) (c ∷ []) = (refl, omega arith)
says zero (c ∷ d ∷ b) =
    chosen_both ((c == 59) && (d == 41)) _ _ _ _ (Says zero (c ∷ d ∷ b)) (refl, omega arith) (chosen_both ((c == 40) && (d == 59)) _ _ _ _ (Says zero (c ∷ d ∷ b)) (refl, omega arith) (refl, omega arith))
says (suc n) (c ∷ d ∷ b) =
    chosen_both ((c == 59) && (d == 41)) _ _ _ _ (Says (suc n) (c ∷ d ∷ b)) (refl, omega arith) (chosen_both ((c == 40) && (d == 59)) _ _ _ _ (Says (suc n) (c ∷ d ∷ b)) (refl, omega arith) (refl, omega arith))

at_part : (n : ℕ) (b : List ℕ) (p : CommentPart) → p ≡ comment_part b → Says n b p (after_comment n b)
at_part n b p e = subst (λ x. Says n b x (after_comment n b)) (sym e) (says n b)

pub part_ends : (b r : List ℕ) → close r ≡ comment_part b → after_comment zero b ≡ Some r
part_ends b r e = (at_part zero b (close r) e).0

pub part_closes : (n : ℕ) (b r : List ℕ) → 0 < n → close r ≡ comment_part b → after_comment n b ≡ after_comment (n - 1) r
part_closes zero b r h e = absurd (omega (arith, h))
part_closes (suc n) b r h e = let k : n ≡ suc n - 1 = omega arith in (at_part (suc n) b (close r) e).0 ∙ ap (λ x. after_comment x r) k

pub part_close_size : (b r : List ℕ) → close r ≡ comment_part b → length r + 2 ≤ length b
part_close_size b r e = (at_part 1 b (close r) e).1

pub part_opens : (n : ℕ) (b r : List ℕ) → opening r ≡ comment_part b → after_comment n b ≡ after_comment (n + 1) r
part_opens n b r e = let k : suc n ≡ n + 1 = omega arith in at n e ∙ ap (λ x. after_comment x r) k
  where
    at : (n : ℕ) → opening r ≡ comment_part b → after_comment n b ≡ after_comment (suc n) r
    at zero e = (at_part zero b (opening r) e).0
    at (suc n) e = (at_part (suc n) b (opening r) e).0

pub part_open_size : (b r : List ℕ) → opening r ≡ comment_part b → length r + 2 ≤ length b
part_open_size b r e = (at_part zero b (opening r) e).1

pub part_on : (n : ℕ) (b r : List ℕ) → on r ≡ comment_part b → after_comment n b ≡ after_comment n r
part_on zero b r e = (at_part zero b (on r) e).0
part_on (suc n) b r e = (at_part (suc n) b (on r) e).0

pub part_on_size : (b r : List ℕ) → on r ≡ comment_part b → length r < length b
part_on_size b r e = (at_part zero b (on r) e).1

pub part_over : (n : ℕ) (b : List ℕ) → over ≡ comment_part b → after_comment n b ≡ None
part_over zero b e = at_part zero b over e
part_over (suc n) b e = at_part (suc n) b over e

pub ruleset part_laws = (part_ends, part_closes, part_close_size, part_opens, part_open_size, part_on, part_on_size, part_over)
