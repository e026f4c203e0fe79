-- The table is compared with the definition at each of the 256 bytes, by computation.
use Rattle.std.proofs.Common.{◌≡◌, ℕ, ◌<◌, ◌∙◌, Bool, true, false, List, Option, Some, None, cond, nat_eq, nat_lt, get_or, ap, refl, sym, arith}
use Rattle.std.proofs.lemmas.Bool.{agree_below, agree_below_at, cond-true, cond-false, eqb-true, lt-ltb, le-ltb}
use Rattle.wm_tokens.specs.declared.scan.TheConstants.{DIGITS}
use Rattle.wm_tokens.specs.Tokens.{digit_value}
use Rattle.wm_tokens.proofs.scan.digit_value.Goals as goal

abbrev same : Option ℕ → Option ℕ → Bool
same None None = true
same (Some x) (Some y) = nat_eq x y
same None (Some y) = false
same (Some x) None = false

same_is : (x y : Option ℕ) → same x y ≡ true → x ≡ y
same_is None None h = refl
same_is (Some x) (Some y) h = ap (λ (n : ℕ). Some n) (eqb-true x y h)
same_is None (Some y) h = absurd (let f : false ≡ true = h in cc)
same_is (Some x) None h = absurd (let f : false ≡ true = h in cc)

abbrev told : List ℕ → ℕ → Option ℕ
told table b = cond (nat_lt (get_or table b 0) 16) (Some (get_or table b 0)) None

from_table : (table : List ℕ) (b : ℕ) → b < 256 → agree_below (λ k. same (told table k) (digit_value k)) (λ k. true) 256 ≡ true → told table b ≡ digit_value b
from_table table b lt h = same_is (told table b) (digit_value b) (agree_below_at (λ k. same (told table k) (digit_value k)) (λ k. true) 256 b h lt)

pub returns-then-value-lt16 : goal.returns-then-value-lt16
returns-then-value-lt16 c =
    sym (cond-true (nat_lt (get_or DIGITS c.args.byte 0) 16) _ _ (lt-ltb _ _ (omega arith))) ∙ from_table DIGITS c.args.byte (omega arith) refl

pub returns-else-value-lt16 : goal.returns-else-value-lt16
returns-else-value-lt16 c =
    sym (cond-false (nat_lt (get_or DIGITS c.args.byte 0) 16) _ _ (le-ltb _ _ (omega arith))) ∙ from_table DIGITS c.args.byte (omega arith) refl
