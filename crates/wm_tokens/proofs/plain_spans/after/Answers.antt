-- Each row is compared with the definition at each of the 256 bytes, by computation.
use Rattle.std.proofs.Common.{◌≡◌, ℕ, ◌<◌, ◌/◌, ◌%◌, ◌^◌, ◌∙◌, Bool, true, List, get_or, nat_eq, ap, refl, arith}
use Rattle.std.proofs.lemmas.Bool.{agree_below, agree_below_at, eqb-true}
use Rattle.wm_tokens.specs.declared.plain_spans.TheConstants.{ROWS}
use Rattle.wm_tokens.specs.inner.PlainSpans.{AtHand, nothing, word, digits, dollar, other, after_byte, place_of}
use Rattle.wm_tokens.proofs.plain_spans.after.Goals as goal

abbrev agrees : List ℕ → AtHand → ℕ → Bool
agrees rows h c = nat_eq (get_or rows c 0 / 2 ^ place_of h % 32) (place_of (after_byte h c))

from_rows : (rows : List ℕ) (h : AtHand) (c : ℕ) → c < 256 → agree_below (agrees rows h) (λ k. true) 256 ≡ true
    → get_or rows c 0 / 2 ^ place_of h % 32 ≡ place_of (after_byte h c)
from_rows rows h c lt e = eqb-true _ _ (agree_below_at (agrees rows h) (λ k. true) 256 c e lt)

each : (h : AtHand) → agree_below (agrees ROWS h) (λ k. true) 256 ≡ true
each nothing = refl
each word = refl
each digits = refl
each dollar = refl
each other = refl

pub returns : goal.returns
returns c = λ h e. ap (λ (n : ℕ). get_or ROWS c.args.byte 0 / 2 ^ n % 32) e ∙ from_rows ROWS h c.args.byte (omega arith) (each h)
