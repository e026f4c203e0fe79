-- The bytes of a float one by one, and its text piece by piece.
use Rattle.std.proofs.Common.{◌≡◌, ◌≢◌, ℕ, zero, suc, ◌+◌, ◌-◌, ◌*◌, ◌/◌, ◌%◌, ◌^◌, ◌<◌, ◌≤◌, Bool, List, [], ◌∷◌, ◌++◌, refl, sym, ap, ◌∙◌, append_assoc, append-nil, arith, cond, eq-eqb, ne_eqb, le-leb}
use Rattle.std.specs.Prelude.{codes, decimal}
use Rattle.std.specs.Bool.{◌==◌}
use Rattle.std.proofs.lemmas.Bool.{lt-leb}
use Rattle.wm_syntax.specs.Encodings.{float_bytes}
use Rattle.wm_syntax.specs.declared.instructions.FloatType.{FloatType}
use Rattle.wm_syntax.specs.Floats.{expon, signif}
use Rattle.wm_write.specs.FloatText.{exponent_text, finite_text, float_text, fraction_text, hex_digit, hexadecimal, places, scaled_text, sign_text, size_text, special_text}
use Rattle.wm_write.specs.Layout.{spaced, words_text}

-- a byte before others
pub more_float : (k n : ℕ) → 0 < k → float_bytes k n ≡ n % 256 ∷ float_bytes (k - 1) (n / 256)
more_float zero n some = absurd (omega arith)
more_float (suc k) n some = ap (λ (j : ℕ). n % 256 ∷ float_bytes j (n / 256)) {x = k} {y = suc k - 1} (omega arith)

-- digits of a fraction: none of 0, and one before others
pub no_places : (k n : ℕ) → n ≡ 0 → places k n ≡ []
unfolding places
no_places zero n h = refl
no_places (suc k) n h = ap (λ (m : ℕ). places (suc k) m) h

pub none_left : (k n : ℕ) → k ≡ 0 → places k n ≡ []
unfolding places
none_left k n h = ap (λ (j : ℕ). places j n) h

pub more_places : (k n : ℕ) → 0 < k → n ≢ 0 → places k n ≡ hex_digit (n / 16 ^ 12) ∷ places (k - 1) (n % 16 ^ 12 * 16)
unfolding places
more_places zero n some h = absurd (omega arith)
more_places (suc k) n some h =
    ap (λ (b : Bool). cond b [] (hex_digit (n / 16 ^ 12) ∷ places k (n % 16 ^ 12 * 16))) (ne_eqb n 0 h)
    ∙ ap (λ (j : ℕ). hex_digit (n / 16 ^ 12) ∷ places j (n % 16 ^ 12 * 16)) {x = k} {y = suc k - 1} (omega arith)

-- digits of a number
pub no_digits : (line : List ℕ) (k n : ℕ) → k ≡ 0 → line ≡ line ++ hexadecimal k n
unfolding hexadecimal
no_digits line k n h = sym (append-nil line) ∙ ap (λ (j : ℕ). line ++ hexadecimal j n) (sym h)

pub digits_of_none : (line : List ℕ) (k n : ℕ) → n ≡ 0 → line ≡ line ++ hexadecimal k n
unfolding hexadecimal
digits_of_none line zero n h = sym (append-nil line)
digits_of_none line (suc k) n h = sym (append-nil line) ∙ ap (λ (m : ℕ). line ++ hexadecimal (suc k) m) (sym h)

more_digits : (k n : ℕ) → k ≢ 0 → n ≢ 0 → hexadecimal k n ≡ hexadecimal (k - 1) (n / 16) ++ hex_digit (n % 16) ∷ []
unfolding hexadecimal
more_digits zero n some h = absurd (some refl)
more_digits (suc k) n some h =
    ap (λ (b : Bool). cond b [] (hexadecimal k (n / 16) ++ hex_digit (n % 16) ∷ [])) (ne_eqb n 0 h)
    ∙ ap (λ (j : ℕ). hexadecimal j (n / 16) ++ hex_digit (n % 16) ∷ []) {x = k} {y = suc k - 1} (omega arith)

pub digits_out : (k n digit : ℕ) (l0 l1 l2 : List ℕ) → k ≢ 0 → n ≢ 0 → l1 ≡ l0 ++ hexadecimal (k - 1) (n / 16) → digit ≡ hex_digit (n % 16)
    → l2 ≡ l1 ++ digit ∷ [] → l2 ≡ l0 ++ hexadecimal k n
digits_out k n digit l0 l1 l2 some h before is last =
    let front = hexadecimal (k - 1) (n / 16) in
    last ∙ ap (λ (z : List ℕ). z ++ digit ∷ []) before ∙ append_assoc l0 front (digit ∷ [])
    ∙ ap (λ (d : ℕ). l0 ++ (front ++ d ∷ [])) is ∙ ap (λ (z : List ℕ). l0 ++ z) (sym (more_digits k n some h))

-- A line that is appended to piece by piece.
pub two_pieces : (l0 l1 l2 a b : List ℕ) → l1 ≡ l0 ++ a → l2 ≡ l1 ++ b → l2 ≡ l0 ++ (a ++ b)
two_pieces l0 l1 l2 a b one two = two ∙ ap (λ (z : List ℕ). z ++ b) one ∙ append_assoc l0 a b

pub three_pieces : (l0 l1 l2 l3 a b c : List ℕ) → l1 ≡ l0 ++ a → l2 ≡ l1 ++ b → l3 ≡ l2 ++ c → l3 ≡ l0 ++ (a ++ (b ++ c))
three_pieces l0 l1 l2 l3 a b c one two three =
    three ∙ ap (λ (z : List ℕ). z ++ c) (two_pieces l0 l1 l2 a b one two) ∙ append_assoc l0 (a ++ b) c ∙ ap (λ (z : List ℕ). l0 ++ z) (append_assoc a b c)

pub same_piece : (l0 l1 a b : List ℕ) → l1 ≡ l0 ++ a → a ≡ b → l1 ≡ l0 ++ b
same_piece l0 l1 a b one is = one ∙ ap (λ (z : List ℕ). l0 ++ z) is

-- a fraction, where there is none and where there is one
pub no_fraction : (line : List ℕ) (n : ℕ) → n ≡ 0 → line ≡ line ++ fraction_text n
no_fraction line n h = sym (append-nil line) ∙ ap (λ (m : ℕ). line ++ fraction_text m) (sym h)

pub some_fraction : (n : ℕ) → n ≢ 0 → (46 ∷ []) ++ places 13 n ≡ fraction_text n
some_fraction n h = ap (λ (b : Bool). cond b [] (46 ∷ places 13 n)) (sym (ne_eqb n 0 h))

-- an exponent below its bias, and one that is not
pub exponent_below : (bias e : ℕ) → e < bias → codes "p-" ++ decimal (bias - e) ≡ exponent_text bias e
exponent_below bias e h = ap (λ (b : Bool). cond b (codes "p+" ++ decimal (e - bias)) (codes "p-" ++ decimal (bias - e))) (sym (lt-leb bias e h))

pub exponent_above : (bias e : ℕ) → bias ≤ e → codes "p+" ++ decimal (e - bias) ≡ exponent_text bias e
exponent_above bias e h = ap (λ (b : Bool). cond b (codes "p+" ++ decimal (e - bias)) (codes "p-" ++ decimal (bias - e))) (sym (le-leb bias e h))

-- the cases of a number
pub zero_text : (n bias : ℕ) → n ≡ 0 → codes "0x0p+0" ≡ finite_text n bias 0
zero_text n bias h = ap (λ (m : ℕ). finite_text m bias 0) (sym h)

pub small_text : (n bias : ℕ) → n ≢ 0 → scaled_text (codes "0x0") n bias 1 ≡ finite_text n bias 0
small_text n bias h = ap (λ (b : Bool). cond b (codes "0x0p+0") (scaled_text (codes "0x0") n bias 1)) (sym (ne_eqb n 0 h))

pub least_text : (n bias e : ℕ) → e ≡ 0 → finite_text n bias 0 ≡ finite_text n bias e
least_text n bias e h = ap (λ (m : ℕ). finite_text n bias m) (sym h)

pub normal_text : (n bias e : ℕ) → e ≢ 0 → scaled_text (codes "0x1") n bias e ≡ finite_text n bias e
normal_text n bias e h =
    ap (λ (b : Bool). cond b (cond (n == 0) (codes "0x0p+0") (scaled_text (codes "0x0") n bias 1)) (scaled_text (codes "0x1") n bias e)) (sym (ne_eqb e 0 h))

-- The cases of an infinity and a NaN.
pub inf_text : (payload : ℕ) → payload ≡ 0 → codes "inf" ≡ special_text payload
inf_text payload h = ap special_text (sym h)

pub nan_text : (payload : ℕ) → payload ≢ 0 → codes "nan:0x" ++ hexadecimal 16 payload ≡ special_text payload
nan_text payload h = ap (λ (b : Bool). cond b (codes "inf") (codes "nan:0x" ++ hexadecimal 16 payload)) (sym (ne_eqb payload 0 h))

-- the sign
pub no_minus : (half bits : ℕ) → bits < half → 32 ∷ [] ≡ 32 ∷ sign_text half bits
no_minus half bits h = ap (λ (b : Bool). 32 ∷ cond b (45 ∷ []) []) (sym (lt-leb half bits h))

pub minus : (half bits : ℕ) → half ≤ bits → 32 ∷ 45 ∷ [] ≡ 32 ∷ sign_text half bits
minus half bits h = ap (λ (b : Bool). 32 ∷ cond b (45 ∷ []) []) (sym (le-leb half bits h))

-- The text after the sign.
module _ (t : FloatType) (e f : ℕ) where
  pub special_size : e ≡ 2 ^ expon t - 1 → special_text f ≡ size_text t e f
  special_size h =
      ap (λ (b : Bool). cond b (special_text f) (finite_text (f * 2 ^ (52 - signif t)) (2 ^ (expon t - 1) - 1) e)) (sym (eq-eqb e (2 ^ expon t - 1) h))

  pub finite_size : e ≢ 2 ^ expon t - 1 → finite_text (f * 2 ^ (52 - signif t)) (2 ^ (expon t - 1) - 1) e ≡ size_text t e f
  finite_size h =
      ap (λ (b : Bool). cond b (special_text f) (finite_text (f * 2 ^ (52 - signif t)) (2 ^ (expon t - 1) - 1) e)) (sym (ne_eqb e (2 ^ expon t - 1) h))

-- a front, and what follows the sign
pub float_word : (t : FloatType) (bits : ℕ) (front size l0 l1 l2 : List ℕ)
    → front ≡ 32 ∷ sign_text (2 ^ (expon t + signif t)) bits → l1 ≡ l0 ++ front → l2 ≡ l1 ++ size
    → size ≡ size_text t (bits / 2 ^ signif t % 2 ^ expon t) (bits % 2 ^ signif t) → l2 ≡ l0 ++ words_text (spaced (float_text t bits) ∷ [])
unfolding float_text
float_word t bits front size l0 l1 l2 begins one two is =
    let sign = sign_text (2 ^ (expon t + signif t)) bits in
    let whole = sign ++ size_text t (bits / 2 ^ signif t % 2 ^ expon t) (bits % 2 ^ signif t) in
    two_pieces l0 l1 l2 front size one two
    ∙ (ap (λ (z : List ℕ). l0 ++ (z ++ size)) begins
    ∙ (ap (λ (z : List ℕ). l0 ++ (32 ∷ (sign ++ z))) is
    ∙ ap (λ (z : List ℕ). l0 ++ (32 ∷ z)) (sym (append-nil whole))))
