-- The printed text of a float writes its bits.
use Rattle.std.proofs.Common.{◌≡◌, ◌≢◌, ℕ, zero, suc, ◌<◌, ◌≤◌, ◌+◌, ◌-◌, ◌*◌, ◌/◌, ◌%◌, ◌^◌, Bool, true, false, cond, List, [], ◌∷◌, ◌++◌, length, fold, refl, sym, ap, subst, ◌∙◌, inl, inr, arith, append_assoc}
use Rattle.std.specs.Prelude.{◌==◌, codes, decimal, nat_le}
use Rattle.std.specs.List.{list_all}
use Rattle.std.proofs.lemmas.Bool.{cond-false, cond_both, eqb-true, eqb-false, ne_eqb, and_from, leb-true, leb-false, cases_lt}
use Rattle.std.proofs.lemmas.List.Folds.{list_all-append}
use native.Mathlib.Nat.{mul-pos, mul-le-mul_right, mul-lt-mul_of_pos_right, pow-suc, eq_of_mul-eq-mul_right, mod-lt, div-add-mod'}
use lib.Pow.{pow_pos, pow-add}
use lib.Arith.{digits_div, digits_mod}
use Rattle.wm_syntax.specs.declared.instructions.FloatType.{FloatType}
use Rattle.wm_syntax.specs.declared.instructions.FloatType.TheVariants as float
use Rattle.wm_write.specs.FloatText.{hex_digit, hexadecimal, places, fraction_text, exponent_text, scaled_text, finite_text, special_text, float_text}
use Rattle.wm_floats.specs.Digits.{Digits, IsDigit, value}
use Rattle.wm_floats.specs.FloatText.{Fraction, Exponent, IsHexadecimal, IsMagnitude, IsFloat, HasForm}
use Rattle.wm_syntax.specs.Floats.{signif, expon}
use Rattle.wm_floats.specs.Nearest.{infinity, least, units}
use Rattle.wm_floats.proofs.WrittenDigits.{next, fold_append}
use Rattle.wm_floats.proofs.HexDigits.{sixteen}
use Rattle.wm_floats.proofs.Rounding.{exact}
use Rattle.wm_floats.proofs.Units.{units_of_fields}
use Rattle.wm_tokens.specs.Tokens.{is_id_char, IsLiteral}
use Rattle.wm_write.proofs.PrintedNumbers.{decimal_printed}
use Rattle.wm_write.proofs.PrintedTokens.{hex_value}

-- ---- hexadecimal digits

hex_char : (d : ℕ) → d < 16 → is_id_char (hex_digit d) ≡ true
hex_char zero lt = refl
hex_char (suc zero) lt = refl
hex_char (suc (suc zero)) lt = refl
hex_char (suc (suc (suc zero))) lt = refl
hex_char (suc (suc (suc (suc zero)))) lt = refl
hex_char (suc (suc (suc (suc (suc zero))))) lt = refl
hex_char (suc (suc (suc (suc (suc (suc zero)))))) lt = refl
hex_char (suc (suc (suc (suc (suc (suc (suc zero))))))) lt = refl
hex_char (suc (suc (suc (suc (suc (suc (suc (suc zero)))))))) lt = refl
hex_char (suc (suc (suc (suc (suc (suc (suc (suc (suc zero))))))))) lt = refl
hex_char (suc (suc (suc (suc (suc (suc (suc (suc (suc (suc zero)))))))))) lt = refl
hex_char (suc (suc (suc (suc (suc (suc (suc (suc (suc (suc (suc zero))))))))))) lt = refl
hex_char (suc (suc (suc (suc (suc (suc (suc (suc (suc (suc (suc (suc zero)))))))))))) lt = refl
hex_char (suc (suc (suc (suc (suc (suc (suc (suc (suc (suc (suc (suc (suc zero))))))))))))) lt = refl
hex_char (suc (suc (suc (suc (suc (suc (suc (suc (suc (suc (suc (suc (suc (suc zero)))))))))))))) lt = refl
hex_char (suc (suc (suc (suc (suc (suc (suc (suc (suc (suc (suc (suc (suc (suc (suc zero))))))))))))))) lt = refl
hex_char (suc (suc (suc (suc (suc (suc (suc (suc (suc (suc (suc (suc (suc (suc (suc (suc d)))))))))))))))) lt = absurd (omega (arith, lt))

one_hex : (d : ℕ) → d < 16 → IsDigit 16 d (hex_digit d ∷ [])
one_hex d lt = (hex_digit d, refl, hex_value d lt, lt)

chars_both : (a b : List ℕ) → list_all is_id_char a ≡ true → list_all is_id_char b ≡ true → list_all is_id_char (a ++ b) ≡ true
chars_both a b h k = list_all-append is_id_char a b ∙ and_from (list_all is_id_char a) (list_all is_id_char b) h k

chars_cons : (c : ℕ) (b : List ℕ) → is_id_char c ≡ true → list_all is_id_char b ≡ true → list_all is_id_char (c ∷ b) ≡ true
chars_cons c b h k = and_from (is_id_char c) (list_all is_id_char b) h k

digits_snoc : (ds b : List ℕ) (d : ℕ) (c : List ℕ) → Digits 16 ds b → IsDigit 16 d c → Digits 16 (ds ++ d ∷ []) (b ++ c)
digits_snoc [] b d c h i = absurd h
digits_snoc (e ∷ []) b d c h i = (b, c, refl, h, ([], c, refl, inr refl, i))
digits_snoc (e ∷ f ∷ ds) b d c (x, y, t, h, (u, v, s, w, more)) i =
    (x, y ++ c, ap (λ (z : List ℕ). z ++ c) t ∙ append_assoc x y c, h, (u, v ++ c, ap (λ (z : List ℕ). z ++ c) s ∙ append_assoc u v c, w, digits_snoc (f ∷ ds) v d c more i))

digits_cons : (d : ℕ) (ds b : List ℕ) → d < 16 → Digits 16 ds b → Digits 16 (d ∷ ds) (hex_digit d ∷ b)
digits_cons d [] b lt h = absurd h
digits_cons d (e ∷ ds) b lt h = (hex_digit d ∷ [], b, refl, one_hex d lt, ([], b, refl, inr refl, h))

pub record IsHex (n : ℕ) (b : List ℕ) : Type 0 where
  pub digits : List ℕ
  pub text : Digits 16 digits b
  pub is : n ≡ value 16 digits
  pub chars : list_all is_id_char b ≡ true

hex_one : (n : ℕ) → n < 16 → IsHex n (hex_digit n ∷ [])
hex_one n lt = record { digits = n ∷ []; text = one_hex n lt; is = omega arith; chars = chars_cons (hex_digit n) [] (hex_char n lt) refl }

hex_more : (n : ℕ) (b : List ℕ) → IsHex (n / 16) b → IsHex n (b ++ hex_digit (n % 16) ∷ [])
hex_more n b h =
    let lt : n % 16 < 16 = omega arith in
    let q : n ≡ n / 16 * 16 + n % 16 = omega arith in
    record {
      digits = h.digits ++ n % 16 ∷ [];
      text = digits_snoc h.digits b (n % 16) (hex_digit (n % 16) ∷ []) h.text (one_hex (n % 16) lt);
      is = q ∙ ap (λ (z : ℕ). z * 16 + n % 16) h.is ∙ sym (fold_append (next 16) 0 h.digits (n % 16 ∷ []));
      chars = chars_both b (hex_digit (n % 16) ∷ []) h.chars (chars_cons (hex_digit (n % 16)) [] (hex_char (n % 16) lt) refl);
    }

hex_none : (k : ℕ) → hexadecimal k 0 ≡ []
unfolding hexadecimal
hex_none zero = refl
hex_none (suc k) = refl

hex_step : (k n : ℕ) → n ≢ 0 → hexadecimal (suc k) n ≡ hexadecimal k (n / 16) ++ hex_digit (n % 16) ∷ []
unfolding hexadecimal
hex_step k n h = cond-false (n == 0) _ _ (ne_eqb n 0 h)

pub hexadecimal_is : (k n : ℕ) → 0 < n → n < 16 ^ k → IsHex n (hexadecimal k n)
hexadecimal_is zero n some few = absurd (omega (arith, some, few))
hexadecimal_is (suc k) n some few =
    let less : n / 16 < 16 ^ k = omega (arith, few, pow-suc 16 k) in
    subst (IsHex n) (sym (hex_step k n (λ e. omega (arith, some, e)))) (by (n / 16) refl (λ p. hexadecimal_is k (n / 16) p less))
  where
    by : (q : ℕ) → n / 16 ≡ q → (0 < n / 16 → IsHex (n / 16) (hexadecimal k (n / 16))) → IsHex n (hexadecimal k (n / 16) ++ hex_digit (n % 16) ∷ [])
    by zero e front_is =
        let small : n < 16 = omega (arith, e) in
        let same : n % 16 ≡ n = omega (arith, small) in
        let front : hexadecimal k (n / 16) ≡ [] = ap (hexadecimal k) e ∙ hex_none k in
        subst (IsHex n) (sym (λ i. front i ++ hex_digit (same i) ∷ [])) (hex_one n small)
    by (suc q) e front_is = hex_more n (hexadecimal k (n / 16)) (front_is (omega (arith, e)))

-- ---- fractions

-- no digits, or some
abbrev pub DigitsOrNone : List ℕ → List ℕ → Type 0
DigitsOrNone [] b = b ≡ []
DigitsOrNone (d ∷ ds) b = Digits 16 (d ∷ ds) b

any_cons : (d : ℕ) (ds b : List ℕ) → d < 16 → DigitsOrNone ds b → Digits 16 (d ∷ ds) (hex_digit d ∷ b)
any_cons d [] b lt h = (hex_digit d, ap (λ (z : List ℕ). hex_digit d ∷ z) h, hex_value d lt, lt)
any_cons d (e ∷ ds) b lt h = digits_cons d (e ∷ ds) b lt h

-- the digits of the fraction n / 16 ^ 13
pub record IsPlaces (k n : ℕ) (b : List ℕ) : Type 0 where
  pub digits : List ℕ
  pub text : DigitsOrNone digits b
  pub few : length digits ≤ k
  pub is : value 16 digits * 16 ^ (13 - length digits) ≡ n
  pub chars : list_all is_id_char b ≡ true

value_from : (n : ℕ) (ds : List ℕ) → fold (next 16) n ds ≡ n * 16 ^ length ds + value 16 ds
value_from n [] = omega arith
value_from n (d ∷ ds) =
    value_from (n * 16 + d) ds ∙ omega (arith, ap (λ (x : ℕ). n * x) (pow-suc 16 (length ds)), ap (λ (x : ℕ). d * x) (pow-suc 16 (length ds)), value_from (0 * 16 + d) ds)

places_zero : (k : ℕ) → places k 0 ≡ []
unfolding places
places_zero zero = refl
places_zero (suc k) = refl

places_step : (k n : ℕ) → n ≢ 0 → places (suc k) n ≡ hex_digit (n / 16 ^ 12) ∷ places k (n % 16 ^ 12 * 16)
unfolding places
places_step k n h = cond-false (n == 0) _ _ (ne_eqb n 0 h)

no_places : (k n : ℕ) → n ≡ 0 → IsPlaces k n (places k n)
no_places k n e =
    subst (λ (x : ℕ). IsPlaces k x (places k x)) (sym e) (record { digits = []; text = places_zero k; few = omega arith; is = refl; chars = ap (list_all is_id_char) (places_zero k) })

-- the digits below the first one, behind it
places_more : (k n q r : ℕ) (b : List ℕ) → k ≤ 12 → q < 16 → r < 16 ^ 12 → n ≡ q * 16 ^ 12 + r → IsPlaces k (r * 16) b → IsPlaces (suc k) n (hex_digit q ∷ b)
places_more k n q r b le lt less e h =
    let len = length h.digits in
    let v = value 16 h.digits in
    let top : 13 - len ≡ suc (12 - len) = omega (arith, h.few, le) in
    let same : 13 - suc len ≡ 12 - len = omega arith in
    let one : v * 16 ^ (12 - len) * 16 ≡ r * 16 = omega (arith, ap (λ (x : ℕ). v * x) (ap (λ (x : ℕ). 16 ^ x) top ∙ pow-suc 16 (12 - len)), h.is) in
    let sum : len + (12 - len) ≡ 12 = omega (arith, h.few, le) in
    let all : 16 ^ len * 16 ^ (12 - len) ≡ 16 ^ 12 = sym (pow-add 16 len (12 - len)) ∙ ap (λ (x : ℕ). 16 ^ x) sum in
    let w : value 16 (q ∷ h.digits) ≡ q * 16 ^ len + v = value_from (0 * 16 + q) h.digits ∙ omega arith in
    record {
      digits = q ∷ h.digits;
      text = any_cons q h.digits b lt h.text;
      few = omega (arith, h.few);
      is = ap (λ (x : ℕ). value 16 (q ∷ h.digits) * 16 ^ x) same ∙ ap (λ (x : ℕ). x * 16 ^ (12 - len)) w ∙ omega (arith, ap (λ (x : ℕ). q * x) all, one, e);
      chars = chars_cons (hex_digit q) b (hex_char q lt) h.chars;
    }

no_times : (x : ℕ) → 0 * x ≡ 0
no_times x = omega arith

-- The digits of a number of k digits, followed by zeros.
pub places_are : (k a : ℕ) → k ≤ 13 → a < 16 ^ k → IsPlaces k (a * 16 ^ (13 - k)) (places k (a * 16 ^ (13 - k)))
places_are zero a le few = no_places 0 (a * 16 ^ 13) (ap (λ (x : ℕ). x * 16 ^ 13) (let z : a ≡ 0 = omega (arith, few) in z))
places_are (suc k) a le few = by a refl (λ r less. places_are k r (omega (arith, le)) less)
  where
    j : ℕ
    j = 12 - k

    by : (x : ℕ) → a ≡ x → ((r : ℕ) → r < 16 ^ k → IsPlaces k (r * 16 ^ (13 - k)) (places k (r * 16 ^ (13 - k))))
        → IsPlaces (suc k) (a * 16 ^ (13 - suc k)) (places (suc k) (a * 16 ^ (13 - suc k)))
    by zero e more = no_places (suc k) (a * 16 ^ (13 - suc k)) (ap (λ (x : ℕ). x * 16 ^ (13 - suc k)) e ∙ no_times (16 ^ (13 - suc k)))
    by (suc x) e more =
        let K : 0 < 16 ^ k = sixteen k in
        let J : 0 < 16 ^ j = sixteen j in
        let q = a / 16 ^ k in
        let r = a % 16 ^ k in
        let parts : q * 16 ^ k + r ≡ a = div-add-mod' a (16 ^ k) in
        let less : r < 16 ^ k = mod-lt a K in
        let sum : k + j ≡ 12 = omega (arith, le) in
        let all : 16 ^ k * 16 ^ j ≡ 16 ^ 12 = sym (pow-add 16 k j) ∙ ap (λ (x : ℕ). 16 ^ x) sum in
        let small : r * 16 ^ j < 16 ^ 12 = subst (λ (x : ℕ). r * 16 ^ j < x) all (mul-lt-mul_of_pos_right less J) in
        let first : q < 16 = digit_below q r (16 ^ k) (omega (arith, parts, few, pow-suc 16 k)) in
        let is : a * 16 ^ j ≡ q * 16 ^ 12 + r * 16 ^ j = ap (λ (x : ℕ). x * 16 ^ j) (sym parts) ∙ omega (arith, ap (λ (x : ℕ). q * x) all) in
        let div : a * 16 ^ j / 16 ^ 12 ≡ q = ap (λ (x : ℕ). x / 16 ^ 12) is ∙ digits_div q small in
        let left : a * 16 ^ j % 16 ^ 12 ≡ r * 16 ^ j = ap (λ (x : ℕ). x % 16 ^ 12) is ∙ digits_mod q small in
        let some : a * 16 ^ j ≢ 0 = λ z. omega (arith, mul-pos (let p : 0 < a = omega (arith, e) in p) J, z) in
        let next_j : 13 - k ≡ suc j = omega (arith, le) in
        let rest : r * 16 ^ (13 - k) ≡ r * 16 ^ j * 16 = ap (λ (x : ℕ). r * x) (ap (λ (x : ℕ). 16 ^ x) next_j ∙ pow-suc 16 j) ∙ omega arith in
        let h : IsPlaces k (r * 16 ^ j * 16) (places k (r * 16 ^ j * 16)) =
        subst (λ (x : ℕ). IsPlaces k x (places k x)) rest (more r less) in
        let same : 12 - k ≡ 13 - suc k = omega arith in
        let here : IsPlaces (suc k) (a * 16 ^ j) (places (suc k) (a * 16 ^ j)) =
        subst (IsPlaces (suc k) (a * 16 ^ j)) (sym (places_step k (a * 16 ^ j) some ∙ (λ i. hex_digit (div i) ∷ places k (left i * 16))))
        (places_more k (a * 16 ^ j) q (r * 16 ^ j) _ (omega (arith, le)) first small is h) in
        subst (λ (y : ℕ). IsPlaces (suc k) (a * 16 ^ y) (places (suc k) (a * 16 ^ y))) same here
      where
        digit_below : (q r s : ℕ) → q * s + r < 16 * s → q < 16
        digit_below q r s h = elim (cases_lt q 16) [
          | inl lt ↦ lt
          | inr ge ↦ absurd (omega (arith, h, mul-le-mul_right s ge))
        ]

-- the text of a fraction below 1, whose 13 digits make n
pub record IsPart (n : ℕ) (b : List ℕ) : Type 0 where
  pub digits : List ℕ
  pub text : Fraction 16 digits b
  pub few : length digits ≤ 13
  pub is : value 16 digits * 16 ^ (13 - length digits) ≡ n
  pub chars : list_all is_id_char b ≡ true

part_of : (n : ℕ) (b : List ℕ) → 0 < n → IsPlaces 13 n b → IsPart n (46 ∷ b)
part_of n b some h = by h.digits refl h.text
  where
    by : (ds : List ℕ) → h.digits ≡ ds → DigitsOrNone h.digits b → IsPart n (46 ∷ b)
    by [] e t = absurd (omega (arith, some, h.is, ap (λ (x : List ℕ). value 16 x * 16 ^ (13 - length x)) e))
    by (d ∷ ds) e t = record {
      digits = d ∷ ds;
      text = (46 ∷ [], b, refl, refl, subst (λ (x : List ℕ). DigitsOrNone x b) e t);
      few = subst (λ (x : List ℕ). length x ≤ 13) e h.few;
      is = ap (λ (x : List ℕ). value 16 x * 16 ^ (13 - length x)) (sym e) ∙ h.is;
      chars = chars_cons 46 b refl h.chars;
    }

pub fraction_is : (n : ℕ) → n < 16 ^ 13 → IsPart n (fraction_text n)
fraction_is n few = cond_both (n == 0) [] (46 ∷ places 13 n) (IsPart n)
    (λ e. record { digits = []; text = inl refl; few = omega arith; is = sym (eqb-true n 0 e); chars = refl })
    (λ e. part_of n (places 13 n) (positive n e) (subst (λ (x : ℕ). IsPlaces 13 x (places 13 x)) (let k : n * 16 ^ 0 ≡ n = omega arith in k) (places_are 13 n (omega arith) few)))
  where
    positive : (n : ℕ) → (n == 0) ≡ false → 0 < n
    positive zero e = absurd (let f : true ≡ false = e in cc)
    positive (suc n) e = omega arith

-- ---- exponents

pub record IsPower (bias e : ℕ) (b : List ℕ) : Type 0 where
  pub text : Exponent 112 80 (e - bias) (bias - e) b
  pub chars : list_all is_id_char b ≡ true

pub exponent_is : (bias e : ℕ) → bias < 2 ^ 64 → e < 2 ^ 64 → IsPower bias e (exponent_text bias e)
exponent_is bias e p q = cond_both (nat_le bias e) (codes "p+" ++ decimal (e - bias)) (codes "p-" ++ decimal (bias - e)) (IsPower bias e)
    (λ h. let d = decimal_printed (e - bias) (omega (arith, q)) in
    record {
      text = inr (inl (d.digits, d.is, (let z : bias - e ≡ 0 = omega (arith, leb-true bias e h) in z), (112 ∷ [], 43 ∷ decimal (e - bias), refl, inl refl, (43 ∷ [], decimal (e - bias), refl, inr refl, d.text))));
      chars = chars_both (codes "p+") (decimal (e - bias)) refl d.chars;
    })
    (λ h. let d = decimal_printed (bias - e) (omega (arith, p)) in
    let less : e < bias = leb-false bias e h in
    record {
      text = inr (inr (d.digits, (let z : e - bias ≡ 0 = omega (arith, less) in z), d.is, (112 ∷ [], 45 ∷ decimal (bias - e), refl, inl refl, (45 ∷ [], decimal (bias - e), refl, refl, d.text))));
      chars = chars_both (codes "p-") (decimal (bias - e)) refl d.chars;
    })

-- ---- numbers

-- The number that is printed, in units of the least float. x: its digits as a whole number, of which len stand behind the point, and y: what is missing to 13 of them.
in_units : (x y u s len up down b e t : ℕ) → 0 < y → x * y ≡ u * 2 ^ t → 16 ^ len * y ≡ 2 ^ s * 2 ^ t → up + b ≡ s + e + down
    → x * 2 ^ up * 2 ^ b ≡ u * 2 ^ e * (16 ^ len * 2 ^ down)
in_units x y u s len up down b e t Y a c d =
    let k : x * 2 ^ s ≡ u * 16 ^ len = eq_of_mul-eq-mul_right y Y (x * 2 ^ s) (u * 16 ^ len) (omega (arith, ap (λ z. z * 2 ^ s) a, ap (λ z. u * z) c)) in
    let p : 2 ^ up * 2 ^ b ≡ 2 ^ s * 2 ^ e * 2 ^ down =
    sym (pow-add 2 up b) ∙ ap (λ z. 2 ^ z) d ∙ pow-add 2 (s + e) down ∙ ap (λ z. z * 2 ^ down) (pow-add 2 s e) in
    omega (arith, ap (λ z. x * z) p, ap (λ z. z * (2 ^ e * 2 ^ down)) k)

-- The properties that both widths share.
pub record Shape (w : FloatType) : Type 0 where
  pub bias : ℕ
  pub bias_is : bias ≡ 2 ^ (expon w - 1) - 1
  pub least_is : least w ≡ bias + signif w - 1
  pub some : 0 < bias
  pub few : bias < 2 ^ 64
  pub fits : signif w ≤ 52
  pub top : 2 ^ expon w < 2 ^ 64

pub shape : (w : FloatType) → Shape w
shape float.F32 = record { bias = 127; bias_is = refl; least_is = refl; some = omega arith; few = omega arith; fits = omega arith; top = omega arith }
shape float.F64 = record { bias = 1023; bias_is = refl; least_is = refl; some = omega arith; few = omega arith; fits = omega arith; top = omega arith }

-- a first digit of 0 or 1, which counts 2 ^ signif in the bits' fraction f
pub scaled_is : (w : FloatType) (lead e f bits : ℕ) (first : List ℕ) → lead < 16 → Digits 16 (lead ∷ []) first → list_all is_id_char first ≡ true → 1 ≤ e → e < 2 ^ 64 → f < 2 ^ signif w
    → bits < infinity w → units w bits ≡ (lead * 2 ^ signif w + f) * 2 ^ (e - 1)
    → IsMagnitude w bits (scaled_text (codes "0x" ++ first) (f * 2 ^ (52 - signif w)) (shape w).bias e)
    × (list_all is_id_char (scaled_text (codes "0x" ++ first) (f * 2 ^ (52 - signif w)) (shape w).bias e) ≡ true)
scaled_is w lead e f bits first low text chars one word small finite is =
    let g = shape w in
    let s = signif w in
    let t = 52 - s in
    let n = f * 2 ^ t in
    let both : 2 ^ s * 2 ^ t ≡ 16 ^ 13 = sym (pow-add 2 s t) ∙ ap (λ x. 2 ^ x) (let z : s + t ≡ 52 = omega (arith, g.fits) in z) in
    let few : n < 16 ^ 13 = subst (λ (x : ℕ). n < x) both (mul-lt-mul_of_pos_right small (pow_pos t)) in
    let p = fraction_is n few in
    let k = exponent_is g.bias e g.few word in
    let len = length p.digits in
    let v = value 16 p.digits in
    let y = 16 ^ (13 - len) in
    let x = value 16 ((lead ∷ []) ++ p.digits) in
    let up = e - g.bias in
    let down = g.bias - e in
    let sum : len + (13 - len) ≡ 13 = omega (arith, p.few) in
    let all : 16 ^ len * y ≡ 16 ^ 13 = sym (pow-add 16 len (13 - len)) ∙ ap (λ (z : ℕ). 16 ^ z) sum in
    let xv : x ≡ lead * 16 ^ len + v = value_from (0 * 16 + lead) p.digits ∙ omega arith in
    let a : x * y ≡ (lead * 2 ^ s + f) * 2 ^ t = ap (λ z. z * y) xv ∙ omega (arith, ap (λ z. lead * z) all, ap (λ z. lead * z) both, p.is) in
    let c : 16 ^ len * y ≡ 2 ^ s * 2 ^ t = all ∙ sym both in
    let d : up + least w ≡ s + (e - 1) + down = omega (arith, g.least_is, g.some, one) in
    let whole : x * 2 ^ up * 2 ^ least w ≡ units w bits * (16 ^ len * 2 ^ down) =
    in_units x y (lead * 2 ^ s + f) s len up down (least w) (e - 1) t (sixteen (13 - len)) a c d ∙ ap (λ z. z * (16 ^ len * 2 ^ down)) (sym is) in
    let rest = fraction_text n ++ exponent_text g.bias e in
    let written : IsHexadecimal (x * 2 ^ up) (16 ^ len * 2 ^ down) ((codes "0x" ++ first) ++ rest) =
    (lead ∷ [], p.digits, up, down, refl, refl, (codes "0x", first ++ rest, append_assoc (codes "0x") first rest, refl, (first, rest, refl, text, (fraction_text n, exponent_text g.bias e, refl, p.text, k.text)))) in (
      inl (x * 2 ^ up, 16 ^ len * 2 ^ down, inr written, exact w (x * 2 ^ up) (16 ^ len * 2 ^ down) bits finite (mul-pos (sixteen len) (pow_pos down)) whole),
      chars_both (codes "0x" ++ first) rest (chars_both (codes "0x") first refl chars) (chars_both (fraction_text n) (exponent_text g.bias e) p.chars k.chars),
    )

-- ---- with no sign

pub record IsPrintedSize (w : FloatType) (bits : ℕ) (b : List ℕ) : Type 0 where
  pub is : IsMagnitude w bits b
  pub chars : list_all is_id_char b ≡ true

special_is : (w : FloatType) (f bits : ℕ) → f < 2 ^ signif w → f < 16 ^ 16 → bits ≡ infinity w + f → IsPrintedSize w bits (special_text f)
special_is w f bits small few e = cond_both (f == 0) (codes "inf") (codes "nan:0x" ++ hexadecimal 16 f) (IsPrintedSize w bits)
    (λ z. record { is = inr (inl (omega (arith, e, eqb-true f 0 z), refl)); chars = refl })
    (λ z. let some : 0 < f = positive f z in
    let h = hexadecimal_is 16 f some few in
    record {
      is = inr (inr (inr (f, some, small, e, (h.digits, h.is, (codes "nan:0x", hexadecimal 16 f, refl, refl, h.text)))));
      chars = chars_both (codes "nan:0x") (hexadecimal 16 f) refl h.chars;
    })
  where
    positive : (n : ℕ) → (n == 0) ≡ false → 0 < n
    positive zero e = absurd (let f : true ≡ false = e in cc)
    positive (suc n) e = omega arith

zero_is : (w : FloatType) → IsPrintedSize w 0 (codes "0x0p+0")
zero_is w =
    let z : units w 0 ≡ 0 = none w in
    record {
      is = inl (
        0,
        1,
        inr (
          0 ∷ [],
          [],
          0,
          0,
          refl,
          refl,
          (
            codes "0x",
            codes "0p+0",
            refl,
            refl,
            (
              48 ∷ [],
              codes "p+0",
              refl,
              (48, refl, refl, omega arith),
              (
                [],
                codes "p+0",
                refl,
                inl refl,
                inr (inl (0 ∷ [], refl, refl, (112 ∷ [], codes "+0", refl, inl refl, (43 ∷ [], 48 ∷ [], refl, inr refl, (48, refl, refl, omega arith))))),
              ),
            ),
          ),
        ),
        exact w 0 1 0 (some w) (omega arith) (omega (arith, z)),
      );
      chars = refl;
    }
  where
    none : (w : FloatType) → units w 0 ≡ 0
    none float.F32 = refl
    none float.F64 = refl

    some : (w : FloatType) → 0 < infinity w
    some float.F32 = omega arith
    some float.F64 = omega arith

finite_is : (w : FloatType) (e f bits : ℕ) → e < 2 ^ expon w - 1 → f < 2 ^ signif w → bits ≡ e * 2 ^ signif w + f
    → IsPrintedSize w bits (finite_text (f * 2 ^ (52 - signif w)) (shape w).bias e)
finite_is w zero f bits top small e = cond_both (f * 2 ^ (52 - signif w) == 0) (codes "0x0p+0") (scaled_text (codes "0x0") (f * 2 ^ (52 - signif w)) (shape w).bias 1) (IsPrintedSize w bits)
    (λ z. let none : f ≡ 0 = no_factor f (2 ^ (52 - signif w)) (pow_pos (52 - signif w)) (eqb-true _ 0 z) in
    let nothing : 0 ≡ bits = omega (arith, e, none) in
    subst (λ (x : ℕ). IsPrintedSize w x (codes "0x0p+0")) nothing (zero_is w))
    (λ z. let bottom : bits < infinity w = below w 0 f bits top small e in
    let plain : units w bits ≡ (0 * 2 ^ signif w + f) * 2 ^ (1 - 1) = ap (units w) e ∙ units_of_fields w 0 f small ∙ omega arith in
    let h = scaled_is w 0 1 f bits (codes "0") (omega arith) (48, refl, refl, omega arith) refl (omega arith) (omega arith) small bottom plain in
    record { is = h.0; chars = h.1 })
  where
    no_factor : (f p : ℕ) → 0 < p → f * p ≡ 0 → f ≡ 0
    no_factor zero p P e = refl
    no_factor (suc f) p P e = absurd (omega (arith, P, e))

    below : (w : FloatType) (e f bits : ℕ) → e < 2 ^ expon w - 1 → f < 2 ^ signif w → bits ≡ e * 2 ^ signif w + f → bits < infinity w
    below w e f bits top small is = omega (arith, is, small, mul-le-mul_right (2 ^ signif w) top)
finite_is w (suc e) f bits top small is =
    let word : suc e < 2 ^ 64 = omega (arith, top, (shape w).top) in
    let finite : bits < infinity w = omega (arith, is, small, mul-le-mul_right (2 ^ signif w) top) in
    let normal : units w bits ≡ (1 * 2 ^ signif w + f) * 2 ^ (suc e - 1) = ap (units w) is ∙ units_of_fields w (suc e) f small ∙ leading (2 ^ signif w) f e in
    let h = scaled_is w 1 (suc e) f bits (codes "1") (omega arith) (49, refl, refl, omega arith) refl (omega arith) word small finite normal in
    let n = f * 2 ^ (52 - signif w) in
    let b = (shape w).bias in
    let scaled : IsPrintedSize w bits (scaled_text (codes "0x1") n b (suc e)) = record { is = h.0; chars = h.1 } in
    subst (IsPrintedSize w bits) (sym (normal_text n b e)) scaled
  where
    leading : (s f e : ℕ) → (s + f) * 2 ^ e ≡ (1 * s + f) * 2 ^ (suc e - 1)
    leading s f e =
        let one : s ≡ 1 * s = omega arith in
        let down : e ≡ suc e - 1 = omega arith in
        ap (λ (x : ℕ). (x + f) * 2 ^ e) one ∙ ap (λ (x : ℕ). (1 * s + f) * 2 ^ x) down

    normal_text : (n b e : ℕ) → finite_text n b (suc e) ≡ scaled_text (codes "0x1") n b (suc e)
    normal_text n b e = cond-false (suc e == 0) _ _ (ne_eqb (suc e) 0 (λ z. omega (arith, z)))

-- the text of a size, by the two fields of its bits
abbrev pub fields_text : FloatType → ℕ → ℕ → List ℕ
fields_text w e f = cond (e == 2 ^ expon w - 1) (special_text f) (finite_text (f * 2 ^ (52 - signif w)) (shape w).bias e)

pub size_is : (w : FloatType) (e f : ℕ) → e < 2 ^ expon w → f < 2 ^ signif w → f < 16 ^ 16 → IsPrintedSize w (e * 2 ^ signif w + f) (fields_text w e f)
size_is w e f top small few = cond_both (e == 2 ^ expon w - 1) (special_text f) (finite_text (f * 2 ^ (52 - signif w)) (shape w).bias e) (IsPrintedSize w (e * 2 ^ signif w + f))
    (λ z. special_is w f (e * 2 ^ signif w + f) small few (ap (λ (x : ℕ). x * 2 ^ signif w + f) (eqb-true e (2 ^ expon w - 1) z)))
    (λ z. finite_is w e f (e * 2 ^ signif w + f) (omega (arith, top, eqb-false e (2 ^ expon w - 1) z)) small refl)

-- ---- with a sign

pub record IsPrintedFloat (w : FloatType) (bits : ℕ) (b : List ℕ) : Type 0 where
  pub is : IsFloat w bits b
  pub chars : list_all is_id_char b ≡ true

signed_is : (w : FloatType) (bits m : ℕ) (b : List ℕ) (t : Bool) → IsPrintedSize w m b → bits ≡ cond t (2 ^ (signif w + expon w) + m) m → IsPrintedFloat w bits (cond t (45 ∷ []) [] ++ b)
signed_is w bits m b true h e = record { is = inr (m, e, (45 ∷ [], b, refl, refl, h.is)); chars = chars_cons 45 b refl h.chars }
signed_is w bits m b false h e = record { is = inl ([], b, refl, inl refl, subst (λ (x : ℕ). IsMagnitude w x b) (sym e) h.is); chars = h.chars }

pub printed_float : (w : FloatType) (bits : ℕ) → bits < 2 * 2 ^ (signif w + expon w) → IsPrintedFloat w bits (float_text w bits)
unfolding float_text shape
printed_float float.F32 bits few =
    let e = bits / 2 ^ 23 % 2 ^ 8 in
    let f = bits % 2 ^ 23 in
    let h = size_is float.F32 e f (omega arith) (omega arith) (omega arith) in
    signed_is float.F32 bits (e * 2 ^ 23 + f) (fields_text float.F32 e f) (nat_le (2 ^ 31) bits) h
    (cond_both (nat_le (2 ^ 31) bits) (2 ^ 31 + (e * 2 ^ 23 + f)) (e * 2 ^ 23 + f) (λ z. bits ≡ z)
    (λ t. omega (arith, few, leb-true (2 ^ 31) bits t)) (λ t. omega (arith, leb-false (2 ^ 31) bits t)))
printed_float float.F64 bits few =
    let e = bits / 2 ^ 52 % 2 ^ 11 in
    let f = bits % 2 ^ 52 in
    let h = size_is float.F64 e f (omega arith) (omega arith) (omega arith) in
    signed_is float.F64 bits (e * 2 ^ 52 + f) (fields_text float.F64 e f) (nat_le (2 ^ 63) bits) h
    (cond_both (nat_le (2 ^ 63) bits) (2 ^ 63 + (e * 2 ^ 52 + f)) (e * 2 ^ 52 + f) (λ z. bits ≡ z)
    (λ t. omega (arith, few, leb-true (2 ^ 63) bits t)) (λ t. omega (arith, leb-false (2 ^ 63) bits t)))

-- ---- as an atom

magnitude_form : (w : FloatType) (bits : ℕ) (b : List ℕ) → IsMagnitude w bits b → HasForm b
magnitude_form w bits b (inl (num, den, f, near)) = inl (num, den, f)
magnitude_form w bits b (inr (inl (e, h))) = inr (inl h)
magnitude_form w bits b (inr (inr (inl (e, h)))) = inr (inr (inl h))
magnitude_form w bits b (inr (inr (inr (n, some, few, e, p)))) = inr (inr (inr (n, p)))

pub float_literal : (w : FloatType) (bits : ℕ) (b : List ℕ) → IsFloat w bits b → IsLiteral b
float_literal w bits b (inl (s, m, all, inl none, h)) =
    inl (subst HasForm (sym (all ∙ ap (λ (z : List ℕ). z ++ m) none)) (magnitude_form w bits m h))
float_literal w bits b (inl (s, m, all, inr plus, h)) = inr (inl (s, m, all, plus, magnitude_form w bits m h))
float_literal w bits b (inr (size, e, (s, m, all, minus, h))) = inr (inr (s, m, all, minus, magnitude_form w size m h))
