-- The printed text of a number writes it.
use Rattle.std.proofs.Common.{◌≡◌, ℕ, zero, suc, ◌<◌, ◌≤◌, ◌+◌, ◌-◌, ◌*◌, ◌/◌, ◌%◌, true, List, [], ◌∷◌, ◌++◌, Some, refl, sym, ap, subst, ◌∙◌, inl, inr, arith, append_assoc}
use Rattle.std.specs.Prelude.{◌&&◌, decimal, fold, nat_le, ◌^◌, ℤ, pos, negsuc}
use Rattle.std.specs.Fmt.{signed_decimal}
use Rattle.std.specs.List.{list_all}
use Rattle.std.proofs.lemmas.Bool.{cond-true, and_from, le-leb}
use Rattle.std.proofs.lemmas.List.Folds.{list_all-append}
use Rattle.std.proofs.lemmas.Fmt.{decimal_by_steps}
use Rattle.wm_syntax.specs.Leb128.{FitsBits}
use Rattle.wm_tokens.specs.Tokens.{Digits, IsDigit, digit_value, is_digit, is_id_char, value, Magnitude, IsUnsigned, IsInteger, IsNumber}
use Rattle.wm_tokens.proofs.Basics.{same_some}
use Rattle.wm_tokens.proofs.Atoms.{magnitude_more}

-- ---- a digit

digit_char : (m : ℕ) → m < 10 → is_digit (48 + m) ≡ true
digit_char m lt = and_from (nat_le 48 (48 + m)) (nat_le (48 + m) 57) (le-leb 48 (48 + m) (omega arith)) (le-leb (48 + m) 57 (omega (arith, lt)))

digit_is : (m : ℕ) → m < 10 → digit_value (48 + m) ≡ Some m
digit_is m lt = cond-true (is_digit (48 + m)) _ _ (digit_char m lt) ∙ ap Some (omega arith)

one_digit : (m : ℕ) → m < 10 → IsDigit 10 m ((48 + m) ∷ [])
one_digit m lt = (48 + m, refl, digit_is m lt, lt)

char_is : (m : ℕ) → m < 10 → is_id_char (48 + m) ≡ true
char_is zero lt = refl
char_is (suc zero) lt = refl
char_is (suc (suc zero)) lt = refl
char_is (suc (suc (suc zero))) lt = refl
char_is (suc (suc (suc (suc zero)))) lt = refl
char_is (suc (suc (suc (suc (suc zero))))) lt = refl
char_is (suc (suc (suc (suc (suc (suc zero)))))) lt = refl
char_is (suc (suc (suc (suc (suc (suc (suc zero))))))) lt = refl
char_is (suc (suc (suc (suc (suc (suc (suc (suc zero)))))))) lt = refl
char_is (suc (suc (suc (suc (suc (suc (suc (suc (suc zero))))))))) lt = refl
char_is (suc (suc (suc (suc (suc (suc (suc (suc (suc (suc m)))))))))) lt = absurd (omega (arith, lt))

-- ---- decimals

digits_snoc : (ds b : List ℕ) (d : ℕ) (c : List ℕ) → Digits 10 ds b → IsDigit 10 d c → Digits 10 (ds ++ d ∷ []) (b ++ c)
digits_snoc [] b d c h i = absurd h
digits_snoc (e ∷ []) b d c h i = (b, c, refl, h, ([], c, refl, inr refl, i))
digits_snoc (e ∷ f ∷ ds) b d c (x, y, t, h, (u, v, s, w, more)) i =
    (x, y ++ c, ap (λ (z : List ℕ). z ++ c) t ∙ append_assoc x y c, h, (u, v ++ c, ap (λ (z : List ℕ). z ++ c) s ∙ append_assoc u v c, w, digits_snoc (f ∷ ds) v d c more i))

value_onto : (ds : List ℕ) (n d : ℕ) → fold (λ n d. n * 10 + d) n (ds ++ d ∷ []) ≡ fold (λ n d. n * 10 + d) n ds * 10 + d
value_onto [] n d = refl
value_onto (e ∷ ds) n d = value_onto ds (n * 10 + e) d

-- digits of this value, of which each is a character of atoms
pub record IsPrinted (n : ℕ) (b : List ℕ) : Type 0 where
  pub digits : List ℕ
  pub text : Digits 10 digits b
  pub is : n ≡ value 10 digits
  pub chars : list_all is_id_char b ≡ true

printed_more : (n : ℕ) (b : List ℕ) → 10 ≤ n → IsPrinted (n / 10) b → IsPrinted n (b ++ (48 + n % 10) ∷ [])
printed_more n b le h =
    let lt : n % 10 < 10 = omega arith in
    record {
      digits = h.digits ++ n % 10 ∷ [];
      text = digits_snoc h.digits b (n % 10) ((48 + n % 10) ∷ []) h.text (one_digit (n % 10) lt);
      is = (let q : n ≡ (n / 10) * 10 + n % 10 = omega arith in q) ∙ ap (λ (z : ℕ). z * 10 + n % 10) h.is ∙ sym (value_onto h.digits 0 (n % 10));
      chars = list_all-append is_id_char b ((48 + n % 10) ∷ []) ∙ (ap (λ z. z && (is_id_char (48 + n % 10) && true)) h.chars ∙ ap (λ z. z && true) (char_is (n % 10) lt));
    }

printed_one : (n : ℕ) → n < 10 → IsPrinted n ((48 + n) ∷ [])
printed_one n lt = record {
  digits = n ∷ [];
  text = one_digit n lt;
  is = omega arith;
  chars = ap (λ z. z && true) (char_is n lt);
}

pub decimal_printed : (n : ℕ) → n < 2 ^ 64 → IsPrinted n (decimal n)
decimal_printed n lt = decimal_by_steps IsPrinted printed_one printed_more n lt

pub decimal_magnitude : (n : ℕ) → n < 2 ^ 64 → Magnitude n (decimal n)
decimal_magnitude n lt = let h = decimal_printed n lt in inl (h.digits, h.text, h.is)

pub decimal_text : (n : ℕ) → n < 2 ^ 32 → IsUnsigned 32 n (decimal n)
decimal_text n lt = (lt, decimal_magnitude n (omega arith))

-- two numbers are not printed alike
pub one_decimal : (m n : ℕ) → m < 2 ^ 64 → n < 2 ^ 64 → decimal m ≡ decimal n → m ≡ n
one_decimal m n p q e =
    let first = magnitude_more m (decimal n) (subst (Magnitude m) e (decimal_magnitude m p)) in
    let second = magnitude_more n (decimal n) (decimal_magnitude n q) in
    same_some m n (sym first ∙ second)

-- ---- constants, with a minus where they are negative

pub signed_text : (bits : ℕ) (z : ℤ) → 2 ^ (bits - 1) < 2 ^ 64 → FitsBits bits z → IsInteger bits z (signed_decimal z)
signed_text bits (pos n) most fits = (n, inl (fits, refl, decimal_magnitude n (omega arith)))
signed_text bits (negsuc n) most fits =
    (suc n, inr (inr (inr (omega arith, refl, (45 ∷ [], decimal (suc n), refl, refl, decimal_magnitude (suc n) (omega arith))))))

pub signed_chars : (z : ℤ) → FitsBits 64 z → list_all is_id_char (signed_decimal z) ≡ true
signed_chars (pos n) fits = (decimal_printed n (omega arith)).chars
signed_chars (negsuc n) fits = (decimal_printed (suc n) (omega arith)).chars

pub signed_number : (z : ℤ) → FitsBits 64 z → IsNumber (signed_decimal z)
signed_number (pos n) fits = (n, inl (decimal_magnitude n (omega arith)))
signed_number (negsuc n) fits = (suc n, inr (inr (45 ∷ [], decimal (suc n), refl, refl, decimal_magnitude (suc n) (omega arith))))
