-- The numbers that the standard describes are those that the code splits into parts.
use Rattle.std.proofs.Common.{◌≡◌, ℕ, ◌≤◌, ◌⊎◌, Bool, true, false, cond, List, [], ◌∷◌, ◌++◌, length, fold, Some, None, ◌≢◌, refl, sym, ap, subst, ◌∙◌, inl, inr, arith, append_assoc}
use Rattle.std.specs.Prelude.{◌==◌, ◌&&◌, ◌||◌}
use Rattle.std.specs.Char.{is_digit}
use Rattle.std.specs.Str.Parse.{digits_value, digits_value_after}
use Rattle.std.proofs.lemmas.Bool.{cond-true, cond-false, eqb-true, eq-eqb, ne_eqb, and_parts, or_from}
use Rattle.wm_syntax.specs.Spelling.{Form, Byte, ◌▸◌, ◌∣◌}
use Rattle.wm_floats.specs.Digits.{Digits, value}
use Rattle.wm_floats.specs.FloatText.{Fraction, Exponent}
use Rattle.wm_floats.specs.exact.Atoms.{Numeral, are_digits, are_digits_or_none, plain, is_mark, cut, tail, both_sides, around_point, signed, exponent_of, with_exponent, numeral_of, digits_of, places, up, down}
use Rattle.wm_floats.proofs.Basics.{chosen, same_some, none_some}
use Rattle.wm_floats.proofs.Cutting.{HasNone, BeginsMark, cut_more, cut_joins, mark_is}
use Rattle.wm_floats.proofs.WrittenDigits.{next, digits_write, digits_are, fold_append}
use Rattle.wm_floats.proofs.NumeralParts.{both_found, numeral_read, numeral_is}
use Rattle.wm_floats.proofs.Underscores.{after_append}

-- ---- no digit is a mark

pub record NotDigit (base x : ℕ) : Type 0 where
  pub none : is_digit x base ≡ false
  pub other : x ≢ 95

under_passes : (x c : ℕ) → x ≢ 95 → c ≡ 95 → (c == x) ≡ false
under_passes x c n e = ne_eqb c x (λ k. n (sym k ∙ e))

digit_passes : (base x c : ℕ) → is_digit x base ≡ false → is_digit c base ≡ true → (c == x) ≡ false
digit_passes base x c n d = ne_eqb c x (λ k. let f : false ≡ true = sym n ∙ ap (λ (z : ℕ). is_digit z base) (sym k) ∙ d in let g : false ≡ true = f in cc)

pub no_marks : (base x y : ℕ) (after : Bool) (b : List ℕ) → NotDigit base x → NotDigit base y → are_digits base after b ≡ true → HasNone x y b
no_marks base x y after [] p q e = tt
no_marks base x y after (c ∷ b) p q e = elim (chosen ((c == 95) && after) (are_digits base false b) _ true e) [
  | inl r ↦ (
      let u : c ≡ 95 = eqb-true c 95 (and_parts (c == 95) after r.0).0 in
      (or_from (c == x) (c == y) (under_passes x c p.other u) (under_passes y c q.other u), no_marks base x y false b p q r.1))
  | inr r ↦ elim (chosen (is_digit c base) (are_digits base true b) false true r.1) [
    | inl s ↦ (or_from (c == x) (c == y) (digit_passes base x c p.none s.0) (digit_passes base y c q.none s.0), no_marks base x y true b p q s.1)
    | inr s ↦ absurd (let f : false ≡ true = s.1 in cc)
  ]
]

none_append : (x y : ℕ) (a b : List ℕ) → HasNone x y a → HasNone x y b → HasNone x y (a ++ b)
none_append x y [] b h k = k
none_append x y (c ∷ a) b h k = (h.0, none_append x y a b h.1 k)

-- The letters of an exponent and the point are no digits of a base.
pub record Marks (base lower upper : ℕ) : Type 0 where
  pub small : base ≤ 16
  pub lower_is : NotDigit base lower
  pub upper_is : NotDigit base upper
  pub point_is : NotDigit base 46
  pub apart : is_mark lower upper 46 ≡ false

not_digit : (base x : ℕ) → is_digit x base ≡ false → (x == 95) ≡ false → NotDigit base x
not_digit base x d n = record { none = d; other = λ e. let f : true ≡ false = sym (eq-eqb x 95 e) ∙ n in let g : true ≡ false = f in cc }

pub decimal_marks : Marks 10 101 69
decimal_marks = record { small = omega arith; lower_is = not_digit 10 101 refl refl; upper_is = not_digit 10 69 refl refl; point_is = not_digit 10 46 refl refl; apart = refl }

pub hexadecimal_marks : Marks 16 112 80
hexadecimal_marks = record { small = omega arith; lower_is = not_digit 16 112 refl refl; upper_is = not_digit 16 80 refl refl; point_is = not_digit 16 46 refl refl; apart = refl }

-- ---- fractions

pub record Part (base x y : ℕ) (ds p : List ℕ) : Type 0 where
  pub begins : BeginsMark 46 46 p
  pub free : HasNone x y p
  pub are : are_digits_or_none base (tail p) ≡ true
  pub value_is : (n : ℕ) → digits_value_after base n (plain (tail p)) ≡ fold (next base) n ds
  pub count : length (plain (tail p)) ≡ length ds

digits_or_none : (base : ℕ) (b : List ℕ) → are_digits base false b ≡ true → are_digits_or_none base b ≡ true
digits_or_none base [] e = refl
digits_or_none base (c ∷ b) e = e

pub part_told : (base x y : ℕ) (ds p : List ℕ) → Marks base x y → Fraction base ds p → Part base x y ds p
part_told base x y [] p m (inl e) =
    subst (Part base x y []) (sym e) (record { begins = tt; free = tt; are = refl; value_is = λ n. refl; count = refl })
part_told base x y [] p m (inr e) =
    subst (Part base x y []) (sym e) (record { begins = refl; free = (m.apart, tt); are = refl; value_is = λ n. refl; count = refl })
part_told base x y (d ∷ ds) p m (f, b, all, point, h) =
    let text : p ≡ 46 ∷ b = all ∙ ap (λ (z : List ℕ). z ++ b) point in
    let w = digits_write base (d ∷ ds) b (omega (arith, m.small)) h in
    subst (Part base x y (d ∷ ds)) (sym text) (record {
      begins = refl;
      free = (m.apart, no_marks base x y false b m.lower_is m.upper_is (w.are false));
      are = digits_or_none base b (w.are false);
      value_is = w.value_is;
      count = w.count;
    })

pub part_back : (base : ℕ) (p : List ℕ) → base ≤ 16 → BeginsMark 46 46 p → are_digits_or_none base (tail p) ≡ true → (ds : List ℕ) × Fraction base ds p
part_back base [] h b e = ([], inl refl)
part_back base (c ∷ []) h b e = ([], inr (ap (λ (z : ℕ). z ∷ []) (is_point c b)))
  where
    is_point : (c : ℕ) → is_mark 46 46 c ≡ true → c ≡ 46
    is_point c b = elim (mark_is 46 46 c b) [ inl k ↦ k | inr k ↦ k ]
part_back base (c ∷ x ∷ r) h b e =
    let g = digits_are base (x ∷ r) h e in
    (g.0 ∷ g.1, (46 ∷ [], x ∷ r, ap (λ (z : ℕ). z ∷ x ∷ r) (is_point c b), refl, g.2))
  where
    is_point : (c : ℕ) → is_mark 46 46 c ≡ true → c ≡ 46
    is_point c b = elim (mark_is 46 46 c b) [ inl k ↦ k | inr k ↦ k ]

-- ---- exponents

pub record Power (x y u d : ℕ) (b : List ℕ) : Type 0 where
  pub power : Bool × List ℕ
  pub begins : BeginsMark x y b
  pub is : exponent_of b ≡ Some power
  pub up_is : cond power.0 0 (digits_value 10 (plain power.1)) ≡ u
  pub down_is : cond power.0 (digits_value 10 (plain power.1)) 0 ≡ d

mark_true : (x y c : ℕ) → (c ≡ x) ⊎ (c ≡ y) → is_mark x y c ≡ true
mark_true x y c (inl e) = by (c == y) (eq-eqb c x e)
  where
    by : (t : Bool) → (c == x) ≡ true → ((c == x) || t) ≡ true
    by t e = ap (λ (s : Bool). s || t) e
mark_true x y c (inr e) = by (c == x) (eq-eqb c y e)
  where
    by : (t : Bool) → (c == y) ≡ true → (t || (c == y)) ≡ true
    by true e = refl
    by false e = e

-- one of two letters
letter : (x y : ℕ) (f : List ℕ) → (Byte x ∣ Byte y) f → (c : ℕ) × (f ≡ c ∷ []) × ((c ≡ x) ⊎ (c ≡ y))
letter x y f (inl e) = (x, e, inl refl)
letter x y f (inr e) = (y, e, inr refl)

-- digits with no sign are signed digits
no_sign : (b : List ℕ) → are_digits 10 false b ≡ true → signed b ≡ (false, b)
no_sign [] e = refl
no_sign (c ∷ b) e = cond-false (c == 43) _ _ (apart 43 refl) ∙ cond-false (c == 45) _ _ (apart 45 refl)
  where
    apart : (s : ℕ) → are_digits 10 false (s ∷ b) ≡ false → (c == s) ≡ false
    apart s n = ne_eqb c s (λ k. let f : false ≡ true = sym n ∙ ap (λ (z : ℕ). are_digits 10 false (z ∷ b)) (sym k) ∙ e in let g : false ≡ true = f in cc)

exponent_is : (c : ℕ) (b : List ℕ) (s : Bool × List ℕ) → signed b ≡ s → are_digits 10 false s.1 ≡ true → exponent_of (c ∷ b) ≡ Some s
exponent_is c b s e h = cond-true (are_digits 10 false (signed b).1) _ _ (ap (λ (z : Bool × List ℕ). are_digits 10 false z.1) e ∙ h) ∙ ap Some e

pub power_told : (x y u d : ℕ) (b : List ℕ) → Exponent x y u d b → Power x y u d b
power_told x y u d b (inl (p, q, e)) =
    subst (Power x y u d) (sym e) (record { power = (false, []); begins = tt; is = refl; up_is = sym p; down_is = sym q })
power_told x y u d b (inr (inl (ds, p, q, (f, r, all, l, (s, t, parts, inl none, h))))) =
    let g = letter x y f l in
    let w = digits_write 10 ds t (omega arith) h in
    let text : b ≡ g.0 ∷ t = all ∙ ap (λ (z : List ℕ). z ++ r) g.1 ∙ ap (λ (z : List ℕ). g.0 ∷ z) (parts ∙ ap (λ (z : List ℕ). z ++ t) none) in
    let v : digits_value 10 (plain t) ≡ u = w.value_is 0 ∙ sym p in
    subst (Power x y u d) (sym text) (record { power = (false, t); begins = mark_true x y g.0 g.2; is = exponent_is g.0 t (false, t) (no_sign t (w.are false)) (w.are false); up_is = v; down_is = sym q })
power_told x y u d b (inr (inl (ds, p, q, (f, r, all, l, (s, t, parts, inr plus, h))))) =
    let g = letter x y f l in
    let w = digits_write 10 ds t (omega arith) h in
    let text : b ≡ g.0 ∷ 43 ∷ t = all ∙ ap (λ (z : List ℕ). z ++ r) g.1 ∙ ap (λ (z : List ℕ). g.0 ∷ z) (parts ∙ ap (λ (z : List ℕ). z ++ t) plus) in
    let v : digits_value 10 (plain t) ≡ u = w.value_is 0 ∙ sym p in
    subst (Power x y u d) (sym text) (record { power = (false, t); begins = mark_true x y g.0 g.2; is = exponent_is g.0 (43 ∷ t) (false, t) refl (w.are false); up_is = v; down_is = sym q })
power_told x y u d b (inr (inr (ds, p, q, (f, r, all, l, (s, t, parts, minus, h))))) =
    let g = letter x y f l in
    let w = digits_write 10 ds t (omega arith) h in
    let text : b ≡ g.0 ∷ 45 ∷ t = all ∙ ap (λ (z : List ℕ). z ++ r) g.1 ∙ ap (λ (z : List ℕ). g.0 ∷ z) (parts ∙ ap (λ (z : List ℕ). z ++ t) minus) in
    let v : digits_value 10 (plain t) ≡ d = w.value_is 0 ∙ sym q in
    subst (Power x y u d) (sym text) (record { power = (true, t); begins = mark_true x y g.0 g.2; is = exponent_is g.0 (45 ∷ t) (true, t) refl (w.are false); up_is = sym p; down_is = v })

-- The other direction.
letter_back : (x y c : ℕ) → is_mark x y c ≡ true → (Byte x ∣ Byte y) (c ∷ [])
letter_back x y c e = elim (mark_is x y c e) [ inl k ↦ inl (ap (λ (z : ℕ). z ∷ []) k) | inr k ↦ inr (ap (λ (z : ℕ). z ∷ []) k) ]

-- The digits that follow a letter, and the sign before them.
signed_back : (b : List ℕ) (e : Bool × List ℕ) → are_digits 10 false (signed b).1 ≡ true → signed b ≡ e
    → (d : ℕ) × (ds : List ℕ) × Digits 10 (d ∷ ds) e.1 × (((e.0 ≡ false) × ((b ≡ e.1) ⊎ (b ≡ 43 ∷ e.1))) ⊎ ((e.0 ≡ true) × (b ≡ 45 ∷ e.1)))
signed_back [] e h s = absurd (let f : false ≡ true = h in cc)
signed_back (c ∷ b) e h s =
    let are : are_digits 10 false e.1 ≡ true = ap (λ (z : Bool × List ℕ). are_digits 10 false z.1) (sym s) ∙ h in
    let g = digits_are 10 e.1 (omega arith) are in (
      g.0,
      g.1,
      g.2,
      elim (chosen (c == 43) (false, b) _ e s) [
        | inl p ↦ inl (ap (λ (z : Bool × List ℕ). z.0) (sym p.1), inr (ap (λ (z : ℕ). z ∷ b) (eqb-true c 43 p.0) ∙ ap (λ (z : Bool × List ℕ). 43 ∷ z.1) p.1))
        | inr p ↦ elim (chosen (c == 45) (true, b) (false, c ∷ b) e p.1) [
          | inl q ↦ inr (ap (λ (z : Bool × List ℕ). z.0) (sym q.1), ap (λ (z : ℕ). z ∷ b) (eqb-true c 45 q.0) ∙ ap (λ (z : Bool × List ℕ). 45 ∷ z.1) q.1)
          | inr q ↦ inl (ap (λ (z : Bool × List ℕ). z.0) (sym q.1), inl (ap (λ (z : Bool × List ℕ). z.1) q.1))
        ]
      ],
    )

pub power_back : (x y : ℕ) (b : List ℕ) (e : Bool × List ℕ) → BeginsMark x y b → exponent_of b ≡ Some e
    → Exponent x y (cond e.0 0 (digits_value 10 (plain e.1))) (cond e.0 (digits_value 10 (plain e.1)) 0) b
power_back x y [] e m h =
    let k = same_some (false, []) e h in
    inl (ap (λ (z : Bool × List ℕ). cond z.0 0 (digits_value 10 (plain z.1))) (sym k), ap (λ (z : Bool × List ℕ). cond z.0 (digits_value 10 (plain z.1)) 0) (sym k), refl)
power_back x y (c ∷ b) e m h = elim (chosen (are_digits 10 false (signed b).1) (Some (signed b)) None (Some e) h) [
  | inl p ↦ by (signed_back b e p.0 (same_some (signed b) e p.1))
  | inr p ↦ absurd (none_some e p.1)
]
  where
    by : ((d : ℕ) × (ds : List ℕ) × Digits 10 (d ∷ ds) e.1 × (((e.0 ≡ false) × ((b ≡ e.1) ⊎ (b ≡ 43 ∷ e.1))) ⊎ ((e.0 ≡ true) × (b ≡ 45 ∷ e.1))))
        → Exponent x y (cond e.0 0 (digits_value 10 (plain e.1))) (cond e.0 (digits_value 10 (plain e.1)) 0) (c ∷ b)
    by (d, ds, k, inl (f, inl none)) =
        let v = (digits_write 10 (d ∷ ds) e.1 (omega arith) k).value_is 0 in
        inr (inl (
          d ∷ ds,
          ap (λ (t : Bool). cond t 0 (digits_value 10 (plain e.1))) f ∙ v,
          ap (λ (t : Bool). cond t (digits_value 10 (plain e.1)) 0) f,
          (c ∷ [], b, refl, letter_back x y c m, ([], e.1, none, inl refl, k)),
        ))
    by (d, ds, k, inl (f, inr plus)) =
        let v = (digits_write 10 (d ∷ ds) e.1 (omega arith) k).value_is 0 in
        inr (inl (
          d ∷ ds,
          ap (λ (t : Bool). cond t 0 (digits_value 10 (plain e.1))) f ∙ v,
          ap (λ (t : Bool). cond t (digits_value 10 (plain e.1)) 0) f,
          (c ∷ [], b, refl, letter_back x y c m, (43 ∷ [], e.1, plus, inr refl, k)),
        ))
    by (d, ds, k, inr (t, minus)) =
        let v = (digits_write 10 (d ∷ ds) e.1 (omega arith) k).value_is 0 in
        inr (inr (
          d ∷ ds,
          ap (λ (t : Bool). cond t 0 (digits_value 10 (plain e.1))) t,
          ap (λ (t : Bool). cond t (digits_value 10 (plain e.1)) 0) t ∙ v,
          (c ∷ [], b, refl, letter_back x y c m, (45 ∷ [], e.1, minus, refl, k)),
        ))

-- ---- numbers

abbrev pub Number : ℕ → ℕ → ℕ → List ℕ → List ℕ → ℕ → ℕ → Form ℕ
Number base x y whole part u d = Digits base whole ▸ Fraction base part ▸ Exponent x y u d

-- The code's parts of a number that has this form.
pub record Taken (base x y : ℕ) (whole part : List ℕ) (u d : ℕ) (b : List ℕ) : Type 0 where
  pub numeral : Numeral
  pub is : numeral_of base x y b ≡ Some numeral
  pub value_is : digits_value base (digits_of numeral) ≡ value base (whole ++ part)
  pub places_are : places numeral ≡ length part
  pub up_is : up numeral ≡ u
  pub down_is : down numeral ≡ d

pub number_taken : (base x y : ℕ) (whole part : List ℕ) (u d : ℕ) (b : List ℕ) → Marks base x y → Number base x y whole part u d b → Taken base x y whole part u d b
number_taken base x y whole part u d b m (a, r, all, digits, (p, e, rest, fraction, exponent)) =
    let w = digits_write base whole a (omega (arith, m.small)) digits in
    let q = part_told base x y part p m fraction in
    let k = power_told x y u d e exponent in
    let text : b ≡ (a ++ p) ++ e = all ∙ ap (λ (z : List ℕ). a ++ z) rest ∙ sym (append_assoc a p e) in
    let c : cut x y b ≡ (a ++ p, e) =
    ap (cut x y) text ∙ cut_more x y (a ++ p) e (none_append x y a p (no_marks base x y false a m.lower_is m.upper_is (w.are false)) q.free) k.begins in
    let s : cut 46 46 (a ++ p) ≡ (a, p) = cut_more 46 46 a p (no_marks base 46 46 false a m.point_is m.point_is (w.are false)) q.begins in
    let sides : around_point base (a ++ p) ≡ Some (a, tail p) =
    ap (λ (z : List ℕ × List ℕ). both_sides base z.0 (tail z.1)) s ∙ cond-true (are_digits base false a) _ _ (w.are false) ∙ cond-true (are_digits_or_none base (tail p)) _ _ q.are in
    record {
      numeral = with_exponent (a, tail p) k.power;
      is =
          numeral_is base x y b (a, tail p) k.power (ap (λ (z : List ℕ × List ℕ). around_point base z.0) c ∙ sides) (ap (λ (z : List ℕ × List ℕ). exponent_of z.1) c ∙ k.is);
      value_is =
          after_append base 0 (plain a) (plain (tail p)) ∙ ap (λ (n : ℕ). digits_value_after base n (plain (tail p))) (w.value_is 0)
          ∙ q.value_is (value base whole) ∙ sym (fold_append (next base) 0 whole part);
      places_are = q.count;
      up_is = k.up_is;
      down_is = k.down_is;
    }

-- The other direction: a number that the code splits has this form.
pub record Given (base x y : ℕ) (n : Numeral) (b : List ℕ) : Type 0 where
  pub whole : List ℕ
  pub part : List ℕ
  pub value_is : digits_value base (digits_of n) ≡ value base (whole ++ part)
  pub places_are : places n ≡ length part
  pub written : Number base x y whole part (up n) (down n) b

given_of : (base x y : ℕ) (a p e b : List ℕ) (k : Bool × List ℕ) → Marks base x y → b ≡ (a ++ p) ++ e → BeginsMark 46 46 p → BeginsMark x y e
    → are_digits base false a ≡ true → are_digits_or_none base (tail p) ≡ true → exponent_of e ≡ Some k → Given base x y (with_exponent (a, tail p) k) b
given_of base x y a p e b k m text point mark are rest h =
    let g = digits_are base a m.small are in
    let f = part_back base p m.small point rest in
    let w = digits_write base (g.0 ∷ g.1) a (omega (arith, m.small)) g.2 in
    let q = part_told base x y f.0 p m f.1 in
    record {
      whole = g.0 ∷ g.1;
      part = f.0;
      value_is =
          after_append base 0 (plain a) (plain (tail p)) ∙ ap (λ (n : ℕ). digits_value_after base n (plain (tail p))) (w.value_is 0)
          ∙ q.value_is (value base (g.0 ∷ g.1)) ∙ sym (fold_append (next base) 0 (g.0 ∷ g.1) f.0);
      places_are = q.count;
      written = (a, p ++ e, text ∙ append_assoc a p e, g.2, (p, e, refl, f.1, power_back x y e k mark h));
    }

pub number_given : (base x y : ℕ) (b : List ℕ) (n : Numeral) → Marks base x y → numeral_of base x y b ≡ Some n → Given base x y n b
number_given base x y b n m h =
    let r = numeral_read base x y b n h in
    let front = (cut x y b).0 in
    let s = both_found base (cut 46 46 front).0 (tail (cut 46 46 front).1) r.sides r.point in
    let j = cut_joins x y b in
    let i = cut_joins 46 46 front in
    let text : b ≡ ((cut 46 46 front).0 ++ (cut 46 46 front).1) ++ (cut x y b).1 = j.0 ∙ ap (λ (z : List ℕ). z ++ (cut x y b).1) i.0 in
    let g = given_of base x y (cut 46 46 front).0 (cut 46 46 front).1 (cut x y b).1 b r.power m text i.1 j.1 s.whole_is s.part_is r.exponent in
    subst (λ (z : Numeral). Given base x y z b) (ap (λ (z : List ℕ × List ℕ). with_exponent z r.power) s.are ∙ r.is) g
