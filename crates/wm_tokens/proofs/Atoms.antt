-- Atoms, each as long as possible, and the numbers that they write.
use Rattle.std.proofs.Common.{◌≡◌, ℕ, zero, suc, ◌<◌, ◌≤◌, ◌+◌, ◌-◌, ◌*◌, ◌⊎◌, Bool, true, false, cond, List, [], ◌∷◌, ◌++◌, length, Option, Some, None, refl, sym, ap, ◌∙◌, inl, inr, arith, ltb, take, drop, get_or, min}
use Rattle.std.specs.Option.{option_map}
use Rattle.std.proofs.Math.Nat.{mul-le-mul_right, mul-le-mul_left}
use Rattle.std.specs.Prelude.{◌==◌, ◌&&◌, fold, nat_le, not}
use Rattle.std.specs.List.{list_all}
use Rattle.std.proofs.lemmas.Bool.{cond-true, cond-false, cond_both, eqb-true, eq-eqb, ne_eqb, and_parts, and_from, lt-ltb, ltb-true, le-leb, and_left, cases_lt}
use Rattle.wm_floats.specs.exact.Atoms.{has_form}
use Rattle.wm_floats.proofs.Written.{form_found, form_more, nothing_form, plus_form, minus_form, dollar_form}
use Rattle.wm_tokens.specs.Tokens.{is_digit, is_id_char, digit_value, Digits, Magnitude, IsNumber, IsLiteral, IsIdentifier, IsWord, is_lower}
use Rattle.wm_tokens.specs.Tokens.{atom}
use Rattle.wm_tokens.specs.TokenFaults.{IsAmong}
use Rattle.wm_tokens.specs.exact.Scan.{atom_in, digits_in, with_digit, magnitude_of, is_number, is_literal, is_atom, is_nil, is_some, number_in, number_next, is_float_alone}
use Rattle.wm_tokens.proofs.Basics.{chosen, same_some, same_head, both_are}

abbrev pub EndsAtom : List ℕ → Type 0
EndsAtom [] = Unit {0}
EndsAtom (c ∷ r) = is_id_char c ≡ false

pub atom_more : (a r : List ℕ) → list_all is_id_char a ≡ true → EndsAtom r → atom_in (a ++ r) ≡ (a, r)
atom_more [] [] h e = refl
atom_more [] (c ∷ r) h e = cond-false (is_id_char c) _ _ e
atom_more (c ∷ a) r h e =
    let p = and_parts (is_id_char c) (list_all is_id_char a) h in
    cond-true (is_id_char c) _ _ p.0 ∙ ap (λ (x : List ℕ × List ℕ). (c ∷ x.0, x.1)) (atom_more a r p.1 e)

abbrev pub AtomFront : List ℕ → List ℕ × List ℕ → Type 0
AtomFront b x = (b ≡ x.0 ++ x.1) × (list_all is_id_char x.0 ≡ true) × EndsAtom x.1

pub atom_front : (b : List ℕ) → AtomFront b (atom_in b)
atom_front [] = (refl, refl, tt)
atom_front (c ∷ b) = by (is_id_char c) refl (atom_front b)
  where
    by : (t : Bool) → is_id_char c ≡ t → AtomFront b (atom_in b) → AtomFront (c ∷ b) (cond t (c ∷ (atom_in b).0, (atom_in b).1) ([], c ∷ b))
    by true t (e, a, s) = (ap (λ (x : List ℕ). c ∷ x) e, and_from (is_id_char c) _ t a, s)
    by false t h = (refl, refl, t)

-- ---- digits

pub digit_goes : {X : Type 0} (base c d : ℕ) (none : X) (some : ℕ → X) → digit_value c ≡ Some d → d < base → with_digit base c none some ≡ some d
digit_goes {X} base c d none some v lt =
    ap (λ (o : Option ℕ). elim o as (λ _. X) [ None ↦ none | Some e ↦ cond (ltb e base) (some e) none ]) v ∙ cond-true (ltb d base) _ _ (lt-ltb d base lt)

pub digit_found : {X : Type 0} (base c : ℕ) (some : ℕ → Option X) (z : X) → with_digit base c None some ≡ Some z → (d : ℕ) × (digit_value c ≡ Some d) × (d < base) × (some d ≡ Some z)
digit_found {X} base c some z e = by (digit_value c) refl e
  where
    by : (o : Option ℕ) → digit_value c ≡ o → (elim o as (λ _. Option X) [ None ↦ None | Some e ↦ cond (ltb e base) (some e) None ]) ≡ Some z → (d : ℕ) × (digit_value c ≡ Some d) × (d < base) × (some d ≡ Some z)
    by None o e = absurd cc
    by (Some d) o e = elim (chosen (ltb d base) (some d) None (Some z) e) [
      | inl p ↦ (d, o, ltb-true d base p.0, p.1)
      | inr p ↦ absurd (let f : ◌≡◌ {A = Option X} None (Some z) = p.1 in cc)
    ]

pub not_underscore : (c d : ℕ) → digit_value c ≡ Some d → (c == 95) ≡ false
not_underscore c d v = ne_eqb c 95 (λ e. let f : digit_value 95 ≡ Some d = ap digit_value (sym e) ∙ v in let g : ◌≡◌ {A = Option ℕ} None (Some d) = f in cc)

abbrev pub next_value : ℕ → ℕ → ℕ → ℕ
next_value base n d = n * base + d

digit_step : (base n c d : ℕ) (after : Bool) (b : List ℕ) → digit_value c ≡ Some d → d < base → digits_in base n after (c ∷ b) ≡ digits_in base (n * base + d) true b
digit_step base n c d true b v lt = cond-false ((c == 95) && true) _ _ (and_left (c == 95) true (not_underscore c d v)) ∙ digit_goes base c d None _ v lt
digit_step base n c d false b v lt = cond-false ((c == 95) && false) _ _ (and_left (c == 95) false (not_underscore c d v)) ∙ digit_goes base c d None _ v lt

pub digits_more : (base n : ℕ) (after : Bool) (ds b : List ℕ) → Digits base ds b → digits_in base n after b ≡ Some (fold (next_value base) n ds)
digits_more base n after [] b h = absurd h
digits_more base n after (d ∷ []) b (c, e, v, lt) = ap (digits_in base n after) e ∙ digit_step base n c d after [] v lt
digits_more base n after (d ∷ e ∷ ds) b (x, y, whole, (c, is, v, lt), (s, w, parts, inl under, more)) =
    let text : b ≡ c ∷ 95 ∷ w = whole ∙ ap (λ (z : List ℕ). z ++ y) is ∙ ap (λ (z : List ℕ). c ∷ z) (parts ∙ ap (λ (z : List ℕ). z ++ w) under) in
    ap (digits_in base n after) text ∙ digit_step base n c d after (95 ∷ w) v lt ∙ digits_more base (n * base + d) false (e ∷ ds) w more
digits_more base n after (d ∷ e ∷ ds) b (x, y, whole, (c, is, v, lt), (s, w, parts, inr none, more)) =
    let text : b ≡ c ∷ w = whole ∙ ap (λ (z : List ℕ). z ++ y) is ∙ ap (λ (z : List ℕ). c ∷ z) (parts ∙ ap (λ (z : List ℕ). z ++ w) none) in
    ap (digits_in base n after) text ∙ digit_step base n c d after w v lt ∙ digits_more base (n * base + d) true (e ∷ ds) w more

-- what is left of digits, after a digit or not
abbrev pub DigitsLeft : (ℕ → ℕ → ℕ) → ℕ → ℕ → Bool → List ℕ → ℕ → Type 0
DigitsLeft f base n false b m = (ds : List ℕ) × Digits base ds b × (m ≡ fold f n ds)
DigitsLeft f base n true b m =
    ((b ≡ []) × (m ≡ n)) ⊎ ((ds w : List ℕ) × ((b ≡ 95 ∷ w) ⊎ (b ≡ w)) × Digits base ds w × (m ≡ fold f n ds))

-- a digit before what is left
pub digit_before : (f : ℕ → ℕ → ℕ) (base n c d : ℕ) (b : List ℕ) (m : ℕ) → digit_value c ≡ Some d → d < base → DigitsLeft f base (f n d) true b m → DigitsLeft f base n false (c ∷ b) m
digit_before f base n c d b m v lt (inl (e, k)) = (d ∷ [], (c, ap (λ (z : List ℕ). c ∷ z) e, v, lt), k)
digit_before f base n c d b m v lt (inr ([], w, e, h, k)) = absurd h
digit_before f base n c d b m v lt (inr (x ∷ ds, w, inl e, h, k)) =
    (d ∷ x ∷ ds, (c ∷ [], b, refl, (c, refl, v, lt), (95 ∷ [], w, e, inl refl, h)), k)
digit_before f base n c d b m v lt (inr (x ∷ ds, w, inr e, h, k)) =
    (d ∷ x ∷ ds, (c ∷ [], b, refl, (c, refl, v, lt), ([], w, e, inr refl, h)), k)

pub any_after : (f : ℕ → ℕ → ℕ) (base n : ℕ) (after : Bool) (b : List ℕ) (m : ℕ) → DigitsLeft f base n false b m → DigitsLeft f base n after b m
any_after f base n true b m (ds, h, k) = inr (ds, b, inr refl, h, k)
any_after f base n false b m h = h

pub digits_left : (base n : ℕ) (after : Bool) (b : List ℕ) (m : ℕ) → digits_in base n after b ≡ Some m → DigitsLeft (next_value base) base n after b m
digits_left base n true [] m e = inl (refl, let k : n ≡ m = cc in sym k)
digits_left base n false [] m e = absurd cc
digits_left base n true (c ∷ b) m e = elim (chosen ((c == 95) && true) _ _ (Some m) e) [
  | inl p ↦ (let u : c ≡ 95 = eqb-true c 95 (and_parts (c == 95) true p.0).0 in let g = digits_left base n false b m p.1 in inr (g.0, b, inl (ap (λ (z : ℕ). z ∷ b) u), g.1, g.2))
  | inr p ↦ (let g = digit_found base c (λ d. digits_in base (n * base + d) true b) m p.1 in
      any_after (next_value base) base n true (c ∷ b) m (digit_before (next_value base) base n c g.0 b m g.1 g.2 (digits_left base (n * base + g.0) true b m g.3)))
]
digits_left base n false (c ∷ b) m e = elim (chosen ((c == 95) && false) _ _ (Some m) e) [
  | inl p ↦ absurd (let u = and_parts (c == 95) false p.0 in let f : false ≡ true = u.1 in cc)
  | inr p ↦ (let g = digit_found base c (λ d. digits_in base (n * base + d) true b) m p.1 in
      digit_before (next_value base) base n c g.0 b m g.1 g.2 (digits_left base (n * base + g.0) true b m g.3))
]

-- ---- numbers with no sign

-- ---- numbers

-- what decimal digits make, though no 0x leads
pub decimal_magnitude : (n : ℕ) (b : List ℕ) → digits_in 10 0 false b ≡ Some n → magnitude_of b ≡ Some n
decimal_magnitude n [] e = absurd cc
decimal_magnitude n (c ∷ []) e = e
decimal_magnitude n (c ∷ d ∷ b) e = cond_both ((c == 48) && (d == 120)) _ _ (λ x. x ≡ Some n)
    (λ t. let are = both_are c d 48 120 t in
    let f : digits_in 10 0 false (48 ∷ 120 ∷ b) ≡ Some n = ap (λ (x : ℕ). digits_in 10 0 false (48 ∷ x ∷ b)) (sym are.1) ∙ ap (λ (x : ℕ). digits_in 10 0 false (x ∷ d ∷ b)) (sym are.0) ∙ e in
    absurd (let g : ◌≡◌ {A = Option ℕ} None (Some n) = f in cc))
    (λ _. e)

pub magnitude_more : (n : ℕ) (b : List ℕ) → Magnitude n b → magnitude_of b ≡ Some n
magnitude_more n b (inl (ds, h, k)) = decimal_magnitude n b (digits_more 10 0 false ds b h ∙ ap Some (sym k))
magnitude_more n b (inr (ds, (x, y, e, p, h), k)) =
    ap magnitude_of (e ∙ ap (λ (z : List ℕ). z ++ y) p) ∙ digits_more 16 0 false ds y h ∙ ap Some (sym k)

pub magnitude_found : (n : ℕ) (b : List ℕ) → magnitude_of b ≡ Some n → Magnitude n b
magnitude_found n [] e = absurd cc
magnitude_found n (c ∷ []) e = let g = digits_left 10 0 false (c ∷ []) n e in inl (g.0, g.1, g.2)
magnitude_found n (c ∷ d ∷ b) e = elim (chosen ((c == 48) && (d == 120)) _ _ (Some n) e) [
  | inl p ↦ (let are = both_are c d 48 120 p.0 in let g = digits_left 16 0 false b n p.1 in
      inr (g.0, (48 ∷ 120 ∷ [], b, ap (λ (x : ℕ). x ∷ d ∷ b) are.0 ∙ ap (λ (x : ℕ). 48 ∷ x ∷ b) are.1, refl, g.1), g.2))
  | inr p ↦ (let g = digits_left 10 0 false (c ∷ d ∷ b) n p.1 in inl (g.0, g.1, g.2))
]

some_is : {A : Type 0} (o : Option A) → is_some o ≡ true → (x : A) × (o ≡ Some x)
some_is None e = absurd (let f : false ≡ true = e in cc)
some_is (Some x) e = (x, refl)

pub number_found : (a : List ℕ) → is_number a ≡ true → IsNumber a
number_found [] e = absurd (let f : false ≡ true = e in cc)
number_found (c ∷ b) e = elim (chosen (c == 43) _ _ true e) [
  | inl p ↦ (let g = some_is (magnitude_of b) p.1 in (g.0, inr (inl (43 ∷ [], b, ap (λ (x : ℕ). x ∷ b) (eqb-true c 43 p.0), refl, magnitude_found g.0 b g.1))))
  | inr p ↦ elim (chosen (c == 45) _ _ true p.1) [
    | inl q ↦ (let g = some_is (magnitude_of b) q.1 in (g.0, inr (inr (45 ∷ [], b, ap (λ (x : ℕ). x ∷ b) (eqb-true c 45 q.0), refl, magnitude_found g.0 b g.1))))
    | inr q ↦ (let g = some_is (magnitude_of (c ∷ b)) q.1 in (g.0, inl (magnitude_found g.0 (c ∷ b) g.1)))
  ]
]

-- a number with no sign begins with a digit
pub first_digit : (c : ℕ) (b : List ℕ) (n : ℕ) → digit_value c ≡ None → magnitude_of (c ∷ b) ≡ Some n → ⊥
first_digit c b n v e = by b (magnitude_found n (c ∷ b) e)
  where
    here : (base : ℕ) (ds b : List ℕ) → Digits base ds (c ∷ b) → ⊥
    here base [] b h = h
    here base (d ∷ []) b (u, e, w, lt) = let f : digit_value c ≡ Some d = ap digit_value (same_head c u b [] e) ∙ w in let g : ◌≡◌ {A = Option ℕ} None (Some d) = sym v ∙ f in cc
    here base (d ∷ x ∷ ds) b (p, q, e, (u, is, w, lt), more) = let f : digit_value c ≡ Some d = ap digit_value (same_head c u b q (e ∙ ap (λ (z : List ℕ). z ++ q) is)) ∙ w in let g : ◌≡◌ {A = Option ℕ} None (Some d) = sym v ∙ f in cc

    by : (b : List ℕ) → Magnitude n (c ∷ b) → ⊥
    by b (inl (ds, h, k)) = here 10 ds b h
    by b (inr (ds, (x, y, e, p, h), k)) = let z : c ≡ 48 = same_head c 48 b (120 ∷ y) (e ∙ ap (λ (w : List ℕ). w ++ y) p) in let g : ◌≡◌ {A = Option ℕ} None (Some 0) = sym v ∙ ap digit_value z in cc

pub number_more : (a : List ℕ) → IsNumber a → is_number a ≡ true
number_more [] (n, inl h) = absurd (let e : ◌≡◌ {A = Option ℕ} None (Some n) = magnitude_more n [] h in cc)
number_more [] (n, inr (inl (x, y, e, p, h))) = absurd (let f : [] ≡ 43 ∷ y = e ∙ ap (λ (z : List ℕ). z ++ y) p in cc)
number_more [] (n, inr (inr (x, y, e, p, h))) = absurd (let f : [] ≡ 45 ∷ y = e ∙ ap (λ (z : List ℕ). z ++ y) p in cc)
number_more (c ∷ b) (n, inl h) =
    let e : magnitude_of (c ∷ b) ≡ Some n = magnitude_more n (c ∷ b) h in
    let away : (x : ℕ) → digit_value x ≡ None → (c == x) ≡ false = λ x v. ne_eqb c x (λ k. first_digit x b n v (ap (λ (z : ℕ). magnitude_of (z ∷ b)) (sym k) ∙ e)) in
    cond-false (c == 43) _ _ (away 43 refl) ∙ cond-false (c == 45) _ _ (away 45 refl) ∙ ap is_some e
number_more (c ∷ b) (n, inr (inl (x, y, e, p, h))) =
    let f : c ∷ b ≡ 43 ∷ y = e ∙ ap (λ (z : List ℕ). z ++ y) p in ap is_number f ∙ ap is_some (magnitude_more n y h)
number_more (c ∷ b) (n, inr (inr (x, y, e, p, h))) =
    let f : c ∷ b ≡ 45 ∷ y = e ∙ ap (λ (z : List ℕ). z ++ y) p in ap is_number f ∙ ap is_some (magnitude_more n y h)

-- ---- atoms

-- floats
pub literal_found : (a : List ℕ) → is_literal a ≡ true → IsLiteral a
literal_found [] e = absurd (let f : false ≡ true = e in cc)
literal_found (c ∷ b) e = elim (chosen (c == 43) (has_form b) _ true e) [
  | inl p ↦ inr (inl (43 ∷ [], b, ap (λ (x : ℕ). x ∷ b) (eqb-true c 43 p.0), refl, form_found b p.1))
  | inr p ↦ elim (chosen (c == 45) (has_form b) (has_form (c ∷ b)) true p.1) [
    | inl q ↦ inr (inr (45 ∷ [], b, ap (λ (x : ℕ). x ∷ b) (eqb-true c 45 q.0), refl, form_found b q.1))
    | inr q ↦ inl (form_found (c ∷ b) q.1)
  ]
]

-- a byte that begins no float
away : (c s : ℕ) (b : List ℕ) → has_form (c ∷ b) ≡ true → has_form (s ∷ b) ≡ false → (c == s) ≡ false
away c s b e n = ne_eqb c s (λ k. let f : false ≡ true = sym n ∙ ap (λ (x : ℕ). has_form (x ∷ b)) (sym k) ∙ e in let g : false ≡ true = f in cc)

pub literal_more : (a : List ℕ) → IsLiteral a → is_literal a ≡ true
literal_more [] (inl h) = absurd (let f : false ≡ true = sym nothing_form ∙ form_more [] h in cc)
literal_more [] (inr (inl (x, y, e, p, h))) = absurd (let f : [] ≡ 43 ∷ y = e ∙ ap (λ (z : List ℕ). z ++ y) p in cc)
literal_more [] (inr (inr (x, y, e, p, h))) = absurd (let f : [] ≡ 45 ∷ y = e ∙ ap (λ (z : List ℕ). z ++ y) p in cc)
literal_more (c ∷ b) (inl h) =
    let e = form_more (c ∷ b) h in
    cond-false (c == 43) _ _ (away c 43 b e (plus_form b)) ∙ cond-false (c == 45) _ _ (away c 45 b e (minus_form b)) ∙ e
literal_more (c ∷ b) (inr (inl (x, y, e, p, h))) =
    let f : c ∷ b ≡ 43 ∷ y = e ∙ ap (λ (z : List ℕ). z ++ y) p in ap is_literal f ∙ form_more y h
literal_more (c ∷ b) (inr (inr (x, y, e, p, h))) =
    let f : c ∷ b ≡ 45 ∷ y = e ∙ ap (λ (z : List ℕ). z ++ y) p in ap is_literal f ∙ form_more y h

abbrev pub IsKind : List ℕ → Type 0
IsKind a = IsIdentifier a ⊎ (IsNumber a ⊎ IsLiteral a) ⊎ IsWord a

nil_length : (b : List ℕ) → not (is_nil b) ≡ true → 0 < length b
nil_length [] h = absurd (let f : false ≡ true = h in cc)
nil_length (c ∷ b) h = omega arith

length_nil : (b : List ℕ) → 0 < length b → not (is_nil b) ≡ true
length_nil [] h = absurd (omega (arith, h))
length_nil (c ∷ b) h = refl

pub kind_found : (a : List ℕ) → is_atom a ≡ true → IsKind a
kind_found [] e = absurd (let f : false ≡ true = e in cc)
kind_found (c ∷ b) e = elim (chosen (c == 36) _ _ true e) [
  | inl p ↦ inl (eqb-true c 36 p.0, nil_length b p.1)
  | inr p ↦ elim (chosen (is_lower c) _ _ true p.1) [
    | inl q ↦ inr (inr q.0)
    | inr q ↦ elim (chosen (is_number (c ∷ b)) true (is_literal (c ∷ b)) true q.1) [
      | inl r ↦ inr (inl (inl (number_found (c ∷ b) r.0)))
      | inr r ↦ inr (inl (inr (literal_found (c ∷ b) r.1)))
    ]
  ]
]

pub kind_more : (a : List ℕ) → IsKind a → is_atom a ≡ true
kind_more [] (inl h) = absurd h
kind_more [] (inr (inl (inl h))) = absurd (let f : false ≡ true = number_more [] h in cc)
kind_more [] (inr (inl (inr h))) = absurd (let f : false ≡ true = literal_more [] h in cc)
kind_more [] (inr (inr h)) = absurd h
kind_more (c ∷ b) (inl (e, n)) = cond-true (c == 36) _ _ (eq-eqb c 36 e) ∙ length_nil b n
kind_more (c ∷ b) (inr (inr h)) =
    cond-false (c == 36) _ _ (ne_eqb c 36 (λ k. let f : false ≡ true = ap is_lower (sym k) ∙ h in cc)) ∙ cond-true (is_lower c) _ _ h
kind_more (c ∷ b) (inr (inl (inl h))) =
    let e : is_number (c ∷ b) ≡ true = number_more (c ∷ b) h in
    let not36 : (c == 36) ≡ false = ne_eqb c 36 (λ k. let f : is_some (magnitude_of (36 ∷ b)) ≡ true = ap (λ (x : ℕ). is_number (x ∷ b)) (sym k) ∙ e in let g = some_is (magnitude_of (36 ∷ b)) f in first_digit 36 b g.0 refl g.1) in
    cond-false (c == 36) _ _ not36 ∙ cond_both (is_lower c) true _ (λ x. x ≡ true) (λ _. refl) (λ _. cond-true (is_number (c ∷ b)) true (is_literal (c ∷ b)) e)
kind_more (c ∷ b) (inr (inl (inr h))) =
    let e : is_literal (c ∷ b) ≡ true = literal_more (c ∷ b) h in
    let not36 : (c == 36) ≡ false = ne_eqb c 36 (λ k. let f : false ≡ true = sym (dollar_form b) ∙ ap (λ (x : ℕ). is_literal (x ∷ b)) (sym k) ∙ e in let g : false ≡ true = f in cc) in
    cond-false (c == 36) _ _ not36 ∙ cond_both (is_lower c) true _ (λ x. x ≡ true) (λ _. refl) (λ _. cond_both (is_number (c ∷ b)) true (is_literal (c ∷ b)) (λ x. x ≡ true) (λ _. refl) (λ _. e))

-- ---- without floats

pub float_alone : (a : List ℕ) → is_float_alone a ≡ true → IsAmong false (atom a) → ⊥
float_alone a e (inl t) = let f : false ≡ true = t in cc
float_alone [] e h = let f : false ≡ true = e in cc
float_alone (c ∷ b) e (inr (inl (is, n))) = let f : false ≡ true = sym (cond-true (c == 36) _ _ (eq-eqb c 36 is)) ∙ e in cc
float_alone (c ∷ b) e (inr (inr (inl h))) =
    let n : is_number (c ∷ b) ≡ true = number_more (c ∷ b) h in
    elim (chosen (c == 36) _ _ true e) [
      | inl p ↦ (let f : false ≡ true = p.1 in cc)
      | inr p ↦ elim (chosen (is_lower c) _ _ true p.1) [
        | inl q ↦ (let f : false ≡ true = q.1 in cc)
        | inr q ↦ (let g = and_parts (is_literal (c ∷ b)) (not (is_number (c ∷ b))) q.1 in let f : false ≡ true = ap not (sym n) ∙ g.1 in cc)
      ]
    ]
float_alone (c ∷ b) e (inr (inr (inr h))) = elim (chosen (c == 36) _ _ true e) [
  | inl p ↦ (let f : false ≡ true = p.1 in cc)
  | inr p ↦ (let f : false ≡ true = sym (cond-true (is_lower c) _ _ h) ∙ p.1 in cc)
]

pub not_alone : (a : List ℕ) → is_atom a ≡ true → is_float_alone a ≡ false → IsAmong false (atom a)
not_alone [] e n = absurd (let f : false ≡ true = e in cc)
not_alone (c ∷ b) e n = elim (chosen (c == 36) _ _ true e) [
  | inl p ↦ inr (inl (eqb-true c 36 p.0, nil_length b p.1))
  | inr p ↦ elim (chosen (is_lower c) _ _ true p.1) [
    | inl q ↦ inr (inr (inr q.0))
    | inr q ↦ elim (chosen (is_number (c ∷ b)) true (is_literal (c ∷ b)) true q.1) [
      | inl r ↦ inr (inr (inl (number_found (c ∷ b) r.0)))
      | inr r ↦ absurd (
          let alone : is_float_alone (c ∷ b) ≡ true =
          cond-false (c == 36) _ _ p.0 ∙ cond-false (is_lower c) _ _ q.0 ∙ and_from (is_literal (c ∷ b)) (not (is_number (c ∷ b))) r.1 (ap not r.0)
          in
          let f : true ≡ false = sym alone ∙ n in cc)
    ]
  ]
]

-- ---- as the code reads atoms

pub atom_at : (b : List ℕ) (n : ℕ) → n ≤ length b → ((k : ℕ) → k < n → is_id_char (get_or b k 0) ≡ true) → ((n ≡ length b) ⊎ (is_id_char (get_or b n 0) ≡ false)) → atom_in b ≡ (take n b, drop n b)
atom_at [] zero h all stop = refl
atom_at [] (suc n) h all stop = absurd (omega (arith, h))
atom_at (c ∷ b) zero h all (inl e) = absurd (omega (arith, e))
atom_at (c ∷ b) zero h all (inr e) = cond-false (is_id_char c) _ _ e
atom_at (c ∷ b) (suc n) h all stop =
    cond-true (is_id_char c) _ _ (all 0 (omega arith))
    ∙ ap (λ (x : List ℕ × List ℕ). (c ∷ x.0, x.1)) (atom_at b n (omega (arith, h)) (λ k lt. all (suc k) (omega (arith, lt))) (next stop))
  where
    next : ((suc n ≡ length (c ∷ b)) ⊎ (is_id_char (get_or (c ∷ b) (suc n) 0) ≡ false)) → (n ≡ length b) ⊎ (is_id_char (get_or b n 0) ≡ false)
    next (inl e) = inl (omega (arith, e))
    next (inr e) = inr e

abbrev pub large : ℕ
large = 0x1_0000_0000_0000_0000

same_large : (base n d : ℕ) → 1 ≤ base → min (min n large * base + d) large ≡ min (n * base + d) large
same_large base n d h = elim (cases_lt n large) [
  | inl lt ↦ (let k : min n large ≡ n = omega (arith, lt) in ap (λ (x : ℕ). min (x * base + d) large) k)
  | inr le ↦ (
      let k : min n large ≡ large = omega (arith, le) in
      let a : large * 1 ≤ large * base = mul-le-mul_left large h in
      let b : large * base ≤ n * base = mul-le-mul_right base le in
      ap (λ (x : ℕ). min (x * base + d) large) k ∙ above (large * base + d) (n * base + d) (omega (arith, a)) (omega (arith, a, b)))
]
  where
    above : (x y : ℕ) → large ≤ x → large ≤ y → min x large ≡ min y large
    above x y p q = omega (arith, p, q)

chosen_two : (t : Bool) (x y : Option ℕ) → option_map (λ k. min k large) x ≡ option_map (λ k. min k large) y → option_map (λ k. min k large) (cond t x None) ≡ option_map (λ k. min k large) (cond t y None)
chosen_two true x y e = e
chosen_two false x y e = refl

some_digit : (base c : ℕ) (f g : ℕ → Option ℕ) → ((d : ℕ) → option_map (λ k. min k large) (f d) ≡ option_map (λ k. min k large) (g d)) → option_map (λ k. min k large) (with_digit base c None f) ≡ option_map (λ k. min k large) (with_digit base c None g)
some_digit base c f g h = by (digit_value c)
  where
    by : (o : Option ℕ) → option_map (λ k. min k large) (elim o as (λ _. Option ℕ) [ None ↦ None | Some e ↦ cond (ltb e base) (f e) None ])
        ≡ option_map (λ k. min k large) (elim o as (λ _. Option ℕ) [ None ↦ None | Some e ↦ cond (ltb e base) (g e) None ])
    by None = refl
    by (Some d) = chosen_two (ltb d base) (f d) (g d) (h d)

-- the number so far may stand for a greater one
capped_digits : (base n m : ℕ) (after : Bool) (b : List ℕ) → 1 ≤ base → min n large ≡ min m large → number_in base n after b ≡ number_in base m after b
capped_digits base n m true [] h e = ap Some e
capped_digits base n m false [] h e = refl
capped_digits base n m true (c ∷ b) h e =
    by ((c == 95) && true) (capped_digits base n m false b h e) (λ d. capped_digits base (n * base + d) (m * base + d) true b h (sym (same_large base n d h) ∙ ap (λ (x : ℕ). min (x * base + d) large) e ∙ same_large base m d h))
  where
    by : (t : Bool) → number_in base n false b ≡ number_in base m false b → ((d : ℕ) → number_in base (n * base + d) true b ≡ number_in base (m * base + d) true b)
        → option_map (λ k. min k large) (cond t (digits_in base n false b) (with_digit base c None (λ d. digits_in base (n * base + d) true b)))
        ≡ option_map (λ k. min k large) (cond t (digits_in base m false b) (with_digit base c None (λ d. digits_in base (m * base + d) true b)))
    by true p q = p
    by false p q = some_digit base c _ _ q
capped_digits base n m false (c ∷ b) h e =
    by ((c == 95) && false) (capped_digits base n m false b h e) (λ d. capped_digits base (n * base + d) (m * base + d) true b h (sym (same_large base n d h) ∙ ap (λ (x : ℕ). min (x * base + d) large) e ∙ same_large base m d h))
  where
    by : (t : Bool) → number_in base n false b ≡ number_in base m false b → ((d : ℕ) → number_in base (n * base + d) true b ≡ number_in base (m * base + d) true b)
        → option_map (λ k. min k large) (cond t (digits_in base n false b) (with_digit base c None (λ d. digits_in base (n * base + d) true b)))
        ≡ option_map (λ k. min k large) (cond t (digits_in base m false b) (with_digit base c None (λ d. digits_in base (m * base + d) true b)))
    by true p q = p
    by false p q = some_digit base c _ _ q

pub number_digit : (base n c d : ℕ) (after : Bool) (b : List ℕ) → 1 ≤ base → d < base → Some d ≡ digit_value c → number_in base n after (c ∷ b) ≡ number_in base (min (n * base + d) large) true b
number_digit base n c d after b h lt v =
    ap (option_map (λ k. min k large)) (digit_step base n c d after b (sym v) lt) ∙ capped_digits base (n * base + d) (min (n * base + d) large) true b h (let x : ℕ = n * base + d in twice x)
  where
    twice : (x : ℕ) → min x large ≡ min (min x large) large
    twice x = omega arith

pub number_under : (base n c : ℕ) (after : Bool) (b : List ℕ) → c ≡ 95 → after ≡ true → number_in base n after (c ∷ b) ≡ number_in base n false b
number_under base n c true b e f = ap (option_map (λ k. min k large)) (cond-true ((c == 95) && true) _ _ (and_from (c == 95) true (eq-eqb c 95 e) refl))
number_under base n c false b e f = absurd (let g : false ≡ true = f in cc)

none_digit : {X Y : Type 0} (base c : ℕ) (f : ℕ → X) (g : ℕ → Option Y) → with_digit base c None (λ d. Some (f d)) ≡ None → with_digit base c None g ≡ None
none_digit {X} {Y} base c f g e = by (digit_value c) e
  where
    by : (o : Option ℕ) → (elim o as (λ _. Option X) [ None ↦ None | Some e ↦ cond (ltb e base) (Some (f e)) None ]) ≡ None → (elim o as (λ _. Option Y) [ None ↦ None | Some e ↦ cond (ltb e base) (g e) None ]) ≡ None
    by None e = refl
    by (Some d) e = elim (chosen (ltb d base) (Some (f d)) None None e) [
      | inl p ↦ absurd (let h : ◌≡◌ {A = Option X} (Some (f d)) None = p.1 in cc)
      | inr p ↦ cond-false (ltb d base) _ _ p.0
    ]

next_found : (base n c : ℕ) (after : Bool) (x : ℕ × Bool) → number_next base n after c ≡ Some x →
    ((((c == 95) && after) ≡ true) × (x ≡ (n, false))) ⊎ ((((c == 95) && after) ≡ false) × (d : ℕ) × (digit_value c ≡ Some d) × (d < base) × (x ≡ (min (n * base + d) large, true)))
unfolding number_next
next_found base n c after x e = elim (chosen ((c == 95) && after) _ _ (Some x) e) [
  | inl p ↦ inl (p.0, sym (same_some (n, false) x p.1))
  | inr p ↦ (let g = digit_found base c (λ d. Some (min (n * base + d) large, true)) x p.1 in inr (p.0, g.0, g.1, g.2, sym (same_some (min (n * base + g.0) large, true) x g.3)))
]

pub number_go : (base n c m : ℕ) (after a : Bool) (b : List ℕ) → 2 ≤ base → Some (m, a) ≡ number_next base n after c → number_in base n after (c ∷ b) ≡ number_in base m a b
number_go base n c m after a b h e = elim (next_found base n c after (m, a) (sym e)) [
  | inl p ↦ (let q = and_parts (c == 95) after p.0 in number_under base n c after b (eqb-true c 95 q.0) q.1 ∙ ap (λ (x : ℕ × Bool). number_in base x.0 x.1 b) (sym p.1))
  | inr p ↦ (number_digit base n c p.1 after b (omega (arith, h)) p.3 (sym p.2) ∙ ap (λ (x : ℕ × Bool). number_in base x.0 x.1 b) (sym p.4))
]

pub number_halt : (base n c : ℕ) (after : Bool) (b : List ℕ) → None ≡ number_next base n after c → number_in base n after (c ∷ b) ≡ None
unfolding number_next
number_halt base n c true b e = elim (chosen ((c == 95) && true) _ _ None (sym e)) [
  | inl p ↦ absurd (let f : ◌≡◌ {A = Option (ℕ × Bool)} (Some (n, false)) None = p.1 in cc)
  | inr p ↦ ap (option_map (λ k. min k large)) (cond-false ((c == 95) && true) _ _ p.0 ∙ none_digit base c (λ d. (min (n * base + d) large, true)) _ p.1)
]
number_halt base n c false b e = elim (chosen ((c == 95) && false) _ _ None (sym e)) [
  | inl p ↦ absurd (let f : ◌≡◌ {A = Option (ℕ × Bool)} (Some (n, false)) None = p.1 in cc)
  | inr p ↦ ap (option_map (λ k. min k large)) (cond-false ((c == 95) && false) _ _ p.0 ∙ none_digit base c (λ d. (min (n * base + d) large, true)) _ p.1)
]

pub ruleset number_laws = (number_go, number_halt)

-- ---- decimal digits alone

decimal_value : (c : ℕ) → 48 ≤ c → c ≤ 57 → digit_value c ≡ Some (c - 48)
decimal_value c low high = cond-true (is_digit c) _ _ (and_from (nat_le 48 c) (nat_le c 57) (le-leb 48 c low) (le-leb c 57 high))

pub decimal_go : (c n : ℕ) (after : Bool) (b : List ℕ) → 48 ≤ c → c ≤ 57 → digits_in 10 n after (c ∷ b) ≡ digits_in 10 (n * 10 + (c - 48)) true b
decimal_go c n after b low high = digit_step 10 n c (c - 48) after b (decimal_value c low high) (omega (arith, low, high))

pub decimal_end : (n : ℕ) (after : Bool) (b text : List ℕ) → digits_in 10 n after b ≡ digits_in 10 0 false text → b ≡ [] → after ≡ true → magnitude_of text ≡ Some n
decimal_end n after b text e none t = decimal_magnitude n text (sym e ∙ ap (digits_in 10 n after) none ∙ ap (λ (x : Bool). digits_in 10 n x []) t)

pub ruleset decimal_laws = (decimal_go, decimal_end)
