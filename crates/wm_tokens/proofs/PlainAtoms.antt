-- Plain atoms: their first byte shows that they are atoms.
use Rattle.std.proofs.Common.{◌≡◌, ℕ, zero, suc, ◌<◌, ◌≤◌, ◌+◌, ◌-◌, ◌*◌, ◌⊎◌, Bool, true, false, List, [], ◌∷◌, length, Some, refl, sym, ap, subst, ◌∙◌, inl, inr, arith, take, drop, get_or}
use Rattle.std.specs.Prelude.{◌||◌, ◌==◌, nat_le, codes}
use Rattle.std.specs.List.{list_any, list_all}
use Rattle.std.proofs.lemmas.Bool.{cond-false, ne_eqb, and_from, le-leb, and_parts, leb-true}
use Rattle.wm_tokens.specs.Tokens.{atom, is_digit, is_lower, is_upper, is_id_char}
use Rattle.wm_tokens.specs.declared.scan.Class.TheVariants as k
use Rattle.wm_tokens.specs.exact.Scan.{class_of, ahead, first, atom_in, is_atom, digits_in, is_number, is_some}
use Rattle.wm_tokens.proofs.Atoms.{atom_at, decimal_go, decimal_magnitude, number_found, kind_more}
use Rattle.wm_tokens.proofs.Ahead.{atom_cut, atom_whole, class_atom}

second_of : (t v w : Bool) → (((t || true) || v) || w) ≡ true
second_of true v w = refl
second_of false v w = refl

abbrev marks : ℕ → Bool
marks c = list_any (λ d. c == d) (codes "!#$%&'*+-./:<=>?@\\^_`|~")

pub lower_is : (c : ℕ) → is_lower c ≡ true → is_id_char c ≡ true
lower_is c h = ap (λ (x : Bool). ((is_digit c || x) || is_upper c) || marks c) h ∙ second_of (is_digit c) (is_upper c) (marks c)

pub digit_is : (c : ℕ) → is_digit c ≡ true → is_id_char c ≡ true
digit_is c h = ap (λ (x : Bool). ((x || is_lower c) || is_upper c) || marks c) h

front : (c : ℕ) (t a : List ℕ) (n : ℕ) → class_of c ≡ k.Atom → atom_in (c ∷ t) ≡ (take n (c ∷ t), drop n (c ∷ t)) → a ≡ take n (c ∷ t) → a ≡ c ∷ (atom_in t).0
front c t a n s e p = p ∙ ap (λ (x : List ℕ × List ℕ). x.0) (sym e ∙ atom_whole c t s)

-- a word
pub word_cut : (b a r : List ℕ) (n : ℕ) → 97 ≤ get_or b 0 0 → get_or b 0 0 ≤ 122 → atom_in b ≡ (take n b, drop n b) → a ≡ take n b → r ≡ drop n b → first (atom a) r ≡ ahead b
word_cut [] a r n low high e p q = absurd (let f : 97 ≤ 0 = low in omega (arith, f))
word_cut (c ∷ t) a r n low high e p q =
    let lower : is_lower c ≡ true = and_from (nat_le 97 c) (nat_le c 122) (le-leb 97 c low) (le-leb c 122 high) in
    let starts : class_of c ≡ k.Atom = class_atom c (lower_is c lower) in
    atom_cut (c ∷ t) a r n starts e p q (ap is_atom (front c t a n starts e p) ∙ kind_more (c ∷ (atom_in t).0) (inr (inr lower)))

-- an identifier
pub id_cut : (b a r : List ℕ) (n : ℕ) → get_or b 0 0 ≡ 36 → 2 ≤ n → length a ≡ n → atom_in b ≡ (take n b, drop n b) → a ≡ take n b → r ≡ drop n b → first (atom a) r ≡ ahead b
id_cut [] a r n g two len e p q = absurd (let f : 0 ≡ 36 = g in omega (arith, f))
id_cut (c ∷ t) a r n g two len e p q =
    let starts : class_of c ≡ k.Atom = class_atom c (subst (λ (x : ℕ). is_id_char x ≡ true) (sym g) refl) in
    let whole : a ≡ c ∷ (atom_in t).0 = front c t a n starts e p in
    let long : length a ≡ length (c ∷ (atom_in t).0) = ap length whole in
    atom_cut (c ∷ t) a r n starts e p q (ap is_atom whole ∙ kind_more (c ∷ (atom_in t).0) (inl (g, omega (arith, long, len, two))))

-- decimal digits alone are a number
pub digits_value : (b : List ℕ) (m : ℕ) (after : Bool) → list_all is_digit b ≡ true → (after ≡ true) ⊎ (0 < length b) → (v : ℕ) × (digits_in 10 m after b ≡ Some v)
digits_value [] m after h (inl t) = (m, ap (λ (x : Bool). digits_in 10 m x []) t)
digits_value [] m after h (inr lt) = absurd (omega (arith, lt))
digits_value (c ∷ b) m after h s =
    let p = and_parts (is_digit c) (list_all is_digit b) h in
    let d = and_parts (nat_le 48 c) (nat_le c 57) p.0 in
    let g = digits_value b (m * 10 + (c - 48)) true p.1 (inl refl) in
    (g.0, decimal_go c m after b (leb-true 48 c d.0) (leb-true c 57 d.1) ∙ g.1)

digits_front : (b : List ℕ) (n : ℕ) → n ≤ length b → ((i : ℕ) → i < n → is_digit (get_or b i 0) ≡ true) → list_all is_digit (take n b) ≡ true
digits_front b zero h all = refl
digits_front [] (suc n) h all = absurd (omega (arith, h))
digits_front (c ∷ b) (suc n) h all =
    and_from (is_digit c) (list_all is_digit (take n b)) (all 0 (omega arith)) (digits_front b n (omega (arith, h)) (λ i lt. all (suc i) (omega (arith, lt))))

no_sign : (c s : ℕ) → is_digit c ≡ true → s < 48 → (c == s) ≡ false
no_sign c s h lt = ne_eqb c s (λ e. let low : 48 ≤ c = leb-true 48 c (and_parts (nat_le 48 c) (nat_le c 57) h).0 in omega (arith, e, low, lt))

pub digits_number : (c : ℕ) (b : List ℕ) (m : ℕ) → is_digit c ≡ true → digits_in 10 0 false (c ∷ b) ≡ Some m → is_number (c ∷ b) ≡ true
digits_number c b m h e =
    cond-false (c == 43) _ _ (no_sign c 43 h (omega arith)) ∙ cond-false (c == 45) _ _ (no_sign c 45 h (omega arith)) ∙ ap is_some (decimal_magnitude m (c ∷ b) e)

pub number_cut : (b a r : List ℕ) (n : ℕ) → n ≤ length b → 0 < n → ((i : ℕ) → i < n → is_digit (get_or b i 0) ≡ true) → ((n ≡ length b) ⊎ (is_id_char (get_or b n 0) ≡ false)) → a ≡ take n b → r ≡ drop n b → first (atom a) r ≡ ahead b
number_cut [] a r n le more all stop p q = absurd (omega (arith, le, more))
number_cut (c ∷ t) a r zero le more all stop p q = absurd (omega (arith, more))
number_cut (c ∷ t) a r (suc n) le more all stop p q =
    let e : atom_in (c ∷ t) ≡ (take (suc n) (c ∷ t), drop (suc n) (c ∷ t)) = atom_at (c ∷ t) (suc n) le (λ i l. digit_is (get_or (c ∷ t) i 0) (all i l)) stop in
    let digit : is_digit c ≡ true = all 0 (omega arith) in
    let value = digits_value (c ∷ take n t) 0 false (digits_front (c ∷ t) (suc n) le all) (inr (omega arith)) in
    let number : is_number (c ∷ take n t) ≡ true = digits_number c (take n t) value.0 digit value.1 in
    atom_cut (c ∷ t) a r (suc n) (class_atom c (digit_is c digit)) e p q (ap is_atom p ∙ kind_more (c ∷ take n t) (inr (inl (inl (number_found (c ∷ take n t) number)))))
