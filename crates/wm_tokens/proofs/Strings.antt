-- Strings and their escapes.
use Rattle.std.proofs.Common.{◌≡◌, ℕ, zero, suc, ◌<◌, ◌≤◌, ◌+◌, ◌*◌, Bool, true, false, cond, List, [], ◌∷◌, ◌++◌, Option, Some, None, refl, sym, ap, subst, ◌∙◌, inl, inr, arith, append_assoc, ltb, ◌-◌, take, drop, get_or, length, length-append}
use Rattle.std.specs.Prelude.{◌==◌, ◌&&◌, ◌||◌, IfNone, fold, encode_utf8, flat_map, nat_lt}
use Rattle.std.specs.List.{list_any}
use Rattle.std.proofs.lemmas.Bool.{cond-true, cond-false, cond_both, eqb-true, ne_eqb, and_parts, or_cases, lt-ltb, le-ltb, ltb-true, ltb-false, and_left}
use Rattle.std.proofs.lemmas.List.{take_at}
use Rattle.wm_syntax.specs.Spelling.{Exactly, Each, ◌▸◌}
use Rattle.wm_tokens.specs.Tokens.{digit_value, Digits, value, is_string_char, is_scalar, short_escapes, StringElement, String, string}
use Rattle.wm_tokens.specs.declared.scan.Mode.{Mode}
use Rattle.wm_tokens.specs.declared.scan.Mode.TheVariants as m
use Rattle.wm_tokens.specs.declared.scan.Step.{Step}
use Rattle.wm_tokens.specs.declared.scan.Step.TheVariants.{On, Byte, Scalar, End, Bad}
use Rattle.wm_tokens.specs.exact.Scan.{with_digit, short_escape, first_escape, capped, string_step, string_next, string_in, giving, given_next, given_in, rest_of, first, string_or_fault, why_next, why_in, bad_in, byte_next, byte_at}
use Rattle.wm_tokens.proofs.Basics.{same_some, both_are}
use Rattle.wm_tokens.proofs.Atoms.{digit_goes, not_underscore, DigitsLeft, digit_before, any_after}

abbrev pub joined : List (List ℕ) → List ℕ
joined parts = flat_map (λ part. part) parts

-- ---- numbers past the last scalar value

abbrev pub next_capped : ℕ → ℕ → ℕ
next_capped n d = capped (n * 16 + d)

capped_again : (n d : ℕ) → capped (capped n * 16 + d) ≡ capped (n * 16 + d)
capped_again n d = cond_both (nat_lt n 0x11_0000) n 0x11_0000 (λ x. capped (x * 16 + d) ≡ capped (n * 16 + d))
    (λ _. refl)
    (λ h. let big : 0x11_0000 ≤ n = ltb-false n 0x11_0000 h in
    cond-false (nat_lt (0x11_0000 * 16 + d) 0x11_0000) _ _ (le-ltb _ _ (omega arith)) ∙ sym (cond-false (nat_lt (n * 16 + d) 0x11_0000) _ _ (le-ltb _ _ (omega arith))))

capped_value : (n : ℕ) (ds : List ℕ) → fold next_capped (capped n) ds ≡ capped (fold (λ n d. n * 16 + d) n ds)
capped_value n [] = refl
capped_value n (d ∷ ds) = ap (λ (x : ℕ). fold next_capped x ds) (capped_again n d) ∙ capped_value (n * 16 + d) ds

scalar_small : (n : ℕ) → is_scalar n ≡ true → n < 0x11_0000
scalar_small n h = elim (or_cases (nat_lt n 0xD800) _ h) [
  | inl p ↦ omega (arith, ltb-true n 0xD800 p)
  | inr p ↦ ltb-true n 0x11_0000 (and_parts _ (nat_lt n 0x11_0000) p).1
]

scalar_kept : (n : ℕ) → is_scalar n ≡ true → capped n ≡ n
scalar_kept n h = cond-true (nat_lt n 0x11_0000) _ _ (lt-ltb n 0x11_0000 (scalar_small n h))

scalar_back : (n : ℕ) → is_scalar (capped n) ≡ true → capped n ≡ n
scalar_back n = cond_both (nat_lt n 0x11_0000) n 0x11_0000 (λ x. is_scalar x ≡ true → x ≡ n) (λ _ _. refl) (λ _ h. absurd (let f : false ≡ true = h in cc))

-- ---- what is left of a string

abbrev pub Body : List ℕ → List ℕ → List ℕ → Type 0
Body b given r = (t : List ℕ) × (parts : List (List ℕ)) × (b ≡ t ++ r) × (given ≡ joined parts) × (Each StringElement parts ▸ Exactly (34 ∷ [])) t

abbrev pub DigitsBody : ℕ → Bool → List ℕ → List ℕ → List ℕ → Type 0
DigitsBody n after b given r =
    (w more rest : List ℕ) × (k : ℕ) × (b ≡ w ++ 125 ∷ more) × DigitsLeft next_capped 16 n after w k × (is_scalar k ≡ true) × (given ≡ encode_utf8 k ++ rest) × Body more rest r

abbrev pub Left : Mode → List ℕ → List ℕ → List ℕ → Type 0
Left m.Plain b given r = Body b given r
Left m.Escape b given r = Body (92 ∷ b) given r
Left (m.Low h) b given r = (c : ℕ) → digit_value c ≡ Some h → h < 16 → Body (92 ∷ c ∷ b) given r
Left m.Brace b given r = Body (92 ∷ 117 ∷ b) given r
Left (m.Digits n after) b given r = DigitsBody n after b given r

element_body : (part u b given r : List ℕ) → StringElement part u → Body b given r → Body (u ++ b) (part ++ given) r
element_body part u b given r h (t, parts, e, g, (x, y, s, p, q)) = (
  u ++ t,
  part ∷ parts,
  ap (λ (z : List ℕ). u ++ z) e ∙ sym (append_assoc u t r),
  ap (λ (z : List ℕ). part ++ z) g,
  (u ++ x, y, ap (λ (z : List ℕ). u ++ z) s ∙ sym (append_assoc u x y), (u, x, refl, h, p), q),
)

abbrev pub Law : Mode → ℕ → Step → Type 0
Law mode c (On next) = (b given r : List ℕ) → Left next b given r → Left mode (c ∷ b) given r
Law mode c (Byte x) = (b given r : List ℕ) → Body b given r → Left mode (c ∷ b) (x ∷ given) r
Law mode c (Scalar n) = (b given r : List ℕ) → Body b given r → Left mode (c ∷ b) (encode_utf8 n ++ given) r
Law mode c End = (b : List ℕ) → Left mode (c ∷ b) [] b
Law mode c Bad = Unit {0}

pub with_digit_both : {X : Type 0} (base c : ℕ) (none : X) (some : ℕ → X) (P : X → Type 0) → P none → ((d : ℕ) → digit_value c ≡ Some d → d < base → P (some d)) → P (with_digit base c none some)
with_digit_both {X} base c none some P p q = by (digit_value c) refl
  where
    by : (o : Option ℕ) → digit_value c ≡ o → P (elim o as (λ _. X) [ None ↦ none | Some e ↦ cond (ltb e base) (some e) none ])
    by None o = p
    by (Some d) o = cond_both (ltb d base) (some d) none P (λ t. q d o (ltb-true d base t)) (λ _. p)

plain_law : (c : ℕ) → Law m.Plain c (string_step m.Plain c)
unfolding string_step
plain_law c =
    cond_both (c == 34) _ _ (Law m.Plain c)
    (λ t b. let e : c ≡ 34 = eqb-true c 34 t in (34 ∷ [], [], ap (λ (x : ℕ). x ∷ b) e, refl, ([], 34 ∷ [], refl, refl, refl)))
    (λ _. cond_both (c == 92) _ _ (Law m.Plain c)
    (λ t b given r h. let e : c ≡ 92 = eqb-true c 92 t in subst (λ (x : ℕ). Body (x ∷ b) given r) (sym e) h)
    (λ _. cond_both (is_string_char c) _ _ (Law m.Plain c)
    (λ t b given r h. element_body (c ∷ []) (c ∷ []) b given r (inl (c, refl, t, refl)) h)
    (λ _. tt)))

abbrev pub IsShort : ℕ → ℕ → Type 0
IsShort letter c = list_any (λ e. (e.0 == letter) && (e.1 == c)) short_escapes ≡ true

short_found : (c x : ℕ) → short_escape c ≡ Some x → IsShort c x
short_found c x = step 116 0x09 refl (step 110 0x0A refl (step 114 0x0D refl (step 34 0x22 refl (step 39 0x27 refl (step 92 0x5C refl (λ e. absurd (let f : ◌≡◌ {A = Option ℕ} None (Some x) = e in cc)))))))
  where
    step : (l y : ℕ) {o : Option ℕ} → IsShort l y → (o ≡ Some x → IsShort c x) → cond (c == l) (Some y) o ≡ Some x → IsShort c x
    step l y {o} is more = cond_both (c == l) (Some y) o (λ z. z ≡ Some x → IsShort c x)
        (λ t e. subst (λ (z : ℕ). IsShort z x) (sym (eqb-true c l t)) (subst (λ (z : ℕ). IsShort l z) (same_some y x e) is))
        (λ _. more)

escape_law : (c : ℕ) → Law m.Escape c (string_step m.Escape c)
unfolding string_step
escape_law c = by (short_escape c) refl
  where
    by : (o : Option ℕ) → short_escape c ≡ o → Law m.Escape c (first_escape o c)
    by (Some x) o = λ b given r h. element_body (x ∷ []) (92 ∷ c ∷ []) b given r (inr (inl (c, x, refl, short_found c x o, refl))) h
    by None o = cond_both (c == 117) _ _ (Law m.Escape c)
        (λ t b given r h. subst (λ (x : ℕ). Body (92 ∷ x ∷ b) given r) (sym (eqb-true c 117 t)) h)
        (λ _. with_digit_both 16 c Bad (λ d. On (m.Low d)) (Law m.Escape c) tt (λ d v lt b given r h. h c v lt))

low_law : (h c : ℕ) → Law (m.Low h) c (string_step (m.Low h) c)
unfolding string_step
low_law h c = with_digit_both 16 c Bad (λ d. Byte (h * 16 + d)) (Law (m.Low h) c) tt
    (λ d v lt b given r body u w low. element_body ((h * 16 + d) ∷ []) (92 ∷ u ∷ c ∷ []) b given r
    (inr (inr (inl (h, d, refl, (92 ∷ [], u ∷ c ∷ [], refl, refl, (u ∷ [], c ∷ [], refl, (u, refl, w, low), (c, refl, v, lt))))))) body)

opened : (b given r : List ℕ) → DigitsBody 0 false b given r → Body (92 ∷ 117 ∷ 123 ∷ b) given r
opened b given r (w, more, rest, k, e, (ds, hd, kd), sc, g, body) =
    let k-is : k ≡ capped (value 16 ds) = kd ∙ capped_value 0 ds in
    let same : k ≡ value 16 ds = k-is ∙ scalar_back (value 16 ds) (subst (λ (x : ℕ). is_scalar x ≡ true) k-is sc) in
    let text : 92 ∷ 117 ∷ 123 ∷ b ≡ (92 ∷ 117 ∷ 123 ∷ w ++ 125 ∷ []) ++ more = ap (λ (z : List ℕ). 92 ∷ 117 ∷ 123 ∷ z) (e ∙ sym (append_assoc w (125 ∷ []) more)) in
    let element : StringElement (encode_utf8 k) (92 ∷ 117 ∷ 123 ∷ w ++ 125 ∷ []) =
    inr (inr (inr (ds, ap encode_utf8 same, subst (λ (x : ℕ). is_scalar x ≡ true) same sc, (92 ∷ 117 ∷ 123 ∷ [], w ++ 125 ∷ [], refl, refl, (w, 125 ∷ [], refl, hd, refl))))) in
    subst (λ (z : List ℕ). Body z given r) (sym text) (subst (λ (z : List ℕ). Body ((92 ∷ 117 ∷ 123 ∷ w ++ 125 ∷ []) ++ more) z r) (sym g) (element_body (encode_utf8 k) (92 ∷ 117 ∷ 123 ∷ w ++ 125 ∷ []) more rest r element body))

brace_law : (c : ℕ) → Law m.Brace c (string_step m.Brace c)
unfolding string_step
brace_law c = cond_both (c == 123) _ _ (Law m.Brace c)
    (λ t b given r h. subst (λ (x : ℕ). Body (92 ∷ 117 ∷ x ∷ b) given r) (sym (eqb-true c 123 t)) (opened b given r h))
    (λ _. tt)

digits_law : (n : ℕ) (after : Bool) (c : ℕ) → Law (m.Digits n after) c (string_step (m.Digits n after) c)
unfolding string_step
digits_law n after c = cond_both ((c == 95) && after) _ _ (Law (m.Digits n after) c)
    (λ t b given r. under after (and_parts (c == 95) after t) b given r)
    (λ _. cond_both ((c == 125) && (after && is_scalar n)) _ _ (Law (m.Digits n after) c)
    (λ t b given r h. let p = and_parts (c == 125) (after && is_scalar n) t in let q = and_parts after (is_scalar n) p.1 in ended after (eqb-true c 125 p.0) q.0 q.1 b given r h)
    (λ _. with_digit_both 16 c Bad (λ d. On (m.Digits (capped (n * 16 + d)) true)) (Law (m.Digits n after) c) tt
    (λ d v lt b given r (w, more, rest, k, e, left, sc, g, body).
    (c ∷ w, more, rest, k, ap (λ (z : List ℕ). c ∷ z) e, any_after next_capped 16 n after (c ∷ w) k (digit_before next_capped 16 n c d w k v lt left), sc, g, body))))
  where
    under : (after : Bool) → ((c == 95) ≡ true) × (after ≡ true) → (b given r : List ℕ) → DigitsBody n false b given r → DigitsBody n after (c ∷ b) given r
    under false t b given r h = absurd (let f : false ≡ true = t.1 in cc)
    under true t b given r (w, more, rest, k, e, (ds, hd, kd), sc, g, body) =
        (95 ∷ w, more, rest, k, ap (λ (x : ℕ). x ∷ b) (eqb-true c 95 t.0) ∙ ap (λ (z : List ℕ). 95 ∷ z) e, inr (ds, w, inl refl, hd, kd), sc, g, body)

    ended : (after : Bool) → c ≡ 125 → after ≡ true → is_scalar n ≡ true → (b given r : List ℕ) → Body b given r → DigitsBody n after (c ∷ b) (encode_utf8 n ++ given) r
    ended false e a sc b given r h = absurd (let f : false ≡ true = a in cc)
    ended true e a sc b given r h = ([], b, given, n, ap (λ (x : ℕ). x ∷ b) e, inl (refl, refl), sc, refl, h)

step_law : (mode : Mode) (c : ℕ) → Law mode c (string_step mode c)
step_law m.Plain c = plain_law c
step_law m.Escape c = escape_law c
step_law (m.Low h) c = low_law h c
step_law m.Brace c = brace_law c
step_law (m.Digits n after) c = digits_law n after c

-- what was given, and before it this
giving_is : (part : List ℕ) (o : Option (List ℕ × List ℕ)) (given r : List ℕ) → giving part o ≡ Some (given, r) → (g : List ℕ) × (o ≡ Some (g, r)) × (given ≡ part ++ g)
giving_is part None given r e = absurd cc
giving_is part (Some (g, s)) given r e =
    let p : ◌≡◌ {A = List ℕ × List ℕ} (part ++ g, s) (given, r) = same_some (part ++ g, s) (given, r) e in
    (g, ap (λ (x : List ℕ × List ℕ). Some (g, x.1)) p, sym (ap (λ (x : List ℕ × List ℕ). x.0) p))

-- what the rest of a string gives is what it writes
pub string_left : (mode : Mode) (b given r : List ℕ) → string_in mode b ≡ Some (given, r) → Left mode b given r
string_left mode [] given r e = absurd cc
string_left mode (c ∷ b) given r e = by (string_step mode c) (step_law mode c) (λ next g s h. string_left next b g s h) e
  where
    by : (s : Step) → Law mode c s → ((next : Mode) (g t : List ℕ) → string_in next b ≡ Some (g, t) → Left next b g t) → string_next s b (λ n. string_in n b) ≡ Some (given, r) → Left mode (c ∷ b) given r
    by (On next) law more e = law b given r (more next given r e)
    by (Byte x) law more e = let g = giving_is (x ∷ []) (string_in m.Plain b) given r e in subst (λ (z : List ℕ). Left mode (c ∷ b) z r) (sym g.2) (law b g.0 r (more m.Plain g.0 r g.1))
    by (Scalar n) law more e = let g = giving_is (encode_utf8 n) (string_in m.Plain b) given r e in subst (λ (z : List ℕ). Left mode (c ∷ b) z r) (sym g.2) (law b g.0 r (more m.Plain g.0 r g.1))
    by End law more e =
        let p : ◌≡◌ {A = List ℕ × List ℕ} ([], b) (given, r) = same_some ([], b) (given, r) e in
        subst (λ (x : List ℕ × List ℕ). Left mode (c ∷ b) x.0 x.1) p (law b)
    by Bad law more e = absurd cc

-- ---- what is written is given

short_is : (c x : ℕ) → IsShort c x → short_escape c ≡ Some x
short_is c x h = at 116 0x09 refl (λ h. at 110 0x0A refl (λ h. at 114 0x0D refl (λ h. at 34 0x22 refl (λ h. at 39 0x27 refl (λ h. at 92 0x5C refl (λ h. absurd (let f : false ≡ true = h in cc)) h) h) h) h) h) h
  where
    at : (l y : ℕ) {more : Bool} → short_escape l ≡ Some y → (more ≡ true → short_escape c ≡ Some x) → (((l == c) && (y == x)) || more) ≡ true → short_escape c ≡ Some x
    at l y {more} e go h = elim (or_cases ((l == c) && (y == x)) more h) [
      | inl p ↦ (let q = both_are l y c x p in ap short_escape (sym q.0) ∙ e ∙ ap Some q.1)
      | inr p ↦ go p
    ]

digit_apart : (c d x : ℕ) → digit_value c ≡ Some d → digit_value x ≡ None → (c == x) ≡ false
digit_apart c d x v n = ne_eqb c x (λ k. let f : ◌≡◌ {A = Option ℕ} None (Some d) = sym n ∙ ap digit_value (sym k) ∙ v in cc)

digit_not_short : (c d : ℕ) → digit_value c ≡ Some d → short_escape c ≡ None
digit_not_short c d v =
    cond-false (c == 116) _ _ (digit_apart c d 116 v refl) ∙ cond-false (c == 110) _ _ (digit_apart c d 110 v refl) ∙ cond-false (c == 114) _ _ (digit_apart c d 114 v refl)
    ∙ cond-false (c == 34) _ _ (digit_apart c d 34 v refl) ∙ cond-false (c == 39) _ _ (digit_apart c d 39 v refl) ∙ cond-false (c == 92) _ _ (digit_apart c d 92 v refl)

-- one step, where it is known
pub goes : (mode : Mode) (c : ℕ) (b : List ℕ) (s : Step) → string_step mode c ≡ s → string_in mode (c ∷ b) ≡ string_next s b (λ n. string_in n b)
goes mode c b s e = ap (λ (x : Step). string_next x b (λ n. string_in n b)) e

step_plain : (c : ℕ) → is_string_char c ≡ true → string_step m.Plain c ≡ Byte c
unfolding string_step
step_plain c h =
    let apart : (x : ℕ) → is_string_char x ≡ false → (c == x) ≡ false = λ x n. ne_eqb c x (λ k. let f : false ≡ true = sym n ∙ ap is_string_char (sym k) ∙ h in cc) in
    cond-false (c == 34) _ _ (apart 34 refl) ∙ cond-false (c == 92) _ _ (apart 92 refl) ∙ cond-true (is_string_char c) _ _ h

pub step_slash : string_step m.Plain 92 ≡ On m.Escape
unfolding string_step
step_slash = refl

pub step_quote : string_step m.Plain 34 ≡ End
unfolding string_step
step_quote = refl

step_short : (c x : ℕ) → IsShort c x → string_step m.Escape c ≡ Byte x
unfolding string_step
step_short c x h = ap (λ (o : Option ℕ). first_escape o c) (short_is c x h)

pub step_high : (c d : ℕ) → digit_value c ≡ Some d → d < 16 → string_step m.Escape c ≡ On (m.Low d)
unfolding string_step
step_high c d v lt =
    ap (λ (o : Option ℕ). first_escape o c) (digit_not_short c d v) ∙ cond-false (c == 117) _ _ (digit_apart c d 117 v refl) ∙ digit_goes 16 c d Bad (λ d. On (m.Low d)) v lt

step_low : (h c d : ℕ) → digit_value c ≡ Some d → d < 16 → string_step (m.Low h) c ≡ Byte (h * 16 + d)
unfolding string_step
step_low h c d v lt = digit_goes 16 c d Bad (λ d. Byte (h * 16 + d)) v lt

pub step_u : string_step m.Escape 117 ≡ On m.Brace
unfolding string_step
step_u = refl

pub step_brace : string_step m.Brace 123 ≡ On (m.Digits 0 false)
unfolding string_step
step_brace = refl

step_digit : (n : ℕ) (after : Bool) (c d : ℕ) → digit_value c ≡ Some d → d < 16 → string_step (m.Digits n after) c ≡ On (m.Digits (capped (n * 16 + d)) true)
unfolding string_step
step_digit n after c d v lt =
    cond-false ((c == 95) && after) _ _ (and_left (c == 95) after (not_underscore c d v))
    ∙ cond-false ((c == 125) && (after && is_scalar n)) _ _ (and_left (c == 125) _ (digit_apart c d 125 v refl)) ∙ digit_goes 16 c d Bad _ v lt

pub step_under : (n : ℕ) → string_step (m.Digits n true) 95 ≡ On (m.Digits n false)
unfolding string_step
step_under n = refl

step_end : (n : ℕ) → is_scalar n ≡ true → string_step (m.Digits n true) 125 ≡ Scalar n
unfolding string_step
step_end n h = cond-true (is_scalar n) _ _ h

-- What follows the steps of a string: f from one mode to the next, and g where an element has given its bytes.
abbrev pub Follows : {X : Type 0} → (Mode → List ℕ → X) → (List ℕ → List ℕ → X) → Type 0
Follows f g =
    ((mode next : Mode) (c : ℕ) (b : List ℕ) → string_step mode c ≡ On next → f mode (c ∷ b) ≡ f next b)
    × ((mode : Mode) (c x : ℕ) (b : List ℕ) → string_step mode c ≡ Byte x → f mode (c ∷ b) ≡ g (x ∷ []) b)
    × ((mode : Mode) (c n : ℕ) (b : List ℕ) → string_step mode c ≡ Scalar n → f mode (c ∷ b) ≡ g (encode_utf8 n) b)

pub digits_passed : {X : Type 0} (f : Mode → List ℕ → X) (g : List ℕ → List ℕ → X) → Follows f g → (n : ℕ) (after : Bool) (ds b r : List ℕ) → Digits 16 ds b
    → f (m.Digits n after) (b ++ r) ≡ f (m.Digits (fold next_capped n ds) true) r
digits_passed f g go n after [] b r h = absurd h
digits_passed f g go n after (d ∷ []) b r (c, e, v, lt) = ap (λ (z : List ℕ). f (m.Digits n after) (z ++ r)) e ∙ go.0 (m.Digits n after) (m.Digits (capped (n * 16 + d)) true) c r (step_digit n after c d v lt)
digits_passed f g go n after (d ∷ e ∷ ds) b r (x, y, whole, (c, is, v, lt), (s, w, parts, inl under, more)) =
    let text : b ≡ c ∷ 95 ∷ w = whole ∙ ap (λ (z : List ℕ). z ++ y) is ∙ ap (λ (z : List ℕ). c ∷ z) (parts ∙ ap (λ (z : List ℕ). z ++ w) under) in
    ap (λ (z : List ℕ). f (m.Digits n after) (z ++ r)) text ∙ go.0 (m.Digits n after) (m.Digits (capped (n * 16 + d)) true) c (95 ∷ w ++ r) (step_digit n after c d v lt)
    ∙ go.0 (m.Digits (capped (n * 16 + d)) true) (m.Digits (capped (n * 16 + d)) false) 95 (w ++ r) (step_under _) ∙ digits_passed f g go (capped (n * 16 + d)) false (e ∷ ds) w r more
digits_passed f g go n after (d ∷ e ∷ ds) b r (x, y, whole, (c, is, v, lt), (s, w, parts, inr none, more)) =
    let text : b ≡ c ∷ w = whole ∙ ap (λ (z : List ℕ). z ++ y) is ∙ ap (λ (z : List ℕ). c ∷ z) (parts ∙ ap (λ (z : List ℕ). z ++ w) none) in
    ap (λ (z : List ℕ). f (m.Digits n after) (z ++ r)) text ∙ go.0 (m.Digits n after) (m.Digits (capped (n * 16 + d)) true) c (w ++ r) (step_digit n after c d v lt)
    ∙ digits_passed f g go (capped (n * 16 + d)) true (e ∷ ds) w r more

pub element_passed : {X : Type 0} (f : Mode → List ℕ → X) (g : List ℕ → List ℕ → X) → Follows f g → (part u r : List ℕ) → StringElement part u → f m.Plain (u ++ r) ≡ g part r
element_passed f g go part u r (inl (c, given, p, e)) =
    ap (λ (z : List ℕ). f m.Plain (z ++ r)) e ∙ go.1 m.Plain c c r (step_plain c p) ∙ ap (λ (z : List ℕ). g z r) (sym given)
element_passed f g go part u r (inr (inl (letter, c, given, p, e))) =
    ap (λ (z : List ℕ). f m.Plain (z ++ r)) e ∙ go.0 m.Plain m.Escape 92 (letter ∷ r) step_slash ∙ go.1 m.Escape letter c r (step_short letter c p)
    ∙ ap (λ (z : List ℕ). g z r) (sym given)
element_passed f g go part u r (inr (inr (inl (h, l, given, (x, y, e, p, (x2, y2, e2, (c, is, v, lt), (d, is2, v2, lt2))))))) =
    let text : u ≡ 92 ∷ c ∷ d ∷ [] = e ∙ ap (λ (z : List ℕ). z ++ y) p ∙ ap (λ (z : List ℕ). 92 ∷ z) (e2 ∙ ap (λ (z : List ℕ). z ++ y2) is ∙ ap (λ (z : List ℕ). c ∷ z) is2) in
    ap (λ (z : List ℕ). f m.Plain (z ++ r)) text ∙ go.0 m.Plain m.Escape 92 (c ∷ d ∷ r) step_slash ∙ go.0 m.Escape (m.Low h) c (d ∷ r) (step_high c h v lt)
    ∙ go.1 (m.Low h) d (h * 16 + l) r (step_low h d l v2 lt2) ∙ ap (λ (z : List ℕ). g z r) (sym given)
element_passed f g go part u r (inr (inr (inr (ds, given, sc, (x, y, e, p, (x2, y2, e2, hd, last)))))) =
    let text : u ≡ 92 ∷ 117 ∷ 123 ∷ x2 ++ 125 ∷ [] = e ∙ ap (λ (z : List ℕ). z ++ y) p ∙ ap (λ (z : List ℕ). 92 ∷ 117 ∷ 123 ∷ z) (e2 ∙ ap (λ (z : List ℕ). x2 ++ z) last) in
    let whole : u ++ r ≡ 92 ∷ 117 ∷ 123 ∷ x2 ++ 125 ∷ r = ap (λ (z : List ℕ). z ++ r) text ∙ ap (λ (z : List ℕ). 92 ∷ 117 ∷ 123 ∷ z) (append_assoc x2 (125 ∷ []) r) in
    let n : ℕ = fold next_capped 0 ds in
    let n-is : n ≡ value 16 ds = capped_value 0 ds ∙ scalar_kept (value 16 ds) sc in
    let scn : is_scalar n ≡ true = subst (λ (k : ℕ). is_scalar k ≡ true) (sym n-is) sc in
    ap (f m.Plain) whole ∙ go.0 m.Plain m.Escape 92 (117 ∷ 123 ∷ x2 ++ 125 ∷ r) step_slash ∙ go.0 m.Escape m.Brace 117 (123 ∷ x2 ++ 125 ∷ r) step_u
    ∙ go.0 m.Brace (m.Digits 0 false) 123 (x2 ++ 125 ∷ r) step_brace ∙ digits_passed f g go 0 false ds x2 (125 ∷ r) hd ∙ go.2 (m.Digits n true) 125 n r (step_end n scn)
    ∙ ap (λ (z : List ℕ). g z r) (ap encode_utf8 n-is ∙ sym given)

pub element_more : (part u r : List ℕ) → StringElement part u → string_in m.Plain (u ++ r) ≡ giving part (string_in m.Plain r)
element_more = element_passed string_in (λ part r. giving part (string_in m.Plain r))
    ((λ mode next c b e. goes mode c b (On next) e), (λ mode c x b e. goes mode c b (Byte x) e), (λ mode c n b e. goes mode c b (Scalar n) e))

pub body_more : (parts : List (List ℕ)) (t r : List ℕ) → Each StringElement parts t → string_in m.Plain (t ++ 34 ∷ r) ≡ Some (joined parts, r)
body_more [] t r e = ap (λ (z : List ℕ). string_in m.Plain (z ++ 34 ∷ r)) e ∙ goes m.Plain 34 r _ step_quote
body_more (part ∷ parts) t r (x, y, e, p, q) =
    ap (λ (z : List ℕ). string_in m.Plain (z ++ 34 ∷ r)) e ∙ ap (string_in m.Plain) (append_assoc x y (34 ∷ r)) ∙ element_more part x (y ++ 34 ∷ r) p
    ∙ ap (giving part) (body_more parts y r q)

pub string_more : (bytes b r : List ℕ) → String bytes b → (c : List ℕ) × (b ++ r ≡ 34 ∷ c) × (string_in m.Plain c ≡ Some (bytes, r))
string_more bytes b r (parts, g, (x, y, e, p, (t, z, e2, q, last))) =
    let text : b ≡ 34 ∷ t ++ 34 ∷ [] = e ∙ ap (λ (w : List ℕ). w ++ y) p ∙ ap (λ (w : List ℕ). 34 ∷ w) (e2 ∙ ap (λ (w : List ℕ). t ++ w) last) in
    (t ++ 34 ∷ r, ap (λ (w : List ℕ). w ++ r) text ∙ ap (λ (w : List ℕ). 34 ∷ w) (append_assoc t (34 ∷ []) r), body_more parts t r q ∙ ap (λ (w : List ℕ). Some (w, r)) (sym g))

pub string_found : (b bytes r : List ℕ) → string_in m.Plain b ≡ Some (bytes, r) → (t : List ℕ) × (34 ∷ b ≡ t ++ r) × String bytes t
string_found b bytes r e =
    let g = string_left m.Plain b bytes r e in
    (34 ∷ g.0, ap (λ (w : List ℕ). 34 ∷ w) g.2, (g.1, g.3, (34 ∷ [], g.0, refl, refl, g.4)))

-- ---- as the code reads a string

rest_giving : (part : List ℕ) (o : Option (List ℕ × List ℕ)) → rest_of (giving part o) ≡ rest_of o
rest_giving part None = refl
rest_giving part (Some x) = refl

at_step : (mode : Mode) (c : ℕ) (b : List ℕ) (s : Step) → s ≡ string_step mode c → string_in mode (c ∷ b) ≡ string_next s b (λ n. string_in n b)
at_step mode c b s e = goes mode c b s (sym e)

pub rest_on : (mode next : Mode) (c : ℕ) (b : List ℕ) → On next ≡ string_step mode c → rest_of (string_in mode (c ∷ b)) ≡ rest_of (string_in next b)
rest_on mode next c b e = ap rest_of (at_step mode c b (On next) e)

pub rest_byte : (mode : Mode) (c x : ℕ) (b : List ℕ) → Byte x ≡ string_step mode c → rest_of (string_in mode (c ∷ b)) ≡ rest_of (string_in m.Plain b)
rest_byte mode c x b e = ap rest_of (at_step mode c b (Byte x) e) ∙ rest_giving (x ∷ []) (string_in m.Plain b)

pub rest_scalar : (mode : Mode) (c x : ℕ) (b : List ℕ) → Scalar x ≡ string_step mode c → rest_of (string_in mode (c ∷ b)) ≡ rest_of (string_in m.Plain b)
rest_scalar mode c x b e = ap rest_of (at_step mode c b (Scalar x) e) ∙ rest_giving (encode_utf8 x) (string_in m.Plain b)

pub rest_end : (mode : Mode) (c : ℕ) (b : List ℕ) → End ≡ string_step mode c → rest_of (string_in mode (c ∷ b)) ≡ Some b
rest_end mode c b e = ap rest_of (at_step mode c b End e)

pub rest_bad : (mode : Mode) (c : ℕ) (b : List ℕ) → Bad ≡ string_step mode c → rest_of (string_in mode (c ∷ b)) ≡ None
rest_bad mode c b e = ap rest_of (at_step mode c b Bad e)

pub ruleset rest_laws = (rest_on, rest_byte, rest_scalar, rest_end, rest_bad)

why_goes : (mode : Mode) (c : ℕ) (b : List ℕ) (s : Step) → s ≡ string_step mode c → why_in mode (c ∷ b) ≡ why_next mode s (λ n. why_in n b)
why_goes mode c b s e = ap (λ (x : Step). why_next mode x (λ n. why_in n b)) (sym e)

pub why_on : (mode next : Mode) (c : ℕ) (b : List ℕ) → On next ≡ string_step mode c → why_in mode (c ∷ b) ≡ why_in next b
why_on mode next c b e = why_goes mode c b (On next) e

pub why_byte : (mode : Mode) (c x : ℕ) (b : List ℕ) → Byte x ≡ string_step mode c → why_in mode (c ∷ b) ≡ why_in m.Plain b
why_byte mode c x b e = why_goes mode c b (Byte x) e

pub why_scalar : (mode : Mode) (c x : ℕ) (b : List ℕ) → Scalar x ≡ string_step mode c → why_in mode (c ∷ b) ≡ why_in m.Plain b
why_scalar mode c x b e = why_goes mode c b (Scalar x) e

pub why_bad : (mode : Mode) (c : ℕ) (b : List ℕ) → Bad ≡ string_step mode c → why_in mode (c ∷ b) ≡ bad_in mode
why_bad mode c b e = why_goes mode c b Bad e

pub ruleset why_laws = (why_on, why_byte, why_scalar, why_bad)

given_goes : (mode : Mode) (c : ℕ) (b : List ℕ) (s : Step) → s ≡ string_step mode c → given_in mode (c ∷ b) ≡ given_next s (λ n. given_in n b)
given_goes mode c b s e = ap (λ (x : Step). given_next x (λ n. given_in n b)) (sym e)

pub given_on : (mode next : Mode) (c : ℕ) (b : List ℕ) → On next ≡ string_step mode c → given_in mode (c ∷ b) ≡ given_in next b
given_on mode next c b e = given_goes mode c b (On next) e

pub given_byte : (mode : Mode) (c x : ℕ) (b : List ℕ) → Byte x ≡ string_step mode c → given_in mode (c ∷ b) ≡ x ∷ given_in m.Plain b
given_byte mode c x b e = given_goes mode c b (Byte x) e

pub given_scalar : (mode : Mode) (c x : ℕ) (b : List ℕ) → Scalar x ≡ string_step mode c → given_in mode (c ∷ b) ≡ encode_utf8 x ++ given_in m.Plain b
given_scalar mode c x b e = given_goes mode c b (Scalar x) e

pub given_end : (mode : Mode) (c : ℕ) (b : List ℕ) → End ≡ string_step mode c → given_in mode (c ∷ b) ≡ []
given_end mode c b e = given_goes mode c b End e

pub given_bad : (mode : Mode) (c : ℕ) (b : List ℕ) → Bad ≡ string_step mode c → given_in mode (c ∷ b) ≡ []
given_bad mode c b e = given_goes mode c b Bad e

pub ruleset given_laws = (given_on, given_byte, given_scalar, given_end, given_bad)

-- where no byte stands first that so many characters write
none_goes : (n : ℕ) (mode : Mode) (c : ℕ) (b : List ℕ) (s : Step) → s ≡ string_step mode c → byte_at (suc n) mode (c ∷ b) ≡ byte_next s b (λ m. byte_at n m b)
unfolding byte_at
none_goes n mode c b s e = ap (λ (x : Step). byte_next x b (λ m. byte_at n m b)) (sym e)

none_at_once : (mode : Mode) (b : List ℕ) → byte_at 0 mode b ≡ None
unfolding byte_at
none_at_once mode b = refl

pub none_empty : (n : ℕ) (mode : Mode) (b : List ℕ) → length b ≡ 0 → byte_at n mode b ≡ None
unfolding byte_at
none_empty zero mode b e = refl
none_empty (suc n) mode [] e = refl
none_empty (suc n) mode (c ∷ b) e = absurd (omega (arith, e))

none_on_3 : (mode next : Mode) (c : ℕ) (b : List ℕ) → On next ≡ string_step mode c → byte_at 3 mode (c ∷ b) ≡ byte_at 2 next b
none_on_3 mode next c b e = none_goes 2 mode c b (On next) e

none_on_2 : (mode next : Mode) (c : ℕ) (b : List ℕ) → On next ≡ string_step mode c → byte_at 2 mode (c ∷ b) ≡ byte_at 1 next b
none_on_2 mode next c b e = none_goes 1 mode c b (On next) e

pub none_far : {X : Type 0} (mode next : Mode) (b r : List ℕ) (o : Option X) → 1 ≤ length b → On next ≡ string_step mode (get_or b 0 0) → r ≡ drop 1 b → IfNone o (byte_at 2 next r ≡ None) → IfNone o (byte_at 3 mode b ≡ None)
none_far mode next [] r o some e cut h = absurd (omega (arith, some))
none_far mode next (c ∷ b) r (Some x) some e cut h = tt
none_far mode next (c ∷ b) r None some e cut h = none_on_3 mode next c b e ∙ ap (byte_at 2 next) (sym cut) ∙ h

pub none_near : {X : Type 0} (mode next : Mode) (b r : List ℕ) (o : Option X) → 1 ≤ length b → On next ≡ string_step mode (get_or b 0 0) → r ≡ drop 1 b → IfNone o (byte_at 1 next r ≡ None) → IfNone o (byte_at 2 mode b ≡ None)
none_near mode next [] r o some e cut h = absurd (omega (arith, some))
none_near mode next (c ∷ b) r (Some x) some e cut h = tt
none_near mode next (c ∷ b) r None some e cut h = none_on_2 mode next c b e ∙ ap (byte_at 1 next) (sym cut) ∙ h

pub none_on_1 : (mode next : Mode) (c : ℕ) (b : List ℕ) → On next ≡ string_step mode c → byte_at 1 mode (c ∷ b) ≡ None
none_on_1 mode next c b e = none_goes 0 mode c b (On next) e ∙ none_at_once next b

pub none_scalar : (n : ℕ) (mode : Mode) (c x : ℕ) (b : List ℕ) → Scalar x ≡ string_step mode c → byte_at n mode (c ∷ b) ≡ None
none_scalar zero mode c x b e = none_at_once mode (c ∷ b)
none_scalar (suc n) mode c x b e = none_goes n mode c b (Scalar x) e

pub none_end : (n : ℕ) (mode : Mode) (c : ℕ) (b : List ℕ) → End ≡ string_step mode c → byte_at n mode (c ∷ b) ≡ None
none_end zero mode c b e = none_at_once mode (c ∷ b)
none_end (suc n) mode c b e = none_goes n mode c b End e

pub none_bad : (n : ℕ) (mode : Mode) (c : ℕ) (b : List ℕ) → Bad ≡ string_step mode c → byte_at n mode (c ∷ b) ≡ None
none_bad zero mode c b e = none_at_once mode (c ∷ b)
none_bad (suc n) mode c b e = none_goes n mode c b Bad e

pub ruleset none_laws = (none_empty, none_on_1, none_scalar, none_end, none_bad)

-- of a whole string both are one reading
pub given_same : (mode : Mode) (b r : List ℕ) → rest_of (string_in mode b) ≡ Some r → string_in mode b ≡ Some (given_in mode b, r)
given_same mode [] r e = absurd cc
given_same mode (c ∷ b) r e = by (string_step mode c) (λ n s g. given_same n b s g) e
  where
    part_same : (part g : List ℕ) (o : Option (List ℕ × List ℕ)) → ((s : List ℕ) → rest_of o ≡ Some s → o ≡ Some (g, s)) → rest_of (giving part o) ≡ Some r → giving part o ≡ Some (part ++ g, r)
    part_same part g o h e = ap (giving part) (h r (sym (rest_giving part o) ∙ e))

    by : (s : Step) → ((n : Mode) (s : List ℕ) → rest_of (string_in n b) ≡ Some s → string_in n b ≡ Some (given_in n b, s)) → rest_of (string_next s b (λ n. string_in n b)) ≡ Some r
        → string_next s b (λ n. string_in n b) ≡ Some (given_next s (λ n. given_in n b), r)
    by (On n) again e = again n r e
    by (Byte x) again e = part_same (x ∷ []) (given_in m.Plain b) (string_in m.Plain b) (again m.Plain) e
    by (Scalar x) again e = part_same (encode_utf8 x) (given_in m.Plain b) (string_in m.Plain b) (again m.Plain) e
    by End again e = ap (λ (x : List ℕ). Some ([], x)) (same_some b r e)
    by Bad again e = absurd cc

-- what stands before the last quotation mark gives all that the string gives
given_cut : (mode : Mode) (b r : List ℕ) → rest_of (string_in mode b) ≡ Some r → (part : List ℕ) × (last : ℕ) × (b ≡ part ++ last ∷ r) × (given_in mode part ≡ given_in mode b)
given_cut mode [] r e = absurd cc
given_cut mode (c ∷ b) r e = by (string_step mode c) refl (λ n s g. given_cut n b s g) e
  where
    at : (part : List ℕ) (s : Step) → string_step mode c ≡ s → given_in mode (c ∷ part) ≡ given_next s (λ n. given_in n part)
    at part s is = ap (λ (x : Step). given_next x (λ n. given_in n part)) is

    by : (s : Step) → string_step mode c ≡ s
        → ((n : Mode) (t : List ℕ) → rest_of (string_in n b) ≡ Some t → (part : List ℕ) × (last : ℕ) × (b ≡ part ++ last ∷ t) × (given_in n part ≡ given_in n b))
        → rest_of (string_next s b (λ n. string_in n b)) ≡ Some r → (part : List ℕ) × (last : ℕ) × (c ∷ b ≡ part ++ last ∷ r) × (given_in mode part ≡ given_next s (λ n. given_in n b))
    by (On n) is again e = let g = again n r e in (c ∷ g.0, g.1, ap (λ (z : List ℕ). c ∷ z) g.2, at g.0 (On n) is ∙ g.3)
    by (Byte x) is again e =
        let g = again m.Plain r (sym (rest_giving (x ∷ []) (string_in m.Plain b)) ∙ e) in
        (c ∷ g.0, g.1, ap (λ (z : List ℕ). c ∷ z) g.2, at g.0 (Byte x) is ∙ ap (λ (z : List ℕ). x ∷ z) g.3)
    by (Scalar x) is again e =
        let g = again m.Plain r (sym (rest_giving (encode_utf8 x) (string_in m.Plain b)) ∙ e) in
        (c ∷ g.0, g.1, ap (λ (z : List ℕ). c ∷ z) g.2, at g.0 (Scalar x) is ∙ ap (λ (z : List ℕ). encode_utf8 x ++ z) g.3)
    by End is again e = ([], c, ap (λ (z : List ℕ). c ∷ z) (same_some b r e), refl)
    by Bad is again e = absurd cc

pub string_shorter : (b r : List ℕ) → rest_of (string_in m.Plain b) ≡ Some r → length r < length b
string_shorter b r e = let g = given_cut m.Plain b r e in let n : length b ≡ length (g.0 ++ g.1 ∷ r) = ap length g.2 in omega (arith, n, length-append g.0 (g.1 ∷ r))

pub string_first : (b r x : List ℕ) → rest_of (string_in m.Plain b) ≡ Some r → x ≡ take (length b - length r - 1) b → first (string (given_in m.Plain x)) r ≡ string_or_fault (string_in m.Plain b)
string_first b r x e is =
    let g = given_cut m.Plain b r e in
    let n : length g.0 ≡ length b - length r - 1 = (let l : length b ≡ length (g.0 ++ g.1 ∷ r) = ap length g.2 in omega (arith, l, length-append g.0 (g.1 ∷ r))) in
    let inside : x ≡ g.0 = is ∙ ap (take (length b - length r - 1)) g.2 ∙ take_at g.0 (g.1 ∷ r) (length b - length r - 1) n in
    ap (λ (z : List ℕ). first (string (given_in m.Plain z)) r) inside ∙ ap (λ (z : List ℕ). first (string z) r) g.3 ∙ sym (ap string_or_fault (given_same m.Plain b r e))

pub ruleset string_laws = (string_shorter, string_first)
