-- The errors of a string: the text ends inside it, or an escape is malformed.
use Rattle.std.proofs.Common.{◌≡◌, ℕ, zero, suc, ◌<◌, ◌+◌, ◌*◌, ◌⊎◌, Bool, true, false, List, [], ◌∷◌, ◌++◌, Option, Some, None, refl, sym, ap, subst, ◌∙◌, inl, inr, arith, append_assoc, length, length-append}
use Rattle.std.specs.Prelude.{◌==◌, ◌&&◌, fold, encode_utf8}
use Rattle.std.proofs.lemmas.Bool.{cond_both, eqb-true, and_parts}
use Rattle.std.proofs.lemmas.List.{append-nil, append_cancel_right}
use Rattle.wm_syntax.specs.Spelling.{Each, ◌▸◌}
use Rattle.wm_syntax.proofs.Flat.{each_append}
use Rattle.wm_tokens.specs.Tokens.{digit_value, is_string_char, is_scalar, StringElement}
use Rattle.wm_tokens.specs.TokenFaults.{EscapeFront, Elements, NoEscape}
use Rattle.wm_tokens.specs.declared.faults.TextWhy.{TextWhy}
use Rattle.wm_tokens.specs.declared.faults.TextWhy.TheVariants.{BadToken, OpenString, BadEscape}
use Rattle.wm_tokens.specs.declared.scan.Mode.{Mode}
use Rattle.wm_tokens.specs.declared.scan.Mode.TheVariants as m
use Rattle.wm_tokens.specs.declared.scan.Step.{Step}
use Rattle.wm_tokens.specs.declared.scan.Step.TheVariants.{On, Byte, Scalar, End, Bad}
use Rattle.wm_tokens.specs.exact.Scan.{capped, short_escape, first_escape, string_step, string_next, string_in, giving, bad_in, why_next, why_in}
use Rattle.wm_tokens.proofs.Atoms.{DigitsLeft, digit_before, any_after}
use Rattle.wm_tokens.proofs.Strings.{next_capped, with_digit_both, goes, step_slash, step_quote, step_high, step_u, step_brace, step_under, digits_passed, element_passed, string_left, Body}

-- ---- the first element

-- the first element is passed over, or the text ends within it, or the string ends, or a byte can't stand there
data Part : Type 0 where
  passed : List ℕ → Part
  over : Part
  closed : List ℕ → Part
  wrong : TextWhy → Part

abbrev part_next : Mode → Step → List ℕ → (Mode → Part) → Part
part_next mode (On next) b more = more next
part_next mode (Byte x) b more = passed b
part_next mode (Scalar x) b more = passed b
part_next mode End b more = closed b
part_next mode Bad b more = wrong (bad_in mode)

abbrev part_in : Mode → List ℕ → Part
part_in mode [] = over
part_in mode (c ∷ b) = part_next mode (string_step mode c) b (λ n. part_in n b)

part_goes : (mode : Mode) (c : ℕ) (b : List ℕ) (s : Step) → string_step mode c ≡ s → part_in mode (c ∷ b) ≡ part_next mode s b (λ n. part_in n b)
part_goes mode c b s e = ap (λ (x : Step). part_next mode x b (λ n. part_in n b)) e

abbrev why_of : Part → TextWhy
why_of (passed r) = why_in m.Plain r
why_of over = OpenString
why_of (closed r) = BadToken
why_of (wrong w) = w

why_by : (mode : Mode) (b : List ℕ) → why_in mode b ≡ why_of (part_in mode b)
why_by mode [] = refl
why_by mode (c ∷ b) = by (string_step mode c) (λ n. why_by n b)
  where
    by : (s : Step) → ((n : Mode) → why_in n b ≡ why_of (part_in n b)) → why_next mode s (λ n. why_in n b) ≡ why_of (part_next mode s b (λ n. part_in n b))
    by (On n) again = again n
    by (Byte x) again = refl
    by (Scalar x) again = refl
    by End again = refl
    by Bad again = refl

abbrev Gives : Option (List ℕ × List ℕ) → Part → Type 0
Gives o (passed r) = (x : List ℕ) × (o ≡ giving x (string_in m.Plain r))
Gives o over = o ≡ None
Gives o (closed r) = o ≡ Some ([], r)
Gives o (wrong w) = o ≡ None

gives : (mode : Mode) (b : List ℕ) → Gives (string_in mode b) (part_in mode b)
gives mode [] = refl
gives mode (c ∷ b) = by (string_step mode c) (λ n. gives n b)
  where
    by : (s : Step) → ((n : Mode) → Gives (string_in n b) (part_in n b)) → Gives (string_next s b (λ n. string_in n b)) (part_next mode s b (λ n. part_in n b))
    by (On n) again = again n
    by (Byte x) again = (x ∷ [], refl)
    by (Scalar x) again = (encode_utf8 x, refl)
    by End again = refl
    by Bad again = refl

-- ---- an element is passed over

passed_more : (part u r : List ℕ) → StringElement part u → part_in m.Plain (u ++ r) ≡ passed r
passed_more = element_passed part_in (λ part r. passed r)
    ((λ mode next c b e. part_goes mode c b (On next) e), (λ mode c x b e. part_goes mode c b (Byte x) e), (λ mode c n b e. part_goes mode c b (Scalar n) e))

-- what is passed over, and what it gives whatever follows
abbrev Front : Mode → List ℕ → Part → Type 0
Front mode b (passed r) = (e x : List ℕ) × (b ≡ e ++ r) × (0 < length e) × ((s : List ℕ) → string_in mode (e ++ s) ≡ giving x (string_in m.Plain s))
Front mode b _ = Unit {0}

front_is : (mode : Mode) (b : List ℕ) → Front mode b (part_in mode b)
front_is mode [] = tt
front_is mode (c ∷ b) = by (string_step mode c) refl (λ n. front_is n b)
  where
    on : (n : Mode) (p : Part) → string_step mode c ≡ On n → Front n b p → Front mode (c ∷ b) p
    on n (passed r) is (e, x, cut, lt, more) = (c ∷ e, x, ap (λ (z : List ℕ). c ∷ z) cut, omega arith, λ s. goes mode c (e ++ s) (On n) is ∙ more s)
    on n over is h = tt
    on n (closed r) is h = tt
    on n (wrong w) is h = tt

    by : (s : Step) → string_step mode c ≡ s → ((n : Mode) → Front n b (part_in n b)) → Front mode (c ∷ b) (part_next mode s b (λ n. part_in n b))
    by (On n) is again = on n (part_in n b) is (again n)
    by (Byte x) is again = (c ∷ [], x ∷ [], refl, omega arith, λ s. goes mode c s (Byte x) is)
    by (Scalar x) is again = (c ∷ [], encode_utf8 x, refl, omega arith, λ s. goes mode c s (Scalar x) is)
    by End is again = tt
    by Bad is again = tt

passed_found : (b r : List ℕ) → part_in m.Plain b ≡ passed r → (e : List ℕ) × (b ≡ e ++ r) × (0 < length e) × Elements e
passed_found b r is = by (subst (Front m.Plain b) is (front_is m.Plain b))
  where
    by : Front m.Plain b (passed r) → (e : List ℕ) × (b ≡ e ++ r) × (0 < length e) × Elements e
    by (e, x, cut, lt, more) = with_quote (string_left m.Plain (e ++ 34 ∷ []) (x ++ []) [] (more (34 ∷ []) ∙ ap (giving x) (goes m.Plain 34 [] End step_quote)))
      where
        with_quote : Body (e ++ 34 ∷ []) (x ++ []) [] → (e : List ℕ) × (b ≡ e ++ r) × (0 < length e) × Elements e
        with_quote (t, parts, whole, given, (p, q, s, all, last)) =
            let same : e ≡ p = append_cancel_right e p (34 ∷ []) (whole ∙ append-nil t ∙ s ∙ ap (λ (z : List ℕ). p ++ z) last) in
            (e, cut, lt, (parts, subst (Each StringElement parts) (sym same) all))

-- an element of these is the first
first_element : (e : List ℕ) → 0 < length e → Elements e → (given part rest : List ℕ) × (e ≡ part ++ rest) × StringElement given part
first_element e lt ([], h) = absurd (let n : length e ≡ 0 = ap length h in omega (arith, lt, n))
first_element e lt (given ∷ parts, (x, y, cut, h, more)) = (given, x, y, cut, h)

-- ---- within an escape

abbrev NotPlain : Mode → Type 0
NotPlain m.Plain = ⊥
NotPlain _ = Unit {0}

-- what is left of digits where the text ends
abbrev DigitsCut : ℕ → Bool → List ℕ → Type 0
DigitsCut n after b = (w s : List ℕ) × (k : ℕ) × (b ≡ w ++ s) × ((s ≡ []) ⊎ (s ≡ 95 ∷ [])) × DigitsLeft next_capped 16 n after w k

abbrev Cut : Mode → List ℕ → Type 0
Cut m.Plain b = (b ≡ []) ⊎ EscapeFront b
Cut m.Escape b = EscapeFront (92 ∷ b)
Cut (m.Low h) b = (c : ℕ) → digit_value c ≡ Some h → h < 16 → EscapeFront (92 ∷ c ∷ b)
Cut m.Brace b = EscapeFront (92 ∷ 117 ∷ b)
Cut (m.Digits n true) b = DigitsCut n true b
Cut (m.Digits n false) b = (b ≡ []) ⊎ DigitsCut n false b

abbrev Law : Mode → ℕ → Step → Type 0
Law mode c (On next) = NotPlain next × ((b : List ℕ) → Cut next b → Cut mode (c ∷ b))
Law mode c End = NotPlain mode → ⊥
Law mode c _ = Unit {0}

plain_law : (c : ℕ) → Law m.Plain c (string_step m.Plain c)
unfolding string_step
plain_law c =
    cond_both (c == 34) _ _ (Law m.Plain c) (λ _ n. n)
    (λ _. cond_both (c == 92) _ _ (Law m.Plain c) (λ t. (tt, λ b h. subst (λ (x : ℕ). Cut m.Plain (x ∷ b)) (sym (eqb-true c 92 t)) (inr h)))
    (λ _. cond_both (is_string_char c) _ _ (Law m.Plain c) (λ _. tt) (λ _. tt)))

escape_law : (c : ℕ) → Law m.Escape c (string_step m.Escape c)
unfolding string_step
escape_law c = by (short_escape c)
  where
    by : (o : Option ℕ) → Law m.Escape c (first_escape o c)
    by (Some x) = tt
    by None = cond_both (c == 117) _ _ (Law m.Escape c)
        (λ t. (tt, λ b h. subst (λ (x : ℕ). EscapeFront (92 ∷ x ∷ b)) (sym (eqb-true c 117 t)) h))
        (λ _. with_digit_both 16 c Bad (λ d. On (m.Low d)) (Law m.Escape c) tt (λ d v lt. (tt, λ b h. h c v lt)))

low_law : (h c : ℕ) → Law (m.Low h) c (string_step (m.Low h) c)
unfolding string_step
low_law h c = with_digit_both 16 c Bad (λ d. Byte (h * 16 + d)) (Law (m.Low h) c) tt (λ d v lt. tt)

opened : (b : List ℕ) → Cut (m.Digits 0 false) b → EscapeFront (92 ∷ 117 ∷ 123 ∷ b)
opened b (inl e) = inr (inr (inr (inl (ap (λ (z : List ℕ). 92 ∷ 117 ∷ 123 ∷ z) e))))
opened b (inr (w, s, k, e, last, (ds, h, same))) = inr (inr (inr (inr (ds, (92 ∷ 117 ∷ 123 ∷ [], b, refl, refl, (w, s, e, h, last))))))

brace_law : (c : ℕ) → Law m.Brace c (string_step m.Brace c)
unfolding string_step
brace_law c = cond_both (c == 123) _ _ (Law m.Brace c)
    (λ t. (tt, λ b h. subst (λ (x : ℕ). EscapeFront (92 ∷ 117 ∷ x ∷ b)) (sym (eqb-true c 123 t)) (opened b h)))
    (λ _. tt)

digits_law : (n : ℕ) (after : Bool) (c : ℕ) → Law (m.Digits n after) c (string_step (m.Digits n after) c)
unfolding string_step
digits_law n after c = cond_both ((c == 95) && after) _ _ (Law (m.Digits n after) c)
    (λ t. (tt, λ b h. under after (and_parts (c == 95) after t) b h))
    (λ _. cond_both ((c == 125) && (after && is_scalar n)) _ _ (Law (m.Digits n after) c) (λ _. tt)
    (λ _. with_digit_both 16 c Bad (λ d. On (m.Digits (capped (n * 16 + d)) true)) (Law (m.Digits n after) c) tt
    (λ d v lt. (tt, λ b h. digit after d v lt b h))))
  where
    under : (after : Bool) → ((c == 95) ≡ true) × (after ≡ true) → (b : List ℕ) → Cut (m.Digits n false) b → Cut (m.Digits n after) (c ∷ b)
    under false t b h = absurd (let f : false ≡ true = t.1 in cc)
    under true t b (inl none) = ([], 95 ∷ [], n, ap (λ (x : ℕ). x ∷ b) (eqb-true c 95 t.0) ∙ ap (λ (z : List ℕ). 95 ∷ z) none, inr refl, inl (refl, refl))
    under true t b (inr (w, s, k, e, last, (ds, h, same))) =
        (95 ∷ w, s, k, ap (λ (x : ℕ). x ∷ b) (eqb-true c 95 t.0) ∙ ap (λ (z : List ℕ). 95 ∷ z) e, last, inr (ds, w, inl refl, h, same))

    digit : (after : Bool) (d : ℕ) → digit_value c ≡ Some d → d < 16 → (b : List ℕ) → DigitsCut (capped (n * 16 + d)) true b → Cut (m.Digits n after) (c ∷ b)
    digit true d v lt b (w, s, k, e, last, left) = (c ∷ w, s, k, ap (λ (z : List ℕ). c ∷ z) e, last, any_after next_capped 16 n true (c ∷ w) k (digit_before next_capped 16 n c d w k v lt left))
    digit false d v lt b (w, s, k, e, last, left) = inr (c ∷ w, s, k, ap (λ (z : List ℕ). c ∷ z) e, last, digit_before next_capped 16 n c d w k v lt left)

step_law : (mode : Mode) (c : ℕ) → Law mode c (string_step mode c)
step_law m.Plain c = plain_law c
step_law m.Escape c = escape_law c
step_law (m.Low h) c = low_law h c
step_law m.Brace c = brace_law c
step_law (m.Digits n after) c = digits_law n after c

ends_here : (mode : Mode) → Cut mode []
ends_here m.Plain = inl refl
ends_here m.Escape = inl refl
ends_here (m.Low h) = λ c v lt. inr (inl (h, (92 ∷ [], c ∷ [], refl, refl, (c, refl, v, lt))))
ends_here m.Brace = inr (inr (inl refl))
ends_here (m.Digits n true) = ([], [], n, refl, inl refl, inl (refl, refl))
ends_here (m.Digits n false) = inl refl

over_found : (mode : Mode) (b : List ℕ) → part_in mode b ≡ over → Cut mode b
over_found mode [] e = ends_here mode
over_found mode (c ∷ b) e = by (string_step mode c) (step_law mode c) (λ n g. over_found n b g) e
  where
    by : (s : Step) → Law mode c s → ((n : Mode) → part_in n b ≡ over → Cut n b) → part_next mode s b (λ n. part_in n b) ≡ over → Cut mode (c ∷ b)
    by (On n) law again e = law.1 b (again n e)
    by (Byte x) law again e = absurd cc
    by (Scalar x) law again e = absurd cc
    by End law again e = absurd cc
    by Bad law again e = absurd cc

abbrev Inside : Part → Type 0
Inside (closed r) = ⊥
Inside (wrong w) = w ≡ BadEscape
Inside _ = Unit {0}

inside : (mode : Mode) (b : List ℕ) → NotPlain mode → Inside (part_in mode b)
inside mode [] h = tt
inside mode (c ∷ b) h = by (string_step mode c) (step_law mode c) (λ n g. inside n b g)
  where
    bad : (mode : Mode) → NotPlain mode → bad_in mode ≡ BadEscape
    bad m.Plain h = absurd h
    bad m.Escape h = refl
    bad (m.Low n) h = refl
    bad m.Brace h = refl
    bad (m.Digits n after) h = refl

    by : (s : Step) → Law mode c s → ((n : Mode) → NotPlain n → Inside (part_in n b)) → Inside (part_next mode s b (λ n. part_in n b))
    by (On n) law again = again n law.0
    by (Byte x) law again = tt
    by (Scalar x) law again = tt
    by End law again = law h
    by Bad law again = bad mode h

over_more : (b : List ℕ) → EscapeFront b → part_in m.Plain b ≡ over
over_more b (inl e) = ap (part_in m.Plain) e ∙ part_goes m.Plain 92 [] (On m.Escape) step_slash
over_more b (inr (inl (h, (x, y, e, p, (c, is, v, lt))))) =
    ap (part_in m.Plain) (e ∙ ap (λ (z : List ℕ). z ++ y) p ∙ ap (λ (z : List ℕ). 92 ∷ z) is) ∙ part_goes m.Plain 92 (c ∷ []) (On m.Escape) step_slash
    ∙ part_goes m.Escape c [] (On (m.Low h)) (step_high c h v lt)
over_more b (inr (inr (inl e))) = ap (part_in m.Plain) e ∙ part_goes m.Plain 92 (117 ∷ []) (On m.Escape) step_slash ∙ part_goes m.Escape 117 [] (On m.Brace) step_u
over_more b (inr (inr (inr (inl e)))) =
    ap (part_in m.Plain) e ∙ part_goes m.Plain 92 (117 ∷ 123 ∷ []) (On m.Escape) step_slash ∙ part_goes m.Escape 117 (123 ∷ []) (On m.Brace) step_u
    ∙ part_goes m.Brace 123 [] (On (m.Digits 0 false)) step_brace
over_more b (inr (inr (inr (inr (ds, (x, y, e, p, (w, s, e2, h, last))))))) =
    let text : b ≡ 92 ∷ 117 ∷ 123 ∷ w ++ s = e ∙ ap (λ (z : List ℕ). z ++ y) p ∙ ap (λ (z : List ℕ). 92 ∷ 117 ∷ 123 ∷ z) e2 in
    ap (part_in m.Plain) text ∙ part_goes m.Plain 92 (117 ∷ 123 ∷ w ++ s) (On m.Escape) step_slash ∙ part_goes m.Escape 117 (123 ∷ w ++ s) (On m.Brace) step_u
    ∙ part_goes m.Brace 123 (w ++ s) (On (m.Digits 0 false)) step_brace
    ∙ digits_passed part_in (λ part r. passed r)
    ((λ mode next c b e. part_goes mode c b (On next) e), (λ mode c x b e. part_goes mode c b (Byte x) e), (λ mode c n b e. part_goes mode c b (Scalar n) e)) 0 false ds w s h
    ∙ tail (fold next_capped 0 ds) last
  where
    tail : (n : ℕ) → ((s ≡ []) ⊎ (s ≡ 95 ∷ [])) → part_in (m.Digits n true) s ≡ over
    tail n (inl none) = ap (part_in (m.Digits n true)) none
    tail n (inr under) = ap (part_in (m.Digits n true)) under ∙ part_goes (m.Digits n true) 95 [] (On (m.Digits n false)) (step_under n)

-- ---- what a string's fault is

-- behind elements the text ends, perhaps in an escape
abbrev pub Open : List ℕ → Type 0
Open b = (Elements ▸ (λ r. (r ≡ []) ⊎ EscapeFront r)) b

-- behind elements stands an escape that is none
abbrev pub Wrong : List ℕ → Type 0
Wrong b = (Elements ▸ NoEscape) b

abbrev pub Fault : List ℕ → Type 0
Fault b =
    ((why_in m.Plain b ≡ OpenString) × Open b) ⊎ ((why_in m.Plain b ≡ BadEscape) × Wrong b) ⊎ (why_in m.Plain b ≡ BadToken)

further : (e r : List ℕ) → Elements e → why_in m.Plain (e ++ r) ≡ why_in m.Plain r → Fault r → Fault (e ++ r)
further e r (parts, all) why (inl (is, (x, y, cut, (more, h), last))) =
    inl (why ∙ is, (e ++ x, y, ap (λ (z : List ℕ). e ++ z) cut ∙ sym (append_assoc e x y), (parts ++ more, each_append StringElement parts more e x all h), last))
further e r (parts, all) why (inr (inl (is, (x, y, cut, (more, h), last)))) =
    inr (inl (why ∙ is, (e ++ x, y, ap (λ (z : List ℕ). e ++ z) cut ∙ sym (append_assoc e x y), (parts ++ more, each_append StringElement parts more e x all h), last)))
further e r all why (inr (inr is)) = inr (inr (why ∙ is))

-- within an escape
bad_escape : (b : List ℕ) (w : TextWhy) → part_in m.Plain (92 ∷ b) ≡ wrong w → (w ≡ BadEscape) × NoEscape (92 ∷ b)
bad_escape b w e =
    let at : part_in m.Escape b ≡ wrong w = sym (part_goes m.Plain 92 b (On m.Escape) step_slash) ∙ e in (
      subst Inside at (inside m.Escape b tt),
      (
        b,
        refl,
        (λ front. let f : over ≡ wrong w = sym (over_more (92 ∷ b) front) ∙ e in cc),
        (λ given part rest is h. let f : passed rest ≡ wrong w = sym (passed_more given part rest h) ∙ ap (part_in m.Plain) (sym is) ∙ e in cc),
      ),
    )

-- outside of one
bad_byte : (c : ℕ) (b : List ℕ) (w : TextWhy) → (c == 92) ≡ false → part_in m.Plain (c ∷ b) ≡ wrong w → w ≡ BadToken
unfolding string_step
bad_byte c b w n = cond_both (c == 34) _ _ (λ s. part_next m.Plain s b (λ n. part_in n b) ≡ wrong w → w ≡ BadToken) (λ _ e. absurd cc)
    (λ _. cond_both (c == 92) _ _ (λ s. part_next m.Plain s b (λ n. part_in n b) ≡ wrong w → w ≡ BadToken) (λ t e. absurd (let f : true ≡ false = sym t ∙ n in cc))
    (λ _. cond_both (is_string_char c) _ _ (λ s. part_next m.Plain s b (λ n. part_in n b) ≡ wrong w → w ≡ BadToken) (λ _ e. absurd cc) (λ _ e. let f : wrong BadToken ≡ wrong w = e in cc)))

none_given : (x : List ℕ) (o : Option (List ℕ × List ℕ)) → giving x o ≡ None → o ≡ None
none_given x None e = refl
none_given x (Some y) e = absurd cc

wrong_is : (b : List ℕ) (w : TextWhy) → part_in m.Plain b ≡ wrong w → why_in m.Plain b ≡ w → Fault b
wrong_is [] w is why = absurd cc
wrong_is (c ∷ b) w is why = test (c == 92) refl
  where
    test : (t : Bool) → (c == 92) ≡ t → Fault (c ∷ b)
    test true t =
        let e : c ≡ 92 = eqb-true c 92 t in
        let g = bad_escape b w (ap (λ (x : ℕ). part_in m.Plain (x ∷ b)) (sym e) ∙ is) in
        inr (inl (why ∙ g.0, ([], c ∷ b, refl, ([], refl), subst (λ (x : ℕ). NoEscape (x ∷ b)) (sym e) g.1)))
    test false t = inr (inr (why ∙ bad_byte c b w t is))

within : (n : ℕ) (b : List ℕ) → length b < n → string_in m.Plain b ≡ None → Fault b
within zero b lt none = absurd (omega (arith, lt))
within (suc n) b lt none = by (λ r less none. within n r less none) (part_in m.Plain b) refl (gives m.Plain b) (why_by m.Plain b)
  where
    by : ((r : List ℕ) → length r < n → string_in m.Plain r ≡ None → Fault r) → (p : Part) → part_in m.Plain b ≡ p → Gives (string_in m.Plain b) p → why_in m.Plain b ≡ why_of p → Fault b
    by again (passed r) is (x, more) why =
        let g = passed_found b r is in
        let size : length b ≡ length (g.0 ++ r) = ap length g.1 in
        let some : 0 < length g.0 = g.2 in
        let none_left : string_in m.Plain r ≡ None = none_given x (string_in m.Plain r) (sym more ∙ none) in
        subst Fault (sym g.1) (further g.0 r g.3 (ap (why_in m.Plain) (sym g.1) ∙ why) (again r (omega (arith, size, length-append g.0 r, some, lt)) none_left))
    by again over is h why = inl (why, ([], b, refl, ([], refl), over_found m.Plain b is))
    by again (closed r) is h why = absurd (let f : ◌≡◌ {A = Option (List ℕ × List ℕ)} None (Some ([], r)) = sym none ∙ h in cc)
    by again (wrong w) is h why = wrong_is b w is why

pub fault_found : (b : List ℕ) → string_in m.Plain b ≡ None → Fault b
fault_found b none = within (suc (length b)) b (omega arith) none

-- ---- and only so

-- what the rest is, it is behind elements
abbrev Tells : TextWhy → List ℕ → Type 0
Tells w b = (string_in m.Plain b ≡ None) × (why_in m.Plain b ≡ w)

behind : (w : TextWhy) (parts : List (List ℕ)) (e r : List ℕ) → Each StringElement parts e → Tells w r → Tells w (e ++ r)
behind w [] e r none h = subst (λ (z : List ℕ). Tells w (z ++ r)) (sym none) h
behind w (part ∷ parts) e r (x, y, cut, first, more) h = one (behind w parts y r more h)
  where
    one : Tells w (y ++ r) → Tells w (e ++ r)
    one (none, why) =
        let is : part_in m.Plain (x ++ (y ++ r)) ≡ passed (y ++ r) = passed_more part x (y ++ r) first in
        let g = subst (Gives (string_in m.Plain (x ++ (y ++ r)))) is (gives m.Plain (x ++ (y ++ r))) in
        let text : e ++ r ≡ x ++ (y ++ r) = ap (λ (z : List ℕ). z ++ r) cut ∙ append_assoc x y r in
        subst (Tells w) (sym text) (g.1 ∙ ap (giving g.0) none, why_by m.Plain (x ++ (y ++ r)) ∙ ap why_of is ∙ why)

open_tells : (b : List ℕ) → part_in m.Plain b ≡ over → Tells OpenString b
open_tells b is = (subst (Gives (string_in m.Plain b)) is (gives m.Plain b), why_by m.Plain b ∙ ap why_of is)

wrong_tells : (b : List ℕ) (w : TextWhy) → part_in m.Plain b ≡ wrong w → Tells w b
wrong_tells b w is = (subst (Gives (string_in m.Plain b)) is (gives m.Plain b), why_by m.Plain b ∙ ap why_of is)

pub open_more : (b : List ℕ) → Open b → Tells OpenString b
open_more b (e, r, cut, (parts, all), inl none) = subst (Tells OpenString) (sym cut) (behind OpenString parts e r all (open_tells r (ap (part_in m.Plain) none)))
open_more b (e, r, cut, (parts, all), inr front) = subst (Tells OpenString) (sym cut) (behind OpenString parts e r all (open_tells r (over_more r front)))

no_escape : (b : List ℕ) → NoEscape b → part_in m.Plain b ≡ wrong BadEscape
no_escape b (c, is, not_cut, none) = by (part_in m.Plain b) refl (subst Inside (sym at) (inside m.Escape c tt))
  where
    at : part_in m.Plain b ≡ part_in m.Escape c
    at = ap (part_in m.Plain) is ∙ part_goes m.Plain 92 c (On m.Escape) step_slash

    by : (p : Part) → part_in m.Plain b ≡ p → Inside p → p ≡ wrong BadEscape
    by (passed r) e h =
        let g = passed_found b r e in
        let f = first_element g.0 g.2 g.3 in
        absurd (none f.0 f.1 (f.2 ++ r) (g.1 ∙ ap (λ (z : List ℕ). z ++ r) f.3 ∙ append_assoc f.1 f.2 r) f.4)
    by over e h = absurd (elim (over_found m.Plain b e) [
      | inl nil ↦ (let f : 92 ∷ c ≡ [] = sym is ∙ nil in cc)
      | inr front ↦ not_cut front
    ])
    by (closed r) e h = absurd h
    by (wrong w) e h = ap wrong h

pub wrong_more : (b : List ℕ) → Wrong b → Tells BadEscape b
wrong_more b (e, r, cut, (parts, all), h) = subst (Tells BadEscape) (sym cut) (behind BadEscape parts e r all (wrong_tells r BadEscape (no_escape r h)))
