-- Nested block comments.
use Rattle.std.proofs.Common.{◌≡◌, ℕ, zero, suc, ◌⊎◌, Bool, true, false, cond, List, [], ◌∷◌, ◌++◌, Option, Some, refl, sym, ap, subst, ◌∙◌, inl, inr, arith, append_assoc}
use Rattle.std.specs.Prelude.{◌==◌, ◌&&◌, ◌||◌, ◌≢◌}
use Rattle.std.specs.List.{AllByRecursion}
use Rattle.std.proofs.lemmas.Bool.{cond-false, eqb-false, eqb-true, ne_eqb}
use Rattle.wm_syntax.specs.Spelling.{Form, ◌▸◌}
use Rattle.wm_tokens.specs.Tokens.{CommentRest, ends, plain, nested, opens_or_ends}
use Rattle.wm_tokens.specs.exact.Scan.{after_comment, after_line}
use Rattle.wm_tokens.proofs.Basics.{chosen, same_some, same_head, both_are}

-- ---- block comments

-- where one ends, and the others that are open go on
abbrev pub closing : ℕ → List ℕ → Option (List ℕ)
closing zero b = Some b
closing (suc n) b = after_comment n b

-- what is left of so many within one
abbrev pub Comments : ℕ → Form ℕ
Comments zero = CommentRest
Comments (suc n) = CommentRest ▸ Comments n

after_close : (n : ℕ) (b : List ℕ) → after_comment n (59 ∷ 41 ∷ b) ≡ closing n b
after_close zero b = refl
after_close (suc n) b = refl

after_open : (n : ℕ) (b : List ℕ) → after_comment n (40 ∷ 59 ∷ b) ≡ after_comment (suc n) b
after_open zero b = refl
after_open (suc n) b = refl

or_false : (x y : Bool) → (x || y) ≡ false → (x ≡ false) × (y ≡ false)
or_false true y h = absurd (let f : true ≡ false = h in cc)
or_false false y h = (refl, h)

after_plain : (n c d : ℕ) (b : List ℕ) → opens_or_ends c (d ∷ b) ≡ false → after_comment n (c ∷ d ∷ b) ≡ after_comment n (d ∷ b)
after_plain zero c d b h =
    let p = or_false ((c == 59) && (d == 41)) ((c == 40) && (d == 59)) h in
    cond-false ((c == 59) && (d == 41)) _ _ p.0 ∙ cond-false ((c == 40) && (d == 59)) _ _ p.1
after_plain (suc n) c d b h =
    let p = or_false ((c == 59) && (d == 41)) ((c == 40) && (d == 59)) h in
    cond-false ((c == 59) && (d == 41)) _ _ p.0 ∙ cond-false ((c == 40) && (d == 59)) _ _ p.1

-- a comment's rest is not empty
comment_first : (b : List ℕ) → CommentRest b → (c : ℕ) × (rest : List ℕ) × (b ≡ c ∷ rest)
comment_first b (ends e) = (59, 41 ∷ [], e)
comment_first b (plain {c = c} {b = r} t h) = (c, r, refl)
comment_first b (nested {inner = i} {rest = r} e h g) = (40, 59 ∷ i ++ r, e)

pub comment_more : (n : ℕ) (b : List ℕ) → CommentRest b → (r : List ℕ) → after_comment n (b ++ r) ≡ closing n r
comment_more n b (ends e) r = ap (λ (x : List ℕ). after_comment n (x ++ r)) e ∙ after_close n r
comment_more n b (plain {c = c} {b = b'} t h) r =
    let f = comment_first b' h in
    let whole : c ∷ b' ++ r ≡ c ∷ f.0 ∷ f.1 ++ r = ap (λ (x : List ℕ). c ∷ x ++ r) f.2 in
    let goes : after_comment n (c ∷ f.0 ∷ f.1 ++ r) ≡ after_comment n (f.0 ∷ f.1 ++ r) = after_plain n c f.0 (f.1 ++ r) (ap (λ (x : List ℕ). opens_or_ends c x) (sym f.2) ∙ t) in
    ap (after_comment n) whole ∙ goes ∙ ap (λ (x : List ℕ). after_comment n (x ++ r)) (sym f.2) ∙ comment_more n b' h r
comment_more n b (nested {inner = i} {rest = s} e h g) r =
    ap (λ (x : List ℕ). after_comment n (x ++ r)) e ∙ after_open n ((i ++ s) ++ r)
    ∙ ap (after_comment (suc n)) (append_assoc i s r) ∙ comment_more (suc n) i h (s ++ r) ∙ comment_more n s g r

comments_nested : (n : ℕ) (b : List ℕ) → Comments (suc n) b → Comments n (40 ∷ 59 ∷ b)
comments_nested zero b (x, y, e, p, q) = nested (ap (λ (z : List ℕ). 40 ∷ 59 ∷ z) e) p q
comments_nested (suc n) b (x, y, e, p, (u, v, f, q, s)) =
    (40 ∷ 59 ∷ x ++ u, v, ap (λ (z : List ℕ). 40 ∷ 59 ∷ z) (e ∙ ap (λ (z : List ℕ). x ++ z) f ∙ sym (append_assoc x u v)), nested refl p q, s)

turns_front : (c : ℕ) (x y : List ℕ) → CommentRest x → opens_or_ends c (x ++ y) ≡ false → opens_or_ends c x ≡ false
turns_front c [] y h t = absurd (let f = comment_first [] h in let e : [] ≡ f.0 ∷ f.1 = f.2 in cc)
turns_front c (d ∷ x) y h t = t

comments_plain : (n c : ℕ) (b : List ℕ) → opens_or_ends c b ≡ false → Comments n b → Comments n (c ∷ b)
comments_plain zero c b t h = plain t h
comments_plain (suc n) c b t (x, y, e, p, q) = (c ∷ x, y, ap (λ (z : List ℕ). c ∷ z) e, plain (turns_front c x y p (ap (λ (z : List ℕ). opens_or_ends c z) (sym e) ∙ t)) p, q)

comments_first : (n : ℕ) (b : List ℕ) → Comments n b → (c : ℕ) × (rest : List ℕ) × (b ≡ c ∷ rest)
comments_first zero b h = comment_first b h
comments_first (suc n) b (x, y, e, p, q) = let f = comment_first x p in (f.0, f.1 ++ y, e ∙ ap (λ (z : List ℕ). z ++ y) f.2)

abbrev pub CommentFront : ℕ → List ℕ → List ℕ → Type 0
CommentFront n b r = (f : List ℕ) × (b ≡ f ++ r) × Comments n f

found_close : (n c d : ℕ) (b r : List ℕ) → ((c == 59) && (d == 41)) ≡ true → closing n b ≡ Some r → ((m : ℕ) → suc m ≡ n → CommentFront m b r) → CommentFront n (c ∷ d ∷ b) r
found_close n c d b r t e more =
    let are = both_are c d 59 41 t in
    let heads : c ∷ d ∷ b ≡ 59 ∷ 41 ∷ b = ap (λ (x : ℕ). x ∷ d ∷ b) are.0 ∙ ap (λ (x : ℕ). 59 ∷ x ∷ b) are.1 in
    by_open n e more heads
  where
    by_open : (n : ℕ) → closing n b ≡ Some r → ((m : ℕ) → suc m ≡ n → CommentFront m b r) → c ∷ d ∷ b ≡ 59 ∷ 41 ∷ b → CommentFront n (c ∷ d ∷ b) r
    by_open zero e more heads = (59 ∷ 41 ∷ [], heads ∙ ap (λ (x : List ℕ). 59 ∷ 41 ∷ x) (same_some b r e), ends refl)
    by_open (suc m) e more heads = let g = more m refl in
        (59 ∷ 41 ∷ g.0, heads ∙ ap (λ (x : List ℕ). 59 ∷ 41 ∷ x) g.1, (59 ∷ 41 ∷ [], g.0, refl, ends refl, g.2))

found_open : (n c d : ℕ) (b r : List ℕ) → ((c == 40) && (d == 59)) ≡ true → CommentFront (suc n) b r → CommentFront n (c ∷ d ∷ b) r
found_open n c d b r t g =
    let are = both_are c d 40 59 t in
    (40 ∷ 59 ∷ g.0, ap (λ (x : ℕ). x ∷ d ∷ b) are.0 ∙ ap (λ (x : ℕ). 40 ∷ x ∷ b) are.1 ∙ ap (λ (x : List ℕ). 40 ∷ 59 ∷ x) g.1, comments_nested n g.0 g.2)

found_plain : (n c d : ℕ) (b r : List ℕ) → opens_or_ends c (d ∷ b) ≡ false → CommentFront n (d ∷ b) r → CommentFront n (c ∷ d ∷ b) r
found_plain n c d b r t (f, e, h) =
    let first = comments_first n f h in
    let whole : d ∷ b ≡ first.0 ∷ first.1 ++ r = e ∙ ap (λ (x : List ℕ). x ++ r) first.2 in
    let one : d ≡ first.0 = same_head d first.0 b (first.1 ++ r) whole in
    let t' : opens_or_ends c f ≡ false = ap (λ (x : List ℕ). opens_or_ends c x) first.2 ∙ ap (λ (x : ℕ). opens_or_ends c (x ∷ [])) (sym one) ∙ t in
    (c ∷ f, ap (λ (x : List ℕ). c ∷ x) e, comments_plain n c f t' h)

two_false : (x y : Bool) → x ≡ false → y ≡ false → (x || y) ≡ false
two_false true y p q = p
two_false false y p q = q

pub comment_front : (n : ℕ) (b r : List ℕ) → after_comment n b ≡ Some r → CommentFront n b r
comment_front n [] r e = absurd (by n e)
  where
    by : (n : ℕ) → after_comment n [] ≡ Some r → ⊥
    by zero e = cc
    by (suc n) e = cc
comment_front zero (c ∷ []) r e = absurd cc
comment_front (suc n) (c ∷ []) r e = absurd cc
comment_front zero (c ∷ d ∷ b) r e = elim (chosen ((c == 59) && (d == 41)) _ _ (Some r) e) [
  | inl p ↦ found_close zero c d b r p.0 p.1 (λ m h. absurd (omega arith))
  | inr p ↦ elim (chosen ((c == 40) && (d == 59)) _ _ (Some r) p.1) [
    | inl q ↦ found_open zero c d b r q.0 (comment_front 1 b r q.1)
    | inr q ↦ found_plain zero c d b r (two_false _ _ p.0 q.0) (comment_front zero (d ∷ b) r q.1)
  ]
]
comment_front (suc n) (c ∷ d ∷ b) r e = elim (chosen ((c == 59) && (d == 41)) _ _ (Some r) e) [
  | inl p ↦ found_close (suc n) c d b r p.0 p.1 (λ m h. let k : m ≡ n = omega arith in subst (λ (x : ℕ). CommentFront x b r) (sym k) (comment_front n b r p.1))
  | inr p ↦ elim (chosen ((c == 40) && (d == 59)) _ _ (Some r) p.1) [
    | inl q ↦ found_open (suc n) c d b r q.0 (comment_front (suc (suc n)) b r q.1)
    | inr q ↦ found_plain (suc n) c d b r (two_false _ _ p.0 q.0) (comment_front (suc n) (d ∷ b) r q.1)
  ]
]

-- ---- line comments

-- none of these bytes is a line feed
abbrev pub InLine : List ℕ → Type 0
InLine b = AllByRecursion (λ c. c ≢ 10) b

pub line_more : (b r : List ℕ) → InLine b → after_line (b ++ 10 ∷ r) ≡ r
line_more [] r h = refl
line_more (c ∷ b) r h = cond-false (c == 10) _ _ (ne_eqb c 10 h.0) ∙ line_more b r h.1

pub line_last : (b : List ℕ) → InLine b → after_line b ≡ []
line_last [] h = refl
line_last (c ∷ b) h = cond-false (c == 10) _ _ (ne_eqb c 10 h.0) ∙ line_last b h.1

abbrev pub LineFront : List ℕ → List ℕ → Type 0
LineFront b r = (f : List ℕ) × InLine f × ((b ≡ f ++ 10 ∷ r) ⊎ ((b ≡ f) × (r ≡ [])))

pub line_front : (b : List ℕ) → LineFront b (after_line b)
line_front [] = ([], tt, inr (refl, refl))
line_front (c ∷ b) = by (c == 10) refl (line_front b)
  where
    by : (t : Bool) → (c == 10) ≡ t → LineFront b (after_line b) → LineFront (c ∷ b) (cond t b (after_line b))
    by true t h = ([], tt, inl (ap (λ (x : ℕ). x ∷ b) (eqb-true c 10 t)))
    by false t (f, g, inl e) = (c ∷ f, (eqb-false c 10 t, g), inl (ap (λ (x : List ℕ). c ∷ x) e))
    by false t (f, g, inr e) = (c ∷ f, (eqb-false c 10 t, g), inr (ap (λ (x : List ℕ). c ∷ x) e.0, e.1))
