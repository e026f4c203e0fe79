-- The start of a text.
use Rattle.std.proofs.Common.{◌≡◌, ◌≢◌, ℕ, zero, ◌≤◌, length, ◌⊎◌, Bool, true, false, cond, List, [], ◌∷◌, ◌++◌, Option, Some, None, refl, sym, ap, subst, ◌∙◌, inl, inr, append_assoc, take, drop, get_or, arith}
use Rattle.std.specs.Prelude.{◌==◌, ◌&&◌, IfNone}
use Rattle.std.specs.List.{list_all}
use Rattle.std.proofs.lemmas.Bool.{cond-true, cond-false, cond_both, eqb-true, ne_eqb, and_parts, or_cases, false_from_ne_true}
use Rattle.std.proofs.lemmas.List.{append-nil}
use Rattle.wm_tokens.specs.Tokens.{Token, open_paren, close_paren, string, atom, is_space, is_id_char, Blank, LineComment, TokenText, Ends, String}
use Rattle.wm_tokens.specs.declared.scan.Class.{Class}
use Rattle.wm_tokens.specs.declared.scan.Class.TheVariants as k
use Rattle.wm_tokens.specs.declared.scan.Mode.TheVariants as m
use Rattle.wm_tokens.specs.exact.Scan.{class_of, ahead, ahead_by, ahead_semicolon, ahead_opening, Ahead, no_more, blank, first, fault, after_line, after_comment, blank_or_fault, string_or_fault, string_in, atom_in, is_atom, starts_atom}
use Rattle.wm_tokens.proofs.Comments.{comment_more, comment_front, line_more, line_last, line_front, LineFront}
use Rattle.wm_tokens.proofs.Atoms.{atom_more, atom_front, EndsAtom, IsKind, kind_found, kind_more}
use Rattle.wm_tokens.proofs.Strings.{string_more, string_found}

-- ---- classes

abbrev pub IsOf : ℕ → Class → Type 0
IsOf c k.Space = is_space c ≡ true
IsOf c k.Semicolon = c ≡ 59
IsOf c k.Opening = c ≡ 40
IsOf c k.Closing = c ≡ 41
IsOf c k.Quote = c ≡ 34
IsOf c k.Atom = is_id_char c ≡ true
IsOf c k.Other = Unit {0}

pub class_law : (c : ℕ) → IsOf c (class_of c)
unfolding class_of
class_law c =
    cond_both (is_space c) _ _ (IsOf c) (λ t. t) (λ _. cond_both (c == 59) _ _ (IsOf c) (λ t. eqb-true c 59 t) (λ _. cond_both (c == 40) _ _ (IsOf c) (λ t. eqb-true c 40 t)
    (λ _. cond_both (c == 41) _ _ (IsOf c) (λ t. eqb-true c 41 t) (λ _. cond_both (c == 34) _ _ (IsOf c) (λ t. eqb-true c 34 t) (λ _. cond_both (is_id_char c) _ _ (IsOf c) (λ t. t) (λ _. tt))))))

class_space : (c : ℕ) → is_space c ≡ true → class_of c ≡ k.Space
unfolding class_of
class_space c h = cond-true (is_space c) _ _ h

pub class_atom : (c : ℕ) → is_id_char c ≡ true → class_of c ≡ k.Atom
unfolding class_of
class_atom c h =
    let apart : (x : ℕ) → is_id_char x ≡ false → (c == x) ≡ false = λ x n. ne_eqb c x (λ e. let f : false ≡ true = sym n ∙ ap is_id_char (sym e) ∙ h in cc) in
    let not_space : is_space c ≡ false = false_from_ne_true (is_space c) (λ s. elim (or_cases _ (c == 13) s) [
      | inl s ↦ elim (or_cases _ (c == 10) s) [
        | inl s ↦ elim (or_cases (c == 32) (c == 9) s) [
          | inl s ↦ (let f : true ≡ false = sym s ∙ apart 32 refl in cc)
          | inr s ↦ (let f : true ≡ false = sym s ∙ apart 9 refl in cc)
        ]
        | inr s ↦ (let f : true ≡ false = sym s ∙ apart 10 refl in cc)
      ]
      | inr s ↦ (let f : true ≡ false = sym s ∙ apart 13 refl in cc)
    ]) in
    cond-false (is_space c) _ _ not_space ∙ cond-false (c == 59) _ _ (apart 59 refl) ∙ cond-false (c == 40) _ _ (apart 40 refl) ∙ cond-false (c == 41) _ _ (apart 41 refl)
    ∙ cond-false (c == 34) _ _ (apart 34 refl) ∙ cond-true (is_id_char c) _ _ h

pub ahead_is : (c : ℕ) (b : List ℕ) (x : Class) → class_of c ≡ x → ahead (c ∷ b) ≡ ahead_by x c b
unfolding ahead
ahead_is c b x e = ap (λ (y : Class). ahead_by y c b) e

ahead_59 : (b : List ℕ) → ahead (59 ∷ b) ≡ ahead_semicolon b
unfolding ahead class_of
ahead_59 b = refl

pub ahead_40 : (b : List ℕ) → ahead (40 ∷ b) ≡ ahead_opening b
unfolding ahead class_of
ahead_40 b = refl

ahead_41 : (b : List ℕ) → ahead (41 ∷ b) ≡ first close_paren b
unfolding ahead class_of
ahead_41 b = refl

pub closes_first : (b r : List ℕ) → get_or b 0 0 ≡ 41 → r ≡ drop 1 b → first close_paren r ≡ ahead b
closes_first [] r e p = absurd (let f : 0 ≡ 41 = e in omega (arith, f))
closes_first (c ∷ t) r e p = ap (first close_paren) p ∙ sym (ap (λ (x : ℕ). ahead (x ∷ t)) e ∙ ahead_41 t)

pub opens_first : (b r : List ℕ) → get_or b 0 0 ≡ 40 → r ≡ drop 1 b → ahead_opening r ≡ ahead b
opens_first [] r e p = absurd (let f : 0 ≡ 40 = e in omega (arith, f))
opens_first (c ∷ t) r e p = ap ahead_opening p ∙ sym (ap (λ (x : ℕ). ahead (x ∷ t)) e ∙ ahead_40 t)

pub ahead_34 : (b : List ℕ) → ahead (34 ∷ b) ≡ string_or_fault (string_in m.Plain b)
unfolding ahead class_of
ahead_34 b = refl

-- ---- what stands first is found

pub ahead_blank : (part r : List ℕ) → Blank part → ahead (part ++ r) ≡ blank r
ahead_blank part r (inl (c, e, s)) = ap (λ (z : List ℕ). ahead (z ++ r)) e ∙ ahead_is c r k.Space (class_space c s)
ahead_blank part r (inr (inl (x, y, e, (p, q, e2, is, line), last))) =
    let text : part ≡ 59 ∷ 59 ∷ q ++ 10 ∷ [] = e ∙ ap (λ (z : List ℕ). z ++ y) (e2 ∙ ap (λ (z : List ℕ). z ++ q) is) ∙ ap (λ (z : List ℕ). 59 ∷ 59 ∷ q ++ z) last in
    ap (λ (z : List ℕ). ahead (z ++ r)) text ∙ ahead_59 _ ∙ ap (λ (z : List ℕ). blank (after_line z)) (append_assoc q (10 ∷ []) r) ∙ ap blank (line_more q r line)
ahead_blank part r (inr (inr (x, y, e, is, rest))) =
    ap (λ (z : List ℕ). ahead (z ++ r)) (e ∙ ap (λ (z : List ℕ). z ++ y) is) ∙ ahead_40 _ ∙ ap blank_or_fault (comment_more zero y rest r)

pub ahead_last : (part : List ℕ) → LineComment part → ahead part ≡ blank []
ahead_last part (p, q, e, is, line) = ap ahead (e ∙ ap (λ (z : List ℕ). z ++ q) is) ∙ ahead_59 _ ∙ ap blank (line_last q line)

pub ahead_token : (t : Token) (text r : List ℕ) → TokenText t text → Ends t r → ahead (text ++ r) ≡ first t r
ahead_token open_paren text [] h e = ap (λ (z : List ℕ). ahead (z ++ [])) h ∙ ahead_40 []
ahead_token open_paren text (d ∷ r) h e = ap (λ (z : List ℕ). ahead (z ++ d ∷ r)) h ∙ ahead_40 (d ∷ r) ∙ cond-false (d == 59) _ _ e
ahead_token close_paren text r h e = ap (λ (z : List ℕ). ahead (z ++ r)) h ∙ ahead_41 r
ahead_token (string bytes) text r h e = let g = string_more bytes text r h in ap ahead g.1 ∙ ahead_34 g.0 ∙ ap string_or_fault g.2
ahead_token (atom a) text r (is, (chars, kind)) e = ap (λ (z : List ℕ). ahead (z ++ r)) is ∙ by a chars kind (ends r e)
  where
    ends : (r : List ℕ) → Ends (atom a) r → EndsAtom r
    ends [] e = tt
    ends (c ∷ r) e = e

    by : (a : List ℕ) → list_all is_id_char a ≡ true → IsKind a → EndsAtom r → ahead (a ++ r) ≡ first (atom a) r
    by [] chars kind e = absurd (let f : false ≡ true = kind_more [] kind in cc)
    by (c ∷ a) chars kind e =
        let p = and_parts (is_id_char c) (list_all is_id_char a) chars in
        ahead_is c (a ++ r) k.Atom (class_atom c p.0)
        ∙ ap (λ (x : List ℕ × List ℕ). cond (is_atom (c ∷ x.0)) (first (atom (c ∷ x.0)) x.1) fault) (atom_more a r p.1 e)
        ∙ cond-true (is_atom (c ∷ a)) _ _ (kind_more (c ∷ a) kind)

-- ---- and nothing else

abbrev pub IsBlank : List ℕ → List ℕ → Type 0
IsBlank part r = Blank part ⊎ (LineComment part × (r ≡ []))

abbrev pub IsAhead : List ℕ → Ahead → Type 0
IsAhead b no_more = b ≡ []
IsAhead b (blank r) = (c : ℕ) × (part : List ℕ) × (b ≡ c ∷ part ++ r) × IsBlank (c ∷ part) r
IsAhead b (first t r) = (c : ℕ) × (text : List ℕ) × (b ≡ c ∷ text ++ r) × TokenText t (c ∷ text) × Ends t r
IsAhead b fault = Unit {0}

ahead_at_line : (b : List ℕ) → IsAhead (59 ∷ 59 ∷ b) (blank (after_line b))
ahead_at_line b = by (line_front b)
  where
    by : LineFront b (after_line b) → IsAhead (59 ∷ 59 ∷ b) (blank (after_line b))
    by (q, line, inl e) = (
      59,
      59 ∷ q ++ 10 ∷ [],
      ap (λ (z : List ℕ). 59 ∷ 59 ∷ z) (e ∙ sym (append_assoc q (10 ∷ []) (after_line b))),
      inl (inr (inl (59 ∷ 59 ∷ q, 10 ∷ [], refl, (59 ∷ 59 ∷ [], q, refl, refl, line), refl))),
    )
    by (q, line, inr (e, r)) = (
      59,
      59 ∷ q,
      ap (λ (z : List ℕ). 59 ∷ 59 ∷ z) (e ∙ sym (append-nil q) ∙ ap (λ (z : List ℕ). q ++ z) (sym r)),
      inr ((59 ∷ 59 ∷ [], q, refl, refl, line), r),
    )

ahead_at_semicolon : (b : List ℕ) → IsAhead (59 ∷ b) (ahead_semicolon b)
ahead_at_semicolon [] = tt
ahead_at_semicolon (d ∷ b) = cond_both (d == 59) _ _ (IsAhead (59 ∷ d ∷ b)) (λ t. subst (λ (x : ℕ). IsAhead (59 ∷ x ∷ b) (blank (after_line b))) (sym (eqb-true d 59 t)) (ahead_at_line b)) (λ _. tt)

ahead_at_comment : (b : List ℕ) (o : Option (List ℕ)) → after_comment zero b ≡ o → IsAhead (40 ∷ 59 ∷ b) (blank_or_fault o)
ahead_at_comment b None e = tt
ahead_at_comment b (Some r) e = let g = comment_front zero b r e in (40, 59 ∷ g.0, ap (λ (z : List ℕ). 40 ∷ 59 ∷ z) g.1, inl (inr (inr (40 ∷ 59 ∷ [], g.0, refl, refl, g.2))))

ahead_at_opening : (b : List ℕ) → IsAhead (40 ∷ b) (ahead_opening b)
ahead_at_opening [] = (40, [], refl, refl, tt)
ahead_at_opening (d ∷ b) = cond_both (d == 59) _ _ (IsAhead (40 ∷ d ∷ b))
    (λ t. subst (λ (x : ℕ). IsAhead (40 ∷ x ∷ b) (blank_or_fault (after_comment zero b))) (sym (eqb-true d 59 t)) (ahead_at_comment b (after_comment zero b) refl))
    (λ f. (40, [], refl, refl, f))

ahead_at_string : (b : List ℕ) (o : Option (List ℕ × List ℕ)) → string_in m.Plain b ≡ o → IsAhead (34 ∷ b) (string_or_fault o)
ahead_at_string b None e = tt
ahead_at_string b (Some (bytes, r)) e = by (string_found b bytes r e)
  where
    by : ((t : List ℕ) × (34 ∷ b ≡ t ++ r) × String bytes t) → IsAhead (34 ∷ b) (first (string bytes) r)
    by ([], e, (parts, g, (x, y, e2, p, q))) = absurd (let f : [] ≡ 34 ∷ y = e2 ∙ ap (λ (z : List ℕ). z ++ y) p in cc)
    by (c ∷ t, e, h) = (c, t, e, h, tt)

ahead_at_atom : (c : ℕ) (b : List ℕ) → is_id_char c ≡ true → IsAhead (c ∷ b) (ahead_by k.Atom c b)
ahead_at_atom c b h =
    let g = atom_front b in
    cond_both (is_atom (c ∷ (atom_in b).0)) _ _ (IsAhead (c ∷ b))
    (λ t. (c, (atom_in b).0, ap (λ (z : List ℕ). c ∷ z) g.0, (refl, (ap (λ (x : Bool). x && list_all is_id_char (atom_in b).0) h ∙ g.1, kind_found (c ∷ (atom_in b).0) t)), ends (atom_in b).1 g.2))
    (λ _. tt)
  where
    ends : (r : List ℕ) → EndsAtom r → Ends (atom (c ∷ (atom_in b).0)) r
    ends [] e = tt
    ends (d ∷ r) e = e

ahead_at_by : (c : ℕ) (b : List ℕ) (x : Class) → IsOf c x → IsAhead (c ∷ b) (ahead_by x c b)
ahead_at_by c b k.Space h = (c, [], refl, inl (inl (c, refl, h)))
ahead_at_by c b k.Semicolon h = subst (λ (x : ℕ). IsAhead (x ∷ b) (ahead_semicolon b)) (sym h) (ahead_at_semicolon b)
ahead_at_by c b k.Opening h = subst (λ (x : ℕ). IsAhead (x ∷ b) (ahead_opening b)) (sym h) (ahead_at_opening b)
ahead_at_by c b k.Closing h = (c, [], refl, ap (λ (x : ℕ). x ∷ []) h, tt)
ahead_at_by c b k.Quote h = subst (λ (x : ℕ). IsAhead (x ∷ b) (string_or_fault (string_in m.Plain b))) (sym h) (ahead_at_string b (string_in m.Plain b) refl)
ahead_at_by c b k.Atom h = ahead_at_atom c b h
ahead_at_by c b k.Other h = tt

pub ahead_is_so : (b : List ℕ) → IsAhead b (ahead b)
unfolding ahead
ahead_is_so [] = refl
ahead_is_so (c ∷ b) = ahead_at_by c b (class_of c) (class_law c)

-- ---- where no white space stands

pub no_blank : (b : List ℕ) → ((r : List ℕ) → blank r ≢ ahead b) → (part r : List ℕ) → b ≡ part ++ r → Blank part → ⊥
no_blank b none part r e h = none r (sym (ap ahead e ∙ ahead_blank part r h))

pub no_line : (b : List ℕ) → ((r : List ℕ) → blank r ≢ ahead b) → LineComment b → ⊥
no_line b none h = none [] (sym (ahead_last b h))

-- ---- where no parenthesis stands

closes_byte : (b r : List ℕ) → first close_paren r ≡ ahead b → get_or b 0 0 ≡ 41
closes_byte b r e = by (subst (IsAhead b) (sym e) (ahead_is_so b))
  where
    by : IsAhead b (first close_paren r) → get_or b 0 0 ≡ 41
    by (c, text, is, h, ends) = ap (λ (z : List ℕ). get_or z 0 0) (is ∙ ap (λ (z : List ℕ). z ++ r) h)

opens_byte : (b r : List ℕ) → first open_paren r ≡ ahead b → get_or b 0 0 ≡ 40
opens_byte b r e = by (subst (IsAhead b) (sym e) (ahead_is_so b))
  where
    by : IsAhead b (first open_paren r) → get_or b 0 0 ≡ 40
    by (c, text, is, h, ends) = ap (λ (z : List ℕ). get_or z 0 0) (is ∙ ap (λ (z : List ℕ). z ++ r) h)

abbrev pub NoParenthesis : List ℕ → Type 0
NoParenthesis b = (r : List ℕ) → (first open_paren r ≢ ahead b) × (first close_paren r ≢ ahead b)

pub no_parenthesis : (b : List ℕ) → (1 ≤ length b → get_or b 0 0 ≢ 40) → (1 ≤ length b → get_or b 0 0 ≢ 41) → NoParenthesis b
no_parenthesis [] p q r = ((λ e. let f : 0 ≡ 40 = opens_byte [] r e in omega (arith, f)), (λ e. let f : 0 ≡ 41 = closes_byte [] r e in omega (arith, f)))
no_parenthesis (c ∷ b) p q r = ((λ e. p (omega arith) (opens_byte (c ∷ b) r e)), (λ e. q (omega arith) (closes_byte (c ∷ b) r e)))

-- a comment begins with no parenthesis
pub no_opening : (b : List ℕ) → get_or b 0 0 ≡ 59 → (r : List ℕ) → first open_paren r ≢ ahead_opening b
no_opening [] is r e = let f : 0 ≡ 59 = is in omega (arith, f)
no_opening (d ∷ b) is r e = by (after_comment zero b) (e ∙ cond-true (d == 59) _ _ (ap (λ (x : ℕ). x == 59) is))
  where
    by : (o : Option (List ℕ)) → first open_paren r ≡ blank_or_fault o → ⊥
    by None f = cc
    by (Some x) f = cc

pub none_opened : {X : Type 0} (b r : List ℕ) (o : Option X) → get_or b 0 0 ≡ 40 → r ≡ drop 1 b → IfNone o ((s : List ℕ) → first open_paren s ≢ ahead_opening r)
    → IfNone o (NoParenthesis b)
none_opened b r (Some x) is cut h = tt
none_opened b r None is cut h =
    λ s. ((λ e. h s (e ∙ sym (opens_first b r is cut))), (λ e. let f : 41 ≡ 40 = sym (closes_byte b s e) ∙ is in omega (arith, f)))

-- ---- as the code reads an atom

pub atom_whole : (c : ℕ) (b : List ℕ) → class_of c ≡ k.Atom → atom_in (c ∷ b) ≡ (c ∷ (atom_in b).0, (atom_in b).1)
atom_whole c b h = cond-true (is_id_char c) _ _ (subst (IsOf c) h (class_law c))

pub ahead_atom : (b : List ℕ) → starts_atom b → cond (is_atom (atom_in b).0) (first (atom (atom_in b).0) (atom_in b).1) fault ≡ ahead b
ahead_atom [] h = absurd h
ahead_atom (c ∷ b) h = ap (λ (x : List ℕ × List ℕ). cond (is_atom x.0) (first (atom x.0) x.1) fault) (atom_whole c b h) ∙ sym (ahead_is c b k.Atom h)

pub atom_stands : (b a r : List ℕ) → starts_atom b → atom_in b ≡ (a, r) → is_atom a ≡ true → first (atom a) r ≡ ahead b
atom_stands b a r h e t = sym (cond-true (is_atom a) _ _ t) ∙ ap (λ (x : List ℕ × List ℕ). cond (is_atom x.0) (first (atom x.0) x.1) fault) (sym e) ∙ ahead_atom b h

pub atom_falls : (b a r : List ℕ) → starts_atom b → atom_in b ≡ (a, r) → is_atom a ≡ false → fault ≡ ahead b
atom_falls b a r h e t = sym (cond-false (is_atom a) _ _ t) ∙ ap (λ (x : List ℕ × List ℕ). cond (is_atom x.0) (first (atom x.0) x.1) fault) (sym e) ∙ ahead_atom b h

pub atom_cut : (b a r : List ℕ) (n : ℕ) → starts_atom b → atom_in b ≡ (take n b, drop n b) → a ≡ take n b → r ≡ drop n b → is_atom a ≡ true → first (atom a) r ≡ ahead b
atom_cut b a r n h e p q t = atom_stands b a r h (e ∙ ap (λ (x : List ℕ). (x, drop n b)) (sym p) ∙ ap (λ (x : List ℕ). (a, x)) (sym q)) t

pub atom_bad : (b a r : List ℕ) (n : ℕ) → starts_atom b → atom_in b ≡ (take n b, drop n b) → a ≡ take n b → r ≡ drop n b → is_atom a ≡ false → fault ≡ ahead b
atom_bad b a r n h e p q t = atom_falls b a r h (e ∙ ap (λ (x : List ℕ). (x, drop n b)) (sym p) ∙ ap (λ (x : List ℕ). (a, x)) (sym q)) t
