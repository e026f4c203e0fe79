-- The tokens of a whole text.
use Rattle.std.proofs.Common.{◌≡◌, ◌≢◌, ℕ, zero, suc, ◌<◌, ◌≤◌, Bool, cond, true, false, List, [], ◌∷◌, ◌++◌, length, Option, Some, None, refl, sym, ap, subst, ◌∙◌, inl, inr, arith, append_assoc, length-append, IsUtf8}
use Rattle.std.proofs.lemmas.List.{append-nil}
use Rattle.wm_syntax.specs.Spelling.{Each}
use Rattle.wm_tokens.specs.Tokens.{Token, is_space, Blank, LineComment, Space, LastSpace, AreTokens, Tokens}
use Rattle.wm_tokens.specs.exact.Scan.{after_spaces, ahead, Ahead, no_more, blank, first, fault, adding, going, tokens_within, tokens_of, lexing, lexed_within, lexed, is_some, has_tokens}
use Rattle.std.specs.Prelude.{Result, Ok, Err, OnErr, MatchResult}
use Rattle.wm_tokens.proofs.Basics.{same_some}
use Rattle.wm_tokens.proofs.Ahead.{IsAhead, ahead_is_so, ahead_blank, ahead_last, ahead_token}

-- ---- it goes on from what stands first

abbrev pub Shorter : List ℕ → Ahead → Type 0
Shorter b no_more = Unit {0}
Shorter b (blank r) = length r < length b
Shorter b (first t r) = length r < length b
Shorter b fault = Unit {0}

shorter_by : (b : List ℕ) (f : Ahead) → IsAhead b f → Shorter b f
shorter_by b no_more h = tt
shorter_by b (blank r) (c, part, e, h) = let n : length b ≡ length (c ∷ part ++ r) = ap length e in omega (arith, n, length-append part r)
shorter_by b (first t r) (c, text, e, h, g) = let n : length b ≡ length (c ∷ text ++ r) = ap length e in omega (arith, n, length-append text r)
shorter_by b fault h = tt

pub ahead_shorter : (b : List ℕ) → Shorter b (ahead b)
ahead_shorter b = shorter_by b (ahead b) (ahead_is_so b)

any_fuel : (m n : ℕ) (b : List ℕ) → length b < m → length b < n → tokens_within m b ≡ tokens_within n b
any_fuel zero n b h g = absurd (omega (arith, h))
any_fuel (suc m) zero b h g = absurd (omega (arith, g))
any_fuel (suc m) (suc n) b h g = by (λ r p q. any_fuel m n r p q) (ahead b) (ahead_shorter b)
  where
    by : ((r : List ℕ) → length r < m → length r < n → tokens_within m r ≡ tokens_within n r) → (f : Ahead) → Shorter b f → going (tokens_within m) f ≡ going (tokens_within n) f
    by again no_more s = refl
    by again (blank r) s = again r (omega arith) (omega arith)
    by again (first t r) s = ap (adding t) (again r (omega arith) (omega arith))
    by again fault s = refl

pub tokens_is : (b : List ℕ) → tokens_of b ≡ going tokens_of (ahead b)
unfolding tokens_of
tokens_is b = by (ahead b) (ahead_shorter b)
  where
    by : (f : Ahead) → Shorter b f → going (tokens_within (length b)) f ≡ going (λ r. tokens_within (suc (length r)) r) f
    by no_more s = refl
    by (blank r) s = any_fuel (length b) (suc (length r)) r s (omega arith)
    by (first t r) s = ap (adding t) (any_fuel (length b) (suc (length r)) r s (omega arith))
    by fault s = refl

pub tokens_go : (b : List ℕ) (f : Ahead) → ahead b ≡ f → tokens_of b ≡ going tokens_of f
tokens_go b f e = tokens_is b ∙ ap (going tokens_of) e

pub ahead_nil : ahead [] ≡ no_more
unfolding ahead
ahead_nil = refl

pub tokens_nil : tokens_of [] ≡ Some []
tokens_nil = tokens_go [] no_more ahead_nil

-- ---- what has tokens is read

pub space_more : (parts : List (List ℕ)) (b r : List ℕ) → Each (λ part b. (b ≡ part) × Blank part) parts b → tokens_of (b ++ r) ≡ tokens_of r
space_more [] b r e = ap (λ (z : List ℕ). tokens_of (z ++ r)) e
space_more (part ∷ parts) b r (x, y, e, (is, h), more) =
    ap tokens_of (ap (λ (z : List ℕ). z ++ r) (e ∙ ap (λ (z : List ℕ). z ++ y) is) ∙ append_assoc part y r)
    ∙ tokens_go (part ++ (y ++ r)) (blank (y ++ r)) (ahead_blank part (y ++ r) h) ∙ space_more parts y r more

pub tokens_more : (k : List Token) (b : List ℕ) → AreTokens k b → tokens_of b ≡ Some k
tokens_more [] b (inl (parts, h)) = ap tokens_of (sym (append-nil b)) ∙ space_more parts b [] h ∙ tokens_nil
tokens_more [] b (inr (x, y, e, (parts, h), line)) = ap tokens_of e ∙ space_more parts x y h ∙ tokens_go y (blank []) (ahead_last y line) ∙ tokens_nil
tokens_more (t ∷ k) b (x, y, e, (parts, h), (text, rest, e2, is, ends, more)) =
    ap tokens_of e ∙ space_more parts x y h ∙ tokens_go y (first t rest) (ap ahead e2 ∙ ahead_token t text rest is ends) ∙ ap (adding t) (tokens_more k rest more)

pub one_list : (b : List ℕ) (j k : List Token) → Tokens b j → Tokens b k → j ≡ k
one_list b j k s t = same_some j k (sym (tokens_more j b s.1) ∙ tokens_more k b t.1)

-- ---- what is read are its tokens

before_space : (part b : List ℕ) → Blank part → Space b → Space (part ++ b)
before_space part b h (parts, g) = (part ∷ parts, (part, b, refl, (refl, h), g))

blank_before : (k : List Token) (part r : List ℕ) → Blank part → AreTokens k r → AreTokens k (part ++ r)
blank_before [] part r h (inl s) = inl (before_space part r h s)
blank_before [] part r h (inr (x, y, e, s, line)) = inr (part ++ x, y, ap (λ (z : List ℕ). part ++ z) e ∙ sym (append_assoc part x y), before_space part x h s, line)
blank_before (t ∷ k) part r h (x, y, e, s, more) = (part ++ x, y, ap (λ (z : List ℕ). part ++ z) e ∙ sym (append_assoc part x y), before_space part x h s, more)

adding_is : (t : Token) (o : Option (List Token)) (k : List Token) → adding t o ≡ Some k → (j : List Token) × (o ≡ Some j) × (k ≡ t ∷ j)
adding_is t None k e = absurd cc
adding_is t (Some j) k e = (j, refl, sym (same_some (t ∷ j) k e))

nil_tokens : (n : ℕ) (k : List Token) → tokens_within n [] ≡ Some k → k ≡ []
nil_tokens zero k e = absurd cc
nil_tokens (suc n) k e = let f : going (tokens_within n) no_more ≡ Some k = ap (going (tokens_within n)) (sym ahead_nil) ∙ e in sym (same_some [] k f)

pub within_found : (n : ℕ) (b : List ℕ) (k : List Token) → tokens_within n b ≡ Some k → AreTokens k b
within_found zero b k e = absurd cc
within_found (suc n) b k e = by (λ r j g. within_found n r j g) (ahead b) (ahead_is_so b) e
  where
    by : ((r : List ℕ) (j : List Token) → tokens_within n r ≡ Some j → AreTokens j r) → (f : Ahead) → IsAhead b f → going (tokens_within n) f ≡ Some k → AreTokens k b
    by again no_more s e = subst (λ (z : List Token). AreTokens z b) (same_some [] k e) (inl ([], s))
    by again (blank r) (c, part, is, inl h) e = subst (AreTokens k) (sym is) (blank_before k (c ∷ part) r h (again r k e))
    by again (blank r) (c, part, is, inr (line, end)) e =
        let none : k ≡ [] = nil_tokens n k (ap (tokens_within n) (sym end) ∙ e) in
        subst (λ (z : List Token). AreTokens z b) (sym none) (inr ([], b, refl, ([], refl), subst LineComment (sym (is ∙ ap (λ (z : List ℕ). c ∷ part ++ z) end ∙ append-nil (c ∷ part))) line))
    by again (first t r) (c, text, is, h, ends) e =
        let g = adding_is t (tokens_within n r) k e in
        subst (λ (z : List Token). AreTokens z b) (sym g.2) ([], b, refl, ([], refl), (c ∷ text, r, is, h, ends, again r g.0 g.1))
    by again fault s e = absurd cc

pub tokens_found : (b : List ℕ) (k : List Token) → tokens_of b ≡ Some k → AreTokens k b
unfolding tokens_of
tokens_found b k e = within_found (suc (length b)) b k e

-- ---- the tokens before the first fault

any_lexed : (m n : ℕ) (b : List ℕ) → length b < m → length b < n → lexed_within m b ≡ lexed_within n b
any_lexed zero n b h g = absurd (omega (arith, h))
any_lexed (suc m) zero b h g = absurd (omega (arith, g))
any_lexed (suc m) (suc n) b h g = by (λ r p q. any_lexed m n r p q) (ahead b) (ahead_shorter b)
  where
    by : ((r : List ℕ) → length r < m → length r < n → lexed_within m r ≡ lexed_within n r) → (f : Ahead) → Shorter b f → lexing (lexed_within m) f ≡ lexing (lexed_within n) f
    by again no_more s = refl
    by again (blank r) s = again r (omega arith) (omega arith)
    by again (first t r) s = ap (λ (k : List Token). t ∷ k) (again r (omega arith) (omega arith))
    by again fault s = refl

pub lexed_is : (b : List ℕ) → lexed b ≡ lexing lexed (ahead b)
unfolding lexed
lexed_is b = by (ahead b) (ahead_shorter b)
  where
    by : (f : Ahead) → Shorter b f → lexing (lexed_within (length b)) f ≡ lexing (λ r. lexed_within (suc (length r)) r) f
    by no_more s = refl
    by (blank r) s = any_lexed (length b) (suc (length r)) r s (omega arith)
    by (first t r) s = ap (λ (k : List Token). t ∷ k) (any_lexed (length b) (suc (length r)) r s (omega arith))
    by fault s = refl

lexed_same : (n : ℕ) (b : List ℕ) (k : List Token) → tokens_within n b ≡ Some k → lexed_within n b ≡ k
lexed_same zero b k e = absurd cc
lexed_same (suc n) b k e = by (λ r j g. lexed_same n r j g) (ahead b) e
  where
    by : ((r : List ℕ) (j : List Token) → tokens_within n r ≡ Some j → lexed_within n r ≡ j) → (f : Ahead) → going (tokens_within n) f ≡ Some k → lexing (lexed_within n) f ≡ k
    by again no_more e = same_some [] k e
    by again (blank r) e = again r k e
    by again (first t r) e = let g = adding_is t (tokens_within n r) k e in ap (λ (j : List Token). t ∷ j) (again r g.0 g.1) ∙ sym g.2
    by again fault e = absurd cc

-- where a text has tokens they are these
pub lexed_tokens : (b : List ℕ) (k : List Token) → tokens_of b ≡ Some k → lexed b ≡ k
unfolding tokens_of lexed
lexed_tokens b k e = lexed_same (suc (length b)) b k e

-- ---- as the code sees them

pub ahead_ends : (b : List ℕ) → no_more ≡ ahead b → lexed b ≡ []
ahead_ends b e = lexed_is b ∙ ap (lexing lexed) (sym e)

pub ahead_skips : (b r : List ℕ) → blank r ≡ ahead b → lexed b ≡ lexed r
ahead_skips b r e = lexed_is b ∙ ap (lexing lexed) (sym e)

pub ahead_takes : (b r : List ℕ) (t : Token) → first t r ≡ ahead b → lexed b ≡ t ∷ lexed r
ahead_takes b r t e = lexed_is b ∙ ap (lexing lexed) (sym e)

pub ahead_stops : (b : List ℕ) → fault ≡ ahead b → lexed b ≡ []
ahead_stops b e = lexed_is b ∙ ap (lexing lexed) (sym e)

pub tokens_end : (b : List ℕ) → no_more ≡ ahead b → tokens_of b ≡ Some []
tokens_end b e = tokens_is b ∙ ap (going tokens_of) (sym e)

pub tokens_skip : (b r : List ℕ) → blank r ≡ ahead b → tokens_of b ≡ tokens_of r
tokens_skip b r e = tokens_is b ∙ ap (going tokens_of) (sym e)

pub tokens_take : (b r : List ℕ) (t : Token) → first t r ≡ ahead b → tokens_of b ≡ adding t (tokens_of r)
tokens_take b r t e = tokens_is b ∙ ap (going tokens_of) (sym e)

pub tokens_stop : (b : List ℕ) → fault ≡ ahead b → tokens_of b ≡ None
tokens_stop b e = tokens_is b ∙ ap (going tokens_of) (sym e)

pub blank_shorter : (b r : List ℕ) → blank r ≡ ahead b → length r < length b
blank_shorter b r e = subst (Shorter b) (sym e) (ahead_shorter b)

pub first_shorter : (b r : List ℕ) (t : Token) → first t r ≡ ahead b → length r < length b
first_shorter b r t e = subst (Shorter b) (sym e) (ahead_shorter b)

-- white space by itself is the blank that stands first
space_skips : (c : ℕ) (b : List ℕ) → is_space c ≡ true → blank b ≡ ahead (c ∷ b)
space_skips c b e = sym (ahead_blank (c ∷ []) b (inl (c, refl, e)))

-- what each blank that is skipped leaves as it is, white space that is skipped at once does too
pub spaces_along : (P : List ℕ → Type 0) → ((b r : List ℕ) → blank r ≡ ahead b → P b → P r) → (b : List ℕ) → P b → P (after_spaces b)
spaces_along P skip [] h = h
spaces_along P skip (c ∷ b) h = by (is_space c) refl (spaces_along P skip b)
  where
    by : (t : Bool) → is_space c ≡ t → (P b → P (after_spaces b)) → P (cond t (after_spaces b) (c ∷ b))
    by true e more = more (skip (c ∷ b) b (space_skips c b e) h)
    by false e more = h

pub spaces_lexed : (b : List ℕ) → lexed (after_spaces b) ≡ lexed b
spaces_lexed b = spaces_along (λ r. lexed r ≡ lexed b) (λ x r e h. sym (ahead_skips x r e) ∙ h) b refl

pub spaces_within : (b : List ℕ) → length (after_spaces b) ≤ length b
spaces_within b = spaces_along (λ r. length r ≤ length b) (λ x r e h. let lt : length r < length x = blank_shorter x r e in omega arith) b (omega arith)

pub ruleset ahead_laws = (ahead_ends, ahead_skips, ahead_takes, ahead_stops, blank_shorter, first_shorter, spaces_lexed, spaces_within)

-- ---- white space that is passed over

-- it leads from the one to the other
pub record Spaced (text rest : List ℕ) : Type 0 where
  pub space : List ℕ
  pub cut : text ≡ space ++ rest
  pub last : LastSpace space
  pub whole : rest ≢ [] → Space space

space_then : (parts : List (List ℕ)) (b part : List ℕ) → Each (λ part b. (b ≡ part) × Blank part) parts b → Blank part → Space (b ++ part)
space_then [] b part e h = (part ∷ [], (part, [], ap (λ (z : List ℕ). z ++ part) e ∙ sym (append-nil part), (refl, h), refl))
space_then (p ∷ parts) b part (x, y, e, (is, q), more) h =
    let g = space_then parts y part more h in (p ∷ g.0, (x, y ++ part, ap (λ (z : List ℕ). z ++ part) e ∙ append_assoc x y part, (is, q), g.1))

spaced_skip : (text b r : List ℕ) → blank r ≡ ahead b → Spaced text b → Spaced text r
spaced_skip text b r e s = by (subst (IsAhead b) (sym e) (ahead_is_so b))
  where
    before : (c : ℕ) (part : List ℕ) → b ≡ c ∷ part ++ r → Space s.space
    before c part is = s.whole (λ nil. let f : [] ≡ c ∷ part ++ r = sym nil ∙ is in cc)

    joined : (c : ℕ) (part : List ℕ) → b ≡ c ∷ part ++ r → text ≡ (s.space ++ c ∷ part) ++ r
    joined c part is = s.cut ∙ ap (λ (z : List ℕ). s.space ++ z) is ∙ sym (append_assoc s.space (c ∷ part) r)

    by : IsAhead b (blank r) → Spaced text r
    by (c, part, is, inl h) =
        let front : Space s.space = before c part is in
        let all : Space (s.space ++ c ∷ part) = space_then front.0 s.space (c ∷ part) front.1 h in
        record { space = s.space ++ c ∷ part; cut = joined c part is; last = inl all; whole = λ _. all }
    by (c, part, is, inr (line, end)) = record {
      space = s.space ++ c ∷ part;
      cut = joined c part is;
      last = inr (s.space, c ∷ part, refl, before c part is, line);
      whole = λ some. absurd (some end);
    }

pub spaced_first : (text : List ℕ) → Spaced text (after_spaces text)
spaced_first text = spaces_along (Spaced text) (spaced_skip text) text (record { space = []; cut = refl; last = inl ([], refl); whole = λ _. ([], refl) })

pub spaced_on : (text b r : List ℕ) → blank r ≡ ahead b → Spaced text b → Spaced text (after_spaces r)
spaced_on text b r e s = spaces_along (Spaced text) (spaced_skip text) r (spaced_skip text b r e s)

pub ruleset spaced_laws = (spaced_first, spaced_on)

pub some_adding : (t : Token) (o : Option (List Token)) → is_some (adding t o) ≡ is_some o
some_adding t None = refl
some_adding t (Some k) = refl

pub stand_end : (b : List ℕ) → no_more ≡ ahead b → has_tokens b ≡ true
stand_end b e = ap is_some (tokens_end b e)

pub stand_skip : (b r : List ℕ) → blank r ≡ ahead b → has_tokens b ≡ has_tokens r
stand_skip b r e = ap is_some (tokens_skip b r e)

pub stand_take : (b r : List ℕ) (t : Token) → first t r ≡ ahead b → has_tokens b ≡ has_tokens r
stand_take b r t e = ap is_some (tokens_take b r t e) ∙ some_adding t (tokens_of r)

pub stand_spaces : (b : List ℕ) → has_tokens (after_spaces b) ≡ has_tokens b
stand_spaces b = spaces_along (λ r. has_tokens r ≡ has_tokens b) (λ x r e h. sym (stand_skip x r e) ∙ h) b refl

pub stand_stop : (b : List ℕ) → fault ≡ ahead b → has_tokens b ≡ false
stand_stop b e = ap is_some (tokens_stop b e)

pub ruleset stand_laws = (stand_end, stand_skip, stand_take, stand_stop, stand_spaces, blank_shorter, first_shorter, spaces_within)

pub stand_has : (b : List ℕ) → IsUtf8 b → has_tokens b ≡ true → Tokens b (lexed b)
stand_has b u h = by (tokens_of b) refl h
  where
    by : (o : Option (List Token)) → tokens_of b ≡ o → is_some o ≡ true → Tokens b (lexed b)
    by None e h = absurd (let f : false ≡ true = h in cc)
    by (Some k) e h = (u, subst (λ (z : List Token). AreTokens z b) (sym (lexed_tokens b k e)) (tokens_found b k e))

stand_none : (b : List ℕ) → has_tokens b ≡ false → (k : List Token) → Tokens b k → ⊥
stand_none b h k t = let f : true ≡ false = sym (ap is_some (tokens_more k b t.1)) ∙ h in cc

pub stand_err : {E : Type 0} (b : List ℕ) (r : Result (Unit {0}) E) → MatchResult r (λ _. has_tokens b ≡ true) (λ _. has_tokens b ≡ false) → OnErr r ((k : List Token) → Tokens b k → ⊥)
stand_err b (Ok x) h = tt
stand_err b (Err e) h = stand_none b h
