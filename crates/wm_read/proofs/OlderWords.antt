-- A text whose older keywords are overwritten has the same tokens, with each older keyword replaced.
use Rattle.std.proofs.Common.{◌≡◌, ℕ, zero, suc, ◌-◌, ◌≤◌, ◌⊎◌, Bool, true, false, List, [], ◌∷◌, ◌++◌, length, take, replicate, map, Option, Some, None, refl, sym, ap, subst, ◌∙◌, inl, inr, arith, append_assoc, length-append}
use Rattle.std.proofs.Math.Seq.{take-append_seam}
use Rattle.std.proofs.lemmas.Bool.{cond-true, cond-false, and_parts, leb-true, ne_eqb, or_left, or_right}
use Rattle.std.proofs.lemmas.List.{append-nil, length-replicate, nil_from_length}
use Rattle.std.proofs.lemmas.Slice.Eq.{bytes_eq-Decides}
use Rattle.std.specs.List.{list_all, list_any}
use Rattle.std.specs.Map.{lookup}
use Rattle.std.specs.Option.{unwrap_or}
use Rattle.std.specs.Prelude.{◌==◌, ◌&&◌, ◌||◌, codes, nat_le}
use Rattle.std.specs.Str.{bytes_eq}
use Rattle.wm_read.specs.Spellings.{older_words, replaced}
use Rattle.wm_tokens.specs.Tokens.{Token, open_paren, close_paren, string, atom, is_id_char, is_digit, is_lower, is_upper, IsAtom, TokenText, Ends}
use Rattle.wm_read.specs.declared.spellings.Spellings.TheVariants.{Standard, Older}
use Rattle.wm_bodies.specs.exact.Reading.{is_word}
use Rattle.wm_tokens.specs.exact.Scan.{ahead, no_more, blank, first, fault, lexed}
use Rattle.wm_read.specs.inner.Renewed.{Renewed, filled, part_for}
use Rattle.wm_tokens.proofs.Ahead.{IsAhead, IsBlank, ahead_blank, ahead_is_so, ahead_last, ahead_token}
use Rattle.wm_tokens.proofs.Whole.{ahead_ends, ahead_nil, ahead_skips, ahead_stops, ahead_takes, blank_shorter, first_shorter}

-- Under Standard, all tokens stay.
pub standard_stays : (k : List Token) → map (replaced Standard) k ≡ k
standard_stays [] = refl
standard_stays (t ∷ k) = ap (λ (z : List Token). t ∷ z) (standard_stays k)

-- ---- each older word and its standard word

-- both are words of identifier characters, and the standard one is no longer
abbrev good : List ℕ → List ℕ → Bool
good a w = is_word a && (is_word w && (list_all is_id_char w && nat_le (length w) (length a)))

all_good : list_all (λ e. good e.0 e.1) older_words ≡ true
all_good = refl

-- The keyword that an atom is read as, and the bytes that are written for it.
abbrev IsFoundIn : List (List ℕ × List ℕ) → List ℕ → Type 0
IsFoundIn es a =
    ((lookup (bytes_eq a) es ≡ None) × (lookup (bytes_eq a) (map (λ e. (e.0, filled e.0 e.1)) es) ≡ None))
    ⊎ ((w : List ℕ) × (lookup (bytes_eq a) es ≡ Some w) × (lookup (bytes_eq a) (map (λ e. (e.0, filled e.0 e.1)) es) ≡ Some (filled a w)) × (good a w ≡ true))

found_first : (a : List ℕ) (e : List ℕ × List ℕ) (es : List (List ℕ × List ℕ)) → good e.0 e.1 ≡ true → IsFoundIn es a → (t : Bool) → bytes_eq a e.0 ≡ t → IsFoundIn (e ∷ es) a
found_first a e es h more true q =
    let same : a ≡ e.0 = (bytes_eq-Decides a e.0).0 q in
    inr (e.1, cond-true (bytes_eq a e.0) _ _ q, cond-true (bytes_eq a e.0) _ _ q ∙ ap (λ (x : List ℕ). Some (filled x e.1)) (sym same), ap (λ (x : List ℕ). good x e.1) same ∙ h)
found_first a e es h (inl g) false q = inl (cond-false (bytes_eq a e.0) _ _ q ∙ g.0, cond-false (bytes_eq a e.0) _ _ q ∙ g.1)
found_first a e es h (inr g) false q = inr (g.0, cond-false (bytes_eq a e.0) _ _ q ∙ g.1, cond-false (bytes_eq a e.0) _ _ q ∙ g.2, g.3)

found : (a : List ℕ) (es : List (List ℕ × List ℕ)) → list_all (λ e. good e.0 e.1) es ≡ true → IsFoundIn es a
found a [] h = inl (refl, refl)
found a (e ∷ es) h = let p = and_parts (good e.0 e.1) (list_all (λ e. good e.0 e.1) es) h in found_first a e es p.0 (found a es p.1) (bytes_eq a e.0) refl

-- an atom stays as it is, or is a word
pub stays_or_word : (a : List ℕ) → (unwrap_or (lookup (bytes_eq a) older_words) a ≡ a) ⊎ (is_word a ≡ true)
stays_or_word a = by (found a older_words all_good)
  where
    by : IsFoundIn older_words a → (unwrap_or (lookup (bytes_eq a) older_words) a ≡ a) ⊎ (is_word a ≡ true)
    by (inl (none, _)) = inl (ap (λ o. unwrap_or o a) none)
    by (inr (w, some, _, h)) = inr (and_parts (is_word a) (is_word w && (list_all is_id_char w && nat_le (length w) (length a))) h).0

lower_is_char : (c : ℕ) → is_lower c ≡ true → is_id_char c ≡ true
lower_is_char c h =
    or_left ((is_digit c || is_lower c) || is_upper c) (list_any (λ d. c == d) (codes "!#$%&'*+-./:<=>?@\\^_`|~")) (or_left (is_digit c || is_lower c) (is_upper c) (or_right (is_digit c) (is_lower c) h))

word_is_atom : (w : List ℕ) → is_word w ≡ true → list_all is_id_char w ≡ true → IsAtom w
word_is_atom [] h all = absurd (let f : false ≡ true = h in cc)
word_is_atom (c ∷ w) h all = (all, inr (inr h))

-- ---- the token before a text

ends_first : (t : Token) (c : ℕ) (x y : List ℕ) → Ends t (c ∷ x) → Ends t (c ∷ y)
ends_first open_paren c x y h = h
ends_first close_paren c x y h = tt
ends_first (string s) c x y h = tt
ends_first (atom a) c x y h = h

ends_lower : (t : Token) (c d : ℕ) (x y : List ℕ) → is_lower c ≡ true → is_lower d ≡ true → Ends t (c ∷ x) → Ends t (d ∷ y)
ends_lower open_paren c d x y p q h = ne_eqb d 59 (λ e. let f : false ≡ true = ap is_lower (sym e) ∙ q in cc)
ends_lower close_paren c d x y p q h = tt
ends_lower (string s) c d x y p q h = tt
ends_lower (atom a) c d x y p q h = absurd (let f : true ≡ false = sym (lower_is_char c p) ∙ h in cc)

ends_word : (t : Token) (a w x y : List ℕ) → is_word a ≡ true → is_word w ≡ true → Ends t (a ++ x) → Ends t (w ++ y)
ends_word t [] w x y p q h = absurd (let f : false ≡ true = p in cc)
ends_word t (c ∷ a) [] x y p q h = absurd (let f : false ≡ true = q in cc)
ends_word t (c ∷ a) (d ∷ w) x y p q h = ends_lower t c d (a ++ x) (w ++ y) p q h

ends_atom : (a w r : List ℕ) → Ends (atom a) r → Ends (atom w) r
ends_atom a w [] h = tt
ends_atom a w (c ∷ r) h = h

ends_spaces : (w : List ℕ) (n : ℕ) (r : List ℕ) → Ends (atom w) r → Ends (atom w) (replicate n 32 ++ r)
ends_spaces w zero r h = h
ends_spaces w (suc n) r h = refl

spaces_skip : (n : ℕ) (r : List ℕ) → lexed (replicate n 32 ++ r) ≡ lexed r
spaces_skip zero r = refl
spaces_skip (suc n) r = ahead_skips (32 ∷ (replicate n 32 ++ r)) (replicate n 32 ++ r) (sym (ahead_blank (32 ∷ []) (replicate n 32 ++ r) (inl (32, refl, refl)))) ∙ spaces_skip n r

-- ---- the first token or white space, and the bytes that are written for it

stays : (b : List ℕ) → lexed b ≡ [] → Renewed b b
stays b e = record { tokens = e ∙ sym (ap (map (replaced Older)) e); size = refl; ends = λ t h. h }

pub none_ends : (b : List ℕ) → no_more ≡ ahead b → Renewed b b
none_ends b e = stays b (ahead_ends b e)

pub none_stops : (b : List ℕ) → fault ≡ ahead b → Renewed b b
none_stops b e = stays b (ahead_stops b e)

abbrev Renews : List ℕ → List ℕ → List ℕ → List ℕ → Type 0
Renews b r part out = Renewed r out → Renewed b (part ++ out)

after_blank : (c : ℕ) (part r out : List ℕ) → IsBlank (c ∷ part) r → Renews (c ∷ part ++ r) r (c ∷ part) out
after_blank c part r out (inl h) g = record {
  tokens =
      ahead_skips (c ∷ part ++ out) out (sym (ahead_blank (c ∷ part) out h)) ∙ g.tokens
      ∙ ap (map (replaced Older)) (sym (ahead_skips (c ∷ part ++ r) r (sym (ahead_blank (c ∷ part) r h))));
  size = let n = g.size in omega (arith, length-append part out, length-append part r, n);
  ends = λ t e. ends_first t c (part ++ r) (part ++ out) e;
}
after_blank c part r out (inr (line, end)) g =
    let none : out ≡ [] = nil_from_length out (g.size ∙ ap length end) in
    let text : c ∷ part ++ [] ≡ c ∷ part = append-nil (c ∷ part) in
    let is : lexed (c ∷ part ++ []) ≡ [] = ahead_skips (c ∷ part ++ []) [] (sym (ap ahead text ∙ ahead_last (c ∷ part) line)) ∙ ahead_ends [] (sym ahead_nil) in
    subst (λ (z : List ℕ). Renewed (c ∷ part ++ z) (c ∷ part ++ out)) (sym end) (subst (λ (z : List ℕ). Renewed (c ∷ part ++ []) (c ∷ part ++ z)) (sym none) (stays (c ∷ part ++ []) is))

after_token : (t : Token) (c : ℕ) (text r out : List ℕ) → TokenText t (c ∷ text) → Ends t r → replaced Older t ≡ t → Renews (c ∷ text ++ r) r (c ∷ text) out
after_token t c text r out h e same g = record {
  tokens =
      ahead_takes (c ∷ text ++ out) out t (sym (ahead_token t (c ∷ text) out h (g.ends t e))) ∙ ap (λ (k : List Token). t ∷ k) g.tokens
      ∙ ap (λ (x : Token). x ∷ map (replaced Older) (lexed r)) (sym same)
      ∙ ap (map (replaced Older)) (sym (ahead_takes (c ∷ text ++ r) r t (sym (ahead_token t (c ∷ text) r h e))));
  size = let n = g.size in omega (arith, length-append text out, length-append text r, n);
  ends = λ t e. ends_first t c (text ++ r) (text ++ out) e;
}

after_older : (a w r out : List ℕ) → IsAtom a → Ends (atom a) r → lookup (bytes_eq a) older_words ≡ Some w → good a w ≡ true → Renews (a ++ r) r (filled a w) out
after_older a w r out is e at h g =
    let p = and_parts (is_word a) _ h in
    let q = and_parts (is_word w) _ p.1 in
    let s = and_parts (list_all is_id_char w) _ q.1 in
    let n : ℕ = length a - length w in
    let spaces : List ℕ = replicate n 32 in
    let text : (w ++ spaces) ++ out ≡ w ++ (spaces ++ out) = append_assoc w spaces out in
    let ends : Ends (atom w) (spaces ++ out) = ends_spaces w n out (g.ends (atom w) (ends_atom a w r e)) in
    let old : lexed (a ++ r) ≡ atom a ∷ lexed r = ahead_takes (a ++ r) r (atom a) (sym (ahead_token (atom a) a r (refl, is) e)) in
    let new : lexed (w ++ (spaces ++ out)) ≡ atom w ∷ lexed (spaces ++ out) =
    ahead_takes (w ++ (spaces ++ out)) (spaces ++ out) (atom w) (sym (ahead_token (atom w) w (spaces ++ out) (refl, word_is_atom w q.0 s.0) ends))
    in
    record {
      tokens =
          ap lexed text ∙ new ∙ ap (λ (k : List Token). atom w ∷ k) (spaces_skip n out ∙ g.tokens)
          ∙ ap (λ (x : Option (List ℕ)). atom (unwrap_or x a) ∷ map (replaced Older) (lexed r)) (sym at)
          ∙ ap (map (replaced Older)) (sym old);
      size = longer s.1;
      ends = λ t f. subst (Ends t) (sym text) (ends_word t a w r (spaces ++ out) p.0 q.0 f);
    }
  where
    longer : nat_le (length w) (length a) ≡ true → length ((w ++ replicate (length a - length w) 32) ++ out) ≡ length (a ++ r)
    longer le =
        let m : length w ≤ length a = leb-true (length w) (length a) le in
        let k = g.size in
        omega (arith, m, k, length-append (w ++ replicate (length a - length w) 32) out, length-append w (replicate (length a - length w) 32), length-append a r, length-replicate {A = ℕ} (length a - length w) 32)

front_of : (b part r : List ℕ) → b ≡ part ++ r → take (length b - length r) b ≡ part
front_of b part r e =
    let n : length b ≡ length (part ++ r) = ap length e in
    let k : length b - length r ≡ length part = omega (arith, n, length-append part r) in
    ap (λ (m : ℕ). take m b) k ∙ ap (take (length part)) e ∙ take-append_seam part r

pub blank_renews : (b r part out : List ℕ) → blank r ≡ ahead b → part ≡ take (length b - length r) b → Renews b r part out
blank_renews b r part out e is g = by (subst (IsAhead b) (sym e) (ahead_is_so b))
  where
    by : IsAhead b (blank r) → Renewed b (part ++ out)
    by (c, text, f, h) =
        subst (λ (z : List ℕ). Renewed b (z ++ out)) (sym (is ∙ front_of b (c ∷ text) r f))
        (subst (λ (z : List ℕ). Renewed z (c ∷ text ++ out)) (sym f) (after_blank c text r out h g))

token_renews : (t : Token) (c : ℕ) (text r out : List ℕ) → TokenText t (c ∷ text) → Ends t r → Renews (c ∷ text ++ r) r (part_for t (c ∷ text)) out
token_renews open_paren c text r out h e g = after_token open_paren c text r out h e refl g
token_renews close_paren c text r out h e g = after_token close_paren c text r out h e refl g
token_renews (string s) c text r out h e g = after_token (string s) c text r out h e refl g
token_renews (atom a) c text r out h e g = by (found a older_words all_good)
  where
    by : IsFoundIn older_words a → Renewed (c ∷ text ++ r) (part_for (atom a) (c ∷ text) ++ out)
    by (inl (none, f)) =
        subst (λ (z : Option (List ℕ)). Renewed (c ∷ text ++ r) (unwrap_or z (c ∷ text) ++ out)) (sym f)
        (after_token (atom a) c text r out h e (ap (λ (z : Option (List ℕ)). atom (unwrap_or z a)) none) g)
    by (inr (w, some, f, is)) =
        subst (λ (z : Option (List ℕ)). Renewed (c ∷ text ++ r) (unwrap_or z (c ∷ text) ++ out)) (sym f)
        (subst (λ (z : List ℕ). Renewed (z ++ r) (filled a w ++ out)) (sym h.0) (after_older a w r out h.1 e some is g))

pub first_renews : (b r part whole out : List ℕ) (t : Token) → first t r ≡ ahead b → whole ≡ take (length b - length r) b → part ≡ part_for t whole → Renews b r part out
first_renews b r part whole out t e is for g = by (subst (IsAhead b) (sym e) (ahead_is_so b))
  where
    by : IsAhead b (first t r) → Renewed b (part ++ out)
    by (c, text, f, h, ends) =
        subst (λ (z : List ℕ). Renewed b (z ++ out)) (sym (for ∙ ap (part_for t) (is ∙ front_of b (c ∷ text) r f)))
        (subst (λ (z : List ℕ). Renewed z (part_for t (c ∷ text) ++ out)) (sym f) (token_renews t c text r out h ends g))

pub ruleset part_laws = (none_ends, none_stops, blank_renews, first_renews, blank_shorter, first_shorter)
