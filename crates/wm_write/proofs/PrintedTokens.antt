-- The tokens of a printed text: each word is one token, since the text after it ends it.
use Rattle.std.proofs.Common.{◌≡◌, ℕ, zero, suc, ◌<◌, ◌+◌, ◌*◌, ◌/◌, ◌%◌, ◌^◌, true, false, List, [], ◌∷◌, ◌++◌, map, flat_map, Some, refl, sym, ap, subst, ◌∙◌, inl, inr, arith, append_assoc, IsAscii}
use Rattle.std.specs.Prelude.{◌==◌, ◌&&◌, ◌||◌, codes, decimal, nat_le, nat_lt, not}
use Rattle.std.specs.List.{list_all, list_any}
use Rattle.std.proofs.lemmas.Bool.{and_parts, and_from, or_cases, leb-true, ltb-true, eqb-true, cond_both, ne_eqb}
use Rattle.std.proofs.lemmas.List.{append-nil}
use Rattle.std.proofs.lemmas.Grind.{flat_map-append}
use Rattle.std.proofs.lemmas.Str.{IsAscii-append, IsUtf8-from_ascii}
use Rattle.std.proofs.lemmas.Str.Ascii.{IsAscii-cons, IsAscii-nil}
use Rattle.wm_syntax.specs.Spelling.{Each, AreBytes}
use Rattle.wm_write.specs.FloatText.{hex_digit}
use Rattle.wm_write.specs.Layout.{WordMeaning, Word, opening, closing, string, atom, is_plain, escaped, meaning_text, word_text, words_text, word_at, gap, field_line, body_line, number, quoted, parens, form, last_line}
use Rattle.wm_tokens.specs.Tokens.{Token, open_paren, close_paren, is_space, is_digit, is_lower, is_upper, is_id_char, digit_value, Blank, Space, StringElement, String, TokenText, Ends, IsAtom, IsIdentifier, IsNumber, IsWord, IsDigit, AreTokens, Tokens}
use Rattle.wm_tokens.specs.Tokens as tok
use Rattle.wm_write.specs.inner.Printed.{token_of, tokens}
use Rattle.wm_write.proofs.PrintedNumbers.{decimal_printed, decimal_magnitude}

-- ---- characters of atoms are ASCII

one_of : (c : ℕ) (ds : List ℕ) → list_all (λ d. nat_lt d 128) ds ≡ true → list_any (λ d. c == d) ds ≡ true → c < 128
one_of c [] h e = absurd (let f : false ≡ true = e in cc)
one_of c (d ∷ ds) h e =
    let p = and_parts (nat_lt d 128) (list_all (λ d. nat_lt d 128) ds) h in
    elim (or_cases (c == d) (list_any (λ d. c == d) ds) e) [
      | inl s ↦ subst (λ z. z < 128) (sym (eqb-true c d s)) (ltb-true d 128 p.0)
      | inr s ↦ one_of c ds p.1 s
    ]

within : (low c high : ℕ) → high < 128 → (nat_le low c && nat_le c high) ≡ true → c < 128
within low c high lt h = let l = leb-true c high (and_parts (nat_le low c) (nat_le c high) h).1 in omega (arith, lt, l)

char_ascii : (c : ℕ) → is_id_char c ≡ true → c < 128
char_ascii c h = elim (or_cases (is_digit c || is_lower c || is_upper c) _ h) [
  | inl s ↦ elim (or_cases (is_digit c || is_lower c) (is_upper c) s) [
    | inl s ↦ elim (or_cases (is_digit c) (is_lower c) s) [
      | inl s ↦ within 48 c 57 (omega arith) s
      | inr s ↦ within 97 c 122 (omega arith) s
    ]
    | inr s ↦ within 65 c 90 (omega arith) s
  ]
  | inr s ↦ one_of c (codes "!#$%&'*+-./:<=>?@\\^_`|~") refl s
]

chars_ascii : (a : List ℕ) → list_all is_id_char a ≡ true → IsAscii a
chars_ascii [] h = IsAscii-nil
chars_ascii (c ∷ a) h = let p = and_parts (is_id_char c) (list_all is_id_char a) h in IsAscii-cons c a (char_ascii c p.0) (chars_ascii a p.1)

-- ---- words

-- The text of words, followed by a line feed.
abbrev pub whole : List Word → List ℕ
whole ws = words_text ws ++ 10 ∷ []

-- each word is the text of its token, and ends where the next begins
abbrev pub AreWords : List Word → Type 0
AreWords [] = Unit {0}
AreWords (w ∷ ws) = Space w.space × TokenText (token_of w.means) (meaning_text w.means) × Ends (token_of w.means) (whole ws) × AreWords ws

last_space : AreTokens [] (10 ∷ [])
last_space = inl ((10 ∷ []) ∷ [], (10 ∷ [], [], refl, (refl, inl (10, refl, refl)), refl))

pub words_are_tokens : (ws : List Word) → AreWords ws → AreTokens (tokens ws) (whole ws)
words_are_tokens [] h = last_space
words_are_tokens (w ∷ ws) (s, t, e, more) =
    let text : whole (w ∷ ws) ≡ w.space ++ (meaning_text w.means ++ whole ws) =
    append_assoc (w.space ++ meaning_text w.means) (words_text ws) (10 ∷ []) ∙ append_assoc w.space (meaning_text w.means) (whole ws) in
    (w.space, meaning_text w.means ++ whole ws, text, s, (meaning_text w.means, whole ws, refl, t, e, words_are_tokens ws more))

-- ---- a space, a new line or a closing parenthesis ends any token

abbrev pub IsEnd : ℕ → Type 0
IsEnd c = (is_id_char c ≡ false) × ((c == 59) ≡ false)

ends_any : (t : Token) (c : ℕ) (r : List ℕ) → IsEnd c → Ends t (c ∷ r)
ends_any open_paren c r h = h.1
ends_any close_paren c r h = tt
ends_any (tok.string b) c r h = tt
ends_any (tok.atom a) c r h = h.0

abbrev pub StartsEnd : Word → Type 0
StartsEnd w = (c : ℕ) × (r : List ℕ) × (word_text w ≡ c ∷ r) × IsEnd c

abbrev pub Starts : List Word → Type 0
Starts [] = Unit {0}
Starts (w ∷ ws) = StartsEnd w

ends_before : (t : Token) (ws : List Word) → Starts ws → Ends t (whole ws)
ends_before t [] h = ends_any t 10 [] (refl, refl)
ends_before t (w ∷ ws) (c, r, e, i) = subst (Ends t) (sym (ap (λ (z : List ℕ). (z ++ words_text ws) ++ 10 ∷ []) e)) (ends_any t c ((r ++ words_text ws) ++ 10 ∷ []) i)

-- Words that stand before any others that begin so.
pub record Stands (ws : List Word) : Type 0 where
  pub joins : (vs : List Word) → Starts vs → AreWords vs → AreWords (ws ++ vs)
  pub starts : (vs : List Word) → Starts vs → Starts (ws ++ vs)
  pub ascii : IsAscii (words_text ws)

pub none_stand : Stands []
none_stand = record { joins = λ vs s a. a; starts = λ vs s. s; ascii = IsAscii-nil }

pub both_stand : (ws us : List Word) → Stands ws → Stands us → Stands (ws ++ us)
both_stand ws us h g = record {
  joins = λ vs s a. subst AreWords (sym (append_assoc ws us vs)) (h.joins (us ++ vs) (g.starts vs s) (g.joins vs s a));
  starts = λ vs s. subst Starts (sym (append_assoc ws us vs)) (h.starts (us ++ vs) (g.starts vs s));
  ascii = subst IsAscii (sym (flat_map-append word_text ws us)) (IsAscii-append (words_text ws) (words_text us) h.ascii g.ascii);
}

-- a word that begins so
pub record IsGood (w : Word) : Type 0 where
  pub space : Space w.space
  pub text : TokenText (token_of w.means) (meaning_text w.means)
  pub starts : StartsEnd w
  pub ascii : IsAscii (word_text w)

pub good_stands : (w : Word) → IsGood w → Stands (w ∷ [])
good_stands w h = record {
  joins = λ vs s a. (h.space, h.text, ends_before (token_of w.means) vs s, a);
  starts = λ vs s. h.starts;
  ascii = subst IsAscii (sym (append-nil (word_text w))) h.ascii;
}

-- ---- white space

space_nil : Space []
space_nil = ([], refl)

space_before : (c : ℕ) (b : List ℕ) → is_space c ≡ true → Space b → Space (c ∷ b)
space_before c b h (parts, e) = ((c ∷ []) ∷ parts, (c ∷ [], b, refl, (refl, inl (c, refl, h)), e))

-- the white space of the layout: a space, or a line feed and spaces
pub record IsBreak (before : List ℕ) : Type 0 where
  pub space : Space before
  pub first : ℕ
  pub rest : List ℕ
  pub is : before ≡ first ∷ rest
  pub ends : IsEnd first
  pub ascii : IsAscii before

spaces : (n : List ℕ) → list_all (λ c. c == 32) n ≡ true → Space n
spaces [] h = space_nil
spaces (c ∷ n) h = let p = and_parts (c == 32) (list_all (λ c. c == 32) n) h in
    space_before c n (subst (λ z. is_space z ≡ true) (sym (eqb-true c 32 p.0)) refl) (spaces n p.1)

pub gap_breaks : IsBreak gap
gap_breaks = record { space = spaces gap refl; first = 32; rest = []; is = refl; ends = (refl, refl); ascii = IsAscii-cons 32 [] (omega arith) IsAscii-nil }

two : IsAscii (32 ∷ 32 ∷ [])
two = IsAscii-cons 32 (32 ∷ []) (omega arith) (IsAscii-cons 32 [] (omega arith) IsAscii-nil)

pub field_line_breaks : IsBreak field_line
field_line_breaks = record {
  space = space_before 10 (32 ∷ 32 ∷ []) refl (spaces (32 ∷ 32 ∷ []) refl);
  first = 10;
  rest = 32 ∷ 32 ∷ [];
  is = refl;
  ends = (refl, refl);
  ascii = IsAscii-cons 10 (32 ∷ 32 ∷ []) (omega arith) two;
}

pub body_line_breaks : IsBreak body_line
body_line_breaks = record {
  space = space_before 10 (32 ∷ 32 ∷ 32 ∷ 32 ∷ []) refl (spaces (32 ∷ 32 ∷ 32 ∷ 32 ∷ []) refl);
  first = 10;
  rest = 32 ∷ 32 ∷ 32 ∷ 32 ∷ [];
  is = refl;
  ends = (refl, refl);
  ascii = IsAscii-cons 10 (32 ∷ 32 ∷ 32 ∷ 32 ∷ []) (omega arith) (IsAscii-cons 32 (32 ∷ 32 ∷ 32 ∷ []) (omega arith) (IsAscii-cons 32 (32 ∷ 32 ∷ []) (omega arith) two));
}

-- ---- a token after this white space

behind : (before : List ℕ) (means : WordMeaning) → IsBreak before → TokenText (token_of means) (meaning_text means) → IsAscii (meaning_text means) → IsGood (word_at before means)
behind before means b t a = record {
  space = b.space;
  text = t;
  starts = (b.first, b.rest ++ meaning_text means, ap (λ (z : List ℕ). z ++ meaning_text means) b.is, b.ends);
  ascii = IsAscii-append before (meaning_text means) b.ascii a;
}

-- an atom
pub atom_good : (before a : List ℕ) → IsBreak before → IsAtom a → IsGood (word_at before (atom a))
atom_good before a b h = behind before (atom a) b (refl, h) (chars_ascii a h.0)

pub number_is_atom : (n : ℕ) → n < 2 ^ 64 → IsAtom (decimal n)
number_is_atom n lt = ((decimal_printed n lt).chars, inr (inl (inl (n, inl (decimal_magnitude n lt)))))

pub number_good : (n : ℕ) → n < 2 ^ 64 → IsGood (number n)
number_good n lt = atom_good gap (decimal n) gap_breaks (number_is_atom n lt)

-- a string
pub hex_value : (d : ℕ) → d < 16 → digit_value (hex_digit d) ≡ Some d
hex_value zero lt = refl
hex_value (suc zero) lt = refl
hex_value (suc (suc zero)) lt = refl
hex_value (suc (suc (suc zero))) lt = refl
hex_value (suc (suc (suc (suc zero)))) lt = refl
hex_value (suc (suc (suc (suc (suc zero))))) lt = refl
hex_value (suc (suc (suc (suc (suc (suc zero)))))) lt = refl
hex_value (suc (suc (suc (suc (suc (suc (suc zero))))))) lt = refl
hex_value (suc (suc (suc (suc (suc (suc (suc (suc zero)))))))) lt = refl
hex_value (suc (suc (suc (suc (suc (suc (suc (suc (suc zero))))))))) lt = refl
hex_value (suc (suc (suc (suc (suc (suc (suc (suc (suc (suc zero)))))))))) lt = refl
hex_value (suc (suc (suc (suc (suc (suc (suc (suc (suc (suc (suc zero))))))))))) lt = refl
hex_value (suc (suc (suc (suc (suc (suc (suc (suc (suc (suc (suc (suc zero)))))))))))) lt = refl
hex_value (suc (suc (suc (suc (suc (suc (suc (suc (suc (suc (suc (suc (suc zero))))))))))))) lt = refl
hex_value (suc (suc (suc (suc (suc (suc (suc (suc (suc (suc (suc (suc (suc (suc zero)))))))))))))) lt = refl
hex_value (suc (suc (suc (suc (suc (suc (suc (suc (suc (suc (suc (suc (suc (suc (suc zero))))))))))))))) lt = refl
hex_value (suc (suc (suc (suc (suc (suc (suc (suc (suc (suc (suc (suc (suc (suc (suc (suc d)))))))))))))))) lt = absurd (omega (arith, lt))

hex_small : (d : ℕ) → d < 16 → hex_digit d < 128
hex_small d lt = cond_both (nat_lt d 10) (48 + d) (87 + d) (λ z. z < 128) (λ h. omega (arith, lt)) (λ h. omega (arith, lt))

plain_stands : (b : ℕ) → is_plain b ≡ true → tok.is_string_char b ≡ true
plain_stands b h =
    let p = and_parts (nat_le 0x20 b && nat_le b 0x7E && not (b == 34)) (not (b == 92)) h in
    let q = and_parts (nat_le 0x20 b && nat_le b 0x7E) (not (b == 34)) p.0 in
    let r = and_parts (nat_le 0x20 b) (nat_le b 0x7E) q.0 in
    let low = leb-true b 0x7E r.1 in
    and_from (nat_le 0x20 b && not (b == 0x7F) && not (b == 34)) (not (b == 92))
    (and_from (nat_le 0x20 b && not (b == 0x7F)) (not (b == 34)) (and_from (nat_le 0x20 b) (not (b == 0x7F)) r.0 (ap not (ne_eqb b 0x7F (λ e. omega (arith, low, e))))) q.1) p.1

escape_is : (b : ℕ) → b < 2 ^ 8 → StringElement (b ∷ []) (escaped b)
escape_is b lt = cond_both (is_plain b) (b ∷ []) (92 ∷ hex_digit (b / 16) ∷ hex_digit (b % 16) ∷ []) (StringElement (b ∷ []))
    (λ h. inl (b, refl, plain_stands b h, refl))
    (λ h. let high : b / 16 < 16 = omega (arith, lt) in
    let low : b % 16 < 16 = omega arith in
    let is : b ≡ b / 16 * 16 + b % 16 = omega arith in
    inr (inr (inl (b / 16, b % 16, ap (λ z. z ∷ []) is, (92 ∷ [], hex_digit (b / 16) ∷ hex_digit (b % 16) ∷ [], refl, refl, (hex_digit (b / 16) ∷ [], hex_digit (b % 16) ∷ [], refl, (hex_digit (b / 16), refl, hex_value (b / 16) high, high), (hex_digit (b % 16), refl, hex_value (b % 16) low, low)))))))

escape_ascii : (b : ℕ) → b < 2 ^ 8 → IsAscii (escaped b)
escape_ascii b lt = cond_both (is_plain b) (b ∷ []) (92 ∷ hex_digit (b / 16) ∷ hex_digit (b % 16) ∷ []) IsAscii
    (λ h. IsAscii-cons b [] (small h) IsAscii-nil)
    (λ h. IsAscii-cons 92 (hex_digit (b / 16) ∷ hex_digit (b % 16) ∷ []) (omega arith)
    (IsAscii-cons (hex_digit (b / 16)) (hex_digit (b % 16) ∷ []) (hex_small (b / 16) (omega (arith, lt))) (IsAscii-cons (hex_digit (b % 16)) [] (hex_small (b % 16) (omega arith)) IsAscii-nil)))
  where
    small : is_plain b ≡ true → b < 128
    small h =
        let p = and_parts (nat_le 0x20 b && nat_le b 0x7E && not (b == 34)) (not (b == 92)) h in
        let q = and_parts (nat_le 0x20 b && nat_le b 0x7E) (not (b == 34)) p.0 in
        within 0x20 b 0x7E (omega arith) q.0

abbrev parts_of : List ℕ → List (List ℕ)
parts_of bytes = map (λ b. b ∷ []) bytes

joined_back : (bytes : List ℕ) → bytes ≡ flat_map (λ part. part) (parts_of bytes)
joined_back [] = refl
joined_back (b ∷ bytes) = ap (λ z. b ∷ z) (joined_back bytes)

elements : (bytes : List ℕ) → AreBytes bytes → Each StringElement (parts_of bytes) (flat_map escaped bytes)
elements [] h = refl
elements (b ∷ bytes) h = (escaped b, flat_map escaped bytes, refl, escape_is b h.0, elements bytes h.1)

escapes_ascii : (bytes : List ℕ) → AreBytes bytes → IsAscii (flat_map escaped bytes)
escapes_ascii [] h = IsAscii-nil
escapes_ascii (b ∷ bytes) h = IsAscii-append (escaped b) (flat_map escaped bytes) (escape_ascii b h.0) (escapes_ascii bytes h.1)

pub string_good : (bytes : List ℕ) → AreBytes bytes → IsGood (quoted bytes)
string_good bytes h = behind gap (string bytes) gap_breaks
    (parts_of bytes, joined_back bytes, (34 ∷ [], flat_map escaped bytes ++ 34 ∷ [], refl, refl, (flat_map escaped bytes, 34 ∷ [], refl, elements bytes h, refl)))
    (IsAscii-cons 34 _ (omega arith) (IsAscii-append (flat_map escaped bytes) (34 ∷ []) (escapes_ascii bytes h) (IsAscii-cons 34 [] (omega arith) IsAscii-nil)))

-- ---- ( head words )

-- A keyword after an opening parenthesis.
pub record IsHead (head : List ℕ) : Type 0 where
  pub first : ℕ
  pub rest : List ℕ
  pub is : head ≡ first ∷ rest
  pub no_comment : (first == 59) ≡ false
  pub atom : IsAtom head

closing_good : (after : List ℕ) → (c : ℕ) → (r : List ℕ) → after ++ 41 ∷ [] ≡ c ∷ r → IsEnd c → Space after → IsAscii after → IsGood (word_at after closing)
closing_good after c r e i s a = record {
  space = s;
  text = refl;
  starts = (c, r, e, i);
  ascii = IsAscii-append after (41 ∷ []) a (IsAscii-cons 41 [] (omega arith) IsAscii-nil);
}

-- the closing parenthesis of a module
pub last_closing : (ws : List Word) → IsGood (word_at (last_line ws) closing)
last_closing [] = closing_good [] 41 [] refl (refl, refl) space_nil IsAscii-nil
last_closing (w ∷ ws) = closing_good (10 ∷ []) 10 (41 ∷ []) refl (refl, refl) (space_before 10 [] refl space_nil) (IsAscii-cons 10 [] (omega arith) IsAscii-nil)

inner_words : (head : List ℕ) (ws vs : List Word) → IsHead head → Stands ws → Starts vs → AreWords vs → AreWords (word_at [] (atom head) ∷ ws ++ vs)
inner_words head ws vs h g s a = (space_nil, (refl, h.atom), ends_before (tok.atom head) (ws ++ vs) (g.starts vs s), g.joins vs s a)

parens_stand : (before head : List ℕ) (ws : List Word) (after : List ℕ) → IsBreak before → IsHead head → Stands ws → IsGood (word_at after closing) → Stands (parens before head ws after)
parens_stand before head ws after b h g c = record {
  joins = λ vs s a.
      let close = good_stands (word_at after closing) c in
      let rest = inner_words head ws (word_at after closing ∷ vs) h g (close.starts vs s) (close.joins vs s a) in
      let comment : Ends open_paren (whole (word_at [] (atom head) ∷ ws ++ word_at after closing ∷ vs)) =
      subst (λ (z : List ℕ). Ends open_paren ((z ++ words_text (ws ++ word_at after closing ∷ vs)) ++ 10 ∷ [])) (sym h.is) h.no_comment in
      subst AreWords (sym (ap (λ (z : List Word). word_at before opening ∷ word_at [] (atom head) ∷ z) (append_assoc ws (word_at after closing ∷ []) vs)))
      (b.space, refl, comment, rest);
  starts = λ vs s. (b.first, b.rest ++ 40 ∷ [], ap (λ (z : List ℕ). z ++ 40 ∷ []) b.is, b.ends);
  ascii = IsAscii-append (before ++ 40 ∷ []) _ (IsAscii-append before (40 ∷ []) b.ascii (IsAscii-cons 40 [] (omega arith) IsAscii-nil))
      (IsAscii-append head _ (chars_ascii head h.atom.0) (both_stand ws (word_at after closing ∷ []) g (good_stands (word_at after closing) c)).ascii);
}

pub form_stands : (before head : List ℕ) (ws : List Word) → IsBreak before → IsHead head → Stands ws → Stands (form before head ws)
form_stands before head ws b h g = parens_stand before head ws [] b h g (closing_good [] 41 [] refl (refl, refl) space_nil IsAscii-nil)

pub block_stands : (before head : List ℕ) (ws : List Word) (after : List ℕ) → IsBreak before → IsHead head → Stands ws → IsBreak after → Stands (parens before head ws after)
block_stands before head ws after b h g a =
    parens_stand before head ws after b h g (closing_good after a.first (a.rest ++ 41 ∷ []) (ap (λ (z : List ℕ). z ++ 41 ∷ []) a.is) a.ends a.space a.ascii)

-- a text of one such form, with nothing before it
pub form_is_text : (head : List ℕ) (ws : List Word) (after : List ℕ) → IsHead head → Stands ws → IsGood (word_at after closing)
    → Tokens (whole (parens [] head ws after)) (tokens (parens [] head ws after))
form_is_text head ws after h g c =
    let close = good_stands (word_at after closing) c in
    let rest = inner_words head ws (word_at after closing ∷ []) h g (close.starts [] tt) (close.joins [] tt tt) in
    let comment : Ends open_paren (whole (word_at [] (atom head) ∷ ws ++ word_at after closing ∷ [])) =
    subst (λ (z : List ℕ). Ends open_paren ((z ++ words_text (ws ++ word_at after closing ∷ [])) ++ 10 ∷ [])) (sym h.is) h.no_comment in
    let ascii = IsAscii-cons 40 _ (omega arith) (IsAscii-append head _ (chars_ascii head h.atom.0) (both_stand ws (word_at after closing ∷ []) g close).ascii) in (
      IsUtf8-from_ascii _ (IsAscii-append (words_text (parens [] head ws after)) (10 ∷ []) ascii (IsAscii-cons 10 [] (omega arith) IsAscii-nil)),
      words_are_tokens (parens [] head ws after) (space_nil, refl, comment, rest),
    )
