-- Spans of white space bytes and plain atoms.
use Rattle.std.proofs.Common.{◌≡◌, ℕ, ◌<◌, ◌≤◌, ◌+◌, ◌%◌, Bool, true, false, List, [], ◌∷◌, ◌++◌, length, refl, sym, ap, subst, ◌∙◌, inl, inr, arith, drop, get_or, append_assoc, length-append}
use Rattle.std.specs.Prelude.{◌==◌}
use Rattle.std.specs.List.{list_all}
use Rattle.std.proofs.lemmas.Bool.{cond_both, or_cases, and_parts, and_from, eqb-true}
use Rattle.std.proofs.lemmas.List.{drop_more}
use Rattle.std.proofs.lemmas.List.Folds.{list_all-append}
use Rattle.wm_tokens.specs.Tokens.{atom, is_digit, is_id_char, is_lower, is_space, IsAtom}
use Rattle.wm_tokens.specs.exact.Scan.{after_spaces, has_tokens}
use Rattle.wm_tokens.specs.inner.Places.{Steps}
use Rattle.wm_tokens.specs.inner.PlainSpans.{Passes, here, over_blank, over_atom, AtHand, nothing, word, digits, dollar, other, after_byte, place_of, IsPart, Leads}
use Rattle.wm_tokens.proofs.Atoms.{number_found}
use Rattle.wm_tokens.proofs.Ahead.{ahead_blank, ahead_token}
use Rattle.wm_tokens.proofs.PlainAtoms.{lower_is, digit_is, digits_value, digits_number}
use Rattle.wm_tokens.proofs.Whole.{ahead_skips, ahead_takes, stand_skip, stand_take, spaces_along, spaces_lexed, spaces_within, first_shorter}
use Rattle.wm_tokens.proofs.Places.{steps_skip, steps_take}

-- ---- what a stretch leaves as it is

pub passes_has : (b r : List ℕ) → Passes b r → has_tokens r ≡ has_tokens b
passes_has b r here = refl
passes_has b s (over_blank {r = r} p e) = sym (stand_skip r s e) ∙ passes_has b r p
passes_has b s (over_atom {r = r} {a = a} p e) = sym (stand_take r s (atom a) e) ∙ passes_has b r p

pub passes_steps : (text b r : List ℕ) → Passes b r → Steps true text b → Steps true text r
passes_steps text b r here h = h
passes_steps text b s (over_blank {r = r} p e) h = steps_skip text r s e (passes_steps text b r p h)
passes_steps text b s (over_atom {r = r} {a = a} p e) h = steps_take text r s (atom a) e (passes_steps text b r p h)

pub passes_join : (b r s : List ℕ) → Passes b r → Passes r s → Passes b s
passes_join b r s p here = p
passes_join b r s p (over_blank {r = q} g e) = over_blank (passes_join b r q p g) e
passes_join b r s p (over_atom {r = q} g e) = over_atom (passes_join b r q p g) e

pub passes_spaces : (b : List ℕ) → Passes b (after_spaces b)
passes_spaces b = spaces_along (Passes b) (λ x r e p. over_blank p e) b here

pub ruleset span_laws = (passes_join, passes_spaces, spaces_within)

pub ruleset kept_laws = (passes_has, passes_steps)

-- ---- atoms

all_id : (b : List ℕ) → list_all is_digit b ≡ true → list_all is_id_char b ≡ true
all_id [] h = refl
all_id (c ∷ b) h = let p = and_parts (is_digit c) (list_all is_digit b) h in and_from (is_id_char c) (list_all is_id_char b) (digit_is c p.0) (all_id b p.1)

digits_atom : (b : List ℕ) → list_all is_digit b ≡ true → 0 < length b → IsAtom b
digits_atom [] h lt = absurd (omega (arith, lt))
digits_atom (c ∷ b) h lt =
    let p = and_parts (is_digit c) (list_all is_digit b) h in
    let v = digits_value (c ∷ b) 0 false h (inr lt) in
    (all_id (c ∷ b) h, inr (inl (inl (number_found (c ∷ b) (digits_number c b v.0 p.0 v.1)))))

word_atom : (b : List ℕ) → IsPart word b → IsAtom b
word_atom b (all, inl h) = (all, inl h)
word_atom b (all, inr h) = (all, inr (inr h))

-- ---- one byte more

-- a space is no character of atoms
space_ends : (c : ℕ) → is_space c ≡ true → is_id_char c ≡ false
space_ends c h = elim (or_cases _ (c == 13) h) [
  | inl h ↦ elim (or_cases _ (c == 10) h) [
    | inl h ↦ elim (or_cases (c == 32) (c == 9) h) [ inl e ↦ ap is_id_char (eqb-true c 32 e) | inr e ↦ ap is_id_char (eqb-true c 9 e) ]
    | inr e ↦ ap is_id_char (eqb-true c 10 e)
  ]
  | inr e ↦ ap is_id_char (eqb-true c 13 e)
]

one_space : (text r : List ℕ) (c : ℕ) → is_space c ≡ true → Passes text (c ∷ r) → Leads text nothing r
one_space text r c h p = ([], over_blank p (sym (ahead_blank (c ∷ []) r (inl (c, refl, h)))), refl)

atom_space : (text part r : List ℕ) (c : ℕ) → is_space c ≡ true → IsAtom part → Passes text (part ++ c ∷ r) → Leads text nothing r
atom_space text part r c h is p = one_space text r c h (over_atom p (sym (ahead_token (atom part) part (c ∷ r) (refl, is) (space_ends c h))))

-- the byte goes to what is at hand
taken : (text part r : List ℕ) (c : ℕ) (hand : AtHand) → Passes text (part ++ c ∷ r) → IsPart hand (part ++ c ∷ []) → Leads text hand r
taken text part r c hand p h = (part ++ c ∷ [], subst (Passes text) (sym (append_assoc part (c ∷ []) r)) p, h)

all_more : (f : ℕ → Bool) (b : List ℕ) (c : ℕ) → list_all f b ≡ true → f c ≡ true → list_all f (b ++ c ∷ []) ≡ true
all_more f b c h e = list_all-append f b (c ∷ []) ∙ and_from (list_all f b) (list_all f (c ∷ [])) h (and_from (f c) true e refl)

longer : (b : List ℕ) (c : ℕ) → 0 < length (b ++ c ∷ [])
longer b c = omega (arith, length-append b (c ∷ []))

word_more : (b : List ℕ) (c : ℕ) → IsPart word b → is_id_char c ≡ true → IsPart word (b ++ c ∷ [])
word_more [] c (all, inl h) e = absurd h
word_more [] c (all, inr h) e = absurd h
word_more (d ∷ b) c (all, inl h) e = (all_more is_id_char (d ∷ b) c all e, inl (h.0, longer b c))
word_more (d ∷ b) c (all, inr h) e = (all_more is_id_char (d ∷ b) c all e, inr h)

pub leads_on : (text r : List ℕ) (c : ℕ) (hand : AtHand) → Leads text hand (c ∷ r) → Leads text (after_byte hand c) r
leads_on text r c nothing (part, p, h) =
    let p0 : Passes text (c ∷ r) = subst (λ (z : List ℕ). Passes text (z ++ c ∷ r)) h p in
    cond_both (is_space c) _ _ (λ x. Leads text x r) (λ t. one_space text r c t p0)
    (λ _. cond_both (is_lower c) _ _ (λ x. Leads text x r) (λ t. taken text [] r c word p0 (and_from (is_id_char c) true (lower_is c t) refl, inr t))
    (λ _. cond_both (is_digit c) _ _ (λ x. Leads text x r) (λ t. taken text [] r c digits p0 (and_from (is_digit c) true t refl, omega arith))
    (λ _. cond_both (c == 36) _ _ (λ x. Leads text x r) (λ t. taken text [] r c dollar p0 (ap (λ (x : ℕ). x ∷ []) (eqb-true c 36 t))) (λ _. taken text [] r c other p0 tt))))
leads_on text r c word (part, p, h) =
    cond_both (is_space c) _ _ (λ x. Leads text x r) (λ t. atom_space text part r c t (word_atom part h) p)
    (λ _. cond_both (is_id_char c) _ _ (λ x. Leads text x r) (λ t. taken text part r c word p (word_more part c h t)) (λ _. taken text part r c other p tt))
leads_on text r c digits (part, p, h) =
    cond_both (is_space c) _ _ (λ x. Leads text x r) (λ t. atom_space text part r c t (digits_atom part h.0 h.1) p)
    (λ _. cond_both (is_digit c) _ _ (λ x. Leads text x r) (λ t. taken text part r c digits p (all_more is_digit part c h.0 t, longer part c)) (λ _. taken text part r c other p tt))
leads_on text r c dollar (part, p, h) =
    cond_both (is_id_char c) _ _ (λ x. Leads text x r)
    (λ t. taken text part r c word p (subst (λ (z : List ℕ). IsPart word (z ++ c ∷ [])) (sym h) (and_from (is_id_char c) true t refl, inl (refl, omega arith))))
    (λ _. taken text part r c other p tt)
leads_on text r c other (part, p, h) = taken text part r c other p tt

-- ---- as the code has it

-- what is at hand stands at this place of a row, five bits wide
abbrev pub At : List ℕ → ℕ → ℕ → Type 0
At text i hand = (h : AtHand) × (hand % 32 ≡ place_of h) × Leads text h (drop i text)

pub at_start : (text : List ℕ) → At text 0 0
at_start text = (nothing, refl, ([], here, refl))

-- what the code does with a byte
abbrev pub Step : ℕ → ℕ → ℕ → Type 0
Step hand next c = (h : AtHand) → hand % 32 ≡ place_of h → next % 32 ≡ place_of (after_byte h c)

at_more : (text : List ℕ) (i j hand next : ℕ) → j ≡ i + 1 → i < length text → Step hand next (get_or text i 0) → At text i hand → At text j next
at_more text i j hand next e lt step (h, is, leads) = (
  after_byte h (get_or text i 0),
  step h is,
  leads_on text (drop j text) (get_or text i 0) h (subst (Leads text h) (drop_more text i 0 lt ∙ ap (λ (n : ℕ). get_or text i 0 ∷ drop n text) (sym e)) leads),
)

pub at_eight : (text : List ℕ) (i h0 h1 h2 h3 h4 h5 h6 h7 h8 : ℕ) → i + 8 ≤ length text
    → Step h0 h1 (get_or text i 0) → Step h1 h2 (get_or text (i + 1) 0) → Step h2 h3 (get_or text (i + 2) 0) → Step h3 h4 (get_or text (i + 3) 0)
    → Step h4 h5 (get_or text (i + 4) 0) → Step h5 h6 (get_or text (i + 5) 0) → Step h6 h7 (get_or text (i + 6) 0) → Step h7 h8 (get_or text (i + 7) 0) → At text i h0 → At text (i + 8) h8
at_eight text i h0 h1 h2 h3 h4 h5 h6 h7 h8 room s1 s2 s3 s4 s5 s6 s7 s8 a =
    let a1 : At text (i + 1) h1 = at_more text i (i + 1) h0 h1 refl (omega (arith, room)) s1 a in
    let a2 : At text (i + 2) h2 = at_more text (i + 1) (i + 2) h1 h2 (omega arith) (omega (arith, room)) s2 a1 in
    let a3 : At text (i + 3) h3 = at_more text (i + 2) (i + 3) h2 h3 (omega arith) (omega (arith, room)) s3 a2 in
    let a4 : At text (i + 4) h4 = at_more text (i + 3) (i + 4) h3 h4 (omega arith) (omega (arith, room)) s4 a3 in
    let a5 : At text (i + 5) h5 = at_more text (i + 4) (i + 5) h4 h5 (omega arith) (omega (arith, room)) s5 a4 in
    let a6 : At text (i + 6) h6 = at_more text (i + 5) (i + 6) h5 h6 (omega arith) (omega (arith, room)) s6 a5 in
    let a7 : At text (i + 7) h7 = at_more text (i + 6) (i + 7) h6 h7 (omega arith) (omega (arith, room)) s7 a6 in
    at_more text (i + 7) (i + 8) h7 h8 (omega arith) (omega (arith, room)) s8 a7

pub at_end : (text : List ℕ) (i hand : ℕ) → hand % 32 ≡ 0 → At text i hand → Passes text (drop i text)
at_end text i hand z (nothing, e, (part, p, h)) = subst (λ (x : List ℕ). Passes text (x ++ drop i text)) h p
at_end text i hand z (word, e, l) = absurd (let f : 0 ≡ 5 = sym z ∙ e in cc)
at_end text i hand z (digits, e, l) = absurd (let f : 0 ≡ 10 = sym z ∙ e in cc)
at_end text i hand z (dollar, e, l) = absurd (let f : 0 ≡ 15 = sym z ∙ e in cc)
at_end text i hand z (other, e, l) = absurd (let f : 0 ≡ 20 = sym z ∙ e in cc)
