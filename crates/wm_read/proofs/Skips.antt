-- Passing over white space and plain atoms skips just their tokens.
use Rattle.std.proofs.Common.{◌≡◌, ℕ, ◌<◌, ◌≤◌, List, ◌∷◌, length, refl, sym, ap, ◌∙◌, arith}
use Rattle.wm_tokens.specs.Tokens.{Token, string, atom}
use Rattle.wm_tokens.specs.exact.Scan.{after_spaces, ahead, first, lexed}
use Rattle.wm_read.specs.exact.FirstReading.{skip}
use Rattle.wm_tokens.specs.inner.PlainSpans.{Passes, here, over_blank, over_atom}
use Rattle.wm_tokens.proofs.Whole.{ahead_skips, ahead_takes, spaces_lexed, spaces_within, first_shorter}
use Rattle.wm_read.proofs.HeadSteps.{skip_atom, skip_string}

pub passes_skip : (n : ℕ) (b r : List ℕ) → 0 < n → Passes b r → skip n (lexed r) ≡ skip n (lexed b)
passes_skip n b r lt here = refl
passes_skip n b s lt (over_blank {r = r} p e) = ap (skip n) (sym (ahead_skips r s e)) ∙ passes_skip n b r lt p
passes_skip n b s lt (over_atom {r = r} {a = a} p e) = sym (skip_atom n a (lexed r) (lexed s) lt (ahead_takes r s (atom a) e)) ∙ passes_skip n b r lt p

-- After a plain atom and white space.
pub skip_plain : (n : ℕ) (a b r s : List ℕ) → 0 < n → first (atom a) r ≡ ahead b → s ≡ after_spaces r → skip n (lexed s) ≡ skip n (lexed b)
skip_plain n a b r s lt e spaces =
    ap (λ (z : List ℕ). skip n (lexed z)) spaces ∙ ap (skip n) (spaces_lexed r) ∙ sym (skip_atom n a (lexed b) (lexed r) lt (ahead_takes b r (atom a) e))

pub plain_within : (a b r s : List ℕ) → first (atom a) r ≡ ahead b → s ≡ after_spaces r → length s < length b
plain_within a b r s e spaces =
    let lt : length r < length b = first_shorter b r (atom a) e in
    let le : length (after_spaces r) ≤ length r = spaces_within r in
    let same : length s ≡ length (after_spaces r) = ap length spaces in
    omega (arith, lt, le, same)

-- After a string or another atom, and a run of white space and plain atoms.
pub skip_string_on : (n : ℕ) (a : List ℕ) (j : List Token) (r s : List ℕ) → 0 < n → j ≡ string a ∷ lexed r → Passes r s → skip n (lexed s) ≡ skip n j
skip_string_on n a j r s lt e p = passes_skip n r s lt p ∙ sym (skip_string n a j (lexed r) lt e)

pub skip_atom_on : (n : ℕ) (a : List ℕ) (j : List Token) (r s : List ℕ) → 0 < n → j ≡ atom a ∷ lexed r → Passes r s → skip n (lexed s) ≡ skip n j
skip_atom_on n a j r s lt e p = passes_skip n r s lt p ∙ sym (skip_atom n a j (lexed r) lt e)

pub ruleset skip_laws = (skip_string_on, skip_atom_on, skip_plain, plain_within)
