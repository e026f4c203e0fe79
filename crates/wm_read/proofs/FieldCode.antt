-- Steps of the readers of fields: strings, lists of functions, and identifiers.
use Rattle.std.proofs.Common.{◌≡◌, ℕ, ◌<◌, List, [], ◌∷◌, ◌++◌, length, Option, Some, None, refl, sym, ap, ◌∙◌, arith, append_assoc}
use Rattle.std.specs.Prelude.{flat_map, IsUtf8}
use Rattle.std.specs.Str.{is_utf8}
use Rattle.std.proofs.lemmas.Bool.{cond-false, cond-true, false_from_ne_true}
use Rattle.std.proofs.lemmas.List.{append-nil}
use Rattle.std.proofs.lemmas.Str.{IsUtf8-from_is_utf8, is_utf8-from_IsUtf8}
use Rattle.wm_tokens.specs.Tokens.{Token, open_paren, close_paren, string, atom}
use Rattle.wm_bodies.specs.exact.Reading.{◌>>=◌, made, atom_at}
use Rattle.wm_read.specs.exact.Fields.{name_at, strings_at}
use Rattle.wm_tokens.proofs.Basics.{same_some}
use Rattle.wm_bodies.proofs.Readers.{bind_ok}

-- ---- names

pub name_read : (b : List ℕ) (j k : List Token) → j ≡ string b ∷ k → IsUtf8 b → name_at j ≡ Some (b, k)
name_read b j k e u = ap name_at e ∙ cond-true (is_utf8 b) (Some (b, k)) None (is_utf8-from_IsUtf8 b u)

pub name_bad : (b : List ℕ) (j k : List Token) → j ≡ string b ∷ k → ¬ (IsUtf8 b) → name_at j ≡ None
name_bad b j k e n = ap name_at e ∙ cond-false (is_utf8 b) (Some (b, k)) None (false_from_ne_true (is_utf8 b) (λ t. n (IsUtf8-from_is_utf8 b t)))

pub ruleset name_laws = (name_read, name_bad)

-- ---- the bytes of strings

abbrev pub joined : List (List ℕ) → List ℕ
joined parts = flat_map (λ part. part) parts

abbrev pub after_bytes : List ℕ → Option (List (List ℕ) × List Token) → Option (List ℕ × List Token)
after_bytes front read = made (λ parts. front ++ joined parts) read

abbrev pub NoString : List Token → Type 0
NoString (string b ∷ k) = ⊥
NoString _ = Unit {0}

gather : (front b : List ℕ) (o : Option (List (List ℕ) × List Token)) → after_bytes front (o >>= λ x. Some (b ∷ x.0, x.1)) ≡ after_bytes (front ++ b) o
gather front b None = refl
gather front b (Some x) = ap (λ (z : List ℕ). Some (z, x.1)) (sym (append_assoc front b (joined x.0)))

pub bytes_more : (front b : List ℕ) (j k : List Token) → j ≡ string b ∷ k → after_bytes front (strings_at j) ≡ after_bytes (front ++ b) (strings_at k)
bytes_more front b j k e = ap (λ (z : List Token). after_bytes front (strings_at z)) e ∙ gather front b (strings_at k)

pub bytes_over : (front : List ℕ) (j : List Token) → NoString j → after_bytes front (strings_at j) ≡ Some (front, j)
bytes_over front [] h = ap (λ (z : List ℕ). Some (z, [])) (append-nil front)
bytes_over front (open_paren ∷ k) h = ap (λ (z : List ℕ). Some (z, open_paren ∷ k)) (append-nil front)
bytes_over front (close_paren ∷ k) h = ap (λ (z : List ℕ). Some (z, close_paren ∷ k)) (append-nil front)
bytes_over front (atom a ∷ k) h = ap (λ (z : List ℕ). Some (z, atom a ∷ k)) (append-nil front)
bytes_over front (string b ∷ k) h = absurd h

pub bytes_begin : (o : Option (List (List ℕ) × List Token)) → after_bytes [] o ≡ made joined o
bytes_begin None = refl
bytes_begin (Some x) = refl

pub ruleset bytes_laws = (bytes_more, bytes_over, bytes_begin)

-- ---- one atom is taken

pub atom_shrinks : {X : Type 0} (read : List ℕ → Option X) (j : List Token) (x : X) (k : List Token) → atom_at read j ≡ Some (x, k) → length k < length j
atom_shrinks read [] x k e = absurd cc
atom_shrinks read (open_paren ∷ j) x k e = absurd cc
atom_shrinks read (close_paren ∷ j) x k e = absurd cc
atom_shrinks read (string b ∷ j) x k e = absurd cc
atom_shrinks {X} read (atom a ∷ j) x k e =
    let g = bind_ok (read a) (λ y. Some (y, j)) (x, k) e in
    let same : length j ≡ length k = ap (λ (z : X × List Token). length z.1) (same_some (g.0, j) (x, k) g.2) in
    omega (arith, same)
