-- Keywords in place of an optional key, identifier or type.
use Rattle.std.proofs.Common.{◌≡◌, ◌≢◌, ℕ, ◌<◌, ◌≤◌, Bool, true, false, not, List, [], ◌∷◌, length, Some, None, refl, sym, ap, subst, ◌∙◌, inr, arith, get_or}
use Rattle.std.specs.Prelude.{◌==◌, ◌&&◌, nat_le}
use Rattle.std.proofs.lemmas.Bool.{and_from, or_from, le-leb, ne_eqb, cond-true, cond-false}
use Rattle.wm_tokens.specs.Tokens.{Token, atom, is_lower, is_space}
use Rattle.wm_tokens.specs.exact.Scan.{after_spaces, ahead, first, atom_in, is_atom, is_nil, lexed}
use Rattle.wm_bodies.specs.exact.Reading.{key_at, key_by, is_id, id_at, again_at, block_type_at}
use Rattle.wm_tokens.specs.declared.scan.Class.TheVariants as k
use Rattle.wm_bodies.specs.inner.Firsts.{BeginsWord}
use Rattle.wm_tokens.specs.Identifiers.{Id}
use Rattle.wm_syntax.specs.declared.profile.Profile.{Profile}
use Rattle.wm_tokens.proofs.Atoms.{kind_more}
use Rattle.wm_tokens.proofs.Ahead.{ahead_is, class_atom}
use Rattle.wm_tokens.proofs.PlainAtoms.{lower_is}
use Rattle.wm_tokens.proofs.Whole.{ahead_takes, spaces_lexed}

word_first : (c : ℕ) (t : List ℕ) → is_lower c ≡ true → first (atom (c ∷ (atom_in t).0)) (atom_in t).1 ≡ ahead (c ∷ t)
word_first c t lower = sym (ahead_is c t k.Atom (class_atom c (lower_is c lower)) ∙ cond-true (is_atom (c ∷ (atom_in t).0)) _ _ (kind_more (c ∷ (atom_in t).0) (inr (inr lower))))

word_token : (c : ℕ) (t text : List ℕ) → c ∷ t ≡ after_spaces text → is_lower c ≡ true → lexed text ≡ atom (c ∷ (atom_in t).0) ∷ lexed (atom_in t).1
word_token c t text e lower = sym (spaces_lexed text) ∙ ap lexed (sym e) ∙ ahead_takes (c ∷ t) (atom_in t).1 (atom (c ∷ (atom_in t).0)) (word_first c t lower)

lower_from : (c : ℕ) → 97 ≤ c → c ≤ 122 → is_lower c ≡ true
lower_from c low high = and_from (nat_le 97 c) (nat_le c 122) (le-leb 97 c low) (le-leb c 122 high)

-- a letter is no white space
unspaced : (c : ℕ) (t : List ℕ) → 97 ≤ c → c ∷ t ≡ after_spaces (c ∷ t)
unspaced c t low =
    let apart : (d : ℕ) → d < 97 → (c == d) ≡ false = λ d lt. ne_eqb c d (λ e. omega (arith, e, low, lt)) in
    sym (cond-false (is_space c) _ _ (or_from _ _ (or_from _ _ (or_from _ _ (apart 32 (omega arith)) (apart 9 (omega arith))) (apart 10 (omega arith))) (apart 13 (omega arith))))

-- ---- a key that is not written

no_key : (key : List ℕ) (usual c : ℕ) (a : List ℕ) (j : List Token) → 0 < length key → get_or key 0 0 ≢ c → key_at key usual (atom (c ∷ a) ∷ j) ≡ Some (usual, atom (c ∷ a) ∷ j)
no_key [] usual c a j lt ne = absurd (omega (arith, lt))
no_key (d ∷ key) usual c a j lt ne = ap (λ o. key_by usual o (c ∷ a) j) (cond-false (d == c) _ _ (ne_eqb d c ne))

pub other_key : (key text : List ℕ) (usual : ℕ) → 97 ≤ get_or text 0 0 → get_or text 0 0 ≤ 122 → 0 < length key → get_or key 0 0 ≢ get_or text 0 0
    → key_at key usual (lexed text) ≡ Some (usual, lexed text)
other_key key [] usual low high lt ne = absurd (let f : 97 ≤ 0 = low in omega (arith, f))
other_key key (c ∷ t) usual low high lt ne =
    subst (λ (z : List Token). key_at key usual z ≡ Some (usual, z)) (sym (word_token c t (c ∷ t) (unspaced c t low) (lower_from c low high))) (no_key key usual c (atom_in t).0 (lexed (atom_in t).1) lt ne)

-- ---- an identifier or a type that is not written

pub word_begins : (text : List ℕ) → 97 ≤ get_or text 0 0 → get_or text 0 0 ≤ 122 → BeginsWord (lexed text)
word_begins [] low high = absurd (let f : 97 ≤ 0 = low in omega (arith, f))
word_begins (c ∷ t) low high = let lower = lower_from c low high in (c, (atom_in t).0, lexed (atom_in t).1, word_token c t (c ∷ t) (unspaced c t low) lower, lower)

no_id : (c : ℕ) (a : List ℕ) → is_lower c ≡ true → is_id (c ∷ a) ≡ false
no_id c a lower = ap (λ (x : Bool). x && not (is_nil a)) (ne_eqb c 36 (λ e. let f : false ≡ true = ap is_lower (sym e) ∙ lower in cc))

pub word_id : (k : List Token) → BeginsWord k → Some (None, k) ≡ id_at k
word_id k (c, a, j, e, lower) = subst (λ (z : List Token). Some (None, z) ≡ id_at z) (sym e) (sym (cond-false (is_id (c ∷ a)) _ _ (no_id c a lower)))

pub word_again : (id : Id) (k : List Token) → BeginsWord k → again_at id k ≡ Some (tt, k)
word_again id k (c, a, j, e, lower) = subst (λ (z : List Token). again_at id z ≡ Some (tt, z)) (sym e) (cond-false (is_id (c ∷ a)) _ _ (no_id c a lower))

pub word_type : (p : Profile) (k : List Token) → BeginsWord k → block_type_at p k ≡ Some (None, k)
word_type p k (c, a, j, e, lower) = subst (λ (z : List Token). block_type_at p z ≡ Some (None, z)) (sym e) refl
