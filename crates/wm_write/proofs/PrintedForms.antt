-- Printed words whose tokens are of a form.
use Rattle.std.proofs.Common.{◌≡◌, ℕ, ◌<◌, ◌^◌, true, false, List, [], ◌∷◌, ◌++◌, map, flat_map, Some, refl, sym, ap, subst, ◌∙◌, inl, inr, arith, append_assoc, ℤ, ◌-◌, slice_get}
use Rattle.std.specs.Prelude.{◌==◌, ◌+◌, ◌*◌, codes, decimal}
use Rattle.std.specs.Fmt.{signed_decimal}
use Rattle.std.specs.List.{AllByRecursion, list_all}
use Rattle.std.proofs.lemmas.Bool.{cond_both, eqb-true, and_from}
use Rattle.std.proofs.lemmas.List.{map-append}
use Rattle.std.proofs.lemmas.List.Folds.{list_all-append}
use Rattle.wm_syntax.specs.Leb128.{FitsBits}
use Rattle.wm_syntax.specs.Spelling.{Form, Exactly, Each, AreBytes, ◌▸◌}
use Rattle.wm_syntax.specs.declared.types.ValType.{ValType}
use Rattle.wm_syntax.specs.declared.types.ValType.TheVariants.{I32, I64, F32, F64}
use Rattle.wm_write.specs.Layout.{Word, closing, atom, word_at, gap, spaced, number, quoted, parens, form, name, type_word, key_words}
use Rattle.wm_write.specs.FloatText.{float_text}
use Rattle.wm_syntax.specs.Floats.{signif, expon}
use Rattle.wm_syntax.specs.declared.instructions.FloatType.{FloatType}
use Rattle.wm_write.proofs.PrintedFloats.{printed_float, float_literal}
use Rattle.wm_tokens.specs.Tokens as tok
use Rattle.wm_tokens.specs.Tokens.{Token, open_paren, close_paren, is_id_char, is_lower, IsAtom, IsIdentifier, IsUnsigned, IsInteger}
use Rattle.wm_tokens.specs.Identifiers.{Id, Ids, WritesId, Resolves, ResolvesLabel}
use Rattle.wm_tokens.specs.Written.{Keyword as AWord, Paren, Nothing, UnsignedNumber, WritesType, WritesKey, WritesInteger, WritesFloat}
use Rattle.wm_write.specs.inner.Printed.{token_of, tokens}
use Rattle.wm_write.proofs.PrintedNumbers.{decimal_printed, decimal_text, signed_text, signed_chars, signed_number}
use Rattle.wm_write.proofs.PrintedTokens.{IsBreak, IsHead, Stands, atom_good, block_stands, both_stand, form_stands, gap_breaks, good_stands, none_stand, number_good, string_good}

-- The tokens of these words are of this form, whatever words follow.
pub record Prints (W : Form Token) (ws : List Word) : Type 0 where
  pub stands : Stands ws
  pub writes : W (tokens ws)

pub prints_as : {P Q : Form Token} (ws : List Word) → (P (tokens ws) → Q (tokens ws)) → Prints P ws → Prints Q ws
prints_as ws f h = record { stands = h.stands; writes = f h.writes }

pub prints_nothing : Prints Nothing []
prints_nothing = record { stands = none_stand; writes = refl }

pub tokens_append : (ws us : List Word) → tokens (ws ++ us) ≡ tokens ws ++ tokens us
tokens_append ws us = map-append (λ (w : Word). token_of w.means) ws us

pub prints_then : {P Q : Form Token} (ws us : List Word) → Prints P ws → Prints Q us → Prints (P ▸ Q) (ws ++ us)
prints_then ws us h g = record {
  stands = both_stand ws us h.stands g.stands;
  writes = (tokens ws, tokens us, tokens_append ws us, h.writes, g.writes);
}

pub prints_each : {X E : Type 0} (P : X → Form Token) (value : E → X) (words : E → List Word) (F : E → Type 0) → ((e : E) → F e → Prints (P (value e)) (words e))
    → (es : List E) → AllByRecursion F es → Prints (Each P (map value es)) (flat_map words es)
prints_each P value words F h [] a = prints_nothing
prints_each P value words F h (e ∷ es) a = prints_then (words e) (flat_map words es) (h e a.0) (prints_each P value words F h es a.1)

pub each_then : {X : Type 0} (P : X → Form Token) (xs ys : List X) (ws us : List Word) → Prints (Each P xs) ws → Prints (Each P ys) us → Prints (Each P (xs ++ ys)) (ws ++ us)
each_then {X} P xs ys ws us h g = record {
  stands = both_stand ws us h.stands g.stands;
  writes = subst (Each P (xs ++ ys)) (sym (tokens_append ws us)) (joined xs (tokens ws) h.writes);
}
  where
    joined : (xs : List X) (k : List Token) → Each P xs k → Each P (xs ++ ys) (k ++ tokens us)
    joined [] k e = subst (λ (z : List Token). Each P ys (z ++ tokens us)) (sym e) g.writes
    joined (x ∷ xs) k (front, back, e, p, more) = (front, back ++ tokens us, ap (λ (z : List Token). z ++ tokens us) e ∙ append_assoc front back (tokens us), p, joined xs back more)

-- ---- ( head words )

parens_tokens : (before head : List ℕ) (ws : List Word) (after : List ℕ)
    → tokens (parens before head ws after) ≡ (open_paren ∷ tok.atom head ∷ []) ++ (tokens ws ++ close_paren ∷ [])
parens_tokens before head ws after = ap (λ (z : List Token). open_paren ∷ tok.atom head ∷ z) (tokens_append ws (word_at after closing ∷ []))

pub in_parens : {P : Form Token} (before head : List ℕ) (ws : List Word) (after : List ℕ) → P (tokens ws) → Paren head P (tokens (parens before head ws after))
in_parens before head ws after h =
    (open_paren ∷ tok.atom head ∷ [], tokens ws ++ close_paren ∷ [], parens_tokens before head ws after, refl, (tokens ws, close_paren ∷ [], refl, h, refl))

pub prints_form : {P : Form Token} (before head : List ℕ) (ws : List Word) → IsBreak before → IsHead head → Prints P ws → Prints (Paren head P) (form before head ws)
prints_form before head ws b h g = record { stands = form_stands before head ws b h g.stands; writes = in_parens before head ws [] g.writes }

pub prints_block : {P : Form Token} (before head : List ℕ) (ws : List Word) (after : List ℕ) → IsBreak before → IsHead head → IsBreak after → Prints P ws
    → Prints (Paren head P) (parens before head ws after)
prints_block before head ws after b h a g = record { stands = block_stands before head ws after b h g.stands a; writes = in_parens before head ws after g.writes }

-- a word of the grammar, by its characters
pub head_is : (c : ℕ) (r : List ℕ) → list_all is_id_char (c ∷ r) ≡ true → is_lower c ≡ true → (c == 59) ≡ false → IsHead (c ∷ r)
head_is c r h l s = record { first = c; rest = r; is = refl; no_comment = s; atom = (h, inr (inr l)) }

-- ---- atoms

pub prints_atom : {P : Form Token} (before a : List ℕ) → IsBreak before → IsAtom a → P (tok.atom a ∷ []) → Prints P (word_at before (atom a) ∷ [])
prints_atom before a b h w = record { stands = good_stands (word_at before (atom a)) (atom_good before a b h); writes = w }

pub prints_word : (before a : List ℕ) → IsBreak before → IsAtom a → Prints (AWord a) (word_at before (atom a) ∷ [])
prints_word before a b h = prints_atom before a b h refl

pub prints_number : (n : ℕ) → n < 2 ^ 32 → Prints (UnsignedNumber n) (number n ∷ [])
prints_number n lt = record { stands = good_stands (number n) (number_good n (omega (arith, lt))); writes = (decimal n, refl, decimal_text n lt) }

pub prints_label : (labels : Ids) (l : ℕ) → l < 2 ^ 32 → Prints (ResolvesLabel labels l) (number l ∷ [])
prints_label labels l lt = record { stands = good_stands (number l) (number_good l (omega (arith, lt))); writes = (decimal l, refl, (lt, inl (decimal_text l lt))) }

pub prints_index : (ids : Ids) (x : ℕ) → x < 2 ^ 32 → Prints (Resolves ids x) (number x ∷ [])
prints_index ids x lt = record { stands = good_stands (number x) (number_good x (omega (arith, lt))); writes = (decimal x, refl, (lt, inl (decimal_text x lt))) }

pub prints_integer : (bits : ℕ) (z : ℤ) → 2 ^ (bits - 1) < 2 ^ 64 → FitsBits bits z → FitsBits 64 z → Prints (WritesInteger bits z) (spaced (signed_decimal z) ∷ [])
prints_integer bits z most fits wide =
    prints_atom gap (signed_decimal z) gap_breaks (signed_chars z wide, inr (inl (inl (signed_number z wide)))) (signed_decimal z, refl, signed_text bits z most fits)

pub prints_float : (w : FloatType) (n : ℕ) → n < 2 * 2 ^ (signif w + expon w) → Prints (WritesFloat w n) (spaced (float_text w n) ∷ [])
prints_float w n few =
    let h = printed_float w n few in
    prints_atom gap (float_text w n) gap_breaks (h.chars, inr (inl (inr (float_literal w n (float_text w n) h.is)))) (float_text w n, refl, h.is)

pub prints_type : (t : ValType) → Prints (WritesType t) (type_word t ∷ [])
prints_type I32 = prints_word gap (codes "i32") gap_breaks (refl, inr (inr refl))
prints_type I64 = prints_word gap (codes "i64") gap_breaks (refl, inr (inr refl))
prints_type F32 = prints_word gap (codes "f32") gap_breaks (refl, inr (inr refl))
prints_type F64 = prints_word gap (codes "f64") gap_breaks (refl, inr (inr refl))

pub prints_string : (bytes : List ℕ) → AreBytes bytes → Prints (Exactly (tok.string bytes ∷ [])) (quoted bytes ∷ [])
prints_string bytes h = record { stands = good_stands (quoted bytes) (string_good bytes h); writes = refl }

-- a key and its number, or nothing where it is the usual one
pub prints_key : (c : ℕ) (key : List ℕ) (usual n : ℕ) → list_all is_id_char (c ∷ key) ≡ true → is_lower c ≡ true → n < 2 ^ 32 → Prints (WritesKey (c ∷ key) usual n) (key_words (c ∷ key) usual n)
prints_key c key usual n chars low lt = cond_both (n == usual) [] (spaced ((c ∷ key) ++ decimal n) ∷ []) (Prints (WritesKey (c ∷ key) usual n))
    (λ h. record { stands = none_stand; writes = inl (eqb-true n usual h, refl) })
    (λ h. prints_atom gap ((c ∷ key) ++ decimal n) gap_breaks (all, inr (inr low)) (inr ((c ∷ key) ++ decimal n, refl, (decimal n, refl, decimal_text n lt))))
  where
    all : list_all is_id_char ((c ∷ key) ++ decimal n) ≡ true
    all = list_all-append is_id_char (c ∷ key) (decimal n) ∙ and_from _ _ chars (decimal_printed n (omega (arith, lt))).chars

-- ---- identifiers of items

-- A prefix of identifiers.
pub record IsPrefix (prefix : List ℕ) : Type 0 where
  pub first : ℕ
  pub rest : List ℕ
  pub is : prefix ≡ 36 ∷ first ∷ rest
  pub chars : list_all is_id_char prefix ≡ true

pub item_name_is : (prefix : List ℕ) (i : ℕ) → IsPrefix prefix → i < 2 ^ 64 → IsIdentifier (prefix ++ decimal i)
item_name_is prefix i h lt = subst (λ (z : List ℕ). IsIdentifier (z ++ decimal i)) (sym h.is) (refl, omega arith)

item_atom : (prefix : List ℕ) (i : ℕ) → IsPrefix prefix → i < 2 ^ 64 → IsAtom (prefix ++ decimal i)
item_atom prefix i h lt =
    (list_all-append is_id_char prefix (decimal i) ∙ and_from _ _ h.chars (decimal_printed i lt).chars, inl (item_name_is prefix i h lt))

abbrev pub id_at : List ℕ → ℕ → Id
id_at prefix i = Some (prefix ++ decimal i)

-- An identifier where it is defined, and where it is used.
pub prints_id : (prefix : List ℕ) (i : ℕ) → IsPrefix prefix → i < 2 ^ 64 → Prints (WritesId (id_at prefix i)) (name prefix i ∷ [])
prints_id prefix i h lt = prints_atom gap (prefix ++ decimal i) gap_breaks (item_atom prefix i h lt) (item_name_is prefix i h lt, refl)

pub prints_use : (prefix : List ℕ) (ids : Ids) (x : ℕ) → IsPrefix prefix → x < 2 ^ 32 → slice_get ids x ≡ Some (id_at prefix x) → Prints (Resolves ids x) (name prefix x ∷ [])
prints_use prefix ids x h lt e =
    prints_atom gap (prefix ++ decimal x) gap_breaks (item_atom prefix x h (omega (arith, lt))) (prefix ++ decimal x, refl, (lt, inr (item_name_is prefix x h (omega (arith, lt)), e)))
