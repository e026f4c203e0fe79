-- Constants, memory arguments, block types and labels are read exactly as tokens write them.
use Rattle.std.proofs.Common.{◌≡◌, ℕ, zero, suc, ◌<◌, ◌≤◌, ◌-◌, ◌⊎◌, Bool, true, false, cond, List, [], ◌∷◌, ◌++◌, Option, Some, None, refl, sym, ap, subst, ◌∙◌, inl, inr, arith}
use Rattle.std.specs.Prelude.{codes, ◌==◌, ◌&&◌, ◌^◌, nat_lt, nat_le, not, ℤ, pos, neg_ℤ, ◌-ℤ◌, ◌≢◌}
use Rattle.std.proofs.lemmas.Bool.{cond-true, cond-false, eqb-true, eq-eqb, and_parts, ltb-true, lt-ltb, ltb-false, leb-true, le-leb, le-ltb, and_left, ne_eqb, eqb-false}
use Rattle.std.proofs.lemmas.Nat.{pow_below}
use Rattle.std.proofs.Math.Pow.{pow_mono}
use Rattle.wm_syntax.specs.Spelling.{Form, Each}
use Rattle.wm_syntax.specs.declared.types.ValType.{ValType}
use Rattle.wm_syntax.specs.declared.types.ValType.TheVariants.{I32, I64, F32, F64}
use Rattle.wm_syntax.specs.declared.profile.Profile.{Profile}
use Rattle.wm_syntax.specs.Profiles.{HasBlockType, HasType, has, type_feature}
use Rattle.wm_tokens.specs.Tokens.{Token, open_paren, close_paren, string, atom, is_lower, is_digit, digit_value, Digits, IsInteger, IsIdentifier, Magnitude}
use Rattle.wm_tokens.specs.exact.Scan.{magnitude_of}
use Rattle.wm_tokens.proofs.Basics.{chosen, same_some, same_head}
use Rattle.wm_tokens.proofs.Atoms.{magnitude_more, magnitude_found}
use Rattle.wm_tokens.specs.Identifiers.{Id, Ids, WritesId, IsLabel, ResolvesLabel}
use Rattle.wm_syntax.specs.Types.{type_text}
use Rattle.wm_tokens.specs.Written.{Paren, WritesType, WritesBlockType, WritesInteger, WritesKey, WritesAccess, Closes}
use Rattle.wm_bodies.specs.exact.Reading.{◌>>=◌, same_bytes, atom_at, unsigned_of, plain_of, plus_of, minus_of, integer_of, type_named, type_of, is_id, is_word, id_at, index_of, made, then_at, paren_at, block_type_at, again_at, is_same_id, after_key, key_by, key_at, exponent_below, exponent_of, align_at, memarg, access_at, begins_index, labels_at}
use Rattle.wm_bodies.proofs.Readers.{Sound, Complete, Any, Both, bind_ok, bind_is, same_is, is_same, atom_sound, atom_complete, then_sound, then_complete, paren_sound, paren_complete, made_sound, made_is}
use Rattle.wm_bodies.proofs.Indices.{id_is, is_identifier, unsigned_found, unsigned_more, label_found, label_more}

-- ---- constants

pub integer_found : (bits : ℕ) (a : List ℕ) (z : ℤ) → integer_of bits a ≡ Some z → IsInteger bits z a
unfolding integer_of
integer_found bits [] z e = absurd cc
integer_found bits (c ∷ a) z e = elim (chosen (c == 43) (plus_of (2 ^ (bits - 1)) a) _ (Some z) e) [
  | inl p ↦ (
      let g = bind_ok (magnitude_of a) _ z p.1 in
      elim (chosen (nat_lt g.0 (2 ^ (bits - 1))) (Some (pos g.0)) None (Some z) g.2) [
        | inl q ↦ (g.0, inr (inr (inl (ltb-true g.0 (2 ^ (bits - 1)) q.0, sym (same_some (pos g.0) z q.1), (43 ∷ [], a, ap (λ (x : ℕ). x ∷ a) (eqb-true c 43 p.0), refl, magnitude_found g.0 a g.1)))))
        | inr q ↦ absurd (let f : ◌≡◌ {A = Option ℤ} None (Some z) = q.1 in cc)
      ])
  | inr p ↦ elim (chosen (c == 45) (minus_of (2 ^ (bits - 1)) a) _ (Some z) p.1) [
    | inl q ↦ (
        let g = bind_ok (magnitude_of a) _ z q.1 in
        elim (chosen (nat_le g.0 (2 ^ (bits - 1))) (Some (neg_ℤ (pos g.0))) None (Some z) g.2) [
          | inl r ↦ (g.0, inr (inr (inr (leb-true g.0 (2 ^ (bits - 1)) r.0, sym (same_some (neg_ℤ (pos g.0)) z r.1), (45 ∷ [], a, ap (λ (x : ℕ). x ∷ a) (eqb-true c 45 q.0), refl, magnitude_found g.0 a g.1)))))
          | inr r ↦ absurd (let f : ◌≡◌ {A = Option ℤ} None (Some z) = r.1 in cc)
        ])
    | inr q ↦ (
        let g = bind_ok (magnitude_of (c ∷ a)) _ z q.1 in
        elim (chosen (nat_lt g.0 (2 ^ (bits - 1))) (Some (pos g.0)) _ (Some z) g.2) [
          | inl r ↦ (g.0, inl (ltb-true g.0 (2 ^ (bits - 1)) r.0, sym (same_some (pos g.0) z r.1), magnitude_found g.0 (c ∷ a) g.1))
          | inr r ↦ elim (chosen (nat_lt g.0 (2 ^ bits)) (Some (pos g.0 -ℤ pos (2 ^ bits))) None (Some z) r.1) [
            | inl t ↦ (g.0, inr (inl (ltb-false g.0 (2 ^ (bits - 1)) r.0, ltb-true g.0 (2 ^ bits) t.0, sym (same_some (pos g.0 -ℤ pos (2 ^ bits)) z t.1), magnitude_found g.0 (c ∷ a) g.1)))
            | inr t ↦ absurd (let f : ◌≡◌ {A = Option ℤ} None (Some z) = t.1 in cc)
          ]
        ])
  ]
]

-- a sign begins no magnitude
sign_none : (x : ℕ) (a : List ℕ) (n : ℕ) → (x ≡ 43) ⊎ (x ≡ 45) → magnitude_of (x ∷ a) ≡ Some n → ⊥
sign_none x a n (inl e) h = plus a (ap (λ (y : ℕ). magnitude_of (y ∷ a)) (sym e) ∙ h)
  where
    plus : (a : List ℕ) → magnitude_of (43 ∷ a) ≡ Some n → ⊥
    plus [] e = cc
    plus (d ∷ a) e = cc
sign_none x a n (inr e) h = minus a (ap (λ (y : ℕ). magnitude_of (y ∷ a)) (sym e) ∙ h)
  where
    minus : (a : List ℕ) → magnitude_of (45 ∷ a) ≡ Some n → ⊥
    minus [] e = cc
    minus (d ∷ a) e = cc

no_magnitude : (n : ℕ) → magnitude_of [] ≡ Some n → ⊥
no_magnitude n e = cc

without_sign : (bits n : ℕ) (a : List ℕ) → magnitude_of a ≡ Some n → integer_of bits a ≡ plain_of (2 ^ (bits - 1)) (2 ^ bits) a
unfolding integer_of
without_sign bits n [] e = absurd (no_magnitude n e)
without_sign bits n (c ∷ a) e =
    cond-false (c == 43) _ _ (ne_eqb c 43 (λ q. sign_none c a n (inl q) e))
    ∙ cond-false (c == 45) _ _ (ne_eqb c 45 (λ q. sign_none c a n (inr q) e))

with_plus : (bits : ℕ) (a : List ℕ) → integer_of bits (43 ∷ a) ≡ plus_of (2 ^ (bits - 1)) a
unfolding integer_of
with_plus bits a = refl

with_minus : (bits : ℕ) (a : List ℕ) → integer_of bits (45 ∷ a) ≡ minus_of (2 ^ (bits - 1)) a
unfolding integer_of
with_minus bits a = refl

pub integer_more : (bits : ℕ) (a : List ℕ) (z : ℤ) → IsInteger bits z a → integer_of bits a ≡ Some z
integer_more bits a z (n, inl (lt, e, h)) =
    let m = magnitude_more n a h in
    without_sign bits n a m ∙ bind_is (magnitude_of a) _ n m ∙ cond-true (nat_lt n (2 ^ (bits - 1))) _ _ (lt-ltb n (2 ^ (bits - 1)) lt) ∙ ap Some (sym e)
integer_more bits a z (n, inr (inl (le, lt, e, h))) =
    let m = magnitude_more n a h in
    without_sign bits n a m ∙ bind_is (magnitude_of a) _ n m ∙ cond-false (nat_lt n (2 ^ (bits - 1))) _ _ (le-ltb n (2 ^ (bits - 1)) le)
    ∙ cond-true (nat_lt n (2 ^ bits)) _ _ (lt-ltb n (2 ^ bits) lt) ∙ ap Some (sym e)
integer_more bits a z (n, inr (inr (inl (lt, e, (x, y, t, p, h))))) =
    ap (integer_of bits) (t ∙ ap (λ (w : List ℕ). w ++ y) p) ∙ with_plus bits y ∙ bind_is (magnitude_of y) _ n (magnitude_more n y h)
    ∙ cond-true (nat_lt n (2 ^ (bits - 1))) _ _ (lt-ltb n (2 ^ (bits - 1)) lt) ∙ ap Some (sym e)
integer_more bits a z (n, inr (inr (inr (le, e, (x, y, t, p, h))))) =
    ap (integer_of bits) (t ∙ ap (λ (w : List ℕ). w ++ y) p) ∙ with_minus bits y ∙ bind_is (magnitude_of y) _ n (magnitude_more n y h)
    ∙ cond-true (nat_le n (2 ^ (bits - 1))) _ _ (le-leb n (2 ^ (bits - 1)) le) ∙ ap Some (sym e)

pub integer_sound : (bits : ℕ) → Sound (atom_at (integer_of bits)) (WritesInteger bits)
integer_sound bits = atom_sound (integer_of bits) (λ z a. IsInteger bits z a) (integer_found bits)

pub integer_complete : (bits : ℕ) → Complete (atom_at (integer_of bits)) (WritesInteger bits) Any
integer_complete bits = atom_complete (integer_of bits) (λ z a. IsInteger bits z a) (integer_more bits)

-- ---- keys

pub key_found : (key a d : List ℕ) → after_key key a ≡ Some d → a ≡ key ++ d
key_found [] a d e = same_some a d e
key_found (c ∷ key) [] d e = absurd cc
key_found (c ∷ key) (x ∷ a) d e = elim (chosen (c == x) (after_key key a) None (Some d) e) [
  | inl p ↦ (ap (λ (y : ℕ). y ∷ a) (sym (eqb-true c x p.0)) ∙ ap (λ (y : List ℕ). c ∷ y) (key_found key a d p.1))
  | inr p ↦ absurd (let f : ◌≡◌ {A = Option (List ℕ)} None (Some d) = p.1 in cc)
]

pub key_more : (key d : List ℕ) → after_key key (key ++ d) ≡ Some d
key_more [] d = refl
key_more (c ∷ key) d = cond-true (c == c) _ _ (eq-eqb c c refl) ∙ key_more key d

-- The first token is no atom with this key.
abbrev pub NotKey : List ℕ → List Token → Type 0
NotKey key (atom a ∷ k) = after_key key a ≡ None
NotKey key _ = Unit {0}

pub key_sound : (key : List ℕ) (usual : ℕ) → Sound (key_at key usual) (WritesKey key usual)
key_sound key usual [] n rest e = let p = same_some (usual, []) (n, rest) e in ([], ap (λ (z : ℕ × List Token). z.1) p, subst (λ (z : ℕ × List Token). WritesKey key usual z.0 []) p (inl (refl, refl)))
key_sound key usual (open_paren ∷ k) n rest e = let p = same_some (usual, open_paren ∷ k) (n, rest) e in ([], ap (λ (z : ℕ × List Token). z.1) p, subst (λ (z : ℕ × List Token). WritesKey key usual z.0 []) p (inl (refl, refl)))
key_sound key usual (close_paren ∷ k) n rest e = let p = same_some (usual, close_paren ∷ k) (n, rest) e in ([], ap (λ (z : ℕ × List Token). z.1) p, subst (λ (z : ℕ × List Token). WritesKey key usual z.0 []) p (inl (refl, refl)))
key_sound key usual (string b ∷ k) n rest e = let p = same_some (usual, string b ∷ k) (n, rest) e in ([], ap (λ (z : ℕ × List Token). z.1) p, subst (λ (z : ℕ × List Token). WritesKey key usual z.0 []) p (inl (refl, refl)))
key_sound key usual (atom a ∷ k) n rest e = by (after_key key a) refl e
  where
    by : (o : Option (List ℕ)) → after_key key a ≡ o → key_by usual o a k ≡ Some (n, rest) → (front : List Token) × (atom a ∷ k ≡ front ++ rest) × WritesKey key usual n front
    by None o e = let p = same_some (usual, atom a ∷ k) (n, rest) e in ([], ap (λ (z : ℕ × List Token). z.1) p, subst (λ (z : ℕ × List Token). WritesKey key usual z.0 []) p (inl (refl, refl)))
    by (Some d) o e =
        let g = bind_ok (unsigned_of d) (λ m. Some (m, k)) (n, rest) e in
        let p = same_some (g.0, k) (n, rest) g.2 in
        (atom a ∷ [], ap (λ (z : ℕ × List Token). atom a ∷ z.1) p, subst (λ (z : ℕ × List Token). WritesKey key usual z.0 (atom a ∷ [])) p (inr (a, refl, (d, key_found key a d o, unsigned_found d g.0 g.1))))

pub key_complete : (key : List ℕ) (usual : ℕ) → Complete (key_at key usual) (WritesKey key usual) (NotKey key)
key_complete key usual n front rest (inl (u, e)) f = ap (λ (z : List Token). key_at key usual (z ++ rest)) e ∙ by rest f ∙ ap (λ (m : ℕ). Some (m, rest)) (sym u)
  where
    by : (rest : List Token) → NotKey key rest → key_at key usual rest ≡ Some (usual, rest)
    by [] f = refl
    by (open_paren ∷ k) f = refl
    by (close_paren ∷ k) f = refl
    by (string b ∷ k) f = refl
    by (atom a ∷ k) f = ap (λ (o : Option (List ℕ)). key_by usual o a k) f
key_complete key usual n front rest (inr (a, e, (d, w, u))) f =
    ap (λ (z : List Token). key_at key usual (z ++ rest)) e ∙ ap (λ (o : Option (List ℕ)). key_by usual o a rest) (ap (after_key key) w ∙ key_more key d) ∙ bind_is (unsigned_of d) _ n (unsigned_more d n u)

-- ---- exponents

below_found : (f n e : ℕ) → exponent_below f n ≡ Some e → 2 ^ e ≡ n
below_found zero n e h = absurd cc
below_found (suc f) n e h = elim (chosen (2 ^ f == n) (Some f) (exponent_below f n) (Some e) h) [
  | inl p ↦ (ap (λ (x : ℕ). 2 ^ x) (sym (same_some f e p.1)) ∙ eqb-true (2 ^ f) n p.0)
  | inr p ↦ below_found f n e p.1
]

same_power : (e f : ℕ) → 2 ^ e ≡ 2 ^ f → f ≤ e → f ≡ e
same_power e f h le = elim (chosen (nat_lt f e) true false _ refl) [
  | inl p ↦ (let lt : 2 ^ f < 2 ^ e = pow_below f e (ltb-true f e p.0) in absurd (omega (arith, lt, h)))
  | inr p ↦ (let ge : e ≤ f = ltb-false f e p.0 in omega (arith, le, ge))
]

below_more : (f n e : ℕ) → e < f → 2 ^ e ≡ n → exponent_below f n ≡ Some e
below_more zero n e lt h = absurd (omega (arith, lt))
below_more (suc f) n e lt h = elim (chosen (2 ^ f == n) true false _ refl) [
  | inl p ↦ (cond-true (2 ^ f == n) _ _ p.0 ∙ ap Some (sym (same_power f e (eqb-true (2 ^ f) n p.0 ∙ sym h) (omega (arith, lt)))))
  | inr p ↦ (
      let ne : e ≢ f = λ q. eqb-false (2 ^ f) n p.0 (ap (λ (x : ℕ). 2 ^ x) (sym q) ∙ h) in
      cond-false (2 ^ f == n) _ _ p.0 ∙ below_more f n e (omega (arith, lt, ne)) h)
]

pub exponent_found : (n e : ℕ) → exponent_of n ≡ Some e → 2 ^ e ≡ n
unfolding exponent_of
exponent_found n e h = below_found 32 n e h

pub exponent_more : (n e : ℕ) → n < 2 ^ 32 → 2 ^ e ≡ n → exponent_of n ≡ Some e
unfolding exponent_of
exponent_more n e lt h = below_more 32 n e (small (nat_lt e 32) refl) h
  where
    small : (b : Bool) → nat_lt e 32 ≡ b → e < 32
    small true t = ltb-true e 32 t
    small false t = let ge : 32 ≤ e = ltb-false e 32 t in let m : 2 ^ 32 ≤ 2 ^ e = pow_mono ge in absurd (omega (arith, m, h, lt))

-- ---- memory arguments

abbrev pub WritesAlign : ℕ → ℕ → Form Token
WritesAlign width e = WritesKey (codes "align=") width (2 ^ e)

align_sound : (width : ℕ) → Sound (align_at width) (WritesAlign width)
align_sound width k e rest h =
    let g = bind_ok (key_at (codes "align=") width k) (λ x. exponent_of x.0 >>= λ e. Some (e, x.1)) (e, rest) h in
    let x = bind_ok (exponent_of g.0.0) (λ e. Some (e, g.0.1)) (e, rest) g.2 in
    let p : ◌≡◌ {A = ℕ × List Token} (x.0, g.0.1) (e, rest) = same_some (x.0, g.0.1) (e, rest) x.2 in
    let one = key_sound (codes "align=") width k g.0.0 g.0.1 g.1 in
    let w : WritesAlign width x.0 one.0 = subst (λ (n : ℕ). WritesKey (codes "align=") width n one.0) (sym (exponent_found g.0.0 x.0 x.1)) one.2 in
    (one.0, one.1 ∙ ap (λ (z : ℕ × List Token). one.0 ++ z.1) p, subst (λ (z : ℕ × List Token). WritesAlign width z.0 one.0) p w)

align_small : (width e : ℕ) (front : List Token) → width < 2 ^ 32 → WritesAlign width e front → 2 ^ e < 2 ^ 32
align_small width e front lt (inl (u, _)) = subst (λ (n : ℕ). n < 2 ^ 32) (sym u) lt
align_small width e front lt (inr (a, i, (d, w, u))) = u.0

align_complete : (width : ℕ) → width < 2 ^ 32 → Complete (align_at width) (WritesAlign width) (NotKey (codes "align="))
align_complete width lt e front rest w f =
    bind_is (key_at (codes "align=") width (front ++ rest)) (λ x. exponent_of x.0 >>= λ e. Some (e, x.1)) (2 ^ e, rest) (key_complete (codes "align=") width (2 ^ e) front rest w f)
    ∙ bind_is (exponent_of (2 ^ e)) (λ e. Some (e, rest)) e (exponent_more (2 ^ e) e (align_small width e front lt w) refl)

abbrev pub NoKeys : List Token → Type 0
NoKeys k = NotKey (codes "offset=") k × NotKey (codes "align=") k

align_follows : (width e : ℕ) (front rest : List Token) → WritesAlign width e front → NoKeys rest → NotKey (codes "offset=") (front ++ rest)
align_follows width e front rest (inl (u, i)) f = subst (λ (z : List Token). NotKey (codes "offset=") (z ++ rest)) (sym i) f.0
align_follows width e front rest (inr (a, i, (d, w, u))) f = subst (λ (z : List Token). NotKey (codes "offset=") (z ++ rest)) (sym i) (ap (after_key (codes "offset=")) w)

pub access_sound : (width : ℕ) → Sound (access_at width) (WritesAccess width)
access_sound width = made_sound memarg (then_at (key_at (codes "offset=") 0) (align_at width)) (Both (WritesKey (codes "offset=") 0) (WritesAlign width)) (WritesAccess width)
    (then_sound (key_at (codes "offset=") 0) (align_at width) (WritesKey (codes "offset=") 0) (WritesAlign width) (key_sound (codes "offset=") 0) (align_sound width)) (λ x front h. h)

pub access_complete : (width : ℕ) → width < 2 ^ 32 → Complete (access_at width) (WritesAccess width) NoKeys
access_complete width lt m front rest w f =
    made_is memarg (then_at (key_at (codes "offset=") 0) (align_at width) (front ++ rest)) (m.offset, m.align) rest
    (then_complete (key_at (codes "offset=") 0) (align_at width) (WritesKey (codes "offset=") 0) (WritesAlign width) (NotKey (codes "offset=")) NoKeys
    (key_complete (codes "offset=") 0) (λ e b r h g. align_complete width lt e b r h g.1) (align_follows width) (m.offset, m.align) front rest w f)

-- ---- identifiers, types of blocks

abbrev pub NotId : List Token → Type 0
NotId (atom a ∷ k) = is_id a ≡ false
NotId _ = Unit {0}

pub id_sound : Sound id_at WritesId
id_sound [] x rest e = let p = same_some (None, []) (x, rest) e in ([], ap (λ (z : Id × List Token). z.1) p, subst (λ (z : Id × List Token). WritesId z.0 []) p refl)
id_sound (open_paren ∷ k) x rest e = let p = same_some (None, open_paren ∷ k) (x, rest) e in ([], ap (λ (z : Id × List Token). z.1) p, subst (λ (z : Id × List Token). WritesId z.0 []) p refl)
id_sound (close_paren ∷ k) x rest e = let p = same_some (None, close_paren ∷ k) (x, rest) e in ([], ap (λ (z : Id × List Token). z.1) p, subst (λ (z : Id × List Token). WritesId z.0 []) p refl)
id_sound (string b ∷ k) x rest e = let p = same_some (None, string b ∷ k) (x, rest) e in ([], ap (λ (z : Id × List Token). z.1) p, subst (λ (z : Id × List Token). WritesId z.0 []) p refl)
id_sound (atom a ∷ k) x rest e = elim (chosen (is_id a) _ _ (Some (x, rest)) e) [
  | inl t ↦ (let p = same_some (Some a, k) (x, rest) t.1 in (atom a ∷ [], ap (λ (z : Id × List Token). atom a ∷ z.1) p, subst (λ (z : Id × List Token). WritesId z.0 (atom a ∷ [])) p (is_identifier a t.0, refl)))
  | inr t ↦ (let p = same_some (None, atom a ∷ k) (x, rest) t.1 in ([], ap (λ (z : Id × List Token). z.1) p, subst (λ (z : Id × List Token). WritesId z.0 []) p refl))
]

pub id_none : (k : List Token) → NotId k → id_at k ≡ Some (None, k)
id_none [] f = refl
id_none (open_paren ∷ k) f = refl
id_none (close_paren ∷ k) f = refl
id_none (string b ∷ k) f = refl
id_none (atom a ∷ k) f = cond-false (is_id a) _ _ f

pub id_complete : Complete id_at WritesId NotId
id_complete None front rest e f = ap (λ (z : List Token). id_at (z ++ rest)) e ∙ id_none rest f
id_complete (Some a) front rest (i, e) f = ap (λ (z : List Token). id_at (z ++ rest)) e ∙ cond-true (is_id a) _ _ (id_is a i)

-- no parenthesis is opened
abbrev pub NotOpen : List Token → Type 0
NotOpen (open_paren ∷ k) = ⊥
NotOpen _ = Unit {0}

named_found : (a : List ℕ) (t : ValType) → type_named a ≡ Some t → a ≡ type_text t
named_found a t e = elim (chosen (same_bytes a (type_text I32)) _ _ (Some t) e) [
  | inl p ↦ (same_is a (type_text I32) p.0 ∙ ap type_text (same_some I32 t p.1))
  | inr p ↦ elim (chosen (same_bytes a (type_text I64)) _ _ (Some t) p.1) [
    | inl q ↦ (same_is a (type_text I64) q.0 ∙ ap type_text (same_some I64 t q.1))
    | inr q ↦ elim (chosen (same_bytes a (type_text F32)) _ _ (Some t) q.1) [
      | inl r ↦ (same_is a (type_text F32) r.0 ∙ ap type_text (same_some F32 t r.1))
      | inr r ↦ elim (chosen (same_bytes a (type_text F64)) _ _ (Some t) r.1) [
        | inl u ↦ (same_is a (type_text F64) u.0 ∙ ap type_text (same_some F64 t u.1))
        | inr u ↦ absurd (let f : ◌≡◌ {A = Option ValType} None (Some t) = u.1 in cc)
      ]
    ]
  ]
]

named_more : (a : List ℕ) (t : ValType) → a ≡ type_text t → type_named a ≡ Some t
named_more a I32 e = ap type_named e
named_more a I64 e = ap type_named e
named_more a F32 e = ap type_named e
named_more a F64 e = ap type_named e

-- the word of a value type of the profile
abbrev pub IsType : Profile → ValType → List ℕ → Type 0
IsType pr t a = (a ≡ type_text t) × HasType pr t

pub type_found : (pr : Profile) (a : List ℕ) (t : ValType) → type_of pr a ≡ Some t → IsType pr t a
type_found pr a t e =
    let g = bind_ok (type_named a) _ t e in
    elim (chosen (has pr (type_feature g.0)) (Some g.0) None (Some t) g.2) [
      | inl q ↦ (let is = same_some g.0 t q.1 in (named_found a t (g.1 ∙ ap Some is), subst (HasType pr) is q.0))
      | inr q ↦ absurd (let f : ◌≡◌ {A = Option ValType} None (Some t) = q.1 in cc)
    ]

pub type_more : (pr : Profile) (a : List ℕ) (t : ValType) → IsType pr t a → type_of pr a ≡ Some t
type_more pr a t (e, of) = bind_is (type_named a) _ t (named_more a t e) ∙ cond-true (has pr (type_feature t)) (Some t) None of

-- The code's reader of a value type.
pub type_has : (pr : Profile) (a : List ℕ) (t : ValType) → Some t ≡ type_named a → has pr (type_feature t) ≡ true → Some t ≡ type_of pr a
type_has pr a t e h = sym (bind_is (type_named a) _ t (sym e) ∙ cond-true (has pr (type_feature t)) (Some t) None h)

pub type_lacks : (pr : Profile) (a : List ℕ) (t : ValType) → Some t ≡ type_named a → has pr (type_feature t) ≡ false → None ≡ type_of pr a
type_lacks pr a t e h = sym (bind_is (type_named a) _ t (sym e) ∙ cond-false (has pr (type_feature t)) (Some t) None h)

pub type_none : (pr : Profile) (a : List ℕ) → None ≡ type_named a → None ≡ type_of pr a
type_none pr a e = ap (λ (o : Option ValType). ◌>>=◌ {B = ValType} o (λ t. cond (has pr (type_feature t)) (Some t) None)) e

pub ruleset type_laws = (type_has, type_lacks, type_none)

-- the tokens of a value type of the profile
abbrev pub OfType : Profile → ValType → Form Token
OfType pr t k = WritesType t k × HasType pr t

pub type_sound : (pr : Profile) → Sound (atom_at (type_of pr)) (OfType pr)
type_sound pr k t rest e =
    let g = atom_sound (type_of pr) (IsType pr) (type_found pr) k t rest e in
    (g.0, g.1, (g.2.1 ∙ ap (λ (a : List ℕ). atom a ∷ []) g.2.2.0, g.2.2.1))

pub type_complete : (pr : Profile) → Complete (atom_at (type_of pr)) (OfType pr) Any
type_complete pr t front rest h f = atom_complete (type_of pr) (IsType pr) (type_more pr) t front rest (type_text t, h.0, (refl, h.1)) f

abbrev pub OfBlockType : Profile → Option ValType → Form Token
OfBlockType pr t k = WritesBlockType t k × HasBlockType pr t

no_block_type : (pr : Profile) (k : List Token) (x : Option ValType) (rest : List Token) → ◌≡◌ {A = Option (Option ValType × List Token)} (Some (None, k)) (Some (x, rest))
    → (front : List Token) × (k ≡ front ++ rest) × OfBlockType pr x front
no_block_type pr k x rest e =
    let p = same_some (None, k) (x, rest) e in
    ([], ap (λ (z : Option ValType × List Token). z.1) p, subst (λ (z : Option ValType × List Token). OfBlockType pr z.0 []) p (refl, tt))

-- a result in its parentheses
result_from : (pr : Profile) (t : ValType) (front : List Token) → Paren (codes "result") (OfType pr t) front → OfBlockType pr (Some t) front
result_from pr t front (a, b, e, is, (c, d, e2, w, last)) = ((a, b, e, is, (c, d, e2, w.0, last)), w.1)

result_to : (pr : Profile) (t : ValType) (front : List Token) → OfBlockType pr (Some t) front → Paren (codes "result") (OfType pr t) front
result_to pr t front ((a, b, e, is, (c, d, e2, w, last)), of) = (a, b, e, is, (c, d, e2, (w, of), last))

pub block_type_sound : (pr : Profile) → Sound (block_type_at pr) (OfBlockType pr)
block_type_sound pr [] x rest e = no_block_type pr [] x rest e
block_type_sound pr (close_paren ∷ k) x rest e = no_block_type pr (close_paren ∷ k) x rest e
block_type_sound pr (string b ∷ k) x rest e = no_block_type pr (string b ∷ k) x rest e
block_type_sound pr (atom a ∷ k) x rest e = no_block_type pr (atom a ∷ k) x rest e
block_type_sound pr (open_paren ∷ k) x rest e =
    made_sound Some (paren_at (codes "result") (atom_at (type_of pr))) (λ t. Paren (codes "result") (OfType pr t)) (OfBlockType pr)
    (paren_sound (codes "result") (atom_at (type_of pr)) (OfType pr) (type_sound pr)) (result_from pr) (open_paren ∷ k) x rest e

pub block_type_complete : (pr : Profile) → Complete (block_type_at pr) (OfBlockType pr) NotOpen
block_type_complete pr None front rest h f = ap (λ (z : List Token). block_type_at pr (z ++ rest)) h.0 ∙ by rest f
  where
    by : (rest : List Token) → NotOpen rest → block_type_at pr rest ≡ Some (None, rest)
    by [] f = refl
    by (close_paren ∷ k) f = refl
    by (string b ∷ k) f = refl
    by (atom a ∷ k) f = refl
    by (open_paren ∷ k) f = absurd f
block_type_complete pr (Some t) front rest h f =
    begins (front ++ rest) (opens front h.0) ∙ made_is Some (paren_at (codes "result") (atom_at (type_of pr)) (front ++ rest)) t rest
    (paren_complete (codes "result") (atom_at (type_of pr)) (OfType pr) (λ u g r i j. type_complete pr u g r i tt) t front rest (result_to pr t front h) tt)
  where
    begins : (k : List Token) → (l : List Token) × (k ≡ open_paren ∷ l) → block_type_at pr k ≡ made Some (paren_at (codes "result") (atom_at (type_of pr)) k)
    begins [] (l, e) = cc
    begins (open_paren ∷ k) h = refl
    begins (close_paren ∷ k) (l, e) = cc
    begins (string b ∷ k) (l, e) = cc
    begins (atom a ∷ k) (l, e) = cc

    opens : (front : List Token) → Paren (codes "result") (WritesType t) front → (l : List Token) × (front ++ rest ≡ open_paren ∷ l)
    opens front (a, b, e, is, more) = (atom (codes "result") ∷ b ++ rest, ap (λ (z : List Token). z ++ rest) (e ∙ ap (λ (z : List Token). z ++ b) is))

-- ---- an identifier once more

abbrev pub IsName : Id → Type 0
IsName None = Unit {0}
IsName (Some name) = IsIdentifier name

abbrev pub Again : Id → Form Token
Again None k = k ≡ []
Again (Some name) k = (k ≡ []) ⊎ (k ≡ atom name ∷ [])

abbrev pub WritesAgain : Id → Unit {0} → Form Token
WritesAgain id x = Again id

none_again : (id : Id) → Again id []
none_again None = refl
none_again (Some name) = inl refl

pub again_sound : (id : Id) → Sound (again_at id) (WritesAgain id)
again_sound id [] x rest e = let p = same_some (tt, []) (x, rest) e in ([], ap (λ (z : Unit {0} × List Token). z.1) p, none_again id)
again_sound id (open_paren ∷ k) x rest e = let p = same_some (tt, open_paren ∷ k) (x, rest) e in ([], ap (λ (z : Unit {0} × List Token). z.1) p, none_again id)
again_sound id (close_paren ∷ k) x rest e = let p = same_some (tt, close_paren ∷ k) (x, rest) e in ([], ap (λ (z : Unit {0} × List Token). z.1) p, none_again id)
again_sound id (string b ∷ k) x rest e = let p = same_some (tt, string b ∷ k) (x, rest) e in ([], ap (λ (z : Unit {0} × List Token). z.1) p, none_again id)
again_sound id (atom a ∷ k) x rest e = elim (chosen (is_id a) _ _ (Some (x, rest)) e) [
  | inl t ↦ elim (chosen (is_same_id id a) (Some (tt, k)) None (Some (x, rest)) t.1) [
    | inl q ↦ (let p = same_some (tt, k) (x, rest) q.1 in (atom a ∷ [], ap (λ (z : Unit {0} × List Token). atom a ∷ z.1) p, same id q.0))
    | inr q ↦ absurd (let f : ◌≡◌ {A = Option (Unit {0} × List Token)} None (Some (x, rest)) = q.1 in cc)
  ]
  | inr t ↦ (let p = same_some (tt, atom a ∷ k) (x, rest) t.1 in ([], ap (λ (z : Unit {0} × List Token). z.1) p, none_again id))
]
  where
    same : (id : Id) → is_same_id id a ≡ true → Again id (atom a ∷ [])
    same None q = absurd (let f : false ≡ true = q in cc)
    same (Some name) q = inr (ap (λ (z : List ℕ). atom z ∷ []) (same_is a name q))

pub again_complete : (id : Id) → IsName id → Complete (again_at id) (WritesAgain id) NotId
again_complete id n x front rest w f = by id n w
  where
    without : (id : Id) (rest : List Token) → NotId rest → again_at id rest ≡ Some (tt, rest)
    without id [] f = refl
    without id (open_paren ∷ k) f = refl
    without id (close_paren ∷ k) f = refl
    without id (string b ∷ k) f = refl
    without id (atom a ∷ k) f = cond-false (is_id a) _ _ f

    by : (id : Id) → IsName id → Again id front → again_at id (front ++ rest) ≡ Some (tt, rest)
    by None n e = ap (λ (z : List Token). again_at None (z ++ rest)) e ∙ without None rest f
    by (Some name) n (inl e) = ap (λ (z : List Token). again_at (Some name) (z ++ rest)) e ∙ without (Some name) rest f
    by (Some name) n (inr e) = ap (λ (z : List Token). again_at (Some name) (z ++ rest)) e ∙ cond-true (is_id name) _ _ (id_is name n) ∙ cond-true (same_bytes name name) _ _ (is_same name)

-- the word and the identifier, as the grammar has them
pub closes_again : (word : List ℕ) (id : Id) (front : List Token) → Again id front → Closes word id (atom word ∷ front)
closes_again word None front e = ap (λ (z : List Token). atom word ∷ z) e
closes_again word (Some name) front (inl e) = inl (ap (λ (z : List Token). atom word ∷ z) e)
closes_again word (Some name) front (inr e) = inr (ap (λ (z : List Token). atom word ∷ z) e)

pub again_closes : (word : List ℕ) (id : Id) (front : List Token) → Closes word id front → (more : List Token) × (front ≡ atom word ∷ more) × Again id more
again_closes word None front e = ([], e, refl)
again_closes word (Some name) front (inl e) = ([], e, inl refl)
again_closes word (Some name) front (inr e) = (atom name ∷ [], e, inr refl)

-- ---- labels

digit_lower : (c d : ℕ) → digit_value c ≡ Some d → d < 10 → is_lower c ≡ false
digit_lower c d e lt = elim (chosen (is_digit c) _ _ (Some d) e) [
  | inl p ↦ (let q = and_parts (nat_le 48 c) (nat_le c 57) p.0 in let u : c ≤ 57 = leb-true c 57 q.1 in low u)
  | inr p ↦ elim (chosen (nat_le 97 c && nat_le c 102) _ _ (Some d) p.1) [
    | inl q ↦ (let r = and_parts (nat_le 97 c) (nat_le c 102) q.0 in let u : 97 ≤ c = leb-true 97 c r.0 in let v : c - 87 ≡ d = same_some (c - 87) d q.1 in absurd (omega (arith, u, v, lt)))
    | inr q ↦ elim (chosen (nat_le 65 c && nat_le c 70) _ _ (Some d) q.1) [
      | inl r ↦ (let t = and_parts (nat_le 65 c) (nat_le c 70) r.0 in let u : c ≤ 70 = leb-true c 70 t.1 in let v : c - 55 ≡ d = same_some (c - 55) d r.1 in absurd (let w = and_parts (nat_le 65 c) (nat_le c 70) r.0 in let x : 65 ≤ c = leb-true 65 c w.0 in omega (arith, x, v, lt)))
      | inr r ↦ absurd (let f : ◌≡◌ {A = Option ℕ} None (Some d) = r.1 in cc)
    ]
  ]
]
  where
    low : c ≤ 57 → (nat_le 97 c && nat_le c 122) ≡ false
    low u = and_left (nat_le 97 c) _ (not_le (nat_le 97 c) refl)
      where
        not_le : (b : Bool) → nat_le 97 c ≡ b → nat_le 97 c ≡ false
        not_le true t = absurd (let v : 97 ≤ c = leb-true 97 c t in omega (arith, u, v))
        not_le false t = t

pub number_not_word : (n : ℕ) (a : List ℕ) → magnitude_of a ≡ Some n → is_word a ≡ false
number_not_word n [] e = refl
number_not_word n (c ∷ a) e = by a (magnitude_found n (c ∷ a) e)
  where
    here : (ds b : List ℕ) → Digits 10 ds (c ∷ b) → is_lower c ≡ false
    here [] b h = absurd h
    here (d ∷ []) b (u, e, v, lt) = ap is_lower (same_head c u b [] e) ∙ digit_lower u d v lt
    here (d ∷ x ∷ ds) b (p, q, e, (u, is, v, lt), more) = ap is_lower (same_head c u b q (e ∙ ap (λ (z : List ℕ). z ++ q) is)) ∙ digit_lower u d v lt

    by : (b : List ℕ) → Magnitude n (c ∷ b) → is_lower c ≡ false
    by b (inl (ds, h, k)) = here ds b h
    by b (inr (ds, (x, y, e, p, h), k)) = ap is_lower (same_head c 48 b (120 ∷ y) (e ∙ ap (λ (w : List ℕ). w ++ y) p))

pub id_not_word : (a : List ℕ) → IsIdentifier a → is_word a ≡ false
id_not_word [] h = absurd h
id_not_word (c ∷ a) h = ap is_lower h.0

label_not_word : (ids : Ids) (l : ℕ) (a : List ℕ) → IsLabel ids l a → is_word a ≡ false
label_not_word ids l a (lt, inl u) = number_not_word l a (magnitude_more l a u.1)
label_not_word ids l a (lt, inr (i, e, n)) = id_not_word a i

abbrev pub NotIndex : List Token → Type 0
NotIndex k = begins_index k ≡ false

one_label : (ids : Ids) (x : ℕ) (xs : List ℕ) (a : List ℕ) (front : List Token) → index_of ids a ≡ Some x → Each (ResolvesLabel ids) xs front → Each (ResolvesLabel ids) (x ∷ xs) (atom a ∷ front)
one_label ids x xs a front e h = (atom a ∷ [], front, refl, (a, refl, label_found ids a x e), h)

no_labels : (ids : Ids) (k : List Token) (ls : List ℕ) (rest : List Token) → ◌≡◌ {A = Option (List ℕ × List Token)} (Some ([], k)) (Some (ls, rest)) → (front : List Token) × (k ≡ front ++ rest) × Each (ResolvesLabel ids) ls front
no_labels ids k ls rest e = let p = same_some ([], k) (ls, rest) e in ([], ap (λ (z : List ℕ × List Token). z.1) p, subst (λ (z : List ℕ × List Token). Each (ResolvesLabel ids) z.0 []) p refl)

pub labels_sound : (ids : Ids) → Sound (labels_at ids) (Each (ResolvesLabel ids))
labels_sound ids [] ls rest e = no_labels ids [] ls rest e
labels_sound ids (open_paren ∷ k) ls rest e = no_labels ids (open_paren ∷ k) ls rest e
labels_sound ids (close_paren ∷ k) ls rest e = no_labels ids (close_paren ∷ k) ls rest e
labels_sound ids (string b ∷ k) ls rest e = no_labels ids (string b ∷ k) ls rest e
labels_sound ids (atom a ∷ k) ls rest e = elim (chosen (is_word a) _ _ (Some (ls, rest)) e) [
  | inl t ↦ no_labels ids (atom a ∷ k) ls rest t.1
  | inr t ↦ (
      let g = bind_ok (index_of ids a) _ (ls, rest) t.1 in
      let m = bind_ok (labels_at ids k) (λ xs. Some (g.0 ∷ xs.0, xs.1)) (ls, rest) g.2 in
      let more = labels_sound ids k m.0.0 m.0.1 m.1 in
      let p : ◌≡◌ {A = List ℕ × List Token} (g.0 ∷ m.0.0, m.0.1) (ls, rest) = same_some (g.0 ∷ m.0.0, m.0.1) (ls, rest) m.2 in (
        atom a ∷ more.0,
        ap (λ (z : List Token). atom a ∷ z) more.1 ∙ ap (λ (z : List ℕ × List Token). (atom a ∷ more.0) ++ z.1) p,
        subst (λ (z : List ℕ × List Token). Each (ResolvesLabel ids) z.0 (atom a ∷ more.0)) p (one_label ids g.0 m.0.0 a more.0 g.1 more.2),
      ))
]

pub labels_end : (ids : Ids) (rest : List Token) → NotIndex rest → labels_at ids rest ≡ Some ([], rest)
labels_end ids [] f = refl
labels_end ids (open_paren ∷ k) f = refl
labels_end ids (close_paren ∷ k) f = refl
labels_end ids (string b ∷ k) f = refl
labels_end ids (atom a ∷ k) f = by (is_word a) refl f
  where
    by : (t : Bool) → is_word a ≡ t → not (is_word a) ≡ false → labels_at ids (atom a ∷ k) ≡ Some ([], atom a ∷ k)
    by true t f = cond-true (is_word a) _ _ t
    by false t f = absurd (let g : true ≡ false = ap not (sym t) ∙ f in cc)

pub labels_complete : (ids : Ids) → Complete (labels_at ids) (Each (ResolvesLabel ids)) NotIndex
labels_complete ids [] front rest h f = ap (λ (z : List Token). labels_at ids (z ++ rest)) h ∙ labels_end ids rest f
labels_complete ids (l ∷ ls) front rest (x, y, e, (a, i, h), more) f =
    ap (λ (z : List Token). labels_at ids (z ++ rest)) (e ∙ ap (λ (z : List Token). z ++ y) i)
    ∙ cond-false (is_word a) _ _ (label_not_word ids l a h) ∙ bind_is (index_of ids a) _ l (label_more ids a l h)
    ∙ bind_is (labels_at ids (y ++ rest)) (λ xs. Some (l ∷ xs.0, xs.1)) (ls, rest) (labels_complete ids ls y rest more f)
