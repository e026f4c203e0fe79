-- Steps of the readers of type uses: value types, groups, and the comparison with a type.
use Rattle.std.proofs.Common.{◌≡◌, ℕ, zero, suc, ◌<◌, Bool, true, false, cond, List, [], ◌∷◌, ◌++◌, ◌↔◌, length, Option, Some, None, refl, sym, ap, subst, ◌∙◌, arith, append_assoc, length-append}
use Rattle.std.specs.Prelude.{codes, flat_map, slice_get}
use Rattle.std.proofs.lemmas.Bool.{cond-true, cond-false, false_from_ne_true}
use Rattle.std.proofs.lemmas.List.{append-nil}
use Rattle.wm_syntax.specs.Spelling.{Form}
use Rattle.wm_syntax.specs.Types.{Signature}
use Rattle.wm_syntax.specs.declared.types.ValType.{ValType}
use Rattle.wm_syntax.specs.declared.profile.Profile.{Profile}
use Rattle.wm_tokens.specs.Tokens.{Token, open_paren, close_paren, string, atom}
use Rattle.wm_tokens.specs.Written.{Names}
use Rattle.wm_tokens.specs.declared.faults.TextWhy.{TextWhy}
use Rattle.wm_tokens.specs.declared.faults.TextWhy.TheVariants as why
use Rattle.wm_bodies.specs.inner.Views.{Fails, IsOfReaders, IsRefusal, NotMemory}
use Rattle.wm_bodies.specs.exact.Reading.{Reader, ◌>>=◌, made, atom_at, index_of, type_of, paren_at, many_at, then_at}
use Rattle.wm_bodies.specs.exact.TypeUses.{types_at, adding, begins_group, groups_at, joined, same_types, no_types, fits, checked, use_at, begins_open, alone_by, call_use_at}
use Rattle.wm_tokens.proofs.Basics.{same_some}
use Rattle.wm_bodies.proofs.Readers.{Sound, bind_is}
use Rattle.wm_bodies.proofs.TypeUseLaws.{OfUnnamed, group_begins, group_sound, same_types_are, types_same}

-- ---- refusals

pub fails_refused : {Y : Type 0} (w : TextWhy) (read : Option Y) → IsRefusal w → read ≡ None → Fails w read
fails_refused why.Memory read h e = tt
fails_refused why.NotUtf8 read h e = h
fails_refused why.BadToken read h e = h
fails_refused why.OpenComment read h e = h
fails_refused why.OpenString read h e = h
fails_refused why.BadEscape read h e = h
fails_refused _ read h e = e

-- A reader's refusal is neither `NotUtf8` nor a lexical error.
pub fails_read : {Y : Type 0} (w : TextWhy) (read : Option Y) → Fails w read → IsOfReaders w
fails_read why.NotUtf8 read h = h
fails_read why.BadToken read h = h
fails_read why.OpenComment read h = h
fails_read why.OpenString read h = h
fails_read why.BadEscape read h = h
fails_read _ read h = tt

-- A refusal other than `Memory` means that the exact answer is None.
refused : {Y : Type 0} (v : TextWhy) (read : Option Y) → NotMemory v → Fails v read → read ≡ None
refused why.Memory read h f = absurd h
refused why.NotUtf8 read h f = absurd f
refused why.BadToken read h f = absurd f
refused why.OpenComment read h f = absurd f
refused why.OpenString read h f = absurd f
refused why.BadEscape read h f = absurd f
refused _ read h f = f

pub fails_carried : {Y : Type 0} (v w : TextWhy) (read : Option Y) → (NotMemory w → NotMemory v) → (IsOfReaders v → IsOfReaders w) → Fails v read → Fails w read
fails_carried v why.Memory read h g f = tt
fails_carried v why.NotUtf8 read h g f = g (fails_read v read f)
fails_carried v why.BadToken read h g f = g (fails_read v read f)
fails_carried v why.OpenComment read h g f = g (fails_read v read f)
fails_carried v why.OpenString read h g f = g (fails_read v read f)
fails_carried v why.BadEscape read h g f = g (fails_read v read f)
fails_carried v _ read h g f = refused v read (h tt) f

pub expected_read : (w : TextWhy) → w ≡ why.Expected → IsOfReaders w
expected_read w e = subst IsOfReaders (sym e) tt

-- ---- value types

abbrev pub NoAtom : List Token → Type 0
NoAtom (atom a ∷ k) = ⊥
NoAtom _ = Unit {0}

regroup : (front : List ValType) (t : ValType) (o : Option (List ValType × List Token)) → adding front (o >>= λ x. Some (t ∷ x.0, x.1)) ≡ adding (front ++ t ∷ []) o
regroup front t None = refl
regroup front t (Some x) = ap (λ (z : List ValType). Some (z, x.1)) (sym (append_assoc front (t ∷ []) x.0))

pub types_more : (pr : Profile) (front : List ValType) (t : ValType) (a : List ℕ) (j k : List Token) → j ≡ atom a ∷ k → Some t ≡ type_of pr a → adding front (types_at pr j) ≡ adding (front ++ t ∷ []) (types_at pr k)
types_more pr front t a j k e h =
    ap (λ (z : List Token). adding front (types_at pr z)) e ∙ ap (adding front) (bind_is (type_of pr a) (λ u. ◌>>=◌ {B = List ValType × List Token} (types_at pr k) (λ us. Some (u ∷ us.0, us.1))) t (sym h))
    ∙ regroup front t (types_at pr k)

pub types_fail : (pr : Profile) (front : List ValType) (a : List ℕ) (j k : List Token) → j ≡ atom a ∷ k → None ≡ type_of pr a → adding front (types_at pr j) ≡ None
types_fail pr front a j k e h =
    ap (λ (z : List Token). adding front (types_at pr z)) e
    ∙ ap (λ (o : Option ValType). adding front (◌>>=◌ {B = List ValType × List Token} o (λ u. ◌>>=◌ {B = List ValType × List Token} (types_at pr k) (λ us. Some (u ∷ us.0, us.1))))) (sym h)

pub types_over : (pr : Profile) (front : List ValType) (j : List Token) → NoAtom j → adding front (types_at pr j) ≡ Some (front, j)
types_over pr front [] h = ap (λ (z : List ValType). Some (z, [])) (append-nil front)
types_over pr front (open_paren ∷ k) h = ap (λ (z : List ValType). Some (z, open_paren ∷ k)) (append-nil front)
types_over pr front (close_paren ∷ k) h = ap (λ (z : List ValType). Some (z, close_paren ∷ k)) (append-nil front)
types_over pr front (string b ∷ k) h = ap (λ (z : List ValType). Some (z, string b ∷ k)) (append-nil front)
types_over pr front (atom a ∷ k) h = absurd h

-- ---- one group

pub group_none : (front : List ValType) (o : Option (List ValType × List Token)) → o ≡ None → adding front o ≡ None
group_none front o e = ap (adding front) e

-- ---- groups

-- Any sufficient bound gives the same answer.
pub many_is : {X : Type 0} (goes : List Token → Bool) (r : Reader X) (P : X → Form Token) → Sound r P → ((x : X) (front : List Token) → P x front → 0 < length front)
    → (m n : ℕ) (k : List Token) → length k < m → length k < n → many_at m goes r k ≡ many_at n goes r k
many_is {X} goes r P p some zero n k h g = absurd (omega (arith, h))
many_is {X} goes r P p some (suc m) zero k h g = absurd (omega (arith, g))
many_is {X} goes r P p some (suc m) (suc n) k h g = ap (λ (z : Option (List X × List Token)). cond (goes k) z (Some ([], k))) (by (λ l a b. many_is goes r P p some m n l a b) (r k) refl)
  where
    by : ((l : List Token) → length l < m → length l < n → many_at m goes r l ≡ many_at n goes r l) → (o : Option (X × List Token)) → r k ≡ o
        → ◌>>=◌ {B = List X × List Token} o (λ x. many_at m goes r x.1 >>= λ xs. Some (x.0 ∷ xs.0, xs.1)) ≡ ◌>>=◌ {B = List X × List Token} o (λ x. many_at n goes r x.1 >>= λ xs. Some (x.0 ∷ xs.0, xs.1))
    by again None e = refl
    by again (Some x) e =
        let one = p k x.0 x.1 e in
        let size : length k ≡ length (one.0 ++ x.1) = ap length one.1 in
        let s = some x.0 one.0 one.2 in
        ap (λ (z : Option (List X × List Token)). z >>= λ xs. Some (x.0 ∷ xs.0, xs.1))
        (again x.1 (omega (arith, size, length-append one.0 x.1, s, h)) (omega (arith, size, length-append one.0 x.1, s, g)))

-- groups of any members: what a loop gathers of them, after what there is
module _ {M : Type 0} where
  abbrev Adding : List M → Option (List M × List Token) → Option (List M × List Token)
  Adding front read = made (λ xs. front ++ xs) read

  abbrev Together : List (List M) → List M
  Together gs = flat_map (λ g. g) gs

  abbrev Gathered : List M → Option (List (List M) × List Token) → Option (List M × List Token)
  Gathered front read = made (λ gs. front ++ Together gs) read

  gather : (front xs : List M) (o : Option (List (List M) × List Token)) → Gathered front (o >>= λ gs. Some (xs ∷ gs.0, gs.1)) ≡ Gathered (front ++ xs) o
  gather front xs None = refl
  gather front xs (Some x) = ap (λ (z : List M). Some (z, x.1)) (sym (append_assoc front xs (Together x.0)))

  -- The group that was appended to a list.
  group_was : (front new : List M) (o : Option (List M × List Token)) (k : List Token) → Adding front o ≡ Some (new, k) → (xs : List M) × (o ≡ Some (xs, k)) × (new ≡ front ++ xs)
  group_was front new None k e = absurd (let f : ◌≡◌ {A = Option (List M × List Token)} None (Some (new, k)) = e in cc)
  group_was front new (Some x) k e =
      let p = same_some (front ++ x.0, x.1) (new, k) e in
      (x.0, ap (λ (z : List M × List Token). Some (x.0, z.1)) p, ap (λ (z : List M × List Token). z.0) (sym p))

  group_not : (front : List M) (o : Option (List M × List Token)) → Adding front o ≡ None → o ≡ None
  group_not front None e = refl
  group_not front (Some x) e = absurd (let f : ◌≡◌ {A = Option (List M × List Token)} (Some (front ++ x.0, x.1)) None = e in cc)

module _ {M : Type 0} (word : List ℕ) (r : Reader (List M)) (P : List M → Form Token) (sound : Sound (paren_at word r) P) (some : (x : List M) (front : List Token) → P x front → 0 < length front) where
  abbrev AllGroups : Reader (List (List M))
  AllGroups k = many_at (suc (length k)) (begins_group word) (paren_at word r) k

  step : (k : List Token) → begins_group word k ≡ true → AllGroups k ≡ (paren_at word r k >>= λ x. AllGroups x.1 >>= λ xs. Some (x.0 ∷ xs.0, xs.1))
  step k b = cond-true (begins_group word k) _ _ b ∙ by (paren_at word r k) refl
    where
      by : (o : Option (List M × List Token)) → paren_at word r k ≡ o
          → ◌>>=◌ {B = List (List M) × List Token} o (λ x. many_at (length k) (begins_group word) (paren_at word r) x.1 >>= λ xs. Some (x.0 ∷ xs.0, xs.1))
          ≡ ◌>>=◌ {B = List (List M) × List Token} o (λ x. AllGroups x.1 >>= λ xs. Some (x.0 ∷ xs.0, xs.1))
      by None e = refl
      by (Some x) e =
          let one = sound k x.0 x.1 e in
          let size : length k ≡ length (one.0 ++ x.1) = ap length one.1 in
          let s = some x.0 one.0 one.2 in
          ap (λ (z : Option (List (List M) × List Token)). z >>= λ xs. Some (x.0 ∷ xs.0, xs.1))
          (many_is (begins_group word) (paren_at word r) P sound some (length k) (suc (length x.1)) x.1 (omega (arith, size, length-append one.0 x.1, s)) (omega arith))

  pub groups_on : (front new : List M) (j k : List Token) → true ≡ begins_group word j → Adding front (paren_at word r j) ≡ Some (new, k) → Gathered front (AllGroups j) ≡ Gathered new (AllGroups k)
  groups_on front new j k b e =
      let g = group_was front new (paren_at word r j) k e in
      ap (Gathered front) (step j (sym b) ∙ bind_is (paren_at word r j) _ (g.0, k) g.1) ∙ gather front g.0 (AllGroups k)
      ∙ ap (λ (z : List M). Gathered z (AllGroups k)) (sym g.2)

  pub groups_out : (front : List M) (j : List Token) → true ≡ begins_group word j → Adding front (paren_at word r j) ≡ None → Gathered front (AllGroups j) ≡ None
  groups_out front j b e =
      ap (Gathered front) (step j (sym b) ∙ ap (λ (o : Option (List M × List Token)). o >>= λ x. AllGroups x.1 >>= λ xs. Some (x.0 ∷ xs.0, xs.1)) (group_not front (paren_at word r j) e))

  pub groups_done : (front : List M) (j : List Token) → false ≡ begins_group word j → Gathered front (AllGroups j) ≡ Some (front, j)
  groups_done front j b = ap (Gathered front) (cond-false (begins_group word j) _ _ (sym b)) ∙ ap (λ (z : List M). Some (z, j)) (append-nil front)

  pub rest_shorter : (front new : List M) (j k : List Token) → Adding front (paren_at word r j) ≡ Some (new, k) → length k < length j
  rest_shorter front new j k e =
      let g = group_was front new (paren_at word r j) k e in
      let one = sound j g.0 k g.1 in
      let size : length j ≡ length (one.0 ++ k) = ap length one.1 in
      omega (arith, size, length-append one.0 k, some g.0 one.0 one.2)

-- Groups of value types.
group_size : (pr : Profile) (word : List ℕ) (ts : List ValType) (front : List Token) → OfUnnamed pr word ts front → 0 < length front
group_size pr word ts front h = (group_begins pr word ts front [] h).1

abbrev pub after_groups : List ValType → Option (List (List ValType) × List Token) → Option (List ValType × List Token)
after_groups front read = made (λ gs. front ++ joined gs) read

pub groups_more : (pr : Profile) (word : List ℕ) (front new : List ValType) (j k : List Token) → true ≡ begins_group word j → adding front (paren_at word (types_at pr) j) ≡ Some (new, k)
    → after_groups front (groups_at pr word j) ≡ after_groups new (groups_at pr word k)
unfolding groups_at
groups_more pr word front new j k b e = groups_on word (types_at pr) (OfUnnamed pr word) (group_sound pr word) (group_size pr word) front new j k b e

pub groups_fail : (pr : Profile) (word : List ℕ) (front : List ValType) (j : List Token) → true ≡ begins_group word j → adding front (paren_at word (types_at pr) j) ≡ None → after_groups front (groups_at pr word j) ≡ None
unfolding groups_at
groups_fail pr word front j b e = groups_out word (types_at pr) (OfUnnamed pr word) (group_sound pr word) (group_size pr word) front j b e

pub groups_over : (pr : Profile) (word : List ℕ) (front : List ValType) (j : List Token) → false ≡ begins_group word j → after_groups front (groups_at pr word j) ≡ Some (front, j)
unfolding groups_at
groups_over pr word front j b = groups_done word (types_at pr) (OfUnnamed pr word) (group_sound pr word) (group_size pr word) front j b

pub groups_begin : (o : Option (List (List ValType) × List Token)) → after_groups [] o ≡ made joined o
groups_begin None = refl
groups_begin (Some x) = refl

pub group_shrinks : (pr : Profile) (word : List ℕ) (front new : List ValType) (j k : List Token) → adding front (paren_at word (types_at pr) j) ≡ Some (new, k) → length k < length j
group_shrinks pr word front new j k e = rest_shorter word (types_at pr) (OfUnnamed pr word) (group_sound pr word) (group_size pr word) front new j k e

-- ---- comparison

pub types_from : (ts us : List ValType) → ts ≡ us → same_types ts us ≡ true
types_from ts us e = ap (same_types ts) (sym e) ∙ types_same ts

-- The comparison of lists in the code.
pub same_of : (b : Bool) (ts us : List ValType) → ((b ≡ true) ↔ (ts ≡ us)) → b ≡ same_types ts us
same_of true ts us h = sym (types_from ts us (h.0 refl))
same_of false ts us h = sym (false_from_ne_true (same_types ts us) (λ e. let f : false ≡ true = h.1 (same_types_are ts us e) in cc))

pub no_types_at : (ts : List ValType) → length ts ≡ 0 → no_types ts ≡ true
no_types_at [] e = refl
no_types_at (t ∷ ts) e = absurd (omega (arith, e))

pub some_types_at : (ts : List ValType) → 0 < length ts → no_types ts ≡ false
some_types_at [] e = absurd (omega (arith, e))
some_types_at (t ∷ ts) e = refl

-- ---- the whole

abbrev Written : Type 0
Written = List (List ValType) × List (List ValType)

-- the groups of parameters and of results
abbrev both : (pr : Profile) → List Token → Option (Written × List Token)
both pr k = then_at (groups_at pr (codes "param")) (groups_at pr (codes "result")) k

abbrev with_type : ℕ → Option (Written × List Token) → Option ((ℕ × Written) × List Token)
with_type x o = o >>= λ b. Some ((x, b.0), b.1)

abbrev fitting : Names → Option ((ℕ × Written) × List Token) → Option (ℕ × List Token)
fitting names o = o >>= λ r. checked names r.0.0 r.0.1.0 r.0.1.1 >>= λ y. Some (y, r.1)

abbrev use_by : (pr : Profile) → Names → Option (ℕ × List Token) → Option (ℕ × List Token)
use_by pr names o = fitting names (o >>= λ a. with_type a.0 (both pr a.1))

abbrev After : Names → ℕ → Option (Written × List Token) → Option (ℕ × List Token)
After names x o = fitting names (with_type x o)

use_is : (pr : Profile) (names : Names) (x : ℕ) (j k : List Token) → paren_at (codes "type") (atom_at (index_of names.types)) j ≡ Some (x, k) → use_at pr names j ≡ After names x (both pr k)
unfolding use_at
use_is pr names x j k e = ap (use_by pr names) e

pub use_none : (pr : Profile) (names : Names) (j : List Token) → paren_at (codes "type") (atom_at (index_of names.types)) j ≡ None → use_at pr names j ≡ None
unfolding use_at
use_none pr names j e = ap (use_by pr names) e

made_was : (o : Option (List (List ValType) × List Token)) (ts : List ValType) (k : List Token) → made joined o ≡ Some (ts, k) → (gs : List (List ValType)) × (o ≡ Some (gs, k)) × (joined gs ≡ ts)
made_was None ts k e = absurd (let f : ◌≡◌ {A = Option (List ValType × List Token)} None (Some (ts, k)) = e in cc)
made_was (Some x) ts k e =
    let p = same_some (joined x.0, x.1) (ts, k) e in
    (x.0, ap (λ (z : List ValType × List Token). Some (x.0, z.1)) p, ap (λ (z : List ValType × List Token). z.0) p)

made_not : (o : Option (List (List ValType) × List Token)) → made joined o ≡ None → o ≡ None
made_not None e = refl
made_not (Some x) e = absurd (let f : ◌≡◌ {A = Option (List ValType × List Token)} (Some (joined x.0, x.1)) None = e in cc)

checked_is : (names : Names) (x : ℕ) (f : Signature) (ps rs : List (List ValType)) → slice_get names.signatures x ≡ Some f → checked names x ps rs ≡ cond (fits f (joined ps) (joined rs)) (Some x) None
checked_is names x f ps rs e = bind_is (slice_get names.signatures x) _ f e

abbrev Checked : Names → ℕ → List (List ValType) → List (List ValType) → List Token → Option (ℕ × List Token)
Checked names x ps rs k = checked names x ps rs >>= λ y. Some (y, k)

after_both : (pr : Profile) (names : Names) (x : ℕ) (j k l : List Token) (ps rs : List (List ValType)) → groups_at pr (codes "param") j ≡ Some (ps, k) → groups_at pr (codes "result") k ≡ Some (rs, l)
    → After names x (both pr j) ≡ Checked names x ps rs l
after_both pr names x j k l ps rs e g =
    ap (After names x)
    (bind_is (groups_at pr (codes "param") j) _ (ps, k) e ∙ bind_is (groups_at pr (codes "result") k) _ (rs, l) g)

checked_fits : (names : Names) (x : ℕ) (f : Signature) (ps rs : List ValType) (gs hs : List (List ValType)) (l : List Token) → slice_get names.signatures x ≡ Some f → joined gs ≡ ps → joined hs ≡ rs
    → Checked names x gs hs l ≡ ◌>>=◌ {B = ℕ × List Token} (cond (fits f ps rs) (Some x) None) (λ y. Some (y, l))
checked_fits names x f ps rs gs hs l e a b =
    ap (λ (o : Option ℕ). ◌>>=◌ {B = ℕ × List Token} o (λ y. Some (y, l)))
    (checked_is names x f gs hs e ∙ ap (λ (z : List ValType). cond (fits f z (joined hs)) (Some x) None) a ∙ ap (λ (z : List ValType). cond (fits f ps z) (Some x) None) b)

pub use_found : (pr : Profile) (names : Names) (x : ℕ) (f : Signature) (ps rs : List ValType) (i j k l : List Token) → paren_at (codes "type") (atom_at (index_of names.types)) i ≡ Some (x, j) → slice_get names.signatures x ≡ Some f
    → made joined (groups_at pr (codes "param") j) ≡ Some (ps, k) → made joined (groups_at pr (codes "result") k) ≡ Some (rs, l) → true ≡ fits f ps rs → use_at pr names i ≡ Some (x, l)
use_found pr names x f ps rs i j k l t e g h b =
    let p = made_was (groups_at pr (codes "param") j) ps k g in let r = made_was (groups_at pr (codes "result") k) rs l h in
    use_is pr names x i j t ∙ after_both pr names x j k l p.0 r.0 p.1 r.1 ∙ checked_fits names x f ps rs p.0 r.0 l e p.2 r.2
    ∙ ap (λ (c : Bool). ◌>>=◌ {B = ℕ × List Token} (cond c (Some x) None) (λ y. Some (y, l))) (sym b)

pub use_wrong : (pr : Profile) (names : Names) (x : ℕ) (f : Signature) (ps rs : List ValType) (i j k l : List Token) → paren_at (codes "type") (atom_at (index_of names.types)) i ≡ Some (x, j) → slice_get names.signatures x ≡ Some f
    → made joined (groups_at pr (codes "param") j) ≡ Some (ps, k) → made joined (groups_at pr (codes "result") k) ≡ Some (rs, l) → false ≡ fits f ps rs → use_at pr names i ≡ None
use_wrong pr names x f ps rs i j k l t e g h b =
    let p = made_was (groups_at pr (codes "param") j) ps k g in let r = made_was (groups_at pr (codes "result") k) rs l h in
    use_is pr names x i j t ∙ after_both pr names x j k l p.0 r.0 p.1 r.1 ∙ checked_fits names x f ps rs p.0 r.0 l e p.2 r.2
    ∙ ap (λ (c : Bool). ◌>>=◌ {B = ℕ × List Token} (cond c (Some x) None) (λ y. Some (y, l))) (sym b)

pub use_params : (pr : Profile) (names : Names) (x : ℕ) (i j : List Token) → paren_at (codes "type") (atom_at (index_of names.types)) i ≡ Some (x, j) → made joined (groups_at pr (codes "param") j) ≡ None → use_at pr names i ≡ None
use_params pr names x i j t g =
    use_is pr names x i j t
    ∙ ap (λ (o : Option (List (List ValType) × List Token)). After names x (o >>= λ a. groups_at pr (codes "result") a.1 >>= λ b. Some ((a.0, b.0), b.1)))
    (made_not (groups_at pr (codes "param") j) g)

pub use_results : (pr : Profile) (names : Names) (x : ℕ) (ps : List ValType) (i j k : List Token) → paren_at (codes "type") (atom_at (index_of names.types)) i ≡ Some (x, j)
    → made joined (groups_at pr (codes "param") j) ≡ Some (ps, k) → made joined (groups_at pr (codes "result") k) ≡ None → use_at pr names i ≡ None
use_results pr names x ps i j k t g h =
    let p = made_was (groups_at pr (codes "param") j) ps k g in
    use_is pr names x i j t
    ∙ ap (After names x)
    (bind_is (groups_at pr (codes "param") j) _ (p.0, k) p.1 ∙ ap (λ (o : Option (List (List ValType) × List Token)). o >>= λ b. Some ((p.0, b.0), b.1)) (made_not (groups_at pr (codes "result") k) h))

pub use_untyped : (pr : Profile) (names : Names) (x : ℕ) (i j : List Token) → paren_at (codes "type") (atom_at (index_of names.types)) i ≡ Some (x, j) → slice_get names.signatures x ≡ None → use_at pr names i ≡ None
use_untyped pr names x i j t e = use_is pr names x i j t ∙ by (both pr j)
  where
    none : (ps rs : List (List ValType)) → checked names x ps rs ≡ None
    none ps rs = ap (λ (o : Option Signature). ◌>>=◌ {B = ℕ} o (λ f. cond (fits f (joined ps) (joined rs)) (Some x) None)) e

    by : (o : Option (Written × List Token)) → After names x o ≡ None
    by None = refl
    by (Some r) = ap (λ (o : Option ℕ). ◌>>=◌ {B = ℕ × List Token} o (λ y. Some (y, r.1))) (none r.0.0 r.0.1)

pub ruleset types_laws = (types_more, types_fail, types_over, fails_refused)

pub ruleset group_laws = (group_none)

pub ruleset groups_laws = (groups_more, groups_fail, groups_over, groups_begin, group_shrinks)

pub ruleset no_type_laws = (no_types_at, some_types_at)

-- a refusal that is passed on
pub fails_on : {X Y : Type 0} (w : TextWhy) (o : Option X) (p : Option Y) → (o ≡ None → p ≡ None) → Fails w o → Fails w p
fails_on why.Memory o p f h = tt
fails_on why.NotUtf8 o p f h = h
fails_on why.BadToken o p f h = h
fails_on why.OpenComment o p f h = h
fails_on why.OpenString o p f h = h
fails_on why.BadEscape o p f h = h
fails_on _ o p f h = f h

pub fails_use : {Y : Type 0} (w : TextWhy) (read : Option Y) → w ≡ why.TypeUse → read ≡ None → Fails w read
fails_use w read e n = subst (λ (z : TextWhy). Fails z read) (sym e) n

-- ---- no form follows

pub call_none : (pr : Profile) (names : Names) (i : List Token) → use_at pr names i ≡ None → call_use_at pr names i ≡ None
unfolding call_use_at
call_none pr names i e = ap (λ (o : Option (ℕ × List Token)). alone_by o) e

pub call_untaken : (pr : Profile) (names : Names) (j : List Token) → paren_at (codes "type") (atom_at (index_of names.types)) j ≡ None → call_use_at pr names j ≡ None
call_untaken pr names j e = call_none pr names j (use_none pr names j e)

pub call_found : (pr : Profile) (names : Names) (x : ℕ) (i l : List Token) → use_at pr names i ≡ Some (x, l) → begins_open l ≡ false → call_use_at pr names i ≡ Some (x, l)
unfolding call_use_at
call_found pr names x i l e b = bind_is (use_at pr names i) (λ y. cond (begins_open y.1) None (Some y)) (x, l) e ∙ cond-false (begins_open l) _ _ b

call_open : (pr : Profile) (names : Names) (x : ℕ) (i l : List Token) → use_at pr names i ≡ Some (x, l) → begins_open l ≡ true → call_use_at pr names i ≡ None
unfolding call_use_at
call_open pr names x i l e b = bind_is (use_at pr names i) (λ y. cond (begins_open y.1) None (Some y)) (x, l) e ∙ cond-true (begins_open l) _ _ b

pub call_form : (pr : Profile) (names : Names) (x : ℕ) (f : Signature) (ps rs : List ValType) (i j k l : List Token) → paren_at (codes "type") (atom_at (index_of names.types)) i ≡ Some (x, j) → slice_get names.signatures x ≡ Some f
    → made joined (groups_at pr (codes "param") j) ≡ Some (ps, k) → made joined (groups_at pr (codes "result") k) ≡ Some (rs, l) → begins_open l ≡ true → call_use_at pr names i ≡ None
call_form pr names x f ps rs i j k l t e g h b = by (fits f ps rs) refl
  where
    by : (c : Bool) → fits f ps rs ≡ c → call_use_at pr names i ≡ None
    by true z = call_open pr names x i l (use_found pr names x f ps rs i j k l t e g h (sym z)) b
    by false z = call_none pr names i (use_wrong pr names x f ps rs i j k l t e g h (sym z))

pub params_fail : (pr : Profile) (names : Names) (x : ℕ) (w : TextWhy) (i j : List Token) → paren_at (codes "type") (atom_at (index_of names.types)) i ≡ Some (x, j) → Fails w (made joined (groups_at pr (codes "param") j))
    → Fails w (call_use_at pr names i)
params_fail pr names x w i j t h = fails_on w (made joined (groups_at pr (codes "param") j)) (call_use_at pr names i) (λ n. call_none pr names i (use_params pr names x i j t n)) h

pub results_fail : (pr : Profile) (names : Names) (x : ℕ) (ps : List ValType) (w : TextWhy) (i j k : List Token) → paren_at (codes "type") (atom_at (index_of names.types)) i ≡ Some (x, j) → made joined (groups_at pr (codes "param") j) ≡ Some (ps, k)
    → Fails w (made joined (groups_at pr (codes "result") k)) → Fails w (call_use_at pr names i)
results_fail pr names x ps w i j k t g h = fails_on w (made joined (groups_at pr (codes "result") k)) (call_use_at pr names i) (λ n. call_none pr names i (use_results pr names x ps i j k t g n)) h

pub fails_at : {Y : Type 0} (w : TextWhy) (read : Option Y) → w ≡ why.Expected → read ≡ None → Fails w read
fails_at w read e n = subst (λ (z : TextWhy). Fails z read) (sym e) n

pub ruleset use_laws = (call_untaken, params_fail, results_fail)
