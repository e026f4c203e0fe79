-- The loop that reads labels or indices.
use Rattle.std.proofs.Common.{◌≡◌, ℕ, ◌<◌, ◌≤◌, Bool, true, false, List, [], ◌∷◌, ◌++◌, length, Option, Some, None, cond, ◌+◌, arith, refl, sym, ap, ◌∙◌, append_assoc, length-append}
use Rattle.std.proofs.lemmas.Bool.{cond-true, cond-false, lt-ltb, le-ltb, ltb-true}
use Rattle.std.proofs.lemmas.List.{append-nil}
use Rattle.std.specs.Prelude.{nat_lt, not}
use Rattle.wm_tokens.specs.Tokens.{Token, open_paren, close_paren, string, atom}
use Rattle.wm_tokens.specs.Identifiers.{Ids}
use Rattle.wm_bodies.specs.inner.Pieces.{Piece, jump}
use Rattle.wm_bodies.specs.exact.Reading.{◌>>=◌, atom_at, index_of, is_word, begins_index, few_labels_at, labels_at, split_last, table_of, table_at}
use Rattle.wm_tokens.specs.declared.faults.TextWhy.{TextWhy}
use Rattle.wm_bodies.specs.inner.Views.{Fails}
use Rattle.wm_tokens.proofs.Basics.{same_some}
use Rattle.wm_bodies.proofs.Groups.{fails_on}
use Rattle.wm_bodies.proofs.Readers.{bind_ok, bind_is}
use Rattle.wm_bodies.proofs.Immediates.{labels_end}
use Rattle.wm_bodies.proofs.PieceLaws.{split_more}

abbrev pub with_front : List ℕ → Option (List ℕ × List Token) → Option (List ℕ × List Token)
with_front front read = read >>= λ x. Some (front ++ x.0, x.1)

regroup : (front : List ℕ) (l : ℕ) (o : Option (List ℕ × List Token)) → with_front front (o >>= λ x. Some (l ∷ x.0, x.1)) ≡ with_front (front ++ l ∷ []) o
regroup front l None = refl
regroup front l (Some x) = ap (λ (z : List ℕ). Some (z, x.1)) (sym (append_assoc front (l ∷ []) x.0))

pub labels_more : (front : List ℕ) (ids : Ids) (l : ℕ) (j k : List Token) → begins_index j ≡ true → atom_at (index_of ids) j ≡ Some (l, k) → with_front front (labels_at ids j) ≡ with_front (front ++ l ∷ []) (labels_at ids k)
labels_more front ids l [] k b e = cc
labels_more front ids l (open_paren ∷ j) k b e = cc
labels_more front ids l (close_paren ∷ j) k b e = cc
labels_more front ids l (string s ∷ j) k b e = cc
labels_more front ids l (atom a ∷ j) k b e =
    let g = bind_ok (index_of ids a) (λ x. Some (x, j)) (l, k) e in
    let p : ◌≡◌ {A = ℕ × List Token} (g.0, j) (l, k) = some (g.0, j) (l, k) g.2 in
    ap (with_front front) (cond-false (is_word a) _ _ (word (is_word a) b) ∙ bind_is (index_of ids a) _ g.0 g.1) ∙ regroup front g.0 (labels_at ids j)
    ∙ ap (λ (z : ℕ × List Token). with_front (front ++ z.0 ∷ []) (labels_at ids z.1)) p
  where
    word : (t : Bool) → not t ≡ true → t ≡ false
    word true h = absurd (let f : false ≡ true = h in cc)
    word false h = refl

    some : (x y : ℕ × List Token) → ◌≡◌ {A = Option (ℕ × List Token)} (Some x) (Some y) → x ≡ y
    some x y e = cc

-- a label that is not read
pub labels_fail : (front : List ℕ) (ids : Ids) (j : List Token) → begins_index j ≡ true → atom_at (index_of ids) j ≡ None → with_front front (labels_at ids j) ≡ None
labels_fail front ids [] b e = cc
labels_fail front ids (open_paren ∷ j) b e = cc
labels_fail front ids (close_paren ∷ j) b e = cc
labels_fail front ids (string s ∷ j) b e = cc
labels_fail front ids (atom a ∷ j) b e = ap (with_front front) (cond-false (is_word a) _ _ (word (is_word a) b) ∙ by (index_of ids a) e)
  where
    word : (t : Bool) → not t ≡ true → t ≡ false
    word true h = absurd (let f : false ≡ true = h in cc)
    word false h = refl

    by : (o : Option ℕ) → ◌>>=◌ {B = ℕ × List Token} o (λ x. Some (x, j)) ≡ None → ◌>>=◌ {B = List ℕ × List Token} o (λ x. labels_at ids j >>= λ xs. Some (x ∷ xs.0, xs.1)) ≡ None
    by None e = refl
    by (Some x) e = cc

-- The labels end here.
pub labels_over : (front : List ℕ) (ids : Ids) (j : List Token) → begins_index j ≡ false → with_front front (labels_at ids j) ≡ Some (front, j)
labels_over front ids j f = ap (with_front front) (labels_end ids j f) ∙ ap (λ (z : List ℕ). Some (z, j)) (append-nil front)

pub ruleset labels_laws = (labels_more, labels_fail, labels_over)

-- ---- no more of them than so many

abbrev Read : Type 0
Read = List ℕ × List Token

abbrev few : ℕ → Read → Option Read
few m x = cond (nat_lt m (length x.0)) None (Some x)

pub few_none : (ids : Ids) (m : ℕ) (k : List Token) → labels_at ids k ≡ None → few_labels_at ids m k ≡ None
few_none ids m k e = ap (λ (o : Option Read). o >>= few m) e

pub few_whole : (ids : Ids) (m : ℕ) (k j : List Token) (xs : List ℕ) → labels_at ids k ≡ Some (xs, j) → length xs ≤ m → few_labels_at ids m k ≡ Some (xs, j)
few_whole ids m k j xs e le = bind_is (labels_at ids k) (few m) (xs, j) e ∙ cond-false (nat_lt m (length xs)) None (Some (xs, j)) (le-ltb m (length xs) le)

-- one more where there are as many as there may be
pub few_long : (front : List ℕ) (ids : Ids) (j k : List Token) (m : ℕ) → with_front front (labels_at ids j) ≡ labels_at ids k → begins_index j ≡ true → m ≤ length front → few_labels_at ids m k ≡ None
few_long front ids [] k m e b le = cc
few_long front ids (open_paren ∷ j) k m e b le = cc
few_long front ids (close_paren ∷ j) k m e b le = cc
few_long front ids (string s ∷ j) k m e b le = cc
few_long front ids (atom a ∷ j) k m e b le =
    ap (λ (o : Option Read). o >>= few m) (sym e) ∙ ap (λ (o : Option Read). with_front front o >>= few m) (cond-false (is_word a) _ _ (word (is_word a) b)) ∙ by (index_of ids a)
  where
    word : (t : Bool) → not t ≡ true → t ≡ false
    word true h = absurd (let f : false ≡ true = h in cc)
    word false h = refl

    more : (x : ℕ) (o : Option Read) → ◌>>=◌ {B = Read} (with_front front (o >>= λ xs. Some (x ∷ xs.0, xs.1))) (few m) ≡ None
    more x None = refl
    more x (Some xs) =
        cond-true (nat_lt m (length (front ++ x ∷ xs.0))) None (Some (front ++ x ∷ xs.0, xs.1))
        (lt-ltb m (length (front ++ x ∷ xs.0)) (omega (arith, length-append front (x ∷ xs.0), le)))

    by : (o : Option ℕ) → ◌>>=◌ {B = Read} (with_front front (o >>= λ x. labels_at ids j >>= λ xs. Some (x ∷ xs.0, xs.1))) (few m) ≡ None
    by None = refl
    by (Some x) = more x (labels_at ids j)

few_is : (m : ℕ) (o : Option Read) (x : Read) → o >>= few m ≡ Some x → o ≡ Some x
few_is m None x e = absurd cc
few_is m (Some y) x e = by (nat_lt m (length y.0)) e
  where
    by : (t : Bool) → cond t None (Some y) ≡ Some x → Some y ≡ Some x
    by true h = absurd cc
    by false h = h

pub ruleset few_laws = (labels_more, labels_fail, labels_over, few_none, few_whole, few_long)

-- ---- a table

split_size : (xs : List ℕ) (r : List ℕ × ℕ) → split_last xs ≡ Some r → length xs ≡ length r.0 + 1
split_size [] r e = absurd cc
split_size (x ∷ []) r e = cc
split_size (x ∷ y ∷ ys) r e =
    let g = bind_ok (split_last (y ∷ ys)) (λ r. Some (x ∷ r.0, r.1)) r e in
    let size : length (y ∷ ys) ≡ length g.0.0 + 1 = split_size (y ∷ ys) g.0 g.1 in
    let p : length (x ∷ g.0.0) ≡ length r.0 = ap (λ (z : List ℕ × ℕ). length z.0) (same_some (x ∷ g.0.0, g.0.1) r g.2) in
    omega (arith, size, p)

-- too many for a table
table_long : (xs : List ℕ) → nat_lt 0x1_0000_0000 (length xs) ≡ true → table_of xs ≡ None
table_long xs h = by (split_last xs) refl
  where
    by : (o : Option (List ℕ × ℕ)) → split_last xs ≡ o → ◌>>=◌ {B = Piece} o (λ r. cond (nat_lt (length r.0) 0x1_0000_0000) (Some (jump r.0 r.1)) None) ≡ None
    by None e = refl
    by (Some r) e =
        cond-false (nat_lt (length r.0) 0x1_0000_0000) (Some (jump r.0 r.1)) None
        (le-ltb (length r.0) 0x1_0000_0000 (omega (arith, split_size xs r e, ltb-true 0x1_0000_0000 (length xs) h)))

table_none : (ids : Ids) (k : List Token) → few_labels_at ids 0x1_0000_0000 k ≡ None → table_at ids k ≡ None
table_none ids k e = by (labels_at ids k) e
  where
    long : (t : Bool) (x : Read) → cond t None (Some x) ≡ None → t ≡ true
    long true x h = refl
    long false x h = absurd cc

    by : (o : Option Read) → o >>= few 0x1_0000_0000 ≡ None → ◌>>=◌ {B = Piece × List Token} o (λ x. table_of x.0 >>= λ p. Some (p, x.1)) ≡ None
    by None h = refl
    by (Some x) h = ap (λ (o : Option Piece). o >>= λ p. Some (p, x.1)) (table_long x.0 (long (nat_lt 0x1_0000_0000 (length x.0)) x h))

pub table_fails : (w : TextWhy) (ids : Ids) (k : List Token) → Fails w (few_labels_at ids 0x1_0000_0000 k) → Fails w (table_at ids k)
table_fails w ids k h = fails_on w (few_labels_at ids 0x1_0000_0000 k) (table_at ids k) (table_none ids k) h

pub table_fits : (xs ls : List ℕ) (l : ℕ) → length xs ≤ 0x1_0000_0000 → xs ≡ ls ++ l ∷ [] → length ls < 0x1_0000_0000
table_fits xs ls l le e = let size : length xs ≡ length (ls ++ l ∷ []) = ap length e in omega (arith, size, length-append ls (l ∷ []), le)

pub table_whole : (ids : Ids) (j k : List Token) (xs ls : List ℕ) (l : ℕ) → few_labels_at ids 0x1_0000_0000 j ≡ Some (xs, k) → xs ≡ ls ++ l ∷ [] → length ls < 0x1_0000_0000 → table_at ids j ≡ Some (jump ls l, k)
table_whole ids j k xs ls l e s lt =
    bind_is (labels_at ids j) _ (xs, k) (few_is 0x1_0000_0000 (labels_at ids j) (xs, k) e) ∙ bind_is (table_of xs) (λ p. Some (p, k)) (jump ls l)
    (ap table_of s ∙ bind_is (split_last (ls ++ l ∷ [])) _ (ls, l) (split_more ls l) ∙ cond-true (nat_lt (length ls) 0x1_0000_0000) _ _ (lt-ltb (length ls) 0x1_0000_0000 lt))

pub table_empty : (ids : Ids) (j k : List Token) (xs : List ℕ) → few_labels_at ids 0x1_0000_0000 j ≡ Some (xs, k) → xs ≡ [] → table_at ids j ≡ None
table_empty ids j k xs e s =
    bind_is (labels_at ids j) _ (xs, k) (few_is 0x1_0000_0000 (labels_at ids j) (xs, k) e) ∙ ap (λ (z : List ℕ). table_of z >>= λ p. Some (p, k)) s

pub ruleset table_laws = (table_fails, table_fits, table_whole, table_empty)
