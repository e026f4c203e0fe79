-- The first pass, head by head: each step consumes tokens and keeps identifiers distinct.
use Rattle.std.proofs.Common.{◌≡◌, ℕ, zero, suc, ◌<◌, ◌≤◌, ◌+◌, ◌-◌, Bool, true, false, cond, List, [], ◌∷◌, ◌++◌, length, Option, Some, None, refl, sym, ap, subst, ◌∙◌, inl, inr, arith, length-append}
use Rattle.std.proofs.lemmas.Bool.{cond-true, cond-false, and_from}
use Rattle.wm_syntax.specs.declared.modules.ExportKind.{ExportKind}
use Rattle.wm_syntax.specs.declared.modules.ExportKind.TheVariants as kind
use Rattle.wm_syntax.specs.Types.{Signature}
use Rattle.wm_syntax.specs.declared.profile.Profile.{Profile}
use Rattle.wm_tokens.specs.Tokens.{Token, open_paren, close_paren, string, atom}
use Rattle.wm_tokens.specs.Identifiers.{Id, Ids, AreDistinct, WritesId}
use Rattle.wm_tokens.specs.Written.{Names}
use Rattle.wm_tokens.specs.Fields.{HasDistinct, WritesName}
use Rattle.wm_read.specs.declared.fields.keywords.FieldKind.{FieldKind}
use Rattle.wm_read.specs.declared.fields.keywords.FieldKind.TheVariants as field
use Rattle.wm_read.specs.exact.Fields.{field_named, item_named, name_at, space_of}
use Rattle.wm_read.specs.exact.FirstReading.{Noted, with_item, with_type, free_id_at, skip, type_head_at, desc_head_at, import_head_at, item_head_at, start_head_at, other_head_at, head_by, head_at, heads_within, heads_at, names_in}
use Rattle.wm_read.specs.exact.Signatures.{signature_at}
use Rattle.wm_bodies.specs.exact.Reading.{Reader, ◌>>=◌, open_at, close_at, atom_at, id_at, is_new}
use Rattle.wm_bodies.specs.exact.TypeUses.{begins_open}
use Rattle.wm_tokens.proofs.Basics.{chosen, same_some}
use Rattle.wm_read.proofs.DistinctIds.{new_distinct}
use Rattle.wm_read.proofs.FieldParts.{name_sound}
use Rattle.wm_bodies.proofs.Immediates.{id_sound}
use Rattle.wm_bodies.proofs.Readers.{Sound, bind_ok, bind_is}
use Rattle.wm_read.proofs.SignatureLaws.{OfSignature, signature_sound}

-- ---- skipping

pub skip_open : (n : ℕ) (j k : List Token) → 0 < n → j ≡ open_paren ∷ k → skip n j ≡ skip (n + 1) k
skip_open zero j k lt e = absurd (omega (arith, lt))
skip_open (suc n) j k lt e = ap (skip (suc n)) e ∙ ap (λ (m : ℕ). skip m k) (let m : suc (suc n) ≡ suc n + 1 = omega arith in m)

pub skip_close : (n : ℕ) (j k : List Token) → 0 < n → j ≡ close_paren ∷ k → skip n j ≡ skip (n - 1) k
skip_close zero j k lt e = absurd (omega (arith, lt))
skip_close (suc n) j k lt e = ap (skip (suc n)) e ∙ ap (λ (m : ℕ). skip m k) (let m : n ≡ suc n - 1 = omega arith in m)

pub skip_string : (n : ℕ) (b : List ℕ) (j k : List Token) → 0 < n → j ≡ string b ∷ k → skip n j ≡ skip n k
skip_string zero b j k lt e = absurd (omega (arith, lt))
skip_string (suc n) b j k lt e = ap (skip (suc n)) e

pub skip_atom : (n : ℕ) (a : List ℕ) (j k : List Token) → 0 < n → j ≡ atom a ∷ k → skip n j ≡ skip n k
skip_atom zero a j k lt e = absurd (omega (arith, lt))
skip_atom (suc n) a j k lt e = ap (skip (suc n)) e

pub skip_end : (n : ℕ) (j : List Token) → 0 < n → j ≡ [] → skip n j ≡ None
skip_end zero j lt e = absurd (omega (arith, lt))
skip_end (suc n) j lt e = ap (skip (suc n)) e

pub skip_over : (n : ℕ) (j : List Token) → n ≤ 0 → skip n j ≡ Some j
skip_over zero j le = refl
skip_over (suc n) j le = absurd (omega (arith, le))

pub ruleset skip_laws = (skip_open, skip_close, skip_string, skip_atom, skip_end, skip_over)

-- ---- reading and skipping leave no more tokens

skipped : (n : ℕ) (j k : List Token) → skip n j ≡ Some k → length k ≤ length j
skipped zero j k e = let s : j ≡ k = same_some j k e in omega (arith, ap length s)
skipped (suc n) [] k e = absurd cc
skipped (suc n) (open_paren ∷ j) k e = let h = skipped (suc (suc n)) j k e in omega (arith, h)
skipped (suc n) (close_paren ∷ j) k e = let h = skipped n j k e in omega (arith, h)
skipped (suc n) (atom a ∷ j) k e = let h = skipped (suc n) j k e in omega (arith, h)
skipped (suc n) (string b ∷ j) k e = let h = skipped (suc n) j k e in omega (arith, h)

-- A reader leaves no more tokens than it was given.
behind : {X : Type 0} (r : Reader X) (W : X → List Token → Type 0) → Sound r W → (j : List Token) (x : X) (k : List Token) → r j ≡ Some (x, k) → length k ≤ length j
behind r W s j x k e = let g = s j x k e in let size : length j ≡ length (g.0 ++ k) = ap length g.1 in omega (arith, size, length-append g.0 k)

opened : (j : List Token) (x : Unit {0} × List Token) → open_at j ≡ Some x → length j ≡ suc (length x.1)
opened [] x e = absurd cc
opened (open_paren ∷ j) x e = ap (λ (z : Unit {0} × List Token). suc (length z.1)) (same_some (tt, j) x e)
opened (close_paren ∷ j) x e = absurd cc
opened (string b ∷ j) x e = absurd cc
opened (atom a ∷ j) x e = absurd cc

closed : (j : List Token) (x : Unit {0} × List Token) → close_at j ≡ Some x → length x.1 ≤ length j
closed [] x e = absurd cc
closed (close_paren ∷ j) x e = let s : length j ≡ length x.1 = ap (λ (z : Unit {0} × List Token). length z.1) (same_some (tt, j) x e) in omega (arith, s)
closed (open_paren ∷ j) x e = absurd cc
closed (string b ∷ j) x e = absurd cc
closed (atom a ∷ j) x e = absurd cc

worded : {X : Type 0} (read : List ℕ → Option X) (j : List Token) (x : X × List Token) → atom_at read j ≡ Some x → length x.1 ≤ length j
worded read [] x e = absurd cc
worded read (open_paren ∷ j) x e = absurd cc
worded read (close_paren ∷ j) x e = absurd cc
worded read (string b ∷ j) x e = absurd cc
worded {X} read (atom a ∷ j) x e =
    let g = bind_ok (read a) (λ y. Some (y, j)) x e in
    let s : length j ≡ length x.1 = ap (λ (z : X × List Token). length z.1) (same_some (g.0, j) x g.2) in omega (arith, s)

-- ---- identifiers stay distinct

pub free_distinct : (ids : Ids) (id : Id) → is_new ids id ≡ true → AreDistinct ids → AreDistinct (ids ++ id ∷ [])
free_distinct ids id h d = new_distinct ids (id ∷ []) d (and_from (is_new ids id) true h refl)

free_found : (ids : Ids) (j : List Token) (x : Id × List Token) → free_id_at ids j ≡ Some x → (is_new ids x.0 ≡ true) × (length x.1 ≤ length j)
free_found ids j x e =
    let g = bind_ok (id_at j) (λ i. cond (is_new ids i.0) (Some i) None) x e in
    elim (chosen (is_new ids g.0.0) (Some g.0) None (Some x) g.2) [
      | inl p ↦ (let s = same_some g.0 x p.1 in (subst (λ (z : Id × List Token). is_new ids z.0 ≡ true) s p.0, subst (λ (z : Id × List Token). length z.1 ≤ length j) s (behind id_at WritesId id_sound j g.0.0 g.0.1 g.1)))
      | inr p ↦ absurd (let f : ◌≡◌ {A = Option (Id × List Token)} None (Some x) = p.1 in cc)
    ]

pub with_type_distinct : (names : Names) (id : Id) (f : Signature) → is_new names.types id ≡ true → HasDistinct names → HasDistinct (with_type names id f)
with_type_distinct names id f h d =
    record { types = free_distinct names.types id h d.types; functions = d.functions; tables = d.tables; memories = d.memories; globals = d.globals }

pub with_item_distinct : (names : Names) (kind : ExportKind) (id : Id) → is_new (space_of names kind) id ≡ true → HasDistinct names → HasDistinct (with_item names kind id)
with_item_distinct names kind.Func id h d =
    record { types = d.types; functions = free_distinct names.functions id h d.functions; tables = d.tables; memories = d.memories; globals = d.globals }
with_item_distinct names kind.Table id h d =
    record { types = d.types; functions = d.functions; tables = free_distinct names.tables id h d.tables; memories = d.memories; globals = d.globals }
with_item_distinct names kind.Memory id h d =
    record { types = d.types; functions = d.functions; tables = d.tables; memories = free_distinct names.memories id h d.memories; globals = d.globals }
with_item_distinct names kind.Global id h d =
    record { types = d.types; functions = d.functions; tables = d.tables; memories = d.memories; globals = free_distinct names.globals id h d.globals }

-- ---- a head

-- The properties that a step keeps, from one state and text to the next.
record Step (s t : Noted) (j k : List Token) : Type 0 where
  size : length k ≤ length j
  distinct : HasDistinct s.names → HasDistinct t.names

type_step : (pr : Profile) (s t : Noted) (j k : List Token) → type_head_at pr s j ≡ Some (t, k) → Step s t j k
type_step pr s t j k e =
    let i = bind_ok (free_id_at s.names.types j) _ (t, k) e in
    let f = bind_ok (signature_at pr i.0.1) _ (t, k) i.2 in
    let c = bind_ok (close_at f.0.1) _ (t, k) f.2 in
    let is : ◌≡◌ {A = Noted × List Token} (record s { names = with_type s.names i.0.0 f.0.0 }, c.0.1) (t, k) = same_some _ (t, k) c.2 in
    let free = free_found s.names.types j i.0 i.1 in
    let b = behind (signature_at pr) (OfSignature pr) (signature_sound pr) i.0.1 f.0.0 f.0.1 f.1 in
    let l = closed f.0.1 c.0 c.1 in
    subst (λ (z : Noted × List Token). Step s z.0 j z.1) is (record {
      size = omega (arith, free.1, b, l);
      distinct = with_type_distinct s.names i.0.0 f.0.0 free.0;
    })

desc_step : (s t : Noted) (j k : List Token) → desc_head_at s j ≡ Some (t, k) → Step s t j k
desc_step s t j k e =
    let o = bind_ok (open_at j) _ (t, k) e in
    let w = bind_ok (atom_at item_named o.0.1) _ (t, k) o.2 in
    let i = bind_ok (free_id_at (space_of s.names w.0.0) w.0.1) _ (t, k) w.2 in
    let is : ◌≡◌ {A = Noted × List Token} (record s { names = with_item s.names w.0.0 i.0.0 }, i.0.1) (t, k) = same_some _ (t, k) i.2 in
    let free = free_found (space_of s.names w.0.0) w.0.1 i.0 i.1 in
    let a = opened j o.0 o.1 in
    let b = worded item_named o.0.1 w.0 w.1 in
    subst (λ (z : Noted × List Token). Step s z.0 j z.1) is (record {
      size = omega (arith, free.1, a, b);
      distinct = with_item_distinct s.names w.0.0 i.0.0 free.0;
    })

import_step : (s t : Noted) (j k : List Token) → import_head_at s j ≡ Some (t, k) → Step s t j k
import_step s t j k e =
    let m = bind_ok (name_at j) _ (t, k) e in
    let n = bind_ok (name_at m.0.1) _ (t, k) m.2 in
    let d = bind_ok (desc_head_at s n.0.1) _ (t, k) n.2 in
    let r = bind_ok (skip 2 d.0.1) _ (t, k) d.2 in
    let is : ◌≡◌ {A = Noted × List Token} (d.0.0, r.0) (t, k) = same_some _ (t, k) r.2 in
    let step = desc_step s d.0.0 n.0.1 d.0.1 d.1 in
    let a = behind name_at WritesName name_sound j m.0.0 m.0.1 m.1 in
    let b = behind name_at WritesName name_sound m.0.1 n.0.0 n.0.1 n.1 in
    let c = skipped 2 d.0.1 r.0 r.1 in
    subst (λ (z : Noted × List Token). Step s z.0 j z.1) is (record { size = omega (arith, step.size, a, b, c); distinct = step.distinct })

item_step : (kind : ExportKind) (s t : Noted) (j k : List Token) → item_head_at kind s j ≡ Some (t, k) → Step s t j k
item_step kind s t j k e =
    let i = bind_ok (free_id_at (space_of s.names kind) j) _ (t, k) e in
    let r = bind_ok (skip 1 i.0.1) _ (t, k) i.2 in
    let is : ◌≡◌ {A = Noted × List Token} (record s { names = with_item s.names kind i.0.0; defined = true }, r.0) (t, k) = same_some _ (t, k) r.2 in
    let free = free_found (space_of s.names kind) j i.0 i.1 in
    let a = skipped 1 i.0.1 r.0 r.1 in
    subst (λ (z : Noted × List Token). Step s z.0 j z.1) is (record { size = omega (arith, free.1, a); distinct = with_item_distinct s.names kind i.0.0 free.0 })

start_step : (s t : Noted) (j k : List Token) → start_head_at s j ≡ Some (t, k) → Step s t j k
start_step s t j k e =
    let r = bind_ok (skip 1 j) _ (t, k) e in
    let is : ◌≡◌ {A = Noted × List Token} (record s { started = true }, r.0) (t, k) = same_some _ (t, k) r.2 in
    subst (λ (z : Noted × List Token). Step s z.0 j z.1) is (record { size = skipped 1 j r.0 r.1; distinct = λ d. d })

other_step : (s t : Noted) (j k : List Token) → other_head_at s j ≡ Some (t, k) → Step s t j k
other_step s t j k e =
    let r = bind_ok (skip 1 j) _ (t, k) e in
    let is : ◌≡◌ {A = Noted × List Token} (s, r.0) (t, k) = same_some _ (t, k) r.2 in
    subst (λ (z : Noted × List Token). Step s z.0 j z.1) is (record { size = skipped 1 j r.0 r.1; distinct = λ d. d })

-- A rule on order allows it.
placed : (t : Bool) (o : Option (Noted × List Token)) (x : Noted × List Token) → cond t None o ≡ Some x → o ≡ Some x
placed true o x e = absurd (let f : ◌≡◌ {A = Option (Noted × List Token)} None (Some x) = e in cc)
placed false o x e = e

by_step : (pr : Profile) (w : FieldKind) (s t : Noted) (j k : List Token) → head_by pr w s j ≡ Some (t, k) → Step s t j k
unfolding head_by
by_step pr field.Type s t j k e = type_step pr s t j k e
by_step pr field.Import s t j k e = import_step s t j k (placed s.defined (import_head_at s j) (t, k) e)
by_step pr field.Func s t j k e = item_step kind.Func s t j k e
by_step pr field.Table s t j k e = item_step kind.Table s t j k e
by_step pr field.Memory s t j k e = item_step kind.Memory s t j k e
by_step pr field.Global s t j k e = item_step kind.Global s t j k e
by_step pr field.Start s t j k e = start_step s t j k (placed s.started (start_head_at s j) (t, k) e)
by_step pr field.Export s t j k e = other_step s t j k e
by_step pr field.Elem s t j k e = other_step s t j k e
by_step pr field.Data s t j k e = other_step s t j k e

head_step : (pr : Profile) (s t : Noted) (j k : List Token) → head_at pr s j ≡ Some (t, k) → (length k < length j) × (HasDistinct s.names → HasDistinct t.names)
unfolding head_at
head_step pr s t j k e =
    let o = bind_ok (open_at j) _ (t, k) e in
    let w = bind_ok (atom_at field_named o.0.1) _ (t, k) o.2 in
    let step = by_step pr w.0.0 s t w.0.1 k w.2 in
    let a = opened j o.0 o.1 in
    let b = worded field_named o.0.1 w.0 w.1 in
    (omega (arith, step.size, a, b), step.distinct)

pub head_shrinks : (pr : Profile) (s t : Noted) (j k : List Token) → head_at pr s j ≡ Some (t, k) → length k < length j
head_shrinks pr s t j k e = (head_step pr s t j k e).0

-- ---- all heads

-- Any sufficient bound gives the same answer.
any_fuel : (pr : Profile) (m n : ℕ) (s : Noted) (k : List Token) → length k < m → length k < n → heads_within pr m s k ≡ heads_within pr n s k
any_fuel pr zero n s k lm ln = absurd (omega (arith, lm))
any_fuel pr (suc m) zero s k lm ln = absurd (omega (arith, ln))
any_fuel pr (suc m) (suc n) s k lm ln =
    ap (λ (o : Option (Noted × List Token)). cond (begins_open k) o (Some (s, k)))
    (by (λ x e. let l = head_shrinks pr s x.0 k x.1 e in any_fuel pr m n x.0 x.1 (omega (arith, l, lm)) (omega (arith, l, ln))) (head_at pr s k) refl)
  where
    by : ((x : Noted × List Token) → head_at pr s k ≡ Some x → heads_within pr m x.0 x.1 ≡ heads_within pr n x.0 x.1) → (o : Option (Noted × List Token)) → head_at pr s k ≡ o
        → ◌>>=◌ {B = Noted × List Token} o (λ x. heads_within pr m x.0 x.1) ≡ ◌>>=◌ {B = Noted × List Token} o (λ x. heads_within pr n x.0 x.1)
    by f None e = refl
    by f (Some x) e = f x e

more : (pr : Profile) (s t : Noted) (j k : List Token) → begins_open j ≡ true → head_at pr s j ≡ Some (t, k) → heads_at pr s j ≡ heads_at pr t k
unfolding heads_at
more pr s t j k b e =
    let l = head_shrinks pr s t j k e in
    cond-true (begins_open j) _ _ b ∙ bind_is (head_at pr s j) (λ x. heads_within pr (length j) x.0 x.1) (t, k) e ∙ any_fuel pr (length j) (suc (length k)) t k l (omega arith)

pub heads_more : (pr : Profile) (s t : Noted) (j k : List Token) → true ≡ begins_open j → head_at pr s j ≡ Some (t, k) → names_in (heads_at pr s j) ≡ names_in (heads_at pr t k)
heads_more pr s t j k b e = ap names_in (more pr s t j k (sym b) e)

pub heads_fail : (pr : Profile) (s : Noted) (j : List Token) → true ≡ begins_open j → head_at pr s j ≡ None → names_in (heads_at pr s j) ≡ None
unfolding heads_at
heads_fail pr s j b e = ap names_in (cond-true (begins_open j) _ _ (sym b) ∙ ap (λ (o : Option (Noted × List Token)). ◌>>=◌ {B = Noted × List Token} o (λ x. heads_within pr (length j) x.0 x.1)) e)

pub heads_over : (pr : Profile) (s : Noted) (j : List Token) → false ≡ begins_open j → names_in (heads_at pr s j) ≡ Some (s.names, j)
unfolding heads_at
heads_over pr s j b = ap names_in (cond-false (begins_open j) _ _ (sym b))

pub ruleset heads_laws = (heads_more, heads_fail, heads_over, head_shrinks)

within_distinct : (pr : Profile) (n : ℕ) (s t : Noted) (j k : List Token) → heads_within pr n s j ≡ Some (t, k) → HasDistinct s.names → HasDistinct t.names
within_distinct pr zero s t j k e d = absurd cc
within_distinct pr (suc n) s t j k e d = elim (chosen (begins_open j) _ (Some (s, j)) (Some (t, k)) e) [
  | inl p ↦ (
      let h = bind_ok (head_at pr s j) (λ x. heads_within pr n x.0 x.1) (t, k) p.1 in
      within_distinct pr n h.0.0 t h.0.1 k h.2 ((head_step pr s h.0.0 j h.0.1 h.1).1 d))
  | inr p ↦ (let is : ◌≡◌ {A = Noted × List Token} (s, j) (t, k) = same_some (s, j) (t, k) p.1 in subst (λ (z : Noted × List Token). HasDistinct z.0.names) is d)
]

pub heads_distinct : (pr : Profile) (s t : Noted) (j k : List Token) → heads_at pr s j ≡ Some (t, k) → HasDistinct s.names → HasDistinct t.names
unfolding heads_at
heads_distinct pr s t j k e d = within_distinct pr (suc (length j)) s t j k e d
