-- After a successful first pass, a token is left after the locals of each function.
use Rattle.std.proofs.Common.{◌≡◌, ◌≢◌, ℕ, zero, suc, ◌≤◌, ◌⊎◌, Bool, true, false, cond, List, [], ◌∷◌, ◌++◌, length, Option, Some, None, refl, sym, ap, subst, ◌∙◌, inl, inr, arith, append_assoc, length-append}
use Rattle.std.proofs.lemmas.List.{append-nil}
use Rattle.std.specs.Prelude.{codes}
use Rattle.wm_syntax.specs.Spelling.{Form, Each, ◌▸◌}
use Rattle.wm_syntax.specs.declared.types.ValType.{ValType}
use Rattle.wm_syntax.specs.declared.modules.ExportKind.{ExportKind}
use Rattle.wm_syntax.specs.declared.modules.ExportKind.TheVariants as kind
use Rattle.wm_syntax.specs.declared.profile.Profile.{Profile}
use Rattle.wm_tokens.specs.Tokens.{Token, open_paren, close_paren, string, atom}
use Rattle.wm_tokens.specs.Fields.{Field, WritesName}
use Rattle.wm_tokens.specs.Identifiers.{Id, Ids, WritesId, Resolves}
use Rattle.wm_syntax.specs.Types.{type_text}
use Rattle.wm_tokens.specs.Written.{Named, Names, Paren, TypeUse, WritesGroup, WritesGroups, WritesResults, WritesType, WritesUnnamed}
use Rattle.wm_read.specs.declared.fields.keywords.FieldKind.{FieldKind}
use Rattle.wm_read.specs.declared.fields.keywords.FieldKind.TheVariants as field
use Rattle.wm_read.specs.exact.Fields.{field_at, field_named, item_named, name_at, space_of}
use Rattle.wm_read.specs.exact.FirstReading.{Noted, nothing, with_item, with_type, free_id_at, skip, type_head_at, desc_head_at, import_head_at, item_head_at, head_by, head_at, heads_within, heads_at, names_at}
use Rattle.wm_bodies.specs.exact.NamedUses.{named_use_at}
use Rattle.wm_bodies.specs.exact.Reading.{Reader, ◌>>=◌, open_at, close_at, atom_at, id_at, is_new}
use Rattle.wm_read.specs.exact.Signatures.{signature_at}
use Rattle.wm_read.specs.exact.TextModules.{all_names_at, end_at}
use Rattle.wm_bodies.specs.exact.TypeUses.{begins_open, named_at}
use Rattle.wm_read.specs.inner.Fields.{head_at as function_head_at}
use Rattle.wm_read.specs.inner.Tails.{IsTail}
use Rattle.wm_tokens.proofs.Basics.{chosen, same_some, same_tail}
use Rattle.wm_read.proofs.FieldParts.{name_sound}
use Rattle.wm_bodies.proofs.Immediates.{id_sound}
use Rattle.wm_read.proofs.ModuleFields.{field_behind}
use Rattle.wm_bodies.proofs.NamedGroups.{OfGroups, groups_are_written}
use Rattle.wm_bodies.proofs.NamedUses.{uses_are_written}
use Rattle.wm_bodies.proofs.Readers.{Sound, bind_ok, then_sound}
use Rattle.wm_read.proofs.SignatureLaws.{OfSignature, signature_sound}

-- ---- the tokens in front write what is read

abbrev Behind : List Token → List Token → Type 0
Behind j k = (f : List Token) × (j ≡ f ++ k)

-- The tokens after a closing parenthesis.
abbrev Past : List Token → List Token → Type 0
Past j k = (f : List Token) × (j ≡ f ++ close_paren ∷ k)

over : (i j k : List Token) → Behind i j → Past j k → Past i k
over i j k (f, e) (g, h) = (f ++ g, e ∙ ap (λ (z : List Token). f ++ z) h ∙ sym (append_assoc f g (close_paren ∷ k)))

behind : {X : Type 0} (r : Reader X) (W : X → Form Token) → Sound r W → (j : List Token) (x : X × List Token) → r j ≡ Some x → Behind j x.1
behind r W s j x e = let g = s j x.0 x.1 e in (g.0, g.1)

open_behind : (j : List Token) (x : Unit {0} × List Token) → open_at j ≡ Some x → Behind j x.1
open_behind [] x e = absurd cc
open_behind (open_paren ∷ j) x e = (open_paren ∷ [], ap (λ (z : Unit {0} × List Token). open_paren ∷ z.1) (same_some (tt, j) x e))
open_behind (close_paren ∷ j) x e = absurd cc
open_behind (string b ∷ j) x e = absurd cc
open_behind (atom a ∷ j) x e = absurd cc

atom_behind : {X : Type 0} (read : List ℕ → Option X) (j : List Token) (x : X × List Token) → atom_at read j ≡ Some x → Behind j x.1
atom_behind read [] x e = absurd cc
atom_behind read (open_paren ∷ j) x e = absurd cc
atom_behind read (close_paren ∷ j) x e = absurd cc
atom_behind read (string b ∷ j) x e = absurd cc
atom_behind {X} read (atom a ∷ j) x e =
    let g = bind_ok (read a) (λ y. Some (y, j)) x e in
    (atom a ∷ [], ap (λ (z : X × List Token). atom a ∷ z.1) (same_some (g.0, j) x g.2))

close_past : (j : List Token) (x : Unit {0} × List Token) → close_at j ≡ Some x → Past j x.1
close_past [] x e = absurd cc
close_past (close_paren ∷ j) x e = ([], ap (λ (z : Unit {0} × List Token). close_paren ∷ z.1) (same_some (tt, j) x e))
close_past (open_paren ∷ j) x e = absurd cc
close_past (string b ∷ j) x e = absurd cc
close_past (atom a ∷ j) x e = absurd cc

one_more : (t : Token) (j k : List Token) → Past j k → Past (t ∷ j) k
one_more t j k (f, e) = (t ∷ f, ap (λ (z : List Token). t ∷ z) e)

skip_past : (n : ℕ) (j k : List Token) → skip (suc n) j ≡ Some k → Past j k
skip_past n [] k e = absurd cc
skip_past n (open_paren ∷ j) k e = one_more open_paren j k (skip_past (suc n) j k e)
skip_past zero (close_paren ∷ j) k e = ([], ap (λ (z : List Token). close_paren ∷ z) (same_some j k e))
skip_past (suc n) (close_paren ∷ j) k e = one_more close_paren j k (skip_past n j k e)
skip_past n (atom a ∷ j) k e = one_more (atom a) j k (skip_past n j k e)
skip_past n (string b ∷ j) k e = one_more (string b) j k (skip_past n j k e)

-- ---- the first pass consumes closing parentheses

free_behind : (ids : Ids) (j : List Token) (x : Id × List Token) → free_id_at ids j ≡ Some x → Behind j x.1
free_behind ids j x e =
    let g = bind_ok (id_at j) (λ i. cond (is_new ids i.0) (Some i) None) x e in
    elim (chosen (is_new ids g.0.0) (Some g.0) None (Some x) g.2) [
      | inl p ↦ subst (λ (z : Id × List Token). Behind j z.1) (same_some g.0 x p.1) (behind id_at WritesId id_sound j g.0 g.1)
      | inr p ↦ absurd (let f : ◌≡◌ {A = Option (Id × List Token)} None (Some x) = p.1 in cc)
    ]

type_past : (pr : Profile) (s t : Noted) (j k : List Token) → type_head_at pr s j ≡ Some (t, k) → Past j k
type_past pr s t j k e =
    let i = bind_ok (free_id_at s.names.types j) _ (t, k) e in
    let f = bind_ok (signature_at pr i.0.1) _ (t, k) i.2 in
    let c = bind_ok (close_at f.0.1) _ (t, k) f.2 in
    let is : ◌≡◌ {A = Noted × List Token} (record s { names = with_type s.names i.0.0 f.0.0 }, c.0.1) (t, k) = same_some _ (t, k) c.2 in
    subst (λ (z : Noted × List Token). Past j z.1) is
    (over j i.0.1 c.0.1 (free_behind s.names.types j i.0 i.1)
    (over i.0.1 f.0.1 c.0.1 (behind (signature_at pr) (OfSignature pr) (signature_sound pr) i.0.1 f.0 f.1) (close_past f.0.1 c.0 c.1)))

desc_behind : (s t : Noted) (j k r : List Token) → desc_head_at s j ≡ Some (t, k) → Past k r → Past j r
desc_behind s t j k r e past =
    let o = bind_ok (open_at j) _ (t, k) e in
    let w = bind_ok (atom_at item_named o.0.1) _ (t, k) o.2 in
    let i = bind_ok (free_id_at (space_of s.names w.0.0) w.0.1) _ (t, k) w.2 in
    let is : ◌≡◌ {A = Noted × List Token} (record s { names = with_item s.names w.0.0 i.0.0 }, i.0.1) (t, k) = same_some _ (t, k) i.2 in
    over j o.0.1 r (open_behind j o.0 o.1) (over o.0.1 w.0.1 r (atom_behind item_named o.0.1 w.0 w.1)
    (over w.0.1 i.0.1 r (free_behind (space_of s.names w.0.0) w.0.1 i.0 i.1) (subst (λ (z : Noted × List Token). Past z.1 r) (sym is) past)))

import_past : (s t : Noted) (j k : List Token) → import_head_at s j ≡ Some (t, k) → Past j k
import_past s t j k e =
    let m = bind_ok (name_at j) _ (t, k) e in
    let n = bind_ok (name_at m.0.1) _ (t, k) m.2 in
    let d = bind_ok (desc_head_at s n.0.1) _ (t, k) n.2 in
    let r = bind_ok (skip 2 d.0.1) _ (t, k) d.2 in
    let is : ◌≡◌ {A = Noted × List Token} (d.0.0, r.0) (t, k) = same_some _ (t, k) r.2 in
    subst (λ (z : Noted × List Token). Past j z.1) is
    (over j m.0.1 r.0 (behind name_at WritesName name_sound j m.0 m.1) (over m.0.1 n.0.1 r.0 (behind name_at WritesName name_sound m.0.1 n.0 n.1)
    (desc_behind s d.0.0 n.0.1 d.0.1 r.0 d.1 (skip_past 1 d.0.1 r.0 r.1))))

item_past : (kind : ExportKind) (s t : Noted) (j k : List Token) → item_head_at kind s j ≡ Some (t, k) → Past j k
item_past kind s t j k e =
    let i = bind_ok (free_id_at (space_of s.names kind) j) _ (t, k) e in
    let r = bind_ok (skip 1 i.0.1) _ (t, k) i.2 in
    let is : ◌≡◌ {A = Noted × List Token} (record s { names = with_item s.names kind i.0.0; defined = true }, r.0) (t, k) = same_some _ (t, k) r.2 in
    subst (λ (z : Noted × List Token). Past j z.1) is (over j i.0.1 r.0 (free_behind (space_of s.names kind) j i.0 i.1) (skip_past 0 i.0.1 r.0 r.1))

-- A field that only sets a flag.
rest_past : (u t : Noted) (j k : List Token) → ◌>>=◌ {B = Noted × List Token} (skip 1 j) (λ r. Some (u, r)) ≡ Some (t, k) → Past j k
rest_past u t j k e =
    let r = bind_ok (skip 1 j) (λ r. Some (u, r)) (t, k) e in
    let is : ◌≡◌ {A = Noted × List Token} (u, r.0) (t, k) = same_some (u, r.0) (t, k) r.2 in
    subst (λ (z : Noted × List Token). Past j z.1) is (skip_past 0 j r.0 r.1)

-- A rule on order allows it.
placed : (t : Bool) (o : Option (Noted × List Token)) (x : Noted × List Token) → cond t None o ≡ Some x → o ≡ Some x
placed true o x e = absurd (let f : ◌≡◌ {A = Option (Noted × List Token)} None (Some x) = e in cc)
placed false o x e = e

by_past : (pr : Profile) (w : FieldKind) (s t : Noted) (j k : List Token) → head_by pr w s j ≡ Some (t, k) → Past j k
unfolding head_by
by_past pr field.Type s t j k e = type_past pr s t j k e
by_past pr field.Import s t j k e = import_past s t j k (placed s.defined (import_head_at s j) (t, k) e)
by_past pr field.Func s t j k e = item_past kind.Func s t j k e
by_past pr field.Table s t j k e = item_past kind.Table s t j k e
by_past pr field.Memory s t j k e = item_past kind.Memory s t j k e
by_past pr field.Global s t j k e = item_past kind.Global s t j k e
by_past pr field.Start s t j k e = rest_past (record s { started = true }) t j k (placed s.started _ (t, k) e)
by_past pr field.Export s t j k e = rest_past s t j k e
by_past pr field.Elem s t j k e = rest_past s t j k e
by_past pr field.Data s t j k e = rest_past s t j k e

head_past : (pr : Profile) (s t : Noted) (j k : List Token) → head_at pr s j ≡ Some (t, k) → Past j k
unfolding head_at
head_past pr s t j k e =
    let o = bind_ok (open_at j) _ (t, k) e in
    let w = bind_ok (atom_at field_named o.0.1) _ (t, k) o.2 in
    over j o.0.1 k (open_behind j o.0 o.1) (over o.0.1 w.0.1 k (atom_behind field_named o.0.1 w.0 w.1) (by_past pr w.0.0 s t w.0.1 k w.2))

within_past : (pr : Profile) (n : ℕ) (s t : Noted) (j k : List Token) → heads_within pr n s j ≡ Some (t, k) → (j ≡ k) ⊎ Past j k
within_past pr zero s t j k e = absurd cc
within_past pr (suc n) s t j k e = elim (chosen (begins_open j) _ (Some (s, j)) (Some (t, k)) e) [
  | inl p ↦ (
      let h = bind_ok (head_at pr s j) (λ x. heads_within pr n x.0 x.1) (t, k) p.1 in
      let one = head_past pr s h.0.0 j h.0.1 h.1 in
      inr (more h.0.1 one (within_past pr n h.0.0 t h.0.1 k h.2)))
  | inr p ↦ inl (ap (λ (z : Noted × List Token). z.1) (same_some (s, j) (t, k) p.1))
]
  where
    more : (i : List Token) → Past j i → (i ≡ k) ⊎ Past i k → Past j k
    more i one (inl same) = subst (λ (z : List Token). Past j z) same one
    more i (f, e) (inr (g, h)) =
        (f ++ close_paren ∷ g, e ∙ ap (λ (z : List Token). f ++ close_paren ∷ z) h ∙ sym (append_assoc f (close_paren ∷ g) (close_paren ∷ k)))

-- ---- the tokens of a text with fields end with two closing parentheses

close_left : (j : List Token) (x : Unit {0} × List Token) → close_at j ≡ Some x → end_at x.1 ≡ Some tt → j ≡ close_paren ∷ []
close_left [] x e h = absurd cc
close_left (close_paren ∷ j) x e h = let is : j ≡ x.1 = ap (λ (z : Unit {0} × List Token). z.1) (same_some (tt, j) x e) in ap (λ (z : List Token). close_paren ∷ z) (is ∙ ended x.1 h)
  where
    ended : (k : List Token) → end_at k ≡ Some tt → k ≡ []
    ended [] h = refl
    ended (t ∷ k) h = absurd cc
close_left (open_paren ∷ j) x e h = absurd cc
close_left (string b ∷ j) x e h = absurd cc
close_left (atom a ∷ j) x e h = absurd cc

pub names_tail : (pr : Profile) (names : Names) (k : List Token) → all_names_at pr k ≡ Some names → IsTail k
unfolding heads_at
names_tail pr names k e =
    let n = bind_ok (names_at pr k) _ names e in
    let c = bind_ok (close_at n.0.1) _ names n.2 in
    let d = bind_ok (end_at c.0.1) _ names c.2 in
    let h = bind_ok (heads_at pr nothing k) (λ x. Some (x.0.names, x.1)) n.0 n.1 in
    let left : h.0.1 ≡ close_paren ∷ [] = ap (λ (z : Names × List Token). z.1) (same_some (h.0.0.names, h.0.1) n.0 h.2) ∙ close_left n.0.1 c.0 c.1 d.1 in
    by h.0.1 left (within_past pr (suc (length k)) nothing h.0.0 k h.0.1 h.1)
  where
    by : (r : List Token) → r ≡ close_paren ∷ [] → (k ≡ r) ⊎ Past k r → IsTail k
    by r left (inl same) = record { before = close_paren ∷ []; front = []; whole = ap (λ (z : List Token). close_paren ∷ z) (same ∙ left) }
    by r left (inr (f, past)) = record { before = []; front = f; whole = past ∙ ap (λ (z : List Token). f ++ close_paren ∷ z) left }

-- ---- the tokens after a front end likewise

tail_behind : (j k : List Token) → Behind j k → IsTail j → IsTail k
tail_behind j k (f, e) t = record {
  before = t.before ++ f;
  front = t.front;
  whole = append_assoc t.before f k ∙ ap (λ (z : List Token). t.before ++ z) (sym e) ∙ t.whole;
}

pub tail_open : (j k : List Token) → open_at j ≡ Some (tt, k) → IsTail j → IsTail k
tail_open j k e = tail_behind j k (open_behind j (tt, k) e)

pub tail_atom : {X : Type 0} (read : List ℕ → Option X) (x : X) (j k : List Token) → atom_at read j ≡ Some (x, k) → IsTail j → IsTail k
tail_atom read x j k e = tail_behind j k (atom_behind read j (x, k) e)

pub tail_id : (id : Id) (j k : List Token) → Some (id, k) ≡ id_at j → IsTail j → IsTail k
tail_id id j k e = tail_behind j k (behind id_at WritesId id_sound j (id, k) (sym e))

pub tail_field : (p : Profile) (names : Names) (f : Field) (j k : List Token) → field_at p names j ≡ Some (f, k) → IsTail j → IsTail k
tail_field p names f j k e = tail_behind j k (field_behind p names f j k e)

-- ---- a type use and locals end otherwise

-- with an atom and a closing parenthesis
abbrev EndsFlat : List Token → Type 0
EndsFlat k = (i : List Token) × (a : List ℕ) × (k ≡ i ++ atom a ∷ close_paren ∷ [])

abbrev LastAtom : List Token → Type 0
LastAtom k = (k ≡ []) ⊎ ((i : List Token) × (a : List ℕ) × (k ≡ i ++ atom a ∷ []))

paren_flat : (w : List ℕ) (P : Form Token) → ((x : List Token) → P x → LastAtom x) → (k : List Token) → Paren w P k → EndsFlat k
paren_flat w P last k (a, b, e, is, (x, c, e2, p, closed)) = by (last x p)
  where
    whole : k ≡ open_paren ∷ atom w ∷ (x ++ close_paren ∷ [])
    whole = e ∙ ap (λ (z : List Token). z ++ b) is ∙ ap (λ (z : List Token). open_paren ∷ atom w ∷ z) (e2 ∙ ap (λ (z : List Token). x ++ z) closed)

    by : LastAtom x → EndsFlat k
    by (inl none) = (open_paren ∷ [], w, whole ∙ ap (λ (z : List Token). open_paren ∷ atom w ∷ (z ++ close_paren ∷ [])) none)
    by (inr (i, t, q)) = (
      open_paren ∷ atom w ∷ i,
      t,
      whole ∙ ap (λ (z : List Token). open_paren ∷ atom w ∷ z) (ap (λ (z : List Token). z ++ close_paren ∷ []) q ∙ append_assoc i (atom t ∷ []) (close_paren ∷ [])),
    )

types_last : (ts : List ValType) (k : List Token) → Each WritesType ts k → LastAtom k
types_last [] k e = inl e
types_last (t ∷ ts) k (x, y, e, is, more) = by (types_last ts y more)
  where
    by : LastAtom y → LastAtom k
    by (inl none) = inr ([], type_text t, e ∙ ap (λ (z : List Token). z ++ y) is ∙ ap (λ (z : List Token). atom (type_text t) ∷ z) none)
    by (inr (i, a, q)) = inr (x ++ i, a, e ∙ ap (λ (z : List Token). x ++ z) q ∙ sym (append_assoc x i (atom a ∷ [])))

named_last : (name : List ℕ) (t : ValType) (k : List Token) → (WritesId (Some name) ▸ WritesType t) k → LastAtom k
named_last name t k (x, y, e, id, is) = inr (x, type_text t, e ∙ ap (λ (z : List Token). x ++ z) is)

group_flat : (w : List ℕ) (g : List Named) (k : List Token) → WritesGroup w g k → EndsFlat k
group_flat w g k (inl (name, t, is, h)) = paren_flat w (WritesId (Some name) ▸ WritesType t) (named_last name t) k h
group_flat w g k (inr (ts, is, h)) = paren_flat w (Each WritesType ts) (types_last ts) k h

unnamed_flat : (w : List ℕ) (ts : List ValType) (k : List Token) → WritesUnnamed w ts k → EndsFlat k
unnamed_flat w ts = paren_flat w (Each WritesType ts) (types_last ts)

index_last : (ids : Ids) (x : ℕ) (k : List Token) → Resolves ids x k → LastAtom k
index_last ids x k (a, e, h) = inr ([], a, e)

abbrev NoneOrFlat : List Token → Type 0
NoneOrFlat k = (k ≡ []) ⊎ EndsFlat k

further : (x y k : List Token) → k ≡ x ++ y → EndsFlat y → EndsFlat k
further x y k e (i, a, q) = (x ++ i, a, e ∙ ap (λ (z : List Token). x ++ z) q ∙ sym (append_assoc x i (atom a ∷ close_paren ∷ [])))

joined : (x y k : List Token) → k ≡ x ++ y → EndsFlat x → NoneOrFlat y → EndsFlat k
joined x y k e (i, a, q) (inl none) = (i, a, e ∙ ap (λ (z : List Token). x ++ z) none ∙ append-nil x ∙ q)
joined x y k e h (inr g) = further x y k e g

none_joined : (x y k : List Token) → k ≡ x ++ y → NoneOrFlat x → NoneOrFlat y → NoneOrFlat k
none_joined x y k e (inl none) (inl also) = inl (e ∙ ap (λ (z : List Token). z ++ y) none ∙ also)
none_joined x y k e (inr h) (inl none) = inr (joined x y k e h (inl none))
none_joined x y k e h (inr g) = inr (further x y k e g)

each_flat : {X : Type 0} (P : X → Form Token) → ((x : X) (k : List Token) → P x k → EndsFlat k) → (xs : List X) (k : List Token) → Each P xs k → NoneOrFlat k
each_flat P flat [] k e = inl e
each_flat P flat (x ∷ xs) k (a, b, e, h, more) = inr (joined a b k e (flat x a h) (each_flat P flat xs b more))

groups_flat : (w : List ℕ) (all : List Named) (k : List Token) → WritesGroups w all k → NoneOrFlat k
groups_flat w all k (groups, is, h) = each_flat (WritesGroup w) (group_flat w) groups k h

results_flat : (results : List ValType) (k : List Token) → WritesResults results k → NoneOrFlat k
results_flat results k (groups, is, h) = each_flat (WritesUnnamed (codes "result")) (unnamed_flat (codes "result")) groups k h

use_flat : (names : Names) (x : ℕ) (ps : List Named) (k : List Token) → TypeUse names x ps k → EndsFlat k
use_flat names x ps k (g, qs, rs, look, (a, b, e, h, (u, v, e2, params, results)), which) =
    joined a b k e (paren_flat (codes "type") (Resolves names.types x) (index_last names.types x) a h)
    (none_joined u v b e2 (groups_flat (codes "param") qs u params) (results_flat rs v results))

-- the ends of two equal lists
same_end : (x y j z : List Token) → x ++ y ≡ j ++ z → length z ≤ length y → (i : List Token) × (y ≡ i ++ z)
same_end [] y j z e le = (j, e)
same_end (a ∷ x) y [] z e le = absurd (let size : length (a ∷ x ++ y) ≡ length z = ap length e in omega (arith, size, le, length-append x y))
same_end (a ∷ x) y (b ∷ j) z e le = same_end x y j z (same_tail a b (x ++ y) (j ++ z) e) le

not_flat : (k : List Token) → EndsFlat k → IsTail k → ⊥
not_flat k (i, a, e) t =
    let whole : (t.before ++ i) ++ atom a ∷ close_paren ∷ [] ≡ t.front ++ close_paren ∷ close_paren ∷ [] =
    append_assoc t.before i (atom a ∷ close_paren ∷ []) ∙ ap (λ (z : List Token). t.before ++ z) (sym e) ∙ t.whole in
    let g = same_end (t.before ++ i) (atom a ∷ close_paren ∷ []) t.front (close_paren ∷ close_paren ∷ []) whole (omega arith) in by g.0 g.1
  where
    by : (f : List Token) → atom a ∷ close_paren ∷ [] ≡ f ++ close_paren ∷ close_paren ∷ [] → ⊥
    by [] e = cc
    by (t ∷ f) e = let size = ap length e in omega (arith, size, length-append f (close_paren ∷ close_paren ∷ []))

-- A token is left after a type use and locals.
pub head_stands : (pr : Profile) (names : Names) (h : (ℕ × List Named) × List Named) (j k : List Token) → function_head_at pr names j ≡ Some (h, k) → IsTail j → k ≢ []
head_stands pr names h j k e t none =
    let s = then_sound (named_use_at pr names) (named_at pr (codes "local")) (λ y. TypeUse names y.0 y.1) (OfGroups pr (codes "local")) (uses_are_written pr names) (groups_are_written pr (codes "local")) j h k e in
    let whole : j ≡ s.0 = s.1 ∙ ap (λ (z : List Token). s.0 ++ z) none ∙ append-nil s.0 in
    not_flat s.0 (by s.0 s.2) (subst IsTail whole t)
  where
    by : (f : List Token) → ((λ (y : ℕ × List Named). TypeUse names y.0 y.1) h.0 ▸ OfGroups pr (codes "local") h.1) f → EndsFlat f
    by f (a, b, e, typed, locals) = joined a b f e (use_flat names h.0.0 h.0.1 a typed) (groups_flat (codes "local") h.1 b locals.0)

pub ruleset tail_laws = (tail_open, tail_atom)
