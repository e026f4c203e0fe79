-- The type use of a call_indirect is read exactly as tokens write it.
use Rattle.std.proofs.Common.{◌≡◌, ℕ, zero, suc, ◌<◌, ◌⊎◌, Bool, true, false, cond, List, [], ◌∷◌, ◌++◌, length, Option, Some, None, refl, sym, ap, subst, ◌∙◌, inl, inr, arith, length-append}
use Rattle.std.specs.Prelude.{codes, map, flat_map, ◌&&◌, ◌||◌, slice_get}
use Rattle.std.specs.List.{AllByRecursion}
use Rattle.std.proofs.lemmas.Bool.{cond-true, cond-false, and_parts, and_from, or_cases}
use Rattle.wm_syntax.specs.Spelling.{Form, Each}
use Rattle.wm_syntax.specs.declared.types.ValType.{ValType}
use Rattle.wm_syntax.specs.Runs.{same}
use Rattle.wm_syntax.specs.Profiles.{HasSignature, HasType}
use Rattle.wm_syntax.proofs.ProfileLaws.{all_append, all_back, all_front}
use Rattle.wm_syntax.proofs.SameTypes.{means, reflexive}
use Rattle.wm_syntax.specs.Types.{Signature}
use Rattle.wm_syntax.specs.declared.profile.Profile.{Profile}
use Rattle.wm_tokens.specs.Tokens.{Token, open_paren, close_paren, string, atom}
use Rattle.wm_tokens.proofs.Basics.{chosen, same_some}
use Rattle.wm_tokens.specs.Identifiers.{Id, AreDistinct, Resolves}
use Rattle.wm_syntax.specs.Types.{type_text}
use Rattle.wm_tokens.specs.Written.{Paren, Names, Named, WritesType, WritesUnnamed, WritesGroup, UnnamedTypeUse, types_of}
use Rattle.wm_bodies.specs.exact.Reading.{Reader, ◌>>=◌, atom_at, type_of, index_of, then_at, paren_at}
use Rattle.wm_bodies.specs.exact.TypeUses.{types_at, begins_group, groups_at, same_types, no_types, joined, fits, checked, use_at, begins_open, call_use_at}
use Rattle.wm_bodies.proofs.Readers.{Sound, Complete, Any, Both, Begins, BeginsClose, bind_ok, bind_is, is_same, then_sound, then_complete, paren_sound, paren_complete, many_sound, many_complete}
use Rattle.wm_bodies.proofs.Indices.{index_sound, index_complete}
use Rattle.wm_bodies.proofs.Immediates.{NotOpen, OfType, type_found, type_more}
use Rattle.wm_bodies.proofs.PieceLaws.{ReadsUse}

-- ---- value types

nothing : (pr : Profile) (k : List Token) (ts : List ValType) (rest : List Token) → ◌≡◌ {A = Option (List ValType × List Token)} (Some ([], k)) (Some (ts, rest))
    → (front : List Token) × (k ≡ front ++ rest) × Each (OfType pr) ts front
nothing pr k ts rest e = let p = same_some ([], k) (ts, rest) e in ([], ap (λ (z : List ValType × List Token). z.1) p, subst (λ (z : List ValType × List Token). Each (OfType pr) z.0 []) p refl)

pub types_sound : (pr : Profile) → Sound (types_at pr) (Each (OfType pr))
types_sound pr [] ts rest e = nothing pr [] ts rest e
types_sound pr (open_paren ∷ k) ts rest e = nothing pr (open_paren ∷ k) ts rest e
types_sound pr (close_paren ∷ k) ts rest e = nothing pr (close_paren ∷ k) ts rest e
types_sound pr (string b ∷ k) ts rest e = nothing pr (string b ∷ k) ts rest e
types_sound pr (atom a ∷ k) ts rest e =
    let g = bind_ok (type_of pr a) _ (ts, rest) e in
    let m = bind_ok (types_at pr k) (λ us. Some (g.0 ∷ us.0, us.1)) (ts, rest) g.2 in
    let more = types_sound pr k m.0.0 m.0.1 m.1 in
    let p : ◌≡◌ {A = List ValType × List Token} (g.0 ∷ m.0.0, m.0.1) (ts, rest) = same_some (g.0 ∷ m.0.0, m.0.1) (ts, rest) m.2 in
    let is = type_found pr a g.0 g.1 in (
      atom a ∷ more.0,
      ap (λ (z : List Token). atom a ∷ z) more.1 ∙ ap (λ (z : List ValType × List Token). (atom a ∷ more.0) ++ z.1) p,
      subst (λ (z : List ValType × List Token). Each (OfType pr) z.0 (atom a ∷ more.0)) p (atom a ∷ [], more.0, refl, (ap (λ (z : List ℕ). atom z ∷ []) is.0, is.1), more.2),
    )

pub types_complete : (pr : Profile) → Complete (types_at pr) (Each (OfType pr)) BeginsClose
types_complete pr [] front rest h f = ap (λ (z : List Token). types_at pr (z ++ rest)) h ∙ by rest f
  where
    by : (rest : List Token) → BeginsClose rest → types_at pr rest ≡ Some ([], rest)
    by [] f = absurd f
    by (open_paren ∷ k) f = absurd f
    by (close_paren ∷ k) f = refl
    by (atom a ∷ k) f = absurd f
    by (string b ∷ k) f = absurd f
types_complete pr (t ∷ ts) front rest (x, y, e, w, more) f =
    ap (λ (z : List Token). types_at pr (z ++ rest)) (e ∙ ap (λ (z : List Token). z ++ y) w.0)
    ∙ bind_is (type_of pr (type_text t)) (λ z. ◌>>=◌ {B = List ValType × List Token} (types_at pr (y ++ rest)) (λ us. Some (z ∷ us.0, us.1))) t (type_more pr (type_text t) t (refl, w.1))
    ∙ bind_is (types_at pr (y ++ rest)) (λ us. Some (t ∷ us.0, us.1)) (ts, rest) (types_complete pr ts y rest more f)

-- ---- types and the profile

abbrev pub AreOf : Profile → List ValType → Type 0
AreOf pr ts = AllByRecursion (HasType pr) ts

pub plain_types : (pr : Profile) (ts : List ValType) (k : List Token) → Each (OfType pr) ts k → Each WritesType ts k × AreOf pr ts
plain_types pr [] k h = (h, tt)
plain_types pr (t ∷ ts) k (x, y, e, w, more) = let m = plain_types pr ts y more in ((x, y, e, w.0, m.0), (w.1, m.1))

pub types_of_it : (pr : Profile) (ts : List ValType) (k : List Token) → Each WritesType ts k → AreOf pr ts → Each (OfType pr) ts k
types_of_it pr [] k h of = h
types_of_it pr (t ∷ ts) k (x, y, e, w, more) of = (x, y, e, (w, of.0), types_of_it pr ts y more of.1)

-- a group of value types of the profile
abbrev pub OfUnnamed : Profile → List ℕ → List ValType → Form Token
OfUnnamed pr word ts = Paren word (Each (OfType pr) ts)

pub plain_groups : (pr : Profile) (word : List ℕ) (gs : List (List ValType)) (front : List Token) → Each (OfUnnamed pr word) gs front → Each (WritesUnnamed word) gs front × AreOf pr (joined gs)
plain_groups pr word [] front h = (h, tt)
plain_groups pr word (g ∷ gs) front (x, y, e, (a, b, d, is, (c, l, e2, w, last)), more) =
    let one = plain_types pr g c w in
    let m = plain_groups pr word gs y more in
    ((x, y, e, (a, b, d, is, (c, l, e2, one.0, last)), m.0), all_append (HasType pr) g (joined gs) one.1 m.1)

pub groups_of_it : (pr : Profile) (word : List ℕ) (gs : List (List ValType)) (front : List Token) → Each (WritesUnnamed word) gs front → AreOf pr (joined gs) → Each (OfUnnamed pr word) gs front
groups_of_it pr word [] front h of = h
groups_of_it pr word (g ∷ gs) front (x, y, e, (a, b, d, is, (c, l, e2, w, last)), more) of = (
  x,
  y,
  e,
  (a, b, d, is, (c, l, e2, types_of_it pr g c w (all_front (HasType pr) g (joined gs) of), last)),
  groups_of_it pr word gs y more (all_back (HasType pr) g (joined gs) of),
)

-- the types that a text has defined are of the profile
abbrev pub KnowsTypes : Profile → Names → Type 0
KnowsTypes pr names = AllByRecursion (HasSignature pr) names.signatures

pub known : (pr : Profile) (fs : List Signature) (x : ℕ) (f : Signature) → AllByRecursion (HasSignature pr) fs → slice_get fs x ≡ Some f → HasSignature pr f
known pr [] x f h e = absurd cc
known pr (g ∷ fs) zero f h e = subst (HasSignature pr) (same_some g f e) h.0
known pr (g ∷ fs) (suc x) f h e = known pr fs x f h.1 e

-- ---- groups

pub group_begins : (pr : Profile) (word : List ℕ) → Begins (begins_group word) (OfUnnamed pr word)
group_begins pr word ts front rest (a, b, e, is, more) =
    let text : front ≡ open_paren ∷ atom word ∷ b = e ∙ ap (λ (z : List Token). z ++ b) is in
    (ap (λ (z : List Token). begins_group word (z ++ rest)) text ∙ is_same word, subst (λ (z : List Token). 0 < length z) (sym text) (omega arith))

pub group_sound : (pr : Profile) (word : List ℕ) → Sound (paren_at word (types_at pr)) (OfUnnamed pr word)
group_sound pr word = paren_sound word (types_at pr) (Each (OfType pr)) (types_sound pr)

pub groups_sound : (pr : Profile) (word : List ℕ) → Sound (groups_at pr word) (Each (OfUnnamed pr word))
unfolding groups_at
groups_sound pr word k = many_sound (suc (length k)) (begins_group word) (paren_at word (types_at pr)) (OfUnnamed pr word) (group_sound pr word) k

abbrev NotGroup : List ℕ → List Token → Type 0
NotGroup word k = begins_group word k ≡ false

pub groups_complete : (pr : Profile) (word : List ℕ) → Complete (groups_at pr word) (Each (OfUnnamed pr word)) (NotGroup word)
unfolding groups_at
groups_complete pr word gs front rest h f =
    many_complete (suc (length (front ++ rest))) (begins_group word) (paren_at word (types_at pr)) (OfUnnamed pr word) Any
    (paren_complete word (types_at pr) (Each (OfType pr)) (types_complete pr)) (group_begins pr word) (λ xs g r h i. tt) gs front rest (omega (arith, length-append front rest)) h f

not_open_group : (word : List ℕ) (k : List Token) → NotOpen k → NotGroup word k
not_open_group word [] f = refl
not_open_group word (open_paren ∷ k) f = absurd f
not_open_group word (close_paren ∷ k) f = refl
not_open_group word (atom a ∷ k) f = refl
not_open_group word (string b ∷ k) f = refl

results_follow : (pr : Profile) (rs : List (List ValType)) (front rest : List Token) → Each (OfUnnamed pr (codes "result")) rs front → NotOpen rest → NotGroup (codes "param") (front ++ rest)
results_follow pr [] front rest h f = subst (λ (z : List Token). NotGroup (codes "param") (z ++ rest)) (sym h) (not_open_group (codes "param") rest f)
results_follow pr (g ∷ rs) front rest (x, y, e, (a, b, d, is, w), more) f =
    subst (λ (z : List Token). NotGroup (codes "param") (z ++ rest)) (sym (e ∙ ap (λ (z : List Token). z ++ y) (d ∙ ap (λ (z : List Token). z ++ b) is))) refl

-- ---- the same types

pub same_types_are : (ts us : List ValType) → same_types ts us ≡ true → ts ≡ us
same_types_are [] [] h = refl
same_types_are (t ∷ ts) (u ∷ us) h = let p = and_parts (same t u) (same_types ts us) h in ap (λ (z : ValType). z ∷ ts) (means t u p.0) ∙ ap (λ (z : List ValType). u ∷ z) (same_types_are ts us p.1)
same_types_are [] (u ∷ us) h = absurd (let f : false ≡ true = h in cc)
same_types_are (t ∷ ts) [] h = absurd (let f : false ≡ true = h in cc)

pub types_same : (ts : List ValType) → same_types ts ts ≡ true
types_same [] = refl
types_same (t ∷ ts) = and_from (same t t) (same_types ts ts) (reflexive t) (types_same ts)

pub none_are : (ts : List ValType) → no_types ts ≡ true → ts ≡ []
none_are [] h = refl
none_are (t ∷ ts) h = absurd (let f : false ≡ true = h in cc)

-- ---- groups with no identifiers

abbrev unnamed : List ValType → List Named
unnamed ts = map (λ t. (None, t)) ts

unnamed_joined : (gs : List (List ValType)) → flat_map (λ g. g) (map unnamed gs) ≡ unnamed (joined gs)
unnamed_joined [] = refl
unnamed_joined (g ∷ gs) = ap (λ (z : List Named). unnamed g ++ z) (unnamed_joined gs) ∙ by g
  where
    by : (g : List ValType) → unnamed g ++ unnamed (joined gs) ≡ unnamed (g ++ joined gs)
    by [] = refl
    by (t ∷ g) = ap (λ (z : List Named). (None, t) ∷ z) (by g)

unnamed_groups : (word : List ℕ) (gs : List (List ValType)) (front : List Token) → Each (WritesUnnamed word) gs front → Each (WritesGroup word) (map unnamed gs) front
unnamed_groups word [] front h = h
unnamed_groups word (g ∷ gs) front (x, y, e, w, more) = (x, y, e, inr (g, refl, w), unnamed_groups word gs y more)

-- groups whose members have no identifiers
AllNone : List Named → Type 0
AllNone [] = Unit {0}
AllNone (p ∷ ps) = (p.0 ≡ None) × AllNone ps

none_front : (x y : List Named) → AllNone (x ++ y) → AllNone x
unfolding AllNone
none_front [] y h = tt
none_front (p ∷ x) y h = (h.0, none_front x y h.1)

none_back : (x y : List Named) → AllNone (x ++ y) → AllNone y
unfolding AllNone
none_back [] y h = h
none_back (p ∷ x) y h = none_back x y h.1

none_unnamed : (ts : List ValType) → AllNone (unnamed ts)
unfolding AllNone
none_unnamed [] = tt
none_unnamed (t ∷ ts) = (refl, none_unnamed ts)

one_unnamed : (word : List ℕ) (group : List Named) (x : List Token) → WritesGroup word group x → AllNone group → (g : List ValType) × (group ≡ unnamed g) × WritesUnnamed word g x
unfolding AllNone
one_unnamed word group x (inl (name, t, e, w)) n = absurd (let h : AllNone ((Some name, t) ∷ []) = subst AllNone e n in let f : ◌≡◌ {A = Id} (Some name) None = h.0 in cc)
one_unnamed word group x (inr (ts, e, w)) n = (ts, e, w)

groups_unnamed : (word : List ℕ) (groups : List (List Named)) (front : List Token) → Each (WritesGroup word) groups front → AllNone (flat_map (λ g. g) groups)
    → (gs : List (List ValType)) × (groups ≡ map unnamed gs) × Each (WritesUnnamed word) gs front
groups_unnamed word [] front h n = ([], refl, h)
groups_unnamed word (group ∷ groups) front (x, y, e, w, more) n =
    let a = one_unnamed word group x w (none_front group (flat_map (λ g. g) groups) n) in
    let b = groups_unnamed word groups y more (none_back group (flat_map (λ g. g) groups) n) in
    (a.0 ∷ b.0, ap (λ (z : List Named). z ∷ groups) a.1 ∙ ap (λ (z : List (List Named)). unnamed a.0 ∷ z) b.1, (x, y, e, a.2, b.2))

pub types_unnamed : (ts : List ValType) → types_of (unnamed ts) ≡ ts
types_unnamed [] = refl
types_unnamed (t ∷ ts) = ap (λ (z : List ValType). t ∷ z) (types_unnamed ts)

-- ---- the whole use

abbrev Parts : Profile → Names → ℕ × (List (List ValType) × List (List ValType)) → Form Token
Parts pr names = Both (λ x. Paren (codes "type") (Resolves names.types x)) (Both (Each (OfUnnamed pr (codes "param"))) (Each (OfUnnamed pr (codes "result"))))

parts_sound : (pr : Profile) (names : Names) → Sound (then_at (paren_at (codes "type") (atom_at (index_of names.types))) (then_at (groups_at pr (codes "param")) (groups_at pr (codes "result")))) (Parts pr names)
parts_sound pr names =
    then_sound (paren_at (codes "type") (atom_at (index_of names.types))) (then_at (groups_at pr (codes "param")) (groups_at pr (codes "result"))) (λ x. Paren (codes "type") (Resolves names.types x)) (Both (Each (OfUnnamed pr (codes "param"))) (Each (OfUnnamed pr (codes "result"))))
    (paren_sound (codes "type") (atom_at (index_of names.types)) (Resolves names.types) (index_sound names.types))
    (then_sound (groups_at pr (codes "param")) (groups_at pr (codes "result")) (Each (OfUnnamed pr (codes "param"))) (Each (OfUnnamed pr (codes "result"))) (groups_sound pr (codes "param")) (groups_sound pr (codes "result")))

parts_complete : (pr : Profile) (names : Names) → AreDistinct names.types → Complete (then_at (paren_at (codes "type") (atom_at (index_of names.types))) (then_at (groups_at pr (codes "param")) (groups_at pr (codes "result")))) (Parts pr names) NotOpen
parts_complete pr names d =
    then_complete (paren_at (codes "type") (atom_at (index_of names.types))) (then_at (groups_at pr (codes "param")) (groups_at pr (codes "result"))) (λ x. Paren (codes "type") (Resolves names.types x)) (Both (Each (OfUnnamed pr (codes "param"))) (Each (OfUnnamed pr (codes "result")))) Any NotOpen
    (paren_complete (codes "type") (atom_at (index_of names.types)) (Resolves names.types) (λ x f r h i. index_complete names.types d x f r h tt))
    (then_complete (groups_at pr (codes "param")) (groups_at pr (codes "result")) (Each (OfUnnamed pr (codes "param"))) (Each (OfUnnamed pr (codes "result"))) (NotGroup (codes "param")) NotOpen
    (groups_complete pr (codes "param")) (λ g f r h i. groups_complete pr (codes "result") g f r h (not_open_group (codes "result") r i)) (results_follow pr))
    (λ y f r h g. tt)

abbrev pub Fitting : Signature → List ValType → List ValType → Type 0
Fitting f ps rs = ((ps ≡ []) × (rs ≡ [])) ⊎ ((ps ≡ f.params) × (rs ≡ f.results))

-- Parameters and results that fit a type of the profile are of the profile.
pub fitting_has : (pr : Profile) (f : Signature) (ps rs : List ValType) → HasSignature pr f → Fitting f ps rs → AreOf pr ps × AreOf pr rs
fitting_has pr f ps rs h (inl (a, b)) = (subst (AreOf pr) (sym a) tt, subst (AreOf pr) (sym b) tt)
fitting_has pr f ps rs h (inr (a, b)) = (subst (AreOf pr) (sym a) h.0, subst (AreOf pr) (sym b) h.1)

pub fits_found : (f : Signature) (ps rs : List ValType) → fits f ps rs ≡ true → Fitting f ps rs
unfolding fits
fits_found f ps rs h = elim (or_cases (no_types ps && no_types rs) (same_types ps f.params && same_types rs f.results) h) [
  | inl a ↦ (let p = and_parts (no_types ps) (no_types rs) a in inl (none_are ps p.0, none_are rs p.1))
  | inr a ↦ (let p = and_parts (same_types ps f.params) (same_types rs f.results) a in inr (same_types_are ps f.params p.0, same_types_are rs f.results p.1))
]

pub fits_more : (f : Signature) (ps rs : List ValType) → Fitting f ps rs → fits f ps rs ≡ true
unfolding fits
fits_more f ps rs (inl (a, b)) = ap (λ (z : List ValType). fits f z rs) a ∙ ap (λ (z : List ValType). fits f [] z) b
fits_more f ps rs (inr (a, b)) =
    or_true (no_types ps && no_types rs) (and_from (same_types ps f.params) (same_types rs f.results) (ap (λ (z : List ValType). same_types z f.params) a ∙ types_same f.params) (ap (λ (z : List ValType). same_types z f.results) b ∙ types_same f.results))
  where
    or_true : (t : Bool) → (same_types ps f.params && same_types rs f.results) ≡ true → (t || (same_types ps f.params && same_types rs f.results)) ≡ true
    or_true true h = refl
    or_true false h = h

abbrev parts_at : (pr : Profile) → Names → Reader (ℕ × (List (List ValType) × List (List ValType)))
parts_at pr names = then_at (paren_at (codes "type") (atom_at (index_of names.types))) (then_at (groups_at pr (codes "param")) (groups_at pr (codes "result")))

pub use_sound : (pr : Profile) (names : Names) → Sound (use_at pr names) (UnnamedTypeUse names)
unfolding use_at
use_sound pr names k x rest e =
    let a = bind_ok (parts_at pr names k) (λ r. checked names r.0.0 r.0.1.0 r.0.1.1 >>= λ y. Some (y, r.1)) (x, rest) e in
    let n = a.0.0.0 in let pgs = a.0.0.1.0 in let rgs = a.0.0.1.1 in
    let b = bind_ok (checked names n pgs rgs) (λ y. Some (y, a.0.1)) (x, rest) a.2 in
    let c = bind_ok (slice_get names.signatures n) (λ f. cond (fits f (joined pgs) (joined rgs)) (Some n) None) b.0 b.1 in
    let one = parts_sound pr names k a.0.0 a.0.1 a.1 in
    let w = one.2 in
    let is : ◌≡◌ {A = ℕ × List Token} (b.0, a.0.1) (x, rest) = same_some (b.0, a.0.1) (x, rest) b.2 in (
      one.0,
      one.1 ∙ ap (λ (z : ℕ × List Token). one.0 ++ z.1) is,
      subst (λ (z : ℕ × List Token). UnnamedTypeUse names z.0 one.0) is
          (elim (chosen (fits c.0 (joined pgs) (joined rgs)) (Some n) None (Some b.0) c.2) as (λ _. UnnamedTypeUse names b.0 one.0) [
            | inl t ↦ subst (λ (z : ℕ). UnnamedTypeUse names z one.0) (same_some n b.0 t.1) (by c.0 n pgs rgs one.0 c.1 w (fits_found c.0 (joined pgs) (joined rgs) t.0))
            | inr t ↦ absurd (let f : ◌≡◌ {A = Option ℕ} None (Some b.0) = t.1 in cc)
          ]),
    )
  where
    by : (f : Signature) (n : ℕ) (pgs rgs : List (List ValType)) (front : List Token) → slice_get names.signatures n ≡ Some f → Parts pr names (n, (pgs, rgs)) front → Fitting f (joined pgs) (joined rgs) → UnnamedTypeUse names n front
    by f n pgs rgs front look (p, q, d, h, (u, v, g, i, j)) (inl (a, b)) = (
      f.params,
      (
        f,
        unnamed (joined pgs),
        joined rgs,
        look,
        (p, q, d, h, (u, v, g, (map unnamed pgs, sym (unnamed_joined pgs), unnamed_groups (codes "param") pgs u (plain_groups pr (codes "param") pgs u i).0), (rgs, refl, (plain_groups pr (codes "result") rgs v j).0))),
        inl (ap unnamed a, b, refl),
      ),
    )
    by f n pgs rgs front look (p, q, d, h, (u, v, g, i, j)) (inr (a, b)) = (
      joined pgs,
      (
        f,
        unnamed (joined pgs),
        joined rgs,
        look,
        (p, q, d, h, (u, v, g, (map unnamed pgs, sym (unnamed_joined pgs), unnamed_groups (codes "param") pgs u (plain_groups pr (codes "param") pgs u i).0), (rgs, refl, (plain_groups pr (codes "result") rgs v j).0))),
        inr (types_unnamed (joined pgs) ∙ a, b, refl),
      ),
    )

use_complete : (pr : Profile) (names : Names) → AreDistinct names.types → KnowsTypes pr names → Complete (use_at pr names) (UnnamedTypeUse names) NotOpen
unfolding AllNone use_at
use_complete pr names dist knows x front rest (ts, (f, ps, rs, look, (p, q, d, h, (u, v, g, (pgroups, pe, pw), (rgs, re, rw))), which)) after =
    bind_is (parts_at pr names (front ++ rest)) (λ r. checked names r.0.0 r.0.1.0 r.0.1.1 >>= λ y. Some (y, r.1)) ((x, (pg.0, rgs)), rest)
    (parts_complete pr names dist (x, (pg.0, rgs)) front rest (p, q, d, h, (u, v, g, groups_of_it pr (codes "param") pg.0 u pg.2 of.0, groups_of_it pr (codes "result") rgs v rw of.1)) after)
    ∙ bind_is (checked names x pg.0 rgs) (λ y. Some (y, rest)) x
    (bind_is (slice_get names.signatures x) _ f look ∙ cond-true (fits f (joined pg.0) (joined rgs)) _ _ (fits_more f (joined pg.0) (joined rgs) (fitting which)))
  where
    alike : (((ps ≡ []) × (rs ≡ []) × (unnamed ts ≡ map (λ t. (None, t)) f.params)) ⊎ ((types_of ps ≡ f.params) × (rs ≡ f.results) × (unnamed ts ≡ ps))) → AllNone ps
    alike (inl (a, b, c)) = subst AllNone (sym a) tt
    alike (inr (a, b, c)) = subst AllNone c (none_unnamed ts)

    pg : (gs : List (List ValType)) × (pgroups ≡ map unnamed gs) × Each (WritesUnnamed (codes "param")) gs u
    pg = groups_unnamed (codes "param") pgroups u pw (subst AllNone pe (alike which))

    written : ps ≡ unnamed (joined pg.0)
    written = pe ∙ ap (λ (z : List (List Named)). flat_map (λ g. g) z) pg.1 ∙ unnamed_joined pg.0

    values : types_of ps ≡ joined pg.0
    values = ap types_of written ∙ types_unnamed (joined pg.0)

    fitting : (((ps ≡ []) × (rs ≡ []) × (unnamed ts ≡ map (λ t. (None, t)) f.params)) ⊎ ((types_of ps ≡ f.params) × (rs ≡ f.results) × (unnamed ts ≡ ps))) → Fitting f (joined pg.0) (joined rgs)
    fitting (inl (a, b, c)) = inl (sym values ∙ ap types_of a, sym re ∙ b)
    fitting (inr (a, b, c)) = inr (sym values ∙ a, sym re ∙ b)

    of : AreOf pr (joined pg.0) × AreOf pr (joined rgs)
    of = fitting_has pr f (joined pg.0) (joined rgs) (known pr names.signatures x f knows look) (fitting which)

closed : (k : List Token) → NotOpen k → begins_open k ≡ false
closed [] f = refl
closed (open_paren ∷ k) f = absurd f
closed (close_paren ∷ k) f = refl
closed (string b ∷ k) f = refl
closed (atom a ∷ k) f = refl

pub call_sound : (pr : Profile) (names : Names) → Sound (call_use_at pr names) (UnnamedTypeUse names)
unfolding call_use_at
call_sound pr names k x rest e =
    let g = bind_ok (use_at pr names k) (λ y. cond (begins_open y.1) None (Some y)) (x, rest) e in
    elim (chosen (begins_open g.0.1) None (Some g.0) (Some (x, rest)) g.2) [
      | inl p ↦ absurd (let f : ◌≡◌ {A = Option (ℕ × List Token)} None (Some (x, rest)) = p.1 in cc)
      | inr p ↦ use_sound pr names k x rest (g.1 ∙ p.1)
    ]

not_open : (k : List Token) → begins_open k ≡ false → NotOpen k
not_open [] e = tt
not_open (open_paren ∷ k) e = absurd cc
not_open (close_paren ∷ k) e = tt
not_open (string b ∷ k) e = tt
not_open (atom a ∷ k) e = tt

call_complete : (pr : Profile) (names : Names) → AreDistinct names.types → KnowsTypes pr names → Complete (call_use_at pr names) (UnnamedTypeUse names) NotOpen
unfolding call_use_at
call_complete pr names d knows x front rest h f =
    bind_is (use_at pr names (front ++ rest)) (λ y. cond (begins_open y.1) None (Some y)) (x, rest) (use_complete pr names d knows x front rest h f)
    ∙ cond-false (begins_open rest) _ _ (closed rest f)

pub reads_use : (pr : Profile) (names : Names) → AreDistinct names.types → KnowsTypes pr names → ReadsUse (call_use_at pr names) names
reads_use pr names d knows = record { sound = call_sound pr names; complete = call_complete pr names d knows }

pub calls_are_read : (pr : Profile) (names : Names) → AreDistinct names.types → KnowsTypes pr names → (x : ℕ) (front rest : List Token) → UnnamedTypeUse names x front → begins_open rest ≡ false → call_use_at pr names (front ++ rest) ≡ Some (x, rest)
calls_are_read pr names d knows x front rest h e = call_complete pr names d knows x front rest h (not_open rest e)
