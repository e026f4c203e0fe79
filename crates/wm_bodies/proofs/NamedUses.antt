-- Type uses whose parameters may have identifiers.
use Rattle.std.proofs.Common.{◌≡◌, ℕ, ◌<◌, ◌≤◌, ◌+◌, ◌⊎◌, Bool, true, false, cond, ◌&&◌, List, [], ◌∷◌, ◌++◌, length, replicate, Option, Some, None, refl, sym, ap, subst, ◌∙◌, inl, inr, take, get_or, append_assoc}
use Rattle.std.specs.Prelude.{codes, map, slice_get}
use Rattle.std.proofs.lemmas.Bool.{cond-true, cond-false, and_parts}
use Rattle.std.proofs.lemmas.List.{append-nil, map-append, replicate_more, take_more, take_all}
use Rattle.wm_syntax.specs.Spelling.{Form, Each}
use Rattle.wm_syntax.specs.Types.{Signature}
use Rattle.wm_syntax.specs.declared.types.ValType.{ValType}
use Rattle.wm_syntax.specs.declared.profile.Profile.{Profile}
use Rattle.wm_tokens.specs.Tokens.{Token}
use Rattle.wm_tokens.specs.Identifiers.{AreDistinct, Resolves}
use Rattle.wm_tokens.specs.Written.{Named, Names, Paren, TypeUse, WritesGroups, WritesResults, WritesUnnamed, types_of}
use Rattle.wm_bodies.specs.exact.Reading.{◌>>=◌, made, atom_at, index_of, then_at, paren_at}
use Rattle.wm_bodies.specs.exact.TypeUses.{begins_group, fits, groups_at, joined, named_at, no_types, unnamed}
use Rattle.wm_bodies.specs.exact.NamedUses.{none_written, used_of, used_at, results_at, use_parts, named_use_at}
use Rattle.wm_tokens.specs.declared.faults.TextWhy.{TextWhy}
use Rattle.wm_bodies.specs.declared.named.NamedRun.{NamedRun}
use Rattle.wm_bodies.specs.inner.Named.{named_of, named_list}
use Rattle.wm_bodies.specs.inner.Views.{Fails}
use Rattle.wm_tokens.proofs.Basics.{chosen, same_some}
use Rattle.wm_bodies.proofs.Groups.{fails_on}
use Rattle.wm_bodies.proofs.Indices.{index_sound, index_complete}
use Rattle.wm_bodies.proofs.NamedGroups.{NamedOf, OfGroups, groups_are_read, groups_are_written, named_push}
use Rattle.wm_bodies.proofs.Readers.{Sound, Complete, Any, Both, bind_ok, bind_is, made_is, made_sound, paren_complete, paren_sound, then_complete, then_sound}
use Rattle.wm_bodies.proofs.TypeUseLaws.{AreOf, Fitting, KnowsTypes, OfUnnamed, fits_found, fits_more, fitting_has, groups_complete, groups_of_it, groups_sound, known, none_are, plain_groups}

-- ---- the forms of a use

abbrev NotGroup : List ℕ → List Token → Type 0
NotGroup word k = begins_group word k ≡ false

-- no further form of a use follows
abbrev pub UseEnds : List Token → Type 0
UseEnds k = (begins_group (codes "param") k ≡ false) × (begins_group (codes "result") k ≡ false)

-- results of the profile
abbrev pub OfResults : Profile → List ValType → Form Token
OfResults pr rs k = WritesResults rs k × AreOf pr rs

pub results_sound : (pr : Profile) → Sound (results_at pr) (OfResults pr)
unfolding results_at
results_sound pr =
    made_sound joined (groups_at pr (codes "result")) (Each (OfUnnamed pr (codes "result"))) (OfResults pr) (groups_sound pr (codes "result"))
    (λ gs front h. let m = plain_groups pr (codes "result") gs front h in ((gs, refl, m.0), m.1))

pub results_complete : (pr : Profile) → Complete (results_at pr) (OfResults pr) (NotGroup (codes "result"))
unfolding results_at
results_complete pr rs front rest ((gs, e, h), of) f =
    made_is joined (groups_at pr (codes "result") (front ++ rest)) gs rest (groups_complete pr (codes "result") gs front rest (groups_of_it pr (codes "result") gs front h (subst (AreOf pr) e of)) f)
    ∙ ap (λ (z : List ValType). Some (z, rest)) (sym e)

no_group : (gs : List (List ValType)) (front rest : List Token) → Each (WritesUnnamed (codes "result")) gs front → NotGroup (codes "param") rest → NotGroup (codes "param") (front ++ rest)
no_group [] front rest h f = subst (λ (z : List Token). NotGroup (codes "param") (z ++ rest)) (sym h) f
no_group (g ∷ gs) front rest (x, y, e, (a, b, d, is, w), more) f =
    subst (λ (z : List Token). NotGroup (codes "param") (z ++ rest)) (sym (e ∙ ap (λ (z : List Token). z ++ y) (d ∙ ap (λ (z : List Token). z ++ b) is))) refl

pub no_param : (pr : Profile) (rs : List ValType) (front rest : List Token) → OfResults pr rs front → NotGroup (codes "param") rest → NotGroup (codes "param") (front ++ rest)
no_param pr rs front rest h f = no_group h.0.0 front rest h.0.2 f

-- the forms of a use, with types of the profile
abbrev Forms : Profile → Names → ℕ × (List Named × List ValType) → Form Token
Forms pr names = Both (λ x. Paren (codes "type") (Resolves names.types x)) (Both (OfGroups pr (codes "param")) (OfResults pr))

forms_sound : (pr : Profile) (names : Names) → Sound (use_parts pr names) (Forms pr names)
forms_sound pr names =
    then_sound (paren_at (codes "type") (atom_at (index_of names.types))) (then_at (named_at pr (codes "param")) (results_at pr)) (λ x. Paren (codes "type") (Resolves names.types x)) (Both (OfGroups pr (codes "param")) (OfResults pr))
    (paren_sound (codes "type") (atom_at (index_of names.types)) (Resolves names.types) (index_sound names.types))
    (then_sound (named_at pr (codes "param")) (results_at pr) (OfGroups pr (codes "param")) (OfResults pr) (groups_are_written pr (codes "param")) (results_sound pr))

forms_complete : (pr : Profile) (names : Names) → AreDistinct names.types → Complete (use_parts pr names) (Forms pr names) UseEnds
forms_complete pr names d =
    then_complete (paren_at (codes "type") (atom_at (index_of names.types))) (then_at (named_at pr (codes "param")) (results_at pr)) (λ x. Paren (codes "type") (Resolves names.types x)) (Both (OfGroups pr (codes "param")) (OfResults pr)) Any UseEnds
    (paren_complete (codes "type") (atom_at (index_of names.types)) (Resolves names.types) (λ x f r h i. index_complete names.types d x f r h tt))
    (then_complete (named_at pr (codes "param")) (results_at pr) (OfGroups pr (codes "param")) (OfResults pr) (NotGroup (codes "param")) UseEnds
    (groups_are_read pr (codes "param")) (λ rs f r h i. results_complete pr rs f r h i.1) (λ rs f r h i. no_param pr rs f r h i.0))
    (λ y f r h g. tt)

abbrev PlainForms : Names → ℕ × (List Named × List ValType) → Form Token
PlainForms names = Both (λ x. Paren (codes "type") (Resolves names.types x)) (Both (WritesGroups (codes "param")) WritesResults)

forms_plain : (pr : Profile) (names : Names) (z : ℕ × (List Named × List ValType)) (k : List Token) → Forms pr names z k → PlainForms names z k
forms_plain pr names z k (a, b, e, w, (c, d, e2, ps, rs)) = (a, b, e, w, (c, d, e2, ps.0, rs.0))

forms_of : (pr : Profile) (names : Names) (z : ℕ × (List Named × List ValType)) (k : List Token) → PlainForms names z k → NamedOf pr z.1.0 → AreOf pr z.1.1 → Forms pr names z k
forms_of pr names z k (a, b, e, w, (c, d, e2, ps, rs)) of are = (a, b, e, w, (c, d, e2, (ps, of), (rs, are)))

-- ---- the parameters that a type use has

abbrev Which : Signature → List Named → List ValType → List Named → Type 0
Which f ps rs params = ((ps ≡ []) × (rs ≡ []) × (params ≡ map (λ t. (None, t)) f.params)) ⊎ ((types_of ps ≡ f.params) × (rs ≡ f.results) × (params ≡ ps))

no_named : (ps : List Named) → no_types (types_of ps) ≡ true → ps ≡ []
no_named [] h = refl
no_named (p ∷ ps) h = absurd (let f : false ≡ true = h in cc)

which : (f : Signature) (ps : List Named) (rs : List ValType) → fits f (types_of ps) rs ≡ true → Which f ps rs (cond (none_written ps rs) (unnamed f.params) ps)
which f ps rs h = by (none_written ps rs) refl
  where
    by : (t : Bool) → none_written ps rs ≡ t → Which f ps rs (cond t (unnamed f.params) ps)
    by true e = let p = and_parts (no_types (types_of ps)) (no_types rs) e in inl (no_named ps p.0, none_are rs p.1, refl)
    by false e = elim (fits_found f (types_of ps) rs h) [
      | inl a ↦ absurd (let n : none_written ps rs ≡ true = ap (λ (z : List ValType). no_types z && no_types rs) a.0 ∙ ap no_types a.1 in let c : true ≡ false = sym n ∙ e in cc)
      | inr a ↦ inr (a.0, a.1, refl)
    ]

fitting : (f : Signature) (ps : List Named) (rs : List ValType) (params : List Named) → Which f ps rs params → Fitting f (types_of ps) rs
fitting f ps rs params (inl (a, b, c)) = inl (ap types_of a, b)
fitting f ps rs params (inr (a, b, c)) = inr (a, b)

used : (f : Signature) (ps : List Named) (rs : List ValType) (params : List Named) → Which f ps rs params → cond (none_written ps rs) (unnamed f.params) ps ≡ params
used f ps rs params (inl (a, b, c)) = ap (λ (z : List Named). cond (none_written z rs) (unnamed f.params) z) a ∙ ap (λ (z : List ValType). cond (none_written [] z) (unnamed f.params) []) b ∙ sym c
used f ps rs params (inr (a, b, c)) = by (none_written ps rs) refl ∙ sym c
  where
    by : (t : Bool) → none_written ps rs ≡ t → cond t (unnamed f.params) ps ≡ ps
    by true e =
        let none = no_named ps (and_parts (no_types (types_of ps)) (no_types rs) e).0 in
        ap unnamed (sym a ∙ ap types_of none) ∙ sym none
    by false e = refl

-- ---- the whole use

pub uses_are_written : (pr : Profile) (names : Names) → Sound (named_use_at pr names) (λ y. TypeUse names y.0 y.1)
unfolding named_use_at
uses_are_written pr names k y rest e =
    let a = bind_ok (use_parts pr names k) (λ r. used_at names r.0.0 r.0.1.0 r.0.1.1 >>= λ y. Some (y, r.1)) (y, rest) e in
    let x = a.0.0.0 in let ps = a.0.0.1.0 in let rs = a.0.0.1.1 in
    let b = bind_ok (used_at names x ps rs) (λ y. Some (y, a.0.1)) (y, rest) a.2 in
    let c = bind_ok (slice_get names.signatures x) (λ f. used_of f ps rs >>= λ qs. Some (x, qs)) b.0 b.1 in
    let d = bind_ok (used_of c.0 ps rs) (λ qs. Some (x, qs)) b.0 c.2 in
    let one = forms_sound pr names k a.0.0 a.0.1 a.1 in
    let is : ◌≡◌ {A = (ℕ × List Named) × List Token} ((x, d.0), a.0.1) (y, rest) =
    ap (λ (z : ℕ × List Named). (z, a.0.1)) (same_some (x, d.0) b.0 d.2) ∙ same_some (b.0, a.0.1) (y, rest) b.2 in (
      one.0,
      one.1 ∙ ap (λ (z : (ℕ × List Named) × List Token). one.0 ++ z.1) is,
      subst (λ (z : (ℕ × List Named) × List Token). TypeUse names z.0.0 z.0.1 one.0) is
          (elim (chosen (fits c.0 (types_of ps) rs) (Some (cond (none_written ps rs) (unnamed c.0.params) ps)) None (Some d.0) d.1) as (λ _. TypeUse names x d.0 one.0) [
            | inl t ↦ (c.0, ps, rs, c.1, forms_plain pr names a.0.0 one.0 one.2, subst (Which c.0 ps rs) (same_some (cond (none_written ps rs) (unnamed c.0.params) ps) d.0 t.1) (which c.0 ps rs t.0))
            | inr t ↦ absurd (let f : ◌≡◌ {A = Option (List Named)} None (Some d.0) = t.1 in cc)
          ]),
    )

used_found : (f : Signature) (ps : List Named) (rs : List ValType) (params : List Named) → Which f ps rs params → used_of f ps rs ≡ Some params
used_found f ps rs params w = cond-true (fits f (types_of ps) rs) (Some (cond (none_written ps rs) (unnamed f.params) ps)) None (fits_more f (types_of ps) rs (fitting f ps rs params w)) ∙ ap Some (used f ps rs params w)

pub uses_are_read : (pr : Profile) (names : Names) → AreDistinct names.types → KnowsTypes pr names → Complete (named_use_at pr names) (λ y. TypeUse names y.0 y.1) UseEnds
unfolding named_use_at
uses_are_read pr names distinct knows y front rest (f, ps, rs, look, w, h) after =
    let of = fitting_has pr f (types_of ps) rs (known pr names.signatures y.0 f knows look) (fitting f ps rs y.1 h) in
    bind_is (use_parts pr names (front ++ rest)) (λ r. used_at names r.0.0 r.0.1.0 r.0.1.1 >>= λ y. Some (y, r.1)) ((y.0, (ps, rs)), rest)
    (forms_complete pr names distinct (y.0, (ps, rs)) front rest (forms_of pr names (y.0, (ps, rs)) front w of.0 of.1) after)
    ∙ bind_is (used_at names y.0 ps rs) (λ y. Some (y, rest)) (y.0, y.1)
    (bind_is (slice_get names.signatures y.0) (λ f. used_of f ps rs >>= λ qs. Some (y.0, qs)) f look ∙ bind_is (used_of f ps rs) (λ qs. Some (y.0, qs)) y.1 (used_found f ps rs y.1 h))

-- ---- the code

abbrev TypeOf : Names → List Token → Option (ℕ × List Token)
TypeOf names k = paren_at (codes "type") (atom_at (index_of names.types)) k

abbrev Written : Type 0
Written = List Named × List ValType

abbrev Ends : Names → Option ((ℕ × Written) × List Token) → Option ((ℕ × List Named) × List Token)
Ends names o = o >>= λ r. used_at names r.0.0 r.0.1.0 r.0.1.1 >>= λ y. Some (y, r.1)

abbrev both : (pr : Profile) → List Token → Option (Written × List Token)
both pr k = then_at (named_at pr (codes "param")) (results_at pr) k

abbrev After : Names → ℕ → Option (Written × List Token) → Option ((ℕ × List Named) × List Token)
After names x o = Ends names (o >>= λ b. Some ((x, b.0), b.1))

abbrev By : (pr : Profile) → Names → Option (ℕ × List Token) → Option ((ℕ × List Named) × List Token)
By pr names o = Ends names (o >>= λ a. both pr a.1 >>= λ b. Some ((a.0, b.0), b.1))

pub named_untaken : (pr : Profile) (names : Names) (i : List Token) → TypeOf names i ≡ None → named_use_at pr names i ≡ None
unfolding named_use_at
named_untaken pr names i e = ap (By pr names) e

use_is : (pr : Profile) (names : Names) (x : ℕ) (i j : List Token) → TypeOf names i ≡ Some (x, j) → named_use_at pr names i ≡ After names x (both pr j)
unfolding named_use_at
use_is pr names x i j e = ap (By pr names) e

pub named_untyped : (pr : Profile) (names : Names) (x : ℕ) (i j : List Token) → TypeOf names i ≡ Some (x, j) → slice_get names.signatures x ≡ None → named_use_at pr names i ≡ None
named_untyped pr names x i j t e = use_is pr names x i j t ∙ by (both pr j)
  where
    none : (ps : List Named) (rs : List ValType) → used_at names x ps rs ≡ None
    none ps rs = ap (λ (o : Option Signature). ◌>>=◌ {B = ℕ × List Named} o (λ f. used_of f ps rs >>= λ qs. Some (x, qs))) e

    by : (o : Option (Written × List Token)) → After names x o ≡ None
    by None = refl
    by (Some r) = ap (λ (o : Option (ℕ × List Named)). ◌>>=◌ {B = (ℕ × List Named) × List Token} o (λ y. Some (y, r.1))) (none r.0.0 r.0.1)

pub named_params : (pr : Profile) (names : Names) (x : ℕ) (i j : List Token) → TypeOf names i ≡ Some (x, j) → named_at pr (codes "param") j ≡ None → named_use_at pr names i ≡ None
named_params pr names x i j t g = use_is pr names x i j t ∙ ap (λ (o : Option (List Named × List Token)). After names x (o >>= λ a. results_at pr a.1 >>= λ b. Some ((a.0, b.0), b.1))) g

pub named_results : (pr : Profile) (names : Names) (x : ℕ) (ps : List Named) (i j k : List Token) → TypeOf names i ≡ Some (x, j) → named_at pr (codes "param") j ≡ Some (ps, k)
    → made joined (groups_at pr (codes "result") k) ≡ None → named_use_at pr names i ≡ None
unfolding results_at
named_results pr names x ps i j k t g h =
    use_is pr names x i j t
    ∙ ap (After names x) (bind_is (named_at pr (codes "param") j) (λ a. results_at pr a.1 >>= λ b. Some ((a.0, b.0), b.1)) (ps, k) g ∙ ap (λ (o : Option (List ValType × List Token)). o >>= λ b. Some ((ps, b.0), b.1)) h)

pub named_ends : (pr : Profile) (names : Names) (x : ℕ) (f : Signature) (ps : List Named) (rs : List ValType) (o : Option (List Named)) (i j k l : List Token)
    → TypeOf names i ≡ Some (x, j) → slice_get names.signatures x ≡ Some f → named_at pr (codes "param") j ≡ Some (ps, k) → made joined (groups_at pr (codes "result") k) ≡ Some (rs, l) → o ≡ used_of f ps rs
    → named_use_at pr names i ≡ (o >>= λ qs. Some ((x, qs), l))
unfolding results_at
named_ends pr names x f ps rs o i j k l t e g h u =
    use_is pr names x i j t
    ∙ ap (After names x) (bind_is (named_at pr (codes "param") j) (λ a. results_at pr a.1 >>= λ b. Some ((a.0, b.0), b.1)) (ps, k) g ∙ bind_is (results_at pr k) (λ b. Some ((ps, b.0), b.1)) (rs, l) h)
    ∙ ap (λ (z : Option (ℕ × List Named)). ◌>>=◌ {B = (ℕ × List Named) × List Token} z (λ y. Some (y, l))) (bind_is (slice_get names.signatures x) (λ f. used_of f ps rs >>= λ qs. Some (x, qs)) f e ∙ ap (λ (z : Option (List Named)). z >>= λ qs. Some (x, qs)) (sym u))
    ∙ by o
  where
    by : (o : Option (List Named)) → ◌>>=◌ {B = (ℕ × List Named) × List Token} (o >>= λ qs. Some (x, qs)) (λ y. Some (y, l)) ≡ (o >>= λ qs. Some ((x, qs), l))
    by None = refl
    by (Some qs) = refl

-- ---- types and parameters, one by one

pub times_step : (ts us : List ValType) (n m : ℕ) (t : ValType) → us ≡ ts ++ replicate n t → m ≡ n + 1 → us ++ t ∷ [] ≡ ts ++ replicate m t
times_step ts us n m t e f =
    ap (λ (z : List ValType). z ++ t ∷ []) e ∙ append_assoc ts (replicate n t) (t ∷ []) ∙ ap (λ (z : List ValType). ts ++ z) (replicate_more n t ∙ ap (λ (k : ℕ). replicate k t) (sym f))

pub times_none : (ts : List ValType) (t : ValType) → ts ≡ ts ++ replicate 0 t
times_none ts t = sym (append-nil ts)

pub ruleset times_laws = (times_step, times_none)

pub types_step : (runs : List NamedRun) (i n : ℕ) (d : NamedRun) (t : ValType) (ts us : List ValType) → i < length runs → ts ≡ types_of (named_list (take i runs))
    → types_of (named_of (get_or runs i d)) ≡ replicate n t → us ≡ ts ++ replicate n t → us ≡ types_of (named_list (take (i + 1) runs))
types_step runs i n d t ts us lt e f g =
    g ∙ ap (λ (z : List ValType). ts ++ z) (sym f) ∙ ap (λ (z : List ValType). z ++ types_of (named_of (get_or runs i d))) e
    ∙ sym (ap (λ (z : List NamedRun). types_of (named_list z)) (take_more runs i d lt) ∙ ap types_of (named_push (take i runs) (get_or runs i d))
    ∙ map-append (λ (p : Named). p.1) (named_list (take i runs)) (named_of (get_or runs i d)))

pub types_all : (runs : List NamedRun) (i : ℕ) (ts : List ValType) → length runs ≤ i → ts ≡ types_of (named_list (take i runs)) → ts ≡ types_of (named_list runs)
types_all runs i ts le e = e ∙ ap (λ (z : List NamedRun). types_of (named_list z)) (take_all i runs le)

pub ruleset types_laws = (types_step, types_all)

-- ---- the parameters of a use

pub used_none : (f : Signature) (ps : List Named) (rs ts : List ValType) → ts ≡ types_of ps → fits f ts rs ≡ false → used_of f ps rs ≡ None
used_none f ps rs ts e h = cond-false (fits f (types_of ps) rs) (Some (cond (none_written ps rs) (unnamed f.params) ps)) None (ap (λ (z : List ValType). fits f z rs) (sym e) ∙ h)

used_some : (f : Signature) (ps qs : List Named) (rs ts : List ValType) (b : Bool) → ts ≡ types_of ps → fits f ts rs ≡ true → (no_types ts && no_types rs) ≡ b → cond b (unnamed f.params) ps ≡ qs → used_of f ps rs ≡ Some qs
used_some f ps qs rs ts b e h n q =
    cond-true (fits f (types_of ps) rs) (Some (cond (none_written ps rs) (unnamed f.params) ps)) None (ap (λ (z : List ValType). fits f z rs) (sym e) ∙ h)
    ∙ ap (λ (z : Bool). Some (cond z (unnamed f.params) ps)) (ap (λ (z : List ValType). no_types z && no_types rs) (sym e) ∙ n) ∙ ap Some q

pub used_types : (f : Signature) (ps qs : List Named) (rs ts : List ValType) → ts ≡ types_of ps → fits f ts rs ≡ true → (no_types ts && no_types rs) ≡ true → qs ≡ unnamed f.params → used_of f ps rs ≡ Some qs
used_types f ps qs rs ts e h n q = used_some f ps qs rs ts true e h n (sym q)

pub used_written : (f : Signature) (ps : List Named) (rs ts : List ValType) → ts ≡ types_of ps → fits f ts rs ≡ true → (no_types ts && no_types rs) ≡ false → used_of f ps rs ≡ Some ps
used_written f ps rs ts e h n = used_some f ps ps rs ts false e h n refl

pub ruleset used_laws = (used_none, used_types, used_written)

-- ---- refusals

pub named_params_fail : (pr : Profile) (names : Names) (x : ℕ) (w : TextWhy) (i j : List Token) → TypeOf names i ≡ Some (x, j) → Fails w (named_at pr (codes "param") j) → Fails w (named_use_at pr names i)
named_params_fail pr names x w i j t h = fails_on w (named_at pr (codes "param") j) (named_use_at pr names i) (named_params pr names x i j t) h

pub named_results_fail : (pr : Profile) (names : Names) (x : ℕ) (ps : List Named) (w : TextWhy) (i j k : List Token) → TypeOf names i ≡ Some (x, j) → named_at pr (codes "param") j ≡ Some (ps, k)
    → Fails w (made joined (groups_at pr (codes "result") k)) → Fails w (named_use_at pr names i)
named_results_fail pr names x ps w i j k t g h = fails_on w (made joined (groups_at pr (codes "result") k)) (named_use_at pr names i) (named_results pr names x ps i j k t g) h

pub ruleset named_laws = (named_untaken, named_params_fail, named_results_fail)
