-- Groups of parameters and of locals, with their identifiers.
use Rattle.std.proofs.Common.{◌≡◌, ℕ, zero, suc, ◌+◌, ◌<◌, ◌⊎◌, true, false, List, [], ◌∷◌, ◌++◌, length, replicate, Option, Some, None, refl, sym, ap, subst, ◌∙◌, inl, inr, arith, append_assoc, length-append}
use Rattle.std.proofs.lemmas.List.{append-nil, map-append, replicate_more}
use Rattle.std.proofs.lemmas.Bool.{cond-true, cond-false}
use Rattle.wm_syntax.specs.Spelling.{Form, Each, ◌▸◌}
use Rattle.wm_syntax.specs.declared.types.ValType.{ValType}
use Rattle.wm_syntax.specs.declared.types.ValType.TheVariants.{I32, I64, F32, F64}
use Rattle.wm_syntax.specs.declared.profile.Profile.{Profile}
use Rattle.wm_syntax.specs.Profiles.{HasType}
use Rattle.wm_syntax.proofs.ProfileLaws.{all_append, all_back, all_front}
use Rattle.wm_tokens.specs.Tokens.{Token, open_paren, close_paren, string, atom}
use Rattle.wm_tokens.specs.Identifiers.{WritesId}
use Rattle.wm_syntax.specs.Types.{type_text}
use Rattle.wm_tokens.specs.Written.{Named, Paren, WritesGroup, WritesGroups, types_of}
use Rattle.wm_bodies.specs.exact.Reading.{◌>>=◌, made, is_id, atom_at, type_of, paren_at}
use Rattle.wm_bodies.specs.exact.TypeUses.{types_at, begins_group, unnamed, inside_at, named_groups_at, named_at, joined_named, adding_named}
use Rattle.wm_bodies.specs.declared.named.NamedRun.{NamedRun}
use Rattle.wm_bodies.specs.declared.named.NamedRun.TheVariants.{Unnamed}
use Rattle.std.specs.Prelude.{Result}
use Rattle.wm_tokens.specs.declared.faults.TextFault.{TextFault}
use Rattle.wm_bodies.specs.inner.Views.{Reads}
use Rattle.wm_bodies.specs.inner.Named.{named_of, named_list}
use Rattle.wm_tokens.proofs.Basics.{chosen, same_some}
use Rattle.wm_bodies.proofs.Readers.{Sound, Complete, Any, Begins, BeginsClose, bind_ok, bind_is, is_same, made_sound, made_is, paren_sound, paren_complete, many_sound, many_complete}
use Rattle.wm_bodies.proofs.Groups.{NoAtom, fails_refused, groups_on, groups_out, groups_done, rest_shorter}
use Rattle.wm_bodies.proofs.Immediates.{NotId, OfType, type_sound, type_complete}
use Rattle.wm_bodies.proofs.Indices.{id_is, is_identifier}
use Rattle.wm_bodies.proofs.TypeUseLaws.{AreOf, plain_types, types_complete, types_of_it, types_sound, types_unnamed}

-- The contents of a group, between its keyword and its closing parenthesis, with types of the profile.
abbrev pub Inside : Profile → List Named → Form Token
Inside pr group k =
    ((name : List ℕ) × (t : ValType) × (group ≡ (Some name, t) ∷ []) × (WritesId (Some name) ▸ OfType pr t) k)
    ⊎ ((ts : List ValType) × (group ≡ unnamed ts) × Each (OfType pr) ts k)

-- the types of parameters or locals are of the profile
abbrev pub NamedOf : Profile → List Named → Type 0
NamedOf pr ps = AreOf pr (types_of ps)

abbrev pub OfGroup : Profile → List ℕ → List Named → Form Token
OfGroup pr word group k = WritesGroup word group k × NamedOf pr group

abbrev pub OfGroups : Profile → List ℕ → List Named → Form Token
OfGroups pr word all k = WritesGroups word all k × NamedOf pr all

-- a group is that in parentheses
to_group : (pr : Profile) (word : List ℕ) (group : List Named) (k : List Token) → Paren word (Inside pr group) k → OfGroup pr word group k
to_group pr word group k (a, b, e, o, (f, c, e2, inl (name, t, g, (x, y, e3, i, w)), l)) =
    (inl (name, t, g, (a, b, e, o, (f, c, e2, (x, y, e3, i, w.0), l))), subst (NamedOf pr) (sym g) (w.1, tt))
to_group pr word group k (a, b, e, o, (f, c, e2, inr (ts, g, w), l)) =
    let m = plain_types pr ts f w in
    (inr (ts, g, (a, b, e, o, (f, c, e2, m.0, l))), subst (NamedOf pr) (sym g) (subst (AreOf pr) (sym (types_unnamed ts)) m.1))

from_group : (pr : Profile) (word : List ℕ) (group : List Named) (k : List Token) → OfGroup pr word group k → Paren word (Inside pr group) k
from_group pr word group k (inl (name, t, g, (a, b, e, o, (f, c, e2, (x, y, e3, i, w), l))), of) =
    let one : NamedOf pr ((Some name, t) ∷ []) = subst (NamedOf pr) g of in
    (a, b, e, o, (f, c, e2, inl (name, t, g, (x, y, e3, i, (w, one.0))), l))
from_group pr word group k (inr (ts, g, (a, b, e, o, (f, c, e2, w, l))), of) =
    (a, b, e, o, (f, c, e2, inr (ts, g, types_of_it pr ts f w (subst (AreOf pr) (types_unnamed ts) (subst (NamedOf pr) g of))), l))

unnamed_sound : (pr : Profile) → Sound (λ k. made unnamed (types_at pr k)) (Inside pr)
unnamed_sound pr = made_sound unnamed (types_at pr) (Each (OfType pr)) (Inside pr) (types_sound pr) (λ ts front h. inr (ts, refl, h))

inside_sound : (pr : Profile) → Sound (inside_at pr) (Inside pr)
unfolding inside_at
inside_sound pr [] x rest e = unnamed_sound pr [] x rest e
inside_sound pr (open_paren ∷ k) x rest e = unnamed_sound pr (open_paren ∷ k) x rest e
inside_sound pr (close_paren ∷ k) x rest e = unnamed_sound pr (close_paren ∷ k) x rest e
inside_sound pr (string b ∷ k) x rest e = unnamed_sound pr (string b ∷ k) x rest e
inside_sound pr (atom a ∷ k) x rest e = elim (chosen (is_id a) (◌>>=◌ {B = List Named × List Token} (atom_at (type_of pr) k) (λ t. Some ((Some a, t.0) ∷ [], t.1))) (made unnamed (types_at pr (atom a ∷ k))) (Some (x, rest)) e) [
  | inl p ↦ (
      let g = bind_ok (atom_at (type_of pr) k) (λ t. Some ((Some a, t.0) ∷ [], t.1)) (x, rest) p.1 in
      let one = type_sound pr k g.0.0 g.0.1 g.1 in
      let is : ◌≡◌ {A = List Named × List Token} ((Some a, g.0.0) ∷ [], g.0.1) (x, rest) = same_some ((Some a, g.0.0) ∷ [], g.0.1) (x, rest) g.2 in (
        atom a ∷ one.0,
        ap (λ (z : List Token). atom a ∷ z) one.1 ∙ ap (λ (z : List Named × List Token). (atom a ∷ one.0) ++ z.1) is,
        subst (λ (z : List Named × List Token). Inside pr z.0 (atom a ∷ one.0)) is (inl (a, g.0.0, refl, (atom a ∷ [], one.0, refl, (is_identifier a p.0, refl), one.2))),
      ))
  | inr p ↦ unnamed_sound pr (atom a ∷ k) x rest p.1
]

inside_unnamed : (pr : Profile) (k : List Token) → NotId k → inside_at pr k ≡ made unnamed (types_at pr k)
unfolding inside_at
inside_unnamed pr [] h = refl
inside_unnamed pr (open_paren ∷ k) h = refl
inside_unnamed pr (close_paren ∷ k) h = refl
inside_unnamed pr (string b ∷ k) h = refl
inside_unnamed pr (atom a ∷ k) h = cond-false (is_id a) _ _ h

close_not_id : (k : List Token) → BeginsClose k → NotId k
close_not_id [] f = tt
close_not_id (open_paren ∷ k) f = tt
close_not_id (close_paren ∷ k) f = tt
close_not_id (string b ∷ k) f = tt
close_not_id (atom a ∷ k) f = absurd f

type_not_id : (t : ValType) (k : List Token) → NotId (atom (type_text t) ∷ k)
type_not_id I32 k = refl
type_not_id I64 k = refl
type_not_id F32 k = refl
type_not_id F64 k = refl

types_not_id : (pr : Profile) (ts : List ValType) (front rest : List Token) → Each (OfType pr) ts front → BeginsClose rest → NotId (front ++ rest)
types_not_id pr [] front rest h f = subst (λ (z : List Token). NotId (z ++ rest)) (sym h) (close_not_id rest f)
types_not_id pr (t ∷ ts) front rest (x, y, e, w, more) f =
    subst (λ (z : List Token). NotId (z ++ rest)) (sym (e ∙ ap (λ (z : List Token). z ++ y) w.0)) (type_not_id t (y ++ rest))

inside_complete : (pr : Profile) → Complete (inside_at pr) (Inside pr) BeginsClose
unfolding inside_at
inside_complete pr x front rest (inl (name, t, g, (a, b, e, (i, e2), w))) f =
    ap (λ (z : List Token). inside_at pr (z ++ rest)) (e ∙ ap (λ (z : List Token). z ++ b) e2) ∙ cond-true (is_id name) _ _ (id_is name i)
    ∙ bind_is (atom_at (type_of pr) (b ++ rest)) (λ u. Some ((Some name, u.0) ∷ [], u.1)) (t, rest) (type_complete pr t b rest w tt)
    ∙ ap (λ (z : List Named). Some (z, rest)) (sym g)
inside_complete pr x front rest (inr (ts, g, w)) f =
    inside_unnamed pr (front ++ rest) (types_not_id pr ts front rest w f) ∙ made_is unnamed (types_at pr (front ++ rest)) ts rest (types_complete pr ts front rest w f)
    ∙ ap (λ (z : List Named). Some (z, rest)) (sym g)

-- ---- groups

pub named_group_sound : (pr : Profile) (word : List ℕ) → Sound (paren_at word (inside_at pr)) (OfGroup pr word)
named_group_sound pr word k x rest e = let g = paren_sound word (inside_at pr) (Inside pr) (inside_sound pr) k x rest e in (g.0, g.1, to_group pr word x g.0 g.2)

named_group_complete : (pr : Profile) (word : List ℕ) → Complete (paren_at word (inside_at pr)) (OfGroup pr word) Any
named_group_complete pr word x front rest h f = paren_complete word (inside_at pr) (Inside pr) (inside_complete pr) x front rest (from_group pr word x front h) f

pub named_group_begins : (pr : Profile) (word : List ℕ) → Begins (begins_group word) (OfGroup pr word)
named_group_begins pr word x front rest h = by (from_group pr word x front h)
  where
    by : Paren word (Inside pr x) front → (begins_group word (front ++ rest) ≡ true) × (0 < length front)
    by (a, b, e, is, more) =
        let text : front ≡ open_paren ∷ atom word ∷ b = e ∙ ap (λ (z : List Token). z ++ b) is in
        (ap (λ (z : List Token). begins_group word (z ++ rest)) text ∙ is_same word, subst (λ (z : List Token). 0 < length z) (sym text) (omega arith))

each_groups : (pr : Profile) (word : List ℕ) → Sound (named_groups_at pr word) (Each (OfGroup pr word))
unfolding named_groups_at
each_groups pr word k = many_sound (suc (length k)) (begins_group word) (paren_at word (inside_at pr)) (OfGroup pr word) (named_group_sound pr word) k

abbrev pub NotGroup : List ℕ → List Token → Type 0
NotGroup word k = begins_group word k ≡ false

each_complete : (pr : Profile) (word : List ℕ) → Complete (named_groups_at pr word) (Each (OfGroup pr word)) (NotGroup word)
unfolding named_groups_at
each_complete pr word gs front rest h f =
    many_complete (suc (length (front ++ rest))) (begins_group word) (paren_at word (inside_at pr)) (OfGroup pr word) Any
    (named_group_complete pr word) (named_group_begins pr word) (λ xs g r h i. tt) gs front rest (omega (arith, length-append front rest)) h f

-- ---- as the laws say it

plain_groups : (pr : Profile) (word : List ℕ) (gs : List (List Named)) (front : List Token) → Each (OfGroup pr word) gs front → Each (WritesGroup word) gs front × NamedOf pr (joined_named gs)
plain_groups pr word [] front h = (h, tt)
plain_groups pr word (g ∷ gs) front (x, y, e, w, more) =
    let m = plain_groups pr word gs y more in
    ((x, y, e, w.0, m.0), subst (AreOf pr) (sym (map-append (λ (p : Named). p.1) g (joined_named gs))) (all_append (HasType pr) (types_of g) (types_of (joined_named gs)) w.1 m.1))

groups_of_it : (pr : Profile) (word : List ℕ) (gs : List (List Named)) (front : List Token) → Each (WritesGroup word) gs front → NamedOf pr (joined_named gs) → Each (OfGroup pr word) gs front
groups_of_it pr word [] front h of = h
groups_of_it pr word (g ∷ gs) front (x, y, e, w, more) of =
    let both : AreOf pr (types_of g ++ types_of (joined_named gs)) = subst (AreOf pr) (map-append (λ (p : Named). p.1) g (joined_named gs)) of in
    (x, y, e, (w, all_front (HasType pr) (types_of g) (types_of (joined_named gs)) both), groups_of_it pr word gs y more (all_back (HasType pr) (types_of g) (types_of (joined_named gs)) both))

pub groups_are_written : (pr : Profile) (word : List ℕ) → Sound (named_at pr word) (OfGroups pr word)
groups_are_written pr word =
    made_sound joined_named (named_groups_at pr word) (Each (OfGroup pr word)) (OfGroups pr word) (each_groups pr word)
    (λ gs front h. let m = plain_groups pr word gs front h in ((gs, refl, m.0), m.1))

pub groups_are_read : (pr : Profile) (word : List ℕ) → Complete (named_at pr word) (OfGroups pr word) (NotGroup word)
groups_are_read pr word all front rest ((gs, e, h), of) f =
    made_is joined_named (named_groups_at pr word (front ++ rest)) gs rest (each_complete pr word gs front rest (groups_of_it pr word gs front h (subst (NamedOf pr) e of)) f)
    ∙ ap (λ (z : List Named). Some (z, rest)) (sym e)

-- ---- the loops of the code

group_size : (pr : Profile) (word : List ℕ) (group : List Named) (front : List Token) → OfGroup pr word group front → 0 < length front
group_size pr word group front h = (named_group_begins pr word group front [] h).1

abbrev pub after_named : List Named → Option (List (List Named) × List Token) → Option (List Named × List Token)
after_named front read = made (λ gs. front ++ joined_named gs) read

pub named_more : (pr : Profile) (word : List ℕ) (front new : List Named) (j k : List Token) → true ≡ begins_group word j → adding_named front (paren_at word (inside_at pr) j) ≡ Some (new, k)
    → after_named front (named_groups_at pr word j) ≡ after_named new (named_groups_at pr word k)
unfolding named_groups_at
named_more pr word front new j k b e = groups_on word (inside_at pr) (OfGroup pr word) (named_group_sound pr word) (group_size pr word) front new j k b e

pub named_fail : (pr : Profile) (word : List ℕ) (front : List Named) (j : List Token) → true ≡ begins_group word j → adding_named front (paren_at word (inside_at pr) j) ≡ None → after_named front (named_groups_at pr word j) ≡ None
unfolding named_groups_at
named_fail pr word front j b e = groups_out word (inside_at pr) (OfGroup pr word) (named_group_sound pr word) (group_size pr word) front j b e

pub named_over : (pr : Profile) (word : List ℕ) (front : List Named) (j : List Token) → false ≡ begins_group word j → after_named front (named_groups_at pr word j) ≡ Some (front, j)
unfolding named_groups_at
named_over pr word front j b = groups_done word (inside_at pr) (OfGroup pr word) (named_group_sound pr word) (group_size pr word) front j b

pub named_begin : (o : Option (List (List Named) × List Token)) → after_named [] o ≡ made joined_named o
named_begin None = refl
named_begin (Some x) = refl

pub named_shrinks : (pr : Profile) (word : List ℕ) (front new : List Named) (j k : List Token) → adding_named front (paren_at word (inside_at pr) j) ≡ Some (new, k) → length k < length j
named_shrinks pr word front new j k e = rest_shorter word (inside_at pr) (OfGroup pr word) (named_group_sound pr word) (group_size pr word) front new j k e

pub ruleset named_laws = (named_more, named_fail, named_over, named_begin, named_shrinks)

-- ---- one group

pub inside_named : (pr : Profile) (front : List Named) (a : List ℕ) (t : ValType) (j k l : List Token) → j ≡ atom a ∷ k → is_id a ≡ true → atom_at (type_of pr) k ≡ Some (t, l) → adding_named front (inside_at pr j) ≡ Some (front ++ (Some a, t) ∷ [], l)
unfolding inside_at
inside_named pr front a t j k l e i h =
    ap (λ (z : List Token). adding_named front (inside_at pr z)) e
    ∙ ap (adding_named front) (cond-true (is_id a) _ _ i ∙ bind_is (atom_at (type_of pr) k) (λ u. Some ((Some a, u.0) ∷ [], u.1)) (t, l) h)

pub inside_fail : (pr : Profile) (front : List Named) (a : List ℕ) (j k : List Token) → j ≡ atom a ∷ k → is_id a ≡ true → atom_at (type_of pr) k ≡ None → adding_named front (inside_at pr j) ≡ None
unfolding inside_at
inside_fail pr front a j k e i h =
    ap (λ (z : List Token). adding_named front (inside_at pr z)) e
    ∙ ap (adding_named front) (cond-true (is_id a) _ _ i ∙ ap (λ (o : Option (ValType × List Token)). o >>= λ u. Some ((Some a, u.0) ∷ [], u.1)) h)

-- ---- types without identifiers

regroup : (front : List Named) (t : ValType) (o : Option (List ValType × List Token)) → adding_named front (made unnamed (o >>= λ x. Some (t ∷ x.0, x.1))) ≡ adding_named (front ++ (None, t) ∷ []) (made unnamed o)
regroup front t None = refl
regroup front t (Some x) = ap (λ (z : List Named). Some (z, x.1)) (sym (append_assoc front ((None, t) ∷ []) (unnamed x.0)))

pub unnamed_more : (pr : Profile) (front : List Named) (t : ValType) (a : List ℕ) (j k : List Token) → j ≡ atom a ∷ k → Some t ≡ type_of pr a
    → adding_named front (made unnamed (types_at pr j)) ≡ adding_named (front ++ (None, t) ∷ []) (made unnamed (types_at pr k))
unnamed_more pr front t a j k e h =
    ap (λ (z : List Token). adding_named front (made unnamed (types_at pr z))) e
    ∙ ap (λ (o : Option (List ValType × List Token)). adding_named front (made unnamed o)) (bind_is (type_of pr a) (λ u. ◌>>=◌ {B = List ValType × List Token} (types_at pr k) (λ us. Some (u ∷ us.0, us.1))) t (sym h))
    ∙ regroup front t (types_at pr k)

pub unnamed_fail : (pr : Profile) (front : List Named) (a : List ℕ) (j k : List Token) → j ≡ atom a ∷ k → None ≡ type_of pr a → adding_named front (made unnamed (types_at pr j)) ≡ None
unnamed_fail pr front a j k e h =
    ap (λ (z : List Token). adding_named front (made unnamed (types_at pr z))) e
    ∙ ap (λ (o : Option ValType). adding_named front (made unnamed (◌>>=◌ {B = List ValType × List Token} o (λ u. ◌>>=◌ {B = List ValType × List Token} (types_at pr k) (λ us. Some (u ∷ us.0, us.1)))))) (sym h)

pub unnamed_over : (pr : Profile) (front : List Named) (j : List Token) → NoAtom j → adding_named front (made unnamed (types_at pr j)) ≡ Some (front, j)
unnamed_over pr front [] h = ap (λ (z : List Named). Some (z, [])) (append-nil front)
unnamed_over pr front (open_paren ∷ k) h = ap (λ (z : List Named). Some (z, open_paren ∷ k)) (append-nil front)
unnamed_over pr front (close_paren ∷ k) h = ap (λ (z : List Named). Some (z, close_paren ∷ k)) (append-nil front)
unnamed_over pr front (string b ∷ k) h = ap (λ (z : List Named). Some (z, string b ∷ k)) (append-nil front)
unnamed_over pr front (atom a ∷ k) h = absurd h

pub ruleset unnamed_laws = (unnamed_more, unnamed_fail, unnamed_over, fails_refused)

-- ---- runs

pub named_append : (xs ys : List NamedRun) → named_list (xs ++ ys) ≡ named_list xs ++ named_list ys
named_append [] ys = refl
named_append (x ∷ xs) ys = ap (λ (z : List Named). named_of x ++ z) (named_append xs ys) ∙ sym (append_assoc (named_of x) (named_list xs) (named_list ys))

pub named_push : (runs : List NamedRun) (run : NamedRun) → named_list (runs ++ run ∷ []) ≡ named_list runs ++ named_of run
named_push runs run = named_append runs (run ∷ []) ∙ ap (λ (z : List Named). named_list runs ++ z) (append-nil (named_of run))

pub run_longer : (n m : ℕ) (t : ValType) → m ≡ n + 1 → named_of (Unnamed m t) ≡ named_of (Unnamed n t) ++ (None, t) ∷ []
run_longer n m t e = ap (λ (k : ℕ). replicate {A = Named} k (None, t)) e ∙ sym (replicate_more n (None, t))

pub types_of_run : (n : ℕ) (t : ValType) → types_of (named_of (Unnamed n t)) ≡ replicate n t
types_of_run zero t = refl
types_of_run (suc n) t = ap (λ (z : List ValType). t ∷ z) (types_of_run n t)

-- the last run, lengthened by an item
pub last_longer : (runs front now : List NamedRun) (last run : NamedRun) (t : ValType) → runs ≡ front ++ last ∷ [] → now ≡ front ++ run ∷ []
    → named_of run ≡ named_of last ++ (None, t) ∷ [] → named_list now ≡ named_list runs ++ (None, t) ∷ []
last_longer runs front now last run t a b e =
    ap named_list b ∙ named_push front run ∙ ap (λ (z : List Named). named_list front ++ z) e ∙ sym (append_assoc (named_list front) (named_of last) ((None, t) ∷ []))
    ∙ ap (λ (z : List Named). z ++ (None, t) ∷ []) (sym (ap named_list a ∙ named_push front last))

-- a run more
pub one_run_more : (runs now : List NamedRun) (t : ValType) → now ≡ runs ++ Unnamed 1 t ∷ [] → named_list now ≡ named_list runs ++ (None, t) ∷ []
one_run_more runs now t e = ap named_list e ∙ named_push runs (Unnamed 1 t)

pub first_run : (runs front now : List NamedRun) (t : ValType) → runs ≡ front ++ [] → now ≡ front ++ Unnamed 1 t ∷ [] → named_list now ≡ named_list runs ++ (None, t) ∷ []
first_run runs front now t a b = one_run_more runs now t (b ∙ ap (λ (z : List NamedRun). z ++ Unnamed 1 t ∷ []) (sym (a ∙ append-nil front)))

pub ruleset push_laws = (last_longer, one_run_more, first_run)

-- ---- what may be in a group

pub inside_other : (pr : Profile) (front : List Named) (a : List ℕ) (j k : List Token) → j ≡ atom a ∷ k → is_id a ≡ false → adding_named front (inside_at pr j) ≡ adding_named front (made unnamed (types_at pr j))
unfolding inside_at
inside_other pr front a j k e h = ap (λ (z : List Token). adding_named front (inside_at pr z)) e ∙ ap (adding_named front) (cond-false (is_id a) _ _ h) ∙ ap (λ (z : List Token). adding_named front (made unnamed (types_at pr z))) (sym e)

pub inside_no_atom : (pr : Profile) (front : List Named) (j : List Token) → NoAtom j → adding_named front (inside_at pr j) ≡ adding_named front (made unnamed (types_at pr j))
unfolding inside_at
inside_no_atom pr front [] h = refl
inside_no_atom pr front (open_paren ∷ k) h = refl
inside_no_atom pr front (close_paren ∷ k) h = refl
inside_no_atom pr front (string b ∷ k) h = refl
inside_no_atom pr front (atom a ∷ k) h = absurd h

pub reads_other : (pr : Profile) {X : Type 0} (view : X → List Named × List Token) (r : Result X TextFault) (front : List Named) (a : List ℕ) (j k : List Token) → j ≡ atom a ∷ k → is_id a ≡ false
    → Reads view r (adding_named front (made unnamed (types_at pr j))) → Reads view r (adding_named front (inside_at pr j))
reads_other pr view r front a j k e h g = subst (λ (z : Option (List Named × List Token)). Reads view r z) (sym (inside_other pr front a j k e h)) g

pub ruleset inside_laws = (inside_named, inside_fail, inside_other, inside_no_atom, reads_other, named_push)

pub group_none : (front : List Named) (o : Option (List Named × List Token)) → o ≡ None → adding_named front o ≡ None
group_none front o e = ap (adding_named front) e
