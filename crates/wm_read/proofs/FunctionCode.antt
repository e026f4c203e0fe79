-- Steps of the reader of functions.
use Rattle.std.proofs.Common.{◌≡◌, ℕ, zero, suc, ◌<◌, ◌≤◌, ◌+◌, Bool, true, false, cond, List, [], ◌∷◌, ◌++◌, length, replicate, take, drop, get_or, Option, Some, None, refl, sym, ap, subst, ◌∙◌, arith, append_assoc, inl, inr, length-append}
use Rattle.std.specs.Prelude.{MatchOption, nat_lt, ◌&&◌, ◌^◌, ◌⊎◌}
use Rattle.std.proofs.lemmas.Bool.{and_from, and_left, cond-false, cond-true, le-ltb, lt-ltb}
use Rattle.std.proofs.lemmas.List.{append-nil, length-replicate, map-append, take-append-drop, take_all, take_more}
use Rattle.wm_syntax.specs.declared.types.ValType.{ValType}
use Rattle.wm_syntax.specs.declared.profile.Profile.{Profile}
use Rattle.wm_syntax.specs.Instructions.{Instructions}
use Rattle.wm_syntax.specs.Modules.{Function}
use Rattle.wm_tokens.specs.Tokens.{Token, open_paren, close_paren, string, atom}
use Rattle.wm_tokens.specs.Identifiers.{Id, Ids}
use Rattle.wm_tokens.specs.Written.{Named, Names, Scope, ids_of, types_of}
use Rattle.wm_tokens.specs.declared.faults.TextWhy.{TextWhy}
use Rattle.wm_tokens.specs.declared.faults.TextWhy.TheVariants as why
use Rattle.wm_bodies.specs.declared.named.NamedRun.{NamedRun}
use Rattle.wm_bodies.specs.declared.named.NamedRun.TheVariants.{Unnamed}
use Rattle.wm_bodies.specs.exact.Reading.{◌>>=◌, is_new, ops_at}
use Rattle.wm_bodies.specs.exact.TypeUses.{begins_open, instructions_at, unnamed}
use Rattle.wm_read.specs.exact.Fields.{all_new, function_at, function_by, function_of, is_function}
use Rattle.wm_read.specs.inner.Fields.{head_at}
use Rattle.wm_bodies.specs.inner.Named.{named_of, named_list}
use Rattle.wm_bodies.specs.inner.Views.{Fails, IsOfReaders, NotMemory}
use Rattle.wm_tokens.proofs.Basics.{same_some}
use Rattle.wm_bodies.proofs.Groups.{fails_carried, fails_on, fails_read}
use Rattle.wm_bodies.proofs.NamedGroups.{named_append, named_push}
use Rattle.wm_bodies.proofs.Readers.{bind_is}

-- ---- identifiers

new_append : (seen xs ys : Ids) → all_new seen (xs ++ ys) ≡ (all_new seen xs && all_new (seen ++ xs) ys)
new_append seen [] ys = ap (λ (z : Ids). all_new z ys) (sym (append-nil seen))
new_append seen (id ∷ xs) ys =
    ap (λ (t : Bool). is_new seen id && t) (new_append (seen ++ id ∷ []) xs ys ∙ ap (λ (z : Ids). all_new (seen ++ id ∷ []) xs && all_new z ys) (append_assoc seen (id ∷ []) xs))
    ∙ by (is_new seen id) (all_new (seen ++ id ∷ []) xs) (all_new (seen ++ id ∷ xs) ys)
  where
    by : (a b c : Bool) → (a && (b && c)) ≡ ((a && b) && c)
    by true b c = refl
    by false b c = refl

ids_append : (ps ls : List Named) → ids_of (ps ++ ls) ≡ ids_of ps ++ ids_of ls
ids_append ps ls = map-append (λ (p : Named). p.0) ps ls

-- The identifiers of a run.
abbrev pub run_ids : NamedRun → Ids
run_ids run = ids_of (named_of run)

pub one_new : (seen : Ids) (id : Id) (b : Bool) → b ≡ is_new seen id → b ≡ all_new seen (id ∷ [])
one_new seen id b e = e ∙ by (is_new seen id)
  where
    by : (t : Bool) → t ≡ (t && true)
    by true = refl
    by false = refl

pub none_new : (seen : Ids) (n : ℕ) (t : ValType) → all_new seen (run_ids (Unnamed n t)) ≡ true
none_new seen zero t = refl
none_new seen (suc n) t = none_new (seen ++ None ∷ []) n t

pub none_ids : (n : ℕ) (t : ValType) → replicate n None ≡ run_ids (Unnamed n t)
none_ids zero t = refl
none_ids (suc n) t = ap (λ (z : Ids). None ∷ z) (none_ids n t)

pub ruleset run_laws = (one_new, none_new, none_ids)

-- The identifiers of runs.
abbrev pub code_ids : List NamedRun → Ids
code_ids runs = ids_of (named_list runs)

code_ids_append : (xs ys : List NamedRun) → code_ids (xs ++ ys) ≡ code_ids xs ++ code_ids ys
code_ids_append xs ys = ap ids_of (named_append xs ys) ∙ ids_append (named_list xs) (named_list ys)

ids_of_one : (runs : List NamedRun) (i : ℕ) (d : NamedRun) → i < length runs → code_ids (take (i + 1) runs) ≡ code_ids (take i runs) ++ run_ids (get_or runs i d)
ids_of_one runs i d lt =
    ap code_ids (take_more runs i d lt) ∙ ap ids_of (named_push (take i runs) (get_or runs i d)) ∙ ids_append (named_list (take i runs)) (named_of (get_or runs i d))

ids_with : (seen now : Ids) (runs : List NamedRun) (i : ℕ) (d : NamedRun) (b : Bool) → i < length runs → all_new seen (code_ids (take i runs)) ≡ true → now ≡ seen ++ code_ids (take i runs)
    → b ≡ all_new now (run_ids (get_or runs i d)) → all_new seen (code_ids (take (i + 1) runs)) ≡ b
ids_with seen now runs i d b lt e f g =
    ap (all_new seen) (ids_of_one runs i d lt) ∙ new_append seen (code_ids (take i runs)) (run_ids (get_or runs i d))
    ∙ ap (λ (t : Bool). t && all_new (seen ++ code_ids (take i runs)) (run_ids (get_or runs i d))) e
    ∙ ap (λ (z : Ids). all_new z (run_ids (get_or runs i d))) (sym f) ∙ sym g

pub ids_more : (seen now : Ids) (runs : List NamedRun) (i : ℕ) (d : NamedRun) (b : Bool) → i < length runs → all_new seen (code_ids (take i runs)) ≡ true → now ≡ seen ++ code_ids (take i runs)
    → b ≡ all_new now (run_ids (get_or runs i d)) → b ≡ true → all_new seen (code_ids (take (i + 1) runs)) ≡ true
ids_more seen now runs i d b lt e f g t = ids_with seen now runs i d b lt e f g ∙ t

pub ids_joined : (seen now new : Ids) (runs : List NamedRun) (i : ℕ) (d : NamedRun) → i < length runs → now ≡ seen ++ code_ids (take i runs) → new ≡ now ++ run_ids (get_or runs i d)
    → new ≡ seen ++ code_ids (take (i + 1) runs)
ids_joined seen now new runs i d lt f g =
    g ∙ ap (λ (z : Ids). z ++ run_ids (get_or runs i d)) f ∙ append_assoc seen (code_ids (take i runs)) (run_ids (get_or runs i d)) ∙ ap (λ (z : Ids). seen ++ z) (sym (ids_of_one runs i d lt))

pub ids_again : (seen now : Ids) (runs : List NamedRun) (i : ℕ) (d : NamedRun) (b : Bool) → i < length runs → all_new seen (code_ids (take i runs)) ≡ true → now ≡ seen ++ code_ids (take i runs)
    → b ≡ all_new now (run_ids (get_or runs i d)) → b ≡ false → false ≡ all_new seen (code_ids runs)
ids_again seen now runs i d b lt e f g t =
    sym (ap (λ (z : List NamedRun). all_new seen (code_ids z)) (sym (take-append-drop (i + 1) runs)) ∙ ap (all_new seen) (code_ids_append (take (i + 1) runs) (drop (i + 1) runs))
    ∙ new_append seen (code_ids (take (i + 1) runs)) (code_ids (drop (i + 1) runs))
    ∙ and_left (all_new seen (code_ids (take (i + 1) runs))) (all_new (seen ++ code_ids (take (i + 1) runs)) (code_ids (drop (i + 1) runs))) (ids_with seen now runs i d b lt e f g ∙ t))

pub ids_over : (seen : Ids) (runs : List NamedRun) (i : ℕ) → length runs ≤ i → all_new seen (code_ids (take i runs)) ≡ true → true ≡ all_new seen (code_ids runs)
ids_over seen runs i le e = sym (ap (λ (z : List NamedRun). all_new seen (code_ids z)) (sym (take_all i runs le)) ∙ e)

pub ids_end : (seen now : Ids) (runs : List NamedRun) (i : ℕ) → length runs ≤ i → now ≡ seen ++ code_ids (take i runs) → now ≡ seen ++ code_ids runs
ids_end seen now runs i le e = e ∙ ap (λ (z : List NamedRun). seen ++ code_ids z) (take_all i runs le)

pub ids_begin : (seen : Ids) (runs : List NamedRun) → seen ≡ seen ++ code_ids (take 0 runs)
ids_begin seen runs = sym (append-nil seen)

pub ruleset ids_laws = (ids_more, ids_joined, ids_again, ids_over, ids_end, ids_begin)

both_new : (ps ls : List Named) → all_new [] (ids_of (ps ++ ls)) ≡ (all_new [] (ids_of ps) && all_new (ids_of ps) (ids_of ls))
both_new ps ls = ap (all_new []) (ids_append ps ls) ∙ new_append [] (ids_of ps) (ids_of ls)

pub space_none : (ps ls : List Named) → all_new [] (ids_of ps) ≡ false → all_new [] (ids_of (ps ++ ls)) ≡ false
space_none ps ls h = both_new ps ls ∙ ap (λ (t : Bool). t && all_new (ids_of ps) (ids_of ls)) h

pub space_again : (s : Ids) (ps ls : List Named) → all_new [] (ids_of ps) ≡ true → s ≡ ids_of ps → all_new s (ids_of ls) ≡ false → all_new [] (ids_of (ps ++ ls)) ≡ false
space_again s ps ls a e b = both_new ps ls ∙ ap (λ (t : Bool). t && all_new (ids_of ps) (ids_of ls)) a ∙ ap (λ (z : Ids). all_new z (ids_of ls)) (sym e) ∙ b

pub space_all : (s : Ids) (ps ls : List Named) → all_new [] (ids_of ps) ≡ true → s ≡ ids_of ps → all_new s (ids_of ls) ≡ true → all_new [] (ids_of (ps ++ ls)) ≡ true
space_all s ps ls a e b = both_new ps ls ∙ ap (λ (t : Bool). t && all_new (ids_of ps) (ids_of ls)) a ∙ ap (λ (z : Ids). all_new z (ids_of ls)) (sym e) ∙ b

pub space_is : (s t : Ids) (ps ls : List Named) → s ≡ ids_of ps → t ≡ s ++ ids_of ls → t ≡ ids_of (ps ++ ls)
space_is s t ps ls e g = g ∙ ap (λ (z : Ids). z ++ ids_of ls) e ∙ sym (ids_append ps ls)

pub ruleset space_laws = (space_none, space_again, space_all, space_is)

-- ---- parameters that are not written

pub unnamed_ids : (ts : List ValType) → replicate (length ts) None ≡ ids_of (unnamed ts)
unnamed_ids [] = refl
unnamed_ids (t ∷ ts) = ap (λ (z : Ids). None ∷ z) (unnamed_ids ts)

pub unnamed_new : (seen : Ids) (ts : List ValType) → all_new seen (ids_of (unnamed ts)) ≡ true
unnamed_new seen [] = refl
unnamed_new seen (t ∷ ts) = unnamed_new (seen ++ None ∷ []) ts

pub ruleset params_laws = (unnamed_ids, unnamed_new)

-- ---- types of locals

run_types : (run : NamedRun) (j more : List NamedRun) (n : ℕ) (t : ValType) → j ≡ run ∷ more → types_of (named_of run) ≡ replicate n t
    → types_of (named_list j) ≡ replicate n t ++ types_of (named_list more)
run_types run j more n t e f =
    ap (λ (z : List NamedRun). types_of (named_list z)) e ∙ map-append (λ (p : Named). p.1) (named_of run) (named_list more) ∙ ap (λ (z : List ValType). z ++ types_of (named_list more)) f

pub types_more : (ts new : List ValType) (run : NamedRun) (j more : List NamedRun) (n : ℕ) (t : ValType) → j ≡ run ∷ more → types_of (named_of run) ≡ replicate n t
    → new ≡ ts ++ replicate n t → new ++ types_of (named_list more) ≡ ts ++ types_of (named_list j)
types_more ts new run j more n t e f g =
    ap (λ (z : List ValType). z ++ types_of (named_list more)) g ∙ append_assoc ts (replicate n t) (types_of (named_list more))
    ∙ ap (λ (z : List ValType). ts ++ z) (sym (run_types run j more n t e f))

pub types_end : (ts : List ValType) (j : List NamedRun) → j ≡ [] → ts ++ types_of (named_list j) ≡ ts
types_end ts j e = ap (λ (z : List NamedRun). ts ++ types_of (named_list z)) e ∙ append-nil ts

pub types_many : (ts : List ValType) (run : NamedRun) (j more : List NamedRun) (n : ℕ) (t : ValType) (m : ℕ) → j ≡ run ∷ more → types_of (named_of run) ≡ replicate n t
    → m ≤ length ts + n → m ≤ length (ts ++ types_of (named_list j))
types_many ts run j more n t m e f le =
    let size : length (ts ++ types_of (named_list j)) ≡ length (ts ++ (replicate n t ++ types_of (named_list more))) = ap (λ (z : List ValType). length (ts ++ z)) (run_types run j more n t e f) in
    omega (arith, size, length-append ts (replicate n t ++ types_of (named_list more)), length-append (replicate n t) (types_of (named_list more)), length-replicate n t, le)

pub ruleset types_laws = (types_more, types_end, types_many)

-- ---- the whole

pub earlier_read : (w : TextWhy) → (w ≡ why.RepeatedId) ⊎ (w ≡ why.TooManyLocals) → IsOfReaders w
earlier_read w (inl e) = subst IsOfReaders (sym e) tt
earlier_read w (inr e) = subst IsOfReaders (sym e) tt

abbrev Head : Type 0
Head = (ℕ × List Named) × List Named

pub head_none : (p : Profile) (names : Names) (k : List Token) → head_at p names k ≡ None → function_at p names k ≡ None
unfolding function_at
head_none p names k e = ap (λ (o : Option (Head × List Token)). ◌>>=◌ {B = Function × List Token} o (λ h. function_by p names h.0.0.0 h.0.0.1 h.0.1 h.1)) e

head_is : (p : Profile) (names : Names) (x : ℕ) (ps ls : List Named) (k j : List Token) → head_at p names k ≡ Some (((x, ps), ls), j) → function_at p names k ≡ function_by p names x ps ls j
unfolding function_at
head_is p names x ps ls k j e = bind_is (head_at p names k) (λ h. function_by p names h.0.0.0 h.0.0.1 h.0.1 h.1) (((x, ps), ls), j) e

no_body : (p : Profile) (sc : Scope) (k : List Token) → begins_open k ≡ true → instructions_at p sc k ≡ None
unfolding ops_at
no_body p sc [] e = cc
no_body p sc (open_paren ∷ k) e = refl
no_body p sc (close_paren ∷ k) e = cc
no_body p sc (string b ∷ k) e = cc
no_body p sc (atom a ∷ k) e = cc

none_by : (t : Bool) (o : Option (Function × List Token)) → o ≡ None → cond t o None ≡ None
none_by true o e = e
none_by false o e = refl

body_none : (p : Profile) (names : Names) (x : ℕ) (ps ls : List Named) (j : List Token) → instructions_at p (record { names = names; locals = ids_of (ps ++ ls) }) j ≡ None → function_by p names x ps ls j ≡ None
body_none p names x ps ls j e =
    none_by (is_function ps ls) (function_of x ps ls p names j)
    (ap (λ (o : Option (Instructions × List Token)). ◌>>=◌ {B = Function × List Token} o (λ b. Some (record { type_index = x; locals = types_of ls; body = b.0 }, b.1))) e)

pub function_form : (p : Profile) (names : Names) (x : ℕ) (ps ls : List Named) (k j : List Token) → head_at p names k ≡ Some (((x, ps), ls), j) → begins_open j ≡ true → function_at p names k ≡ None
function_form p names x ps ls k j e h = head_is p names x ps ls k j e ∙ body_none p names x ps ls j (no_body p _ j h)

pub function_again : (p : Profile) (names : Names) (x : ℕ) (ps ls : List Named) (k j : List Token) → head_at p names k ≡ Some (((x, ps), ls), j) → all_new [] (ids_of (ps ++ ls)) ≡ false → function_at p names k ≡ None
function_again p names x ps ls k j e h =
    head_is p names x ps ls k j e ∙ cond-false (is_function ps ls) (function_of x ps ls p names j) None (by (nat_lt (length (types_of ls)) 0x1_0000_0000))
  where
    by : (t : Bool) → (t && all_new [] (ids_of (ps ++ ls))) ≡ false
    by true = h
    by false = refl

pub function_many : (p : Profile) (names : Names) (x : ℕ) (ps ls : List Named) (k j : List Token) → head_at p names k ≡ Some (((x, ps), ls), j) → 2 ^ 32 ≤ length (types_of ls) → function_at p names k ≡ None
function_many p names x ps ls k j e h =
    head_is p names x ps ls k j e ∙ cond-false (is_function ps ls) (function_of x ps ls p names j) None
    (and_left (nat_lt (length (types_of ls)) 0x1_0000_0000) (all_new [] (ids_of (ps ++ ls))) (le-ltb (length (types_of ls)) 0x1_0000_0000 h))

-- the scope has the function's locals
abbrev With : Names → List Named → List Named → Scope → Type 0
With names ps ls sc = (sc.names ≡ names) × (sc.locals ≡ ids_of (ps ++ ls))

scope_is : (names : Names) (ps ls : List Named) (sc : Scope) → sc.names ≡ names → sc.locals ≡ ids_of (ps ++ ls) → record { names = names; locals = ids_of (ps ++ ls) } ≡ sc
scope_is names ps ls sc a b = ap (λ (z : Names). record { names = z; locals = ids_of (ps ++ ls) }) (sym a) ∙ ap (λ (z : Ids). record { names = sc.names; locals = z }) (sym b)

pub function_no_body : (p : Profile) (names : Names) (x : ℕ) (ps ls : List Named) (sc : Scope) (w : TextWhy) (k j : List Token) → head_at p names k ≡ Some (((x, ps), ls), j) → sc.names ≡ names → sc.locals ≡ ids_of (ps ++ ls)
    → Fails w (instructions_at p sc j) → Fails w (function_at p names k)
function_no_body p names x ps ls sc w k j e a b h = fails_on w (instructions_at p sc j) (function_at p names k)
    (λ n. head_is p names x ps ls k j e ∙ body_none p names x ps ls j (ap (λ (z : Scope). instructions_at p z j) (scope_is names ps ls sc a b) ∙ n)) h

pub function_found : (p : Profile) (names : Names) (x : ℕ) (ps ls : List Named) (sc : Scope) (s : Instructions) (ts : List ValType) (k j rest : List Token) → head_at p names k ≡ Some (((x, ps), ls), j)
    → sc.names ≡ names → sc.locals ≡ ids_of (ps ++ ls) → all_new [] (ids_of (ps ++ ls)) ≡ true → ts ≡ types_of ls → length ts < 2 ^ 32 → instructions_at p sc j ≡ Some (s, rest)
    → function_at p names k ≡ Some (record { type_index = x; locals = ts; body = s }, rest)
function_found p names x ps ls sc s ts k j rest e a b new types few h =
    head_is p names x ps ls k j e
    ∙ cond-true (is_function ps ls) (function_of x ps ls p names j) None
    (and_from (nat_lt (length (types_of ls)) 0x1_0000_0000) (all_new [] (ids_of (ps ++ ls))) (lt-ltb (length (types_of ls)) 0x1_0000_0000 (subst (λ (z : List ValType). length z < 2 ^ 32) types few)) new)
    ∙ bind_is (instructions_at p (record { names = names; locals = ids_of (ps ++ ls) }) j) (λ b. Some (record { type_index = x; locals = types_of ls; body = b.0 }, b.1)) (s, rest)
    (ap (λ (z : Scope). instructions_at p z j) (scope_is names ps ls sc a b) ∙ h)
    ∙ ap (λ (z : List ValType). Some (record { type_index = x; locals = z; body = s }, rest)) (sym types)

pub match_none : {X : Type 0} (o : Option X) (A : Type 0) (B : X → Type 0) → o ≡ None → MatchOption o A B → A
match_none None A B e h = h
match_none (Some x) A B e h = absurd cc

pub match_some : {X : Type 0} (o : Option X) (x : X) (A : Type 0) (B : X → Type 0) → o ≡ Some x → MatchOption o A B → B x
match_some None x A B e h = absurd cc
match_some (Some y) x A B e h = subst B (same_some y x e) h

pub repeated_fails : (p : Profile) (names : Names) (x : ℕ) (ps ls rs : List Named) (v w : TextWhy) (k j : List Token) → head_at p names k ≡ Some (((x, ps), ls), j) → all_new [] (ids_of (ps ++ rs)) ≡ false → rs ≡ ls
    → v ≡ why.RepeatedId → (NotMemory w → NotMemory v) → (IsOfReaders v → IsOfReaders w) → Fails w (function_at p names k)
repeated_fails p names x ps ls rs v w k j e h b r c d =
    fails_carried v w (function_at p names k) c d
    (subst (λ (z : TextWhy). Fails z (function_at p names k)) (sym r)
    (function_again p names x ps ls k j e (ap (λ (z : List Named). all_new [] (ids_of (ps ++ z))) (sym b) ∙ h)))

pub many_fails : (p : Profile) (names : Names) (x : ℕ) (ps ls rs : List Named) (v w : TextWhy) (k j : List Token) → head_at p names k ≡ Some (((x, ps), ls), j) → rs ≡ ls
    → (v ≡ why.Memory) ⊎ ((v ≡ why.TooManyLocals) × (2 ^ 32 ≤ length (types_of rs))) → (NotMemory w → NotMemory v) → (IsOfReaders v → IsOfReaders w) → Fails w (function_at p names k)
many_fails p names x ps ls rs v w k j e b (inl m) c d = fails_carried v w (function_at p names k) c d (subst (λ (z : TextWhy). Fails z (function_at p names k)) (sym m) tt)
many_fails p names x ps ls rs v w k j e b (inr m) c d =
    fails_carried v w (function_at p names k) c d
    (subst (λ (z : TextWhy). Fails z (function_at p names k)) (sym m.0)
    (function_many p names x ps ls k j e (subst (λ (z : List Named). 2 ^ 32 ≤ length (types_of z)) b m.1)))

pub ruleset function_laws = (fails_carried, head_none, function_form, function_again, function_many, function_no_body, function_found)
