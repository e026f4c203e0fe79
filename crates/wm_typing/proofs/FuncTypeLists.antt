-- Function types whose parameters are in one list.
use Rattle.std.proofs.Common.{ℕ, zero, suc, ◌≡◌, ◌+◌, ◌-◌, ◌≤◌, ◌<◌, List, [], ◌∷◌, ◌++◌, Option, Some, None, length, take, drop, slice_get, slice_set, slice_range, get_or, option_to_list, refl, ap, sym, ◌∙◌, subst, arith, length-append, length-drop, length-take}
use Rattle.std.proofs.lemmas.List.{take-append-le, drop-append-le, take_all, drop_at, map-append, length-map, length-set}
use Rattle.std.proofs.lemmas.Option.{slice_get-map, slice_get-get_or}
use Rattle.wm_syntax.specs.declared.types.ValType.{ValType}
use Rattle.wm_syntax.specs.Types.{Signature}
use Rattle.wm_typing.specs.declared.func_types.TypeEntry.{TypeEntry}
use Rattle.wm_typing.specs.Contexts.{first_of, params_in}
use Rattle.wm_typing.specs.inner.FuncTypes.{signature_in, signatures_in, AreEntries, with_last}

-- what lies in a list lies there still in a longer one
range_longer : {X : Type 0} (ps qs : List X) (s c : ℕ) → s + c ≤ length ps → slice_range (ps ++ qs) s (s + c) ≡ slice_range ps s (s + c)
range_longer ps qs s c within =
    ap (λ zs. take (s + c - s) zs) (drop-append-le s ps qs (omega (arith, within)))
    ∙ take-append-le (s + c - s) (drop s ps) qs (omega (arith, within, length-drop s ps))

-- what reaches to the end of a list
range_last : {X : Type 0} (ps : List X) (s c : ℕ) → s + c ≡ length ps → slice_range ps s (s + c) ≡ drop s ps
range_last ps s c end = take_all (s + c - s) (drop s ps) (omega (arith, end, length-drop s ps))

range_new : {X : Type 0} (ps qs : List X) → slice_range (ps ++ qs) (length ps) (length ps + length qs) ≡ qs
range_new ps qs = range_last (ps ++ qs) (length ps) (length qs) (sym (length-append ps qs)) ∙ drop_at ps qs (length ps) refl

range_more : {X : Type 0} (ps : List X) (t : X) (s c : ℕ) → s + c ≡ length ps → slice_range (ps ++ t ∷ []) s (s + (c + 1)) ≡ slice_range ps s (s + c) ++ t ∷ []
range_more ps t s c end =
    range_last (ps ++ t ∷ []) s (c + 1) (omega (arith, end, length-append ps (t ∷ [])))
    ∙ drop-append-le s ps (t ∷ []) (omega (arith, end))
    ∙ ap (λ zs. zs ++ t ∷ []) (sym (range_last ps s c end))

-- an entry's parameters are there
pub entry_within : (n : ℕ) (es : List TypeEntry) (i : ℕ) (e : TypeEntry) → AreEntries n es → slice_get es i ≡ Some e → e.start + e.count ≤ n
entry_within n [] i e h g = absurd (cc)
entry_within n (x ∷ []) zero e h g = let k : x ≡ e = cc in subst (λ (z : TypeEntry). z.start + z.count ≤ n) k (omega (arith, h))
entry_within n (x ∷ []) (suc i) e h g = absurd (cc)
entry_within n (x ∷ y ∷ es) zero e h g = let k : x ≡ e = cc in subst (λ (z : TypeEntry). z.start + z.count ≤ n) k h.0
entry_within n (x ∷ y ∷ es) (suc i) e h g = entry_within n (y ∷ es) i e h.1 g

pub type_at : (ps : List ValType) (es : List TypeEntry) (i : ℕ) (e : TypeEntry) → slice_get es i ≡ Some e → slice_get (signatures_in ps es) i ≡ Some (signature_in ps e)
type_at ps es i e g = rw (slice_get-map (signature_in ps) es i, g) refl

pub no_type_at : (ps : List ValType) (es : List TypeEntry) (i : ℕ) → slice_get es i ≡ None → slice_get (signatures_in ps es) i ≡ None
no_type_at ps es i g = rw (slice_get-map (signature_in ps) es i, g) refl

-- the parameters of a type
pub params_at : (ps : List ValType) (es : List TypeEntry) (i : ℕ) (e : TypeEntry) (fs : List Signature) → slice_get es i ≡ Some e → signatures_in ps es ≡ fs
    → params_in (slice_get fs i) ≡ (signature_in ps e).params
params_at ps es i e fs at is = ap (λ (gs : List Signature). params_in (slice_get gs i)) (sym is) ∙ ap params_in (type_at ps es i e at)

get-take : {X : Type 0} (n : ℕ) (xs : List X) (i : ℕ) → i < n → slice_get (take n xs) i ≡ slice_get xs i
get-take zero xs i h = absurd (omega (arith, h))
get-take (suc n) [] i h = refl
get-take (suc n) (x ∷ xs) zero h = refl
get-take (suc n) (x ∷ xs) (suc i) h = get-take n xs i (omega (arith, h))

get-drop : {X : Type 0} (n : ℕ) (xs : List X) (i : ℕ) → slice_get (drop n xs) i ≡ slice_get xs (n + i)
get-drop zero xs i = let e : i ≡ 0 + i = omega arith in ap (slice_get xs) e
get-drop (suc n) [] i = refl
get-drop (suc n) (x ∷ xs) i =
    let e : suc (n + i) ≡ suc n + i = omega arith in
    get-drop n xs i ∙ ap (slice_get (x ∷ xs)) e

-- a parameter of an entry, and how many there are
pub length-params : (ps : List ValType) (e : TypeEntry) → e.start + e.count ≤ length ps → length (signature_in ps e).params ≡ e.count
length-params ps e h = omega (arith, length-take (e.start + e.count - e.start) (drop e.start ps), length-drop e.start ps, h)

pub param_at : (ps : List ValType) (e : TypeEntry) (i : ℕ) (t : ValType) → e.start + e.count ≤ length ps → i < e.count → slice_get ps (e.start + i) ≡ Some t
    → slice_get (signature_in ps e).params i ≡ Some t
param_at ps e i t h l g =
    let k : i < e.start + e.count - e.start = omega (arith, l) in
    get-take (e.start + e.count - e.start) (drop e.start ps) i k ∙ get-drop e.start ps i ∙ g

-- the types stay where parameters are added
types_longer : (ps qs : List ValType) (es : List TypeEntry) → AreEntries (length ps) es → signatures_in (ps ++ qs) es ≡ signatures_in ps es
types_longer ps qs [] h = refl
types_longer ps qs (x ∷ []) h =
    ap (λ (z : List ValType). record { params = z; results = option_to_list x.result } ∷ []) (range_longer ps qs x.start x.count (omega (arith, h)))
types_longer ps qs (x ∷ y ∷ es) h =
    ap (λ (z : List ValType). record { params = z; results = option_to_list x.result } ∷ signatures_in (ps ++ qs) (y ∷ es)) (range_longer ps qs x.start x.count h.0)
    ∙ ap (λ (zs : List Signature). signature_in ps x ∷ zs) (types_longer ps qs (y ∷ es) h.1)

entries_more : (n m : ℕ) (es : List TypeEntry) (e : TypeEntry) → AreEntries n es → n ≤ m → e.start + e.count ≡ m → AreEntries m (es ++ e ∷ [])
entries_more n m [] e h l is = is
entries_more n m (x ∷ []) e h l is = (omega (arith, h, l), is)
entries_more n m (x ∷ y ∷ es) e h l is = (omega (arith, h.0, l), entries_more n m (y ∷ es) e h.1 l is)

-- after one more entry, with its parameters
pub pushed_entries : (ps qs : List ValType) (es : List TypeEntry) (given : Option ValType) → AreEntries (length ps) es
    → AreEntries (length (ps ++ qs)) (es ++ record { start = length ps; count = length qs; result = given } ∷ [])
pushed_entries ps qs es given h =
    entries_more (length ps) (length (ps ++ qs)) es (record { start = length ps; count = length qs; result = given }) h (omega (arith, length-append ps qs)) (sym (length-append ps qs))

pub pushed_types : (ps qs : List ValType) (es : List TypeEntry) (given : Option ValType) → AreEntries (length ps) es
    → signatures_in (ps ++ qs) (es ++ record { start = length ps; count = length qs; result = given } ∷ [])
    ≡ signatures_in ps es ++ record { params = qs; results = option_to_list given } ∷ []
pushed_types ps qs es given h =
    map-append (signature_in (ps ++ qs)) es (record { start = length ps; count = length qs; result = given } ∷ [])
    ∙ ap (λ (zs : List Signature). zs ++ signature_in (ps ++ qs) (record { start = length ps; count = length qs; result = given }) ∷ []) (types_longer ps qs es h)
    ∙ ap (λ (z : List ValType). signatures_in ps es ++ record { params = z; results = option_to_list given } ∷ []) (range_new ps qs)

-- after a change of the last entry
cons_entries : (n : ℕ) (e : TypeEntry) (es : List TypeEntry) → e.start + e.count ≤ n → 0 < length es → AreEntries n es → AreEntries n (e ∷ es)
cons_entries n e [] l some h = absurd (omega (arith, some))
cons_entries n e (x ∷ es) l some h = (l, h)

pub set_entries : (n m : ℕ) (es : List TypeEntry) (i : ℕ) (q : TypeEntry) → AreEntries n es → n ≤ m → length es ≡ suc i → q.start + q.count ≡ m → AreEntries m (slice_set es i q)
set_entries n m [] i q h l len is = absurd (omega (arith, len))
set_entries n m (x ∷ []) zero q h l len is = is
set_entries n m (x ∷ []) (suc i) q h l len is = absurd (omega (arith, len))
set_entries n m (x ∷ y ∷ es) zero q h l len is = absurd (omega (arith, len))
set_entries n m (x ∷ y ∷ es) (suc i) q h l len is =
    let k : length (y ∷ es) ≡ suc i = omega (arith, len) in
    cons_entries m x (slice_set (y ∷ es) i q) (omega (arith, h.0, l)) (omega (arith, length-set (y ∷ es) i q)) (set_entries n m (y ∷ es) i q h.1 l k is)

pub last_entry : (n : ℕ) (es : List TypeEntry) (i : ℕ) (e : TypeEntry) → AreEntries n es → length es ≡ suc i → slice_get es i ≡ Some e → e.start + e.count ≡ n
last_entry n [] i e h len g = absurd (omega (arith, len))
last_entry n (x ∷ []) zero e h len g = let k : x ≡ e = cc in subst (λ (z : TypeEntry). z.start + z.count ≡ n) k h
last_entry n (x ∷ []) (suc i) e h len g = absurd (omega (arith, len))
last_entry n (x ∷ y ∷ es) zero e h len g = absurd (omega (arith, len))
last_entry n (x ∷ y ∷ es) (suc i) e h len g = let k : length (y ∷ es) ≡ suc i = omega (arith, len) in last_entry n (y ∷ es) i e h.1 k g

abbrev one_more : ValType → Signature → Signature
one_more t f = record f { params = f.params ++ t ∷ [] }

param_set : (ps : List ValType) (t : ValType) (es : List TypeEntry) (i : ℕ) (e : TypeEntry) → AreEntries (length ps) es → length es ≡ suc i → slice_get es i ≡ Some e
    → signatures_in (ps ++ t ∷ []) (slice_set es i (record { start = e.start; count = e.count + 1; result = e.result })) ≡ with_last (one_more t) (signatures_in ps es)
param_set ps t [] i e h len g = absurd (omega (arith, len))
param_set ps t (x ∷ []) zero e h len g =
    let k : x ≡ e = cc in
    subst (λ (z : TypeEntry). signatures_in (ps ++ t ∷ []) (record { start = z.start; count = z.count + 1; result = z.result } ∷ []) ≡ with_last (one_more t) (signatures_in ps (x ∷ []))) k
    (ap (λ (z : List ValType). record { params = z; results = option_to_list x.result } ∷ []) (range_more ps t x.start x.count h))
param_set ps t (x ∷ []) (suc i) e h len g = absurd (omega (arith, len))
param_set ps t (x ∷ y ∷ es) zero e h len g = absurd (omega (arith, len))
param_set ps t (x ∷ y ∷ es) (suc i) e h len g =
    let k : length (y ∷ es) ≡ suc i = omega (arith, len) in
    let q : TypeEntry = record { start = e.start; count = e.count + 1; result = e.result } in
    ap (λ (z : List ValType). record { params = z; results = option_to_list x.result } ∷ signatures_in (ps ++ t ∷ []) (slice_set (y ∷ es) i q)) (range_longer ps (t ∷ []) x.start x.count h.0)
    ∙ ap (λ (zs : List Signature). signature_in ps x ∷ zs) (param_set ps t (y ∷ es) i e h.1 k g)

result_set : (ps : List ValType) (t : ValType) (es : List TypeEntry) (i : ℕ) (e : TypeEntry) → length es ≡ suc i → slice_get es i ≡ Some e
    → signatures_in ps (slice_set es i (record { start = e.start; count = e.count; result = Some t })) ≡ with_last (λ f. record f { results = t ∷ [] }) (signatures_in ps es)
result_set ps t [] i e len g = absurd (omega (arith, len))
result_set ps t (x ∷ []) zero e len g =
    let k : x ≡ e = cc in
    ap (λ (z : TypeEntry). record { params = slice_range ps z.start (z.start + z.count); results = t ∷ [] } ∷ []) (sym k)
result_set ps t (x ∷ []) (suc i) e len g = absurd (omega (arith, len))
result_set ps t (x ∷ y ∷ es) zero e len g = absurd (omega (arith, len))
result_set ps t (x ∷ y ∷ es) (suc i) e len g =
    let k : length (y ∷ es) ≡ suc i = omega (arith, len) in
    ap (λ (zs : List Signature). signature_in ps x ∷ zs) (result_set ps t (y ∷ es) i e k g)

-- lists that hold these types
pub record Hold (ts : List Signature) (ps : List ValType) (es : List TypeEntry) : Type 0 where
  pub entries : AreEntries (length ps) es
  pub types : signatures_in ps es ≡ ts

pub pushed : (ts : List Signature) (ps qs : List ValType) (es : List TypeEntry) (given : Option ValType) → AreEntries (length ps) es → signatures_in ps es ≡ ts
    → Hold (ts ++ record { params = qs; results = option_to_list given } ∷ []) (ps ++ qs) (es ++ record { start = length ps; count = length qs; result = given } ∷ [])
pushed ts ps qs es given h is = record {
  entries = pushed_entries ps qs es given h;
  types = pushed_types ps qs es given h ∙ ap (λ (zs : List Signature). zs ++ record { params = qs; results = option_to_list given } ∷ []) is;
}

-- the last of n entries
some_entry : (ts : List Signature) (ps : List ValType) (es : List TypeEntry) → signatures_in ps es ≡ ts → 0 < length ts → 0 < length es
some_entry ts ps es is some = omega (arith, some, ap length is, length-map es (signature_in ps))

at_end : (es : List TypeEntry) (n : ℕ) (e : TypeEntry) → n ≡ length es → 0 < length es → e ≡ get_or es (n - 1) e → (length es ≡ suc (n - 1)) × (slice_get es (n - 1) ≡ Some e)
at_end es n e k some at =
    (omega arith, slice_get-get_or es (n - 1) e (omega arith) ∙ ap (λ (z : TypeEntry). Some z) (sym at))

pub param_pushed : (ts : List Signature) (ps : List ValType) (t : ValType) (es : List TypeEntry) (n : ℕ) (e : TypeEntry) → AreEntries (length ps) es → signatures_in ps es ≡ ts
    → 0 < length ts → n ≡ length es → e ≡ get_or es (n - 1) e
    → Hold (with_last (one_more t) ts) (ps ++ t ∷ []) (slice_set es (n - 1) (record { start = e.start; count = e.count + 1; result = e.result }))
param_pushed ts ps t es n e h is some k at =
    let a = at_end es n e k (some_entry ts ps es is some) at in
    let ends : e.start + e.count ≡ length ps = last_entry (length ps) es (n - 1) e h a.0 a.1 in
    let longer : length (ps ++ t ∷ []) ≡ length ps + 1 = length-append ps (t ∷ []) in
    record {
      entries = set_entries (length ps) (length (ps ++ t ∷ [])) es (n - 1) (record { start = e.start; count = e.count + 1; result = e.result }) h (omega (arith, longer)) a.0 (omega (arith, longer, ends));
      types = param_set ps t es (n - 1) e h a.0 a.1 ∙ ap (λ (zs : List Signature). with_last (one_more t) zs) is;
    }

-- the count of the last entry's parameters can grow
pub count_fits : (ts : List Signature) (ps : List ValType) (es : List TypeEntry) (n : ℕ) (e : TypeEntry) → AreEntries (length ps) es → signatures_in ps es ≡ ts
    → 0 < length ts → n ≡ length es → e ≡ get_or es (n - 1) e → e.count ≤ length ps
count_fits ts ps es n e h is some k at =
    let a = at_end es n e k (some_entry ts ps es is some) at in
    omega (arith, last_entry (length ps) es (n - 1) e h a.0 a.1)

pub result_put : (ts : List Signature) (ps : List ValType) (t : ValType) (es : List TypeEntry) (n : ℕ) (e : TypeEntry) → AreEntries (length ps) es → signatures_in ps es ≡ ts
    → 0 < length ts → n ≡ length es → e ≡ get_or es (n - 1) e
    → Hold (with_last (λ f. record f { results = t ∷ [] }) ts) ps (slice_set es (n - 1) (record { start = e.start; count = e.count; result = Some t }))
result_put ts ps t es n e h is some k at =
    let a = at_end es n e k (some_entry ts ps es is some) at in
    record {
      entries = set_entries (length ps) (length ps) es (n - 1) (record { start = e.start; count = e.count; result = Some t }) h (omega arith) a.0 (last_entry (length ps) es (n - 1) e h a.0 a.1);
      types = result_set ps t es (n - 1) e a.0 a.1 ∙ ap (λ (zs : List Signature). with_last (λ f. record f { results = t ∷ [] }) zs) is;
    }

-- the result of a type whose results are at most one
pub first_given : (o : Option ValType) → first_of (option_to_list o) ≡ o
first_given None = refl
first_given (Some t) = refl
