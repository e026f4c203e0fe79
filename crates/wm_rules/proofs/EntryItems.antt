-- Items that need earlier ones: a type comes before a parameter or a result, and the start of a constant or a
-- code entry comes before its ops.
use Rattle.std.proofs.Common.{◌≡◌, ℕ, List, [], ◌∷◌, ◌++◌, Option, Some, None, refl, sym, ◌∙◌, ap, subst, map, inl, inr, ◌⊎◌, append_assoc, append-nil}
use Rattle.std.proofs.Common.{Bool, true, false, zero, suc}
use Rattle.wm_syntax.specs.Profiles.{has}
use Rattle.wm_syntax.specs.declared.profile.Feature.TheVariants.{BulkMemory}
use Rattle.wm_syntax.specs.Types.{SpellsU32}
use Rattle.wm_machine.specs.declared.machine.member.SegmentKind.{SegmentKind}
use Rattle.wm_machine.specs.declared.machine.member.SegmentKind.TheVariants as of_kind
use Rattle.wm_machine.specs.Grammar.{KindedList, SegmentForm, SegmentList, SegmentRest, active_item, passive_item, segment_item}
use Rattle.std.specs.List.{AllByRecursion}
use Rattle.wm_syntax.specs.declared.profile.Profile.{Profile}
use Rattle.wm_syntax.specs.declared.types.ValType.{ValType}
use Rattle.wm_syntax.specs.declared.instructions.Op.{Op}
use Rattle.wm_syntax.specs.Types.{type_byte}
use Rattle.wm_syntax.proofs.ProfileLaws.{all_append}
use Rattle.wm_machine.specs.Flat.{code_items}
use Rattle.wm_machine.specs.Fronts.{IsFront}
use Rattle.wm_machine.specs.Grammar.{Code, EachOp, Expression, FunctionType, Global, IsExpression, loose}
use Rattle.wm_machine.specs.Items.{Item, Zone, outside, name, Mark, Marks, new_type, param, result_count, one_result, global, const_op, element, element_function, body, locals, body_op, segment, data_byte, put_item, items_at}
use Rattle.wm_machine.specs.MarkedForms.{MarkedForm, Index, Then, marks_ending, name_byte_marks, name_marks, entry_marks, outside_mark}
use Rattle.wm_machine.proofs.ReadValues.{HasByte, byte_some, front_some, number_some, parts-append, parts-entered, parts-some}
use Rattle.wm_machine.proofs.EntryBytes.{run_part}
use Rattle.wm_machine.proofs.GrammarValues.{op_some, reads_body}
use Rattle.wm_rules.specs.Meanings.{InEntry}
use Rattle.wm_rules.proofs.EveryRule.{Has, IsAlone, IsNamed, Leaves, PassesMembers, has_byte, has_index, has_leaf, has_members, has_number, has_then, has_times, has_vector}

-- the items that a constant is of
abbrev pub IsOpening : Item → Type 0
IsOpening (global g) = Unit {0}
IsOpening (element x) = Unit {0}
IsOpening (segment x) = Unit {0}
IsOpening x = ⊥

pub record ConstantItems (items : List Item) : Type 0 where
  pub before : List Item
  pub opening : Item
  pub opens : IsOpening opening
  pub ops : List Op
  pub whole : items ≡ before ++ opening ∷ map const_op ops

abbrev pub HasType : List Item → Type 0
HasType items = (before : List Item) × (after : List Item) × (items ≡ before ++ new_type ∷ after)

-- with this op too they begin an expression
abbrev pub GoesOn : List Op → Op → Type 0
GoesOn ops o = (rest : List Op) × IsExpression (ops ++ o ∷ rest)

abbrev pub Stood : Item → List Item → Type 0
Stood (param t) items = HasType items
Stood (one_result t) items = HasType items
Stood (const_op o) items = (c : ConstantItems items) × GoesOn c.ops o
Stood (locals n t) items = (e : InEntry items) × (e.code.ops ≡ [])
Stood (body_op o) items = (e : InEntry items) × GoesOn e.code.ops o
Stood x items = Unit {0}

more_before : (xs ys zs : List Item) (before : List Item) → ys ≡ before ++ zs → xs ++ ys ≡ (xs ++ before) ++ zs
more_before xs ys zs before e = ap (λ y. xs ++ y) e ∙ sym (append_assoc xs before zs)

stood_more : (x : Item) (xs ys : List Item) → Stood x ys → Stood x (xs ++ ys)
stood_more (param t) xs ys s = (xs ++ s.0, s.1, more_before xs ys (new_type ∷ s.1) s.0 s.2)
stood_more (one_result t) xs ys s = (xs ++ s.0, s.1, more_before xs ys (new_type ∷ s.1) s.0 s.2)
stood_more (const_op o) xs ys s = (
  record { before = xs ++ s.0.before; opening = s.0.opening; opens = s.0.opens; ops = s.0.ops; whole = more_before xs ys (s.0.opening ∷ map const_op s.0.ops) s.0.before s.0.whole },
  s.1,
)
stood_more (locals n t) xs ys s = (record { before = xs ++ s.0.before; code = s.0.code; whole = more_before xs ys (code_items s.0.code) s.0.before s.0.whole }, s.1)
stood_more (body_op o) xs ys s = (record { before = xs ++ s.0.before; code = s.0.code; whole = more_before xs ys (code_items s.0.code) s.0.before s.0.whole }, s.1)
stood_more x xs ys s = tt

-- what is so of all items is so of one of them
among : (P : Item → Type 0) (items front : List Item) (x : Item) (back : List Item) → AllByRecursion P items → front ++ x ∷ back ≡ items → P x
among P items [] x back all e = (subst (AllByRecursion P) (sym e) all).0
among P [] (q ∷ front) x back all e = absurd (cc)
among P (y ∷ items) (q ∷ front) x back all e = among P items front x back all.1 (cc)

all_mapped : {X : Type 0} (P : Item → Type 0) (f : X → Item) (xs : List X) → ((x : X) → P (f x)) → AllByRecursion P (map f xs)
all_mapped P f [] h = tt
all_mapped P f (x ∷ xs) h = (h x, all_mapped P f xs h)

-- among the runs and among the ops
no_run : (ops : List Op) (front : List Item) (n : ℕ) (t : ValType) (back : List Item) → front ++ locals n t ∷ back ≡ map body_op ops → ⊥
no_run [] [] n t back e = cc
no_run [] (q ∷ front) n t back e = cc
no_run (o ∷ ops) [] n t back e = cc
no_run (o ∷ ops) (q ∷ front) n t back e = no_run ops front n t back (cc)

run_in : (runs : List (ℕ × ValType)) (ops : List Op) (front : List Item) (n : ℕ) (t : ValType) (back : List Item) → front ++ locals n t ∷ back ≡ map run_part runs ++ map body_op ops
    → (some : List (ℕ × ValType)) × (front ≡ map run_part some)
run_in [] ops front n t back e = absurd (no_run ops front n t back e)
run_in (r ∷ runs) ops [] n t back e = ([], refl)
run_in (r ∷ runs) ops (q ∷ front) n t back e =
    let h : q ≡ run_part r = cc in
    let tail : front ++ locals n t ∷ back ≡ map run_part runs ++ map body_op ops = cc in
    let s = run_in runs ops front n t back tail in
    (r ∷ s.0, cc (h, s.1))

-- the ops before one, and those after it
abbrev Split : (Op → Item) → List Op → List Item → Op → Type 0
Split part ops front o = (some : List Op) × (rest : List Op) × (front ≡ map part some) × (ops ≡ some ++ o ∷ rest)

op_after : (part : Op → Item) → ((a b : Op) → part a ≡ part b → a ≡ b) → (ops : List Op) (front : List Item) (o : Op) (back : List Item) → front ++ part o ∷ back ≡ map part ops → Split part ops front o
op_after part same [] [] o back e = absurd (cc)
op_after part same [] (q ∷ front) o back e = absurd (cc)
op_after part same (p ∷ ops) [] o back e =
    let h : part o ≡ part p = cc in
    let is : p ≡ o = sym (same o p h) in
    ([], ops, refl, ap (λ z. z ∷ ops) is)
op_after part same (p ∷ ops) (q ∷ front) o back e =
    let h : q ≡ part p = cc in
    let tail : front ++ part o ∷ back ≡ map part ops = cc in
    let s = op_after part same ops front o back tail in
    (p ∷ s.0, s.1, cc (h, s.2), ap (λ z. p ∷ z) s.3)

body_same : (a b : Op) → body_op a ≡ body_op b → a ≡ b
body_same a b e = cc

const_same : (a b : Op) → const_op a ≡ const_op b → a ≡ b
const_same a b e = cc

op_in : (runs : List (ℕ × ValType)) (ops : List Op) (front : List Item) (o : Op) (back : List Item) → front ++ body_op o ∷ back ≡ map run_part runs ++ map body_op ops
    → (some : List Op) × (rest : List Op) × (front ≡ map run_part runs ++ map body_op some) × (ops ≡ some ++ o ∷ rest)
op_in [] ops front o back e = op_after body_op body_same ops front o back e
op_in (r ∷ runs) ops [] o back e = absurd (cc)
op_in (r ∷ runs) ops (q ∷ front) o back e =
    let h : q ≡ run_part r = cc in
    let tail : front ++ body_op o ∷ back ≡ map run_part runs ++ map body_op ops = cc in
    let s = op_in runs ops front o back tail in
    (s.0, s.1, cc (h, s.2), s.3)

goes_on : (ops some rest : List Op) (o : Op) → ops ≡ some ++ o ∷ rest → IsExpression ops → GoesOn some o
goes_on ops some rest o e i = (rest, subst IsExpression e i)

-- in a whole entry
abbrev InCode : Item → Type 0
InCode body = Unit {0}
InCode (locals n t) = Unit {0}
InCode (body_op o) = Unit {0}
InCode x = ⊥

all_code : (runs : List (ℕ × ValType)) (ops : List Op) → AllByRecursion InCode (body ∷ map run_part runs ++ map body_op ops)
all_code runs ops = (tt, all_append InCode (map run_part runs) (map body_op ops) (all_mapped InCode run_part runs (λ r. tt)) (all_mapped InCode body_op ops (λ o. tt)))

entry_stood : (runs : List (ℕ × ValType)) (ops : List Op) → IsExpression ops → (front : List Item) (x : Item) (back : List Item) → front ++ x ∷ back ≡ body ∷ map run_part runs ++ map body_op ops → Stood x front
entry_stood runs ops i [] (locals n t) back e = absurd (cc)
entry_stood runs ops i (q ∷ front) (locals n t) back e =
    let h : q ≡ body = cc in
    let tail : front ++ locals n t ∷ back ≡ map run_part runs ++ map body_op ops = cc in
    let s = run_in runs ops front n t back tail in
    let all : front ≡ map run_part s.0 ++ [] = s.1 ∙ sym (append-nil (map run_part s.0)) in
    (record { before = []; code = record { runs = s.0; ops = [] }; whole = cc (h, all) }, refl)
entry_stood runs ops i [] (body_op o) back e = absurd (cc)
entry_stood runs ops i (q ∷ front) (body_op o) back e =
    let h : q ≡ body = cc in
    let tail : front ++ body_op o ∷ back ≡ map run_part runs ++ map body_op ops = cc in
    let s = op_in runs ops front o back tail in
    (record { before = []; code = record { runs = runs; ops = s.0 }; whole = cc (h, s.2) }, goes_on ops s.0 s.1 o s.3 i)
entry_stood runs ops i front (param t) back e = absurd (among InCode _ front (param t) back (all_code runs ops) e)
entry_stood runs ops i front (one_result t) back e = absurd (among InCode _ front (one_result t) back (all_code runs ops) e)
entry_stood runs ops i front (const_op o) back e = absurd (among InCode _ front (const_op o) back (all_code runs ops) e)
entry_stood runs ops i front x back e = tt

-- in a constant
abbrev InConstantOf : Item → Type 0
InConstantOf (param t) = ⊥
InConstantOf (one_result t) = ⊥
InConstantOf (locals n t) = ⊥
InConstantOf (body_op o) = ⊥
InConstantOf x = Unit {0}

opening_in : (x : Item) → IsOpening x → InConstantOf x
opening_in (global g) i = tt
opening_in (element y) i = tt
opening_in (segment y) i = tt
opening_in x i = absurd i

all_constant : (opening : Item) (ops : List Op) → IsOpening opening → AllByRecursion InConstantOf (opening ∷ map const_op ops)
all_constant opening ops i = (opening_in opening i, all_mapped InConstantOf const_op ops (λ o. tt))

constant_stood : (opening : Item) (ops : List Op) → IsOpening opening → IsExpression ops → (front : List Item) (x : Item) (back : List Item) → front ++ x ∷ back ≡ opening ∷ map const_op ops → Stood x front
constant_stood opening ops a i [] (const_op o) back e = let h : opening ≡ const_op o = cc in absurd (subst IsOpening h a)
constant_stood opening ops a i (q ∷ front) (const_op o) back e =
    let h : q ≡ opening = cc in
    let tail : front ++ const_op o ∷ back ≡ map const_op ops = cc in
    let s = op_after const_op const_same ops front o back tail in
    (record { before = []; opening = opening; opens = a; ops = s.0; whole = cc (h, s.2) }, goes_on ops s.0 s.1 o s.3 i)
constant_stood opening ops a i front (param t) back e = absurd (among InConstantOf _ front (param t) back (all_constant opening ops a) e)
constant_stood opening ops a i front (one_result t) back e = absurd (among InConstantOf _ front (one_result t) back (all_constant opening ops a) e)
constant_stood opening ops a i front (locals n t) back e = absurd (among InConstantOf _ front (locals n t) back (all_constant opening ops a) e)
constant_stood opening ops a i front (body_op o) back e = absurd (among InConstantOf _ front (body_op o) back (all_constant opening ops a) e)
constant_stood opening ops a i front x back e = tt

-- in a function type
abbrev InType : Option Item → Type 0
InType None = Unit {0}
InType (Some (param t)) = Unit {0}
InType (Some (result_count n)) = Unit {0}
InType (Some (one_result t)) = Unit {0}
InType (Some x) = ⊥

abbrev OfType : Item → Type 0
OfType x = InType (Some x)

abbrev AllOfType : Marks → Type 0
AllOfType k = AllByRecursion OfType (items_at k)

one_of_type : (x : Option Item) → InType x → AllByRecursion OfType (put_item x [])
one_of_type None i = tt
one_of_type (Some x) i = (i, tt)

ending_of_type : (x : Option Item) (b : List ℕ) → InType x → AllOfType (marks_ending x b)
ending_of_type x [] i = tt
ending_of_type x (c ∷ []) i = one_of_type x i
ending_of_type x (c ∷ d ∷ b) i = ending_of_type x (d ∷ b) i

type_leaves : Leaves AllOfType InType
type_leaves = record {
  none = tt;
  both = λ a b f g. subst (AllByRecursion OfType) (sym (parts-append a b)) (all_append OfType (items_at a) (items_at b) f g);
  nothing = tt;
  plain = ending_of_type;
}

after_type : (x : Item) (items : List Item) → OfType x → Stood x (new_type ∷ items)
after_type (param t) items i = ([], items, refl)
after_type (one_result t) items i = ([], items, refl)
after_type (result_count n) items i = tt
after_type x items i = absurd i

type_stood : (rest : List Item) → AllByRecursion OfType rest → (front : List Item) (x : Item) (back : List Item) → front ++ x ∷ back ≡ new_type ∷ rest → Stood x front
type_stood rest all [] x back e = let h : new_type ≡ x = cc in subst (λ z. Stood z []) h tt
type_stood rest all (q ∷ front) x back e =
    let h : new_type ≡ q = cc in
    let tail : front ++ x ∷ back ≡ rest = cc in
    subst (λ z. Stood x (z ∷ front)) h (after_type x front (among OfType rest front x back all tail))

-- at each mark at which an item is complete
abbrev Comes : Marks → Type 0
Comes k = (front : Marks) (m : Mark) (back : Marks) (x : Item) → k ≡ front ++ m ∷ back → m.item ≡ Some x → Stood x (items_at front)

of_items : (k : Marks) (items : List Item) → items_at k ≡ items → ((front : List Item) (x : Item) (back : List Item) → front ++ x ∷ back ≡ items → Stood x front) → Comes k
of_items k items a f front m back x e i =
    let split : items_at front ++ x ∷ items_at back ≡ items_at (front ++ m ∷ back) = sym (parts-append front (m ∷ back) ∙ ap (λ y. items_at front ++ put_item y (items_at back)) i) in
    f (items_at front) x (items_at back) (split ∙ (ap items_at (sym e) ∙ a))

split_at : (a b front : Marks) (m : Mark) (back : Marks) → a ++ b ≡ front ++ m ∷ back
    → ((r : Marks) × (a ≡ front ++ m ∷ r)) ⊎ ((j : Marks) × (front ≡ a ++ j) × (b ≡ j ++ m ∷ back))
split_at [] b front m back e = inr (front, refl, e)
split_at (n ∷ a) b [] m back e = let h : n ≡ m = cc in inl (a, cc (h))
split_at (n ∷ a) b (q ∷ front) m back e =
    let h : n ≡ q = cc in
    let tail : a ++ b ≡ front ++ m ∷ back = cc in
    elim (split_at a b front m back tail) [ inl r ↦ inl (r.0, cc (h, r.1)) | inr r ↦ inr (r.0, cc (h, r.1), r.2) ]

no_mark : (front : Marks) (m : Mark) (back : Marks) → [] ≡ front ++ m ∷ back → ⊥
no_mark [] m back e = cc
no_mark (n ∷ front) m back e = cc

none_comes : Comes []
none_comes front m back x e i = absurd (no_mark front m back e)

comes_append : (a b : Marks) → Comes a → Comes b → Comes (a ++ b)
comes_append a b f g front m back x e i = elim (split_at a b front m back e) [
  | inl r ↦ f front m r.0 x r.1 i
  | inr r ↦ subst (Stood x) (sym (ap items_at r.1 ∙ parts-append a r.0)) (stood_more x (items_at a) (items_at r.0) (g r.0 m back x r.2 i))
]

-- an item that may come anywhere
abbrev IsFree : Option Item → Type 0
IsFree x = (y : Item) → x ≡ Some y → Stood y []

none_free : IsFree None
none_free y e = absurd (cc)

one_comes : (z : Zone) (x : Option Item) → IsFree x → Comes (record { zone = z; item = x } ∷ [])
one_comes z x f [] m back y e i = let h : record { zone = z; item = x } ≡ m = cc in f y (ap (λ (n : Mark). n.item) h ∙ i)
one_comes z x f (q ∷ front) m back y e i = absurd (no_mark front m back (cc))

ending_comes : (x : Option Item) (b : List ℕ) → IsFree x → Comes (marks_ending x b)
ending_comes x [] f = none_comes
ending_comes x (c ∷ []) f = one_comes outside x f
ending_comes x (c ∷ d ∷ b) f = comes_append (outside_mark None ∷ []) (marks_ending x (d ∷ b)) (one_comes outside None none_free) (ending_comes x (d ∷ b) f)

naming_comes : (x : Option Item) (b : List ℕ) → IsFree x → Comes (name_byte_marks x b)
naming_comes x [] f = none_comes
naming_comes x (c ∷ []) f = one_comes outside x f
naming_comes x (c ∷ d ∷ b) f = comes_append (record { zone = name; item = None } ∷ []) (name_byte_marks x (d ∷ b)) (one_comes name None none_free) (naming_comes x (d ∷ b) f)

name_comes : (x : Option Item) (front text : List ℕ) → IsFree x → Comes (name_marks x front text)
name_comes x front [] f = ending_comes x front f
name_comes x front (c ∷ text) f = comes_append (marks_ending None front) (name_byte_marks x (c ∷ text)) (ending_comes None front none_free) (naming_comes x (c ∷ text) f)

alone_stood : (y : Item) → IsAlone (Some y) → Stood y []
alone_stood (param t) i = absurd i
alone_stood (one_result t) i = absurd i
alone_stood (const_op o) i = absurd i
alone_stood (locals n t) i = absurd i
alone_stood (body_op o) i = absurd i
alone_stood y i = tt

named_stood : (text : List ℕ) (y : Item) → IsNamed text (Some y) → Stood y []
named_stood text (param t) i = absurd i
named_stood text (one_result t) i = absurd i
named_stood text (const_op o) i = absurd i
named_stood text (locals n t) i = absurd i
named_stood text (body_op o) i = absurd i
named_stood text y i = tt

-- the items of a constant
ops_told : (p : Profile) (ops : List Op) (b : List ℕ) (k : Marks) → EachOp p const_op ops b k → items_at k ≡ map const_op ops
ops_told p [] b k h = ap items_at h.1
ops_told p (o ∷ ops) b k h =
    let v = ops_told p ops h.back h.back_marks h.second in
    let e = parts-some (Some (const_op o)) h.front (op_some p o h.front h.first.0) in
    ap items_at h.marks ∙ (parts-append h.front_marks h.back_marks ∙ cc (ap items_at h.first.1, e, v))

constant_comes : (p : Profile) (opening : Item) (front : List ℕ) → IsOpening opening → HasByte front → (b : List ℕ) (k : Marks) → Expression p const_op b k → Comes (marks_ending (Some opening) front ++ k)
constant_comes p opening front a some b k h =
    of_items (marks_ending (Some opening) front ++ k) (opening ∷ map const_op h.0)
    (parts-append (marks_ending (Some opening) front) k ∙ cc (parts-some (Some opening) front some, ops_told p h.0 b k h.3))
    (constant_stood opening h.0 a h.1)

comes_leaves : Leaves Comes IsAlone
comes_leaves = record {
  none = none_comes;
  both = comes_append;
  nothing = tt;
  plain = λ x b i. ending_comes x b (λ y e. alone_stood y (subst IsAlone e i));
}

type_comes : (p : Profile) → Has Comes (FunctionType p)
type_comes p b k h =
    let rest = has_then type_leaves (has_vector type_leaves (has_leaf type_leaves _ param (λ v. tt)))
    (has_number type_leaves _ _ (λ n. tt) (λ n. has_times type_leaves n (has_leaf type_leaves _ one_result (λ v. tt)))) h.back h.back_marks h.second in
    of_items k (new_type ∷ items_at h.back_marks) (ap items_at (h.marks ∙ ap (λ z. z ++ h.back_marks) h.first.1)) (type_stood (items_at h.back_marks) rest)

global_comes : (p : Profile) → Has Comes (Global p)
global_comes p b k h =
    let v = h.first in
    let g = v.1.1 in
    let some : HasByte h.front = front_some h.front g.0 g.1 g.2 (byte_some (type_byte v.0.ty) g.0 g.3) in
    subst Comes (sym (h.marks ∙ ap (λ z. z ++ h.back_marks) v.2)) (constant_comes p (global v.0) h.front tt some h.back h.back_marks h.second)

-- the part of a segment behind a flag, from the index of its table or memory on
indexed_comes : (p : Profile) (opening : ℕ → Item) → ((n : ℕ) → IsOpening (opening n)) → {P : MarkedForm} → Has Comes P → Has Comes (Then (Index opening) (Then (Expression p const_op) P))
indexed_comes p opening a f b k h =
    let i = h.first in
    let j = h.second in
    let head : Marks = marks_ending (Some (opening i.n)) i.front in
    let begun : h.front_marks ≡ head = i.marks ∙ (ap (λ z. head ++ z) i.rest.1 ∙ append-nil head) in
    let whole : k ≡ (head ++ j.front_marks) ++ j.back_marks = h.marks ∙ (ap (λ z. z ++ h.back_marks) begun ∙ (ap (λ z. head ++ z) j.marks ∙ sym (append_assoc head j.front_marks j.back_marks))) in
    subst Comes (sym whole)
    (comes_append (head ++ j.front_marks) j.back_marks (constant_comes p (opening i.n) i.front (a i.n) (number_some i.n i.front i.number) j.front j.front_marks j.first) (f j.back j.back_marks j.second))

-- a segment, after the number at its front
all_list : (of : SegmentKind) → Has Comes (SegmentList of)
all_list of_kind.Element = has_vector comes_leaves (has_index comes_leaves element_function (λ n. tt))
all_list of_kind.Data = has_vector comes_leaves (has_leaf comes_leaves _ data_byte (λ v. tt))

all_kinded : (of : SegmentKind) → Has Comes (KindedList of)
all_kinded of_kind.Element = has_then comes_leaves (has_byte comes_leaves 0x00 None tt) (all_list of_kind.Element)
all_kinded of_kind.Data = all_list of_kind.Data

opens : (of : SegmentKind) (n : ℕ) → IsOpening (active_item of n)
opens of_kind.Element n = tt
opens of_kind.Data n = tt

passive_alone : (of : SegmentKind) → IsAlone (Some (passive_item of))
passive_alone of_kind.Element = tt
passive_alone of_kind.Data = tt

active_comes : (p : Profile) (of : SegmentKind) (n : ℕ) (front back : List ℕ) (k : Marks) → SpellsU32 n front → Then (Expression p const_op) (SegmentList of) back k → Comes (marks_ending (Some (active_item of n)) front ++ k)
active_comes p of n front back k u h =
    let head : Marks = marks_ending (Some (active_item of n)) front in
    subst Comes (append_assoc head h.front_marks h.back_marks ∙ ap (λ z. head ++ z) (sym h.marks))
    (comes_append (head ++ h.front_marks) h.back_marks (constant_comes p (active_item of n) front (opens of n) (number_some n front u) h.front h.front_marks h.first) (all_list of h.back h.back_marks h.second))

front_comes : (p : Profile) (flagged : Bool) (of : SegmentKind) (n : ℕ) (front back : List ℕ) (k : Marks) → SpellsU32 n front → SegmentRest p flagged of n back k → Comes (marks_ending (segment_item flagged of n) front ++ k)
front_comes p false of n front back k u h = active_comes p of n front back k u h
front_comes p true of zero front back k u h = active_comes p of 0 front back k u h
front_comes p true of (suc zero) front back k u h =
    comes_append (marks_ending (Some (passive_item of)) front) k (comes_leaves.plain (Some (passive_item of)) front (passive_alone of)) (all_kinded of back k h)
front_comes p true of (suc (suc zero)) front back k u h =
    comes_append (marks_ending None front) k (comes_leaves.plain None front tt) (indexed_comes p (active_item of) (opens of) (all_kinded of) back k h)
front_comes p true of (suc (suc (suc n))) front back k u h = absurd h

segment_comes : (p : Profile) (of : SegmentKind) → Has Comes (SegmentForm p of)
segment_comes p of b k h = subst Comes (sym h.marks) (front_comes p (has p BulkMemory) of h.n h.front h.back h.back_marks h.number h.rest)

code_comes : (demanded : Type 0) (p : Profile) → Has Comes (Code demanded p)
code_comes demanded p b k h =
    let c = h.rest.1 in
    let v = (reads_body p).to h.back c.inner c.contents in
    let size : Marks = marks_ending (Some body) h.front in
    let whole : k ≡ size ++ entry_marks c.inner = h.marks ∙ ap (λ j. size ++ j) c.marks in
    let sized : items_at size ≡ body ∷ [] = parts-some (Some body) h.front (number_some h.n h.front h.number) in
    let all : items_at (size ++ entry_marks c.inner) ≡ body ∷ map run_part v.0.0 ++ map body_op v.0.1 = parts-append size (entry_marks c.inner) ∙ cc (sized, parts-entered c.inner, v.2) in
    of_items k (body ∷ map run_part v.0.0 ++ map body_op v.0.1) (ap items_at whole ∙ all) (entry_stood v.0.0 v.0.1 v.1.4.0)

comes : (demanded : Type 0) (p : Profile) → PassesMembers demanded p Comes
comes demanded p = record {
  leaves = comes_leaves;
  named = λ x front text i n. name_comes x front text (λ y e. named_stood text y (subst (IsNamed text) e i));
  types = type_comes p;
  globals = global_comes p;
  elements = segment_comes p of_kind.Element;
  codes = code_comes demanded p;
  segments = segment_comes p of_kind.Data;
}

-- at the end of a front
pub front_stood : (p : Profile) (b : List ℕ) (k : Marks) (m : Mark) (x : Item) → IsFront p b (k ++ m ∷ []) → m.item ≡ Some x → Stood x (items_at k)
front_stood p b k m x f i =
    has_members loose p Comes (comes loose p) (b ++ f.rest) ((k ++ m ∷ []) ++ f.rest_marks) f.whole k m f.rest_marks x (append_assoc k (m ∷ []) f.rest_marks) i
