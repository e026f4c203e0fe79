-- The front of an input has one reading: as long as the bytes of two inputs agree, their marks agree.
use Rattle.std.proofs.Common.{ℕ, zero, suc, ◌≡◌, ◌+◌, ◌-◌, ◌≤◌, ◌<◌, ◌^◌, ◌⊎◌, inl, inr, List, [], ◌∷◌, ◌++◌, Option, Some, None, length, refl, sym, ◌∙◌, ap, subst, append-nil, append_assoc, arith, nat_eq, true, false}
use Rattle.std.proofs.Common.{Bool}
use Rattle.wm_machine.specs.Grammar.{SegmentRest, segment_item}
use Rattle.wm_syntax.specs.Profiles.{has}
use Rattle.wm_syntax.specs.declared.profile.Feature.TheVariants.{BulkMemory}
use Rattle.std.proofs.lemmas.Bool.{eqb-true, eqb-false}
use Rattle.wm_syntax.specs.declared.instructions.Op.{Op}
use Rattle.wm_syntax.specs.declared.instructions.Op.TheVariants as op
use Rattle.wm_syntax.specs.declared.instructions.Simple.{Simple}
use Rattle.wm_syntax.specs.declared.instructions.Simple.TheVariants as simple
use Rattle.wm_syntax.specs.declared.modules.ExportKind.{ExportKind}
use Rattle.wm_syntax.specs.declared.instructions.op_class.Indexed.TheVariants as indexed
use Rattle.wm_syntax.specs.declared.instructions.op_class.BlockOp.TheVariants as opening
use Rattle.wm_syntax.specs.declared.instructions.op_class.Immediates.TheVariants as kind
use Rattle.wm_syntax.specs.declared.instructions.op_class.OpClass.{OpClass}
use Rattle.wm_syntax.specs.declared.instructions.op_class.OpClass.TheVariants.{Plain, With}
use Rattle.wm_syntax.specs.declared.profile.Profile.{Profile}
use Rattle.wm_syntax.specs.declared.types.ValType.{ValType}
use Rattle.wm_syntax.specs.Types.{block_byte}
use Rattle.wm_syntax.proofs.SameTypes.{block_tells}
use Rattle.wm_syntax.specs.OpClasses.{class_of}
use Rattle.wm_syntax.specs.Spelling.{Form, Byte as OneByte, ◌▸◌}
use Rattle.wm_syntax.specs.Types.{SpellsU32, SpellsBlockType, SpellsGlobalType, SpellsValType}
use Rattle.wm_syntax.specs.Profiles.{HasDesc, HasType}
use Rattle.wm_syntax.specs.Encodings.{SpellsOp}
use Rattle.wm_syntax.proofs.Unambiguous.{same_u32, same_simple}
use Rattle.wm_syntax.proofs.OneInstruction.{apart_op, class_there}
use Rattle.wm_syntax.proofs.CodeBytes.{same_code}
use Rattle.wm_machine.proofs.OpBytes.{NoLabel, code_first, has_first}
use Rattle.wm_machine.specs.Sections.{SpellsDesc, kind_byte, header}
use Rattle.wm_machine.specs.Items.{Item, entry, closing, Mark, Marks, new_type, param, result_count, one_result, import_module, import_name, import_desc, function, table, memory, global, const_op, export_name, export, start, element_function, data_count, body, locals, body_op, data_byte}
use Rattle.wm_machine.specs.MarkedForms.{MarkedForm, Empty, MarkedByte, Literal, Then, Times, Leaf, MarkedNumber, Vector, Index, Name, Sized, Filled, Entry, nothing_at, outside_mark, marks_ending, name_byte_marks, name_marks, in_zone, entry_marks}
use Rattle.wm_machine.specs.Grammar.{ModuleCounts, SegmentCount, id_at, loose, ValueType, ResultTypes, FunctionType, ImportForm, HasLabels, IsExpression, EachOp, Expression, Global, HasGlobalType, ExportForm, Run, Code, DataByte, SegmentForm, Paired, Contents, Section, Custom, Optional, Chain, ModuleForm}
use Rattle.wm_syntax.specs.Instructions.{openings, endings}
use Rattle.wm_machine.specs.Fronts.{IsFront}
use Rattle.wm_machine.proofs.FirstBytes.{tail_same, not_nil}
use Rattle.wm_machine.proofs.Ranks.{same_rank as one_rank}
use Rattle.wm_machine.proofs.OneSpelling.{Same, Once, byte_same, same_as, tagged, once_then, once_type, once_those, once_limits, once_table, once_global_type, once_desc, once_kind, once_run}
use Rattle.wm_syntax.specs.Profiles.{every}
use Rattle.wm_syntax.specs.declared.profile.Feature.TheVariants.{LongIndex}
use Rattle.wm_syntax.proofs.ProfileLaws.{every_extends}
use Rattle.wm_syntax.proofs.SpelledMore.{op_spelled_more}
use Rattle.wm_machine.specs.declared.machine.member.SegmentKind.{SegmentKind}
use Rattle.wm_machine.specs.declared.machine.member.SegmentKind.TheVariants as segments
use Rattle.wm_machine.specs.Grammar.{active_item, SegmentList, KindedList}

abbrev Done : Type 0
Done = Unit {0}

-- As long as both lists of bytes agree, so do the marks; and both end at one place, where D holds.
abbrev Meet : Type 0 → List ℕ → Marks → List ℕ → Marks → Type 0
Meet D [] [] [] [] = D
Meet D (c ∷ a) (m ∷ j) (d ∷ b) (n ∷ k) = c ≡ d → (m ≡ n) × Meet D a j b k
Meet D _ _ _ _ = ⊥

meet_as : (D E : Type 0) (a : List ℕ) (j : Marks) (b : List ℕ) (k : Marks) → (D → E) → Meet D a j b k → Meet E a j b k
meet_as D E [] [] [] [] f h = f h
meet_as D E (c ∷ a) (m ∷ j) (d ∷ b) (n ∷ k) f h = λ e. let r = h e in (r.0, meet_as D E a j b k f r.1)
meet_as D E _ _ _ _ f h = absurd h

-- the bytes are then the same
meet_bytes : (D : Type 0) (a : List ℕ) (j : Marks) (b : List ℕ) (k : Marks) → Meet D a j b k → Meet (D × (a ≡ b)) a j b k
meet_bytes D [] [] [] [] h = (h, refl)
meet_bytes D (c ∷ a) (m ∷ j) (d ∷ b) (n ∷ k) h =
    λ e. let r = h e in (r.0, meet_as (D × (a ≡ b)) (D × (c ∷ a ≡ d ∷ b)) a j b k (λ (g : D × (a ≡ b)). (g.0, both e g.1)) (meet_bytes D a j b k r.1))
  where
    both : c ≡ d → a ≡ b → c ∷ a ≡ d ∷ b
    both e f = cc
meet_bytes D _ _ _ _ h = absurd h

meet_then : (D E : Type 0) (a : List ℕ) (j : Marks) (b : List ℕ) (k : Marks) (a' : List ℕ) (j' : Marks) (b' : List ℕ) (k' : Marks) → Meet D a j b k → (D → Meet E a' j' b' k')
    → Meet E (a ++ a') (j ++ j') (b ++ b') (k ++ k')
meet_then D E [] [] [] [] a' j' b' k' h f = f h
meet_then D E (c ∷ a) (m ∷ j) (d ∷ b) (n ∷ k) a' j' b' k' h f = λ e. let r = h e in (r.0, meet_then D E a j b k a' j' b' k' r.1 f)
meet_then D E _ _ _ _ a' j' b' k' h f = absurd h

meet_at : (D : Type 0) {a a' : List ℕ} {j j' : Marks} {b b' : List ℕ} {k k' : Marks} → a ≡ a' → j ≡ j' → b ≡ b' → k ≡ k' → Meet D a' j' b' k' → Meet D a j b k
meet_at D {a = a} {a' = a'} {j = j} {j' = j'} {b = b} {b' = b'} {k = k} {k' = k'} p q r s h =
    subst (λ y. Meet D y j b k) (sym p) (subst (λ y. Meet D a' y b k) (sym q) (subst (λ y. Meet D a' j' y k) (sym r) (subst (λ y. Meet D a' j' b' y) (sym s) h)))

-- where each of two lists begins the other they are the same, and D holds
abbrev Cut : List ℕ → List ℕ → Type 0 → Type 0
Cut a b D = (u v : List ℕ) → a ++ u ≡ b ++ v → (a ≡ b) × D

cut_tail : (D : Type 0) (c d : ℕ) (a b : List ℕ) → c ≡ d → Cut (c ∷ a) (d ∷ b) D → Cut a b D
cut_tail D c d a b e s u v h = let whole : c ∷ (a ++ u) ≡ d ∷ (b ++ v) = cc in let r = s u v whole in (tail_same c d a b r.0, r.1)

-- an item is complete at the last byte
meet_ending : (D : Type 0) (x y : Option Item) (a b : List ℕ) → Cut a b D → (D → x ≡ y) → Meet D a (marks_ending x a) b (marks_ending y b)
meet_ending D x y [] [] s f = (s [] [] refl).1
meet_ending D x y [] (d ∷ b) s f = absurd (not_nil d b (sym (s (d ∷ b) [] (sym (append-nil (d ∷ b)))).0))
meet_ending D x y (c ∷ a) [] s f = absurd (not_nil c a (s [] (c ∷ a) (append-nil (c ∷ a))).0)
meet_ending D x y (c ∷ []) (d ∷ []) s f = λ e. let g = (s [] [] (ap (λ y. y ∷ []) e)).1 in (ap outside_mark (f g), g)
meet_ending D x y (c ∷ []) (d ∷ e ∷ b) s f =
    λ h. let r = cut_tail D c d [] (e ∷ b) h s (e ∷ b) [] (sym (append-nil (e ∷ b))) in absurd (not_nil e b (sym r.0))
meet_ending D x y (c ∷ e ∷ a) (d ∷ []) s f =
    λ h. let r = cut_tail D c d (e ∷ a) [] h s [] (e ∷ a) (append-nil (e ∷ a)) in absurd (not_nil e a r.0)
meet_ending D x y (c ∷ e ∷ a) (d ∷ g ∷ b) s f = λ h. (refl, meet_ending D x y (e ∷ a) (g ∷ b) (cut_tail D c d (e ∷ a) (g ∷ b) h s) f)

-- the bytes of a name, as many
meet_naming : (x y : Option Item) (a b : List ℕ) → length a ≡ length b → (a ≡ b → x ≡ y) → Meet Done a (name_byte_marks x a) b (name_byte_marks y b)
meet_naming x y [] [] l f = tt
meet_naming x y [] (d ∷ b) l f = cc
meet_naming x y (c ∷ a) [] l f = cc
meet_naming x y (c ∷ []) (d ∷ []) l f = λ e. (ap outside_mark (f (ap (λ y. y ∷ []) e)), tt)
meet_naming x y (c ∷ []) (d ∷ e ∷ b) l f = cc
meet_naming x y (c ∷ e ∷ a) (d ∷ []) l f = cc
meet_naming x y (c ∷ e ∷ a) (d ∷ g ∷ b) l f = λ h. (refl, meet_naming x y (e ∷ a) (g ∷ b) (cc) (λ i. f (cc (h, i))))

-- any bytes, as many
meet_any : (a b : List ℕ) → length a ≡ length b → Meet Done a (marks_ending None a) b (marks_ending None b)
meet_any [] [] l = tt
meet_any [] (d ∷ b) l = cc
meet_any (c ∷ a) [] l = cc
meet_any (c ∷ []) (d ∷ []) l = λ e. (refl, tt)
meet_any (c ∷ []) (d ∷ e ∷ b) l = cc
meet_any (c ∷ e ∷ a) (d ∷ []) l = cc
meet_any (c ∷ e ∷ a) (d ∷ g ∷ b) l = λ h. (refl, meet_any (e ∷ a) (g ∷ b) (cc))

-- within a code entry
no_marks : (D : Type 0) (a b : List ℕ) (n : Mark) (k : Marks) → Meet D a [] b (n ∷ k) → ⊥
no_marks D [] [] n k h = h
no_marks D [] (d ∷ b) n k h = h
no_marks D (c ∷ a) [] n k h = h
no_marks D (c ∷ a) (d ∷ b) n k h = h

more_marks : (D : Type 0) (a b : List ℕ) (m : Mark) (j : Marks) → Meet D a (m ∷ j) b [] → ⊥
more_marks D [] [] m j h = h
more_marks D [] (d ∷ b) m j h = h
more_marks D (c ∷ a) [] m j h = h
more_marks D (c ∷ a) (d ∷ b) m j h = h

meet_entered : (D : Type 0) (a : List ℕ) (j : Marks) (b : List ℕ) (k : Marks) → Meet D a j b k → Meet D a (entry_marks j) b (entry_marks k)
meet_entered D [] [] [] [] h = h
meet_entered D (c ∷ a) (m ∷ []) (d ∷ b) (n ∷ []) h = λ e. let r = h e in (ap (in_zone closing) r.0, r.1)
meet_entered D (c ∷ a) (m ∷ []) (d ∷ b) (n ∷ q ∷ k) h = λ e. absurd (no_marks D a b q k (h e).1)
meet_entered D (c ∷ a) (m ∷ p ∷ j) (d ∷ b) (n ∷ []) h = λ e. absurd (more_marks D a b p j (h e).1)
meet_entered D (c ∷ a) (m ∷ p ∷ j) (d ∷ b) (n ∷ q ∷ k) h = λ e. let r = h e in (ap (in_zone entry) r.0, meet_entered D a (p ∷ j) b (q ∷ k) r.1)
meet_entered D _ _ _ _ h = absurd h

-- of any bytes of the one shape and any of the other
abbrev Meets : MarkedForm → MarkedForm → Type 0 → Type 0
Meets P Q D = (a : List ℕ) (j : Marks) (b : List ℕ) (k : Marks) → P a j → Q b k → Meet D a j b k

abbrev Alike : MarkedForm → Type 0
Alike P = Meets P P Done

empty_alike : Alike Empty
empty_alike a j b k h i = meet_at Done h.0 h.1 i.0 i.1 tt

then_meets : {P Q P' Q' : MarkedForm} (D E : Type 0) → Meets P P' D → (D → Meets Q Q' E) → Meets (Then P Q) (Then P' Q') E
then_meets D E f g a j b k h i =
    meet_at E h.bytes h.marks i.bytes i.marks
    (meet_then D E h.front h.front_marks i.front i.front_marks h.back h.back_marks i.back i.back_marks (f h.front h.front_marks i.front i.front_marks h.first i.first) (λ d. g d h.back h.back_marks i.back i.back_marks h.second i.second))

then_alike : {P Q : MarkedForm} → Alike P → Alike Q → Alike (Then P Q)
then_alike f g = then_meets Done Done f (λ d. g)

times_alike : {P : MarkedForm} → Alike P → (n : ℕ) → Alike (Times n P)
times_alike f zero = empty_alike
times_alike f (suc n) = then_alike f (times_alike f n)

bytes_meet : (c d : ℕ) (x y : Option Item) → (c ≡ d → x ≡ y) → Meets (MarkedByte c x) (MarkedByte d y) (c ≡ d)
bytes_meet c d x y f a j b k h i = meet_at (c ≡ d) h.0 h.1 i.0 i.1 (λ e. (ap outside_mark (f e), e))

byte_alike : (c : ℕ) (x : Option Item) → Alike (MarkedByte c x)
byte_alike c x a j b k h i = meet_as (c ≡ c) Done a j b k (λ d. tt) (bytes_meet c c x x (λ e. refl) a j b k h i)

literal_alike : (text : List ℕ) → Alike (Literal text)
literal_alike text a j b k h i = meet_at Done h.0 h.1 i.0 i.1 (meet_ending Done None None text text (λ u v e. (refl, tt)) (λ e. refl))

leaf_alike : {X : Type 0} {V : X → Form ℕ} (o : Once V) (part : X → Item) → Alike (Leaf V part)
leaf_alike o part a j b k h i =
    meet_at Done refl h.2 refl i.2
    (meet_as (h.0 ≡ i.0) Done a (marks_ending (Some (part h.0)) a) b (marks_ending (Some (part i.0)) b) (λ d. tt)
    (meet_ending (h.0 ≡ i.0) (Some (part h.0)) (Some (part i.0)) a b (λ u v e. o h.0 i.0 a b u v h.1 i.1 e) (λ e. ap (λ y. Some (part y)) e)))

number_alike : (x : ℕ → Option Item) (F G : ℕ → MarkedForm) → ((n : ℕ) → Meets (F n) (G n) Done) → Meets (MarkedNumber x F) (MarkedNumber x G) Done
number_alike x F G f a j b k h i =
    meet_at Done h.bytes h.marks i.bytes i.marks
    (meet_then (h.n ≡ i.n) Done h.front (marks_ending (x h.n) h.front) i.front (marks_ending (x i.n) i.front) h.back h.back_marks i.back i.back_marks
    (meet_ending (h.n ≡ i.n) (x h.n) (x i.n) h.front i.front (λ u v e. same_u32 h.n i.n h.front i.front u v h.number i.number e) (λ e. ap x e))
    (λ e. f i.n h.back h.back_marks i.back i.back_marks (subst (λ y. F y h.back h.back_marks) e h.rest) i.rest))

vector_alike : {P : MarkedForm} → Alike P → Alike (Vector P)
vector_alike {P} f = number_alike nothing_at (λ n. Times n P) (λ n. Times n P) (times_alike f)

index_alike : (part : ℕ → Item) → Alike (Index part)
index_alike part = number_alike (λ n. Some (part n)) (λ n. Empty) (λ n. Empty) (λ n. empty_alike)

sized_meets : {P Q : MarkedForm} (D : Type 0) (n m : ℕ) → Meets P Q D → Meets (Sized loose n P) (Sized loose m Q) D
sized_meets D n m f a j b k h i = f a j b k h.1 i.1

entry_alike : {P : MarkedForm} → Alike P → Alike (Entry P)
entry_alike f a j b k h i = meet_at Done refl h.marks refl i.marks (meet_entered Done a h.inner b i.inner (f a h.inner b i.inner h.contents i.contents))

filled_alike : {P : MarkedForm} (n : ℕ) → Alike P → Alike (Filled loose n P)
filled_alike n f a j b k h i =
    meet_at Done h.bytes h.marks i.bytes i.marks
    (meet_then (Done × (h.front ≡ i.front)) Done h.front h.front_marks i.front i.front_marks h.back (marks_ending None h.back) i.back (marks_ending None i.back)
    (meet_bytes Done h.front h.front_marks i.front i.front_marks (f h.front h.front_marks i.front i.front_marks h.first i.first))
    (λ d. meet_any h.back i.back (h.size ∙ (ap (λ (y : List ℕ). n - length y) d.1 ∙ sym i.size))))

-- names
name_parts : (x : List ℕ → Option Item) (f t g u : List ℕ) → SpellsU32 (length t) f → SpellsU32 (length u) g → Meet Done (f ++ t) (name_marks (x t) f t) (g ++ u) (name_marks (x u) g u)
name_parts x f [] g [] p q =
    meet_at Done (append-nil f) refl (append-nil g) refl
    (meet_as (0 ≡ 0) Done f (marks_ending (x []) f) g (marks_ending (x []) g) (λ d. tt) (meet_ending (0 ≡ 0) (x []) (x []) f g (λ a b e. same_u32 0 0 f g a b p q e) (λ e. refl)))
name_parts x f [] g (d ∷ u) p q =
    meet_at Done refl (sym (append-nil (marks_ending (x []) f))) refl refl
    (meet_then (0 ≡ length (d ∷ u)) Done f (marks_ending (x []) f) g (marks_ending None g) [] [] (d ∷ u) (name_byte_marks (x (d ∷ u)) (d ∷ u))
    (meet_ending (0 ≡ length (d ∷ u)) (x []) None f g (λ a b e. same_u32 0 (length (d ∷ u)) f g a b p q e) (λ e. cc)) (λ e. cc))
name_parts x f (c ∷ t) g [] p q =
    meet_at Done refl refl refl (sym (append-nil (marks_ending (x []) g)))
    (meet_then (length (c ∷ t) ≡ 0) Done f (marks_ending None f) g (marks_ending (x []) g) (c ∷ t) (name_byte_marks (x (c ∷ t)) (c ∷ t)) [] []
    (meet_ending (length (c ∷ t) ≡ 0) None (x []) f g (λ a b e. same_u32 (length (c ∷ t)) 0 f g a b p q e) (λ e. cc)) (λ e. cc))
name_parts x f (c ∷ t) g (d ∷ u) p q =
    meet_then (length (c ∷ t) ≡ length (d ∷ u)) Done f (marks_ending None f) g (marks_ending None g) (c ∷ t) (name_byte_marks (x (c ∷ t)) (c ∷ t)) (d ∷ u) (name_byte_marks (x (d ∷ u)) (d ∷ u))
    (meet_ending (length (c ∷ t) ≡ length (d ∷ u)) None None f g (λ a b e. same_u32 (length (c ∷ t)) (length (d ∷ u)) f g a b p q e) (λ e. refl))
    (λ e. meet_naming (x (c ∷ t)) (x (d ∷ u)) (c ∷ t) (d ∷ u) e (λ i. ap x i))

name_alike : (x : List ℕ → Option Item) → Alike (Name loose x)
name_alike x a j b k h i = meet_at Done h.bytes h.marks i.bytes i.marks (name_parts x h.front h.text i.front i.text h.number i.number)

-- Ops. A label stands just where one is due.
abbrev IsDue : ℕ → Op → Type 0
IsDue zero (op.Label l) = ⊥
IsDue zero o = Unit {0}
IsDue (suc n) (op.Label l) = Unit {0}
IsDue (suc n) o = ⊥

abbrev due_after : ℕ → Op → ℕ
due_after zero (op.BrTable n) = suc n
due_after zero o = zero
due_after (suc n) o = n

labels_first : (n : ℕ) (o : Op) (ops : List Op) → HasLabels n (o ∷ ops) → IsDue n o × HasLabels (due_after n o) ops
labels_first zero (op.Label l) ops h = absurd h
labels_first zero (op.BrTable n) ops h = (tt, h)
labels_first zero o ops h = (tt, h)
labels_first (suc n) (op.Label l) ops h = (tt, h)
labels_first (suc n) o ops h = absurd h

-- which of the ops that are no simple instruction a first byte says
abbrev rank : OpClass → ℕ
rank (With (kind.Block opening.Block)) = 1
rank (With (kind.Block opening.Loop)) = 2
rank (With (kind.Block opening.If)) = 3
rank (With (kind.Index indexed.BrTable)) = 4
rank (Plain op.Else) = 5
rank (Plain op.End) = 6
rank _ = 0

simple_rank : (i : Simple) → rank (class_of (op.Simple i)) ≡ 0
simple_rank (simple.Br l) = refl
simple_rank _ = refl

some_same : {X : Type 0} {x y : X} → Some x ≡ Some y → x ≡ y
some_same e = cc

due_named : (o : Op) → IsDue zero o → NoLabel o
due_named (op.Label l) d = absurd d
due_named _ d = tt

same_rank : (o q : Op) → IsDue zero o → IsDue zero q → (a b u v : List ℕ) → SpellsOp every o a → SpellsOp every q b → a ++ u ≡ b ++ v → rank (class_of o) ≡ rank (class_of q)
same_rank o q d f a b u v h k e =
    let x = has_first o (due_named o d) in
    let y = has_first q (due_named q f) in
    let s = code_first every o x.0 x.1 a h in
    let t = code_first every q y.0 y.1 b k in
    let whole : s.0 ++ (s.1 ++ u) ≡ t.0 ++ (t.1 ++ v) = sym (append_assoc s.0 s.1 u) ∙ (ap (λ (z : List ℕ). z ++ u) (sym s.2) ∙ (e ∙ (ap (λ (z : List ℕ). z ++ v) t.2 ∙ append_assoc t.0 t.1 v))) in
    let same : x.0 ≡ y.0 = (same_code x.0 y.0 (apart_op o x.0 x.1) (apart_op q y.0 y.1) s.0 t.0 (s.1 ++ u) (t.1 ++ v) s.3 t.3 whole).1 in
    ap rank (some_same (sym (class_there o x.0 x.1) ∙ class_there q x.0 (y.1 ∙ ap Some (sym same))))

block_type_same : (t u : Option ValType) → Same (SpellsBlockType t) (SpellsBlockType u) (t ≡ u)
block_type_same t u = same_as (block_tells t u) (byte_same (block_byte t) (block_byte u))

one_op : (o q : Op) → IsDue zero o → IsDue zero q → Same (SpellsOp every o) (SpellsOp every q) (o ≡ q)
one_op (op.Label l) q d f a b u v h k e = absurd d
one_op o (op.Label l) d f a b u v h k e = absurd f
one_op (op.Simple i) (op.Simple j) d f a b u v h k e = let r = same_simple i j a b u v h k e in (r.0, ap op.Simple r.1)
one_op (op.Block t) (op.Block s) d f a b u v h k e = tagged 0x02 (λ d. ap op.Block d) (block_type_same t s) a b u v h k e
one_op (op.Loop t) (op.Loop s) d f a b u v h k e = tagged 0x03 (λ d. ap op.Loop d) (block_type_same t s) a b u v h k e
one_op (op.If t) (op.If s) d f a b u v h k e = tagged 0x04 (λ d. ap op.If d) (block_type_same t s) a b u v h k e
one_op op.Else op.Else d f a b u v h k e = (h ∙ sym k, refl)
one_op op.End op.End d f a b u v h k e = (h ∙ sym k, refl)
one_op (op.BrTable n) (op.BrTable m) d f a b u v h k e = tagged 0x0E (λ d. ap op.BrTable d) (same_u32 n m) a b u v h k e
one_op (op.Simple i) q d f a b u v h k e = let r = same_rank (op.Simple i) q d f a b u v h k e in absurd (omega (arith, r, simple_rank i))
one_op o (op.Simple j) d f a b u v h k e = let r = same_rank o (op.Simple j) d f a b u v h k e in absurd (omega (arith, r, simple_rank j))
one_op o q d f a b u v h k e = let r = same_rank o q d f a b u v h k e in absurd (omega (arith, r))

one_of_due : (n : ℕ) (o q : Op) → IsDue n o → IsDue n q → Same (SpellsOp every o) (SpellsOp every q) (o ≡ q)
one_of_due zero o q d f = one_op o q d f
one_of_due (suc n) (op.Label l) (op.Label m) d f = same_as (λ e. ap op.Label e) (same_u32 l m)
one_of_due (suc n) (op.Label l) q d f = absurd f
one_of_due (suc n) o q d f = absurd d

-- of two expressions with the same ops so far, where both end or go on
no_more : (ops : List Op) (o : Op) (more : List Op) → IsExpression (ops ++ []) → IsExpression (ops ++ o ∷ more) → ⊥
no_more ops o more h k =
    let all : ops ++ [] ≡ ops = append-nil ops in
    let closed : endings ops ≡ openings ops + 1 = subst (λ y. endings y ≡ openings y + 1) all h.closed in
    elim (k.first ops (o ∷ more) refl) [ inl e ↦ not_nil o more e | inr l ↦ omega (arith, closed, l) ]

module _ (p : Profile) (part : Op → Item) where
  ops_alike : (n : ℕ) (before ops more : List Op) → HasLabels n ops → HasLabels n more → IsExpression (before ++ ops) → IsExpression (before ++ more) → Meets (EachOp p part ops) (EachOp p part more) Done
  ops_alike n before [] [] l m e f = empty_alike
  ops_alike n before [] (q ∷ more) l m e f = λ a j b k h i. absurd (no_more before q more e f)
  ops_alike n before (o ∷ ops) [] l m e f = λ a j b k h i. absurd (no_more before o ops f e)
  ops_alike n before (o ∷ ops) (q ∷ more) l m e f =
      let x = labels_first n o ops l in
      let y = labels_first n q more m in
      then_meets (o ≡ q) Done (one x.0 y.0)
      (λ same. ops_alike (due_after n o) (before ++ o ∷ []) ops more x.1 (subst (λ z. HasLabels (due_after n z) more) (sym same) y.1)
      (subst IsExpression (sym (append_assoc before (o ∷ []) ops)) e)
      (subst IsExpression (sym (append_assoc before (o ∷ []) more)) (subst (λ z. IsExpression (before ++ z ∷ more)) (sym same) f)))
    where
      one : IsDue n o → IsDue n q → Meets (λ b k. SpellsOp p o b × (k ≡ marks_ending (Some (part o)) b)) (λ b k. SpellsOp p q b × (k ≡ marks_ending (Some (part q)) b)) (o ≡ q)
      one d g a j b k h i =
          meet_at (o ≡ q) refl h.1 refl i.1 (meet_ending (o ≡ q) (Some (part o)) (Some (part q)) a b (λ u v e. one_of_due n o q d g a b u v (op_spelled_more p every (every_extends p LongIndex) o a h.0) (op_spelled_more p every (every_extends p LongIndex) q b i.0) e) (λ e. ap (λ y. Some (part y)) e))

  expression_alike : Alike (Expression p part)
  expression_alike a j b k h i = ops_alike 0 [] h.0 i.0 h.1.labels i.1.labels h.1 i.1 a j b k h.3 i.3

-- members
value_alike : (p : Profile) (part : ValType → Item) → Alike (ValueType p part)
value_alike p part = leaf_alike (once_those (HasType p) SpellsValType once_type) part

results_alike : (p : Profile) → Alike (ResultTypes p)
results_alike p = number_alike (λ n. Some (result_count n)) (λ n. Times n (ValueType p one_result)) (λ n. Times n (ValueType p one_result)) (times_alike (value_alike p one_result))

function_type_alike : (p : Profile) → Alike (FunctionType p)
function_type_alike p = then_alike (byte_alike 0x60 (Some new_type)) (then_alike (vector_alike (value_alike p param)) (results_alike p))

import_alike : (p : Profile) → Alike (ImportForm loose p)
import_alike p = then_alike (name_alike (λ text. Some (import_module text))) (then_alike (name_alike (λ text. Some (import_name text))) (leaf_alike (once_those (HasDesc p) SpellsDesc once_desc) import_desc))

export_alike : Alike (ExportForm loose)
export_alike =
    then_alike (name_alike (λ text. Some (export_name text)))
    (leaf_alike {X = ExportKind × ℕ} {V = λ t. OneByte (kind_byte t.0) ▸ SpellsU32 t.1} (once_then once_kind same_u32) (λ t. export t.0 t.1))

run_alike : (p : Profile) → Alike (Run p)
run_alike p = leaf_alike (once_run p) (λ r. locals r.0 r.1)

data_once : Once (λ c b. (b ≡ c ∷ []) × (c < 2 ^ 8))
data_once c d a b u v h k e = byte_same c d a b u v h.0 k.0 e

data_alike : Alike DataByte
data_alike = leaf_alike data_once data_byte

module _ (p : Profile) where
  global_alike : Alike (Global p)
  global_alike = then_alike (leaf_alike (once_those (HasGlobalType p) SpellsGlobalType once_global_type) global) (expression_alike p const_op)

  list_alike : (of : SegmentKind) → Alike (SegmentList of)
  list_alike segments.Element = vector_alike (index_alike element_function)
  list_alike segments.Data = vector_alike data_alike

  kinded_alike : (of : SegmentKind) → Alike (KindedList of)
  kinded_alike segments.Element = then_alike (byte_alike 0x00 None) (list_alike segments.Element)
  kinded_alike segments.Data = list_alike segments.Data

  segment_alike : (of : SegmentKind) → Alike (SegmentForm p of)
  segment_alike of = let R : ℕ → MarkedForm = SegmentRest p (has p BulkMemory) of in number_alike (segment_item (has p BulkMemory) of) R R (front_alike (has p BulkMemory))
    where
      active_alike : Alike (Then (Expression p const_op) (SegmentList of))
      active_alike = then_alike (expression_alike p const_op) (list_alike of)

      front_alike : (f : Bool) (n : ℕ) → Alike (SegmentRest p f of n)
      front_alike false n = active_alike
      front_alike true zero = active_alike
      front_alike true (suc zero) = kinded_alike of
      front_alike true (suc (suc zero)) = then_alike (index_alike (active_item of)) (then_alike (expression_alike p const_op) (kinded_alike of))
      front_alike true (suc (suc (suc n))) = λ a j b k h i. absurd h

  code_alike : Alike (Code loose p)
  code_alike =
      let S : ℕ → MarkedForm = λ n. Sized loose n (Entry (Then (Vector (Run p)) (Expression p body_op))) in
      number_alike (λ n. Some body) S S (λ n. sized_meets Done n n (entry_alike (then_alike (vector_alike (run_alike p)) (expression_alike p body_op))))

  -- however many functions there are
  paired_alike : {P : MarkedForm} (f g : ℕ) → Alike P → Meets (Paired loose f P) (Paired loose g P) Done
  paired_alike {P} f g h =
      number_alike nothing_at (λ n b k. (loose → n ≡ f) × Times n P b k) (λ n b k. (loose → n ≡ g) × Times n P b k) (λ n a j b k x y. times_alike h n a j b k x.1 y.1)

  count_alike : (n m : ℕ) → Meets (SegmentCount loose n) (SegmentCount loose m) Done
  count_alike n m =
      number_alike (λ c. Some (data_count c)) (λ c b k. (loose → c ≡ n) × Empty b k) (λ c b k. (loose → c ≡ m) × Empty b k) (λ c a j b k x y. empty_alike a j b k x.1 y.1)

  contents_alike : (f g : ModuleCounts) (rank : ℕ) → Meets (Contents loose p f rank) (Contents loose p g rank) Done
  contents_alike f g (suc zero) = vector_alike (function_type_alike p)
  contents_alike f g (suc (suc zero)) = vector_alike (import_alike p)
  contents_alike f g (suc (suc (suc zero))) = paired_alike f.functions g.functions (index_alike function)
  contents_alike f g (suc (suc (suc (suc zero)))) = vector_alike (leaf_alike once_table table)
  contents_alike f g (suc (suc (suc (suc (suc zero))))) = vector_alike (leaf_alike once_limits memory)
  contents_alike f g (suc (suc (suc (suc (suc (suc zero)))))) = vector_alike global_alike
  contents_alike f g (suc (suc (suc (suc (suc (suc (suc zero))))))) = vector_alike export_alike
  contents_alike f g (suc (suc (suc (suc (suc (suc (suc (suc zero)))))))) = index_alike start
  contents_alike f g (suc (suc (suc (suc (suc (suc (suc (suc (suc zero))))))))) = vector_alike (segment_alike segments.Element)
  contents_alike f g (suc (suc (suc (suc (suc (suc (suc (suc (suc (suc zero)))))))))) = count_alike f.segments g.segments
  contents_alike f g (suc (suc (suc (suc (suc (suc (suc (suc (suc (suc (suc zero))))))))))) = paired_alike f.functions g.functions code_alike
  contents_alike f g (suc (suc (suc (suc (suc (suc (suc (suc (suc (suc (suc (suc zero)))))))))))) = paired_alike f.segments g.segments (segment_alike segments.Data)
  contents_alike f g _ = λ a j b k h i. absurd h

  section_alike : (f g : ModuleCounts) (rank : ℕ) → Meets (Section loose p f rank) (Section loose p g rank) Done
  section_alike f g rank =
      then_meets Done Done (byte_alike (id_at rank) None) (λ d. number_alike nothing_at (λ n. Sized loose n (Contents loose p f rank)) (λ n. Sized loose n (Contents loose p g rank)) (λ n. sized_meets Done n n (contents_alike f g rank)))

custom_alike : Alike (Custom loose)
custom_alike =
    let F : ℕ → MarkedForm = λ n. Filled loose n (Name loose (λ text. None)) in
    then_alike (byte_alike 0 None) (number_alike nothing_at F F (λ n. filled_alike n (name_alike (λ text. None))))

-- As long as both lists of bytes agree, so do the marks; the one may go on where the other ends.
abbrev pub Agree : List ℕ → Marks → List ℕ → Marks → Type 0
Agree [] j b k = Unit {0}
Agree (c ∷ a) j [] k = Unit {0}
Agree (c ∷ a) [] (d ∷ b) k = ⊥
Agree (c ∷ a) (m ∷ j) (d ∷ b) [] = ⊥
Agree (c ∷ a) (m ∷ j) (d ∷ b) (n ∷ k) = c ≡ d → (m ≡ n) × Agree a j b k

agree_then : (D : Type 0) (a : List ℕ) (j : Marks) (b : List ℕ) (k : Marks) (a' : List ℕ) (j' : Marks) (b' : List ℕ) (k' : Marks) → Meet D a j b k → (D → Agree a' j' b' k')
    → Agree (a ++ a') (j ++ j') (b ++ b') (k ++ k')
agree_then D [] [] [] [] a' j' b' k' h f = f h
agree_then D (c ∷ a) (m ∷ j) (d ∷ b) (n ∷ k) a' j' b' k' h f = λ e. let r = h e in (r.0, agree_then D a j b k a' j' b' k' r.1 f)
agree_then D _ _ _ _ a' j' b' k' h f = absurd h

agree_at : {a a' : List ℕ} {j j' : Marks} {b b' : List ℕ} {k k' : Marks} → a ≡ a' → j ≡ j' → b ≡ b' → k ≡ k' → Agree a' j' b' k' → Agree a j b k
agree_at {a = a} {a' = a'} {j = j} {j' = j'} {b = b} {b' = b'} {k = k} {k' = k'} p q r s h =
    subst (λ y. Agree y j b k) (sym p) (subst (λ y. Agree a' y b k) (sym q) (subst (λ y. Agree a' j' y k) (sym r) (subst (λ y. Agree a' j' b' y) (sym s) h)))

agree_end : (a : List ℕ) (j : Marks) (b : List ℕ) (k : Marks) → b ≡ [] → Agree a j b k
agree_end [] j b k e = tt
agree_end (c ∷ a) j [] k e = tt
agree_end (c ∷ a) j (d ∷ b) k e = cc

same_or : (x y : ℕ) → (x ≡ y) ⊎ (x ≡ y → ⊥)
same_or x y = (elim (nat_eq x y) as (λ v. nat_eq x y ≡ v → (x ≡ y) ⊎ (x ≡ y → ⊥)) [
  | true ↦ λ e. inl (eqb-true x y e)
  | false ↦ λ e. inr (eqb-false x y e)
]) refl

module _ (p : Profile) where
  -- so many sections in all, custom ones too, of which the others have ranks from one on
  abbrev Tails : ℕ → ℕ → MarkedForm
  Tails zero id b k = Empty b k
  Tails (suc n) id b k = Then (Custom loose) (Tails n id) b k ⊎ ((x : ℕ) × (f : ModuleCounts) × (id ≤ x) × Then (Section loose p f x) (Tails n (suc x)) b k)

  abbrev Tail : ℕ → MarkedForm
  Tail id b k = (n : ℕ) × Tails n id b k

  tails_from : (n id id' : ℕ) → id ≤ id' → (b : List ℕ) (k : Marks) → Tails n id' b k → Tails n id b k
  tails_from zero id id' l b k h = h
  tails_from (suc n) id id' l b k (inl h) =
      inl (record { front = h.front; back = h.back; front_marks = h.front_marks; back_marks = h.back_marks; bytes = h.bytes; marks = h.marks; first = h.first; second = tails_from n id id' l h.back h.back_marks h.second })
  tails_from (suc n) id id' l b k (inr (x, f, m, h)) = inr (x, f, (omega arith), h)

  after_customs : (n id : ℕ) (a : List ℕ) (j : Marks) → Times n (Custom loose) a j → (b : List ℕ) (k : Marks) → Tail id b k → Tail id (a ++ b) (j ++ k)
  after_customs zero id a j h b k t = subst (λ y. Tail id y (j ++ k)) (sym (ap (λ y. y ++ b) h.0)) (subst (λ y. Tail id b y) (sym (ap (λ y. y ++ k) h.1)) t)
  after_customs (suc n) id a j h b k t =
      let r = after_customs n id h.back h.back_marks h.second b k t in (
        suc r.0,
        inl (record {
          front = h.front;
          back = h.back ++ b;
          front_marks = h.front_marks;
          back_marks = h.back_marks ++ k;
          bytes = ap (λ y. y ++ b) h.bytes ∙ append_assoc h.front h.back b;
          marks = ap (λ y. y ++ k) h.marks ∙ append_assoc h.front_marks h.back_marks k;
          first = h.first;
          second = r.1;
        }),
      )

  after_section : (f : ModuleCounts) (id : ℕ) (a : List ℕ) (j : Marks) → Optional loose p f id a j → (b : List ℕ) (k : Marks) → Tail (suc id) b k → Tail id (a ++ b) (j ++ k)
  after_section f id a j (inl h) b k t = (suc t.0, inr (id, f, (omega arith), record { front = a; back = b; front_marks = j; back_marks = k; bytes = refl; marks = refl; first = h.1; second = t.1 }))
  after_section f id a j (inr h) b k t =
      let low : id ≤ suc id = omega arith in
      subst (λ y. Tail id y (j ++ k)) (sym (ap (λ y. y ++ b) h.1.0)) (subst (λ y. Tail id b y) (sym (ap (λ y. y ++ k) h.1.1)) (t.0, tails_from t.0 id (suc id) low b k t.1))

  tail_of_chain : (f : ModuleCounts) (count id : ℕ) (b : List ℕ) (k : Marks) → Chain loose p f count id b k → Tail id b k
  tail_of_chain f zero id b k h =
      subst (λ y. Tail id y k) (append-nil b) (subst (λ y. Tail id (b ++ []) y) (append-nil k) (after_customs h.0 id b k h.1 [] [] (0, (refl, refl))))
  tail_of_chain f (suc count) id b k h =
      let s = h.second in
      let rest = tail_of_chain f count (suc id) s.back s.back_marks s.second in
      let section : Tail id h.back h.back_marks = subst (λ y. Tail id y h.back_marks) (sym s.bytes) (subst (λ y. Tail id (s.front ++ s.back) y) (sym s.marks) (after_section f id s.front s.front_marks s.first s.back s.back_marks rest)) in
      subst (λ y. Tail id y k) (sym h.bytes) (subst (λ y. Tail id (h.front ++ h.back) y) (sym h.marks) (after_customs h.first.0 id h.front h.front_marks h.first.1 h.back h.back_marks section))

  -- the first byte of a section, of which nothing is said
  begun : (id : ℕ) (F : ℕ → MarkedForm) (Q : MarkedForm) (b : List ℕ) (k : Marks) → Then (Then (MarkedByte id None) (MarkedNumber nothing_at F)) Q b k → (rest : List ℕ) × (later : Marks) × (b ≡ id ∷ rest) × (k ≡ outside_mark None ∷ later)
  begun id F Q b k h =
      let s = h.first in (
        s.back ++ h.back,
        s.back_marks ++ h.back_marks,
        h.bytes ∙ ap (λ y. y ++ h.back) (s.bytes ∙ ap (λ y. y ++ s.back) s.first.0),
        h.marks ∙ ap (λ y. y ++ h.back_marks) (s.marks ∙ ap (λ y. y ++ s.back_marks) s.first.1),
      )

  other_sections : (x y : ℕ) (F G : ℕ → MarkedForm) (P Q : MarkedForm) → (x ≡ y → ⊥) → (a : List ℕ) (j : Marks) (b : List ℕ) (k : Marks)
      → Then (Then (MarkedByte x None) (MarkedNumber nothing_at F)) P a j → Then (Then (MarkedByte y None) (MarkedNumber nothing_at G)) Q b k → Agree a j b k
  other_sections x y F G P Q n a j b k h i =
      let s = begun x F P a j h in
      let t = begun y G Q b k i in
      agree_at s.2 s.3 t.2 t.3 (λ e. absurd (n e))

  tails_agree : (n m id : ℕ) → 1 ≤ id → (a : List ℕ) (j : Marks) (b : List ℕ) (k : Marks) → Tails n id a j → Tails m id b k → Agree a j b k
  tails_agree zero m id low a j b k h i = agree_at h.0 refl refl refl tt
  tails_agree (suc n) zero id low a j b k h i = agree_end a j b k i.0
  tails_agree (suc n) (suc m) id low a j b k (inl h) (inl i) =
      agree_at h.bytes h.marks i.bytes i.marks
      (agree_then Done h.front h.front_marks i.front i.front_marks h.back h.back_marks i.back i.back_marks (custom_alike h.front h.front_marks i.front i.front_marks h.first i.first)
      (λ d. tails_agree n m id low h.back h.back_marks i.back i.back_marks h.second i.second))
  tails_agree (suc n) (suc m) id low a j b k (inl h) (inr (x, f, l, i)) =
      other_sections 0 (id_at x) (λ n. Filled loose n (Name loose (λ text. None))) (λ n. Sized loose n (Contents loose p f x)) (Tails n id) (Tails m (suc x)) (λ e. let z : 0 ≡ x = one_rank 0 x e in omega (arith, z, l, low)) a j b k h i
  tails_agree (suc n) (suc m) id low a j b k (inr (x, f, l, h)) (inl i) =
      other_sections (id_at x) 0 (λ n. Sized loose n (Contents loose p f x)) (λ n. Filled loose n (Name loose (λ text. None))) (Tails n (suc x)) (Tails m id) (λ e. let z : x ≡ 0 = one_rank x 0 e in omega (arith, z, l, low)) a j b k h i
  tails_agree (suc n) (suc m) id low a j b k (inr (x, f, l, h)) (inr (y, g, l', i)) =
      elim (same_or x y) [
        | inl e ↦
            let i' : Then (Section loose p g x) (Tails m (suc x)) b k = subst (λ z. Then (Section loose p g z) (Tails m (suc z)) b k) (sym e) i in
            let low' : 1 ≤ suc x = omega arith in
            agree_at h.bytes h.marks i'.bytes i'.marks
            (agree_then Done h.front h.front_marks i'.front i'.front_marks h.back h.back_marks i'.back i'.back_marks (section_alike p f g x h.front h.front_marks i'.front i'.front_marks h.first i'.first)
            (λ d. tails_agree n m (suc x) low' h.back h.back_marks i'.back i'.back_marks h.second i'.second))
        | inr ne ↦ other_sections (id_at x) (id_at y) (λ n. Sized loose n (Contents loose p f x)) (λ n. Sized loose n (Contents loose p g y)) (Tails n (suc x)) (Tails m (suc y)) (λ e. ne (one_rank x y e)) a j b k h i
      ]

  pub modules_agree : (a : List ℕ) (j : Marks) (b : List ℕ) (k : Marks) → ModuleForm loose p a j → ModuleForm loose p b k → Agree a j b k
  modules_agree a j b k (f, h) (g, i) =
      let t = tail_of_chain f 12 1 h.back h.back_marks h.second in
      let u = tail_of_chain g 12 1 i.back i.back_marks i.second in
      let low : 1 ≤ 1 = omega arith in
      agree_at h.bytes h.marks i.bytes i.marks
      (agree_then Done h.front h.front_marks i.front i.front_marks h.back h.back_marks i.back i.back_marks (literal_alike header h.front h.front_marks i.front i.front_marks h.first i.first)
      (λ d. tails_agree t.0 u.0 1 low h.back h.back_marks i.back i.back_marks t.1 u.1))

-- what is said of the bytes that both begin with
same_front : (b u v : List ℕ) (j k s t : Marks) → length b ≡ length j → length b ≡ length k → Agree (b ++ u) (j ++ s) (b ++ v) (k ++ t) → j ≡ k
same_front [] u v [] [] s t l m h = refl
same_front [] u v [] (n ∷ k) s t l m h = cc
same_front [] u v (n ∷ j) k s t l m h = cc
same_front (c ∷ b) u v [] k s t l m h = cc
same_front (c ∷ b) u v (n ∷ j) [] s t l m h = cc
same_front (c ∷ b) u v (n ∷ j) (o ∷ k) s t l m h = let r = h refl in let rest : j ≡ k = same_front b u v j k s t (cc) (cc) r.1 in cc (r.0, rest)

-- bytes are a front in one way
pub one_front : (p : Profile) (b : List ℕ) (j k : Marks) → IsFront p b j → IsFront p b k → j ≡ k
one_front p b j k h i =
    same_front b h.rest i.rest j k h.rest_marks i.rest_marks h.same i.same
    (modules_agree p (b ++ h.rest) (j ++ h.rest_marks) (b ++ i.rest) (k ++ i.rest_marks) h.whole i.whole)
