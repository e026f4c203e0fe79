-- A property of marks holds for a whole module, whatever is demanded of sizes and names, if it holds for each
-- of these: no marks, marks one after another, bytes with a single item, and some rules of the flat grammar.
use Rattle.std.proofs.Common.{◌≡◌, ℕ, zero, suc, List, [], ◌∷◌, ◌++◌, Option, Some, None, length, refl, sym, subst, inl, inr}
use Rattle.std.proofs.Common.{Bool, true, false}
use Rattle.wm_syntax.specs.Profiles.{has}
use Rattle.wm_syntax.specs.declared.profile.Feature.TheVariants.{BulkMemory}
use Rattle.wm_machine.specs.declared.machine.member.SegmentKind.{SegmentKind}
use Rattle.wm_machine.specs.declared.machine.member.SegmentKind.TheVariants as of_kind
use Rattle.wm_machine.specs.Grammar.{KindedList, SegmentList, SegmentRest, active_item, passive_item, segment_item}
use Rattle.wm_syntax.specs.declared.instructions.Op.{Op}
use Rattle.wm_syntax.specs.declared.profile.Profile.{Profile}
use Rattle.wm_syntax.specs.Types.{SpellsU32}
use Rattle.wm_syntax.specs.Encodings.{SpellsOp}
use Rattle.wm_syntax.specs.Spelling.{Form}
use Rattle.wm_machine.specs.Items.{Item, new_type, param, one_result, import_module, import_name, import_desc, function, table, memory, global, const_op, export_name, start, element_function, data_count, body, locals, body_op, data_byte, Marks}
use Rattle.wm_machine.specs.Sections.{header}
use Rattle.wm_machine.specs.MarkedForms.{MarkedForm, Empty, MarkedByte, Then, Times, Leaf, MarkedNumber, Vector, Index, Name, nothing_at, marks_ending, name_marks}
use Rattle.wm_machine.specs.Grammar.{FunctionType, ImportForm, EachOp, Expression, Global, ExportForm, Code, ModuleCounts, SegmentCount, SegmentForm, Paired, Contents, Section, Custom, Customs, Optional, Chain, ModuleForm, id_at}

-- an item that is complete at a byte outside names and code entries, or none
abbrev pub IsPlain : Option Item → Type 0
IsPlain (Some (import_module text)) = ⊥
IsPlain (Some (import_name text)) = ⊥
IsPlain (Some (export_name text)) = ⊥
IsPlain (Some body) = ⊥
IsPlain (Some (locals n t)) = ⊥
IsPlain (Some (body_op o)) = ⊥
IsPlain _ = Unit {0}

-- one that is in no function type and no constant either
abbrev pub IsAlone : Option Item → Type 0
IsAlone (Some (param t)) = ⊥
IsAlone (Some (one_result t)) = ⊥
IsAlone (Some (const_op o)) = ⊥
IsAlone x = IsPlain x

-- an item that this name is, or none
abbrev pub IsNamed : List ℕ → Option Item → Type 0
IsNamed text None = Unit {0}
IsNamed text (Some (import_module t)) = t ≡ text
IsNamed text (Some (import_name t)) = t ≡ text
IsNamed text (Some (export_name t)) = t ≡ text
IsNamed text (Some _) = ⊥

-- it is true of marks with such an item at the last
pub record Leaves (T : Marks → Type 0) (Is : Option Item → Type 0) : Type 0 where
  pub none : T []
  pub both : (a b : Marks) → T a → T b → T (a ++ b)
  pub nothing : Is None
  pub plain : (x : Option Item) (b : List ℕ) → Is x → T (marks_ending x b)

abbrev pub Has : (Marks → Type 0) → MarkedForm → Type 0
Has T P = (b : List ℕ) (k : Marks) → P b k → T k

module _ {T : Marks → Type 0} {Is : Option Item → Type 0} (l : Leaves T Is) where
  has_empty : Has T Empty
  has_empty b k h = subst T (sym h.1) l.none

  pub has_byte : (c : ℕ) (x : Option Item) → Is x → Has T (MarkedByte c x)
  has_byte c x i b k h = subst T (sym h.1) (l.plain x (c ∷ []) i)

  pub has_then : {P Q : MarkedForm} → Has T P → Has T Q → Has T (Then P Q)
  has_then f g b k h = subst T (sym h.marks) (l.both h.front_marks h.back_marks (f h.front h.front_marks h.first) (g h.back h.back_marks h.second))

  pub has_times : {P : MarkedForm} (n : ℕ) → Has T P → Has T (Times n P)
  has_times zero f = has_empty
  has_times (suc n) f = has_then f (has_times n f)

  pub has_leaf : {X : Type 0} (V : X → Form ℕ) (part : X → Item) → ((v : X) → Is (Some (part v))) → Has T (Leaf V part)
  has_leaf V part i b k h = subst T (sym h.2) (l.plain (Some (part h.0)) b (i h.0))

  pub has_number : (x : ℕ → Option Item) (F : ℕ → MarkedForm) → ((n : ℕ) → Is (x n)) → ((n : ℕ) → Has T (F n)) → Has T (MarkedNumber x F)
  has_number x F i f b k h = subst T (sym h.marks) (l.both (marks_ending (x h.n) h.front) h.back_marks (l.plain (x h.n) h.front (i h.n)) (f h.n h.back h.back_marks h.rest))

  pub has_vector : {P : MarkedForm} → Has T P → Has T (Vector P)
  has_vector {P} f = has_number nothing_at (λ n. Times n P) (λ n. l.nothing) (λ n. has_times n f)

  pub has_index : (part : ℕ → Item) → ((n : ℕ) → Is (Some (part n))) → Has T (Index part)
  has_index part i = has_number (λ n. Some (part n)) (λ n. Empty) i (λ n. has_empty)

-- with the members in which an item stands on one before it
pub record PassesMembers (demanded : Type 0) (p : Profile) (T : Marks → Type 0) : Type 0 where
  pub leaves : Leaves T IsAlone
  pub named : (x : Option Item) (front text : List ℕ) → IsNamed text x → SpellsU32 (length text) front → T (name_marks x front text)
  pub types : Has T (FunctionType p)
  pub globals : Has T (Global p)
  pub elements : Has T (SegmentForm p of_kind.Element)
  pub codes : Has T (Code demanded p)
  pub segments : Has T (SegmentForm p of_kind.Data)

module _ (demanded : Type 0) (p : Profile) (T : Marks → Type 0) (t : PassesMembers demanded p T) where
  has_name : (x : List ℕ → Option Item) → ((text : List ℕ) → IsNamed text (x text)) → Has T (Name demanded x)
  has_name x i b k h = subst T (sym h.marks) (t.named (x h.text) h.front h.text (i h.text) h.number)

  has_paired : {P : MarkedForm} (f : ℕ) → Has T P → Has T (Paired demanded f P)
  has_paired {P} f g = has_number t.leaves nothing_at (λ n b k. (demanded → n ≡ f) × Times n P b k) (λ n. tt) (λ n b k h. has_times t.leaves n g b k h.1)

  has_import : Has T (ImportForm demanded p)
  has_import = has_then t.leaves (has_name _ (λ s. refl)) (has_then t.leaves (has_name _ (λ s. refl)) (has_leaf t.leaves _ import_desc (λ v. tt)))

  has_export : Has T (ExportForm demanded)
  has_export = has_then t.leaves (has_name _ (λ s. refl)) (has_leaf t.leaves _ _ (λ v. tt))

  has_count : (n : ℕ) → Has T (SegmentCount demanded n)
  has_count n = has_number t.leaves (λ c. Some (data_count c)) (λ c b k. (demanded → c ≡ n) × Empty b k) (λ c. tt) (λ c b k h. has_empty t.leaves b k h.1)

  has_contents : (f : ModuleCounts) (rank : ℕ) → Has T (Contents demanded p f rank)
  has_contents f (suc zero) = has_vector t.leaves t.types
  has_contents f (suc (suc zero)) = has_vector t.leaves has_import
  has_contents f (suc (suc (suc zero))) = has_paired f.functions (has_index t.leaves function (λ n. tt))
  has_contents f (suc (suc (suc (suc zero)))) = has_vector t.leaves (has_leaf t.leaves _ table (λ v. tt))
  has_contents f (suc (suc (suc (suc (suc zero))))) = has_vector t.leaves (has_leaf t.leaves _ memory (λ v. tt))
  has_contents f (suc (suc (suc (suc (suc (suc zero)))))) = has_vector t.leaves t.globals
  has_contents f (suc (suc (suc (suc (suc (suc (suc zero))))))) = has_vector t.leaves has_export
  has_contents f (suc (suc (suc (suc (suc (suc (suc (suc zero)))))))) = has_index t.leaves start (λ n. tt)
  has_contents f (suc (suc (suc (suc (suc (suc (suc (suc (suc zero))))))))) = has_vector t.leaves t.elements
  has_contents f (suc (suc (suc (suc (suc (suc (suc (suc (suc (suc zero)))))))))) = has_count f.segments
  has_contents f (suc (suc (suc (suc (suc (suc (suc (suc (suc (suc (suc zero))))))))))) = has_paired f.functions t.codes
  has_contents f (suc (suc (suc (suc (suc (suc (suc (suc (suc (suc (suc (suc zero)))))))))))) = has_paired f.segments t.segments
  has_contents f _ = λ b k h. absurd h

  has_section : (f : ModuleCounts) (rank : ℕ) → Has T (Section demanded p f rank)
  has_section f rank = has_then t.leaves (has_byte t.leaves (id_at rank) None tt) (has_number t.leaves nothing_at _ (λ n. tt) (λ n b k h. has_contents f rank b k h.1))

  has_custom : Has T (Custom demanded)
  has_custom = has_then t.leaves (has_byte t.leaves 0 None tt) (has_number t.leaves nothing_at _ (λ n. tt) (λ n b k h.
      subst T (sym h.marks) (t.leaves.both h.front_marks (marks_ending None h.back) (has_name (λ text. None) (λ s. tt) h.front h.front_marks h.first) (t.leaves.plain None h.back tt))))

  has_customs : Has T (Customs demanded)
  has_customs b k h = has_times t.leaves h.0 has_custom b k h.1

  has_optional : (f : ModuleCounts) (rank : ℕ) → Has T (Optional demanded p f rank)
  has_optional f rank b k h = elim h [ inl s ↦ has_section f rank b k s.1 | inr e ↦ has_empty t.leaves b k e.1 ]

  has_chain : (f : ModuleCounts) (count rank : ℕ) → Has T (Chain demanded p f count rank)
  has_chain f zero rank = has_customs
  has_chain f (suc count) rank = has_then t.leaves has_customs (has_then t.leaves (has_optional f rank) (has_chain f count (suc rank)))

  pub has_members : Has T (ModuleForm demanded p)
  has_members b k h = has_then t.leaves (λ c m e. subst T (sym e.1) (t.leaves.plain None header tt)) (has_chain h.0 12 1) b k h.1

-- where each item outside names and code entries stands by itself
pub record Passes (demanded : Type 0) (p : Profile) (T : Marks → Type 0) : Type 0 where
  pub none : T []
  pub both : (a b : Marks) → T a → T b → T (a ++ b)
  pub plain : (x : Option Item) (b : List ℕ) → IsPlain x → T (marks_ending x b)
  pub named : (x : Option Item) (front text : List ℕ) → IsNamed text x → SpellsU32 (length text) front → T (name_marks x front text)
  pub code : Has T (Code demanded p)

alone_plain : (x : Option Item) → IsAlone x → IsPlain x
alone_plain (Some (param t)) i = tt
alone_plain (Some (one_result t)) i = tt
alone_plain (Some (const_op o)) i = tt
alone_plain x i = i

module _ (demanded : Type 0) (p : Profile) (T : Marks → Type 0) (t : Passes demanded p T) where
  plain_leaves : Leaves T IsPlain
  plain_leaves = record { none = t.none; both = t.both; nothing = tt; plain = t.plain }

  has_ops : (ops : List Op) → Has T (EachOp p const_op ops)
  has_ops [] = has_empty plain_leaves
  has_ops (o ∷ ops) = has_then plain_leaves {P = λ b k. SpellsOp p o b × (k ≡ marks_ending (Some (const_op o)) b)} (λ b k h. subst T (sym h.1) (t.plain (Some (const_op o)) b tt)) (has_ops ops)

  has_expression : Has T (Expression p const_op)
  has_expression b k h = has_ops h.0 b k h.3

  -- a segment
  has_list : (of : SegmentKind) → Has T (SegmentList of)
  has_list of_kind.Element = has_vector plain_leaves (has_index plain_leaves element_function (λ n. tt))
  has_list of_kind.Data = has_vector plain_leaves (has_leaf plain_leaves _ data_byte (λ v. tt))

  has_kinded : (of : SegmentKind) → Has T (KindedList of)
  has_kinded of_kind.Element = has_then plain_leaves (has_byte plain_leaves 0x00 None tt) (has_list of_kind.Element)
  has_kinded of_kind.Data = has_list of_kind.Data

  active_plain : (of : SegmentKind) (n : ℕ) → IsPlain (Some (active_item of n))
  active_plain of_kind.Element n = tt
  active_plain of_kind.Data n = tt

  passive_plain : (of : SegmentKind) → IsPlain (Some (passive_item of))
  passive_plain of_kind.Element = tt
  passive_plain of_kind.Data = tt

  front_plain : (flagged : Bool) (of : SegmentKind) (n : ℕ) → IsPlain (segment_item flagged of n)
  front_plain false of n = active_plain of n
  front_plain true of zero = active_plain of 0
  front_plain true of (suc zero) = passive_plain of
  front_plain true of (suc (suc n)) = tt

  has_rest : (flagged : Bool) (of : SegmentKind) (n : ℕ) → Has T (SegmentRest p flagged of n)
  has_rest false of n = has_then plain_leaves has_expression (has_list of)
  has_rest true of zero = has_then plain_leaves has_expression (has_list of)
  has_rest true of (suc zero) = has_kinded of
  has_rest true of (suc (suc zero)) = has_then plain_leaves (has_index plain_leaves (active_item of) (active_plain of)) (has_then plain_leaves has_expression (has_kinded of))
  has_rest true of (suc (suc (suc n))) = λ b k h. absurd h

  has_segment : (of : SegmentKind) → Has T (SegmentForm p of)
  has_segment of = has_number plain_leaves (segment_item (has p BulkMemory) of) (SegmentRest p (has p BulkMemory) of) (front_plain (has p BulkMemory) of) (has_rest (has p BulkMemory) of)

  members : PassesMembers demanded p T
  members = record {
    leaves = record { none = t.none; both = t.both; nothing = tt; plain = λ x b i. t.plain x b (alone_plain x i) };
    named = t.named;
    types = has_then plain_leaves (has_byte plain_leaves 0x60 (Some new_type) tt) (has_then plain_leaves (has_vector plain_leaves (has_leaf plain_leaves _ param (λ v. tt)))
        (has_number plain_leaves _ _ (λ n. tt) (λ n. has_times plain_leaves n (has_leaf plain_leaves _ one_result (λ v. tt)))));
    globals = has_then plain_leaves (has_leaf plain_leaves _ global (λ v. tt)) has_expression;
    elements = has_segment of_kind.Element;
    codes = t.code;
    segments = has_segment of_kind.Data;
  }

  pub has_module : Has T (ModuleForm demanded p)
  has_module = has_members demanded p T members
