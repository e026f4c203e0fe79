-- No bytes spell two modules.
use Rattle.std.proofs.Common.{Bool, ℕ, suc, ◌≡◌, ◌≤◌, ◌<◌, List, [], ◌∷◌, ◌++◌, ◌⊎◌, Option, Some, None, true, false, length, map, refl, sym, ◌∙◌, ap, subst, append_assoc, arith, inl, inr}
use Rattle.wm_syntax.specs.declared.modules.SegmentMode.{SegmentMode}
use Rattle.wm_syntax.specs.declared.modules.SegmentMode.TheVariants.{Passive, Active}
use Rattle.std.proofs.lemmas.List.{append_cancel_left, length-map}
use Rattle.wm_syntax.specs.declared.types.ValType.{ValType}
use Rattle.wm_syntax.proofs.SameTypes.{byte_tells}
use Rattle.wm_syntax.specs.declared.modules.ImportDesc.TheVariants as desc
use Rattle.wm_syntax.specs.declared.modules.ExportKind.{ExportKind}
use Rattle.wm_syntax.specs.declared.modules.ExportKind.TheVariants as kind
use Rattle.wm_syntax.specs.Spelling.{Form, Byte, Exactly, AreBytes, Each, ◌▸◌}
use Rattle.wm_syntax.specs.Types.{SpellsU32, SpellsBytes, SpellsName, SpellsList, SpellsValType, SpellsSignature, SpellsBounds, SpellsLimits, SpellsTableType, SpellsVar, SpellsGlobalType, type_byte}
use Rattle.wm_syntax.specs.Instructions.{Instructions}
use Rattle.wm_syntax.specs.Encodings.{SpellsExpression}
use Rattle.wm_syntax.specs.Modules.{Function, Module, bodies_name_segment, constant_body, index_of}
use Rattle.wm_syntax.specs.declared.types.Const.{Const}
use Rattle.wm_syntax.proofs.Unambiguous.{same_u32}
use Rattle.wm_syntax.proofs.OneInstruction.{one_expression}
use Rattle.wm_machine.specs.Sections.{Sized, Those, Section, DataCountSection, ListSection, StartSection, Custom, Customs, SpellsCustom, header, SpellsConst, SpellsDesc, SpellsImport, SpellsGlobal, SpellsExport, SpellsElement, SpellsRun, SpellsLocals, SpellsMemory, SpellsOffset, SpellsSegment, SpellsModule, kind_byte}
use Rattle.wm_syntax.specs.declared.profile.Profile.{Profile}
use Rattle.wm_syntax.specs.Profiles.{Extends, every, has}
use Rattle.wm_syntax.specs.declared.profile.Feature.TheVariants.{Base, Floats, SignExtension, LongIndex, Saturation, Copies, BulkMemory}
use Rattle.wm_machine.specs.BetweenProfiles.{ReadSegmentsAlike}
use Rattle.wm_syntax.proofs.ProfileLaws.{every_extends}
use Rattle.wm_machine.specs.Grammar.{id_at}
use Rattle.wm_machine.proofs.Ranks.{same_rank}
use Rattle.wm_machine.proofs.Nesting.{spells_more}
use Rattle.wm_syntax.specs.Modules.{locals_of}
use Rattle.wm_machine.proofs.OneModule.{constants_same}
use Rattle.wm_machine.specs.Sections.{SpellsElements}

-- The bytes of the first form and of the second are equal, whatever follows them, and then D holds.
abbrev pub Same : Form ℕ → Form ℕ → Type 0 → Type 0
Same P Q D = (a b u v : List ℕ) → P a → Q b → a ++ u ≡ b ++ v → (a ≡ b) × D

-- no bytes spell two values, and no spelling begins another
abbrev pub Once : {X : Type 0} → (X → Form ℕ) → Type 0
Once {X} V = (x y : X) → Same (V x) (V y) (x ≡ y)

pub byte_same : (c d : ℕ) → Same (Byte c) (Byte d) (c ≡ d)
byte_same c d a b u v h k e = let same : c ≡ d = cc in (h ∙ (ap (λ x. x ∷ []) same ∙ sym k), same)

-- the one and then the other, where the second may rest on what is known of the first
pub then_same : {P Q P' Q' : Form ℕ} {D E : Type 0} → Same P P' D → (D → Same Q Q' E) → Same (P ▸ Q) (P' ▸ Q') (D × E)
then_same one two a b u v h k e =
    let whole : h.0 ++ (h.1 ++ u) ≡ k.0 ++ (k.1 ++ v) = sym (append_assoc h.0 h.1 u) ∙ (ap (λ y. y ++ u) (sym h.2) ∙ (e ∙ (ap (λ y. y ++ v) k.2 ∙ append_assoc k.0 k.1 v))) in
    let first = one h.0 k.0 (h.1 ++ u) (k.1 ++ v) h.3 k.3 whole in
    let rest : h.1 ++ u ≡ k.1 ++ v = append_cancel_left k.0 (h.1 ++ u) (k.1 ++ v) (ap (λ y. y ++ (h.1 ++ u)) (sym first.0) ∙ whole) in
    let second = two first.1 h.1 k.1 u v h.4 k.4 rest in
    (h.2 ∙ (ap (λ y. y ++ h.1) first.0 ∙ (ap (λ y. k.0 ++ y) second.0 ∙ sym k.2)), (first.1, second.1))

pub same_as : {P Q : Form ℕ} {D E : Type 0} → (D → E) → Same P Q D → Same P Q E
same_as f s a b u v h k e = let r = s a b u v h k e in (r.0, f r.1)

-- what begins with different bytes is different
pub differ : {P Q : Form ℕ} {E : Type 0} (c d : ℕ) → (c ≡ d → ⊥) → Same (Byte c ▸ P) (Byte d ▸ Q) E
differ c d n a b u v h k e =
    let heads : c ≡ d = cc (h.2, h.3, k.2, k.3, e) in
    absurd (n heads)

pub once_then : {X Y : Type 0} {V : X → Form ℕ} {W : Y → Form ℕ} → Once V → Once W → Once {X = X × Y} (λ z. V z.0 ▸ W z.1)
once_then o p z w = same_as (λ (d : (z.0 ≡ w.0) × (z.1 ≡ w.1)). pair d.0 d.1) (then_same (o z.0 w.0) (λ d. p z.1 w.1))
  where
    pair : z.0 ≡ w.0 → z.1 ≡ w.1 → z ≡ w
    pair d e = let all : (z.0, z.1) ≡ (w.0, w.1) = cc (d, e) in all

-- the same values under other names
once_as : {X Y : Type 0} {V : X → Form ℕ} (f : Y → X) (g : X → Y) → ((y : Y) → g (f y) ≡ y) → Once V → Once (λ y. V (f y))
once_as f g back o x y = same_as (λ d. sym (back x) ∙ (ap g d ∙ back y)) (o (f x) (f y))

-- lists
module _ {X : Type 0} {V : X → Form ℕ} (o : Once V) where
  each_same : (xs ys : List X) → length xs ≡ length ys → Same (Each V xs) (Each V ys) (xs ≡ ys)
  each_same [] [] l a b u v h k e = (h ∙ sym k, refl)
  each_same [] (y ∷ ys) l a b u v h k e = cc
  each_same (x ∷ xs) [] l a b u v h k e = cc
  each_same (x ∷ xs) (y ∷ ys) l a b u v h k e =
      let r = then_same (o x y) (λ d. each_same xs ys (cc)) a b u v h k e in
      (r.0, cc (r.1.0, r.1.1))

  once_list : Once (SpellsList V)
  once_list xs ys = same_as (λ d. d.1) (then_same (same_u32 (length xs) (length ys)) (λ l. each_same xs ys l))

-- as many bytes as a number says
as_long : (a b u v : List ℕ) → length a ≡ length b → a ++ u ≡ b ++ v → a ≡ b
as_long [] [] u v l e = refl
as_long [] (d ∷ b) u v l e = cc
as_long (c ∷ a) [] u v l e = cc
as_long (c ∷ a) (d ∷ b) u v l e =
    let rest : a ≡ b = as_long a b u v (cc) (cc) in
    let heads : c ≡ d = cc in
    cc (heads, rest)

once_bytes : Once SpellsBytes
once_bytes x y = same_as (λ d. d.1) (then_same (same_u32 (length x) (length y)) rest)
  where
    rest : length x ≡ length y → Same (λ b. (b ≡ x) × AreBytes x) (λ b. (b ≡ y) × AreBytes y) (x ≡ y)
    rest l a b u v h k e = let same = as_long a b u v (ap length h.0 ∙ (l ∙ sym (ap length k.0))) e in (same, sym h.0 ∙ (same ∙ k.0))

once_name : Once SpellsName
once_name x y a b u v h k e = once_bytes x y a b u v h.0 k.0 e

sized_same : {P Q : Form ℕ} → Same (Sized P) (Sized Q) ((c : List ℕ) × P c × Q c)
sized_same {P} {Q} a b u v h k e =
    let whole : h.0 ++ (h.1 ++ u) ≡ k.0 ++ (k.1 ++ v) = sym (append_assoc h.0 h.1 u) ∙ (ap (λ y. y ++ u) (sym h.2) ∙ (e ∙ (ap (λ y. y ++ v) k.2 ∙ append_assoc k.0 k.1 v))) in
    let size = same_u32 (length h.1) (length k.1) h.0 k.0 (h.1 ++ u) (k.1 ++ v) h.3 k.3 whole in
    let rest : h.1 ++ u ≡ k.1 ++ v = append_cancel_left k.0 (h.1 ++ u) (k.1 ++ v) (ap (λ y. y ++ (h.1 ++ u)) (sym size.0) ∙ whole) in
    let contents : h.1 ≡ k.1 = as_long h.1 k.1 u v size.1 rest in
    (h.2 ∙ (ap (λ y. y ++ h.1) size.0 ∙ (ap (λ y. k.0 ++ y) contents ∙ sym k.2)), (h.1, h.4, subst Q (sym contents) k.4))

-- the same bytes
at_once : {X : Type 0} {V : X → Form ℕ} → Once V → (x y : X) (b : List ℕ) → V x b → V y b → x ≡ y
at_once o x y b h k = (o x y b b [] [] h k refl).1

once_sized : {X : Type 0} {V : X → Form ℕ} → Once V → Once (λ x. Sized (V x))
once_sized o x y = same_as (λ d. at_once o x y d.0 d.1 d.2) sized_same

-- types
pub once_type : Once SpellsValType
once_type t u = same_as (byte_tells t u) (byte_same (type_byte t) (type_byte u))

-- of those values for which H holds
pub once_those : {X : Type 0} (H : X → Type 0) (V : X → Form ℕ) → Once V → Once (Those H V)
once_those H V o x y a b u v h k e = o x y a b u v h.1 k.1 e

pub tagged : {P Q : Form ℕ} {D E : Type 0} (c : ℕ) → (D → E) → Same P Q D → Same (Byte c ▸ P) (Byte c ▸ Q) E
tagged c f s = same_as (λ d. f d.1) (then_same (byte_same c c) (λ e. s))

once_signature : Once SpellsSignature
once_signature x y = tagged 0x60 (λ d. d)
    (once_as (λ f. (f.params, f.results)) (λ z. record { params = z.0; results = z.1 }) (λ f. refl) (once_then (once_list once_type) (once_list once_type)) x y)

pub once_limits : Once SpellsLimits
once_limits x y = same_as (λ d. let all : record { min = x.min; max = x.max } ≡ record { min = y.min; max = y.max } = cc (d.0, d.1) in all) (bounds x.min y.min x.max y.max)
  where
    bounds : (n m : ℕ) (i j : Option ℕ) → Same (SpellsBounds n i) (SpellsBounds m j) ((n ≡ m) × (i ≡ j))
    bounds n m None None = tagged 0x00 (λ d. (d, refl)) (same_u32 n m)
    bounds n m None (Some j) = differ 0x00 0x01 (λ e. cc)
    bounds n m (Some i) None = differ 0x01 0x00 (λ e. cc)
    bounds n m (Some i) (Some j) = tagged 0x01 (λ d. (d.0, ap Some d.1)) (then_same (same_u32 n m) (λ e. same_u32 i j))

pub once_table : Once SpellsTableType
once_table x y = tagged 0x70 (λ d. d) (once_limits x y)

once_var : Once SpellsVar
once_var false false = same_as (λ e. refl) (byte_same 0x00 0x00)
once_var false true = same_as (λ e. cc) (byte_same 0x00 0x01)
once_var true false = same_as (λ e. cc) (byte_same 0x01 0x00)
once_var true true = same_as (λ e. refl) (byte_same 0x01 0x01)

pub once_global_type : Once SpellsGlobalType
once_global_type = once_as (λ g. (g.ty, g.var)) (λ z. record { ty = z.0; var = z.1 }) (λ g. refl) (once_then once_type once_var)

-- imports and exports
pub once_desc : Once SpellsDesc
once_desc (desc.Func x) (desc.Func y) = tagged 0x00 (λ d. ap desc.Func d) (same_u32 x y)
once_desc (desc.Func x) (desc.Table y) = differ 0x00 0x01 (λ e. cc)
once_desc (desc.Func x) (desc.Memory y) = differ 0x00 0x02 (λ e. cc)
once_desc (desc.Func x) (desc.Global y) = differ 0x00 0x03 (λ e. cc)
once_desc (desc.Table x) (desc.Func y) = differ 0x01 0x00 (λ e. cc)
once_desc (desc.Table x) (desc.Table y) = tagged 0x01 (λ d. ap desc.Table d) (once_table x y)
once_desc (desc.Table x) (desc.Memory y) = differ 0x01 0x02 (λ e. cc)
once_desc (desc.Table x) (desc.Global y) = differ 0x01 0x03 (λ e. cc)
once_desc (desc.Memory x) (desc.Func y) = differ 0x02 0x00 (λ e. cc)
once_desc (desc.Memory x) (desc.Table y) = differ 0x02 0x01 (λ e. cc)
once_desc (desc.Memory x) (desc.Memory y) = tagged 0x02 (λ d. ap desc.Memory d) (once_limits x y)
once_desc (desc.Memory x) (desc.Global y) = differ 0x02 0x03 (λ e. cc)
once_desc (desc.Global x) (desc.Func y) = differ 0x03 0x00 (λ e. cc)
once_desc (desc.Global x) (desc.Table y) = differ 0x03 0x01 (λ e. cc)
once_desc (desc.Global x) (desc.Memory y) = differ 0x03 0x02 (λ e. cc)
once_desc (desc.Global x) (desc.Global y) = tagged 0x03 (λ d. ap desc.Global d) (once_global_type x y)

once_import : Once SpellsImport
once_import = once_as (λ i. (i.module_name, (i.item_name, i.desc))) (λ z. record { module_name = z.0; item_name = z.1.0; desc = z.1.1 }) (λ i. refl) (once_then once_name (once_then once_name once_desc))

kind_same : (k l : ExportKind) → kind_byte k ≡ kind_byte l → k ≡ l
kind_same kind.Func kind.Func e = refl
kind_same kind.Func _ e = cc
kind_same kind.Table kind.Table e = refl
kind_same kind.Table _ e = cc
kind_same kind.Memory kind.Memory e = refl
kind_same kind.Memory _ e = cc
kind_same kind.Global kind.Global e = refl
kind_same kind.Global _ e = cc

pub once_kind : Once (λ k. Byte (kind_byte k))
once_kind k l = same_as (kind_same k l) (byte_same (kind_byte k) (kind_byte l))

once_export : Once SpellsExport
once_export = once_as (λ e. (e.name, (e.kind, e.index))) (λ z. record { name = z.0; kind = z.1.0; index = z.1.1 }) (λ e. refl) (once_then once_name (once_then once_kind same_u32))

-- what has an expression
once_const : (p : Profile) → Once (SpellsConst p)
once_const p c d = same_as (λ e. constants_same c d (cc)) (one_expression p p (constant_body c) (constant_body d))

once_global : (p : Profile) → Once (SpellsGlobal p)
once_global p = once_as (λ g. (g.ty, g.init)) (λ z. record { ty = z.0; init = z.1 }) (λ g. refl) (once_then once_global_type (once_const p))

-- the front of a data segment
abbrev OneNumber : ℕ → ℕ → Type 0
OneNumber n m = Same (SpellsU32 n) (SpellsU32 m) (n ≡ m)

-- one number alone, and another before something
not_before : {P : Form ℕ} {E : Type 0} (n m : ℕ) → (n ≡ m → ⊥) → Same (SpellsU32 n) (SpellsU32 m ▸ P) E
not_before n m apart a b u v h k e = absurd (apart (same_u32 n m a k.0 u (k.1 ++ v) h k.3 (e ∙ (ap (λ y. y ++ v) k.2 ∙ append_assoc k.0 k.1 v))).1)

not_after : {P : Form ℕ} {E : Type 0} (n m : ℕ) → (m ≡ n → ⊥) → Same (SpellsU32 m ▸ P) (SpellsU32 n) E
not_after n m apart a b u v h k e = absurd (apart (same_u32 m n h.0 b (h.1 ++ u) v h.3 k (sym (append_assoc h.0 h.1 u) ∙ (ap (λ y. y ++ u) (sym h.2) ∙ e))).1)

-- different numbers before something
other_number : {P Q : Form ℕ} {E : Type 0} (n m : ℕ) → (n ≡ m → ⊥) → Same (SpellsU32 n ▸ P) (SpellsU32 m ▸ Q) E
other_number n m apart a b u v h k e =
    let whole : h.0 ++ (h.1 ++ u) ≡ k.0 ++ (k.1 ++ v) = sym (append_assoc h.0 h.1 u) ∙ (ap (λ y. y ++ u) (sym h.2) ∙ (e ∙ (ap (λ y. y ++ v) k.2 ∙ append_assoc k.0 k.1 v))) in
    absurd (apart (same_u32 n m h.0 k.0 (h.1 ++ u) (k.1 ++ v) h.3 k.3 whole).1)

once_memory : (flagged : Bool) → Once (SpellsMemory flagged)
once_memory false None y a b u v h k e = absurd h
once_memory false (Some x) None a b u v h k e = absurd k
once_memory false (Some x) (Some y) a b u v h k e = same_as (λ d. ap Some d) (same_u32 x y) a b u v h k e
once_memory true None None a b u v h k e = same_as (λ d. refl) (same_u32 1 1) a b u v h k e
once_memory true None (Some y) a b u v h (inl k) e = absurd (let d : 1 ≡ 0 = (same_u32 1 0 a b u v h k.1 e).1 in omega (arith, d))
once_memory true None (Some y) a b u v h (inr k) e = not_before 1 2 (λ d. omega (arith, d)) a b u v h k e
once_memory true (Some x) None a b u v (inl h) k e = absurd (let d : 0 ≡ 1 = (same_u32 0 1 a b u v h.1 k e).1 in omega (arith, d))
once_memory true (Some x) None a b u v (inr h) k e = not_after 1 2 (λ d. omega (arith, d)) a b u v h k e
once_memory true (Some x) (Some y) a b u v (inl h) (inl k) e = ((same_u32 0 0 a b u v h.1 k.1 e).0, ap Some (h.0 ∙ sym k.0))
once_memory true (Some x) (Some y) a b u v (inl h) (inr k) e = not_before 0 2 (λ d. omega (arith, d)) a b u v h.1 k e
once_memory true (Some x) (Some y) a b u v (inr h) (inl k) e = not_after 0 2 (λ d. omega (arith, d)) a b u v h k.1 e
once_memory true (Some x) (Some y) a b u v (inr h) (inr k) e = same_as (λ d. ap Some d.1) (then_same (same_u32 2 2) (λ d. same_u32 x y)) a b u v h k e

module _ (p : Profile) where
  offset_same : (d f : SegmentMode) → index_of d ≡ index_of f → Same (SpellsOffset p d) (SpellsOffset p f) (d ≡ f)
  offset_same Passive Passive i a b u v h k e = (h ∙ sym k, refl)
  offset_same Passive (Active x c) i a b u v h k e = cc
  offset_same (Active x c) Passive i a b u v h k e = cc
  offset_same (Active x c) (Active y d) i a b u v h k e = let index : x ≡ y = cc in same_as (λ r. modes x y c d index r) (once_const p c d) a b u v h k e
    where
      modes : (x y : ℕ) (c d : Const) → x ≡ y → c ≡ d → Active x c ≡ Active y d
      modes x y c d e f = cc

  module _ (d f : SegmentMode) (xs ys : List ℕ) where
    -- the offset and the functions, with their kind or without it
    plain_same : index_of d ≡ index_of f → Same (SpellsOffset p d ▸ SpellsList SpellsU32 xs) (SpellsOffset p f ▸ SpellsList SpellsU32 ys) ((d ≡ f) × (xs ≡ ys))
    plain_same i = then_same (offset_same d f i) (λ e. once_list same_u32 xs ys)

    kinded_same : index_of d ≡ index_of f → Same (SpellsOffset p d ▸ Byte 0x00 ▸ SpellsList SpellsU32 xs) (SpellsOffset p f ▸ Byte 0x00 ▸ SpellsList SpellsU32 ys) ((d ≡ f) × (xs ≡ ys))
    kinded_same i = then_same (offset_same d f i) (λ e. tagged 0x00 (λ r. r) (once_list same_u32 xs ys))

  elements_same : (flagged : Bool) (d f : SegmentMode) (xs ys : List ℕ) → Same (SpellsElements flagged (index_of d) (SpellsOffset p d) xs) (SpellsElements flagged (index_of f) (SpellsOffset p f) ys) ((d ≡ f) × (xs ≡ ys))
  elements_same false Passive f xs ys a b u v h k e = absurd h
  elements_same false (Active x c) Passive xs ys a b u v h k e = absurd k
  elements_same false (Active x c) (Active y g) xs ys a b u v h k e = same_as (λ r. r.1) (then_same (same_u32 x y) (λ i. plain_same (Active x c) (Active y g) xs ys (ap Some i))) a b u v h k e
  elements_same true Passive Passive xs ys a b u v h k e = same_as (λ r. r.1) (then_same (same_u32 1 1) (λ i. kinded_same Passive Passive xs ys refl)) a b u v h k e
  elements_same true Passive (Active y g) xs ys a b u v h (inl k) e = other_number 1 0 (λ i. omega (arith, i)) a b u v h k.1 e
  elements_same true Passive (Active y g) xs ys a b u v h (inr k) e = other_number 1 2 (λ i. omega (arith, i)) a b u v h k e
  elements_same true (Active x c) Passive xs ys a b u v (inl h) k e = other_number 0 1 (λ i. omega (arith, i)) a b u v h.1 k e
  elements_same true (Active x c) Passive xs ys a b u v (inr h) k e = other_number 2 1 (λ i. omega (arith, i)) a b u v h k e
  elements_same true (Active x c) (Active y g) xs ys a b u v (inl h) (inl k) e =
      same_as (λ r. r.1) (then_same (same_u32 0 0) (λ i. plain_same (Active x c) (Active y g) xs ys (ap Some (h.0 ∙ sym k.0)))) a b u v h.1 k.1 e
  elements_same true (Active x c) (Active y g) xs ys a b u v (inl h) (inr k) e = other_number 0 2 (λ i. omega (arith, i)) a b u v h.1 k e
  elements_same true (Active x c) (Active y g) xs ys a b u v (inr h) (inl k) e = other_number 2 0 (λ i. omega (arith, i)) a b u v h k.1 e
  elements_same true (Active x c) (Active y g) xs ys a b u v (inr h) (inr k) e =
      same_as (λ r. r.1.1) (then_same (same_u32 2 2) (λ i. then_same (same_u32 x y) (λ j. kinded_same (Active x c) (Active y g) xs ys (ap Some j)))) a b u v h k e

  once_element : Once (SpellsElement p)
  once_element d e =
      same_as (λ r. let all : record { mode = d.mode; functions = d.functions } ≡ record { mode = e.mode; functions = e.functions } = cc (r.0, r.1) in all)
      (elements_same (has p BulkMemory) d.mode e.mode d.functions e.functions)

  once_segment : Once (SpellsSegment p)
  once_segment s t =
      same_as (λ d. let all : record { mode = s.mode; bytes = s.bytes } ≡ record { mode = t.mode; bytes = t.bytes } = cc (d.1.0, d.1.1) in all)
      (then_same (once_memory (has p BulkMemory) (index_of s.mode) (index_of t.mode)) (λ i. then_same (offset_same s.mode t.mode i) (λ d. once_bytes s.bytes t.bytes)))

pub once_run : (p : Profile) → Once (SpellsRun p)
once_run p x y a b u v h k e = once_then same_u32 once_type x y a b u v h.1 k.1 e

once_locals : (p : Profile) → Once (SpellsLocals p)
once_locals p x y a b u v h k e =
    let r = once_list (once_run p) h.0 k.0 a b u v h.3 k.3 e in
    (r.0, sym h.1 ∙ (ap locals_of r.1 ∙ k.1))

-- of a function what stands in its code entry
abbrev body_of : Function → List ValType × Instructions
body_of f = (f.locals, f.body)

abbrev SpellsBody : Profile → List ValType × Instructions → Form ℕ
SpellsBody p z = Sized (SpellsLocals p z.0 ▸ SpellsExpression p z.1)

once_code : (p : Profile) → Once (SpellsBody p)
once_code p = once_sized (once_then (once_locals p) (one_expression p p))

-- Sections and what comes after them. A custom section begins with 0, and each other with its id.
abbrev BeginsWith : ℕ → List ℕ → Type 0
BeginsWith c b = (rest : List ℕ) × (b ≡ c ∷ rest)

section_begins : {P : Form ℕ} (id : ℕ) (b : List ℕ) → Section id P b → BeginsWith id b
section_begins id b h = (h.1, h.2 ∙ ap (λ y. y ++ h.1) h.3)

section_same : {P Q : Form ℕ} (id : ℕ) → Same (Section id P) (Section id Q) ((c : List ℕ) × P c × Q c)
section_same id = same_as (λ d. d.1) (then_same (byte_same id id) (λ e. sized_same))

-- A section: its bytes are none or begin with its id, and E holds for two values that the same bytes spell.
record IsSection {X : Type 0} (id : ℕ) (S : X → Form ℕ) (E : X → X → Type 0) : Type 0 where
  begins : (x : X) (b : List ℕ) → S x b → (b ≡ []) ⊎ BeginsWith id b
  missing : (x y : X) → S x [] → S y [] → E x y
  same : (x y : X) → Same (λ b. S x b × BeginsWith id b) (λ b. S y b × BeginsWith id b) (E x y)

-- the id of a section of this rank or a greater one
abbrev IdFrom : (rank id : ℕ) → Type 0
IdFrom rank id = (its : ℕ) × (rank ≤ its) × (id ≡ id_at its)

-- Sections from this rank on, in order, with custom sections: as `IsSection`, and a custom section at the front may be
-- left out.
record AreSections {X : Type 0} (rank : ℕ) (T : X → Form ℕ) (E : X → X → Type 0) : Type 0 where
  begins : (x : X) (b : List ℕ) → T x b → (b ≡ []) ⊎ ((c : ℕ) × BeginsWith c b × ((c ≡ 0) ⊎ IdFrom rank c))
  left_out : (x : X) (c : Custom) (a b : List ℕ) → SpellsCustom c a → T x (a ++ b) → T x b
  same : (x y : X) (b : List ℕ) → T x b → T y b → E x y

-- two custom sections with which the same bytes begin
custom_same : (c d : Custom) (a b u v : List ℕ) → SpellsCustom c a → SpellsCustom d b → a ++ u ≡ b ++ v → u ≡ v
custom_same c d a b u v h k e =
    let same : a ≡ b = (section_same 0 a b u v h k e).0 in
    append_cancel_left b u v (ap (λ y. y ++ u) (sym same) ∙ e)

-- the same first byte
first_same : (c d : ℕ) (a b u v : List ℕ) → BeginsWith c a → BeginsWith d b → a ++ u ≡ b ++ v → c ≡ d
first_same c d a b u v h k e = cc (h.1, k.1, e)

not_begun : (c : ℕ) (b : List ℕ) → BeginsWith c b → b ≡ [] → ⊥
not_begun c b h e = cc (h.1, e)

end_left_out : (c : Custom) (customs : List Custom) (a b : List ℕ) → SpellsCustom c a → Each SpellsCustom customs (a ++ b) → Customs b
end_left_out c [] a b h k = absurd (not_begun 0 (a ++ b) (let f = section_begins 0 a h in (f.0 ++ b, ap (λ y. y ++ b) f.1)) k)
end_left_out c (d ∷ customs) a b h k = (customs, subst (Each SpellsCustom customs) (sym (custom_same c d a k.0 b k.1 h k.3 k.2)) k.4)

customs_begin : (customs : List Custom) (b : List ℕ) → Each SpellsCustom customs b → (b ≡ []) ⊎ BeginsWith 0 b
customs_begin [] b h = inl h
customs_begin (c ∷ customs) b h = let f = section_begins 0 h.0 h.3 in inr (f.0 ++ h.1, h.2 ∙ ap (λ y. y ++ h.1) f.1)

sections_end : (rank : ℕ) → AreSections {X = Unit {0}} rank (λ x. Customs) (λ x y. Unit {0})
sections_end rank = record {
  begins = λ x b h. elim (customs_begin h.0 b h.1) [ inl e ↦ inl e | inr f ↦ inr (0, f, inl refl) ];
  left_out = λ x c a b h k. end_left_out c k.0 a b h k.1;
  same = λ x y b h k. tt;
}

module _ {X Y : Type 0} {S : X → Form ℕ} {E : X → X → Type 0} {T : Y → Form ℕ} {F : Y → Y → Type 0} (rank : ℕ) (positive : 0 < rank) (s : IsSection (id_at rank) S E) (t : AreSections (suc rank) T F) where
  abbrev id : ℕ
  id = id_at rank

  not_zero : 0 ≡ id → ⊥
  not_zero e = let z : 0 ≡ rank = same_rank 0 rank e in omega (arith, z, positive)

  not_later : (c : ℕ) → c ≡ id → IdFrom (suc rank) c → ⊥
  not_later c same l = let z : l.0 ≡ rank = same_rank l.0 rank (sym l.2 ∙ same) in let low = l.1 in omega (arith, z, low)

  from_earlier : (c : ℕ) → IdFrom (suc rank) c → IdFrom rank c
  from_earlier c l = (l.0, (let low = l.1 in omega (arith, low)), l.2)

  abbrev Bare : X × Y → Form ℕ
  Bare z = S z.0 ▸ T z.1

  abbrev Full : X × Y → Form ℕ
  Full z = Customs ▸ S z.0 ▸ T z.1

  abbrev Both : X × Y → X × Y → Type 0
  Both z w = E z.0 w.0 × F z.1 w.1

  -- where the section is left out
  rest_alone : (z : X × Y) (b : List ℕ) → (h : Bare z b) → h.0 ≡ [] → T z.1 b
  rest_alone z b h e = subst (T z.1) (sym (h.2 ∙ ap (λ y. y ++ h.1) e)) h.4

  present : (z : X × Y) (b : List ℕ) → (h : Bare z b) → BeginsWith id h.0 → BeginsWith id b
  present z b h f = (f.0 ++ h.1, h.2 ∙ ap (λ y. y ++ h.1) f.1)

  later : (y : Y) (b : List ℕ) → T y b → BeginsWith id b → ⊥
  later y b h f = elim (t.begins y b h) [
    | inl e ↦ not_begun id b f e
    | inr g ↦ (
        let same : g.0 ≡ id = first_same g.0 id b b [] [] g.1 f refl in
        elim g.2 [ inl z ↦ not_zero (sym z ∙ same) | inr l ↦ not_later g.0 same l ])
  ]

  bare_same : (z w : X × Y) (b : List ℕ) → Bare z b → Bare w b → Both z w
  bare_same z w b h k = elim (s.begins z.0 h.0 h.3) [
    | inl e ↦ elim (s.begins w.0 k.0 k.3) [
      | inl f ↦ (s.missing z.0 w.0 (subst (S z.0) e h.3) (subst (S w.0) f k.3), t.same z.1 w.1 b (rest_alone z b h e) (rest_alone w b k f))
      | inr f ↦ absurd (later z.1 b (rest_alone z b h e) (present w b k f))
    ]
    | inr e ↦ elim (s.begins w.0 k.0 k.3) [
      | inl f ↦ absurd (later w.1 b (rest_alone w b k f) (present z b h e))
      | inr f ↦ (
          let r = s.same z.0 w.0 h.0 k.0 h.1 k.1 (h.3, e) (k.3, f) (sym h.2 ∙ k.2) in
          let rest : h.1 ≡ k.1 = append_cancel_left k.0 h.1 k.1 (ap (λ y. y ++ h.1) (sym r.0) ∙ (sym h.2 ∙ k.2)) in
          (r.1, t.same z.1 w.1 h.1 h.4 (subst (T w.1) (sym rest) k.4)))
    ]
  ]

  bare_left_out : (z : X × Y) (c : Custom) (a b : List ℕ) → SpellsCustom c a → Bare z (a ++ b) → Bare z b
  bare_left_out z c a b h k = elim (s.begins z.0 k.0 k.3) [
    | inl e ↦ ([], b, refl, subst (S z.0) e k.3, t.left_out z.1 c a b h (rest_alone z (a ++ b) k e))
    | inr f ↦ absurd (not_zero (first_same 0 id a k.0 b k.1 (section_begins 0 a h) f k.2))
  ]

  full_left_out : (z : X × Y) (c : Custom) (a b : List ℕ) → SpellsCustom c a → (customs : List Custom) (f r : List ℕ) → Each SpellsCustom customs f → a ++ b ≡ f ++ r → Bare z r → Full z b
  full_left_out z c a b h [] f r g e k = ([], b, refl, ([], refl), bare_left_out z c a b h (subst (Bare z) (sym (e ∙ ap (λ y. y ++ r) g)) k))
  full_left_out z c a b h (d ∷ customs) f r g e k =
      (g.1, r, custom_same c d a g.0 b (g.1 ++ r) h g.3 (e ∙ (ap (λ y. y ++ r) g.2 ∙ append_assoc g.0 g.1 r)), (customs, g.4), k)

  bare_full : (z w : X × Y) (b : List ℕ) → Bare z b → (customs : List Custom) (f r : List ℕ) → Each SpellsCustom customs f → b ≡ f ++ r → Bare w r → Both z w
  bare_full z w b h [] f r g e k = bare_same z w b h (subst (Bare w) (sym (e ∙ ap (λ y. y ++ r) g)) k)
  bare_full z w b h (d ∷ customs) f r g e k =
      bare_full z w (g.1 ++ r) (bare_left_out z d g.0 (g.1 ++ r) g.3 (subst (Bare z) (e ∙ (ap (λ y. y ++ r) g.2 ∙ append_assoc g.0 g.1 r)) h)) customs g.1 r g.4 refl k

  full_same : (z w : X × Y) (b : List ℕ) (customs : List Custom) (f r : List ℕ) → Each SpellsCustom customs f → b ≡ f ++ r → Bare z r → Full w b → Both z w
  full_same z w b [] f r g e h k = bare_full z w b (subst (Bare z) (sym (e ∙ ap (λ y. y ++ r) g)) h) k.3.0 k.0 k.1 k.3.1 k.2 k.4
  full_same z w b (c ∷ customs) f r g e h k =
      let whole = e ∙ (ap (λ y. y ++ r) g.2 ∙ append_assoc g.0 g.1 r) in
      full_same z w (g.1 ++ r) customs g.1 r g.4 refl h (full_left_out w c g.0 (g.1 ++ r) g.3 k.3.0 k.0 k.1 k.3.1 (sym whole ∙ k.2) k.4)

  bare_begins : (z : X × Y) (b : List ℕ) → Bare z b → (b ≡ []) ⊎ ((c : ℕ) × BeginsWith c b × ((c ≡ 0) ⊎ IdFrom rank c))
  bare_begins z b h = elim (s.begins z.0 h.0 h.3) [
    | inl e ↦ elim (t.begins z.1 b (rest_alone z b h e)) [
      | inl f ↦ inl f
      | inr f ↦ inr (f.0, f.1, elim f.2 [ inl g ↦ inl g | inr g ↦ inr (from_earlier f.0 g) ])
    ]
    | inr e ↦ inr (id, present z b h e, inr (rank, (omega arith), refl))
  ]

  full_begins : (z : X × Y) (b : List ℕ) → Full z b → (b ≡ []) ⊎ ((c : ℕ) × BeginsWith c b × ((c ≡ 0) ⊎ IdFrom rank c))
  full_begins z b h = elim (customs_begin h.3.0 h.0 h.3.1) [
    | inl e ↦ bare_begins z b (subst (Bare z) (sym (h.2 ∙ ap (λ y. y ++ h.1) e)) h.4)
    | inr f ↦ inr (0, (f.0 ++ h.1, h.2 ∙ ap (λ y. y ++ h.1) f.1), inl refl)
  ]

  sections_next : AreSections rank Full Both
  sections_next = record {
    begins = full_begins;
    left_out = λ z c a b h k. full_left_out z c a b h k.3.0 k.0 k.1 k.3.1 k.2 k.4;
    same = λ z w b h k. full_same z w b h.3.0 h.0 h.1 h.3.1 h.2 h.4 k;
  }

-- a section, or no bytes
section_of : {X : Type 0} {P : X → Form ℕ} {E : X → X → Type 0} (id : ℕ) (N : X → Type 0) → ((x y : X) (c : List ℕ) → P x c → P y c → E x y)
    → ((x y : X) → N x → N y → E x y) → IsSection id (λ x b. Section id (P x) b ⊎ (N x × (b ≡ []))) E
section_of {E = E} id N exact absent = record {
  begins = λ x b h. elim h [ inl i ↦ inr (section_begins id b i) | inr e ↦ inl e.1 ];
  missing = λ x y h k. elim h [
    | inl i ↦ absurd (not_begun id [] (section_begins id [] i) refl)
    | inr e ↦ elim k [ inl i ↦ absurd (not_begun id [] (section_begins id [] i) refl) | inr f ↦ absent x y e.0 f.0 ]
  ];
  same = λ x y a b u v h k e. elim h.0 [
    | inl i ↦ elim k.0 [
      | inl j ↦ same_as (λ d. exact x y d.0 d.1 d.2) (section_same id) a b u v i j e
      | inr g ↦ absurd (not_begun id b k.1 g.1)
    ]
    | inr g ↦ absurd (not_begun id a h.1 g.1)
  ];
}

listed : {X : Type 0} {V : X → Form ℕ} (id : ℕ) → Once V → IsSection id (ListSection id V) (λ xs ys. xs ≡ ys)
listed id o = section_of id (λ xs. xs ≡ []) (λ xs ys c h k. at_once (once_list o) xs ys c h k) (λ xs ys e f. e ∙ sym f)

-- of what the section says of each member
module _ {X Y : Type 0} (V : Y → Form ℕ) (f : X → Y) where
  each_of : (xs : List X) (b : List ℕ) → Each (λ x. V (f x)) xs b → Each V (map f xs) b
  each_of [] b h = h
  each_of (x ∷ xs) b h = (h.0, h.1, h.2, h.3, each_of xs h.1 h.4)

  list_of : (xs : List X) (b : List ℕ) → SpellsList (λ x. V (f x)) xs b → SpellsList V (map f xs) b
  list_of xs b h = (h.0, h.1, h.2, subst (λ n. SpellsU32 n h.0) (sym (length-map xs f)) h.3, each_of xs h.1 h.4)

  listed_of : (id : ℕ) → Once V → IsSection id (ListSection id (λ x. V (f x))) (λ xs ys. map f xs ≡ map f ys)
  listed_of id o = section_of id (λ xs. xs ≡ []) (λ xs ys c h k. at_once (once_list o) (map f xs) (map f ys) c (list_of xs c h) (list_of ys c k)) (λ xs ys e g. ap (map f) e ∙ sym (ap (map f) g))

start_begins : (x : Option ℕ) (b : List ℕ) → StartSection x b → (b ≡ []) ⊎ BeginsWith 8 b
start_begins None b h = inl h
start_begins (Some x) b h = inr (section_begins 8 b h)

start_missing : (x y : Option ℕ) → StartSection x [] → StartSection y [] → x ≡ y
start_missing None None h k = refl
start_missing None (Some y) h k = absurd (not_begun 8 [] (section_begins 8 [] k) refl)
start_missing (Some x) y h k = absurd (not_begun 8 [] (section_begins 8 [] h) refl)

start_same : (x y : Option ℕ) → Same (λ b. StartSection x b × BeginsWith 8 b) (λ b. StartSection y b × BeginsWith 8 b) (x ≡ y)
start_same None y a b u v h k e = absurd (not_begun 8 a h.1 h.0)
start_same (Some x) None a b u v h k e = absurd (not_begun 8 b k.1 k.0)
start_same (Some x) (Some y) a b u v h k e = same_as (λ d. ap Some (at_once same_u32 x y d.0 d.1 d.2)) (section_same 8) a b u v h.0 k.0 e

start_section : IsSection 8 StartSection (λ x y. x ≡ y)
start_section = record { begins = start_begins; missing = start_missing; same = start_same }

-- the data count section, of which nothing is said
abbrev Counted : Profile → Bool × ℕ → Form ℕ
Counted p x = DataCountSection p x.0 x.1

count_begins : (p : Profile) (x : Bool × ℕ) (b : List ℕ) → Counted p x b → (b ≡ []) ⊎ BeginsWith 12 b
count_begins p x b h = elim h [ inl s ↦ inr (section_begins 12 b s.1) | inr e ↦ inl e.1 ]

count_same : (p : Profile) (x y : Bool × ℕ) → Same (λ b. Counted p x b × BeginsWith 12 b) (λ b. Counted p y b × BeginsWith 12 b) (Unit {0})
count_same p x y a b u v h k e = elim h.0 [
  | inl i ↦ elim k.0 [
    | inl j ↦ same_as (λ d. tt) (section_same 12) a b u v i.1 j.1 e
    | inr g ↦ absurd (not_begun 12 b k.1 g.1)
  ]
  | inr g ↦ absurd (not_begun 12 a h.1 g.1)
]

count_section : (p : Profile) → IsSection 12 (Counted p) (λ x y. Unit {0})
count_section p = record { begins = count_begins p; missing = λ x y h k. tt; same = count_same p }

-- a function is its type's index and what stands in its code entry
function_same : (f g : Function) → f.type_index ≡ g.type_index → body_of f ≡ body_of g → f ≡ g
function_same f g index code =
    let types : f.locals ≡ g.locals = ap (λ z. z.0) code in
    let bodies : f.body ≡ g.body = ap (λ z. z.1) code in
    let all : record { type_index = f.type_index; locals = f.locals; body = f.body } ≡ record { type_index = g.type_index; locals = g.locals; body = g.body } = cc (index, types, bodies) in
    all

functions_same : (fs gs : List Function) → map (λ f. f.type_index) fs ≡ map (λ f. f.type_index) gs → map body_of fs ≡ map body_of gs → fs ≡ gs
functions_same [] [] e d = refl
functions_same [] (g ∷ gs) e d = cc
functions_same (f ∷ fs) [] e d = cc
functions_same (f ∷ fs) (g ∷ gs) e d =
    let first : f ≡ g = function_same f g (cc) (cc) in
    let rest : fs ≡ gs = functions_same fs gs (cc) (cc) in
    cc (first, rest)

after_header : {P Q : Form ℕ} (b : List ℕ) → (Exactly header ▸ P) b → (Exactly header ▸ Q) b → (c : List ℕ) × P c × Q c
after_header {Q = Q} b h k =
    let rest : h.1 ≡ k.1 = append_cancel_left header h.1 k.1 (ap (λ y. y ++ h.1) (sym h.3) ∙ (sym h.2 ∙ (k.2 ∙ ap (λ y. y ++ k.1) k.3))) in
    (h.1, h.4, subst Q (sym rest) k.4)

-- no bytes spell two modules
one_under : (p : Profile) (m n : Module) (b : List ℕ) → SpellsModule p m b → SpellsModule p n b → m ≡ n
one_under p m n b h k =
    let chain = sections_next 1 (omega arith) (listed 1 once_signature)
    (sections_next 2 (omega arith) (listed 2 once_import)
    (sections_next 3 (omega arith) (listed_of SpellsU32 (λ f. f.type_index) 3 same_u32)
    (sections_next 4 (omega arith) (listed 4 once_table)
    (sections_next 5 (omega arith) (listed 5 once_limits)
    (sections_next 6 (omega arith) (listed 6 (once_global p))
    (sections_next 7 (omega arith) (listed 7 once_export)
    (sections_next 8 (omega arith) start_section
    (sections_next 9 (omega arith) (listed 9 (once_element p))
    (sections_next 10 (omega arith) (count_section p)
    (sections_next 11 (omega arith) (listed_of (SpellsBody p) body_of 10 (once_code p))
    (sections_next 12 (omega arith) (listed 11 (once_segment p))
    (sections_end 13)))))))))))) in
    let u = after_header b h k in
    let e = chain.same
    (m.types, (m.imports, (m.functions, (m.tables, (m.memories, (m.globals, (m.exports, (m.start, (m.elements, ((bodies_name_segment m.functions, length m.segments), (m.functions, (m.segments, tt))))))))))))
    (n.types, (n.imports, (n.functions, (n.tables, (n.memories, (n.globals, (n.exports, (n.start, (n.elements, ((bodies_name_segment n.functions, length n.segments), (n.functions, (n.segments, tt))))))))))))
    u.0 u.1 u.2 in
    let e3 = e.1.1 in
    let e6 = e3.1.1.1 in
    let e9 = e6.1.1.1 in
    let functions : m.functions ≡ n.functions = functions_same m.functions n.functions e3.0 e9.1.1.0 in
    let all : record { types = m.types; imports = m.imports; functions = m.functions; tables = m.tables; memories = m.memories; globals = m.globals; exports = m.exports; start = m.start; elements = m.elements; segments = m.segments }
    ≡ record { types = n.types; imports = n.imports; functions = n.functions; tables = n.tables; memories = n.memories; globals = n.globals; exports = n.exports; start = n.start; elements = n.elements; segments = n.segments }
    = cc (e.0, e.1.0, functions, e3.1.0, e3.1.1.0, e6.0, e6.1.0, e6.1.1.0, e9.0, e9.1.1.1.0) in
    all

-- every feature but the one that changes the front of segments
abbrev indexed : Profile
indexed = record { floats = true; sign_extension = true; long_index = true; saturation = true; copies = true; bulk_memory = false }

indexed_extends : (p : Profile) → has p BulkMemory ≡ false → Extends indexed p
indexed_extends p e Base h = refl
indexed_extends p e Floats h = refl
indexed_extends p e SignExtension h = refl
indexed_extends p e LongIndex h = refl
indexed_extends p e Saturation h = refl
indexed_extends p e Copies h = refl
indexed_extends p e BulkMemory h = sym e ∙ h

pub one_spelling : (p q : Profile) (m n : Module) (b : List ℕ) → ReadSegmentsAlike p q → SpellsModule p m b → SpellsModule q n b → m ≡ n
one_spelling p q m n b alike h k = by (has p BulkMemory) refl
  where
    by : (flagged : Bool) → has p BulkMemory ≡ flagged → m ≡ n
    by true e = one_under every m n b (spells_more p every (every_extends p) m b (inl e) (inl e) h) (spells_more q every (every_extends q) n b (inl (sym alike ∙ e)) (inl (sym alike ∙ e)) k)
    by false e = let f : has q BulkMemory ≡ false = sym alike ∙ e in
        one_under indexed m n b (spells_more p indexed (indexed_extends p e) m b (inl e) (inl e) h) (spells_more q indexed (indexed_extends q f) n b (inl f) (inl f) k)
