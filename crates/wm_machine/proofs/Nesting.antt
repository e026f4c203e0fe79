-- A module value and its flat values have the same bytes.
use Rattle.std.specs.Prelude.{IsFalse}
use Rattle.std.proofs.Common.{Bool, ℕ, zero, suc, replicate, ◌≡◌, List, [], ◌∷◌, ◌++◌, Option, Some, None, length, refl, sym, ◌∙◌, ap, subst, inl, inr, map, ◌⊎◌, true, false, IsTrue}
use Rattle.wm_machine.specs.BetweenProfiles.{FrontsAlike, ReadSegmentsAlike}
use Rattle.wm_syntax.specs.declared.modules.SegmentMode.{SegmentMode}
use Rattle.wm_syntax.specs.declared.modules.SegmentMode.TheVariants.{Passive, Active}
use Rattle.std.specs.List.{AllByRecursion, AllZip}
use Rattle.std.proofs.lemmas.Slice.Zip.{AllZip-long}
use Rattle.wm_syntax.specs.declared.types.Const.{Const}
use Rattle.wm_syntax.specs.declared.types.ValType.{ValType}
use Rattle.wm_syntax.specs.declared.instructions.Op.{Op}
use Rattle.wm_syntax.specs.declared.instructions.Op.TheVariants as op
use Rattle.wm_syntax.specs.declared.profile.Profile.{Profile}
use Rattle.wm_syntax.specs.Spelling.{Form, Exactly, Each, ◌▸◌}
use Rattle.wm_syntax.specs.Types.{SpellsU32, SpellsBytes, SpellsList, SpellsSignature, SpellsLimits, SpellsTableType, SpellsGlobalType}
use Rattle.wm_syntax.specs.Instructions.{Instructions, HasOps}
use Rattle.wm_syntax.specs.Encodings.{SpellsExpression, SpellsOp}
use Rattle.wm_syntax.specs.Modules.{Element, Function, Module, Segment, bodies_name_segment, constant, constant_body, locals_of, GlobalDef, index_of}
use Rattle.wm_syntax.specs.Profiles.{Extends, HasConst, HasFunction, HasGlobal, HasInstructions, HasSignature, HasType, IsOpOf, IsOf, has, HasMode}
use Rattle.wm_syntax.proofs.Flat.{each_append, each_one, each_split, each_only, ops_of_instructions, spelled_by_ops}
use Rattle.wm_syntax.proofs.ProfileLaws.{all_append, all_front, by_ops, type_more}
use Rattle.wm_machine.specs.Sections.{Section as SectionForm, Those, DataCountSection, ListSection, StartSection, Customs, header, SpellsImport, SpellsConst, SpellsGlobal, SpellsExport, SpellsElement, SpellsRun, SpellsCode, SpellsMemory, SpellsOffset, SpellsSegment, SpellsModule}
use Rattle.wm_machine.specs.Grammar.{HasGlobalType}
use Rattle.wm_machine.specs.Flat.{FlatModule, HasImport, FlatDataCount, SpellsOps, SpellsFlatGlobal, SpellsFlatElement, SpellsFlatCode, SpellsFlatOffset, SpellsFlatSegment, InOrder, flat_sections, SpellsFlat, constant_ops, offset_ops, IsIndexOf, IsCodeOf, IsGlobalOf, IsElementOf, IsSegmentOf, IsFlatOf}
use Rattle.wm_machine.proofs.ExpressionOps.{is_expression}
use Rattle.wm_machine.proofs.CountedSections.{counted_so}
use Rattle.wm_machine.proofs.Those.{those_from, those_to}
use Rattle.wm_syntax.specs.declared.profile.Feature.TheVariants.{BulkMemory, LongIndex}
use Rattle.wm_syntax.proofs.SpelledMore.{expression_spelled_more}
use Rattle.wm_machine.specs.Sections.{SpellsElements}

-- The bytes of a value for which G holds are those of a flat one of it, and the other way round.
record Nests {X Y : Type 0} (G : X → Type 0) (V : X → Form ℕ) (W : Y → Form ℕ) (R : X → Y → Type 0) : Type 0 where
  to : (x : X) (b : List ℕ) → G x → V x b → (y : Y) × R x y × W y b
  from : (x : X) (y : Y) (b : List ℕ) → R x y → W y b → G x × V x b

abbrev Always : {X : Type 0} → X → Type 0
Always x = Unit {0}

nests_same : {X : Type 0} (V : X → Form ℕ) → Nests Always V V (λ x y. y ≡ x)
nests_same V = record { to = λ x b g h. (x, refl, h); from = λ x y b r h. (tt, subst (λ z. V z b) r h) }

-- lists and their sections
module _ {X Y : Type 0} {G : X → Type 0} {V : X → Form ℕ} {W : Y → Form ℕ} {R : X → Y → Type 0} (n : Nests G V W R) where
  each_to : (xs : List X) (b : List ℕ) → AllByRecursion G xs → Each V xs b → (ys : List Y) × AllZip R xs ys × Each W ys b
  each_to [] b g h = ([], tt, h)
  each_to (x ∷ xs) b g h =
      let u = n.to x h.0 g.0 h.3 in
      let v = each_to xs h.1 g.1 h.4 in
      (u.0 ∷ v.0, (u.1, v.1), (h.0, h.1, h.2, u.2, v.2))

  each_from : (xs : List X) (ys : List Y) (b : List ℕ) → AllZip R xs ys → Each W ys b → AllByRecursion G xs × Each V xs b
  each_from [] [] b r h = (tt, h)
  each_from [] (y ∷ ys) b r h = absurd r
  each_from (x ∷ xs) [] b r h = absurd r
  each_from (x ∷ xs) (y ∷ ys) b r h =
      let u = n.from x y h.0 r.0 h.3 in
      let v = each_from xs ys h.1 r.1 h.4 in
      ((u.0, v.0), (h.0, h.1, h.2, u.1, v.1))

  none_of : (xs : List X) → AllZip R xs [] → xs ≡ []
  none_of [] h = refl
  none_of (x ∷ xs) h = absurd h

  nests_listed : (id : ℕ) → Nests (AllByRecursion G) (ListSection id V) (ListSection id W) (AllZip R)
  nests_listed id = record {
    to = λ xs b g h. elim h [
      | inl s ↦ (
          let i = s.4 in
          let j = i.4 in
          let v = each_to xs j.1 g j.4 in
          (v.0, v.1, inl (s.0, s.1, s.2, s.3, (i.0, i.1, i.2, i.3, (j.0, j.1, j.2, subst (λ m. SpellsU32 m j.0) (sym (AllZip-long R xs v.0 v.1)) j.3, v.2)))))
      | inr e ↦ ([], subst (λ z. AllZip R z []) (sym e.0) tt, inr (refl, e.1))
    ];
    from = λ xs ys b r h. elim h [
      | inl s ↦ (
          let i = s.4 in
          let j = i.4 in
          let v = each_from xs ys j.1 r j.4 in
          (v.0, inl (s.0, s.1, s.2, s.3, (i.0, i.1, i.2, i.3, (j.0, j.1, j.2, subst (λ m. SpellsU32 m j.0) (AllZip-long R xs ys r) j.3, v.1)))))
      | inr e ↦ (
          let none = none_of xs (subst (λ z. AllZip R xs z) e.0 r) in
          (subst (AllByRecursion G) (sym none) tt, inr (none, e.1)))
    ];
  }

all_always : {X : Type 0} (xs : List X) → AllByRecursion Always xs
all_always [] = tt
all_always (x ∷ xs) = (tt, all_always xs)

nests_list : {X Y : Type 0} {V : X → Form ℕ} {W : Y → Form ℕ} {R : X → Y → Type 0} (id : ℕ) → Nests Always V W R → Nests Always (ListSection id V) (ListSection id W) (AllZip R)
nests_list id n = record {
  to = λ xs b g h. (nests_listed n id).to xs b (all_always xs) h;
  from = λ xs ys b r h. (tt, ((nests_listed n id).from xs ys b r h).1);
}

-- a list of values, and of those for which H holds
module _ {X : Type 0} (H : X → Type 0) (V : X → Form ℕ) where
  section_to : (id : ℕ) (xs : List X) (b : List ℕ) → AllByRecursion H xs → ListSection id V xs b → ListSection id (Those H V) xs b
  section_to id xs b g h = elim h [
    | inl s ↦ (
        let i = s.4 in
        let j = i.4 in
        inl (s.0, s.1, s.2, s.3, (i.0, i.1, i.2, i.3, (j.0, j.1, j.2, j.3, those_to H V xs j.1 g j.4))))
    | inr e ↦ inr e
  ]

  section_from : (id : ℕ) (xs : List X) (b : List ℕ) → ListSection id (Those H V) xs b → AllByRecursion H xs × ListSection id V xs b
  section_from id xs b h = elim h [
    | inl s ↦ (
        let i = s.4 in
        let j = i.4 in
        let v = those_from H V xs j.1 j.4 in
        (v.0, inl (s.0, s.1, s.2, s.3, (i.0, i.1, i.2, i.3, (j.0, j.1, j.2, j.3, v.1)))))
    | inr e ↦ (subst (AllByRecursion H) (sym e.0) tt, inr e)
  ]

  nests_those : (id : ℕ) → Nests (AllByRecursion H) (ListSection id V) (ListSection id (Those H V)) (λ xs ys. ys ≡ xs)
  nests_those id = record {
    to = λ xs b g h. (xs, refl, section_to id xs b g h);
    from = λ xs ys b r h. subst (λ zs. AllByRecursion H zs × ListSection id V zs b) r (section_from id ys b h);
  }

-- one section, with what comes before it and after it
nests_next : {X Y X' Y' : Type 0} {G : X → Type 0} {V : X → Form ℕ} {W : Y → Form ℕ} {R : X → Y → Type 0}
    {G' : X' → Type 0} {V' : X' → Form ℕ} {W' : Y' → Form ℕ} {R' : X' → Y' → Type 0}
    → Nests G V W R → Nests G' V' W' R'
    → Nests {X = X × X'} {Y = Y × Y'} (λ z. G z.0 × G' z.1) (λ z. Customs ▸ V z.0 ▸ V' z.1) (λ w. Customs ▸ W w.0 ▸ W' w.1) (λ z w. R z.0 w.0 × R' z.1 w.1)
nests_next n m = record {
  to = λ z b g h.
      let i = h.4 in
      let u = n.to z.0 i.0 g.0 i.3 in
      let v = m.to z.1 i.1 g.1 i.4 in
      ((u.0, v.0), (u.1, v.1), (h.0, h.1, h.2, h.3, (i.0, i.1, i.2, u.2, v.2)));
  from = λ z w b r h.
      let i = h.4 in
      let u = n.from z.0 w.0 i.0 r.0 i.3 in
      let v = m.from z.1 w.1 i.1 r.1 i.4 in
      ((u.0, v.0), (h.0, h.1, h.2, h.3, (i.0, i.1, i.2, u.1, v.1)));
}

nests_end : Nests {X = Unit {0}} {Y = Unit {0}} Always (λ x. Customs) (λ y. Customs) (λ x y. Unit {0})
nests_end = record { to = λ x b g h. (tt, tt, h); from = λ x y b r h. (tt, h) }

-- the ops of a list of instructions, and its end
abbrev HasAllOps : Instructions → Form Op
HasAllOps s = HasOps s ▸ Exactly (op.End ∷ [])

-- a passive segment needs the feature
pub passive_needs : (flagged : Bool) (b : List ℕ) → SpellsMemory flagged None b → IsTrue flagged
passive_needs true b h = refl
passive_needs false b h = absurd h

pub passive_elements_need : (flagged : Bool) (P : Form ℕ) (xs b : List ℕ) → SpellsElements flagged None P xs b → IsTrue flagged
passive_elements_need true P xs b h = refl
passive_elements_need false P xs b h = absurd h

-- the offset of an element segment
pub offset_in : (flagged : Bool) (x : Option ℕ) (P : Form ℕ) (xs b : List ℕ) → SpellsElements flagged x P xs b → (c : List ℕ) × P c
offset_in false None P xs b h = absurd h
offset_in false (Some x) P xs b h = let i = h.4 in (i.0, i.3)
offset_in true None P xs b h = let i = h.4 in (i.0, i.3)
offset_in true (Some x) P xs b (inl z) = let i = z.1.4 in (i.0, i.3)
offset_in true (Some x) P xs b (inr h) = let i = h.4.4 in (i.0, i.3)

-- with the offset in another form
pub with_offset : (flagged : Bool) (x : Option ℕ) (P Q : Form ℕ) (xs b : List ℕ) → ((c : List ℕ) → P c → Q c) → SpellsElements flagged x P xs b → SpellsElements flagged x Q xs b
with_offset false None P Q xs b f h = h
with_offset false (Some x) P Q xs b f h = let i = h.4 in (h.0, h.1, h.2, h.3, (i.0, i.1, i.2, f i.0 i.3, i.4))
with_offset true None P Q xs b f h = let i = h.4 in (h.0, h.1, h.2, h.3, (i.0, i.1, i.2, f i.0 i.3, i.4))
with_offset true (Some x) P Q xs b f (inl z) = let h = z.1 in let i = h.4 in inl (z.0, (h.0, h.1, h.2, h.3, (i.0, i.1, i.2, f i.0 i.3, i.4)))
with_offset true (Some x) P Q xs b f (inr h) = let j = h.4 in let i = j.4 in inr (h.0, h.1, h.2, h.3, (j.0, j.1, j.2, j.3, (i.0, i.1, i.2, f i.0 i.3, i.4)))

module _ (p : Profile) where
  expression_from : (s : Instructions) (ops : List Op) (b : List ℕ) → HasAllOps s ops → Each (SpellsOp p) ops b → SpellsExpression p s b
  expression_from s ops b r h =
      let c = each_split (SpellsOp p) r.0 (op.End ∷ []) b (subst (λ o. Each (SpellsOp p) o b) (r.2 ∙ ap (λ o. r.0 ++ o) r.4) h) in
      (c.0, c.1, c.2, spelled_by_ops p s r.0 c.0 r.3 c.3, each_only (SpellsOp p) op.End c.1 c.4)

  expression_to : (s : Instructions) (b : List ℕ) → HasInstructions p s → SpellsExpression p s b → (ops : List Op) × HasAllOps s ops × SpellsOps p ops b
  expression_to s b g h =
      let o = ops_of_instructions p s h.0 h.3 in (
        o.0 ++ op.End ∷ [],
        (o.0, op.End ∷ [], refl, o.1, refl),
        (
          is_expression s o.0 o.1,
          all_append (IsOpOf p) o.0 (op.End ∷ []) ((by_ops p s o.0 o.1).0 g) (tt, tt),
          subst (Each (SpellsOp p) (o.0 ++ op.End ∷ [])) (sym h.2) (each_append (SpellsOp p) o.0 (op.End ∷ []) h.0 h.1 o.2 (each_one (SpellsOp p) op.End h.1 h.4)),
        ),
      )

  profile_from : (s : Instructions) (ops : List Op) → HasAllOps s ops → AllByRecursion (IsOpOf p) ops → HasInstructions p s
  profile_from s ops r h = (by_ops p s r.0 r.3).1 (all_front (IsOpOf p) r.0 r.1 (subst (AllByRecursion (IsOpOf p)) r.2 h))

  -- a constant's ops are its one and the end
  constant_only : (c : Const) (ops : List Op) → HasAllOps (constant_body c) ops → ops ≡ constant_ops c
  constant_only c ops (x, y, e, (u, v, f, k, l), m) = cc

  constant_to : (c : Const) (b : List ℕ) → HasConst p c → SpellsConst p c b → SpellsOps p (constant_ops c) b
  constant_to c b g h =
      let e = expression_to (constant_body c) b (tt, g) h in
      subst (λ ops. SpellsOps p ops b) (constant_only c e.0 e.1) e.2

  constant_from : (c : Const) (ops : List Op) (b : List ℕ) → ops ≡ constant_ops c → SpellsOps p ops b → SpellsConst p c b
  constant_from c ops b e h =
      let i = op.Simple (constant c) ∷ [] in
      expression_from (constant_body c) ops b (i, op.End ∷ [], e, ([], i, refl, refl, refl), refl) h.2

  -- and it is of the profile where they are
  constant_owns : (c : Const) (ops : List Op) (b : List ℕ) → ops ≡ constant_ops c → SpellsOps p ops b → HasConst p c
  constant_owns c ops b e h = (subst (AllByRecursion (IsOpOf p)) e h.1).0

  -- the members whose flat form differs
  nests_index : Nests Always (λ f. SpellsU32 f.type_index) SpellsU32 IsIndexOf
  nests_index = record { to = λ f b g h. (f.type_index, refl, h); from = λ f x b r h. (tt, subst (λ y. SpellsU32 y b) r h) }

  nests_global : Nests (HasGlobal p) (SpellsGlobal p) (SpellsFlatGlobal p) IsGlobalOf
  nests_global = record {
    to = λ g b a h. (record { ty = g.ty; init = constant_ops g.init }, (refl, refl), (h.0, h.1, h.2, (a.0, h.3), constant_to g.init h.1 a.1 h.4));
    from = λ g v b r h.
        let t = h.3 in (
          (subst (HasGlobalType p) r.0 t.0, constant_owns g.init v.init h.1 r.1 h.4),
          (h.0, h.1, h.2, subst (λ y. SpellsGlobalType y h.0) r.0 t.1, constant_from g.init v.init h.1 r.1 h.4),
        );
  }

  -- segments
  offset_to : (d : SegmentMode) (b : List ℕ) → HasMode p d → SpellsOffset p d b → SpellsFlatOffset p (index_of d) (offset_ops d) b
  offset_to Passive b a h = (refl, h)
  offset_to (Active x c) b a h = constant_to c b a h

  offset_from : (d : SegmentMode) (ops : List Op) (b : List ℕ) → ops ≡ offset_ops d → SpellsFlatOffset p (index_of d) ops b → SpellsOffset p d b
  offset_from Passive ops b e h = h.1
  offset_from (Active x c) ops b e h = constant_from c ops b e h

  mode_owns : (d : SegmentMode) (ops : List Op) (b : List ℕ) → ops ≡ offset_ops d → (index_of d ≡ None → IsTrue (has p BulkMemory)) → SpellsFlatOffset p (index_of d) ops b → HasMode p d
  mode_owns Passive ops b e f h = f refl
  mode_owns (Active x c) ops b e f h = constant_owns c ops b e h

  abbrev ElementMode : Element → Type 0
  ElementMode e = HasMode p e.mode

  nests_element : Nests ElementMode (SpellsElement p) (SpellsFlatElement p) IsElementOf
  nests_element = record {
    to = λ e b a h.
        let O : Form ℕ = SpellsOffset p e.mode in
        let F : Form ℕ = SpellsFlatOffset p (index_of e.mode) (offset_ops e.mode) in
        (record { table = index_of e.mode; offset = offset_ops e.mode; functions = e.functions }, (refl, refl, refl), with_offset (has p BulkMemory) (index_of e.mode) O F e.functions b (λ c. offset_to e.mode c a) h);
    from = λ e v b r h.
        let flagged = has p BulkMemory in
        let O : Form ℕ = SpellsOffset p e.mode in
        let F : Form ℕ = SpellsFlatOffset p (index_of e.mode) v.offset in
        let t = subst (λ y. SpellsElements flagged y (SpellsFlatOffset p y v.offset) v.functions b) r.0 h in
        let u = subst (λ y. SpellsElements flagged (index_of e.mode) F y b) r.2 t in
        let o = offset_in flagged (index_of e.mode) F e.functions b u in (
          mode_owns e.mode v.offset o.0 r.1 (λ i. passive_elements_need flagged F e.functions b (subst (λ y. SpellsElements flagged y F e.functions b) i u)) o.1,
          with_offset flagged (index_of e.mode) F O e.functions b (λ c. offset_from e.mode v.offset c r.1) u,
        );
  }

  abbrev ModeOf : Segment → Type 0
  ModeOf s = HasMode p s.mode

  nests_segment : Nests ModeOf (SpellsSegment p) (SpellsFlatSegment p) IsSegmentOf
  nests_segment = record {
    to = λ s b a h.
        let i = h.4 in
        (record { memory = index_of s.mode; offset = offset_ops s.mode; bytes = s.bytes }, (refl, refl, refl), (h.0, h.1, h.2, h.3, (i.0, i.1, i.2, offset_to s.mode i.0 a i.3, i.4)));
    from = λ s v b r h.
        let i = h.4 in
        let u = subst (λ y. SpellsMemory (has p BulkMemory) y h.0) r.0 h.3 in
        let o = subst (λ y. SpellsFlatOffset p y v.offset i.0) r.0 i.3 in (
          mode_owns s.mode v.offset i.0 r.1 (λ e. passive_needs (has p BulkMemory) h.0 (subst (λ y. SpellsMemory (has p BulkMemory) y h.0) e u)) o,
          (h.0, h.1, h.2, u, (i.0, i.1, i.2, offset_from s.mode v.offset i.0 r.1 o, subst (λ y. SpellsBytes y i.1) r.2 i.4)),
        );
  }

  -- locals have the types of their runs
  replicated : (n : ℕ) (t : ValType) → HasType p t → AllByRecursion (HasType p) (replicate n t)
  replicated zero t h = tt
  replicated (suc n) t h = (h, replicated n t h)

  locals_own : (runs : List (ℕ × ValType)) (b : List ℕ) → Each (SpellsRun p) runs b → AllByRecursion (HasType p) (locals_of runs)
  locals_own [] b h = tt
  locals_own (r ∷ runs) b h = all_append (HasType p) (replicate r.0 r.1) (locals_of runs) (replicated r.0 r.1 h.3.0) (locals_own runs h.1 h.4)

  nests_code : Nests (HasFunction p) (SpellsCode p) (SpellsFlatCode p) IsCodeOf
  nests_code = record {
    to = λ f b g h.
        let i = h.4 in
        let l = i.3 in
        let e = expression_to f.body i.1 g.1 i.4 in
        (record { runs = l.0; ops = e.0 }, (l.1, l.2, e.1), (h.0, h.1, h.2, h.3, (i.0, i.1, i.2, l.3, e.2)));
    from = λ f c b r h.
        let i = h.4 in
        let l = i.3 in (
          (subst (AllByRecursion (HasType p)) r.0 (locals_own c.runs l.1 l.4), profile_from f.body c.ops r.2 i.4.1),
          (h.0, h.1, h.2, h.3, (i.0, i.1, i.2, (c.runs, r.0, r.1, l), expression_from f.body c.ops i.1 r.2 i.4.2)),
        );
  }

  -- the number of data segments, which the data count section may give
  -- and that may be missing
  abbrev IsCountOf : Bool × ℕ → ℕ × Option ℕ → Type 0
  IsCountOf x y = (y.0 ≡ x.1) × (y.1 ≡ None → IsFalse x.0)

  nests_count : Nests {X = Bool × ℕ} {Y = ℕ × Option ℕ} Always (λ x. DataCountSection p x.0 x.1) (λ y. FlatDataCount p y.0 y.1) IsCountOf
  nests_count = record {
    to = λ x b g h. elim h [ inl s ↦ ((x.1, Some x.1), (refl, some_apart x.1 x.0), (s.0, refl, s.1)) | inr e ↦ ((x.1, None), (refl, λ n. e.0), e.1) ];
    from = λ x y b r h. (tt, count_from x.0 x.1 y.0 y.1 b r.0 r.1 h);
  }
    where
      some_apart : (n : ℕ) (named : Bool) → ◌≡◌ {A = Option ℕ} (Some n) None → IsFalse named
      some_apart n named e = cc

      count_from : (named : Bool) (n m : ℕ) (x : Option ℕ) (b : List ℕ) → m ≡ n → (x ≡ None → IsFalse named) → FlatDataCount p m x b → DataCountSection p named n b
      count_from named n m None b e i h = inr (i refl, h)
      count_from named n m (Some count) b e i h = inl (h.0, subst (λ y. SectionForm 12 (SpellsU32 y) b) (h.1 ∙ e) h.2)

  as_many : (m : Module) (v : FlatModule) → IsFlatOf m v → length v.segments ≡ length m.segments
  as_many m v r = AllZip-long IsSegmentOf m.segments v.segments r.segments

  -- the whole, after the header, section by section
  nests_module : Nests (IsOf p) (SpellsModule p) (λ v. Exactly header ▸ InOrder (flat_sections p v)) IsFlatOf
  nests_module =
      let chain = nests_next (nests_those (HasSignature p) SpellsSignature 1)
      (nests_next (nests_those (HasImport p) SpellsImport 2)
      (nests_next (nests_list 3 nests_index)
      (nests_next (nests_same (ListSection 4 SpellsTableType))
      (nests_next (nests_same (ListSection 5 SpellsLimits))
      (nests_next (nests_listed nests_global 6)
      (nests_next (nests_same (ListSection 7 SpellsExport))
      (nests_next (nests_same StartSection)
      (nests_next (nests_listed nests_element 9)
      (nests_next nests_count
      (nests_next (nests_listed nests_code 10)
      (nests_next (nests_listed nests_segment 11)
      nests_end))))))))))) in
      record {
        to = λ m b g h.
            let u = chain.to
            (m.types, (m.imports, (m.functions, (m.tables, (m.memories, (m.globals, (m.exports, (m.start, (m.elements, ((bodies_name_segment m.functions, length m.segments), (m.functions, (m.segments, tt))))))))))))
            h.1
            (g.types, (g.imports, (tt, (tt, (tt, (g.globals, (tt, (tt, (g.elements, (tt, (g.functions, (g.segments, tt))))))))))))
            h.4 in
            let v3 = u.0.1.1 in
            let v6 = v3.1.1.1 in
            let v9 = v6.1.1.1 in
            let r3 = u.1.1.1 in
            let r6 = r3.1.1.1 in
            let r9 = r6.1.1.1 in
            let v : FlatModule = record {
              types = u.0.0;
              imports = u.0.1.0;
              functions = v3.0;
              tables = v3.1.0;
              memories = v3.1.1.0;
              globals = v6.0;
              exports = v6.1.0;
              start = v6.1.1.0;
              elements = v9.0;
              data_count = v9.1.0.1;
              codes = v9.1.1.0;
              segments = v9.1.1.1.0;
            } in
            let r : IsFlatOf m v = record {
              types = u.1.0;
              imports = u.1.1.0;
              functions = r3.0;
              tables = r3.1.0;
              memories = r3.1.1.0;
              globals = r6.0;
              exports = r6.1.0;
              start = r6.1.1.0;
              elements = r9.0;
              codes = r9.1.1.0;
              segments = r9.1.1.1.0;
              count = r9.1.0.1;
            } in
            (v, r, (h.0, h.1, h.2, h.3, counted_so p v9.1.0.0 v h.1 (r9.1.0.0 ∙ sym (as_many m v r)) u.2));
        from = λ m v b r h.
            let u = chain.from
            (m.types, (m.imports, (m.functions, (m.tables, (m.memories, (m.globals, (m.exports, (m.start, (m.elements, ((bodies_name_segment m.functions, length m.segments), (m.functions, (m.segments, tt))))))))))))
            (v.types, (v.imports, (v.functions, (v.tables, (v.memories, (v.globals, (v.exports, (v.start, (v.elements, ((length v.segments, v.data_count), (v.codes, (v.segments, tt))))))))))))
            h.1
            (r.types, (r.imports, (r.functions, (r.tables, (r.memories, (r.globals, (r.exports, (r.start, (r.elements, ((as_many m v r, r.count), (r.codes, (r.segments, tt))))))))))))
            h.4 in
            let g = u.0 in
            let g3 = g.1.1 in
            let g6 = g3.1.1.1 in
            let g9 = g6.1.1.1 in (
              record { types = g.0; imports = g.1.0; functions = g9.1.1.0; globals = g6.0; elements = g9.0; segments = g9.1.1.1.0 },
              (h.0, h.1, h.2, h.3, u.1),
            );
      }

  -- as many code entries as functions
  paired : (m : Module) (v : FlatModule) → IsFlatOf m v → length v.codes ≡ length v.functions
  paired m v r = AllZip-long IsCodeOf m.functions v.codes r.codes ∙ sym (AllZip-long IsIndexOf m.functions v.functions r.functions)

  -- a module's bytes are those of a flat value of it
  pub flat_to : (m : Module) (b : List ℕ) → SpellsModule p m b → IsOf p m → (v : FlatModule) × IsFlatOf m v × SpellsFlat p v b
  flat_to m b h g = let u = nests_module.to m b g h in (u.0, u.1, (paired m u.0 u.1, u.2))

  pub flat_from : (m : Module) (v : FlatModule) (b : List ℕ) → IsFlatOf m v → SpellsFlat p v b → SpellsModule p m b × IsOf p m
  flat_from m v b r h = let u = nests_module.from m v b r h.1 in (u.1, u.0)

-- what is spelled under a profile is so under each that has as much
module _ {X : Type 0} (V W : X → Form ℕ) (more : (x : X) (b : List ℕ) → V x b → W x b) where
  pub each_more : (xs : List X) (b : List ℕ) → Each V xs b → Each W xs b
  each_more [] b h = h
  each_more (x ∷ xs) b h = (h.0, h.1, h.2, more x h.0 h.3, each_more xs h.1 h.4)

  section_more : (id : ℕ) (xs : List X) (b : List ℕ) → ListSection id V xs b → ListSection id W xs b
  section_more id xs b h = elim h [
    | inl s ↦ (
        let i = s.4 in
        let j = i.4 in
        inl (s.0, s.1, s.2, s.3, (i.0, i.1, i.2, i.3, (j.0, j.1, j.2, j.3, each_more xs j.1 j.4))))
    | inr e ↦ inr e
  ]

-- the same of values for which G holds
module _ {X : Type 0} (G : X → Type 0) (V W : X → Form ℕ) (more : (x : X) (b : List ℕ) → G x → V x b → W x b) where
  each_kept : (xs : List X) (b : List ℕ) → AllByRecursion G xs → Each V xs b → Each W xs b
  each_kept [] b g h = h
  each_kept (x ∷ xs) b g h = (h.0, h.1, h.2, more x h.0 g.0 h.3, each_kept xs h.1 g.1 h.4)

  pub section_kept : (id : ℕ) (xs : List X) (b : List ℕ) → AllByRecursion G xs → ListSection id V xs b → ListSection id W xs b
  section_kept id xs b g h = elim h [
    | inl s ↦ (
        let i = s.4 in
        let j = i.4 in
        inl (s.0, s.1, s.2, s.3, (i.0, i.1, i.2, i.3, (j.0, j.1, j.2, j.3, each_kept xs j.1 g j.4))))
    | inr e ↦ inr e
  ]

-- The front of a segment under more features: the same features, or an index 0.
pub memory_more : (b c : Bool) (x : Option ℕ) (f : List ℕ) → (IsTrue b → IsTrue c) → (b ≡ c) ⊎ (x ≡ Some 0) → SpellsMemory b x f → SpellsMemory c x f
memory_more true true x f more alike h = h
memory_more false false x f more alike h = h
memory_more true false x f more alike h = let e : false ≡ true = more refl in cc
memory_more false true x f more (inl e) h = cc
memory_more false true None f more (inr e) h = cc
memory_more false true (Some x) f more (inr e) h = let zero : x ≡ 0 = cc in inl (zero, subst (λ y. SpellsU32 y f) zero h)

pub elements_more : (b c : Bool) (x : Option ℕ) (P : Form ℕ) (xs f : List ℕ) → (IsTrue b → IsTrue c) → (b ≡ c) ⊎ (x ≡ Some 0) → SpellsElements b x P xs f → SpellsElements c x P xs f
elements_more true true x P xs f more alike h = h
elements_more false false x P xs f more alike h = h
elements_more true false x P xs f more alike h = let e : false ≡ true = more refl in cc
elements_more false true x P xs f more (inl e) h = cc
elements_more false true None P xs f more (inr e) h = cc
elements_more false true (Some x) P xs f more (inr e) h = let zero : x ≡ 0 = cc in inl (zero, subst (λ y. (SpellsU32 y ▸ P ▸ SpellsList SpellsU32 xs) f) zero h)

-- one segment and each of some
abbrev pub FrontAlike : Profile → Profile → Option ℕ → Type 0
FrontAlike p q x = ReadSegmentsAlike p q ⊎ (x ≡ Some 0)

pub fronts_alike : {X : Type 0} (p q : Profile) (index : X → Option ℕ) (xs : List X) → FrontsAlike p q (map index xs) → AllByRecursion (λ s. FrontAlike p q (index s)) xs
fronts_alike p q index [] h = tt
fronts_alike p q index (s ∷ xs) (inl e) = (inl e, fronts_alike p q index xs (inl e))
fronts_alike p q index (s ∷ xs) (inr h) = (inr h.0, fronts_alike p q index xs (inr h.1))

module _ (p q : Profile) (more : Extends q p) where
  const_more : (c : Const) (b : List ℕ) → SpellsConst p c b → SpellsConst q c b
  const_more c b h = expression_spelled_more p q (more LongIndex) (constant_body c) b h

  runs_more : (runs : List (ℕ × ValType)) (b : List ℕ) → Each (SpellsRun p) runs b → Each (SpellsRun q) runs b
  runs_more [] b h = h
  runs_more (r ∷ runs) b h = (h.0, h.1, h.2, (type_more p q more r.1 h.3.0, h.3.1), runs_more runs h.1 h.4)

  code_more : (f : Function) (b : List ℕ) → SpellsCode p f b → SpellsCode q f b
  code_more f b h =
      let i = h.4 in
      let l = i.3 in
      let j = l.3 in
      (h.0, h.1, h.2, h.3, (i.0, i.1, i.2, (l.0, l.1, l.2, (j.0, j.1, j.2, j.3, runs_more l.0 j.1 j.4)), expression_spelled_more p q (more LongIndex) f.body i.1 i.4))

  global_more : (g : GlobalDef) (b : List ℕ) → SpellsGlobal p g b → SpellsGlobal q g b
  global_more g b h = (h.0, h.1, h.2, h.3, const_more g.init h.1 h.4)

  offset_more : (d : SegmentMode) (b : List ℕ) → SpellsOffset p d b → SpellsOffset q d b
  offset_more Passive b h = h
  offset_more (Active x c) b h = const_more c b h

  element_more : (e : Element) (b : List ℕ) → FrontAlike p q (index_of e.mode) → SpellsElement p e b → SpellsElement q e b
  element_more e b g h =
      let O : Form ℕ = SpellsOffset p e.mode in
      with_offset (has q BulkMemory) (index_of e.mode) O (SpellsOffset q e.mode) e.functions b (offset_more e.mode) (elements_more (has p BulkMemory) (has q BulkMemory) (index_of e.mode) O e.functions b (more BulkMemory) g h)

  segment_more : (s : Segment) (b : List ℕ) → FrontAlike p q (index_of s.mode) → SpellsSegment p s b → SpellsSegment q s b
  segment_more s b g h = let i = h.4 in (h.0, h.1, h.2, memory_more (has p BulkMemory) (has q BulkMemory) (index_of s.mode) h.0 (more BulkMemory) g h.3, (i.0, i.1, i.2, offset_more s.mode i.0 i.3, i.4))

  count_more : (named : Bool) (n : ℕ) (b : List ℕ) → DataCountSection p named n b → DataCountSection q named n b
  count_more named n b h = elim h [ inl s ↦ inl (more BulkMemory s.0, s.1) | inr e ↦ inr e ]

  pub spells_more : (m : Module) (b : List ℕ) → FrontsAlike p q (map (λ e. index_of e.mode) m.elements) → FrontsAlike p q (map (λ s. index_of s.mode) m.segments) → SpellsModule p m b → SpellsModule q m b
  spells_more m b elements segments h =
      let h1 = h.4 in
      let h2 = h1.4 in
      let h3 = h2.4 in
      let h4 = h3.4 in
      let h5 = h4.4 in
      let h6 = h5.4 in
      let h7 = h6.4 in
      let h8 = h7.4 in
      let h9 = h8.4 in
      let h10 = h9.4 in
      let h11 = h10.4 in
      let h12 = h11.4 in
      let h13 = h12.4 in
      let h14 = h13.4 in
      let h15 = h14.4 in
      let h16 = h15.4 in
      let h17 = h16.4 in
      let h18 = h17.4 in
      let h19 = h18.4 in
      let h20 = h19.4 in
      let h21 = h20.4 in
      let h22 = h21.4 in
      let h23 = h22.4 in
      let h24 = h23.4 in
      (h.0, h.1, h.2, h.3, (h1.0, h1.1, h1.2, h1.3, (h2.0, h2.1, h2.2, h2.3, (h3.0, h3.1, h3.2, h3.3, (h4.0, h4.1, h4.2, h4.3, (h5.0, h5.1, h5.2, h5.3, (h6.0, h6.1, h6.2, h6.3, (h7.0, h7.1, h7.2, h7.3, (h8.0, h8.1, h8.2, h8.3, (h9.0, h9.1, h9.2, h9.3, (h10.0, h10.1, h10.2, h10.3, (h11.0, h11.1, h11.2, h11.3, (h12.0, h12.1, h12.2, section_more (SpellsGlobal p) (SpellsGlobal q) global_more 6 m.globals h12.0 h12.3, (h13.0, h13.1, h13.2, h13.3, (h14.0, h14.1, h14.2, h14.3, (h15.0, h15.1, h15.2, h15.3, (h16.0, h16.1, h16.2, h16.3, (h17.0, h17.1, h17.2, h17.3, (h18.0, h18.1, h18.2, section_kept (λ e. FrontAlike p q (index_of e.mode)) (SpellsElement p) (SpellsElement q) element_more 9 m.elements h18.0 (fronts_alike p q (λ e. index_of e.mode) m.elements elements) h18.3, (h19.0, h19.1, h19.2, h19.3, (h20.0, h20.1, h20.2, count_more (bodies_name_segment m.functions) (length m.segments) h20.0 h20.3, (h21.0, h21.1, h21.2, h21.3, (h22.0, h22.1, h22.2, section_more (SpellsCode p) (SpellsCode q) code_more 10 m.functions h22.0 h22.3, (h23.0, h23.1, h23.2, h23.3, (h24.0, h24.1, h24.2, section_kept (λ s. FrontAlike p q (index_of s.mode)) (SpellsSegment p) (SpellsSegment q) segment_more 11 m.segments h24.0 (fronts_alike p q (λ s. index_of s.mode) m.segments segments) h24.3, h24.4)))))))))))))))))))))))))
