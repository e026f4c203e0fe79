-- The flat value determines the module, and so do the items of an input.
use Rattle.std.proofs.Common.{ℕ, ◌≡◌, List, [], ◌∷◌, ◌++◌, refl, sym, ◌∙◌, ap, subst}
use Rattle.wm_syntax.specs.declared.modules.SegmentMode.{SegmentMode}
use Rattle.wm_syntax.specs.declared.modules.SegmentMode.TheVariants.{Passive, Active}
use Rattle.std.specs.List.{AllZip}
use Rattle.std.proofs.lemmas.List.{append_cancel_right}
use Rattle.wm_syntax.specs.declared.types.Const.{Const}
use Rattle.wm_syntax.specs.declared.types.Const.TheVariants as const
use Rattle.wm_syntax.specs.declared.instructions.Op.TheVariants as op
use Rattle.wm_syntax.specs.declared.profile.Profile.{Profile}
use Rattle.wm_syntax.specs.Instructions.{HasOps}
use Rattle.wm_syntax.specs.Modules.{Function, GlobalDef, Element, Segment, Module, constant, index_of}
use Rattle.wm_syntax.specs.Profiles.{IsOf}
use Rattle.wm_syntax.proofs.Bodies.{same_instructions}
use Rattle.wm_machine.specs.Items.{Marks, items_at}
use Rattle.wm_machine.specs.Sections.{SpellsModule}
use Rattle.wm_machine.specs.Grammar.{strict, ModuleForm as Whole}
use Rattle.wm_machine.specs.Flat.{FlatGlobal, FlatElement, FlatCode, FlatSegment, FlatModule, flat_items, SpellsFlat, constant_ops, offset_ops, IsIndexOf, IsCodeOf, IsGlobalOf, IsElementOf, IsSegmentOf, IsFlatOf}
use Rattle.wm_machine.proofs.GrammarValues.{items_from, items_to}
use Rattle.wm_machine.proofs.Nesting.{flat_from, flat_to}
use Rattle.wm_machine.proofs.OneFlat.{one_flat}

-- two lists that stand so to a third are one where their members are
zip_same : {X Y : Type 0} (R : X → Y → Type 0) → ((x x' : X) (y : Y) → R x y → R x' y → x ≡ x') → (xs xs' : List X) (ys : List Y) → AllZip R xs ys → AllZip R xs' ys → xs ≡ xs'
zip_same R same [] [] ys h k = refl
zip_same R same [] (x' ∷ xs') [] h k = absurd k
zip_same R same [] (x' ∷ xs') (y ∷ ys) h k = absurd h
zip_same R same (x ∷ xs) [] [] h k = absurd h
zip_same R same (x ∷ xs) [] (y ∷ ys) h k = absurd k
zip_same R same (x ∷ xs) (x' ∷ xs') [] h k = absurd h
zip_same R same (x ∷ xs) (x' ∷ xs') (y ∷ ys) h k =
    let first : x ≡ x' = same x x' y h.0 k.0 in
    let rest : xs ≡ xs' = zip_same R same xs xs' ys h.1 k.1 in
    cc (first, rest)

pub constants_same : (c d : Const) → constant c ≡ constant d → c ≡ d
constants_same (const.I32 n) (const.I32 m) e = cc
constants_same (const.I32 n) _ e = cc
constants_same (const.I64 n) (const.I64 m) e = cc
constants_same (const.I64 n) _ e = cc
constants_same (const.F32 n) (const.F32 m) e = cc
constants_same (const.F32 n) _ e = cc
constants_same (const.F64 n) (const.F64 m) e = cc
constants_same (const.F64 n) _ e = cc
constants_same (const.Global n) (const.Global m) e = cc
constants_same (const.Global n) _ e = cc

ops_same : (c d : Const) → constant_ops c ≡ constant_ops d → c ≡ d
ops_same c d e = constants_same c d (cc)

global_same : (g h : GlobalDef) (v : FlatGlobal) → IsGlobalOf g v → IsGlobalOf h v → g ≡ h
global_same g h v r s =
    let a : g.ty ≡ h.ty = sym r.0 ∙ s.0 in
    let b : g.init ≡ h.init = ops_same g.init h.init (sym r.1 ∙ s.1) in
    let all : record { ty = g.ty; init = g.init } ≡ record { ty = h.ty; init = h.init } = cc (a, b) in
    all

modes_same : (d e : SegmentMode) → index_of d ≡ index_of e → offset_ops d ≡ offset_ops e → d ≡ e
modes_same Passive Passive i o = refl
modes_same Passive (Active x c) i o = cc
modes_same (Active x c) Passive i o = cc
modes_same (Active x c) (Active y d) i o =
    let index : x ≡ y = cc in
    let offset : c ≡ d = ops_same c d o in
    cc (index, offset)

element_same : (d e : Element) (v : FlatElement) → IsElementOf d v → IsElementOf e v → d ≡ e
element_same d e v r s =
    let a : d.mode ≡ e.mode = modes_same d.mode e.mode (sym r.0 ∙ s.0) (sym r.1 ∙ s.1) in
    let b : d.functions ≡ e.functions = sym r.2 ∙ s.2 in
    let all : record { mode = d.mode; functions = d.functions } ≡ record { mode = e.mode; functions = e.functions } = cc (a, b) in
    all

segment_same : (s t : Segment) (v : FlatSegment) → IsSegmentOf s v → IsSegmentOf t v → s ≡ t
segment_same s t v r q =
    let a : s.mode ≡ t.mode = modes_same s.mode t.mode (sym r.0 ∙ q.0) (sym r.1 ∙ q.1) in
    let b : s.bytes ≡ t.bytes = sym r.2 ∙ q.2 in
    let all : record { mode = s.mode; bytes = s.bytes } ≡ record { mode = t.mode; bytes = t.bytes } = cc (a, b) in
    all

-- a function's type stands in the one section, its locals and its body in the other
function_same : (f g : Function) (x : ℕ) (c : FlatCode) → IsIndexOf f x → IsCodeOf f c → IsIndexOf g x → IsCodeOf g c → f ≡ g
function_same f g x c i r j s =
    let a : f.type_index ≡ g.type_index = sym i ∙ j in
    let b : f.locals ≡ g.locals = sym r.0 ∙ s.0 in
    let o = r.2 in
    let p = s.2 in
    let same : o.0 ≡ p.0 = append_cancel_right o.0 p.0 (op.End ∷ []) (ap (λ y. o.0 ++ y) (sym o.4) ∙ (sym o.2 ∙ (p.2 ∙ ap (λ y. p.0 ++ y) p.4))) in
    let e : f.body ≡ g.body = same_instructions f.body g.body p.0 (subst (HasOps f.body) same o.3) p.3 in
    let all : record { type_index = f.type_index; locals = f.locals; body = f.body } ≡ record { type_index = g.type_index; locals = g.locals; body = g.body } = cc (a, b, e) in
    all

functions_same : (fs gs : List Function) (xs : List ℕ) (cs : List FlatCode) → AllZip IsIndexOf fs xs → AllZip IsCodeOf fs cs → AllZip IsIndexOf gs xs → AllZip IsCodeOf gs cs → fs ≡ gs
functions_same [] [] xs cs h r k s = refl
functions_same [] (g ∷ gs) [] cs h r k s = absurd k
functions_same [] (g ∷ gs) (x ∷ xs) cs h r k s = absurd h
functions_same (f ∷ fs) [] [] cs h r k s = absurd h
functions_same (f ∷ fs) [] (x ∷ xs) cs h r k s = absurd k
functions_same (f ∷ fs) (g ∷ gs) [] cs h r k s = absurd h
functions_same (f ∷ fs) (g ∷ gs) (x ∷ xs) [] h r k s = absurd r
functions_same (f ∷ fs) (g ∷ gs) (x ∷ xs) (c ∷ cs) h r k s =
    let first : f ≡ g = function_same f g x c h.0 r.0 k.0 s.0 in
    let rest : fs ≡ gs = functions_same fs gs xs cs h.1 r.1 k.1 s.1 in
    cc (first, rest)

-- a flat value is one of one module alone
module_of_flat : (m n : Module) (v : FlatModule) → IsFlatOf m v → IsFlatOf n v → m ≡ n
module_of_flat m n v r s =
    let types : m.types ≡ n.types = sym r.types ∙ s.types in
    let imports : m.imports ≡ n.imports = sym r.imports ∙ s.imports in
    let functions : m.functions ≡ n.functions = functions_same m.functions n.functions v.functions v.codes r.functions r.codes s.functions s.codes in
    let tables : m.tables ≡ n.tables = sym r.tables ∙ s.tables in
    let memories : m.memories ≡ n.memories = sym r.memories ∙ s.memories in
    let globals : m.globals ≡ n.globals = zip_same IsGlobalOf global_same m.globals n.globals v.globals r.globals s.globals in
    let exports : m.exports ≡ n.exports = sym r.exports ∙ s.exports in
    let begins : m.start ≡ n.start = sym r.start ∙ s.start in
    let elements : m.elements ≡ n.elements = zip_same IsElementOf element_same m.elements n.elements v.elements r.elements s.elements in
    let segments : m.segments ≡ n.segments = zip_same IsSegmentOf segment_same m.segments n.segments v.segments r.segments s.segments in
    let all : record { types = m.types; imports = m.imports; functions = m.functions; tables = m.tables; memories = m.memories; globals = m.globals; exports = m.exports; start = m.start; elements = m.elements; segments = m.segments }
    ≡ record { types = n.types; imports = n.imports; functions = n.functions; tables = n.tables; memories = n.memories; globals = n.globals; exports = n.exports; start = n.start; elements = n.elements; segments = n.segments }
    = cc (types, imports, functions, tables, memories, globals, exports, begins, elements, segments) in
    all

-- one list of items is that of one module alone
pub module_of_parts : (m n : Module) (v w : FlatModule) → IsFlatOf m v → IsFlatOf n w → flat_items v ≡ flat_items w → m ≡ n
module_of_parts m n v w r s e = module_of_flat m n v r (subst (IsFlatOf n) (sym (one_flat v w e)) s)

-- an input's marks, and the flat value of the module that it spells
pub marks_to : (p : Profile) (m : Module) (b : List ℕ) → SpellsModule p m b → IsOf p m → (k : Marks) × (v : FlatModule) × Whole strict p b k × IsFlatOf m v × (items_at k ≡ flat_items v)
marks_to p m b h g =
    let u = flat_to p m b h g in
    let k = items_from p u.0 b u.2 in
    (k.0, u.0, k.1, u.1, k.2)

pub marks_from : (p : Profile) (m : Module) (v : FlatModule) (b : List ℕ) (k : Marks) → Whole strict p b k → IsFlatOf m v → items_at k ≡ flat_items v → SpellsModule p m b × IsOf p m
marks_from p m v b k h r e =
    let u = items_to p b k h in
    flat_from p m v b r (subst (λ w. SpellsFlat p w b) (one_flat u.0 v (sym u.2 ∙ e)) u.1)
