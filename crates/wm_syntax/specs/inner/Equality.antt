-- A test whether two values are the same, by their codes, which tell any two values apart. The proofs are in
-- specs because a comparison needs its laws.
use Rattle.std.specs.Prelude.{◌≡◌, ℕ, ◌==◌, ◌&&◌, Bool, true, false, List, Option}
use Rattle.std.specs.Bool.{Decides}
use Rattle.std.specs.Cmp.{IsPartialEquivalence, partial_equiv_from_equiv, decided}
use Rattle.std.specs.Coded.{Coded, code_by, coded_list, coded_option, coded×, coded_ℕ}
use Rattle.std.proofs.Common.{refl, ap, subst}
use Rattle.std.proofs.lemmas.Bool.{and_parts, and_from, eqb-true, eq-eqb}
use Rattle.wm_syntax.specs.Instructions.{Instructions}
use Rattle.wm_syntax.specs.Modules.{Import, Function, GlobalDef, Export, Element, Segment, Module}
use Rattle.wm_syntax.specs.Types.{Signature}
use Rattle.wm_syntax.specs.contracts.modules.ExportKind as kind
use Rattle.wm_syntax.specs.contracts.modules.ImportDesc as desc
use Rattle.wm_syntax.specs.contracts.modules.SegmentMode as mode
use Rattle.wm_syntax.specs.contracts.types.Const as constant
use Rattle.wm_syntax.specs.contracts.types.GlobalType as global
use Rattle.wm_syntax.specs.contracts.types.Limits as limits
use Rattle.wm_syntax.specs.contracts.types.ValType as types
use Rattle.wm_syntax.specs.declared.modules.ExportKind.{ExportKind}
use Rattle.wm_syntax.specs.declared.modules.ImportDesc.{ImportDesc}
use Rattle.wm_syntax.specs.declared.modules.SegmentMode.{SegmentMode}
use Rattle.wm_syntax.specs.declared.types.Const.{Const}
use Rattle.wm_syntax.specs.declared.types.GlobalType.{GlobalType}
use Rattle.wm_syntax.specs.declared.types.Limits.{Limits}
use Rattle.wm_syntax.specs.declared.types.ValType.{ValType}
use Rattle.wm_syntax.specs.inner.Codes.{instructions_code, function_code}
use Rattle.wm_syntax.specs.Values.{value_of}
use base.Stored.{Gv, gnil, gnum, gcons}

-- Compares two codes.
same_code : Gv → Gv → Bool
same_code gnil gnil = true
same_code (gnum n) (gnum k) = n == k
same_code (gcons a b) (gcons c d) = same_code a c && same_code b d
same_code gnil (gnum k) = false
same_code gnil (gcons c d) = false
same_code (gnum n) gnil = false
same_code (gnum n) (gcons c d) = false
same_code (gcons a b) gnil = false
same_code (gcons a b) (gnum k) = false

code_is : (x y : Gv) → same_code x y ≡ true → x ≡ y
unfolding same_code
code_is gnil gnil e = refl
code_is (gnum n) (gnum k) e = ap gnum (eqb-true n k e)
code_is (gcons a b) (gcons c d) e =
    let p = and_parts (same_code a c) (same_code b d) e in λ i. gcons (code_is a c p.0 i) (code_is b d p.1 i)
code_is gnil (gnum k) e = cc
code_is gnil (gcons c d) e = cc
code_is (gnum n) gnil e = cc
code_is (gnum n) (gcons c d) e = cc
code_is (gcons a b) gnil e = cc
code_is (gcons a b) (gnum k) e = cc

is_code : (x : Gv) → same_code x x ≡ true
unfolding same_code
is_code gnil = refl
is_code (gnum n) = eq-eqb n n refl
is_code (gcons a b) = and_from (same_code a a) (same_code b b) (is_code a) (is_code b)

-- Compares two values by their codes.
pub same_by : {A : Type 0} → Coded A → A → A → Bool
same_by c a b = same_code (c.code a) (c.code b)

pub same_decides : {A : Type 0} (c : Coded A) (a b : A) → Decides (same_by c a b) (a ≡ b)
unfolding same_by
same_decides c a b = (
  (λ e. c.inj a b (code_is (c.code a) (c.code b) e)),
  (λ e. subst (λ z. same_code (c.code a) (c.code z) ≡ true) e (is_code (c.code a))),
)

pub same_laws : {A : Type 0} (c : Coded A) → IsPartialEquivalence (same_by c)
same_laws c = partial_equiv_from_equiv (decided (same_by c) (same_decides c))

-- The codes of the values in a module.
pub body_code : Coded Instructions
body_code = instructions_code

pub locals_code : Coded (List ValType)
locals_code = coded_list types.the_row.coded

pub entry_code : Coded Function
entry_code = function_code

pub signature_code : Coded Signature
signature_code =
    code_by (List ValType × List ValType) (coded× locals_code locals_code) (λ f. (f.params, f.results))
    (λ p. record { params = p.0; results = p.1 }) (λ _. refl)

pub import_code : Coded Import
import_code =
    code_by (List ℕ × (List ℕ × ImportDesc))
    (coded× (coded_list coded_ℕ) (coded× (coded_list coded_ℕ) desc.the_row.coded))
    (λ i. (i.module_name, (i.item_name, i.desc)))
    (λ p. record { module_name = p.0; item_name = p.1.0; desc = p.1.1 }) (λ _. refl)

pub global_code : Coded GlobalDef
global_code =
    code_by (GlobalType × Const) (coded× global.the_row.coded constant.the_row.coded) (λ g. (g.ty, g.init))
    (λ p. record { ty = p.0; init = p.1 }) (λ _. refl)

pub export_code : Coded Export
export_code =
    code_by (List ℕ × (ExportKind × ℕ)) (coded× (coded_list coded_ℕ) (coded× kind.the_row.coded coded_ℕ))
    (λ e. (e.name, (e.kind, e.index)))
    (λ p. record { name = p.0; kind = p.1.0; index = p.1.1 }) (λ _. refl)

pub element_code : Coded Element
element_code =
    code_by (SegmentMode × List ℕ) (coded× mode.the_row.coded (coded_list coded_ℕ)) (λ e. (e.mode, e.functions))
    (λ p. record { mode = p.0; functions = p.1 }) (λ _. refl)

pub segment_code : Coded Segment
segment_code =
    code_by (SegmentMode × List ℕ) (coded× mode.the_row.coded (coded_list coded_ℕ)) (λ s. (s.mode, s.bytes))
    (λ p. record { mode = p.0; bytes = p.1 }) (λ _. refl)

module_parts : Module → List Signature × (List Import
    × (List Function × (List Limits × (List Limits
    × (List GlobalDef × (List Export × (Option ℕ × (List Element × List Segment))))))))
module_parts m = (
  m.types,
  (
    m.imports,
    (
      m.functions,
      (
        m.tables,
        (m.memories, (m.globals, (m.exports, (m.start, (m.elements, m.segments))))),
      ),
    ),
  ),
)

pub module_code : Coded Module
unfolding module_parts
module_code =
    code_by (List Signature × (List Import × (List Function
    × (List Limits × (List Limits × (List GlobalDef
    × (List Export × (Option ℕ × (List Element × List Segment)))))))))
    (coded× (coded_list signature_code) (coded× (coded_list import_code)
    (coded× (coded_list entry_code) (coded× (coded_list limits.the_row.coded)
    (coded× (coded_list limits.the_row.coded)
    (coded× (coded_list global_code) (coded× (coded_list export_code)
    (coded× (coded_option coded_ℕ) (coded× (coded_list element_code) (coded_list segment_code))))))))))
    module_parts
    (λ p. record {
      types = p.0;
      imports = p.1.0;
      functions = p.1.1.0;
      tables = p.1.1.1.0;
      memories = p.1.1.1.1.0;
      globals = p.1.1.1.1.1.0;
      exports = p.1.1.1.1.1.1.0;
      start = p.1.1.1.1.1.1.1.0;
      elements = p.1.1.1.1.1.1.1.1.0;
      segments = p.1.1.1.1.1.1.1.1.1;
    })
    (λ _. refl)

pub value_laws : IsPartialEquivalence (λ a b. same_by module_code (value_of a) (value_of b))
value_laws = record {
  symm = λ a b. (same_laws module_code).symm (value_of a) (value_of b);
  trans = λ a b c. (same_laws module_code).trans (value_of a) (value_of b) (value_of c);
}
