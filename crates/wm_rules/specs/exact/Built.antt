-- The state of a builder, and its state after each item, refusals included. It follows the code exactly. The
-- law `items_build_their_module` states that the items of a module build it.
use Rattle.std.specs.Prelude.{ℕ, List, [], ◌∷◌, ◌++◌, Option, Some, None, Result, Ok, Err, length, slice_get}
use Rattle.wm_syntax.specs.declared.modules.SegmentMode.TheVariants.{Passive, Active}
use Rattle.std.specs.Prelude.{unwrap_or, if◌then◌else◌}
use Rattle.std.specs.Str.{is_utf8}
use Rattle.wm_syntax.specs.declared.types.ValType.{ValType}
use Rattle.wm_syntax.specs.declared.types.Const.{Const}
use Rattle.wm_syntax.specs.declared.types.Const.TheVariants as const
use Rattle.wm_syntax.specs.declared.instructions.Simple.TheVariants.{I32Const, I64Const, F32Const, F64Const}
use Rattle.wm_syntax.specs.declared.instructions.Simple.TheVariants.{GlobalGet}
use Rattle.wm_syntax.specs.declared.instructions.Op.{Op}
use Rattle.wm_syntax.specs.declared.instructions.Op.TheVariants as op
use Rattle.wm_syntax.specs.declared.modules.ImportDesc.{ImportDesc}
use Rattle.wm_syntax.specs.declared.why.Why.{Why}
use Rattle.wm_syntax.specs.declared.why.Why.TheVariants as why
use Rattle.wm_syntax.specs.Types.{Signature}
use Rattle.wm_syntax.specs.Modules.{Module, Element, Segment}
use Rattle.wm_syntax.specs.Modules as modules
use Rattle.wm_syntax.specs.Instructions.{Instructions}
use Rattle.wm_syntax.specs.inner.Building.{Place, at, labels, placed}
use Rattle.wm_syntax.specs.inner.Building as building
use Rattle.wm_rules.specs.declared.builder.Purpose.{Purpose}
use Rattle.wm_rules.specs.declared.builder.Purpose.TheVariants as purpose
use Rattle.wm_rules.specs.declared.builder.Pending.{Pending}
use Rattle.wm_syntax.specs.exact.Runs.{add_run}
use Rattle.wm_machine.specs.Items.{Item, new_type, param, result_count, one_result, import_module, import_name}
use Rattle.wm_machine.specs.Items.{import_desc, function, table, memory, global, const_op, export_name, export}
use Rattle.wm_machine.specs.Items.{start, element, element_function, data_count, body, locals, body_op, segment}
use Rattle.wm_machine.specs.Items.{passive_element, passive_segment}
use Rattle.wm_machine.specs.Items.{data_byte}
use Rattle.wm_machine.specs.Sinks.{and_then}

-- A code entry at hand: its locals, and its body so far.
pub record Code : Type 0 where
  pub locals : List ValType
  pub body : Place

-- The state of a builder: the module so far, the type index of each function, and what is at hand. At hand may
-- be the names of an import or an export, a constant expression, or a code entry.
pub record Built : Type 0 where
  pub value : Module
  pub indices : List ℕ
  pub module_name : List ℕ
  pub item_name : List ℕ
  pub exported : List ℕ
  pub constant : Option Pending
  pub code : Option Code

-- The state with this module and these type indices, and with nothing at hand.
abbrev pub holding : Module → List ℕ → Built
holding m xs = record {
  value = m;
  indices = xs;
  module_name = [];
  item_name = [];
  exported = [];
  constant = None;
  code = None;
}

abbrev pub nothing : Built
nothing = holding modules.empty_module []

-- The list with `f` applied to its last item, if there is one.
abbrev pub change_last : {X : Type 0} → (X → X) → List X → List X
change_last f [] = []
change_last f (x ∷ []) = f x ∷ []
change_last f (x ∷ y ∷ xs) = x ∷ change_last f (y ∷ xs)

abbrev pub with_types : Built → List Signature → Built
with_types h ts = record h { value = record h.value { types = ts } }

abbrev pub with_elements : Built → List Element → Built
with_elements h es = record h { value = record h.value { elements = es } }

abbrev pub with_segments : Built → List Segment → Built
with_segments h ss = record h { value = record h.value { segments = ss } }

-- Returns the name, or fails with `BadUtf8` if it is not UTF-8.
abbrev pub name_from : List ℕ → Result (List ℕ) Why
name_from text = if is_utf8 text then Ok text else Err why.BadUtf8

abbrev pub imported : Built → ImportDesc → Built
imported h d = record h {
  value = record h.value {
    imports = h.value.imports ++ record {
      module_name = h.module_name;
      item_name = h.item_name;
      desc = d;
    } ∷ [];
  };
  module_name = [];
  item_name = [];
}

-- A constant expression begins.
abbrev pub expecting : Purpose → Built → Built
expecting p h = record h { constant = Some (record { purpose = p; value = None }) }

abbrev pub valued : Const → Built → Pending → Option Const → Result Built Why
valued c h k None = Ok (record h { constant = Some (record k { value = Some c }) })
valued c h k (Some d) = Err why.Arity

abbrev pub member_added : Purpose → Const → Module → Module
member_added (purpose.Global g) c m = record m { globals = m.globals ++ record { ty = g; init = c } ∷ [] }
member_added (purpose.Element x) c m = record m {
  elements = m.elements ++ record { mode = Active x c; functions = [] } ∷ [];
}
member_added (purpose.Segment x) c m = record m {
  segments = m.segments ++ record { mode = Active x c; bytes = [] } ∷ [];
}

abbrev pub constant_ended : Built → Pending → Option Const → Result Built Why
constant_ended h k None = Err why.Arity
constant_ended h k (Some c) = Ok (record h { value = member_added k.purpose c h.value; constant = None })

abbrev pub in_constant : Op → Built → Pending → Result Built Why
in_constant (op.Simple (I32Const n)) h k = valued (const.I32 n) h k k.value
in_constant (op.Simple (I64Const n)) h k = valued (const.I64 n) h k k.value
in_constant (op.Simple (F32Const n)) h k = valued (const.F32 n) h k k.value
in_constant (op.Simple (F64Const n)) h k = valued (const.F64 n) h k k.value
in_constant (op.Simple (GlobalGet x)) h k = valued (const.Global x) h k k.value
in_constant op.End h k = constant_ended h k k.value
in_constant _ h k = Err why.NotConst

abbrev pub constant_taken : Op → Built → Option Pending → Result Built Why
constant_taken o h None = Err why.Index
constant_taken o h (Some k) = in_constant o h k

-- The type index of the function whose code entry comes next; 0 if there is none.
abbrev pub next_type : Built → ℕ
next_type h = unwrap_or (slice_get h.indices (length h.value.functions)) 0

abbrev pub locals_taken : ℕ → ValType → Built → Option Code → Result Built Why
locals_taken n t h None = Err why.Index
locals_taken n t h (Some c) =
    and_then (add_run n t c.locals) (λ ts. Ok (record h { code = Some (record c { locals = ts }) }))

-- The state after the `end` of a body. No other list of the body may be open.
abbrev pub code_ended : Built → Code → Place → Result Built Why
code_ended h c (at [] s) =
    Ok (record h {
      value = record h.value {
        functions =
            h.value.functions ++ record { type_index = next_type h; locals = c.locals; body = s } ∷ [];
      };
      code = None;
    })
code_ended h c (at (o ∷ outer) s) = Err why.ElsePlace
code_ended h c (labels outer s seen n) = Err why.ElsePlace

-- The state after the code entry at hand has this body.
abbrev pub body_ended : Instructions → Built → Option Code → Result Built Why
body_ended s h None = Err why.Index
body_ended s h (Some c) = code_ended h c (at [] s)

abbrev pub not_placed : Op → Built → Code → Result Built Why
not_placed op.End h c = code_ended h c c.body
not_placed _ h c = Err why.ElsePlace

abbrev pub if_it_stands : Op → Built → Code → Option Place → Result Built Why
if_it_stands o h c (Some p) = Ok (record h { code = Some (record c { body = p }) })
if_it_stands o h c None = not_placed o h c

abbrev pub op_taken : Op → Built → Option Code → Result Built Why
op_taken o h None = Err why.Index
op_taken o h (Some c) = if_it_stands o h c (placed c.body o)

-- The state after one item.
abbrev pub after : Built → Item → Result Built Why
after h new_type = Ok (with_types h (h.value.types ++ record { params = []; results = [] } ∷ []))
after h (param t) =
    Ok (with_types h (change_last (λ s. record s { params = s.params ++ t ∷ [] }) h.value.types))
after h (result_count n) = Ok h
after h (one_result t) =
    Ok (with_types h (change_last (λ s. record s { results = s.results ++ t ∷ [] }) h.value.types))
after h (import_module text) = and_then (name_from text) (λ name. Ok (record h { module_name = name }))
after h (import_name text) = and_then (name_from text) (λ name. Ok (record h { item_name = name }))
after h (import_desc d) = Ok (imported h d)
after h (function x) = Ok (record h { indices = h.indices ++ x ∷ [] })
after h (table l) = Ok (record h { value = record h.value { tables = h.value.tables ++ l ∷ [] } })
after h (memory l) = Ok (record h { value = record h.value { memories = h.value.memories ++ l ∷ [] } })
after h (global g) = Ok (expecting (purpose.Global g) h)
after h (const_op o) = constant_taken o h h.constant
after h (export_name text) = and_then (name_from text) (λ name. Ok (record h { exported = name }))
after h (export k x) = Ok (record h {
  value = record h.value {
    exports = h.value.exports ++ record { name = h.exported; kind = k; index = x } ∷ [];
  };
  exported = [];
})
after h (start x) = Ok (record h { value = record h.value { start = Some x } })
after h (element x) = Ok (expecting (purpose.Element x) h)
after h passive_element =
    Ok (with_elements h (h.value.elements ++ record { mode = Passive; functions = [] } ∷ []))
after h (element_function y) =
    Ok (with_elements h (change_last (λ e. record e { functions = e.functions ++ y ∷ [] }) h.value.elements))
after h (data_count n) = Ok h
after h body = Ok (record h { code = Some (record { locals = []; body = building.start }) })
after h (locals n t) = locals_taken n t h h.code
after h (body_op o) = op_taken o h h.code
after h (segment x) = Ok (expecting (purpose.Segment x) h)
after h passive_segment =
    Ok (with_segments h (h.value.segments ++ record { mode = Passive; bytes = [] } ∷ []))
after h (data_byte c) =
    Ok (with_segments h (change_last (λ s. record s { bytes = s.bytes ++ c ∷ [] }) h.value.segments))
