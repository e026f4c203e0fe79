-- The state of a checker, and its state after each item, refusals included. It follows the code exactly, for
-- the layers above. `Validation` defines valid modules, and `Kept` the number of retained entries.
use Rattle.std.specs.Prelude.{◌≡◌, ℕ, ◌<◌, ◌+◌, max, Bool, true, false, List, [], Option, Some, None, Result}
use Rattle.std.specs.Prelude.{Ok, Err, length, nat_le, if◌then◌else◌}
use Rattle.std.specs.BTreeSet.{insert_key}
use Rattle.std.specs.List.{list_any}
use Rattle.std.specs.Cmp.Lexicographic.{slice_cmp}
use Rattle.std.specs.Ordering.{nat_cmp}
use Rattle.std.specs.Str.{bytes_eq}
use Rattle.wm_syntax.specs.declared.types.ValType.{ValType}
use Rattle.wm_syntax.specs.declared.types.ValType.TheVariants.{I32}
use Rattle.wm_syntax.specs.declared.types.GlobalType.{GlobalType}
use Rattle.wm_syntax.specs.declared.instructions.Op.{Op}
use Rattle.wm_syntax.specs.declared.modules.ExportKind.{ExportKind}
use Rattle.wm_syntax.specs.declared.modules.ExportKind.TheVariants as kind
use Rattle.wm_syntax.specs.declared.why.Why.{Why}
use Rattle.wm_syntax.specs.declared.why.Why.TheVariants as why
use Rattle.wm_typing.specs.declared.body_checker.Progress.{Progress}
use Rattle.wm_typing.specs.declared.body_checker.Progress.TheVariants.{Inside, Ended}
use Rattle.wm_typing.specs.declared.stats.BodyStats.{BodyStats}
use Rattle.wm_typing.specs.Bodies.{Body, no_stats, no_body}
use Rattle.wm_typing.specs.Typing.{function_type}
use Rattle.wm_typing.specs.exact.Bodies.{body_at_start, declared_more, progress_at, body_after_op}
use Rattle.wm_machine.specs.Items.{Item, new_type, param, result_count, one_result, import_module, import_name}
use Rattle.wm_machine.specs.Items.{import_desc, function, table, memory, global, const_op, export_name, export}
use Rattle.wm_machine.specs.Items.{start, element, element_function, data_count, body, locals, body_op, segment}
use Rattle.wm_machine.specs.Items.{passive_element, passive_segment}
use Rattle.wm_machine.specs.Items.{data_byte}
use Rattle.wm_machine.specs.Sinks.{and_then}
use Rattle.wm_rules.specs.declared.checker.Summary.{Summary}
use Rattle.wm_rules.specs.declared.constants.Constant.{Constant}
use Rattle.wm_rules.specs.exact.Spaces.{no_items, context_of, type_begun, param_added, result_added}
use Rattle.wm_rules.specs.exact.Spaces.{function_added, global_added, table_added, memory_added, import_added}
use Rattle.wm_rules.specs.exact.Spaces.{index_check, plain, next_type, element_counted, segments_counted}
use Rattle.wm_rules.specs.Holding.{IndexSpaces, Held}
use Rattle.wm_rules.specs.exact.Constants.{constant_after, constant_expecting}

-- A body at hand that was not refused has an open frame.
abbrev pub BodyIsOpen : Bool → Body → Type 0
BodyIsOpen in_body b = in_body ≡ true → b.refused ≡ None → 0 < length b.state.stacks.frames

abbrev pub empty_checker : Held
empty_checker = record {
  spaces = no_items;
  names = [];
  constant = None;
  body = no_body;
  in_body = false;
  most = no_stats;
}

-- The figures of the bodies that have ended.
abbrev pub summary_in : Held → Summary
summary_in h = record {
  functions = h.spaces.bodies;
  moves = h.most.moves;
  operands = h.most.operands;
  controls = h.most.controls;
  probes = h.most.probes;
}

abbrev pub in_spaces : Held → Result IndexSpaces Why → Result Held Why
in_spaces h (Ok s) = Ok (record h { spaces = s })
in_spaces h (Err w) = Err w

-- The unchanged state, or the error.
abbrev pub where_ok : Held → Result (Unit {0}) Why → Result Held Why
where_ok h (Ok u) = Ok h
where_ok h (Err w) = Err w

abbrev pub one_at_most : ℕ → Result (Unit {0}) Why
one_at_most n = if nat_le n 1 then Ok tt else Err why.Arity

-- The state after the start of a constant expression of this type that may name the first `sees` globals.
abbrev pub constant_begun : ValType → ℕ → Held → Held
constant_begun t sees h = record h { constant = Some (constant_expecting t sees) }

-- The state after the type of a global. Its initialiser may name imported globals only.
abbrev pub global_begun : GlobalType → Held → Result Held Why
global_begun g h = in_spaces (constant_begun g.ty h.spaces.imported_globals h) (global_added g h.spaces)

-- The state after the index of a segment's table or memory. The offset may name any global.
abbrev pub offset_begun : ExportKind → ℕ → Held → Result Held Why
offset_begun k x h =
    and_then (index_check k x h.spaces) (λ u. Ok (constant_begun I32 (length h.spaces.globals) h))

-- The state with one more element segment.
abbrev pub with_element : Held → Held
with_element h = record h { spaces = element_counted h.spaces }

abbrev pub with_constant : Held → Result (Option Constant) Why → Result Held Why
with_constant h (Ok k) = Ok (record h { constant = k })
with_constant h (Err w) = Err w

abbrev pub in_constant : Op → Held → Option Constant → Result Held Why
in_constant o h None = Err why.Index
in_constant o h (Some k) = with_constant h (constant_after h.spaces.globals o k)

abbrev pub is_taken : List ℕ → List (List ℕ) → Bool
is_taken name names = list_any (bytes_eq name) names

abbrev pub put_name : List ℕ → List (List ℕ) → List (List ℕ)
put_name name names = insert_key (slice_cmp nat_cmp) names name

abbrev pub names_with : List ℕ → List (List ℕ) → Result (List (List ℕ)) Why
names_with name names = if is_taken name names then Err why.DuplicateExport else Ok (put_name name names)

abbrev pub in_names : Held → Result (List (List ℕ)) Why → Result Held Why
in_names h (Ok names) = Ok (record h { names = names })
in_names h (Err w) = Err w

-- The state after the start of a body, whose function has this type index.
abbrev pub body_begun : Held → Option ℕ → Result Held Why
body_begun h None = Err why.Index
body_begun h (Some x) =
    Ok (record h {
      spaces = record h.spaces { bodies = h.spaces.bodies + 1 };
      body = body_at_start (context_of h.spaces) x;
      in_body = true;
    })

abbrev pub with_body : Held → Result Body Why → Result Held Why
with_body h (Ok b) = Ok (record h { body = b })
with_body h (Err w) = Err w

abbrev pub locals_added : ℕ → ValType → Held → Result Held Why
locals_added n t h = if h.in_body then with_body h (declared_more n t h.body) else Err why.Index

abbrev pub greatest : BodyStats → BodyStats → BodyStats
greatest a b = record {
  moves = max a.moves b.moves;
  operands = max a.operands b.operands;
  controls = max a.controls b.controls;
  probes = max a.probes b.probes;
}

abbrev pub with_progress : Held → Body → Progress → Held
with_progress h b Inside = record h { body = b }
with_progress h b Ended = record h { body = b; in_body = false; most = greatest h.most b.stats }

abbrev pub checker_after_op : Held → Result Body Why → Result Held Why
checker_after_op h (Ok b) = Ok (with_progress h b (progress_at b.state.stacks.frames))
checker_after_op h (Err w) = Err w

abbrev pub op_taken : Op → Held → Result Held Why
op_taken o h = if h.in_body then checker_after_op h (body_after_op (context_of h.spaces) o h.body)
    else Err why.Index

-- The state after one item.
abbrev pub after : Held → Item → Result Held Why
after h new_type = in_spaces h (type_begun h.spaces)
after h (param t) = in_spaces h (param_added t h.spaces)
after h (result_count n) = where_ok h (one_at_most n)
after h (one_result t) = in_spaces h (result_added t h.spaces)
after h (import_module name) = Ok h
after h (import_name name) = Ok h
after h (import_desc d) = in_spaces h (import_added d h.spaces)
after h (function x) = in_spaces h (function_added x h.spaces)
after h (table l) = in_spaces h (table_added l h.spaces)
after h (memory l) = in_spaces h (memory_added l h.spaces)
after h (global g) = global_begun g h
after h (const_op o) = in_constant o h h.constant
after h (export_name name) = in_names h (names_with name h.names)
after h (export k x) = where_ok h (index_check k x h.spaces)
after h (start x) = where_ok h (plain (function_type (context_of h.spaces) x))
after h (element x) = offset_begun kind.Table x (with_element h)
after h passive_element = Ok (with_element h)
after h (element_function x) = where_ok h (index_check kind.Func x h.spaces)
after h (data_count n) = Ok (record h { spaces = segments_counted n h.spaces })
after h body = body_begun h (next_type h.spaces)
after h (locals n t) = locals_added n t h
after h (body_op o) = op_taken o h
after h (segment x) = offset_begun kind.Memory x h
after h passive_segment = Ok h
after h (data_byte c) = Ok h
