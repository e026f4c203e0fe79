-- The index spaces of a checker, and the spaces after each item, refusals included. They follow the code, for
-- the layers above. `Validation` defines valid modules.
use Rattle.std.specs.Prelude.{ℕ, ◌+◌, ◌≤◌, ◌^◌, ◌&&◌, Bool, true, false, List, [], ◌∷◌, ◌++◌, Option, Some}
use Rattle.std.specs.Prelude.{None, Result, Ok, Err, length, slice_get, nat_lt, nat_le, nat_eq, if◌then◌else◌}
use Rattle.wm_syntax.specs.declared.types.ValType.{ValType}
use Rattle.wm_syntax.specs.declared.types.Limits.{Limits}
use Rattle.wm_syntax.specs.declared.types.GlobalType.{GlobalType}
use Rattle.wm_syntax.specs.declared.modules.ImportDesc.{ImportDesc}
use Rattle.wm_syntax.specs.declared.modules.ImportDesc.TheVariants as desc
use Rattle.wm_syntax.specs.declared.modules.ExportKind.{ExportKind}
use Rattle.wm_syntax.specs.declared.modules.ExportKind.TheVariants as kind
use Rattle.wm_syntax.specs.declared.why.Why.{Why}
use Rattle.wm_syntax.specs.declared.why.Why.TheVariants as why
use Rattle.wm_syntax.specs.Types.{Signature}
use Rattle.wm_typing.specs.Contexts.{AreTypes, context}
use Rattle.wm_typing.specs.Typing.{Context}
use Rattle.wm_machine.specs.Sinks.{and_then}
use Rattle.wm_rules.specs.Holding.{IndexSpaces}

abbrev pub no_items : IndexSpaces
no_items = record {
  types = [];
  functions = [];
  globals = [];
  imported_functions = 0;
  imported_globals = 0;
  bodies = 0;
  has_table = false;
  has_memory = false;
  elements = 0;
  segments = 0;
}

-- The invariant of the index spaces, at any moment of any module.
pub record AreSpaces (types : List Signature) (functions : List ℕ) (globals : List GlobalType)
    (imported_functions imported_globals bodies : ℕ) : Type 0 where
  pub typed : AreTypes types functions
  pub bodies_fit : imported_functions + bodies ≤ length functions
  pub globals_fit : imported_globals ≤ length globals

-- The context in which a module's bodies are typed.
abbrev pub context_of : IndexSpaces → Context
context_of s = context s.types s.functions s.globals s.has_table s.has_memory s.elements s.segments

-- The list with its last item changed; `Index` if there is none.
abbrev pub on_last : {X : Type 0} → (X → Result X Why) → List X → Result (List X) Why
on_last f [] = Err why.Index
on_last f (x ∷ []) = and_then (f x) (λ y. Ok (y ∷ []))
on_last f (x ∷ y ∷ ys) = and_then (on_last f (y ∷ ys)) (λ zs. Ok (x ∷ zs))

abbrev pub one_param_more : ValType → Signature → Result Signature Why
one_param_more t f = Ok (record f { params = f.params ++ t ∷ [] })

-- The function type with one more result; `Arity` if it has one already.
abbrev pub one_result_more : ValType → Signature → Result Signature Why
one_result_more t f =
    if nat_eq (length f.results) 0 then Ok (record f { results = f.results ++ t ∷ [] }) else Err why.Arity

abbrev pub with_types : IndexSpaces → Result (List Signature) Why → Result IndexSpaces Why
with_types s (Ok types) = Ok (record s { types = types })
with_types s (Err w) = Err w

abbrev pub type_begun : IndexSpaces → Result IndexSpaces Why
type_begun s = Ok (record s { types = s.types ++ record { params = []; results = [] } ∷ [] })

abbrev pub param_added : ValType → IndexSpaces → Result IndexSpaces Why
param_added t s = with_types s (on_last (one_param_more t) s.types)

abbrev pub result_added : ValType → IndexSpaces → Result IndexSpaces Why
result_added t s = with_types s (on_last (one_result_more t) s.types)

abbrev pub function_added : ℕ → IndexSpaces → Result IndexSpaces Why
function_added x s =
    if nat_lt x (length s.types) then Ok (record s { functions = s.functions ++ x ∷ [] }) else Err why.Index

abbrev pub function_imported : ℕ → IndexSpaces → Result IndexSpaces Why
function_imported x s =
    and_then (function_added x s) (λ z. Ok (record z { imported_functions = z.imported_functions + 1 }))

abbrev pub global_added : GlobalType → IndexSpaces → Result IndexSpaces Why
global_added g s = Ok (record s { globals = s.globals ++ g ∷ [] })

abbrev pub global_imported : GlobalType → IndexSpaces → Result IndexSpaces Why
global_imported g s = Ok (record s {
  globals = s.globals ++ g ∷ [];
  imported_globals = s.imported_globals + 1;
})

-- The limits are in a range, and the minimum is at most the maximum.
abbrev pub max_is_within : ℕ → ℕ → Option ℕ → Bool
max_is_within k min None = true
max_is_within k min (Some max) = nat_le max k && nat_le min max

abbrev pub is_within : ℕ → Limits → Bool
is_within k l = nat_le l.min k && max_is_within k l.min l.max

abbrev pub table_added : Limits → IndexSpaces → Result IndexSpaces Why
table_added l s =
    if s.has_table then Err why.Second
    else (if is_within (2 ^ 32) l then Ok (record s { has_table = true }) else Err why.Limits)

abbrev pub memory_added : Limits → IndexSpaces → Result IndexSpaces Why
memory_added l s =
    if s.has_memory then Err why.Second
    else (if is_within (2 ^ 16) l then Ok (record s { has_memory = true }) else Err why.Limits)

-- One more element segment.
abbrev pub element_counted : IndexSpaces → IndexSpaces
element_counted s = record s { elements = s.elements + 1 }

-- The number of data segments that the data count section gives.
abbrev pub segments_counted : ℕ → IndexSpaces → IndexSpaces
segments_counted n s = record s { segments = n }

abbrev pub import_added : ImportDesc → IndexSpaces → Result IndexSpaces Why
import_added (desc.Func x) s = function_imported x s
import_added (desc.Table l) s = table_added l s
import_added (desc.Memory l) s = memory_added l s
import_added (desc.Global g) s = global_imported g s

-- The number of items of a kind.
abbrev pub one_if : Bool → ℕ
one_if true = 1
one_if false = 0

abbrev pub items_in : ExportKind → IndexSpaces → ℕ
items_in kind.Func s = length s.functions
items_in kind.Table s = one_if s.has_table
items_in kind.Memory s = one_if s.has_memory
items_in kind.Global s = length s.globals

-- `Index` if no item of this kind has the index.
abbrev pub index_check : ExportKind → ℕ → IndexSpaces → Result (Unit {0}) Why
index_check k x s = if nat_lt x (items_in k s) then Ok tt else Err why.Index

-- The function type has no parameters and no results.
abbrev pub is_plain : Signature → Bool
is_plain f = nat_eq (length f.params) 0 && nat_eq (length f.results) 0

abbrev pub plain : Option Signature → Result (Unit {0}) Why
plain None = Err why.Index
plain (Some f) = if is_plain f then Ok tt else Err why.StartType

-- The type index of the function whose code entry comes next.
abbrev pub next_type : IndexSpaces → Option ℕ
next_type s = slice_get s.functions (s.imported_functions + s.bodies)
