-- The context of a module and the context of a body. Core spec 3.1.1 and 3.4.1.
use Rattle.std.specs.Prelude.{ℕ, ◌<◌, ◌≤◌, List, [], ◌∷◌, ◌++◌, Bool, Option, Some, None, length, slice_get}
use Rattle.std.specs.List.{AllByRecursion}
use Rattle.wm_syntax.specs.declared.types.ValType.{ValType}
use Rattle.wm_syntax.specs.declared.types.GlobalType.{GlobalType}
use Rattle.wm_syntax.specs.Types.{Signature}
use Rattle.wm_typing.specs.Typing.{Context}

-- The context that the functions of a module share. It has no locals, labels and result, since no body is open.
abbrev pub context : List Signature → List ℕ → List GlobalType → Bool → Bool → ℕ → ℕ → Context
context types functions globals table memory elements segments = record {
  types = types;
  functions = functions;
  globals = globals;
  has_table = table;
  has_memory = memory;
  elements = elements;
  segments = segments;
  locals = [];
  labels = [];
  result = None;
}

-- Each type has at most one result, and each function has a type.
pub record AreTypes (types : List Signature) (functions : List ℕ) : Type 0 where
  pub results : AllByRecursion (λ f. length f.results ≤ 1) types
  pub indices : AllByRecursion (λ x. x < length types) functions

abbrev pub first_of : {A : Type 0} → List A → Option A
first_of [] = None
first_of (x ∷ xs) = Some x

abbrev pub params_in : Option Signature → List ValType
params_in None = []
params_in (Some f) = f.params

abbrev pub result_in : Option Signature → Option ValType
result_in None = None
result_in (Some f) = first_of f.results

-- The parameters (`params_of`) and the result (`result_of`) of the type with this index.
abbrev pub params_of : Context → ℕ → List ValType
params_of c x = params_in (slice_get c.types x)

abbrev pub result_of : Context → ℕ → Option ValType
result_of c x = result_in (slice_get c.types x)

-- The context in which the body of a function is typed. Its locals are the parameters of its type, then the
-- declared locals. Its result is also its one label. Core spec 3.4.1.
abbrev pub in_function : Context → ℕ → Option ValType → List ValType → Context
in_function c x result declared =
    record c { locals = params_of c x ++ declared; labels = result ∷ []; result = result }

abbrev pub body_context : Context → ℕ → List ValType → Context
body_context c x declared = in_function c x (result_of c x) declared
