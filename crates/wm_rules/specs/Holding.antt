-- The state of a checker in the middle of a module.
use Rattle.std.specs.Prelude.{ℕ, Bool, List, Option}
use Rattle.wm_syntax.specs.declared.types.GlobalType.{GlobalType}
use Rattle.wm_syntax.specs.Types.{Signature}
use Rattle.wm_typing.specs.declared.stats.BodyStats.{BodyStats}
use Rattle.wm_typing.specs.Bodies.{Body}
use Rattle.wm_rules.specs.declared.constants.Constant.{Constant}

-- The index spaces so far. Imported functions and globals come first. `functions` has the type index of each
-- function, `bodies` is the number of code entries, and `elements` is that of element segments. `segments` is the number
-- in the data count section, or 0. Core spec 2.5.1, WebAssembly 2.0 5.5.15.
pub record IndexSpaces : Type 0 where
  pub types : List Signature
  pub functions : List ℕ
  pub globals : List GlobalType
  pub imported_functions : ℕ
  pub imported_globals : ℕ
  pub bodies : ℕ
  pub has_table : Bool
  pub has_memory : Bool
  pub elements : ℕ
  pub segments : ℕ

-- The state of a checker. `names` has the export names, in the order of their bytes. `constant` is the constant
-- expression at hand. `body` is the body at hand, or the last one. `most` has the greatest figures of the
-- bodies that have ended.
pub record Held : Type 0 where
  pub spaces : IndexSpaces
  pub names : List (List ℕ)
  pub constant : Option Constant
  pub body : Body
  pub in_body : Bool
  pub most : BodyStats
