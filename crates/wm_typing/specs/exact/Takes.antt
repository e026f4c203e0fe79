-- The operands that an instruction of a fixed type takes, as a list.
use Rattle.std.specs.Prelude.{List, [], ◌∷◌}
use Rattle.wm_syntax.specs.declared.types.ValType.{ValType}
use Rattle.wm_typing.specs.declared.instructions.Takes.{Takes}
use Rattle.wm_typing.specs.declared.instructions.Takes.TheVariants.{Nothing, One, Two}

abbrev pub taken_types : Takes → List ValType
taken_types Nothing = []
taken_types (One t) = t ∷ []
taken_types (Two t u) = t ∷ u ∷ []
