-- The operands of one frame, topmost first, and the effect of an instruction on them.
use Rattle.std.proofs.Common.{Bool, true, false, List, [], ◌∷◌, ◌++◌, Option, Some, None, reverse, map, if◌then◌else◌}
use Rattle.wm_syntax.specs.declared.types.ValType.{ValType}
use Rattle.wm_syntax.specs.declared.types.ValType.TheVariants.{I32}
use Rattle.wm_stacks.specs.declared.stack_entries.Entry.{Entry}
use Rattle.wm_stacks.specs.declared.stack_entries.Entry.TheVariants.{Unknown}
use Rattle.wm_stacks.specs.Stack.{fits}
use Rattle.wm_typing.specs.exact.OperandTypes.{entry_of_type, join}
use Rattle.wm_typing.specs.exact.Effects.{Effect, fixed, indirect, is_polymorphic, drops, selects, ill}
use Rattle.wm_typing.specs.inner.Frames.{Pile}

-- how a take ends: with these operands left, at the floor of an unreachable frame, or refused
pub data Take : Type 0 where
  whole : List Entry → Take
  floor : Take
  refused : Take

abbrev pub at_floor : Bool → Take
at_floor true = floor
at_floor false = refused

-- takes the types, the top first
abbrev pub take_types : Bool → List Entry → List ValType → Take
take_types un es [] = whole es
take_types un [] (t ∷ ts) = at_floor un
take_types un (e ∷ es) (t ∷ ts) = if fits e t then take_types un es ts else refused

abbrev pub after_take : Bool → List Entry → Take → Option Pile
after_take un given (whole es) = Some (record { dead = un; entries = given ++ es })
after_take un given floor = Some (record { dead = true; entries = given })
after_take un given refused = None

abbrev pub cut_after : Take → Option Pile
cut_after (whole es) = Some (record { dead = true; entries = [] })
cut_after floor = Some (record { dead = true; entries = [] })
cut_after refused = None

abbrev pub if_dead : Bool → List Entry → Option Pile
if_dead true es = Some (record { dead = true; entries = es })
if_dead false es = None

abbrev pub take_any : Bool → List Entry → Option Pile
take_any un [] = if_dead un []
take_any un (e ∷ es) = Some (record { dead = un; entries = es })

abbrev pub joined : Bool → List Entry → Option Entry → Option Pile
joined un es None = None
joined un es (Some e) = Some (record { dead = un; entries = e ∷ es })

abbrev pub take_two : Bool → List Entry → Option Pile
take_two un [] = if_dead un (Unknown ∷ [])
take_two un (a ∷ []) = if_dead un (a ∷ [])
take_two un (a ∷ b ∷ es) = joined un es (join a b)

abbrev pub select_after : Bool → Take → Option Pile
select_after un (whole es) = take_two un es
select_after un floor = Some (record { dead = true; entries = Unknown ∷ [] })
select_after un refused = None

abbrev pub apply : Effect → Pile → Option Pile
apply (fixed p q) f = after_take f.dead (map entry_of_type (reverse q)) (take_types f.dead f.entries (reverse p))
apply (indirect p q) f = after_take f.dead (map entry_of_type (reverse q)) (take_types f.dead f.entries (reverse (p ++ I32 ∷ [])))
apply (is_polymorphic p) f = cut_after (take_types f.dead f.entries (reverse p))
apply drops f = take_any f.dead f.entries
apply selects f = select_after f.dead (take_types f.dead f.entries (I32 ∷ []))
apply (ill w) f = None
