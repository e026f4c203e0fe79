-- The effect of a fast path: it removes and pushes all that is asked, as `take_all` and `push` would, or it
-- changes nothing. Its answer says which.
use Rattle.std.specs.Prelude.{◌≡◌, Bool, true, false, List, Option, Some, None, Ok}
use Rattle.wm_syntax.specs.declared.types.ValType.{ValType}
use Rattle.wm_stacks.specs.declared.stack_entries.Entry.{Entry}
use Rattle.wm_stacks.specs.declared.stack_entries.Reach.TheVariants.{Whole}
use Rattle.wm_stacks.specs.Stack.{Stack}
use Rattle.wm_stacks.specs.exact.Stacks.{push, take_all}

-- The answer is true and s becomes z by `Does`, or it is false and nothing changes.
abbrev pub DoneOrLeft : {S : Type 0} → (S → S → Type 0) → Bool → S → S → Type 0
DoneOrLeft Does done s z = (done ≡ true → Does s z) × (done ≡ false → z ≡ s)

abbrev pub push_given : Option Entry → Stack → Stack
push_given None s = s
push_given (Some e) s = push e s

-- Operands of these types are removed, the first type from the top, and the given one is pushed, if any.
abbrev pub Replaces : List ValType → Option Entry → Stack → Stack → Type 0
Replaces ts given s z = ((take_all ts s).0 ≡ Ok Whole) × (z ≡ push_given given (take_all ts s).1)
