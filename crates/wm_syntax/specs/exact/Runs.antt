-- The exact answer of adding a run of locals, as a function of the list of types, refusals included. It
-- follows the code for the layers above, whose answers are functions of their input. No promise rests on it
-- alone.
use Rattle.std.specs.Prelude.{ℕ, ◌+◌, ◌^◌, List, ◌++◌, Result, Ok, Err, length, replicate, nat_lt}
use Rattle.std.specs.Prelude.{if◌then◌else◌}
use Rattle.wm_syntax.specs.declared.types.ValType.{ValType}
use Rattle.wm_syntax.specs.declared.why.Why.{Why}
use Rattle.wm_syntax.specs.declared.why.Why.TheVariants.{TooManyLocals}

abbrev pub add_run : ℕ → ValType → List ValType → Result (List ValType) Why
add_run count t ts = if nat_lt (length ts + count) (2 ^ 32) then Ok (ts ++ replicate count t)
    else Err TooManyLocals
