-- How the result of a reader in the code relates to its exact answer.
use Rattle.std.specs.Prelude.{◌≡◌, Option, Some, None, Result, Ok, Err}
use Rattle.wm_tokens.specs.declared.faults.TextWhy.{TextWhy}
use Rattle.wm_tokens.specs.declared.faults.TextWhy.TheVariants.{NotUtf8, BadToken, OpenComment, OpenString}
use Rattle.wm_tokens.specs.declared.faults.TextWhy.TheVariants.{BadEscape, Memory}
use Rattle.wm_tokens.specs.declared.faults.TextFault.{TextFault}

-- The name is neither `NotUtf8` nor that of a lexical error.
abbrev pub IsOfReaders : TextWhy → Type 0
IsOfReaders NotUtf8 = ⊥
IsOfReaders BadToken = ⊥
IsOfReaders OpenComment = ⊥
IsOfReaders OpenString = ⊥
IsOfReaders BadEscape = ⊥
IsOfReaders _ = Unit {0}

-- The exact answer is None, unless the name is `Memory`; and the name is neither `NotUtf8` nor that of a lexical error.
abbrev pub Fails : {Y : Type 0} → TextWhy → Option Y → Type 0
Fails Memory read = Unit {0}
Fails NotUtf8 read = ⊥
Fails BadToken read = ⊥
Fails OpenComment read = ⊥
Fails OpenString read = ⊥
Fails BadEscape read = ⊥
Fails _ read = read ≡ None

-- The result is the exact answer, through `view`; an error is one that `Fails` allows.
abbrev pub Reads : {X Y : Type 0} → (X → Y) → Result X TextFault → Option Y → Type 0
Reads view (Ok x) read = read ≡ Some (view x)
Reads view (Err e) read = Fails e.why read

-- The name is not `Memory`.
abbrev pub NotMemory : TextWhy → Type 0
NotMemory Memory = ⊥
NotMemory _ = Unit {0}

-- The name is neither `Memory` nor `NotUtf8` nor that of a lexical error.
abbrev pub IsRefusal : TextWhy → Type 0
IsRefusal Memory = ⊥
IsRefusal NotUtf8 = ⊥
IsRefusal BadToken = ⊥
IsRefusal OpenComment = ⊥
IsRefusal OpenString = ⊥
IsRefusal BadEscape = ⊥
IsRefusal _ = Unit {0}
