-- The names that a reader gives if no token is left.
use Rattle.std.specs.Prelude.{Bool, true, false}
use Rattle.wm_tokens.specs.declared.faults.TextWhy.{TextWhy}
use Rattle.wm_tokens.specs.declared.faults.TextWhy.TheVariants.{Expected, Memory}

-- Another token is needed, or memory ran out.
abbrev pub can_end : TextWhy → Bool
can_end Expected = true
can_end Memory = true
can_end _ = false
