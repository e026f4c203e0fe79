-- The state of a function's declared locals, and the results of searches that are remembered.
use Rattle.std.specs.Prelude.{ℕ, zero, suc, ◌≡◌, ◌<◌, List, max}
use Rattle.std.specs.Int.{bit_at}
use Rattle.wm_syntax.specs.declared.types.ValType.{ValType}
use Rattle.wm_syntax.specs.declared.types.ValType.TheVariants.{I32, I64}
use Rattle.wm_typing.specs.declared.known_locals.KnownLocals.{KnownLocals}

-- The types of the declared locals, and the greatest number of runs that one search read.
pub record Declared : Type 0 where
  pub types : List ValType
  pub probes : ℕ

-- The state after a search that read `n` runs.
abbrev pub with_probes : ℕ → Declared → Declared
with_probes n d = record { types = d.types; probes = max d.probes n }

abbrev pub type_of_bit : ℕ → ValType
type_of_bit zero = I32
type_of_bit (suc n) = I64

-- The local with this index is one of the first 64, a search found it, and it has this type.
pub record Knows (k : KnownLocals) (index : ℕ) (t : ValType) : Type 0 where
  pub first : index < 64
  pub noted : bit_at k.known index ≡ 1
  pub ty : t ≡ type_of_bit (bit_at k.wide index)
