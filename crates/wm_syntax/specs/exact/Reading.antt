-- The exact answers of the number readers.
use Rattle.std.specs.Prelude.{ℕ, Bool, ◌+◌, ◌-◌, ◌*◌, ◌^◌, ℤ, pos, ◌+ℤ◌, ◌-ℤ◌, ◌*ℤ◌, nat_lt, nat_le}
use Rattle.std.specs.Prelude.{if◌then◌else◌}
use Rattle.wm_syntax.specs.inner.Numbers.{Partial}
use Rattle.wm_syntax.specs.declared.numbers.Step.{Step}
use Rattle.wm_syntax.specs.declared.numbers.Step.TheVariants.{More, Done, Bad}

abbrev pub fresh : Partial
fresh = record { low = 0; count = 0 }

abbrev pub over : Partial
over = record { low = 0; count = 10 }

-- The answer to a byte that is not the last one.
abbrev pub go_on : {A : Type 0} → ℕ → Partial → ℕ → Step A × Partial
go_on bits r byte =
    if nat_lt (7 * r.count + 7) bits
    then (More, record { low = r.low + (byte - 2 ^ 7) * 2 ^ (7 * r.count); count = r.count + 1 })
    else (Bad, over)

-- The answer to the last byte, which is `Bad` if the byte is not allowed.
abbrev pub end_at : {A : Type 0} → Bool → A → Step A × Partial
end_at may v = if may then (Done v, over) else (Bad, over)

unfoldable pub unsigned_push : ℕ → Partial → ℕ → Step ℕ × Partial
unsigned_push bits r byte =
    if nat_lt (7 * r.count) bits
    then (if nat_lt byte (2 ^ 7)
    then end_at (nat_lt byte (2 ^ (bits - 7 * r.count))) (r.low + byte * 2 ^ (7 * r.count))
    else go_on bits r byte)
    else (Bad, over)

-- The number whose low bits were read, and whose last byte means `high`.
abbrev pub last_signed : Partial → ℤ → ℤ
last_signed r high = pos r.low +ℤ (pos (2 ^ (7 * r.count)) *ℤ high)

unfoldable pub signed_push : ℕ → Partial → ℕ → Step ℤ × Partial
signed_push bits r byte =
    if nat_lt (7 * r.count) bits
    then (if nat_lt byte (2 ^ 6)
    then end_at (nat_lt byte (2 ^ ((bits - 7 * r.count) - 1))) (last_signed r (pos byte))
    else (if nat_lt byte (2 ^ 7)
    then end_at (nat_le (2 ^ 7) (byte + 2 ^ ((bits - 7 * r.count) - 1)))
    (last_signed r (pos byte -ℤ pos (2 ^ 7)))
    else go_on bits r byte))
    else (Bad, over)
