-- The printed text of a float, from its bits. It is hexadecimal, and therefore exact (Core spec 6.3.2).
use Rattle.std.specs.Prelude.{ℕ, zero, suc, ◌+◌, ◌-◌, ◌*◌, ◌/◌, ◌%◌, ◌^◌, ◌==◌, List, [], ◌∷◌, ◌++◌, codes}
use Rattle.std.specs.Prelude.{decimal, if◌then◌else◌, nat_le, nat_lt}
use Rattle.wm_syntax.specs.declared.instructions.FloatType.{FloatType}
use Rattle.wm_syntax.specs.Floats.{signif, expon}

-- The character of a hexadecimal digit, in lower case.
abbrev pub hex_digit : ℕ → ℕ
hex_digit n = if nat_lt n 10 then 48 + n else 87 + n

-- The hexadecimal digits of a number of at most k digits, without leading zeros; none for 0.
unfoldable pub hexadecimal : ℕ → ℕ → List ℕ
hexadecimal zero n = []
hexadecimal (suc k) n = if n == 0 then [] else hexadecimal k (n / 16) ++ hex_digit (n % 16) ∷ []

-- The hexadecimal digits of the fraction n / 16^13 after the point, at most k of them, without trailing zeros.
unfoldable pub places : ℕ → ℕ → List ℕ
places zero n = []
places (suc k) n = if n == 0 then [] else hex_digit (n / 16 ^ 12) ∷ places k (n % 16 ^ 12 * 16)

-- A point and the digits of the fraction n / 16^13; nothing for 0.
abbrev pub fraction_text : ℕ → List ℕ
fraction_text n = if n == 0 then [] else 46 ∷ places 13 n

-- The exponent of 2 in decimal, always with a sign. e is the biased exponent: the sum of exponent and bias.
abbrev pub exponent_text : ℕ → ℕ → List ℕ
exponent_text bias e =
    if nat_le bias e then codes "p+" ++ decimal (e - bias) else codes "p-" ++ decimal (bias - e)

-- The digit before the point, the fraction n / 16^13, and the exponent.
abbrev pub scaled_text : List ℕ → ℕ → ℕ → ℕ → List ℕ
scaled_text first n bias e = first ++ (fraction_text n ++ exponent_text bias e)

-- A finite number: zero, a subnormal number, or a normal number. Subnormals have the least exponent of normal ones.
abbrev pub finite_text : ℕ → ℕ → ℕ → List ℕ
finite_text n bias e =
    if e == 0 then (if n == 0 then codes "0x0p+0" else scaled_text (codes "0x0") n bias 1)
    else scaled_text (codes "0x1") n bias e

-- An infinity, or a NaN with its payload.
abbrev pub special_text : ℕ → List ℕ
special_text payload = if payload == 0 then codes "inf" else codes "nan:0x" ++ hexadecimal 16 payload

-- A minus if the sign bit is set. half is the weight of that bit.
abbrev pub sign_text : ℕ → ℕ → List ℕ
sign_text half bits = if nat_le half bits then 45 ∷ [] else []

-- The text after the sign, given the biased exponent e and the fraction f. Infinities and NaNs have the greatest e.
abbrev pub size_text : FloatType → ℕ → ℕ → List ℕ
size_text t e f =
    if e == 2 ^ expon t - 1 then special_text f
    else finite_text (f * 2 ^ (52 - signif t)) (2 ^ (expon t - 1) - 1) e

-- The text of a float of type t with these bits.
unfoldable pub float_text : FloatType → ℕ → List ℕ
float_text t bits =
    sign_text (2 ^ (expon t + signif t)) bits
    ++ size_text t (bits / 2 ^ signif t % 2 ^ expon t) (bits % 2 ^ signif t)
