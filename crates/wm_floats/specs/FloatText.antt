-- The text of floats (Core spec 6.3.2): which bits an atom denotes.
use Rattle.std.specs.Prelude.{◌≡◌, ◌⊎◌, ℕ, ◌+◌, ◌-◌, ◌*◌, ◌^◌, ◌<◌, List, [], ◌∷◌, ◌++◌, length, codes}
use Rattle.wm_syntax.specs.Spelling.{Form, Byte, Exactly, ◌▸◌, ◌∣◌}
use Rattle.wm_syntax.specs.declared.instructions.FloatType.{FloatType}
use Rattle.wm_floats.specs.Digits.{Digits, value}
use Rattle.wm_syntax.specs.Floats.{signif, expon}
use Rattle.wm_floats.specs.Nearest.{infinity, IsNearest}

-- The fractional part: a point and the digits after it, a point alone, or nothing.
abbrev pub Fraction : ℕ → List ℕ → Form ℕ
Fraction base [] = Exactly [] ∣ Byte 46
Fraction base (d ∷ ds) = Byte 46 ▸ Digits base (d ∷ ds)

-- The exponent: one of two letters, a sign or none, and decimal digits; or nothing. It says how often to
-- multiply by the base (`up`) or to divide by it (`down`).
abbrev pub Exponent : ℕ → ℕ → ℕ → ℕ → Form ℕ
Exponent lower upper up down b =
    ((up ≡ 0) × (down ≡ 0) × (b ≡ []))
    ⊎ ((ds : List ℕ) × (up ≡ value 10 ds) × (down ≡ 0)
    × ((Byte lower ∣ Byte upper) ▸ (Exactly [] ∣ Byte 43) ▸ Digits 10 ds) b)
    ⊎ ((ds : List ℕ) × (up ≡ 0) × (down ≡ value 10 ds)
    × ((Byte lower ∣ Byte upper) ▸ Byte 45 ▸ Digits 10 ds) b)

-- A number whose value is the fraction num / den (float and hexfloat). Without a point and an exponent it is
-- an integer.
abbrev pub IsDecimal : ℕ → ℕ → Form ℕ
IsDecimal num den b =
    (whole part : List ℕ) × (up down : ℕ) × (num ≡ value 10 (whole ++ part) * 10 ^ up)
    × (den ≡ 10 ^ (length part + down)) × (Digits 10 whole ▸ Fraction 10 part ▸ Exponent 101 69 up down) b

abbrev pub IsHexadecimal : ℕ → ℕ → Form ℕ
IsHexadecimal num den b =
    (whole part : List ℕ) × (up down : ℕ) × (num ≡ value 16 (whole ++ part) * 2 ^ up)
    × (den ≡ 16 ^ length part * 2 ^ down)
    × (Exactly (codes "0x") ▸ Digits 16 whole ▸ Fraction 16 part ▸ Exponent 112 80 up down) b

abbrev pub IsFraction : ℕ → ℕ → Form ℕ
IsFraction num den = IsDecimal num den ∣ IsHexadecimal num den

-- A NaN with a payload: nan:0x and hexadecimal digits.
abbrev pub IsPayload : ℕ → Form ℕ
IsPayload n b = (ds : List ℕ) × (n ≡ value 16 ds) × (Exactly (codes "nan:0x") ▸ Digits 16 ds) b

-- A float without a sign (fNmag): the bits nearest to a number, an infinity, or a NaN. A NaN without digits
-- is the canonical one. Digits are the payload n of a NaN, with 0 < n < 2 ^ signif.
abbrev pub IsMagnitude : FloatType → ℕ → Form ℕ
IsMagnitude w bits b =
    ((num den : ℕ) × IsFraction num den b × IsNearest w num den bits)
    ⊎ ((bits ≡ infinity w) × (b ≡ codes "inf"))
    ⊎ ((bits ≡ infinity w + 2 ^ (signif w - 1)) × (b ≡ codes "nan"))
    ⊎ ((n : ℕ) × (0 < n) × (n < 2 ^ signif w) × (bits ≡ infinity w + n) × IsPayload n b)

-- A float (fN): its bits, the topmost of which is the sign.
abbrev pub IsFloat : FloatType → ℕ → Form ℕ
IsFloat w bits b =
    ((Exactly [] ∣ Byte 43) ▸ IsMagnitude w bits) b
    ⊎ ((size : ℕ) × (bits ≡ 2 ^ (signif w + expon w) + size) × (Byte 45 ▸ IsMagnitude w size) b)

-- The form of a float without a sign, at any width: a number, inf, or a NaN with any payload or none.
abbrev pub HasForm : Form ℕ
HasForm b =
    ((num den : ℕ) × IsFraction num den b) ⊎ (b ≡ codes "inf") ⊎ (b ≡ codes "nan") ⊎ ((n : ℕ) × IsPayload n b)
