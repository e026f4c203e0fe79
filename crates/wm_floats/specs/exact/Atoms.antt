-- The text of a float, read from its first byte to its last.
use Rattle.std.specs.Prelude.{ℕ, ◌+◌, ◌-◌, ◌*◌, ◌^◌, ◌==◌, ◌&&◌, ◌||◌, List, [], ◌∷◌, ◌++◌, Bool, true, false}
use Rattle.std.specs.Prelude.{Option, Some, None, if◌then◌else◌, is_some, length, codes, nat_lt}
use Rattle.std.specs.Option.{option_map}
use Rattle.std.specs.Char.{is_digit}
use Rattle.std.specs.Str.Parse.{digits_value}
use lib.Ieee.{to_bits, round}
use Rattle.wm_syntax.specs.declared.instructions.FloatType.{FloatType}
use Rattle.wm_syntax.specs.Floats.{signif, expon}
use Rattle.wm_floats.specs.Nearest.{infinity}
use Rattle.wm_floats.specs.inner.Kit.{format_of}

infixl 10 ◌>>=◌
abbrev pub ◌>>=◌ : {A B : Type 0} → Option A → (A → Option B) → Option B
(Some x) >>= f = f x
None >>= f = None

-- ---- digits

-- Whether a text is digits with single underscores between them, given whether a digit precedes it.
abbrev pub are_digits : ℕ → Bool → List ℕ → Bool
are_digits base after [] = after
are_digits base after (c ∷ b) = if (c == 95) && after then are_digits base false b
    else if is_digit c base then are_digits base true b else false

-- Whether a digit is last after one more byte, or none if this byte is not allowed.
unfoldable pub next_after : ℕ → Bool → ℕ → Option Bool
next_after base after c =
    if (c == 95) && after then Some false else if is_digit c base then Some true else None

-- Whether a text is empty, or digits with single underscores between them.
abbrev pub are_digits_or_none : ℕ → List ℕ → Bool
are_digits_or_none base [] = true
are_digits_or_none base (c ∷ b) = are_digits base false (c ∷ b)

-- The digits without the underscores.
abbrev pub plain : List ℕ → List ℕ
plain [] = []
plain (c ∷ b) = if c == 95 then plain b else c ∷ plain b

-- ---- the parts of a number

-- Whether a byte is one of these two.
abbrev pub is_mark : ℕ → ℕ → ℕ → Bool
is_mark x y c = (c == x) || (c == y)

-- The text before the first of these two bytes, and the text from it on.
abbrev pub cut : ℕ → ℕ → List ℕ → List ℕ × List ℕ
cut x y [] = ([], [])
cut x y (c ∷ b) = if is_mark x y c then ([], c ∷ b) else (c ∷ (cut x y b).0, (cut x y b).1)

-- The text after its first byte.
abbrev pub tail : List ℕ → List ℕ
tail [] = []
tail (c ∷ b) = b

-- The digits before a point and after it.
abbrev pub both_sides : ℕ → List ℕ → List ℕ → Option (List ℕ × List ℕ)
both_sides base whole part =
    if are_digits base false whole then (if are_digits_or_none base part then Some (whole, part) else None)
    else None

abbrev pub around_point : ℕ → List ℕ → Option (List ℕ × List ℕ)
around_point base b = both_sides base (cut 46 46 b).0 (tail (cut 46 46 b).1)

-- Whether a number is negative, and its digits.
abbrev pub signed : List ℕ → Bool × List ℕ
signed [] = (false, [])
signed (c ∷ b) = if c == 43 then (false, b) else if c == 45 then (true, b) else (false, c ∷ b)

-- An exponent, from its letter on. An empty text is no exponent, with no digits.
abbrev pub exponent_of : List ℕ → Option (Bool × List ℕ)
exponent_of [] = Some (false, [])
exponent_of (c ∷ b) = if are_digits 10 false (signed b).1 then Some (signed b) else None

pub record Numeral : Type 0 where
  pub whole : List ℕ
  pub part : List ℕ
  pub negative : Bool
  pub exponent : List ℕ

abbrev pub with_exponent : List ℕ × List ℕ → Bool × List ℕ → Numeral
with_exponent x e = record { whole = x.0; part = x.1; negative = e.0; exponent = e.1 }

-- A number without a sign, whose exponent begins with either of these letters.
abbrev pub numeral_of : ℕ → ℕ → ℕ → List ℕ → Option Numeral
numeral_of base lower upper b =
    around_point base (cut lower upper b).0 >>= λ x. exponent_of (cut lower upper b).1
    >>= λ e. Some (with_exponent x e)

-- ---- their values

abbrev pub digits_of : Numeral → List ℕ
digits_of n = plain n.whole ++ plain n.part

abbrev pub places : Numeral → ℕ
places n = length (plain n.part)

abbrev pub size_of : Numeral → ℕ
size_of n = digits_value 10 (plain n.exponent)

abbrev pub up : Numeral → ℕ
up n = if n.negative then 0 else size_of n

abbrev pub down : Numeral → ℕ
down n = if n.negative then size_of n else 0

-- ---- their bits

abbrev pub finite : FloatType → ℕ → Option ℕ
finite w bits = if nat_lt bits (infinity w) then Some bits else None

-- The bits of the float nearest to a fraction, if it is no infinity.
unfoldable pub nearest : FloatType → ℕ → ℕ → Option ℕ
nearest w num den = finite w (to_bits (format_of w) (round (format_of w) false num den))

abbrev pub decimal_bits : FloatType → Numeral → Option ℕ
decimal_bits w n = nearest w (digits_value 10 (digits_of n) * 10 ^ up n) (10 ^ (places n + down n))

abbrev pub hexadecimal_bits : FloatType → Numeral → Option ℕ
hexadecimal_bits w n = nearest w (digits_value 16 (digits_of n) * 2 ^ up n) (16 ^ places n * 2 ^ down n)

-- The bits of a NaN with this payload, if it is in range.
abbrev pub payload_bits : FloatType → ℕ → Option ℕ
payload_bits w n =
    if nat_lt 0 n then (if nat_lt n (2 ^ signif w) then Some (infinity w + n) else None) else None

abbrev pub nan_bits : FloatType → List ℕ → Option ℕ
nan_bits w b = if are_digits 16 false b then payload_bits w (digits_value 16 (plain b)) else None

-- ---- atoms

-- The text after this word, if it begins with the word.
abbrev pub behind : List ℕ → List ℕ → Option (List ℕ)
behind [] b = Some b
behind (c ∷ word) [] = None
behind (c ∷ word) (d ∷ b) = if c == d then behind word b else None

abbrev pub is_over : Option (List ℕ) → Bool
is_over None = false
is_over (Some []) = true
is_over (Some (c ∷ b)) = false

abbrev pub is_just : List ℕ → List ℕ → Bool
is_just word b = is_over (behind word b)

abbrev pub decimal_of : FloatType → List ℕ → Option ℕ
decimal_of w b = numeral_of 10 101 69 b >>= λ n. decimal_bits w n

-- A hexadecimal number, given the text after its 0x.
abbrev pub hexadecimal_of : FloatType → List ℕ → Option ℕ
hexadecimal_of w digits = numeral_of 16 112 80 digits >>= λ n. hexadecimal_bits w n

abbrev pub number_by : FloatType → Option (List ℕ) → List ℕ → Option ℕ
number_by w None b = decimal_of w b
number_by w (Some digits) b = hexadecimal_of w digits

abbrev pub number_bits : FloatType → List ℕ → Option ℕ
number_bits w b = number_by w (behind (codes "0x") b) b

abbrev pub payload_or_number : FloatType → Option (List ℕ) → List ℕ → Option ℕ
payload_or_number w None b = number_bits w b
payload_or_number w (Some digits) b = nan_bits w digits

abbrev pub magnitude_of : FloatType → List ℕ → Option ℕ
magnitude_of w b =
    if is_just (codes "inf") b then Some (infinity w)
    else if is_just (codes "nan") b then Some (infinity w + 2 ^ (signif w - 1))
    else payload_or_number w (behind (codes "nan:0x") b) b

abbrev pub below_zero : FloatType → ℕ → ℕ
below_zero w size = 2 ^ (signif w + expon w) + size

-- The bits that an atom denotes.
unfoldable pub float_of : FloatType → List ℕ → Option ℕ
float_of w [] = None
float_of w (c ∷ b) = if c == 43 then magnitude_of w b
    else if c == 45 then option_map (below_zero w) (magnitude_of w b) else magnitude_of w (c ∷ b)

-- ---- forms

abbrev pub is_number_by : Option (List ℕ) → List ℕ → Bool
is_number_by None b = is_some (numeral_of 10 101 69 b)
is_number_by (Some digits) b = is_some (numeral_of 16 112 80 digits)

-- Whether an atom is a number without a sign.
abbrev pub is_number : List ℕ → Bool
is_number b = is_number_by (behind (codes "0x") b) b

abbrev pub is_payload_or_number : Option (List ℕ) → List ℕ → Bool
is_payload_or_number None b = is_number b
is_payload_or_number (Some digits) b = are_digits 16 false digits

-- Whether an atom has the form of a float without a sign.
unfoldable pub has_form : List ℕ → Bool
has_form b = if is_just (codes "inf") b then true else if is_just (codes "nan") b then true
    else is_payload_or_number (behind (codes "nan:0x") b) b
