-- The parts of a number as the code holds them, and the same number as the kit reads it.
use Rattle.std.specs.Prelude.{◌≡◌, ℕ, ◌<◌, true, false, List, [], ◌∷◌, ◌++◌, length}
use Rattle.std.specs.Str.Parse.{AllDigits}
use Rattle.fast_float.specs.Text.{exponent_text}
use Rattle.fast_float.specs.Text as kit
use Rattle.wm_floats.specs.declared.parts.Parts.{Parts}
use Rattle.wm_floats.specs.exact.Atoms.{Numeral, plain}

abbrev pub parts_of : Parts → Numeral
parts_of p = record {
  whole = p.whole.now;
  part = p.part.now;
  negative = p.negative;
  exponent = p.exponent.now;
}

-- The parts are digits, apart from underscores. An exponent that is left out is not negative.
pub record HasDigits (base : ℕ) (n : Numeral) : Type 0 where
  pub whole : AllDigits base (plain n.whole)
  pub part : AllDigits base (plain n.part)
  pub exponent : AllDigits 10 (plain n.exponent)
  pub some : 0 < length n.exponent → 0 < length (plain n.exponent)
  pub none : plain n.exponent ≡ [] → n.negative ≡ false

-- The text that the kit reads: always with a point, and without underscores.
abbrev pub kit_text : Numeral → List ℕ
kit_text n = plain n.whole ++ ((46 ∷ plain n.part) ++ exponent_text n.negative (plain n.exponent))

abbrev pub kit_parts : Numeral → kit.Parts
kit_parts n = record {
  whole = plain n.whole;
  point = true;
  fraction = plain n.part;
  exponent_negative = n.negative;
  exponent = plain n.exponent;
  len = length (kit_text n);
}
