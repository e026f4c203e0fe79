-- The places of bytes in a module that C gets.
use Rattle.std.specs.Prelude.{◌-◌, ◌^◌, ℕ, List, Option, Some, None}
use Rattle.wm_syntax.specs.declared.profile.Profile.{Profile}
use Rattle.wm_decode.specs.declared.place.awaits.Awaits.{Awaits}
use Rattle.wm_decode.specs.declared.place.awaits.Awaits.TheVariants as awaits
use Rattle.wm_decode.specs.declared.place.Place.{Place as PlaceOf}
use Rattle.wm_decode.specs.inner.Places.{place_after}
use Rattle.wm_c.specs.declared.place.Place.{Place}

-- The number of a field that has no value.
abbrev pub none : ℕ
none = 2 ^ 32 - 1

-- The place outside of all sections.
abbrev pub nowhere : Place
nowhere = record {
  section = none;
  item = none;
  index = none;
  awaits = 0;
  byte = none;
}

-- The number of a part of the format. 0 means no part.
abbrev pub awaits_code : Awaits → ℕ
awaits_code awaits.Number = 1
awaits_code awaits.Name = 2
awaits_code awaits.ValueType = 3
awaits_code awaits.BlockType = 4
awaits_code awaits.TypeForm = 5
awaits_code awaits.LimitsFlag = 6
awaits_code awaits.ElementType = 7
awaits_code awaits.Mutability = 8
awaits_code awaits.Opcode = 9
awaits_code awaits.TableByte = 10
awaits_code awaits.MemoryByte = 11
awaits_code awaits.Kind = 12
awaits_code awaits.Any = 13
awaits_code awaits.OpcodeNumber = 14

-- The numbers of a section and of a part of the format.
abbrev pub spot_numbers : ℕ × Awaits → ℕ × ℕ
spot_numbers x = (x.0, awaits_code x.1)

-- The number of a field that may have no value.
abbrev pub number_or_none : Option ℕ → ℕ
number_or_none None = none
number_or_none (Some n) = n

-- The numbers of a section, of a member of it, and of a part of the format.
abbrev pub place_numbers : Option PlaceOf → ℕ × ℕ × ℕ
place_numbers None = (none, none, 0)
place_numbers (Some x) = (x.section, number_or_none x.item, awaits_code x.awaits)

-- The numbers of the place of the byte after these bytes.
abbrev pub numbers_after : Profile → List ℕ → ℕ × ℕ × ℕ
numbers_after p bytes = place_numbers (place_after p bytes)

-- The numbers of the section, the member and the part of the format in a place.
abbrev pub numbers_in : Place → ℕ × ℕ × ℕ
numbers_in place = (place.section, place.item, place.awaits)
