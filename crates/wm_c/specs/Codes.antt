-- The numbers of refusals, statuses and profiles in the C interface.
use Rattle.std.specs.Prelude.{◌≡◌, ◌⊎◌, ◌+◌, ◌*◌, ℕ, List, [], ◌∷◌}
use Rattle.wm_syntax.specs.declared.why.Why.{Why}
use Rattle.wm_syntax.specs.declared.why.Why.TheVariants.{Magic, Version, SectionId, SectionOrder, SectionEnd}
use Rattle.wm_syntax.specs.declared.why.Why.TheVariants.{BadNumber, BadUtf8, BadByte, Float, BadOpcode}
use Rattle.wm_syntax.specs.declared.why.Why.TheVariants.{Truncated, CodeCount, BodyEnd, TooManyLocals, Index}
use Rattle.wm_syntax.specs.declared.why.Why.TheVariants.{Mismatch, Arity, Limits, Second, DuplicateExport}
use Rattle.wm_syntax.specs.declared.why.Why.TheVariants.{StartType, NotConst, Immutable, Align, ElsePlace}
use Rattle.wm_syntax.specs.declared.why.Why.TheVariants.{TooLong, Memory, ManyFunctions, ManyLocals, Deep}
use Rattle.wm_syntax.specs.declared.why.Why.TheVariants.{DataCount}
use Rattle.wm_syntax.specs.declared.profile.Feature.{Feature}
use Rattle.wm_syntax.specs.declared.profile.Feature.TheVariants.{BulkMemory, Copies, Floats, LongIndex, Saturation, SignExtension}
use Rattle.wm_syntax.specs.declared.profile.Profile.{Profile}
use Rattle.wm_tokens.specs.declared.faults.TextWhy.{TextWhy}
use Rattle.wm_tokens.specs.declared.faults.TextWhy.TheVariants as text
use Rattle.wm_syntax.specs.Profiles.{AddsFeature, four, one, three, two}

-- The number of a refusal of a module. 0 means no refusal.
abbrev pub why_code : Why → ℕ
why_code Magic = 1
why_code Version = 2
why_code SectionId = 3
why_code SectionOrder = 4
why_code SectionEnd = 5
why_code BadNumber = 6
why_code BadUtf8 = 7
why_code BadByte = 8
why_code Float = 9
why_code BadOpcode = 10
why_code Truncated = 11
why_code CodeCount = 12
why_code BodyEnd = 13
why_code TooManyLocals = 14
why_code Index = 15
why_code Mismatch = 16
why_code Arity = 17
why_code Limits = 18
why_code Second = 19
why_code DuplicateExport = 20
why_code StartType = 21
why_code NotConst = 22
why_code Immutable = 23
why_code Align = 24
why_code ElsePlace = 25
why_code TooLong = 26
why_code Memory = 27
why_code ManyFunctions = 28
why_code ManyLocals = 29
why_code Deep = 30
why_code DataCount = 31

-- The status of a call that ends with this refusal of a module: 4 for `Memory`, and 1 for any other.
abbrev pub status_code : Why → ℕ
status_code Magic = 1
status_code Version = 1
status_code SectionId = 1
status_code SectionOrder = 1
status_code SectionEnd = 1
status_code BadNumber = 1
status_code BadUtf8 = 1
status_code BadByte = 1
status_code Float = 1
status_code BadOpcode = 1
status_code Truncated = 1
status_code CodeCount = 1
status_code BodyEnd = 1
status_code TooManyLocals = 1
status_code Index = 1
status_code Mismatch = 1
status_code Arity = 1
status_code Limits = 1
status_code Second = 1
status_code DuplicateExport = 1
status_code StartType = 1
status_code NotConst = 1
status_code Immutable = 1
status_code Align = 1
status_code ElsePlace = 1
status_code TooLong = 1
status_code Memory = 4
status_code ManyFunctions = 1
status_code ManyLocals = 1
status_code Deep = 1
status_code DataCount = 1

-- The number of a refusal of a text. 100 means a module with a section that is too large.
abbrev pub text_code : TextWhy → ℕ
text_code text.NotUtf8 = 101
text_code text.BadToken = 102
text_code text.OpenComment = 103
text_code text.OpenString = 104
text_code text.BadEscape = 105
text_code text.Expected = 106
text_code text.UnknownWord = 107
text_code text.BadInteger = 108
text_code text.BadName = 109
text_code text.UnknownId = 110
text_code text.RepeatedId = 111
text_code text.TypeUse = 112
text_code text.ImportPlace = 113
text_code text.SecondStart = 114
text_code text.NotConst = 115
text_code text.BadAlign = 116
text_code text.LabelEnd = 117
text_code text.TooManyLocals = 118
text_code text.Float = 119
text_code text.Memory = 120
text_code text.BadFloat = 121

-- The status of a call that ends with this refusal of a text: 4 for `Memory`, and 1 for any other.
abbrev pub text_status_code : TextWhy → ℕ
text_status_code text.NotUtf8 = 1
text_status_code text.BadToken = 1
text_status_code text.OpenComment = 1
text_status_code text.OpenString = 1
text_status_code text.BadEscape = 1
text_status_code text.Expected = 1
text_status_code text.UnknownWord = 1
text_status_code text.BadInteger = 1
text_status_code text.BadName = 1
text_status_code text.UnknownId = 1
text_status_code text.RepeatedId = 1
text_status_code text.TypeUse = 1
text_status_code text.ImportPlace = 1
text_status_code text.SecondStart = 1
text_status_code text.NotConst = 1
text_status_code text.BadAlign = 1
text_status_code text.LabelEnd = 1
text_status_code text.TooManyLocals = 1
text_status_code text.Float = 1
text_status_code text.Memory = 4
text_status_code text.BadFloat = 1

-- This number from 1 to 4 names this profile. Any other number names none.
pub record NumbersProfile (n : ℕ) (p : Profile) : Type 0 where
  pub is : ((n ≡ 1) × (p ≡ one)) ⊎ ((n ≡ 2) × (p ≡ two)) ⊎ ((n ≡ 3) × (p ≡ three)) ⊎ ((n ≡ 4) × (p ≡ four))

-- The feature of each bit of a profile's number, from the bit 0x100 up.
abbrev pub bit_features : List Feature
bit_features = SignExtension ∷ LongIndex ∷ Saturation ∷ Copies ∷ BulkMemory ∷ Floats ∷ []

-- The profile `p` is `base` with the features added whose bits are 1 in this number. The lowest bit is that of the first
-- feature. Each bit past the last feature is 0.
abbrev pub AddsBits : List Feature → Profile → ℕ → Profile → Type 0
AddsBits [] base bits p = (bits ≡ 0) × (p ≡ base)
AddsBits (feature ∷ features) base bits p = (more : ℕ)
    × (((bits ≡ 2 * more) × AddsBits features base more p)
    ⊎ ((bits ≡ 2 * more + 1) × ((q : Profile) × AddsFeature base feature q × AddsBits features q more p)))

-- This is a number of this profile: a number from 1 to 4, and the bits of features that are added to it. Any other number
-- is that of none.
pub record IsProfileCode (n : ℕ) (p : Profile) : Type 0 where
  pub low : ℕ
  pub bits : ℕ
  pub sum : n ≡ low + 256 * bits
  pub base : Profile
  pub numbered : NumbersProfile low base
  pub added : AddsBits bit_features base bits p
