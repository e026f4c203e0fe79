-- The answers of a profile and of one that extends it, and the items that a profile has.
use Rattle.std.specs.Prelude.{◌≡◌, ◌≤◌, ◌⊎◌, IsFalse, IsTrue, Result, Err, List, Option, Some, ℕ}
use Rattle.wm_syntax.specs.declared.profile.Profile.{Profile}
use Rattle.wm_syntax.specs.declared.why.Why.{Why}
use Rattle.wm_syntax.specs.declared.why.Why.TheVariants as why
use Rattle.wm_syntax.specs.declared.profile.Feature.TheVariants.{BulkMemory, LongIndex}
use Rattle.std.specs.List.{AllByRecursion}
use Rattle.wm_syntax.specs.Profiles.{has, HasDesc, HasType, IsOpOf}
use Rattle.wm_machine.specs.declared.refusal.Refusal.{Refusal}
use Rattle.wm_machine.specs.Items.{Item, param, one_result, import_desc, global, const_op, data_count, locals, body_op}
use Rattle.wm_machine.specs.Items.{passive_element, passive_segment}

-- The names of a refusal under the profile p that q, which extends p, may not give: a byte that begins nothing of p may
-- begin something of q. `BadByte` is one only where q has `LongIndex` and p does not, for a table index of several bytes.
abbrev pub IsProfileName : Profile → Profile → Why → Type 0
IsProfileName p q why.Float = Unit {0}
IsProfileName p q why.BadOpcode = Unit {0}
IsProfileName p q why.BadByte = IsTrue (has q LongIndex) × IsFalse (has p LongIndex)
IsProfileName p q w = ⊥

-- Both profiles encode each instruction alike: both have `LongIndex`, or neither has.
abbrev pub EncodeAlike : Profile → Profile → Type 0
EncodeAlike p q = has p LongIndex ≡ has q LongIndex

-- Both profiles read the front of a segment alike: both have `BulkMemory`, or neither has.
abbrev pub ReadSegmentsAlike : Profile → Profile → Type 0
ReadSegmentsAlike p q = has p BulkMemory ≡ has q BulkMemory

-- The answers to one input under the profiles p and q, of which q extends p. They are equal, or the first refuses by one
-- of the names above. Then the second refuses no earlier, if at all.
abbrev pub SameUpToProfile : {A : Type 0} → Profile → Profile → Result A Refusal → Result A Refusal → Type 0
SameUpToProfile p q first second =
    (first ≡ second)
    ⊎ ((r : Refusal) × (first ≡ Err r) × IsProfileName p q r.why
    × ((other : Refusal) → second ≡ Err other → r.at ≤ other.at))

-- The fronts of segments with these indices of tables or memories have the same bytes under both profiles: both read them
-- alike, or each of the segments is an active one with the index 0.
abbrev pub FrontsAlike : Profile → Profile → List (Option ℕ) → Type 0
FrontsAlike p q indices = ReadSegmentsAlike p q ⊎ AllByRecursion (λ x. x ≡ Some 0) indices

-- the profile has the item: its value type, its instruction with its block type, the data count section, or a passive
-- segment; it has all other items
abbrev pub HasItem : Profile → Item → Type 0
HasItem p (param t) = HasType p t
HasItem p (one_result t) = HasType p t
HasItem p (import_desc d) = HasDesc p d
HasItem p (global g) = HasType p g.ty
HasItem p (const_op o) = IsOpOf p o
HasItem p (data_count n) = IsTrue (has p BulkMemory)
HasItem p (locals n t) = HasType p t
HasItem p (body_op o) = IsOpOf p o
HasItem p passive_element = IsTrue (has p BulkMemory)
HasItem p passive_segment = IsTrue (has p BulkMemory)
HasItem p _ = Unit {0}
