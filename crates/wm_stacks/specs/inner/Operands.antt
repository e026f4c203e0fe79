-- Operands, given by their kinds and widths.
use Rattle.std.specs.Prelude.{ℕ, ◌≡◌, ◌≤◌, Bool, true, false, List, [], ◌∷◌, ◌++◌, Option, Some, None, length}
use Rattle.std.specs.Prelude.{option_to_list}
use Rattle.wm_syntax.specs.declared.types.ValType.{ValType}
use Rattle.wm_stacks.specs.Stack.{AgreeAll}
use Rattle.wm_stacks.specs.declared.stack_entries.Entry.{Entry}
use Rattle.wm_stacks.specs.declared.stack_entries.Entry.TheVariants as entry
use Rattle.wm_stacks.specs.declared.words.Kind.{Kind}
use Rattle.wm_stacks.specs.declared.words.Kind.TheVariants.{I32, I64, Unknown, Float}
use Rattle.wm_stacks.specs.declared.widths.Widths.{Widths}
use Rattle.wm_stacks.specs.exact.Words.{Kinds}
use Rattle.wm_stacks.specs.inner.Widths.{is_wide}

-- The operands of a body, the topmost first, and the floor of its innermost frame.
pub record Floored : Type 0 where
  pub entries : List Entry
  pub floor : ℕ

abbrev pub kind_of : Entry → Kind
kind_of entry.I32 = I32
kind_of entry.I64 = I64
kind_of entry.F32 = Float
kind_of entry.F64 = Float
kind_of entry.Unknown = Unknown

-- The entry of this kind. If it is a float, it is an f64 if `wide` is set, else an f32.
abbrev pub entry_of : Kind → Bool → Entry
entry_of I32 wide = entry.I32
entry_of I64 wide = entry.I64
entry_of Unknown wide = entry.Unknown
entry_of Float true = entry.F64
entry_of Float false = entry.F32

-- If a float is given, it has this width.
abbrev pub IsTold : Option Entry → Bool → Type 0
IsTold None wide = Unit {0}
IsTold (Some e) wide = entry_of (kind_of e) wide ≡ e

-- The entries with these kinds and widths. In both lists the topmost is the first, and an operand's index is
-- the number of operands below it.
abbrev pub entries_in : List Kind → Widths → List Entry
entries_in [] w = []
entries_in (k ∷ ks) w = entry_of k (is_wide w (length ks)) ∷ entries_in ks w

abbrev pub operands_of : Kinds → Widths → Floored
operands_of p w = record { entries = entries_in p.kinds w; floor = p.floor }

abbrev pub PushesEntry : Entry → Floored → Floored → Type 0
PushesEntry e s z = z ≡ record { entries = e ∷ s.entries; floor = s.floor }

-- Operands of these types are removed above the floor, the topmost first, and the given one is pushed, if
-- any.
abbrev pub ReplacesEntries : List ValType → Option Entry → Floored → Floored → Type 0
ReplacesEntries ts given s z =
    (taken es : List Entry) × (s.entries ≡ taken ++ es) × AgreeAll taken ts × (s.floor ≤ length es)
    × (z ≡ record { entries = option_to_list given ++ es; floor = s.floor })
