-- The effect of a simple instruction on the operands, as a function of the context; `ill` with the refusal if
-- it has none. It follows the code exactly, for the layers above. No promise rests on it alone: see `Typing`.
use Rattle.std.specs.Prelude.{ℕ, ◌^◌, Bool, true, false, List, [], ◌∷◌, ◌++◌, Option, Some, None, slice_get}
use Rattle.std.specs.Prelude.{option_to_list, nat_le, nat_lt}
use Rattle.wm_syntax.specs.declared.types.ValType.{ValType}
use Rattle.wm_syntax.specs.declared.types.ValType.TheVariants.{I32, I64, F32, F64}
use Rattle.wm_syntax.specs.declared.why.Why.{Why}
use Rattle.wm_syntax.specs.declared.why.Why.TheVariants as why
use Rattle.wm_syntax.specs.declared.instructions.Simple.{Simple}
use Rattle.wm_syntax.specs.declared.instructions.Simple.TheVariants.{Unreachable, Nop, Return, Drop, Select}
use Rattle.wm_syntax.specs.declared.instructions.Simple.TheVariants.{Br, BrIf, Call, CallIndirect, LocalGet}
use Rattle.wm_syntax.specs.declared.instructions.Simple.TheVariants.{LocalSet, LocalTee, GlobalGet, GlobalSet}
use Rattle.wm_syntax.specs.declared.instructions.Simple.TheVariants.{MemorySize, MemoryGrow, I32Const}
use Rattle.wm_syntax.specs.declared.instructions.Simple.TheVariants.{MemoryCopy, MemoryFill, MemoryInit, DataDrop}
use Rattle.wm_syntax.specs.declared.instructions.Simple.TheVariants.{TableInit, ElemDrop, TableCopy}
use Rattle.wm_syntax.specs.declared.instructions.Simple.TheVariants.{I64Const, F32Const, F64Const, Load}
use Rattle.wm_syntax.specs.declared.instructions.Simple.TheVariants.{Store, Numeric}
use Rattle.wm_syntax.specs.Opcodes.{numeric, load, store}
use Rattle.wm_typing.specs.Typing.{Context, function_type}

pub data Effect : Type 0 where
  -- Takes exactly `takes`, and gives exactly `gives`.
  fixed : (takes gives : List ValType) → Effect
  -- As `fixed`, but takes an i32 first.
  indirect : (takes gives : List ValType) → Effect
  -- Takes these with any others below them, and gives any.
  is_polymorphic : List ValType → Effect
  drops : Effect
  selects : Effect
  ill : Why → Effect

abbrev pub with_item : {X : Type 0} → Option X → (X → Effect) → Effect
with_item None f = ill why.Index
with_item (Some x) f = f x

abbrev pub where_true : Why → Bool → Effect → Effect
where_true w true s = s
where_true w false s = ill w

abbrev pub access_effect : Context → ℕ → ℕ → Effect → Effect
access_effect c align width s =
    where_true why.Index c.has_memory (where_true why.Align (nat_le (2 ^ align) width) s)

abbrev pub call_effect : Context → ℕ → Effect
call_effect c x = with_item (function_type c x) (λ f. fixed f.params f.results)

abbrev pub indirect_effect : Context → ℕ → Effect
indirect_effect c x =
    where_true why.Index c.has_table (with_item (slice_get c.types x) (λ f. indirect f.params f.results))

abbrev pub global_get_effect : Context → ℕ → Effect
global_get_effect c x = with_item (slice_get c.globals x) (λ g. fixed [] (g.ty ∷ []))

abbrev pub global_set_effect : Context → ℕ → Effect
global_set_effect c x =
    with_item (slice_get c.globals x) (λ g. where_true why.Immutable g.var (fixed (g.ty ∷ []) []))

-- The effect of an instruction over a range of the memory or the table; `there` says whether the module has it.
abbrev pub range_effect : Bool → Effect
range_effect there = where_true why.Index there (fixed (I32 ∷ I32 ∷ I32 ∷ []) [])

abbrev pub bulk_effect : Context → Effect
bulk_effect c = range_effect c.has_memory

abbrev pub table_effect : Context → Effect
table_effect c = range_effect c.has_table

-- The effect of an instruction that names the segment `x` of `n`.
abbrev pub with_segment : ℕ → ℕ → Effect → Effect
with_segment n x s = where_true why.Index (nat_lt x n) s

abbrev pub init_effect : Context → ℕ → Effect
init_effect c x = with_segment c.segments x (bulk_effect c)

abbrev pub table_init_effect : Context → ℕ → Effect
table_init_effect c x = with_segment c.elements x (table_effect c)

abbrev pub effect_of : Context → Simple → Effect
effect_of c Unreachable = is_polymorphic []
effect_of c Nop = fixed [] []
effect_of c (Br l) = with_item (slice_get c.labels l) (λ t. is_polymorphic (option_to_list t))
effect_of c (BrIf l) =
    with_item (slice_get c.labels l) (λ t. fixed (option_to_list t ++ I32 ∷ []) (option_to_list t))
effect_of c Return = is_polymorphic (option_to_list c.result)
effect_of c (Call x) = call_effect c x
effect_of c (CallIndirect x) = indirect_effect c x
effect_of c Drop = drops
effect_of c Select = selects
effect_of c (LocalGet x) = with_item (slice_get c.locals x) (λ t. fixed [] (t ∷ []))
effect_of c (LocalSet x) = with_item (slice_get c.locals x) (λ t. fixed (t ∷ []) [])
effect_of c (LocalTee x) = with_item (slice_get c.locals x) (λ t. fixed (t ∷ []) (t ∷ []))
effect_of c (GlobalGet x) = global_get_effect c x
effect_of c (GlobalSet x) = global_set_effect c x
effect_of c MemorySize = where_true why.Index c.has_memory (fixed [] (I32 ∷ []))
effect_of c MemoryGrow = where_true why.Index c.has_memory (fixed (I32 ∷ []) (I32 ∷ []))
effect_of c MemoryCopy = bulk_effect c
effect_of c MemoryFill = bulk_effect c
effect_of c (MemoryInit x) = init_effect c x
effect_of c (DataDrop x) = with_segment c.segments x (fixed [] [])
effect_of c (TableInit x) = table_init_effect c x
effect_of c (ElemDrop x) = with_segment c.elements x (fixed [] [])
effect_of c TableCopy = table_effect c
effect_of c (I32Const n) = fixed [] (I32 ∷ [])
effect_of c (I64Const n) = fixed [] (I64 ∷ [])
effect_of c (F32Const n) = fixed [] (F32 ∷ [])
effect_of c (F64Const n) = fixed [] (F64 ∷ [])
effect_of c (Load op at) = access_effect c at.align (load op).width (fixed (I32 ∷ []) ((load op).ty ∷ []))
effect_of c (Store op at) = access_effect c at.align (store op).width (fixed (I32 ∷ (store op).ty ∷ []) [])
effect_of c (Numeric op) = fixed (numeric op).takes (numeric op).gives
