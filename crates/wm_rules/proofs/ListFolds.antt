-- The state after each list of a flat value, if the members of the list are good.
use Rattle.std.proofs.Common.{ℕ, suc, ◌+◌, ◌≡◌, ◌≤◌, List, [], ◌∷◌, ◌++◌, None, Bool, true, false, ◌||◌, length, refl, sym, ◌∙◌, ap, append_assoc, append-nil, arith, map}
use Rattle.std.specs.List.{AllByRecursion, filter_map}
use Rattle.wm_syntax.specs.declared.types.Limits.{Limits}
use Rattle.wm_syntax.specs.declared.types.GlobalType.{GlobalType}
use Rattle.wm_syntax.specs.declared.modules.ImportDesc.{ImportDesc}
use Rattle.wm_syntax.specs.declared.modules.ImportDesc.TheVariants as desc
use Rattle.wm_syntax.specs.Types.{Signature}
use Rattle.wm_syntax.specs.Modules.{Import, imported_function, imported_table, imported_memory, imported_global}
use Rattle.wm_rules.specs.Validation.{ValidDesc, ValidTable, ValidMemory, is_some_item}
use Rattle.wm_rules.specs.exact.Spaces.{one_if}
use Rattle.wm_rules.specs.Holding.{Held}
use Rattle.wm_machine.specs.Flat.{FlatGlobal}
use Rattle.wm_rules.proofs.MemberFolds.{puts, GoodAll}
use Rattle.wm_rules.proofs.ItemMembers.{put_sig, put_import, put_desc, put_function, put_table, put_memory, in_space, in_types, GoodImport, GoodImportDesc, GoodTable, GoodMemory}
use Rattle.wm_rules.proofs.ConstantMembers.{put_global}

or_true : (b : Bool) → (b || true) ≡ true
or_true true = refl
or_true false = refl

-- types and functions
pub sigs : (xs : List Signature) (h : Held) → puts put_sig h xs ≡ in_types h (h.spaces.types ++ xs)
sigs [] h = ap (in_types h) (sym (append-nil h.spaces.types))
sigs (x ∷ xs) h = sigs xs (put_sig h x) ∙ ap (in_types h) (append_assoc h.spaces.types (x ∷ []) xs)

abbrev pub in_functions : Held → List ℕ → Held
in_functions h xs = in_space h (record h.spaces { functions = xs })

pub functions : (xs : List ℕ) (h : Held) → puts put_function h xs ≡ in_functions h (h.spaces.functions ++ xs)
functions [] h = ap (in_functions h) (sym (append-nil h.spaces.functions))
functions (x ∷ xs) h = functions xs (put_function h x) ∙ ap (in_functions h) (append_assoc h.spaces.functions (x ∷ []) xs)

-- tables and memories
abbrev pub in_table : Held → Bool → Held
in_table h b = in_space h (record h.spaces { has_table = b })

abbrev pub in_memory : Held → Bool → Held
in_memory h b = in_space h (record h.spaces { has_memory = b })

pub tables : (ls : List Limits) (h : Held) → puts put_table h ls ≡ in_table h (is_some_item ls || h.spaces.has_table)
tables [] h = refl
tables (l ∷ ls) h = tables ls (put_table h l) ∙ ap (in_table h) (or_true (is_some_item ls))

pub memories : (ls : List Limits) (h : Held) → puts put_memory h ls ≡ in_memory h (is_some_item ls || h.spaces.has_memory)
memories [] h = refl
memories (l ∷ ls) h = memories ls (put_memory h l) ∙ ap (in_memory h) (or_true (is_some_item ls))

one_if_le : (b : Bool) → one_if b + 0 ≤ 1
one_if_le true = omega arith
one_if_le false = omega arith

none_if : (b : Bool) (n : ℕ) → one_if b + suc n ≤ 1 → b ≡ false
none_if true n h = absurd (omega (arith, h))
none_if false n h = refl

first_one : (b : Bool) (n : ℕ) → b ≡ false → one_if true + n ≤ 1 → one_if b + suc n ≤ 1
first_one true n e h = absurd (cc)
first_one false n e h = omega (arith, h)

then_none : (b : Bool) (n : ℕ) → one_if b + suc n ≤ 1 → one_if true + n ≤ 1
then_none true n h = omega (arith, h)
then_none false n h = omega (arith, h)

-- each in range, and with those before them one at most
pub tables_to : (ls : List Limits) (h : Held) → GoodAll GoodTable put_table h ls → AllByRecursion ValidTable ls × (one_if h.spaces.has_table + length ls ≤ 1)
tables_to [] h g = (tt, one_if_le h.spaces.has_table)
tables_to (l ∷ ls) h g = let r = tables_to ls (put_table h l) g.1 in ((g.0.1, r.0), first_one h.spaces.has_table (length ls) g.0.0 r.1)

pub tables_from : (ls : List Limits) (h : Held) → AllByRecursion ValidTable ls → one_if h.spaces.has_table + length ls ≤ 1 → GoodAll GoodTable put_table h ls
tables_from [] h a n = tt
tables_from (l ∷ ls) h a n = ((none_if h.spaces.has_table (length ls) n, a.0), tables_from ls (put_table h l) a.1 (then_none h.spaces.has_table (length ls) n))

pub memories_to : (ls : List Limits) (h : Held) → GoodAll GoodMemory put_memory h ls → AllByRecursion ValidMemory ls × (one_if h.spaces.has_memory + length ls ≤ 1)
memories_to [] h g = (tt, one_if_le h.spaces.has_memory)
memories_to (l ∷ ls) h g = let r = memories_to ls (put_memory h l) g.1 in ((g.0.1, r.0), first_one h.spaces.has_memory (length ls) g.0.0 r.1)

pub memories_from : (ls : List Limits) (h : Held) → AllByRecursion ValidMemory ls → one_if h.spaces.has_memory + length ls ≤ 1 → GoodAll GoodMemory put_memory h ls
memories_from [] h a n = tt
memories_from (l ∷ ls) h a n = ((none_if h.spaces.has_memory (length ls) n, a.0), memories_from ls (put_memory h l) a.1 (then_none h.spaces.has_memory (length ls) n))

-- imports
abbrev pub imported : Held → List ℕ → ℕ → List GlobalType → ℕ → Bool → Bool → Held
imported h a n b k t m =
    in_space h (record h.spaces { functions = a; imported_functions = n; globals = b; imported_globals = k; has_table = t; has_memory = m })

same_imported : (h : Held) (a c : List ℕ) (n m : ℕ) (b d : List GlobalType) (k l : ℕ) (t u v w : Bool) → a ≡ c → n ≡ m → b ≡ d → k ≡ l → t ≡ u → v ≡ w → imported h a n b k t v ≡ imported h c m d l u w
same_imported h a c n m b d k l t u v w p q r s x y = cc

abbrev pub after_imports : Held → List Import → Held
after_imports h is =
    imported h (h.spaces.functions ++ filter_map imported_function is) (h.spaces.imported_functions + length (filter_map imported_function is))
    (h.spaces.globals ++ filter_map imported_global is) (h.spaces.imported_globals + length (filter_map imported_global is))
    (is_some_item (filter_map imported_table is) || h.spaces.has_table) (is_some_item (filter_map imported_memory is) || h.spaces.has_memory)

abbrev pub import : List ℕ → List ℕ → ImportDesc → Import
import a b d = record { module_name = a; item_name = b; desc = d }

one_import : (d : ImportDesc) (a b : List ℕ) (is : List Import) (h : Held) → after_imports (put_desc h d) is ≡ after_imports h (import a b d ∷ is)
one_import (desc.Func x) a b is h = same_imported h _ _ _ _ _ _ _ _ _ _ _ _ (append_assoc h.spaces.functions (x ∷ []) (filter_map imported_function is)) (omega arith) refl refl refl refl
one_import (desc.Table l) a b is h = same_imported h _ _ _ _ _ _ _ _ _ _ _ _ refl refl refl refl (or_true (is_some_item (filter_map imported_table is))) refl
one_import (desc.Memory l) a b is h = same_imported h _ _ _ _ _ _ _ _ _ _ _ _ refl refl refl refl refl (or_true (is_some_item (filter_map imported_memory is)))
one_import (desc.Global g) a b is h = same_imported h _ _ _ _ _ _ _ _ _ _ _ _ refl refl (append_assoc h.spaces.globals (g ∷ []) (filter_map imported_global is)) (omega arith) refl refl

pub imports : (is : List Import) (h : Held) → puts put_import h is ≡ after_imports h is
imports [] h = same_imported h _ _ _ _ _ _ _ _ _ _ _ _ (sym (append-nil h.spaces.functions)) (omega arith) (sym (append-nil h.spaces.globals)) (omega arith) refl refl
imports (i ∷ is) h = imports is (put_import h i) ∙ one_import i.desc i.module_name i.item_name is h

pub record GoodImports (h : Held) (is : List Import) : Type 0 where
  pub each : AllByRecursion (λ i. ValidDesc (length h.spaces.types) i.desc) is
  pub tables : one_if h.spaces.has_table + length (filter_map imported_table is) ≤ 1
  pub memories : one_if h.spaces.has_memory + length (filter_map imported_memory is) ≤ 1

import_to : (d : ImportDesc) (a b : List ℕ) (is : List Import) (h : Held) → GoodImportDesc h d → GoodImports (put_desc h d) is → GoodImports h (import a b d ∷ is)
import_to (desc.Func x) a b is h g r = record { each = (g, r.each); tables = r.tables; memories = r.memories }
import_to (desc.Table l) a b is h g r = record { each = (g.1, r.each); tables = first_one h.spaces.has_table (length (filter_map imported_table is)) g.0 r.tables; memories = r.memories }
import_to (desc.Memory l) a b is h g r = record { each = (g.1, r.each); tables = r.tables; memories = first_one h.spaces.has_memory (length (filter_map imported_memory is)) g.0 r.memories }
import_to (desc.Global v) a b is h g r = record { each = (tt, r.each); tables = r.tables; memories = r.memories }

pub imports_to : (is : List Import) (h : Held) → GoodAll GoodImport put_import h is → GoodImports h is
imports_to [] h g = record { each = tt; tables = one_if_le h.spaces.has_table; memories = one_if_le h.spaces.has_memory }
imports_to (i ∷ is) h g = import_to i.desc i.module_name i.item_name is h g.0 (imports_to is (put_import h i) g.1)

import_from : (d : ImportDesc) (a b : List ℕ) (is : List Import) (h : Held) → GoodImports h (import a b d ∷ is) → GoodImportDesc h d × GoodImports (put_desc h d) is
import_from (desc.Func x) a b is h r = (r.each.0, record { each = r.each.1; tables = r.tables; memories = r.memories })
import_from (desc.Table l) a b is h r =
    ((none_if h.spaces.has_table (length (filter_map imported_table is)) r.tables, r.each.0), record { each = r.each.1; tables = then_none h.spaces.has_table (length (filter_map imported_table is)) r.tables; memories = r.memories })
import_from (desc.Memory l) a b is h r =
    ((none_if h.spaces.has_memory (length (filter_map imported_memory is)) r.memories, r.each.0), record { each = r.each.1; tables = r.tables; memories = then_none h.spaces.has_memory (length (filter_map imported_memory is)) r.memories })
import_from (desc.Global v) a b is h r = (tt, record { each = r.each.1; tables = r.tables; memories = r.memories })

pub imports_from : (is : List Import) (h : Held) → GoodImports h is → GoodAll GoodImport put_import h is
imports_from [] h r = tt
imports_from (i ∷ is) h r = let s = import_from i.desc i.module_name i.item_name is h r in (s.0, imports_from is (put_import h i) s.1)

-- globals
abbrev pub in_globals : Held → List GlobalType → Held
in_globals h gs = record h { spaces = record h.spaces { globals = gs }; constant = None }

pub globals : (gs : List FlatGlobal) (h : Held) → h.constant ≡ None → puts put_global h gs ≡ in_globals h (h.spaces.globals ++ map (λ g. g.ty) gs)
globals [] h e = ap (λ z. record h { constant = z }) e ∙ ap (in_globals h) (sym (append-nil h.spaces.globals))
globals (g ∷ gs) h e = globals gs (put_global h g) refl ∙ ap (in_globals h) (append_assoc h.spaces.globals (g.ty ∷ []) (map (λ g. g.ty) gs))
