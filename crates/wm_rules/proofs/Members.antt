-- The items of a flat value, each list by its members.
use Rattle.std.proofs.Common.{ℕ, ◌≡◌, List, [], ◌∷◌, ◌++◌, Option, Some, None, Result, Ok, refl, ap, map, flat_map, option_to_list}
use Rattle.wm_syntax.specs.declared.types.Limits.{Limits}
use Rattle.wm_machine.specs.Flat.{FlatModule, type_items, import_items, global_items, export_items, start_items, element_items, count_items, code_items, segment_items, flat_items}
use Rattle.wm_machine.specs.Items.{Item, data_count, function, table, memory, start}
use Rattle.wm_machine.specs.Sinks.{all_taken, and_then}
use Rattle.wm_syntax.specs.declared.why.Why.{Why}

abbrev pub function_part : ℕ → List Item
function_part x = function x ∷ []

abbrev pub table_part : Limits → List Item
table_part l = table l ∷ []

abbrev pub memory_part : Limits → List Item
memory_part l = memory l ∷ []

abbrev pub start_part : ℕ → List Item
start_part x = start x ∷ []

abbrev pub count_part : ℕ → List Item
count_part n = data_count n ∷ []

each_alone : {X : Type 0} (f : X → Item) (xs : List X) → map f xs ≡ flat_map (λ x. f x ∷ []) xs
each_alone f [] = refl
each_alone f (x ∷ xs) = ap (λ z. f x ∷ z) (each_alone f xs)

start_alone : (o : Option ℕ) → start_items o ≡ flat_map start_part (option_to_list o)
start_alone None = refl
start_alone (Some x) = refl

count_alone : (o : Option ℕ) → count_items o ≡ flat_map count_part (option_to_list o)
count_alone None = refl
count_alone (Some n) = refl

abbrev pub parts_by_member : FlatModule → List Item
parts_by_member v =
    flat_map type_items v.types ++ (flat_map import_items v.imports ++ (flat_map function_part v.functions ++ (flat_map table_part v.tables
    ++ (flat_map memory_part v.memories ++ (flat_map global_items v.globals ++ (flat_map export_items v.exports
    ++ (flat_map start_part (option_to_list v.start) ++ (flat_map element_items v.elements ++ (flat_map count_part (option_to_list v.data_count)
    ++ (flat_map code_items v.codes ++ flat_map segment_items v.segments))))))))))

pub same_parts : (v : FlatModule) → flat_items v ≡ parts_by_member v
same_parts v = cc (each_alone function v.functions, each_alone table v.tables, each_alone memory v.memories, start_alone v.start, count_alone v.data_count)

-- a sink that passes over the number in the data count section
module _ {H : Type 0} (after : H → Item → Result H Why) (passes : (h : H) (n : ℕ) → after h (data_count n) ≡ Ok h) where
  pub count_skipped : (x : Option ℕ) (rest : List Item) (h : H) → all_taken after h (count_items x ++ rest) ≡ all_taken after h rest
  count_skipped None rest h = refl
  count_skipped (Some n) rest h = ap (λ r. and_then r (λ g. all_taken after g rest)) (passes h n)
