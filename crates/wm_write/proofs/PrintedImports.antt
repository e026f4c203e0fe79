-- Imports are printed one after another, and counted.
use Rattle.std.proofs.Common.{◌≡◌, ℕ, zero, suc, ◌+◌, ◌<◌, ◌≤◌, ◌^◌, List, [], ◌∷◌, ◌++◌, length, take, get_or, Option, Some, None, sym, ap, subst, ◌∙◌, append_assoc, append-nil, arith, length-append}
use Rattle.std.specs.List.{cons_option, filter_map}
use Rattle.std.proofs.lemmas.List.{length-take-le, take_more}
use Rattle.std.proofs.lemmas.List.Elements.{filter_map-append}
use Rattle.wm_syntax.specs.declared.modules.ImportDesc.{ImportDesc}
use Rattle.wm_syntax.specs.declared.modules.ImportDesc.TheVariants.{Func, Table, Memory, Global}
use Rattle.wm_syntax.specs.Modules.{Import, imported_function, imported_global, imported_memory, imported_table}
use Rattle.wm_write.specs.declared.print.fields.Places.{Places}
use Rattle.wm_write.specs.Layout.{Word, import_field, import_fields, places, words_text}
use Rattle.wm_write.specs.exact.Printing.{IsCountable, one_more}
use Rattle.wm_write.specs.exact.Writing.{Sent, State}
use Rattle.wm_write.proofs.PrintedWords.{sent_words}

-- one import more
counted : {Y : Type 0} (f : Import → Option Y) (xs : List Import) (x : Import) → length (filter_map f (xs ++ x ∷ [])) ≡ length (filter_map f xs) + length (filter_map f (x ∷ []))
counted f xs x = ap length (filter_map-append f xs (x ∷ [])) ∙ length-append (filter_map f xs) (filter_map f (x ∷ []))

these : (f t m g : ℕ) (p : Places) → f ≡ p.functions → t ≡ p.tables → m ≡ p.memories → g ≡ p.globals
    → ◌≡◌ {A = Places} (record { functions = f; tables = t; memories = m; globals = g }) p
these f t m g p a b c d =
    ap {B = Places} (λ (z : ℕ). record { functions = z; tables = t; memories = m; globals = g }) a
    ∙ (ap {B = Places} (λ (z : ℕ). record { functions = p.functions; tables = z; memories = m; globals = g }) b
    ∙ (ap {B = Places} (λ (z : ℕ). record { functions = p.functions; tables = p.tables; memories = z; globals = g }) c
    ∙ ap {B = Places} (λ (z : ℕ). record { functions = p.functions; tables = p.tables; memories = p.memories; globals = z }) d))

places_more : (xs : List Import) (a b : List ℕ) (desc : ImportDesc)
    → places (xs ++ record { module_name = a; item_name = b; desc = desc } ∷ []) ≡ one_more desc (places xs)
places_more xs a b (Func y) =
    let x : Import = record { module_name = a; item_name = b; desc = Func y } in
    these _ _ _ _ (one_more (Func y) (places xs)) (counted imported_function xs x) (omega (arith, counted imported_table xs x)) (omega (arith, counted imported_memory xs x)) (omega (arith, counted imported_global xs x))
places_more xs a b (Table y) =
    let x : Import = record { module_name = a; item_name = b; desc = Table y } in
    these _ _ _ _ (one_more (Table y) (places xs)) (omega (arith, counted imported_function xs x)) (counted imported_table xs x) (omega (arith, counted imported_memory xs x)) (omega (arith, counted imported_global xs x))
places_more xs a b (Memory y) =
    let x : Import = record { module_name = a; item_name = b; desc = Memory y } in
    these _ _ _ _ (one_more (Memory y) (places xs)) (omega (arith, counted imported_function xs x)) (omega (arith, counted imported_table xs x)) (counted imported_memory xs x) (omega (arith, counted imported_global xs x))
places_more xs a b (Global y) =
    let x : Import = record { module_name = a; item_name = b; desc = Global y } in
    these _ _ _ _ (one_more (Global y) (places xs)) (omega (arith, counted imported_function xs x)) (omega (arith, counted imported_table xs x)) (omega (arith, counted imported_memory xs x)) (counted imported_global xs x)

pub next_places : (xs : List Import) (i : ℕ) (x : Import) (desc : ImportDesc) (p q : Places) → i < length xs → x ≡ get_or xs i x → desc ≡ x.desc → p ≡ places (take i xs)
    → q ≡ one_more desc p → q ≡ places (take (i + 1) xs)
next_places xs i x desc p q few is same before counts =
    counts ∙ (ap (λ d. one_more d p) same ∙ (ap (one_more x.desc) before
    ∙ (sym (places_more (take i xs) x.module_name x.item_name x.desc)
    ∙ (ap (λ (z : Import). places (take i xs ++ z ∷ [])) is ∙ ap places (sym (take_more xs i x few))))))

-- there are no more of a kind than there are
few_of : {Y : Type 0} (f : Import → Option Y) (xs : List Import) → length (filter_map f xs) ≤ length xs
few_of f [] = omega arith
few_of f (x ∷ xs) = elim (f x) as (λ o. length (cons_option o (filter_map f xs)) ≤ suc (length xs)) [ None ↦ omega (arith, few_of f xs) | Some y ↦ omega (arith, few_of f xs) ]

pub few_places : (xs : List Import) (i : ℕ) (p : Places) → i < length xs → length xs < 2 ^ 64 → p ≡ places (take i xs) → IsCountable p
few_places xs i p few all is =
    let short : length (take i xs) ≡ i = length-take-le i xs (omega arith) in
    subst IsCountable (sym is) (record {
      functions = omega (arith, few_of imported_function (take i xs), short, few, all);
      tables = omega (arith, few_of imported_table (take i xs), short, few, all);
      memories = omega (arith, few_of imported_memory (take i xs), short, few, all);
      globals = omega (arith, few_of imported_global (take i xs), short, few, all);
    })

-- their fields
fields_more : (before xs : List Import) (i : ℕ) (d : Import) → i < length xs
    → import_fields before (take (suc i) xs) ≡ import_fields before (take i xs) ++ import_field (places (before ++ take i xs)) (get_or xs i d)
fields_more before [] i d h = absurd (omega arith)
fields_more before (x ∷ xs) zero d h =
    append-nil (import_field (places before) x) ∙ ap (λ (z : List Import). import_field (places z) x) (sym (append-nil before))
fields_more before (x ∷ xs) (suc i) d h =
    ap (λ (z : List Word). import_field (places before) x ++ z)
    (fields_more (before ++ x ∷ []) xs i d (omega arith)
    ∙ ap (λ (z : List Import). import_fields (before ++ x ∷ []) (take i xs) ++ import_field (places z) (get_or xs i d)) (append_assoc before (x ∷ []) (take i xs)))
    ∙ sym (append_assoc (import_field (places before) x) (import_fields (before ++ x ∷ []) (take i xs)) (import_field (places (before ++ x ∷ take i xs)) (get_or xs i d)))

pub imports_more : (xs : List Import) (i : ℕ) (x : Import) (p : Places) (s t u : State) → i < length xs → x ≡ get_or xs i x → p ≡ places (take i xs)
    → Sent (words_text (import_fields [] (take i xs))) s t → Sent (words_text (import_field p x)) t u → Sent (words_text (import_fields [] (take (i + 1) xs))) s u
imports_more xs i x p s t u few is before h k =
    let next : suc i ≡ i + 1 = omega arith in
    let e : import_fields [] (take i xs) ++ import_field p x ≡ import_fields [] (take (i + 1) xs) =
    ap (λ (z : List Word). import_fields [] (take i xs) ++ z) (ap (λ (q : Places). import_field q x) before ∙ ap (import_field (places (take i xs))) is)
    ∙ (sym (fields_more [] xs i x few) ∙ ap (λ (j : ℕ). import_fields [] (take j xs)) next) in
    subst (λ z. Sent (words_text z) s u) e (sent_words (import_fields [] (take i xs)) (import_field p x) s t u h k)
