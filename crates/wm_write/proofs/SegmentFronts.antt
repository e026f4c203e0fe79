-- The canonical binary of a valid module is the same with flags before its segments and without them, as all of its active
-- segments are of the table or the memory 0.
use Rattle.std.proofs.Common.{ℕ, Some, None, ◌≡◌, ◌≤◌, ◌<◌, ◌^◌, List, [], ◌∷◌, ◌++◌, Bool, true, false, length, flat_map, refl, sym, ap, subst, arith, ◌∙◌}
use Rattle.std.specs.List.{AllByRecursion}
use Rattle.wm_syntax.specs.declared.modules.SegmentMode.{SegmentMode}
use Rattle.wm_syntax.specs.declared.modules.SegmentMode.TheVariants.{Passive, Active}
use Rattle.wm_syntax.specs.declared.profile.Feature.TheVariants.{BulkMemory}
use Rattle.wm_syntax.specs.declared.profile.Profile.{Profile}
use Rattle.wm_syntax.specs.Modules.{Element, Module, Segment, all_globals, all_memories, all_tables, bodies_name_segment, index_of}
use Rattle.wm_syntax.specs.Profiles.{has}
use Rattle.wm_syntax.specs.declared.types.GlobalType.{GlobalType}
use Rattle.wm_machine.specs.Sections.{SpellsModule, header}
use Rattle.wm_rules.specs.Validation.{Valid, ValidElement, ValidMode, ValidSegment}
use Rattle.wm_write.specs.Canon.{Fits, FitsWith, canon, canon_with, code_bytes, data_count_section, element_bytes, export_bytes, global_bytes, import_bytes, start_bytes, element_kind_bytes, limits_bytes, list_section, listed, offset_bytes, section, segment_bytes, signature_bytes, sized, start_section, table_bytes, u32_bytes}
use Rattle.wm_write.proofs.Shortest.{canon_shortest, spelled_fits}

abbrev AtZero : SegmentMode → Type 0
AtZero Passive = Unit {0}
AtZero (Active x offset) = x ≡ 0

mode_zero : (count : ℕ) (globals : List GlobalType) → count ≤ 1 → (d : SegmentMode) → ValidMode count globals d → AtZero d
mode_zero count globals few Passive v = tt
mode_zero count globals few (Active x offset) v = let l = v.0 in omega (arith, few, l)

at_zero : (f g : Bool) → start_bytes f (Some 0) ≡ start_bytes g (Some 0)
at_zero true true = refl
at_zero true false = refl
at_zero false true = refl
at_zero false false = refl

none : (f g : Bool) → start_bytes f None ≡ start_bytes g None
none true true = refl
none true false = refl
none false true = refl
none false false = refl

kind_at_zero : (f g : Bool) → element_kind_bytes f (Some 0) ≡ element_kind_bytes g (Some 0)
kind_at_zero true true = refl
kind_at_zero true false = refl
kind_at_zero false true = refl
kind_at_zero false false = refl

kind_none : (f g : Bool) → element_kind_bytes f None ≡ element_kind_bytes g None
kind_none true true = refl
kind_none true false = refl
kind_none false true = refl
kind_none false false = refl

module _ (f g : Bool) where
  front_same : (d : SegmentMode) → AtZero d → start_bytes f (index_of d) ≡ start_bytes g (index_of d)
  front_same Passive z = none f g
  front_same (Active x offset) z = subst (λ y. start_bytes f (Some y) ≡ start_bytes g (Some y)) (sym z) (at_zero f g)

  kind_same : (d : SegmentMode) → AtZero d → element_kind_bytes f (index_of d) ≡ element_kind_bytes g (index_of d)
  kind_same Passive z = kind_none f g
  kind_same (Active x offset) z = subst (λ y. element_kind_bytes f (Some y) ≡ element_kind_bytes g (Some y)) (sym z) (kind_at_zero f g)

  element_same : (e : Element) → AtZero e.mode → element_bytes f e ≡ element_bytes g e
  element_same e z =
      ap (λ y. y ++ (offset_bytes e.mode ++ (element_kind_bytes f (index_of e.mode) ++ listed u32_bytes e.functions))) (front_same e.mode z)
      ∙ ap (λ y. start_bytes g (index_of e.mode) ++ (offset_bytes e.mode ++ (y ++ listed u32_bytes e.functions))) (kind_same e.mode z)

  segment_same : (s : Segment) → AtZero s.mode → segment_bytes f s ≡ segment_bytes g s
  segment_same s z = ap (λ y. y ++ (offset_bytes s.mode ++ sized s.bytes)) (front_same s.mode z)

  -- A section of segments of either kind, all of which are at zero.
  module _ {X : Type 0} (bytes : Bool → X → List ℕ) (P : X → Type 0) (same : (x : X) → P x → bytes f x ≡ bytes g x) where
    each_same : (xs : List X) → AllByRecursion P xs → flat_map (bytes f) xs ≡ flat_map (bytes g) xs
    each_same [] v = refl
    each_same (x ∷ xs) v = ap (λ y. y ++ flat_map (bytes f) xs) (same x v.0) ∙ ap (λ y. bytes g x ++ y) (each_same xs v.1)

    listed_same : (xs : List X) → AllByRecursion P xs → listed (bytes f) xs ≡ listed (bytes g) xs
    listed_same xs v = ap (λ y. u32_bytes (length xs) ++ y) (each_same xs v)

    section_same : (id : ℕ) (xs : List X) → AllByRecursion P xs → list_section id (bytes f) xs ≡ list_section id (bytes g) xs
    section_same id [] v = refl
    section_same id (x ∷ xs) v = ap (λ y. section id y) (listed_same (x ∷ xs) v)

  module _ (m : Module) (v : Valid m) where
    one_element : (e : Element) → ValidElement m e → element_bytes f e ≡ element_bytes g e
    one_element e k = element_same e (mode_zero (length (all_tables m)) (all_globals m) v.one_table e.mode k.0)

    one_segment : (s : Segment) → ValidSegment m s → segment_bytes f s ≡ segment_bytes g s
    one_segment s k = segment_same s (mode_zero (length (all_memories m)) (all_globals m) v.one_memory s.mode k)

    -- the sections, given those of the segments
    abbrev joined : List ℕ → List ℕ → List ℕ
    joined elements segments =
        header
        ++ (list_section 1 signature_bytes m.types
        ++ (list_section 2 import_bytes m.imports
        ++ (list_section 3 (λ f. u32_bytes f.type_index) m.functions
        ++ (list_section 4 table_bytes m.tables
        ++ (list_section 5 limits_bytes m.memories
        ++ (list_section 6 global_bytes m.globals
        ++ (list_section 7 export_bytes m.exports
        ++ (start_section m.start
        ++ (elements
        ++ (data_count_section (bodies_name_segment m.functions) (length m.segments)
        ++ (list_section 10 code_bytes m.functions
        ++ segments)))))))))))

    pub canon_same : canon_with f m ≡ canon_with g m
    canon_same =
        ap (λ z. joined z (list_section 11 (segment_bytes f) m.segments)) (section_same element_bytes (ValidElement m) one_element 9 m.elements v.elements)
        ∙ ap (λ z. joined (list_section 9 (element_bytes g) m.elements) z) (section_same segment_bytes (ValidSegment m) one_segment 11 m.segments v.segments)

    pub fits_same : FitsWith f m → FitsWith g m
    fits_same h = record {
      types = h.types;
      imports = h.imports;
      functions = h.functions;
      tables = h.tables;
      memories = h.memories;
      globals = h.globals;
      exports = h.exports;
      elements = subst (λ z. length z < 2 ^ 32) (listed_same element_bytes (ValidElement m) one_element m.elements v.elements) h.elements;
      codes = h.codes;
      segments = subst (λ z. length z < 2 ^ 32) (listed_same segment_bytes (ValidSegment m) one_segment m.segments v.segments) h.segments;
    }

-- What bytes that spell a valid module say of its canonical binary.
pub valid_fits : (p : Profile) (m : Module) (b : List ℕ) → Valid m → SpellsModule p m b → Fits m
valid_fits p m b v h = fits_same (has p BulkMemory) false m v (spelled_fits p m b h)

pub valid_shortest : (p : Profile) (m : Module) (b : List ℕ) → Valid m → SpellsModule p m b → length (canon m) ≤ length b
valid_shortest p m b v h = subst (λ z. length z ≤ length b) (canon_same (has p BulkMemory) false m v) (canon_shortest p m b h)
