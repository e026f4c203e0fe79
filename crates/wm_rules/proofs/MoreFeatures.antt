-- An input that a profile accepts is accepted by each profile that extends it.
use Rattle.std.proofs.Common.{◌≡◌, ℕ, List, refl}
use Rattle.wm_rules.specs.Validation.{Valid, ValidElement, ValidMode}
use Rattle.wm_machine.proofs.TableIndex.{not_both}
use Rattle.wm_machine.specs.BetweenProfiles.{FrontsAlike}
use Rattle.wm_syntax.specs.Profiles.{has, HasMode, IsOf}
use Rattle.wm_syntax.specs.declared.profile.Feature.TheVariants.{BulkMemory}
use Rattle.wm_syntax.specs.Modules.{Module, Element, index_of, all_tables, all_memories, all_globals}
use Rattle.wm_syntax.specs.declared.types.GlobalType.{GlobalType}
use Rattle.wm_syntax.specs.declared.modules.SegmentMode.TheVariants.{Passive, Active}
use Rattle.wm_syntax.specs.declared.modules.SegmentMode.{SegmentMode}
use Rattle.std.specs.List.{AllByRecursion}
use Rattle.std.proofs.Common.{◌≤◌, inl, inr, ap, sym, ◌∙◌, arith, Option, Some, map, length, Bool, true, false, [], ◌∷◌}
use Rattle.wm_syntax.specs.declared.profile.Profile.{Profile}
use Rattle.wm_syntax.specs.Profiles.{Extends}
use Rattle.wm_syntax.proofs.ProfileLaws.{is_of_more}
use Rattle.wm_machine.proofs.Nesting.{spells_more}
use Rattle.wm_rules.specs.declared.policy.Policy.{Policy}
use Rattle.wm_rules.specs.Validation.{Accepted}

-- The segments of a valid module are passive, or of the table 0 or memory 0: their fronts are the same under more features.
module _ (p r : Profile) (more : Extends r p) where
  mode_first : (targets : ℕ) (globals : List GlobalType) (d : SegmentMode) → targets ≤ 1 → has p BulkMemory ≡ false → HasMode p d → ValidMode targets globals d → index_of d ≡ Some 0
  mode_first targets globals Passive few e o v = absurd (not_both (has p BulkMemory) o e)
  mode_first targets globals (Active x c) few e o v = let below = v.0 in let zero : x ≡ 0 = omega (arith, few, below) in ap Some zero

  modes_first : {X : Type 0} (mode : X → SegmentMode) (targets : ℕ) (globals : List GlobalType) (xs : List X) → targets ≤ 1 → has p BulkMemory ≡ false → AllByRecursion (λ x. HasMode p (mode x)) xs
      → AllByRecursion (λ x. ValidMode targets globals (mode x)) xs → AllByRecursion (λ x. x ≡ Some 0) (map (λ x. index_of (mode x)) xs)
  modes_first mode targets globals [] few e o v = tt
  modes_first mode targets globals (x ∷ xs) few e o v = (mode_first targets globals (mode x) few e o.0 v.0, modes_first mode targets globals xs few e o.1 v.1)

  fronts_by : (indices : List (Option ℕ)) → (has p BulkMemory ≡ false → AllByRecursion (λ x. x ≡ Some 0) indices) → FrontsAlike p r indices
  fronts_by indices first = by (has p BulkMemory) (has r BulkMemory) refl refl
    where
      by : (b c : Bool) → has p BulkMemory ≡ b → has r BulkMemory ≡ c → FrontsAlike p r indices
      by true true e f = inl (e ∙ sym f)
      by false false e f = inl (e ∙ sym f)
      by true false e f = absurd (not_both (has r BulkMemory) (more BulkMemory e) f)
      by false true e f = inr (first e)

  modes_of : (m : Module) (es : List Element) → AllByRecursion (ValidElement m) es → AllByRecursion (λ e. ValidMode (length (all_tables m)) (all_globals m) e.mode) es
  modes_of m [] v = tt
  modes_of m (e ∷ es) v = (v.0.0, modes_of m es v.1)

  pub elements_of_valid : (m : Module) → IsOf p m → Valid m → FrontsAlike p r (map (λ e. index_of e.mode) m.elements)
  elements_of_valid m o v =
      fronts_by (map (λ e. index_of e.mode) m.elements) (λ e. modes_first (λ e. e.mode) (length (all_tables m)) (all_globals m) m.elements v.one_table e o.elements (modes_of m m.elements v.elements))

  pub segments_of_valid : (m : Module) → IsOf p m → Valid m → FrontsAlike p r (map (λ s. index_of s.mode) m.segments)
  segments_of_valid m o v =
      fronts_by (map (λ s. index_of s.mode) m.segments) (λ e. modes_first (λ s. s.mode) (length (all_memories m)) (all_globals m) m.segments v.one_memory e o.segments v.segments)

pub accepted_more : (p r : Profile) (limit : ℕ) (q : Policy) (bytes : List ℕ) → Extends r p → (a : Accepted p limit q bytes)
    → (b : Accepted r limit q bytes) × (b.module_value ≡ a.module_value)
accepted_more p r limit q bytes more a = (
  record {
    module_value = a.module_value;
    spelled = (a.spelled.0, spells_more p r more a.module_value bytes (elements_of_valid p r more a.module_value a.of_profile a.valid) (segments_of_valid p r more a.module_value a.of_profile a.valid) a.spelled.1);
    of_profile = is_of_more p r more a.module_value a.of_profile;
    valid = a.valid;
    within = a.within;
  },
  refl,
)
