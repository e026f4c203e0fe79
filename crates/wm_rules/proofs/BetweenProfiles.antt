-- Profiles compared with those that extend them: the inputs that they accept, and their answers.
use Rattle.std.proofs.Common.{◌≡◌, ℕ, List, refl, subst, sym}
use Rattle.wm_rules.proofs.MoreFeatures.{elements_of_valid, segments_of_valid}
use Rattle.wm_machine.specs.BetweenProfiles.{FrontsAlike, ReadSegmentsAlike}
use Rattle.wm_machine.specs.Flat.{FlatElement, FlatSegment, IsElementOf, IsSegmentOf}
use Rattle.wm_syntax.specs.Modules.{Element, Segment, index_of}
use Rattle.std.specs.List.{AllZip}
use Rattle.std.proofs.Common.{map, [], ◌∷◌}
use Rattle.std.specs.List.{AllByRecursion}
use Rattle.wm_syntax.specs.declared.profile.Profile.{Profile}
use Rattle.wm_syntax.specs.Profiles.{Extends}
use Rattle.wm_machine.specs.BetweenProfiles.{EncodeAlike, HasItem, SameUpToProfile}
use Rattle.wm_machine.specs.Flat.{FlatModule, IsFlatOf, SpellsFlat, flat_items}
use Rattle.wm_machine.specs.inner.Answers.{answer_of}
use Rattle.wm_machine.proofs.BetweenProfiles.{answers_apart, made_apart}
use Rattle.wm_machine.proofs.ItemsOfProfiles.{spelled_by_items, spelled_of_items}
use Rattle.wm_machine.proofs.Nesting.{flat_from, flat_to}
use Rattle.wm_rules.specs.declared.policy.Policy.{Policy}
use Rattle.wm_rules.specs.Validation.{Accepted}
use Rattle.wm_rules.specs.exact.Checking.{summary_in}
use Rattle.wm_rules.specs.exact.Policing.{checker_after, checker_at_start}
use Rattle.wm_rules.specs.inner.Validators.{validator_setting, verdict}
use Rattle.wm_rules.proofs.MoreFeatures.{accepted_more}

-- the fronts of a module's segments are those of each of its flat values
element_indices : (es : List Element) (fs : List FlatElement) → AllZip IsElementOf es fs → map (λ e. index_of e.mode) es ≡ map (λ f. f.table) fs
element_indices [] [] z = refl
element_indices [] (f ∷ fs) z = absurd z
element_indices (e ∷ es) [] z = absurd z
element_indices (e ∷ es) (f ∷ fs) z = cc (sym z.0.0, element_indices es fs z.1)

segment_indices : (ds : List Segment) (ss : List FlatSegment) → AllZip IsSegmentOf ds ss → map (λ d. index_of d.mode) ds ≡ map (λ s. s.memory) ss
segment_indices [] [] z = refl
segment_indices [] (s ∷ ss) z = absurd z
segment_indices (d ∷ ds) [] z = absurd z
segment_indices (d ∷ ds) (s ∷ ss) z = cc (sym z.0.0, segment_indices ds ss z.1)

module _ (p r : Profile) (limit : ℕ) (q : Policy) (bytes : List ℕ) (more : Extends r p) where
  pub accepted_with_items : (a : Accepted p limit q bytes) → (b : Accepted r limit q bytes) × (b.module_value ≡ a.module_value)
      × (v : FlatModule) × IsFlatOf b.module_value v × SpellsFlat r v bytes × AllByRecursion (HasItem p) (flat_items v)
  accepted_with_items a =
      let v = flat_to p a.module_value bytes a.spelled.1 a.of_profile in
      let elements = subst (FrontsAlike p r) (element_indices a.module_value.elements v.0.elements v.1.elements) (elements_of_valid p r more a.module_value a.of_profile a.valid) in
      let segments = subst (FrontsAlike p r) (segment_indices a.module_value.segments v.0.segments v.1.segments) (segments_of_valid p r more a.module_value a.of_profile a.valid) in
      let s = spelled_of_items p r v.0 bytes more elements segments v.2 in
      let b = accepted_more p r limit q bytes more a in
      (b.0, b.1, v.0, subst (λ m. IsFlatOf m v.0) (sym b.1) v.1, s.0, s.1)

  pub accepted_by_items : EncodeAlike p r → ReadSegmentsAlike p r → (b : Accepted r limit q bytes) (v : FlatModule) → IsFlatOf b.module_value v → SpellsFlat r v bytes
      → AllByRecursion (HasItem p) (flat_items v) → (a : Accepted p limit q bytes) × (a.module_value ≡ b.module_value)
  accepted_by_items alike fronts b v is spelled own =
      let m = flat_from p b.module_value v bytes is (spelled_by_items p r v bytes more alike fronts spelled own) in
      (record { module_value = b.module_value; spelled = (b.spelled.0, m.0); of_profile = m.1; valid = b.valid; within = b.within }, refl)

  pub judged_alike : ReadSegmentsAlike p r → SameUpToProfile p r (verdict p limit q bytes) (verdict r limit q bytes)
  judged_alike fronts =
      made_apart p r (λ h. summary_in h.0) (answer_of checker_after (validator_setting p limit q) bytes) (answer_of checker_after (validator_setting r limit q) bytes)
      (answers_apart p r more fronts checker_after limit (checker_at_start q) bytes)
