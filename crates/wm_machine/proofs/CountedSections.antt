-- The sections of a flat value, with the number of its data segments given apart.
use Rattle.std.proofs.Common.{◌≡◌, ℕ, List, [], ◌∷◌, length, subst}
use Rattle.wm_syntax.specs.declared.profile.Profile.{Profile}
use Rattle.wm_syntax.specs.Spelling.{Form}
use Rattle.wm_syntax.specs.Types.{SpellsU32, SpellsSignature, SpellsLimits, SpellsTableType}
use Rattle.wm_syntax.specs.Profiles.{HasSignature}
use Rattle.wm_machine.specs.Sections.{Those, ListSection, StartSection, SpellsImport, SpellsExport}
use Rattle.wm_machine.specs.Flat.{FlatModule, HasImport, FlatDataCount, SpellsFlatGlobal, SpellsFlatElement, SpellsFlatCode, SpellsFlatSegment, InOrder, flat_sections}

abbrev pub counted_sections : Profile → ℕ → FlatModule → List (Form ℕ)
counted_sections p n v =
    ListSection 1 (Those (HasSignature p) SpellsSignature) v.types
    ∷ ListSection 2 (Those (HasImport p) SpellsImport) v.imports
    ∷ ListSection 3 SpellsU32 v.functions
    ∷ ListSection 4 SpellsTableType v.tables
    ∷ ListSection 5 SpellsLimits v.memories
    ∷ ListSection 6 (SpellsFlatGlobal p) v.globals
    ∷ ListSection 7 SpellsExport v.exports
    ∷ StartSection v.start
    ∷ ListSection 9 (SpellsFlatElement p) v.elements
    ∷ FlatDataCount p n v.data_count
    ∷ ListSection 10 (SpellsFlatCode p) v.codes
    ∷ ListSection 11 (SpellsFlatSegment p) v.segments
    ∷ []

pub counted_so : (p : Profile) (n : ℕ) (v : FlatModule) (b : List ℕ) → n ≡ length v.segments → InOrder (counted_sections p n v) b → InOrder (flat_sections p v) b
counted_so p n v b e h = subst (λ m. InOrder (counted_sections p m v) b) e h

pub counted_as : (p : Profile) (n : ℕ) (v : FlatModule) (b : List ℕ) → length v.segments ≡ n → InOrder (flat_sections p v) b → InOrder (counted_sections p n v) b
counted_as p n v b e h = subst (λ m. InOrder (counted_sections p m v) b) e h
