use Rattle.std.proofs.Common.{drop}
use Rattle.wm_command.specs.Lines.{AddsFeatures}
use Rattle.wm_syntax.specs.declared.profile.Profile.{Profile}
use Rattle.wm_command.proofs.features.with_each.Given as goal

-- If the remaining features make a profile of this one, all features make it of the first one.
abbrev pub invariant-loop-feature : goal.invariant-loop-feature
invariant-loop-feature l = (p : Profile) → AddsFeatures l.profile (drop l.feature-index l.features) p → AddsFeatures l.fn.base l.features p
