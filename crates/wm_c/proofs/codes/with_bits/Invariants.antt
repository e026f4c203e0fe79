use Rattle.std.proofs.Common.{drop}
use Rattle.wm_c.specs.Codes.{AddsBits}
use Rattle.wm_syntax.specs.declared.profile.Profile.{Profile}
use Rattle.wm_c.proofs.codes.with_bits.Given as goal

-- If the remaining bits make a profile of this one, all bits make it of the first one. If all bits make a profile of some
-- profile, so do the remaining bits.
abbrev pub invariant-loop-feature : goal.invariant-loop-feature
invariant-loop-feature l = record {
  adds : (p : Profile) → AddsBits (drop l.feature-index l.features) l.profile l.rest p → AddsBits l.features l.fn.base l.fn.bits p;
  may_add : (base p : Profile) → AddsBits l.features base l.fn.bits p → (q : Profile) × AddsBits (drop l.feature-index l.features) q l.rest p;
}
