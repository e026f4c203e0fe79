use Rattle.std.proofs.Common.{◌≡◌, take}
use Rattle.std.specs.List.{list_any}
use Rattle.wm_write.specs.Canon.{is_passive}
use Rattle.wm_write.proofs.check_module.some_passive.Given as goal

-- whether one of the segments so far is passive
abbrev pub invariant-loop-segment : goal.invariant-loop-segment
invariant-loop-segment g l = l.found ≡ list_any (λ s. is_passive (g.S.AnySegment.mode_of s)) (take l.segment-index l.segments)
