use Rattle.std.proofs.Common.{◌≡◌, sum_by, take}
use Rattle.wm_rules.specs.Kept.{capped_count, width}
use Rattle.wm_rules.proofs.spaces.widths.Given as goal

-- what the types so far make
abbrev pub invariant-loop-index : goal.invariant-loop-index
invariant-loop-index l = l.sum ≡ capped_count (sum_by width (take l.index l.types))
