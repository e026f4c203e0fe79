use Rattle.std.proofs.Common.{◌≡◌}
use Rattle.std.specs.Char.{is_control}
use Rattle.std.specs.List.{list_any}
use Rattle.wm_command.proofs.several.has_control.Given as goal

-- The characters before this one have been seen.
abbrev pub invariant-loop-c : goal.invariant-loop-c
invariant-loop-c l = l.found ≡ list_any is_control l.yielded
