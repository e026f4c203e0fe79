use Rattle.std.proofs.Common.{◌≡◌, map, take}
use Rattle.wm_command.specs.Several.{spaced}
use Rattle.wm_command.proofs.several.one_line_of.Given as goal

-- The bytes before this one are on the line.
abbrev pub invariant-loop-byte : goal.invariant-loop-byte
invariant-loop-byte l = l.line.items ≡ map spaced (take l.byte-index l.front)
