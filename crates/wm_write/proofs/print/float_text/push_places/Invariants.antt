use Rattle.std.proofs.Common.{◌≡◌, ◌<◌, ◌≤◌, ◌+◌, ◌-◌, ◌^◌, ◌++◌, length}
use Rattle.wm_write.specs.FloatText.{places}
use Rattle.wm_write.proofs.print.float_text.push_places.Given as goal

-- The digits on the line, then the remaining ones, are all digits.
abbrev pub invariant-loop : goal.invariant-loop
invariant-loop l = record {
  few : l.rest < 16 ^ 13;
  room : length l.line + (13 - l.counter) ≤ length l.fn.line + 13;
  spelled : l.line ++ places (13 - l.counter) l.rest ≡ l.fn.line ++ places 13 l.n;
}
