use Rattle.std.proofs.Common.{◌≡◌, ◌≤◌, false, length}
use Rattle.std.specs.Io.KnownBytes.{Consumes}
use Rattle.wm_command.proofs.build.read_all.Given as goal

-- Each iteration has read at least one byte.
abbrev pub invariant-loop : goal.invariant-loop
invariant-loop g l =
    (l.counter ≤ length l.all.items) × (length l.all.items ≤ l.fn.limit)
    × Consumes (g.R.Source.remaining l.fn.r) (g.R.Source.remaining l.r) l.all.items × (g.R.Source.has_failed l.r ≡ false)
