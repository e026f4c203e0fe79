use Rattle.std.proofs.Common.{◌≡◌, ◌≤◌, length, take}
use Rattle.wm_floats.specs.exact.Atoms.{plain}
use Rattle.wm_floats.proofs.digits.count.Given as goal

abbrev pub invariant-loop-byte : goal.invariant-loop-byte
invariant-loop-byte l = (l.n ≡ length (plain (take l.byte-index l.text))) × (l.n ≤ l.byte-index)
