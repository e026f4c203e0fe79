use Rattle.std.proofs.Common.{◌≡◌, ◌≤◌, ◌^◌, take, min}
use Rattle.std.specs.Str.Parse.{digits_value}
use Rattle.wm_floats.specs.exact.Atoms.{plain}
use Rattle.wm_floats.proofs.digits.held.Given as goal

abbrev pub invariant-loop-byte : goal.invariant-loop-byte
invariant-loop-byte l = (l.n ≡ min (digits_value l.base (plain (take l.byte-index l.text))) (2 ^ 56)) × (l.n ≤ 2 ^ 56)
