use Rattle.std.proofs.Common.{◌≡◌, take}
use Rattle.wm_decode.specs.exact.Awaited.{machine_from}
use Rattle.wm_decode.proofs.place.Snapshot.replayed.Given as goal

-- the machine after the bytes so far
abbrev pub invariant-loop-byte : goal.invariant-loop-byte
invariant-loop-byte l = l.machine ≡ machine_from l.fn.self.profile l.fn.self.machine (take l.byte-index l.piece)
