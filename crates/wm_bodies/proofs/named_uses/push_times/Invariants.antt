use Rattle.std.proofs.Common.{◌≡◌, ◌++◌, replicate}
use Rattle.wm_bodies.proofs.named_uses.push_times.Given as goal

abbrev pub invariant-loop : goal.invariant-loop
invariant-loop l = l.types.items ≡ l.fn.types.items ++ replicate l.counter l.ty
