use Rattle.std.proofs.Common.{◌≡◌, ◌≤◌, ◌-◌, drop, length, take, arith}
use Rattle.std.proofs.lemmas.List.{length-drop, take_rest}
use Rattle.std.specs.Io.KnownBytes.{Appends}
use Rattle.wm_syntax.proofs.Writing.{appends_more, stays_open}
use Rattle.wm_syntax.proofs.io.put_all.Goals as goal

pub loop-from-preserved : goal.loop-from-preserved
loop-from-preserved g c =
    let rest : take (length c.args.bytes.now - c.loop-from.from) (drop c.loop-from.from c.args.bytes.now) ≡ drop c.loop-from.from c.args.bytes.now = take_rest c.args.bytes.now c.loop-from.from in
    let bound : c.in-Ok.n ≤ length (drop c.loop-from.from c.args.bytes.now) = rw rest at c.in-Ok.ensures.bound in
    let wrote : Appends (g.W.Dest.contents c.loop-from.w) (g.W.Dest.contents c.put.new.self) (take c.in-Ok.n (drop c.loop-from.from c.args.bytes.now)) = rw rest at c.in-Ok.ensures.bytes in (
      omega (arith, bound, length-drop c.loop-from.from c.args.bytes.now),
      appends_more _ _ _ c.args.bytes.now c.loop-from.from c.in-Ok.n c.loop-from.invariant.1 wrote,
      stays_open c.loop-from.invariant.2 c.in-Ok.ensures.failed,
    )
