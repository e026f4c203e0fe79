use Rattle.std.proofs.Common.{arith, subst, sym, take}
use Rattle.std.specs.Io.KnownBytes.{Consumes}
use Rattle.wm_rules.proofs.SourceLemmas.{consumes_then}
use Rattle.wm_command.proofs.RunLemmas.{longer}
use Rattle.wm_command.proofs.build.read_all.Goals as goal

pub returns-then-len-limit-clause-long : goal.returns-then-len-limit-clause-long
returns-then-len-limit-clause-long g c = λ e.
    longer c.args.limit _ _ c.extend_from_slice.new.self.items
    (subst (Consumes (g.R.Source.remaining c.args.r.now) (g.R.Source.remaining c.get.new.self)) (sym c.in_default.ensures.items)
    (consumes_then _ _ _ c.loop.all.items (take c.in-Ok.n c.get.new.buf) c.loop.invariant.2 c.in-Ok.ensures.bytes.0)) (omega (arith, c.if-len-limit.true, c.len.ensures))
