-- Known locals were found by searches that are counted.
use Rattle.std.proofs.Common.{◌≤◌, ◌∙◌, sym, arith}
use Rattle.wm_stacks.specs.Probes.{probes_for}
use Rattle.wm_typing.proofs.KnownTypes.{found_within, found_more}
use Rattle.wm_typing.proofs.declared_locals.DeclaredLocals.search.Goals as goal

pub invariant_of-self : goal.invariant_of-self
invariant_of-self c =
    let s = c.self.inside in
    let n = c.max-self-inside.result in
    let more : s.probes ≤ n = omega arith in
    let counted : probes_for s.table c.args.index ≤ n = omega arith in
    found_more s.known c.note.new.self s.table n c.args.index c.in-Some.ty (found_within s.known s.table s.probes n c.self.invariant more)
    c.note.ensures (sym c.find-found.ensures.ty ∙ c.in-Some.is) counted

pub invariant_of-self-in_default : goal.invariant_of-self-in_default
invariant_of-self-in_default c =
    let s = c.self.inside in
    let n = c.max-self-inside.result in
    let more : s.probes ≤ n = omega arith in
    found_within s.known s.table s.probes n c.self.invariant more
