-- One more type, with its parameters at the end.
use Rattle.wm_typing.proofs.FuncTypeLists.{pushed}
use Rattle.wm_typing.proofs.func_types.FuncTypes.push.Goals as goal

pub invariant_of-self-2 : goal.invariant_of-self-2
invariant_of-self-2 c = rw (c.in_ok-push_entry.ensures.params, c.in_ok-push_entry.ensures.entries) (pushed c.args.self.now c.self.inside.params.items c.args.params.now c.self.inside.entries.items c.args.given c.self.invariant c.self.view_is).entries

pub returns-clause-ok : goal.returns-clause-ok
returns-clause-ok c = rw (c.in_ok-push_entry.ensures.params, c.in_ok-push_entry.ensures.entries) (pushed c.args.self.now c.self.inside.params.items c.args.params.now c.self.inside.entries.items c.args.given c.self.invariant c.self.view_is).types
