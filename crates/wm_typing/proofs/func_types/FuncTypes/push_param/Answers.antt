-- The parameters of the last type are at the end of the list.
use Rattle.std.proofs.Common.{arith, ◌∙◌}
use Rattle.wm_typing.proofs.FuncTypeLists.{count_fits, param_pushed}
use Rattle.wm_typing.proofs.func_types.FuncTypes.push_param.Goals as goal

pub overflow_add-index_mut : goal.overflow_add-index_mut
overflow_add-index_mut c =
    let k = count_fits c.args.self.now c.self.inside.params.items c.self.inside.entries.items c.len-last.result c.index_mut.result.now c.self.invariant c.self.view_is c.requires (c.len-last.ensures ∙ c.self.inside.entries.ok.0) c.index_mut.ensures.value in
    omega (arith, k, c.len-total.type_inv, c.len-total.ensures, c.in_ok-push.ensures.len, c.self.inside.params.ok.0)

pub invariant_of-self-2 : goal.invariant_of-self-2
invariant_of-self-2 c =
    rw c.in_ok-push.ensures.items (param_pushed c.args.self.now c.self.inside.params.items c.args.ty c.self.inside.entries.items c.len-last.result c.index_mut.result.now c.self.invariant c.self.view_is c.requires (c.len-last.ensures ∙ c.self.inside.entries.ok.0) c.index_mut.ensures.value).entries

pub returns-clause-ok : goal.returns-clause-ok
returns-clause-ok c =
    rw c.in_ok-push.ensures.items (param_pushed c.args.self.now c.self.inside.params.items c.args.ty c.self.inside.entries.items c.len-last.result c.index_mut.result.now c.self.invariant c.self.view_is c.requires (c.len-last.ensures ∙ c.self.inside.entries.ok.0) c.index_mut.ensures.value).types
