use Rattle.std.proofs.Common.{◌<◌, ◌++◌, ◌∷◌, [], refl}
use Rattle.wm_syntax.specs.Types.{Signature}
use Rattle.wm_rules.proofs.ChangedLast.{taken_last}
use Rattle.wm_rules.proofs.builder.add_param.Goals as goal

pub returns : goal.returns
returns c =
    let some : 0 < c.args.types.now.len = c.in-Some.ensures.variant.0 refl in
    taken_last (λ (s : Signature). record s { params = s.params ++ c.args.ty ∷ [] }) c.args.types.now.items c.args.types.now.len c.in-Some.last.now c.push_param.new.last c.push_param.result c.args.types.now.ok.0 some c.in-Some.ensures.value c.push_param.ensures
