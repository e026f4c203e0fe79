use Rattle.std.proofs.Common.{◌<◌, ◌++◌, ◌∷◌, [], refl}
use Rattle.wm_syntax.specs.Types.{Signature}
use Rattle.wm_rules.proofs.ChangedLast.{taken_last}
use Rattle.wm_rules.proofs.builder.add_result.Goals as goal

pub returns : goal.returns
returns c =
    let some : 0 < c.args.types.now.len = c.in-Some.ensures.variant.0 refl in
    taken_last (λ (s : Signature). record s { results = s.results ++ c.args.ty ∷ [] }) c.args.types.now.items c.args.types.now.len c.in-Some.last.now c.push_result.new.last c.push_result.result c.args.types.now.ok.0 some c.in-Some.ensures.value c.push_result.ensures
