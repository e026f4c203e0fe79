use Rattle.std.proofs.Common.{◌<◌, ◌++◌, ◌∷◌, [], refl}
use Rattle.wm_syntax.specs.Modules.{Element}
use Rattle.wm_rules.proofs.ChangedLast.{taken_last}
use Rattle.wm_rules.proofs.builder.add_element.Goals as goal

pub returns : goal.returns
returns c =
    let some : 0 < c.args.elements.now.len = c.in-Some.ensures.variant.0 refl in
    taken_last (λ (s : Element). record s { functions = s.functions ++ c.args.index ∷ [] }) c.args.elements.now.items c.args.elements.now.len c.in-Some.last.now c.push_function.new.last c.push_function.result c.args.elements.now.ok.0 some c.in-Some.ensures.value c.push_function.ensures
