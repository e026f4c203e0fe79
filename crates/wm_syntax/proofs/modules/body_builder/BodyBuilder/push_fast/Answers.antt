use Rattle.std.proofs.Common.{Some, ap, subst, sym, ◌∙◌}
use Rattle.wm_syntax.specs.inner.Builders.{Keeps}
use Rattle.wm_syntax.proofs.BuilderLemmas.{near_outcome, keeps_there}
use Rattle.wm_syntax.proofs.modules.body_builder.BodyBuilder.push_fast.Goals as goal

pub invariant_of-self : goal.invariant_of-self
invariant_of-self c =
    let k = subst (Keeps c.self.inside.ops c.self.inside.begun.items c.self.inside.left) c.self.view_is c.self.invariant in
    let f = c.push_fast.ensures in
    let x = near_outcome c.push_fast.result _ c.push_fast.new.ops _ _ c.args.self.now c.args.op.now k f.ops f.begun f.labels f.fits f.left in
    subst (Keeps c.push_fast.new.ops c.self.inside.begun.items c.self.inside.left) (sym (keeps_there _ _ _ x.place x.keeps)) x.keeps

pub returns-clause-taken : goal.returns-clause-taken
returns-clause-taken c =
    let k = subst (Keeps c.self.inside.ops c.self.inside.begun.items c.self.inside.left) c.self.view_is c.self.invariant in
    let f = c.push_fast.ensures in
    let x = near_outcome c.push_fast.result _ c.push_fast.new.ops _ _ c.args.self.now c.args.op.now k f.ops f.begun f.labels f.fits f.left in
    λ t. x.taken t ∙ ap Some (sym (keeps_there _ _ _ x.place x.keeps))

pub returns-clause-left : goal.returns-clause-left
returns-clause-left c =
    let k = subst (Keeps c.self.inside.ops c.self.inside.begun.items c.self.inside.left) c.self.view_is c.self.invariant in
    let f = c.push_fast.ensures in
    let x = near_outcome c.push_fast.result _ c.push_fast.new.ops _ _ c.args.self.now c.args.op.now k f.ops f.begun f.labels f.fits f.left in
    λ t. keeps_there _ _ _ x.place x.keeps ∙ x.left_there t
