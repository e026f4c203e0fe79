use Rattle.std.proofs.Common.{subst, sym}
use Rattle.wm_syntax.specs.inner.Builders.{Keeps}
use Rattle.wm_syntax.proofs.BuilderLemmas.{outcome, stands, falls, keeps_there, on_ok_at, on_err_at}
use Rattle.wm_syntax.proofs.modules.body_builder.BodyBuilder.push_borrowed.Goals as goal

pub invariant_of-self : goal.invariant_of-self
invariant_of-self c =
    let k = subst (Keeps c.self.inside.ops c.self.inside.begun.items c.self.inside.left) c.self.view_is c.self.invariant in
    let x = outcome c.push_any.result _ c.push_any.new.ops _ c.push_any.new.begun.items _ c.push_any.new.left c.args.self.now c.args.op.now k c.push_any.ensures.ok c.push_any.ensures.err c.push_any.ensures.unbalanced in
    subst (Keeps c.push_any.new.ops c.push_any.new.begun.items c.push_any.new.left) (sym (keeps_there _ _ _ x.place x.keeps)) x.keeps

pub returns-clause-ok : goal.returns-clause-ok
returns-clause-ok c =
    let k = subst (Keeps c.self.inside.ops c.self.inside.begun.items c.self.inside.left) c.self.view_is c.self.invariant in
    let x = outcome c.push_any.result _ c.push_any.new.ops _ c.push_any.new.begun.items _ c.push_any.new.left c.args.self.now c.args.op.now k c.push_any.ensures.ok c.push_any.ensures.err c.push_any.ensures.unbalanced in
    on_ok_at c.push_any.result c.args.self.now x.place _ c.args.op.now (keeps_there _ _ _ x.place x.keeps) x.taken

pub returns-clause-err : goal.returns-clause-err
returns-clause-err c =
    let k = subst (Keeps c.self.inside.ops c.self.inside.begun.items c.self.inside.left) c.self.view_is c.self.invariant in
    let x = outcome c.push_any.result _ c.push_any.new.ops _ c.push_any.new.begun.items _ c.push_any.new.left c.args.self.now c.args.op.now k c.push_any.ensures.ok c.push_any.ensures.err c.push_any.ensures.unbalanced in
    on_err_at c.push_any.result c.args.self.now x.place _ (keeps_there _ _ _ x.place x.keeps) x.refused

pub returns-clause-stands : goal.returns-clause-stands
returns-clause-stands c =
    let k = subst (Keeps c.self.inside.ops c.self.inside.begun.items c.self.inside.left) c.self.view_is c.self.invariant in
    λ p is. stands c.push_any.result c.self.inside.ops c.self.inside.begun.items c.self.inside.left c.args.self.now p c.args.op.now k c.push_any.ensures.fits is

pub returns-clause-unbalanced : goal.returns-clause-unbalanced
returns-clause-unbalanced c =
    let k = subst (Keeps c.self.inside.ops c.self.inside.begun.items c.self.inside.left) c.self.view_is c.self.invariant in
    λ is. falls c.push_any.result c.self.inside.ops c.self.inside.begun.items c.self.inside.left c.args.self.now c.args.op.now k c.push_any.ensures.unbalanced is
