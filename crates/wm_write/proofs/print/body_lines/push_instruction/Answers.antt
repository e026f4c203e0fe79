use Rattle.std.proofs.Common.{◌≡◌, refl, ap, rules, ◌∙◌, append-nil}
use Rattle.wm_syntax.specs.declared.instructions.Op.TheVariants as op
use Rattle.wm_syntax.specs.declared.instructions.LoadOp.{LoadOp}
use Rattle.wm_syntax.specs.declared.instructions.LoadOp.TheVariants.{I32Load}
use Rattle.wm_syntax.specs.declared.instructions.StoreOp.{StoreOp}
use Rattle.wm_syntax.specs.declared.instructions.StoreOp.TheVariants.{I32Store}
use Rattle.wm_syntax.specs.declared.instructions.Simple.TheVariants.{BrIf, GlobalGet, GlobalSet, Load, Store}
use Rattle.wm_write.proofs.Lines.{op_line, op_line_in_two}
use Rattle.wm_write.proofs.print.body_lines.push_instruction.Goals as goal

pub returns-in-GlobalGet : goal.returns-in-GlobalGet
returns-in-GlobalGet c =
    op_line _ (op.Simple (GlobalGet c.in-GlobalGet.index)) _ _ _ (c.requires.simple ∙ ap op.Simple c.in-GlobalGet.is) c.push_index-in-GlobalGet.ensures.text
    (simp append-nil)

pub returns-in-GlobalSet : goal.returns-in-GlobalSet
returns-in-GlobalSet c =
    op_line _ (op.Simple (GlobalSet c.in-GlobalSet.index)) _ _ _ (c.requires.simple ∙ ap op.Simple c.in-GlobalSet.is) c.push_index-in-GlobalSet.ensures.text
    (simp append-nil)

pub returns-in-BrIf : goal.returns-in-BrIf
returns-in-BrIf c =
    op_line _ (op.Simple (BrIf c.in-BrIf.label)) _ _ _ (c.requires.simple ∙ ap op.Simple c.in-BrIf.is) c.push_index-in-BrIf.ensures.text (simp append-nil)

pub returns-in-Load : goal.returns-in-Load
returns-in-Load c =
    let k : c.in-Load.load ≡ I32Load = search rules in
    op_line_in_two _ (op.Simple (Load I32Load c.in-Load.at)) _ _ _ _ _ (c.requires.simple ∙ ap op.Simple (c.in-Load.is ∙ ap (λ (z : LoadOp). Load z c.in-Load.at) k))
    c.push.ensures c.push_access.ensures refl

pub returns-in-Store : goal.returns-in-Store
returns-in-Store c =
    let k : c.in-Store.store ≡ I32Store = search rules in
    op_line_in_two _ (op.Simple (Store I32Store c.in-Store.at)) _ _ _ _ _
    (c.requires.simple ∙ ap op.Simple (c.in-Store.is ∙ ap (λ (z : StoreOp). Store z c.in-Store.at) k)) c.push-in-Store.ensures c.push_access-in-Store.ensures refl
