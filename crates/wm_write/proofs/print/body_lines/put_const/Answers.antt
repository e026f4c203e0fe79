use Rattle.std.proofs.Common.{Some, ap, sym, ◌∙◌}
use Rattle.wm_syntax.specs.declared.instructions.Op.TheVariants as op
use Rattle.wm_write.proofs.Lines.{const_line}
use Rattle.wm_write.proofs.PrintedWords.{sent_same}
use Rattle.wm_write.proofs.print.body_lines.put_const.Goals as goal

pub returns : goal.returns
returns g c =
    let i = c.instruction_of-instruction.result in
    sent_same _ _ _ _
    (c.as_slice.ensures
    ∙ const_line c.args.value i c.name.result.now _ _ _ _ c.instruction_of-instruction.ensures
    (c.name.ensures.named (op.Simple i) (ap Some (sym c.code.ensures.value))) c.new-line.ensures c.push.ensures c.push-2.ensures c.push_immediates.ensures)
    c.put_bytes.ensures
