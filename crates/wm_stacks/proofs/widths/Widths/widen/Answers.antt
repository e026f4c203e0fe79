-- The words that are made change no width.
use Rattle.std.proofs.Common.{◌∙◌, arith}
use Rattle.wm_stacks.proofs.WidthWords.{same_widths}
use Rattle.wm_stacks.proofs.widths.Widths.widen.Goals as goal

pub put-requires : goal.put-requires
put-requires c = c.in-Ok.ensures.ok

pub returns-in-Ok-clause-ok : goal.returns-in-Ok-clause-ok
returns-in-Ok-clause-ok c =
    let s = c.args.self.now in
    let w = c.put.ensures in
    record {
      there = w.there;
      others = λ i n. w.others i n ∙ same_widths s.first c.lengthen.new.words.items s.rest.items c.in-Ok.ensures.same i;
    }

pub returns-in-Err-clause-err : goal.returns-in-Err-clause-err
returns-in-Err-clause-err c =
    let s = c.args.self.now in (
      c.in-Err.ensures.err,
      λ i. same_widths s.first c.lengthen.new.words.items s.rest.items c.in-Err.ensures.same i,
    )

pub returns-in-Err-clause-near : goal.returns-in-Err-clause-near
returns-in-Err-clause-near c = omega (arith, c.in-Err.ensures.near)
