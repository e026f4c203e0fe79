-- The bit at its index is written, and those below it stay.
use Rattle.std.proofs.Common.{◌∙◌, length}
use Rattle.wm_stacks.specs.declared.words.Kind.TheVariants.{Float}
use Rattle.wm_stacks.proofs.KindsAndWidths.{kept, pushed, written_there, written_under}
use Rattle.wm_stacks.proofs.operands.Operands.push_float_fast.Goals as goal

pub returns : goal.returns
returns c =
    let s = c.self.inside in
    let w = c.put.new.self in
    let n = length s.packed.kinds in
    let at = c.height-height.result in
    let under = written_under at _ s.widths w n c.put.ensures c.height-height.ensures.height in (
      λ t. pushed s.packed c.push_fast.new.self s.widths w c.args.self.now Float c.args.float c.self.view_is (c.push_fast.ensures.0 t) under
          (written_there at _ s.widths w n c.put.ensures c.height-height.ensures.height ∙ c.is_float.ensures c.if-not-is_float.false),
      λ t. kept s.packed c.push_fast.new.self s.widths w c.args.self.now c.self.view_is (c.push_fast.ensures.1 t) under,
    )
