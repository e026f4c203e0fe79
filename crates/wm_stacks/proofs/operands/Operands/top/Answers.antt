-- The kind of the top operand, and its width.
use Rattle.std.proofs.Common.{◌-◌, ap, arith}
use Rattle.wm_stacks.proofs.KindsAndWidths.{floor_same, height_same, top_read}
use Rattle.wm_stacks.proofs.operands.Operands.top.Goals as goal

pub overflow_sub-at : goal.overflow_sub-at
overflow_sub-at c = omega (arith, c.in-Some.ensures.0, c.height-at.ensures.height)

pub returns-in-Some : goal.returns-in-Some
returns-in-Some c =
    let s = c.self.inside in
    let now = c.args.self.now in (
      omega (arith, floor_same s.packed s.widths now c.self.view_is, height_same s.packed s.widths now c.self.view_is, c.in-Some.ensures.0),
      top_read s.packed s.widths now c.in-Some.kind (c.height-at.result - 1) c.entry_at.result c.self.view_is c.in-Some.ensures.1
          (ap (λ n. n - 1) c.height-at.ensures.height) c.entry_at.ensures,
    )

pub returns-in-None : goal.returns-in-None
returns-in-None c =
    let s = c.self.inside in
    let now = c.args.self.now in
    omega (arith, floor_same s.packed s.widths now c.self.view_is, height_same s.packed s.widths now c.self.view_is, c.in-None.ensures)
