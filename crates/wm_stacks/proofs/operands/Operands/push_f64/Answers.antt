-- The bit at its index is set, and those below it stay.
use Rattle.std.proofs.Common.{true, length, arith}
use Rattle.wm_stacks.specs.declared.stack_entries.Entry.TheVariants.{F64}
use Rattle.wm_stacks.specs.declared.words.Kind.TheVariants.{Float}
use Rattle.wm_stacks.proofs.KindsAndWidths.{height_same, written_under, written_there, widths_only, push_ok, push_err, near}
use Rattle.wm_stacks.proofs.operands.Operands.push_f64.Goals as goal

pub push-requires : goal.push-requires
push-requires c = omega (arith, height_same c.self.inside.packed c.self.inside.widths c.args.self.now c.self.view_is, c.requires)

pub returns-in-Ok : goal.returns-in-Ok
returns-in-Ok c =
    let s = c.self.inside in
    let now = c.args.self.now in
    let q = c.push.new.self in
    let w = c.widen.new.self in
    let at = c.height-at.result in
    let n = length s.packed.kinds in
    let under = written_under at true s.widths w n c.in-Ok.ensures.ok c.height-at.ensures.height in
    let h = height_same s.packed s.widths now c.self.view_is in
    record {
      ok =
          push_ok c.push.result s.packed q s.widths w now Float F64 c.self.view_is c.push.ensures.ok under
          (written_there at true s.widths w n c.in-Ok.ensures.ok c.height-at.ensures.height);
      err = push_err c.push.result s.packed q s.widths w now c.self.view_is c.push.ensures.err under;
      near = near c.push.result n (length now.entries) h c.push.ensures.near;
    }

pub returns-in-Err-clause-err : goal.returns-in-Err-clause-err
returns-in-Err-clause-err c =
    let s = c.self.inside in (
      c.in-Err.ensures.err.0,
      widths_only s.packed s.widths c.widen.new.self c.args.self.now c.self.view_is c.in-Err.ensures.err.1,
    )

pub returns-in-Err-clause-near : goal.returns-in-Err-clause-near
returns-in-Err-clause-near c =
    omega (arith, height_same c.self.inside.packed c.self.inside.widths c.args.self.now c.self.view_is, c.height-at.ensures.height, c.in-Err.ensures.near)
