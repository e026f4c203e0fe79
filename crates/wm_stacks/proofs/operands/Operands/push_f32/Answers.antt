-- The bit at its index is cleared, and those below it stay.
use Rattle.std.proofs.Common.{false, length, arith}
use Rattle.wm_stacks.specs.declared.stack_entries.Entry.TheVariants.{F32}
use Rattle.wm_stacks.specs.declared.words.Kind.TheVariants.{Float}
use Rattle.wm_stacks.proofs.KindsAndWidths.{height_same, written_under, written_there, push_ok, push_err, near, between}
use Rattle.wm_stacks.proofs.operands.Operands.push_f32.Goals as goal

pub push-requires : goal.push-requires
push-requires c = omega (arith, height_same c.self.inside.packed c.self.inside.widths c.args.self.now c.self.view_is, c.requires)

pub returns : goal.returns
returns c =
    let s = c.self.inside in
    let now = c.args.self.now in
    let q = c.push.new.self in
    let w = c.narrow.new.self in
    let at = c.height-at.result in
    let n = length s.packed.kinds in
    let under = written_under at false s.widths w n c.narrow.ensures c.height-at.ensures.height in
    let h = height_same s.packed s.widths now c.self.view_is in
    record {
      ok =
          push_ok c.push.result s.packed q s.widths w now Float F32 c.self.view_is c.push.ensures.ok under
          (written_there at false s.widths w n c.narrow.ensures c.height-at.ensures.height);
      err = push_err c.push.result s.packed q s.widths w now c.self.view_is c.push.ensures.err under;
      near = near c.push.result n (length now.entries) h c.push.ensures.near;
      between = between c.push.result n (length now.entries) h c.push.ensures.between;
    }
