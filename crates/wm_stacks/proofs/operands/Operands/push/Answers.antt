-- An operand that is no float is determined by its kind.
use Rattle.std.proofs.Common.{◌≡◌, length, refl, ap, sym, ◌∙◌, arith}
use Rattle.wm_stacks.specs.inner.Operands.{entry_of}
use Rattle.wm_stacks.specs.inner.Widths.{is_wide}
use Rattle.wm_stacks.specs.declared.words.Kind.{Kind}
use Rattle.wm_stacks.proofs.KindsAndWidths.{height_same, push_ok, push_err, near, between}
use Rattle.wm_stacks.proofs.operands.Operands.push.Goals as goal
use Rattle.wm_stacks.proofs.operands.Operands.push.Goals.{in-I32, in-I64, in-Unknown}

pub push-requires : goal.push-requires
push-requires c = omega (arith, height_same c.self.inside.packed c.self.inside.widths c.args.self.now c.self.view_is, c.requires)

pub returns : goal.returns
returns c =
    let s = c.self.inside in
    let now = c.args.self.now in
    let e = c.push.ensures in
    let q = c.push.new.self in
    let h = height_same s.packed s.widths now c.self.view_is in
    let wide = is_wide s.widths (length s.packed.kinds) in
    let told : entry_of c.match-entry.kind wide ≡ c.args.entry =
    elim c.match-entry.branch [
      | in-I32 w ↦ ap (λ (k : Kind). entry_of k wide) w.kind-is ∙ sym w.in-I32.is
      | in-I64 w ↦ ap (λ (k : Kind). entry_of k wide) w.kind-is ∙ sym w.in-I64.is
      | in-Unknown w ↦ ap (λ (k : Kind). entry_of k wide) w.kind-is ∙ sym w.in-Unknown.is
    ] in
    record {
      ok = push_ok c.push.result s.packed q s.widths s.widths now c.match-entry.kind c.args.entry c.self.view_is e.ok (λ i l. refl) told;
      err = push_err c.push.result s.packed q s.widths s.widths now c.self.view_is e.err (λ i l. refl);
      near = near c.push.result (length s.packed.kinds) (length now.entries) h e.near;
      between = λ _. between c.push.result (length s.packed.kinds) (length now.entries) h e.between;
    }
