-- The kinds of the two topmost operands show that they fit. The given operand is determined by its kind.
use Rattle.std.proofs.Common.{◌-◌, [], ◌∷◌, length, refl, ap, ◌∙◌, subst}
use Rattle.std.proofs.Common.{Option}
use Rattle.wm_stacks.specs.declared.words.Kind.{Kind}
use Rattle.wm_stacks.specs.exact.Words.{Kinds, ReplacesKinds}
use Rattle.wm_stacks.specs.inner.Operands.{operands_of}
use Rattle.wm_stacks.specs.inner.Widths.{is_wide}
use Rattle.wm_stacks.proofs.KindsAndWidths.{two_replaced}
use Rattle.wm_stacks.proofs.operands.Operands.replace_two_fast.Goals as goal

pub returns : goal.returns
returns c =
    let s = c.self.inside in
    let q = c.replace_two_fast.new.self in
    let n = length s.packed.kinds in
    let wide = is_wide s.widths (n - 2) in (
      λ t. two_replaced s.packed q s.widths c.args.self.now (n - 1) (n - 2) c.in-Some-whole_kind.first c.in-Some.second c.args.top c.args.under c.args.given
          c.self.view_is refl refl (c.in-Some-whole_kind.ensures (is_wide s.widths (n - 1))) (c.in-Some.ensures wide)
          (c.has_no_width.ensures c.if-not-has_no_width.false wide)
          (subst (λ (j : Option Kind). ReplacesKinds (c.in-Some-whole_kind.first ∷ c.in-Some.second ∷ []) j s.packed q) c.kind_given.ensures (c.replace_two_fast.ensures.0 t)),
      λ t. ap (λ (z : Kinds). operands_of z s.widths) (c.replace_two_fast.ensures.1 t) ∙ c.self.view_is,
    )
