-- The kind of the top operand shows that it fits. The given operand is determined by its kind.
use Rattle.std.proofs.Common.{◌-◌, [], ◌∷◌, length, refl, ap, ◌∙◌, subst}
use Rattle.std.proofs.Common.{Option}
use Rattle.wm_stacks.specs.declared.words.Kind.{Kind}
use Rattle.wm_stacks.specs.exact.Words.{Kinds, ReplacesKinds}
use Rattle.wm_stacks.specs.inner.Operands.{operands_of}
use Rattle.wm_stacks.specs.inner.Widths.{is_wide}
use Rattle.wm_stacks.proofs.KindsAndWidths.{one_replaced}
use Rattle.wm_stacks.proofs.operands.Operands.replace_fast.Goals as goal

pub returns : goal.returns
returns c =
    let s = c.self.inside in
    let q = c.replace_fast.new.self in
    let at = length s.packed.kinds - 1 in
    let wide = is_wide s.widths at in (
      λ t. one_replaced s.packed q s.widths c.args.self.now at c.in-Some.top c.args.expected c.args.given c.self.view_is refl
          (c.in-Some.ensures wide) (c.has_no_width.ensures c.if-not-has_no_width.false wide)
          (subst (λ (j : Option Kind). ReplacesKinds (c.in-Some.top ∷ []) j s.packed q) c.kind_given.ensures (c.replace_fast.ensures.0 t)),
      λ t. ap (λ (z : Kinds). operands_of z s.widths) (c.replace_fast.ensures.1 t) ∙ c.self.view_is,
    )
