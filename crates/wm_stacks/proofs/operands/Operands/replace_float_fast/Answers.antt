-- The kind of the top operand and its width show that it fits. The given operand has that width.
use Rattle.std.proofs.Common.{◌≡◌, ◌-◌, IsTrue, Bool, [], ◌∷◌, Option, length, ap, ◌∙◌, subst}
use Rattle.wm_stacks.specs.declared.words.Kind.{Kind}
use Rattle.wm_stacks.specs.declared.words.Kind.TheVariants.{Float}
use Rattle.wm_stacks.specs.Stack.{fits}
use Rattle.wm_stacks.specs.exact.Words.{Kinds, ReplacesKinds}
use Rattle.wm_stacks.specs.inner.Operands.{entry_of, operands_of}
use Rattle.wm_stacks.specs.inner.Widths.{is_wide}
use Rattle.wm_stacks.proofs.KindsAndWidths.{one_replaced}
use Rattle.wm_stacks.proofs.operands.Operands.replace_float_fast.Goals as goal

pub returns : goal.returns
returns c =
    let s = c.self.inside in
    let q = c.replace_fast.new.self in
    let at = c.height-height.result - 1 in
    let is : at ≡ length s.packed.kinds - 1 = ap (λ n. n - 1) c.height-height.ensures.height in
    let fit : IsTrue (fits (entry_of Float (is_wide s.widths at)) c.args.expected) =
    subst (λ (b : Bool). IsTrue (fits (entry_of Float b) c.args.expected)) c.is_wide.ensures (c.is_of_width.ensures c.if-not-is_of_width.false) in (
      λ t. one_replaced s.packed q s.widths c.args.self.now at Float c.args.expected c.args.given c.self.view_is is fit
          (c.is_as_wide.ensures c.if-not-is_as_wide.false (is_wide s.widths at) fit)
          (subst (λ (j : Option Kind). ReplacesKinds (Float ∷ []) j s.packed q) c.kind_given.ensures (c.replace_fast.ensures.0 t)),
      λ t. ap (λ (z : Kinds). operands_of z s.widths) (c.replace_fast.ensures.1 t) ∙ c.self.view_is,
    )
