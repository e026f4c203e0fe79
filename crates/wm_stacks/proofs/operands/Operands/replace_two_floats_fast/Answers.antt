-- The kinds of the two topmost operands and their widths show that they fit. The given operand is as wide as
-- the lower one.
use Rattle.std.proofs.Common.{◌≡◌, ◌-◌, IsTrue, Bool, [], ◌∷◌, Option, length, ap, ◌∙◌, subst}
use Rattle.wm_stacks.specs.declared.words.Kind.{Kind}
use Rattle.wm_stacks.specs.declared.words.Kind.TheVariants.{Float}
use Rattle.wm_stacks.specs.Stack.{fits}
use Rattle.wm_stacks.specs.exact.Words.{Kinds, ReplacesKinds}
use Rattle.wm_stacks.specs.inner.Operands.{entry_of, operands_of}
use Rattle.wm_stacks.specs.inner.Widths.{is_wide}
use Rattle.wm_stacks.proofs.KindsAndWidths.{two_replaced}
use Rattle.wm_stacks.proofs.operands.Operands.replace_two_floats_fast.Goals as goal

pub returns : goal.returns
returns c =
    let s = c.self.inside in
    let q = c.replace_two_fast.new.self in
    let first = c.height-height.result - 1 in
    let second = c.height-height.result - 2 in
    let is : first ≡ length s.packed.kinds - 1 = ap (λ n. n - 1) c.height-height.ensures.height in
    let is2 : second ≡ length s.packed.kinds - 2 = ap (λ n. n - 2) c.height-height.ensures.height in
    let fit : IsTrue (fits (entry_of Float (is_wide s.widths second)) c.args.under) =
    subst (λ (b : Bool). IsTrue (fits (entry_of Float b) c.args.under)) c.is_wide-2.ensures (c.is_of_width-2.ensures c.if-not-is_of_width-2.false) in (
      λ t. two_replaced s.packed q s.widths c.args.self.now first second Float Float c.args.top c.args.under c.args.given c.self.view_is is is2
          (subst (λ (b : Bool). IsTrue (fits (entry_of Float b) c.args.top)) c.is_wide.ensures (c.is_of_width.ensures c.if-not-is_of_width.false)) fit
          (c.is_as_wide.ensures c.if-not-is_as_wide.false (is_wide s.widths second) fit)
          (subst (λ (j : Option Kind). ReplacesKinds (Float ∷ Float ∷ []) j s.packed q) c.kind_given.ensures (c.replace_two_fast.ensures.0 t)),
      λ t. ap (λ (z : Kinds). operands_of z s.widths) (c.replace_two_fast.ensures.1 t) ∙ c.self.view_is,
    )
