-- A body is determined by its ops.
use Rattle.std.proofs.Common.{◌∙◌, sym, ap}
use Rattle.wm_syntax.specs.inner.Building.{tree_of}
use Rattle.wm_syntax.specs.Instructions.{ops_of}
use Rattle.wm_syntax.specs.inner.Codes.{again}
use Rattle.wm_syntax.proofs.modules.equality.BodySame.same.Goals as goal

pub returns : goal.returns
returns c = (
  λ r. sym (again c.args.self.now) ∙ ap tree_of (sym c.ops.ensures ∙ c.same_list.ensures.0 r ∙ c.ops-2.ensures) ∙ again c.args.other.now,
  λ e. c.same_list.ensures.1 (c.ops.ensures ∙ ap ops_of e ∙ sym c.ops-2.ensures),
)
