use Rattle.std.proofs.Common.{◌≡◌, ◌-◌, Some, length, slice_get, ap, ◌∙◌, refl, subst, sym, arith}
use Rattle.wm_syntax.specs.declared.instructions.Op.TheVariants.{Else, End}
use Rattle.wm_syntax.specs.inner.Builders.{last_of}
use Rattle.wm_syntax.proofs.OpLengths.{same_len, same_naming}
use Rattle.wm_syntax.proofs.modules.sized_ops.SizedOps.end_else.Goals as goal

pub invariant_of-self : goal.invariant_of-self
invariant_of-self c =
    let ops = c.self.inside.ops.items in
    let before : last_of ops ≡ Some Else = subst (λ xs. last_of xs ≡ Some Else) (sym c.self.view_is) c.requires in
    let count : c.len-last.result ≡ length ops = omega arith in
    let last : slice_get ops (c.len-last.result - 1) ≡ Some Else = ap (λ n. slice_get ops (n - 1)) count ∙ before in
    rw (same_len Else End refl ops (c.len-last.result - 1) last, same_naming Else End refl ops (c.len-last.result - 1) last) c.self.invariant
