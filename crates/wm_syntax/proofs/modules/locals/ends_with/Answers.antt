-- The last run has the greatest index.
use Rattle.std.proofs.Common.{sym, None, Some, ◌≡◌, ◌∙◌, ap, refl, true, rules}
use denote.Enum.Bare.{sameb, same_true}
use Rattle.wm_syntax.specs.declared.types.ValType.{ValType}
use Rattle.wm_syntax.specs.declared.types.ValType.TheVariants.{I32, I64, F32, F64}
use Rattle.wm_syntax.specs.contracts.types.ValType.{the_type}
use Rattle.wm_syntax.specs.inner.Runs.{last_type}
use Rattle.wm_syntax.proofs.RunLists.{last_type_at}
use Rattle.wm_syntax.proofs.modules.locals.ends_with.Goals as goal

same_self : (t : ValType) → sameb the_type t t ≡ true
same_self I32 = refl
same_self I64 = refl
same_self F32 = refl
same_self F64 = refl

pub returns-in-Some : goal.returns-in-Some
returns-in-Some c =
    let e : last_type None c.args.runs.now ≡ Some c.in-Some.run'.now.ty = last_type_at c.args.runs.now None c.in-Some.run'.now (sym c.in-Some.ensures.value) in
    rw e (
      λ t. ap (λ z. Some z) (same_true the_type (search rules) _ _ (sym c.eq.ensures ∙ t)),
      λ k.
          let t : c.in-Some.run'.now.ty ≡ c.args.ty = cc in
          c.eq.ensures ∙ ap (λ z. sameb the_type z c.args.ty) t ∙ same_self c.args.ty,
    )
