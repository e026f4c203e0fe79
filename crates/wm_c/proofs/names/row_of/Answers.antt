use Rattle.std.proofs.Common.{Option, Some, None, IfSome, codes, inl, inr, refl, subst}
use Rattle.wm_refusals.specs.Rows.{IsRowOfModule, IsRowOfText}
use Rattle.wm_c.specs.Names.{HasRow}
use Rattle.wm_c.proofs.names.row_of.Goals as goal

if_some : {T : Type 0} (P Q : T → Type 0) (o : Option T) → ((x : T) → P x → Q x) → IfSome o P → IfSome o Q
if_some P Q None f h = tt
if_some P Q (Some x) f h = f x h

pub returns-in-Some-clause-row : goal.returns-in-Some-clause-row
returns-in-Some-clause-row c =
    if_some (λ row. IsRowOfModule c.name.result.now row) (λ row. HasRow c.args.why row) c.row_of_module.result
    (λ row h. inl (c.in-Some.why, c.in-Some.ensures, subst (λ n. IsRowOfModule n row) c.name.ensures h))
    c.row_of_module.ensures

pub returns-in-Some-text_of-clause-row : goal.returns-in-Some-text_of-clause-row
returns-in-Some-text_of-clause-row c =
    if_some (λ row. IsRowOfText c.name-in-Some-text_of.result.now row) (λ row. HasRow c.args.why row) c.row_of_text.result
    (λ row h. inr (inl (c.in-Some-text_of.why, c.in-Some-text_of.ensures, subst (λ n. IsRowOfText n row) c.name-in-Some-text_of.ensures h)))
    c.row_of_text.ensures

pub returns-in-Some-clause-none : goal.returns-in-Some-clause-none
returns-in-Some-clause-none c = λ none. absurd (none _ (inl (c.in-Some.why, c.in-Some.ensures, refl)))

pub returns-in-Some-text_of-clause-none : goal.returns-in-Some-text_of-clause-none
returns-in-Some-text_of-clause-none c =
    λ none. absurd (none _ (inr (inl (c.in-Some-text_of.why, c.in-Some-text_of.ensures, refl))))

pub returns-then-why-eq-TOO_LARGE-clause-none : goal.returns-then-why-eq-TOO_LARGE-clause-none
returns-then-why-eq-TOO_LARGE-clause-none c =
    λ none. absurd (none (codes "TooLarge") (inr (inr (c.if-why-eq-TOO_LARGE.true, refl))))
