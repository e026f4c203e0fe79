use Rattle.std.proofs.Common.{◌∙◌, ◌∷◌, ◌||◌, [], ap, map-id, sym}
use Rattle.std.proofs.lemmas.Iterator.{YieldsList-from_chars}
use Rattle.std.proofs.lemmas.Iterator.Consumers.{YieldsList-end}
use Rattle.std.proofs.lemmas.List.Folds.{list_any-append}
use Rattle.wm_command.proofs.SeveralLemmas.{any_one}
use Rattle.std.specs.Char.{is_control}
use Rattle.std.specs.List.{list_any}
use Rattle.wm_command.proofs.several.has_control.Goals as goal

pub returns : goal.returns
returns c =
    let end = YieldsList-end (YieldsList-from_chars c.args.text.now c.utf8.text cc) c.loop-c.yielded _ c.loop-c.yielded_by _ _ c.in-None.is c.next.ensures.steps in
    c.loop-c.invariant ∙ ap (list_any is_control) (sym (map-id c.loop-c.yielded) ∙ end.0)

pub loop-c-preserved : goal.loop-c-preserved
loop-c-preserved c =
    let none = sym c.loop-c.invariant ∙ c.if-found.false in
    let last = ap (λ b. b || list_any is_control (c.in-Some.c ∷ [])) none ∙ any_one is_control c.in-Some.c in
    c.is_control-found.ensures ∙ sym (list_any-append is_control c.loop-c.yielded (c.in-Some.c ∷ []) ∙ last)
