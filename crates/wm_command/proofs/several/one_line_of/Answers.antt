use Rattle.std.proofs.Common.{◌∙◌, ◌++◌, ◌∷◌, [], ap, ap₂, map, sym, take, arith}
use Rattle.std.proofs.lemmas.List.{map_more, take_all}
use Rattle.wm_command.specs.Several.{spaced}
use Rattle.wm_command.proofs.several.one_line_of.Goals as goal

pub loop-byte-preserved : goal.loop-byte-preserved
loop-byte-preserved c =
    let front = take c.saturating_sub.result c.args.text.now in
    let i = c.loop-byte.byte-index in
    c.in_ok-push.ensures.items ∙ ap₂ (λ x y. x ++ y ∷ []) c.loop-byte.invariant c.spaced_of.ensures ∙ sym (map_more spaced front i 0 c.loop-byte-test.true)

pub returns : goal.returns
returns c =
    let front = take c.saturating_sub.result c.args.text.now in
    let all = take_all c.loop-byte.byte-index front (omega (arith, c.loop-byte-test.false)) in
    c.in_ok-push-2.ensures.items ∙ ap (λ x. x ++ 10 ∷ []) (c.loop-byte.invariant ∙ ap (map spaced) all ∙ ap (λ n. map spaced (take n c.args.text.now)) c.saturating_sub.ensures)
