use Rattle.std.proofs.Common.{◌≡◌, ◌-◌, ap, arith, ◌∙◌}
use Rattle.wm_machine.specs.declared.machine.member.SectionKind.TheVariants as section_kind
use Rattle.wm_machine.specs.declared.machine.member.InMember.TheVariants as at
use Rattle.wm_machine.specs.exact.Steps.{machine_in_member}
use Rattle.wm_shortcuts.proofs.Completed.{first_taken}
use Rattle.wm_shortcuts.proofs.Completed.Gave.{nothing}
use Rattle.wm_shortcuts.proofs.FunctionTypes.{results_over}
use Rattle.wm_shortcuts.proofs.function_types.last_results.Goals as goal

pub returns-then-bytes-eq0 : goal.returns-then-bytes-eq0
returns-then-bytes-eq0 g c =
    let i = c.args.start in
    let all : i.more - 0 ≡ i.more = omega arith in
    first_taken c.requires.machine (results_over i (omega arith) (omega (arith, c.requires.within))) (omega arith) nothing c.ended.ensures.used c.give_result_count-given.result _ (c.over.ensures ∙ ap (λ n. machine_in_member section_kind.Type i.counts n i.left at.Over) all) c.ended.ensures.refused c.give_result_count-given.ensures.given c.give_result_count-given.ensures.room
