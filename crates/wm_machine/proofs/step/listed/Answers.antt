use Rattle.std.proofs.Common.{◌≡◌, ℕ, zero, suc, ◌-◌, ◌∙◌, ap, refl, arith}
use Rattle.wm_machine.specs.declared.machine.Counts.{Counts}
use Rattle.wm_machine.specs.declared.machine.member.SectionKind.{SectionKind}
use Rattle.wm_machine.specs.exact.Members.{member_at_start}
use Rattle.wm_machine.specs.exact.Steps.{machine_in_member, machine_after_count}
use Rattle.wm_machine.proofs.step.listed.Goals as goal

some : (of : SectionKind) (counts : Counts) (bytes n : ℕ) → (n ≡ 0 → ⊥) → machine_in_member of counts bytes (n - 1) (member_at_start of) ≡ machine_after_count of counts bytes n
some of counts bytes zero h = absurd (h refl)
some of counts bytes (suc n) h = let e : suc n - 1 ≡ n = omega arith in ap (λ m. machine_in_member of counts bytes m (member_at_start of)) e

-- src/step.rt:94:1
pub returns-else-count-eq0 : goal.returns-else-count-eq0
returns-else-count-eq0 c =
    c.framed-else-count-eq0.ensures
    ∙ (ap (λ q. machine_in_member c.args.of c.args.counts c.args.bytes (c.args.count - 1) q) c.begin.ensures
    ∙ some c.args.of c.args.counts c.args.bytes c.args.count c.if-count-eq0.false)
