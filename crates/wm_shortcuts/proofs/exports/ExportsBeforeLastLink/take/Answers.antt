use Rattle.std.proofs.Common.{◌+◌, ◌<◌, ◌≤◌, ◌-◌, arith, refl}
use Rattle.wm_machine.specs.declared.machine.member.SectionKind.TheVariants as section_kind
use Rattle.wm_shortcuts.specs.exact.WholeMembers.{before_member, section_after}
use Rattle.wm_shortcuts.proofs.Completed.{none_yet, ok, then_refused, then_taken}
use Rattle.wm_shortcuts.proofs.Completed.Gave.{also, nothing}
use Rattle.wm_shortcuts.proofs.NamedMembers.{export_completes, export_named, start_of, next_at}
use Rattle.wm_shortcuts.proofs.exports.ExportsBeforeLastLink.take.Goals as goal

pub loop-left-init : goal.loop-left-init
loop-left-init g c = record {
  within = omega arith;
  section = omega arith;
  advanced = none_yet (start_of section_kind.Export c.in-Some.start);
}

pub returns-in-Err : goal.returns-in-Err
returns-in-Err g c =
    let l = c.loop-left in
    let x = c.in-Some-export_at in
    let within : x.found.next ≤ c.min-end.result = x.ensures.within in
    let first : l.used + 1 < x.found.stop = x.ensures.name.some in
    let order : x.found.stop + 1 < x.found.next = x.ensures.index.some in
    then_refused c.in-Some.ensures l.invariant.advanced (export_named (c.in-Some.start.more - l.used) x.ensures.name (omega arith) (omega arith)) (omega arith) nothing c.out.ensures.used c.give_name.result _ c.out.ensures.refused c.in-Err.is c.give_name.ensures.given c.give_name.ensures.room

pub returns-in-Err-give_export : goal.returns-in-Err-give_export
returns-in-Err-give_export g c =
    let l = c.loop-left in
    let x = c.in-Some-export_at in
    let out = c.out-in-Err-give_export in
    let within : x.found.next ≤ c.min-end.result = x.ensures.within in
    let first : l.used + 1 < x.found.stop = x.ensures.name.some in
    let order : x.found.stop + 1 < x.found.next = x.ensures.index.some in
    then_refused c.in-Some.ensures l.invariant.advanced (export_completes (c.in-Some.start.more - l.used) x.ensures.name (omega arith) (omega arith) x.ensures.kind x.ensures.index _ (omega arith) (omega arith) refl) (omega arith) (also nothing c.in_default-give_name.ensures.given) out.ensures.used c.give_export.result _ out.ensures.refused c.in-Err-give_export.is c.give_export.ensures.given c.give_export.ensures.room

pub loop-left-preserved : goal.loop-left-preserved
loop-left-preserved g c =
    let i = c.in-Some.start in
    let l = c.loop-left in
    let x = c.in-Some-export_at in
    let within : x.found.next ≤ c.min-end.result = x.ensures.within in
    let first : l.used + 1 < x.found.stop = x.ensures.name.some in
    let order : x.found.stop + 1 < x.found.next = x.ensures.index.some in
    record {
      within = omega arith;
      section = omega arith;
      advanced = then_taken refl l.invariant.advanced (export_completes (c.in-Some.start.more - l.used) x.ensures.name (omega arith) (omega arith) x.ensures.kind x.ensures.index (before_member section_kind.Export (section_after i x.found.next (l.left - 1))) (omega arith) (omega arith) (next_at section_kind.Export i (l.left - 1) l.used x.found.next (omega arith))) (omega arith) (also nothing c.in_default-give_name.ensures.given) refl ok _ refl refl c.in_default-give_export.ensures.given tt;
    }
