use Rattle.std.proofs.Common.{◌+◌, ◌<◌, ◌≤◌, ◌-◌, arith, refl}
use Rattle.wm_machine.specs.declared.machine.member.SectionKind.TheVariants as section_kind
use Rattle.wm_shortcuts.specs.exact.WholeMembers.{before_member, section_after}
use Rattle.wm_shortcuts.proofs.Completed.{none_yet, ok, then_refused, then_taken}
use Rattle.wm_shortcuts.proofs.Completed.Gave.{also, nothing}
use Rattle.wm_shortcuts.proofs.NamedMembers.{import_completes, import_named, start_of, module_named, next_at}
use Rattle.wm_shortcuts.proofs.imports.imports.Goals as goal

pub loop-left-init : goal.loop-left-init
loop-left-init g c = record {
  within = omega arith;
  section = omega arith;
  advanced = none_yet (start_of section_kind.Import c.in-Some.start);
}

pub returns-in-Err : goal.returns-in-Err
returns-in-Err g c =
    let l = c.loop-left in
    let x = c.in-Some-import_at in
    let within : x.found.next ≤ c.min-end.result = x.ensures.within in
    let order : x.found.stop + 1 < x.found.next = x.ensures.index.some in
    let first : l.used + 1 < x.found.middle = x.ensures.module.some in
    let second : x.found.middle + 1 < x.found.stop = x.ensures.name.some in
    then_refused c.in-Some.ensures l.invariant.advanced (module_named (c.in-Some.start.more - l.used) x.ensures.module (omega arith) (omega arith)) (omega arith) nothing c.out.ensures.used c.give_name.result _ c.out.ensures.refused c.in-Err.is c.give_name.ensures.given c.give_name.ensures.room

pub returns-in-Err-give_name : goal.returns-in-Err-give_name
returns-in-Err-give_name g c =
    let l = c.loop-left in
    let x = c.in-Some-import_at in
    let out = c.out-in-Err-give_name in
    let within : x.found.next ≤ c.min-end.result = x.ensures.within in
    let order : x.found.stop + 1 < x.found.next = x.ensures.index.some in
    let first : l.used + 1 < x.found.middle = x.ensures.module.some in
    let second : x.found.middle + 1 < x.found.stop = x.ensures.name.some in
    then_refused c.in-Some.ensures l.invariant.advanced (import_named (c.in-Some.start.more - l.used) x.ensures.module (omega arith) (omega arith) x.ensures.name (omega arith) (omega arith)) (omega arith) (also nothing c.in_default-give_name.ensures.given) out.ensures.used c.give_name-in-loop-left.result _ out.ensures.refused c.in-Err-give_name.is c.give_name-in-loop-left.ensures.given c.give_name-in-loop-left.ensures.room

pub returns-in-Err-give_import : goal.returns-in-Err-give_import
returns-in-Err-give_import g c =
    let l = c.loop-left in
    let x = c.in-Some-import_at in
    let out = c.out-in-Err-give_import in
    let within : x.found.next ≤ c.min-end.result = x.ensures.within in
    let order : x.found.stop + 1 < x.found.next = x.ensures.index.some in
    let first : l.used + 1 < x.found.middle = x.ensures.module.some in
    let second : x.found.middle + 1 < x.found.stop = x.ensures.name.some in
    then_refused c.in-Some.ensures l.invariant.advanced (import_completes (c.in-Some.start.more - l.used) x.ensures.module (omega arith) (omega arith) x.ensures.name (omega arith) (omega arith) _ x.ensures.kind x.ensures.index (omega arith) (omega arith) refl) (omega arith) (also (also nothing c.in_default-give_name.ensures.given) c.in_default-give_name-2.ensures.given) out.ensures.used c.give_import.result _ out.ensures.refused c.in-Err-give_import.is c.give_import.ensures.given c.give_import.ensures.room

pub loop-left-preserved : goal.loop-left-preserved
loop-left-preserved g c =
    let i = c.in-Some.start in
    let l = c.loop-left in
    let x = c.in-Some-import_at in
    let within : x.found.next ≤ c.min-end.result = x.ensures.within in
    let order : x.found.stop + 1 < x.found.next = x.ensures.index.some in
    let first : l.used + 1 < x.found.middle = x.ensures.module.some in
    let second : x.found.middle + 1 < x.found.stop = x.ensures.name.some in
    record {
      within = omega arith;
      section = omega arith;
      advanced = then_taken refl l.invariant.advanced (import_completes (c.in-Some.start.more - l.used) x.ensures.module (omega arith) (omega arith) x.ensures.name (omega arith) (omega arith) (before_member section_kind.Import (section_after i x.found.next (l.left - 1))) x.ensures.kind x.ensures.index (omega arith) (omega arith)
          (next_at section_kind.Import i (l.left - 1) l.used x.found.next (omega arith))) (omega arith) (also (also nothing c.in_default-give_name.ensures.given) c.in_default-give_name-2.ensures.given) refl ok _ refl refl c.in_default-give_import.ensures.given tt;
    }
