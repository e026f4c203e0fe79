use Rattle.std.proofs.Common.{ℕ, List, None, ap, arith, refl}
use Rattle.wm_shortcuts.specs.declared.ways.Shortcut.{Shortcut}
use Rattle.wm_shortcuts.proofs.Advances.{advances_later, advances_none}
use Rattle.wm_shortcuts.proofs.ways.take_way.Goals as goal
use Rattle.wm_shortcuts.proofs.ways.take_way.Goals.{in-Type+else-taken-gt0, in-Entry+else-taken-gt0-2, in-Runs+else-taken-gt0-3, in-Ops+else-bytes-eq1+else-taken-gt0-4, in-Short}

pub returns : goal.returns
returns g c =
    let held = g.S.Sink.held in
    let bytes : List ℕ = c.args.bytes.now in
    elim c.match-way_of.branch [
      | in-Type+else-taken-gt0 w ↦ (
          let x = w.function_types-taken in
          advances_later g.S.Sink.after g.S.Sink.may_run_out c.args.profile bytes c.args.machine.now x.new.machine c.match-way_of.machine c.short.new.machine (held c.args.sink.now) (held x.new.sink) (held c.match-way_of.sink) (held c.short.new.sink) x.result c.short.result
          x.ensures w.if-taken-gt0.false w.machine-is (ap held w.sink-is) c.short.ensures)
      | in-Entry+else-taken-gt0-2 w ↦ (
          let x = w.entries-taken in
          advances_later g.S.Sink.after g.S.Sink.may_run_out c.args.profile bytes c.args.machine.now x.new.machine c.match-way_of.machine c.short.new.machine (held c.args.sink.now) (held x.new.sink) (held c.match-way_of.sink) (held c.short.new.sink) x.result c.short.result
          x.ensures w.if-taken-gt0-2.false w.machine-is (ap held w.sink-is) c.short.ensures)
      | in-Runs+else-taken-gt0-3 w ↦ (
          let x = w.runs-taken in
          advances_later g.S.Sink.after g.S.Sink.may_run_out c.args.profile bytes c.args.machine.now x.new.machine c.match-way_of.machine c.short.new.machine (held c.args.sink.now) (held x.new.sink) (held c.match-way_of.sink) (held c.short.new.sink) x.result c.short.result
          x.ensures w.if-taken-gt0-3.false w.machine-is (ap held w.sink-is) c.short.ensures)
      | in-Ops+else-bytes-eq1+else-taken-gt0-4 w ↦ (
          let x = w.take-taken in
          advances_later g.S.Sink.after g.S.Sink.may_run_out c.args.profile bytes c.args.machine.now x.new.machine c.match-way_of.machine c.short.new.machine (held c.args.sink.now) (held x.new.sink) (held c.match-way_of.sink) (held c.short.new.sink) x.result c.short.result
          x.ensures w.if-taken-gt0-4.false w.machine-is (ap held w.sink-is) c.short.ensures)
      | in-Short w ↦ (
          let none : Shortcut = record { used = 0; refused = None } in
          advances_later g.S.Sink.after g.S.Sink.may_run_out c.args.profile bytes c.args.machine.now c.args.machine.now c.match-way_of.machine c.short.new.machine (held c.args.sink.now) (held c.args.sink.now) (held c.match-way_of.sink) (held c.short.new.sink) none c.short.result
          (advances_none g.S.Sink.after g.S.Sink.may_run_out c.args.profile bytes c.args.machine.now (held c.args.sink.now) none refl refl) (omega arith) w.machine-is (ap held w.sink-is) c.short.ensures)
    ]
