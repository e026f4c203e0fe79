use Rattle.std.proofs.Common.{◌++◌, Err, Some, List, ℕ, [], ap, arith, sym, ◌∙◌}
use Rattle.wm_shortcuts.proofs.Advances.{taken_moved, taken_stopped, taken_room}
use Rattle.wm_decode.proofs.decoder.state.Decoder.take_shortcut.Goals as goal

pub returns-in-None-clause-moved : goal.returns-in-None-clause-moved
returns-in-None-clause-moved g c = λ onward part.
    let s = c.args.self.now in
    let t = c.take_way-taken in
    taken_moved g.S.Sink.after g.S.Sink.may_run_out s.profile c.args.piece.now c.args.i s.machine t.new.machine (g.S.Sink.held s.sink) (g.S.Sink.held t.new.sink) t.result t.ensures s.max_bytes s.at (s.name.items ++ part)
    c.requires.within (c.clear.new.self.items ++ []) c.requires.room (omega arith) c.in-None.is (ap (λ (y : List ℕ). y ++ []) c.clear.ensures.items)

pub returns-in-Some-clause-refused : goal.returns-in-Some-clause-refused
returns-in-Some-clause-refused g c = λ part.
    let s = c.args.self.now in
    let t = c.take_way-taken in
    record {
      as_expected = λ ne.
          taken_stopped g.S.Sink.after g.S.Sink.may_run_out s.profile c.args.piece.now c.args.i s.machine t.new.machine (g.S.Sink.held s.sink) (g.S.Sink.held t.new.sink) t.result t.ensures s.max_bytes s.at (s.name.items ++ part)
          c.requires.within c.in-Some.why c.requires.room c.in-Some.is (λ e. ne (ap (λ r. r.why) c.refuse.ensures.refusal ∙ e))
          ∙ ap Err (sym c.refuse.ensures.refusal);
      standing = c.refuse.ensures.stands;
    }

pub returns-in-Some-clause-room : goal.returns-in-Some-clause-room
returns-in-Some-clause-room g c = λ short memory part.
    let s = c.args.self.now in
    let t = c.take_way-taken in
    taken_room g.S.Sink.after g.S.Sink.may_run_out s.profile c.args.piece.now c.args.i s.machine t.new.machine (g.S.Sink.held s.sink) (g.S.Sink.held t.new.sink) t.result t.ensures s.max_bytes s.at (s.name.items ++ part)
    c.requires.within short (c.in-Some.is ∙ ap Some (sym (ap (λ r. r.why) c.refuse.ensures.refusal) ∙ memory))
