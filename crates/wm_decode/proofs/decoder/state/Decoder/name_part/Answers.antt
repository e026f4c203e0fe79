use Rattle.std.proofs.Common.{◌≡◌, ◌+◌, ◌-◌, ◌≤◌, ℕ, List, ◌++◌, length, drop, take, arith, ap, sym, ◌∙◌, length-drop, refl, append_assoc, slice_range}
use Rattle.std.proofs.lemmas.List.{drop-drop}
use Rattle.wm_machine.specs.exact.Live.{decoder_after}
use Rattle.wm_machine.specs.declared.machine.Machine.TheVariants as machine
use Rattle.wm_machine.specs.declared.machine.member.InMember.TheVariants as at
use Rattle.wm_machine.proofs.ByteRuns.{names}
use Rattle.wm_decode.proofs.decoder.state.Decoder.name_part.Goals as goal

pub returns-clause-moved : goal.returns-clause-moved
returns-clause-moved g c = λ part.
    let s = c.args.self.now in
    let q = c.in-Section in
    let w = c.in-Name in
    let bytes : List ℕ = drop c.args.i c.args.piece.now in
    let used = c.min_len-used.result in
    let fits : s.at + length bytes ≤ s.max_bytes = omega (arith, length-drop c.args.i c.args.piece.now) in
    let end : s.at + c.from.result ≡ s.at + used = omega arith in
    let inside : used ≤ length bytes = omega (arith, length-drop c.args.i c.args.piece.now) in
    let less : used ≤ q.more = omega arith in
    let fewer : used ≤ w.rest = omega arith in
    let size : used ≡ c.args.i + used - c.args.i = omega arith in
    let name : s.name.items ++ (part ++ slice_range c.args.piece.now c.args.i (c.args.i + used)) ≡ (s.name.items ++ part) ++ take used bytes =
    sym (append_assoc s.name.items part (slice_range c.args.piece.now c.args.i (c.args.i + used))) ∙ ap (λ n. (s.name.items ++ part) ++ take n bytes) (sym size) in
    names g.S.Sink.after s.profile s.max_bytes bytes s.machine (machine.Section q.of q.counts (q.more - used) q.left (at.Name w.kind (w.rest - used))) q.at (at.Name w.kind (w.rest - used)) q.of q.counts q.left q.more w.rest used w.kind
    (s.name.items ++ part) (s.name.items ++ (part ++ slice_range c.args.piece.now c.args.i (c.args.i + used))) (g.S.Sink.held s.sink) s.at (s.at + c.from.result)
    q.is w.is refl refl name end inside less fewer fits
    ∙ ap (λ (y : List ℕ). decoder_after g.S.Sink.after s.profile s.max_bytes (record { machine = machine.Section q.of q.counts (q.more - used) q.left (at.Name w.kind (w.rest - used)); name = s.name.items ++ (part ++ slice_range c.args.piece.now c.args.i (c.args.i + used)); held = g.S.Sink.held s.sink; at = s.at + c.from.result }) y) (drop-drop used c.args.i c.args.piece.now)
