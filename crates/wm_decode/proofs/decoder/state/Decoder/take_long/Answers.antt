use Rattle.std.proofs.Common.{◌≡◌, ℕ, ◌+◌, ◌-◌, ◌≤◌, ◌<◌, List, [], length, take, drop, arith, sym, ap, length-drop, length-take}
use Rattle.std.proofs.lemmas.List.{take-append-drop}
use Rattle.wm_machine.proofs.Limits.{long_fed, refused_cut}
use Rattle.wm_decode.specs.exact.Standing.{live_with}
use Rattle.wm_decode.proofs.decoder.state.Decoder.take_long.Goals as goal

some : (n : ℕ) (b : List ℕ) → n < length b → drop n b ≡ [] → ⊥
some n b less e = let z : length (drop n b) ≡ 0 = ap length e in omega (arith, z, length-drop n b)

far : (limit at old room : ℕ) (b : List ℕ) → room ≡ limit - old → room < length b → at ≡ old + length (take room b) → limit ≤ at
far limit at old room b e less h = omega (arith, e, less, h, length-take room b)

pub returns-in-Ok-clause-fed : goal.returns-in-Ok-clause-fed
returns-in-Ok-clause-fed g c = (
  λ _.
      let s = c.args.self.now in
      let n = c.take_cut.new.self in
      let b = c.args.piece.now in
      rw (c.refuse.ensures.refusal, c.take_cut.ensures.limit) (long_fed g.S.Sink.after s.profile s.max_bytes (live_with g.S.Sink.held s []) (take c.args.room b) (drop c.args.room b) b n.machine n.name.items (g.S.Sink.held n.sink) n.at (sym (take-append-drop c.args.room b)) (some c.args.room b c.requires.long)
      c.in-Ok.ensures.fed.0 c.in-Ok.ensures.fed.1 (far s.max_bytes n.at s.at c.args.room b c.requires.room c.requires.long c.in-Ok.ensures.at)),
  c.refuse.ensures.stands,
)

pub returns-in-Err-clause-fed : goal.returns-in-Err-clause-fed
returns-in-Err-clause-fed g c =
    let s = c.args.self.now in
    let b = c.args.piece.now in (
      λ ne. refused_cut g.S.Sink.after s.profile s.max_bytes (live_with g.S.Sink.held s []) (take c.args.room b) (drop c.args.room b) b c.in-Err.refusal (sym (take-append-drop c.args.room b)) (c.in-Err.ensures.fed.0 ne),
      c.in-Err.ensures.fed.1,
    )
