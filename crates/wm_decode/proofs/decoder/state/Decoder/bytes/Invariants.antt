use Rattle.std.proofs.Common.{ℕ, ◌∷◌, ◌≡◌, ◌+◌, ◌-◌, ◌≤◌, ◌<◌, slice_range, [], drop, length}
use Rattle.wm_machine.specs.exact.Live.{MayRunOutAtByte, decoder_after, IsRefused, IsAt}
use Rattle.wm_decode.specs.exact.Standing.{live_with}
use Rattle.wm_decode.proofs.decoder.state.Decoder.bytes.Given as goal

abbrev pub invariant-loop-i : goal.invariant-loop-i
invariant-loop-i g l = record {
  order : l.from ≤ l.i;
  within : l.i ≤ length l.piece;
  limit : l.self.max_bytes ≡ l.initial.self.max_bytes;
  profile : l.self.profile ≡ l.initial.self.profile;
  at : l.self.at ≡ l.initial.self.at + l.i;
  live : ¬ (IsRefused l.self.machine);
  same : decoder_after g.S.Sink.after l.initial.self.profile l.initial.self.max_bytes (live_with g.S.Sink.held l.initial.self []) l.piece
      ≡ decoder_after g.S.Sink.after l.initial.self.profile l.initial.self.max_bytes (live_with g.S.Sink.held l.self (slice_range l.piece l.from l.i)) (drop l.i l.piece);
  first : l.i ≡ 0 → live_with g.S.Sink.held l.self (slice_range l.piece l.from l.i) ≡ live_with g.S.Sink.held l.initial.self [];
  one : (c : ℕ) → l.piece ≡ c ∷ [] → 0 < l.i → l.from < 1
      → MayRunOutAtByte g.S.Sink.may_run_out l.initial.self.profile (live_with g.S.Sink.held l.initial.self []) c;
  memory : IsAt l.initial.self.machine l.initial.self.at → IsAt l.self.machine l.self.at × (l.from < l.i → 8 < l.self.at);
}

abbrev pub decreases-loop-i : goal.decreases-loop-i
decreases-loop-i g l = length l.initial.piece - l.i
