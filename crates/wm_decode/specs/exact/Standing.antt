-- Exact answers about the state of a decoder: its machine, its unfinished name, and the state of its sink.
use Rattle.std.specs.Prelude.{List, ℕ, ◌++◌, Result}
use Rattle.wm_machine.specs.declared.refusal.Refusal.{Refusal}
use Rattle.wm_decode.specs.declared.decoder.state.Decoder.{Decoder}
use Rattle.wm_machine.specs.exact.Live.{Live, live_or_refused}

-- the state of the decoder, or its refusal
abbrev pub state_of : {S H : Type 0} → (S → H) → Decoder S → Result (Live H) Refusal
state_of held d = live_or_refused d.machine d.name.items (held d.sink) d.at

-- the state of the decoder within a piece, if this part of the piece belongs to the unfinished name
abbrev pub live_with : {S H : Type 0} → (S → H) → Decoder S → List ℕ → Live H
live_with held d part = record {
  machine = d.machine;
  name = d.name.items ++ part;
  held = held d.sink;
  at = d.at;
}
