-- The state of a decoder after the bytes so far.
use Rattle.std.specs.Prelude.{◌≡◌, ℕ, List, Result, length}
use Rattle.wm_syntax.specs.declared.why.Why.{Why}
use Rattle.wm_decode.specs.declared.decoder.state.Decoder.{Decoder}
use Rattle.wm_machine.specs.Items.{Item}
use Rattle.wm_machine.specs.Decoding.{Setting}
use Rattle.wm_machine.specs.Fronts.{Tells, unfinished_name}

-- the state of the decoder's sink
abbrev pub held_in : {S H : Type 0} → (S → H) → Decoder S → H
held_in held d = held d.sink

-- the bytes so far of an unfinished name; a decoder retains no other bytes of the input
abbrev pub name_in : {S : Type 0} → Decoder S → List ℕ
name_in d = d.name.items

-- The state of a decoder after these bytes, if it has refused nothing: `Tells` holds for its sink, and it retains as
-- many bytes as the unfinished name has.
pub record SoFar {S H : Type 0} (held : S → H) (after : H → Item → Result H Why) (d : Decoder S)
    (s : Setting H)
    (bytes : List ℕ) : Type 0 where
  pub tells : Tells after s.profile s.first bytes (held_in held d)
  pub name : length (name_in d) ≡ unfinished_name tells.marks
