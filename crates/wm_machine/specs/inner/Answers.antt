-- The answer of a decoder to an input.
use Rattle.std.specs.Prelude.{ℕ, List, Result}
use Rattle.wm_syntax.specs.declared.why.Why.{Why}
use Rattle.wm_machine.specs.declared.refusal.Refusal.{Refusal}
use Rattle.wm_machine.specs.Items.{Item}
use Rattle.wm_machine.specs.Sinks.{and_then}
use Rattle.wm_machine.specs.exact.Live.{decoder_after, live_at_start, answer_at_end}
use Rattle.wm_machine.specs.Decoding.{Setting}

-- the answer to the joined bytes of an input, in any pieces, unless memory runs out
abbrev pub answer_of : {H : Type 0} → (H → Item → Result H Why) → Setting H → List ℕ → Result H Refusal
answer_of after s bytes =
    and_then (decoder_after after s.profile s.limit (live_at_start s.first) bytes) answer_at_end
