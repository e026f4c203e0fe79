-- The bytes that a decoder has read, and the refusal that it returned.
use Rattle.std.specs.Prelude.{◌≡◌, ℕ, ◌≤◌, ◌<◌, List, Option, Some, None, Result, Ok, Err, ◌⊎◌, length}
use Rattle.wm_syntax.specs.declared.why.Why.{Why}
use Rattle.wm_syntax.specs.Spelling.{AreBytes}
use Rattle.wm_machine.specs.declared.refusal.Refusal.{Refusal}
use Rattle.wm_decode.specs.declared.decoder.state.Decoder.{Decoder}
use Rattle.wm_machine.specs.Items.{Item}
use Rattle.wm_machine.specs.exact.Live.{decoder_after, live_at_start}
use Rattle.wm_decode.specs.exact.Standing.{state_of}
use Rattle.wm_machine.specs.Decoding.{Setting}
use Rattle.wm_syntax.specs.declared.why.Why.TheVariants as why

-- memory ran out at an offset within these bytes, after the header
pub record RanOut {A : Type 0} (now : Result A Refusal) (bytes : List ℕ) : Type 0 where
  pub refusal : Refusal
  pub stands : now ≡ Err refusal
  pub memory : refusal.why ≡ why.Memory
  pub past_header : 8 < refusal.at
  pub place : refusal.at ≤ length bytes

-- The decoder was created with this setting and has read exactly these bytes, or memory ran out within them.
pub record HasDecoded {S H : Type 0} (held : S → H) (after : H → Item → Result H Why) (d : Decoder S)
    (s : Setting H)
    (bytes : List ℕ) : Type 0 where
  pub profile : d.profile ≡ s.profile
  pub limit : d.max_bytes ≡ s.limit
  pub are_bytes : AreBytes bytes
  pub stands : (state_of held d ≡ decoder_after after s.profile s.limit (live_at_start s.first) bytes)
      ⊎ RanOut (state_of held d) bytes

-- P holds for every setting and all bytes for which `HasDecoded` holds
abbrev pub Having : {S H : Type 0} → (S → H) → (H → Item → Result H Why) → Decoder S
    → (Setting H → List ℕ → Type 0) → Type 0
Having {S} {H} held after d P = (s : Setting H) (bytes : List ℕ) → HasDecoded held after d s bytes → P s bytes

-- the refusal that the decoder returned, if any
abbrev pub refusal_of_decoder : {S H : Type 0} → (S → H) → Decoder S → Option Refusal
refusal_of_decoder held d = elim (state_of held d) [ Ok l ↦ None | Err r ↦ Some r ]
