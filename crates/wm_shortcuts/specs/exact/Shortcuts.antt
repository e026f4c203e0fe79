-- Exact answers about a fast path: it takes bytes in bulk with the effect of the slow path.
use Rattle.std.specs.Prelude.{◌≡◌, ◌≢◌, ℕ, ◌+◌, ◌<◌, ◌≤◌, List, [], length, drop, slice_index, Some, None}
use Rattle.std.specs.Prelude.{Option, Result, Ok, Err}
use Rattle.wm_syntax.specs.declared.profile.Profile.{Profile}
use Rattle.wm_syntax.specs.declared.why.Why.{Why}
use Rattle.wm_syntax.specs.declared.why.Why.TheVariants as why
use Rattle.wm_machine.specs.declared.machine.Machine.{Machine}
use Rattle.wm_shortcuts.specs.declared.ways.Shortcut.{Shortcut}
use Rattle.wm_machine.specs.Items.{Item}
use Rattle.wm_machine.specs.exact.Live.{IsAt, IsRefused, Live, MayRunOutAtByte, decoder_after}
use Rattle.wm_machine.specs.exact.Live.{refusal_in_machine}

-- a decoder with this machine, this unfinished name and this state of its sink, after k bytes of the input
abbrev pub live_so : {H : Type 0} → Machine → List ℕ → H → ℕ → Live H
live_so m name h k = record { machine = m; name = name; held = h; at = k }

-- A fast path led over the first of these bytes from machine m and state h of the sink to machine n and state g. The
-- slow path leads there too: within every limit, at every offset of the input, and with any unfinished name.
pub record Advances {H : Type 0} (after : H → Item → Result H Why) (may : H → Item → Type 0) (p : Profile)
    (bytes : List ℕ) (m : Machine) (h : H) (s : Shortcut) (n : Machine) (g : H) : Type 0 where
  pub within : s.used ≤ length bytes
  pub still : s.used ≡ 0 → (s.refused ≡ None) × (n ≡ m) × (g ≡ h)
  pub moved : (limit k : ℕ) (name : List ℕ) → 0 < s.used → s.refused ≡ None
      → k + length bytes ≤ limit
      → decoder_after after p limit (live_so m name h k) bytes ≡ decoder_after after p limit
      (live_so n [] g (k + s.used)) (drop s.used bytes)
  pub stopped : (limit k : ℕ) (name : List ℕ) (w : Why) → s.refused ≡ Some w → w ≢ why.Memory
      → k + length bytes ≤ limit
      → decoder_after after p limit (live_so m name h k) bytes ≡ Err (record { at = k + s.used; why = w })
  pub live : s.refused ≡ None → ¬ (IsRefused m) → ¬ (IsRefused n)
  pub past_header : (k : ℕ) → 0 < s.used → IsAt m k → (8 < k + s.used)
      × (s.refused ≡ None → IsAt n (k + s.used))
  pub room : (k : ℕ) (name : List ℕ) → length bytes ≤ 1 → s.refused ≡ Some why.Memory
      → MayRunOutAtByte may p (live_so m name h k) (slice_index bytes 0)

-- why the sink refused, or else why the machine did, if any
abbrev pub why_refused : {U : Type 0} → Result U Why → Machine → Option Why
why_refused (Ok u) n = refusal_in_machine n
why_refused (Err w) n = Some w
