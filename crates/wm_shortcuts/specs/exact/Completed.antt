-- Exact answers: `Completes` gives the items that bytes complete and the next state, without the sink.
use Rattle.std.specs.Prelude.{◌≡◌, ℕ, suc, ◌+◌, ◌-◌, ◌<◌, ◌≤◌, List, [], ◌∷◌, length, slice_index}
use Rattle.std.specs.Prelude.{Option, Some, None, Result, Ok, slice_range}
use Rattle.wm_syntax.specs.declared.profile.Profile.{Profile}
use Rattle.wm_syntax.specs.declared.why.Why.{Why}
use Rattle.wm_syntax.specs.exact.Reading.{fresh}
use Rattle.wm_machine.specs.declared.machine.NameKind.{NameKind}
use Rattle.wm_machine.specs.declared.machine.Plain.{Plain}
use Rattle.wm_machine.specs.declared.machine.Counts.{Counts}
use Rattle.wm_machine.specs.declared.machine.Machine.{Machine}
use Rattle.wm_machine.specs.declared.machine.Machine.TheVariants as machine
use Rattle.wm_machine.specs.declared.machine.member.SectionKind.{SectionKind}
use Rattle.wm_machine.specs.declared.machine.member.InMember.TheVariants as at
use Rattle.wm_machine.specs.exact.Steps.{machine_in_member, step_of}
use Rattle.wm_machine.specs.exact.MemberSteps.{after_name}
use Rattle.wm_machine.specs.Items.{Item}
use Rattle.wm_machine.specs.exact.Runs.{name_item, plain_item}
use Rattle.wm_machine.specs.exact.Live.{MayRunOutAt, name_taken, refusal_in_machine}
use Rattle.wm_shortcuts.specs.exact.ShortSteps.{part_event}
use Rattle.wm_shortcuts.specs.exact.WholeNames.{NameLies}

-- an item without bytes, or a name with its bytes
pub data Completed : Type 0 where
  part : Plain → Completed
  named : NameKind → List ℕ → Completed

abbrev pub completed_part : Option Plain → Option Completed
completed_part (Some x) = Some (part x)
completed_part None = None

abbrev pub with_last : Option Completed → List Completed → List Completed
with_last (Some x) xs = x ∷ xs
with_last None xs = xs

-- the state of a sink after this item or name, or why it is refused
abbrev pub completed_taken : {H : Type 0} → (H → Item → Result H Why) → Completed → H → Result H Why
completed_taken after (part x) h = after h (plain_item x)
completed_taken after (named kind text) h = name_taken after kind text h

abbrev pub last_taken : {H : Type 0} → (H → Item → Result H Why) → Option Completed → H → Result H Why
last_taken after (Some x) h = completed_taken after x h
last_taken after None h = Ok h

-- Memory may run out at this item or name, if any.
abbrev pub LastMayRunOut : {H : Type 0} → (H → Item → Type 0) → Option Completed → H → Type 0
LastMayRunOut may (Some (part x)) h = may h (plain_item x)
LastMayRunOut may (Some (named kind text)) h = MayRunOutAt may (name_item kind text) h
LastMayRunOut may None h = ⊥

-- `Completes p bytes start m xs last i n`: under the profile p, the bytes from index `start` up to index i lead from
-- machine m to machine n. The last byte or name completes `last`, if any; those before complete xs, the latest first.
pub data Completes (p : Profile) (bytes : List ℕ) (start : ℕ) (m : Machine) : List Completed
    → Option Completed → ℕ → Machine → Type 0 where
  no_byte : Completes p bytes start m [] None start m
  one_byte : {xs : List Completed} {last : Option Completed} {i : ℕ} {n : Machine}
      → Completes p bytes start m xs last i n → (o : Machine) (x : Option Plain) → i < length bytes
      → refusal_in_machine n ≡ None → step_of p n (slice_index bytes i) ≡ (o, part_event x)
      → Completes p bytes start m (with_last last xs) (completed_part x) (i + 1) o
  one_name : {xs : List Completed} {last : Option Completed} {i : ℕ} (of : SectionKind) (kind : NameKind)
      (f : Counts) (more left stop : ℕ)
      → Completes p bytes start m xs last i (machine.Section of f more left (at.NameLength kind fresh))
      → NameLies bytes i stop → stop ≤ length bytes → stop ≤ i + more
      → ((n : ℕ) → machine_in_member of f (suc n) left (after_name kind)
      ≡ machine.Section of f n left (after_name kind))
      → Completes p bytes start m (with_last last xs) (Some (named kind (slice_range bytes (i + 1) stop)))
      stop (machine.Section of f (more - (stop - i)) left (after_name kind))
