-- Exact answers of the machine and a sink over a list of bytes.
use Rattle.std.specs.Prelude.{◌≡◌, ◌≢◌, ◌⊎◌, ◌≤◌, ◌<◌, IsOk, ℕ, zero, suc, ◌+◌, List, [], ◌∷◌, ◌++◌, Option}
use Rattle.std.specs.Prelude.{Some, None, Result, Ok, Err, nat_lt, if◌then◌else◌}
use Rattle.std.specs.Str.{is_utf8}
use Rattle.wm_syntax.specs.declared.why.Why.{Why}
use Rattle.wm_syntax.specs.declared.why.Why.TheVariants as why
use Rattle.wm_machine.specs.declared.machine.NameKind.{NameKind}
use Rattle.wm_machine.specs.declared.machine.Machine.{Machine}
use Rattle.wm_machine.specs.declared.machine.Machine.TheVariants as machine
use Rattle.wm_machine.specs.declared.machine.Event.{Event}
use Rattle.wm_machine.specs.declared.machine.Event.TheVariants as event
use Rattle.wm_machine.specs.declared.refusal.Refusal.{Refusal}
use Rattle.wm_syntax.specs.declared.profile.Profile.{Profile}
use Rattle.wm_machine.specs.Items.{Item, data_byte}
use Rattle.wm_machine.specs.Sinks.{and_then}
use Rattle.wm_machine.specs.exact.Steps.{step_of}
use Rattle.wm_machine.specs.exact.Runs.{name_item, plain_item}

-- the state of a sink after this item, if any
abbrev pub effect_of_maybe : {H : Type 0} → (H → Item → Result H Why) → Option Item → H → Result H Why
effect_of_maybe after None h = Ok h
effect_of_maybe after (Some x) h = after h x

abbrev pub name_taken : {H : Type 0} → (H → Item → Result H Why) → NameKind → List ℕ → H → Result H Why
name_taken after kind text h = if is_utf8 text then effect_of_maybe after (name_item kind text) h
    else Err why.BadUtf8

-- the bytes so far of an unfinished name, and the state of the sink, after the effect of a byte
abbrev pub event_effect : {H : Type 0} → (H → Item → Result H Why) → Event → List ℕ → ℕ → H
    → Result (List ℕ × H) Why
event_effect after event.Nothing name c h = Ok ([], h)
event_effect after (event.Complete p) name c h = and_then (after h (plain_item p)) (λ g. Ok ([], g))
event_effect after event.DataByte name c h = and_then (after h (data_byte c)) (λ g. Ok ([], g))
event_effect after event.InName name c h = Ok (name ++ c ∷ [], h)
event_effect after (event.EndsName kind) name c h =
    and_then (name_taken after kind (name ++ c ∷ []) h) (λ g. Ok ([], g))
event_effect after (event.EmptyName kind) name c h =
    and_then (effect_of_maybe after (name_item kind []) h) (λ g. Ok ([], g))

-- Memory may run out at this item, if any.
abbrev pub MayRunOutAt : {H : Type 0} → (H → Item → Type 0) → Option Item → H → Type 0
MayRunOutAt may None h = ⊥
MayRunOutAt may (Some x) h = may h x

-- Memory may run out at the effect of a byte: if the sink says so, or if bytes of a name have to be retained.
abbrev pub MayRunOutAtEvent : {H : Type 0} → (H → Item → Type 0) → Event → List ℕ → ℕ → H → Type 0
MayRunOutAtEvent may event.Nothing name c h = ⊥
MayRunOutAtEvent may (event.Complete p) name c h = may h (plain_item p)
MayRunOutAtEvent may event.DataByte name c h = may h (data_byte c)
MayRunOutAtEvent may event.InName name c h = Unit {0}
MayRunOutAtEvent may (event.EndsName kind) name c h = (name ≢ [])
    ⊎ MayRunOutAt may (name_item kind (name ++ c ∷ [])) h
MayRunOutAtEvent may (event.EmptyName kind) name c h = MayRunOutAt may (name_item kind []) h

-- a decoder that has refused nothing
pub record Live (H : Type 0) : Type 0 where
  pub machine : Machine
  pub name : List ℕ
  pub held : H
  pub at : ℕ

abbrev pub live_or_refused : {H : Type 0} → Machine → List ℕ → H → ℕ → Result (Live H) Refusal
live_or_refused (machine.Refused w) name h at = Err (record { at = at; why = w })
live_or_refused m name h at = Ok (record { machine = m; name = name; held = h; at = at })

abbrev pub live_from : {H : Type 0} → Machine → ℕ → Result (List ℕ × H) Why → Result (Live H) Refusal
live_from m at (Ok p) = live_or_refused m p.0 p.1 at
live_from m at (Err w) = Err (record { at = at; why = w })

-- Memory may run out at the effect of this byte.
abbrev pub MayTake : {H : Type 0} → (H → Item → Type 0) → Profile → Live H → ℕ → Type 0
MayTake may p l c = MayRunOutAtEvent may (step_of p l.machine c).1 l.name c l.held

-- as `MayTake`, for any machine: one that has refused nothing never refuses with `Memory`
abbrev pub MayRunOutAtByte : {H : Type 0} → (H → Item → Type 0) → Profile → Live H → ℕ → Type 0
MayRunOutAtByte may p l c = MayTake may p l c ⊎ ((step_of p l.machine c).0 ≡ machine.Refused why.Memory)

abbrev pub live_byte : {H : Type 0} → (H → Item → Result H Why) → Profile → ℕ → Live H → ℕ
    → Result (Live H) Refusal
live_byte after p limit l c =
    if nat_lt l.at limit
    then live_from (step_of p l.machine c).0 (l.at + 1)
    (event_effect after (step_of p l.machine c).1 l.name c l.held)
    else Err (record { at = limit + 1; why = why.TooLong })

-- `live_byte` for each byte, up to the first refusal
abbrev pub decoder_after : {H : Type 0} → (H → Item → Result H Why) → Profile → ℕ → Live H → List ℕ
    → Result (Live H) Refusal
decoder_after after p limit l [] = Ok l
decoder_after after p limit l (c ∷ b) =
    and_then (live_byte after p limit l c) (λ m. decoder_after after p limit m b)

abbrev pub live_at_start : {H : Type 0} → H → Live H
live_at_start h = record { machine = machine.Header 0; name = []; held = h; at = 0 }

abbrev pub refusal_in_machine : Machine → Option Why
refusal_in_machine (machine.Refused w) = Some w
refusal_in_machine m = None

abbrev pub IsRefused : Machine → Type 0
IsRefused (machine.Refused w) = Unit {0}
IsRefused m = ⊥

-- the result for one byte, unless memory ran out
pub record ByteTaken {H : Type 0} (expected : Result (Live H) Refusal) (now : Live H) : Type 0 where
  pub as_expected : expected ≡ Ok now
  pub live : ¬ (IsRefused now.machine)

pub record ByteRefused {H : Type 0} (expected : Result (Live H) Refusal) (r : Refusal)
    (stands : Result (Live H) Refusal) : Type 0 where
  pub as_expected : r.why ≢ why.Memory → expected ≡ Err r
  pub standing : stands ≡ Err r

-- the result for one piece, unless memory ran out
abbrev pub Fed : {H U : Type 0} → Result (Live H) Refusal → Result U Refusal → Result (Live H) Refusal
    → Type 0
Fed expected (Ok u) now = (expected ≡ now) × IsOk now
Fed expected (Err r) now = (r.why ≢ why.Memory → expected ≡ Err r) × (now ≡ Err r)

-- the result at the end of the input between two sections, where so many functions have no code, and so many data
-- segments were given
abbrev pub answer_between : {H : Type 0} → ℕ → Option ℕ → H → ℕ → Result H Refusal
answer_between (suc n) s h at = Err (record { at = at; why = why.CodeCount })
answer_between zero (Some (suc n)) h at = Err (record { at = at; why = why.DataCount })
answer_between zero s h at = Ok h

-- the result at the end of the input
abbrev pub answer_at_end_of : {H : Type 0} → Machine → H → ℕ → Result H Refusal
answer_at_end_of (machine.Between last counts) h at = answer_between counts.functions counts.segments h at
answer_at_end_of (machine.Refused w) h at = Err (record { at = at; why = w })
answer_at_end_of m h at = Err (record { at = at; why = why.Truncated })

abbrev pub answer_at_end : {H : Type 0} → Live H → Result H Refusal
answer_at_end l = answer_at_end_of l.machine l.held l.at

abbrev pub Finished : {H S : Type 0} → Result H Refusal → (S → H) → Result S Refusal → Type 0
Finished expected held (Ok s) = expected ≡ Ok (held s)
Finished expected held (Err r) = expected ≡ Err r

-- The machine fits the number `at` of bytes read. Inside the header it counts them. A refusal with `Memory` needs more
-- than 8 bytes, another refusal needs nothing, and any other state at least 8.
abbrev pub IsAt : Machine → ℕ → Type 0
IsAt (machine.Header n) at = n ≡ at
IsAt (machine.Refused w) at = w ≡ why.Memory → 8 < at
IsAt m at = 8 ≤ at
