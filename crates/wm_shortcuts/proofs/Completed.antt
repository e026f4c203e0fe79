-- The items that bytes complete go to a sink: at each exit of a fast path this has the effect of the slow path.
use Rattle.std.proofs.Common.{◌≡◌, ℕ, suc, ◌+◌, ◌-◌, ◌<◌, ◌≤◌, List, [], ◌∷◌, Option, Some, None, Result, Ok, Err, IfErr, inr, length, length-drop, drop, take, get_or, get_or-drop, slice_index, slice_range, refl, sym, ◌∙◌, ap, subst, arith}
use Rattle.std.specs.Result.{result_err}
use Rattle.std.proofs.lemmas.List.{drop-drop, take_rest}
use Rattle.wm_syntax.specs.declared.profile.Profile.{Profile}
use Rattle.wm_syntax.specs.declared.why.Why.{Why}
use Rattle.wm_syntax.specs.declared.why.Why.TheVariants as why
use Rattle.wm_syntax.specs.exact.Reading.{fresh}
use Rattle.wm_machine.specs.declared.machine.Counts.{Counts}
use Rattle.wm_machine.specs.declared.machine.Machine.{Machine}
use Rattle.wm_machine.specs.declared.machine.Machine.TheVariants as machine
use Rattle.wm_machine.specs.declared.machine.Event.{Event}
use Rattle.wm_machine.specs.declared.machine.Plain.{Plain}
use Rattle.wm_machine.specs.declared.machine.member.SectionKind.{SectionKind}
use Rattle.wm_machine.specs.declared.machine.member.InMember.{InMember}
use Rattle.wm_machine.specs.declared.machine.member.InMember.TheVariants as at
use Rattle.wm_shortcuts.specs.declared.ways.Shortcut.{Shortcut}
use Rattle.wm_shortcuts.specs.declared.short_steps.Stepped.{Stepped}
use Rattle.wm_machine.specs.Items.{Item}
use Rattle.wm_machine.specs.Sinks.{Taken, and_then}
use Rattle.wm_shortcuts.specs.exact.Completed.{Completed, Completes, LastMayRunOut, completed_part, completed_taken, last_taken, with_last}
use Rattle.wm_shortcuts.specs.exact.Completed.Completes.{no_byte, one_byte, one_name}
use Rattle.wm_machine.specs.exact.Steps.{machine_in_member, step_of}
use Rattle.wm_machine.specs.exact.MemberSteps.{after_name, member_step}
use Rattle.wm_machine.specs.declared.refusal.Refusal.{Refusal}
use Rattle.wm_machine.specs.exact.Live.{IsAt, IsRefused, Live, MayRunOutAtByte, decoder_after, event_effect, live_from, name_taken, refusal_in_machine}
use Rattle.wm_shortcuts.specs.exact.ShortSteps.{StepsTo, after_stepped, part_event}
use Rattle.wm_shortcuts.specs.exact.Shortcuts.{Advances, live_so, why_refused}
use Rattle.wm_shortcuts.proofs.Advances.{advances_by, advances_none, advances_on, advances_out, not_both, same_why}
use Rattle.wm_machine.proofs.Header.{stays}
use Rattle.wm_shortcuts.proofs.ShortSteps.{first_step, part_room}
use Rattle.wm_machine.proofs.ByteRuns.{goes_on, is_refused, still_live, stops}
use Rattle.wm_shortcuts.proofs.WholeNames.{name_reached}

-- what is answered where nothing is given
abbrev pub ok : Result (Unit {0}) Why
ok = Ok tt

-- a sink took them all, the latest first
pub data Gave {H : Type 0} (after : H → Item → Result H Why) : List Completed → H → H → Type 0 where
  nothing : {h : H} → Gave after [] h h
  also : {x : Completed} {xs : List Completed} {h f g : H} → Gave after xs h f → completed_taken after x f ≡ Ok g → Gave after (x ∷ xs) h g

module _ {H : Type 0} (after : H → Item → Result H Why) where
  pub gave_last : (last : Option Completed) (xs : List Completed) (h g : H) → Gave after (with_last last xs) h g → (f : H) × Gave after xs h f × (last_taken after last f ≡ Ok g)
  gave_last (Some x) xs h g (also {f = f} gave given) = (f, gave, given)
  gave_last None xs h g gave = (g, gave, refl)

  part_effect : (x : Option Plain) (name : List ℕ) (c : ℕ) (h : H) → event_effect after (part_event x) name c h ≡ and_then (last_taken after (completed_part x) h) (λ g. Ok ([], g))
  part_effect (Some x) name c h = refl
  part_effect None name c h = refl

module _ {p : Profile} {bytes : List ℕ} {start : ℕ} {m : Machine} where
  -- a byte after which the section goes on, and one after which it may be over
  pub byte_on : {xs : List Completed} {last : Option Completed} {i more : ℕ} {n : Machine} {of : SectionKind} {f : Counts} {left : ℕ} {q : InMember} (x : Stepped) → Completes p bytes start m xs last i (machine.Section of f more left q) → i < length bytes → 0 < more
      → StepsTo p of left q (slice_index bytes i) x → n ≡ after_stepped of f (more - 1) x → Completes p bytes start m (with_last last xs) (completed_part x.part) (i + 1) n
  byte_on {i = i} {more = more} {n = n} {of = of} {f = f} {left = left} {q = q} x steps inside some to en =
      let one : more ≡ suc (more - 1) = omega arith in
      one_byte steps n x.part inside refl
      (ap (λ y. step_of p (machine.Section of f y left q) (slice_index bytes i)) one ∙ (to f (more - 1) ∙ ap (λ (y : Machine). (y, part_event x.part)) (sym en)))

  pub byte_over : {xs : List Completed} {last : Option Completed} {i more : ℕ} {of : SectionKind} {f : Counts} {left : ℕ} {q : InMember} (next : InMember) (x : Option Plain) → Completes p bytes start m xs last i (machine.Section of f more left q) → i < length bytes
      → member_step p q (slice_index bytes i) ≡ (next, part_event x) → Completes p bytes start m (with_last last xs) (completed_part x) (i + 1) (machine_in_member of f more left next)
  byte_over {more = more} {of = of} {f = f} {left = left} next x steps inside to = one_byte steps (machine_in_member of f more left next) x inside refl (ap (λ y. (machine_in_member of f more left y.0, y.1)) to)

module _ (p : Profile) (bytes : List ℕ) (start : ℕ) (m : Machine) where
  abbrev Comes : List Completed → Option Completed → ℕ → Machine → Type 0
  Comes xs last i n = Completes p bytes start m xs last i n

  within : (begun : start ≤ length bytes) (xs : List Completed) (last : Option Completed) (i : ℕ) (n : Machine) → Comes xs last i n → (start ≤ i) × (i ≤ length bytes)
  within begun xs last i n no_byte = (omega arith, begun)
  within begun xs last i n (one_byte {xs = ys} {last = l} {i = j} {n = o} steps v x inside live step) = let b = within begun ys l j o steps in (omega (arith, b.0), omega arith)
  within begun xs last i n (one_name {xs = ys} {last = l} {i = j} of kind f more left stop steps lies inside section on) =
      let b = within begun ys l j (machine.Section of f more left (at.NameLength kind fresh)) steps in
      let some : j + 1 < stop = lies.some in
      (omega (arith, b.0), inside)

  -- before any byte nothing has moved, and what goes on did so from the start
  pub still_there : (begun : start ≤ length bytes) (xs : List Completed) (last : Option Completed) (i : ℕ) (n : Machine) → Comes xs last i n → i ≡ start → n ≡ m
  still_there begun xs last i n no_byte e = refl
  still_there begun xs last i n (one_byte {xs = ys} {last = l} {i = j} {n = o} steps v x inside live step) e = let b = within begun ys l j o steps in absurd (omega (arith, b.0))
  still_there begun xs last i n (one_name {xs = ys} {last = l} {i = j} of kind f more left stop steps lies inside section on) e =
      let b = within begun ys l j (machine.Section of f more left (at.NameLength kind fresh)) steps in
      let some : j + 1 < stop = lies.some in
      absurd (omega (arith, b.0))

  pub starts_live : (xs : List Completed) (last : Option Completed) (i : ℕ) (n : Machine) → Comes xs last i n → refusal_in_machine n ≡ None → refusal_in_machine m ≡ None
  starts_live xs last i n no_byte live = live
  starts_live xs last i n (one_byte {xs = ys} {last = l} {i = j} {n = o} steps v x inside on step) live = starts_live ys l j o steps on
  starts_live xs last i n (one_name {xs = ys} {last = l} {i = j} of kind f more left stop steps lies inside section on) live = starts_live ys l j (machine.Section of f more left (at.NameLength kind fresh)) steps refl

  -- in the header the machine is as far as its place
  comes_at : (k : ℕ) → IsAt m k → (begun : start ≤ length bytes) (xs : List Completed) (last : Option Completed) (i : ℕ) (n : Machine) → Comes xs last i n → IsAt n (k + (i - start))
  comes_at k far begun xs last i n no_byte = let same : k ≡ k + (start - start) = omega arith in subst (IsAt m) same far
  comes_at k far begun xs last i n (one_byte {xs = ys} {last = l} {i = j} {n = o} steps v x inside live step) =
      let b = within begun ys l j o steps in
      let next : k + (j - start) + 1 ≡ k + (j + 1 - start) = omega (arith, b.0) in
      subst (IsAt v) next (subst (λ (y : Machine × Event). IsAt y.0 (k + (j - start) + 1)) step (stays p o (slice_index bytes j) (k + (j - start)) (comes_at k far begun ys l j o steps)))
  comes_at k far begun xs last i n (one_name {xs = ys} {last = l} {i = j} of kind f more left stop steps lies inside section on) =
      let before : 8 ≤ k + (j - start) = comes_at k far begun ys l j (machine.Section of f more left (at.NameLength kind fresh)) steps in
      let some : j + 1 < stop = lies.some in
      omega arith

  module _ {H : Type 0} (after : H → Item → Result H Why) (begun : start ≤ length bytes) where
    -- the byte step, whose name at hand is gone after the first byte
    module _ (limit k : ℕ) (name : List ℕ) (h : H) (live : refusal_in_machine m ≡ None) (fits : k + length (drop start bytes) ≤ limit) where
      abbrev name_after : {xs : List Completed} {last : Option Completed} {i : ℕ} {n : Machine} → Comes xs last i n → List ℕ
      name_after no_byte = name
      name_after (one_byte steps v x inside live step) = []
      name_after (one_name of kind f more left stop steps lies inside section on) = []

      no_name : (xs : List Completed) (last : Option Completed) (i : ℕ) (n : Machine) (steps : Comes xs last i n) → start < i → name_after steps ≡ []
      no_name xs last i n no_byte some = absurd (omega arith)
      no_name xs last i n (one_byte steps v x inside live step) some = refl
      no_name xs last i n (one_name of kind f more left stop steps lies inside section on) some = refl

      abbrev comes : List ℕ → Option Completed → ℕ → Machine → H → Result (Live H) Refusal
      comes name last i n f = and_then (live_from n (k + (i - start)) (and_then (last_taken after last f) (λ g. Ok (name, g)))) (λ l. decoder_after after p limit l (drop i bytes))

      -- after what was completed before the last byte
      goes : (name : List ℕ) (last : Option Completed) (i : ℕ) (n : Machine) (e f : H) → last_taken after last e ≡ Ok f → refusal_in_machine n ≡ None
          → comes name last i n e ≡ decoder_after after p limit (live_so n name f (k + (i - start))) (drop i bytes)
      goes name last i n e f given on =
          ap (λ y. and_then (live_from n (k + (i - start)) (and_then y (λ g. Ok (name, g)))) (λ l. decoder_after after p limit l (drop i bytes))) given
          ∙ ap (λ y. and_then y (λ l. decoder_after after p limit l (drop i bytes))) (goes_on n name f (k + (i - start)) on)

      reached : (xs : List Completed) (last : Option Completed) (i : ℕ) (n : Machine) (steps : Comes xs last i n) (f : H) → Gave after xs h f
          → decoder_after after p limit (live_so m name h k) (drop start bytes) ≡ comes (name_after steps) last i n f
      reached xs last i n no_byte f nothing =
          let place : k ≡ k + (start - start) = omega arith in
          ap (λ y. decoder_after after p limit (live_so m name f y) (drop start bytes)) place ∙ sym (goes name None start m f f refl live)
      reached xs last i n (one_byte {xs = ys} {last = l} {i = j} {n = o} steps v x inside on step) f gave =
          let b = within begun ys l j o steps in
          let t = gave_last after l ys h f gave in
          let at : ℕ = k + (j - start) in
          let old : List ℕ = name_after steps in
          let size : length (drop start bytes) ≡ length bytes - start = length-drop start bytes in
          let rest : length (drop j bytes) ≡ length bytes - j = length-drop j bytes in
          let here : j + 0 ≡ j = omega arith in
          let byte : slice_index (drop j bytes) 0 ≡ slice_index bytes j = get_or-drop j bytes 0 0 ∙ ap (λ y. get_or bytes y 0) here in
          let next : at + 1 ≡ k + (j + 1 - start) = omega (arith, b.0) in
          reached ys l j o steps t.0 t.1
          ∙ (goes old l j o t.0 f t.2 on
          ∙ (first_step after p limit (drop j bytes) o v (part_event x) old f at (omega arith) (omega (arith, b.0)) (ap (step_of p o) byte ∙ step)
          ∙ (ap (λ y. and_then (live_from v (at + 1) y) (λ l. decoder_after after p limit l (drop 1 (drop j bytes)))) (part_effect after x old (slice_index (drop j bytes) 0) f)
          ∙ (ap (λ y. and_then (live_from v y (and_then (last_taken after (completed_part x) f) (λ g. Ok ([], g)))) (λ l. decoder_after after p limit l (drop 1 (drop j bytes)))) next
          ∙ ap (λ (y : List ℕ). and_then (live_from v (k + (j + 1 - start)) (and_then (last_taken after (completed_part x) f) (λ g. Ok ([], g)))) (λ l. decoder_after after p limit l y)) (drop-drop 1 j bytes)))))
      reached xs last i n (one_name {xs = ys} {last = l} {i = j} of kind f more left stop steps lies inside section on) g gave =
          let o : Machine = machine.Section of f more left (at.NameLength kind fresh) in
          let b = within begun ys l j o steps in
          let t = gave_last after l ys h g gave in
          let size : length (drop start bytes) ≡ length bytes - start = length-drop start bytes in
          let rest : length (drop j bytes) ≡ length bytes - j = length-drop j bytes in
          let here : j + 0 ≡ j = omega arith in
          let c : ℕ = slice_index bytes j in
          let some : j + 1 < stop = lies.some in
          let end : stop ≡ j + 1 + c = lies.size in
          let byte : slice_index (drop j bytes) 0 ≡ c = get_or-drop j bytes 0 0 ∙ ap (λ y. get_or bytes y 0) here in
          let count : c ≡ stop - (j + 1) = omega arith in
          let whole : c + 1 ≡ stop - j = omega arith in
          let next : k + (j - start) + (stop - j) ≡ k + (stop - start) = omega (arith, b.0) in
          let all : j + (stop - j) ≡ stop = omega arith in
          let text : take c (drop 1 (drop j bytes)) ≡ slice_range bytes (j + 1) stop = ap (λ (y : List ℕ). take c y) (drop-drop 1 j bytes) ∙ ap (λ y. take y (drop (j + 1) bytes)) count in
          reached ys l j o steps t.0 t.1
          ∙ (goes (name_after steps) l j o t.0 g t.2 refl
          ∙ (name_reached after p limit of kind f left (drop j bytes) more c (name_after steps) g (k + (j - start)) byte (omega arith) lies.short (omega arith) (omega arith) (omega (arith, b.0)) on
          ∙ (ap (λ y. and_then (live_from (machine.Section of f (more - y) left (after_name kind)) (k + (j - start) + y) (and_then (name_taken after kind (take c (drop 1 (drop j bytes))) g) (λ g. Ok ([], g)))) (λ l. decoder_after after p limit l (drop y (drop j bytes)))) whole
          ∙ (ap (λ (y : List ℕ). and_then (live_from (machine.Section of f (more - (stop - j)) left (after_name kind)) (k + (j - start) + (stop - j)) (and_then (name_taken after kind y g) (λ g. Ok ([], g)))) (λ l. decoder_after after p limit l (drop (stop - j) (drop j bytes)))) text
          ∙ (ap (λ y. and_then (live_from (machine.Section of f (more - (stop - j)) left (after_name kind)) y (and_then (name_taken after kind (slice_range bytes (j + 1) stop) g) (λ g. Ok ([], g)))) (λ l. decoder_after after p limit l (drop (stop - j) (drop j bytes)))) next
          ∙ ap (λ (y : List ℕ). and_then (live_from (machine.Section of f (more - (stop - j)) left (after_name kind)) (k + (stop - start)) (and_then (name_taken after kind (slice_range bytes (j + 1) stop) g) (λ g. Ok ([], g)))) (λ l. decoder_after after p limit l y))
          (drop-drop (stop - j) j bytes ∙ ap (λ y. drop y bytes) all))))))

    -- memory for what the first byte completes
    module _ {U : Type 0} (may : H → Item → Type 0) (k : ℕ) (name : List ℕ) (h : H) (u : Shortcut) (r : Result U Why) where
      runs_out : (xs : List Completed) (last : Option Completed) (i : ℕ) (n : Machine) (f : H) → Comes xs last i n → i ≡ start + 1 → Gave after xs h f → u.refused ≡ why_refused r n → u.refused ≡ Some why.Memory
          → IfErr r (λ w. w ≡ why.Memory → LastMayRunOut may last f) → MayRunOutAtByte may p (live_so m name h k) (slice_index bytes start)
      runs_out xs last i n f no_byte e gave er is quiet = absurd (omega arith)
      runs_out xs last i n f (one_byte no_byte v x inside on step) e nothing er is quiet = by_answer r er quiet
        where
          by_answer : (r : Result U Why) → u.refused ≡ why_refused r v → IfErr r (λ w. w ≡ why.Memory → LastMayRunOut may (completed_part x) f) → MayRunOutAtByte may p (live_so m name h k) (slice_index bytes start)
          by_answer (Ok y) er quiet = inr (ap (λ y. y.0) step ∙ is_refused v why.Memory (sym er ∙ is))
          by_answer (Err w) er quiet = part_room may p m v x name h k (slice_index bytes start) step (quiet (same_why u.refused w why.Memory er is))
      runs_out xs last i n f (one_byte (one_byte {xs = ys} {last = l} {i = j} {n = o} steps w y less live to) v x inside on step) e gave er is quiet = let b = within begun ys l j o steps in absurd (omega (arith, b.0))
      runs_out xs last i n f (one_byte (one_name {xs = ys} {last = l} {i = j} of kind f' more left stop steps lies less section goes) v x inside on step) e gave er is quiet =
          let b = within begun ys l j (machine.Section of f' more left (at.NameLength kind fresh)) steps in
          let some : j + 1 < stop = lies.some in
          absurd (omega (arith, b.0))
      runs_out xs last i n f (one_name {xs = ys} {last = l} {i = j} of kind f' more left stop steps lies inside section on) e gave er is quiet =
          let b = within begun ys l j (machine.Section of f' more left (at.NameLength kind fresh)) steps in
          let some : j + 1 < stop = lies.some in
          absurd (omega (arith, b.0))

    -- a shortcut over these bytes alone
    module _ {U : Type 0} (may : H → Item → Type 0) (xs : List Completed) (last : Option Completed) (i : ℕ) (n : Machine) (steps : Comes xs last i n) (some : start < i) (live : refusal_in_machine m ≡ None) (past : (k : ℕ) → IsAt m k → 8 < k + (i - start))
        (h f g : H) (gave : Gave after xs h f) (u : Shortcut) (used : u.used ≡ i - start) where
      abbrev Moves : Result U Why → Type 0
      Moves r = (limit k : ℕ) (name : List ℕ) → u.refused ≡ None → k + length (drop start bytes) ≤ limit
          → decoder_after after p limit (live_so m name h k) (drop start bytes) ≡ decoder_after after p limit (live_so n [] g (k + u.used)) (drop u.used (drop start bytes))

      moves : (r : Result U Why) → u.refused ≡ why_refused r n → Taken (last_taken after last f) r g → Moves r
      moves (Ok y) er given limit k name none fits =
          let all : start + u.used ≡ i = omega arith in
          reached limit k name h live fits xs last i n steps f gave
          ∙ (ap (λ (y : List ℕ). comes limit k name h live fits y last i n f) (no_name limit k name h live fits xs last i n steps some)
          ∙ (goes limit k name h live fits [] last i n f g given (sym er ∙ none)
          ∙ (ap (λ y. decoder_after after p limit (live_so n [] g (k + y)) (drop i bytes)) (sym used)
          ∙ ap (λ (y : List ℕ). decoder_after after p limit (live_so n [] g (k + u.used)) y) (ap (λ y. drop y bytes) (sym all) ∙ sym (drop-drop u.used start bytes)))))
      moves (Err w) er given limit k name none fits = absurd (not_both u.refused w none er)

      halts : (r : Result U Why) → u.refused ≡ why_refused r n → Taken (last_taken after last f) r g → (limit k : ℕ) (name : List ℕ) (w : Why) → u.refused ≡ Some w → (w ≡ why.Memory → ⊥)
          → k + length (drop start bytes) ≤ limit → decoder_after after p limit (live_so m name h k) (drop start bytes) ≡ Err (record { at = k + u.used; why = w })
      halts (Ok y) er given limit k name w is ne fits =
          reached limit k name h live fits xs last i n steps f gave
          ∙ (ap (λ y. and_then (live_from n (k + (i - start)) (and_then y (λ g. Ok (name_after limit k name h live fits steps, g)))) (λ l. decoder_after after p limit l (drop i bytes))) given
          ∙ (ap (λ y. and_then y (λ l. decoder_after after p limit l (drop i bytes))) (stops n (name_after limit k name h live fits steps) g (k + (i - start)) w (sym er ∙ is))
          ∙ ap (λ y. Err (record { at = k + y; why = w })) (sym used)))
      halts (Err v) er given limit k name w is ne fits =
          let same : v ≡ w = same_why u.refused v w er is in
          reached limit k name h live fits xs last i n steps f gave
          ∙ (ap (λ y. and_then (live_from n (k + (i - start)) (and_then y (λ g. Ok (name_after limit k name h live fits steps, g)))) (λ l. decoder_after after p limit l (drop i bytes))) (given (λ e. ne (sym same ∙ e)) ∙ ap Err same)
          ∙ ap (λ y. Err (record { at = k + y; why = w })) (sym used))

      lives : (r : Result U Why) → u.refused ≡ why_refused r n → u.refused ≡ None → IsRefused n → ⊥
      lives (Ok y) er none = still_live n (sym er ∙ none)
      lives (Err w) er none = absurd (not_both u.refused w none er)

      pub alone : (r : Result U Why) → u.refused ≡ why_refused r n → Taken (last_taken after last f) r g → (length (drop start bytes) ≤ 1 → IfErr r (λ w. w ≡ why.Memory → LastMayRunOut may last f)) → Advances after may p (drop start bytes) m h u n g
      alone r er given quiet =
          let b = within begun xs last i n steps in
          let size : length (drop start bytes) ≡ length bytes - start = length-drop start bytes in
          let here : start + 0 ≡ start = omega arith in
          record {
            within = omega (arith, b.1);
            still = λ e. absurd (omega arith);
            moved = λ limit k name go none fits. moves r er given limit k name none fits;
            stopped = λ limit k name w is ne fits. halts r er given limit k name w is ne fits;
            live = λ none l. lives r er none;
            past_header = λ k go far. (
              subst (λ y. 8 < k + y) (sym used) (past k far),
              λ none. subst (λ y. IsAt n (k + y)) (sym used) (comes_at k far begun xs last i n steps),
            );
            room = λ k name short is.
                subst (MayRunOutAtByte may p (live_so m name h k)) (sym (get_or-drop start bytes 0 0 ∙ ap (λ y. get_or bytes y 0) here))
                (runs_out may k name h u r xs last i n f steps (omega (arith, b.1)) gave er is (quiet short));
          }

-- why it refused, where the machine goes on
pub why_given : {U : Type 0} (r : Result U Why) {m n : Machine} → m ≡ n → refusal_in_machine n ≡ None → result_err r ≡ why_refused r m
why_given (Ok u) en live = sym (ap refusal_in_machine en ∙ live)
why_given (Err w) en live = refl

-- before the first byte, for what the code knows
pub none_yet : {H : Type 0} {after : H → Item → Result H Why} {may : H → Item → Type 0} {p : Profile} {bytes : List ℕ} {m n : Machine} {h : H} → n ≡ m → Advances after may p bytes m h (record { used = 0; refused = None }) n h
none_yet {after = after} {may = may} {p = p} {bytes = bytes} {m = m} {h = h} e =
    subst (λ y. Advances after may p bytes m h (record { used = 0; refused = None }) y h) (sym e) (advances_none after may p bytes m h (record { used = 0; refused = None }) refl refl)

-- A sink was given what bytes of a section completed, after other bytes: it took all, or refused the last of them.
module _ {H U : Type 0} {after : H → Item → Result H Why} {may : H → Item → Type 0} {p : Profile} {bytes : List ℕ} {start i : ℕ} {of : SectionKind} {counts : Counts} {more left : ℕ} {q : InMember} {l m n : Machine} {xs : List Completed} {last : Option Completed} {h e f : H}
    {u : Shortcut} (em : l ≡ m) (before : Advances after may p bytes m h (record { used = start; refused = None }) (machine.Section of counts more left q) e)
    (steps : Completes p bytes start (machine.Section of counts more left q) xs last i n) (some : start < i) (gave : Gave after xs e f) (used : u.used ≡ i) (r : Result U Why) (g : H) where
  pub then_taken : {o : Machine} → o ≡ n → u.refused ≡ why_refused r o → Taken (last_taken after last f) r g → IfErr r (λ w. w ≡ why.Memory → LastMayRunOut may last f) → Advances after may p bytes l h u o g
  then_taken {o = o} en er given quiet =
      advances_by after may p bytes l o m n h g u em en
      (advances_on after may p bytes m (machine.Section of counts more left q) n h e g (record { used = start; refused = None }) (record { used = i - start; refused = u.refused }) u before refl
      (alone p bytes start (machine.Section of counts more left q) after before.within may xs last i n steps some refl (λ k far. omega arith) e f g gave (record { used = i - start; refused = u.refused }) refl r (er ∙ ap (why_refused r) en) given (λ short. quiet)) (omega arith) refl)

  -- where it refused it does not matter how machine and sink were left
  pub then_refused : {o : Machine} {d : H} {w : Why} → u.refused ≡ Some w → r ≡ Err w → Taken (last_taken after last f) r g → IfErr r (λ w. w ≡ why.Memory → LastMayRunOut may last f) → Advances after may p bytes l h u o d
  then_refused {o = o} {d = d} {w = w} is er given quiet =
      advances_out after may p bytes l n o h g d u w is (omega arith) (then_taken refl (is ∙ sym (ap (λ y. why_refused y n) er)) given quiet)

-- the same of the first bytes
module _ {H U : Type 0} {after : H → Item → Result H Why} {may : H → Item → Type 0} {p : Profile} {bytes : List ℕ} {i : ℕ} {of : SectionKind} {counts : Counts} {more left : ℕ} {q : InMember} {m n : Machine} {xs : List Completed} {last : Option Completed} {h f : H}
    {u : Shortcut} (em : m ≡ machine.Section of counts more left q) (steps : Completes p bytes 0 (machine.Section of counts more left q) xs last i n) (some : 0 < i) (gave : Gave after xs h f) (used : u.used ≡ i) (r : Result U Why) (g : H) where
  pub first_taken : {o : Machine} → o ≡ n → u.refused ≡ why_refused r o → Taken (last_taken after last f) r g → IfErr r (λ w. w ≡ why.Memory → LastMayRunOut may last f) → Advances after may p bytes m h u o g
  first_taken en er given quiet = then_taken em (none_yet refl) steps some gave used r g en er given quiet

  pub first_refused : {o : Machine} {d : H} {w : Why} → u.refused ≡ Some w → r ≡ Err w → Taken (last_taken after last f) r g → IfErr r (λ w. w ≡ why.Memory → LastMayRunOut may last f) → Advances after may p bytes m h u o d
  first_refused is er given quiet = then_refused em (none_yet refl) steps some gave used r g is er given quiet

-- the same bytes, all of which it took, and a shortcut behind them
pub first_then : {H : Type 0} {after : H → Item → Result H Why} {may : H → Item → Type 0} {p : Profile} {bytes : List ℕ} {i : ℕ} {of : SectionKind} {counts : Counts} {more left : ℕ} {q : InMember} {l m n o : Machine} {xs : List Completed} {h f g : H} {t u : Shortcut}
    → m ≡ machine.Section of counts more left q → Completes p bytes 0 (machine.Section of counts more left q) xs None i n → 0 < i → refusal_in_machine n ≡ None → Gave after xs h f
    → Advances after may p (slice_range bytes i (length bytes)) n f t o g → l ≡ o → u.used ≡ i + t.used → u.refused ≡ t.refused → Advances after may p bytes m h u l g
first_then {after = after} {may = may} {p = p} {bytes = bytes} {i = i} {l = l} {m = m} {n = n} {o = o} {h = h} {f = f} {g = g} {t = t} {u = u} em steps some live gave behind en eu er =
    advances_by after may p bytes m l m o h g u refl en
    (advances_on after may p bytes m n o h f g (record { used = i; refused = None }) t u (first_taken em steps some gave refl ok f refl (sym live) refl tt) refl
    (subst (λ (y : List ℕ). Advances after may p y n f t o g) (take_rest bytes i) behind) eu er)
