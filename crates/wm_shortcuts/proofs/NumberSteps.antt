-- A number that lies whole in the piece, read one byte at a time in a member, is that number.
use Rattle.std.proofs.Common.{◌≡◌, ℕ, zero, suc, ◌+◌, ◌-◌, ◌<◌, ◌≤◌, List, ◌∷◌, Option, None, length, drop, take, slice_index, slice_range, refl, sym, ◌∙◌, ap, subst, arith}
use Rattle.std.proofs.lemmas.List.{drop_more}
use Rattle.wm_syntax.specs.declared.numbers.Step.{Step}
use Rattle.wm_syntax.specs.declared.numbers.Step.TheVariants as step
use Rattle.wm_syntax.specs.inner.Numbers.{Partial}
use Rattle.wm_syntax.specs.exact.Reading.{fresh, unsigned_push}
use Rattle.wm_syntax.specs.declared.profile.Profile.{Profile}
use Rattle.wm_machine.specs.declared.machine.Counts.{Counts}
use Rattle.wm_machine.specs.declared.machine.Machine.{Machine}
use Rattle.wm_machine.specs.declared.machine.Machine.TheVariants as machine
use Rattle.wm_machine.specs.declared.machine.Event.{Event}
use Rattle.wm_machine.specs.declared.machine.Plain.{Plain}
use Rattle.wm_machine.specs.declared.machine.member.SectionKind.{SectionKind}
use Rattle.wm_machine.specs.declared.machine.member.InMember.{InMember}
use Rattle.wm_shortcuts.specs.declared.short_steps.Stepped.{Stepped}
use Rattle.wm_shortcuts.specs.exact.Completed.{Completed, Completes, completed_part, with_last}
use Rattle.wm_shortcuts.specs.exact.Completed.Completes.{one_byte}
use Rattle.wm_machine.specs.exact.Steps.{machine_in_member, step_of}
use Rattle.wm_machine.specs.exact.MemberSteps.{member_step}
use Rattle.wm_shortcuts.specs.exact.ShortSteps.{StepsTo, after_stepped, part_event}
use Rattle.wm_shortcuts.specs.exact.WholeOps.{IsNumber, LiesAt, NumberGoes}
use Rattle.wm_shortcuts.proofs.Completed.{byte_on}
use Rattle.wm_shortcuts.proofs.OpLists.{range_length}

range_front : (bytes : List ℕ) (i stop : ℕ) → i < stop → stop ≤ length bytes → slice_range bytes i stop ≡ slice_index bytes i ∷ slice_range bytes (i + 1) stop
range_front bytes i stop less inside =
    let size : stop - i ≡ suc (stop - (i + 1)) = omega arith in
    ap (λ n. take n (drop i bytes)) size ∙ ap (λ (y : List ℕ). take (suc (stop - (i + 1))) y) (drop_more bytes i 0 (omega arith))

-- what a byte makes of the section that goes on after it
abbrev pub framed : SectionKind → Counts → ℕ → ℕ → InMember × Event → Machine × Event
framed of f more left z = (machine_in_member of f (suc more) left z.0, z.1)

-- a byte of a number that is not its last goes on so
abbrev pub ByteGoesOn : Profile → SectionKind → ℕ → (Partial → InMember) → (Partial → InMember) → Type 0
ByteGoesOn profile of left q next = (r s : Partial) (c : ℕ) → unsigned_push 32 r c ≡ (step.More, s) → StepsTo profile of left (q r) c (record { left = left; at = next s; part = None })

-- the same where so many bytes of what the number lies in come after it
abbrev pub NumberGoesOn : Profile → SectionKind → ℕ → (ℕ → Partial → InMember) → Type 0
NumberGoesOn profile of left q = (room : ℕ) → ByteGoesOn profile of left (q (suc room)) (q room)

-- where a member's number stands, and what comes of it: a byte of it goes on so, and its last ends so
pub record ReadsNumber (profile : Profile) (of : SectionKind) (left : ℕ) (q : Partial → InMember) (done : ℕ → Stepped) : Type 0 where
  pub goes_on : ByteGoesOn profile of left q q
  pub ends : (r s : Partial) (c v : ℕ) → unsigned_push 32 r c ≡ (step.Done v, s) → StepsTo profile of left (q r) c (done v)

-- the same of one that a member or its head ends with
pub record EndsWithNumber (profile : Profile) (of : SectionKind) (left : ℕ) (q : Partial → InMember) (next : ℕ → InMember) (part : ℕ → Option Plain) : Type 0 where
  pub goes_on : ByteGoesOn profile of left q q
  pub ends : (r s : Partial) (c v : ℕ) → unsigned_push 32 r c ≡ (step.Done v, s) → member_step profile (q r) c ≡ (next v, part_event (part v))

module _ {profile : Profile} {bytes : List ℕ} {start : ℕ} {m : Machine} {of : SectionKind} {f : Counts} {left : ℕ} where
  -- After the last byte of a number so many bytes of the section come, and of what the number lies in.
  module _ (q : ℕ → Partial → InMember) (goes : NumberGoesOn profile of left q) (last v ahead space : ℕ) (inside : last < length bytes) (o : Machine) (x : Option Plain)
      (ends : (r s : Partial) → unsigned_push 32 r (slice_index bytes last) ≡ (step.Done v, s) → step_of profile (machine.Section of f ahead left (q space r)) (slice_index bytes last) ≡ (o, part_event x)) where
    pub number_steps : (xs : List Completed) (before : Option Completed) (size i more room : ℕ) (p : Partial) → i + size ≡ last → more ≡ ahead + size → room ≡ space + size → IsNumber (unsigned_push 32) p (slice_range bytes i (last + 1)) v
        → Completes profile bytes start m xs before i (machine.Section of f more left (q room p)) → Completes profile bytes start m (with_last before xs) (completed_part x) (last + 1) o
    number_steps xs before zero i more room p here em er is steps =
        go (unsigned_push 32 p (slice_index bytes i)) refl (subst (λ (y : List ℕ). IsNumber (unsigned_push 32) p y v) (range_front bytes i (last + 1) (omega arith) (omega arith)) is)
      where
        none : last + 1 - (i + 1) ≡ 0
        none = omega arith

        go : (y : Step ℕ × Partial) → unsigned_push 32 p (slice_index bytes i) ≡ y → NumberGoes y (λ s. IsNumber (unsigned_push 32) s (slice_range bytes (i + 1) (last + 1)) v) (slice_range bytes (i + 1) (last + 1)) v → Completes profile bytes start m (with_last before xs) (completed_part x) (last + 1) o
        go (step.More, s) is rest = absurd (subst (λ y. IsNumber (unsigned_push 32) s (take y (drop (i + 1) bytes)) v) none rest)
        go (step.Done w, s) is rest =
            let same : w ≡ v = rest.0 in
            let place : i ≡ last = omega arith in
            let a : more ≡ ahead = omega arith in
            let b : room ≡ space = omega arith in
            one_byte (subst (λ y. Completes profile bytes start m xs before last (machine.Section of f ahead left (q y p))) b (subst (λ y. Completes profile bytes start m xs before last (machine.Section of f y left (q room p))) a (subst (λ y. Completes profile bytes start m xs before y (machine.Section of f more left (q room p))) place steps)))
            o x inside refl (ends p s (ap (λ y. unsigned_push 32 p (slice_index bytes y)) (sym place) ∙ (is ∙ ap (λ y. (step.Done y, s)) same)))
        go (step.Bad, s) is rest = absurd rest
    number_steps xs before (suc k) i more room p here em er is steps =
        go (λ s b a. number_steps (with_last before xs) None k (i + 1) (more - 1) (room - 1) s (omega arith) (omega arith) (omega arith) b a)
        (unsigned_push 32 p (slice_index bytes i)) refl (subst (λ (y : List ℕ). IsNumber (unsigned_push 32) p y v) (range_front bytes i (last + 1) (omega arith) (omega arith)) is)
      where
        go : ((s : Partial) → IsNumber (unsigned_push 32) s (slice_range bytes (i + 1) (last + 1)) v → Completes profile bytes start m (with_last before xs) None (i + 1) (machine.Section of f (more - 1) left (q (room - 1) s)) → Completes profile bytes start m (with_last before xs) (completed_part x) (last + 1) o)
            → (y : Step ℕ × Partial) → unsigned_push 32 p (slice_index bytes i) ≡ y → NumberGoes y (λ s. IsNumber (unsigned_push 32) s (slice_range bytes (i + 1) (last + 1)) v) (slice_range bytes (i + 1) (last + 1)) v → Completes profile bytes start m (with_last before xs) (completed_part x) (last + 1) o
        go again (step.More, s) is rest =
            let one : suc (room - 1) ≡ room = omega arith in
            again s rest (byte_on (record { left = left; at = q (room - 1) s; part = None }) steps (omega arith) (omega arith)
            (subst (λ y. StepsTo profile of left (q y p) (slice_index bytes i) (record { left = left; at = q (room - 1) s; part = None })) one (goes (room - 1) p s (slice_index bytes i) is)) refl)
        go again (step.Done w, s) is rest =
            let none : length (slice_range bytes (i + 1) (last + 1)) ≡ 0 = ap length rest.1 in
            let size : length (slice_range bytes (i + 1) (last + 1)) ≡ last + 1 - (i + 1) = range_length bytes (i + 1) (last + 1) (omega arith) in
            absurd (omega arith)
        go again (step.Bad, s) is rest = absurd rest

  -- from its first byte
  pub number_whole : {xs : List Completed} {before : Option Completed} {i stop v more room : ℕ} (q : ℕ → Partial → InMember) (goes : NumberGoesOn profile of left q) (ahead space : ℕ) (o : Machine) (x : Option Plain) → LiesAt (unsigned_push 32) bytes i stop v
      → Completes profile bytes start m xs before i (machine.Section of f more left (q room fresh)) → stop + ahead ≡ i + more + 1 → stop + space ≡ i + room + 1
      → ((r s : Partial) → unsigned_push 32 r (slice_index bytes (stop - 1)) ≡ (step.Done v, s) → step_of profile (machine.Section of f ahead left (q space r)) (slice_index bytes (stop - 1)) ≡ (o, part_event x))
      → Completes profile bytes start m (with_last before xs) (completed_part x) stop o
  number_whole {xs = xs} {before = before} {i = i} {stop = stop} {v = v} {more = more} {room = room} q goes ahead space o x lies steps em er ends =
      let order : i < stop = lies.some in
      let within : stop ≤ length bytes = lies.within in
      let end : stop ≡ stop - 1 + 1 = omega arith in
      subst (λ y. Completes profile bytes start m (with_last before xs) (completed_part x) y o) (sym end)
      (number_steps q goes (stop - 1) v ahead space (omega arith) o x ends xs before (stop - 1 - i) i more room fresh (omega arith) (omega arith) (omega arith)
      (subst (λ y. IsNumber (unsigned_push 32) fresh (slice_range bytes i y) v) end lies.spelled) steps)

  pub number_on : {xs : List Completed} {before : Option Completed} {i stop v more : ℕ} {q : Partial → InMember} {done : ℕ → Stepped} {n : Machine} → ReadsNumber profile of left q done → LiesAt (unsigned_push 32) bytes i stop v → Completes profile bytes start m xs before i (machine.Section of f more left (q fresh)) → stop ≤ i + more
      → n ≡ after_stepped of f (more - (stop - i)) (done v) → Completes profile bytes start m (with_last before xs) (completed_part (done v).part) stop n
  number_on {i = i} {stop = stop} {v = v} {more = more} {q = q} {done = done} {n = n} reads lies steps room en =
      let order : i < stop = lies.some in
      number_whole {room = stop - i - 1} (λ _. q) (λ _. reads.goes_on) (suc (more - (stop - i))) 0 n (done v).part lies steps (omega arith) (omega arith)
      (λ r s e. reads.ends r s (slice_index bytes (stop - 1)) v e f (more - (stop - i)) ∙ ap (λ (y : Machine). (y, part_event (done v).part)) (sym en))

  pub number_over : {xs : List Completed} {before : Option Completed} {i stop v more : ℕ} {q : Partial → InMember} {next : ℕ → InMember} {part : ℕ → Option Plain} (rest : ℕ) → EndsWithNumber profile of left q next part → LiesAt (unsigned_push 32) bytes i stop v
      → Completes profile bytes start m xs before i (machine.Section of f more left (q fresh)) → stop + rest ≡ i + more + 1 → Completes profile bytes start m (with_last before xs) (completed_part (part v)) stop (machine_in_member of f rest left (next v))
  number_over {i = i} {stop = stop} {v = v} {q = q} {next = next} {part = part} rest reads lies steps room =
      let order : i < stop = lies.some in
      number_whole {room = stop - i - 1} (λ _. q) (λ _. reads.goes_on) rest 0 (machine_in_member of f rest left (next v)) (part v) lies steps room (omega arith)
      (λ r s e. ap (λ y. (machine_in_member of f rest left y.0, y.1)) (reads.ends r s (slice_index bytes (stop - 1)) v e))
