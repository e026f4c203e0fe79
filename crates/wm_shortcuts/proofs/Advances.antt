-- A fast path has the effect of the slow path; so have two, one after another.
use Rattle.std.proofs.Common.{◌≡◌, ◌≢◌, ℕ, zero, suc, ◌+◌, ◌-◌, ◌<◌, ◌≤◌, List, [], Option, Some, None, Result, Ok, Err, MatchResult, IfErr, inl, inr, length, length-drop, length-take, map, drop, take, get_or, get_or-drop, get_or-take, slice_index, slice_range, refl, sym, ◌∙◌, ap, subst, arith}
use Rattle.std.specs.Result.{result_err}
use Rattle.std.proofs.Math.Seq.{take-length}
use Rattle.std.proofs.lemmas.List.{drop-drop, take_rest}
use Rattle.wm_syntax.specs.declared.profile.Profile.{Profile}
use Rattle.wm_syntax.specs.declared.why.Why.{Why}
use Rattle.wm_syntax.specs.declared.why.Why.TheVariants as why
use Rattle.wm_machine.specs.declared.machine.Counts.{Counts}
use Rattle.wm_machine.specs.declared.machine.Machine.{Machine}
use Rattle.wm_machine.specs.declared.machine.Machine.TheVariants as machine
use Rattle.wm_machine.specs.declared.machine.InCustom.TheVariants as custom
use Rattle.wm_machine.specs.declared.machine.member.SectionKind.{SectionKind}
use Rattle.wm_machine.specs.declared.machine.member.InMember.TheVariants as at
use Rattle.wm_shortcuts.specs.declared.ways.Shortcut.{Shortcut}
use Rattle.wm_machine.specs.Items.{Item, data_byte}
use Rattle.wm_machine.specs.Sinks.{all_taken, and_then}
use Rattle.wm_machine.specs.exact.Steps.{machine_in_member}
use Rattle.wm_machine.specs.exact.MemberSteps.{data_or_over}
use Rattle.wm_machine.specs.exact.Live.{IsAt, MayRunOutAtByte, decoder_after, live_or_refused, refusal_in_machine}
use Rattle.wm_shortcuts.specs.exact.Shortcuts.{Advances, live_so}
use Rattle.wm_machine.proofs.Header.{stays}
use Rattle.wm_machine.proofs.ByteRuns.{data_decoded, data_ended, goes_on, is_refused, skips, still_live, stops}

pub not_both : (r : Option Why) (w : Why) → r ≡ None → r ≡ Some w → ⊥
not_both r w a b = let s : None ≡ Some w = sym a ∙ b in cc

pub same_why : (r : Option Why) (v w : Why) → r ≡ Some v → r ≡ Some w → v ≡ w
same_why r v w a b = let s : Some v ≡ Some w = sym a ∙ b in cc

module _ {H : Type 0} (after : H → Item → Result H Why) (may : H → Item → Type 0) (p : Profile) where
  -- nothing was taken
  pub advances_idle : (bytes : List ℕ) (m : Machine) (h g : H) (s : Shortcut) → s.used ≡ 0 → s.refused ≡ None → g ≡ h → Advances after may p bytes m h s m g
  advances_idle bytes m h g s u r same = record {
    within = omega arith;
    still = λ e. (r, refl, same);
    moved = λ limit k name some none fits. absurd (omega arith);
    stopped = λ limit k name w is ne fits. absurd (not_both s.refused w r is);
    live = λ none l. l;
    past_header = λ k some so. absurd (omega arith);
    room = λ k name short is. absurd (not_both s.refused why.Memory r is);
  }

  pub advances_none : (bytes : List ℕ) (m : Machine) (h : H) (s : Shortcut) → s.used ≡ 0 → s.refused ≡ None → Advances after may p bytes m h s m h
  advances_none bytes m h s u r = advances_idle bytes m h h s u r refl

  -- another way, where the first took nothing
  pub advances_after_none : (bytes : List ℕ) (m o n : Machine) (h f g : H) (s t : Shortcut) → Advances after may p bytes m h s o f → s.used ≡ 0 → Advances after may p bytes o f t n g → Advances after may p bytes m h t n g
  advances_after_none bytes m o n h f g s t a none b =
      let same = a.still none in
      subst (λ y. Advances after may p bytes y h t n g) same.1 (subst (λ y. Advances after may p bytes o y t n g) same.2 b)

  -- the same, where it is known where the first left all
  pub advances_later : (bytes : List ℕ) (m o x n : Machine) (h f y g : H) (s t : Shortcut) → Advances after may p bytes m h s o f → s.used ≤ 0 → x ≡ o → y ≡ f → Advances after may p bytes x y t n g → Advances after may p bytes m h t n g
  advances_later bytes m o x n h f y g s t a none em eh b =
      advances_after_none bytes m o n h f g s t a (omega arith) (subst (λ z. Advances after may p bytes o z t n g) eh (subst (λ z. Advances after may p bytes z y t n g) em b))

  -- one after another
  pub advances_then : (bytes : List ℕ) (m o n : Machine) (h f g : H) (s t u : Shortcut) → Advances after may p bytes m h s o f → s.refused ≡ None → 0 < s.used
      → Advances after may p (drop s.used bytes) o f t n g → 0 < t.used → u.used ≡ s.used + t.used → u.refused ≡ t.refused → Advances after may p bytes m h u n g
  advances_then bytes m o n h f g s t u a none some b more eu er =
      let left : length (drop s.used bytes) ≡ length bytes - s.used = length-drop s.used bytes in
      let front : s.used ≤ length bytes = a.within in
      let back : t.used ≤ length (drop s.used bytes) = b.within in
      let end : drop t.used (drop s.used bytes) ≡ drop u.used bytes = drop-drop t.used s.used bytes ∙ ap (λ i. drop i bytes) (sym eu) in
      record {
        within = omega arith;
        still = λ e. absurd (omega arith);
        moved = λ limit k name go is fits.
            let place : k + s.used + t.used ≡ k + u.used = omega arith in
            a.moved limit k name some none fits
            ∙ (b.moved limit (k + s.used) [] more (sym er ∙ is) (omega arith)
            ∙ (ap (λ (y : List ℕ). decoder_after after p limit (live_so n [] g (k + s.used + t.used)) y) end
            ∙ ap (λ y. decoder_after after p limit (live_so n [] g y) (drop u.used bytes)) place));
        stopped = λ limit k name w is ne fits.
            let place : k + s.used + t.used ≡ k + u.used = omega arith in
            a.moved limit k name some none fits ∙ (b.stopped limit (k + s.used) [] w (sym er ∙ is) ne (omega arith) ∙ ap (λ y. Err (record { at = y; why = w })) place);
        live = λ is l. b.live (sym er ∙ is) (a.live none l);
        past_header = λ k go so.
            let first = a.past_header k some so in
            let last = b.past_header (k + s.used) more (first.1 none) in
            let far : 8 < k + s.used + t.used = last.0 in
            let place : k + s.used + t.used ≡ k + u.used = omega arith in
            (omega arith, λ is. subst (IsAt n) place (last.1 (sym er ∙ is)));
        room = λ k name short is. absurd (omega arith);
      }

  -- the same for what the code knows of the machines
  pub advances_by : (bytes : List ℕ) (m n x y : Machine) (h g : H) (s : Shortcut) → m ≡ x → n ≡ y → Advances after may p bytes x h s y g → Advances after may p bytes m h s n g
  advances_by bytes m n x y h g s em en a = subst (λ z. Advances after may p bytes z h s n g) (sym em) (subst (λ z. Advances after may p bytes x h s z g) (sym en) a)

  -- where the sink refused it does not matter where the machine was left
  pub advances_out : (bytes : List ℕ) (m n o : Machine) (h g f : H) (s : Shortcut) (w : Why) → s.refused ≡ Some w → 0 < s.used → Advances after may p bytes m h s n g → Advances after may p bytes m h s o f
  advances_out bytes m n o h g f s w is some a = record {
    within = a.within;
    still = λ e. absurd (omega arith);
    moved = λ limit k name go none fits. absurd (not_both s.refused w none is);
    stopped = a.stopped;
    live = λ none l. absurd (not_both s.refused w none is);
    past_header = λ k go far. ((a.past_header k go far).0, λ none. absurd (not_both s.refused w none is));
    room = a.room;
  }

  -- one after another, of which each may take nothing
  pub advances_on : (bytes : List ℕ) (m o n : Machine) (h f g : H) (s t u : Shortcut) → Advances after may p bytes m h s o f → s.refused ≡ None
      → Advances after may p (drop s.used bytes) o f t n g → u.used ≡ s.used + t.used → u.refused ≡ t.refused → Advances after may p bytes m h u n g
  advances_on bytes m o n h f g s t u a none b eu er = by_count s.used refl t.used refl
    where
      alike : (x : Shortcut) → x.used ≡ u.used → x.refused ≡ u.refused → x ≡ u
      alike x e r = ap (λ i. record { used = i; refused = x.refused }) e ∙ ap (λ y. record { used = u.used; refused = y }) r

      by_count : (i : ℕ) → s.used ≡ i → (j : ℕ) → t.used ≡ j → Advances after may p bytes m h u n g
      by_count zero e j _ =
          let same : t ≡ u = alike t (omega arith) (sym er) in
          let whole : Advances after may p bytes o f t n g = subst (λ i. Advances after may p (drop i bytes) o f t n g) e b in
          subst (λ y. Advances after may p bytes m h y n g) same (advances_after_none bytes m o n h f g s t a e whole)
      by_count (suc i) e zero d =
          let still = b.still d in
          let same : s ≡ u = alike s (omega arith) (none ∙ sym (er ∙ still.0)) in
          subst (λ y. Advances after may p bytes m h y n g) same (subst (λ y. Advances after may p bytes m h s y g) (sym still.1) (subst (λ y. Advances after may p bytes m h s o y) (sym still.2) a))
      by_count (suc i) e (suc j) d = advances_then bytes m o n h f g s t u a none (omega arith) b (omega arith) eu er

  -- the bytes of a custom section
  pub advances_pass : (bytes : List ℕ) (h : H) (s : Shortcut) (last : ℕ) (f : Counts) (more : ℕ) → s.used ≤ length bytes → s.used ≤ more → s.refused ≡ None
      → Advances after may p bytes (machine.Custom last f more custom.Skip) h s (machine.Custom last f (more - s.used) custom.Skip) h
  advances_pass bytes h s last f more within less none = record {
    within = within;
    still = λ e. (none, ap (λ i. machine.Custom last f i custom.Skip) (omega arith), refl);
    moved = λ limit k name go is fits. skips after p limit bytes last f more s.used name h k within less go fits;
    stopped = λ limit k name w is ne fits. absurd (not_both s.refused w none is);
    live = λ is l r. r;
    past_header = λ k go far. (omega arith, λ is. omega arith);
    room = λ k name short is. absurd (not_both s.refused why.Memory none is);
  }

  -- the bytes of a data segment
  module _ (bytes : List ℕ) (h g : H) (s : Shortcut) (of : SectionKind) (f : Counts) (left more rest : ℕ) where
    abbrev pub stands : Machine
    stands = machine.Section of f more left (at.Data rest)

    -- for one of which memory ran out
    advances_memory : (n : Machine) → 0 < s.used → s.used ≤ length bytes → s.refused ≡ Some why.Memory → (length bytes ≡ 1 → may h (data_byte (slice_index bytes 0))) → Advances after may p bytes stands h s n g
    advances_memory n some within out quiet = record {
      within = within;
      still = λ e. absurd (omega arith);
      moved = λ limit k name go none fits. absurd (not_both s.refused why.Memory none out);
      stopped = λ limit k name w is ne fits. absurd (ne (same_why s.refused w why.Memory is out));
      live = λ none l. absurd (not_both s.refused why.Memory none out);
      past_header = λ k go far. (omega arith, λ none. absurd (not_both s.refused why.Memory none out));
      room = λ k name short is. inl (quiet (omega arith));
    }

    -- not the last of them
    pub advances_data : {U : Type 0} (r : Result U Why) → 0 < s.used → s.used ≡ length bytes → s.used ≤ more → s.used ≤ rest → s.refused ≡ result_err r
        → MatchResult r (λ u. all_taken after h (map data_byte bytes) ≡ Ok g) (λ w. w ≡ why.Memory) → (length bytes ≡ 1 → IfErr r (λ w. w ≡ why.Memory → may h (data_byte (slice_index bytes 0))))
        → Advances after may p bytes stands h s (machine.Section of f (more - s.used) left (at.Data (rest - s.used))) g
    advances_data (Ok u) some all less fewer is given quiet =
        let whole : all_taken after h (map data_byte (take s.used bytes)) ≡ Ok g = ap (λ (y : List ℕ). all_taken after h (map data_byte y)) (ap (λ i. take i bytes) all ∙ take-length bytes) ∙ given in
        record {
          within = omega arith;
          still = λ e. absurd (omega arith);
          moved = λ limit k name go none fits. data_decoded after p limit bytes of f left more rest s.used name h g k (omega arith) less fewer some fits whole;
          stopped = λ limit k name w no ne fits. absurd (not_both s.refused w is no);
          live = λ none l r. r;
          past_header = λ k go far. (omega arith, λ none. omega arith);
          room = λ k name short no. absurd (not_both s.refused why.Memory is no);
        }
    advances_data (Err v) some all less fewer is given quiet = advances_memory _ some (omega arith) (is ∙ ap Some given) (λ one. quiet one given)

    -- the last of them, where memory ran out
    pub advances_data_out : (n : Machine) (used : ℕ) (w : Why) → s.used ≡ used + 1 → used < length bytes → s.refused ≡ Some w → w ≡ why.Memory
        → (length (take (used + 1) bytes) ≡ 1 → may h (data_byte (slice_index (take (used + 1) bytes) 0))) → Advances after may p bytes stands h s n g
    advances_data_out n used w eu inside is out quiet =
        advances_memory n (omega arith) (omega arith) (is ∙ ap Some out) (λ one.
        let front : length (take (used + 1) bytes) ≡ 1 = omega (arith, length-take (used + 1) bytes) in
        let first : slice_index (take (used + 1) bytes) 0 ≡ slice_index bytes 0 = get_or-take (used + 1) bytes 0 0 (omega arith) in
        subst (λ c. may h (data_byte c)) first (quiet front))

    -- and where the machine takes it or refuses
    abbrev pub ended : ℕ → Machine
    ended used = machine_in_member of f (more - used) left (data_or_over (rest - used))

    pub advances_data_end : (used : ℕ) → s.used ≡ used + 1 → used < length bytes → used ≤ more → used ≤ rest
        → s.refused ≡ refusal_in_machine (ended used) → all_taken after h (map data_byte (take (used + 1) bytes)) ≡ Ok g
        → Advances after may p bytes stands h s (ended used) g
    advances_data_end used eu inside less fewer is given = record {
      within = omega arith;
      still = λ e. absurd (omega arith);
      moved = λ limit k name go none fits.
          decoded limit k name fits
          ∙ (ap (λ y. and_then y (λ x. decoder_after after p limit x (drop (used + 1) bytes))) (goes_on (ended used) [] g (k + s.used) (sym is ∙ none))
          ∙ ap (λ i. decoder_after after p limit (live_so (ended used) [] g (k + s.used)) (drop i bytes)) (sym eu));
      stopped = λ limit k name w no ne fits.
          decoded limit k name fits ∙ ap (λ y. and_then y (λ x. decoder_after after p limit x (drop (used + 1) bytes))) (stops (ended used) [] g (k + s.used) w (sym is ∙ no));
      live = λ none l. still_live (ended used) (sym is ∙ none);
      past_header = λ k go far.
          let farther : 8 ≤ k + used = omega arith in
          let place : k + used + 1 ≡ k + s.used = omega arith in
          (omega arith, λ none. subst (IsAt (ended used)) place (stays p (machine.Section of f (more - used) left (at.Data (rest - used))) 0 (k + used) farther));
      room = λ k name short out.
          let all : more ≡ more - used = omega arith in
          let each : rest ≡ rest - used = omega arith in
          inr (ap (λ i. machine_in_member of f i left (data_or_over rest)) all
          ∙ (ap (λ i. machine_in_member of f (more - used) left (data_or_over i)) each ∙ is_refused (ended used) why.Memory (sym is ∙ out)));
    }
      where
        decoded : (limit k : ℕ) (name : List ℕ) → k + length bytes ≤ limit
            → decoder_after after p limit (live_so stands name h k) bytes ≡ and_then (live_or_refused (ended used) [] g (k + s.used)) (λ x. decoder_after after p limit x (drop (used + 1) bytes))
        decoded limit k name fits = data_ended after p limit bytes of f left more rest used name h g k (k + s.used) (omega arith) inside less fewer fits given

-- a shortcut in a piece, from a place on
module _ {H : Type 0} (after : H → Item → Result H Why) (may : H → Item → Type 0) (p : Profile) (piece : List ℕ) (i : ℕ) (m n : Machine) (h g : H) (s : Shortcut)
    (a : Advances after may p (slice_range piece i (length piece)) m h s n g) where
  rest : Advances after may p (drop i piece) m h s n g
  rest = subst (λ (y : List ℕ). Advances after may p y m h s n g) (take_rest piece i) a

  module _ (limit k : ℕ) (name : List ℕ) (within : i < length piece) where
    pub taken_moved : (left : List ℕ) → length piece - i ≤ limit - k → 0 < s.used → s.refused ≡ None → left ≡ []
        → decoder_after after p limit (live_so m name h k) (drop i piece) ≡ decoder_after after p limit (live_so n left g (k + s.used)) (drop (i + s.used) piece)
    taken_moved left room some none el =
        let fits : k + length (drop i piece) ≤ limit = omega (arith, length-drop i piece) in
        rest.moved limit k name some none fits
        ∙ (ap (λ (y : List ℕ). decoder_after after p limit (live_so n [] g (k + s.used)) y) (drop-drop s.used i piece)
        ∙ ap (λ (y : List ℕ). decoder_after after p limit (live_so n y g (k + s.used)) (drop (i + s.used) piece)) (sym el))

    pub taken_stopped : (w : Why) → length piece - i ≤ limit - k → s.refused ≡ Some w → w ≢ why.Memory
        → decoder_after after p limit (live_so m name h k) (drop i piece) ≡ Err (record { at = k + s.used; why = w })
    taken_stopped w room is ne =
        let fits : k + length (drop i piece) ≤ limit = omega (arith, length-drop i piece) in
        rest.stopped limit k name w is ne fits

    pub taken_room : length piece ≤ i + 1 → s.refused ≡ Some why.Memory → MayRunOutAtByte may p (live_so m name h k) (slice_index piece i)
    taken_room short is =
        let one : length (drop i piece) ≤ 1 = omega (arith, length-drop i piece) in
        let place : i + 0 ≡ i = omega arith in
        let first : slice_index (drop i piece) 0 ≡ slice_index piece i = rw (get_or-drop) (ap (λ j. get_or piece j 0) place) in
        subst (MayRunOutAtByte may p (live_so m name h k)) first (rest.room k name one is)
