-- Bytes of the header and of section headers, one after another.
use Rattle.std.proofs.Common.{◌≡◌, ℕ, zero, suc, ◌+◌, ◌-◌, ◌<◌, ◌≤◌, List, [], Option, Some, None, Result, length, length-drop, drop, get_or-drop, slice_index, slice_range, refl, sym, ◌∙◌, ap, subst, arith}
use Rattle.std.proofs.lemmas.List.{take_rest}
use Rattle.wm_syntax.specs.declared.profile.Profile.{Profile}
use Rattle.wm_syntax.specs.Profiles.{one}
use Rattle.wm_syntax.specs.declared.why.Why.{Why}
use Rattle.wm_machine.specs.declared.machine.Machine.{Machine}
use Rattle.wm_machine.specs.declared.machine.Machine.TheVariants as machine
use Rattle.wm_machine.specs.declared.machine.Event.TheVariants as event
use Rattle.wm_machine.specs.declared.machine.Plain.{Plain}
use Rattle.wm_shortcuts.specs.declared.ways.Shortcut.{Shortcut}
use Rattle.wm_machine.specs.Items.{Item}
use Rattle.wm_machine.specs.Sections.{header}
use Rattle.wm_shortcuts.specs.exact.Completed.{Completed, Completes, completed_part, with_last}
use Rattle.wm_shortcuts.specs.exact.Completed.Completes.{no_byte, one_byte, one_name}
use Rattle.wm_machine.specs.exact.Live.{IsAt, refusal_in_machine}
use Rattle.wm_shortcuts.specs.exact.Frames.{IsFrameStep, LeadsTo}
use Rattle.wm_shortcuts.specs.exact.ShortSteps.{part_event}
use Rattle.wm_machine.specs.exact.Steps.{header_step, no_counts, step_of}
use Rattle.wm_shortcuts.specs.exact.Shortcuts.{Advances}
use Rattle.wm_shortcuts.proofs.Advances.{advances_none}
use Rattle.wm_shortcuts.proofs.Completed.{alone, ok, starts_live, still_there}
use Rattle.wm_shortcuts.proofs.Completed.Gave.{nothing}

-- a byte of the header
header_goes : (i c : ℕ) (n : Machine) → c ≡ slice_index header i → header_step i (slice_index header i) ≡ (n, event.Nothing) → refusal_in_machine n ≡ None → IsFrameStep (machine.Header i) c n
header_goes i c n same is live = record { steps = λ p. ap (λ c. header_step i c) same ∙ is; goes_on = live }

not_refused : (m n : Machine) (c : ℕ) → IsFrameStep m c n → refusal_in_machine m ≡ None
not_refused (machine.Refused w) n c to = ap (λ y. refusal_in_machine y.0) (to.steps one) ∙ to.goes_on
not_refused m n c to = refl

-- what completed nothing did so byte by byte
no_item : (last : Option Completed) (xs : List Completed) → with_last last xs ≡ [] → (last ≡ None) × (xs ≡ [])
no_item (Some x) xs e = cc
no_item None xs e = (refl, e)

no_part : (x : Option Plain) → completed_part x ≡ None → x ≡ None
no_part (Some x) e = cc
no_part None e = refl

module _ (p : Profile) where
  pub frames_none : (bytes : List ℕ) (m : Machine) → LeadsTo p bytes m 0 m
  frames_none bytes m = record { within = omega arith; completes = no_byte; goes_on = λ some. absurd (omega arith) }

  pub frames_more : (bytes : List ℕ) (m n x : Machine) (used : ℕ) → LeadsTo p bytes m used n → used < length bytes → IsFrameStep n (slice_index bytes used) x → LeadsTo p bytes m (used + 1) x
  frames_more bytes m n x used so inside to = record { within = omega arith; completes = one_byte so.completes x None inside (not_refused n x (slice_index bytes used) to) (to.steps p); goes_on = λ some. to.goes_on }

  -- bytes that lead on, and bytes behind them
  module _ (bytes : List ℕ) (m n : Machine) (i : ℕ) (front : Completes p bytes 0 m [] None i n) (begun : i ≤ length bytes) where
    joined : (xs : List Completed) (last : Option Completed) (j : ℕ) (o : Machine) → Completes p (drop i bytes) 0 n xs last j o → xs ≡ [] → last ≡ None → Completes p bytes 0 m [] None (i + j) o
    joined xs last j o no_byte ex el = let all : i ≡ i + 0 = omega arith in subst (λ y. Completes p bytes 0 m [] None y n) all front
    joined xs last j o (one_byte {xs = ys} {last = l} {i = k} {n = v} steps w x inside live step) ex el =
        let none = no_item l ys ex in
        let left : length (drop i bytes) ≡ length bytes - i = length-drop i bytes in
        let end : i + k + 1 ≡ i + (k + 1) = omega arith in
        subst (λ y. Completes p bytes 0 m [] None y w) end
        (one_byte (joined ys l k v steps none.1 none.0) w None (omega arith) live (ap (step_of p v) (sym (get_or-drop i bytes k 0)) ∙ (step ∙ ap (λ y. (w, part_event y)) (no_part x el))))
    joined xs last j o (one_name of kind f more left stop steps lies inside section on) ex el = cc

  pub frames_join : (bytes : List ℕ) (m n x : Machine) (i j : ℕ) → LeadsTo p bytes m i n → LeadsTo p (slice_range bytes i (length bytes)) n j x → LeadsTo p bytes m (i + j) x
  frames_join bytes m n x i j a b = record {
    within = let front : i ≤ length bytes = a.within in omega (arith, b.within, ap length (take_rest bytes i), length-drop i bytes);
    completes = joined bytes m n i a.completes a.within [] None j x (subst (λ (y : List ℕ). Completes p y 0 n [] None j x) (take_rest bytes i) b.completes) refl refl;
    goes_on = λ some. live j b.completes b.goes_on some;
  }
    where
      none : 0 ≤ length (slice_range bytes i (length bytes))
      none = omega arith

      live : (j : ℕ) → Completes p (slice_range bytes i (length bytes)) 0 n [] None j x → (0 < j → refusal_in_machine x ≡ None) → 0 < i + j → refusal_in_machine x ≡ None
      live zero steps on some = ap refusal_in_machine (still_there p (slice_range bytes i (length bytes)) 0 n none [] None 0 x steps refl) ∙ a.goes_on (omega arith)
      live (suc k) steps on some = on (omega arith)

  -- the header
  module _ (bytes : List ℕ) (some : 8 < length bytes) (same : (i : ℕ) → i < 8 → slice_index bytes i ≡ slice_index header i) where
    abbrev to : ℕ → Machine → Type 0
    to i n = LeadsTo p bytes (machine.Header 0) i n

    goes : (i : ℕ) → to i (machine.Header i) → i < 7 → header_step i (slice_index header i) ≡ (machine.Header (i + 1), event.Nothing) → to (i + 1) (machine.Header (i + 1))
    goes i so less is = frames_more bytes (machine.Header 0) (machine.Header i) (machine.Header (i + 1)) i so (omega arith) (header_goes i (slice_index bytes i) (machine.Header (i + 1)) (same i (omega arith)) is refl)

    pub header_leads : LeadsTo p bytes (machine.Header 0) 8 (machine.Between 0 no_counts)
    header_leads =
        let seven : to 7 (machine.Header 7) =
        goes 6 (goes 5 (goes 4 (goes 3 (goes 2 (goes 1 (goes 0 (frames_none bytes (machine.Header 0)) (omega arith) refl) (omega arith) refl) (omega arith) refl) (omega arith) refl) (omega arith) refl) (omega arith) refl)
        (omega arith) refl in
        frames_more bytes (machine.Header 0) (machine.Header 7) (machine.Between 0 no_counts) 7 seven (omega arith) (header_goes 7 (slice_index bytes 7) (machine.Between 0 no_counts) (same 7 (omega arith)) refl refl)

-- they are a shortcut, where none ends in the header
pub frames_advance : {H : Type 0} (after : H → Item → Result H Why) (p : Profile) (may : H → Item → Type 0) (bytes : List ℕ) (m n : Machine) (h : H) (s : Shortcut) → LeadsTo p bytes m s.used n → s.refused ≡ None → ((k : ℕ) → IsAt m k → 0 < s.used → 8 < k + s.used)
    → Advances after may p bytes m h s n h
frames_advance {H} after p may bytes m n h s so none past = by_count s.used refl so
  where
    none_first : 0 ≤ length bytes
    none_first = omega arith

    by_count : (i : ℕ) → s.used ≡ i → LeadsTo p bytes m i n → Advances after may p bytes m h s n h
    by_count zero e so = subst (λ y. Advances after may p bytes m h s y h) (sym (still_there p bytes 0 m none_first [] None 0 n so.completes refl)) (advances_none after may p bytes m h s e none)
    by_count (suc i) e so =
        let live : refusal_in_machine n ≡ None = so.goes_on (omega arith) in
        alone p bytes 0 m after none_first may [] None (suc i) n so.completes (omega arith) (starts_live p bytes 0 m [] None (suc i) n so.completes live) (λ k far. let later : 8 < k + s.used = past k far (omega arith) in omega arith) h h h nothing s (omega arith) ok (none ∙ sym live) refl (λ short. tt)

-- behind the header
pub past_header : (m : Machine) → ((n : ℕ) → m ≡ machine.Header n → ⊥) → ((w : Why) → m ≡ machine.Refused w → ⊥) → (k : ℕ) → IsAt m k → 8 ≤ k
past_header (machine.Header n) a b k far = absurd (a n refl)
past_header (machine.Refused w) a b k far = absurd (b w refl)
past_header m a b k far = far
