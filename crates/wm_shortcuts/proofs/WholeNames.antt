-- A name whose bytes lie in the piece, read one at a time, is passed to the sink as those bytes.
use Rattle.std.proofs.Common.{◌≡◌, ℕ, suc, ◌+◌, ◌-◌, ◌^◌, ◌<◌, ◌≤◌, List, [], ◌∷◌, ◌++◌, Result, Ok, length, length-drop, drop, take, get_or, get_or-drop, slice_index, refl, sym, ◌∙◌, ap, arith}
use Rattle.std.proofs.lemmas.List.{drop-drop, take_more}
use Rattle.wm_syntax.specs.declared.profile.Profile.{Profile}
use Rattle.wm_syntax.specs.declared.why.Why.{Why}
use Rattle.wm_syntax.specs.exact.Reading.{fresh}
use Rattle.wm_machine.specs.declared.machine.Counts.{Counts}
use Rattle.wm_machine.specs.declared.machine.Machine.{Machine}
use Rattle.wm_machine.specs.declared.machine.Machine.TheVariants as machine
use Rattle.wm_machine.specs.declared.machine.Event.{Event}
use Rattle.wm_machine.specs.declared.machine.Event.TheVariants as event
use Rattle.wm_machine.specs.declared.machine.NameKind.{NameKind}
use Rattle.wm_machine.specs.declared.machine.member.SectionKind.{SectionKind}
use Rattle.wm_machine.specs.declared.machine.member.InMember.{InMember}
use Rattle.wm_machine.specs.declared.machine.member.InMember.TheVariants as at
use Rattle.wm_machine.specs.Items.{Item}
use Rattle.wm_machine.specs.Sinks.{and_then}
use Rattle.wm_machine.specs.exact.Steps.{machine_in_member, step_of}
use Rattle.wm_machine.specs.exact.MemberSteps.{after_length, after_name, name_length_step, on_number}
use Rattle.wm_machine.specs.exact.Live.{decoder_after, live_from, name_taken}
use Rattle.wm_shortcuts.specs.exact.Shortcuts.{live_so}
use Rattle.wm_shortcuts.proofs.ShortSteps.{first_step}
use Rattle.wm_machine.proofs.ByteRuns.{names}
use Rattle.wm_shortcuts.proofs.WholeNumbers.{u32_one}

module _ (of : SectionKind) (kind : NameKind) where
  -- the machine before the length of a name, at its last byte, and after it
  abbrev pub before_name : Counts → ℕ → ℕ → Machine
  before_name f more left = machine.Section of f more left (at.NameLength kind fresh)

  abbrev pub last_of_name : Counts → ℕ → ℕ → Machine
  last_of_name f more left = machine.Section of f more left (at.Name kind 0)

  abbrev pub behind_name : Counts → ℕ → ℕ → Machine
  behind_name f more left = machine.Section of f more left (after_name kind)

  -- more of the member comes after the name
  abbrev pub GoesOn : Counts → ℕ → Type 0
  GoesOn f left = (more : ℕ) → machine_in_member of f (suc more) left (after_name kind) ≡ behind_name f more left

  abbrev framed : Counts → ℕ → ℕ → InMember × Event → Machine × Event
  framed f more left z = (machine_in_member of f more left z.0, z.1)

  begins : (p : Profile) (f : Counts) (more left n c : ℕ) → 0 < more → 0 < n → n < 2 ^ 7 → c ≡ n
      → step_of p (before_name f more left) c ≡ (machine.Section of f (more - 1) left (at.Name kind (n - 1)), event.Nothing)
  begins p f more left n c some long short is =
      let room : more ≡ suc (more - 1) = omega arith in
      let size : n ≡ suc (n - 1) = omega arith in
      ap (λ y. framed f more left (name_length_step kind fresh y)) is
      ∙ (ap (λ y. framed f more left (on_number y (λ s. at.NameLength kind s) (after_length kind) at.Failed)) (u32_one n short)
      ∙ (ap (λ y. framed f more left (after_length kind y)) size
      ∙ ap (λ y. framed f y left (at.Name kind (n - 1), event.Nothing)) room))

  ends : (p : Profile) (f : Counts) (more left c : ℕ) → GoesOn f left → 0 < more → step_of p (last_of_name f more left) c ≡ (behind_name f (more - 1) left, event.EndsName kind)
  ends p f more left c on some =
      let room : more ≡ suc (more - 1) = omega arith in
      ap (λ y. framed f y left (after_name kind, event.EndsName kind)) room ∙ ap (λ (y : Machine). (y, event.EndsName kind)) (on (more - 1))

-- all bytes of a name are those but the last, and the last
whole_text : (bytes : List ℕ) (n : ℕ) → 0 < n → n < length bytes → take (n - 1) (drop 1 bytes) ++ slice_index (drop n bytes) 0 ∷ [] ≡ take n (drop 1 bytes)
whole_text bytes n some inside =
    let rest : List ℕ = drop 1 bytes in
    let less : n - 1 < length rest = omega (arith, length-drop 1 bytes) in
    let here : n + 0 ≡ 1 + (n - 1) = omega arith in
    let all : n - 1 + 1 ≡ n = omega arith in
    let last : slice_index (drop n bytes) 0 ≡ slice_index rest (n - 1) = get_or-drop n bytes 0 0 ∙ (ap (λ i. get_or bytes i 0) here ∙ sym (get_or-drop 1 bytes (n - 1) 0)) in
    ap (λ c. take (n - 1) rest ++ c ∷ []) last ∙ (sym (take_more rest (n - 1) 0 less) ∙ ap (λ i. take i rest) all)

module _ {H : Type 0} (after : H → Item → Result H Why) (p : Profile) (limit : ℕ) (of : SectionKind) (kind : NameKind) (f : Counts) (left : ℕ) (bytes : List ℕ) (more n : ℕ) (name : List ℕ) (h : H) (k : ℕ)
    (first : slice_index bytes 0 ≡ n) (some : 0 < n) (short : n < 2 ^ 7) (inside : n < length bytes) (section : n < more) (fits : k + length bytes ≤ limit) where
  abbrev front : List ℕ
  front = take (n - 1) (drop 1 bytes)

  -- up to its last byte
  up_to_last : decoder_after after p limit (live_so (before_name of kind f more left) name h k) bytes ≡ decoder_after after p limit (live_so (last_of_name of kind f (more - n) left) front h (k + n)) (drop n bytes)
  up_to_last =
      let size : length (drop 1 bytes) ≡ length bytes - 1 = length-drop 1 bytes in
      let place : more - n ≡ more - 1 - (n - 1) = omega arith in
      let none : 0 ≡ n - 1 - (n - 1) = omega arith in
      let far : k + n ≡ k + 1 + (n - 1) = omega arith in
      let all : 1 + (n - 1) ≡ n = omega arith in
      first_step after p limit bytes (before_name of kind f more left) (machine.Section of f (more - 1) left (at.Name kind (n - 1))) event.Nothing name h k (omega arith) (omega arith)
      (begins of kind p f more left n (slice_index bytes 0) (omega arith) some short first)
      ∙ (names after p limit (drop 1 bytes) (machine.Section of f (more - 1) left (at.Name kind (n - 1))) (last_of_name of kind f (more - n) left) (at.Name kind (n - 1)) (at.Name kind 0) of f left (more - 1) (n - 1) (n - 1) kind
      [] front h (k + 1) (k + n) refl refl (ap (λ y. machine.Section of f y left (at.Name kind 0)) place) (ap (at.Name kind) none) refl far (omega arith) (omega arith) (omega arith) (omega arith)
      ∙ ap (λ (y : List ℕ). decoder_after after p limit (live_so (last_of_name of kind f (more - n) left) front h (k + n)) y) (drop-drop (n - 1) 1 bytes ∙ ap (λ i. drop i bytes) all))

  module _ (on : GoesOn of kind f left) where
    some_left : 0 < length (drop n bytes)
    some_left = omega (arith, length-drop n bytes)

    last : step_of p (last_of_name of kind f (more - n) left) (slice_index (drop n bytes) 0) ≡ (behind_name of kind f (more - n - 1) left, event.EndsName kind)
    last = ends of kind p f (more - n) left (slice_index (drop n bytes) 0) on (omega arith)

    -- to its end
    pub name_reached : decoder_after after p limit (live_so (before_name of kind f more left) name h k) bytes
        ≡ and_then (live_from (behind_name of kind f (more - (n + 1)) left) (k + (n + 1)) (and_then (name_taken after kind (take n (drop 1 bytes)) h) (λ g. Ok ([], g)))) (λ l. decoder_after after p limit l (drop (n + 1) bytes))
    name_reached =
        let place : more - n - 1 ≡ more - (n + 1) = omega arith in
        let far : k + n + 1 ≡ k + (n + 1) = omega arith in
        let answer : Result (List ℕ × H) Why = and_then (name_taken after kind (take n (drop 1 bytes)) h) (λ g. Ok ([], g)) in
        up_to_last
        ∙ (first_step after p limit (drop n bytes) (last_of_name of kind f (more - n) left) (behind_name of kind f (more - n - 1) left) (event.EndsName kind) front h (k + n) some_left (omega arith) last
        ∙ (ap (λ (y : List ℕ). and_then (live_from (behind_name of kind f (more - n - 1) left) (k + n + 1) (and_then (name_taken after kind y h) (λ g. Ok ([], g)))) (λ l. decoder_after after p limit l (drop 1 (drop n bytes)))) (whole_text bytes n some inside)
        ∙ (ap (λ y. and_then (live_from (behind_name of kind f y left) (k + n + 1) answer) (λ l. decoder_after after p limit l (drop 1 (drop n bytes)))) place
        ∙ (ap (λ y. and_then (live_from (behind_name of kind f (more - (n + 1)) left) y answer) (λ l. decoder_after after p limit l (drop 1 (drop n bytes)))) far
        ∙ ap (λ (y : List ℕ). and_then (live_from (behind_name of kind f (more - (n + 1)) left) (k + (n + 1)) answer) (λ l. decoder_after after p limit l y)) (drop-drop 1 n bytes)))))
