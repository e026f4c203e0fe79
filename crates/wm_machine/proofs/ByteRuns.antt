-- Runs of bytes with the same effect: those of a custom section, of a name, of data.
use Rattle.std.proofs.Common.{◌≡◌, ℕ, suc, ◌+◌, ◌-◌, ◌<◌, ◌≤◌, List, [], ◌∷◌, ◌++◌, Result, Ok, Err, Some, None, length, refl, sym, ◌∙◌, ap, arith, nat_lt, cond, drop, take, length-take, append-nil, append_assoc, map, slice_index}
use Rattle.std.proofs.lemmas.Bool.{lt-ltb}
use Rattle.std.proofs.lemmas.List.{take-append-drop, drop_more}
use Rattle.wm_syntax.specs.declared.profile.Profile.{Profile}
use Rattle.wm_syntax.specs.declared.why.Why.{Why}
use Rattle.wm_syntax.specs.declared.why.Why.TheVariants as why
use Rattle.wm_machine.specs.declared.machine.Counts.{Counts}
use Rattle.wm_machine.specs.declared.machine.Machine.{Machine}
use Rattle.wm_machine.specs.declared.machine.Machine.TheVariants as machine
use Rattle.wm_machine.specs.declared.machine.InCustom.TheVariants as custom
use Rattle.wm_machine.specs.declared.machine.NameKind.{NameKind}
use Rattle.wm_machine.specs.declared.machine.member.SectionKind.{SectionKind}
use Rattle.wm_machine.specs.declared.machine.member.InMember.{InMember}
use Rattle.wm_machine.specs.declared.machine.member.InMember.TheVariants as at
use Rattle.wm_machine.specs.declared.refusal.Refusal.{Refusal}
use Rattle.wm_machine.specs.Items.{Item, data_byte}
use Rattle.wm_machine.specs.Sinks.{and_then, all_taken}
use Rattle.wm_machine.specs.exact.Live.{IsRefused, Live, live_from, live_byte, live_or_refused, decoder_after, refusal_in_machine}
use Rattle.wm_machine.specs.exact.MemberSteps.{data_or_over}
use Rattle.wm_machine.specs.exact.Steps.{machine_in_member}
use Rattle.wm_machine.proofs.TakenItems.{last_number, split}

-- so many more than a list has
abbrev past : List ℕ → ℕ → ℕ
past [] n = n
past (c ∷ b) n = suc (past b n)

past_all : (b : List ℕ) (n : ℕ) → past b n ≡ length b + n
past_all [] n = omega arith
past_all (c ∷ b) n = let h : past b n ≡ length b + n = past_all b n in omega arith

-- a decoder whose machine refused nothing, and one whose machine did
pub goes_on : {H : Type 0} (m : Machine) (name : List ℕ) (h : H) (k : ℕ) → refusal_in_machine m ≡ None → live_or_refused m name h k ≡ Ok (record { machine = m; name = name; held = h; at = k })
goes_on (machine.Refused w) name h k e = cc
goes_on m name h k e = refl

pub stops : {H : Type 0} (m : Machine) (name : List ℕ) (h : H) (k : ℕ) (w : Why) → refusal_in_machine m ≡ Some w → live_or_refused m name h k ≡ Err (record { at = k; why = w })
stops (machine.Refused v) name h k w e = cc
stops m name h k w e = cc

pub still_live : (m : Machine) → refusal_in_machine m ≡ None → IsRefused m → ⊥
still_live (machine.Refused w) e r = cc
still_live m e r = r

pub is_refused : (m : Machine) (w : Why) → refusal_in_machine m ≡ Some w → m ≡ machine.Refused w
is_refused (machine.Refused v) w e = let same : v ≡ w = cc in ap machine.Refused same
is_refused m w e = cc

module _ {H : Type 0} (after : H → Item → Result H Why) (p : Profile) (limit : ℕ) where
  -- a machine with two counts of bytes to come, which each byte makes less by one, and what a byte makes of a name
  module _ (with : ℕ → ℕ → Machine) (next : List ℕ → ℕ → List ℕ) where
    abbrev pub standing_at : ℕ → ℕ → List ℕ → H → ℕ → Live H
    standing_at more rest name h k = record { machine = with more rest; name = name; held = h; at = k }

    abbrev pub named_by : List ℕ → List ℕ → List ℕ
    named_by name [] = name
    named_by name (c ∷ b) = named_by (next name c) b

    module _ (one : (more rest : ℕ) (name : List ℕ) (h : H) (k c : ℕ) → k < limit → live_byte after p limit (standing_at (suc more) (suc rest) name h k) c ≡ Ok (standing_at more rest (next name c) h (k + 1))) where
      stretch : (more rest : ℕ) (b tail name : List ℕ) (h : H) (k : ℕ) → k + length b ≤ limit
          → decoder_after after p limit (standing_at (past b more) (past b rest) name h k) (b ++ tail) ≡ decoder_after after p limit (standing_at more rest (named_by name b) h (k + length b)) tail
      stretch more rest [] tail name h k room = ap (λ n. decoder_after after p limit (standing_at more rest name h n) tail) (omega arith)
      stretch more rest (c ∷ b) tail name h k room =
          ap (λ y. and_then y (λ l. decoder_after after p limit l (b ++ tail))) (one (past b more) (past b rest) name h k c (omega arith))
          ∙ (stretch more rest b tail (next name c) h (k + 1) (omega arith)
          ∙ ap (λ n. decoder_after after p limit (standing_at more rest (named_by (next name c) b) h n) tail) (omega arith))

      pub stretched : (bytes : List ℕ) (more rest used : ℕ) (name : List ℕ) (h : H) (k : ℕ) → used ≤ length bytes → used ≤ more → used ≤ rest → k + length bytes ≤ limit
          → decoder_after after p limit (standing_at more rest name h k) bytes ≡ decoder_after after p limit (standing_at (more - used) (rest - used) (named_by name (take used bytes)) h (k + used)) (drop used bytes)
      stretched bytes more rest used name h k within a b room =
          let front : List ℕ = take used bytes in
          let size : length front ≡ used = omega (arith, length-take used bytes) in
          let x : past front (more - used) ≡ more = past_all front (more - used) ∙ omega arith in
          let y : past front (rest - used) ≡ rest = past_all front (rest - used) ∙ omega arith in
          ap (λ (z : List ℕ). decoder_after after p limit (standing_at more rest name h k) z) (sym (take-append-drop used bytes))
          ∙ (ap (λ z. decoder_after after p limit (standing_at z rest name h k) (front ++ drop used bytes)) (sym x)
          ∙ (ap (λ z. decoder_after after p limit (standing_at (past front (more - used)) z name h k) (front ++ drop used bytes)) (sym y)
          ∙ (stretch (more - used) (rest - used) front (drop used bytes) name h k (omega arith)
          ∙ ap (λ z. decoder_after after p limit (standing_at (more - used) (rest - used) (named_by name front) h z) (drop used bytes)) (ap (λ n. k + n) size))))

  -- a byte within the limit
  within : {r : Result (Live H) Refusal} → (k : ℕ) → k < limit → cond (nat_lt k limit) r (Err (record { at = limit + 1; why = why.TooLong })) ≡ r
  within {r = r} k less = ap (λ y. cond y r (Err (record { at = limit + 1; why = why.TooLong }))) (lt-ltb k limit less)

  -- the contents of a custom section
  abbrev pub skip_with : ℕ → Counts → ℕ → ℕ → Machine
  skip_with last f more rest = machine.Custom last f more custom.Skip

  none_by : (last : ℕ) (f : Counts) (name : List ℕ) (b : List ℕ) → 0 < length b → named_by (skip_with last f) (λ n c. []) name b ≡ []
  none_by last f name [] some = absurd (omega arith)
  none_by last f name (c ∷ []) some = refl
  none_by last f name (c ∷ d ∷ b) some = none_by last f [] (d ∷ b) (omega arith)

  pub skips : (bytes : List ℕ) (last : ℕ) (f : Counts) (more used : ℕ) (name : List ℕ) (h : H) (k : ℕ) → used ≤ length bytes → used ≤ more → 0 < used → k + length bytes ≤ limit
      → decoder_after after p limit (record { machine = machine.Custom last f more custom.Skip; name = name; held = h; at = k }) bytes
      ≡ decoder_after after p limit (record { machine = machine.Custom last f (more - used) custom.Skip; name = []; held = h; at = k + used }) (drop used bytes)
  skips bytes last f more used name h k inside a some room =
      let size : 0 < length (take used bytes) = omega (arith, length-take used bytes) in
      stretched (skip_with last f) (λ n c. []) (λ m r n g j c less. within j less) bytes more more used name h k inside a a room
      ∙ ap (λ (z : List ℕ). decoder_after after p limit (record { machine = machine.Custom last f (more - used) custom.Skip; name = z; held = h; at = k + used }) (drop used bytes)) (none_by last f name (take used bytes) size)

  -- the bytes of a name in a section
  abbrev pub name_with : SectionKind → Counts → ℕ → NameKind → ℕ → ℕ → Machine
  name_with of f left kind more rest = machine.Section of f more left (at.Name kind rest)

  abbrev pub longer : List ℕ → ℕ → List ℕ
  longer name c = name ++ c ∷ []

  name_grows : (of : SectionKind) (f : Counts) (left : ℕ) (kind : NameKind) (name b : List ℕ) → named_by (name_with of f left kind) longer name b ≡ name ++ b
  name_grows of f left kind name [] = sym (append-nil name)
  name_grows of f left kind name (c ∷ b) = name_grows of f left kind (name ++ c ∷ []) b ∙ append_assoc name (c ∷ []) b

  pub names : (bytes : List ℕ) (m n : Machine) (q r : InMember) (of : SectionKind) (f : Counts) (left more rest used : ℕ) (kind : NameKind) (name left_name : List ℕ) (h : H) (k l : ℕ)
      → m ≡ machine.Section of f more left q → q ≡ at.Name kind rest → n ≡ machine.Section of f (more - used) left r → r ≡ at.Name kind (rest - used)
      → left_name ≡ name ++ take used bytes → l ≡ k + used → used ≤ length bytes → used ≤ more → used ≤ rest → k + length bytes ≤ limit
      → decoder_after after p limit (record { machine = m; name = name; held = h; at = k }) bytes
      ≡ decoder_after after p limit (record { machine = n; name = left_name; held = h; at = l }) (drop used bytes)
  names bytes m n q r of f left more rest used kind name left_name h k l em eq en er el ek inside a b room =
      let mm : m ≡ name_with of f left kind more rest = em ∙ ap (machine.Section of f more left) eq in
      let nn : n ≡ name_with of f left kind (more - used) (rest - used) = en ∙ ap (machine.Section of f (more - used) left) er in
      ap (λ y. decoder_after after p limit (record { machine = y; name = name; held = h; at = k }) bytes) mm
      ∙ (stretched (name_with of f left kind) longer (λ x y g j i c less. within i less) bytes more rest used name h k inside a b room
      ∙ (ap (λ (y : List ℕ). decoder_after after p limit (record { machine = name_with of f left kind (more - used) (rest - used); name = y; held = h; at = k + used }) (drop used bytes)) (name_grows of f left kind name (take used bytes) ∙ sym el)
      ∙ (ap (λ y. decoder_after after p limit (record { machine = y; name = left_name; held = h; at = k + used }) (drop used bytes)) (sym nn)
      ∙ ap (λ y. decoder_after after p limit (record { machine = n; name = left_name; held = h; at = y }) (drop used bytes)) (sym ek))))

  -- data
  abbrev pub in_data : SectionKind → Counts → ℕ → ℕ → ℕ → List ℕ → H → ℕ → Live H
  in_data of f left more rest name h k = record { machine = machine.Section of f more left (at.Data rest); name = name; held = h; at = k }

  one_data : (of : SectionKind) (f : Counts) (left more rest : ℕ) (name : List ℕ) (h g : H) (k c : ℕ) → k < limit → after h (data_byte c) ≡ Ok g
      → live_byte after p limit (in_data of f left (suc more) (suc rest) name h k) c ≡ Ok (in_data of f left more rest [] g (k + 1))
  one_data of f left more rest name h g k c less given =
      within k less ∙ ap (λ y. live_from (machine.Section of f more left (at.Data rest)) (k + 1) (and_then y (λ g. Ok ([], g)))) given

  data_steps : (of : SectionKind) (f : Counts) (left more rest : ℕ) (b tail name : List ℕ) (h g : H) (k : ℕ) → all_taken after h (map data_byte b) ≡ Ok g → k + length b ≤ limit
      → (left_name : List ℕ) × (0 < length b → left_name ≡ []) × (name ≡ [] → left_name ≡ [])
      × (decoder_after after p limit (in_data of f left (past b more) (past b rest) name h k) (b ++ tail) ≡ decoder_after after p limit (in_data of f left more rest left_name g (k + length b)) tail)
  data_steps of f left more rest [] tail name h g k taken room =
      let same : h ≡ g = cc in
      (name, λ z. absurd (omega arith), λ z. z, ap (λ y. decoder_after after p limit (in_data of f left more rest name y k) tail) same ∙ ap (λ n. decoder_after after p limit (in_data of f left more rest name g n) tail) (omega arith))
  data_steps of f left more rest (c ∷ b) tail name h g k taken room =
      let less : k < limit = omega arith in
      let s = split (after h (data_byte c)) (λ x. all_taken after x (map data_byte b)) g taken in
      let r = data_steps of f left more rest b tail [] s.0 g (k + 1) s.2 (omega arith) in (
        [],
        λ z. refl,
        λ z. refl,
        ap (λ y. and_then y (λ l. decoder_after after p limit l (b ++ tail))) (one_data of f left (past b more) (past b rest) name h s.0 k c less s.1)
            ∙ (r.3 ∙ (ap (λ (y : List ℕ). decoder_after after p limit (in_data of f left more rest y g (k + 1 + length b)) tail) (r.2 refl)
            ∙ ap (λ n. decoder_after after p limit (in_data of f left more rest [] g n) tail) (omega arith))),
      )

  -- what the sink was given of the data, at once
  pub data_decoded : (bytes : List ℕ) (of : SectionKind) (f : Counts) (left more rest used : ℕ) (name : List ℕ) (h g : H) (k : ℕ)
      → used ≤ length bytes → used ≤ more → used ≤ rest → 0 < used → k + length bytes ≤ limit
      → all_taken after h (map data_byte (take used bytes)) ≡ Ok g
      → decoder_after after p limit (in_data of f left more rest name h k) bytes
      ≡ decoder_after after p limit (in_data of f left (more - used) (rest - used) [] g (k + used)) (drop used bytes)
  data_decoded bytes of f left more rest used name h g k inside a b some room taken =
      let front : List ℕ = take used bytes in
      let size : length front ≡ used = omega (arith, length-take used bytes) in
      let x : past front (more - used) ≡ more = past_all front (more - used) ∙ omega arith in
      let y : past front (rest - used) ≡ rest = past_all front (rest - used) ∙ omega arith in
      let s = data_steps of f left (more - used) (rest - used) front (drop used bytes) name h g k taken (omega arith) in
      ap (λ (z : List ℕ). decoder_after after p limit (in_data of f left more rest name h k) z) (sym (take-append-drop used bytes))
      ∙ (ap (λ z. decoder_after after p limit (in_data of f left z rest name h k) (front ++ drop used bytes)) (sym x)
      ∙ (ap (λ z. decoder_after after p limit (in_data of f left (past front (more - used)) z name h k) (front ++ drop used bytes)) (sym y)
      ∙ (s.3
      ∙ (ap (λ (z : List ℕ). decoder_after after p limit (in_data of f left (more - used) (rest - used) z g (k + length front)) (drop used bytes)) (s.1 (omega arith))
      ∙ ap (λ z. decoder_after after p limit (in_data of f left (more - used) (rest - used) [] g (k + z)) (drop used bytes)) size))))

  -- the last of them, after which the machine goes on or refuses
  end_data : (of : SectionKind) (f : Counts) (left more rest : ℕ) (name : List ℕ) (h g : H) (k c : ℕ) → k < limit → after h (data_byte c) ≡ Ok g
      → live_byte after p limit (in_data of f left more rest name h k) c ≡ live_or_refused (machine_in_member of f more left (data_or_over rest)) [] g (k + 1)
  end_data of f left more rest name h g k c less given =
      within k less ∙ ap (λ y. live_from (machine_in_member of f more left (data_or_over rest)) (k + 1) (and_then y (λ g. Ok ([], g)))) given

  pub data_ended : (bytes : List ℕ) (of : SectionKind) (f : Counts) (left more rest used : ℕ) (name : List ℕ) (h g : H) (k l : ℕ)
      → l ≡ k + (used + 1) → used < length bytes → used ≤ more → used ≤ rest → k + length bytes ≤ limit
      → all_taken after h (map data_byte (take (used + 1) bytes)) ≡ Ok g
      → decoder_after after p limit (in_data of f left more rest name h k) bytes
      ≡ and_then (live_or_refused (machine_in_member of f (more - used) left (data_or_over (rest - used))) [] g l) (λ x. decoder_after after p limit x (drop (used + 1) bytes))
  data_ended bytes of f left more rest used name h g k l ek inside a b room taken =
      let front : List ℕ = take used bytes in
      let c = slice_index bytes used in
      let after_it : List ℕ = drop (used + 1) bytes in
      let size : length front ≡ used = omega (arith, length-take used bytes) in
      let x : past front (more - used) ≡ more = past_all front (more - used) ∙ omega arith in
      let y : past front (rest - used) ≡ rest = past_all front (rest - used) ∙ omega arith in
      let t = last_number after data_byte h g bytes used inside taken in
      let s = data_steps of f left (more - used) (rest - used) front (drop used bytes) name h t.0 k t.1 (omega arith) in
      let less : k + length front < limit = omega arith in
      let last : k + length front + 1 ≡ l = omega arith in
      ap (λ (z : List ℕ). decoder_after after p limit (in_data of f left more rest name h k) z) (sym (take-append-drop used bytes))
      ∙ (ap (λ z. decoder_after after p limit (in_data of f left z rest name h k) (front ++ drop used bytes)) (sym x)
      ∙ (ap (λ z. decoder_after after p limit (in_data of f left (past front (more - used)) z name h k) (front ++ drop used bytes)) (sym y)
      ∙ (s.3
      ∙ (ap (λ (z : List ℕ). decoder_after after p limit (in_data of f left (more - used) (rest - used) s.0 t.0 (k + length front)) z) (drop_more bytes used 0 inside)
      ∙ (ap (λ z. and_then z (λ j. decoder_after after p limit j after_it)) (end_data of f left (more - used) (rest - used) s.0 t.0 g (k + length front) c less t.2)
      ∙ ap (λ z. and_then (live_or_refused (machine_in_member of f (more - used) left (data_or_over (rest - used))) [] g z) (λ j. decoder_after after p limit j after_it)) last)))))
