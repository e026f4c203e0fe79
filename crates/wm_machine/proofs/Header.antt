-- Memory can't run out in the header.
use Rattle.std.proofs.Common.{◌≡◌, ℕ, ◌+◌, ◌<◌, ◌≤◌, List, [], ◌∷◌, ◌++◌, length, refl, inl, inr, ◌⊎◌, arith, nat_eq, nat_lt, get_or, ap, sym, ◌∙◌, subst, Result, Ok, Err, Some, None}
use Rattle.std.proofs.lemmas.Bool.{cond_both, ltb-false}
use Rattle.wm_syntax.specs.declared.why.Why.{Why}
use Rattle.wm_syntax.specs.declared.why.Why.TheVariants as why
use Rattle.wm_syntax.specs.declared.profile.Profile.{Profile}
use Rattle.wm_machine.specs.declared.machine.Machine.{Machine}
use Rattle.wm_machine.specs.declared.machine.Machine.TheVariants as machine
use Rattle.wm_machine.specs.declared.machine.Event.{Event}
use Rattle.wm_machine.specs.declared.machine.Event.TheVariants as event
use Rattle.wm_machine.specs.Sections.{header}
use Rattle.wm_machine.specs.exact.Steps.{header_step, step_of}
use Rattle.std.specs.Str.{is_utf8}
use Rattle.wm_machine.specs.declared.refusal.Refusal.{Refusal}
use Rattle.wm_machine.specs.Items.{Item, Zone}
use Rattle.wm_machine.specs.Sinks.{and_then}
use Rattle.wm_machine.specs.exact.Runs.{zone_of, byte_read, ByteRead, MachineState, read_byte}
use Rattle.wm_machine.specs.exact.Live.{IsAt, refusal_in_machine, effect_of_maybe, Live, live_byte, decoder_after}
use Rattle.wm_machine.proofs.AfterTheHeader.{IsLive, IsHeader, step_out}
use Rattle.wm_machine.proofs.MachineAndSink.{Stepped, Used, used_of, reached, live_ok, live_err, state_of}

header_at : (n c at : ℕ) → n ≡ at → IsAt (header_step n c).0 (at + 1) × ((header_step n c).1 ≡ event.Nothing)
header_at n c at h =
    let P : Machine × Event → Type 0 = λ q. IsAt q.0 (at + 1) × (q.1 ≡ event.Nothing) in
    cond_both (nat_lt n 8) _ _ P
    (λ _. cond_both (nat_eq c (get_or header n 0)) _ _ P
    (λ _. cond_both (nat_lt n 7) _ _ P (λ _. (omega arith, refl)) (λ f. (omega (arith, ltb-false n 7 f), refl)))
    (λ _. cond_both (nat_lt n 4) _ _ P (λ _. ((λ e. absurd (magic e)), refl)) (λ _. ((λ e. absurd (version e)), refl))))
    (λ _. ((λ e. absurd (version e)), refl))
  where
    magic : why.Magic ≡ why.Memory → ⊥
    magic e = cc

    version : why.Version ≡ why.Memory → ⊥
    version e = cc

-- past the header all is late
late_live : (at : ℕ) → 8 ≤ at → (m : Machine) → IsLive m → IsAt m (at + 1)
late_live at h (machine.Header n) i = absurd i
late_live at h (machine.Refused w) i = absurd i
late_live at h (machine.Between last counts) i = omega arith
late_live at h (machine.CustomSize last counts r) i = omega arith
late_live at h (machine.Custom last counts more q) i = omega arith
late_live at h (machine.Size of counts r) i = omega arith
late_live at h (machine.Count of counts more r) i = omega arith
late_live at h (machine.Section of counts more left q) i = omega arith

late_refused : (at : ℕ) → 8 ≤ at → (w : Why) → IsAt (machine.Refused w) (at + 1)
late_refused at h w = λ e. omega arith

late : (p : Profile) (m : Machine) (c at : ℕ) → (IsHeader m → ⊥) → 8 ≤ at → IsAt (step_of p m c).0 (at + 1)
late p m c at past h =
    step_out (λ n. IsAt n (at + 1)) (late_live at h) (late_refused at h why.SectionEnd) (late_refused at h why.BadNumber) (late_refused at h why.SectionId) (late_refused at h why.SectionOrder) (late_refused at h why.CodeCount) (late_refused at h why.DataCount)
    p m c past (λ w e. late_refused at h w) (λ q w e. late_refused at h w) (λ q w e. late_refused at h w)

pub stays : (p : Profile) (m : Machine) (c at : ℕ) → IsAt m at → IsAt (step_of p m c).0 (at + 1)
stays p (machine.Header n) c at h = (header_at n c at h).0
stays p (machine.Refused w) c at h = λ e. let l : 8 < at = h e in omega arith
stays p (machine.Between last counts) c at h = late p (machine.Between last counts) c at (λ i. i) h
stays p (machine.CustomSize last counts r) c at h = late p (machine.CustomSize last counts r) c at (λ i. i) h
stays p (machine.Custom last counts more q) c at h = late p (machine.Custom last counts more q) c at (λ i. i) h
stays p (machine.Size of counts r) c at h = late p (machine.Size of counts r) c at (λ i. i) h
stays p (machine.Count of counts more r) c at h = late p (machine.Count of counts more r) c at (λ i. i) h
stays p (machine.Section of counts more left q) c at h = late p (machine.Section of counts more left q) c at (λ i. i) h

pub quiet_or_late : (p : Profile) (m : Machine) (c at : ℕ) → IsAt m at → ((step_of p m c).1 ≡ event.Nothing) ⊎ (8 ≤ at)
quiet_or_late p (machine.Header n) c at h = inl (header_at n c at h).1
quiet_or_late p (machine.Refused w) c at h = inl refl
quiet_or_late p (machine.Between last counts) c at h = inr h
quiet_or_late p (machine.CustomSize last counts r) c at h = inr h
quiet_or_late p (machine.Custom last counts more q) c at h = inr h
quiet_or_late p (machine.Size of counts r) c at h = inr h
quiet_or_late p (machine.Count of counts more r) c at h = inr h
quiet_or_late p (machine.Section of counts more left q) c at h = inr h

names : (n : Machine) (at : ℕ) (w : Why) → IsAt n at → refusal_in_machine n ≡ Some w → w ≡ why.Memory → 8 < at
names (machine.Refused v) at w h e m = let s : v ≡ w = cc in h (s ∙ m)
names (machine.Header n) at w h e m = absurd (none e)
  where
    none : None ≡ Some w → ⊥
    none e = cc
names n at w h e m = absurd (none e)
  where
    none : None ≡ Some w → ⊥
    none e = cc

-- the same, as the byte step says it
pub memory_late : (p : Profile) (m : Machine) (c at : ℕ) (q : Machine × Event) (w : Why) → q ≡ step_of p m c → IsAt m at → refusal_in_machine q.0 ≡ Some w → w ≡ why.Memory → 8 < at + 1
memory_late p m c at q w e h r f = names q.0 (at + 1) w (subst (λ (x : Machine × Event). IsAt x.0 (at + 1)) (sym e) (stays p m c at h)) r f

pub goes_at : (p : Profile) (m : Machine) (c at next i : ℕ) (x : Machine × Event) (r : Result ℕ Why) → x ≡ step_of p m c → (x.1 ≡ event.Nothing → r ≡ Ok (i + 1)) → r ≡ Ok next → IsAt m at
    → IsAt x.0 (at + 1) × (next < i + 1 → 8 < at + 1)
goes_at p m c at next i x r e q f h = (
  subst (λ (y : Machine × Event). IsAt y.0 (at + 1)) (sym e) (stays p m c at h),
  λ less. elim (quiet_or_late p m c at h) [
    | inr late ↦ omega (arith, late)
    | inl quiet ↦ let s : Ok (i + 1) ≡ Ok next = sym (q (ap (λ (y : Machine × Event). y.1) e ∙ quiet)) ∙ f in let t : i + 1 ≡ next = cc in absurd (omega (arith, t, less))
  ],
)

-- the same over a list of bytes
heard_at : (zone : Zone) (name : List ℕ) (c : ℕ) (m : Machine) (e : Event) (at : ℕ) → IsAt m at → IsAt (byte_read machine.Refused zone name c (m, e)).at at
heard_at zone name c m event.Nothing at h = h
heard_at zone name c m (event.Complete q) at h = h
heard_at zone name c m event.DataByte at h = h
heard_at zone name c m event.InName at h = h
heard_at zone name c m (event.EmptyName kind) at h = h
heard_at zone name c m (event.EndsName kind) at h =
    cond_both (is_utf8 (name ++ c ∷ [])) _ _ (λ (d : ByteRead Machine). IsAt d.at at) (λ _. h) (λ _ e. absurd (bad e))
  where
    bad : why.BadUtf8 ≡ why.Memory → ⊥
    bad e = cc

quiet_heard : {H : Type 0} (after : H → Item → Result H Why) (zone : Zone) (name : List ℕ) (c : ℕ) (q : Machine × Event) (h : H) (w : Why) → q.1 ≡ event.Nothing → effect_of_maybe after (byte_read machine.Refused zone name c q).mark.item h ≡ Err w → ⊥
quiet_heard after zone name c (m, event.Nothing) h w e o = none o
  where
    none : {A : Type 0} {h : A} → Ok h ≡ Err w → ⊥
    none e = cc
quiet_heard after zone name c (m, event.Complete x) h w e o = cc
quiet_heard after zone name c (m, event.DataByte) h w e o = cc
quiet_heard after zone name c (m, event.InName) h w e o = cc
quiet_heard after zone name c (m, event.EndsName kind) h w e o = cc
quiet_heard after zone name c (m, event.EmptyName kind) h w e o = cc

module _ {H : Type 0} (after : H → Item → Result H Why) (p : Profile) (limit : ℕ) where
  one_at : (l m : Live H) (c : ℕ) → Stepped after p limit l c m → IsAt l.machine l.at → IsAt m.machine m.at
  one_at l m c s h =
      let a : IsAt (read_byte p (state_of after p limit l) c).at (l.at + 1) = heard_at (zone_of l.machine) l.name c (step_of p l.machine c).0 (step_of p l.machine c).1 (l.at + 1) (stays p l.machine c l.at h) in
      subst (λ y. IsAt m.machine y) (sym s.at) (subst (λ y. IsAt y (l.at + 1)) (sym (ap (λ (y : MachineState). y.machine) s.state)) a)

  first : (b : List ℕ) (l m : Live H) (c : ℕ) (q : Result (Live H) Refusal) → live_byte after p limit l c ≡ q → and_then q (λ n. decoder_after after p limit n b) ≡ Ok m → (n : Live H) × (live_byte after p limit l c ≡ Ok n) × (decoder_after after p limit n b ≡ Ok m)
  first b l m c (Ok n) s e = (n, s, e)
  first b l m c (Err r) s e = cc

  pub is_at : (b : List ℕ) (l m : Live H) → decoder_after after p limit l b ≡ Ok m → IsAt l.machine l.at → IsAt m.machine m.at
  is_at [] l m e h = let s : l ≡ m = cc in subst (λ (y : Live H). IsAt y.machine y.at) s h
  is_at (c ∷ b) l m e h = let n = first b l m c (live_byte after p limit l c) refl e in is_at b n.0 m n.2 (one_at l n.0 c (live_ok after p limit l n.0 c n.1) h)

  -- memory that a sink says to be out is not out in the header either
  pub late_memory : (b : List ℕ) (l : Live H) (r : Refusal) → l.at ≤ limit → IsAt l.machine l.at → r.why ≡ why.Memory → decoder_after after p limit l b ≡ Err r → 8 < r.at
  late_memory b l r low h f e =
      let u = used_of after p limit b l r low e in
      let before : IsAt u.before.machine u.before.at = is_at u.used l u.before u.taken h in
      let at : r.at ≡ u.before.at + 1 = sym (place u) in
      elim (live_err after p limit u.before u.byte r u.refused) [
        | inl t ↦ absurd (let s : why.TooLong ≡ why.Memory = sym t ∙ f in cc)
        | inr o ↦ elim o [
          | inl m ↦
              let a : IsAt (read_byte p (state_of after p limit u.before) u.byte).at (u.before.at + 1) = heard_at (zone_of u.before.machine) u.before.name u.byte (step_of p u.before.machine u.byte).0 (step_of p u.before.machine u.byte).1 (u.before.at + 1) (stays p u.before.machine u.byte u.before.at before) in
              let late : IsAt (machine.Refused r.why) (u.before.at + 1) = subst (λ y. IsAt y (u.before.at + 1)) m a in
              let more : 8 < u.before.at + 1 = late f in omega (arith, more, at)
          | inr g ↦ elim (quiet_or_late p u.before.machine u.byte u.before.at before) [
            | inl q ↦ absurd (quiet_heard after (zone_of u.before.machine) u.before.name u.byte (step_of p u.before.machine u.byte) u.before.held r.why q g)
            | inr late ↦ omega (arith, late, at)
          ]
        ]
      ]
    where
      place : (u : Used after p limit l b r) → u.before.at + 1 ≡ r.at
      place u = let s = reached after p limit u.used l u.before u.taken in omega (arith, s.at, u.at, at_end u.used u.byte)
        where
          at_end : (used : List ℕ) (c : ℕ) → length (used ++ c ∷ []) ≡ length used + 1
          at_end [] c = refl
          at_end (d ∷ used) c = let e : length (used ++ c ∷ []) ≡ length used + 1 = at_end used c in omega arith
