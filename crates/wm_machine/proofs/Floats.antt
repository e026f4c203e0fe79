-- The name Float is given only for a byte that satisfies `IsFloatByte`.
use Rattle.std.proofs.Common.{◌≡◌, ℕ, zero, suc, ◌+◌, ◌≤◌, List, [], ◌∷◌, ◌++◌, Option, Some, None, Result, Ok, Err, length, refl, sym, ◌∙◌, ap, subst, inl, inr, arith, append_assoc, nat_eq, nat_lt, get_or}
use Rattle.std.proofs.lemmas.Bool.{cond_both}
use Rattle.std.specs.Str.{is_utf8}
use Rattle.wm_syntax.specs.declared.why.Why.{Why}
use Rattle.wm_syntax.specs.declared.why.Why.TheVariants as why
use Rattle.wm_syntax.specs.declared.profile.Profile.{Profile}
use Rattle.wm_syntax.specs.declared.numbers.Step.{Step}
use Rattle.wm_syntax.specs.declared.numbers.Step.TheVariants.{More, Done, Bad}
use Rattle.wm_syntax.specs.inner.Numbers.{Partial}
use Rattle.wm_syntax.specs.exact.Reading.{unsigned_push}
use Rattle.wm_machine.specs.declared.machine.InCustom.{InCustom}
use Rattle.wm_machine.specs.declared.machine.InCustom.TheVariants as custom
use Rattle.wm_machine.specs.declared.machine.Machine.{Machine}
use Rattle.wm_machine.specs.declared.machine.Machine.TheVariants as machine
use Rattle.wm_machine.specs.declared.machine.Event.{Event}
use Rattle.wm_machine.specs.declared.machine.Event.TheVariants as event
use Rattle.wm_machine.specs.declared.machine.member.InMember.TheVariants as at
use Rattle.wm_machine.specs.declared.refusal.Refusal.{Refusal}
use Rattle.wm_machine.specs.Items.{Item, Zone, items_at}
use Rattle.wm_machine.specs.Sections.{header}
use Rattle.wm_machine.specs.exact.MemberSteps.{on_number}
use Rattle.wm_machine.specs.exact.Steps.{custom_after_length, custom_name_step, header_step, step_of, custom_step}
use Rattle.wm_machine.specs.exact.Runs.{zone_of, byte_read, ByteRead, read_byte, marks}
use Rattle.wm_machine.specs.Sinks.{all_taken}
use Rattle.wm_machine.specs.exact.Live.{IsRefused, Live, effect_of_maybe, live_byte, decoder_after}
use Rattle.wm_machine.specs.Decoding.{IsFloatByte, EndsInFloat, NeverFloat}
use Rattle.wm_machine.proofs.MemberFloats.{component_float}
use Rattle.wm_machine.proofs.AfterTheHeader.{IsLive, IsHeader, step_out}
use Rattle.wm_machine.proofs.MachineAndSink.{given_taken, used_of, reached, live_err, state_of}

module _ (c : ℕ) where
  abbrev Fails : Machine → Type 0
  Fails m = m ≡ machine.Refused why.Float → IsFloatByte c

  refused_by : (w : Why) → (w ≡ why.Float → IsFloatByte c) → Fails (machine.Refused w)
  refused_by w h e = h (cc)

  live_fails : (m : Machine) → IsLive m → Fails m
  live_fails (machine.Refused w) i e = absurd i
  live_fails m i e = cc

  -- custom sections
  abbrev NoFloat : InCustom → Type 0
  NoFloat q = (w : Why) → q ≡ custom.Failed w → w ≡ why.Float → IsFloatByte c

  length_done : (n : ℕ) → NoFloat (custom_after_length n).0
  length_done zero w e f = cc
  length_done (suc n) w e f = cc

  length_fails : (q : Step ℕ × Partial) → NoFloat (on_number q custom.Length custom_after_length custom.Failed).0
  length_fails (More, s) = λ w e f. cc
  length_fails (Done n, s) = length_done n
  length_fails (Bad, s) = λ w e f. cc

  name_fails : (more : ℕ) → NoFloat (custom_name_step more).0
  name_fails zero w e f = cc
  name_fails (suc n) w e f = cc

  custom_fails : (q : InCustom) → NoFloat (custom_step q c).0
  custom_fails (custom.Length r) = length_fails (unsigned_push 32 r c)
  custom_fails (custom.Name more) = name_fails more
  custom_fails custom.Skip = λ w e f. cc
  custom_fails (custom.Failed v) = λ w e f. cc

  header_fails : (n : ℕ) → Fails (header_step n c).0
  header_fails n =
      let P : Machine × Event → Type 0 = λ q. Fails q.0 in
      cond_both (nat_lt n 8) _ _ P
      (λ _. cond_both (nat_eq c (get_or header n 0)) _ _ P
      (λ _. cond_both (nat_lt n 7) _ _ P (λ _ e. cc) (λ _ e. cc))
      (λ _. cond_both (nat_lt n 4) _ _ P (λ _ e. cc) (λ _ e. cc)))
      (λ _ e. cc)

  past : (p : Profile) (m : Machine) → (IsHeader m → ⊥) → (IsRefused m → ⊥) → Fails (step_of p m c).0
  past p m behind live =
      step_out Fails live_fails (λ e. cc) (λ e. cc) (λ e. cc) (λ e. cc) (λ e. cc) (λ e. cc) p m c behind
      (λ w e. absurd (live (subst IsRefused (sym e) tt)))
      (λ q w e. refused_by w (custom_fails q w e))
      (λ q w e. refused_by w (λ f. component_float c p q (e ∙ ap at.Failed f)))

  step_float : (p : Profile) (m : Machine) → (IsRefused m → ⊥) → Fails (step_of p m c).0
  step_float p (machine.Header n) live = header_fails n
  step_float p (machine.Refused w) live = absurd (live tt)
  step_float p (machine.Between last counts) live = past p (machine.Between last counts) (λ i. i) live
  step_float p (machine.CustomSize last counts r) live = past p (machine.CustomSize last counts r) (λ i. i) live
  step_float p (machine.Custom last counts more q) live = past p (machine.Custom last counts more q) (λ i. i) live
  step_float p (machine.Size of counts r) live = past p (machine.Size of counts r) (λ i. i) live
  step_float p (machine.Count of counts more r) live = past p (machine.Count of counts more r) (λ i. i) live
  step_float p (machine.Section of counts more left q) live = past p (machine.Section of counts more left q) (λ i. i) live

bad_utf8 : machine.Refused why.BadUtf8 ≡ machine.Refused why.Float → ⊥
bad_utf8 e = cc

heard_float : (zone : Zone) (name : List ℕ) (c : ℕ) (m : Machine) (e : Event) → (byte_read machine.Refused zone name c (m, e)).at ≡ machine.Refused why.Float → m ≡ machine.Refused why.Float
heard_float zone name c m event.Nothing h = h
heard_float zone name c m (event.Complete q) h = h
heard_float zone name c m event.DataByte h = h
heard_float zone name c m event.InName h = h
heard_float zone name c m (event.EmptyName kind) h = h
heard_float zone name c m (event.EndsName kind) h =
    cond_both (is_utf8 (name ++ c ∷ [])) _ _ (λ (d : ByteRead Machine). d.at ≡ machine.Refused why.Float → m ≡ machine.Refused why.Float)
    (λ _ e. e) (λ _ e. absurd (bad_utf8 e)) h

not_offered : {H : Type 0} (after : H → Item → Result H Why) (h : H) → ((x : Item) → after h x ≡ Err why.Float → ⊥)
    → (x : Option Item) → effect_of_maybe after x h ≡ Err why.Float → ⊥
not_offered after h never None e = cc
not_offered after h never (Some x) e = never x e

module _ {H : Type 0} (after : H → Item → Result H Why) (p : Profile) (limit : ℕ) where
  byte_float : (l : Live H) (c : ℕ) (r : Refusal) → ((x : Item) → after l.held x ≡ Err why.Float → ⊥) → r.why ≡ why.Float → (IsRefused l.machine → ⊥)
      → live_byte after p limit l c ≡ Err r → IsFloatByte c
  byte_float l c r never f live e = elim (live_err after p limit l c r e) [
    | inl t ↦ absurd (let s : why.TooLong ≡ why.Float = sym t ∙ f in cc)
    | inr o ↦ elim o [
      | inl m ↦ step_float c p l.machine live (heard_float (zone_of l.machine) l.name c (step_of p l.machine c).0 (step_of p l.machine c).1 (m ∙ ap machine.Refused f))
      | inr g ↦ absurd (not_offered after l.held never (read_byte p (state_of after p limit l) c).mark.item (g ∙ ap Err f))
    ]
  ]

  at_end : (used : List ℕ) (c : ℕ) → length (used ++ c ∷ []) ≡ length used + 1
  at_end [] c = refl
  at_end (d ∷ used) c = let e : length (used ++ c ∷ []) ≡ length used + 1 = at_end used c in omega arith

  pub ends_in_float : (l : Live H) (b : List ℕ) (r : Refusal) → NeverFloat after l.held → l.at ≡ 0 → (IsRefused l.machine → ⊥) → r.why ≡ why.Float
      → decoder_after after p limit l b ≡ Err r → EndsInFloat b r
  ends_in_float l b r never zero_at live f e =
      let low : l.at ≤ limit = omega (arith, zero_at) in
      let u = used_of after p limit b l r low e in
      let q = reached after p limit u.used l u.before u.taken in
      let said = marks p (state_of after p limit l) u.used in
      let taken : all_taken after l.held (items_at said) ≡ Ok u.before.held = sym (given_taken after said l.held) ∙ q.held in
      record {
        used = u.used;
        byte = u.byte;
        rest = u.rest;
        whole = u.bytes ∙ append_assoc u.used (u.byte ∷ []) u.rest;
        at = omega (arith, u.at, zero_at, at_end u.used u.byte);
        float = byte_float u.before u.byte r (λ x. never (items_at said) u.before.held x taken) f (q.live live) u.refused;
      }
