-- A machine that has refused nothing never refuses with `Memory`: only the sink does, or the bytes of a name.
use Rattle.std.proofs.Common.{◌≡◌, ℕ, zero, suc, inl, inr, List, [], Option, Some, None, Result, Ok, Err, IfErr, ap, sym, ◌∙◌, subst, nat_eq, nat_lt, get_or}
use Rattle.std.proofs.lemmas.Bool.{cond_both}
use Rattle.wm_syntax.specs.declared.numbers.Step.{Step}
use Rattle.wm_syntax.specs.declared.numbers.Step.TheVariants.{More, Done, Bad}
use Rattle.wm_syntax.specs.inner.Numbers.{Partial}
use Rattle.wm_syntax.specs.exact.Reading.{unsigned_push}
use Rattle.wm_syntax.specs.declared.profile.Profile.{Profile}
use Rattle.wm_syntax.specs.declared.why.Why.{Why}
use Rattle.wm_syntax.specs.declared.why.Why.TheVariants as why
use Rattle.wm_machine.specs.declared.machine.Event.{Event}
use Rattle.wm_machine.specs.declared.machine.InCustom.{InCustom}
use Rattle.wm_machine.specs.declared.machine.InCustom.TheVariants as custom
use Rattle.wm_machine.specs.declared.machine.Machine.{Machine}
use Rattle.wm_machine.specs.declared.machine.Machine.TheVariants as machine
use Rattle.wm_machine.specs.declared.refusal.Refusal.{Refusal}
use Rattle.wm_decode.specs.declared.decoder.state.Decoder.{Decoder}
use Rattle.wm_machine.specs.declared.machine.member.InMember.TheVariants as at
use Rattle.wm_machine.specs.exact.MemberSteps.{on_number}
use Rattle.wm_decode.specs.inner.Decoders.{refusal_of_decoder}
use Rattle.wm_machine.specs.exact.Live.{IsRefused, MayRunOutAtByte, MayTake, live_or_refused}
use Rattle.wm_decode.specs.exact.Standing.{live_with}
use Rattle.wm_machine.specs.Items.{Item}
use Rattle.wm_machine.specs.Sections.{header}
use Rattle.wm_machine.specs.exact.Steps.{custom_after_length, custom_step, header_step, custom_name_step, step_of}
use Rattle.wm_machine.proofs.MemberFloats.{component_memory}
use Rattle.wm_machine.proofs.AfterTheHeader.{IsLive, IsHeader, step_out}

abbrev Never : Machine → Type 0
Never m = m ≡ machine.Refused why.Memory → ⊥

live_never : (m : Machine) → IsLive m → Never m
live_never (machine.Refused w) i e = absurd i
live_never m i e = cc

-- custom sections
abbrev NeverCustom : InCustom → Type 0
NeverCustom q = q ≡ custom.Failed why.Memory → ⊥

length_done : (n : ℕ) → NeverCustom (custom_after_length n).0
length_done zero e = cc
length_done (suc n) e = cc

length_never : (q : Step ℕ × Partial) → NeverCustom (on_number q custom.Length custom_after_length custom.Failed).0
length_never (More, s) = λ e. cc
length_never (Done n, s) = length_done n
length_never (Bad, s) = λ e. cc

name_never : (more : ℕ) → NeverCustom (custom_name_step more).0
name_never zero e = cc
name_never (suc n) e = cc

custom_never : (q : InCustom) (c : ℕ) → NeverCustom (custom_step q c).0
custom_never (custom.Length r) c = length_never (unsigned_push 32 r c)
custom_never (custom.Name more) c = name_never more
custom_never custom.Skip c = λ e. cc
custom_never (custom.Failed v) c = λ e. cc

header_never : (n c : ℕ) → Never (header_step n c).0
header_never n c =
    let P : Machine × Event → Type 0 = λ q. Never q.0 in
    cond_both (nat_lt n 8) _ _ P
    (λ _. cond_both (nat_eq c (get_or header n 0)) _ _ P
    (λ _. cond_both (nat_lt n 7) _ _ P (λ _ e. cc) (λ _ e. cc))
    (λ _. cond_both (nat_lt n 4) _ _ P (λ _ e. cc) (λ _ e. cc)))
    (λ _ e. cc)

refused_by : (w : Why) → (w ≡ why.Memory → ⊥) → Never (machine.Refused w)
refused_by w h e = h (let s : w ≡ why.Memory = cc in s)

past : (p : Profile) (m : Machine) (c : ℕ) → (IsHeader m → ⊥) → (IsRefused m → ⊥) → Never (step_of p m c).0
past p m c behind live =
    step_out Never live_never (λ e. cc) (λ e. cc) (λ e. cc) (λ e. cc) (λ e. cc) (λ e. cc) p m c behind
    (λ w e. absurd (live (subst IsRefused (sym e) tt)))
    (λ q w e. refused_by w (λ f. custom_never q c (e ∙ ap custom.Failed f)))
    (λ q w e. refused_by w (λ f. component_memory c p q (e ∙ ap at.Failed f)))

pub step_never : (p : Profile) (m : Machine) (c : ℕ) → (IsRefused m → ⊥) → Never (step_of p m c).0
step_never p (machine.Header n) c live = header_never n c
step_never p (machine.Refused w) c live = absurd (live tt)
step_never p (machine.Between last counts) c live = past p (machine.Between last counts) c (λ i. i) live
step_never p (machine.CustomSize last counts r) c live = past p (machine.CustomSize last counts r) c (λ i. i) live
step_never p (machine.Custom last counts more q) c live = past p (machine.Custom last counts more q) c (λ i. i) live
step_never p (machine.Size of counts r) c live = past p (machine.Size of counts r) c (λ i. i) live
step_never p (machine.Count of counts more r) c live = past p (machine.Count of counts more r) c (λ i. i) live
step_never p (machine.Section of counts more left q) c live = past p (machine.Section of counts more left q) c (λ i. i) live

unrefused : {H : Type 0} (m : Machine) (name : List ℕ) (h : H) (at : ℕ) → elim (live_or_refused m name h at) as (λ _. Option Refusal) [ Ok l ↦ None | Err r ↦ Some r ] ≡ None → IsRefused m → ⊥
unrefused (machine.Refused w) name h at e i = cc
unrefused m name h at e i = i

-- of a call on such a machine
pub take_room : {S H U : Type 0} (may : H → Item → Type 0) (p : Profile) (held : S → H) (d : Decoder S) (c : ℕ) → refusal_of_decoder held d ≡ None → (result : Result U Refusal)
    → IfErr result (λ r. r.why ≡ why.Memory → MayRunOutAtByte may p (live_with held d []) c) → IfErr result (λ r. r.why ≡ why.Memory → MayTake may p (live_with held d []) c)
take_room may p held d c none (Ok u) h = tt
take_room may p held d c none (Err r) h = λ m. elim (h m) [
  | inl t ↦ t
  | inr e ↦ absurd (step_never p d.machine c (unrefused d.machine d.name.items (held d.sink) d.at none) e)
]
