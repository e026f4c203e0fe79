-- A piece that exceeds the limit.
use Rattle.std.proofs.Common.{◌≡◌, ℕ, ◌+◌, ◌<◌, ◌≤◌, List, [], ◌∷◌, ◌++◌, Result, Ok, Err, refl, ◌∙◌, ap, nat_lt, IsOk, arith}
use Rattle.std.proofs.lemmas.Bool.{cond_both, ltb-true}
use Rattle.wm_syntax.specs.declared.profile.Profile.{Profile}
use Rattle.wm_syntax.specs.declared.why.Why.{Why}
use Rattle.wm_syntax.specs.declared.why.Why.TheVariants as why
use Rattle.wm_machine.specs.declared.refusal.Refusal.{Refusal}
use Rattle.wm_machine.specs.Items.{Item}
use Rattle.wm_machine.specs.Sinks.{and_then}
use Rattle.wm_machine.specs.exact.Steps.{step_of}
use Rattle.wm_machine.specs.declared.machine.Machine.{Machine}
use Rattle.wm_machine.specs.declared.machine.Machine.TheVariants as machine
use Rattle.wm_machine.specs.exact.Live.{event_effect, live_from, live_or_refused, Live, live_byte, decoder_after}
use Rattle.wm_machine.proofs.MachineAndSink.{decoded_append}

module _ {H : Type 0} (after : H → Item → Result H Why) (p : Profile) (limit : ℕ) where
  past : (m : Live H) (c : ℕ) → limit ≤ m.at → live_byte after p limit m c ≡ Err (record { at = limit + 1; why = why.TooLong })
  past m c h = cond_both (nat_lt m.at limit) (live_from (step_of p m.machine c).0 (m.at + 1) (event_effect after (step_of p m.machine c).1 m.name c m.held)) (Err (record { at = limit + 1; why = why.TooLong })) (λ (r : Result (Live H) Refusal). r ≡ Err (record { at = limit + 1; why = why.TooLong }))
      (λ a. absurd (let l : m.at < limit = ltb-true _ _ a in omega arith)) (λ _. refl)

  rest_long : (m : Live H) (rest : List ℕ) → limit ≤ m.at → (rest ≡ [] → ⊥) → decoder_after after p limit m rest ≡ Err (record { at = limit + 1; why = why.TooLong })
  rest_long m [] h some = absurd (some refl)
  rest_long m (c ∷ rest) h some = ap (λ y. and_then y (λ n. decoder_after after p limit n rest)) (past m c h)

  pub too_long : (l m : Live H) (cut rest whole : List ℕ) → whole ≡ cut ++ rest → (rest ≡ [] → ⊥) → decoder_after after p limit l cut ≡ Ok m → limit ≤ m.at
      → decoder_after after p limit l whole ≡ Err (record { at = limit + 1; why = why.TooLong })
  too_long l m cut rest whole e some d h =
      ap (decoder_after after p limit l) e ∙ (decoded_append after p limit cut rest l ∙ (ap (λ y. and_then y (λ n. decoder_after after p limit n rest)) d ∙ rest_long m rest h some))

  -- a refusal within the cut is one of the whole
  pub refused_cut : (l : Live H) (cut rest whole : List ℕ) (r : Refusal) → whole ≡ cut ++ rest → decoder_after after p limit l cut ≡ Err r → decoder_after after p limit l whole ≡ Err r
  refused_cut l cut rest whole r e d =
      ap (decoder_after after p limit l) e ∙ (decoded_append after p limit cut rest l ∙ ap (λ y. and_then y (λ n. decoder_after after p limit n rest)) d)

  settled_at : (q : Machine) (name : List ℕ) (h : H) (at : ℕ) → IsOk (live_or_refused q name h at) → live_or_refused q name h at ≡ Ok (record { machine = q; name = name; held = h; at = at })
  settled_at (machine.Refused w) name h at i = cc
  settled_at q name h at i = refl

  pub long_fed : (l : Live H) (cut rest whole : List ℕ) (q : Machine) (name : List ℕ) (h : H) (at : ℕ) → whole ≡ cut ++ rest → (rest ≡ [] → ⊥) → decoder_after after p limit l cut ≡ live_or_refused q name h at → IsOk (live_or_refused q name h at) → limit ≤ at
      → decoder_after after p limit l whole ≡ Err (record { at = limit + 1; why = why.TooLong })
  long_fed l cut rest whole q name h at e some d i far = too_long l (record { machine = q; name = name; held = h; at = at }) cut rest whole e some (d ∙ settled_at q name h at i) far
