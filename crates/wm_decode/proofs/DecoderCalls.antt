-- The promises of the decoder's calls, for all bytes that it was fed.
use Rattle.std.proofs.Common.{◌≡◌, ◌≢◌, ℕ, zero, suc, ◌+◌, ◌<◌, ◌≤◌, ◌^◌, List, [], ◌∷◌, ◌++◌, Option, Some, None, Result, Ok, Err, IsOk, IfOk, IfErr, OnOk, MatchResult, length, refl, sym, ◌∙◌, ap, subst, inl, inr, ◌⊎◌, arith, take, get_or, length-append}
use Rattle.wm_syntax.specs.declared.why.Why.{Why}
use Rattle.wm_syntax.specs.declared.why.Why.TheVariants as why
use Rattle.wm_syntax.specs.Spelling.{AreBytes}
use Rattle.wm_machine.specs.declared.refusal.Refusal.{Refusal}
use Rattle.wm_decode.specs.declared.decoder.state.Decoder.{Decoder}
use Rattle.wm_machine.specs.declared.machine.Machine.{Machine}
use Rattle.wm_machine.specs.declared.machine.Machine.TheVariants as machine
use Rattle.wm_machine.specs.Items.{Item, Marks, items_at}
use Rattle.wm_machine.specs.Grammar.{Items}
use Rattle.wm_machine.specs.Sinks.{and_then, all_taken}
use Rattle.wm_machine.specs.exact.Live.{Live, answer_between, IsAt, IsRefused, live_or_refused, decoder_after, live_at_start, Fed, answer_at_end_of, answer_at_end, Finished}
use Rattle.wm_decode.specs.exact.Standing.{state_of}
use Rattle.wm_machine.specs.Decoding.{Setting, Takes, Refused, NeverFloat, EndsInFloat}
use Rattle.wm_decode.specs.SoFar.{held_in}
use Rattle.wm_decode.specs.inner.Decoders.{RanOut, HasDecoded, Having, refusal_of_decoder}
use Rattle.wm_machine.specs.inner.Answers.{answer_of}
use Rattle.wm_machine.proofs.ByteLists.{bytes-append, front_bytes}
use Rattle.wm_machine.proofs.MachineAndSink.{Used, reached, used_of, used_refused, settled_ok, settled_not, decoded_append, takes_of_ended, ended_of_takes, given_taken, marks_taken, so_far, never}
use Rattle.wm_machine.proofs.Fronts.{is_front, name_kept}
use Rattle.wm_machine.proofs.TakenItems.{is_memory}
use Rattle.wm_machine.specs.Fronts.{IsFront}
use Rattle.wm_decode.specs.SoFar.{SoFar}
use Rattle.wm_machine.proofs.OneFront.{one_front}
use Rattle.wm_machine.specs.exact.Runs.{MachineState, state_after, marks, state_at_start}
use Rattle.wm_machine.proofs.Header.{is_at, late_memory}
use Rattle.wm_machine.proofs.Floats.{ends_in_float}

-- why an input is refused at its end
abbrev AtEnd : Why → Type 0
AtEnd w = (w ≡ why.Truncated) ⊎ ((w ≡ why.CodeCount) ⊎ (w ≡ why.DataCount))

not_memory : (w : Why) → AtEnd w → w ≡ why.Memory → ⊥
not_memory w e m = elim e [ inl t ↦ cc | inr o ↦ elim o [ inl c ↦ cc | inr d ↦ cc ] ]

not_float : (w : Why) → AtEnd w → w ≡ why.Float → ⊥
not_float w e m = elim e [ inl t ↦ cc | inr o ↦ elim o [ inl c ↦ cc | inr d ↦ cc ] ]

-- a list of numbers that fit eight bits
pub are_bytes : (b : List ℕ) → ((i : ℕ) → get_or b i 0 < 2 ^ 8) → AreBytes b
are_bytes [] h = tt
are_bytes (c ∷ b) h = (h 0, are_bytes b (λ i. h (suc i)))

module _ {S H : Type 0} (held : S → H) (after : H → Item → Result H Why) (s : Setting H) where
  abbrev Starts : Live H
  Starts = live_at_start s.first

  abbrev Decoded : List ℕ → Result (Live H) Refusal
  Decoded b = decoder_after after s.profile s.limit Starts b

  -- what was read and what comes
  joined : (b piece : List ℕ) (now : Result (Live H) Refusal) → now ≡ Decoded b → and_then now (λ l. decoder_after after s.profile s.limit l piece) ≡ Decoded (b ++ piece)
  joined b piece now e = ap (λ y. and_then y (λ l. decoder_after after s.profile s.limit l piece)) e ∙ sym (decoded_append after s.profile s.limit b piece Starts)

  settled_same : (m : Machine) (name : List ℕ) (h : H) (at : ℕ) (l : Live H) → live_or_refused m name h at ≡ Ok l → (m ≡ l.machine) × (at ≡ l.at)
  settled_same m name h at l e =
      let t = settled_ok after s.profile s.limit m name h at l e in
      (ap (λ (y : Live H). y.machine) t, ap (λ (y : Live H). y.at) t)

  -- where it stands in the input
  placed : (b : List ℕ) (d : Decoder S) (m : Live H) → state_of held d ≡ Ok m → Decoded b ≡ Ok m → IsAt d.machine d.at × (d.at ≡ length b)
  placed b d m e f =
      let t = settled_same d.machine d.name.items (held d.sink) d.at m e in
      let begins : IsAt Starts.machine Starts.at = refl in
      let a : IsAt m.machine m.at = is_at after s.profile s.limit b Starts m f begins in
      let r = reached after s.profile s.limit b Starts m f in
      (subst (λ y. IsAt y d.at) (sym t.0) (subst (λ y. IsAt m.machine y) (sym t.1) a), omega (arith, r.at, t.1))

  module _ (old new : Decoder S) (piece b : List ℕ) where
    -- what a piece was answered, where nothing had been refused
    live_stands : {U : Type 0} (result : Result U Refusal) (m : Live H) → state_of held old ≡ Ok m → Decoded b ≡ Ok m → Fed (and_then (state_of held old) (λ l. decoder_after after s.profile s.limit l piece)) result (state_of held new)
        → IfErr result (λ r. r.at ≤ old.at + length piece) → (IsAt old.machine old.at → IfErr result (λ r. r.why ≡ why.Memory → 8 < r.at))
        → (state_of held new ≡ Decoded (b ++ piece)) ⊎ RanOut (state_of held new) (b ++ piece)
    live_stands (Ok u) m e f fed place memory = inl (sym fed.0 ∙ joined b piece (state_of held old) (e ∙ sym f))
    live_stands (Err r) m e f fed place memory = elim (is_memory r.why) [
      | inr ne ↦ inl (fed.1 ∙ (sym (fed.0 ne) ∙ joined b piece (state_of held old) (e ∙ sym f)))
      | inl y ↦
          let p = placed b old m e f in
          inr (record { refusal = r; stands = fed.1; memory = y; past_header = memory p.0 y; place = omega (arith, place, p.1, length-append b piece) })
    ]

    -- the same, where something had
    stuck_stands : (r : Refusal) → state_of held old ≡ Err r → Decoded b ≡ Err r → new ≡ old → state_of held new ≡ Decoded (b ++ piece)
    stuck_stands r e f same =
        ap (state_of held) same ∙ (e ∙ sym (sym (joined b piece (state_of held old) (e ∙ sym f)) ∙ ap (λ y. and_then y (λ l. decoder_after after s.profile s.limit l piece)) e))

    fed_stands : {U : Type 0} (result : Result U Refusal) (x : Result (Live H) Refusal) → Decoded b ≡ x → state_of held old ≡ x → Fed (and_then (state_of held old) (λ l. decoder_after after s.profile s.limit l piece)) result (state_of held new)
        → ((r : Refusal) → state_of held old ≡ Err r → (result ≡ Err r) × (new ≡ old))
        → IfErr result (λ r. r.at ≤ old.at + length piece) → (IsAt old.machine old.at → IfErr result (λ r. r.why ≡ why.Memory → 8 < r.at))
        → (state_of held new ≡ Decoded (b ++ piece)) ⊎ RanOut (state_of held new) (b ++ piece)
    fed_stands result (Ok m) f e fed sticky place memory = live_stands result m e f fed place memory
    fed_stands result (Err r) f e fed sticky place memory = inl (stuck_stands r e f (sticky r e).1)

    still_out : RanOut (state_of held old) b → new ≡ old → RanOut (state_of held new) (b ++ piece)
    still_out o same = record { refusal = o.refusal; stands = ap (state_of held) same ∙ o.stands; memory = o.memory; past_header = o.past_header; place = omega (arith, o.place, length-append b piece) }

    pub fed_after : {U : Type 0} (result : Result U Refusal) → AreBytes piece → new.max_bytes ≡ old.max_bytes → new.profile ≡ old.profile → Fed (and_then (state_of held old) (λ l. decoder_after after old.profile old.max_bytes l piece)) result (state_of held new)
        → ((r : Refusal) → state_of held old ≡ Err r → (result ≡ Err r) × (new ≡ old))
        → IfErr result (λ r. r.at ≤ old.at + length piece) → (IsAt old.machine old.at → IfErr result (λ r. r.why ≡ why.Memory → 8 < r.at))
        → HasDecoded held after old s b → HasDecoded held after new s (b ++ piece)
    fed_after {U} result bytes limit profile fed sticky place memory a =
        let fed' : Fed (and_then (state_of held old) (λ l. decoder_after after s.profile s.limit l piece)) result (state_of held new) = subst (λ n. Fed (and_then (state_of held old) (λ l. decoder_after after s.profile n l piece)) result (state_of held new)) a.limit (subst (λ q. Fed (and_then (state_of held old) (λ l. decoder_after after q old.max_bytes l piece)) result (state_of held new)) a.profile fed) in
        record {
          profile = profile ∙ a.profile;
          limit = limit ∙ a.limit;
          are_bytes = bytes-append b piece a.are_bytes bytes;
          stands = elim a.stands [
            | inl e ↦ fed_stands result (Decoded b) refl e fed' sticky place memory
            | inr o ↦ inr (still_out o (sticky o.refusal o.stands).1)
          ];
        }

  ok_not_out : (now : Result (Live H) Refusal) (b : List ℕ) → IsOk now → RanOut now b → ⊥
  ok_not_out (Ok l) b i o = let e : Ok l ≡ Err o.refusal = o.stands in cc
  ok_not_out (Err r) b i o = cc

  settled_held : (m : Machine) (name : List ℕ) (h : H) (at : ℕ) (l : Live H) → live_or_refused m name h at ≡ Ok l → h ≡ l.held
  settled_held m name h at l e = ap (λ (y : Live H). y.held) (settled_ok after s.profile s.limit m name h at l e)

  -- what a decoder that stands has come to
  pub live_after : (d : Decoder S) (b : List ℕ) → IsOk (state_of held d) → HasDecoded held after d s b → (m : Live H) × (Decoded b ≡ Ok m) × (state_of held d ≡ Ok m)
  live_after d b i a = elim a.stands [ inl e ↦ by_case (Decoded b) refl e | inr o ↦ absurd (ok_not_out (state_of held d) b i o) ]
    where
      by_case : (x : Result (Live H) Refusal) → Decoded b ≡ x → state_of held d ≡ Decoded b → (m : Live H) × (Decoded b ≡ Ok m) × (state_of held d ≡ Ok m)
      by_case (Ok m) f e = (m, f, e ∙ f)
      by_case (Err r) f e = absurd (let j : IsOk {T = Live H} (Err r) = subst IsOk (e ∙ f) i in cc)

  pub after_taken : (d : Decoder S) (b more : List ℕ) (k : Marks) → IsOk (state_of held d) → HasDecoded held after d s b → Items s.profile (b ++ more) k → all_taken after s.first (items_at (take (length b) k)) ≡ Ok (held_in held d)
  after_taken d b more k i a items =
      let l = live_after d b i a in
      so_far after s b more k l.0 a.are_bytes l.1 items ∙ ap Ok (sym (settled_held d.machine d.name.items (held d.sink) d.at l.0 l.2))

  pub after_so_far : (d : Decoder S) (b : List ℕ) → IsOk (state_of held d) → HasDecoded held after d s b → SoFar held after d s b
  after_so_far d b i a =
      let l = live_after d b i a in
      let r = reached after s.profile s.limit b Starts l.0 l.1 in
      let same = settled_ok after s.profile s.limit d.machine d.name.items (held d.sink) d.at l.0 l.2 in
      let machine : l.0.machine ≡ (state_after s.profile state_at_start b).machine = ap (λ (y : MachineState). y.machine) r.state in
      let name : d.name.items ≡ (state_after s.profile state_at_start b).name = ap (λ (y : Live H). y.name) same ∙ ap (λ (y : MachineState). y.name) r.state in
      let front : IsFront s.profile b (marks s.profile state_at_start b) = is_front s.profile b a.are_bytes (subst (λ y. IsRefused y → ⊥) machine (r.live (λ i. i))) in
      record {
        tells = record {
          marks = marks s.profile state_at_start b;
          front = front;
          alone = λ other h. one_front s.profile b other (marks s.profile state_at_start b) h front;
          begins = λ more items k. marks_taken after s b more items a.are_bytes k;
          taken = sym (given_taken after (marks s.profile state_at_start b) s.first) ∙ (r.held ∙ ap Ok (sym (ap (λ (y : Live H). y.held) same)));
        };
        name = ap length name ∙ name_kept s.profile b;
      }

  -- what a decoder that has refused has come to
  pub refused_after : (d : Decoder S) (b : List ℕ) (r : Refusal) → state_of held d ≡ Err r → r.why ≢ why.Memory → HasDecoded held after d s b → Decoded b ≡ Err r
  refused_after d b r e ne a = elim a.stands [
    | inl f ↦ sym f ∙ e
    | inr o ↦ absurd (ne (let t : Err o.refusal ≡ Err r = sym o.stands ∙ e in let u : o.refusal ≡ r = cc in sym (ap (λ (y : Refusal). y.why) u) ∙ o.memory))
  ]

  used_part : (b : List ℕ) (r : Refusal) → Decoded b ≡ Err r → Used after s.profile s.limit Starts b r
  used_part b r e = let low : 0 ≤ s.limit = omega arith in used_of after s.profile s.limit b Starts r low e

  pub after_refused : (d : Decoder S) (b : List ℕ) (r : Refusal) → state_of held d ≡ Err r → r.why ≢ why.Memory → HasDecoded held after d s b → Refused after s b r
  after_refused d b r e ne a =
      let u = used_part b r (refused_after d b r e ne a) in
      let used : List ℕ = u.used ++ u.byte ∷ [] in
      record {
        used = used;
        rest = u.rest;
        whole = u.bytes;
        at = u.at ∙ plain (length used);
        never = λ more last. never after s used more last r (front_bytes used u.rest (subst AreBytes u.bytes a.are_bytes)) (used_refused after s.profile s.limit Starts b r u);
      }
    where
      plain : (n : ℕ) → 0 + n ≡ n
      plain n = omega arith

  pub after_answer : (d : Decoder S) (b more : List ℕ) (r : Refusal) → state_of held d ≡ Err r → r.why ≢ why.Memory → HasDecoded held after d s b → answer_of after s (b ++ more) ≡ Err r
  after_answer d b more r e ne a =
      ap (λ y. and_then y answer_at_end) (decoded_append after s.profile s.limit b more Starts ∙ ap (λ y. and_then y (λ m. decoder_after after s.profile s.limit m more)) (refused_after d b r e ne a))

  pub after_place : (d : Decoder S) (b : List ℕ) (r : Refusal) → state_of held d ≡ Err r → HasDecoded held after d s b → r.at ≤ length b
  after_place d b r e a = elim a.stands [
    | inl f ↦
        let u = used_part b r (sym f ∙ e) in
        let l : length b ≡ length (u.used ++ u.byte ∷ []) + length u.rest = ap length u.bytes ∙ length-append (u.used ++ u.byte ∷ []) u.rest in
        omega (arith, u.at, l)
    | inr o ↦ let t : Err o.refusal ≡ Err r = sym o.stands ∙ e in let u : o.refusal ≡ r = cc in let v : o.refusal.at ≡ r.at = ap (λ (y : Refusal). y.at) u in omega (arith, o.place, v)
  ]

  -- memory does not run out in the header
  pub after_header : (d : Decoder S) (b : List ℕ) (r : Refusal) → state_of held d ≡ Err r → HasDecoded held after d s b → length b ≤ 8 → r.why ≢ why.Memory
  after_header d b r e a few memory =
      let place : r.at ≤ length b = after_place d b r e a in
      elim a.stands [
        | inl f ↦
            let low : 0 ≤ s.limit = omega arith in
            let late : 8 < r.at = late_memory after s.profile s.limit b Starts r low refl memory (sym f ∙ e) in
            omega (arith, place, late, few)
        | inr o ↦ let t : Err o.refusal ≡ Err r = sym o.stands ∙ e in let u : o.refusal ≡ r = cc in let v : o.refusal.at ≡ r.at = ap (λ (y : Refusal). y.at) u in omega (arith, o.past_header, v, place, few)
      ]

  pub after_float : (d : Decoder S) (b : List ℕ) (r : Refusal) → state_of held d ≡ Err r → r.why ≡ why.Float → NeverFloat after s.first → HasDecoded held after d s b → EndsInFloat b r
  after_float d b r e float none a =
      ends_in_float after s.profile s.limit Starts b r none refl (λ i. i) float (refused_after d b r e (λ m. not_both (sym float ∙ m)) a)
    where
      not_both : why.Float ≡ why.Memory → ⊥
      not_both e = cc

  -- at the input's end
  module _ (d : Decoder S) (b : List ℕ) where
    ended_stuck : (now : Result (Live H) Refusal) (h : H) (r : Refusal) → now ≡ Err r → and_then now answer_at_end ≡ Ok h → ⊥
    ended_stuck (Ok l) h r f e = cc
    ended_stuck (Err t) h r f e = cc

    pub finish_takes : (h : H) → and_then (state_of held d) answer_at_end ≡ Ok h → HasDecoded held after d s b → Takes after s b h
    finish_takes h e a = elim a.stands [
      | inl q ↦ takes_of_ended after s h b a.are_bytes (sym (ap (λ y. and_then y answer_at_end) q) ∙ e)
      | inr o ↦ absurd (ended_stuck (state_of held d) h o.refusal o.stands e)
    ]

    out_why : (now : Result (Live H) Refusal) (o : RanOut now b) (r : Refusal) → and_then now answer_at_end ≡ Err r → o.refusal ≡ r
    out_why now o r e = let t : Err o.refusal ≡ Err r = sym (ap (λ y. and_then {B = H} y answer_at_end) o.stands) ∙ e in cc

    pub finish_answer : (r : Refusal) → and_then (state_of held d) answer_at_end ≡ Err r → r.why ≢ why.Memory → HasDecoded held after d s b → answer_of after s b ≡ Err r
    finish_answer r e ne a = elim a.stands [
      | inl q ↦ sym (ap (λ y. and_then y answer_at_end) q) ∙ e
      | inr o ↦ absurd (ne (sym (ap (λ (y : Refusal). y.why) (out_why (state_of held d) o r e)) ∙ o.memory))
    ]

    pub finish_never : (r : Refusal) → and_then (state_of held d) answer_at_end ≡ Err r → r.why ≢ why.Memory → HasDecoded held after d s b → (last : H) → Takes after s b last → ⊥
    finish_never r e ne a last t = differ (sym (finish_answer r e ne a) ∙ ended_of_takes after s last b a.are_bytes t)
      where
        differ : Err r ≡ Ok last → ⊥
        differ e = cc

    -- a decoder that ends in a refusal has refused already, or stands at the end of what it was fed
    ended_why : (m : Machine) (h : H) (at : ℕ) (r : Refusal) → (IsRefused m → ⊥) → answer_at_end_of m h at ≡ Err r → (at ≡ r.at) × AtEnd r.why
    ended_why (machine.Between last counts) h at r i e = between counts.functions counts.segments e
      where
        named : (w : Why) → record { at = at; why = w } ≡ r → (at ≡ r.at) × (r.why ≡ w)
        named w s = (ap (λ (y : Refusal). y.at) s, sym (ap (λ (y : Refusal). y.why) s))

        between : (n : ℕ) (g : Option ℕ) → answer_between n g h at ≡ Err r → (at ≡ r.at) × AtEnd r.why
        between (suc n) g e = let i = named why.CodeCount (cc (e)) in (i.0, inr (inl i.1))
        between zero None e = absurd (cc)
        between zero (Some zero) e = absurd (cc)
        between zero (Some (suc m)) e = let i = named why.DataCount (cc (e)) in (i.0, inr (inr i.1))
    ended_why (machine.Refused w) h at r i e = absurd (i tt)
    ended_why m h at r i e = let s : record { at = at; why = why.Truncated } ≡ r = cc in (ap (λ (y : Refusal). y.at) s, inl (sym (ap (λ (y : Refusal). y.why) s)))

    live_machine : (m : Live H) → state_of held d ≡ Ok m → IsRefused m.machine → ⊥
    live_machine m e i = settled_not after s.profile s.limit d.machine d.name.items (held d.sink) d.at m e (subst IsRefused (sym (settled_same d.machine d.name.items (held d.sink) d.at m e).0) i)

    pub finish_stuck : (r : Refusal) → and_then (state_of held d) answer_at_end ≡ Err r → (AtEnd r.why → ⊥) → state_of held d ≡ Err r
    finish_stuck r e other = by_case (state_of held d) refl e
      where
        by_case : (x : Result (Live H) Refusal) → state_of held d ≡ x → and_then x answer_at_end ≡ Err r → state_of held d ≡ Err r
        by_case (Err t) f g = f ∙ (let u : t ≡ r = cc in ap Err u)
        by_case (Ok m) f g = absurd (other (ended_why m.machine m.held m.at r (live_machine m f) g).1)

    pub finish_place : (r : Refusal) → and_then (state_of held d) answer_at_end ≡ Err r → HasDecoded held after d s b → (r.at ≤ length b) × (length b ≤ 8 → r.why ≢ why.Memory)
    finish_place r e a = by_case (state_of held d) refl e
      where
        by_case : (x : Result (Live H) Refusal) → state_of held d ≡ x → and_then x answer_at_end ≡ Err r → (r.at ≤ length b) × (length b ≤ 8 → r.why ≢ why.Memory)
        by_case (Err t) f g = let u : t ≡ r = cc in let h : state_of held d ≡ Err r = f ∙ ap Err u in (after_place d b r h a, λ few. after_header d b r h a few)
        by_case (Ok m) f g =
            let l = live_after d b (subst (λ (y : Result (Live H) Refusal). IsOk y) (sym f) refl) a in
            let same : l.0.at ≡ m.at = (let t : Ok l.0 ≡ Ok m = sym l.2 ∙ f in let u : l.0 ≡ m = cc in ap (λ (y : Live H). y.at) u) in
            let q = reached after s.profile s.limit b Starts l.0 l.1 in
            let p = ended_why m.machine m.held m.at r (live_machine m f) g in
            (omega (arith, p.0, q.at, same), λ few e. not_memory r.why p.1 e)

-- a refusal that was answered
pub stands_refused : {A : Type 0} (now : Result A Refusal) (r : Refusal) → elim now as (λ _. Option Refusal) [ Ok l ↦ None | Err t ↦ Some t ] ≡ Some r → now ≡ Err r
stands_refused (Ok l) r e = cc
stands_refused (Err t) r e = let s : t ≡ r = cc in ap Err s

pub refused_stands : {A : Type 0} (now : Result A Refusal) (r : Refusal) → now ≡ Err r → elim now as (λ _. Option Refusal) [ Ok l ↦ None | Err t ↦ Some t ] ≡ Some r
refused_stands now r e = ap (λ y. elim y as (λ _. Option Refusal) [ Ok l ↦ None | Err t ↦ Some t ]) e

none_refused : {A : Type 0} (now : Result A Refusal) → IsOk now → elim now as (λ _. Option Refusal) [ Ok l ↦ None | Err t ↦ Some t ] ≡ None
none_refused (Ok l) i = refl
none_refused (Err t) i = cc

-- the bytes so far of a decoder are those before and those of a piece
abbrev pub GoesOn : {S H : Type 0} → (S → H) → (H → Item → Result H Why) → Decoder S → Decoder S → List ℕ → Type 0
GoesOn held after old new piece = Having held after old (λ s b. HasDecoded held after new s (b ++ piece))

-- the clauses, whatever the result
module _ {S H : Type 0} (held : S → H) (after : H → Item → Result H Why) {U : Type 0} (old new : Decoder S) (piece : List ℕ) where
  pub on_taken : (result : Result U Refusal) (expected : Result (Live H) Refusal) → Fed expected result (state_of held new) → GoesOn held after old new piece
      → OnOk result (Having held after old (λ s b. (more : List ℕ) (k : Marks) → Items s.profile ((b ++ piece) ++ more) k → all_taken after s.first (items_at (take (length (b ++ piece)) k)) ≡ Ok (held_in held new)))
  on_taken (Ok u) expected f go = λ s b a more k items. after_taken held after s new (b ++ piece) more k f.1 (go s b a) items
  on_taken (Err r) expected f go = tt

  pub on_so_far : (result : Result U Refusal) (expected : Result (Live H) Refusal) → Fed expected result (state_of held new) → GoesOn held after old new piece → OnOk result (Having held after old (λ s b. SoFar held after new s (b ++ piece)))
  on_so_far (Ok u) expected f go = λ s b a. after_so_far held after s new (b ++ piece) f.1 (go s b a)
  on_so_far (Err r) expected f go = tt

  pub on_refused : (result : Result U Refusal) (expected : Result (Live H) Refusal) → Fed expected result (state_of held new) → GoesOn held after old new piece → IfErr result (λ r. r.why ≢ why.Memory → Having held after old (λ s b. Refused after s (b ++ piece) r))
  on_refused (Ok u) expected f go = tt
  on_refused (Err r) expected f go = λ ne s b a. after_refused held after s new (b ++ piece) r f.1 ne (go s b a)

  pub on_same : (result : Result U Refusal) (expected : Result (Live H) Refusal) → Fed expected result (state_of held new) → GoesOn held after old new piece → IfErr result (λ r. r.why ≢ why.Memory → Having held after old (λ s b. (more : List ℕ) → answer_of after s ((b ++ piece) ++ more) ≡ Err r))
  on_same (Ok u) expected f go = tt
  on_same (Err r) expected f go = λ ne s b a more. after_answer held after s new (b ++ piece) more r f.1 ne (go s b a)

  pub on_place : (result : Result U Refusal) (expected : Result (Live H) Refusal) → Fed expected result (state_of held new) → GoesOn held after old new piece → IfErr result (λ r. Having held after old (λ s b. r.at ≤ length (b ++ piece)))
  on_place (Ok u) expected f go = tt
  on_place (Err r) expected f go = λ s b a. after_place held after s new (b ++ piece) r f.1 (go s b a)

  pub on_header : (result : Result U Refusal) (expected : Result (Live H) Refusal) → Fed expected result (state_of held new) → GoesOn held after old new piece → IfErr result (λ r. Having held after old (λ s b. length (b ++ piece) ≤ 8 → r.why ≢ why.Memory))
  on_header (Ok u) expected f go = tt
  on_header (Err r) expected f go = λ s b a few. after_header held after s new (b ++ piece) r f.1 (go s b a) few

  pub on_float : (result : Result U Refusal) (expected : Result (Live H) Refusal) → Fed expected result (state_of held new) → GoesOn held after old new piece → IfErr result (λ r. r.why ≡ why.Float → Having held after old (λ s b. NeverFloat after s.first → EndsInFloat (b ++ piece) r))
  on_float (Ok u) expected f go = tt
  on_float (Err r) expected f go = λ float s b a none. after_float held after s new (b ++ piece) r f.1 float none (go s b a)

  pub on_refusal : (result : Result U Refusal) (expected : Result (Live H) Refusal) → Fed expected result (state_of held new) → MatchResult result (λ u. refusal_of_decoder held new ≡ None) (λ r. refusal_of_decoder held new ≡ Some r)
  on_refusal (Ok u) expected f = none_refused (state_of held new) f.1
  on_refusal (Err r) expected f = refused_stands (state_of held new) r f.1

module _ {S H : Type 0} (held : S → H) (after : H → Item → Result H Why) (d : Decoder S) where
  pub finish_ok : (result : Result S Refusal) → Finished (and_then (state_of held d) answer_at_end) held result → IfOk result (λ k. Having held after d (λ s b. Takes after s b (held k)))
  finish_ok (Ok k) f = λ s b a. finish_takes held after s d b (held k) f a
  finish_ok (Err r) f = tt

  pub finish_refused : (result : Result S Refusal) → Finished (and_then (state_of held d) answer_at_end) held result
      → IfErr result (λ r. r.why ≢ why.Memory → Having held after d (λ s b. (last : H) → Takes after s b last → ⊥))
  finish_refused (Ok k) f = tt
  finish_refused (Err r) f = λ ne s b a last t. finish_never held after s d b r f ne a last t

  pub finish_same : (result : Result S Refusal) → Finished (and_then (state_of held d) answer_at_end) held result
      → IfErr result (λ r. r.why ≢ why.Memory → Having held after d (λ s b. answer_of after s b ≡ Err r))
  finish_same (Ok k) f = tt
  finish_same (Err r) f = λ ne s b a. finish_answer held after s d b r f ne a

  pub finish_within : (result : Result S Refusal) → Finished (and_then (state_of held d) answer_at_end) held result → IfErr result (λ r. Having held after d (λ s b. r.at ≤ length b))
  finish_within (Ok k) f = tt
  finish_within (Err r) f = λ s b a. (finish_place held after s d b r f a).0

  pub finish_header : (result : Result S Refusal) → Finished (and_then (state_of held d) answer_at_end) held result → IfErr result (λ r. Having held after d (λ s b. length b ≤ 8 → r.why ≢ why.Memory))
  finish_header (Ok k) f = tt
  finish_header (Err r) f = λ s b a few. (finish_place held after s d b r f a).1 few

  pub finish_float : (result : Result S Refusal) → Finished (and_then (state_of held d) answer_at_end) held result
      → IfErr result (λ r. r.why ≡ why.Float → Having held after d (λ s b. NeverFloat after s.first → EndsInFloat b r))
  finish_float (Ok k) f = tt
  finish_float (Err r) f = λ float s b a none. after_float held after s d b r (finish_stuck held after s d b r f (λ e. not_float r.why e float)) float none a
