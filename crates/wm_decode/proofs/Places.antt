-- The machine after bytes, and the place of a byte that comes after them.
use Rattle.std.proofs.Common.{◌≡◌, ℕ, zero, suc, ◌+◌, ◌-◌, ◌<◌, List, [], ◌∷◌, ◌++◌, Option, Some, None, Result, Ok, Err, length, take, get_or, refl, sym, ◌∙◌, ap, arith, IsOk, nat_lt}
use Rattle.wm_syntax.specs.declared.why.Why.{Why}
use Rattle.wm_syntax.specs.declared.profile.Profile.{Profile}
use Rattle.wm_machine.specs.declared.machine.Machine.{Machine}
use Rattle.wm_machine.specs.declared.machine.Machine.TheVariants as machine
use Rattle.wm_machine.specs.declared.refusal.Refusal.{Refusal}
use Rattle.wm_machine.specs.Items.{Item}
use Rattle.wm_machine.specs.Decoding.{Setting}
use Rattle.wm_machine.specs.exact.Live.{Live, decoder_after, event_effect, live_byte, live_at_start, live_from}
use Rattle.wm_machine.specs.exact.Steps.{step_of}
use Rattle.std.proofs.lemmas.Bool.{cond_both}
use Rattle.std.proofs.Math.Seq.{take-append-add}
use Rattle.wm_machine.specs.Sinks.{and_then}
use Rattle.wm_machine.proofs.MachineAndSink.{reached, settled_ok}
use Rattle.wm_decode.proofs.DecoderCalls.{live_after}
use Rattle.wm_decode.specs.declared.decoder.state.Decoder.{Decoder}
use Rattle.wm_decode.specs.declared.place.Snapshot.{Snapshot}
use Rattle.wm_decode.specs.exact.Awaited.{machine_from, place_in}
use Rattle.wm_decode.specs.exact.Standing.{state_of}
use Rattle.wm_decode.specs.inner.Decoders.{HasDecoded, refusal_of_decoder}
use Rattle.wm_decode.specs.inner.Places.{IsAfter, place_after}

-- one byte more
pub from_more : (p : Profile) (m : Machine) (b : List ℕ) (i : ℕ) → i < length b → machine_from p m (take (i + 1) b) ≡ (step_of p (machine_from p m (take i b)) (get_or b i 0)).0
from_more p m b i h = let e : i + 1 ≡ suc i = omega arith in ap (λ n. machine_from p m (take n b)) e ∙ go m b i h
  where
    go : (m : Machine) (b : List ℕ) (i : ℕ) → i < length b → machine_from p m (take (suc i) b) ≡ (step_of p (machine_from p m (take i b)) (get_or b i 0)).0
    go m [] i h = absurd (omega (arith, h))
    go m (c ∷ b) zero h = refl
    go m (c ∷ b) (suc i) h = go (step_of p m c).0 b i (omega (arith, h))

pub from_append : (p : Profile) (m : Machine) (a b : List ℕ) → machine_from p m (a ++ b) ≡ machine_from p (machine_from p m a) b
from_append p m [] b = refl
from_append p m (c ∷ a) b = from_append p (step_of p m c).0 a b

-- the place of a byte in a piece after these bytes
pub place_at : (s : Snapshot) (p : Profile) (bytes piece : List ℕ) (at k : ℕ) (m : Machine) → IsAfter s p bytes → length bytes < at → k ≡ at - 1 - length bytes
    → m ≡ machine_from s.profile s.machine (take k piece) → place_in m ≡ place_after p (take (at - 1) (bytes ++ piece))
place_at s p bytes piece at k m a less index e =
    let sum : at - 1 ≡ length bytes + k = omega (arith, less, index) in
    let front : take (at - 1) (bytes ++ piece) ≡ bytes ++ take k piece =
    ap (λ n. take n (bytes ++ piece)) sum ∙ take-append-add bytes piece k in
    ap place_in
    (e
    ∙ (ap (λ q. machine_from q s.machine (take k piece)) a.profile
    ∙ (ap (λ n. machine_from p n (take k piece)) a.machine
    ∙ (sym (from_append p (machine.Header 0) bytes (take k piece)) ∙ ap (machine_from p (machine.Header 0)) (sym front)))))

then_ok : {A B : Type 0} (r : Result A Refusal) (f : A → Result B Refusal) (y : B) → and_then r f ≡ Ok y → (x : A) × (r ≡ Ok x) × (f x ≡ Ok y)
then_ok (Ok x) f y e = (x, refl, e)
then_ok (Err r) f y e = cc

module _ {H : Type 0} (after : H → Item → Result H Why) (p : Profile) (limit : ℕ) where
  live_from_ok : (m : Machine) (at : ℕ) (x : Result (List ℕ × H) Why) (l : Live H) → live_from m at x ≡ Ok l → l.machine ≡ m
  live_from_ok m at (Ok q) l e = sym (ap (λ (y : Live H). y.machine) (settled_ok after p limit m q.0 q.1 at l e))
  live_from_ok m at (Err w) l e = cc

  machine_of_byte : (l m : Live H) (c : ℕ) → live_byte after p limit l c ≡ Ok m → m.machine ≡ (step_of p l.machine c).0
  machine_of_byte l m c = cond_both (nat_lt l.at limit) _ _ (λ (r : Result (Live H) Refusal). r ≡ Ok m → m.machine ≡ (step_of p l.machine c).0)
      (λ a e. live_from_ok (step_of p l.machine c).0 (l.at + 1) (event_effect after (step_of p l.machine c).1 l.name c l.held) m e)
      (λ a e. cc)

  pub machine_of : (b : List ℕ) (l m : Live H) → decoder_after after p limit l b ≡ Ok m → m.machine ≡ machine_from p l.machine b
  machine_of [] l m e = let t : l ≡ m = cc in sym (ap (λ (y : Live H). y.machine) t)
  machine_of (c ∷ b) l m e =
      let o = then_ok (live_byte after p limit l c) (λ n. decoder_after after p limit n b) m e in
      machine_of b o.0 m o.2 ∙ ap (λ n. machine_from p n b) (machine_of_byte l o.0 c o.1)

module _ {S H : Type 0} (held : S → H) (after : H → Item → Result H Why) (s : Setting H) where
  unrefused : (r : Result (Live H) Refusal) → elim r as (λ _. Option Refusal) [ Ok l ↦ None | Err t ↦ Some t ] ≡ None → IsOk r
  unrefused (Ok l) e = cc
  unrefused (Err r) e = absurd (cc)

  -- a decoder that has refused nothing
  pub is_after : (d : Decoder S) (b : List ℕ) → refusal_of_decoder held d ≡ None → HasDecoded held after d s b
      → IsAfter (record { profile = d.profile; machine = d.machine; at = d.at }) s.profile b
  is_after d b none a =
      let l = live_after held after s d b (unrefused (state_of held d) none) a in
      let same = settled_ok after s.profile s.limit d.machine d.name.items (held d.sink) d.at l.0 l.2 in
      let r = reached after s.profile s.limit b (live_at_start s.first) l.0 l.1 in
      let at : d.at ≡ l.0.at = ap (λ (y : Live H). y.at) same in
      record {
        profile = a.profile;
        machine = ap (λ (y : Live H). y.machine) same ∙ machine_of after s.profile s.limit b (live_at_start s.first) l.0 l.1;
        at = omega (arith, r.at, at);
      }
