-- The section of a place is the one that its byte lies in.
use Rattle.std.proofs.Common.{◌≡◌, ◌<◌, ℕ, suc, List, [], ◌∷◌, ◌++◌, Option, Some, None, length, refl, sym, ap, subst, arith, append_assoc, append-nil, length-append}
use Rattle.wm_syntax.specs.Spelling.{AreBytes}
use Rattle.wm_syntax.specs.Types.{SpellsU32}
use Rattle.wm_syntax.specs.declared.profile.Profile.{Profile}
use Rattle.wm_syntax.specs.inner.Numbers.{Partial}
use Rattle.wm_machine.specs.declared.machine.Machine.{Machine}
use Rattle.wm_machine.specs.declared.machine.Machine.TheVariants as machine
use Rattle.wm_machine.specs.exact.Members.{id_of}
use Rattle.wm_machine.specs.exact.Steps.{step_of}
use Rattle.wm_machine.proofs.FramedBytes.{AtSize, Framed, InContents, step_framed}
use Rattle.wm_machine.proofs.MachineStates.{Fits, step_fits}
use Rattle.wm_machine.proofs.OpenMembers.{zeros, zeros_length}
use Rattle.wm_machine.proofs.OpSound.{HasRoom, last_byte}
use Rattle.wm_decode.specs.InSections.{LiesIn}
use Rattle.wm_decode.specs.declared.place.Place.{Place}
use Rattle.wm_decode.specs.declared.place.awaits.Awaits.{Awaits}
use Rattle.wm_decode.specs.exact.Awaited.{machine_from, place_in}
use Rattle.wm_decode.specs.inner.Places.{place_after}

zeros_some : (n : ℕ) → zeros (suc n) ≡ [] → ⊥
zeros_some n e = let l : length (zeros (suc n)) ≡ 0 = ap length e in omega (arith, l, zeros_length (suc n))

in_size : (last id : ℕ) (r : Partial) (b : List ℕ) → HasRoom 32 r → AtSize last id r b → LiesIn id b
in_size last id r b room h =
    let past = h.past in
    let more : List ℕ = 0 ∷ zeros r.low in
    let number : SpellsU32 r.low (h.begun ++ 0 ∷ []) = (h.number.same r.low 0 []).1 (last_byte r room.0) in
    record {
      sections = past.sections;
      front = h.front;
      begun = id ∷ h.begun;
      missing = more;
      contents = zeros r.low;
      whole = h.whole;
      before = past.spelled;
      some = λ e. cc;
      more = λ e. cc;
      section = (id ∷ [], h.begun ++ more, refl, refl, (h.begun ++ 0 ∷ [], zeros r.low, sym (append_assoc h.begun (0 ∷ []) (zeros r.low)), subst (λ n. SpellsU32 n (h.begun ++ 0 ∷ [])) (sym (zeros_length r.low)) number, refl));
    }

in_contents : (last id more : ℕ) (b : List ℕ) → InContents last id (suc more) b → LiesIn id b
in_contents last id more b h =
    let past = h.past in
    let rest : List ℕ = zeros (suc more) in
    let same : h.n ≡ length (h.contents ++ rest) = let r = h.room in omega (arith, r, length-append h.contents rest, zeros_length (suc more)) in
    record {
      sections = past.sections;
      front = h.front;
      begun = id ∷ (h.size ++ h.contents);
      missing = rest;
      contents = h.contents ++ rest;
      whole = h.whole;
      before = past.spelled;
      some = λ e. cc;
      more = zeros_some more;
      section = (id ∷ [], (h.size ++ h.contents) ++ rest, refl, refl, (h.size, h.contents ++ rest, append_assoc h.size h.contents rest, subst (λ n. SpellsU32 n h.size) same h.number, refl));
    }

abbrev section_of : Option Place → ℕ
section_of None = 0
section_of (Some x) = x.section

-- the section of one place
one_id : (i : ℕ) (item : Option ℕ) (a : Awaits) (place : Place) (b : List ℕ) → Some (record { section = i; item = item; awaits = a }) ≡ Some place → LiesIn i b → LiesIn place.section b
one_id i item a place b e h = subst (λ n. LiesIn n b) (ap section_of e) h

by_machine : (p : Profile) (m : Machine) (b : List ℕ) (place : Place) → Fits p m → Framed m b → place_in m ≡ Some place → LiesIn place.section b
by_machine p (machine.Header n) b place fits h e = absurd (cc)
by_machine p (machine.Between last counts) b place fits h e = absurd (cc)
by_machine p (machine.CustomSize last counts r) b place fits h e = one_id 0 _ _ place b e (in_size last 0 r b fits.0 h.0)
by_machine p (machine.Custom last counts more q) b place fits h e = one_id 0 _ _ place b e (in_contents last 0 more b h.0)
by_machine p (machine.Size of counts r) b place fits h e = one_id (id_of of) _ _ place b e (in_size h.0 (id_of of) r b fits.0 h.2)
by_machine p (machine.Count of counts more r) b place fits h e = one_id (id_of of) _ _ place b e (in_contents h.0 (id_of of) more b h.2)
by_machine p (machine.Section of counts more left q) b place fits h e = one_id (id_of of) _ _ place b e (in_contents h.0 (id_of of) more b h.2)
by_machine p (machine.Refused w) b place fits h e = absurd (cc)

-- the machine after any bytes
framed : (p : Profile) (m : Machine) (before b : List ℕ) → AreBytes b → Fits p m → Framed m before → Fits p (machine_from p m b) × Framed (machine_from p m b) (before ++ b)
framed p m before [] a fits f = (fits, subst (λ y. Framed m y) (sym (append-nil before)) f)
framed p m before (c ∷ b) a fits f =
    let r = framed p (step_of p m c).0 (before ++ c ∷ []) b a.1 (step_fits p m c a.0 fits) (step_framed p m c before a.0 f) in
    (r.0, subst (λ y. Framed (machine_from p (step_of p m c).0 b) y) (append_assoc before (c ∷ []) b) r.1)

pub lies_in : (p : Profile) (b : List ℕ) (place : Place) → AreBytes b → place_after p b ≡ Some place → LiesIn place.section b
lies_in p b place bytes e =
    let low : 0 < 8 = omega arith in
    let r = framed p (machine.Header 0) [] b bytes low (low, refl) in
    by_machine p (machine_from p (machine.Header 0) b) b place r.0 r.1 e
