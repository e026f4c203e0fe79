-- A name of a sink is given at a byte that completes an item, if the sink refuses the item with this name.
use Rattle.std.proofs.Common.{◌≡◌, ℕ, zero, suc, ◌<◌, ◌≤◌, ◌^◌, ◌⊎◌, inl, inr, List, [], ◌∷◌, ◌++◌, Option, Some, None, Result, Ok, Err, refl, sym, ◌∙◌, ap, subst, arith, append_assoc, append-nil}
use Rattle.std.proofs.lemmas.Bool.{cond_both}
use Rattle.std.specs.Str.{is_utf8}
use Rattle.wm_syntax.specs.declared.profile.Profile.{Profile}
use Rattle.wm_syntax.specs.declared.why.Why.{Why}
use Rattle.wm_syntax.specs.declared.why.Why.TheVariants as why
use Rattle.wm_syntax.specs.Spelling.{AreBytes}
use Rattle.wm_machine.specs.declared.machine.Machine.{Machine}
use Rattle.wm_machine.specs.declared.machine.Machine.TheVariants as machine
use Rattle.wm_machine.specs.declared.machine.Event.{Event}
use Rattle.wm_machine.specs.declared.machine.Event.TheVariants as event
use Rattle.wm_machine.specs.declared.refusal.Refusal.{Refusal}
use Rattle.wm_machine.specs.Decoding.{Setting}
use Rattle.wm_machine.specs.Items.{Item, Zone, Marks}
use Rattle.wm_machine.specs.Sinks.{and_then}
use Rattle.wm_machine.specs.exact.Steps.{step_of}
use Rattle.wm_machine.specs.exact.Runs.{byte_read, ByteRead, MachineState, zone_of, read_byte, state_after, marks, state_at_start}
use Rattle.wm_machine.specs.exact.Live.{answer_between, effect_of_maybe, Live, live_byte, decoder_after, live_at_start, answer_at_end_of, answer_at_end, IsRefused}
use Rattle.wm_machine.specs.inner.Answers.{answer_of}
use Rattle.wm_machine.specs.Meanings.{AtItem, IsRuleName, RefusesBy, Meant}
use Rattle.wm_machine.proofs.ByteLists.{front_bytes}
use Rattle.wm_machine.proofs.MachineAndSink.{begin_fits, given_taken, used_of, reached, state_of, live_err}
use Rattle.wm_machine.proofs.FormatMeanings.{MachineSays, last_is_byte, step_says}
use Rattle.wm_machine.proofs.FramedBytes.{Framed, run_framed}
use Rattle.wm_machine.proofs.MachineStates.{Fits, run_fits}
use Rattle.wm_machine.proofs.ItemFronts.{item_front}

-- the machine gives none of these names
not_machine : (p : Profile) (used : List ℕ) (w : Why) → IsRuleName w → MachineSays p used w → ⊥
not_machine p used why.TooManyLocals i h = h
not_machine p used why.Index i h = h
not_machine p used why.Mismatch i h = h
not_machine p used why.Arity i h = h
not_machine p used why.Limits i h = h
not_machine p used why.Second i h = h
not_machine p used why.DuplicateExport i h = h
not_machine p used why.StartType i h = h
not_machine p used why.NotConst i h = h
not_machine p used why.Immutable i h = h
not_machine p used why.Align i h = h
not_machine p used why.ElsePlace i h = h
not_machine p used why.ManyFunctions i h = h
not_machine p used why.ManyLocals i h = h
not_machine p used why.Deep i h = h
not_machine p used w i h = i

heard_err : (zone : Zone) (y : List ℕ) (c : ℕ) (m : Machine) (e : Event) (w : Why) → (byte_read machine.Refused zone y c (m, e)).at ≡ machine.Refused w → (m ≡ machine.Refused w) ⊎ (why.BadUtf8 ≡ w)
heard_err zone y c m event.Nothing w i = inl i
heard_err zone y c m (event.Complete q) w i = inl i
heard_err zone y c m event.DataByte w i = inl i
heard_err zone y c m event.InName w i = inl i
heard_err zone y c m (event.EmptyName k) w i = inl i
heard_err zone y c m (event.EndsName k) w i =
    (cond_both (is_utf8 (y ++ c ∷ [])) _ _ (λ (h : ByteRead Machine). h.at ≡ machine.Refused w → (m ≡ machine.Refused w) ⊎ (why.BadUtf8 ≡ w)) (λ _ e. inl e) (λ _ e. inr (cc))) i

module _ {H : Type 0} (after : H → Item → Result H Why) (s : Setting H) where
  abbrev Starts : Live H
  Starts = live_at_start s.first

  abbrev Decoded : List ℕ → Result (Live H) Refusal
  Decoded b = decoder_after after s.profile s.limit Starts b

  abbrev Refuses : List ℕ → List ℕ → Why → Type 0
  Refuses used rest w = AtItem s.profile (RefusesBy after s.first w) used

  maybe_item : (x : Option Item) (h : H) (w : Why) → effect_of_maybe after x h ≡ Err w → (y : Item) × (x ≡ Some y) × (after h y ≡ Err w)
  maybe_item None h w e = absurd (cc)
  maybe_item (Some y) h w e = (y, refl, e)

  module _ (b : List ℕ) (l : Live H) (bytes : AreBytes b) (taken : Decoded b ≡ Ok l) where
    byte_state : state_of after s.profile s.limit l ≡ state_after s.profile state_at_start b
    byte_state = (reached after s.profile s.limit b Starts l taken).state

    at_item : (c : ℕ) (w : Why) → c < 2 ^ 8 → effect_of_maybe after (read_byte s.profile (state_of after s.profile s.limit l) c).mark.item l.held ≡ Err w → AtItem s.profile (RefusesBy after s.first w) (b ++ c ∷ [])
    at_item c w byte e =
        let x = maybe_item (read_byte s.profile (state_of after s.profile s.limit l) c).mark.item l.held w e in
        let f = item_front s.profile b c x.0 bytes byte (subst (λ (z : MachineState). (read_byte s.profile z c).mark.item ≡ Some x.0) byte_state x.1) in
        let told : Marks = marks s.profile state_at_start b in
        record {
          told = told;
          last = f.0;
          front = f.2;
          item = x.0;
          completes = f.1;
          wrong = (l.held, sym (given_taken after told s.first) ∙ (reached after s.profile s.limit b Starts l taken).held, x.2);
        }

    -- a byte that is refused by such a name
    byte_refused : (c : ℕ) (r : Refusal) → c < 2 ^ 8 → IsRuleName r.why → live_byte after s.profile s.limit l c ≡ Err r → AtItem s.profile (RefusesBy after s.first r.why) (b ++ c ∷ [])
    byte_refused c r byte i e = elim (live_err after s.profile s.limit l c r e) [
      | inl t ↦ absurd (subst IsRuleName t i)
      | inr o ↦ elim o [
        | inr x ↦ at_item c r.why byte x
        | inl m ↦ absurd (by_machine r.why i m)
      ]
    ]
      where
        by_machine : (w : Why) → IsRuleName w → (read_byte s.profile (state_of after s.profile s.limit l) c).at ≡ machine.Refused w → ⊥
        by_machine w i m =
            let before = reached after s.profile s.limit b Starts l taken in
            let fit : Fits s.profile l.machine = subst (λ (z : MachineState). Fits s.profile z.machine) (sym byte_state) (run_fits s.profile state_at_start b bytes begin_fits) in
            let frame : Framed l.machine b = subst (λ (z : MachineState). Framed z.machine b) (sym byte_state) (run_framed s.profile state_at_start [] b bytes (omega arith, refl)) in
            elim (heard_err (zone_of l.machine) l.name c (step_of s.profile l.machine c).0 (step_of s.profile l.machine c).1 w m) [
              | inl f ↦ not_machine s.profile (b ++ c ∷ []) w i (step_says s.profile l.machine c b byte (before.live (λ i. i)) fit frame w f)
              | inr t ↦ subst IsRuleName (sym t) i
            ]

  -- whatever comes after these bytes
  pub on_byte : (b more : List ℕ) (r : Refusal) → AreBytes b → IsRuleName r.why → Decoded b ≡ Err r → Meant Refuses (b ++ more) r
  on_byte b more r bytes i e =
      let low : Starts.at ≤ s.limit = omega arith in
      let u = used_of after s.profile s.limit b Starts r low e in
      let used : List ℕ = u.used ++ u.byte ∷ [] in
      let so_far : AreBytes used = front_bytes used u.rest (subst AreBytes u.bytes bytes) in
      record {
        used = used;
        rest = u.rest ++ more;
        whole = ap (λ y. y ++ more) u.bytes ∙ append_assoc used u.rest more;
        at = omega (arith, u.at);
        means = byte_refused u.used u.before (front_bytes u.used (u.byte ∷ []) so_far) u.taken u.byte r (last_is_byte u.used u.byte so_far) i u.refused;
      }

  -- at the end no such name is given
  end_names : (m : Machine) (h : H) (at : ℕ) (r : Refusal) → (IsRefused m → ⊥) → IsRuleName r.why → answer_at_end_of m h at ≡ Err r → ⊥
  end_names m h at r live i e = go m live e
    where
      named : (w : Why) → record { at = at; why = w } ≡ r → IsRuleName w
      named w is = subst (λ (y : Refusal). IsRuleName y.why) (sym is) i

      go : (m : Machine) → (IsRefused m → ⊥) → answer_at_end_of m h at ≡ Err r → ⊥
      go (machine.Refused w) live e = live tt
      go (machine.Between last counts) live e = between counts.functions counts.segments e
        where
          between : (n : ℕ) (s : Option ℕ) → answer_between n s h at ≡ Err r → ⊥
          between (suc n) s e = named why.CodeCount (cc (e))
          between zero None e = absurd (cc)
          between zero (Some zero) e = absurd (cc)
          between zero (Some (suc s)) e = named why.DataCount (cc (e))
      go m live e = named why.Truncated (cc (e))

  -- the answer to a whole input
  pub whole_input : (input : List ℕ) (r : Refusal) → AreBytes input → IsRuleName r.why → answer_of after s input ≡ Err r → Meant Refuses input r
  whole_input input r bytes i e = go (Decoded input) refl e
    where
      go : (x : Result (Live H) Refusal) → Decoded input ≡ x → and_then x answer_at_end ≡ Err r → Meant Refuses input r
      go (Err t) is e = let same : t ≡ r = cc (e) in subst (λ y. Meant Refuses y r) (append-nil input) (on_byte input [] r bytes i (is ∙ ap Err same))
      go (Ok l) is e = absurd (end_names l.machine l.held l.at r ((reached after s.profile s.limit input Starts l is).live (λ i. i)) i e)
