-- If a second sink never refuses an item that the first one takes, the decoder answers as over the first one alone.
use Rattle.std.proofs.Common.{◌≡◌, ℕ, zero, suc, ◌+◌, Bool, true, false, cond, List, [], ◌∷◌, ◌++◌, Option, Some, None, Result, Ok, Err, refl, sym, ◌∙◌, ap, subst, nat_lt}
use Rattle.std.specs.Str.{is_utf8}
use Rattle.std.proofs.lemmas.Str.{is_utf8-from_IsUtf8}
use Rattle.wm_syntax.specs.declared.profile.Profile.{Profile}
use Rattle.wm_syntax.specs.declared.why.Why.{Why}
use Rattle.wm_syntax.specs.declared.why.Why.TheVariants as why
use Rattle.wm_machine.specs.declared.machine.NameKind.{NameKind}
use Rattle.wm_machine.specs.declared.machine.NameKind.TheVariants as kind
use Rattle.wm_machine.specs.declared.machine.Plain.{Plain}
use Rattle.wm_machine.specs.declared.machine.Plain.TheVariants as plain
use Rattle.wm_machine.specs.declared.machine.Machine.{Machine}
use Rattle.wm_machine.specs.declared.machine.Machine.TheVariants as machine
use Rattle.wm_machine.specs.declared.machine.Event.{Event}
use Rattle.wm_machine.specs.declared.machine.Event.TheVariants as event
use Rattle.wm_machine.specs.declared.refusal.Refusal.{Refusal}
use Rattle.wm_machine.specs.Items.{Item, import_module, import_name, export_name, data_byte}
use Rattle.wm_machine.specs.Sinks.{and_then}
use Rattle.wm_machine.specs.exact.Steps.{step_of}
use Rattle.wm_machine.specs.exact.TwoSinks.{after_both}
use Rattle.wm_machine.specs.exact.Runs.{name_item, plain_item}
use Rattle.wm_machine.specs.exact.Live.{answer_between, Live, live_at_start, answer_at_end, answer_at_end_of, effect_of_maybe, name_taken, event_effect, live_or_refused, live_from, live_byte, decoder_after}

-- an item whose name, if it has one, is UTF-8: a decoder gives no other
abbrev pub IsGiven : Item → Type 0
IsGiven (import_module text) = is_utf8 text ≡ true
IsGiven (import_name text) = is_utf8 text ≡ true
IsGiven (export_name text) = is_utf8 text ≡ true
IsGiven _ = Unit {0}

module _ {H K : Type 0} (f : H → Item → Result H Why) (g : K → Item → Result K Why) (R : H → K → Type 0)
    (follows : (h : H) (k : K) (x : Item) (h' : H) → IsGiven x → R h k → f h x ≡ Ok h' → (k' : K) × (g k x ≡ Ok k') × R h' k') where
  -- of both, the first alone is seen
  abbrev Alike : Result H Why → Result (H × K) Why → Type 0
  Alike (Ok h) (Ok q) = (q.0 ≡ h) × R q.0 q.1
  Alike (Err w) (Err v) = w ≡ v
  Alike _ _ = ⊥

  part_alike : (h : H) (k : K) (x : Item) (r : Result H Why) → IsGiven x → R h k → f h x ≡ r → Alike r (after_both f g (h, k) x)
  part_alike h k x (Ok h') u rel e =
      let s = follows h k x h' u rel e in
      rw (e, s.1) (refl, s.2)
  part_alike h k x (Err w) u rel e = rw e refl

  abbrev NamedAlike : Result (List ℕ × H) Why → Result (List ℕ × (H × K)) Why → Type 0
  NamedAlike (Ok h) (Ok q) = (q.0 ≡ h.0) × (q.1.0 ≡ h.1) × R q.1.0 q.1.1
  NamedAlike (Err w) (Err v) = w ≡ v
  NamedAlike _ _ = ⊥

  with_name : (r : Result H Why) (q : Result (H × K) Why) → Alike r q → NamedAlike (and_then r (λ h. Ok ([], h))) (and_then q (λ h. Ok ([], h)))
  with_name (Ok h) (Ok q) a = (refl, a.0, a.1)
  with_name (Err w) (Err v) a = a
  with_name (Ok h) (Err v) a = absurd a
  with_name (Err w) (Ok q) a = absurd a

  plain_given : (p : Plain) → IsGiven (plain_item p)
  plain_given plain.NewType = tt
  plain_given _ = tt

  offered_alike : (o : NameKind) (text : List ℕ) (h : H) (k : K) → is_utf8 text ≡ true → R h k → Alike (effect_of_maybe f (name_item o text) h) (effect_of_maybe (after_both f g) (name_item o text) (h, k))
  offered_alike kind.Custom text h k u rel = (refl, rel)
  offered_alike kind.ImportModule text h k u rel = part_alike h k (import_module text) (f h (import_module text)) u rel refl
  offered_alike kind.ImportName text h k u rel = part_alike h k (import_name text) (f h (import_name text)) u rel refl
  offered_alike kind.Export text h k u rel = part_alike h k (export_name text) (f h (export_name text)) u rel refl

  name_alike : (o : NameKind) (text : List ℕ) (h : H) (k : K) → R h k → Alike (name_taken f o text h) (name_taken (after_both f g) o text (h, k))
  name_alike o text h k rel = go (is_utf8 text) refl
    where
      go : (b : Bool) → is_utf8 text ≡ b → Alike (cond b (effect_of_maybe f (name_item o text) h) (Err why.BadUtf8)) (cond b (effect_of_maybe (after_both f g) (name_item o text) (h, k)) (Err why.BadUtf8))
      go true e = offered_alike o text h k e rel
      go false e = refl

  told_alike : (e : Event) (name : List ℕ) (c : ℕ) (h : H) (k : K) → R h k → NamedAlike (event_effect f e name c h) (event_effect (after_both f g) e name c (h, k))
  told_alike event.Nothing name c h k rel = (refl, refl, rel)
  told_alike (event.Complete p) name c h k rel = with_name (f h (plain_item p)) (after_both f g (h, k) (plain_item p)) (part_alike h k (plain_item p) (f h (plain_item p)) (plain_given p) rel refl)
  told_alike event.DataByte name c h k rel = with_name (f h (data_byte c)) (after_both f g (h, k) (data_byte c)) (part_alike h k (data_byte c) (f h (data_byte c)) tt rel refl)
  told_alike event.InName name c h k rel = (refl, refl, rel)
  told_alike (event.EndsName o) name c h k rel = with_name (name_taken f o (name ++ c ∷ []) h) (name_taken (after_both f g) o (name ++ c ∷ []) (h, k)) (name_alike o (name ++ c ∷ []) h k rel)
  told_alike (event.EmptyName o) name c h k rel = with_name (effect_of_maybe f (name_item o []) h) (effect_of_maybe (after_both f g) (name_item o []) (h, k)) (offered_alike o [] h k (is_utf8-from_IsUtf8 [] ([], (refl, refl))) rel)

  -- two decoders that have come as far
  abbrev pub LiveAlike : Live H → Live (H × K) → Type 0
  LiveAlike l m = (m.machine ≡ l.machine) × (m.name ≡ l.name) × (m.at ≡ l.at) × (m.held.0 ≡ l.held) × R m.held.0 m.held.1

  abbrev pub StandAlike : Result (Live H) Refusal → Result (Live (H × K)) Refusal → Type 0
  StandAlike (Ok l) (Ok m) = LiveAlike l m
  StandAlike (Err r) (Err s) = r ≡ s
  StandAlike _ _ = ⊥

  settled_alike : (m : Machine) (name : List ℕ) (n : ℕ) (h : H) (q : H × K) → q.0 ≡ h → R q.0 q.1 → StandAlike (live_or_refused m name h n) (live_or_refused m name q n)
  settled_alike (machine.Refused w) name n h q e rel = refl
  settled_alike m name n h q e rel = (refl, refl, refl, e, rel)

  judged_alike : (m : Machine) (n : ℕ) (r : Result (List ℕ × H) Why) (q : Result (List ℕ × (H × K)) Why) → NamedAlike r q → StandAlike (live_from m n r) (live_from m n q)
  judged_alike m n (Ok h) (Ok q) a = subst (λ z. StandAlike (live_or_refused m h.0 h.1 n) (live_or_refused m z q.1 n)) (sym a.0) (settled_alike m h.0 n h.1 q.1 a.1 a.2)
  judged_alike m n (Err w) (Err v) a = ap (λ z. record { at = n; why = z }) a
  judged_alike m n (Ok h) (Err v) a = absurd a
  judged_alike m n (Err w) (Ok q) a = absurd a

  module _ (p : Profile) (limit : ℕ) where
    byte_alike : (l : Live H) (k : K) (c : ℕ) → R l.held k → StandAlike (live_byte f p limit l c) (live_byte (after_both f g) p limit (record { machine = l.machine; name = l.name; held = (l.held, k); at = l.at }) c)
    byte_alike l k c rel = go (nat_lt l.at limit)
      where
        go : (b : Bool) → StandAlike (cond b (live_from (step_of p l.machine c).0 (l.at + 1) (event_effect f (step_of p l.machine c).1 l.name c l.held)) (Err (record { at = limit + 1; why = why.TooLong })))
            (cond b (live_from (step_of p l.machine c).0 (l.at + 1) (event_effect (after_both f g) (step_of p l.machine c).1 l.name c (l.held, k))) (Err (record { at = limit + 1; why = why.TooLong })))
        go true = judged_alike (step_of p l.machine c).0 (l.at + 1) _ _ (told_alike (step_of p l.machine c).1 l.name c l.held k rel)
        go false = refl

    -- the bytes so far are answered alike
    pub decoded_alike : (b : List ℕ) (l : Live H) (k : K) → R l.held k
        → StandAlike (decoder_after f p limit l b) (decoder_after (after_both f g) p limit (record { machine = l.machine; name = l.name; held = (l.held, k); at = l.at }) b)
    decoded_alike [] l k rel = (refl, refl, refl, refl, rel)
    decoded_alike (c ∷ b) l k rel = on (live_byte f p limit l c) _ (byte_alike l k c rel) (λ m j r. decoded_alike b m j r)
      where
        on : (x : Result (Live H) Refusal) (y : Result (Live (H × K)) Refusal) → StandAlike x y
            → ((m : Live H) (j : K) → R m.held j → StandAlike (decoder_after f p limit m b) (decoder_after (after_both f g) p limit (record { machine = m.machine; name = m.name; held = (m.held, j); at = m.at }) b))
            → StandAlike (and_then x (λ m. decoder_after f p limit m b)) (and_then y (λ m. decoder_after (after_both f g) p limit m b))
        on (Err r) (Err s) a rest = a
        on (Ok m) (Err s) a rest = absurd a
        on (Err r) (Ok n) a rest = absurd a
        on (Ok m) (Ok n) a rest =
            let same : n ≡ record { machine = m.machine; name = m.name; held = (m.held, n.held.1); at = m.at } =
            ap (λ z. record { machine = z; name = n.name; held = n.held; at = n.at }) a.0 ∙ ap (λ z. record { machine = m.machine; name = z; held = n.held; at = n.at }) a.1
            ∙ ap (λ z. record { machine = m.machine; name = m.name; held = n.held; at = z }) a.2 ∙ ap (λ z. record { machine = m.machine; name = m.name; held = (z, n.held.1); at = m.at }) a.3 in
            subst (λ z. StandAlike (decoder_after f p limit m b) (decoder_after (after_both f g) p limit z b)) (sym same) (rest m n.held.1 (subst (λ z. R z n.held.1) a.3 a.4))

  -- at the end of the input
  abbrev pub EndAlike : Result H Refusal → Result (H × K) Refusal → Type 0
  EndAlike (Ok h) (Ok q) = q.0 ≡ h
  EndAlike (Err r) (Err s) = r ≡ s
  EndAlike _ _ = ⊥

  ended_alike : (m : Machine) (h : H) (q : H × K) (n : ℕ) → q.0 ≡ h → EndAlike (answer_at_end_of m h n) (answer_at_end_of m q n)
  ended_alike (machine.Between last counts) h q n e = between counts.functions counts.segments
    where
      between : (f : ℕ) (s : Option ℕ) → EndAlike (answer_between f s h n) (answer_between f s q n)
      between (suc f) s = refl
      between zero None = e
      between zero (Some zero) = e
      between zero (Some (suc s)) = refl
  ended_alike (machine.Refused w) h q n e = refl
  ended_alike m h q n e = refl

  -- two decoders over the same bytes: the same refusal, or what the first sink alone holds
  pub answers_alike : (p : Profile) (limit : ℕ) (h : H) (k : K) → R h k → (b : List ℕ)
      → EndAlike (and_then (decoder_after f p limit (live_at_start h) b) answer_at_end) (and_then (decoder_after (after_both f g) p limit (live_at_start (h, k)) b) answer_at_end)
  answers_alike p limit h k rel b = on (decoder_after f p limit (live_at_start h) b) (decoder_after (after_both f g) p limit (live_at_start (h, k)) b) (decoded_alike p limit b (live_at_start h) k rel)
    where
      on : (x : Result (Live H) Refusal) (y : Result (Live (H × K)) Refusal) → StandAlike x y → EndAlike (and_then x answer_at_end) (and_then y answer_at_end)
      on (Err r) (Err s) a = a
      on (Ok l) (Err s) a = absurd a
      on (Err r) (Ok m) a = absurd a
      on (Ok l) (Ok m) a =
          subst (λ z. EndAlike (answer_at_end l) (answer_at_end_of z m.held m.at)) (sym a.0)
          (subst (λ z. EndAlike (answer_at_end l) (answer_at_end_of l.machine m.held z)) (sym a.2) (ended_alike l.machine l.held m.held l.at a.3))
