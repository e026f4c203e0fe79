-- The machine and a sink, over whole inputs.
use Rattle.std.proofs.Common.{◌≡◌, ℕ, zero, suc, ◌+◌, ◌<◌, ◌≤◌, List, [], ◌∷◌, ◌++◌, Option, Some, None, Result, Ok, Err, length, refl, sym, ◌∙◌, ap, subst, inl, inr, ◌⊎◌, arith, append-nil, true, false, nat_lt, cond, take}
use Rattle.std.proofs.lemmas.Bool.{cond_both, ltb-true, ltb-false, lt-ltb}
use Rattle.std.proofs.lemmas.List.{take_at}
use Rattle.std.specs.Str.{is_utf8}
use Rattle.wm_syntax.specs.declared.profile.Profile.{Profile}
use Rattle.wm_syntax.specs.declared.why.Why.{Why}
use Rattle.wm_syntax.specs.declared.why.Why.TheVariants as why
use Rattle.wm_syntax.specs.Spelling.{AreBytes}
use Rattle.wm_machine.specs.declared.machine.Machine.{Machine}
use Rattle.wm_machine.specs.declared.machine.Machine.TheVariants as machine
use Rattle.wm_machine.specs.declared.machine.Event.{Event}
use Rattle.wm_machine.specs.declared.machine.Event.TheVariants as event
use Rattle.wm_machine.specs.declared.refusal.Refusal.{Refusal}
use Rattle.wm_machine.specs.Items.{Item, data_byte, Zone, Mark, Marks, put_item, items_at}
use Rattle.wm_machine.specs.MarkedForms.{outside_mark}
use Rattle.wm_machine.specs.Grammar.{Items, strict}
use Rattle.wm_machine.specs.Sinks.{and_then, all_taken}
use Rattle.wm_machine.specs.exact.Steps.{step_of}
use Rattle.wm_machine.specs.exact.Runs.{name_item, zone_of, byte_read, ByteRead, MachineState, read_byte, after_byte, state_after, marks, state_at_start, plain_item}
use Rattle.wm_machine.specs.exact.Live.{answer_between, effect_of_maybe, event_effect, Live, live_or_refused, live_from, live_byte, decoder_after, live_at_start, IsRefused, answer_at_end_of, answer_at_end}
use Rattle.wm_machine.specs.Decoding.{Setting, Takes}
use Rattle.wm_machine.proofs.MachineStates.{run_fits}
use Rattle.wm_machine.proofs.WholeMachine.{Agrees, MayEnd, MachineRest, StateRest, begin_to, begin_from, run_to, run_from, ends, may_end}

cases_nil : (b : List ℕ) → (b ≡ []) ⊎ (b ≡ [] → ⊥)
cases_nil [] = inl refl
cases_nil (c ∷ b) = inr (λ e. cc)

given_split : {A B : Type 0} (r : Result A Why) (f : A → Result B Why) (y : B) → and_then r f ≡ Ok y → (x : A) × (r ≡ Ok x) × (f x ≡ Ok y)
given_split (Ok x) f y e = (x, refl, e)
given_split (Err r) f y e = cc

module _ {H : Type 0} (after : H → Item → Result H Why) where
  -- what is held after the items of some marks
  abbrev pub all_given : H → Marks → Result H Why
  all_given h [] = Ok h
  all_given h (m ∷ k) = and_then (effect_of_maybe after m.item h) (λ g. all_given g k)

  and_same : {B : Type 0} (r : Result H Why) (f g : H → Result B Why) → ((x : H) → f x ≡ g x) → and_then r f ≡ and_then r g
  and_same (Ok x) f g e = e x
  and_same (Err w) f g e = refl

  offered_first : (x : Option Item) (h : H) (ps : List Item) → all_taken after h (put_item x ps) ≡ and_then (effect_of_maybe after x h) (λ g. all_taken after g ps)
  offered_first None h ps = refl
  offered_first (Some x) h ps = refl

  pub given_taken : (k : Marks) (h : H) → all_given h k ≡ all_taken after h (items_at k)
  given_taken [] h = refl
  given_taken (m ∷ k) h = and_same (effect_of_maybe after m.item h) (λ g. all_given g k) (λ g. all_taken after g (items_at k)) (λ g. given_taken k g) ∙ sym (offered_first m.item h (items_at k))

  -- the first of them
  pub given_front : (j k : Marks) (h g : H) → all_given h (j ++ k) ≡ Ok g → (f : H) × (all_given h j ≡ Ok f)
  given_front [] k h g e = (h, refl)
  given_front (m ∷ j) k h g e =
      let s = given_split (effect_of_maybe after m.item h) (λ f. all_given f (j ++ k)) g e in
      let r = given_front j k s.0 g s.2 in
      (r.0, ap (λ y. and_then y (λ f. all_given f j)) s.1 ∙ r.1)

module _ {H : Type 0} (after : H → Item → Result H Why) (p : Profile) (limit : ℕ) where
  abbrev judged_heard : ByteRead Machine → ℕ → Result H Why → Result (Live H) Refusal
  judged_heard h at (Ok g) = live_or_refused h.at h.name g at
  judged_heard h at (Err w) = Err (record { at = at; why = w })

  same_judged : (m : Machine) (x : Mark) (at : ℕ) (r : Result H Why) → live_from m at (and_then r (λ g. Ok ([], g))) ≡ judged_heard (record { at = m; name = []; mark = x }) at r
  same_judged m x at (Ok g) = refl
  same_judged m x at (Err w) = refl

  same_byte : (zone : Zone) (m : Machine) (e : Event) (name : List ℕ) (c at : ℕ) (h : H) → live_from m at (event_effect after e name c h) ≡ judged_heard (byte_read machine.Refused zone name c (m, e)) at (effect_of_maybe after (byte_read machine.Refused zone name c (m, e)).mark.item h)
  same_byte zone m event.Nothing name c at h = refl
  same_byte zone m (event.Complete q) name c at h = same_judged m (record { zone = zone; item = Some (plain_item q) }) at (after h (plain_item q))
  same_byte zone m event.DataByte name c at h = same_judged m (outside_mark (Some (data_byte c))) at (after h (data_byte c))
  same_byte zone m event.InName name c at h = refl
  same_byte zone m (event.EmptyName kind) name c at h = same_judged m (outside_mark (name_item kind [])) at (effect_of_maybe after (name_item kind []) h)
  same_byte zone m (event.EndsName kind) name c at h =
      let text : List ℕ = name ++ c ∷ [] in
      let good : ByteRead Machine = record { at = m; name = []; mark = outside_mark (name_item kind text) } in
      let bad : ByteRead Machine = record { at = machine.Refused why.BadUtf8; name = []; mark = outside_mark None } in
      elim (is_utf8 text) as (λ v.
      live_from m at (and_then (cond v (effect_of_maybe after (name_item kind text) h) (Err why.BadUtf8)) (λ g. Ok ([], g)))
      ≡ judged_heard (cond v good bad) at (effect_of_maybe after (cond {A = ByteRead Machine} v good bad).mark.item h))
      [ true ↦ same_judged m (outside_mark (name_item kind text)) at (effect_of_maybe after (name_item kind text) h) | false ↦ refl ]

  pub settled_ok : (m : Machine) (name : List ℕ) (h : H) (at : ℕ) (l : Live H) → live_or_refused m name h at ≡ Ok l → record { machine = m; name = name; held = h; at = at } ≡ l
  settled_ok (machine.Refused w) name h at l e = cc
  settled_ok m name h at l e = cc

  settled_live : (m : Machine) (name : List ℕ) (h : H) (at : ℕ) → (IsRefused m → ⊥) → live_or_refused m name h at ≡ Ok (record { machine = m; name = name; held = h; at = at })
  settled_live (machine.Refused w) name h at n = absurd (n tt)
  settled_live m name h at n = refl

  pub settled_not : (m : Machine) (name : List ℕ) (h : H) (at : ℕ) (l : Live H) → live_or_refused m name h at ≡ Ok l → IsRefused m → ⊥
  settled_not (machine.Refused w) name h at l e i = cc
  settled_not m name h at l e i = i

  heard_ok : (d : ByteRead Machine) (at : ℕ) (r : Result H Why) (l : Live H) → judged_heard d at r ≡ Ok l → (g : H) × (r ≡ Ok g) × (record { machine = d.at; name = d.name; held = g; at = at } ≡ l) × (IsRefused d.at → ⊥)
  heard_ok d at (Ok g) l e = (g, refl, settled_ok d.at d.name g at l e, settled_not d.at d.name g at l e)
  heard_ok d at (Err w) l e = cc

  then_ok : {A B : Type 0} (r : Result A Refusal) (f : A → Result B Refusal) (y : B) → and_then r f ≡ Ok y → (x : A) × (r ≡ Ok x) × (f x ≡ Ok y)
  then_ok (Ok x) f y e = (x, refl, e)
  then_ok (Err r) f y e = cc

  abbrev pub state_of : Live H → MachineState
  state_of l = record { machine = l.machine; name = l.name }

  -- what a byte that was taken has done
  pub record Stepped (l : Live H) (c : ℕ) (m : Live H) : Type 0 where
    pub room : l.at < limit
    pub given : effect_of_maybe after (read_byte p (state_of l) c).mark.item l.held ≡ Ok m.held
    pub state : state_of m ≡ after_byte p (state_of l) c
    pub at : m.at ≡ l.at + 1
    pub live : IsRefused m.machine → ⊥

  pub live_ok : (l m : Live H) (c : ℕ) → live_byte after p limit l c ≡ Ok m → Stepped l c m
  live_ok l m c = cond_both (nat_lt l.at limit) _ _ (λ (r : Result (Live H) Refusal). r ≡ Ok m → Stepped l c m)
      (λ a e. let f = heard_ok (read_byte p (state_of l) c) (l.at + 1) (effect_of_maybe after (read_byte p (state_of l) c).mark.item l.held) m (sym (same_byte (zone_of l.machine) (step_of p l.machine c).0 (step_of p l.machine c).1 l.name c (l.at + 1) l.held) ∙ e) in
      record { room = ltb-true _ _ a; given = f.1 ∙ ap (λ (y : Live H). Ok y.held) f.2; state = sym (ap state_of f.2); at = sym (ap (λ (y : Live H). y.at) f.2); live = λ i. f.3 (subst IsRefused (sym (ap (λ (y : Live H). y.machine) f.2)) i) })
      (λ a e. cc)

  -- how far a decoder has come
  pub record Reached (l : Live H) (b : List ℕ) (m : Live H) : Type 0 where
    pub state : state_of m ≡ state_after p (state_of l) b
    pub at : m.at ≡ l.at + length b
    pub within : (b ≡ [] → ⊥) → l.at + length b ≤ limit
    pub held : all_given after l.held (marks p (state_of l) b) ≡ Ok m.held
    pub live : (IsRefused l.machine → ⊥) → IsRefused m.machine → ⊥

  reached_more : (c : ℕ) (b : List ℕ) (l n m : Live H) → Stepped l c n → Reached n b m → Reached l (c ∷ b) m
  reached_more c b l n m o r = record {
    state = r.state ∙ ap (λ s. state_after p s b) o.state;
    at = omega (arith, r.at, o.at);
    within = λ _. elim (cases_nil b) [ inl e ↦ omega (arith, o.room, ap length e) | inr ne ↦ omega (arith, r.within ne, o.at) ];
    held = ap (λ y. and_then y (λ g. all_given after g (marks p (after_byte p (state_of l) c) b))) o.given ∙ (ap (λ s. all_given after n.held (marks p s b)) (sym o.state) ∙ r.held);
    live = λ i. r.live o.live;
  }

  pub reached : (b : List ℕ) (l m : Live H) → decoder_after after p limit l b ≡ Ok m → Reached l b m
  reached [] l m e = let s : l ≡ m = cc in let t : l.at ≡ m.at = ap (λ (y : Live H). y.at) s in
      record { state = sym (ap state_of s); at = omega arith; within = λ n. absurd (n refl); held = ap (λ (y : Live H). Ok y.held) s; live = λ i j. i (subst IsRefused (sym (ap (λ (y : Live H). y.machine) s)) j) }
  reached (c ∷ b) l m e =
      let o = then_ok (live_byte after p limit l c) (λ n. decoder_after after p limit n b) m e in
      reached_more c b l o.0 m (live_ok l o.0 c o.1) (reached b o.0 m o.2)

  -- and back
  refused_step : (m : Machine) (name : List ℕ) (c : ℕ) → IsRefused m → IsRefused (byte_read machine.Refused (zone_of m) name c (step_of p m c)).at
  refused_step (machine.Refused w) name c r = tt
  refused_step m name c r = absurd r

  pub refused_run : (b : List ℕ) (s : MachineState) → IsRefused s.machine → IsRefused (state_after p s b).machine
  refused_run [] s r = r
  refused_run (c ∷ b) s r = refused_run b (after_byte p s c) (refused_step s.machine s.name c r)

  given_ok : (x : Mark) (k : Marks) (h g : H) → all_given after h (x ∷ k) ≡ Ok g → (f : H) × (effect_of_maybe after x.item h ≡ Ok f) × (all_given after f k ≡ Ok g)
  given_ok x k h g e = given_split (effect_of_maybe after x.item h) (λ f. all_given after f k) g e

  live_go : (l : Live H) (c : ℕ) (g : H) → l.at < limit → effect_of_maybe after (read_byte p (state_of l) c).mark.item l.held ≡ Ok g → (IsRefused (read_byte p (state_of l) c).at → ⊥)
      → live_byte after p limit l c ≡ Ok (record { machine = (read_byte p (state_of l) c).at; name = (read_byte p (state_of l) c).name; held = g; at = l.at + 1 })
  live_go l c g a o n =
      let d = read_byte p (state_of l) c in
      ap (λ v. cond v (live_from (step_of p l.machine c).0 (l.at + 1) (event_effect after (step_of p l.machine c).1 l.name c l.held)) (Err (record { at = limit + 1; why = why.TooLong }))) (lt-ltb l.at limit a)
      ∙ (same_byte (zone_of l.machine) (step_of p l.machine c).0 (step_of p l.machine c).1 l.name c (l.at + 1) l.held
      ∙ (ap (judged_heard d (l.at + 1)) o ∙ settled_live d.at d.name g (l.at + 1) n))

  pub reaches : (b : List ℕ) (l : Live H) (g : H) → l.at + length b ≤ limit → all_given after l.held (marks p (state_of l) b) ≡ Ok g → (IsRefused (state_after p (state_of l) b).machine → ⊥)
      → (m : Live H) × (decoder_after after p limit l b ≡ Ok m) × (m.held ≡ g) × (state_of m ≡ state_after p (state_of l) b)
  reaches [] l g a h n = (l, refl, cc, refl)
  reaches (c ∷ b) l g a h n =
      let f = given_ok (read_byte p (state_of l) c).mark (marks p (after_byte p (state_of l) c) b) l.held g h in
      let next : Live H = record { machine = (read_byte p (state_of l) c).at; name = (read_byte p (state_of l) c).name; held = f.0; at = l.at + 1 } in
      let room : next.at + length b ≤ limit = omega arith in
      let r = reaches b next g room f.2 n in
      let less : l.at < limit = omega arith in
      (r.0, ap (λ y. and_then y (λ m. decoder_after after p limit m b)) (live_go l c f.0 less f.1 (λ q. n (refused_run b (after_byte p (state_of l) c) q))) ∙ r.1, r.2, r.3)

  -- a whole input
  ended_between : (m : Machine) (h g : H) (at : ℕ) → answer_at_end_of m h at ≡ Ok g → MayEnd m × (h ≡ g)
  ended_between (machine.Between last counts) h g at e = between counts.functions counts.segments e
    where
      between : (n : ℕ) (s : Option ℕ) → answer_between n s h at ≡ Ok g → ((n ≡ 0) × Agrees s 0) × (h ≡ g)
      between (suc n) s e = cc
      between zero None e = ((refl, tt), cc)
      between zero (Some zero) e = ((refl, refl), cc)
      between zero (Some (suc n)) e = cc
  ended_between (machine.Refused w) h g at e = cc
  ended_between m h g at e = cc

  between_ended : (m : Machine) (h : H) (at : ℕ) → MayEnd m → answer_at_end_of m h at ≡ Ok h
  between_ended (machine.Between last counts) h at i = ap (λ n. answer_between n counts.segments h at) i.0 ∙ given counts.segments i.1
    where
      given : (s : Option ℕ) → Agrees s 0 → answer_between zero s h at ≡ Ok h
      given None a = refl
      given (Some zero) a = refl
      given (Some (suc n)) a = cc
  between_ended m h at i = absurd i

  between_live : (m : Machine) → MayEnd m → IsRefused m → ⊥
  between_live (machine.Between last counts) i r = r
  between_live m i r = absurd i

  within_of : (b : List ℕ) → ((b ≡ [] → ⊥) → 0 + length b ≤ limit) → length b ≤ limit
  within_of [] h = omega arith
  within_of (c ∷ b) h = omega (arith, h (λ e. cc))

  appended : (b : List ℕ) (f g : Live H → Result (Live H) Refusal) → ((m : Live H) → f m ≡ and_then (g m) (λ n. decoder_after after p limit n b)) → (r : Result (Live H) Refusal) → and_then r f ≡ and_then (and_then r g) (λ n. decoder_after after p limit n b)
  appended b f g h (Ok m) = h m
  appended b f g h (Err r) = refl

  pub decoded_append : (a b : List ℕ) (l : Live H) → decoder_after after p limit l (a ++ b) ≡ and_then (decoder_after after p limit l a) (λ m. decoder_after after p limit m b)
  decoded_append [] b l = refl
  decoded_append (c ∷ a) b l = appended b (λ m. decoder_after after p limit m (a ++ b)) (λ m. decoder_after after p limit m a) (λ m. decoded_append a b m) (live_byte after p limit l c)

  -- the bytes that were used when it was refused
  judged_at : (m : Machine) (name : List ℕ) (h : H) (at : ℕ) (r : Refusal) → live_or_refused m name h at ≡ Err r → r.at ≡ at
  judged_at (machine.Refused w) name h at r e = let s : record { at = at; why = w } ≡ r = cc in sym (ap (λ (y : Refusal). y.at) s)
  judged_at m name h at r e = cc

  heard_at : (d : ByteRead Machine) (at : ℕ) (q : Result H Why) (r : Refusal) → judged_heard d at q ≡ Err r → r.at ≡ at
  heard_at d at (Ok g) r e = judged_at d.at d.name g at r e
  heard_at d at (Err w) r e = let s : record { at = at; why = w } ≡ r = cc in sym (ap (λ (y : Refusal). y.at) s)

  pub byte_at : (l : Live H) (c : ℕ) (r : Refusal) → l.at ≤ limit → live_byte after p limit l c ≡ Err r → r.at ≡ l.at + 1
  byte_at l c r low = cond_both (nat_lt l.at limit) _ _ (λ (q : Result (Live H) Refusal). q ≡ Err r → r.at ≡ l.at + 1)
      (λ a e. heard_at (read_byte p (state_of l) c) (l.at + 1) (effect_of_maybe after (read_byte p (state_of l) c).mark.item l.held) r (sym (same_byte (zone_of l.machine) (step_of p l.machine c).0 (step_of p l.machine c).1 l.name c (l.at + 1) l.held) ∙ e))
      (λ a e. let s : record { at = limit + 1; why = why.TooLong } ≡ r = cc in let t : limit + 1 ≡ r.at = ap (λ (y : Refusal). y.at) s in omega (arith, ltb-false l.at limit a))

  settled_err : (m : Machine) (name : List ℕ) (h : H) (at : ℕ) (r : Refusal) → live_or_refused m name h at ≡ Err r → m ≡ machine.Refused r.why
  settled_err (machine.Refused w) name h at r e = let s : record { at = at; why = w } ≡ r = cc in ap (λ (y : Refusal). machine.Refused y.why) s
  settled_err m name h at r e = cc

  heard_err : (d : ByteRead Machine) (at : ℕ) (q : Result H Why) (r : Refusal) → judged_heard d at q ≡ Err r → (d.at ≡ machine.Refused r.why) ⊎ (q ≡ Err r.why)
  heard_err d at (Ok g) r e = inl (settled_err d.at d.name g at r e)
  heard_err d at (Err w) r e = let s : record { at = at; why = w } ≡ r = cc in inr (ap (λ (y : Refusal). Err y.why) s)

  -- why a byte was refused: for the limit, by the machine or by the sink
  pub live_err : (l : Live H) (c : ℕ) (r : Refusal) → live_byte after p limit l c ≡ Err r → (r.why ≡ why.TooLong) ⊎ (((read_byte p (state_of l) c).at ≡ machine.Refused r.why) ⊎ (effect_of_maybe after (read_byte p (state_of l) c).mark.item l.held ≡ Err r.why))
  live_err l c r = cond_both (nat_lt l.at limit) _ _ (λ (q : Result (Live H) Refusal). q ≡ Err r → (r.why ≡ why.TooLong) ⊎ (((read_byte p (state_of l) c).at ≡ machine.Refused r.why) ⊎ (effect_of_maybe after (read_byte p (state_of l) c).mark.item l.held ≡ Err r.why)))
      (λ a e. inr (heard_err (read_byte p (state_of l) c) (l.at + 1) (effect_of_maybe after (read_byte p (state_of l) c).mark.item l.held) r (sym (same_byte (zone_of l.machine) (step_of p l.machine c).0 (step_of p l.machine c).1 l.name c (l.at + 1) l.held) ∙ e)))
      (λ a e. let s : record { at = limit + 1; why = why.TooLong } ≡ r = cc in inl (sym (ap (λ (y : Refusal). y.why) s)))

  -- the byte that was refused, and what stood before it
  pub record Used (l : Live H) (b : List ℕ) (r : Refusal) : Type 0 where
    pub used : List ℕ
    pub byte : ℕ
    pub rest : List ℕ
    pub before : Live H
    pub bytes : b ≡ (used ++ byte ∷ []) ++ rest
    pub at : r.at ≡ l.at + length (used ++ byte ∷ [])
    pub taken : decoder_after after p limit l used ≡ Ok before
    pub refused : live_byte after p limit before byte ≡ Err r

  used_more : (l : Live H) (c : ℕ) (b : List ℕ) (r : Refusal) → l.at ≤ limit → (q : Result (Live H) Refusal) → live_byte after p limit l c ≡ q → and_then q (λ m. decoder_after after p limit m b) ≡ Err r
      → ((m : Live H) → live_byte after p limit l c ≡ Ok m → decoder_after after p limit m b ≡ Err r → Used m b r) → Used l (c ∷ b) r
  used_more l c b r low (Ok m) s e more =
      let u = more m s e in
      let o = live_ok l m c s in
      record { used = c ∷ u.used; byte = u.byte; rest = u.rest; before = u.before; bytes = ap (λ y. c ∷ y) u.bytes; at = omega (arith, u.at, o.at); taken = ap (λ y. and_then y (λ n. decoder_after after p limit n u.used)) s ∙ u.taken; refused = u.refused }
  used_more l c b r low (Err t) s e more =
      let same : t ≡ r = cc in
      record { used = []; byte = c; rest = b; before = l; bytes = refl; at = byte_at l c r low (s ∙ ap Err same); taken = refl; refused = s ∙ ap Err same }

  pub used_of : (b : List ℕ) (l : Live H) (r : Refusal) → l.at ≤ limit → decoder_after after p limit l b ≡ Err r → Used l b r
  used_of [] l r low e = cc
  used_of (c ∷ b) l r low e = used_more l c b r low (live_byte after p limit l c) refl e (λ m s f. let o = live_ok l m c s in let within : m.at ≤ limit = omega (arith, o.room, o.at) in used_of b m r within f)

  pub used_refused : (l : Live H) (b : List ℕ) (r : Refusal) (u : Used l b r) → decoder_after after p limit l (u.used ++ u.byte ∷ []) ≡ Err r
  used_refused l b r u =
      decoded_append u.used (u.byte ∷ []) l ∙ (ap (λ y. and_then y (λ m. decoder_after after p limit m (u.byte ∷ []))) u.taken ∙ ap (λ y. and_then y (λ m. decoder_after after p limit m [])) u.refused)

  length_marks : (b : List ℕ) (s : MachineState) → length (marks p s b) ≡ length b
  length_marks [] s = refl
  length_marks (c ∷ b) s = ap suc (length_marks b (after_byte p s c))

pub begin_fits : 0 < 8
begin_fits = omega arith

-- what is said of the bytes of a module is what the machine says
pub items_are : (p : Profile) (b : List ℕ) (k : Marks) → AreBytes b → Items p b k → (k ≡ marks p state_at_start b) × MayEnd (state_after p state_at_start b).machine
items_are p b k bytes i =
    let whole : Items p (b ++ []) k = subst (λ y. Items p y k) (sym (append-nil b)) i in
    let g = run_to strict p tt state_at_start b [] k bytes begin_fits (begin_to strict p (b ++ []) k whole) in
    let d = ends strict p tt (state_after p state_at_start b).machine (state_after p state_at_start b).name g.0 (run_fits p state_at_start b bytes begin_fits) g.2 in
    (g.1 ∙ (ap (λ y. marks p state_at_start b ++ y) d.0 ∙ append-nil (marks p state_at_start b)), d.1)

module _ {H : Type 0} (after : H → Item → Result H Why) (s : Setting H) where
  abbrev Starts : Live H
  Starts = live_at_start s.first

  pub takes_of_ended : (last : H) (b : List ℕ) → AreBytes b → and_then (decoder_after after s.profile s.limit Starts b) answer_at_end ≡ Ok last → Takes after s b last
  takes_of_ended last b bytes e =
      let o = then_ok after s.profile s.limit (decoder_after after s.profile s.limit Starts b) answer_at_end last e in
      let r = reached after s.profile s.limit b Starts o.0 o.1 in
      let d = ended_between after s.profile s.limit o.0.machine o.0.held last o.0.at o.2 in
      let m : o.0.machine ≡ (state_after s.profile state_at_start b).machine = ap (λ (y : MachineState). y.machine) r.state in
      let rest : MachineRest strict s.profile (state_after s.profile state_at_start b).machine (state_after s.profile state_at_start b).name [] [] = may_end strict s.profile (state_after s.profile state_at_start b).machine (state_after s.profile state_at_start b).name (subst MayEnd m d.0) in
      let all : Items s.profile (b ++ []) (marks s.profile state_at_start b ++ []) = begin_from strict s.profile (b ++ []) (marks s.profile state_at_start b ++ []) (run_from strict s.profile state_at_start b [] [] bytes begin_fits rest) in
      record {
        items = marks s.profile state_at_start b;
        module_items = subst (λ k. Items s.profile b k) (append-nil (marks s.profile state_at_start b)) (subst (λ y. Items s.profile y (marks s.profile state_at_start b ++ [])) (append-nil b) all);
        within = within_of after s.profile s.limit b r.within;
        taken = sym (given_taken after (marks s.profile state_at_start b) s.first) ∙ (r.held ∙ ap Ok d.1);
      }

  -- the marks of any module that begins so
  pub begins_with : (b more : List ℕ) (k : Marks) → AreBytes b → Items s.profile (b ++ more) k → (later : Marks) × (k ≡ marks s.profile state_at_start b ++ later) × StateRest strict s.profile (state_after s.profile state_at_start b) more later
  begins_with b more k bytes i = run_to strict s.profile tt state_at_start b more k bytes begin_fits (begin_to strict s.profile (b ++ more) k i)

  not_refused : (m : Machine) (name : List ℕ) (b : List ℕ) (k : Marks) → MachineRest strict s.profile m name b k → IsRefused m → ⊥
  not_refused (machine.Refused w) name b k h i = h
  not_refused m name b k h i = i

  -- a front of what the sink takes is not refused
  pub front_taken : (b more : List ℕ) (last : H) → AreBytes b → Takes after s (b ++ more) last → (m : Live H) × (decoder_after after s.profile s.limit Starts b ≡ Ok m)
  front_taken b more last bytes t =
      let g = begins_with b more t.items bytes t.module_items in
      let all : all_given after s.first (marks s.profile state_at_start b ++ g.0) ≡ Ok last = ap (all_given after s.first) (sym g.1) ∙ (given_taken after t.items s.first ∙ t.taken) in
      let f = given_front after (marks s.profile state_at_start b) g.0 s.first last all in
      let room : 0 + length b ≤ s.limit = omega (arith, t.within, length-append b more) in
      let r = reaches after s.profile s.limit b Starts f.0 room f.1 (λ i. not_refused (state_after s.profile state_at_start b).machine (state_after s.profile state_at_start b).name more g.0 g.2 i) in
      (r.0, r.1)
    where
      length-append : (a b : List ℕ) → length (a ++ b) ≡ length a + length b
      length-append [] b = omega arith
      length-append (c ∷ a) b = let e : length (a ++ b) ≡ length a + length b = length-append a b in omega arith

  pub never : (b more : List ℕ) (last : H) (r : Refusal) → AreBytes b → decoder_after after s.profile s.limit Starts b ≡ Err r → Takes after s (b ++ more) last → ⊥
  never b more last r bytes e t = let f = front_taken b more last bytes t in let no_way : Err r ≡ Ok f.0 = sym e ∙ f.1 in cc

  ended_held : (x : Result (Live H) Refusal) (m : Live H) (last : H) → x ≡ Ok m → MayEnd m.machine → m.held ≡ last → and_then x answer_at_end ≡ Ok last
  ended_held x m last e i h =
      let at_end : and_then x answer_at_end ≡ answer_at_end_of m.machine m.held m.at = ap (λ y. and_then y answer_at_end) e in
      at_end ∙ (between_ended after s.profile s.limit m.machine m.held m.at i ∙ ap Ok h)

  pub ended_of_takes : (last : H) (b : List ℕ) → AreBytes b → Takes after s b last → and_then (decoder_after after s.profile s.limit Starts b) answer_at_end ≡ Ok last
  ended_of_takes last b bytes t =
      let i = items_are s.profile b t.items bytes t.module_items in
      let given : all_given after s.first (marks s.profile state_at_start b) ≡ Ok last = ap (all_given after s.first) (sym i.0) ∙ (given_taken after t.items s.first ∙ t.taken) in
      let room : 0 + length b ≤ s.limit = omega (arith, t.within) in
      let r = reaches after s.profile s.limit b Starts last room given (between_live after s.profile s.limit (state_after s.profile state_at_start b).machine i.1) in
      let m : (state_after s.profile state_at_start b).machine ≡ r.0.machine = sym (ap (λ (y : MachineState). y.machine) r.3) in
      ended_held (decoder_after after s.profile s.limit Starts b) r.0 last r.1 (subst MayEnd m i.1) r.2

  -- the marks so far are those of any module that begins so
  pub marks_taken : (b more : List ℕ) (k : Marks) → AreBytes b → Items s.profile (b ++ more) k → marks s.profile state_at_start b ≡ take (length b) k
  marks_taken b more k bytes i =
      let g = begins_with b more k bytes i in
      sym (ap (take (length b)) g.1 ∙ take_at (marks s.profile state_at_start b) g.0 (length b) (length_marks after s.profile s.limit b state_at_start))

  -- what a sink has taken of any module that begins so
  pub so_far : (b more : List ℕ) (k : Marks) (m : Live H) → AreBytes b → decoder_after after s.profile s.limit Starts b ≡ Ok m → Items s.profile (b ++ more) k → all_taken after s.first (items_at (take (length b) k)) ≡ Ok m.held
  so_far b more k m bytes e i =
      ap (λ y. all_taken after s.first (items_at y)) (sym (marks_taken b more k bytes i)) ∙ (sym (given_taken after (marks s.profile state_at_start b) s.first) ∙ (reached after s.profile s.limit b Starts m e).held)
