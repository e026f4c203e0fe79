-- Lemmas about the output of actions: the output and the status are right for the input, or for its bytes read so far.
use Rattle.std.proofs.KnownBytes.{Appends-trans}
use Rattle.std.proofs.Math.Seq.{take-length}
use Rattle.std.proofs.Math.Logic.{∥∥₁_elim}
use Rattle.std.specs.Io.KnownBytes.{Appends, Consumes, IsAtEnd}
use Rattle.std.proofs.Common.{◌≢◌, ℕ, zero, suc, Bool, true, false, subst, sym, append-nil, take, List, [], ◌++◌, Option, Some, None, Err, IfSome, inl, inr, refl, ◌≤◌, ◌<◌, ◌≡◌, ◌+◌, ◌∙◌, ap, length, length-append, arith}
use Rattle.wm_syntax.specs.declared.profile.Profile.{Profile}
use Rattle.wm_syntax.specs.declared.why.Why.{Why}
use Rattle.wm_syntax.specs.declared.why.Why.TheVariants.{Memory, TooLong}
use Rattle.wm_machine.specs.declared.refusal.Refusal.{Refusal}
use Rattle.wm_command.specs.declared.status.Status.{Status}
use Rattle.wm_command.specs.declared.status.Status.TheVariants as status
use Rattle.wm_command.specs.declared.arguments.Action.TheVariants.{Check, Stats, Canon, Show, Build}
use Rattle.wm_command.specs.Answers.{IsAnswered}
use Rattle.wm_syntax.specs.Modules.{Module}
use Rattle.wm_syntax.specs.Values.{value_of}
use Rattle.wm_rules.specs.Loading.{IsLoaded, Loads}
use Rattle.wm_rules.specs.declared.loader.state.Checked.{Checked}
use Rattle.wm_rules.specs.inner.Loaders.{module_in}
use Rattle.wm_write.specs.Canon.{Fits, canon}
use Rattle.wm_write.specs.Layout.{layout}
use Rattle.wm_write.proofs.SegmentFronts.{valid_fits}
use Rattle.wm_command.specs.declared.arguments.Action.{Action}
use Rattle.wm_rules.specs.declared.policy.Policy.{Policy}
use Rattle.wm_read.specs.declared.spellings.Spellings.{Spellings}
use Rattle.wm_rules.specs.Reading.{AnswersSource, LoadedInput, RefusedInput}
use Rattle.wm_rules.specs.declared.found.Found.{Found}
use Rattle.wm_rules.specs.declared.reading.FromFault.{FromFault}
use Rattle.wm_rules.specs.declared.reading.FromFault.TheVariants as fault
use Rattle.wm_command.specs.Outcome.{IsOutput, IsRefusalLine, IsReport, IsRightFor, OutOf}
use Rattle.wm_command.specs.Building.{ModuleOut, TextOut}
use Rattle.wm_command.specs.Refused.{refusal_line}
use Rattle.wm_rules.specs.Validation.{Accepted}
use Rattle.wm_rules.specs.Validating.{NeverAccepted}
use Rattle.wm_rules.specs.Meanings.{Meaning}
use Rattle.wm_rules.specs.inner.Validators.{verdict}

-- The action reads a binary.
abbrev pub IsJudged : Action → Type 0
IsJudged Build = ⊥
IsJudged _ = Unit {0}

line_of_action : (action : Action) → IsJudged action → (place : ℕ) (why : Why) → why ≢ Memory → IsRefusalLine action (refusal_line place why)
line_of_action Check j place why n = (place, why, n, refl)
line_of_action Stats j place why n = (place, why, n, refl)
line_of_action Canon j place why n = (place, why, n, refl)
line_of_action Show j place why n = (place, why, n, refl)
line_of_action Build j place why n = absurd j

refused_out : (action : Action) → IsJudged action → (p : Profile) (limit : ℕ) (q : Policy) (s : Spellings) (input : List ℕ) (r : Refusal) → r.why ≢ Memory → (Accepted p limit q input → ⊥) → r.at ≤ length input
    → verdict p limit q input ≡ Err r → Meaning p limit q input r → OutOf action p limit q s input (refusal_line r.at r.why) status.Refused
refused_out Check j p limit q s input r why none place same means = inr (none, (r, why, place, same, means, refl), refl)
refused_out Stats j p limit q s input r why none place same means = inr (none, (r, why, place, same, means, refl), refl)
refused_out Canon j p limit q s input r why none place same means = inr (none, (r, why, place, same, means, refl), refl)
refused_out Show j p limit q s input r why none place same means = inr (none, (r, why, place, same, means, refl), refl)
refused_out Build j p limit q s input r why none place same means = absurd j

early_out : (action : Action) → IsJudged action → (p : Profile) (limit : ℕ) (q : Policy) (s : Spellings) (input : List ℕ) (left : Option (List ℕ)) (r : Refusal) → r.why ≢ Memory → NeverAccepted p limit q input r
    → IsRightFor action p limit q s input left (refusal_line r.at r.why) status.Refused
early_out action j p limit q s input left r why n = inr (
  n.used,
  n.rest,
  n.whole,
  λ more.
      let size : length (n.used ++ more) ≡ length n.used + length more = length-append n.used more in
      refused_out action j p limit q s (n.used ++ more) r why (n.never more) (omega (arith, size, n.at)) (n.same more) (n.means more),
)

out_of_refusal : (action : Action) → IsJudged action → (p : Profile) (limit : ℕ) (q : Policy) (s : Spellings) (all left : Option (List ℕ)) (r : Refusal) → r.why ≢ Memory
    → IfSome all (λ input. RefusedInput p limit q input left r) → IfSome all (λ input. IsRightFor action p limit q s input left (refusal_line r.at r.why) status.Refused)
out_of_refusal action judged p limit q s None left r why j = tt
out_of_refusal action judged p limit q s (Some input) left r why j =
    elim (j.not_accepted why) [
      | inl n ↦ early_out action judged p limit q s input left r why n
      | inr e ↦ inl (e.0, refused_out action judged p limit q s input r why e.1 (omega (arith, j.place)) (j.same why) (j.means why))
    ]

-- The line of an input's refusal is an output of the action, and right for the bytes read.
pub out_of_fault : {A : Type 0} (IsRight : List ℕ → Option (List ℕ) → A → Type 0) (action : Action) → IsJudged action → (p : Profile) (limit : ℕ) (q : Policy) (s : Spellings) (all left : Option (List ℕ)) (f : FromFault)
    → AnswersSource IsRight p limit q all left (Err f) → (r : Refusal) → (x : Found) × (f ≡ fault.Refused r x) → r.why ≢ Memory
    → IsOutput action (refusal_line r.at r.why) status.Refused
    × IfSome all (λ input. IsRightFor action p limit q s input left (refusal_line r.at r.why) status.Refused)
out_of_fault IsRight action judged p limit q s all left f answers r is why = (
  inr (line_of_action action judged r.at r.why why, refl),
  out_of_refusal action judged p limit q s all left r why (subst (λ z. AnswersSource IsRight p limit q all left (Err z)) is.1 answers),
)

-- The action writes `form m` for a module m that it loaded.
pub record WritesOf (action : Action) (form : Module → List ℕ) : Type 0 where
  pub out : (p : Profile) (limit : ℕ) (q : Policy) (s : Spellings) (input : List ℕ) (m : Module) → Accepted p limit q input → Loads p limit q input m → OutOf action p limit q s input (form m) status.Done
  pub report : (m : Module) → IsReport action (form m)

pub writes_canon : (action : Action) → action ≡ Canon → WritesOf action canon
writes_canon action is =
    subst (λ a. WritesOf a canon) (sym is) (record { out = λ p limit q s input m a l. inl (a, (m, l, refl), refl); report = λ m. (m, refl) })

pub writes_layout : (action : Action) → action ≡ Show → WritesOf action layout
writes_layout action is =
    subst (λ a. WritesOf a layout) (sym is) (record { out = λ p limit q s input m a l. inl (a, (m, l, refl), refl); report = λ m. (m, refl) })

-- The bytes written for a loaded module are right for its input.
loaded_out : (action : Action) (form : Module → List ℕ) → WritesOf action form → (p : Profile) (limit : ℕ) (q : Policy) (s : Spellings) (all left : Option (List ℕ)) (c : Checked)
    → IfSome all (λ input. LoadedInput p limit q input left c)
    → IfSome all (λ input. IsRightFor action p limit q s input left (form (value_of (module_in c))) status.Done)
loaded_out action form w p limit q s None left c j = tt
loaded_out action form w p limit q s (Some input) left c j =
    let m = value_of (module_in c) in
    let accepted : Accepted p limit q input = record { module_value = m; spelled = j.loads.spelled; of_profile = j.loads.of_profile; valid = j.loads.valid; within = j.loads.within } in
    inl (j.at_end, w.out p limit q s input m accepted j.loads)

pub out_of_loaded : (action : Action) (form : Module → List ℕ) → WritesOf action form → (p : Profile) (limit : ℕ) (q : Policy) (s : Spellings) (all left : Option (List ℕ)) (c : Checked)
    → IfSome all (λ input. LoadedInput p limit q input left c)
    → IsOutput action (form (value_of (module_in c))) status.Done
    × IfSome all (λ input. IsRightFor action p limit q s input left (form (value_of (module_in c))) status.Done)
out_of_loaded action form w p limit q s all left c j = (inl (w.report (value_of (module_in c)), refl), loaded_out action form w p limit q s all left c j)

-- No section of a loaded module is too large.
pub loaded_fits : (m : Module) → ∥ IsLoaded m ∥₁ → (¬ Fits m) → ⊥
loaded_fits m l n = ∥∥₁_elim l (λ x y. absurd x) (λ h. n (valid_fits h.profile m h.bytes h.loads.valid h.loads.spelled.1))

-- A text was written whole, and then the writer was flushed.
take-nil : (n : ℕ) → ◌≡◌ {A = List ℕ} (take n []) []
take-nil zero = refl
take-nil (suc n) = refl

pub flushed : (text : List ℕ) (wanted : Status) (old mid new : Option (List ℕ)) (failed on : Bool) (result : Status) → Appends old mid text
    → IsAnswered [] wanted mid new failed on result → IsAnswered text wanted old new failed on result
flushed text wanted old mid new false on result p q = (subst (Appends old new) (append-nil text) (Appends-trans old mid new text [] p q.0), q.1, q.2)
flushed text wanted old mid new true on result p q =
    let all : Appends old new text = subst (Appends old new) (append-nil text) (Appends-trans old mid new text [] p (subst (Appends mid new) (take-nil q.0.0) q.0.2)) in
    ((length text, omega arith, subst (Appends old new) (sym (take-length text)) all), q.1)

-- The writer failed after a prefix of a text.
pub unwritten : (text : List ℕ) (wanted : Status) (old new : Option (List ℕ)) (failed on : Bool) → failed ≡ true
    → (n : ℕ) × (n ≤ length text) × Appends old new (take n text) → IsAnswered text wanted old new failed on status.Io
unwritten text wanted old new true on e out = (out, refl)
unwritten text wanted old new false on e out = absurd cc

-- A flag is not both.
pub not_both : (b : Bool) → b ≡ true → b ≡ false → ⊥
not_both b is is_not = let both = sym is ∙ is_not in cc

-- A run that refused its input wrote the whole line.
pub appended : (text : List ℕ) (wanted : Status) (old new : Option (List ℕ)) (failed on : Bool) (result : Status) → IsAnswered text wanted old new failed on result → result ≡ status.Refused
    → Appends old new text
appended text wanted old new false on result p is = p.0
appended text wanted old new true on result p is = let no = sym is ∙ p.1 in cc

-- The bytes read are longer than the limit.
pub longer : (limit : ℕ) (all left : Option (List ℕ)) (read : List ℕ) → Consumes all left read → limit < length read
    → IfSome all (λ input. (read rest : List ℕ) × (input ≡ read ++ rest) × (limit < length read))
longer limit None left read c lt = tt
longer limit (Some input) None read c lt = absurd c
longer limit (Some input) (Some rest) read c lt = (read, rest, c, lt)

-- The bytes read are the whole input.
pub read_whole : (limit : ℕ) (all left : Option (List ℕ)) (read : List ℕ) → Consumes all left read → length read ≤ limit → IsAtEnd left
    → IfSome all (λ input. IsAtEnd left × (read ≡ input) × (length input ≤ limit))
read_whole limit None left read c le e = tt
read_whole limit (Some input) None read c le e = absurd c
read_whole limit (Some input) (Some rest) read c le e =
    let is : input ≡ read = c ∙ ap (λ z. read ++ z) e ∙ append-nil read in
    (e, sym is, subst (λ z. length z ≤ limit) (sym is) le)

-- ---- texts

module_output : (p : Profile) (q : Policy) (m : Module) (written : List ℕ) (status : Status) → ModuleOut p q m written status → IsOutput Build written status
module_output p q m written status (inl (v, w, f, e, s)) = inl ((m, e), s)
module_output p q m written status (inr (inl (n, f, (r, why, place, same, means, e), s))) = inr (inr (inr (inl (r.at, r.why, why, e))), s)
module_output p q m written status (inr (inr (n, e, s))) = inr (inr (inr (inr e)), s)

pub text_output : (p : Profile) (q : Policy) (s : Spellings) (text written : List ℕ) (status : Status) → TextOut p q s text written status → IsOutput Build written status
text_output p q s text written status (inl (m, t, out)) = module_output p q m written status out
text_output p q s text written status (inr (n, (place, why, w, le, tells, e), is)) = inr (inr (inl (text, place, why, w, e)), is)

-- The output for a text that was read whole is right. The refusal of a text longer than the limit is right too.
pub right_text : (p : Profile) (limit : ℕ) (q : Policy) (s : Spellings) (all left : Option (List ℕ)) (read written : List ℕ) (status : Status)
    → IfSome all (λ input. IsAtEnd left × (read ≡ input) × (length input ≤ limit)) → TextOut p q s read written status
    → IfSome all (λ input. IsRightFor Build p limit q s input left written status)
right_text p limit q s None left read written status h out = tt
right_text p limit q s (Some input) left read written status h out = inl (h.0, inl (h.2, subst (λ z. TextOut p q s z written status) h.1 out))

pub right_long : (p : Profile) (limit : ℕ) (q : Policy) (s : Spellings) (all left : Option (List ℕ))
    → IfSome all (λ input. (read rest : List ℕ) × (input ≡ read ++ rest) × (limit < length read))
    → IfSome all (λ input. IsRightFor Build p limit q s input left (refusal_line (limit + 1) TooLong) status.Refused)
right_long p limit q s None left h = tt
right_long p limit q s (Some input) left (read, rest, e, lt) = inr (read, rest, e, λ more. inr (omega (arith, lt, length-append read more), refl, refl))
