-- Lemmas about conversions: the bytes are in the buffer, or are longer than it, or the input was refused.
use Rattle.std.proofs.Common.{◌≡◌, ◌<◌, ◌≤◌, ℕ, List, Bool, true, false, Err, nat_lt, length, inl, inr, refl, sym, ap, subst, arith, ◌⊎◌}
use Rattle.std.proofs.lemmas.Bool.{ltb-true, ltb-false}
use Rattle.wm_syntax.specs.declared.profile.Profile.{Profile}
use Rattle.wm_syntax.specs.Modules.{Module}
use Rattle.wm_machine.specs.declared.refusal.Refusal.{Refusal}
use Rattle.wm_rules.specs.declared.policy.Policy.{Policy}
use Rattle.wm_rules.specs.Loading.{Loads}
use Rattle.wm_write.specs.Canon.{canon}
use Rattle.wm_write.proofs.SegmentFronts.{valid_shortest}
use Rattle.wm_c.specs.Answers.{IsRight}
use Rattle.wm_c.specs.declared.options.Options.{Options}
use Rattle.wm_c.specs.declared.output.Output.{Output}
use Rattle.wm_c.specs.Conversions.{Builds, Converted, ConvertedFrom, ConvertedText, Fills, IsMemory, IsRefused, IsUnbuilt, misuse, no_room, refuses, unbuilt, wrote}
use Rattle.wm_c.specs.declared.output.Unbuilt.{Unbuilt}
use Rattle.wm_c.specs.Options.{Asking, Asks, spellings_of}
use Rattle.wm_c.proofs.Statuses.{not_memory, one_or_four, refused_memory, unbuilt_length, unbuilt_memory, unbuilt_status}

-- The types of `Of` and of `Refuses` of a conversion.
abbrev pub Relation : Type 1
Relation = Profile → ℕ → Policy → Module → Type 0

abbrev pub Refusing : Type 1
Refusing = Profile → ℕ → Policy → Output → Type 0

-- The text is the bytes to write of a module for which `Of` holds.
abbrev pub Makes : Relation → (Module → List ℕ) → Options → List ℕ → Type 0
Makes Of form o text = Asking o (λ p limit q. (m : Module) × Of p limit q m × (text ≡ form m))

fits : (Of : Relation) (form : Module → List ℕ) (R : Refusing) (o : Options) (text before after : List ℕ) → Makes Of form o text → Fills text before after
    → Converted Of form R o before after (wrote (length text))
fits Of form R o text before after (p, a, (m, l, is)) f = record {
  status = inl refl;
  written = λ e. (p, a, (m, l, subst (λ t. Fills t before after) is f, ap (λ t. wrote (length t)) is));
  room = λ e. absurd (omega (arith, e));
  refused = λ e. absurd (elim e [
    | inl h ↦ omega (arith, h)
    | inr h ↦ omega (arith, h)
  ]);
  misused = λ e. absurd (omega (arith, e));
  memory = λ e. absurd (omega (arith, e));
  untouched = λ n. absurd (n refl);
}

longer : (Of : Relation) (form : Module → List ℕ) (R : Refusing) (o : Options) (text before : List ℕ) → Makes Of form o text → length before < length text
    → Converted Of form R o before before (no_room (length text))
longer Of form R o text before (p, a, (m, l, is)) lt = record {
  status = inr (inr (inr (inr refl)));
  written = λ e. absurd (omega (arith, e));
  room = λ e. (p, a, (m, l, subst (λ t. length before < length t) is lt, ap (λ t. no_room (length t)) is));
  refused = λ e. absurd (elim e [
    | inl h ↦ omega (arith, h)
    | inr h ↦ omega (arith, h)
  ]);
  misused = λ e. absurd (omega (arith, e));
  memory = λ e. absurd (omega (arith, e));
  untouched = λ n. refl;
}

given : (Of : Relation) (form : Module → List ℕ) (R : Refusing) (o : Options) (text before after : List ℕ) (out : Output) → Makes Of form o text
    → (length text ≤ length before → (out ≡ wrote (length text)) × Fills text before after)
    → (length before < length text → (out ≡ no_room (length text)) × (after ≡ before))
    → Converted Of form R o before after out
given Of form R o text before after out makes whole room = by (nat_lt (length before) (length text)) refl
  where
    by : (t : Bool) → nat_lt (length before) (length text) ≡ t → Converted Of form R o before after out
    by true e =
        let lt = ltb-true (length before) (length text) e in
        let r = room lt in
        subst (λ (x : Output). Converted Of form R o before after x) (sym r.0) (subst (λ (x : List ℕ). Converted Of form R o before x (no_room (length text))) (sym r.1)
        (longer Of form R o text before makes lt))
    by false e =
        let w = whole (ltb-false (length before) (length text) e) in
        subst (λ (x : Output). Converted Of form R o before after x) (sym w.0) (fits Of form R o text before after makes w.1)

-- The bytes made as `items` are borrowed as `text`, and the buffer and the output are handed on.
pub converted : (Of : Relation) (form : Module → List ℕ) (R : Refusing) (o : Options) (items text before new after : List ℕ) (result out : Output) → Makes Of form o items
    → text ≡ items → (length text ≤ length before → (result ≡ wrote (length text)) × Fills text before new)
    → (length before < length text → (result ≡ no_room (length text)) × (new ≡ before)) → after ≡ new → out ≡ result
    → Converted Of form R o before after out
converted Of form R o items text before new after result out makes lent whole room is_new is_result =
    subst (λ (x : Output). Converted Of form R o before after x) (sym is_result)
    (subst (λ (x : List ℕ). Converted Of form R o before x result) (sym is_new)
    (given Of form R o text before new result (subst (λ (t : List ℕ). Makes Of form o t) (sym lent) makes) whole room))

-- The output is that of a refusal, `Memory` included, and nothing was written.
pub refusing : (Of : Relation) (form : Module → List ℕ) (R : Refusing) (o : Options) (before after : List ℕ) (out : Output) → ((n : ℕ) → out.status ≡ n → (n ≡ 1) ⊎ (n ≡ 4))
    → (out.status ≡ 4 → IsMemory out.why × (out.length ≡ 0)) → Asking o (λ p limit q. R p limit q out) → after ≡ before → Converted Of form R o before after out
refusing Of form R o before after out statuses memory refused same = record {
  status = elim (statuses out.status refl) [
    | inl one ↦ inr (inl one)
    | inr four ↦ inr (inr (inr (inl four)))
  ];
  written = λ e. absurd (elim (statuses 0 e) [
    | inl h ↦ omega (arith, h)
    | inr h ↦ omega (arith, h)
  ]);
  room = λ e. absurd (elim (statuses 5 e) [
    | inl h ↦ omega (arith, h)
    | inr h ↦ omega (arith, h)
  ]);
  refused = λ e. refused;
  misused = λ e. absurd (elim (statuses 2 e) [
    | inl h ↦ omega (arith, h)
    | inr h ↦ omega (arith, h)
  ]);
  memory = memory;
  untouched = λ n. same;
}

pub misusing : (Of : Relation) (form : Module → List ℕ) (R : Refusing) (o : Options) (before after : List ℕ) (out : Output) → out ≡ misuse
    → ((p : Profile) → Asks o p → ⊥) → after ≡ before → Converted Of form R o before after out
misusing Of form R o before after out is never same =
    subst (λ (x : Output). Converted Of form R o before after x) (sym is) (record {
      status = inr (inr (inl refl));
      written = λ e. absurd (omega (arith, e));
      room = λ e. absurd (omega (arith, e));
      refused = λ e. absurd (elim e [
        | inl h ↦ omega (arith, h)
        | inr h ↦ omega (arith, h)
      ]);
      misused = λ e. (refl, never);
      memory = λ e. absurd (omega (arith, e));
      untouched = λ n. same;
    })

-- A right refusal of a module's bytes is an end of their conversion.
pub refused_from : (form : Module → List ℕ) (o : Options) (input before after : List ℕ) (r : Refusal) (out : Output)
    → Asking o (λ p limit q. IsRight p limit q input (Err r)) → out ≡ refuses r → after ≡ before → ConvertedFrom form o input before after out
refused_from form o input before after r out (p, a, right) is same =
    subst (λ (x : Output). ConvertedFrom form o input before after x) (sym is)
    (refusing (λ p limit q m. Loads p limit q input m) form (IsRefused input) o before after (refuses r) (one_or_four r.why) (λ e. (refused_memory r.why e, refl))
    (p, a, (r, not_memory r.why, right, refl)) same)

-- A reason for which no binary is given for a text is an end of its conversion.
pub unbuilt_from : (o : Options) (input before after : List ℕ) (u : Unbuilt) (out : Output)
    → Asking o (λ p limit q. IsUnbuilt (spellings_of o) input p limit q u) → out ≡ unbuilt u → after ≡ before → ConvertedText o input before after out
unbuilt_from o input before after u out (p, a, why) is same =
    subst (λ (x : Output). ConvertedText o input before after x) (sym is)
    (refusing (Builds (spellings_of o) input) canon (λ p limit q out. (u : Unbuilt) × IsUnbuilt (spellings_of o) input p limit q u × (out ≡ unbuilt u)) o before after (unbuilt u)
    (unbuilt_status u) (λ e. (unbuilt_memory u e, unbuilt_length u)) (p, a, (u, why, refl)) same)

-- A buffer as long as the input is enough for the canonical binary.
pub enough : (o : Options) (input before after : List ℕ) (out : Output) → ConvertedFrom canon o input before after out
    → length input ≤ length before → out.status ≡ 5 → ⊥
enough o input before after out c room five = by (c.room five)
  where
    by : Asking o (λ p limit q. (m : Module) × Loads p limit q input m × (length before < length (canon m)) × (out ≡ no_room (length (canon m)))) → ⊥
    by (p, a, (m, l, lt, is)) = absurd (omega (arith, room, lt, valid_shortest p m input l.valid l.spelled.1))
