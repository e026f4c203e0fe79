-- The readers of values: the possible rest of a value, and how each byte continues it.
use Rattle.std.proofs.Common.{◌≡◌, ℕ, zero, suc, ◌<◌, ◌^◌, ◌↔◌, Bool, true, false, List, [], ◌∷◌, ◌++◌, Option, Some, None, refl, sym, ◌∙◌, ap, subst, inl, inr, ◌⊎◌, append-nil, nat_eq, arith, Result, Ok, Err}
use Rattle.std.proofs.lemmas.Bool.{cond_both, eqb-true, eqb-false}
use Rattle.wm_syntax.specs.declared.numbers.Step.{Step}
use Rattle.wm_syntax.specs.declared.numbers.Step.TheVariants as step
use Rattle.wm_syntax.specs.inner.Numbers.{Partial}
use Rattle.wm_syntax.specs.exact.Reading.{fresh, unsigned_push}
use Rattle.wm_syntax.specs.Spelling.{Form, Byte, ◌▸◌}
use Rattle.wm_syntax.specs.Types.{SpellsU32, SpellsValType, SpellsBounds, SpellsLimits, SpellsTableType, SpellsVar, SpellsGlobalType, type_byte}
use Rattle.wm_syntax.specs.declared.profile.Profile.{Profile}
use Rattle.wm_syntax.specs.Profiles.{has, type_feature, HasType, HasDesc}
use Rattle.wm_syntax.specs.declared.why.Why.{Why}
use Rattle.wm_syntax.specs.declared.types.ValType.{ValType}
use Rattle.wm_syntax.proofs.SameTypes.{byte_tells}
use Rattle.wm_syntax.specs.declared.types.ValType.TheVariants.{I32, I64, F32, F64}
use Rattle.wm_syntax.specs.declared.types.Limits.{Limits}
use Rattle.wm_syntax.specs.declared.types.GlobalType.{GlobalType}
use Rattle.wm_syntax.specs.declared.modules.ImportDesc.{ImportDesc}
use Rattle.wm_syntax.specs.declared.modules.ImportDesc.TheVariants as desc
use Rattle.wm_syntax.specs.declared.modules.ExportKind.{ExportKind}
use Rattle.wm_syntax.specs.declared.modules.ExportKind.TheVariants as kind
use Rattle.wm_machine.specs.Sections.{Those, SpellsDesc, SpellsRun, kind_byte}
use Rattle.wm_machine.specs.Grammar.{HasGlobalType}
use Rattle.wm_machine.specs.exact.Readings.{Goes}
use Rattle.wm_machine.specs.declared.machine.Plain.{Plain}
use Rattle.wm_machine.specs.declared.machine.Plain.TheVariants as plain
use Rattle.wm_machine.specs.declared.step.reading.Reading.{Reading}
use Rattle.wm_machine.specs.declared.step.reading.Reading.TheVariants.{More, Done, Bad}
use Rattle.wm_machine.specs.declared.step.values.InLimits.{InLimits}
use Rattle.wm_machine.specs.declared.step.values.InLimits.TheVariants as limits
use Rattle.wm_machine.specs.declared.step.values.InTableType.{InTableType}
use Rattle.wm_machine.specs.declared.step.values.InTableType.TheVariants as table
use Rattle.wm_machine.specs.declared.step.values.InGlobalType.{InGlobalType}
use Rattle.wm_machine.specs.declared.step.values.InGlobalType.TheVariants as global
use Rattle.wm_machine.specs.declared.step.values.InImportDesc.{InImportDesc}
use Rattle.wm_machine.specs.declared.step.values.InImportDesc.TheVariants as import
use Rattle.wm_machine.specs.declared.step.values.InExportDesc.{InExportDesc}
use Rattle.wm_machine.specs.declared.step.values.InExportDesc.TheVariants as target
use Rattle.wm_machine.specs.declared.step.values.InRun.{InRun}
use Rattle.wm_machine.specs.declared.step.values.InRun.TheVariants as run
use Rattle.wm_machine.specs.declared.step.values.InValue.{InValue}
use Rattle.wm_machine.specs.declared.step.values.InValue.TheVariants as value
use Rattle.wm_machine.specs.exact.ValueSteps.{read_number, map_reading, after_min, flag_step, limits_push, table_type_push, type_under, value_type_of, read_type, var_step, global_type_push, desc_kind_step, desc_push, target_kind_step, target_push, run_push, value_push}
use Rattle.wm_machine.proofs.FirstBytes.{head_same, tail_same, not_nil}
use Rattle.wm_machine.proofs.Numbers.{Left, NumberNext, number_next, left_nil, fresh_number}
use Rattle.wm_machine.proofs.Leaves.{IsReader}

-- one byte of a value, by its answer
abbrev pub Reads : {R X : Type 0} → (R → X → Form ℕ) → R → ℕ → Reading R X → Type 0
Reads {R} {X} rest r c p = (x : X) (more : List ℕ) → rest r x (c ∷ more) ↔ Goes rest p x more

-- a byte that is none of those that may stand here
none_of : {R X : Type 0} (rest : R → X → Form ℕ) (r : R) (c : ℕ) (w : Why) → ((x : X) (more : List ℕ) → rest r x (c ∷ more) → ⊥) → Reads rest r c (Bad w)
none_of rest r c w h x more = (h x more, λ e. absurd e)

-- what begins with a byte
first_byte : (d c : ℕ) (P : Form ℕ) (more : List ℕ) → (Byte d ▸ P) (c ∷ more) → (c ≡ d) × P more
first_byte d c P more h =
    let e : c ∷ more ≡ d ∷ h.1 = h.2 ∙ ap (λ y. y ++ h.1) h.3 in
    (head_same c d more h.1 e, subst P (sym (tail_same c d more h.1 e)) h.4)

with_byte : (d : ℕ) (P : Form ℕ) (more : List ℕ) → P more → (Byte d ▸ P) (d ∷ more)
with_byte d P more h = (d ∷ [], more, refl, refl, h)

-- the one byte
this_byte : (d c : ℕ) (more : List ℕ) → Byte d (c ∷ more) → (c ≡ d) × (more ≡ [])
this_byte d c more h = (head_same c d more [] h, tail_same c d more [] h)

-- a number and then what follows it
abbrev pub NumberThen : Partial → (ℕ → Form ℕ) → Form ℕ
NumberThen r F b = (n : ℕ) × (front back : List ℕ) × (b ≡ front ++ back) × Left r n front × F n back

-- a value that is the number's
abbrev Ends : {X : Type 0} → (ℕ → X) → X → ℕ → Form ℕ
Ends f x n b = (x ≡ f n) × (b ≡ [])

module _ {R X : Type 0} (rest : R → X → Form ℕ) (c : ℕ) (r : Partial) (more : Partial → R) (done : ℕ → Reading R X) (F : X → ℕ → Form ℕ)
    (mores : (s : Partial) (x : X) (b : List ℕ) → rest (more s) x b ↔ NumberThen s (F x) b)
    (dones : (n : ℕ) (x : X) (b : List ℕ) → F x n b ↔ Goes rest (done n) x b) where
  more_to : (s : Partial) → NumberNext r c (step.More, s) → (x : X) (b : List ℕ) (n : ℕ) (front back : List ℕ) → c ∷ b ≡ front ++ back → Left r n front → F x n back → NumberThen s (F x) b
  more_to s h x b n [] back e u f = absurd (left_nil r n u)
  more_to s h x b n (d ∷ front) back e u f =
      (n, front, back, tail_same c d b (front ++ back) e, (h n front).0 (subst (λ y. Left r n (y ∷ front)) (sym (head_same c d b (front ++ back) e)) u), f)

  done_to : (v : ℕ) (s : Partial) → NumberNext r c (step.Done v, s) → (x : X) (b : List ℕ) (n : ℕ) (front back : List ℕ) → c ∷ b ≡ front ++ back → Left r n front → F x n back → F x v b
  done_to v s h x b n [] back e u f = absurd (left_nil r n u)
  done_to v s h x b n (d ∷ front) back e u f =
      let g : (n ≡ v) × (front ≡ []) = (h n front).0 (subst (λ y. Left r n (y ∷ front)) (sym (head_same c d b (front ++ back) e)) u) in
      let all : b ≡ back = tail_same c d b (front ++ back) e ∙ ap (λ y. y ++ back) g.1 in
      subst (λ y. F x v y) (sym all) (subst (λ y. F x y back) g.0 f)

  none_to : (s : Partial) → NumberNext r c (step.Bad, s) → (b : List ℕ) (n : ℕ) (front back : List ℕ) → c ∷ b ≡ front ++ back → Left r n front → ⊥
  none_to s h b n [] back e u = left_nil r n u
  none_to s h b n (d ∷ front) back e u = (h n front).0 (subst (λ y. Left r n (y ∷ front)) (sym (head_same c d b (front ++ back) e)) u)

  counted_reads : (p : Step ℕ × Partial) → NumberNext r c p → (x : X) (b : List ℕ) → NumberThen r (F x) (c ∷ b) ↔ Goes rest (read_number p more done) x b
  counted_reads (step.More, s) h x b = (
    λ i. (mores s x b).1 (more_to s h x b i.0 i.1 i.2 i.3 i.4 i.5),
    λ q. let i = (mores s x b).0 q in (i.0, c ∷ i.1, i.2, ap (λ y. c ∷ y) i.3, (h i.0 i.1).1 i.4, i.5),
  )
  counted_reads (step.Done v, s) h x b = (
    λ i. (dones v x b).0 (done_to v s h x b i.0 i.1 i.2 i.3 i.4 i.5),
    λ q. (v, c ∷ [], b, refl, (h v []).1 (refl, refl), (dones v x b).1 q),
  )
  counted_reads (step.Bad, s) h x b = (
    λ i. none_to s h b i.0 i.1 i.2 i.3 i.4,
    λ q. absurd q,
  )

  number_reads : c < 2 ^ 8 → (x : X) (b : List ℕ) → NumberThen r (F x) (c ∷ b) ↔ Goes rest (read_number (unsigned_push 32 r c) more done) x b
  number_reads byte = counted_reads (unsigned_push 32 r c) (number_next r c byte)

pub number_some : (r : Partial) (F : ℕ → Form ℕ) → NumberThen r F [] → ⊥
number_some r F h = go h.1 h.2 h.3 h.4
  where
    go : (front back : List ℕ) → [] ≡ front ++ back → Left r h.0 front → ⊥
    go [] back e u = left_nil r h.0 u
    go (d ∷ front) back e u = not_nil d (front ++ back) (sym e)

-- a number from its first byte
first_number : (n : ℕ) (b : List ℕ) → SpellsU32 n b → NumberThen fresh (λ m y. (n ≡ m) × (y ≡ [])) b
first_number n b u = (n, b, [], sym (append-nil b), (fresh_number n b).0 u, (refl, refl))

of_number : (n : ℕ) (b : List ℕ) → NumberThen fresh (λ m y. (n ≡ m) × (y ≡ [])) b → SpellsU32 n b
of_number n b h =
    let e : b ≡ h.1 = h.3 ∙ (ap (λ y. h.1 ++ y) h.5.1 ∙ append-nil h.1) in
    subst (λ y. SpellsU32 n y) (sym e) (subst (λ m. SpellsU32 m h.1) (sym h.5.0) ((fresh_number h.0 h.1).1 h.4))

same : {A : Type 0} → A ↔ A
same = (λ q. q, λ q. q)

-- limits
abbrev limits_of : ℕ → Option ℕ → Limits
limits_of min max = record { min = min; max = max }

abbrev AfterMin : Bool → Limits → ℕ → Form ℕ
AfterMin false l n b = (l ≡ limits_of n None) × (b ≡ [])
AfterMin true l n b = NumberThen fresh (Ends (λ m. limits_of n (Some m)) l) b

abbrev pub limits_rest : InLimits → Limits → Form ℕ
limits_rest limits.Flag l b = SpellsLimits l b
limits_rest (limits.Min bounded r) l b = NumberThen r (AfterMin bounded l) b
limits_rest (limits.Max min r) l b = NumberThen r (Ends (λ m. limits_of min (Some m)) l) b

after_min_goes : (bounded : Bool) (n : ℕ) (l : Limits) (b : List ℕ) → AfterMin bounded l n b ↔ Goes limits_rest (after_min bounded n) l b
after_min_goes false n l b = same
after_min_goes true n l b = same

-- without a greatest size, and with one
bounds_none : (l : Limits) (min : ℕ) (b : List ℕ) → l.min ≡ min → l.max ≡ None → SpellsU32 min b → NumberThen fresh (AfterMin false l) b
bounds_none l min b i a u = (min, b, [], sym (append-nil b), (fresh_number min b).0 u, (ap (λ y. limits_of y l.max) i ∙ ap (λ y. limits_of min y) a, refl))

bounds_some : (l : Limits) (min max : ℕ) (b : List ℕ) → l.min ≡ min → l.max ≡ Some max → (SpellsU32 min ▸ SpellsU32 max) b → NumberThen fresh (AfterMin true l) b
bounds_some l min max b i a u =
    (min, u.0, u.1, u.2, (fresh_number min u.0).0 u.3, (max, u.1, [], sym (append-nil u.1), (fresh_number max u.1).0 u.4, (ap (λ y. limits_of y l.max) i ∙ ap (λ y. limits_of min y) a, refl)))

flag_to : (l : Limits) (max : Option ℕ) (c : ℕ) (b : List ℕ) → l.max ≡ max → SpellsBounds l.min max (c ∷ b) → ((c ≡ 0) × NumberThen fresh (AfterMin false l) b) ⊎ ((c ≡ 1) × NumberThen fresh (AfterMin true l) b)
flag_to l None c b e h = let f = first_byte 0x00 c (SpellsU32 l.min) b h in inl (f.0, bounds_none l l.min b refl e f.1)
flag_to l (Some max) c b e h = let f = first_byte 0x01 c (SpellsU32 l.min ▸ SpellsU32 max) b h in inr (f.0, bounds_some l l.min max b refl e f.1)

flag_none : (l : Limits) (b : List ℕ) → NumberThen fresh (AfterMin false l) b → SpellsLimits l (0x00 ∷ b)
flag_none l b h =
    let u : SpellsU32 h.0 b = of_number h.0 b (h.0, h.1, h.2, h.3, h.4, (refl, h.5.1)) in
    subst (λ y. SpellsLimits y (0x00 ∷ b)) (sym h.5.0) (with_byte 0x00 (SpellsU32 h.0) b u)

flag_some : (l : Limits) (b : List ℕ) → NumberThen fresh (AfterMin true l) b → SpellsLimits l (0x01 ∷ b)
flag_some l b h =
    let g = h.5 in
    let u : SpellsU32 g.0 h.2 = of_number g.0 h.2 (g.0, g.1, g.2, g.3, g.4, (refl, g.5.1)) in
    subst (λ y. SpellsLimits y (0x01 ∷ b)) (sym g.5.0) (with_byte 0x01 (SpellsU32 h.0 ▸ SpellsU32 g.0) b (h.1, h.2, h.3, (fresh_number h.0 h.1).1 h.4, u))

flag_reads : (c : ℕ) → Reads limits_rest limits.Flag c (flag_step c)
flag_reads c l b =
    let P : Reading InLimits Limits → Type 0 = λ q. SpellsLimits l (c ∷ b) ↔ Goes limits_rest q l b in
    let zero_one : (0 ≡ 1) → ⊥ = λ e. omega (arith, e) in
    cond_both (nat_eq c 0x00) _ _ P
    (λ a. let e : c ≡ 0 = eqb-true c 0x00 a in (
      λ h. elim (flag_to l l.max c b refl h) [ inl q ↦ q.1 | inr q ↦ absurd (zero_one (sym e ∙ q.0)) ],
      λ h. subst (λ y. SpellsLimits l (y ∷ b)) (sym e) (flag_none l b h),
    ))
    (λ a. cond_both (nat_eq c 0x01) _ _ P
    (λ d. let e : c ≡ 1 = eqb-true c 0x01 d in (
      λ h. elim (flag_to l l.max c b refl h) [ inl q ↦ absurd (zero_one (sym q.0 ∙ e)) | inr q ↦ q.1 ],
      λ h. subst (λ y. SpellsLimits l (y ∷ b)) (sym e) (flag_some l b h),
    ))
    (λ d. (
      λ h. elim (flag_to l l.max c b refl h) [ inl q ↦ eqb-false c 0x00 a q.0 | inr q ↦ eqb-false c 0x01 d q.0 ],
      λ h. absurd h,
    )))

limits_reads : (at : InLimits) (c : ℕ) → c < 2 ^ 8 → Reads limits_rest at c (limits_push at c)
limits_reads limits.Flag c byte = flag_reads c
limits_reads (limits.Min bounded r) c byte = number_reads limits_rest c r (λ s. limits.Min bounded s) (after_min bounded) (AfterMin bounded) (λ s x b. same) (λ n x b. after_min_goes bounded n x b) byte
limits_reads (limits.Max min r) c byte = number_reads limits_rest c r (λ s. limits.Max min s) (λ n. Done (limits_of min (Some n))) (Ends (λ m. limits_of min (Some m))) (λ s x b. same) (λ n x b. same) byte

byte_some : (d : ℕ) (P : Form ℕ) → (Byte d ▸ P) [] → ⊥
byte_some d P h = not_nil d h.1 (sym (h.2 ∙ ap (λ y. y ++ h.1) h.3))

bounds_has : (min : ℕ) (max : Option ℕ) → SpellsBounds min max [] → ⊥
bounds_has min None h = byte_some 0x00 (SpellsU32 min) h
bounds_has min (Some max) h = byte_some 0x01 (SpellsU32 min ▸ SpellsU32 max) h

limits_some : (at : InLimits) (l : Limits) → limits_rest at l [] → ⊥
limits_some limits.Flag l h = bounds_has l.min l.max h
limits_some (limits.Min bounded r) l h = number_some r (AfterMin bounded l) h
limits_some (limits.Max min r) l h = number_some r (Ends (λ m. limits_of min (Some m)) l) h

pub limits_reader : IsReader limits_rest limits_push
limits_reader = record { law = limits_reads; some = limits_some }

-- a value within another
abbrev pub Within : {R X Y : Type 0} → (R → X → Form ℕ) → (X → Y) → R → Y → Form ℕ
Within {R} {X} rest g r y b = (x : X) × (y ≡ g x) × rest r x b

module _ {R S X Y : Type 0} (rest : R → X → Form ℕ) (g : X → Y) (outer : S → Y → Form ℕ) (f : R → S) (is : (r : R) (y : Y) (b : List ℕ) → outer (f r) y b ↔ Within rest g r y b) where
  within_reads : (r : R) (c : ℕ) (q : Reading R X) → Reads rest r c q → (y : Y) (b : List ℕ) → Within rest g r y (c ∷ b) ↔ Goes outer (map_reading f g q) y b
  within_reads r c (More s) h y b = (
    λ i. (is s y b).1 (i.0, i.1, (h i.0 b).0 i.2),
    λ j. let i = (is s y b).0 j in (i.0, i.1, (h i.0 b).1 i.2),
  )
  within_reads r c (Done v) h y b = (
    λ i. let e = (h i.0 b).0 i.2 in (i.1 ∙ ap g e.0, e.1),
    λ j. (v, j.0, (h v b).1 (refl, j.1)),
  )
  within_reads r c (Bad w) h y b = (
    λ i. (h i.0 b).0 i.2,
    λ j. absurd j,
  )

-- table types
abbrev pub table_rest : InTableType → Limits → Form ℕ
table_rest table.ElementType l b = SpellsTableType l b
table_rest (table.Limits at) l b = Within limits_rest (λ y. y) at l b

pub table_reads : (at : InTableType) (c : ℕ) → c < 2 ^ 8 → Reads table_rest at c (table_type_push at c)
table_reads table.ElementType c byte l b =
    cond_both (nat_eq c 0x70) _ _ (λ (q : Reading InTableType Limits). SpellsTableType l (c ∷ b) ↔ Goes table_rest q l b)
    (λ a. let e : c ≡ 0x70 = eqb-true c 0x70 a in (
      λ h. (l, refl, (first_byte 0x70 c (SpellsLimits l) b h).1),
      λ h. subst (λ y. SpellsTableType l (y ∷ b)) (sym e) (with_byte 0x70 (SpellsLimits l) b (subst (λ y. SpellsLimits y b) (sym h.1) h.2)),
    ))
    (λ a. (
      λ h. eqb-false c 0x70 a (first_byte 0x70 c (SpellsLimits l) b h).0,
      λ h. absurd h,
    ))
table_reads (table.Limits at) c byte l b = within_reads limits_rest (λ y. y) table_rest table.Limits (λ r y b. same) at c (limits_push at c) (limits_reads at c byte) l b

table_some : (at : InTableType) (l : Limits) → table_rest at l [] → ⊥
table_some table.ElementType l h = byte_some 0x70 (SpellsLimits l) h
table_some (table.Limits at) l h = limits_some at h.0 h.2

-- what an export gives out
abbrev exporting : ExportKind → ℕ → ExportKind × ℕ
exporting k n = (k, n)

abbrev pub target_rest : InExportDesc → ExportKind × ℕ → Form ℕ
target_rest target.Kind t b = (Byte (kind_byte t.0) ▸ SpellsU32 t.1) b
target_rest (target.Index k r) t b = NumberThen r (Ends (exporting k) t) b

target_to : (k : ExportKind) (x c : ℕ) (b : List ℕ) → (Byte (kind_byte k) ▸ SpellsU32 x) (c ∷ b) → Goes target_rest (target_kind_step c) (k, x) b
target_to k x c b h =
    let f = first_byte (kind_byte k) c (SpellsU32 x) b h in
    let n = first_number x b f.1 in
    subst (λ y. Goes target_rest (target_kind_step y) (k, x) b) (sym f.0) (by_kind k (n.0, n.1, n.2, n.3, n.4, (ap (λ y. (k, y)) n.5.0, n.5.1)))
  where
    by_kind : (k : ExportKind) → NumberThen fresh (Ends (exporting k) (k, x)) b → Goes target_rest (target_kind_step (kind_byte k)) (k, x) b
    by_kind kind.Func i = i
    by_kind kind.Table i = i
    by_kind kind.Memory i = i
    by_kind kind.Global i = i

target_of : (k : ExportKind) (t : ExportKind × ℕ) (b : List ℕ) → NumberThen fresh (Ends (exporting k) t) b → (Byte (kind_byte t.0) ▸ SpellsU32 t.1) (kind_byte k ∷ b)
target_of k t b h =
    subst (λ (y : ExportKind × ℕ). (Byte (kind_byte y.0) ▸ SpellsU32 y.1) (kind_byte k ∷ b)) (sym h.5.0)
    (with_byte (kind_byte k) (SpellsU32 h.0) b (of_number h.0 b (h.0, h.1, h.2, h.3, h.4, (refl, h.5.1))))

target_from : (t : ExportKind × ℕ) (c : ℕ) (b : List ℕ) → Goes target_rest (target_kind_step c) t b → (Byte (kind_byte t.0) ▸ SpellsU32 t.1) (c ∷ b)
target_from t zero b h = target_of kind.Func t b h
target_from t (suc zero) b h = target_of kind.Table t b h
target_from t (suc (suc zero)) b h = target_of kind.Memory t b h
target_from t (suc (suc (suc zero))) b h = target_of kind.Global t b h
target_from t (suc (suc (suc (suc c)))) b h = absurd h

target_reads : (at : InExportDesc) (c : ℕ) → c < 2 ^ 8 → Reads target_rest at c (target_push at c)
target_reads target.Kind c byte t b = (target_to t.0 t.1 c b, target_from t c b)
target_reads (target.Index k r) c byte t b = number_reads target_rest c r (λ s. target.Index k s) (λ n. Done (k, n)) (Ends (exporting k)) (λ s x b. same) (λ n x b. same) byte t b

target_some : (at : InExportDesc) (t : ExportKind × ℕ) → target_rest at t [] → ⊥
target_some target.Kind t h = byte_some (kind_byte t.0) (SpellsU32 t.1) h
target_some (target.Index k r) t h = number_some r (Ends (exporting k) t) h

abbrev pub export_of : ExportKind × ℕ → Plain
export_of t = plain.Export t.0 t.1

-- what is a type is not refused
pub type_given : {A : Type 0} (t : ValType) (w : Why) → ◌≡◌ {A = Result ValType Why} (Ok t) (Err w) → A
type_given t w e = absurd (cc)

-- what names a value type, under a profile
module _ (p : Profile) where
  -- value types
  abbrev pub TypeAnswer : ℕ → Result ValType Why → Type 0
  TypeAnswer c (Ok t) = (c ≡ type_byte t) × HasType p t
  TypeAnswer c (Err w) = (t : ValType) → HasType p t → c ≡ type_byte t → ⊥

  no_type : (c : ℕ) (t : ValType) → (c ≡ 0x7F → ⊥) → (c ≡ 0x7E → ⊥) → (c ≡ 0x7D → ⊥) → (c ≡ 0x7C → ⊥) → c ≡ type_byte t → ⊥
  no_type c I32 a d f g e = a e
  no_type c I64 a d f g e = d e
  no_type c F32 a d f g e = f e
  no_type c F64 a d f g e = g e

  not_had : (b : Bool) → b ≡ false → b ≡ true → ⊥
  not_had b n h = let e : false ≡ true = sym n ∙ h in cc

  -- the type that a byte names
  named_type : (c : ℕ) (t : ValType) → c ≡ type_byte t → TypeAnswer c (type_under p t)
  named_type c t e =
      cond_both (has p (type_feature t)) _ _ (TypeAnswer c) (λ h. (e, h))
      (λ n u h g. not_had (has p (type_feature t)) n (subst (HasType p) (byte_tells u t (sym g ∙ e)) h))

  pub type_answer : (c : ℕ) → TypeAnswer c (value_type_of p c)
  type_answer c =
      cond_both (nat_eq c 0x7F) _ _ (TypeAnswer c) (λ a. named_type c I32 (eqb-true c 0x7F a))
      (λ a. cond_both (nat_eq c 0x7E) _ _ (TypeAnswer c) (λ d. named_type c I64 (eqb-true c 0x7E d))
      (λ d. cond_both (nat_eq c 0x7D) _ _ (TypeAnswer c) (λ f. named_type c F32 (eqb-true c 0x7D f))
      (λ f. cond_both (nat_eq c 0x7C) _ _ (TypeAnswer c) (λ g. named_type c F64 (eqb-true c 0x7C g))
      (λ g t h e. no_type c t (eqb-false c 0x7F a) (eqb-false c 0x7E d) (eqb-false c 0x7D f) (eqb-false c 0x7C g) e))))

  -- global types
  abbrev pub global_rest : InGlobalType → GlobalType → Form ℕ
  global_rest global.Type g b = Those (HasGlobalType p) SpellsGlobalType g b
  global_rest (global.Var t) g b = (g.ty ≡ t) × SpellsVar g.var b

  type_reads : (c : ℕ) (q : Result ValType Why) → TypeAnswer c q → (g : GlobalType) (b : List ℕ) → Those (HasGlobalType p) SpellsGlobalType g (c ∷ b) ↔ Goes global_rest (read_type q (λ t. More (global.Var t))) g b
  type_reads c (Ok t) e g b = (
    λ h. let f = first_byte (type_byte g.ty) c (SpellsVar g.var) b h.1 in (byte_tells g.ty t (sym f.0 ∙ e.0), f.1),
    λ h. (subst (HasType p) (sym h.0) e.1, subst (λ y. SpellsGlobalType g (y ∷ b)) (ap type_byte h.0 ∙ sym e.0) (with_byte (type_byte g.ty) (SpellsVar g.var) b h.1)),
  )
  type_reads c (Err w) n g b = (
    λ h. n g.ty h.0 (first_byte (type_byte g.ty) c (SpellsVar g.var) b h.1).0,
    λ h. absurd h,
  )

  var_to : (t : ValType) (v : Bool) (c : ℕ) (b : List ℕ) → SpellsVar v (c ∷ b) → Goes global_rest (var_step t c) (record { ty = t; var = v }) b
  var_to t false c b h = let e = this_byte 0x00 c b h in subst (λ y. Goes global_rest (var_step t y) (record { ty = t; var = false }) b) (sym e.0) (refl, e.1)
  var_to t true c b h = let e = this_byte 0x01 c b h in subst (λ y. Goes global_rest (var_step t y) (record { ty = t; var = true }) b) (sym e.0) (refl, e.1)

  var_from : (t : ValType) (g : GlobalType) (c : ℕ) (b : List ℕ) → Goes global_rest (var_step t c) g b → (g.ty ≡ t) × SpellsVar g.var (c ∷ b)
  var_from t g zero b h = (ap (λ (y : GlobalType). y.ty) h.0, subst (λ (y : GlobalType). SpellsVar y.var (0 ∷ b)) (sym h.0) (ap (λ y. 0 ∷ y) h.1))
  var_from t g (suc zero) b h = (ap (λ (y : GlobalType). y.ty) h.0, subst (λ (y : GlobalType). SpellsVar y.var (1 ∷ b)) (sym h.0) (ap (λ y. 1 ∷ y) h.1))
  var_from t g (suc (suc c)) b h = absurd h

  global_reads : (at : InGlobalType) (c : ℕ) → c < 2 ^ 8 → Reads global_rest at c (global_type_push p at c)
  global_reads global.Type c byte g b = type_reads c (value_type_of p c) (type_answer c) g b
  global_reads (global.Var t) c byte g b = (
    λ h. subst (λ y. Goes global_rest (var_step t c) (record { ty = y; var = g.var }) b) (sym h.0) (var_to t g.var c b h.1),
    λ h. var_from t g c b h,
  )

  var_some : (v : Bool) → SpellsVar v [] → ⊥
  var_some false h = not_nil 0x00 [] (sym h)
  var_some true h = not_nil 0x01 [] (sym h)

  global_some : (at : InGlobalType) (g : GlobalType) → global_rest at g [] → ⊥
  global_some global.Type g h = byte_some (type_byte g.ty) (SpellsVar g.var) h.1
  global_some (global.Var t) g h = var_some g.var h.1

  pub global_reader : IsReader global_rest (global_type_push p)
  global_reader = record { law = global_reads; some = global_some }

  -- what an import brings in
  abbrev pub desc_rest : InImportDesc → ImportDesc → Form ℕ
  desc_rest import.Kind d b = Those (HasDesc p) SpellsDesc d b
  desc_rest (import.Func r) d b = NumberThen r (Ends desc.Func d) b
  desc_rest (import.Table at) d b = Within table_rest desc.Table at d b
  desc_rest (import.Memory at) d b = Within limits_rest desc.Memory at d b
  desc_rest (import.Global at) d b = Within global_rest desc.Global at d b

  kind_to : (d : ImportDesc) (c : ℕ) (b : List ℕ) → Those (HasDesc p) SpellsDesc d (c ∷ b) → Goes desc_rest (desc_kind_step c) d b
  kind_to (desc.Func x) c b h = let f = first_byte 0x00 c (SpellsU32 x) b h.1 in
      subst (λ y. Goes desc_rest (desc_kind_step y) (desc.Func x) b) (sym f.0) (let n = first_number x b f.1 in (n.0, n.1, n.2, n.3, n.4, (ap desc.Func n.5.0, n.5.1)))
  kind_to (desc.Table l) c b h = let f = first_byte 0x01 c (SpellsTableType l) b h.1 in subst (λ y. Goes desc_rest (desc_kind_step y) (desc.Table l) b) (sym f.0) (l, refl, f.1)
  kind_to (desc.Memory l) c b h = let f = first_byte 0x02 c (SpellsLimits l) b h.1 in subst (λ y. Goes desc_rest (desc_kind_step y) (desc.Memory l) b) (sym f.0) (l, refl, f.1)
  kind_to (desc.Global g) c b h = let f = first_byte 0x03 c (SpellsGlobalType g) b h.1 in subst (λ y. Goes desc_rest (desc_kind_step y) (desc.Global g) b) (sym f.0) (g, refl, (h.0, f.1))

  kind_from : (d : ImportDesc) (c : ℕ) (b : List ℕ) → Goes desc_rest (desc_kind_step c) d b → Those (HasDesc p) SpellsDesc d (c ∷ b)
  kind_from d zero b h = subst (λ y. Those (HasDesc p) SpellsDesc y (0 ∷ b)) (sym h.5.0) (tt, with_byte 0x00 (SpellsU32 h.0) b (of_number h.0 b (h.0, h.1, h.2, h.3, h.4, (refl, h.5.1))))
  kind_from d (suc zero) b h = subst (λ y. Those (HasDesc p) SpellsDesc y (1 ∷ b)) (sym h.1) (tt, with_byte 0x01 (SpellsTableType h.0) b h.2)
  kind_from d (suc (suc zero)) b h = subst (λ y. Those (HasDesc p) SpellsDesc y (2 ∷ b)) (sym h.1) (tt, with_byte 0x02 (SpellsLimits h.0) b h.2)
  kind_from d (suc (suc (suc zero))) b h = subst (λ y. Those (HasDesc p) SpellsDesc y (3 ∷ b)) (sym h.1) (h.2.0, with_byte 0x03 (SpellsGlobalType h.0) b h.2.1)
  kind_from d (suc (suc (suc (suc c)))) b h = absurd h

  desc_reads : (at : InImportDesc) (c : ℕ) → c < 2 ^ 8 → Reads desc_rest at c (desc_push p at c)
  desc_reads import.Kind c byte d b = (kind_to d c b, kind_from d c b)
  desc_reads (import.Func r) c byte d b = number_reads desc_rest c r import.Func (λ n. Done (desc.Func n)) (Ends desc.Func) (λ s x b. same) (λ n x b. same) byte d b
  desc_reads (import.Table at) c byte d b = within_reads table_rest desc.Table desc_rest import.Table (λ r y b. same) at c (table_type_push at c) (table_reads at c byte) d b
  desc_reads (import.Memory at) c byte d b = within_reads limits_rest desc.Memory desc_rest import.Memory (λ r y b. same) at c (limits_push at c) (limits_reads at c byte) d b
  desc_reads (import.Global at) c byte d b = within_reads global_rest desc.Global desc_rest import.Global (λ r y b. same) at c (global_type_push p at c) (global_reads at c byte) d b

  kind_some : (d : ImportDesc) → SpellsDesc d [] → ⊥
  kind_some (desc.Func x) h = byte_some 0x00 (SpellsU32 x) h
  kind_some (desc.Table l) h = byte_some 0x01 (SpellsTableType l) h
  kind_some (desc.Memory l) h = byte_some 0x02 (SpellsLimits l) h
  kind_some (desc.Global g) h = byte_some 0x03 (SpellsGlobalType g) h

  desc_some : (at : InImportDesc) (d : ImportDesc) → desc_rest at d [] → ⊥
  desc_some import.Kind d h = kind_some d h.1
  desc_some (import.Func r) d h = number_some r (Ends desc.Func d) h
  desc_some (import.Table at) d h = table_some at h.0 h.2
  desc_some (import.Memory at) d h = limits_some at h.0 h.2
  desc_some (import.Global at) d h = global_some at h.0 h.2

  -- a run of locals
  abbrev RunType : ℕ × ValType → ℕ → Form ℕ
  RunType x n b = (x.0 ≡ n) × HasType p x.1 × SpellsValType x.1 b

  abbrev pub run_rest : InRun → ℕ × ValType → Form ℕ
  run_rest (run.Count r) x b = NumberThen r (RunType x) b
  run_rest (run.Type n) x b = RunType x n b

  run_type : (n c : ℕ) (q : Result ValType Why) → TypeAnswer c q → (x : ℕ × ValType) (b : List ℕ) → RunType x n (c ∷ b) ↔ Goes run_rest (read_type q (λ t. Done (n, t))) x b
  run_type n c (Ok t) e x b = (
    λ h. let f = this_byte (type_byte x.1) c b h.2 in let s : x.1 ≡ t = byte_tells x.1 t (sym f.0 ∙ e.0) in (ap (λ y. (y, x.1)) h.0 ∙ ap (λ y. (n, y)) s, f.1),
    λ h. let s : x.1 ≡ t = ap (λ (y : ℕ × ValType). y.1) h.0 in (ap (λ (y : ℕ × ValType). y.0) h.0, subst (HasType p) (sym s) e.1, ap (λ y. c ∷ y) h.1 ∙ ap (λ y. y ∷ []) (e.0 ∙ ap type_byte (sym s))),
  )
  run_type n c (Err w) none x b = (
    λ h. none x.1 h.1 (this_byte (type_byte x.1) c b h.2).0,
    λ h. absurd h,
  )

  run_reads : (at : InRun) (c : ℕ) → c < 2 ^ 8 → Reads run_rest at c (run_push p at c)
  run_reads (run.Count r) c byte x b = number_reads run_rest c r run.Count (λ n. More (run.Type n)) RunType (λ s x b. same) (λ n x b. same) byte x b
  run_reads (run.Type n) c byte x b = run_type n c (value_type_of p c) (type_answer c) x b

  run_some : (at : InRun) (x : ℕ × ValType) → run_rest at x [] → ⊥
  run_some (run.Count r) x h = number_some r (RunType x) h
  run_some (run.Type n) x h = not_nil (type_byte x.1) [] (sym h.2)

  pub run_reader : IsReader run_rest (run_push p)
  run_reader = record { law = run_reads; some = run_some }

  pub run_begins : (x : ℕ × ValType) (b : List ℕ) → SpellsRun p x b ↔ run_rest (run.Count fresh) x b
  run_begins x b = (
    λ h. let r = h.1 in (x.0, r.0, r.1, r.2, (fresh_number x.0 r.0).0 r.3, (refl, h.0, r.4)),
    λ h. (h.5.1, (h.1, h.2, h.3, subst (λ y. SpellsU32 y h.1) (sym h.5.0) ((fresh_number h.0 h.1).1 h.4), h.5.2)),
  )

  -- the value that ends an import, a table, a memory or an export
  abbrev pub value_rest : InValue → Plain → Form ℕ
  value_rest (value.Import at) q b = Within desc_rest plain.Import at q b
  value_rest (value.Table at) q b = Within table_rest plain.Table at q b
  value_rest (value.Memory at) q b = Within limits_rest plain.Memory at q b
  value_rest (value.Export at) q b = Within target_rest export_of at q b

  value_reads : (at : InValue) (c : ℕ) → c < 2 ^ 8 → Reads value_rest at c (value_push p at c)
  value_reads (value.Import at) c byte q b = within_reads desc_rest plain.Import value_rest value.Import (λ r y b. same) at c (desc_push p at c) (desc_reads at c byte) q b
  value_reads (value.Table at) c byte q b = within_reads table_rest plain.Table value_rest value.Table (λ r y b. same) at c (table_type_push at c) (table_reads at c byte) q b
  value_reads (value.Memory at) c byte q b = within_reads limits_rest plain.Memory value_rest value.Memory (λ r y b. same) at c (limits_push at c) (limits_reads at c byte) q b
  value_reads (value.Export at) c byte q b = within_reads target_rest export_of value_rest value.Export (λ r y b. same) at c (target_push at c) (target_reads at c byte) q b

  value_some : (at : InValue) (q : Plain) → value_rest at q [] → ⊥
  value_some (value.Import at) q h = desc_some at h.0 h.2
  value_some (value.Table at) q h = table_some at h.0 h.2
  value_some (value.Memory at) q h = limits_some at h.0 h.2
  value_some (value.Export at) q h = target_some at h.0 h.2

  pub value_reader : IsReader value_rest (value_push p)
  value_reader = record { law = value_reads; some = value_some }
