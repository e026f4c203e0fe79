-- Operands given by their kinds and widths, when one of the two lists changes.
use Rattle.std.proofs.Common.{ℕ, zero, suc, ◌≡◌, ◌≢◌, ◌-◌, ◌%◌, ◌<◌, ◌≤◌, Bool, IsTrue, List, [], ◌∷◌, ◌++◌, Option, None, Some, Result, Ok, Err, OnOk, OnErr, IfErr, length, drop, option_map, option_to_list, sym, refl, ap, ◌∙◌, subst, arith}
use Rattle.wm_syntax.specs.declared.types.ValType.{ValType}
use Rattle.wm_syntax.specs.declared.why.Why.{Why}
use Rattle.wm_syntax.specs.declared.why.Why.TheVariants.{Memory}
use Rattle.wm_stacks.specs.declared.stack_entries.Entry.{Entry}
use Rattle.wm_stacks.specs.declared.stack_entries.Entry.TheVariants as entry
use Rattle.wm_stacks.specs.declared.words.Kind.{Kind}
use Rattle.wm_stacks.specs.declared.words.Kind.TheVariants.{Float}
use Rattle.wm_stacks.specs.declared.widths.Widths.{Widths}
use Rattle.wm_stacks.specs.Stack.{fits}
use Rattle.wm_stacks.specs.exact.Stacks.{first, rest}
use Rattle.wm_stacks.specs.exact.Words.{Kinds, ReplacesKinds}
use Rattle.wm_stacks.specs.inner.Widths.{Written, is_wide}
use Rattle.wm_stacks.specs.inner.Operands.{Floored, IsTold, ReplacesEntries, entries_in, entry_of, kind_of, operands_of}

-- a float that is no f64
pub narrow : (e : Entry) → kind_of e ≡ Float → e ≢ entry.F64 → e ≡ entry.F32
narrow entry.I32 h n = cc
narrow entry.I64 h n = cc
narrow entry.F32 h n = refl
narrow entry.F64 h n = absurd (n refl)
narrow entry.Unknown h n = cc

length-entries : (ks : List Kind) (w : Widths) → length (entries_in ks w) ≡ length ks
length-entries [] w = refl
length-entries (k ∷ ks) w = ap suc (length-entries ks w)

-- widths that agree on these operands
same_entries : (ks : List Kind) (v w : Widths) → ((i : ℕ) → i < length ks → is_wide v i ≡ is_wide w i) → entries_in ks v ≡ entries_in ks w
same_entries [] v w h = refl
same_entries (k ∷ ks) v w h =
    ap (λ b. entry_of k b ∷ entries_in ks v) (h (length ks) (omega arith))
    ∙ ap (λ es. entry_of k (is_wide w (length ks)) ∷ es) (same_entries ks v w (λ i l. h i (omega (arith, l))))

drop-entries : (n : ℕ) (ks : List Kind) (w : Widths) → entries_in (drop n ks) w ≡ drop n (entries_in ks w)
drop-entries zero ks w = refl
drop-entries (suc n) [] w = refl
drop-entries (suc n) (k ∷ ks) w = drop-entries n ks w

rest_entries : (ks : List Kind) (w : Widths) → entries_in (rest ks) w ≡ rest (entries_in ks w)
rest_entries [] w = refl
rest_entries (k ∷ ks) w = refl

first_entry : (ks : List Kind) (w : Widths) (k : Kind) (at : ℕ) (e : Entry) → first ks ≡ Some k → at ≡ length ks - 1 → e ≡ entry_of k (is_wide w at)
    → first (entries_in ks w) ≡ Some e
first_entry [] w k at e f a r = cc
first_entry (j ∷ ks) w k at e f a r =
    let same : j ≡ k = cc in
    let index : length ks ≡ at = omega (arith, a) in
    ap (λ (x : Entry). Some x) (ap (λ z. entry_of z (is_wide w (length ks))) same ∙ ap (λ n. entry_of k (is_wide w n)) index ∙ sym r)

-- the bit of the next operand was written
pub written_under : (at : ℕ) (wide : Bool) (v w : Widths) (n : ℕ) → Written at wide v w → at ≡ n → (i : ℕ) → i < n → is_wide w i ≡ is_wide v i
written_under at wide v w n h e i l = let apart : i ≢ at = omega (arith, e, l) in h.others i apart

pub written_there : (at : ℕ) (wide : Bool) (v w : Widths) (n : ℕ) → Written at wide v w → at ≡ n → entry_of Float (is_wide w n) ≡ entry_of Float wide
written_there at wide v w n h e = ap (λ m. entry_of Float (is_wide w m)) (sym e) ∙ ap (λ b. entry_of Float b) h.there

-- Here p and v are the kinds and the widths before a call, and q and w those after it. The operands before it
-- are `now`.
pub empty : (q : Kinds) (w : Widths) → q ≡ record { kinds = []; floor = 0 } → operands_of q w ≡ record { entries = []; floor = 0 }
empty q w e = ap (λ (z : Kinds). operands_of z w) e

pub floor_same : (p : Kinds) (v : Widths) (now : Floored) → operands_of p v ≡ now → p.floor ≡ now.floor
floor_same p v now seen = ap (λ (z : Floored). z.floor) seen

pub height_same : (p : Kinds) (v : Widths) (now : Floored) → operands_of p v ≡ now → length now.entries ≡ length p.kinds
height_same p v now seen = ap (λ (z : Floored). length z.entries) (sym seen) ∙ length-entries p.kinds v

pub floor_set : (p q : Kinds) (v : Widths) (now : Floored) (floor : ℕ) → operands_of p v ≡ now → q ≡ record { kinds = p.kinds; floor = floor }
    → operands_of q v ≡ record { entries = now.entries; floor = floor }
floor_set p q v now floor seen is =
    ap (λ (z : Kinds). operands_of z v) is ∙ ap (λ (z : Floored). let y : Floored = record { entries = z.entries; floor = floor } in y) seen

-- Nothing changed, except bits above the operands.
pub kept : (p q : Kinds) (v w : Widths) (now : Floored) → operands_of p v ≡ now → q ≡ p
    → ((i : ℕ) → i < length p.kinds → is_wide w i ≡ is_wide v i) → operands_of q w ≡ now
kept p q v w now seen is same =
    ap (λ (z : Kinds). operands_of z w) is
    ∙ ap (λ es. let y : Floored = record { entries = es; floor = p.floor } in y) (same_entries p.kinds w v same)
    ∙ seen

-- one operand more
pub pushed : (p q : Kinds) (v w : Widths) (now : Floored) (k : Kind) (e : Entry) → operands_of p v ≡ now → q ≡ record { kinds = k ∷ p.kinds; floor = p.floor }
    → ((i : ℕ) → i < length p.kinds → is_wide w i ≡ is_wide v i) → entry_of k (is_wide w (length p.kinds)) ≡ e
    → operands_of q w ≡ record { entries = e ∷ now.entries; floor = now.floor }
pushed p q v w now k e seen is same there =
    let es : entries_in (k ∷ p.kinds) w ≡ e ∷ entries_in p.kinds v =
    ap (λ x. x ∷ entries_in p.kinds w) there ∙ ap (λ x. e ∷ x) (same_entries p.kinds w v same) in
    ap (λ (z : Kinds). operands_of z w) is
    ∙ ap (λ x. let y : Floored = record { entries = x; floor = p.floor } in y) es
    ∙ ap (λ (z : Floored). let y : Floored = record { entries = e ∷ z.entries; floor = z.floor } in y) seen

pub push_ok : {A : Type 0} (r : Result A Why) (p q : Kinds) (v w : Widths) (now : Floored) (k : Kind) (e : Entry) → operands_of p v ≡ now
    → OnOk r (q ≡ record { kinds = k ∷ p.kinds; floor = p.floor })
    → ((i : ℕ) → i < length p.kinds → is_wide w i ≡ is_wide v i) → entry_of k (is_wide w (length p.kinds)) ≡ e
    → OnOk r (operands_of q w ≡ record { entries = e ∷ now.entries; floor = now.floor })
push_ok (Ok a) p q v w now k e seen is same there = pushed p q v w now k e seen is same there
push_ok (Err y) p q v w now k e seen is same there = tt

pub push_err : {A : Type 0} (r : Result A Why) (p q : Kinds) (v w : Widths) (now : Floored) → operands_of p v ≡ now
    → IfErr r (λ why. (why ≡ Memory) × (q ≡ p)) → ((i : ℕ) → i < length p.kinds → is_wide w i ≡ is_wide v i)
    → IfErr r (λ why. (why ≡ Memory) × (operands_of q w ≡ now))
push_err (Ok a) p q v w now seen is same = tt
push_err (Err y) p q v w now seen is same = (is.0, kept p q v w now seen is.1 same)

-- The operands depend on the kinds, and not on the bits above them.
pub widths_only : (p : Kinds) (v w : Widths) (now : Floored) → operands_of p v ≡ now → ((i : ℕ) → is_wide w i ≡ is_wide v i) → operands_of p w ≡ now
widths_only p v w now seen same = kept p p v w now seen refl (λ i l. same i)

-- An error comes only at such a height.
pub near : {A : Type 0} (r : Result A Why) (n m : ℕ) → m ≡ n → OnErr r (64 ≤ n) → OnErr r (64 ≤ m)
near (Ok a) n m e h = tt
near (Err y) n m e h = omega (arith, e, h)

pub between : {A : Type 0} (r : Result A Why) (n m : ℕ) → m ≡ n → OnErr r (n % 32 ≡ 0) → OnErr r (m % 32 ≡ 0)
between (Ok a) n m e h = tt
between (Err y) n m e h = ap (λ z. z % 32) e ∙ h

-- other kinds under the same floor
changed : (p q : Kinds) (v : Widths) (now : Floored) (ks : List Kind) (es : List Entry) → operands_of p v ≡ now → q ≡ record { kinds = ks; floor = p.floor }
    → entries_in ks v ≡ es → operands_of q v ≡ record { entries = es; floor = now.floor }
changed p q v now ks es seen is e =
    ap (λ (z : Kinds). operands_of z v) is
    ∙ ap (λ x. let y : Floored = record { entries = x; floor = p.floor } in y) e
    ∙ ap (λ f. let y : Floored = record { entries = es; floor = f } in y) (floor_same p v now seen)

pub popped : (p q : Kinds) (v : Widths) (now : Floored) → operands_of p v ≡ now → q ≡ record { kinds = rest p.kinds; floor = p.floor }
    → operands_of q v ≡ record { entries = rest now.entries; floor = now.floor }
popped p q v now seen is =
    changed p q v now (rest p.kinds) (rest now.entries) seen is (rest_entries p.kinds v ∙ ap (λ (z : Floored). rest z.entries) seen)

pub cut : (p q : Kinds) (v : Widths) (now : Floored) (height : ℕ) → operands_of p v ≡ now
    → q ≡ record { kinds = drop (length p.kinds - height) p.kinds; floor = p.floor }
    → operands_of q v ≡ record { entries = drop (length now.entries - height) now.entries; floor = now.floor }
cut p q v now height seen is =
    changed p q v now (drop (length p.kinds - height) p.kinds) (drop (length now.entries - height) now.entries) seen is
    (drop-entries (length p.kinds - height) p.kinds v
    ∙ ap (λ (z : Floored). drop (length p.kinds - height) z.entries) seen
    ∙ ap (λ n. drop (n - height) now.entries) (sym (height_same p v now seen)))

pub top_read : (p : Kinds) (v : Widths) (now : Floored) (k : Kind) (at : ℕ) (e : Entry) → operands_of p v ≡ now → first p.kinds ≡ Some k
    → at ≡ length p.kinds - 1 → e ≡ entry_of k (is_wide v at) → first now.entries ≡ Some e
top_read p v now k at e seen f a r = ap (λ (z : Floored). first z.entries) (sym seen) ∙ first_entry p.kinds v k at e f a r

-- The given operand, if any, above those operands.
given_entries : (given : Option Entry) (ks : List Kind) (v : Widths) → IsTold given (is_wide v (length ks))
    → entries_in (option_to_list (option_map kind_of given) ++ ks) v ≡ option_to_list given ++ entries_in ks v
given_entries None ks v told = refl
given_entries (Some e) ks v told = ap (λ d. d ∷ entries_in ks v) told

-- One operand or two are replaced. The kind and the width of each show that it fits. The given one gets the
-- index of the lowest, whose width is its own if it is a float.
pub one_replaced : (p q : Kinds) (v : Widths) (now : Floored) (at : ℕ) (k : Kind) (u : ValType) (given : Option Entry)
    → operands_of p v ≡ now → at ≡ length p.kinds - 1 → IsTrue (fits (entry_of k (is_wide v at)) u) → IsTold given (is_wide v at)
    → ReplacesKinds (k ∷ []) (option_map kind_of given) p q → ReplacesEntries (u ∷ []) given now (operands_of q v)
one_replaced p q v now at k u given seen is fit told h =
    let ks = h.0 in
    let i : at ≡ length ks = omega (arith, is, ap length h.1) in (
      entry_of k (is_wide v (length ks)) ∷ [],
      entries_in ks v,
      ap (λ (z : Floored). z.entries) (sym seen) ∙ ap (λ js. entries_in js v) h.1,
      (subst (λ n. IsTrue (fits (entry_of k (is_wide v n)) u)) i fit, tt),
      omega (arith, floor_same p v now seen, length-entries ks v, h.2),
      changed p q v now (option_to_list (option_map kind_of given) ++ ks) (option_to_list given ++ entries_in ks v) seen h.3
          (given_entries given ks v (subst (λ n. IsTold given (is_wide v n)) i told)),
    )

pub two_replaced : (p q : Kinds) (v : Widths) (now : Floored) (first_at second_at : ℕ) (k l : Kind) (top under : ValType) (given : Option Entry)
    → operands_of p v ≡ now → first_at ≡ length p.kinds - 1 → second_at ≡ length p.kinds - 2
    → IsTrue (fits (entry_of k (is_wide v first_at)) top) → IsTrue (fits (entry_of l (is_wide v second_at)) under)
    → IsTold given (is_wide v second_at) → ReplacesKinds (k ∷ l ∷ []) (option_map kind_of given) p q
    → ReplacesEntries (top ∷ under ∷ []) given now (operands_of q v)
two_replaced p q v now first_at second_at k l top under given seen is is2 fit fit2 told h =
    let ks = h.0 in
    let i : first_at ≡ length (l ∷ ks) = omega (arith, is, ap length h.1) in
    let j : second_at ≡ length ks = omega (arith, is2, ap length h.1) in (
      entry_of k (is_wide v (length (l ∷ ks))) ∷ entry_of l (is_wide v (length ks)) ∷ [],
      entries_in ks v,
      ap (λ (z : Floored). z.entries) (sym seen) ∙ ap (λ js. entries_in js v) h.1,
      (subst (λ n. IsTrue (fits (entry_of k (is_wide v n)) top)) i fit, (subst (λ n. IsTrue (fits (entry_of l (is_wide v n)) under)) j fit2, tt)),
      omega (arith, floor_same p v now seen, length-entries ks v, h.2),
      changed p q v now (option_to_list (option_map kind_of given) ++ ks) (option_to_list given ++ entries_in ks v) seen h.3
          (given_entries given ks v (subst (λ n. IsTold given (is_wide v n)) j told)),
    )
