-- At every front of an input, the entries that a checker retains outside bodies are at most the bytes outside
-- code entries.
use Rattle.std.proofs.Common.{ℕ, suc, ◌+◌, ◌≡◌, ◌≤◌, List, [], ◌∷◌, ◌++◌, Option, Some, None, Ok, length, map, sum_by, refl, sym, ◌∙◌, ap, subst, arith}
use Rattle.std.proofs.lemmas.List.Sums.{sum_by-cons}
use Rattle.wm_syntax.specs.declared.types.ValType.{ValType}
use Rattle.wm_syntax.specs.declared.instructions.Op.{Op}
use Rattle.wm_syntax.specs.declared.modules.ImportDesc.{ImportDesc}
use Rattle.wm_syntax.specs.declared.modules.ImportDesc.TheVariants as desc
use Rattle.wm_syntax.specs.declared.profile.Profile.{Profile}
use Rattle.wm_syntax.specs.Types.{SpellsU32}
use Rattle.wm_machine.specs.Fronts.{IsFront, name_more, name_after, outside_bytes, unfinished_name}
use Rattle.wm_machine.specs.Grammar.{Code, loose}
use Rattle.wm_machine.specs.Items.{Item, Zone, outside, name, entry, closing, Mark, Marks, items_at, put_item, import_desc, import_module, import_name, export_name, body, locals, body_op}
use Rattle.wm_machine.specs.MarkedForms.{marks_ending, entry_marks, name_marks, name_byte_marks}
use Rattle.wm_machine.specs.Sinks.{all_taken}
use Rattle.wm_machine.proofs.EntryBytes.{run_part}
use Rattle.wm_machine.proofs.GrammarValues.{reads_body}
use Rattle.wm_rules.specs.exact.Checking.{after, empty_checker}
use Rattle.wm_rules.specs.Holding.{Held}
use Rattle.wm_rules.specs.Kept.{list_entries, item_weight}
use Rattle.wm_rules.proofs.EveryRule.{IsNamed, IsPlain, Passes, has_module}
use Rattle.wm_rules.proofs.Weights.{kept_weight}

abbrev weight_at : Option Item → ℕ
weight_at None = 0
weight_at (Some x) = item_weight x

abbrev is_outside : Zone → ℕ
is_outside z = elim z [ outside ↦ 1 | name ↦ 1 | entry ↦ 0 | closing ↦ 0 ]

-- Each byte outside code entries pays one, and at its last byte each item has been paid for. Before the first of these
-- bytes so much is to spare, and a name has n bytes so far; as much as a name has so far stays to spare while it goes on.
-- None goes on after the last.
abbrev Paid : (spare n : ℕ) → Marks → Type 0
Paid spare n [] = n ≡ 0
Paid spare n (m ∷ k) =
    (left : ℕ) × (weight_at m.item + left ≤ spare + is_outside m.zone) × (name_more m.zone n ≤ left) × Paid left (name_more m.zone n) k

weight-cons : (m : Mark) (k : Marks) → sum_by item_weight (items_at (m ∷ k)) ≡ weight_at m.item + sum_by item_weight (items_at k)
weight-cons m k = go m.item
  where
    go : (x : Option Item) → sum_by item_weight (put_item x (items_at k)) ≡ weight_at x + sum_by item_weight (items_at k)
    go None = omega arith
    go (Some x) = sum_by-cons item_weight x (items_at k)

outside-cons : (m : Mark) (k : Marks) → outside_bytes (m ∷ k) ≡ is_outside m.zone + outside_bytes k
outside-cons m k = go m.zone (outside_bytes k)
  where
    go : (z : Zone) (n : ℕ) → elim z [ outside ↦ suc n | name ↦ suc n | entry ↦ n | closing ↦ n ] ≡ is_outside z + n
    go outside n = omega arith
    go name n = omega arith
    go entry n = omega arith
    go closing n = omega arith

paid_along : (k more : Marks) (spare n : ℕ) → n ≤ spare → Paid spare n (k ++ more) → sum_by item_weight (items_at k) + name_after n k ≤ spare + outside_bytes k
paid_along [] more spare n few h = omega (arith, few)
paid_along (m ∷ k) more spare n few h =
    let rest : sum_by item_weight (items_at k) + name_after (name_more m.zone n) k ≤ h.0 + outside_bytes k = paid_along k more h.0 (name_more m.zone n) h.2 h.3 in
    omega (arith, rest, h.1, weight-cons m k, outside-cons m k)

paid_sooner : (spare n : ℕ) (k : Marks) → Paid 0 n k → Paid spare n k
paid_sooner spare n [] h = h
paid_sooner spare n (m ∷ k) h = (h.0, omega (arith, h.1), h.2, h.3)

paid_append : (spare n : ℕ) (j k : Marks) → Paid spare n j → Paid 0 0 k → Paid spare n (j ++ k)
paid_append spare n [] k h g = subst (λ i. Paid spare i k) (sym h) (paid_sooner spare 0 k g)
paid_append spare n (m ∷ j) k h g = (h.0, h.1, h.2, paid_append h.0 (name_more m.zone n) j k h.3 g)

paid_ending : (x : Option Item) (b : List ℕ) → weight_at x ≤ 1 → Paid 0 0 (marks_ending x b)
paid_ending x [] w = refl
paid_ending x (c ∷ []) w = (0, omega (arith, w), omega arith, refl)
paid_ending x (c ∷ d ∷ b) w = (0, omega arith, omega arith, paid_ending x (d ∷ b) w)

-- In a code entry no byte pays, and no item weighs anything.
paid_entered : (k : Marks) → sum_by item_weight (items_at k) ≡ 0 → Paid 0 0 (entry_marks k)
paid_entered [] e = refl
paid_entered (m ∷ []) e = (0, omega (arith, e, weight-cons m []), omega arith, refl)
paid_entered (m ∷ o ∷ k) e = (0, omega (arith, e, weight-cons m (o ∷ k)), omega arith, paid_entered (o ∷ k) (omega (arith, e, weight-cons m (o ∷ k))))

ops_light : (ops : List Op) → sum_by item_weight (map body_op ops) ≡ 0
ops_light [] = refl
ops_light (o ∷ ops) = let e : sum_by item_weight (map body_op ops) ≡ 0 = ops_light ops in omega (arith, e, sum_by-cons item_weight (body_op o) (map body_op ops))

body_light : (runs : List (ℕ × ValType)) (ops : List Op) → sum_by item_weight (map run_part runs ++ map body_op ops) ≡ 0
body_light [] ops = ops_light ops
body_light (r ∷ runs) ops =
    let e : sum_by item_weight (map run_part runs ++ map body_op ops) ≡ 0 = body_light runs ops in omega (arith, e, sum_by-cons item_weight (run_part r) (map run_part runs ++ map body_op ops))

paid_code : {demanded : Type 0} (p : Profile) (b : List ℕ) (k : Marks) → Code demanded p b k → Paid 0 0 k
paid_code p b k h =
    let e = h.rest.1 in
    let v = (reads_body p).to h.back e.inner e.contents in
    let light : sum_by item_weight (items_at e.inner) ≡ 0 = ap (sum_by item_weight) v.2 ∙ body_light v.0.0 v.0.1 in
    subst (Paid 0 0) (sym (h.marks ∙ ap (λ j. marks_ending (Some body) h.front ++ j) e.marks))
    (paid_append 0 0 (marks_ending (Some body) h.front) (entry_marks e.inner) (paid_ending (Some body) h.front (omega arith)) (paid_entered e.inner light))

-- A name weighs at most as much as its bytes and one of its length.
paid_naming : (spare n : ℕ) (x : Option Item) (c : ℕ) (text : List ℕ) → n ≤ spare → weight_at x ≤ spare + length (c ∷ text) → Paid spare n (name_byte_marks x (c ∷ text))
paid_naming spare n x c [] e w = (0, omega (arith, w), omega arith, refl)
paid_naming spare n x c (d ∷ text) e w = (suc spare, omega arith, omega (arith, e), paid_naming (suc spare) (suc n) x d text (omega (arith, e)) (omega (arith, w)))

one_spared : (c : ℕ) (b : List ℕ) (k : Marks) → Paid 1 0 k → Paid 0 0 (marks_ending None (c ∷ b) ++ k)
one_spared c [] k h = (1, omega arith, omega arith, h)
one_spared c (d ∷ b) k h = (0, omega arith, omega arith, one_spared d b k h)

paid_name : (x : Option Item) (n : ℕ) (front text : List ℕ) → SpellsU32 n front → weight_at x ≤ 1 + length text → Paid 0 0 (name_marks x front text)
paid_name x n front [] h w = paid_ending x front w
paid_name x n [] (c ∷ text) h w = absurd h
paid_name x n (d ∷ front) (c ∷ text) h w = one_spared d front (name_byte_marks x (c ∷ text)) (paid_naming 1 0 x c text (omega arith) w)

plain_light : (x : Option Item) → IsPlain x → weight_at x ≤ 1
plain_light (Some (import_module text)) i = absurd i
plain_light (Some (import_name text)) i = absurd i
plain_light (Some (export_name text)) i = absurd i
plain_light (Some body) i = absurd i
plain_light (Some (locals n t)) i = absurd i
plain_light (Some (body_op o)) i = absurd i
plain_light (Some (import_desc d)) i = light d
  where
    light : (d : ImportDesc) → item_weight (import_desc d) ≤ 1
    light (desc.Func x) = omega arith
    light (desc.Table l) = omega arith
    light (desc.Memory l) = omega arith
    light (desc.Global g) = omega arith
plain_light _ i = omega arith

named_light : (text : List ℕ) (x : Option Item) → IsNamed text x → weight_at x ≤ 1 + length text
named_light text None i = omega arith
named_light text (Some (import_module t)) i = omega arith
named_light text (Some (import_name t)) i = omega arith
named_light text (Some (export_name t)) i = let n = ap length i in omega (arith, n)
named_light text (Some _) i = absurd i

paid : (p : Profile) → Passes loose p (Paid 0 0)
paid p = record {
  none = refl;
  both = paid_append 0 0;
  plain = λ x b i. paid_ending x b (plain_light x i);
  named = λ x front text i n. paid_name x (length text) front text n (named_light text x i);
  code = paid_code p;
}

pub front_paid : (p : Profile) (b : List ℕ) (k : Marks) → IsFront p b k → sum_by item_weight (items_at k) + unfinished_name k ≤ outside_bytes k
front_paid p b k h = omega (arith, paid_along k h.rest_marks 0 0 (omega arith) (has_module loose p (Paid 0 0) (paid p) (b ++ h.rest) (k ++ h.rest_marks) h.whole))

-- what a checker holds of the items that were taken, and the name at hand
pub at_most_kept : (p : Profile) (b : List ℕ) (k : Marks) (h : Held) → IsFront p b k → all_taken after empty_checker (items_at k) ≡ Ok h → unfinished_name k + list_entries h ≤ outside_bytes k
at_most_kept p b k h front taken = omega (arith, front_paid p b k front, kept_weight (items_at k) h taken)
