-- If there is a limit, the counts for a policy are those of the items so far.
use Rattle.std.proofs.Common.{◌≡◌, ℕ, ◌+◌, ◌-◌, ◌≤◌, List, [], ◌∷◌, ◌++◌, Option, Some, None, Result, Ok, length, refl, sym, ◌∙◌, ap, subst, arith, length-append}
use Rattle.std.specs.Prelude.{IfSome}
use Rattle.wm_syntax.specs.declared.why.Why.{Why}
use Rattle.wm_syntax.specs.declared.instructions.Op.{Op}
use Rattle.wm_syntax.specs.declared.instructions.Op.TheVariants as op
use Rattle.wm_syntax.specs.declared.modules.ImportDesc.TheVariants as desc
use Rattle.wm_syntax.specs.Instructions.{opens, closes, openings, endings}
use Rattle.wm_syntax.specs.Modules.{locals_of}
use Rattle.wm_machine.specs.Flat.{code_items}
use Rattle.wm_machine.specs.Items.{Item, import_desc, function, body, locals, body_op}
use Rattle.wm_machine.specs.Sinks.{all_taken}
use Rattle.wm_rules.specs.declared.counts.Counts.{Counts}
use Rattle.wm_rules.specs.declared.policy.Policy.{Policy}
use Rattle.wm_rules.specs.exact.Counting.{count_after, counted, counts_at_start, function_counted, open_after, open_within, with_functions, with_locals, with_open}
use Rattle.wm_rules.specs.Holding.{IndexSpaces}
use Rattle.wm_rules.specs.Meanings.{InEntry, no_spaces, so_far, with_item, with_items}
use Rattle.wm_rules.proofs.MemberFolds.{ok_then, taken-append}
use Rattle.wm_rules.proofs.PolicyItems.{count_sound, entry_counted, one_sound, opened, ops_open, runs_counted, runs_sum, then_some}

-- where there is a limit, so many were counted
abbrev pub IsCount : Option ℕ → ℕ → ℕ → Type 0
IsCount limit n m = IfSome limit (λ most. n ≡ m)

-- Functions: an item keeps the policy, and what is counted of functions.
abbrev Kept : Counts → Counts → ℕ → ℕ → Type 0
Kept c d n m = (d.policy ≡ c.policy) × (IsCount c.policy.functions c.functions n → IsCount c.policy.functions d.functions m)

kept_of : (c k d : Counts) (n : ℕ) → k.policy ≡ c.policy → k.functions ≡ c.functions → ◌≡◌ {A = Result Counts Why} (Ok k) (Ok d) → Kept c d n n
kept_of c k d n p f e =
    let is : k ≡ d = cc (e) in
    (ap (λ (z : Counts). z.policy) (sym is) ∙ p, λ h. subst (λ m. IsCount c.policy.functions m n) (sym f ∙ ap (λ (z : Counts). z.functions) is) h)

kept_then : (c k d : Counts) (n m l : ℕ) → Kept c k n m → Kept k d m l → Kept c d n l
kept_then c k d n m l a b = (
  b.0 ∙ a.0,
  λ h. subst (λ (p : Policy). IsCount p.functions d.functions l) a.0 (b.1 (subst (λ (p : Policy). IsCount p.functions k.functions m) (sym a.0) (a.1 h))),
)

function_kept : (c d : Counts) (fs : List ℕ) (x : ℕ) → function_counted c ≡ Ok d → Kept c d (length fs) (length (fs ++ x ∷ []))
function_kept c d fs x e = let s = go (count_after c.policy.functions c.functions 1) e in (s.1, one_more c.policy.functions s.0)
  where
    go : (o : Option ℕ) → with_functions c o ≡ Ok d → (o ≡ Some d.functions) × (d.policy ≡ c.policy)
    go None e = absurd (cc (e))
    go (Some n) e =
        let is : record c { functions = n } ≡ d = cc (e) in
        (ap (λ (z : Counts). Some z.functions) is, ap (λ (z : Counts). z.policy) (sym is))

    one_more : (limit : Option ℕ) → count_after limit c.functions 1 ≡ Some d.functions → IsCount limit c.functions (length fs) → IsCount limit d.functions (length (fs ++ x ∷ []))
    one_more None e h = tt
    one_more (Some most) e h =
        let n = count_sound most c.functions 1 d.functions e in
        let long = length-append fs (x ∷ []) in
        omega (arith, n.1, h, long)

locals_kept : (c d : Counts) (o : Option ℕ) (n : ℕ) → with_locals c o ≡ Ok d → Kept c d n n
locals_kept c d None n e = absurd (cc (e))
locals_kept c d (Some m) n e = kept_of c (record c { locals = m }) d n refl refl e

open_kept : (c d : Counts) (o : Option ℕ) (n : ℕ) → with_open c o ≡ Ok d → Kept c d n n
open_kept c d None n e = absurd (cc (e))
open_kept c d (Some m) n e = kept_of c (record c { blocks = m }) d n refl refl e

item_kept : (c d : Counts) (x : Item) (s : IndexSpaces) → counted c x ≡ Ok d → Kept c d (length s.functions) (length (with_item s x).functions)
item_kept c d (import_desc (desc.Func x)) s e = function_kept c d s.functions x e
item_kept c d (import_desc (desc.Table l)) s e = kept_of c c d (length s.functions) refl refl e
item_kept c d (import_desc (desc.Memory l)) s e = kept_of c c d (length s.functions) refl refl e
item_kept c d (import_desc (desc.Global g)) s e = kept_of c c d (length s.functions) refl refl e
item_kept c d (function x) s e = function_kept c d s.functions x e
item_kept c d body s e = kept_of c (record c { locals = 0; blocks = 0 }) d (length s.functions) refl refl e
item_kept c d (locals n t) s e = locals_kept c d (count_after c.policy.locals c.locals n) (length s.functions) e
item_kept c d (body_op o) s e = open_kept c d (open_within o c.policy.depth c.blocks) (length s.functions) e
item_kept c d _ s e = kept_of c c d (length s.functions) refl refl e

items_kept : (items : List Item) (c d : Counts) (s : IndexSpaces) → all_taken counted c items ≡ Ok d → Kept c d (length s.functions) (length (with_items s items).functions)
items_kept [] c d s e = kept_of c c d (length s.functions) refl refl e
items_kept (x ∷ items) c d s e =
    let r = ok_then (counted c x) (λ k. all_taken counted k items) d e in
    kept_then c r.0 d (length s.functions) (length (with_item s x).functions) (length (with_items s (x ∷ items)).functions) (item_kept c r.0 x s r.1) (items_kept items r.0 d (with_item s x) r.2)

-- Blocks, loops and ifs: no front of the ops ends more than it opens.
one_opened : (most n m : ℕ) (o : Op) → closes o ≤ n + opens o → open_after o most n ≡ Some m → m + closes o ≡ n + opens o
one_opened most n m (op.Block t) l e = let s = one_sound most n m e in omega (arith, s.1)
one_opened most n m (op.Loop t) l e = let s = one_sound most n m e in omega (arith, s.1)
one_opened most n m (op.If t) l e = let s = one_sound most n m e in omega (arith, s.1)
one_opened most n m op.End l e = let is : n - 1 ≡ m = cc (e) in omega (arith, l, is)
one_opened most n m _ l e = let is : n ≡ m = cc (e) in omega (arith, is)

pub opened_is : (most n m : ℕ) (ops : List Op) → ((front back : List Op) → ops ≡ front ++ back → endings front ≤ n + openings front) → opened most n ops ≡ Some m → m + endings ops ≡ n + openings ops
opened_is most n m [] low e = let is : n ≡ m = cc (e) in omega (arith, is)
opened_is most n m (o ∷ ops) low e =
    let s = then_some (open_after o most n) (λ k. opened most k ops) m e in
    let first : closes o ≤ n + opens o = (let l = low (o ∷ []) ops refl in omega (arith, l)) in
    let one = one_opened most n s.0 o first s.1 in
    let rest = opened_is most s.0 m ops (λ front back i. let l = low (o ∷ front) back (ap (λ y. o ∷ y) i) in omega (arith, l, one)) s.2 in
    omega (arith, one, rest)

module _ (q : Policy) (items : List Item) (c : Counts) (t : all_taken counted (counts_at_start q) items ≡ Ok c) where
  pub policy_kept : c.policy ≡ q
  policy_kept = (items_kept items (counts_at_start q) c no_spaces t).0

  pub functions_told : IsCount q.functions c.functions (length (so_far items).functions)
  functions_told = (items_kept items (counts_at_start q) c no_spaces t).1 (none_yet q.functions)
    where
      none_yet : (limit : Option ℕ) → IsCount limit 0 0
      none_yet None = tt
      none_yet (Some most) = refl

  -- of the code entry at hand
  pub entry_told : (e : InEntry items) → (runs_counted q.locals 0 e.code.runs ≡ Some c.locals) × (ops_open q.depth 0 e.code.ops ≡ Some c.blocks)
  entry_told e =
      let start = counts_at_start q in
      let s = ok_then (all_taken counted start e.before) (λ g. all_taken counted g (code_items e.code)) c (sym (taken-append counted e.before (code_items e.code) start) ∙ (ap (λ y. all_taken counted start y) (sym e.whole) ∙ t)) in
      let r = entry_counted e.code s.0 c s.2 in
      let is : s.0.policy ≡ q = (items_kept e.before start s.0 no_spaces s.1).0 in
      (subst (λ (p : Policy). runs_counted p.locals 0 e.code.runs ≡ Some c.locals) is r.0, subst (λ (p : Policy). ops_open p.depth 0 e.code.ops ≡ Some c.blocks) is r.1)

  pub locals_told : (e : InEntry items) → IsCount q.locals c.locals (length (locals_of e.code.runs))
  locals_told e = go q.locals (entry_told e).0
    where
      go : (limit : Option ℕ) → runs_counted limit 0 e.code.runs ≡ Some c.locals → IsCount limit c.locals (length (locals_of e.code.runs))
      go None h = tt
      go (Some most) h = let s = runs_sum most 0 c.locals e.code.runs (omega arith) h in omega (arith, s.0)

  pub blocks_told : (e : InEntry items) → ((front back : List Op) → e.code.ops ≡ front ++ back → endings front ≤ openings front)
      → IsCount q.depth (c.blocks + endings e.code.ops) (openings e.code.ops)
  blocks_told e low = go q.depth (entry_told e).1
    where
      go : (limit : Option ℕ) → ops_open limit 0 e.code.ops ≡ Some c.blocks → IsCount limit (c.blocks + endings e.code.ops) (openings e.code.ops)
      go None h = tt
      go (Some most) h =
          let s = opened_is most 0 c.blocks e.code.ops (λ front back i. let l = low front back i in omega (arith, l)) h in
          omega (arith, s)
