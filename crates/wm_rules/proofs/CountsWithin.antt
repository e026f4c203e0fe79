-- The counts so far are within the policy: functions, locals, and the open lists of the body.
use Rattle.std.proofs.Common.{◌≡◌, ℕ, ◌-◌, ◌≤◌, List, [], ◌∷◌, ◌++◌, Option, Some, None, Result, Ok, refl, sym, ap, subst, ◌∙◌, arith, append_assoc}
use Rattle.wm_syntax.specs.declared.why.Why.{Why}
use Rattle.wm_syntax.specs.declared.instructions.Op.{Op}
use Rattle.wm_syntax.specs.declared.instructions.Op.TheVariants as op
use Rattle.wm_syntax.specs.declared.modules.ImportDesc.TheVariants as desc
use Rattle.wm_syntax.specs.Instructions.{endings, openings}
use Rattle.wm_machine.specs.Items.{Item, import_desc, function, body, locals, body_op}
use Rattle.wm_machine.specs.Sinks.{all_taken}
use Rattle.wm_rules.specs.declared.counts.Counts.{Counts}
use Rattle.wm_rules.specs.declared.policy.Policy.{Policy}
use Rattle.wm_rules.specs.exact.Counting.{count_after, counted, counts_at_start, open_after, open_within, with_functions, with_locals, with_open}
use Rattle.wm_rules.specs.Meanings.{InEntry}
use Rattle.wm_rules.specs.Policies.{AtMost}
use Rattle.wm_rules.proofs.MemberFolds.{ok_then}
use Rattle.wm_rules.proofs.CountedSoFar.{entry_told, opened_is}
use Rattle.wm_rules.proofs.PolicyItems.{count_sound, one_sound, opened, opened-append, ops_open, then_some}

-- neither functions nor locals are past their limit
abbrev pub Fits : Counts → Type 0
Fits c = AtMost c.policy.functions c.functions × AtMost c.policy.locals c.locals

nothing_fits : (limit : Option ℕ) → AtMost limit 0
nothing_fits None = tt
nothing_fits (Some most) = omega arith

count_fits : (limit : Option ℕ) (n more m : ℕ) → count_after limit n more ≡ Some m → AtMost limit m
count_fits None n more m e = tt
count_fits (Some most) n more m e = let s = count_sound most n more m e in omega (arith, s.0, s.1)

open_fits : (most n m : ℕ) (o : Op) → n ≤ most → open_after o most n ≡ Some m → m ≤ most
open_fits most n m (op.Block t) l e = let s = one_sound most n m e in omega (arith, s.0, s.1)
open_fits most n m (op.Loop t) l e = let s = one_sound most n m e in omega (arith, s.0, s.1)
open_fits most n m (op.If t) l e = let s = one_sound most n m e in omega (arith, s.0, s.1)
open_fits most n m op.End l e = let is : n - 1 ≡ m = cc (e) in omega (arith, l, is)
open_fits most n m _ l e = let is : n ≡ m = cc (e) in omega (arith, l, is)

functions_fit : (c d : Counts) (o : Option ℕ) → count_after c.policy.functions c.functions 1 ≡ o → with_functions c o ≡ Ok d → Fits c → Fits d
functions_fit c d None h e f = absurd (cc (e))
functions_fit c d (Some n) h e f =
    let is : record c { functions = n } ≡ d = cc (e) in
    subst Fits is (count_fits c.policy.functions c.functions 1 n h, f.1)

locals_fit : (c d : Counts) (more : ℕ) (o : Option ℕ) → count_after c.policy.locals c.locals more ≡ o → with_locals c o ≡ Ok d → Fits c → Fits d
locals_fit c d more None h e f = absurd (cc (e))
locals_fit c d more (Some n) h e f =
    let is : record c { locals = n } ≡ d = cc (e) in
    subst Fits is (f.0, count_fits c.policy.locals c.locals more n h)

blocks_fit : (c d : Counts) (o : Option ℕ) → with_open c o ≡ Ok d → Fits c → Fits d
blocks_fit c d None e f = absurd (cc (e))
blocks_fit c d (Some n) e f =
    let is : record c { blocks = n } ≡ d = cc (e) in
    subst Fits is f

same_fits : (c d : Counts) → ◌≡◌ {A = Result Counts Why} (Ok c) (Ok d) → Fits c → Fits d
same_fits c d e f = let is : c ≡ d = cc (e) in subst Fits is f

item_fits : (c d : Counts) (x : Item) → counted c x ≡ Ok d → Fits c → Fits d
item_fits c d (import_desc (desc.Func x)) e f = functions_fit c d (count_after c.policy.functions c.functions 1) refl e f
item_fits c d (import_desc (desc.Table l)) e f = same_fits c d e f
item_fits c d (import_desc (desc.Memory l)) e f = same_fits c d e f
item_fits c d (import_desc (desc.Global g)) e f = same_fits c d e f
item_fits c d (function x) e f = functions_fit c d (count_after c.policy.functions c.functions 1) refl e f
item_fits c d body e f =
    same_fits (record c { locals = 0; blocks = 0 }) d e (f.0, nothing_fits c.policy.locals)
item_fits c d (locals n t) e f = locals_fit c d n (count_after c.policy.locals c.locals n) refl e f
item_fits c d (body_op o) e f = blocks_fit c d (open_within o c.policy.depth c.blocks) e f
item_fits c d _ e f = same_fits c d e f

items_fit : (items : List Item) (c d : Counts) → all_taken counted c items ≡ Ok d → Fits c → Fits d
items_fit [] c d e f = same_fits c d e f
items_fit (x ∷ items) c d e f =
    let r = ok_then (counted c x) (λ k. all_taken counted k items) d e in
    items_fit items r.0 d r.2 (item_fits c r.0 x r.1 f)

pub counts_fit : (q : Policy) (items : List Item) (c : Counts) → all_taken counted (counts_at_start q) items ≡ Ok c → Fits c
counts_fit q items c e =
    items_fit items (counts_at_start q) c e (nothing_fits q.functions, nothing_fits q.locals)

-- at each front of the ops at hand so many lists are open as were opened and not ended
ops_fit : (ops : List Op) (most n m : ℕ) → n ≤ most → opened most n ops ≡ Some m → m ≤ most
ops_fit [] most n m l e = let is : n ≡ m = cc (e) in omega (arith, l, is)
ops_fit (o ∷ ops) most n m l e =
    let s = then_some (open_after o most n) (λ k. opened most k ops) m e in
    ops_fit ops most s.0 m (open_fits most n s.0 o l s.1) s.2

front_fits : (most m : ℕ) (ops front back : List Op) → ((x y : List Op) → ops ≡ x ++ y → endings x ≤ openings x) → opened most 0 ops ≡ Some m → ops ≡ front ++ back → openings front - endings front ≤ most
front_fits most m ops front back low e is =
    let whole : opened most 0 (front ++ back) ≡ Some m = ap (opened most 0) (sym is) ∙ e in
    let s = then_some (opened most 0 front) (λ k. opened most k back) m (sym (opened-append most front back 0) ∙ whole) in
    let count = opened_is most 0 s.0 front (λ x y cut. let l = low x (y ++ back) (is ∙ ap (λ (z : List Op). z ++ back) cut ∙ append_assoc x y back) in omega (arith, l)) s.1 in
    let fits = ops_fit front most 0 s.0 (omega arith) s.1 in
    omega (arith, count, fits)

pub blocks_fit_so_far : (q : Policy) (items : List Item) (c : Counts) → all_taken counted (counts_at_start q) items ≡ Ok c → (e : InEntry items)
    → ((x y : List Op) → e.code.ops ≡ x ++ y → endings x ≤ openings x) → (front back : List Op) → e.code.ops ≡ front ++ back → AtMost q.depth (openings front - endings front)
blocks_fit_so_far q items c t e low front back is = go q.depth (entry_told q items c t e).1
  where
    go : (limit : Option ℕ) → ops_open limit 0 e.code.ops ≡ Some c.blocks → AtMost limit (openings front - endings front)
    go None h = tt
    go (Some most) h = front_fits most c.blocks e.code.ops front back low h is
