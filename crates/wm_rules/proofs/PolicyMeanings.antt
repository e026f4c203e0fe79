-- The meanings of the names of a policy, for the items so far and the refused item.
use Rattle.std.proofs.Common.{◌≡◌, ℕ, ◌+◌, ◌-◌, ◌≤◌, ◌<◌, inl, inr, List, [], ◌∷◌, ◌++◌, Option, Some, None, Ok, Err, length, refl, sym, ◌∙◌, ap, subst, arith, append_assoc}
use Rattle.wm_syntax.specs.declared.types.ValType.{ValType}
use Rattle.wm_syntax.specs.declared.why.Why.{Why}
use Rattle.wm_syntax.specs.declared.why.Why.TheVariants as why
use Rattle.wm_syntax.specs.declared.instructions.Op.{Op}
use Rattle.wm_syntax.specs.declared.instructions.Op.TheVariants as op
use Rattle.wm_syntax.specs.declared.modules.ImportDesc.{ImportDesc}
use Rattle.wm_syntax.specs.declared.modules.ImportDesc.TheVariants as desc
use Rattle.wm_syntax.specs.Instructions.{opens, openings, endings}
use Rattle.wm_syntax.specs.Modules.{locals_of}
use Rattle.wm_typing.specs.OpenLists.{levels}
use Rattle.wm_machine.specs.Items.{Item, import_desc, function, body, locals, body_op}
use Rattle.wm_machine.specs.Meanings.{IsRuleName}
use Rattle.wm_machine.specs.Sinks.{all_taken}
use Rattle.wm_rules.specs.declared.counts.Counts.{Counts}
use Rattle.wm_rules.specs.declared.policy.Policy.{Policy}
use Rattle.wm_rules.specs.exact.Checking.{after, empty_checker}
use Rattle.wm_rules.specs.exact.Counting.{count_after, counted, counts_at_start, one_open_more, open_after, open_within, with_functions, with_locals, with_open}
use Rattle.wm_rules.specs.Holding.{Held}
use Rattle.wm_rules.specs.Meanings.{AreManyFunctions, AreManyLocals, InEntry, IsTooDeep, so_far}
use Rattle.wm_rules.specs.Policies.{AtMost, GoesPast}
use Rattle.wm_rules.proofs.CountedSoFar.{IsCount, blocks_told, functions_told, locals_told, policy_kept}
use Rattle.wm_rules.proofs.CountsWithin.{blocks_fit_so_far, counts_fit}
use Rattle.wm_rules.proofs.EntryItems.{GoesOn, Stood}
use Rattle.wm_rules.proofs.PolicyItems.{count_takes, none_some, one_more}
use Rattle.wm_rules.proofs.RuleMeanings.{Says, Wrong, body_at_hand}

-- what a name says of an item, be it of rules or of the policy
abbrev pub NameSays : Policy → Why → List Item → Item → Type 0
NameSays q why.ManyFunctions items x = AreManyFunctions q items x
NameSays q why.ManyLocals items x = AreManyLocals q items x
NameSays q why.Deep items x = IsTooDeep q items x
NameSays q w items x = Says w items x

-- the item is refused by this name
abbrev pub WrongBy : Policy → Why → List Item → Item → Type 0
WrongBy q w items x = IsRuleName w × (Stood x items → NameSays q w items x)

rule_says : (q : Policy) (w : Why) (items : List Item) (x : Item) → Says w items x → NameSays q w items x
rule_says q why.ManyFunctions items x i = absurd i
rule_says q why.ManyLocals items x i = absurd i
rule_says q why.Deep items x i = absurd i
rule_says q w items x i = i

pub by_rules : (q : Policy) (w : Why) (items : List Item) (x : Item) → Wrong w items x → WrongBy q w items x
by_rules q w items x h = (h.0, λ s. rule_says q w items x (h.1 s))

-- with more than were counted the limit is passed, and not before
past : (limit : Option ℕ) (n m more : ℕ) → IsCount limit n m → AtMost limit n → count_after limit n more ≡ None → GoesPast limit m (m + more)
past None n m more i f e = absurd (none_some n (sym e))
past (Some most) n m more i f e = (omega (arith, i, f), λ l. none_some (n + more) (sym e ∙ count_takes most n more (omega (arith, i, l))))

-- an op that is refused opens a list, and as many are open as the limit allows
opens_past : (o : Op) (limit : Option ℕ) (n m : ℕ) → IsCount limit (n + 1) m → open_within o limit n ≡ None → (opens o ≡ 1) × (AtMost limit m → ⊥)
opens_past o None n m i e = absurd (none_some n (sym e))
opens_past o (Some most) n m i e = go o e
  where
    full : one_open_more most n ≡ None → m ≤ most → ⊥
    full e l = let low : n < most = omega (arith, i, l) in none_some (n + 1) (sym e ∙ one_more most n low)

    go : (o : Op) → open_after o most n ≡ None → (opens o ≡ 1) × (m ≤ most → ⊥)
    go (op.Block t) e = (refl, full e)
    go (op.Loop t) e = (refl, full e)
    go (op.If t) e = (refl, full e)
    go op.End e = absurd (none_some (n - 1) (sym e))
    go o e = absurd (none_some n (sym e))

-- the ops of an expression that goes on end nowhere more than they open
fronts_open : (ops : List Op) (o : Op) → GoesOn ops o → (front back : List Op) → ops ≡ front ++ back → endings front ≤ openings front
fronts_open ops o g front back e = elim (g.1.first front (back ++ o ∷ g.0) (ap (λ y. y ++ o ∷ g.0) e ∙ append_assoc front back (o ∷ g.0))) [
  | inl none ↦ absurd (some back none)
  | inr l ↦ l
]
  where
    some : (back : List Op) → back ++ o ∷ g.0 ≡ [] → ⊥
    some [] h = cc
    some (x ∷ back) h = cc

module _ (q : Policy) (items : List Item) (h : Held) (c : Counts) (t : all_taken after empty_checker items ≡ Ok h) (k : all_taken counted (counts_at_start q) items ≡ Ok c) where
  kept : c.policy ≡ q
  kept = policy_kept q items c k

  fits : AtMost q.functions c.functions × AtMost q.locals c.locals
  fits = subst (λ (p : Policy). AtMost p.functions c.functions × AtMost p.locals c.locals) kept (counts_fit q items c k)

  by_name : (x : Item) (v w : Why) → v ≡ w → WrongBy q v items x → WrongBy q w items x
  by_name x v w same says = subst (λ w. WrongBy q w items x) same says

  -- functions
  functions_err : (o : Option ℕ) (w : Why) → with_functions c o ≡ Err w → (why.ManyFunctions ≡ w) × (o ≡ None)
  functions_err (Some n) w e = absurd (cc)
  functions_err None w e = (cc, refl)

  many_functions : count_after c.policy.functions c.functions 1 ≡ None → GoesPast q.functions (length (so_far items).functions) (length (so_far items).functions + 1)
  many_functions e =
      past q.functions c.functions (length (so_far items).functions) 1 (functions_told q items c k) fits.0
      (subst (λ (p : Policy). count_after p.functions c.functions 1 ≡ None) kept e)

  import_refused : (d : ImportDesc) (w : Why) → counted c (import_desc d) ≡ Err w → WrongBy q w items (import_desc d)
  import_refused (desc.Func x) w e =
      let r = functions_err (count_after c.policy.functions c.functions 1) w e in
      by_name (import_desc (desc.Func x)) why.ManyFunctions w r.0 (tt, λ s. many_functions r.1)
  import_refused (desc.Table l) w e = absurd (cc)
  import_refused (desc.Memory l) w e = absurd (cc)
  import_refused (desc.Global g) w e = absurd (cc)

  -- locals
  locals_err : (o : Option ℕ) (w : Why) → with_locals c o ≡ Err w → (why.ManyLocals ≡ w) × (o ≡ None)
  locals_err (Some n) w e = absurd (cc)
  locals_err None w e = (cc, refl)

  many_locals : (n : ℕ) (v : ValType) → count_after c.policy.locals c.locals n ≡ None → Stood (locals n v) items → AreManyLocals q items (locals n v)
  many_locals n v e s = (
    s.0,
    s.1,
    past q.locals c.locals (length (locals_of s.0.code.runs)) n (locals_told q items c k s.0) fits.1
        (subst (λ (p : Policy). count_after p.locals c.locals n ≡ None) kept e),
  )

  -- blocks, loops and ifs
  open_err : (o : Option ℕ) (w : Why) → with_open c o ≡ Err w → (why.Deep ≡ w) × (o ≡ None)
  open_err (Some n) w e = absurd (cc)
  open_err None w e = (cc, refl)

  one_more_list : (limit : Option ℕ) (n m ends begins : ℕ) → IsCount limit (n + ends) begins → m + ends ≡ begins + 1 → IsCount limit (n + 1) m
  one_more_list None n m ends begins i e = tt
  one_more_list (Some most) n m ends begins i e = omega (arith, i, e)

  too_deep : (o : Op) → open_within o c.policy.depth c.blocks ≡ None → Stood (body_op o) items → IsTooDeep q items (body_op o)
  too_deep o e s =
      let b = body_at_hand items h t s.0 in
      let n = blocks_told q items c k s.0 (fronts_open s.0.code.ops o s.1) in
      let more = opens_past o q.depth c.blocks (levels b.0.typing.0) (one_more_list q.depth c.blocks (levels b.0.typing.0) (endings s.0.code.ops) (openings s.0.code.ops) n b.1)
      (subst (λ (p : Policy). open_within o p.depth c.blocks ≡ None) kept e) in
      let low = fronts_open s.0.code.ops o s.1 in (
        b.0,
        more.0,
        (λ front back is. blocks_fit_so_far q items c k s.0 low front back (ap (λ (e : InEntry items). e.code.ops) (sym b.2) ∙ is)),
        more.1,
      )

  pub count_refused : (x : Item) (w : Why) → counted c x ≡ Err w → WrongBy q w items x
  count_refused (import_desc d) w e = import_refused d w e
  count_refused (function x) w e =
      let r = functions_err (count_after c.policy.functions c.functions 1) w e in
      by_name (function x) why.ManyFunctions w r.0 (tt, λ s. many_functions r.1)
  count_refused (locals n v) w e =
      let r = locals_err (count_after c.policy.locals c.locals n) w e in
      by_name (locals n v) why.ManyLocals w r.0 (tt, many_locals n v r.1)
  count_refused (body_op o) w e =
      let r = open_err (open_within o c.policy.depth c.blocks) w e in
      by_name (body_op o) why.Deep w r.0 (tt, too_deep o r.1)
  count_refused body w e = absurd (cc)
  count_refused _ w e = absurd (cc)
