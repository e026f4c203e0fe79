-- A policy without limits counts nothing, so its checker answers as the rules do.
use Rattle.std.proofs.Common.{◌≡◌, List, [], ◌∷◌, Option, None, Some, Result, Ok, Err, refl, subst}
use Rattle.wm_syntax.specs.declared.why.Why.{Why}
use Rattle.wm_syntax.specs.declared.modules.ImportDesc.{ImportDesc}
use Rattle.wm_syntax.specs.declared.modules.ImportDesc.TheVariants as desc
use Rattle.wm_machine.specs.Items.{Item, import_desc, function, body, locals, body_op}
use Rattle.wm_machine.specs.Sinks.{RunsOut, Took, all_taken}
use Rattle.wm_rules.specs.declared.counts.Counts.{Counts}
use Rattle.wm_rules.specs.exact.Checking.{after}
use Rattle.wm_rules.specs.exact.Counting.{counted, counts_at_start}
use Rattle.wm_rules.specs.exact.Policing.{CheckerHeld, checker_after, checker_may_run_out, counts_in}
use Rattle.wm_rules.specs.Holding.{Held}
use Rattle.wm_rules.specs.Policies.{no_limits}
use Rattle.wm_rules.specs.Room.{MayRunOut}
use Rattle.wm_rules.proofs.BothSinks.{first_ran_out, first_refused, second_ran_out, second_took}

desc_free : (d : ImportDesc) → counted (counts_at_start no_limits) (import_desc d) ≡ Ok (counts_at_start no_limits)
desc_free (desc.Func x) = refl
desc_free (desc.Table l) = refl
desc_free (desc.Memory l) = refl
desc_free (desc.Global g) = refl

item_free : (x : Item) → counted (counts_at_start no_limits) x ≡ Ok (counts_at_start no_limits)
item_free (import_desc d) = desc_free d
item_free (function x) = refl
item_free body = refl
item_free (locals n t) = refl
item_free (body_op o) = refl
item_free _ = refl

all_free : (xs : List Item) → all_taken counted (counts_at_start no_limits) xs ≡ Ok (counts_at_start no_limits)
all_free [] = refl
all_free (x ∷ xs) = rw (item_free x, all_free xs) refl

pub took_free : (xs : List Item) → Took {U = Unit {0}} counted (counts_at_start no_limits) xs (Ok tt) (counts_at_start no_limits)
took_free [] = refl
took_free (x ∷ []) = item_free x
took_free (x ∷ y ∷ xs) = all_free (x ∷ y ∷ xs)

pub room_free : (xs : List Item) → RunsOut {U = Unit {0}} (λ c x. ⊥) (counts_at_start no_limits) xs (Ok tt)
room_free [] = tt
room_free (x ∷ []) = tt
room_free (x ∷ y ∷ xs) = tt

free_took : (h g : Held) (xs : List Item) (r : Result (Unit {0}) Why) → Took {U = Unit {0}} after h xs r g
    → Took {U = Unit {0}} checker_after (h, counts_at_start no_limits) xs r (g, counts_at_start no_limits)
free_took h g xs (Ok u) t = second_took after counted h g _ _ xs (Ok tt) t (took_free xs)
free_took h g xs (Err w) t = first_refused after counted h g _ _ xs w t

free_ran_out : (h g : Held) (xs : List Item) (r : Result (Unit {0}) Why) → Took {U = Unit {0}} after h xs r g → RunsOut {U = Unit {0}} MayRunOut h xs r
    → RunsOut {U = Unit {0}} checker_may_run_out (h, counts_at_start no_limits) xs r
free_ran_out h g xs (Ok u) t k = second_ran_out after MayRunOut (λ (c : Counts) (x : Item). ⊥) h g (counts_at_start no_limits) xs (Ok tt) t (room_free xs)
free_ran_out h g xs (Err w) t k = first_ran_out after MayRunOut (λ (c : Counts) (x : Item). ⊥) h (counts_at_start no_limits) xs w k

-- where the checker has no counts
pub rules_took : (h g : Held) (v : CheckerHeld) (counts : Option Counts) (xs : List Item) (r : Result (Unit {0}) Why) → counts ≡ None → (h, counts_in counts) ≡ v
    → Took {U = Unit {0}} after h xs r g → Took {U = Unit {0}} checker_after v xs r (g, counts_in counts)
rules_took h g v None xs r n e t = subst (λ (v : CheckerHeld). Took checker_after v xs r (g, counts_at_start no_limits)) e (free_took h g xs r t)
rules_took h g v (Some c) xs r n e t = absurd (cc)

pub rules_ran_out : (h g : Held) (v : CheckerHeld) (counts : Option Counts) (xs : List Item) (r : Result (Unit {0}) Why) → counts ≡ None → (h, counts_in counts) ≡ v
    → Took {U = Unit {0}} after h xs r g → RunsOut {U = Unit {0}} MayRunOut h xs r → RunsOut {U = Unit {0}} checker_may_run_out v xs r
rules_ran_out h g v None xs r n e t k = subst (λ (v : CheckerHeld). RunsOut checker_may_run_out v xs r) e (free_ran_out h g xs r t k)
rules_ran_out h g v (Some c) xs r n e t k = absurd (cc)

-- where it has counts, or may have
module _ (h : Held) (v : CheckerHeld) (k : Counts) (xs : List Item) (e : (h, k) ≡ v) where
  pub refused_took : (g : Held) (w : Why) → Took {U = Unit {0}} after h xs (Err w) g → Took {U = Unit {0}} checker_after v xs (Err w) (g, k)
  refused_took g w t = subst (λ (v : CheckerHeld). Took {U = Unit {0}} checker_after v xs (Err w) (g, k)) e (first_refused after counted h g k k xs w t)

  pub refused_ran_out : (w : Why) → RunsOut {U = Unit {0}} MayRunOut h xs (Err w) → RunsOut {U = Unit {0}} checker_may_run_out v xs (Err w)
  refused_ran_out w t =
      subst (λ (v : CheckerHeld). RunsOut {U = Unit {0}} checker_may_run_out v xs (Err w)) e (first_ran_out after MayRunOut (λ (c : Counts) (x : Item). ⊥) h k xs w t)

  pub counted_took : (g : Held) (l : Counts) (r : Result (Unit {0}) Why) → Took {U = Unit {0}} after h xs (Ok tt) g → Took {U = Unit {0}} counted k xs r l
      → Took {U = Unit {0}} checker_after v xs r (g, l)
  counted_took g l r t u = subst (λ (v : CheckerHeld). Took {U = Unit {0}} checker_after v xs r (g, l)) e (second_took after counted h g k l xs r t u)

  pub counted_ran_out : (g : Held) (r : Result (Unit {0}) Why) → Took {U = Unit {0}} after h xs (Ok tt) g → RunsOut {U = Unit {0}} (λ (c : Counts) (x : Item). ⊥) k xs r
      → RunsOut {U = Unit {0}} checker_may_run_out v xs r
  counted_ran_out g r t u =
      subst (λ (v : CheckerHeld). RunsOut {U = Unit {0}} checker_may_run_out v xs r) e (second_ran_out after MayRunOut (λ (c : Counts) (x : Item). ⊥) h g k xs r t u)
