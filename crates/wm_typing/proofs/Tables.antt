-- The labels of a br_table.
use Rattle.std.proofs.Common.{ℕ, suc, ◌≡◌, List, [], ◌∷◌, ◌++◌, Option, Some, None, sym, refl, subst, ◌∙◌, ◌↔◌}
use Rattle.wm_syntax.specs.declared.types.ValType.TheVariants.{I32}
use Rattle.wm_syntax.specs.declared.instructions.Op.{Op}
use Rattle.wm_syntax.specs.declared.instructions.Op.TheVariants as op
use Rattle.wm_typing.specs.Typing.{Context}
use Rattle.wm_typing.specs.OpenLists.{Head, Work, Place, open_at, within, OpenCan, SeenCan, CanType, IsOpen, IsSoFar}
use Rattle.wm_typing.specs.TypedBodies.{HaveTyping}
use Rattle.wm_typing.proofs.OpenListOps.{place_after}
use Rattle.wm_typing.proofs.WholeBodies.{MaySoFar, place_more}
use Rattle.wm_typing.proofs.StacksAfterOps.{one_more}

-- one op more leads to one place
only_place : (c : Context) (p q : Place) (ops : List Op) (x : Op) → IsSoFar c.result p ops → place_after p x ≡ Some q
    → HaveTyping c (ops ++ x ∷ []) ↔ CanType c q
only_place c p q ops x o e = (
  λ h. subst (λ z. CanType c z) (let k : ◌≡◌ {A = Option Place} (Some h.0) (Some q) = sym (one_more c.result p h.0 ops x o h.1) ∙ e in let r : h.0 ≡ q = cc in r) h.2,
  λ h. (q, subst (λ z. MaySoFar c.result z (ops ++ x ∷ [])) e (place_more c.result x p ops o), h),
)

pub count_law : (c : Context) (hs : List Head) (ws : List Work) (ops : List Op) (n : ℕ) → IsOpen c.result hs ws ops
    → HaveTyping c (ops ++ op.BrTable n ∷ []) ↔ OpenCan c (I32 ∷ []) hs ws
count_law c [] ws ops n o = absurd o
count_law c (h ∷ hs) [] ops n o = absurd o
count_law c (h ∷ hs) (w ∷ ws) ops n o =
    let k = only_place c (open_at (h ∷ hs) (w ∷ ws)) (within n [] (h ∷ hs) (w ∷ ws)) ops (op.BrTable n) o refl in
    (λ t. (k.0 t).1, λ t. k.1 ((None, tt), t))

pub label_law : (c : Context) (n : ℕ) (seen : List ℕ) (hs : List Head) (ws : List Work) (ops : List Op) (l : ℕ) → IsSoFar c.result (within (suc n) seen hs ws) ops
    → HaveTyping c (ops ++ op.Label l ∷ []) ↔ (SeenCan hs (seen ++ l ∷ []) × OpenCan c (I32 ∷ []) hs ws)
label_law c n seen [] ws ops l o = absurd o.1
label_law c n seen (h ∷ hs) [] ops l o = absurd o.1
label_law c n seen (h ∷ hs) (w ∷ ws) ops l o =
    only_place c (within (suc n) seen (h ∷ hs) (w ∷ ws)) (within n (seen ++ l ∷ []) (h ∷ hs) (w ∷ ws)) ops (op.Label l) o refl
