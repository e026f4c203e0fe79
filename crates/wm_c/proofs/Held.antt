-- The ownership of a handle, for a null one and for one with a session. Assumes `Logic`.
use Rattle.std.proofs.Common.{◌≡◌, ℕ, List, ◌∷◌, refl, Option, None, Some, take, drop, take-append-drop, subst}
use seplogic.Ra.Ura.{Ura}
use mir.Raw.{raw as bare}
use base.Logic.{ent, via, never, fst∗}
use contract.Monad.{fact, fact_use}
use types.Logic.{Logic, sem}
use types.Kit.{Item, Goal, Seq, ⋆, ⊢++, ‵, feq_l}
use denote.RattleType.{RattleType}
use denote.Memory.{lone}
use denote.RawPtr.{Ptr, block_ptr, null_ptr, in_a_block}
use Rattle.std_alloc.specs.Box.Ownership.{box_owns}
use Rattle.wm_c.specs.Handles.{freed_by_heap, handle_owns}

module _ (R : RattleType) {M : Type 1} {𝓤 : Ura M} {𝓛 : Logic 𝓤} {K : Type 0} {Γ : List (Item 𝓤)} {G : Goal 𝓤 𝓛.H} where
  pub either_held : K → (p : Ptr) (held : Option R.Denot) → (held ≡ None → p ≡ null_ptr → Seq K 𝓛 Γ G)
      → ((x : R.Denot) (b o : ℕ) → held ≡ Some x → p ≡ block_ptr b o → Seq K 𝓛 (‵ (box_owns freed_by_heap R (block_ptr b o) x) ∷ Γ) G) → Seq K 𝓛 (‵ (handle_owns freed_by_heap R p held) ∷ Γ) G
  either_held t p None none one = feq_l t (λ e. none refl e)
  either_held t p (Some x) none one =
      in_a_block t p (λ p. box_owns freed_by_heap R p x) (fst∗ 𝓤 (never 𝓤) (sem 𝓛 (freed_by_heap (bare (lone R.mir)) null_ptr))) (λ b o e. one x b o refl e)

module _ {M : Type 1} {𝓤 : Ura M} {𝓛 : Logic 𝓤} {K : Type 0} {Γ : List (Item 𝓤)} {G : Goal 𝓤 𝓛.H} where
  -- a fact follows from the first n entries, which are kept
  pub learns : K → (n : ℕ) (φ : Type 0) → ent 𝓤 (⋆ 𝓛 (take n Γ)) (fact 𝓤 φ) → (φ → Seq K 𝓛 Γ G) → Seq K 𝓛 Γ G
  learns t n φ shown k = record {
    prf = fact_use 𝓤 φ (via 𝓤 (⋆ 𝓛 (take n Γ)) (subst (λ (Δ : List (Item 𝓤)). ent 𝓤 (⋆ 𝓛 Δ) (⋆ 𝓛 (take n Γ))) (take-append-drop n Γ)
        (via 𝓤 _ (⊢++ 𝓛 (take n Γ) (drop n Γ)) (fst∗ 𝓤 (⋆ 𝓛 (take n Γ)) (⋆ 𝓛 (drop n Γ))))) shown) (λ x. (k x).prf);
  }
