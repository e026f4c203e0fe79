-- The ranks of sections, and their ids.
use Rattle.std.proofs.Common.{◌≡◌, ℕ, zero, suc, ◌≤◌, refl, sym, ◌∙◌, ap, arith}
use Rattle.wm_machine.specs.Grammar.{id_at}

-- the rank of the section with this id
abbrev pub rank_at : ℕ → ℕ
rank_at (suc (suc (suc (suc (suc (suc (suc (suc (suc (suc zero)))))))))) = 11
rank_at (suc (suc (suc (suc (suc (suc (suc (suc (suc (suc (suc zero))))))))))) = 12
rank_at (suc (suc (suc (suc (suc (suc (suc (suc (suc (suc (suc (suc zero)))))))))))) = 10
rank_at id = id

pub rank_of_id : (rank : ℕ) → rank_at (id_at rank) ≡ rank
rank_of_id zero = refl
rank_of_id (suc zero) = refl
rank_of_id (suc (suc zero)) = refl
rank_of_id (suc (suc (suc zero))) = refl
rank_of_id (suc (suc (suc (suc zero)))) = refl
rank_of_id (suc (suc (suc (suc (suc zero))))) = refl
rank_of_id (suc (suc (suc (suc (suc (suc zero)))))) = refl
rank_of_id (suc (suc (suc (suc (suc (suc (suc zero))))))) = refl
rank_of_id (suc (suc (suc (suc (suc (suc (suc (suc zero)))))))) = refl
rank_of_id (suc (suc (suc (suc (suc (suc (suc (suc (suc zero))))))))) = refl
rank_of_id (suc (suc (suc (suc (suc (suc (suc (suc (suc (suc zero)))))))))) = refl
rank_of_id (suc (suc (suc (suc (suc (suc (suc (suc (suc (suc (suc zero))))))))))) = refl
rank_of_id (suc (suc (suc (suc (suc (suc (suc (suc (suc (suc (suc (suc zero)))))))))))) = refl
rank_of_id (suc (suc (suc (suc (suc (suc (suc (suc (suc (suc (suc (suc (suc n))))))))))))) = refl

pub id_of_rank : (id : ℕ) → id_at (rank_at id) ≡ id
id_of_rank zero = refl
id_of_rank (suc zero) = refl
id_of_rank (suc (suc zero)) = refl
id_of_rank (suc (suc (suc zero))) = refl
id_of_rank (suc (suc (suc (suc zero)))) = refl
id_of_rank (suc (suc (suc (suc (suc zero))))) = refl
id_of_rank (suc (suc (suc (suc (suc (suc zero)))))) = refl
id_of_rank (suc (suc (suc (suc (suc (suc (suc zero))))))) = refl
id_of_rank (suc (suc (suc (suc (suc (suc (suc (suc zero)))))))) = refl
id_of_rank (suc (suc (suc (suc (suc (suc (suc (suc (suc zero))))))))) = refl
id_of_rank (suc (suc (suc (suc (suc (suc (suc (suc (suc (suc zero)))))))))) = refl
id_of_rank (suc (suc (suc (suc (suc (suc (suc (suc (suc (suc (suc zero))))))))))) = refl
id_of_rank (suc (suc (suc (suc (suc (suc (suc (suc (suc (suc (suc (suc zero)))))))))))) = refl
id_of_rank (suc (suc (suc (suc (suc (suc (suc (suc (suc (suc (suc (suc (suc n))))))))))))) = refl

pub same_rank : (r s : ℕ) → id_at r ≡ id_at s → r ≡ s
same_rank r s e = sym (rank_of_id r) ∙ (ap rank_at e ∙ rank_of_id s)

-- the rank, if this is the id
pub rank_is : (id rank : ℕ) → id ≡ id_at rank → rank_at id ≡ rank
rank_is id rank e = ap rank_at e ∙ rank_of_id rank

pub id_few : (rank : ℕ) → rank ≤ 12 → id_at rank ≤ 12
id_few zero few = omega arith
id_few (suc zero) few = omega arith
id_few (suc (suc zero)) few = omega arith
id_few (suc (suc (suc zero))) few = omega arith
id_few (suc (suc (suc (suc zero)))) few = omega arith
id_few (suc (suc (suc (suc (suc zero))))) few = omega arith
id_few (suc (suc (suc (suc (suc (suc zero)))))) few = omega arith
id_few (suc (suc (suc (suc (suc (suc (suc zero))))))) few = omega arith
id_few (suc (suc (suc (suc (suc (suc (suc (suc zero)))))))) few = omega arith
id_few (suc (suc (suc (suc (suc (suc (suc (suc (suc zero))))))))) few = omega arith
id_few (suc (suc (suc (suc (suc (suc (suc (suc (suc (suc zero)))))))))) few = omega arith
id_few (suc (suc (suc (suc (suc (suc (suc (suc (suc (suc (suc zero))))))))))) few = omega arith
id_few (suc (suc (suc (suc (suc (suc (suc (suc (suc (suc (suc (suc zero)))))))))))) few = omega arith
id_few (suc (suc (suc (suc (suc (suc (suc (suc (suc (suc (suc (suc (suc n))))))))))))) few = absurd (omega (arith, few))
