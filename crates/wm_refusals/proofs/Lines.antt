-- The lines of a text that an iterator over its lines still gives.
use Rattle.std.proofs.Common.{◌≡◌, ℕ, List, [], ◌∷◌, Contains, Some, arith, refl, suc, sym, subst}
use Rattle.std.proofs.lemmas.Iterator.Splits.{YieldsList-from_lines}
use Rattle.std.specs.Iterator.{AlwaysYields}
use Rattle.std.specs.Str.Iter.{lines_rest, lines_steps}
use Rattle.std.specs.declared.str.Lines.{Lines}
use Rattle.std.specs.Str.Lines.{lines}
use denote.Ref.{Bor}

abbrev pub AreLeft : List ℕ → Lines → Type 0
AreLeft text s = (ys : List (List ℕ)) × AlwaysYields lines_steps (λ x. x.now) s ys × ((x : List ℕ) → Contains ys x → Contains (lines text) x)

pub all_left : (text : List ℕ) (s : Lines) → lines_rest s ≡ text → AreLeft text s
all_left text s e = (lines text, (YieldsList-from_lines text e).runs, λ x c. c)

pub next_left : (text : List ℕ) (s t : Lines) (x : Bor (List ℕ)) → AreLeft text s → lines_steps s (Some x) t → Contains (lines text) x.now × AreLeft text t
next_left text s t x ([], always, within) h = absurd (always x t h)
next_left text s t x (y ∷ ys, always, within) h =
    let head = always.1 x t h in
    (subst (λ (v : List ℕ). Contains (lines text) v) (sym head.0) (within y (0, omega arith, refl)), (ys, head.1, λ z c. within z (suc c.0, omega (arith, c.1), c.2)))
