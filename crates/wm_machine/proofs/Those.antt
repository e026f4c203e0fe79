-- Lists of values that satisfy a property.
use Rattle.std.proofs.Common.{List, [], ◌∷◌, ℕ}
use Rattle.std.specs.List.{AllByRecursion}
use Rattle.wm_syntax.specs.Spelling.{Form, Each}
use Rattle.wm_machine.specs.Sections.{Those}

module _ {X : Type 0} (H : X → Type 0) (V : X → Form ℕ) where
  pub those_to : (xs : List X) (b : List ℕ) → AllByRecursion H xs → Each V xs b → Each (Those H V) xs b
  those_to [] b g h = h
  those_to (x ∷ xs) b g h = (h.0, h.1, h.2, (g.0, h.3), those_to xs h.1 g.1 h.4)

  pub those_from : (xs : List X) (b : List ℕ) → Each (Those H V) xs b → AllByRecursion H xs × Each V xs b
  those_from [] b h = (tt, h)
  those_from (x ∷ xs) b h = let v = those_from xs h.1 h.4 in ((h.3.0, v.0), (h.0, h.1, h.2, h.3.1, v.1))
