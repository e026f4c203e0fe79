-- A body that is being read: which ops its builder may take, and which blocks are open in it.
use Rattle.std.specs.Prelude.{◌≡◌, List, Bool, true, false, Some, map}
use Rattle.wm_syntax.specs.declared.instructions.Op.{Op}
use Rattle.wm_syntax.specs.inner.Building.{Open, in_block, in_loop, in_first, in_second, Place, at, labels}
use Rattle.wm_syntax.specs.inner.Building.{place_after}
use Rattle.wm_bodies.specs.inner.Pieces.{Opened}

-- The builder may take these ops next.
unfoldable pub CanTake : Place → List Op → Type 0
CanTake p ops = (q : Place) × (place_after p ops ≡ Some q)

abbrev pub is_first : Open → Bool
is_first (in_first t before) = true
is_first (in_second t before first) = false
is_first (in_block t before) = false
is_first (in_loop t before) = false

-- The builder's open lists match the open blocks: as many, and an else may follow in the same ones.
abbrev pub IsOver : Place → Opened → Type 0
IsOver (at outer s) bs = map is_first outer ≡ map (λ b. b.may_else) bs
IsOver (labels outer s seen n) bs = ⊥
