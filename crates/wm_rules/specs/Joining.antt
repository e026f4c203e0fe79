-- The bytes of an input that comes in pieces (input chunks).
use Rattle.std.specs.Prelude.{ℕ, List, [], ◌∷◌, ◌++◌}
use Rattle.std.specs.Borrow.{Bor}

-- The bytes of all pieces, in order.
abbrev pub joined_bytes : List (Bor (List ℕ)) → List ℕ
joined_bytes [] = []
joined_bytes (piece ∷ pieces) = piece.now ++ joined_bytes pieces
