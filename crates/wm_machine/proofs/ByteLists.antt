-- Lists of bytes, joined and cut.
use Rattle.std.proofs.Common.{ℕ, List, [], ◌∷◌, ◌++◌}
use Rattle.wm_syntax.specs.Spelling.{AreBytes}

pub bytes-append : (a b : List ℕ) → AreBytes a → AreBytes b → AreBytes (a ++ b)
bytes-append [] b p q = q
bytes-append (c ∷ a) b p q = (p.0, bytes-append a b p.1 q)

pub front_bytes : (a b : List ℕ) → AreBytes (a ++ b) → AreBytes a
front_bytes [] b h = tt
front_bytes (c ∷ a) b h = (h.0, front_bytes a b h.1)
