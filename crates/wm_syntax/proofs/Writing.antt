-- Bytes that are written in several pieces.
use Rattle.std.proofs.Common.{◌≡◌, ℕ, ◌+◌, List, ◌++◌, Option, Some, None, take, drop, ap, ◌∙◌, append_assoc, Bool, false, ◌||◌}
use Rattle.std.proofs.Math.Seq.{take-add}
use Rattle.std.specs.Io.KnownBytes.{Appends}

appends_then : (a b c : Option (List ℕ)) (x y : List ℕ) → Appends a b x → Appends b c y → Appends a c (x ++ y)
appends_then None b c x y p q = p
appends_then (Some xs) None c x y p q = absurd p
appends_then (Some xs) (Some ys) None x y p q = absurd q
appends_then (Some xs) (Some ys) (Some zs) x y p q = q ∙ ap (λ (l : List ℕ). l ++ y) p ∙ append_assoc xs x y

pub appends_more : (a b c : Option (List ℕ)) (bytes : List ℕ) (from n : ℕ) → Appends a b (take from bytes) → Appends b c (take n (drop from bytes)) → Appends a c (take (from + n) bytes)
appends_more a b c bytes from n p q = rw (take-add from n bytes) (appends_then a b c (take from bytes) (take n (drop from bytes)) p q)

pub stays_open : {a b : Bool} → a ≡ false → b ≡ (a || false) → b ≡ false
stays_open p q = cc
