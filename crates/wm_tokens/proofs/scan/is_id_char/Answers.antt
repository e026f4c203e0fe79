-- The table is compared with the definition at each of the 256 bytes, by computation.
use Rattle.std.proofs.Common.{◌≡◌, ℕ, ◌<◌, true, not, nat_eq, get_or, List, refl, arith}
use Rattle.std.proofs.lemmas.Bool.{agree_below, agree_below_at}
use Rattle.wm_tokens.specs.declared.scan.TheConstants.{ID_CHARS}
use Rattle.wm_tokens.specs.Tokens.{is_id_char}
use Rattle.wm_tokens.proofs.scan.is_id_char.Goals as goal

from_table : (table : List ℕ) (b : ℕ) → b < 256
    → agree_below (λ k. not (nat_eq (get_or table k 0) 44)) is_id_char 256 ≡ true
    → not (nat_eq (get_or table b 0) 44) ≡ is_id_char b
from_table table b lt h = agree_below_at (λ k. not (nat_eq (get_or table k 0) 44)) is_id_char 256 b h lt

pub returns : goal.returns
returns c = from_table ID_CHARS c.args.byte (omega arith) refl
