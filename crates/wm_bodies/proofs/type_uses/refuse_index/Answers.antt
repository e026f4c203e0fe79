use Rattle.std.proofs.Common.{◌≡◌, ap, arith, length}
use Rattle.std.proofs.lemmas.Int.{ints}
use Rattle.wm_tokens.specs.exact.Scan.{lexed}
use Rattle.wm_bodies.proofs.type_uses.refuse_index.Goals as goal

pub refuse-requires : goal.refuse-requires
refuse-requires c = λ none. let left : length (lexed c.loop.rest.now) ≡ 0 = ap length none in absurd (omega (arith, ints, left))
