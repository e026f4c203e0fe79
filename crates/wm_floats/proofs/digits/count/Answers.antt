use Rattle.std.proofs.Common.{◌≡◌, ◌+◌, ◌∷◌, [], length, take, get_or, ap, ◌∙◌, arith, length-append}
use Rattle.wm_floats.specs.exact.Atoms.{plain}
use Rattle.wm_floats.proofs.Underscores.{plain_next}
use Rattle.wm_floats.proofs.digits.count.Goals as goal

pub loop-byte-preserved : goal.loop-byte-preserved
loop-byte-preserved c =
    let bs = c.args.text.now in
    let i = c.loop-byte.byte-index in
    let e : length (plain (take (i + 1) bs)) ≡ length (plain (take i bs)) + length (plain (get_or bs i 0 ∷ [])) =
    ap length (plain_next bs i c.loop-byte-test.true) ∙ length-append (plain (take i bs)) (plain (get_or bs i 0 ∷ [])) in (
      omega (arith, e, c.counted-n.ensures.count, c.loop-byte.invariant.0),
      omega (arith, c.counted-n.ensures.most, c.loop-byte.invariant.1),
    )
