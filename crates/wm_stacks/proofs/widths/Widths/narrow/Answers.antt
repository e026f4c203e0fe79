-- If its word was not made, the operand has no bit set.
use Rattle.std.proofs.Common.{◌∷◌, refl, arith}
use Rattle.wm_stacks.proofs.WidthWords.{past_words}
use Rattle.wm_stacks.proofs.widths.Widths.narrow.Goals as goal

pub returns-then-made-index : goal.returns-then-made-index
returns-then-made-index c =
    let s = c.args.self.now in
    record {
      there = past_words (s.first ∷ s.rest.items) c.args.at (omega (arith, c.if-made-index.true, c.len-made.ensures, s.rest.ok.0));
      others = λ i n. refl;
    }

pub put-requires : goal.put-requires
put-requires c = omega (arith, c.if-made-index.false, c.len-made.ensures, c.args.self.now.rest.ok.0)
