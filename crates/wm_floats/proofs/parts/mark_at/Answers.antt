use Rattle.std.proofs.Common.{refl, inl, inr, arith, below_more, sym, ◌∙◌}
use Rattle.wm_floats.proofs.Cutting.{cut_at}
use Rattle.wm_floats.proofs.parts.mark_at.Goals as goal

pub returns-then-is_mark-clause-front : goal.returns-then-is_mark-clause-front
returns-then-is_mark-clause-front c = (cut_at c.args.x c.args.y c.args.text.now c.loop-i.i (omega arith) c.loop-i.invariant (inr (sym c.is_mark.ensures ∙ c.if-is_mark.true))).0

pub returns-then-is_mark-clause-back : goal.returns-then-is_mark-clause-back
returns-then-is_mark-clause-back c = (cut_at c.args.x c.args.y c.args.text.now c.loop-i.i (omega arith) c.loop-i.invariant (inr (sym c.is_mark.ensures ∙ c.if-is_mark.true))).1

pub loop-i-preserved : goal.loop-i-preserved
loop-i-preserved c = below_more _ _ c.loop-i.invariant (sym c.is_mark.ensures ∙ c.if-is_mark.false)

pub returns-clause-front : goal.returns-clause-front
returns-clause-front c = (cut_at c.args.x c.args.y c.args.text.now _ (omega arith) (λ k lt. c.loop-i.invariant k (omega (arith, lt))) (inl refl)).0

pub returns-clause-back : goal.returns-clause-back
returns-clause-back c = (cut_at c.args.x c.args.y c.args.text.now _ (omega arith) (λ k lt. c.loop-i.invariant k (omega (arith, lt))) (inl refl)).1
