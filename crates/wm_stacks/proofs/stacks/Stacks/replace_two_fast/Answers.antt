-- The fast path has the effect of a take and a push.
use Rattle.std.proofs.Common.{true, false, ◌≡◌, [], ◌∷◌, reverse, arith}
use Rattle.wm_stacks.proofs.Takes.{replaced}
use Rattle.wm_stacks.proofs.stacks.Stacks.replace_two_fast.Goals as goal

pub returns : goal.returns
returns c =
    let s = c.self.inside in (
      λ _. replaced (c.args.top ∷ c.args.under ∷ []) c.args.given s.operands c.replace_two_fast.new.self (reverse s.frames.items) s.moves _ c.args.self.now
          c.count.new.self c.requires c.self.invariant.2 c.self.view_is (omega (arith, c.pushes.ensures)) c.count.ensures
          (c.replace_two_fast.ensures.0 c.if-not-replace_two_fast.false),
      λ (e : true ≡ false). cc,
    )
