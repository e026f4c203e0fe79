use Rattle.std.proofs.Common.{◌≡◌, ◌-◌, ◌+◌, ◌/◌, ◌%◌, ◌∷◌, ap, ◌∙◌, ℕ, arith, pos}
use Rattle.wm_syntax.specs.Leb128.{signed_bytes}
use Rattle.wm_syntax.proofs.NumberLoops.{last_positive, more_positive, no_signed, last_out, one_out, none_out, room_less}
use Rattle.wm_syntax.proofs.chunk.Chunk.push_positive.Goals as goal

pub returns-then-rest-lt64 : goal.returns-then-rest-lt64
returns-then-rest-lt64 c =
    last_out _ c.loop.self _ _ (c.loop.rest) c.push.ensures (last_positive (c.args.most - c.loop.counter) c.loop.rest (omega arith) c.if-rest-lt64.true) c.loop.invariant.spelled

pub loop-preserved : goal.loop-preserved
loop-preserved c =
    let less : (c.args.most - c.loop.counter) - 1 ≡ c.args.most - (c.loop.counter + 1) = omega arith in
    record {
      room = room_less c.push-in-loop.new.self c.loop.self (c.loop.rest % 128 + 128) c.args.most c.loop.counter c.push-in-loop.ensures c.loop-test.true c.loop.invariant.room;
      spelled = one_out c.push-in-loop.new.self c.loop.self _ _ _ (c.loop.rest % 128 + 128) c.push-in-loop.ensures
          (more_positive (c.args.most - c.loop.counter) c.loop.rest (omega arith) c.if-rest-lt64.false ∙ ap (λ (j : ℕ). (c.loop.rest % 128 + 128) ∷ signed_bytes j (pos (c.loop.rest / 128))) less) c.loop.invariant.spelled;
    }

pub returns : goal.returns
returns c =
    let none_left : c.args.most - c.loop.counter ≡ 0 = omega arith in
    none_out c.loop.self _ _ (ap (λ (j : ℕ). signed_bytes j (pos c.loop.rest)) none_left ∙ no_signed (pos c.loop.rest)) c.loop.invariant.spelled
