use Rattle.std.proofs.Common.{◌≡◌, ◌-◌, ◌+◌, ◌/◌, ◌%◌, ◌∷◌, ap, ◌∙◌, ℕ, arith}
use Rattle.wm_syntax.specs.Leb128.{unsigned_bytes}
use Rattle.wm_syntax.proofs.NumberLoops.{last_byte, more_bytes, no_unsigned, last_out, one_out, none_out, room_less, short_after}
use Rattle.wm_syntax.proofs.chunk.Chunk.push_unsigned.Goals as goal

pub returns-then-rest-lt128-clause-value : goal.returns-then-rest-lt128-clause-value
returns-then-rest-lt128-clause-value c =
    last_out _ c.loop.self _ _ (c.loop.rest) c.push.ensures (last_byte (c.args.most - c.loop.counter) c.loop.rest (omega arith) c.if-rest-lt128.true) c.loop.invariant.spelled

pub loop-preserved : goal.loop-preserved
loop-preserved c =
    let less : (c.args.most - c.loop.counter) - 1 ≡ c.args.most - (c.loop.counter + 1) = omega arith in
    record {
      room = room_less c.push-in-loop.new.self c.loop.self (c.loop.rest % 128 + 128) c.args.most c.loop.counter c.push-in-loop.ensures c.loop-test.true c.loop.invariant.room;
      spelled = one_out c.push-in-loop.new.self c.loop.self _ _ _ (c.loop.rest % 128 + 128) c.push-in-loop.ensures
          (more_bytes (c.args.most - c.loop.counter) c.loop.rest (omega arith) c.if-rest-lt128.false ∙ ap (λ (j : ℕ). (c.loop.rest % 128 + 128) ∷ unsigned_bytes j (c.loop.rest / 128)) less) c.loop.invariant.spelled;
    }

pub returns-clause-value : goal.returns-clause-value
returns-clause-value c =
    let none_left : c.args.most - c.loop.counter ≡ 0 = omega arith in
    none_out c.loop.self _ _ (ap (λ (j : ℕ). unsigned_bytes j c.loop.rest) none_left ∙ no_unsigned c.loop.rest) c.loop.invariant.spelled

pub returns-then-rest-lt128-clause-short : goal.returns-then-rest-lt128-clause-short
returns-then-rest-lt128-clause-short c = short_after c.push.new.self c.args.self.now c.args.most c.args.value (returns-then-rest-lt128-clause-value c)

pub returns-clause-short : goal.returns-clause-short
returns-clause-short c = short_after c.loop.self c.args.self.now c.args.most c.args.value (returns-clause-value c)
