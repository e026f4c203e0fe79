use Rattle.std.proofs.Common.{◌≡◌, ◌+◌, ◌-◌, ◌/◌, ◌%◌, [], ◌∷◌, ap, ◌∙◌, ℕ, arith, length, length-append}
use Rattle.wm_syntax.specs.Encodings.{float_bytes}
use Rattle.wm_syntax.proofs.NumberLoops.{none_out, one_out}
use Rattle.wm_write.proofs.FloatPieces.{more_float}
use Rattle.wm_write.proofs.encode.spell.push_float.Goals as goal

pub loop-preserved : goal.loop-preserved
loop-preserved c =
    let less : (c.args.width - c.loop.counter) - 1 ≡ c.args.width - (c.loop.counter + 1) = omega arith in
    record {
      room = omega (arith, ap length c.push_byte.ensures, length-append c.loop.batch (c.loop.rest % 256 ∷ []), c.loop.invariant.room);
      spelled = one_out c.push_byte.new.self c.loop.batch _ _ _ (c.loop.rest % 256) c.push_byte.ensures
          (more_float (c.args.width - c.loop.counter) c.loop.rest (omega arith) ∙ ap (λ (j : ℕ). c.loop.rest % 256 ∷ float_bytes j (c.loop.rest / 256)) less) c.loop.invariant.spelled;
    }

pub returns-clause-text : goal.returns-clause-text
returns-clause-text c =
    let none : c.args.width - c.loop.counter ≡ 0 = omega arith in
    none_out c.loop.batch _ _ (ap (λ (j : ℕ). float_bytes j c.loop.rest) none) c.loop.invariant.spelled
