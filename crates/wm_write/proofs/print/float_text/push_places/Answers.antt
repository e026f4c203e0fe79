use Rattle.std.proofs.Common.{◌≡◌, ◌+◌, ◌-◌, ◌*◌, ◌/◌, ◌%◌, ◌^◌, [], ◌∷◌, ap, sym, ◌∙◌, ℕ, arith, length, length-append}
use Rattle.wm_syntax.proofs.NumberLoops.{none_out, one_out}
use Rattle.wm_write.specs.FloatText.{hex_digit, places}
use Rattle.wm_write.proofs.FloatPieces.{more_places, no_places, none_left}
use Rattle.wm_write.proofs.print.float_text.push_places.Goals as goal

pub loop-preserved : goal.loop-preserved
loop-preserved c =
    let less : (13 - c.loop.counter) - 1 ≡ 13 - (c.loop.counter + 1) = omega arith in
    let next = c.loop.rest % 16 ^ 12 * 16 in
    record {
      few = omega arith;
      room = omega (arith, ap length c.push_byte.ensures, length-append c.loop.line (c.hex_digit.result ∷ []), c.loop.invariant.room);
      spelled = one_out c.push_byte.new.self c.loop.line _ _ _ c.hex_digit.result c.push_byte.ensures
          (more_places (13 - c.loop.counter) c.loop.rest (omega arith) c.if-rest-eq0.false
          ∙ ap (λ (j : ℕ). hex_digit (c.loop.rest / 16 ^ 12) ∷ places j next) less
          ∙ ap (λ (d : ℕ). d ∷ places (13 - (c.loop.counter + 1)) next) (sym c.hex_digit.ensures)) c.loop.invariant.spelled;
    }

pub returns-then-rest-eq0-clause-text : goal.returns-then-rest-eq0-clause-text
returns-then-rest-eq0-clause-text c = none_out c.loop.line _ _ (no_places (13 - c.loop.counter) c.loop.rest c.if-rest-eq0.true) c.loop.invariant.spelled

pub returns-clause-text : goal.returns-clause-text
returns-clause-text c = none_out c.loop.line _ _ (none_left (13 - c.loop.counter) c.loop.rest (omega arith)) c.loop.invariant.spelled
