use Rattle.std.proofs.Common.{◌≡◌, ◌+◌, ◌*◌, ◌-◌, ◌^◌, ◌<◌, ◌≤◌, nat_le, true, arith, ap, sym, ◌∙◌}
use Rattle.std.proofs.lemmas.Bool.{ltb-true}
use Rattle.std.proofs.lemmas.Bool.Decides.{nat_tests}
use Rattle.wm_syntax.specs.inner.Numbers.{Partial}
use Rattle.wm_syntax.proofs.Room.{room_signed}
use Rattle.wm_syntax.proofs.numbers.Leb128.advance_signed.Goals as goal

pub positive-requires-clause-room : goal.positive-requires-clause-room
positive-requires-clause-room c =
    let below : c.args.byte < 2 ^ (c.args.bits - 7 * c.self.inside.count - 1) = ltb-true _ _ (sym c.fits.ensures ∙ c.if-fits.true) in
    let room : (c.args.byte + 1) * 2 ^ (7 * c.self.inside.count) ≤ 2 ^ 63 =
    room_signed c.args.bits (c.args.byte + 1) c.self.inside.count c.requires (omega arith) (omega (arith, below)) in
    let same : c.self.inside.count ≡ c.args.self.count = ap (λ (p : Partial). p.count) c.self.view_is in
    rw (← same) room

pub negative-requires-clause-room : goal.negative-requires-clause-room
negative-requires-clause-room c =
    let test : nat_le (2 ^ 7) (c.args.byte + 2 ^ (c.args.bits - 7 * c.self.inside.count - 1)) ≡ true = sym c.fits_below.ensures ∙ c.if-fits_below.true in
    let from : 2 ^ 7 ≤ c.args.byte + 2 ^ (c.args.bits - 7 * c.self.inside.count - 1) = grind (arith, nat_tests, test) in
    let room : (128 - c.args.byte) * 2 ^ (7 * c.self.inside.count) ≤ 2 ^ 63 =
    room_signed c.args.bits (128 - c.args.byte) c.self.inside.count c.requires (omega arith) (omega (arith, from)) in
    let same : c.self.inside.count ≡ c.args.self.count = ap (λ (p : Partial). p.count) c.self.view_is in
    rw (← same) room
