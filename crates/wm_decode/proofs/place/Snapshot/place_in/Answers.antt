use Rattle.std.proofs.Common.{◌∙◌, arith, length-append}
use Rattle.wm_decode.proofs.Places.{place_at}
use Rattle.wm_decode.proofs.place.Snapshot.place_in.Goals as goal

pub returns : goal.returns
returns c = λ p bytes a less most.
    c.place.ensures.machine
    ∙ place_at c.args.self.now p bytes c.args.piece.now c.args.at c.min-before.result c.replayed.result.machine a less
    (omega (arith, a.at, less, most, c.index.ensures, c.min-before.ensures, length-append bytes c.args.piece.now)) c.replayed.ensures.machine
