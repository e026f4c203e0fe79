-- One place is two bits.
use Rattle.std.proofs.Common.{◌≡◌, ◌+◌, ◌-◌, ◌*◌, ◌/◌, ◌^◌, ap, ◌∙◌, arith}
use Rattle.std.proofs.lemmas.Nat.{shr-shr}
use Rattle.wm_stacks.proofs.words.without_kinds.Goals as goal

pub returns : goal.returns
returns c =
    let k : 2 + 2 * (c.args.count - 1) ≡ 2 * c.args.count = omega (arith, c.requires.some) in
    ap (λ w. w / 2 ^ (2 * (c.args.count - 1))) c.without_kind.ensures
    ∙ shr-shr c.args.word 2 (2 * (c.args.count - 1)) ∙ ap (λ n. c.args.word / 2 ^ n) k
