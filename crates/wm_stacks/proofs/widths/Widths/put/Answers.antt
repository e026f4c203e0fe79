-- One bit in one word is written.
use Rattle.std.proofs.Common.{◌∷◌, ◌-◌, ◌/◌, set, ap, ◌∙◌, arith}
use Rattle.std.specs.Int.{bit_at}
use Rattle.wm_stacks.proofs.WidthWords.{bits_written, first_written, next_written}
use Rattle.wm_stacks.proofs.widths.Widths.put.Goals as goal

pub index_mut-requires : goal.index_mut-requires
index_mut-requires c = omega (arith, c.requires, c.if-index-eq0.false, c.args.self.now.rest.ok.0)

pub returns-then-index-eq0 : goal.returns-then-index-eq0
returns-then-index-eq0 c =
    let s = c.args.self.now in
    let v = c.with_bit-word.result in
    let w =
    bits_written (s.first ∷ s.rest.items) (v ∷ s.rest.items) c.args.at v c.args.wide (first_written s.first v (c.args.at / 64) s.rest.items c.if-index-eq0.true)
    (omega (arith, c.requires)) c.with_bit-word.ensures.there (λ k l n. c.with_bit-word.ensures.others k l n ∙ ap (λ x. bit_at x k) c.word-old.ensures) in
    record { there = w.there; others = w.others }

pub returns : goal.returns
returns c =
    let s = c.args.self.now in
    let v = c.with_bit-word.result in
    let w =
    bits_written (s.first ∷ s.rest.items) (s.first ∷ set s.rest.items (c.args.at / 64 - 1) v) c.args.at v c.args.wide
    (next_written s.first v (c.args.at / 64) s.rest.items c.if-index-eq0.false) (omega (arith, c.requires)) c.with_bit-word.ensures.there
    (λ k l n. c.with_bit-word.ensures.others k l n ∙ ap (λ x. bit_at x k) c.word-old.ensures) in
    record { there = w.there; others = w.others }
