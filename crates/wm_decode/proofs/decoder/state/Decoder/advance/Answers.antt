use Rattle.std.proofs.Common.{◌≡◌, ◌≤◌, ℕ, List, ◌++◌, drop, arith, ap, sym, ◌∙◌, subst, slice_range}
use Rattle.wm_syntax.specs.declared.profile.Profile.{Profile}
use Rattle.wm_machine.specs.exact.Live.{decoder_after}
use Rattle.wm_decode.specs.exact.Standing.{live_with}
use Rattle.wm_shortcuts.proofs.OpLists.{range_split}
use Rattle.wm_decode.proofs.decoder.state.Decoder.advance.Goals as goal

pub returns-then-next-i-2-clause-taken : goal.returns-then-next-i-2-clause-taken
returns-then-next-i-2-clause-taken g c =
    let s = c.args.self.now in
    let m = c.take_shortcut.new.self in
    let n = c.name_part-next.new.self in
    let next = c.name_part-next.result in
    let piece = c.args.piece.now in
    let part : List ℕ = slice_range piece c.args.from c.args.i in
    let onward : c.args.i ≤ c.in_ok-next.next = c.in_ok-next.ensures.at.1 in
    let same : c.in_ok-next.next ≡ c.args.i = omega arith in
    let further : c.args.i ≤ next = omega arith in
    let F : Profile → ℕ → Type 0 = λ p x.
    decoder_after g.S.Sink.after p x (live_with g.S.Sink.held m part) (drop c.args.i piece)
    ≡ decoder_after g.S.Sink.after p x (live_with g.S.Sink.held n (part ++ slice_range piece c.args.i next)) (drop next piece) in
    let moved : F s.profile s.max_bytes =
    subst (λ p. F p s.max_bytes) c.in_ok-next.ensures.profile
    (subst (λ x. F m.profile x) c.in_ok-next.ensures.limit (c.name_part-next.ensures.moved part)) in (
      c.name_part-next.ensures.live,
      ap (λ l. decoder_after g.S.Sink.after s.profile s.max_bytes l (drop c.args.i piece)) (sym (c.in_ok-next.ensures.still same part))
          ∙ (moved
          ∙ ap (λ (y : List ℕ). decoder_after g.S.Sink.after s.profile s.max_bytes (live_with g.S.Sink.held n y) (drop next piece)) (sym (range_split piece c.args.from c.args.i next c.requires.order further))),
    )
