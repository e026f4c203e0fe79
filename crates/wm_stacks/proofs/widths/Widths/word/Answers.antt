-- The first word is held separately.
use Rattle.std.proofs.Common.{ℕ, List, ◌∷◌, ◌-◌, get_or, ap, sym, ◌∙◌}
use Rattle.wm_stacks.proofs.WidthWords.{next_word}
use Rattle.wm_stacks.proofs.widths.Widths.word.Goals as goal

pub returns-then-index-eq0 : goal.returns-then-index-eq0
returns-then-index-eq0 c =
    let s = c.args.self.now in
    ap (λ i. get_or (s.first ∷ s.rest.items) i 0) (sym c.if-index-eq0.true)

pub returns-else-index-eq0 : goal.returns-else-index-eq0
returns-else-index-eq0 c =
    let s = c.args.self.now in
    c.word_in.ensures ∙ ap (λ (z : List ℕ). get_or z (c.args.index - 1) 0) c.deref.ensures.value ∙ next_word s.first s.rest.items c.args.index c.if-index-eq0.false
