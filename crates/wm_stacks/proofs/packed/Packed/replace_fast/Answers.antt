-- The top operand is in the current word, above the floor, and so is the one that replaces it.
use Rattle.std.proofs.Common.{◌+◌, ◌-◌, ◌*◌, ◌/◌, ◌%◌, ◌^◌, ◌≡◌, ◌≤◌, ◌++◌, true, false, Option, length, option_to_list, ap, sym, ◌∙◌, arith}
use Rattle.wm_stacks.specs.declared.words.Kind.{Kind}
use Rattle.wm_stacks.specs.exact.Words.{kinds_in}
use Rattle.wm_stacks.proofs.LastWord.{one_replaced}
use Rattle.wm_stacks.proofs.OperandWords.{pushed_standing}
use Rattle.wm_stacks.proofs.packed.Packed.replace_fast.Goals as goal

pub returns-in-Some : goal.returns-in-Some
returns-in-Some c =
    let s = c.self.inside in
    let ws = s.words.items in
    let n = s.height - 32 * length ws in
    let v = c.with_kind-self-inside.result in
    let k : s.height - 32 * length ws ≡ n - 1 + 1 = omega arith in
    let few : n - 1 ≤ 31 = omega arith in
    let others : v / 4 ≡ s.current / 4 % 2 ^ 62 = c.with_kind-self-inside.ensures.others ∙ ap (λ w. w % 2 ^ 62) c.without_kind-left.ensures in (
      λ _. one_replaced ws s.current n s.floor c.args.self.now c.args.top c.args.given _ (omega arith) (omega arith) c.self.view_is
          (c.first_is.ensures c.if-not-first_is.false)
          (ap (λ m. kinds_in ws v m) k ∙ pushed_standing ws (s.current / 4) v (n - 1) c.in-Some.kind few c.with_kind-self-inside.ensures.lowest others
          ∙ ap (λ (g : Option Kind). option_to_list g ++ kinds_in ws (s.current / 4) (n - 1)) (sym c.in-Some.is)),
      λ (e : true ≡ false). cc,
    )

pub returns-in-None : goal.returns-in-None
returns-in-None c =
    let s = c.self.inside in
    let ws = s.words.items in
    let n = s.height - 32 * length ws in
    let k : s.height - 1 - 32 * length ws ≡ n - 1 = omega arith in (
      λ _. one_replaced ws s.current n s.floor c.args.self.now c.args.top c.args.given _ (omega arith) (omega arith) c.self.view_is
          (c.first_is.ensures c.if-not-first_is.false)
          (ap (λ m. kinds_in ws c.without_kind-left.result m) k ∙ ap (λ w. kinds_in ws w (n - 1)) c.without_kind-left.ensures
          ∙ ap (λ (g : Option Kind). option_to_list g ++ kinds_in ws (s.current / 4) (n - 1)) (sym c.in-None.is)),
      λ (e : true ≡ false). cc,
    )
