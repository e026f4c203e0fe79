-- Both operands are in the current word, above the floor, and so is the one that replaces them.
use Rattle.std.proofs.Common.{◌+◌, ◌-◌, ◌*◌, ◌/◌, ◌%◌, ◌^◌, ◌≡◌, ◌≤◌, ◌++◌, true, false, Option, length, option_to_list, ap, sym, ◌∙◌, arith}
use Rattle.wm_stacks.specs.declared.words.Kind.{Kind}
use Rattle.wm_stacks.specs.exact.Words.{kind_of_code, kinds_in}
use Rattle.wm_stacks.proofs.LastWord.{two_replaced}
use Rattle.wm_stacks.proofs.OperandWords.{pushed_standing}
use Rattle.wm_stacks.proofs.packed.Packed.replace_two_fast.Goals as goal

pub returns-in-Some : goal.returns-in-Some
returns-in-Some c =
    let s = c.self.inside in
    let ws = s.words.items in
    let n = s.height - 32 * length ws in
    let v = c.with_kind-self-inside.result in
    let k : s.height - 1 - 32 * length ws ≡ n - 1 - 1 + 1 = omega arith in
    let few : n - 1 - 1 ≤ 31 = omega arith in
    let under : c.without_kind-second.result ≡ s.current / 4 = c.without_kind-second.ensures in
    let second : kind_of_code (s.current / 4 % 4) ≡ c.args.under = ap (λ x. kind_of_code (x % 4)) (sym under) ∙ c.first_is-else-not-first_is.ensures c.if-not-first_is-2.false in
    let w : c.without_kind-rest.result ≡ s.current / 4 / 4 = c.without_kind-rest.ensures ∙ ap (λ x. x / 4) under in
    let others : v / 4 ≡ s.current / 4 / 4 % 2 ^ 62 = c.with_kind-self-inside.ensures.others ∙ ap (λ x. x % 2 ^ 62) w in (
      λ _. two_replaced ws s.current n s.floor c.args.self.now c.args.top c.args.under c.args.given _ (omega arith) (omega arith) c.self.view_is
          (c.first_is.ensures c.if-not-first_is.false) second
          (ap (λ m. kinds_in ws v m) k ∙ pushed_standing ws (s.current / 4 / 4) v (n - 1 - 1) c.in-Some.kind few c.with_kind-self-inside.ensures.lowest others
          ∙ ap (λ (g : Option Kind). option_to_list g ++ kinds_in ws (s.current / 4 / 4) (n - 1 - 1)) (sym c.in-Some.is)),
      λ (e : true ≡ false). cc,
    )

pub returns-in-None : goal.returns-in-None
returns-in-None c =
    let s = c.self.inside in
    let ws = s.words.items in
    let n = s.height - 32 * length ws in
    let k : s.height - 2 - 32 * length ws ≡ n - 1 - 1 = omega arith in
    let under : c.without_kind-second.result ≡ s.current / 4 = c.without_kind-second.ensures in
    let second : kind_of_code (s.current / 4 % 4) ≡ c.args.under = ap (λ x. kind_of_code (x % 4)) (sym under) ∙ c.first_is-else-not-first_is.ensures c.if-not-first_is-2.false in
    let w : c.without_kind-rest.result ≡ s.current / 4 / 4 = c.without_kind-rest.ensures ∙ ap (λ x. x / 4) under in (
      λ _. two_replaced ws s.current n s.floor c.args.self.now c.args.top c.args.under c.args.given _ (omega arith) (omega arith) c.self.view_is
          (c.first_is.ensures c.if-not-first_is.false) second
          (ap (λ m. kinds_in ws c.without_kind-rest.result m) k ∙ ap (λ x. kinds_in ws x (n - 1 - 1)) w
          ∙ ap (λ (g : Option Kind). option_to_list g ++ kinds_in ws (s.current / 4 / 4) (n - 1 - 1)) (sym c.in-None.is)),
      λ (e : true ≡ false). cc,
    )
