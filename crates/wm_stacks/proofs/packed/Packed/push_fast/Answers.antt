-- The kind goes into the current word.
use Rattle.std.proofs.Common.{◌+◌, ◌-◌, ◌*◌, ◌≡◌, true, false, length, ap, ◌∙◌, arith}
use Rattle.wm_stacks.specs.exact.Words.{kinds_in}
use Rattle.wm_stacks.proofs.LastWord.{pushed_so, view_of}
use Rattle.wm_stacks.proofs.packed.Packed.push_fast.Goals as goal

pub returns : goal.returns
returns c =
    let s = c.self.inside in
    let ws = s.words.items in
    let n = s.height - 32 * length ws in
    let v = c.with_kind-self-inside.result in
    let put = c.with_kind-self-inside.ensures in
    let k : s.height + 1 - 32 * length ws ≡ n + 1 = omega arith in (
      λ _. ap (λ m. view_of (kinds_in ws v m) s.floor) k
          ∙ pushed_so ws s.current v n s.floor c.args.self.now c.args.kind c.self.view_is (omega arith) put.lowest put.others,
      λ (e : true ≡ false). cc,
    )
