-- There are as many kinds as the height says.
use Rattle.std.proofs.Common.{◌-◌, ◌*◌, length, arith}
use Rattle.wm_stacks.proofs.LastWord.{height_seen}
use Rattle.wm_stacks.proofs.packed.Packed.kind_at.Goals as goal

pub overflow_sub-word-else-index-self-2 : goal.overflow_sub-word-else-index-self-2
overflow_sub-word-else-index-self-2 c =
    let s = c.self.inside in
    let n = s.height - 32 * length s.words.items in
    omega (arith, height_seen s.words.items s.current n s.floor c.args.self.now c.self.view_is)
