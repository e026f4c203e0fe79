-- The number of runs of locals that a binary search reads.
use Rattle.std.specs.Prelude.{ℕ, zero, suc, ◌+◌, ◌-◌, ◌/◌, List, length, nat_lt, slice_index, if◌then◌else◌}
use Rattle.wm_syntax.specs.declared.types.ValType.{ValType}
use Rattle.wm_syntax.specs.Runs.{run_ends}

-- The number of run ends that a binary search reads between `low` and `high`, for the first end above an
-- index. It reads at most `left` ends.
unfoldable pub halvings : ℕ → List ℕ → ℕ → ℕ → ℕ → ℕ
halvings zero ends index low high = 0
halvings (suc left) ends index low high =
    let middle = low + (high - low) / 2 in
    if nat_lt low high then (
    if nat_lt index (slice_index ends middle) then halvings left ends index low middle + 1
    else halvings left ends index (middle + 1) high + 1)
    else 0

abbrev pub probes_for : List ValType → ℕ → ℕ
probes_for ts index = halvings 32 (run_ends ts) index 0 (length (run_ends ts))
