-- The state of a body that is being typed, and its figures.
use Rattle.std.specs.Prelude.{ℕ, ◌+◌, ◌*◌, ◌≤◌, ◌≡◌, List, [], Option, None, length, max}
use Rattle.wm_syntax.specs.declared.types.ValType.{ValType}
use Rattle.wm_syntax.specs.declared.why.Why.{Why}
use Rattle.wm_stacks.specs.Stack.{Stack, bare, height_sum}
use Rattle.wm_syntax.specs.Runs.{run_count}
use Rattle.wm_typing.specs.declared.stats.BodyStats.{BodyStats}
use Rattle.wm_typing.specs.declared.labels.BrTable.{BrTable}

-- The stacks, and the br_table whose labels are being read.
pub record BodyState : Type 0 where
  pub stacks : Stack
  pub table : Option BrTable

-- The state of a body: the type index and the result of its function, its declared locals, the stacks, the
-- figures since it began, and the refusal that ended it.
pub record Body : Type 0 where
  pub type_index : ℕ
  pub result : Option ValType
  pub declared : List ValType
  pub state : BodyState
  pub stats : BodyStats
  pub refused : Option Why

-- The number of retained runs of locals, operands and frames.
abbrev pub body_entries : Body → ℕ
body_entries b = run_count b.declared + height_sum b.state.stacks

-- The figures after a call that left these stacks and read `probes` runs of locals. `moves` is that of the
-- stacks, and the others are the greatest so far.
abbrev pub stats_after : Stack → ℕ → BodyStats → BodyStats
stats_after s probes b = record {
  moves = s.moves;
  operands = max b.operands (length s.operands);
  controls = max b.controls (length s.frames);
  probes = max b.probes probes;
}

-- The bounds that n ops allow for entries, moves and figures. A search for a local reads at most 32 runs.
pub record WithinOps (n : ℕ) (b : Body) : Type 0 where
  pub heights : height_sum b.state.stacks ≤ n + 1
  pub moves : b.state.stacks.moves + height_sum b.state.stacks ≤ 4 * n + 2
  pub counts : b.stats.moves ≡ b.state.stacks.moves
  pub operands : b.stats.operands ≤ n + 1
  pub controls : b.stats.controls ≤ n + 1
  pub probes : b.stats.probes ≤ 32

-- The number of moves is at least twice each greatest height: all that was pushed was removed again.
pub record Twice (s : BodyStats) : Type 0 where
  pub operands : 2 * s.operands ≤ s.moves
  pub controls : 2 * s.controls ≤ s.moves

abbrev pub no_stats : BodyStats
no_stats = record { moves = 0; operands = 0; controls = 0; probes = 0 }

-- The state before the first body.
abbrev pub no_body : Body
no_body = record {
  type_index = 0;
  result = None;
  declared = [];
  state = record { stacks = bare; table = None };
  stats = no_stats;
  refused = None;
}
