-- The effects of the calls on a body that is being typed, refusals included. They follow the code step by step,
-- for the layers above. No promise rests on them alone except the number of runs that an op reads
-- (`probes_in`), as its `find` reads them. The other clauses of the calls use `BodyAfter`.
use Rattle.std.specs.Prelude.{ℕ, List, [], ◌∷◌, Option, Some, None, Result, Ok, Err}
use Rattle.wm_syntax.specs.declared.types.ValType.{ValType}
use Rattle.wm_syntax.specs.declared.why.Why.{Why}
use Rattle.wm_syntax.specs.declared.instructions.Op.{Op}
use Rattle.wm_stacks.specs.declared.stack_entries.FrameKind.TheVariants.{Func}
use Rattle.wm_stacks.specs.declared.stack_entries.Frame.{Frame}
use Rattle.wm_stacks.specs.Stack.{bare}
use Rattle.wm_stacks.specs.exact.Stacks.{open_frame}
use Rattle.wm_syntax.specs.exact.Runs.{add_run}
use Rattle.wm_typing.specs.declared.body_checker.Progress.{Progress}
use Rattle.wm_typing.specs.declared.body_checker.Progress.TheVariants.{Inside, Ended}
use Rattle.wm_typing.specs.Typing.{Context}
use Rattle.wm_typing.specs.Contexts.{result_of, in_function}
use Rattle.wm_typing.specs.exact.Ops.{step}
use Rattle.wm_typing.specs.Bodies.{BodyState, Body, stats_after, no_stats}
use Rattle.wm_typing.specs.Probes.{probes_in}

abbrev pub body_at_start : Context → ℕ → Body
body_at_start c x = record {
  type_index = x;
  result = result_of c x;
  declared = [];
  state = record { stacks = open_frame Func (result_of c x) bare; table = None };
  stats = stats_after (open_frame Func (result_of c x) bare) 0 no_stats;
  refused = None;
}

-- The context of the function at hand.
abbrev pub context_in : Context → Body → Context
context_in c b = in_function c b.type_index b.result b.declared

-- The declared locals, which are retained as long as a frame is open.
abbrev pub while_open : List Frame → List ValType → List ValType
while_open [] declared = []
while_open (f ∷ fs) declared = declared

-- The body with these stacks, after `probes` runs were read.
abbrev pub with_state : Body → ℕ → BodyState → Body
with_state b probes s =
    record b {
      declared = while_open s.stacks.frames b.declared;
      state = s;
      stats = stats_after s.stacks probes b.stats;
    }

abbrev pub body_from : Body → ℕ → Result BodyState Why → Result Body Why
body_from b probes (Ok s) = Ok (with_state b probes s)
body_from b probes (Err why) = Err why

abbrev pub unless_refused : {A : Type 0} → Option Why → Result A Why → Result A Why
unless_refused None r = r
unless_refused (Some why) r = Err why

-- The body after one more op.
abbrev pub body_after_op : Context → Op → Body → Result Body Why
body_after_op c x b =
    unless_refused b.refused (body_from b (probes_in c b x) (step (context_in c b) b.state x))

-- A body has ended if no frame is open.
abbrev pub progress_at : List Frame → Progress
progress_at [] = Ended
progress_at (f ∷ fs) = Inside

abbrev pub declared_to : Body → Result (List ValType) Why → Result Body Why
declared_to b (Ok types) = Ok (record b { declared = types; stats = stats_after b.state.stacks 0 b.stats })
declared_to b (Err why) = Err why

-- The body with more locals of one type.
abbrev pub declared_more : ℕ → ValType → Body → Result Body Why
declared_more count t b = unless_refused b.refused (declared_to b (add_run count t b.declared))

-- The body after a refusal. The refusal is stored, the figures are updated, and the locals and the function's
-- type stay.
abbrev pub refused_with : Why → ℕ → BodyState → Body → Body
refused_with why probes s b = record b {
  state = s;
  stats = stats_after s.stacks probes b.stats;
  refused = Some why;
}
