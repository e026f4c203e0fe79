use Rattle.std.proofs.Common.{◌≡◌, length}
use Rattle.wm_tokens.specs.exact.Scan.{lexed}
use Rattle.wm_bodies.specs.exact.Reading.{ops_at}
use Rattle.wm_bodies.specs.exact.TypeUses.{instructions_at, call_use_at}
use Rattle.wm_bodies.specs.inner.Blocks.{names_of, scope_of}
use Rattle.wm_bodies.specs.inner.Bodies.{IsOver}
use Rattle.wm_bodies.proofs.BodyLoop.{body_from}
use Rattle.wm_bodies.proofs.bodies.read_body.Given as goal

abbrev pub invariant-loop-word : goal.invariant-loop-word
invariant-loop-word l = record {
  same : body_from l.body.builder (ops_at (call_use_at l.profile (names_of l.scope.names.now)) l.profile (scope_of l.scope) l.body.blocks (lexed l.rest))
      ≡ instructions_at l.profile (scope_of l.scope) (lexed l.text);
  over : IsOver l.body.builder l.body.blocks;
}

abbrev pub decreases-loop-word : goal.decreases-loop-word
decreases-loop-word l = length (lexed l.rest)
