use Rattle.std.proofs.Common.{◌≡◌, length}
use Rattle.wm_syntax.specs.Values.{value_of}
use Rattle.wm_tokens.specs.Fields.{module_of}
use Rattle.wm_read.specs.exact.Fields.{fields_at}
use Rattle.wm_bodies.specs.exact.Reading.{made}
use Rattle.wm_tokens.specs.exact.Scan.{lexed}
use Rattle.wm_bodies.specs.inner.Blocks.{names_of}
use Rattle.wm_read.specs.inner.Tails.{IsTail}
use Rattle.wm_read.proofs.ModuleFields.{after_fields}
use Rattle.wm_read.proofs.fields.lists.read_fields.Given as goal

abbrev pub invariant-loop-alloc : goal.invariant-loop-alloc
invariant-loop-alloc l = record {
  read : after_fields (value_of l.whole) (fields_at l.profile (names_of l.names) (lexed l.rest)) ≡ made module_of (fields_at l.profile (names_of l.names) (lexed l.text));
  tail : IsTail (lexed l.rest);
}

abbrev pub decreases-loop-alloc : goal.decreases-loop-alloc
decreases-loop-alloc l = length (lexed l.rest)
