use Rattle.std.proofs.Common.{◌≤ℤ◌, ◌+ℤ◌, pos, length}
use Rattle.wm_tokens.specs.exact.Scan.{lexed}
use Rattle.wm_bodies.proofs.type_uses.refuse_index.Given as goal

abbrev pub invariant-loop : goal.invariant-loop
invariant-loop l = record {
  left : pos 3 ≤ℤ (pos (length (lexed l.rest)) +ℤ l.counter);
  turns : l.counter ≤ℤ pos 2;
}
