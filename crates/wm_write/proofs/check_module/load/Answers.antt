-- The bytes are as the name of the refusal says.
use Rattle.std.proofs.Common.{rules, arith, ◌^◌}
use Rattle.wm_decode.proofs.DecoderCalls.{are_bytes}
use Rattle.wm_rules.proofs.Verdicts.{meaning_of}
use Rattle.wm_write.proofs.check_module.load.Goals as goal

pub returns-in-Err-finish-clause-same : goal.returns-in-Err-finish-clause-same
returns-in-Err-finish-clause-same c = search rules

pub returns-in-Err-finish-clause-means : goal.returns-in-Err-finish-clause-means
returns-in-Err-finish-clause-means c = λ r e.
    let bytes = are_bytes c.args.bytes.now (λ i. omega (arith, c.type_inv.bytes i)) in
    meaning_of c.args.profile (2 ^ 62) c.args.policy c.args.bytes.now r bytes (returns-in-Err-finish-clause-same c r e)

pub returns-in-Err-clause-same : goal.returns-in-Err-clause-same
returns-in-Err-clause-same c = search rules

pub returns-in-Err-clause-means : goal.returns-in-Err-clause-means
returns-in-Err-clause-means c = λ r e.
    let bytes = are_bytes c.args.bytes.now (λ i. omega (arith, c.type_inv.bytes i)) in
    meaning_of c.args.profile (2 ^ 62) c.args.policy c.args.bytes.now r bytes (returns-in-Err-clause-same c r e)
