use Rattle.std.proofs.Common.{arith, length, length-append, flat_map}
use Rattle.wm_write.specs.Canon.{code_bytes, code_contents, u32_bytes}
use Rattle.wm_write.proofs.Writes.{member_less, sent_more}
use Rattle.wm_write.proofs.encode.code.put_codes.Goals as goal

pub put_code-requires : goal.put_code-requires
put_code-requires g c =
    let f = c.function-item.result in
    let all = c.args.functions.now in
    let few = member_less code_bytes all c.loop-function.function-index f c.loop-function-test.true c.function-item.is in
    omega (arith, c.requires, few, length-append (u32_bytes (length all)) (flat_map code_bytes all), length-append (u32_bytes (length (code_contents f))) (code_contents f))

pub loop-function-preserved : goal.loop-function-preserved
loop-function-preserved g c =
    sent_more code_bytes (u32_bytes (length c.args.functions.now)) c.args.functions.now c.loop-function.function-index c.function-item.result _ _ _
    c.loop-function-test.true c.function-item.is c.loop-function.invariant c.put_code.ensures
