-- A float that is no f64 is an f32.
use Rattle.std.proofs.Common.{refl}
use Rattle.wm_stacks.proofs.KindsAndWidths.{narrow}
use Rattle.wm_stacks.proofs.operands.Operands.push_float.Goals as goal

pub returns-in-F64 : goal.returns-in-F64
returns-in-F64 c =
    let e = c.push_f64.ensures in
    rw c.in-F64.is (record { ok = e.ok; err = e.err; near = e.near; between = λ n. absurd (n refl) })

pub returns-in_default : goal.returns-in_default
returns-in_default c =
    let e = c.push_f32.ensures in
    rw (narrow c.args.entry c.requires.float c.in_default.not-F64) (record { ok = e.ok; err = e.err; near = e.near; between = λ _. e.between })
