use Rattle.wm_syntax.proofs.FirstBytes.{behind_says}
use Rattle.wm_syntax.proofs.instructions.opcodes.op_behind.Goals as goal

pub returns : goal.returns
returns c =
    let says = behind_says c.args.profile c.args.number c.op_with.result c.op_with.ensures in
    record { found = says.0; only = says.1; no_float = says.2; exact = says.3 }
