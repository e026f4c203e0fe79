use Rattle.wm_command.proofs.line.wrong_in_policy.Goals as goal

pub returns : goal.returns
returns c =
    let functions = c.in_default.ensures in
    let locals = c.in_default-no_most.ensures in
    let depth = c.in_default-no_most-2.ensures in (
      record { functions = functions.0; locals = locals.0; depth = depth.0 },
      record { functions = functions.1; locals = locals.1; depth = depth.1 },
    )
