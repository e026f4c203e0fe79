use Rattle.std.proofs.Common.{arith, inl, inr, refl}
use Rattle.wm_shortcuts.proofs.limited.limits_at.Goals as goal

pub returns-then-bytes-from-eq0-clause-lie : goal.returns-then-bytes-from-eq0-clause-lie
returns-then-bytes-from-eq0-clause-lie c = inl (record { flag = omega arith; least = c.in_ok-min.min.value; min = c.in_ok-min.ensures; is = refl })

pub returns-clause-lie : goal.returns-clause-lie
returns-clause-lie c =
    inr (record {
      flag = omega arith;
      least = c.in_ok-min.min.value;
      middle = c.in_ok-min.min.next;
      greatest = c.in_ok-max.max.value;
      min = c.in_ok-min.ensures;
      max = c.in_ok-max.ensures;
      is = refl;
    })
