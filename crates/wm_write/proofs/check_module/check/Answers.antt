use Rattle.std.proofs.Common.{subst, sym}
use Rattle.std.proofs.lemmas.Result.{IfOk-weaker}
use Rattle.wm_syntax.specs.Values.{value_of}
use Rattle.wm_write.specs.exact.Checking.{SpelledFor}
use Rattle.wm_write.proofs.Checks.{given, refused}
use Rattle.wm_write.proofs.check_module.check.Goals as goal

pub returns-clause-given : goal.returns-clause-given
returns-clause-given c =
    let m = value_of c.args.m.now in
    let spelled : SpelledFor c.args.profile m c.deref.result.now = subst (SpelledFor c.args.profile m) (sym c.deref.ensures.value) c.in_ok-bytes.ensures.written in
    IfOk-weaker c.load.result _ _ (λ k l. given c.args.profile c.args.policy m _ c.deref.result.now spelled l) c.load.ensures.loaded

pub returns-clause-refused : goal.returns-clause-refused
returns-clause-refused c =
    let m = value_of c.args.m.now in
    let spelled : SpelledFor c.args.profile m c.deref.result.now = subst (SpelledFor c.args.profile m) (sym c.deref.ensures.value) c.in_ok-bytes.ensures.written in
    λ r e o v w. refused c.args.profile c.args.policy m c.deref.result.now spelled (c.load.ensures.refused r e) o v w
