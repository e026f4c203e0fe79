use Rattle.std.proofs.Common.{◌∙◌, sym, ap}
use Rattle.std.specs.Prelude.{Some}
use Rattle.wm_syntax.proofs.NamedOps.{name_past, name_there}
use Rattle.wm_syntax.proofs.instructions.op_names.name_of.Goals as goal

pub returns : goal.returns
returns c = record {
  named = λ o h. name_there c.args.wanted o h ∙ ap Some (sym c.name_at.ensures);
  exact = c.name_at.ensures;
}

pub returns-then-wanted-ge271-clause-exact : goal.returns-then-wanted-ge271-clause-exact
returns-then-wanted-ge271-clause-exact c = sym (name_past c.args.wanted c.if-wanted-ge271.true)
