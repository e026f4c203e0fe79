use Rattle.std.proofs.Common.{refl}
use Rattle.wm_floats.specs.exact.Atoms.{plain}
use Rattle.wm_floats.proofs.Leads.{both_read}
use Rattle.wm_floats.proofs.hexadecimal.read_both.Goals as goal

pub returns-clause-leads : goal.returns-clause-leads
returns-clause-leads c =
    both_read (plain c.args.whole.now) (plain c.args.part.now) _ c.read.result refl refl refl c.read-first.result c.read-first.ensures.leads c.read.ensures.leads
