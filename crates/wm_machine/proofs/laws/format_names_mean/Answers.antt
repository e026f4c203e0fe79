use Rattle.wm_machine.proofs.FormatMeanings.{whole_input}
use Rattle.wm_machine.proofs.laws.format_names_mean.Goals as goal

pub returns : goal.returns
returns g c = λ s input r bytes names e. whole_input g.S.Sink.after s names input r bytes e
