-- The place among the labels is the only one.
use Rattle.wm_typing.proofs.Tables.{count_law, label_law}
use Rattle.wm_typing.proofs.laws.labels_of_a_table.Goals as goal

pub returns-clause-count : goal.returns-clause-count
returns-clause-count c d hs ws ops n o = count_law d hs ws ops n o

pub returns-clause-label : goal.returns-clause-label
returns-clause-label c d n seen hs ws ops l o = label_law d n seen hs ws ops l o
