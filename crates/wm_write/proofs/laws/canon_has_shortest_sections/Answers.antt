use Rattle.wm_write.proofs.Shortest.{shortest_sections}
use Rattle.wm_write.proofs.laws.canon_has_shortest_sections.Goals as goal

pub returns : goal.returns
returns c = shortest_sections
