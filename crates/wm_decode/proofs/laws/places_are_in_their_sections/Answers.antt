use Rattle.wm_decode.proofs.SectionPlaces.{lies_in}
use Rattle.wm_decode.proofs.laws.places_are_in_their_sections.Goals as goal

pub returns : goal.returns
returns c = lies_in
