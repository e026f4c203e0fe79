use Rattle.wm_machine.proofs.ItemsOfProfiles.{spelled_by_items, spelled_of_items}
use Rattle.wm_machine.proofs.laws.items_tell_the_profile.Goals as goal

pub returns : goal.returns
returns c = record {
  more = λ p q v b more elements segments h. spelled_of_items p q v b more elements segments h;
  less = λ p q v b more alike fronts h own. spelled_by_items p q v b more alike fronts h own;
}
