use Rattle.wm_decode.proofs.MemberPlaces.{lies_in_member}
use Rattle.wm_decode.proofs.laws.items_are_members.Goals as goal

pub returns : goal.returns
returns c = lies_in_member
