use Rattle.wm_syntax.proofs.ProfileLaws.{block_type_more, const_more, every_extends, extends_one, four_extends_three, four_extends_two, is_of_more, op_of_more, type_more}
use Rattle.wm_syntax.proofs.SpelledMore.{instructions_spelled_more}
use Rattle.wm_syntax.proofs.laws.more_features_have_as_much.Goals as goal
use Rattle.wm_syntax.specs.declared.profile.Feature.TheVariants.{LongIndex}

pub returns : goal.returns
returns c = record {
  types = λ p q t more h. type_more p q more t h;
  block_types = λ p q t more h. block_type_more p q more t h;
  constants = λ p q k more h. const_more p q more k h;
  ops = λ p q o more h. op_of_more p q more o h;
  modules = λ p q m more h. is_of_more p q more m h;
  first = extends_one;
  encodings = λ p q s b more h. instructions_spelled_more p q (more LongIndex) s b h;
  last = every_extends;
  two = four_extends_two;
  three = four_extends_three;
}
