use Rattle.std.proofs.Common.{List}
use Rattle.wm_syntax.specs.declared.profile.Profile.{Profile}
use Rattle.wm_syntax.specs.Modules.{Module}
use Rattle.wm_syntax.specs.Profiles.{IsOf}
use Rattle.wm_syntax.proofs.ProfileLaws.{is_of_more}
use Rattle.wm_tokens.specs.Fields.{Writes}
use Rattle.wm_tokens.specs.Tokens.{Token}
use Rattle.wm_read.proofs.laws.modules_tell_their_profiles.Goals as goal

-- Only `IsOf` depends on the profile.
written_under : (p q : Profile) (k : List Token) (m : Module) → Writes p k m → IsOf q m → Writes q k m
written_under p q k m h of = record {
  id = h.id;
  fields = h.fields;
  text = h.text;
  value = h.value;
  instructions = of;
  imports_first = h.imports_first;
  one_start = h.one_start;
  distinct = h.distinct;
}

pub returns : goal.returns
returns c = λ p q k m more. (
  λ h. (written_under p q k m h (is_of_more p q more m h.instructions), h.instructions),
  λ h. written_under q p k m h.0 h.1,
)
