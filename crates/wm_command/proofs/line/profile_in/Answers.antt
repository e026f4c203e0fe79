use Rattle.std.proofs.Common.{List, MatchOption, Option, subst, ℕ}
use Rattle.wm_command.specs.Lines.{HasFeatures, IsProfile}
use Rattle.wm_syntax.specs.declared.profile.Profile.{Profile}
use Rattle.wm_command.proofs.LineLemmas.{match_weaker}
use Rattle.wm_command.proofs.line.profile_in.Goals as goal

-- the answer is right for this value of `--features`
abbrev RightFor : Option Profile → Profile → Option (List ℕ) → Type 0
RightFor result base said = MatchOption result ((other p : Profile) → HasFeatures said other p → ⊥) (HasFeatures said base)

pub returns : goal.returns
returns c =
    let base = c.in_ok-base.base in
    let named = subst (λ (said : Option (List ℕ)). IsProfile said base) c.get_str.ensures c.in_ok-base.ensures in
    let features = subst (RightFor c.with_features.result base) c.get_str-2.ensures c.with_features.ensures in
    match_weaker c.with_features.result features (λ none p gives. none gives.0 p gives.2) (λ p has. (base, named, has))
