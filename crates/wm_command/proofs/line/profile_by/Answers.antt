use Rattle.std.proofs.Common.{Bor, List, MatchOption, Option, option_map, subst, sym, ℕ}
use Rattle.wm_command.specs.Lines.{IsProfile}
use Rattle.wm_syntax.specs.declared.profile.Profile.{Profile}
use Rattle.wm_command.proofs.line.profile_by.Goals as goal

-- the answer is right for this value of `--profile`
abbrev RightFor : Option Profile → Option (Bor (List ℕ)) → Type 0
RightFor result word = let said = option_map (λ s. s.now) word in
    MatchOption result ((p : Profile) → IsProfile said p → ⊥) (IsProfile said)

pub returns-in-Some : goal.returns-in-Some
returns-in-Some c = subst (RightFor c.profile_of.result) (sym c.in-Some.is) c.profile_of.ensures
