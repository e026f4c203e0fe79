use Rattle.std.proofs.Common.{Bor, List, Option, ℕ, option_map, subst}
use Rattle.wm_command.specs.Lines.{HasFeatures, words_in}
use Rattle.wm_command.proofs.FeatureLemmas.{each_names}
use Rattle.wm_command.proofs.features.with_features.Goals as goal

pub returns-in-Err : goal.returns-in-Err
returns-in-Err c = λ other p has.
    let adds = subst (λ (o : Option (Bor (List ℕ))). HasFeatures (option_map (λ s. s.now) o) other p) c.in-Some.is has in
    let named = each_names (words_in c.in-Some.list.now) other p adds c.in-Err.field-0.now c.in-Err.ensures.err.0 in
    c.in-Err.ensures.err.1 named.0 named.1
