use Rattle.wm_command.specs.Lines.{words_in}
use Rattle.wm_command.proofs.FeatureLemmas.{behind_word, word_adds}
use Rattle.wm_command.proofs.features.with_words.Goals as goal

pub words-preserved : goal.words-preserved
words-preserved c =
    let left = rw c.in-Some.is at c.words.invariant in
    let words = words_in c.in-Some.left.now in
    record {
      adds = λ p h. left.adds p (word_adds c.words.profile c.with_each-profile.result c.first_word.result.0.now words _ _ c.first_word.ensures.words c.in-Some-features_named.ensures c.with_each-profile.ensures p h);
      among = λ text h. left.among text (behind_word c.first_word.result.0.now words _ c.first_word.ensures.words text h);
    }
