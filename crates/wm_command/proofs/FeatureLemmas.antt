-- Lemmas about the words of `--features`.
use Rattle.std.proofs.Common.{◌≡◌, List, [], ◌∷◌, arith, zero, suc, subst, sym}
use Rattle.std.specs.Prelude.{Contains}
use Rattle.clap.specs.Words.{Text}
use Rattle.wm_command.specs.Lines.{AddsFeatures, AddsWords, NamesFeatures}
use Rattle.wm_syntax.specs.declared.profile.Feature.{Feature}
use Rattle.wm_syntax.specs.declared.profile.Profile.{Profile}

-- A word adds its features, and the words behind it add theirs.
pub word_adds : (profile q : Profile) (word : Text) (words more : List Text) (features : List Feature) → words ≡ word ∷ more → NamesFeatures word features → AddsFeatures profile features q
    → (p : Profile) → AddsWords q more p → AddsWords profile words p
word_adds profile q word words more features is names adds p rest = subst (λ (ws : List Text). AddsWords profile ws p) (sym is) (features, q, names, adds, rest)

-- The words behind a word are among all of them.
pub behind_word : (word : Text) (words more : List Text) → words ≡ word ∷ more → (text : Text) → Contains more text → Contains words text
behind_word word words more is text c = subst (λ (ws : List Text). Contains ws text) (sym is) (suc c.0, omega (arith, c.1), c.2)

-- Each word of a list whose features are added names features.
pub each_names : (words : List Text) (base p : Profile) → AddsWords base words p → (text : Text) → Contains words text → (features : List Feature) × NamesFeatures text features
each_names [] base p adds text (k, low, is) = absurd (omega (arith, low))
each_names (word ∷ words) base p adds text (zero, low, is) = (adds.0, subst (λ (t : Text). NamesFeatures t adds.0) is adds.2)
each_names (word ∷ words) base p adds text (suc k, low, is) = each_names words adds.1 p adds.4 text (k, omega (arith, low), is)
