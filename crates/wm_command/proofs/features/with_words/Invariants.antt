use Rattle.std.proofs.Common.{◌+◌, [], length}
use Rattle.std.specs.Option.{option_map_or}
use Rattle.std.specs.Prelude.{Contains}
use Rattle.clap.specs.Words.{Text}
use Rattle.wm_command.specs.Lines.{AddsWords, words_in}
use Rattle.wm_syntax.specs.declared.profile.Profile.{Profile}
use Rattle.wm_command.proofs.features.with_words.Given as goal

-- If the remaining words make a profile of this one, all words make it of the first one. The remaining words are words of
-- the list.
abbrev pub invariant-words : goal.invariant-words
invariant-words l = record {
  adds : (p : Profile) → AddsWords l.profile (option_map_or (λ text. words_in text.now) l.rest []) p → AddsWords l.fn.base (words_in l.fn.list) p;
  among : (text : Text) → Contains (option_map_or (λ rest. words_in rest.now) l.rest []) text → Contains (words_in l.fn.list) text;
}

abbrev pub decreases-words : goal.decreases-words
decreases-words l = option_map_or (λ text. length text.now + 1) l.rest 0
