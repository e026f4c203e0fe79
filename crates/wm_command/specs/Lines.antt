-- The command line `wmod ACTION [OPTIONS] [FILE]...`, as a simple command of `clap`. With `explain` FILE is a NAME, and
-- with `help` it is a word for ACTION. FILE has a list of values. Each other argument has one value, or none if it is
-- absent.
use Rattle.std.specs.Prelude.{◌≡◌, ◌≢◌, ◌<◌, ◌≤◌, ◌^◌, ◌⊎◌, ◌↔◌, ◌==◌, ℕ, true, List, [], ◌∷◌}
use Rattle.std.specs.Prelude.{Option, Some, None, IfSome, IsSome, IsTrue, ⊤, codes, length, map, Contains}
use Rattle.std.specs.Prelude.{if◌then◌else◌, option_map, unwrap_or}
use Rattle.std.specs.List.{slice_split}
use Rattle.std.specs.Str.{bytes_eq}
use Rattle.std.specs.Str.Parse.{IsNumeral, digits_value}
use Rattle.clap.specs.Words.{App, Rule, Text, HasKind, all_of, fault_of, first_of, matches_of, new_app, new_rule}
use Rattle.clap.specs.Words.{matched_of, raw_values, with_rule}
use Rattle.clap.specs.Simple.{on_top}
use Rattle.clap.specs.declared.parser.matches.Found.{Found}
use Rattle.clap.specs.declared.builder.action.ArgAction.TheVariants.{Append, Set, SetTrue}
use Rattle.wm_syntax.specs.declared.profile.Feature.{Feature}
use Rattle.wm_syntax.specs.declared.profile.Feature.TheVariants.{BulkMemory, Copies, Floats, LongIndex, Saturation, SignExtension}
use Rattle.wm_syntax.specs.declared.profile.Profile.{Profile}
use Rattle.wm_syntax.specs.Profiles.{AddsFeature, four, one, three, two}
use Rattle.wm_rules.specs.declared.policy.Policy.{Policy}
use Rattle.wm_read.specs.declared.spellings.Spellings.{Spellings}
use Rattle.wm_read.specs.declared.spellings.Spellings.TheVariants.{Standard, Older}
use Rattle.wm_command.specs.declared.arguments.Action.{Action}
use Rattle.wm_command.specs.declared.arguments.Action.TheVariants.{Check, Stats, Canon, Show, Build}
use Rattle.wm_command.specs.declared.arguments.Ending.{Ending}
use Rattle.wm_command.specs.declared.arguments.Ending.TheVariants as ends
use Rattle.wm_command.specs.declared.arguments.Inputs.{Inputs}
use Rattle.wm_command.specs.declared.arguments.Inputs.TheVariants as named
use Rattle.wm_command.specs.declared.arguments.Line.{Line}
use Rattle.wm_command.specs.declared.arguments.Request.{Request}
use Rattle.wm_command.specs.declared.arguments.Request.TheVariants as request
use Rattle.wm_command.specs.declared.line.WrongWord.{WrongWord}
use Rattle.wm_command.specs.declared.line.WrongWord.TheVariants as wrong
use Rattle.wm_command.specs.declared.arguments.LineFault.{LineFault}
use Rattle.wm_command.specs.declared.arguments.LineFault.TheVariants as fault

-- ACTION: a required positional argument.
abbrev pub action_rule : Rule
action_rule = record (new_rule (codes "ACTION")) { required = true; action = Some Set }

-- `--NAME N`: an option with one value.
abbrev pub option_rule : Text → Rule
option_rule name = record (new_rule name) { long = Some name; value_names = 1; action = Some Set }

-- `--NAME`: a flag.
abbrev pub flag_rule : Text → Rule
flag_rule name = record (new_rule name) { long = Some name; action = Some SetTrue }

-- A rule with a second name of one letter, such as `-o`.
abbrev pub with_letter : ℕ → Rule → Rule
with_letter letter rule = record rule { short = Some letter }

-- FILE: a positional argument that may be absent, or come several times.
abbrev pub file_rule : Rule
file_rule = record (new_rule (codes "FILE")) { action = Some Append }

-- The command with this name and a version.
abbrev pub versioned : Text → App
versioned name = on_top (λ s. record s { has_version = true }) (new_app name)

-- The command with these arguments added, in this order.
abbrev pub with_rules : App → List Rule → App
with_rules a [] = a
with_rules a (rule ∷ rules) = with_rules (with_rule a rule) rules

-- The options on profiles, features and limits, and `--old-words`.
abbrev pub module_rules : List Rule
module_rules =
    option_rule (codes "profile")
    ∷ option_rule (codes "features")
    ∷ option_rule (codes "limit")
    ∷ option_rule (codes "max-functions")
    ∷ option_rule (codes "max-locals")
    ∷ option_rule (codes "max-open")
    ∷ flag_rule (codes "old-words")
    ∷ []

-- The options on files, and `--quiet`. `--null` is `-0` too, `--output` is `-o`, and `--quiet` is `-q`.
abbrev pub file_rules : List Rule
file_rules =
    option_rule (codes "from")
    ∷ with_letter 48 (flag_rule (codes "null"))
    ∷ with_letter 111 (option_rule (codes "output"))
    ∷ with_letter 113 (flag_rule (codes "quiet"))
    ∷ file_rule
    ∷ []

-- The command `wmod`. `clap` adds the flags for help and for the version.
abbrev pub wmod : App
wmod = with_rules (with_rules (with_rule (versioned (codes "wmod")) action_rule) module_rules) file_rules

-- The value of ACTION for each action.
abbrev pub action_name : Action → Text
action_name Check = codes "check"
action_name Stats = codes "stats"
action_name Canon = codes "canon"
action_name Show = codes "show"
action_name Build = codes "build"

-- The word is the name of an action.
abbrev pub NamesAction : Text → Type 0
NamesAction text = (a : Action) × (text ≡ action_name a)

-- ACTION may be this word: it names an action, or is `explain` or `help`.
abbrev pub IsActionWord : Text → Type 0
IsActionWord text = NamesAction text ⊎ (text ≡ codes "explain") ⊎ (text ≡ codes "help")

-- An action with this word reads several files, or a list of names.
abbrev pub TakesMany : Text → Type 0
TakesMany text = (text ≡ action_name Check) ⊎ (text ≡ action_name Stats)

-- An action with this word writes a module, so that it may write it to a file.
abbrev pub WritesModule : Text → Type 0
WritesModule text = (text ≡ action_name Canon) ⊎ (text ≡ action_name Show) ⊎ (text ≡ action_name Build)

-- This value of `--profile` names this profile. Any other value names none.
abbrev pub NamesProfile : Text → Profile → Type 0
NamesProfile text p = ((text ≡ codes "1") × (p ≡ one)) ⊎ ((text ≡ codes "2") × (p ≡ two))
    ⊎ ((text ≡ codes "3") × (p ≡ three)) ⊎ ((text ≡ codes "1.0") × (p ≡ three))
    ⊎ ((text ≡ codes "4") × (p ≡ four))

-- A value of `--profile` names this profile. An absent one names `one`.
abbrev pub IsProfile : Option Text → Profile → Type 0
IsProfile None p = p ≡ one
IsProfile (Some text) p = NamesProfile text p

-- This word of `--features` names these features. Any other word names none. The words are those of LLVM, but for
-- `compilers`, which names all of these features and the floats.
abbrev pub NamesFeatures : Text → List Feature → Type 0
NamesFeatures text features = ((text ≡ codes "sign-ext") × (features ≡ SignExtension ∷ []))
    ⊎ ((text ≡ codes "call-indirect-overlong") × (features ≡ LongIndex ∷ []))
    ⊎ ((text ≡ codes "nontrapping-fptoint") × (features ≡ Saturation ∷ []))
    ⊎ ((text ≡ codes "bulk-memory-opt") × (features ≡ Copies ∷ []))
    ⊎ ((text ≡ codes "bulk-memory") × (features ≡ Copies ∷ BulkMemory ∷ []))
    ⊎ ((text ≡ codes "compilers")
    × (features ≡ Floats ∷ SignExtension ∷ LongIndex ∷ Saturation ∷ Copies ∷ BulkMemory ∷ []))

-- The profile `p` is `base` with these features added.
abbrev pub AddsFeatures : Profile → List Feature → Profile → Type 0
AddsFeatures base [] p = p ≡ base
AddsFeatures base (feature ∷ features) p = (q : Profile) × AddsFeature base feature q × AddsFeatures q features p

-- Each of these words names features, and the profile `p` is `base` with all of them added.
abbrev pub AddsWords : Profile → List Text → Profile → Type 0
AddsWords base [] p = p ≡ base
AddsWords base (word ∷ words) p = (features : List Feature) × (q : Profile) × NamesFeatures word features
    × AddsFeatures base features q × AddsWords q words p

-- The words of a list, with commas between them. The empty list has one word, which is empty.
abbrev pub words_in : Text → List Text
words_in = slice_split (λ b. b == 44)

-- A value of `--features` makes the profile `p` of the profile `base`. An absent one adds nothing.
abbrev pub HasFeatures : Option Text → Profile → Profile → Type 0
HasFeatures None base p = p ≡ base
HasFeatures (Some list) base p = AddsWords base (words_in list) p

-- The values of `--profile` and `--features` give this profile.
abbrev pub GivesProfile : (Text → Option Text) → Profile → Type 0
GivesProfile word p = (base : Profile) × IsProfile (word (codes "profile")) base
    × HasFeatures (word (codes "features")) base p

-- A value of `--limit` is this number in decimal digits, and the number is at most 2^62. An absent one is
-- 2^32 - 1.
abbrev pub IsLimit : Option Text → ℕ → Type 0
IsLimit None n = n ≡ 4294967295
IsLimit (Some text) n = IsNumeral 10 text × (digits_value 10 text ≡ n) × (n ≤ 2 ^ 62)

-- A value of a policy option is this limit in decimal digits, and the limit is below 2^32. An absent one is no
-- limit.
abbrev pub IsMost : Option Text → Option ℕ → Type 0
IsMost None most = most ≡ None
IsMost (Some text) most = IsNumeral 10 text × (most ≡ Some (digits_value 10 text))
    × (digits_value 10 text < 2 ^ 32)

-- The three `--max-` options give this policy.
pub record IsPolicy (word : Text → Option Text) (q : Policy) : Type 0 where
  pub functions : IsMost (word (codes "max-functions")) q.functions
  pub locals : IsMost (word (codes "max-locals")) q.locals
  pub depth : IsMost (word (codes "max-open")) q.depth

-- A flag is present. `clap` gives a flag the value `true` if it is present, and `false` if it is absent.
abbrev pub Stands : Option Text → Type 0
Stands flag = flag ≡ Some (codes "true")

-- The value of `--old-words` gives these spellings: `Older` if the flag is present and the action is `build`,
-- and `Standard` if it is absent. A flag that is present with another action gives none.
abbrev pub IsSpellings : Option Text → Action → Spellings → Type 0
IsSpellings flag action Standard = Stands flag → ⊥
IsSpellings flag action Older = Stands flag × (action ≡ Build)

-- The flag `--null` gives this byte at the end of each name of a list: the zero byte if it is present, and a line feed
-- if it is absent.
abbrev pub IsEnding : Option Text → Ending → Type 0
IsEnding flag ends.Line = Stands flag → ⊥
IsEnding flag ends.Zero = Stands flag

-- The values of `--from`, `--null` and FILE give these inputs. `--from` has the name of a list, and goes with no FILE.
-- `--null` goes with `--from` only.
abbrev pub IsInputs : Option Text → Option Text → List Text → Inputs → Type 0
IsInputs from null files (named.One None) = (from ≡ None) × (Stands null → ⊥) × (files ≡ [])
IsInputs from null files (named.One (Some name)) = (from ≡ None) × (Stands null → ⊥) × (files ≡ name.now ∷ [])
IsInputs from null files (named.Several names) = (from ≡ None) × (Stands null → ⊥)
    × (files ≡ map (λ s. s.now) names.items) × (1 < length files)
IsInputs from null files (named.Listed list ending) = (from ≡ Some list.now) × IsEnding null ending × (files ≡ [])

-- The inputs are several files, or a list.
abbrev pub AreMany : Inputs → Type 0
AreMany (named.One name) = ⊥
AreMany _ = ⊤

-- The arguments give these inputs, and there may be several if `Many` holds.
abbrev pub GivesInputs : (Text → Option Text) → List Text → Type 0 → Inputs → Type 0
GivesInputs word files Many inputs = IsInputs (word (codes "from")) (word (codes "null")) files inputs
    × (AreMany inputs → Many)

-- The action may have this value of `--output`.
abbrev pub MayWrite : Option Text → Action → Type 0
MayWrite output action = IsSome output → WritesModule (action_name action)

-- The values of the arguments describe this line. `files` has the values of FILE.
pub record Says (word : Text → Option Text) (files : List Text) (l : Line) : Type 0 where
  pub action : word (codes "ACTION") ≡ Some (action_name l.action)
  pub profile : GivesProfile word l.profile
  pub limit : IsLimit (word (codes "limit")) l.limit
  pub policy : IsPolicy word l.policy
  pub spellings : IsSpellings (word (codes "old-words")) l.action l.spellings
  pub inputs : GivesInputs word files (TakesMany (action_name l.action)) l.inputs
  pub output : word (codes "output") ≡ option_map (λ s. s.now) l.output
  pub writes : MayWrite (word (codes "output")) l.action
  pub quiet : IsTrue l.quiet ↔ Stands (word (codes "quiet"))

-- The path that the name of a file stands for, or `None` for standard input or output: the name is absent or is `-`.
abbrev pub path_of : Option Text → Option Text
path_of None = None
path_of (Some name) = if bytes_eq name (codes "-") then None else Some name

-- The values describe no line.
abbrev pub SaysNone : (Text → Option Text) → List Text → Type 0
SaysNone word files = (l : Line) → Says word files l → ⊥

-- Neither a list nor a file to write is named.
abbrev pub NamesNoOther : (Text → Option Text) → Type 0
NamesNoOther word = (word (codes "from") ≡ None) × (word (codes "output") ≡ None)

-- FILE has this one value, or none.
abbrev pub list_of : Option Text → List Text
list_of None = []
list_of (Some text) = text ∷ []

-- The values ask for this. `explain` asks for the meaning of FILE as a NAME. `help` asks for the help, with or
-- without a word for ACTION as FILE. Both ignore the values of the options, but neither takes `--from` or `--output`.
-- An action with the value `help` of `--features` asks for the words of that option, and ignores all other values.
abbrev pub Asks : (Text → Option Text) → List Text → Request → Type 0
Asks word files (request.Run l) = Says word files l
Asks word files (request.Explain name) = (word (codes "ACTION") ≡ Some (codes "explain"))
    × (files ≡ list_of (option_map (λ s. s.now) name)) × NamesNoOther word
Asks word files request.Help = (word (codes "ACTION") ≡ Some (codes "help"))
    × ((files ≡ []) ⊎ ((topic : Text) × (files ≡ topic ∷ []) × IsActionWord topic)) × NamesNoOther word
Asks word files request.Features = ((text : Text) × (word (codes "ACTION") ≡ Some text) × NamesAction text)
    × (word (codes "features") ≡ Some (codes "help"))

-- The values ask for nothing.
abbrev pub AsksNothing : (Text → Option Text) → List Text → Type 0
AsksNothing word files = (r : Request) → Asks word files r → ⊥

-- The first of these values.
abbrev pub head_of : List Text → Option Text
head_of [] = None
head_of (text ∷ texts) = Some text

-- The argument has this value, and the value is wrong. `Feature` has a word of the value of `--features`, which names no
-- feature. These values are wrong because of another argument:
-- `Topic`: FILE, whose first value is no word for ACTION, where ACTION is `help`.
-- `OldWords`: ACTION, which is not `build`, where `--old-words` is present.
-- `Several`: ACTION, which takes one FILE at most, where FILE has several values.
-- `From`: ACTION, which takes no list, where `--from` has a value.
-- `Beside`: the first value of FILE, where `--from` has a value.
-- `Null`: the flag `--null`, where `--from` has no value.
-- `Output`: ACTION, which writes no module, where `--output` has a value.
abbrev pub IsWrong : (Text → Option Text) → List Text → WrongWord → Type 0
IsWrong word files (wrong.Action w) = (word (codes "ACTION") ≡ Some w.now) × (IsActionWord w.now → ⊥)
IsWrong word files (wrong.Topic w) = (word (codes "ACTION") ≡ Some (codes "help"))
    × (head_of files ≡ Some w.now) × (IsActionWord w.now → ⊥)
IsWrong word files (wrong.Profile w) = (word (codes "profile") ≡ Some w.now)
    × ((p : Profile) → NamesProfile w.now p → ⊥)
IsWrong word files (wrong.Feature w) = (list : Text) × (word (codes "features") ≡ Some list)
    × Contains (words_in list) w.now × ((features : List Feature) → NamesFeatures w.now features → ⊥)
IsWrong word files (wrong.Limit w) = (word (codes "limit") ≡ Some w.now)
    × ((n : ℕ) → IsLimit (Some w.now) n → ⊥)
IsWrong word files (wrong.MaxFunctions w) = (word (codes "max-functions") ≡ Some w.now)
    × ((n : Option ℕ) → IsMost (Some w.now) n → ⊥)
IsWrong word files (wrong.MaxLocals w) = (word (codes "max-locals") ≡ Some w.now)
    × ((n : Option ℕ) → IsMost (Some w.now) n → ⊥)
IsWrong word files (wrong.MaxOpen w) = (word (codes "max-open") ≡ Some w.now)
    × ((n : Option ℕ) → IsMost (Some w.now) n → ⊥)
IsWrong word files (wrong.OldWords w) = Stands (word (codes "old-words")) × (word (codes "ACTION") ≡ Some w.now)
    × (w.now ≢ action_name Build)
IsWrong word files (wrong.Several w) = (word (codes "ACTION") ≡ Some w.now) × (TakesMany w.now → ⊥)
    × (1 < length files)
IsWrong word files (wrong.From w) = (word (codes "ACTION") ≡ Some w.now) × (TakesMany w.now → ⊥)
    × IsSome (word (codes "from"))
IsWrong word files (wrong.Beside w) = IsSome (word (codes "from")) × (head_of files ≡ Some w.now)
IsWrong word files wrong.Null = Stands (word (codes "null")) × (word (codes "from") ≡ None)
IsWrong word files (wrong.Output w) = (word (codes "ACTION") ≡ Some w.now) × (WritesModule w.now → ⊥)
    × IsSome (word (codes "output"))

-- The values of FILE, `--from`, `--null` and `--output` fit each other and ACTION.
pub record FilesFit (word : Text → Option Text) (files : List Text) : Type 0 where
  pub several : 1 < length files → IfSome (word (codes "ACTION")) TakesMany
  pub list : IsSome (word (codes "from")) → IfSome (word (codes "ACTION")) TakesMany
  pub beside : IsSome (word (codes "from")) → head_of files ≡ None
  pub null : Stands (word (codes "null")) → word (codes "from") ≡ None → ⊥
  pub output : IsSome (word (codes "output")) → IfSome (word (codes "ACTION")) WritesModule

-- No argument has a wrong value.
abbrev pub NoneIsWrong : (Text → Option Text) → List Text → Type 0
NoneIsWrong word files = (w : WrongWord) → IsWrong word files w → ⊥

-- The value that `clap` finds for each argument in these words, the first of which is the program's name. It
-- means something only for words that `clap` accepts.
abbrev pub word_of : List Text → Text → Option Text
word_of words id = first_of id (matches_of wmod words)

-- The values of FILE among what `clap` found.
abbrev pub files_found : Found → List Text
files_found found = unwrap_or (option_map raw_values (matched_of found (codes "FILE"))) []

-- The values that `clap` finds for FILE in these words. They mean something only for words that `clap` accepts.
abbrev pub files_of : List Text → List Text
files_of words = unwrap_or (all_of (codes "FILE") (matches_of wmod words)) []

-- This fault may be reported for these words. `Parser`: `clap` has a fault of this kind for them, or was refused
-- memory. `Words`: `clap` has no fault, and the values ask for nothing. `Memory` may be reported for any words.
abbrev pub IsFaultOf : List Text → LineFault → Type 0
IsFaultOf words (fault.Parser e) = HasKind (fault_of wmod words) e
IsFaultOf words fault.Words = (fault_of wmod words ≡ []) × AsksNothing (word_of words) (files_of words)
IsFaultOf words fault.Memory = ⊤
