-- Lemmas about `clap`'s parse of the arguments, and about wrong values.
use Rattle.std.proofs.Common.{◌≡◌, ◌∙◌, ℕ, inl, inr, refl, subst, sym, ap, codes, true, [], List, Option, None, Some}
use Rattle.std.specs.Prelude.{◌≢◌, Contains, IfSome, IsSome, MatchOption, option_map, unwrap_or}
use Rattle.std.proofs.lemmas.Option.{IfSome_then}
use Rattle.clap.specs.Words.{App, HasKind, HasMatchesOf, Text, IsAmong, Kinds, all_of, fault_of, first_of, first_value, found_of, is_simple, is_simple_and_free, matches_of}
use Rattle.clap.specs.Values.{kind_of}
use Rattle.clap.specs.declared.error.Error.{Error}
use Rattle.clap.specs.declared.error.kind.ErrorKind.TheVariants as kind
use Rattle.clap.specs.declared.parser.matches.ArgMatches.{ArgMatches}
use Rattle.clap.proofs.OnLiterals.{clap_on_literals}
use Rattle.clap.proofs.WalkLemmas.{first_value-rows, raw_values-rows}
use Rattle.wm_command.specs.declared.line.WrongWord.{WrongWord}
use Rattle.wm_command.specs.declared.line.WrongWord.TheVariants as wrong
use Rattle.wm_command.specs.declared.arguments.Action.TheVariants.{Build}
use Rattle.wm_command.specs.Lines.{FilesFit, IsActionWord, IsLimit, IsMost, IsPolicy, IsProfile, IsWrong, NamesFeatures, NoneIsWrong, Stands, TakesMany, WritesModule, action_name, files_found, files_of, head_of, wmod, word_of, words_in}
use Rattle.wm_rules.specs.declared.policy.Policy.{Policy}
use Rattle.wm_syntax.specs.declared.profile.Feature.{Feature}
use Rattle.wm_syntax.specs.declared.profile.Profile.{Profile}
use Rattle.wm_syntax.specs.Profiles.{one}

simple : is_simple wmod ≡ true
unfolding clap_on_literals
simple = refl

simple_and_free : is_simple_and_free wmod ≡ true
unfolding clap_on_literals
simple_and_free = refl

-- For words that `clap` accepts, the getters of its matches return the values of each argument.
pub record Taken (m : ArgMatches) (words : List Text) : Type 0 where
  pub accepted : fault_of wmod words ≡ []
  pub word : (id : Text) → first_value (found_of m) id ≡ word_of words id
  pub files : files_found (found_of m) ≡ files_of words

pub taken : (a : App) (m : ArgMatches) (words : List Text) → a ≡ wmod → HasMatchesOf a words m → (is_simple_and_free a ≡ true → fault_of a words ≡ []) → Taken m words
taken a m words is matches none =
    let rows = (matches (ap is_simple is ∙ simple)).0 ∙ ap (λ b. matches_of b words) is in record {
      accepted = ap (λ b. fault_of b words) (sym is) ∙ none (ap is_simple_and_free is ∙ simple_and_free);
      word = λ id. first_value-rows (found_of m) id ∙ ap (first_of id) rows;
      files = ap (λ o. unwrap_or o []) (raw_values-rows (found_of m) (codes "FILE") ∙ ap (all_of (codes "FILE")) rows);
    }

-- For words that `clap` refuses, its error has one of the kinds of fault that the command has for them.
pub refused : (a : App) (words : List Text) (e : Error) → a ≡ wmod → (is_simple_and_free a ≡ true → HasKind (fault_of a words) e) → HasKind (fault_of wmod words) e
refused a words e is kinds = subst (λ b. HasKind (fault_of b words) e) is (kinds (ap is_simple_and_free is ∙ simple_and_free))

-- Whether a value is wrong depends only on the values of each argument.
wrong_by_words : (word other : Text → Option Text) → ((id : Text) → word id ≡ other id) → (files : List Text) (w : WrongWord) → IsWrong word files w → IsWrong other files w
wrong_by_words word other same files (wrong.Action text) h = (sym (same _) ∙ h.0, h.1)
wrong_by_words word other same files (wrong.Topic text) h = (sym (same _) ∙ h.0, h.1, h.2)
wrong_by_words word other same files (wrong.Profile text) h = (sym (same _) ∙ h.0, h.1)
wrong_by_words word other same files (wrong.Feature text) h = (h.0, sym (same _) ∙ h.1, h.2, h.3)
wrong_by_words word other same files (wrong.Limit text) h = (sym (same _) ∙ h.0, h.1)
wrong_by_words word other same files (wrong.MaxFunctions text) h = (sym (same _) ∙ h.0, h.1)
wrong_by_words word other same files (wrong.MaxLocals text) h = (sym (same _) ∙ h.0, h.1)
wrong_by_words word other same files (wrong.MaxOpen text) h = (sym (same _) ∙ h.0, h.1)
wrong_by_words word other same files (wrong.OldWords text) h = (sym (same _) ∙ h.0, sym (same _) ∙ h.1, h.2)
wrong_by_words word other same files (wrong.Several text) h = (sym (same _) ∙ h.0, h.1, h.2)
wrong_by_words word other same files (wrong.From text) h = (sym (same _) ∙ h.0, h.1, subst IsSome (same _) h.2)
wrong_by_words word other same files (wrong.Beside text) h = (subst IsSome (same _) h.0, h.1)
wrong_by_words word other same files wrong.Null h = (sym (same _) ∙ h.0, sym (same _) ∙ h.1)
wrong_by_words word other same files (wrong.Output text) h = (sym (same _) ∙ h.0, h.1, subst IsSome (same _) h.2)

pub wrong_along : (word other : Text → Option Text) → ((id : Text) → word id ≡ other id) → (files others : List Text) → files ≡ others → (w : WrongWord) → IsWrong word files w
    → IsWrong other others w
wrong_along word other same files others is w h = subst (λ texts. IsWrong other texts w) is (wrong_by_words word other same files w h)

pub none_along : (word other : Text → Option Text) → ((id : Text) → word id ≡ other id) → (files others : List Text) → files ≡ others → NoneIsWrong word files
    → NoneIsWrong other others
none_along word other same files others is none w h = none w (wrong_along other word (λ id. sym (same id)) others files (sym is) w h)

-- The value of ACTION, if there is one, is `build`.
abbrev NamesBuild : Option Text → Type 0
NamesBuild said = IfSome said (λ text. text ≡ action_name Build)

-- Each word of a value of `--features` names features.
abbrev pub NamesAll : Text → Type 0
NamesAll list = (text : Text) → Contains (words_in list) text → (features : List Feature) × NamesFeatures text features

-- No value is wrong if each one is right.
pub none_wrong : (word : Text → Option Text) (files : List Text) → IfSome (word (codes "ACTION")) IsActionWord
    → (word (codes "ACTION") ≡ Some (codes "help") → IfSome (head_of files) IsActionWord)
    → ((p : Profile) × IsProfile (word (codes "profile")) p) → IfSome (word (codes "features")) NamesAll → ((n : ℕ) × IsLimit (word (codes "limit")) n) → ((q : Policy) × IsPolicy word q)
    → (Stands (word (codes "old-words")) → IfSome (word (codes "ACTION")) (λ text. text ≡ action_name Build)) → FilesFit word files → NoneIsWrong word files
none_wrong word files action topic profile features limit policy flag fit (wrong.Action w) h = h.1 (subst (λ o. IfSome o IsActionWord) h.0 action)
none_wrong word files action topic profile features limit policy flag fit (wrong.Topic w) h = h.2 (subst (λ o. IfSome o IsActionWord) h.1 (topic h.0))
none_wrong word files action topic profile features limit policy flag fit (wrong.Profile w) h = h.1 profile.0 (subst (λ o. IsProfile o profile.0) h.0 profile.1)
none_wrong word files action topic profile features limit policy flag fit (wrong.Feature w) h =
    let named = subst (λ o. IfSome o NamesAll) h.1 features w.now h.2 in h.3 named.0 named.1
none_wrong word files action topic profile features limit policy flag fit (wrong.Limit w) h = h.1 limit.0 (subst (λ o. IsLimit o limit.0) h.0 limit.1)
none_wrong word files action topic profile features limit policy flag fit (wrong.MaxFunctions w) h =
    h.1 policy.0.functions (subst (λ o. IsMost o policy.0.functions) h.0 policy.1.functions)
none_wrong word files action topic profile features limit policy flag fit (wrong.MaxLocals w) h =
    h.1 policy.0.locals (subst (λ o. IsMost o policy.0.locals) h.0 policy.1.locals)
none_wrong word files action topic profile features limit policy flag fit (wrong.MaxOpen w) h =
    h.1 policy.0.depth (subst (λ o. IsMost o policy.0.depth) h.0 policy.1.depth)
none_wrong word files action topic profile features limit policy flag fit (wrong.OldWords w) h = h.2 (subst NamesBuild h.1 (flag h.0))
none_wrong word files action topic profile features limit policy flag fit (wrong.Several w) h = h.1 (subst (λ o. IfSome o TakesMany) h.0 (fit.several h.2))
none_wrong word files action topic profile features limit policy flag fit (wrong.From w) h = h.1 (subst (λ o. IfSome o TakesMany) h.0 (fit.list h.2))
none_wrong word files action topic profile features limit policy flag fit (wrong.Beside w) h = let none = sym h.1 ∙ fit.beside h.0 in cc
none_wrong word files action topic profile features limit policy flag fit wrong.Null h = fit.null h.0 h.1
none_wrong word files action topic profile features limit policy flag fit (wrong.Output w) h = h.1 (subst (λ o. IfSome o WritesModule) h.0 (fit.output h.2))

-- A fault other than out of memory is one of the command's kinds.
pub faulty : (kinds : Kinds) (e : Error) → HasKind kinds e → kind_of e ≢ kind.OutOfMemory → kinds ≢ []
faulty kinds e (inl memory) other none = other memory
faulty kinds e (inr among) other none = subst (IsAmong (kind_of e)) none among

-- `MatchOption` is monotone in both cases.
pub match_weaker : {X : Type 0} (o : Option X) {N M : Type 0} {P Q : X → Type 0} → MatchOption o N P → (N → M) → ((x : X) → P x → Q x) → MatchOption o M Q
match_weaker None h n s = n h
match_weaker (Some x) h n s = s x h

-- A property of the bytes that a reader has left also holds of the bytes at the path by which it was opened.
pub opened : {A B : Type 0} (path : Option A) (p : A) (held : A → Option B) (left : Option B) (P : B → Type 0) → Some p ≡ path
    → IfSome (held p) (λ bytes. left ≡ Some bytes) → IfSome left P → IfSome path (λ q. IfSome (held q) P)
opened path p held left P is gives right =
    let at : IfSome (held p) P = IfSome_then (held p) gives (λ bytes e. subst (λ o. IfSome o P) e right) in
    subst (λ o. IfSome o (λ q. IfSome (held q) P)) is at

-- An absent `--limit` gives a limit.
pub default_limit : {S : Type 0} (text : Option S) (f : S → Text) (said : Option Text) → option_map f text ≡ said → text ≡ None → (n : ℕ) × IsLimit said n
default_limit text f said e is = (4294967295, subst (λ o. IsLimit o 4294967295) (ap (option_map f) (sym is) ∙ e) refl)

-- an absent value of `--profile`
pub default_profile : {S : Type 0} (text : Option S) (f : S → Text) (said : Option Text) → option_map f text ≡ said → text ≡ None → (p : Profile) × IsProfile said p
default_profile text f said e is = (one, subst (λ o. IsProfile o one) (ap (option_map f) (sym is) ∙ e) refl)

-- Each word of the value of `--features` names features.
pub said_names : {S : Type 0} (text : Option S) (f : S → Text) (said : Option Text) (s : S) → option_map f text ≡ said → text ≡ Some s → NamesAll (f s) → IfSome said NamesAll
said_names text f said s e is all = subst (λ o. IfSome o NamesAll) (ap (option_map f) (sym is) ∙ e) all
