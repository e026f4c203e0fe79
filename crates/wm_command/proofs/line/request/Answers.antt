use Rattle.std.proofs.Common.{◌≡◌, ◌∙◌, ◌⊎◌, inl, inr, sym, subst, map, codes, List, Option}
use Rattle.std.proofs.lemmas.Result.{IfErr-weaker, IfOk-weaker}
use Rattle.std.specs.Prelude.{◌↔◌, IsTrue}
use Rattle.clap.specs.Words.{Text, app_of, first_value, found_of}
use Rattle.wm_command.proofs.LineLemmas.{Taken, refused, taken}
use Rattle.wm_command.specs.Lines.{Asks, AsksNothing, HasFeatures, IsFaultOf, IsInputs, IsLimit, IsMost, IsProfile, IsSpellings, MayWrite, NamesNoOther, Says, Stands, files_found, files_of, word_of}
use Rattle.wm_command.specs.declared.arguments.Line.{Line}
use Rattle.wm_command.specs.declared.arguments.Request.{Request}
use Rattle.wm_command.specs.declared.arguments.Request.TheVariants as request
use Rattle.wm_command.specs.declared.arguments.LineFault.{LineFault}
use Rattle.wm_command.specs.declared.arguments.LineFault.TheVariants.{Memory, Words}
use Rattle.clap.specs.declared.parser.matches.ArgMatches.{ArgMatches}
use Rattle.wm_command.proofs.line.request.Goals as goal

-- The request depends only on the values of each argument.
says_along : (word other : Text → Option Text) → ((id : Text) → word id ≡ other id) → (files : List Text) (l : Line) → Says word files l → Says other files l
says_along word other same files l says = record {
  action = sym (same (codes "ACTION")) ∙ says.action;
  profile = (
    says.profile.0,
    subst (λ o. IsProfile o says.profile.0) (same (codes "profile")) says.profile.1,
    subst (λ o. HasFeatures o says.profile.0 l.profile) (same (codes "features")) says.profile.2,
  );
  limit = subst (λ o. IsLimit o l.limit) (same (codes "limit")) says.limit;
  policy = record {
    functions = subst (λ o. IsMost o l.policy.functions) (same (codes "max-functions")) says.policy.functions;
    locals = subst (λ o. IsMost o l.policy.locals) (same (codes "max-locals")) says.policy.locals;
    depth = subst (λ o. IsMost o l.policy.depth) (same (codes "max-open")) says.policy.depth;
  };
  spellings = subst (λ o. IsSpellings o l.action l.spellings) (same (codes "old-words")) says.spellings;
  inputs = (
    subst (λ o. IsInputs o (other (codes "null")) files l.inputs) (same (codes "from"))
        (subst (λ o. IsInputs (word (codes "from")) o files l.inputs) (same (codes "null")) says.inputs.0),
    says.inputs.1,
  );
  output = sym (same (codes "output")) ∙ says.output;
  writes = subst (λ o. MayWrite o l.action) (same (codes "output")) says.writes;
  quiet = subst (λ o. IsTrue l.quiet ↔ Stands o) (same (codes "quiet")) says.quiet;
}

names_along : (word other : Text → Option Text) → ((id : Text) → word id ≡ other id) → NamesNoOther word → NamesNoOther other
names_along word other same none = (sym (same _) ∙ none.0, sym (same _) ∙ none.1)

asks_by_words : (word other : Text → Option Text) → ((id : Text) → word id ≡ other id) → (files : List Text) (r : Request) → Asks word files r → Asks other files r
asks_by_words word other same files (request.Run l) says = says_along word other same files l says
asks_by_words word other same files (request.Explain name) asks = (sym (same _) ∙ asks.0, asks.1, names_along word other same asks.2)
asks_by_words word other same files request.Help asks = (sym (same _) ∙ asks.0, asks.1, names_along word other same asks.2)
asks_by_words word other same files request.Features asks = ((asks.0.0, sym (same _) ∙ asks.0.1, asks.0.2), sym (same _) ∙ asks.1)

asks_along : (word other : Text → Option Text) → ((id : Text) → word id ≡ other id) → (files others : List Text) → files ≡ others → (r : Request) → Asks word files r
    → Asks other others r
asks_along word other same files others is r asks = subst (λ texts. Asks other texts r) is (asks_by_words word other same files r asks)

fault_along : (m : ArgMatches) (words : List Text) → Taken m words → (e : LineFault)
    → ((e ≡ Words) × AsksNothing (first_value (found_of m)) (files_found (found_of m))) ⊎ (e ≡ Memory) → IsFaultOf words e
fault_along m words parse e (inl none) =
    subst (IsFaultOf words) (sym none.0)
    (parse.accepted, λ r asks. none.1 r (asks_along (word_of words) (first_value (found_of m)) (λ id. sym (parse.word id)) (files_of words) (files_found (found_of m)) (sym parse.files) r asks))
fault_along m words parse e (inr memory) = subst (IsFaultOf words) (sym memory) tt

pub returns-in-Ok-clause-ok : goal.returns-in-Ok-clause-ok
returns-in-Ok-clause-ok g c =
    let words = map g.S.AsStr.text c.args.words.now in
    let m = c.in-Ok.matches in
    let parse = taken (app_of c.in_ok-command.field-0) m words c.in_ok-command.ensures c.in-Ok.ensures.matches c.in-Ok.ensures.kinds in
    IfOk-weaker c.read.result _ _ (λ r asks. (parse.accepted, asks_along (first_value (found_of m)) (word_of words) parse.word (files_found (found_of m)) (files_of words) parse.files r asks)) c.read.ensures.ok

pub returns-in-Ok-clause-fault : goal.returns-in-Ok-clause-fault
returns-in-Ok-clause-fault g c =
    let words = map g.S.AsStr.text c.args.words.now in
    let parse = taken (app_of c.in_ok-command.field-0) c.in-Ok.matches words c.in_ok-command.ensures c.in-Ok.ensures.matches c.in-Ok.ensures.kinds in
    IfErr-weaker c.read.result _ _ (fault_along c.in-Ok.matches words parse) c.read.ensures.fault

pub returns-in-Err-clause-fault : goal.returns-in-Err-clause-fault
returns-in-Err-clause-fault g c =
    let words = map g.S.AsStr.text c.args.words.now in
    refused (app_of c.in_ok-command.field-0) words c.in-Err.error c.in_ok-command.ensures c.in-Err.ensures.kinds
