use Rattle.std.proofs.Common.{Some, None, rules, lit<}
use Rattle.std.proofs.lemmas.Str.Pattern.{split_parts}
use Rattle.clap.proofs.CutLemmas.{slice_split-Lacks, slice_split-at}
use Rattle.wm_command.proofs.features.first_word.Goals as goal

pub returns-in-Some : goal.returns-in-Some
returns-in-Some c =
    let parts = split_parts 44 c.args.list.now (Some (c.in-Some.word, c.in-Some.rest)) c.in-Some.ensures.cases (lit< tt) in
    record {
      words = rw parts.0 (slice_split-at _ _ _ parts.1);
      shorter = search rules;
    }

pub returns-in-None : goal.returns-in-None
returns-in-None c =
    let lacks = split_parts 44 c.args.list.now None c.in-None.ensures.cases (lit< tt) in
    record {
      words = slice_split-Lacks _ _ lacks;
      shorter = tt;
    }
