use Rattle.std.proofs.Common.{take_all, rules}
use Rattle.std.proofs.hash.Loops.{byte_more}
use Rattle.wm_rules.specs.exact.Names.{hash_of}
use Rattle.wm_rules.proofs.export_names.hash_of.Goals as goal

pub loop-byte-preserved : goal.loop-byte-preserved
loop-byte-preserved c = search (rules, byte_more)

pub returns : goal.returns
unfolding hash_of
returns c = search (rules, take_all)
