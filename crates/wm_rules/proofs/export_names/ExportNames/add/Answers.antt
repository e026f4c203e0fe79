use Rattle.std.proofs.Common.{length}
use Rattle.wm_rules.specs.Kept.{name_entries}
use Rattle.wm_rules.specs.exact.Names.{bytes_of}
use Rattle.wm_rules.proofs.NewNames.{capped_more, names_more}
use Rattle.wm_rules.proofs.export_names.ExportNames.add.Goals as goal

pub invariant_of-self-2 : goal.invariant_of-self-2
invariant_of-self-2 c = (
  capped_more c.self.inside.kept (name_entries (bytes_of c.self.inside.names)) (name_entries (bytes_of c.put.new.names)) (length c.args.name.now) c.saturating_add-self-inside.result c.self.invariant.0
      (names_more c.args.name.now (bytes_of c.self.inside.names) (bytes_of c.put.new.names) c.in_ok-put.ensures.taken)
      (rw (← c.saturating_add.ensures) c.saturating_add-self-inside.ensures),
  c.in_ok-put.ensures.hashed,
)
