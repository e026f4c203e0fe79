-- The definitions in heads as a plain value, without addresses.
use Rattle.wm_read.specs.declared.heads.Noted as heads
use Rattle.wm_read.specs.exact.FirstReading.{Noted}
use Rattle.wm_bodies.specs.inner.Blocks.{names_of}

abbrev pub noted_of : heads.Noted → Noted
noted_of n = record { names = names_of n.names; defined = n.defined; started = n.started }
