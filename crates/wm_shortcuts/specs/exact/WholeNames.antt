-- Exact answers about names and export kinds that lie in a piece.
use Rattle.std.specs.Prelude.{◌≡◌, ℕ, ◌+◌, ◌^◌, ◌<◌, List, slice_index}
use Rattle.wm_syntax.specs.exact.Reading.{fresh}
use Rattle.wm_syntax.specs.declared.modules.ExportKind.{ExportKind}
use Rattle.wm_machine.specs.declared.step.reading.Reading.TheVariants.{More}
use Rattle.wm_machine.specs.declared.step.values.InExportDesc.TheVariants as target
use Rattle.wm_machine.specs.exact.ValueSteps.{target_kind_step}

-- a name of 1 to 127 bytes, with its length in one byte, lies from `from` up to `stop`
pub record NameLies (bytes : List ℕ) (from stop : ℕ) : Type 0 where
  pub some : from + 1 < stop
  pub size : stop ≡ from + 1 + slice_index bytes from
  pub short : slice_index bytes from < 2 ^ 7

-- the byte stands for this kind of export
abbrev pub IsKindByte : ℕ → ExportKind → Type 0
IsKindByte c kind = target_kind_step c ≡ More (target.Index kind fresh)
