-- The reader or the writer that is wrapped, and whether a call has failed.
use Rattle.std.specs.Prelude.{Bool}
use Rattle.wm_syntax.specs.declared.io.input.Input.{Input}
use Rattle.wm_syntax.specs.declared.io.output.Output.{Output}

module _ {R : Type 0} where
  abbrev pub input_inner : Input R → R
  input_inner s = s.inner

  abbrev pub input_failed : Input R → Bool
  input_failed s = s.failed

module _ {W : Type 0} where
  abbrev pub output_inner : Output W → W
  output_inner s = s.inner

  abbrev pub output_failed : Output W → Bool
  output_failed s = s.failed
