-- The result of a value reader after one byte, beside the bytes that spell the value.
use Rattle.std.specs.Prelude.{◌≡◌, ℕ, []}
use Rattle.wm_syntax.specs.Spelling.{Form}
use Rattle.wm_machine.specs.declared.step.reading.Reading.{Reading}
use Rattle.wm_machine.specs.declared.step.reading.Reading.TheVariants.{More, Done, Bad}

-- the bytes `more` complete the spelling of x
abbrev pub Goes : {R X : Type 0} → (R → X → Form ℕ) → Reading R X → X → Form ℕ
Goes rest (More s) x more = rest s x more
Goes rest (Done v) x more = (x ≡ v) × (more ≡ [])
Goes rest (Bad w) x more = ⊥
