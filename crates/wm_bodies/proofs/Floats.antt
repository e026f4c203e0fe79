-- Float constants are read exactly as tokens write them.
use Rattle.std.proofs.Common.{◌≡◌, ℕ, ◌^◌, ◌<◌, List, Some, sym}
use Rattle.wm_syntax.specs.declared.instructions.FloatType.{FloatType}
use Rattle.wm_syntax.specs.declared.instructions.FloatType.TheVariants as float
use Rattle.wm_floats.specs.FloatText.{IsFloat}
use Rattle.wm_floats.specs.exact.Atoms.{float_of}
use Rattle.wm_floats.proofs.Ranges.{float_small}
use Rattle.wm_floats.proofs.Written.{float_found, float_more}
use Rattle.wm_tokens.specs.Written.{WritesFloat}
use Rattle.wm_bodies.specs.exact.Reading.{atom_at}
use Rattle.wm_bodies.proofs.Readers.{Sound, Complete, Any, atom_sound, atom_complete}

pub float_sound : (w : FloatType) → Sound (atom_at (float_of w)) (WritesFloat w)
float_sound w = atom_sound (float_of w) (λ bits a. IsFloat w bits a) (λ a bits e. float_found w bits a e)

pub float_complete : (w : FloatType) → Complete (atom_at (float_of w)) (WritesFloat w) Any
float_complete w = atom_complete (float_of w) (λ bits a. IsFloat w bits a) (λ a bits h. float_more w bits a h)

-- the bits of an f32 are a word
pub word_small : (a : List ℕ) (bits : ℕ) → Some bits ≡ float_of float.F32 a → bits < 2 ^ 32
word_small a bits e = float_small float.F32 a bits (sym e)

pub ruleset word_laws = (word_small)
