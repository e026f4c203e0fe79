-- Value types differ by their bytes, and so do block types.
use Rattle.std.proofs.Common.{ℕ, ◌≡◌, Bool, true, false, Option, None, Some, refl, sym, ap, ◌∙◌, arith}
use Rattle.std.specs.Prelude.{◌==◌, if◌then◌else◌}
use Rattle.std.proofs.lemmas.Bool.Decides.{nat_tests}
use Rattle.wm_syntax.specs.declared.types.ValType.{ValType}
use Rattle.wm_syntax.specs.declared.types.ValType.TheVariants.{I32, I64, F32, F64}
use Rattle.wm_syntax.specs.Types.{block_byte, type_byte}
use Rattle.wm_syntax.specs.Runs.{same}

-- the type of a byte, and I32 of every other
abbrev type_at : ℕ → ValType
type_at b = if b == 0x7E then I64 else if b == 0x7D then F32 else if b == 0x7C then F64 else I32

back : (t : ValType) → type_at (type_byte t) ≡ t
back I32 = refl
back I64 = refl
back F32 = refl
back F64 = refl

pub byte_tells : (t u : ValType) → type_byte t ≡ type_byte u → t ≡ u
byte_tells t u e = sym (back t) ∙ ap type_at e ∙ back u

pub reflexive : (t : ValType) → same t t ≡ true
reflexive I32 = refl
reflexive I64 = refl
reflexive F32 = refl
reflexive F64 = refl

pub means : (t u : ValType) → same t u ≡ true → t ≡ u
means t u e = byte_tells t u (bytes_same (type_byte t) (type_byte u) e)
  where
    bytes_same : (a b : ℕ) → (a == b) ≡ true → a ≡ b
    bytes_same a b e = grind (arith, nat_tests)

pub differ : (t u : ValType) → (t ≡ u → ⊥) → same t u ≡ false
differ t u n = of (same t u) refl
  where
    of : (b : Bool) → same t u ≡ b → b ≡ false
    of true e = absurd (n (means t u e))
    of false e = refl

-- Block types differ by their bytes too (Core spec 5.3.2).
no_type : (t : ValType) → 0x40 ≡ type_byte t → ⊥
no_type I32 e = absurd (omega (arith, e))
no_type I64 e = absurd (omega (arith, e))
no_type F32 e = absurd (omega (arith, e))
no_type F64 e = absurd (omega (arith, e))

pub block_tells : (t u : Option ValType) → block_byte t ≡ block_byte u → t ≡ u
block_tells None None e = refl
block_tells None (Some u) e = absurd (no_type u e)
block_tells (Some t) None e = absurd (no_type t (sym e))
block_tells (Some t) (Some u) e = ap Some (byte_tells t u e)
