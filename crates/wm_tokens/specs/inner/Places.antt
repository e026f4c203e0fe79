-- The offset of the first lexical error, as the code finds it.
use Rattle.std.specs.Prelude.{◌≡◌, ℕ, ◌+◌, ◌⊎◌, List, Bool, true, false, length}
use Rattle.wm_tokens.specs.Tokens.{Token, atom}
use Rattle.wm_tokens.specs.TokenFaults.{IsAmong, IsPlace}
use Rattle.wm_tokens.specs.exact.Scan.{ahead, told, no_more, blank, first}
use Rattle.wm_tokens.specs.exact.Scan as scan
use Rattle.wm_tokens.specs.declared.faults.TextRefusal.{TextRefusal}

-- White space and tokens lead from the first text to the second, one at a time.
pub data Steps : Bool → List ℕ → List ℕ → Type 0 where
  here : {floats : Bool} {b : List ℕ} → Steps floats b b
  over_blank : {floats : Bool} {b r s : List ℕ} → Steps floats b r → blank s ≡ ahead r → Steps floats b s
  over_token : {floats : Bool} {b r s : List ℕ} {t : Token} → Steps floats b r → first t s ≡ ahead r
      → IsAmong floats t → Steps floats b s

-- This is the first lexical error, with floats, if the text is UTF-8.
abbrev pub IsFault : List ℕ → TextRefusal → Type 0
IsFault text fault = (rest : List ℕ) × Steps true text rest × (scan.fault ≡ ahead rest)
    × (fault.why ≡ told rest) × IsPlace fault.why text rest fault.at

-- The first atom that is a token only as a float begins at this offset.
abbrev pub IsFloat : List ℕ → ℕ → Type 0
IsFloat text at = (rest more a : List ℕ) × Steps false text rest × (first (atom a) more ≡ ahead rest)
    × (IsAmong false (atom a) → ⊥) × (at + length rest ≡ length text)

-- There is no such atom before the first lexical error, or before the end.
abbrev pub HasNoFloat : List ℕ → Type 0
HasNoFloat text = (rest : List ℕ) × Steps false text rest
    × ((no_more ≡ ahead rest) ⊎ (scan.fault ≡ ahead rest))
