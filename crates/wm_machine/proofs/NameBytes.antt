-- UTF-8 consists of bytes.
use Rattle.std.proofs.Common.{◌≡◌, ℕ, ◌/◌, ◌<◌, ◌^◌, true, List, [], ◌∷◌, subst, inl, inr, arith, lt-ltb, le-ltb}
use Rattle.std.proofs.lemmas.Bool.{cases_lt, and_parts}
use Rattle.std.specs.Str.{IsUtf8}
use lib.Utf8.{scalar, scalars, encode, encodes, next, scalar_cases}
use Rattle.wm_syntax.specs.Spelling.{AreBytes}
use Rattle.wm_machine.proofs.ByteLists.{bytes-append}

below : (c : ℕ) → scalar c ≡ true → c < 1114112
below c ok = elim (scalar_cases c ok) [ inl a ↦ omega arith | inr a ↦ a.1 ]

next_byte : (c : ℕ) → next c < 2 ^ 8
next_byte c = omega arith

character_bytes : (c : ℕ) → scalar c ≡ true → AreBytes (encode c)
unfolding encode
character_bytes c ok =
    let range = below c ok in
    elim (cases_lt c 128) [
      | inl a ↦ rw (lt-ltb c 128 a) (omega arith, tt)
      | inr a ↦ elim (cases_lt c 2048) [
        | inl b ↦ rw (le-ltb c 128 a, lt-ltb c 2048 b) (omega arith, (next_byte c, tt))
        | inr b ↦ elim (cases_lt c 65536) [
          | inl d ↦ rw (le-ltb c 128 (omega arith), le-ltb c 2048 b, lt-ltb c 65536 d) (omega arith, (next_byte (c / 64), (next_byte c, tt)))
          | inr d ↦ rw (le-ltb c 128 (omega arith), le-ltb c 2048 (omega arith), le-ltb c 65536 d) (omega arith, (next_byte (c / 4096), (next_byte (c / 64), (next_byte c, tt))))
        ]
      ]
    ]

characters_bytes : (cs : List ℕ) → scalars cs ≡ true → AreBytes (encodes cs)
characters_bytes [] ok = tt
characters_bytes (c ∷ cs) ok = let p = and_parts (scalar c) (scalars cs) ok in bytes-append (encode c) (encodes cs) (character_bytes c p.0) (characters_bytes cs p.1)

pub utf8_bytes : (b : List ℕ) → IsUtf8 b → AreBytes b
utf8_bytes b u = subst AreBytes u.1.1 (characters_bytes u.0 u.1.0)
