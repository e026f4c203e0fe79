-- The known locals after one more is noted, and after a search.
use Rattle.std.proofs.Common.{ℕ, ◌≡◌, ◌-◌, ◌*◌, ◌%◌, ◌^◌, ◌<◌, ◌≤◌, ◌⊎◌, List, [], Some, inl, inr, ap, sym, ◌∙◌, subst, arith, w64, bit_and, bit_or}
use Rattle.std.specs.Int.{bit_at}
use Rattle.std.specs.Prelude.{slice_get}
use Rattle.std.proofs.Math.Nat.{max-eq_left}
use Rattle.std.proofs.lemmas.Bool.{cases_eq}
use Rattle.std.proofs.lemmas.Nat.Bits.{bit_at_set_same, bit_at_set_other, bit_at_clear_same, bit_at_clear_other}
use Rattle.wm_syntax.specs.declared.types.ValType.{ValType}
use Rattle.wm_syntax.specs.declared.types.ValType.TheVariants.{I32, I64}
use Rattle.wm_stacks.specs.Probes.{probes_for}
use Rattle.wm_typing.specs.declared.known_locals.KnownLocals.{KnownLocals}
use Rattle.wm_typing.specs.inner.DeclaredLocals.{Knows, Declared, type_of_bit, with_probes}

-- the bit of a local
abbrev pub bit : ℕ → ℕ
bit x = 1 * 2 ^ x % 18446744073709551616

-- the word with that bit, and without it
abbrev pub set : ℕ → ℕ → ℕ
set w x = bit_or w (bit x)

abbrev pub clear : ℕ → ℕ → ℕ
clear w x = bit_and w (18446744073709551615 - bit x)

abbrev pub known_so : ℕ → ℕ → KnownLocals
known_so known wide = record { known = known; wide = wide }

pub narrow_noted : (known wide x i : ℕ) (t ty : ValType) → x < 64 → ty ≡ I32 → Knows (known_so (set known x) (clear wide x)) i t
    → Knows (known_so known wide) i t ⊎ ((i ≡ x) × (t ≡ ty))
narrow_noted known wide x i t ty h y k =
    elim (cases_eq i x) [
      | inl e ↦ inr (e, k.ty ∙ ap (λ j. type_of_bit (bit_at (clear wide x) j)) e ∙ ap type_of_bit (bit_at_clear_same w64 wide x h) ∙ sym y)
      | inr n ↦ inl (record {
        first = k.first;
        noted = sym (bit_at_set_other w64 known x h i n) ∙ k.noted;
        ty = k.ty ∙ ap type_of_bit (bit_at_clear_other w64 wide x h i k.first n);
      })
    ]

pub wide_noted : (known wide x i : ℕ) (t ty : ValType) → x < 64 → ty ≡ I64 → Knows (known_so (set known x) (set wide x)) i t
    → Knows (known_so known wide) i t ⊎ ((i ≡ x) × (t ≡ ty))
wide_noted known wide x i t ty h y k =
    elim (cases_eq i x) [
      | inl e ↦ inr (e, k.ty ∙ ap (λ j. type_of_bit (bit_at (set wide x) j)) e ∙ ap type_of_bit (bit_at_set_same w64 wide x h) ∙ sym y)
      | inr n ↦ inl (record {
        first = k.first;
        noted = sym (bit_at_set_other w64 known x h i n) ∙ k.noted;
        ty = k.ty ∙ ap type_of_bit (bit_at_set_other w64 wide x h i n);
      })
    ]

-- what is said of the locals that are known
abbrev pub AreFound : KnownLocals → List ValType → ℕ → Type 0
AreFound k types n = (i : ℕ) (t : ValType) → Knows k i t → (slice_get types i ≡ Some t) × (probes_for types i ≤ n)

-- it goes on where searches may have read more, and where one more is noted that was found
pub found_within : (k : KnownLocals) (types : List ValType) (m n : ℕ) → AreFound k types m → m ≤ n → AreFound k types n
found_within k types m n f h i t s = let p = f i t s in (p.0, omega (arith, p.1, h))

pub found_more : (k l : KnownLocals) (types : List ValType) (n x : ℕ) (ty : ValType) → AreFound k types n
    → ((i : ℕ) (t : ValType) → Knows l i t → Knows k i t ⊎ ((i ≡ x) × (t ≡ ty)))
    → slice_get types x ≡ Some ty → probes_for types x ≤ n → AreFound l types n
found_more k l types n x ty f g e h i t s =
    elim (g i t s) [
      | inl a ↦ f i t a
      | inr b ↦ (
        ap (λ j. slice_get types j) b.0 ∙ e ∙ ap (λ u. Some u) (sym b.1),
        subst (λ j. probes_for types j ≤ n) (sym b.0) h,
      )
    ]

-- nothing was found where there are no locals
pub none_found : (k : KnownLocals) (types : List ValType) (m n : ℕ) → AreFound k types m → types ≡ [] → AreFound k types n
none_found k types m n f e i t s =
    let g : slice_get [] i ≡ Some t = ap (λ ts. slice_get ts i) (sym e) ∙ (f i t s).0 in
    absurd (nothing i t g)
  where
    nothing : (i : ℕ) (t : ValType) → slice_get [] i ≡ Some t → ⊥
    nothing i t g = cc

-- a search that was made before reads no more than is counted
pub searched_before : (d : Declared) (n : ℕ) → n ≤ d.probes → d ≡ with_probes n d
searched_before d n h = ap (λ m. let z : Declared = record { types = d.types; probes = m } in z) (sym (max-eq_left h))
