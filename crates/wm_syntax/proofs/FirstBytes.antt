-- The class of a byte under a profile, by the table of instructions.
use Rattle.std.proofs.Common.{◌≡◌, ℕ, ◌+◌, ◌<◌, ◌≤◌, Bool, true, false, IsTrue, ◌&&◌, ◌||◌, nat_lt, List, [], ◌∷◌, inl, inr, arith, Option, Some, slice_get, refl, sym, ap, ◌∙◌, subst}
use Rattle.std.specs.Prelude.{None as Nothing, map, nat_le, option_map}
use Rattle.std.specs.List.{list_all, list_any}
use Rattle.std.proofs.lemmas.Bool.{and_parts, leb-true, ltb-false, ltb-true, or_cases}
use Rattle.std.proofs.lemmas.Option.{slice_get-map, slice_get_past}
use Rattle.wm_syntax.specs.declared.instructions.Op.{Op}
use Rattle.wm_syntax.specs.declared.instructions.op_class.OpClass.{OpClass}
use Rattle.wm_syntax.specs.declared.instructions.op_class.OpClass.TheVariants.{Float, None}
use Rattle.wm_syntax.specs.declared.profile.Profile.{Profile}
use Rattle.wm_syntax.specs.OpClasses.{class_of, code, float_codes, is_float, IsClassOfOp}
use Rattle.wm_syntax.specs.exact.ByteTable.{classes, features, class_feature, class_in, row_in, class_under}
use Rattle.wm_syntax.specs.Profiles.{IsOpOf, has, has_prefix}
use Rattle.wm_syntax.specs.declared.profile.Feature.{Feature}
use Rattle.wm_syntax.specs.declared.profile.Feature.TheVariants.{BulkMemory, Copies, Floats, Saturation}
use Rattle.wm_syntax.specs.declared.instructions.Op.TheVariants as op
use Rattle.wm_syntax.specs.declared.instructions.Simple.TheVariants as s
use Rattle.wm_syntax.specs.declared.instructions.Numeric.TheVariants.{Saturate}
use Rattle.wm_syntax.specs.declared.instructions.Saturation.TheVariants as sat
use Rattle.wm_syntax.proofs.OpTable.{behind_at, behind_features, found_in, has_class, begins_in, float_in, float_never}
use Rattle.wm_syntax.proofs.OneInstruction.{class_there}

-- The features of the rows are those of their classes.
features_are : features ≡ map class_feature classes
features_are = refl

pub feature_there : (byte : ℕ) (c : OpClass) (f : Feature) → slice_get classes byte ≡ Some c → slice_get features byte ≡ Some f → f ≡ class_feature c
feature_there byte c f e h =
    let there : Some f ≡ Some (class_feature c) =
    sym h ∙ ap (λ fs. slice_get fs byte) features_are ∙ slice_get-map class_feature classes byte ∙ ap (option_map class_feature) e in
    cc

pub row_under : (p : Profile) (byte : ℕ) (c : OpClass) → slice_get classes byte ≡ Some c → class_in p c ≡ class_under p byte
unfolding class_under
row_under p byte c e = ap (row_in p) (sym e)

-- Each op of the profile that begins with the byte has this class.
pub found_under : (p : Profile) (byte : ℕ) (o : Op) → code o ≡ Some byte → IsOpOf p o → class_under p byte ≡ class_of o
found_under p byte o f i =
    let e : slice_get classes byte ≡ Some (class_of o) = class_there o byte f in
    sym (row_under p byte (class_of o) e) ∙ found_in p byte (class_of o) e o f i

-- A class of an op is that of an op of the profile which begins with the byte.
pub begins_under : (p : Profile) (byte : ℕ) → IsClassOfOp (class_under p byte) → (o : Op) × (code o ≡ Some byte) × IsOpOf p o × (class_of o ≡ class_under p byte)
unfolding class_under
begins_under p byte f = go (slice_get classes byte) refl f
  where
    go : (row : Option OpClass) → slice_get classes byte ≡ row → IsClassOfOp (row_in p row) → (o : Op) × (code o ≡ Some byte) × IsOpOf p o × (class_of o ≡ row_in p row)
    go (Some c) e f = begins_in p byte c e f
    go Nothing e f = absurd f

pub float_under : (p : Profile) (byte : ℕ) → class_under p byte ≡ Float → is_float byte ≡ true
unfolding class_under
float_under p byte f = go (slice_get classes byte) refl f
  where
    go : (row : Option OpClass) → slice_get classes byte ≡ row → row_in p row ≡ Float → is_float byte ≡ true
    go (Some c) e f = of (has p Floats) refl
      where
        of : (b : Bool) → has p Floats ≡ b → is_float byte ≡ true
        of true h = absurd (float_never p byte c e h f)
        of false h = (float_in p byte c e h).0 f
    go Nothing e f = cc

-- If the profile has floats, no byte has the class Float.
pub no_float_under : (p : Profile) (byte : ℕ) → has p Floats ≡ true → class_under p byte ≡ Float → ⊥
unfolding class_under
no_float_under p byte h f = go (slice_get classes byte) refl f
  where
    go : (row : Option OpClass) → slice_get classes byte ≡ row → row_in p row ≡ Float → ⊥
    go (Some c) e f = float_never p byte c e h f
    go Nothing e f = cc

pub float_lacks : (p : Profile) (byte : ℕ) → class_under p byte ≡ Float → has p Floats ≡ false
float_lacks p byte f = of (has p Floats) refl
  where
    of : (b : Bool) → has p Floats ≡ b → b ≡ false
    of true h = absurd (no_float_under p byte h f)
    of false h = refl

-- past the table there is no op
pub none_under : (p : Profile) (c : ℕ) → 0x10F ≤ c → None ≡ class_under p c
unfolding class_under
none_under p c l = ap (row_in p) (sym (slice_get_past classes c l))

-- The clauses of an answer behind the prefix.
any_below : (rs : List (ℕ × ℕ)) (b top : ℕ) → list_all (λ (r : ℕ × ℕ). nat_lt r.1 top) rs ≡ true → list_any (λ (r : ℕ × ℕ). nat_le r.0 b && nat_le b r.1) rs ≡ true → b < top
any_below [] b top all e = cc
any_below (r ∷ rs) b top all e =
    let small = and_parts (nat_lt r.1 top) (list_all (λ (r : ℕ × ℕ). nat_lt r.1 top) rs) all in
    elim (or_cases (nat_le r.0 b && nat_le b r.1) (list_any (λ (r : ℕ × ℕ). nat_le r.0 b && nat_le b r.1) rs) e) [
      | inl f ↦ (let high = leb-true b r.1 (and_parts (nat_le r.0 b) (nat_le b r.1) f).1 in omega (arith, high, ltb-true r.1 top small.0))
      | inr f ↦ any_below rs b top small.1 f
    ]

no_float_behind : (n : ℕ) → is_float (0x100 + n) ≡ true → ⊥
no_float_behind n e = omega (arith, any_below float_codes (0x100 + n) 0x100 refl e)

pub behind_no_float : (p : Profile) (n : ℕ) → class_under p (0x100 + n) ≡ Float → ⊥
behind_no_float p n e = no_float_behind n (float_under p (0x100 + n) e)

pub behind_says : (p : Profile) (n : ℕ) (c : OpClass) → c ≡ class_under p (0x100 + n)
    → ((o : Op) → code o ≡ Some (0x100 + n) → IsOpOf p o → c ≡ class_of o)
    × (IsClassOfOp c → (o : Op) × (code o ≡ Some (0x100 + n)) × IsOpOf p o × (class_of o ≡ c))
    × (c ≡ Float → ⊥)
    × (c ≡ class_under p (0x100 + n))
behind_says p n c e = (
  (λ o f i. e ∙ found_under p (0x100 + n) o f i),
  (λ h. only (begins_under p (0x100 + n) (subst IsClassOfOp e h))),
  (λ f. behind_no_float p n (sym e ∙ f)),
  e,
)
  where
    only : (o : Op) × (code o ≡ Some (0x100 + n)) × IsOpOf p o × (class_of o ≡ class_under p (0x100 + n)) → (o : Op) × (code o ≡ Some (0x100 + n)) × IsOpOf p o × (class_of o ≡ c)
    only (o, f, i, q) = (o, f, i, q ∙ sym e)

-- An op of the profile whose code is behind the prefix: the profile has one of the three features.
pub prefix_of : (p : Profile) (o : Op) (x : ℕ) → code o ≡ Some x → 0x100 ≤ x → IsOpOf p o → IsTrue (has_prefix p)
prefix_of p o x f l h =
    let own = has_class p o h in
    elim (behind_features (class_feature (class_of o)) (behind_at x o (class_there o x f) l)) [
      | inl e ↦ ap (λ (b : Bool). b || (has p Copies || has p BulkMemory)) (ap (has p) (sym e) ∙ own)
      | inr (inl e) ↦ or_right (has p Saturation) _ (ap (λ (b : Bool). b || has p BulkMemory) (ap (has p) (sym e) ∙ own))
      | inr (inr e) ↦ or_right (has p Saturation) _ (or_right (has p Copies) _ (ap (has p) (sym e) ∙ own))
    ]
  where
    or_right : (a b : Bool) → b ≡ true → (a || b) ≡ true
    or_right true b e = refl
    or_right false b e = e

-- With one of them, there is such an op.
pub some_behind : (p : Profile) → IsTrue (has_prefix p) → (o : Op) × (n : ℕ) × (code o ≡ Some (0x100 + n)) × IsOpOf p o × (n < 0x80)
some_behind p h = elim (or_cases (has p Saturation) (has p Copies || has p BulkMemory) h) [
  | inl k ↦ (op.Simple (s.Numeric (Saturate sat.I32TruncSatF32S)), 0, refl, k, omega arith)
  | inr k ↦ elim (or_cases (has p Copies) (has p BulkMemory) k) [
    | inl c ↦ (op.Simple s.MemoryFill, 11, refl, c, omega arith)
    | inr b ↦ (op.Simple (s.DataDrop 0), 9, refl, b, omega arith)
  ]
]

-- The table ends behind the prefix.
pub behind_small : (p : Profile) (n : ℕ) (o : Op) → code o ≡ Some (0x100 + n) → IsOpOf p o → n < 15
behind_small p n o f h = by (nat_lt n 15) refl
  where
    by : (b : Bool) → nat_lt n 15 ≡ b → n < 15
    by true e = ltb-true n 15 e
    by false e =
        let l : 15 ≤ n = ltb-false n 15 e in
        let there = class_there o (0x100 + n) f in
        let past = slice_get_past classes (0x100 + n) (omega (arith, l)) in
        absurd (let q : Some (class_of o) ≡ Nothing = sym there ∙ past in cc)
