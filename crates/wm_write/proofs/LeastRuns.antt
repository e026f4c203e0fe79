-- No runs of the same locals take fewer bytes than the maximal ones.
use Rattle.std.proofs.Common.{ℕ, zero, suc, ◌+◌, ◌-◌, ◌/◌, ◌≡◌, ◌<◌, ◌≤◌, List, [], ◌∷◌, ◌++◌, length, Bool, true, false, cond, refl, sym, ◌∙◌, ap, arith, length-append, inl, inr, replicate, flat_map, ◌⊎◌}
use Rattle.std.proofs.lemmas.Bool.{cases_lt}
use Rattle.wm_syntax.specs.Leb128.{unsigned_bytes}
use Rattle.wm_syntax.specs.declared.types.ValType.{ValType}
use Rattle.wm_syntax.specs.Runs.{same, type_before, runs_of}
use Rattle.wm_syntax.proofs.RunLists.{before_same}
use Rattle.wm_syntax.proofs.SameTypes.{means}
use Rattle.wm_write.specs.Canon.{u32_bytes}
use Rattle.wm_syntax.proofs.NumberLoops.{last_byte, more_bytes}
use Rattle.wm_syntax.specs.Modules.{locals_of}
use Rattle.wm_write.specs.Canon.{listed, run_bytes, value_type_bytes}

len : ℕ → ℕ → ℕ
len k n = length (unsigned_bytes k n)

len_none : (n : ℕ) → len 0 n ≡ 0
unfolding len unsigned_bytes
len_none n = refl

len_last : (k n : ℕ) → n < 128 → len (suc k) n ≡ 1
unfolding len
len_last k n h = ap length (last_byte (suc k) n (omega arith) h)

len_more : (k n : ℕ) → 128 ≤ n → len (suc k) n ≡ suc (len k (n / 128))
unfolding len
len_more k n h = ap length (more_bytes (suc k) n (omega arith) h) ∙ ap (λ (j : ℕ). suc (length (unsigned_bytes j (n / 128)))) (let e : suc k - 1 ≡ k = omega arith in e)

len_some : (k n : ℕ) → 1 ≤ len (suc k) n
len_some k n = elim (cases_lt n 128) [ inl a ↦ omega (arith, len_last k n a) | inr a ↦ omega (arith, len_more k n a) ]

-- a greater number is no shorter
rises : (k n m : ℕ) → n ≤ m → len k n ≤ len k m
rises zero n m h = omega (arith, len_none n, len_none m)
rises (suc k) n m h = elim (cases_lt n 128) [
  | inl a ↦ omega (arith, len_last k n a, len_some k m)
  | inr a ↦ let d : n / 128 ≤ m / 128 = omega arith in omega (arith, len_more k n a, len_more k m (omega arith), rises k (n / 128) (m / 128) d)
]

one_short : (k : ℕ) → len k 1 ≤ 1
one_short zero = omega (arith, len_none 1)
one_short (suc k) = omega (arith, len_last k 1 (omega arith))

-- the sum of two numbers is no longer than both of them
together : (k n m : ℕ) → len k (n + m) ≤ len k n + len k m
together zero n m = omega (arith, len_none (n + m))
together (suc k) n m = elim (cases_lt (n + m) 128) [
  | inl s ↦ omega (arith, len_last k (n + m) s, len_some k n)
  | inr s ↦ elim (cases_lt n 128) [
    | inl a ↦ elim (cases_lt m 128) [
      | inl b ↦ let q : (n + m) / 128 ≡ 1 = omega arith in omega (arith, len_more k (n + m) s, ap (len k) q, one_short k, len_some k n, len_some k m)
      | inr b ↦ let d : (n + m) / 128 ≤ m / 128 + 1 = omega arith in
          omega (arith, len_more k (n + m) s, len_last k n a, len_more k m b, rises k ((n + m) / 128) (m / 128 + 1) d, together k (m / 128) 1, one_short k)
    ]
    | inr a ↦ elim (cases_lt m 128) [
      | inl b ↦ let d : (n + m) / 128 ≤ n / 128 + 1 = omega arith in
          omega (arith, len_more k (n + m) s, len_more k n a, len_last k m b, rises k ((n + m) / 128) (n / 128 + 1) d, together k (n / 128) 1, one_short k)
      | inr b ↦ let d : (n + m) / 128 ≤ (n / 128 + m / 128) + 1 = omega arith in
          omega (arith, len_more k (n + m) s, len_more k n a, len_more k m b, rises k ((n + m) / 128) ((n / 128 + m / 128) + 1) d, together k (n / 128 + m / 128) 1, together k (n / 128) (m / 128), one_short k)
    ]
  ]
]

-- how many bytes runs have, without their count
sizes : List (ℕ × ValType) → ℕ
sizes runs = length (flat_map run_bytes runs)

size_of : (n : ℕ) (t : ValType) (runs : List (ℕ × ValType)) → sizes ((n, t) ∷ runs) ≡ (len 5 n + 1) + sizes runs
unfolding sizes len
size_of n t runs = omega (arith, length-append (u32_bytes n ++ value_type_bytes t) (flat_map run_bytes runs), length-append (u32_bytes n) (value_type_bytes t))

-- a run of a type before others of the same type, or before none of it
abbrev Joined : ℕ → ValType → List (ℕ × ValType) → List (ℕ × ValType) → Type 0
Joined n t rest runs =
    (runs ≡ (n, t) ∷ rest)
    ⊎ ((k : ℕ) × (more : List (ℕ × ValType)) × (rest ≡ (k, t) ∷ more) × (runs ≡ (k + n, t) ∷ more))

one_joined : (t : ValType) (rest : List (ℕ × ValType)) → Joined 1 t rest (type_before t rest)
one_joined t [] = inl refl
one_joined t ((k, u) ∷ more) = by (same t u) refl
  where
    by : (b : Bool) → same t u ≡ b → Joined 1 t ((k, u) ∷ more) (cond b ((k + 1, t) ∷ more) ((1, t) ∷ (k, u) ∷ more))
    by true e = inr (k, more, ap (λ z. (k, z) ∷ more) (sym (means t u e)), refl)
    by false e = inl refl

grown : (t : ValType) (n : ℕ) (more : List (ℕ × ValType)) → type_before t ((n, t) ∷ more) ≡ (n + 1, t) ∷ more
grown t n more = before_same t n more

next_joined : (n : ℕ) (t : ValType) (rest runs : List (ℕ × ValType)) → Joined n t rest runs → Joined (suc n) t rest (type_before t runs)
next_joined n t rest runs (inl e) = let s : n + 1 ≡ suc n = omega arith in inl (ap (type_before t) e ∙ grown t n rest ∙ ap (λ j. (j, t) ∷ rest) s)
next_joined n t rest runs (inr (k, more, e, f)) = let s : (k + n) + 1 ≡ k + suc n = omega arith in inr (k, more, e, ap (type_before t) f ∙ grown t (k + n) more ∙ ap (λ j. (j, t) ∷ more) s)

all_joined : (n : ℕ) (t : ValType) (ts : List ValType) → Joined (suc n) t (runs_of ts) (runs_of (replicate (suc n) t ++ ts))
all_joined zero t ts = one_joined t (runs_of ts)
all_joined (suc n) t ts = next_joined (suc n) t (runs_of ts) (runs_of (replicate (suc n) t ++ ts)) (all_joined n t ts)

joined_size : (n : ℕ) (t : ValType) (rest runs : List (ℕ × ValType)) → Joined n t rest runs → (sizes runs ≤ (len 5 n + 1) + sizes rest) × (length runs ≤ suc (length rest))
joined_size n t rest runs (inl e) = (omega (arith, ap sizes e, size_of n t rest), omega (arith, ap length e))
joined_size n t rest runs (inr (k, more, e, f)) =
    (omega (arith, ap sizes e, ap sizes f, size_of k t more, size_of (k + n) t more, together 5 k n), omega (arith, ap length e, ap length f))

front_size : (n : ℕ) (t : ValType) (ts : List ValType) → (sizes (runs_of (replicate n t ++ ts)) ≤ (len 5 n + 1) + sizes (runs_of ts)) × (length (runs_of (replicate n t ++ ts)) ≤ suc (length (runs_of ts)))
front_size zero t ts = (omega arith, omega arith)
front_size (suc n) t ts = joined_size (suc n) t (runs_of ts) (runs_of (replicate (suc n) t ++ ts)) (all_joined n t ts)

-- the maximal runs are no longer than any runs of the same types
least_runs : (runs : List (ℕ × ValType)) → (sizes (runs_of (locals_of runs)) ≤ sizes runs) × (length (runs_of (locals_of runs)) ≤ length runs)
least_runs [] = (omega arith, omega arith)
least_runs (r ∷ runs) =
    let h = least_runs runs in
    let f = front_size r.0 r.1 (locals_of runs) in
    (omega (arith, h.0, f.0, size_of r.0 r.1 runs), omega (arith, h.1, f.1))

pub number_rises : (n m : ℕ) → n ≤ m → length (u32_bytes n) ≤ length (u32_bytes m)
unfolding len
number_rises n m h = rises 5 n m h

pub least_locals : (runs : List (ℕ × ValType)) → length (listed run_bytes (runs_of (locals_of runs))) ≤ length (listed run_bytes runs)
unfolding sizes
least_locals runs =
    let h = least_runs runs in
    let best = runs_of (locals_of runs) in
    omega (arith, h.0, number_rises (length best) (length runs) h.1, length-append (u32_bytes (length best)) (flat_map run_bytes best), length-append (u32_bytes (length runs)) (flat_map run_bytes runs))
