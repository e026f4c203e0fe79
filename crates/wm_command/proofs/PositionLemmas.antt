-- Lemmas about the line of an offset: where it begins, and how the line feeds before it are counted.
use Rattle.std.proofs.Common.{◌≡◌, ◌<◌, ◌∙◌, ℕ, ◌+◌, ◌==◌, ◌||◌, Bool, false, List, [], ◌∷◌, ◌++◌, ap, arith, cond, drop, get_or, length, length-append, refl, subst, sym, take, ◌≤◌, ◌-◌}
use Rattle.std.specs.List.{filter, list_any}
use Rattle.std.proofs.Math.Seq.{take-length}
use Rattle.std.proofs.lemmas.List.{drop-drop, drop_more, length-drop, take-append-drop}
use Rattle.std.proofs.lemmas.List.Elements.{filter-append}
use Rattle.std.proofs.lemmas.List.Folds.{list_any-append}
use Rattle.wm_command.specs.Refused.{behind_last}

-- The bytes that pass a test, before and after an offset, are all such bytes.
pub count_parts : (test : ℕ → Bool) (n : ℕ) (bytes : List ℕ) → length (filter test (take n bytes)) + length (filter test (drop n bytes)) ≡ length (filter test bytes)
count_parts test n bytes =
    sym (length-append (filter test (take n bytes)) (filter test (drop n bytes))) ∙ ap length (sym (filter-append test (take n bytes) (drop n bytes))) ∙ ap (λ z. length (filter test z)) (take-append-drop n bytes)

-- Without a c, the bytes after the last c are all bytes.
pub behind_none : (c : ℕ) (xs : List ℕ) → list_any (λ y. y == c) xs ≡ false → behind_last c xs ≡ xs
behind_none c [] is = refl
behind_none c (x ∷ xs) is = ap (λ b. cond b (behind_last c xs) (x ∷ xs)) is

-- The bytes after a c, if no other c follows, are those after the last c.
pub behind_found : (c : ℕ) (xs ys : List ℕ) → list_any (λ y. y == c) ys ≡ false → behind_last c (xs ++ c ∷ ys) ≡ ys
behind_found c [] ys none = grind (arith, behind_none c ys none)
behind_found c (x ∷ xs) ys none = grind (arith, list_any-append (λ y. y == c) xs (c ∷ ys), behind_found c xs ys none)

last_part : (bytes : List ℕ) (i : ℕ) → i < length bytes → get_or bytes i 0 ≡ 10 → list_any (λ y. y == 10) (drop (i + 1) bytes) ≡ false → behind_last 10 bytes ≡ drop (i + 1) bytes
last_part bytes i lt is none =
    let rest = drop (i + 1) bytes in
    let whole : take i bytes ++ 10 ∷ rest ≡ bytes =
    ap (λ z. take i bytes ++ z ∷ rest) (sym is) ∙ ap (λ z. take i bytes ++ z) (sym (drop_more bytes i 0 lt)) ∙ take-append-drop i bytes
    in ap (behind_last 10) (sym whole) ∙ behind_found 10 (take i bytes) rest none

-- The last line begins after the line feed before it.
pub line_begins : (bytes : List ℕ) (from i : ℕ) → i + 1 ≡ from → from ≤ length bytes → get_or bytes i 0 ≡ 10 → list_any (λ y. y == 10) (drop from bytes) ≡ false
    → behind_last 10 bytes ≡ drop from bytes
line_begins bytes from i e le is =
    subst (λ n. list_any (λ y. y == 10) (drop n bytes) ≡ false → behind_last 10 bytes ≡ drop n bytes) e (last_part bytes i (omega (arith, e, le)) is)

-- The rest of a list, by its length, is the last line.
pub rest_line : (bytes : List ℕ) (from : ℕ) → behind_last 10 bytes ≡ drop from bytes → take (length bytes - from) (drop from bytes) ≡ behind_last 10 bytes
rest_line bytes from is = ap (λ n. take n (drop from bytes)) (sym (length-drop from bytes)) ∙ take-length (drop from bytes) ∙ sym is

-- A list without line feeds is one line.
pub only_line : (bytes : List ℕ) (from : ℕ) → from ≤ 0 → list_any (λ y. y == 10) (drop from bytes) ≡ false → behind_last 10 bytes ≡ drop from bytes
only_line bytes from le = subst (λ n. list_any (λ y. y == 10) (drop n bytes) ≡ false → behind_last 10 bytes ≡ drop n bytes) (zero_is from le) (behind_none 10 bytes) where
  zero_is : (n : ℕ) → n ≤ 0 → 0 ≡ n
  zero_is n le = omega (arith, le)

-- Bytes of which none is counted have none that passes the test.
none_counted : (test : ℕ → Bool) (xs : List ℕ) → length (filter test xs) ≡ 0 → list_any test xs ≡ false
none_counted test [] is = refl
none_counted test (x ∷ xs) is = grind (arith, none_counted test xs)

span_joined : (test : ℕ → Bool) (bytes : List ℕ) (n m : ℕ) → length (filter test (take n (drop m bytes))) ≡ 0 → list_any test (drop (m + n) bytes) ≡ false
    → list_any test (drop m bytes) ≡ false
span_joined test bytes n m counted none =
    ap (list_any test) (sym (take-append-drop n (drop m bytes))) ∙ list_any-append test (take n (drop m bytes)) (drop n (drop m bytes))
    ∙ ap (λ b. b || list_any test (drop n (drop m bytes))) (none_counted test (take n (drop m bytes)) counted)
    ∙ ap (list_any test) (drop-drop n m bytes) ∙ none

-- A span of which no byte is counted is passed over: what nothing follows behind it, nothing follows before it.
pub span_passed : (test : ℕ → Bool) (bytes : List ℕ) (m from : ℕ) → m ≤ from → length (filter test (take (from - m) (drop m bytes))) ≡ 0
    → list_any test (drop from bytes) ≡ false → list_any test (drop m bytes) ≡ false
span_passed test bytes m from le counted none =
    span_joined test bytes (from - m) m counted (ap (λ z. list_any test (drop z bytes)) (omega (arith, le)) ∙ none)
