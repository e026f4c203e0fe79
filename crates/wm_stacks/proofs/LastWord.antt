-- The operands on top that the current word shows.
use Rattle.std.proofs.Common.{ℕ, suc, ◌≡◌, ◌+◌, ◌-◌, ◌*◌, ◌/◌, ◌%◌, ◌^◌, ◌<◌, ◌≤◌, List, [], ◌∷◌, ◌++◌, Option, Some, length, drop, get_or, option_to_list, sym, refl, ap, ◌∙◌, arith}
use Rattle.wm_stacks.specs.declared.words.Kind.{Kind}
use Rattle.wm_stacks.specs.exact.Stacks.{first, rest}
use Rattle.wm_stacks.specs.exact.Words.{Kinds, ReplacesKinds, code_of, kind_of_code, kinds_in, kinds_of_word, kinds_under}
use Rattle.wm_stacks.proofs.OperandWords.{kept_word, length-standing, pushed_standing, split_standing}

-- The value of these kinds and this floor.
abbrev pub view_of : List Kind → ℕ → Kinds
view_of ks floor = record { kinds = ks; floor = floor }

abbrev pub Seen : List ℕ → ℕ → ℕ → ℕ → Kinds → Type 0
Seen ws c n floor now = view_of (kinds_in ws c n) floor ≡ now

kinds_seen : (ws : List ℕ) (c n floor : ℕ) (now : Kinds) → Seen ws c n floor now → now.kinds ≡ kinds_in ws c n
kinds_seen ws c n floor now seen = sym (ap (λ (v : Kinds). v.kinds) seen)

pub floor_seen : (ws : List ℕ) (c n floor : ℕ) (now : Kinds) → Seen ws c n floor now → floor ≡ now.floor
floor_seen ws c n floor now seen = ap (λ (v : Kinds). v.floor) seen

pub height_seen : (ws : List ℕ) (c n floor : ℕ) (now : Kinds) → Seen ws c n floor now → length now.kinds ≡ n + 32 * length ws
height_seen ws c n floor now seen = ap (λ es. length es) (kinds_seen ws c n floor now seen) ∙ length-standing ws c n

-- The top operand or the two topmost are removed, and these kinds are above the rest.
pub one_replaced : (ws : List ℕ) (c n floor : ℕ) (now : Kinds) (k : Kind) (given : Option Kind) (after : List Kind)
    → 0 < n → floor < n + 32 * length ws → Seen ws c n floor now → kind_of_code (c % 4) ≡ k
    → after ≡ option_to_list given ++ kinds_in ws (c / 4) (n - 1) → ReplacesKinds (k ∷ []) given now (view_of after floor)
one_replaced ws c n floor now k given after some above seen ok is =
    let f = floor_seen ws c n floor now seen in
    let left = kinds_in ws (c / 4) (n - 1) in (
      left,
      kinds_seen ws c n floor now seen ∙ split_standing ws c n some ∙ ap (λ j. j ∷ left) ok,
      omega (arith, f, length-standing ws (c / 4) (n - 1), above, some),
      ap (λ ks. view_of ks floor) is ∙ ap (λ i. view_of (option_to_list given ++ left) i) f,
    )

pub two_replaced : (ws : List ℕ) (c n floor : ℕ) (now : Kinds) (k l : Kind) (given : Option Kind) (after : List Kind)
    → 1 < n → floor + 1 < n + 32 * length ws → Seen ws c n floor now → kind_of_code (c % 4) ≡ k
    → kind_of_code (c / 4 % 4) ≡ l → after ≡ option_to_list given ++ kinds_in ws (c / 4 / 4) (n - 1 - 1)
    → ReplacesKinds (k ∷ l ∷ []) given now (view_of after floor)
two_replaced ws c n floor now k l given after some above seen ok ok2 is =
    let f = floor_seen ws c n floor now seen in
    let left = kinds_in ws (c / 4 / 4) (n - 1 - 1) in (
      left,
      kinds_seen ws c n floor now seen ∙ split_standing ws c n (omega (arith, some)) ∙ ap (λ j. j ∷ kinds_in ws (c / 4) (n - 1)) ok
          ∙ ap (λ es. k ∷ es) (split_standing ws (c / 4) (n - 1) (omega (arith, some)) ∙ ap (λ j. j ∷ left) ok2),
      omega (arith, f, length-standing ws (c / 4 / 4) (n - 1 - 1), above, some),
      ap (λ ks. view_of ks floor) is ∙ ap (λ i. view_of (option_to_list given ++ left) i) f,
    )

-- one operand more, in the current word
pub pushed_so : (ws : List ℕ) (c v n floor : ℕ) (now : Kinds) (e : Kind) → Seen ws c n floor now → n ≤ 31
    → v % 4 ≡ code_of e → v / 4 ≡ c % 2 ^ 62 → view_of (kinds_in ws v (n + 1)) floor ≡ view_of (e ∷ now.kinds) now.floor
pushed_so ws c v n floor now e seen few there others =
    ap (λ ks. view_of ks floor) (pushed_standing ws c v n e few there others ∙ ap (λ ks. e ∷ ks) (sym (kinds_seen ws c n floor now seen)))
    ∙ ap (λ i. view_of (e ∷ now.kinds) i) (floor_seen ws c n floor now seen)

-- the top operand
pub top_seen : (ws : List ℕ) (c n floor : ℕ) (now : Kinds) → Seen ws c n floor now → 0 < n → first now.kinds ≡ Some (kind_of_code (c % 4))
top_seen ws c n floor now seen some = ap first (kinds_seen ws c n floor now seen ∙ split_standing ws c n some)

-- the operands above a height taken away
pub cut_so : (ws : List ℕ) (c n floor : ℕ) (now : Kinds) (to k : ℕ) (after : List Kind) → Seen ws c n floor now → k ≡ n + 32 * length ws - to
    → drop k (kinds_in ws c n) ≡ after → view_of after floor ≡ view_of (drop (length now.kinds - to) now.kinds) now.floor
cut_so ws c n floor now to k after seen is dropped =
    let j : k ≡ length now.kinds - to = omega (arith, is, height_seen ws c n floor now seen) in
    ap (λ ks. view_of ks floor) (sym dropped ∙ ap (λ ks. drop k ks) (sym (kinds_seen ws c n floor now seen)) ∙ ap (λ i. drop i now.kinds) j)
    ∙ ap (λ i. view_of (drop (length now.kinds - to) now.kinds) i) (floor_seen ws c n floor now seen)

rest_dropped : (es : List Kind) (to : ℕ) → to ≡ length es - 1 → drop (length es - to) es ≡ rest es
rest_dropped [] to h = let k : 0 - to ≡ 0 = omega arith in rw k refl
rest_dropped (e ∷ es) to h = let k : length (e ∷ es) - to ≡ 1 = omega (arith, h) in ap (λ n. drop n (e ∷ es)) k

pub one_dropped : (now : Kinds) (to : ℕ) → to ≡ length now.kinds - 1
    → view_of (drop (length now.kinds - to) now.kinds) now.floor ≡ view_of (rest now.kinds) now.floor
one_dropped now to h = ap (λ ks. view_of ks now.floor) (rest_dropped now.kinds to h)

-- the rest, by the current word
pub rest_seen : (ws : List ℕ) (c n floor : ℕ) (now : Kinds) → Seen ws c n floor now → 0 < n
    → view_of (kinds_in ws (c / 4) (n - 1)) floor ≡ view_of (rest now.kinds) now.floor
rest_seen ws c n floor now seen some =
    ap (λ ks. view_of ks floor) (sym (ap rest (kinds_seen ws c n floor now seen ∙ split_standing ws c n some)))
    ∙ ap (λ i. view_of (rest now.kinds) i) (floor_seen ws c n floor now seen)

first_append : (ks ls : List Kind) (k : Kind) → first ks ≡ Some k → first (ks ++ ls) ≡ Some k
first_append [] ls k h = cc
first_append (j ∷ ks) ls k h = h

-- the current word is full and was put on the list
pub kept_seen : (ws vs : List ℕ) (c v floor : ℕ) (now : Kinds) → Seen ws c 32 floor now → vs ≡ ws ++ c ∷ [] → Seen vs v 0 floor now
kept_seen ws vs c v floor now seen is = ap (λ xs. view_of (kinds_in xs v 0) floor) is ∙ ap (λ ks. view_of ks floor) (kept_word ws c v) ∙ seen

-- The top operand if the current word has none: it is in the last word on the list.
first_of_last : (ws : List ℕ) → 0 < length ws → first (kinds_under ws) ≡ Some (kind_of_code (get_or ws (length ws - 1) 0 % 4))
first_of_last [] h = absurd (omega (arith, h))
first_of_last (w ∷ []) h = refl
first_of_last (w ∷ x ∷ ws) h =
    let k : length (x ∷ ws) - 1 ≡ length ws = omega arith in
    let j : suc (length ws) ≡ length (w ∷ x ∷ ws) - 1 = omega arith in
    first_append (kinds_under (x ∷ ws)) (kinds_of_word 32 w) (kind_of_code (get_or (x ∷ ws) (length ws) 0 % 4))
    (first_of_last (x ∷ ws) (omega arith) ∙ ap (λ i. Some (kind_of_code (get_or (x ∷ ws) i 0 % 4))) k)
    ∙ ap (λ i. Some (kind_of_code (get_or (w ∷ x ∷ ws) i 0 % 4))) j

pub first_under : (ws : List ℕ) (c n floor : ℕ) (now : Kinds) → Seen ws c n floor now → n ≡ 0 → 0 < length ws
    → first now.kinds ≡ Some (kind_of_code (get_or ws (length ws - 1) 0 % 4))
first_under ws c n floor now seen none some =
    ap first (kinds_seen ws c n floor now seen ∙ ap (λ i. kinds_in ws c i) none) ∙ first_of_last ws some
