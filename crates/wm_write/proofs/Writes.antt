-- Writing bytes piece by piece.
use Rattle.std.proofs.Common.{◌≡◌, ℕ, zero, suc, ◌+◌, ◌^◌, ◌≤◌, ◌<◌, Bool, true, false, List, [], ◌∷◌, ◌++◌, length, take, flat_map, refl, sym, ap, ◌∙◌, append_assoc, append-nil, length-append, arith, get_or, Option, Some, None, subst}
use Rattle.std.proofs.lemmas.List.{take-append-le, take_more, flat_map_more}
use Rattle.std.specs.Io.KnownBytes.{Appends}
use Rattle.std.specs.Prelude.{slice_get}
use Rattle.std.proofs.lemmas.Option.{get_or_from_slice_get, slice_get_within}
use Rattle.wm_write.specs.Canon.{sized, u32_bytes}
use Rattle.wm_write.specs.exact.Writing.{Counts, Sent, SentBut, State, capped}

appends_then : (a b c : Option (List ℕ)) (x y : List ℕ) → Appends a b x → Appends b c y → Appends a c (x ++ y)
appends_then None b c x y p q = p
appends_then (Some xs) None c x y p q = absurd p
appends_then (Some xs) (Some ys) None x y p q = absurd q
appends_then (Some xs) (Some ys) (Some zs) x y p q = q ∙ ap (λ (l : List ℕ). l ++ y) p ∙ append_assoc xs x y

appends_none : (a : Option (List ℕ)) → Appends a a []
appends_none None = tt
appends_none (Some xs) = sym (append-nil xs)

take_front : (a b : List ℕ) (k : ℕ) → take (length a + k) (a ++ b) ≡ a ++ take k b
take_front [] b k = let z : 0 + k ≡ k = omega arith in ap (λ j. take j b) z
take_front (x ∷ a) b k = let z : suc (length a) + k ≡ suc (length a + k) = omega arith in ap (λ j. take j (x ∷ (a ++ b))) z ∙ ap (λ l. x ∷ l) (take_front a b k)

-- two counts, one after the other
counted_sum : (w0 w1 w2 a b : ℕ) → Counts a w0 w1 → Counts b w1 w2 → Counts (a + b) w0 w2
counted_sum w0 w1 w2 a b h k below = let e = h below in let l : w1 < 2 ^ 64 = omega (arith, e) in omega (arith, e, k l)

-- Nothing goes out where the writer had failed, all where it has not, and some where it fails.
pub sent_nothing : (bytes : List ℕ) (f : Bool) (c : Option (List ℕ)) (w : ℕ) → f ≡ true → Sent bytes (f, c, w) (f, c, w)
unfolding Sent
sent_nothing bytes true c w h = (refl, refl, refl)
sent_nothing bytes false c w h = let e : ⊥ = cc h in absurd e

pub sent_all : (bytes : List ℕ) (f g : Bool) (c d : Option (List ℕ)) (w v : ℕ) → f ≡ false → g ≡ false → Appends c d bytes → v ≡ capped (w + length bytes) → Sent bytes (f, c, w) (g, d, v)
unfolding Sent
sent_all bytes false false c d w v h k out counted = (out, λ below. counted)
sent_all bytes false true c d w v h k out counted = let e : ⊥ = cc k in absurd e
sent_all bytes true g c d w v h k out counted = let e : ⊥ = cc h in absurd e

pub sent_some : (bytes : List ℕ) (n : ℕ) (f g : Bool) (c d : Option (List ℕ)) (w v : ℕ) → f ≡ false → g ≡ true → n ≤ length bytes → Appends c d (take n bytes) → v ≡ capped (w + n) → Sent bytes (f, c, w) (g, d, v)
unfolding Sent
sent_some bytes n false true c d w v h k few out counted = (n, few, out, λ below. counted)
sent_some bytes n false false c d w v h k few out counted = let e : ⊥ = cc k in absurd e
sent_some bytes n true g c d w v h k few out counted = let e : ⊥ = cc h in absurd e

-- The bytes that went out and the count, for a writer that has not failed.
pub sent_whole : (bytes : List ℕ) (f g : Bool) (c d : Option (List ℕ)) (v : ℕ)
    → f ≡ false → g ≡ false → length bytes < 2 ^ 64 → Sent bytes (f, c, 0) (g, d, v) → (v ≡ length bytes) × Appends c d bytes
unfolding Sent
sent_whole bytes false false c d v h k few s = let e = s.1 (omega arith) in (omega (arith, e, few), s.0)
sent_whole bytes false true c d v h k few s = let e : ⊥ = cc k in absurd e
sent_whole bytes true g c d v h k few s = let e : ⊥ = cc h in absurd e

pub sent_front : (bytes : List ℕ) (f g : Bool) (c d : Option (List ℕ)) (v : ℕ)
    → f ≡ false → g ≡ true → length bytes < 2 ^ 64 → Sent bytes (f, c, 0) (g, d, v) → (v ≤ length bytes) × Appends c d (take v bytes)
unfolding Sent
sent_front bytes false true c d v h k few (n, less, some, now) =
    let e = now (omega arith) in
    let same : n ≡ v = omega (arith, e, few, less) in
    subst (λ z. (z ≤ length bytes) × Appends c d (take z bytes)) same (less, some)
sent_front bytes false false c d v h k few s = let e : ⊥ = cc k in absurd e
sent_front bytes true g c d v h k few s = let e : ⊥ = cc h in absurd e

-- no bytes
pub sent_none : (s : State) → Sent [] s s
unfolding Sent
sent_none (true, c, w) = (refl, refl, refl)
sent_none (false, c, w) = (appends_none c, λ below. omega (arith, below))

-- some bytes, and then more
pub sent_then : (front back : List ℕ) (s t u : State) → Sent front s t → Sent back t u → Sent (front ++ back) s u
unfolding Sent
sent_then front back (true, c0, w0) (true, c1, w1) (f2, c2, w2) h k = (k.0, k.1 ∙ h.1, k.2 ∙ h.2)
sent_then front back (true, c0, w0) (false, c1, w1) (f2, c2, w2) h k = let e : ⊥ = cc h.0 in absurd e
sent_then front back (false, c0, w0) (false, c1, w1) (false, c2, w2) h k =
    (appends_then c0 c1 c2 front back h.0 k.0, λ below. counted_sum w0 w1 w2 (length front) (length back) h.1 k.1 below ∙ ap (λ (j : ℕ). capped (w0 + j)) (sym (length-append front back)))
sent_then front back (false, c0, w0) (false, c1, w1) (true, c2, w2) h (n, few, some, now) = (
  length front + n,
  omega (arith, length-append front back, few),
  subst (Appends c0 c2) (sym (take_front front back n)) (appends_then c0 c1 c2 front (take n back) h.0 some),
  counted_sum w0 w1 w2 (length front) n h.1 now,
)
sent_then front back (false, c0, w0) (true, c1, w1) (false, c2, w2) h k = let e : ⊥ = cc k.0 in absurd e
sent_then front back (false, c0, w0) (true, c1, w1) (true, c2, w2) (n, few, some, now) k =
    (n, omega (arith, length-append front back, few), subst (λ z. Appends c0 z (take n (front ++ back))) (sym k.1) (subst (Appends c0 c1) (sym (take-append-le n front back few)) some), λ below. k.2 ∙ now below)

-- one byte, and then more
pub sent_byte : (byte : ℕ) (back : List ℕ) (s t u : State) → Sent (byte ∷ []) s t → Sent back t u → Sent (byte ∷ back) s u
sent_byte byte back s t u h k = sent_then (byte ∷ []) back s t u h k

-- Bytes whose last ones are held back.
pub held_first : (held : List ℕ) (s : State) → held ≡ [] → SentBut held [] s s
held_first held s h = ([], h, sent_none s)

pub held_all : (held : List ℕ) (s : State) → SentBut held held s s
held_all held s = ([], refl, sent_none s)

pub held_out : (held bytes : List ℕ) (s t u : State) → SentBut held bytes s t → Sent held t u → Sent bytes s u
held_out held bytes s t u (gone, is, h) k = subst (λ (z : List ℕ). Sent z s u) is (sent_then gone held s t u h k)

held_then : (held kept now bytes more : List ℕ) (s t u : State)
    → SentBut held bytes s t → SentBut kept held t u → now ≡ kept ++ more → SentBut now (bytes ++ more) s u
held_then held kept now bytes more s t u (gone, is, h) (next, same, k) add = (
  gone ++ next,
  ap (λ (z : List ℕ). (gone ++ next) ++ z) add ∙ (sym (append_assoc (gone ++ next) kept more)
      ∙ ap (λ (z : List ℕ). z ++ more) (append_assoc gone next kept ∙ (ap (λ (z : List ℕ). gone ++ z) same ∙ is))),
  sent_then gone next s t u h k,
)

-- how many bytes there are, and then those
pub sent_sized : (n : ℕ) (bytes : List ℕ) (s t u : State)
    → n ≡ capped (length bytes) → length bytes < 2 ^ 32 → Sent (u32_bytes n) s t → Sent bytes t u → Sent (sized bytes) s u
sent_sized n bytes s t u counts few h k =
    let e : n ≡ length bytes = omega (arith, counts, few) in
    sent_then (u32_bytes (length bytes)) bytes s t u (subst (λ z. Sent (u32_bytes z) s t) e h) k

module _ {X : Type 0} (f : X → List ℕ) where
  each_more : (xs : List X) (i : ℕ) (d : X) → i < length xs → flat_map f (take (i + 1) xs) ≡ flat_map f (take i xs) ++ f (get_or xs i d)
  each_more xs i d h = ap (flat_map f) (take_more xs i d h) ∙ sym (flat_map_more f [] (take i xs) (get_or xs i d))

  -- one member more
  pub sent_more : (front : List ℕ) (xs : List X) (i : ℕ) (x : X) (s t u : State)
      → i < length xs → x ≡ get_or xs i x → Sent (front ++ flat_map f (take i xs)) s t → Sent (f x) t u → Sent (front ++ flat_map f (take (i + 1) xs)) s u
  sent_more front xs i x s t u few is h k =
      let e : front ++ flat_map f (take (i + 1) xs) ≡ (front ++ flat_map f (take i xs)) ++ f x =
      ap (λ l. front ++ l) (each_more xs i x few ∙ ap (λ y. flat_map f (take i xs) ++ f y) (sym is)) ∙ sym (append_assoc front (flat_map f (take i xs)) (f x)) in
      subst (λ z. Sent z s u) (sym e) (sent_then (front ++ flat_map f (take i xs)) (f x) s t u h k)

  -- one member more, where the last bytes are held back
  pub held_more : (xs : List X) (i : ℕ) (d : X) (held kept now : List ℕ) (s t u : State)
      → i < length xs → SentBut held (flat_map f (take i xs)) s t → SentBut kept held t u → now ≡ kept ++ f (get_or xs i d) → SentBut now (flat_map f (take (i + 1) xs)) s u
  held_more xs i d held kept now s t u few h k add =
      subst (λ (z : List ℕ). SentBut now z s u) (sym (each_more xs i d few)) (held_then held kept now (flat_map f (take i xs)) (f (get_or xs i d)) s t u h k add)

  pub sent_read : (xs : List X) (i : ℕ) (x : X) (bytes : List ℕ) (s t u : State)
      → slice_get xs i ≡ Some x → bytes ≡ f x → Sent (flat_map f (take i xs)) s t → Sent bytes t u → Sent (flat_map f (take (i + 1) xs)) s u
  sent_read xs i x bytes s t u is spelled h k =
      sent_more [] xs i x s t u (slice_get_within xs i x is) (sym (get_or_from_slice_get xs i x x is)) h (subst (λ z. Sent z t u) spelled k)

  -- the bytes of one member more
  pub len_read : (front : ℕ) (xs : List X) (i : ℕ) (x : X) (n sum now : ℕ)
      → slice_get xs i ≡ Some x → n ≡ length (f x) → sum ≡ capped (front + length (flat_map f (take i xs))) → now ≡ capped (sum + n) → now ≡ capped (front + length (flat_map f (take (i + 1) xs)))
  len_read front xs i x n sum now is counts before add =
      let e : flat_map f (take (i + 1) xs) ≡ flat_map f (take i xs) ++ f x =
      each_more xs i x (slice_get_within xs i x is) ∙ ap (λ y. flat_map f (take i xs) ++ f y) (get_or_from_slice_get xs i x x is) in
      omega (arith, ap length e, length-append (flat_map f (take i xs)) (f x), counts, before, add)

  -- a member is no longer than all of them
  pub member_less : (xs : List X) (i : ℕ) (x : X) → i < length xs → x ≡ get_or xs i x → length (f x) ≤ length (flat_map f xs)
  member_less [] i x h is = absurd (omega (arith, h))
  member_less (y ∷ ys) zero x h is = omega (arith, length-append (f y) (flat_map f ys), ap (λ z. length (f z)) is)
  member_less (y ∷ ys) (suc i) x h is = omega (arith, length-append (f y) (flat_map f ys), member_less ys i x (omega (arith, h)) is)
