-- Bytes are read into a buffer, behind those that were read since the last snapshot.
use Rattle.std.proofs.Common.{◌≡◌, ◌≤◌, ◌+◌, ◌-◌, ◌++◌, ℕ, List, [], Option, Some, None, length, length-append, take, drop, refl, sym, ap, subst, arith, append_assoc, ◌∙◌}
use Rattle.std.proofs.Math.Seq.{take-append-add, drop-append_seam}
use Rattle.std.proofs.lemmas.List.{length-take-le, take-append-le}
use Rattle.std.specs.Io.KnownBytes.{Consumes}
use borrow.Rule.Slice.PartMut.{put_mid, post_of}

-- What was read are the bytes before a snapshot, `After` which it was made, and then those in the buffer, which has room.
pub record SinceSnapshot (After : List ℕ → Type 0) (read : List ℕ) (filled : ℕ) (piece : List ℕ) : Type 0 where
  pub before : List ℕ
  pub is : read ≡ before ++ take filled piece
  pub after : After before
  pub room : filled ≤ 2048

pub begins_before : {After : List ℕ → Type 0} (read : List ℕ) (filled : ℕ) (piece : List ℕ) (since : SinceSnapshot After read filled piece) → length since.before ≤ length read
begins_before read filled piece since = omega (arith, ap length since.is, length-append since.before (take filled piece))

-- the `n` bytes behind the first `a` of a buffer that held `xs`, where the part behind them now holds `ys`
abbrev pub read_behind : ℕ → ℕ → ℕ → List ℕ → List ℕ → List ℕ
read_behind a n k xs ys = take (a + n - a) (drop a (put_mid a k xs ys))

part : (a n k : ℕ) (xs ys : List ℕ) → a ≤ length xs → n ≤ length ys → read_behind a n k xs ys ≡ take n ys
part a n k xs ys h b =
    let count : a + n - a ≡ n = omega arith in
    let front : length (take a xs) ≡ a = length-take-le a xs h in
    let rest : drop a (put_mid a k xs ys) ≡ ys ++ post_of a k xs =
    subst (λ (m : ℕ). drop m (put_mid a k xs ys) ≡ ys ++ post_of a k xs) front (drop-append_seam (take a xs) (ys ++ post_of a k xs)) in
    rw (count, rest) (take-append-le n ys (post_of a k xs) b)

whole : (a n k : ℕ) (xs ys : List ℕ) → a ≤ length xs → n ≤ length ys → take (a + n) (put_mid a k xs ys) ≡ take a xs ++ take n ys
whole a n k xs ys h b =
    subst (λ (m : ℕ). take (m + n) (put_mid a k xs ys) ≡ take a xs ++ take n ys) (length-take-le a xs h)
    (take-append-add (take a xs) (ys ++ post_of a k xs) n ∙ ap (λ (l : List ℕ). take a xs ++ l) (take-append-le n ys (post_of a k xs) b))

pub behind_length : (a n k : ℕ) (xs ys : List ℕ) → a ≤ length xs → n ≤ length ys → length (read_behind a n k xs ys) ≡ n
behind_length a n k xs ys h b = ap length (part a n k xs ys h b) ∙ length-take-le n ys b

pub behind_consumed : (old new : Option (List ℕ)) (a n k : ℕ) (xs ys : List ℕ) → a ≤ length xs → n ≤ length ys → Consumes old new (take n ys)
    → Consumes old new (read_behind a n k xs ys)
behind_consumed old new a n k xs ys h b c = subst (λ (l : List ℕ). Consumes old new l) (sym (part a n k xs ys h b)) c

-- the bytes since the snapshot are those in front of the buffer
pub since_snapshot : (before read : List ℕ) (a n k : ℕ) (xs ys : List ℕ) → a ≤ length xs → n ≤ length ys → read ≡ before ++ take a xs
    → read ++ read_behind a n k xs ys ≡ before ++ take (a + n) (put_mid a k xs ys)
since_snapshot before read a n k xs ys h b e =
    ap (λ (l : List ℕ). l ++ read_behind a n k xs ys) e ∙ append_assoc before (take a xs) (read_behind a n k xs ys)
    ∙ ap (λ (l : List ℕ). before ++ (take a xs ++ l)) (part a n k xs ys h b) ∙ ap (λ (l : List ℕ). before ++ l) (sym (whole a n k xs ys h b))

pub consumes_nothing : (a : Option (List ℕ)) → Consumes a a []
consumes_nothing None = tt
consumes_nothing (Some xs) = refl
