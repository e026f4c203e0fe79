-- Lemmas about runs over several files: their statuses, and the names in a list.
use Rattle.std.proofs.Common.{◌≡◌, ◌∙◌, ◌++◌, ℕ, suc, Bool, true, false, List, [], ◌∷◌, Option, Some, None, IfSome, inl, inr, refl, sym, ap, subst, length, take, arith, drop, map, get_or, Bor, ◌<◌, ◌≤◌, ◌+◌, ◌==◌, ◌||◌, ◌⊎◌, ltb}
use Rattle.std.specs.Prelude.{if◌then◌else◌}
use Rattle.std.proofs.lemmas.List.{drop-map, drop_all, drop_more, length-map}
use Rattle.std.proofs.lemmas.List.Sums.{fold-append}
use Rattle.std.specs.List.{list_any}
use Rattle.std.proofs.lemmas.Bool.Decides.{nat_tests}
use native.Mathlib.Numerals.{unary_clauses}
use Rattle.std.specs.Io.KnownBytes.{IsAtEnd}
use Rattle.std.specs.Io.BufRead.{DropsThrough, drop_through, first_piece, strip_last, take_through}
use Rattle.wm_command.specs.Answers.{IsAnswered}
use Rattle.wm_command.specs.Lists.{names_in, with_front}
use Rattle.wm_command.specs.Several.{AreRight, IsOfEach, greater, greatest, line_for}
use Rattle.wm_command.specs.declared.status.Status.{Status}
use Rattle.wm_command.specs.declared.status.Status.TheVariants.{Done, Io, Memory}

-- ---- statuses

right_more : (Right : List ℕ → Status → Type 0) (names : List (List ℕ)) (statuses : List Status) (name : List ℕ) (status : Status) → AreRight Right names statuses → Right name status
    → AreRight Right (names ++ name ∷ []) (statuses ++ status ∷ [])
right_more Right [] [] name status all one = (one, tt)
right_more Right [] (s ∷ ss) name status all one = absurd all
right_more Right (n ∷ ns) [] name status all one = absurd all
right_more Right (n ∷ ns) (s ∷ ss) name status all one = (all.0, right_more Right ns ss name status all.1 one)

-- The run has reached these last names: each name before them has a status, and `worst` is the greatest.
abbrev pub Reached : (List ℕ → Status → Type 0) → List (List ℕ) → List (List ℕ) → Status → Type 0
Reached Right names rest worst = (done : List (List ℕ)) × (statuses : List Status) × (names ≡ done ++ rest) × AreRight Right done statuses × (worst ≡ greatest statuses)

pub reached_none : (Right : List ℕ → Status → Type 0) (names : List (List ℕ)) (worst : Status) → worst ≡ Done → Reached Right names names worst
reached_none Right names worst is = ([], [], refl, tt, is)

append_one : {A : Type 0} (xs : List A) (x : A) (ys : List A) → xs ++ x ∷ ys ≡ (xs ++ x ∷ []) ++ ys
append_one [] x ys = refl
append_one (z ∷ zs) x ys = ap (λ t. z ∷ t) (append_one zs x ys)

pub reached_more : (Right : List ℕ → Status → Type 0) (names : List (List ℕ)) (name : List ℕ) (rest : List (List ℕ)) (worst status next : Status) → Reached Right names (name ∷ rest) worst → Right name status
    → next ≡ greater worst status → Reached Right names rest next
reached_more Right names name rest worst status next (done, statuses, are, right, is) one next_is = (
  done ++ name ∷ [],
  statuses ++ status ∷ [],
  are ∙ append_one done name rest,
  right_more Right done statuses name status right one,
  next_is ∙ ap (λ w. greater w status) is ∙ sym (fold-append greater Done statuses (status ∷ [])),
)

pub reached_all : (Right : List ℕ → Status → Type 0) (names rest : List (List ℕ)) (worst : Status) → Reached Right names rest worst → rest ≡ [] → IsOfEach Right names worst
reached_all Right names rest worst (done, statuses, are, right, is) none = (done, rest, statuses, are, right, inl (none, is))

pub reached_cut : (Right : List ℕ → Status → Type 0) (names rest : List (List ℕ)) (worst failure : Status) → Reached Right names rest worst → (failure ≡ Io) ⊎ (failure ≡ Memory)
    → IsOfEach Right names (greater worst failure)
reached_cut Right names rest worst failure (done, statuses, are, right, is) kind = (done, rest, statuses, are, right, inr (failure, kind, ap (λ w. greater w failure) is))

-- The names of a slice, of which the run has reached this one.
names_more : (names : List (Bor (List ℕ))) (i : ℕ) (d : Bor (List ℕ)) → i < length names → drop i (map (λ s. s.now) names) ≡ (get_or names i d).now ∷ drop (i + 1) (map (λ s. s.now) names)
names_more names i d lt =
    drop-map (λ s. s.now) i names ∙ ap (map (λ s. s.now)) (drop_more names i d lt) ∙ ap (λ rest. (get_or names i d).now ∷ rest) (sym (drop-map (λ s. s.now) (i + 1) names))

pub reached_at : (Right : List ℕ → Status → Type 0) (names : List (Bor (List ℕ))) (i : ℕ) (d : Bor (List ℕ)) (worst status next : Status) → i < length names
    → Reached Right (map (λ s. s.now) names) (drop i (map (λ s. s.now) names)) worst → Right (get_or names i d).now status → next ≡ greater worst status
    → Reached Right (map (λ s. s.now) names) (drop (i + 1) (map (λ s. s.now) names)) next
reached_at Right names i d worst status next lt reached right is =
    let all = map (λ s. s.now) names in
    reached_more Right all (get_or names i d).now (drop (i + 1) all) worst status next (subst (λ rest. Reached Right all rest worst) (names_more names i d lt) reached) right is

pub reached_end : (Right : List ℕ → Status → Type 0) (names : List (Bor (List ℕ))) (i : ℕ) (worst : Status) → length names ≤ i
    → Reached Right (map (λ s. s.now) names) (drop i (map (λ s. s.now) names)) worst → IsOfEach Right (map (λ s. s.now) names) worst
reached_end Right names i worst le reached =
    let all = map (λ s. s.now) names in
    let size : length all ≡ length names = length-map names (λ s. s.now) in
    reached_all Right all (drop i all) worst reached (drop_all i all (omega (arith, size, le)))

-- ---- names

strip_more : (end x y : ℕ) (ys : List ℕ) (b : Bool) → (if b then x ∷ take (length ys) (y ∷ ys) else x ∷ y ∷ ys) ≡ x ∷ (if b then take (length ys) (y ∷ ys) else y ∷ ys)
strip_more end x y ys true = refl
strip_more end x y ys false = refl

positive : (n : ℕ) → ltb 0 (suc n) ≡ true
positive n = grind (arith, nat_tests)

strip_over : (end x y : ℕ) (ys : List ℕ) → strip_last end (x ∷ y ∷ ys) ≡ x ∷ strip_last end (y ∷ ys)
strip_over end x y ys = simp (unary_clauses, positive) (strip_more end x y ys (get_or (y ∷ ys) (length ys) 0 == end))

front_more : (end x y : ℕ) (ys : List ℕ) (b : Bool) → strip_last end (x ∷ (if b then y ∷ [] else y ∷ take_through end ys)) ≡ x ∷ strip_last end (if b then y ∷ [] else y ∷ take_through end ys)
front_more end x y ys true = strip_over end x y []
front_more end x y ys false = strip_over end x y (take_through end ys)

names_by : (end x : ℕ) (xs : List ℕ) (b : Bool) → (x == end) ≡ b → (if b then [] ∷ names_in end xs else with_front x (names_in end xs))
    ≡ strip_last end (if b then x ∷ [] else x ∷ take_through end xs) ∷ names_in end (if b then xs else drop_through end xs)
names_by end x xs true is = ap (λ b. (if b then [] else x ∷ []) ∷ names_in end xs) (sym is)
names_by end x [] false is = ap (λ b. (if b then [] else x ∷ []) ∷ []) (sym is)
names_by end x (y ∷ ys) false is =
    ap (with_front x) (names_by end y ys (y == end) refl) ∙ ap (λ p. p ∷ names_in end (drop_through end (y ∷ ys))) (sym (front_more end x y ys (y == end)))

-- The first name of a list, and the rest.
pub names_first : (end : ℕ) (xs : List ℕ) → 0 < length xs → names_in end xs ≡ first_piece end xs ∷ names_in end (drop_through end xs)
names_first end [] lt = absurd (omega (arith, lt))
names_first end (x ∷ xs) lt = names_by end x xs (x == end) refl

-- ---- lists

-- The run has reached the names in `now`, the last bytes of a list. Nothing is said of a list of unknown bytes.
abbrev pub Listed : (List ℕ → Status → Type 0) → ℕ → Option (List ℕ) → Option (List ℕ) → Status → Type 0
Listed Right end old now worst = IfSome old (λ bytes. (rest : List ℕ) × (now ≡ Some rest) × Reached Right (names_in end bytes) (names_in end rest) worst)

-- The status of the run is right for the list.
abbrev pub IsOfList : (List ℕ → Status → Type 0) → ℕ → Option (List ℕ) → Status → Type 0
IsOfList Right end old result = IfSome old (λ bytes. IsOfEach Right (names_in end bytes) result)

pub listed_none : (Right : List ℕ → Status → Type 0) (end : ℕ) (old now : Option (List ℕ)) (worst : Status) → now ≡ old → worst ≡ Done → Listed Right end old now worst
listed_none Right end None now worst is done = tt
listed_none Right end (Some bytes) now worst is done = (bytes, is, reached_none Right (names_in end bytes) worst done)

pub listed_cut : (Right : List ℕ → Status → Type 0) (end : ℕ) (old now : Option (List ℕ)) (worst failure result : Status) → Listed Right end old now worst → (failure ≡ Io) ⊎ (failure ≡ Memory)
    → result ≡ greater worst failure → IsOfList Right end old result
listed_cut Right end None now worst failure result listed kind is = tt
listed_cut Right end (Some bytes) now worst failure result (rest, now_is, reached) kind is =
    subst (IsOfEach Right (names_in end bytes)) (sym is) (reached_cut Right (names_in end bytes) (names_in end rest) worst failure reached kind)

pub listed_all : (Right : List ℕ → Status → Type 0) (end : ℕ) (old now : Option (List ℕ)) (worst : Status) → Listed Right end old now worst → IsAtEnd now → IsOfList Right end old worst
listed_all Right end None now worst listed at_end = tt
listed_all Right end (Some bytes) now worst (rest, is, reached) at_end =
    reached_all Right (names_in end bytes) (names_in end rest) worst reached (ap (names_in end) (subst IsAtEnd is at_end))

pub listed_more : (Right : List ℕ → Status → Type 0) (end byte : ℕ) (old now next : Option (List ℕ)) (name : List ℕ) (worst status new : Status) → Listed Right end old now worst → byte ≡ end
    → IfSome now (λ xs. (0 < length xs) × (name ≡ first_piece byte xs)) → DropsThrough now next byte → Right name status → new ≡ greater worst status → Listed Right end old next new
listed_more Right end byte None now next name worst status new listed same piece drops right is = tt
listed_more Right end byte (Some bytes) now next name worst status new (rest, now_is, reached) same piece drops right is =
    let here = subst (λ o. IfSome o (λ xs. (0 < length xs) × (name ≡ first_piece byte xs))) now_is piece in
    let gone : next ≡ Some (drop_through byte rest) = subst (λ o. DropsThrough o next byte) now_is drops in
    let named : name ≡ first_piece end rest = here.1 ∙ ap (λ b. first_piece b rest) same in
    let all = names_in end bytes in
    let at = subst (λ names. Reached Right all names worst) (names_first end rest here.0) reached in (
      drop_through end rest,
      gone ∙ ap (λ b. Some (drop_through b rest)) same,
      reached_more Right all (first_piece end rest) (names_in end (drop_through end rest)) worst status new at (subst (λ n. Right n status) named right) is,
    )

-- ---- lists that cannot be read

greater_first : (failure : Status) → (failure ≡ Io) ⊎ (failure ≡ Memory) → failure ≡ greater Done failure
greater_first failure (inl is) = subst (λ f. f ≡ greater Done f) (sym is) refl
greater_first failure (inr is) = subst (λ f. f ≡ greater Done f) (sym is) refl

-- A list of which nothing is read ends the run before the first file.
pub list_unread : (Right : List ℕ → Status → Type 0) (end : ℕ) (old : Option (List ℕ)) (failure : Status) → (failure ≡ Io) ⊎ (failure ≡ Memory) → IsOfList Right end old failure
list_unread Right end None failure kind = tt
list_unread Right end (Some bytes) failure kind = ([], names_in end bytes, [], refl, tt, inr (failure, kind, greater_first failure kind))

-- The same holds of a list that is not opened.
pub list_closed : (Right : List ℕ → Status → Type 0) (end : ℕ) (path : Option (List ℕ)) (held : List ℕ → Option (List ℕ)) (failure : Status) → (failure ≡ Io) ⊎ (failure ≡ Memory)
    → IfSome path (λ p. IfSome (held p) (λ bytes. IsOfEach Right (names_in end bytes) failure))
list_closed Right end None held failure kind = tt
list_closed Right end (Some p) held failure kind = list_unread Right end (held p) failure kind

-- ---- the line of one file

-- A vector that was empty has the whole text if it has not failed.
pub held_text : (old new : Option (List ℕ)) (text now : List ℕ) (status wanted : Status) (failed flushed : Bool) → old ≡ Some [] → new ≡ Some now → failed ≡ false
    → IsAnswered text wanted old new failed flushed status → (now ≡ text) × (status ≡ wanted)
held_text old new text now status wanted failed flushed old_is new_is none told =
    let started = subst (λ o. IsAnswered text wanted o new failed flushed status) old_is told in
    let ended = subst (λ n. IsAnswered text wanted (Some []) n failed flushed status) new_is started in
    let whole : IsAnswered text wanted (Some []) (Some now) false flushed status = subst (λ b. IsAnswered text wanted (Some []) (Some now) b flushed status) none ended in
    (whole.0, whole.2)

-- An answer with the line of the held text is one with the line of the text that is right.
pub line_answered : (front text now line : List ℕ) (status wanted result : Status) (old new : Option (List ℕ)) (failed flushed : Bool) → now ≡ text → status ≡ wanted → line ≡ line_for front now
    → IsAnswered line status old new failed flushed result → IsAnswered (line_for front text) wanted old new failed flushed result
line_answered front text now line status wanted result old new failed flushed text_is status_is line_is told =
    subst (λ t. IsAnswered t wanted old new failed flushed result) (line_is ∙ ap (line_for front) text_is) (subst (λ s. IsAnswered line s old new failed flushed result) status_is told)

-- ---- names as they are shown

pub any_one : {X : Type 0} (p : X → Bool) (x : X) → list_any p (x ∷ []) ≡ p x
any_one p x = go (p x) where
  go : (b : Bool) → (b || false) ≡ b
  go true = refl
  go false = refl
