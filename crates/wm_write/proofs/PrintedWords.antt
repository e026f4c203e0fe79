-- Words that are written one after another.
use Rattle.std.proofs.Common.{◌≡◌, ◌≢◌, ℕ, zero, suc, ◌+◌, ◌-◌, ◌<◌, Bool, true, false, List, [], ◌∷◌, ◌++◌, length, take, map, flat_map, replicate, refl, sym, ap, subst, ◌∙◌, append_assoc, append-nil, arith, get_or, Option, Some, if◌then◌else◌}
use Rattle.std.specs.Prelude.{codes, decimal}
use Rattle.std.specs.List.{enumerate_from}
use Rattle.std.specs.Bool.{◌==◌}
use Rattle.std.proofs.lemmas.Grind.{flat_map-append}
use Rattle.std.proofs.lemmas.List.{map-append, nil_from_length, take_more}
use Rattle.std.proofs.lemmas.Option.{get_or_from_slice_get, slice_get_within}
use Rattle.std.specs.Prelude.{slice_get}
use Rattle.wm_syntax.specs.declared.modules.ExportKind.{ExportKind}
use Rattle.wm_syntax.specs.declared.modules.ExportKind.TheVariants as kind
use Rattle.wm_syntax.specs.Modules.{locals_of}
use Rattle.wm_syntax.specs.Runs.{runs_of}
use Rattle.wm_write.proofs.CanonSpells.{expanded}
use Rattle.wm_syntax.specs.declared.types.GlobalType.{GlobalType}
use Rattle.wm_syntax.specs.declared.types.ValType.{ValType}
use Rattle.wm_write.specs.Layout.{Word, word_at, closing, field_line, form, gap, global_type_words, item_words, name, parens, start_field, type_word, types_words, word_text, words_text}
use Rattle.wm_write.specs.exact.Printing.{item_front}
use Rattle.wm_write.specs.exact.Writing.{Sent, State}
use Rattle.wm_write.proofs.Writes.{sent_none, sent_nothing, sent_then}

-- Equal bytes.
pub sent_same : (a b : List ℕ) (s t : State) → a ≡ b → Sent a s t → Sent b s t
sent_same a b s t e h = subst (λ z. Sent z s t) e h

-- Equal values.
pub sent_seen : {V : Type 0} (f : V → List Word) (a b : V) (s t : State) → a ≡ b → Sent (words_text (f a)) s t → Sent (words_text (f b)) s t
sent_seen f a b s t e h = subst (λ z. Sent (words_text (f z)) s t) e h

-- words, and then words
pub sent_words : (a b : List Word) (s t u : State) → Sent (words_text a) s t → Sent (words_text b) t u → Sent (words_text (a ++ b)) s u
sent_words a b s t u h k =
    sent_same _ _ s u (sym (flat_map-append word_text a b)) (sent_then (words_text a) (words_text b) s t u h k)

-- one word
pub sent_word : (x : Word) (s t : State) → Sent (word_text x) s t → Sent (words_text (x ∷ [])) s t
sent_word x s t h = sent_same _ _ s t (sym (append-nil (word_text x))) h

-- parentheses with words between them
pub parens_text : (before head : List ℕ) (words : List Word) (after : List ℕ)
    → words_text (parens before head words after) ≡ (before ++ 40 ∷ head) ++ (words_text words ++ (after ++ 41 ∷ []))
parens_text before head words after =
    let inner : words_text (words ++ word_at after closing ∷ []) ≡ words_text words ++ (after ++ 41 ∷ []) =
    flat_map-append word_text words (word_at after closing ∷ []) ∙ ap (λ (z : List ℕ). words_text words ++ z) (append-nil (after ++ 41 ∷ [])) in
    ap (λ (z : List ℕ). (before ++ 40 ∷ []) ++ (head ++ z)) inner
    ∙ (sym (append_assoc (before ++ 40 ∷ []) head (words_text words ++ (after ++ 41 ∷ [])))
    ∙ ap (λ (z : List ℕ). z ++ (words_text words ++ (after ++ 41 ∷ []))) (append_assoc before (40 ∷ []) head))

pub sent_parens : (before head : List ℕ) (words : List Word) (after : List ℕ) (s t u v : State)
    → Sent (before ++ 40 ∷ head) s t → Sent (words_text words) t u → Sent (after ++ 41 ∷ []) u v → Sent (words_text (parens before head words after)) s v
sent_parens before head words after s t u v h k l =
    sent_same _ _ s v (sym (parens_text before head words after))
    (sent_then (before ++ 40 ∷ head) (words_text words ++ (after ++ 41 ∷ [])) s t v h (sent_then (words_text words) (after ++ 41 ∷ []) t u v k l))

-- Parentheses whose front is written with their first words.
pub sent_fronted : (before head : List ℕ) (front rest : List Word) (after : List ℕ) (s t u v : State)
    → Sent ((before ++ 40 ∷ head) ++ words_text front) s t → Sent (words_text rest) t u → Sent (after ++ 41 ∷ []) u v
    → Sent (words_text (parens before head (front ++ rest) after)) s v
sent_fronted before head front rest after s t u v h k l =
    let begun = before ++ 40 ∷ head in
    let e : words_text (parens before head (front ++ rest) after) ≡ ((begun ++ words_text front) ++ words_text rest) ++ (after ++ 41 ∷ []) =
    parens_text before head (front ++ rest) after
    ∙ (sym (append_assoc begun (words_text (front ++ rest)) (after ++ 41 ∷ []))
    ∙ ap (λ (z : List ℕ). z ++ (after ++ 41 ∷ [])) (ap (λ (z : List ℕ). begun ++ z) (flat_map-append word_text front rest)
    ∙ sym (append_assoc begun (words_text front) (words_text rest)))) in
    sent_same _ _ s v (sym e) (sent_then ((begun ++ words_text front) ++ words_text rest) (after ++ 41 ∷ []) s u v
    (sent_then (begun ++ words_text front) (words_text rest) s t u h k) l)

-- Parentheses whose first word is a name.
named_text : (before head prefix : List ℕ) (n : ℕ) (rest : List Word)
    → (before ++ 40 ∷ head) ++ words_text (name prefix n ∷ rest) ≡ ((before ++ 40 ∷ (head ++ 32 ∷ prefix)) ++ decimal n) ++ words_text rest
named_text before head prefix n rest = simp append_assoc

pub sent_named_front : (before head prefix : List ℕ) (n : ℕ) (rest : List Word) (s t u : State)
    → Sent ((before ++ 40 ∷ (head ++ 32 ∷ prefix)) ++ decimal n) s t → Sent (words_text rest) t u
    → Sent ((before ++ 40 ∷ head) ++ words_text (name prefix n ∷ rest)) s u
sent_named_front before head prefix n rest s t u h k =
    sent_same _ _ s u (sym (named_text before head prefix n rest))
    (sent_then ((before ++ 40 ∷ (head ++ 32 ∷ prefix)) ++ decimal n) (words_text rest) s t u h k)

pub sent_named : (before head prefix : List ℕ) (n : ℕ) (rest : List Word) (after : List ℕ) (s t u v : State)
    → Sent ((before ++ 40 ∷ (head ++ 32 ∷ prefix)) ++ decimal n) s t → Sent (words_text rest) t u → Sent (after ++ 41 ∷ []) u v
    → Sent (words_text (parens before head (name prefix n ∷ rest) after)) s v
sent_named before head prefix n rest after s t u v h k l =
    let front = (before ++ 40 ∷ (head ++ 32 ∷ prefix)) ++ decimal n in
    let e : words_text (parens before head (name prefix n ∷ rest) after) ≡ (front ++ words_text rest) ++ (after ++ 41 ∷ []) =
    parens_text before head (name prefix n ∷ rest) after
    ∙ (sym (append_assoc (before ++ 40 ∷ head) (words_text (name prefix n ∷ rest)) (after ++ 41 ∷ []))
    ∙ ap (λ (z : List ℕ). z ++ (after ++ 41 ∷ [])) (named_text before head prefix n rest)) in
    sent_same _ _ s v (sym e) (sent_then (front ++ words_text rest) (after ++ 41 ∷ []) s u v (sent_then front (words_text rest) s t u h k) l)

module _ {X : Type 0} where
  -- a word for each, and words for each
  words_map : (f : X → Word) (xs : List X) → flat_map (λ x. word_text (f x)) xs ≡ words_text (map f xs)
  words_map f [] = refl
  words_map f (x ∷ xs) = ap (λ (z : List ℕ). word_text (f x) ++ z) (words_map f xs)

  pub sent_map : (f : X → Word) (xs : List X) (s t : State) → Sent (flat_map (λ x. word_text (f x)) xs) s t → Sent (words_text (map f xs)) s t
  sent_map f xs s t h = sent_same _ _ s t (words_map f xs) h

  words_each : (f : X → List Word) (xs : List X) → flat_map (λ x. words_text (f x)) xs ≡ words_text (flat_map f xs)
  words_each f [] = refl
  words_each f (x ∷ xs) = ap (λ (z : List ℕ). words_text (f x) ++ z) (words_each f xs) ∙ sym (flat_map-append word_text (f x) (flat_map f xs))

  pub sent_each : (f : X → List Word) (xs : List X) (s t : State) → Sent (flat_map (λ x. words_text (f x)) xs) s t → Sent (words_text (flat_map f xs)) s t
  sent_each f xs s t h = sent_same _ _ s t (words_each f xs) h

  -- one more of them
  pub sent_next : (f : X → List Word) (xs : List X) (i : ℕ) (d : X) (s t u : State) → i < length xs
      → Sent (words_text (flat_map f (take i xs))) s t → Sent (words_text (f (get_or xs i d))) t u → Sent (words_text (flat_map f (take (i + 1) xs))) s u
  sent_next f xs i d s t u few h k =
      let e : flat_map f (take i xs) ++ f (get_or xs i d) ≡ flat_map f (take (i + 1) xs) =
      ap (λ (z : List Word). flat_map f (take i xs) ++ z) (sym (append-nil (f (get_or xs i d))))
      ∙ (sym (flat_map-append f (take i xs) (get_or xs i d ∷ [])) ∙ ap (flat_map f) (sym (take_more xs i d few))) in
      subst (λ z. Sent (words_text z) s u) e (sent_words (flat_map f (take i xs)) (f (get_or xs i d)) s t u h k)

  -- One more of them, with indices.
  numbered_more : (f : ℕ × X → List Word) (n : ℕ) (xs : List X) (i : ℕ) (d : X) → i < length xs
      → flat_map f (enumerate_from n (take (suc i) xs)) ≡ flat_map f (enumerate_from n (take i xs)) ++ f (n + i, get_or xs i d)
  numbered_more f n [] i d h = absurd (omega arith)
  numbered_more f n (x ∷ xs) zero d h =
      let e : n ≡ n + 0 = omega arith in append-nil (f (n, x)) ∙ ap (λ (z : ℕ). f (z, x)) e
  numbered_more f n (x ∷ xs) (suc i) d h =
      let e : (n + 1) + i ≡ n + suc i = omega arith in
      ap (λ (z : List Word). f (n, x) ++ z) (numbered_more f (n + 1) xs i d (omega arith) ∙ ap (λ (z : ℕ). flat_map f (enumerate_from (n + 1) (take i xs)) ++ f (z, get_or xs i d)) e)
      ∙ sym (append_assoc (f (n, x)) (flat_map f (enumerate_from (n + 1) (take i xs))) (f (n + suc i, get_or xs i d)))

  pub sent_numbered : (f : ℕ × X → List Word) (n : ℕ) (xs : List X) (i place : ℕ) (x : X) (s t u : State) → i < length xs → x ≡ get_or xs i x → place ≡ n + i
      → Sent (words_text (flat_map f (enumerate_from n (take i xs)))) s t → Sent (words_text (f (place, x))) t u
      → Sent (words_text (flat_map f (enumerate_from n (take (i + 1) xs)))) s u
  sent_numbered f n xs i place x s t u few is at_place h k =
      let next : suc i ≡ i + 1 = omega arith in
      let e : flat_map f (enumerate_from n (take i xs)) ++ f (place, x) ≡ flat_map f (enumerate_from n (take (i + 1) xs)) =
      ap (λ (z : List Word). flat_map f (enumerate_from n (take i xs)) ++ z) (ap (λ (z : ℕ). f (z, x)) at_place ∙ ap (λ (z : X). f (n + i, z)) is)
      ∙ (sym (numbered_more f n xs i x few) ∙ ap (λ (j : ℕ). flat_map f (enumerate_from n (take j xs))) next) in
      subst (λ z. Sent (words_text z) s u) e (sent_words (flat_map f (enumerate_from n (take i xs))) (f (place, x)) s t u h k)

-- nothing
pub sent_nothing_more : (words : List Word) (s : State) → words ≡ [] → Sent (words_text words) s s
sent_nothing_more words s e = subst (λ z. Sent (words_text z) s s) (sym e) (sent_none s)

-- a form of value types
pub no_types : (before head : List ℕ) (ts : List ValType) (s : State) → true ≡ (length ts == 0) → Sent (words_text (types_words before head ts)) s s
no_types before head [] s h = sent_none s
no_types before head (t ∷ ts) s h = absurd (grind arith)

pub some_types : (before head : List ℕ) (ts : List ValType) (s t u v : State) → false ≡ (length ts == 0) → Sent (before ++ 40 ∷ head) s t
    → Sent (words_text (map type_word ts)) t u → Sent (41 ∷ []) u v → Sent (words_text (types_words before head ts)) s v
some_types before head [] s t u v h k l m = absurd (grind arith)
some_types before head (x ∷ xs) s t u v h k l m = sent_parens before head (map type_word (x ∷ xs)) [] s t u v k l m

-- the type of a global that may be set
pub sent_var : (g : GlobalType) (s t u v : State) → g.var ≡ true → Sent (codes " (mut") s t → Sent (word_text (type_word g.ty)) t u → Sent (41 ∷ []) u v
    → Sent (words_text (global_type_words g)) s v
sent_var g s t u v e h k l =
    subst (λ (b : Bool). Sent (words_text (if b then form gap (codes "mut") (type_word g.ty ∷ []) else type_word g.ty ∷ [])) s v) (sym e)
    (sent_parens gap (codes "mut") (type_word g.ty ∷ []) [] s t u v h (sent_word (type_word g.ty) t u k) l)

-- one of the same type more
run_more : (n : ℕ) (t : ValType) → words_text (map type_word (replicate (suc n) t)) ≡ words_text (map type_word (replicate n t)) ++ word_text (type_word t)
run_more zero t = append-nil (word_text (type_word t))
run_more (suc n) t =
    ap (λ (z : List ℕ). word_text (type_word t) ++ z) (run_more n t)
    ∙ sym (append_assoc (word_text (type_word t)) (words_text (map type_word (replicate n t))) (word_text (type_word t)))

pub sent_again : (n : ℕ) (t : ValType) (s u v : State) → Sent (words_text (map type_word (replicate n t))) s u → Sent (word_text (type_word t)) u v
    → Sent (words_text (map type_word (replicate (n + 1) t))) s v
sent_again n t s u v h k =
    let next : suc n ≡ n + 1 = omega arith in
    sent_same _ _ s v (sym (run_more n t) ∙ ap (λ (j : ℕ). words_text (map type_word (replicate j t))) next)
    (sent_then (words_text (map type_word (replicate n t))) (word_text (type_word t)) s u v h k)

-- once the writer has failed, the words that are left change nothing
pub sent_rest : (d n : ℕ) (t : ValType) (s : State) (f : Bool) (c : Option (List ℕ)) (w : ℕ) → f ≡ true
    → Sent (words_text (map type_word (replicate n t))) s (f, c, w) → Sent (words_text (map type_word (replicate (n + d) t))) s (f, c, w)
sent_rest zero n t s f c w e h = let same : n ≡ n + 0 = omega arith in sent_same _ _ s (f, c, w) (ap (λ (j : ℕ). words_text (map type_word (replicate j t))) same) h
sent_rest (suc d) n t s f c w e h =
    let same : (n + 1) + d ≡ n + suc d = omega arith in
    sent_same _ _ s (f, c, w) (ap (λ (j : ℕ). words_text (map type_word (replicate j t))) same)
    (sent_rest d (n + 1) t s f c w e (sent_again n t s (f, c, w) (f, c, w) h (sent_nothing (word_text (type_word t)) f c w e)))

pub sent_by_then : (n count : ℕ) (t : ValType) (s : State) (f : Bool) (c : Option (List ℕ)) (w : ℕ) → f ≡ true → n < count
    → Sent (words_text (map type_word (replicate n t))) s (f, c, w) → Sent (words_text (map type_word (replicate count t))) s (f, c, w)
sent_by_then n count t s f c w e lt h =
    let same : n + (count - n) ≡ count = omega (arith, lt) in
    sent_same _ _ s (f, c, w) (ap (λ (j : ℕ). words_text (map type_word (replicate j t))) same) (sent_rest (count - n) n t s f c w e h)

-- The runs of locals up to here, and one more run.
pub sent_run : (runs : List (ℕ × ValType)) (i : ℕ) (r : ℕ × ValType) (s t u : State) → slice_get runs i ≡ Some r
    → Sent (words_text (map type_word (locals_of (take i runs)))) s t → Sent (words_text (map type_word (replicate r.0 r.1))) t u
    → Sent (words_text (map type_word (locals_of (take (i + 1) runs)))) s u
sent_run runs i r s t u is h k =
    let few : i < length runs = slice_get_within runs i r is in
    let e : locals_of (take (i + 1) runs) ≡ locals_of (take i runs) ++ replicate r.0 r.1 =
    ap locals_of (take_more runs i r few)
    ∙ (ap (λ (q : ℕ × ValType). locals_of (take i runs ++ q ∷ [])) (get_or_from_slice_get runs i r r is)
    ∙ (flat_map-append (λ (q : ℕ × ValType). replicate q.0 q.1) (take i runs) (r ∷ [])
    ∙ ap (λ (z : List ValType). locals_of (take i runs) ++ z) (append-nil (replicate r.0 r.1)))) in
    sent_same _ _ s u (sym (ap (λ (z : List ValType). words_text (map type_word z)) e ∙ ap words_text (map-append type_word (locals_of (take i runs)) (replicate r.0 r.1))))
    (sent_words (map type_word (locals_of (take i runs))) (map type_word (replicate r.0 r.1)) s t u h k)

-- the line of the locals, by their runs
no_runs : (ts : List ValType) → length (runs_of ts) ≡ 0 → ts ≡ []
no_runs ts h = sym (expanded ts) ∙ ap locals_of (nil_from_length (runs_of ts) h)

pub no_locals : (before head : List ℕ) (ts : List ValType) (n : ℕ) (s : State) → n ≡ length (runs_of ts) → n ≡ 0 → Sent (words_text (types_words before head ts)) s s
no_locals before head ts n s is h = sent_nothing_more _ s (ap (types_words before head) (no_runs ts (sym is ∙ h)))

pub some_locals : (before head : List ℕ) (ts : List ValType) (n : ℕ) (s t u v : State) → n ≡ length (runs_of ts) → n ≢ 0 → Sent (before ++ 40 ∷ head) s t
    → Sent (words_text (map type_word (locals_of (runs_of ts)))) t u → Sent (41 ∷ []) u v → Sent (words_text (types_words before head ts)) s v
some_locals before head [] n s t u v is h k l m = absurd (h is)
some_locals before head (x ∷ xs) n s t u v is h k l m =
    sent_parens before head (map type_word (x ∷ xs)) [] s t u v k (subst (λ z. Sent (words_text (map type_word z)) t u) (expanded (x ∷ xs)) l) m

-- An export descriptor.
pub sent_item : (kind : ExportKind) (x : ℕ) (front : List ℕ) (s t u : State) → front ≡ item_front kind → Sent (front ++ decimal x) s t → Sent (41 ∷ []) t u
    → Sent (words_text (item_words kind x)) s u
sent_item kind.Func x front s t u is h k =
    sent_named gap (codes "func") (codes "$f") x [] [] s t t u (sent_same _ _ s t (ap (λ (z : List ℕ). z ++ decimal x) is) h) (sent_none t) k
sent_item kind.Table x front s t u is h k =
    sent_named gap (codes "table") (codes "$tab") x [] [] s t t u (sent_same _ _ s t (ap (λ (z : List ℕ). z ++ decimal x) is) h) (sent_none t) k
sent_item kind.Memory x front s t u is h k =
    sent_named gap (codes "memory") (codes "$mem") x [] [] s t t u (sent_same _ _ s t (ap (λ (z : List ℕ). z ++ decimal x) is) h) (sent_none t) k
sent_item kind.Global x front s t u is h k =
    sent_named gap (codes "global") (codes "$g") x [] [] s t t u (sent_same _ _ s t (ap (λ (z : List ℕ). z ++ decimal x) is) h) (sent_none t) k

-- the start function
pub sent_start_field : (start : Option ℕ) (x : ℕ) (s t u : State) → start ≡ Some x → Sent (codes "\n  (start $f" ++ decimal x) s t → Sent (41 ∷ []) t u
    → Sent (words_text (start_field start)) s u
sent_start_field start x s t u is h k =
    subst (λ z. Sent (words_text (start_field z)) s u) (sym is)
    (sent_named field_line (codes "start") (codes "$f") x [] [] s t t u h (sent_none t) k)
