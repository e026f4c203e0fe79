-- The tables, memories, modes and functions of segments are read exactly as tokens write them.
use Rattle.std.proofs.Common.{◌≡◌, ℕ, zero, suc, Bool, true, false, List, [], ◌∷◌, ◌++◌, Option, Some, None, refl, sym, ap, subst, ◌∙◌, inl, inr, append_assoc}
use Rattle.std.specs.Prelude.{IsTrue}
use Rattle.std.proofs.Common.{map, ◌⊎◌}
use Rattle.wm_syntax.specs.declared.types.Const.{Const}
use Rattle.wm_syntax.specs.declared.profile.Profile.{Profile}
use Rattle.wm_syntax.specs.Profiles.{HasMode, has}
use Rattle.wm_syntax.specs.declared.profile.Feature.TheVariants.{BulkMemory}
use Rattle.wm_syntax.specs.declared.modules.SegmentMode.TheVariants.{Passive, Active}
use Rattle.wm_syntax.specs.declared.modules.SegmentMode.{SegmentMode}
use Rattle.std.specs.Prelude.{◌&&◌, codes, is_none, slice_get}
use Rattle.std.proofs.lemmas.Bool.{cond-true, cond-false, cond_both, and_parts, and_from, and_left, and_right, false_from_ne_true}
use Rattle.wm_syntax.specs.Spelling.{Each, Form, ◌∣◌, ◌▸◌}
use Rattle.wm_tokens.specs.Tokens.{Token, open_paren, close_paren, string, atom}
use Rattle.wm_tokens.specs.Identifiers.{Id, Ids, AreDistinct, IsIndex, Resolves}
use Rattle.wm_tokens.specs.Written.{Keyword, Names, Nothing}
use Rattle.wm_tokens.specs.Fields.{HasDistinct, IsNoneOf, WritesFunctions, WritesMode, WritesOwn, WritesStrings, WritesTarget}
use Rattle.wm_tokens.proofs.Atoms.{magnitude_more}
use Rattle.wm_tokens.specs.exact.Scan.{magnitude_of}
use Rattle.wm_tokens.proofs.Basics.{chosen, same_some}
use Rattle.wm_bodies.specs.exact.Reading.{Reader, ◌>>=◌, atom_at, id_at, index_of, is_id, is_new, labels_at, place_of, same_bytes, then_at}
use Rattle.wm_bodies.specs.exact.TypeUses.{begins_open}
use Rattle.wm_bodies.proofs.Immediates.{NotId, id_complete, id_sound}
use Rattle.wm_bodies.proofs.Indices.{id_is, index_complete, index_sound, number_not_id, place_found}
use Rattle.wm_bodies.proofs.Readers.{Any, Sound, Complete, BeginsClose, Both, bind_is, bind_ok, is_same, made_is, made_sound, same_is, then_complete, then_sound}
use Rattle.wm_read.specs.exact.Fields.{active_at, after_func, begins_func, begins_strings, bytes_at, functions_at, is_passive, mode_at, offset_at, target_at}
use Rattle.wm_read.proofs.FieldParts.{OfOffset, bytes_complete, bytes_sound, indices_complete, indices_sound, offset_complete, offset_opens, offset_sound}

-- ---- an identifier that no item has

one_more : (o : Option ℕ) → is_none (o >>= λ x. Some (suc x)) ≡ is_none o
one_more None = refl
one_more (Some x) = refl

some_place : (ids : Ids) (a : List ℕ) (x : ℕ) → slice_get ids x ≡ Some (Some a) → is_none (place_of ids a) ≡ false
some_place [] a x e = absurd cc
some_place (None ∷ ids) a zero e = let q : ◌≡◌ {A = Id} None (Some a) = same_some None (Some a) e in absurd cc
some_place (None ∷ ids) a (suc x) e = one_more (place_of ids a) ∙ some_place ids a x e
some_place (Some b ∷ ids) a zero e = let k : b ≡ a = same_some b a (same_some (Some b) (Some a) e) in ap is_none (cond-true (same_bytes b a) _ _ (ap (λ (z : List ℕ). same_bytes z a) k ∙ is_same a))
some_place (Some b ∷ ids) a (suc x) e =
    cond_both (same_bytes b a) _ _ (λ z. is_none z ≡ false) (λ t. refl) (λ t. one_more (place_of ids a) ∙ some_place ids a x e)

new_none : (ids : Ids) (id : Id) → is_new ids id ≡ true → IsNoneOf ids id
new_none ids id new a x is e =
    let t : is_none (place_of ids a) ≡ true = ap (is_new ids) (sym is) ∙ new in
    let f : true ≡ false = sym t ∙ some_place ids a x e in cc

none_new : (ids : Ids) (id : Id) → IsNoneOf ids id → is_new ids id ≡ true
none_new ids None none = refl
none_new ids (Some a) none = by (place_of ids a) refl
  where
    by : (o : Option ℕ) → place_of ids a ≡ o → is_none o ≡ true
    by None e = refl
    by (Some x) e = absurd (none a x refl (place_found ids a x e))

-- ---- the table or memory of a segment

abbrev pub Opens : List Token → Type 0
Opens k = begins_open k ≡ true

opens_not_id : (k : List Token) → Opens k → NotId k
opens_not_id [] f = tt
opens_not_id (open_paren ∷ k) f = tt
opens_not_id (close_paren ∷ k) f = tt
opens_not_id (string b ∷ k) f = tt
opens_not_id (atom a ∷ k) f = absurd (let t : false ≡ true = f in cc)

module _ (ids : Ids) where
  pub target_sound : Sound (target_at ids) (WritesTarget ids)
  target_sound k x rest e =
      let i = bind_ok (id_at k) _ (x, rest) e in
      elim (chosen (is_new ids i.0.0 && begins_open i.0.1) (Some (0, i.0.1)) (atom_at (index_of ids) k) (Some (x, rest)) i.2) [
        | inl t ↦ (
            let g = id_sound k i.0.0 i.0.1 i.1 in
            let same : ◌≡◌ {A = ℕ × List Token} (0, i.0.1) (x, rest) = same_some (0, i.0.1) (x, rest) t.1 in
            let new = and_parts (is_new ids i.0.0) (begins_open i.0.1) t.0 in
            (g.0, g.1 ∙ ap (λ (z : ℕ × List Token). g.0 ++ z.1) same, inr (sym (ap (λ (z : ℕ × List Token). z.0) same), (i.0.0, new_none ids i.0.0 new.0, g.2))))
        | inr t ↦ (let g = index_sound ids k x rest t.1 in (g.0, g.1, inl g.2))
      ]

  an_index : (k : List Token) (i : Id × List Token) → id_at k ≡ Some i → is_new ids i.0 && begins_open i.1 ≡ false → target_at ids k ≡ atom_at (index_of ids) k
  an_index k i e f = bind_is (id_at k) _ i e ∙ cond-false (is_new ids i.0 && begins_open i.1) _ _ f

  known_id : (x : ℕ) (a : List ℕ) → IsIndex ids x a → is_id a ≡ true → is_new ids (Some a) ≡ false
  known_id x a (lt, inl h) t = absurd (let f : false ≡ true = sym (number_not_id x a (magnitude_more x a h.1)) ∙ t in cc)
  known_id x a (lt, inr (i, e)) t = some_place ids a x e

  pub target_complete : AreDistinct ids → Complete (target_at ids) (WritesTarget ids) Opens
  target_complete d x front rest (inl (a, e, is)) f =
      ap (λ (z : List Token). target_at ids (z ++ rest)) e ∙ by (is_id a) refl ∙ ap (λ (z : List Token). atom_at (index_of ids) (z ++ rest)) (sym e)
      ∙ index_complete ids d x front rest (a, e, is) tt
    where
      by : (t : Bool) → is_id a ≡ t → target_at ids (atom a ∷ rest) ≡ atom_at (index_of ids) (atom a ∷ rest)
      by true t = an_index (atom a ∷ rest) (Some a, rest) (cond-true (is_id a) _ _ t) (and_left (is_new ids (Some a)) (begins_open rest) (known_id x a is t))
      by false t = an_index (atom a ∷ rest) (None, atom a ∷ rest) (cond-false (is_id a) _ _ t) refl
  target_complete d x front rest (inr (z, (own, none, w))) f =
      bind_is (id_at (front ++ rest)) _ (own, rest) (id_complete own front rest w (opens_not_id rest f))
      ∙ cond-true (is_new ids own && begins_open rest) _ _ (and_from (is_new ids own) (begins_open rest) (none_new ids own none) f) ∙ ap (λ (y : ℕ). Some (y, rest)) (sym z)

-- ---- the lists of segments

-- The tokens that begin a list: no identifier, no index and no offset.
pub record BeginLists (ids : Ids) (listed : List Token → Bool) : Type 0 where
  pub not_id : (k : List Token) → listed k ≡ true → NotId k
  pub not_open : (k : List Token) → Opens k → listed k ≡ false
  pub not_index : (x : ℕ) (a : List ℕ) (k : List Token) → IsIndex ids x a → listed (atom a ∷ k) ≡ false

abbrev pub BeginsStrings : List Token → Type 0
BeginsStrings k = begins_strings k ≡ true

strings_not_id : (k : List Token) → BeginsStrings k → NotId k
strings_not_id [] f = tt
strings_not_id (open_paren ∷ k) f = tt
strings_not_id (close_paren ∷ k) f = tt
strings_not_id (string b ∷ k) f = tt
strings_not_id (atom a ∷ k) f = absurd (let t : false ≡ true = f in cc)

opens_no_strings : (k : List Token) → Opens k → begins_strings k ≡ false
opens_no_strings [] f = refl
opens_no_strings (open_paren ∷ k) f = refl
opens_no_strings (close_paren ∷ k) f = absurd (let t : false ≡ true = f in cc)
opens_no_strings (string b ∷ k) f = absurd (let t : false ≡ true = f in cc)
opens_no_strings (atom a ∷ k) f = refl

pub begin_strings : (ids : Ids) → BeginLists ids begins_strings
begin_strings ids = record { not_id = strings_not_id; not_open = opens_no_strings; not_index = λ x a k is. refl }

pub strings_begin : (bytes : List ℕ) (front rest : List Token) → WritesStrings bytes front → BeginsClose rest → BeginsStrings (front ++ rest)
strings_begin bytes front rest (items, e, is) f = subst (λ (z : List Token). BeginsStrings (z ++ rest)) (sym is) (by items)
  where
    closed : (k : List Token) → BeginsClose k → BeginsStrings k
    closed [] f = absurd f
    closed (open_paren ∷ k) f = absurd f
    closed (close_paren ∷ k) f = refl
    closed (string b ∷ k) f = absurd f
    closed (atom a ∷ k) f = absurd f

    by : (items : List (List ℕ)) → BeginsStrings (map string items ++ rest)
    by [] = closed rest f
    by (b ∷ items) = refl

func_not_id : (k : List Token) → begins_func k ≡ true → NotId k
func_not_id [] f = tt
func_not_id (open_paren ∷ k) f = tt
func_not_id (close_paren ∷ k) f = tt
func_not_id (string b ∷ k) f = tt
func_not_id (atom a ∷ k) f = ap is_id (same_is a (codes "func") f)

opens_no_func : (k : List Token) → Opens k → begins_func k ≡ false
opens_no_func [] f = refl
opens_no_func (open_paren ∷ k) f = refl
opens_no_func (close_paren ∷ k) f = refl
opens_no_func (string b ∷ k) f = refl
opens_no_func (atom a ∷ k) f = absurd (let t : false ≡ true = f in cc)

func_no_index : (ids : Ids) (x : ℕ) → IsIndex ids x (codes "func") → ⊥
func_no_index ids x (lt, inl h) = no_number (magnitude_more x (codes "func") h.1)
  where
    no_number : magnitude_of (codes "func") ≡ Some x → ⊥
    no_number e = cc
func_no_index ids x (lt, inr (i, e)) = let f : false ≡ true = id_is (codes "func") i in cc

index_no_func : (ids : Ids) (x : ℕ) (a : List ℕ) → IsIndex ids x a → same_bytes a (codes "func") ≡ false
index_no_func ids x a is = false_from_ne_true (same_bytes a (codes "func")) (λ t. func_no_index ids x (subst (IsIndex ids x) (same_is a (codes "func") t) is))

pub begin_func : (ids : Ids) → BeginLists ids begins_func
begin_func ids = record { not_id = func_not_id; not_open = opens_no_func; not_index = λ x a k is. index_no_func ids x a is }

-- ---- the mode of a segment

-- A mode whose segment is of the profile.
abbrev pub OfMode : Profile → Names → Ids → SegmentMode → Form Token
OfMode p names ids Passive = λ k. IsTrue (has p BulkMemory) × WritesOwn ids k
OfMode p names ids (Active x c) = WritesTarget ids x ▸ OfOffset p names c

-- The list of a passive segment comes right after its mode.
abbrev pub Lists : (List Token → Bool) → SegmentMode → List Token → Type 0
Lists listed Passive k = listed k ≡ true
Lists listed (Active x c) k = Unit {0}

pub mode_written : (p : Profile) (names : Names) (ids : Ids) (d : SegmentMode) (k : List Token) → OfMode p names ids d k → WritesMode names ids d k × HasMode p d
mode_written p names ids Passive k h = (h.1, h.0)
mode_written p names ids (Active x c) k (a, b, e, t, (h, of)) = ((a, b, e, t, h), of)

pub mode_of : (p : Profile) (names : Names) (ids : Ids) (d : SegmentMode) (k : List Token) → WritesMode names ids d k → HasMode p d → OfMode p names ids d k
mode_of p names ids Passive k h of = (of, h)
mode_of p names ids (Active x c) k (a, b, e, t, h) of = (a, b, e, t, (h, of))

module _ (p : Profile) (names : Names) (ids : Ids) (listed : List Token → Bool) where
  abbrev is_passive_at : Id × List Token → Bool
  is_passive_at i = is_passive p ids i.0 (listed i.1)

  active_sound : Sound (active_at p names ids) (λ d k. OfMode p names ids d k × ((rest : List Token) → Lists listed d rest))
  active_sound =
      made_sound (λ x. Active x.0 x.1) (then_at (target_at ids) (offset_at p names)) (Both (WritesTarget ids) (OfOffset p names)) (λ d k. OfMode p names ids d k × ((rest : List Token) → Lists listed d rest))
      (then_sound (target_at ids) (offset_at p names) (WritesTarget ids) (OfOffset p names) (target_sound ids) (offset_sound p names)) (λ x front h. (h, λ rest. tt))

  pub mode_found : (k : List Token) (d : SegmentMode) (rest : List Token) → mode_at p names ids listed k ≡ Some (d, rest)
      → (front : List Token) × (k ≡ front ++ rest) × OfMode p names ids d front × Lists listed d rest
  mode_found k d rest e =
      let i = bind_ok (id_at k) _ (d, rest) e in
      elim (chosen (is_passive_at i.0) (Some (Passive, i.0.1)) (active_at p names ids k) (Some (d, rest)) i.2) [
        | inl t ↦ (
            let g = id_sound k i.0.0 i.0.1 i.1 in
            let same : ◌≡◌ {A = SegmentMode × List Token} (Passive, i.0.1) (d, rest) = same_some (Passive, i.0.1) (d, rest) t.1 in
            let both = and_parts (has p BulkMemory && listed i.0.1) (is_new ids i.0.0) t.0 in
            let first = and_parts (has p BulkMemory) (listed i.0.1) both.0 in
            let is : OfMode p names ids Passive g.0 = (first.0, (i.0.0, new_none ids i.0.0 both.1, g.2)) in (
              g.0,
              g.1 ∙ ap (λ (z : SegmentMode × List Token). g.0 ++ z.1) same,
              subst (λ (z : SegmentMode × List Token). OfMode p names ids z.0 g.0) same is,
              subst (λ (z : SegmentMode × List Token). Lists listed z.0 z.1) same first.1,
            ))
        | inr t ↦ (let g = active_sound k d rest t.1 in (g.0, g.1, g.2.0, g.2.1 rest))
      ]

  pub mode_sound : Sound (mode_at p names ids listed) (OfMode p names ids)
  mode_sound k d rest e = let g = mode_found k d rest e in (g.0, g.1, g.2)

  module _ (d : HasDistinct names) (distinct : AreDistinct ids) (begin : BeginLists ids listed) where
    active_complete : (x : ℕ) (c : Const) (front rest : List Token) → OfMode p names ids (Active x c) front → active_at p names ids (front ++ rest) ≡ Some (Active x c, rest)
    active_complete x c front rest h =
        made_is (λ x. Active x.0 x.1) (then_at (target_at ids) (offset_at p names) (front ++ rest)) (x, c) rest
        (then_complete (target_at ids) (offset_at p names) (WritesTarget ids) (OfOffset p names) Opens Any (target_complete ids distinct) (offset_complete p names d)
        (λ y a b w g. offset_opens p names y a b w) (x, c) front rest h tt)

    -- no list comes first, nor after an identifier that no item has
    not_passive : (k : List Token) (i : Id × List Token) → id_at k ≡ Some i → (listed i.1 ≡ false) ⊎ (is_new ids i.0 ≡ false) → mode_at p names ids listed k ≡ active_at p names ids k
    not_passive k i e f = bind_is (id_at k) _ i e ∙ cond-false (is_passive_at i) _ _ (by f)
      where
        by : (listed i.1 ≡ false) ⊎ (is_new ids i.0 ≡ false) → is_passive_at i ≡ false
        by (inl f) = and_left (has p BulkMemory && listed i.1) (is_new ids i.0) (and_right (has p BulkMemory) (listed i.1) f)
        by (inr f) = and_right (has p BulkMemory && listed i.1) (is_new ids i.0) f

    active_first : (x : ℕ) (front rest : List Token) → WritesTarget ids x front → Opens rest → mode_at p names ids listed (front ++ rest) ≡ active_at p names ids (front ++ rest)
    active_first x front rest (inl (a, e, is)) f = ap (λ (z : List Token). mode_at p names ids listed (z ++ rest)) e ∙ by (is_id a) refl ∙ ap (λ (z : List Token). active_at p names ids (z ++ rest)) (sym e)
      where
        by : (t : Bool) → is_id a ≡ t → mode_at p names ids listed (atom a ∷ rest) ≡ active_at p names ids (atom a ∷ rest)
        by true t = not_passive (atom a ∷ rest) (Some a, rest) (cond-true (is_id a) _ _ t) (inr (known_id ids x a is t))
        by false t = not_passive (atom a ∷ rest) (None, atom a ∷ rest) (cond-false (is_id a) _ _ t) (inl (begin.not_index x a rest is))
    active_first x front rest (inr (z, (own, none, w))) f =
        not_passive (front ++ rest) (own, rest) (id_complete own front rest w (opens_not_id rest f)) (inl (begin.not_open rest f))

    pub mode_complete : (m : SegmentMode) (front rest : List Token) → OfMode p names ids m front → Lists listed m rest → mode_at p names ids listed (front ++ rest) ≡ Some (m, rest)
    mode_complete Passive front rest (owned, (own, none, w)) f =
        bind_is (id_at (front ++ rest)) _ (own, rest) (id_complete own front rest w (begin.not_id rest f))
        ∙ cond-true (is_passive_at (own, rest)) _ _
        (and_from (has p BulkMemory && listed rest) (is_new ids own) (and_from (has p BulkMemory) (listed rest) owned f) (none_new ids own none))
    mode_complete (Active x c) front rest h f =
        ap (λ (z : List Token). mode_at p names ids listed (z ++ rest)) h.2 ∙ ap (mode_at p names ids listed) (append_assoc h.0 h.1 rest)
        ∙ active_first x h.0 (h.1 ++ rest) h.3 (offset_opens p names c h.1 rest h.4)
        ∙ ap (active_at p names ids) (sym (append_assoc h.0 h.1 rest)) ∙ ap (λ (z : List Token). active_at p names ids (z ++ rest)) (sym h.2)
        ∙ active_complete x c front rest h

-- ---- the mode and the strings of a data segment

abbrev DataAt : Profile → Names → Reader (SegmentMode × List ℕ)
DataAt p names = then_at (mode_at p names names.memories begins_strings) bytes_at

pub segment_sound : (p : Profile) (names : Names) → Sound (DataAt p names) (Both (OfMode p names names.memories) WritesStrings)
segment_sound p names =
    then_sound (mode_at p names names.memories begins_strings) bytes_at (OfMode p names names.memories) WritesStrings (mode_sound p names names.memories begins_strings) bytes_sound

pub segment_complete : (p : Profile) (names : Names) → HasDistinct names → Complete (DataAt p names) (Both (OfMode p names names.memories) WritesStrings) BeginsClose
segment_complete p names d =
    then_complete (mode_at p names names.memories begins_strings) bytes_at (OfMode p names names.memories) WritesStrings BeginsStrings BeginsClose
    (λ m front rest h f. mode_complete p names names.memories begins_strings d d.memories (begin_strings names.memories) m front rest h (lists m rest f)) bytes_complete strings_begin
  where
    lists : (m : SegmentMode) (k : List Token) → BeginsStrings k → Lists begins_strings m k
    lists Passive k f = f
    lists (Active x c) k f = tt

-- ---- functions of an element segment

func_front : (k : List Token) → (f : List Token) × (k ≡ f ++ after_func k) × (Nothing ∣ Keyword (codes "func")) f
func_front [] = ([], refl, inl refl)
func_front (open_paren ∷ k) = ([], refl, inl refl)
func_front (close_paren ∷ k) = ([], refl, inl refl)
func_front (string b ∷ k) = ([], refl, inl refl)
func_front (atom a ∷ k) = by (same_bytes a (codes "func")) refl
  where
    by : (t : Bool) → same_bytes a (codes "func") ≡ t → (f : List Token) × (atom a ∷ k ≡ f ++ after_func (atom a ∷ k)) × (Nothing ∣ Keyword (codes "func")) f
    by true t = (atom a ∷ [], ap (λ (z : List Token). atom a ∷ z) (sym (cond-true (same_bytes a (codes "func")) k (atom a ∷ k) t)), inr (ap (λ (z : List ℕ). atom z ∷ []) (same_is a (codes "func") t)))
    by false t = ([], sym (cond-false (same_bytes a (codes "func")) k (atom a ∷ k) t), inl refl)

func_passed : (f k : List Token) → (Nothing ∣ Keyword (codes "func")) f → after_func k ≡ k → after_func (f ++ k) ≡ k
func_passed f k (inl e) same = ap (λ (z : List Token). after_func (z ++ k)) e ∙ same
func_passed f k (inr e) same = ap (λ (z : List Token). after_func (z ++ k)) e

no_func : (ids : Ids) (xs : List ℕ) (front rest : List Token) → Each (Resolves ids) xs front → BeginsClose rest → after_func (front ++ rest) ≡ front ++ rest
no_func ids [] front rest e f = ap (λ (z : List Token). after_func (z ++ rest)) e ∙ by rest f ∙ ap (λ (z : List Token). z ++ rest) (sym e)
  where
    by : (rest : List Token) → BeginsClose rest → after_func rest ≡ rest
    by [] f = absurd f
    by (open_paren ∷ k) f = absurd f
    by (close_paren ∷ k) f = refl
    by (string b ∷ k) f = absurd f
    by (atom a ∷ k) f = absurd f
no_func ids (x ∷ xs) front rest (a, b, e, (w, i, is), more) f =
    let text : front ≡ atom w ∷ b = e ∙ ap (λ (z : List Token). z ++ b) i in
    ap (λ (z : List Token). after_func (z ++ rest)) text
    ∙ cond-false (same_bytes w (codes "func")) _ _ (index_no_func ids x w is)
    ∙ ap (λ (z : List Token). z ++ rest) (sym text)

func_first : (k : List Token) → begins_func k ≡ true → k ≡ atom (codes "func") ∷ after_func k
func_first [] f = absurd (let t : false ≡ true = f in cc)
func_first (open_paren ∷ k) f = absurd (let t : false ≡ true = f in cc)
func_first (close_paren ∷ k) f = absurd (let t : false ≡ true = f in cc)
func_first (string b ∷ k) f = absurd (let t : false ≡ true = f in cc)
func_first (atom a ∷ k) f = ap (λ (z : List ℕ). atom z ∷ k) (same_is a (codes "func") f) ∙ ap (λ (z : List Token). atom (codes "func") ∷ z) (sym (cond-true (same_bytes a (codes "func")) k (atom a ∷ k) f))

functions_found : (ids : Ids) (d : SegmentMode) (k : List Token) (xs : List ℕ) (rest : List Token) → Lists begins_func d k → functions_at ids k ≡ Some (xs, rest)
    → (front : List Token) × (k ≡ front ++ rest) × WritesFunctions ids d xs front
functions_found ids Passive k xs rest f e =
    let g = indices_sound ids (after_func k) xs rest e in
    (atom (codes "func") ∷ g.0, func_first k f ∙ ap (λ (z : List Token). atom (codes "func") ∷ z) g.1, (atom (codes "func") ∷ [], g.0, refl, refl, g.2))
functions_found ids (Active x c) k xs rest f e =
    let p = func_front k in
    let g = indices_sound ids (after_func k) xs rest e in
    (p.0 ++ g.0, p.1 ∙ ap (λ (z : List Token). p.0 ++ z) g.1 ∙ sym (append_assoc p.0 g.0 rest), (p.0, g.0, refl, p.2, g.2))

func_word : (ids : Ids) (d : SegmentMode) (xs : List ℕ) (k : List Token) → WritesFunctions ids d xs k → ((Nothing ∣ Keyword (codes "func")) ▸ Each (Resolves ids) xs) k
func_word ids Passive xs k (a, b, e, word, each) = (a, b, e, inr word, each)
func_word ids (Active x c) xs k h = h

functions_complete : (ids : Ids) → AreDistinct ids → (d : SegmentMode) → Complete (functions_at ids) (WritesFunctions ids d) BeginsClose
functions_complete ids distinct d xs front rest h f =
    let w = func_word ids d xs front h in
    ap (λ (z : List Token). functions_at ids (z ++ rest)) w.2 ∙ ap (functions_at ids) (append_assoc w.0 w.1 rest)
    ∙ ap (labels_at ids) (func_passed w.0 (w.1 ++ rest) w.3 (no_func ids xs w.1 rest w.4 f)) ∙ indices_complete ids distinct xs w.1 rest w.4 f

functions_begin : (ids : Ids) (d : SegmentMode) (xs : List ℕ) (front rest : List Token) → WritesFunctions ids d xs front → Lists begins_func d (front ++ rest)
functions_begin ids Passive xs front rest (a, b, e, word, each) =
    ap (λ (z : List Token). begins_func (z ++ rest)) (e ∙ ap (λ (z : List Token). z ++ b) word) ∙ is_same (codes "func")
functions_begin ids (Active x c) xs front rest h = tt

-- ---- the mode and the functions of an element segment

abbrev ElementAt : Profile → Names → Reader (SegmentMode × List ℕ)
ElementAt p names = then_at (mode_at p names names.tables begins_func) (functions_at names.functions)

abbrev OfElement : Profile → Names → SegmentMode × List ℕ → Form Token
OfElement p names z = OfMode p names names.tables z.0 ▸ WritesFunctions names.functions z.0 z.1

pub element_sound : (p : Profile) (names : Names) → Sound (ElementAt p names) (OfElement p names)
element_sound p names k z rest e =
    let m = bind_ok (mode_at p names names.tables begins_func k) (λ x. functions_at names.functions x.1 >>= λ y. Some ((x.0, y.0), y.1)) (z, rest) e in
    let n = bind_ok (functions_at names.functions m.0.1) (λ y. Some ((m.0.0, y.0), y.1)) (z, rest) m.2 in
    let one = mode_found p names names.tables begins_func k m.0.0 m.0.1 m.1 in
    let two = functions_found names.functions m.0.0 m.0.1 n.0.0 n.0.1 one.3 n.1 in
    let is : ◌≡◌ {A = (SegmentMode × List ℕ) × List Token} ((m.0.0, n.0.0), n.0.1) (z, rest) = same_some ((m.0.0, n.0.0), n.0.1) (z, rest) n.2 in
    let whole : k ≡ (one.0 ++ two.0) ++ n.0.1 = one.1 ∙ ap (λ (w : List Token). one.0 ++ w) two.1 ∙ sym (append_assoc one.0 two.0 n.0.1) in (
      one.0 ++ two.0,
      whole ∙ ap (λ (w : (SegmentMode × List ℕ) × List Token). (one.0 ++ two.0) ++ w.1) is,
      subst (λ (w : (SegmentMode × List ℕ) × List Token). OfElement p names w.0 (one.0 ++ two.0)) is (one.0, two.0, refl, one.2, two.2),
    )

pub element_complete : (p : Profile) (names : Names) → HasDistinct names → Complete (ElementAt p names) (OfElement p names) BeginsClose
element_complete p names d z front rest (x, y, e, a, b) f =
    ap (λ (w : List Token). ElementAt p names (w ++ rest)) e ∙ ap (ElementAt p names) (append_assoc x y rest)
    ∙ bind_is (mode_at p names names.tables begins_func (x ++ (y ++ rest))) _ (z.0, y ++ rest)
    (mode_complete p names names.tables begins_func d d.tables (begin_func names.tables) z.0 x (y ++ rest) a (functions_begin names.functions z.0 z.1 y rest b))
    ∙ bind_is (functions_at names.functions (y ++ rest)) _ (z.1, rest) (functions_complete names.functions d.functions z.0 z.1 y rest b f)
