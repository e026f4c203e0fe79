-- A module is read if and only if the tokens write it.
use Rattle.std.proofs.Common.{◌≡◌, ◌≤◌, List, [], ◌∷◌, ◌++◌, Option, Some, None, length, refl, sym, ap, subst, ◌∙◌, ◌↔◌, append_assoc}
use Rattle.std.specs.Prelude.{AllPairs, codes, filter_map}
use Rattle.std.proofs.lemmas.List.{append-nil}
use Rattle.wm_syntax.specs.Spelling.{Each, ◌▸◌}
use Rattle.wm_syntax.specs.declared.profile.Profile.{Profile}
use Rattle.wm_syntax.specs.Modules.{Module}
use Rattle.wm_syntax.specs.Profiles.{IsOf}
use Rattle.wm_tokens.specs.Tokens.{Token, open_paren, close_paren, atom}
use Rattle.wm_tokens.specs.Identifiers.{Id, WritesId}
use Rattle.wm_tokens.specs.Written.{Names}
use Rattle.wm_tokens.specs.Fields.{Field, HasDistinct, IsDefinition, IsImport, WritesField, Writes, module_of, names_of, start_of}
use Rattle.wm_read.specs.exact.Fields.{fields_at}
use Rattle.wm_read.specs.exact.FirstReading.{Noted, nothing, heads_at, names_in, names_at}
use Rattle.wm_bodies.specs.exact.Reading.{◌>>=◌, made, open_at, close_at, atom_at, word_of, id_at}
use Rattle.wm_read.specs.exact.TextModules.{IsFollowed, end_at, frame_at, all_names_at, module_within, module_at}
use Rattle.wm_tokens.proofs.Basics.{same_some}
use Rattle.wm_read.proofs.FieldLaws.{fields_sound, fields_complete}
use Rattle.wm_read.proofs.HeadLaws.{inside, field_opens, heads_are}
use Rattle.wm_read.proofs.HeadSteps.{heads_distinct}
use Rattle.wm_bodies.proofs.Immediates.{NotId, id_sound, id_complete}
use Rattle.wm_bodies.proofs.Readers.{bind_ok, bind_is, made_is, open_found, close_found, word_found, word_is}
use Rattle.wm_read.proofs.Rules.{Keeps, note_all, nothing_distinct, rules_kept, rules_noted}
use Rattle.wm_bodies.proofs.TypeUseLaws.{KnowsTypes}

-- ---- the frame

-- The tokens before the fields.
frame_found : (k j : List Token) → frame_at k ≡ Some j → (id : Id) × (front : List Token) × (k ≡ open_paren ∷ atom (codes "module") ∷ (front ++ j)) × WritesId id front
frame_found k j e =
    let o = bind_ok (open_at k) (λ o. atom_at (word_of (codes "module")) o.1 >>= λ w. id_at w.1 >>= λ i. Some i.1) j e in
    let w = bind_ok (atom_at (word_of (codes "module")) o.0.1) (λ w. id_at w.1 >>= λ i. Some i.1) j o.2 in
    let i = bind_ok (id_at w.0.1) (λ i. Some i.1) j w.2 in
    let g = id_sound w.0.1 i.0.0 i.0.1 i.1 in
    let is : i.0.1 ≡ j = same_some i.0.1 j i.2 in (
      i.0.0,
      g.0,
      open_found k o.0 o.1 ∙ ap (λ (z : List Token). open_paren ∷ z) (word_found (codes "module") o.0.1 w.0 w.1)
          ∙ ap (λ (z : List Token). open_paren ∷ atom (codes "module") ∷ z) (g.1 ∙ ap (λ (z : List Token). g.0 ++ z) is),
      g.2,
    )

frame_is : (id : Id) (front j : List Token) → WritesId id front → NotId j → frame_at (open_paren ∷ atom (codes "module") ∷ (front ++ j)) ≡ Some j
frame_is id front j w n =
    bind_is (atom_at (word_of (codes "module")) (atom (codes "module") ∷ (front ++ j))) (λ w. id_at w.1 >>= λ i. Some i.1) (tt, front ++ j) (word_is (codes "module") (front ++ j))
    ∙ bind_is (id_at (front ++ j)) (λ i. Some i.1) (id, j) (id_complete id front j w n)

end_found : (k : List Token) (x : Unit {0}) → end_at k ≡ Some x → k ≡ []
end_found [] x e = refl
end_found (t ∷ k) x e = absurd cc

-- ---- the names

-- The notes of the first pass over these fields.
noted_is : (pr : Profile) (names : Names) (fs : List Field) (front rest : List Token) → KnowsTypes pr (names_of fs) → Each (WritesField names) fs front
    → names_at pr (front ++ close_paren ∷ rest) ≡ names_in (note_all nothing fs >>= λ t. Some (t, close_paren ∷ rest))
noted_is pr names fs front rest of h = ap names_in (heads_are pr names nothing fs front (close_paren ∷ rest) of h refl)

-- The names are those of the fields, the fields keep the rules, and no token is left.
record Found (names : Names) (fs : List Field) (rest : List Token) : Type 0 where
  same : names ≡ names_of fs
  keeps : Keeps fs
  ends : rest ≡ []

names_found : (pr : Profile) (written names : Names) (fs : List Field) (front rest : List Token) → KnowsTypes pr (names_of fs) → Each (WritesField written) fs front → all_names_at pr (front ++ close_paren ∷ rest) ≡ Some names → Found names fs rest
names_found pr written names fs front rest of h e = by (note_all nothing fs) refl
  where
    shown : all_names_at pr (front ++ close_paren ∷ rest) ≡ ◌>>=◌ {B = Names} (names_in (note_all nothing fs >>= λ t. Some (t, close_paren ∷ rest))) (λ n. close_at n.1 >>= λ c. end_at c.1 >>= λ e. Some n.0)
    shown = ap (λ (o : Option (Names × List Token)). ◌>>=◌ {B = Names} o (λ n. close_at n.1 >>= λ c. end_at c.1 >>= λ e. Some n.0)) (noted_is pr written fs front rest of h)

    by : (o : Option Noted) → note_all nothing fs ≡ o → Found names fs rest
    by None n =
        let none : all_names_at pr (front ++ close_paren ∷ rest) ≡ None =
        shown ∙ ap (λ (o : Option Noted). ◌>>=◌ {B = Names} (names_in (o >>= λ t. Some (t, close_paren ∷ rest))) (λ n. close_at n.1 >>= λ c. end_at c.1 >>= λ e. Some n.0)) n in
        absurd (let f : ◌≡◌ {A = Option Names} None (Some names) = sym none ∙ e in cc)
    by (Some t) n =
        let some : all_names_at pr (front ++ close_paren ∷ rest) ≡ (end_at rest >>= λ e. Some t.names) =
        shown ∙ ap (λ (o : Option Noted). ◌>>=◌ {B = Names} (names_in (o >>= λ t. Some (t, close_paren ∷ rest))) (λ n. close_at n.1 >>= λ c. end_at c.1 >>= λ e. Some n.0)) n in
        let g = bind_ok (end_at rest) (λ e. Some t.names) names (sym some ∙ e) in
        let rules = rules_kept fs t n in
        record { same = sym (same_some t.names names g.2) ∙ rules.0; keeps = rules.1; ends = end_found rest g.0 g.1 }

-- the names are distinct, whatever the fields are
names_distinct : (pr : Profile) (k : List Token) (names : Names) → all_names_at pr k ≡ Some names → HasDistinct names
names_distinct pr k names e =
    let n = bind_ok (names_at pr k) (λ n. close_at n.1 >>= λ c. end_at c.1 >>= λ e. Some n.0) names e in
    let c = bind_ok (close_at n.0.1) (λ c. end_at c.1 >>= λ e. Some n.0.0) names n.2 in
    let l = bind_ok (end_at c.0.1) (λ e. Some n.0.0) names c.2 in
    let h = bind_ok (heads_at pr nothing k) (λ x. Some (x.0.names, x.1)) n.0 n.1 in
    let is : h.0.0.names ≡ names = ap (λ (z : Names × List Token). z.0) (same_some (h.0.0.names, h.0.1) n.0 h.2) ∙ same_some n.0.0 names l.2 in
    subst HasDistinct is (heads_distinct pr nothing h.0.0 k h.0.1 h.1 nothing_distinct)

all_names_is : (pr : Profile) (written : Names) (fs : List Field) (front : List Token) → KnowsTypes pr (names_of fs) → Each (WritesField written) fs front → Keeps fs → all_names_at pr (front ++ close_paren ∷ []) ≡ Some (names_of fs)
all_names_is pr written fs front of h k =
    let t = rules_noted fs k in
    ap (λ (o : Option (Names × List Token)). ◌>>=◌ {B = Names} o (λ n. close_at n.1 >>= λ c. end_at c.1 >>= λ e. Some n.0))
    (noted_is pr written fs front [] of h ∙ ap (λ (o : Option Noted). names_in (o >>= λ t. Some (t, close_paren ∷ []))) t.1)
    ∙ ap Some t.2

-- fields begin with no identifier
fields_not_id : (names : Names) (fs : List Field) (front rest : List Token) → Each (WritesField names) fs front → NotId (front ++ close_paren ∷ rest)
fields_not_id names [] front rest h = subst (λ (z : List Token). NotId (z ++ close_paren ∷ rest)) (sym h) tt
fields_not_id names (f ∷ fs) front rest (a, b, e, w, more) =
    let o = field_opens names f a w in subst (λ (z : List Token). NotId (z ++ close_paren ∷ rest)) (sym (e ∙ ap (λ (z : List Token). z ++ b) o.1)) tt

pub found : (p : Profile) (k : List Token) (m : Module) → module_at p k ≡ Some m → Writes p k m
unfolding module_at
found p k m e =
    let frame = bind_ok (frame_at k) (λ j. all_names_at p j >>= λ names. module_within p names j) m e in
    let j = frame.0 in
    let names = bind_ok (all_names_at p j) (λ names. module_within p names j) m frame.2 in
    let value = bind_ok (made module_of (fields_at p names.0 j)) (λ f. close_at f.1 >>= λ c. Some f.0) m names.2 in
    let fields = bind_ok (fields_at p names.0 j) (λ f. Some (module_of f.0, f.1)) value.0 value.1 in
    let fs = fields.0.0 in
    let read : ◌≡◌ {A = Module × List Token} (module_of fs, fields.0.1) value.0 = same_some (module_of fs, fields.0.1) value.0 fields.2 in
    let c = bind_ok (close_at value.0.1) (λ c. Some value.0.0) m value.2 in
    let f = fields_sound p names.0 (names_distinct p j names.0 names.1) j fs fields.0.1 fields.1 in
    let rest = c.0.1 in
    let behind : j ≡ f.0 ++ close_paren ∷ rest = f.1 ∙ ap (λ (z : List Token). f.0 ++ z) (ap (λ (z : Module × List Token). z.1) read ∙ close_found value.0.1 c.0 c.1) in
    let g = names_found p names.0 names.0 fs f.0 rest f.2.1.types f.2.0 (ap (all_names_at p) (sym behind) ∙ names.1) in
    let h = frame_found k j frame.1 in
    let all : k ≡ open_paren ∷ atom (codes "module") ∷ ((h.1 ++ f.0) ++ close_paren ∷ []) =
    h.2 ∙ ap (λ (z : List Token). open_paren ∷ atom (codes "module") ∷ z)
    (ap (λ (z : List Token). h.1 ++ z) (behind ∙ ap (λ (z : List Token). f.0 ++ close_paren ∷ z) g.ends) ∙ sym (append_assoc h.1 f.0 (close_paren ∷ []))) in
    let is : module_of fs ≡ m = ap (λ (z : Module × List Token). z.0) read ∙ same_some value.0.0 m c.2 in
    record {
      id = h.0;
      fields = fs;
      text = (
        open_paren ∷ atom (codes "module") ∷ [],
        (h.1 ++ f.0) ++ close_paren ∷ [],
        all,
        refl,
        (h.1 ++ f.0, close_paren ∷ [], refl, (h.1, f.0, refl, h.3, subst (λ (z : Names). Each (WritesField z) fs f.0) g.same f.2.0), refl),
      );
      value = is;
      instructions = subst (IsOf p) is f.2.1;
      imports_first = g.keeps.imports_first;
      one_start = g.keeps.one_start;
      distinct = g.keeps.distinct;
    }

pub more : (p : Profile) (k : List Token) (m : Module) → Writes p k m → module_at p k ≡ Some m
unfolding module_at
more p k m w = by (inside (codes "module") (WritesId w.id ▸ Each (WritesField (names_of w.fields)) w.fields) k w.text)
  where
    names : Names
    names = names_of w.fields

    by : (x : List Token) × ((WritesId w.id ▸ Each (WritesField (names_of w.fields)) w.fields) x) × ((rest : List Token) → k ++ rest ≡ open_paren ∷ atom (codes "module") ∷ (x ++ close_paren ∷ rest)) → module_at p k ≡ Some m
    by (x, (a, b, e, i, h), text) =
        let j : List Token = b ++ close_paren ∷ [] in
        let of : IsOf p (module_of w.fields) = subst (IsOf p) (sym w.value) w.instructions in
        let all : k ≡ open_paren ∷ atom (codes "module") ∷ (a ++ j) =
        sym (append-nil k) ∙ text [] ∙ ap (λ (z : List Token). open_paren ∷ atom (codes "module") ∷ z) (ap (λ (z : List Token). z ++ close_paren ∷ []) e ∙ append_assoc a b (close_paren ∷ [])) in
        ap (module_at p) all
        ∙ bind_is (frame_at (open_paren ∷ atom (codes "module") ∷ (a ++ j))) (λ j. all_names_at p j >>= λ names. module_within p names j) j (frame_is w.id a j i (fields_not_id (names_of w.fields) w.fields b [] h))
        ∙ bind_is (all_names_at p j) (λ names. module_within p names j) (names_of w.fields)
        (all_names_is p (names_of w.fields) w.fields b of.types h (record { imports_first = w.imports_first; one_start = w.one_start; distinct = w.distinct }))
        ∙ bind_is (made module_of (fields_at p (names_of w.fields) j)) (λ f. close_at f.1 >>= λ c. Some f.0) (module_of w.fields, close_paren ∷ [])
        (made_is module_of (fields_at p (names_of w.fields) j) w.fields (close_paren ∷ [])
        (fields_complete p (names_of w.fields) w.distinct of.types w.fields b (close_paren ∷ []) (h, of) tt))
        ∙ ap Some w.value

-- tokens write one module
pub one_module : (p : Profile) (k : List Token) (m n : Module) → Writes p k m → Writes p k n → m ≡ n
one_module p k m n v w = same_some m n (sym (more p k m v) ∙ more p k n w)

pub law_modules : (p : Profile) (k : List Token) (m : Module) → (module_at p k ≡ Some m) ↔ Writes p k m
law_modules p k m = (found p k m, more p k m)

-- ---- the law of heads

pub heads_are_written : (pr : Profile) (written names : Names) (fs : List Field) (front more rest : List Token) → KnowsTypes pr (names_of fs) → Each (WritesField written) fs front → names_at pr (front ++ close_paren ∷ more) ≡ Some (names, rest)
    → (names ≡ names_of fs) × (rest ≡ close_paren ∷ more) × AllPairs (λ f g. IsDefinition f → IsImport g → ⊥) fs × (length (filter_map start_of fs) ≤ 1) × HasDistinct (names_of fs)
heads_are_written pr written names fs front more rest of h e = by (note_all nothing fs) refl
  where
    shown : (o : Option Noted) → note_all nothing fs ≡ o → names_at pr (front ++ close_paren ∷ more) ≡ names_in (o >>= λ t. Some (t, close_paren ∷ more))
    shown o n = noted_is pr written fs front more of h ∙ ap (λ (z : Option Noted). names_in (z >>= λ t. Some (t, close_paren ∷ more))) n

    by : (o : Option Noted) → note_all nothing fs ≡ o
        → (names ≡ names_of fs) × (rest ≡ close_paren ∷ more) × AllPairs (λ f g. IsDefinition f → IsImport g → ⊥) fs × (length (filter_map start_of fs) ≤ 1) × HasDistinct (names_of fs)
    by None n = absurd (let f : ◌≡◌ {A = Option (Names × List Token)} None (Some (names, rest)) = sym (shown None n) ∙ e in cc)
    by (Some t) n =
        let is : ◌≡◌ {A = Names × List Token} (t.names, close_paren ∷ more) (names, rest) = same_some (t.names, close_paren ∷ more) (names, rest) (sym (shown (Some t) n) ∙ e) in
        let rules = rules_kept fs t n in
        (sym (ap (λ (z : Names × List Token). z.0) is) ∙ rules.0, sym (ap (λ (z : Names × List Token). z.1) is), rules.1.imports_first, rules.1.one_start, rules.1.distinct)

pub heads_are_read : (pr : Profile) (written : Names) (fs : List Field) (front more : List Token) → KnowsTypes pr (names_of fs) → Each (WritesField written) fs front
    → AllPairs (λ f g. IsDefinition f → IsImport g → ⊥) fs → length (filter_map start_of fs) ≤ 1 → HasDistinct (names_of fs)
    → names_at pr (front ++ close_paren ∷ more) ≡ Some (names_of fs, close_paren ∷ more)
heads_are_read pr written fs front more of h order once distinct =
    let t = rules_noted fs (record { imports_first = order; one_start = once; distinct = distinct }) in
    noted_is pr written fs front more of h ∙ ap (λ (o : Option Noted). names_in (o >>= λ t. Some (t, close_paren ∷ more))) t.1
    ∙ ap (λ (z : Names). Some (z, close_paren ∷ more)) t.2

-- ---- tokens after a module

-- tokens that write a module, and one more
pub followed : (p : Profile) (k : List Token) (m : Module) (t : Token) (more : List Token) → Writes p k m → IsFollowed p (k ++ t ∷ more)
followed p k m t more w = by (inside (codes "module") (WritesId w.id ▸ Each (WritesField (names_of w.fields)) w.fields) k w.text)
  where
    by : (x : List Token) × ((WritesId w.id ▸ Each (WritesField (names_of w.fields)) w.fields) x) × ((rest : List Token) → k ++ rest ≡ open_paren ∷ atom (codes "module") ∷ (x ++ close_paren ∷ rest)) → IsFollowed p (k ++ t ∷ more)
    by (x, (a, b, e, i, h), text) =
        let j : List Token = b ++ close_paren ∷ t ∷ more in
        let of : IsOf p (module_of w.fields) = subst (IsOf p) (sym w.value) w.instructions in
        let all : k ++ t ∷ more ≡ open_paren ∷ atom (codes "module") ∷ (a ++ j) =
        text (t ∷ more) ∙ ap (λ (z : List Token). open_paren ∷ atom (codes "module") ∷ z) (ap (λ (z : List Token). z ++ close_paren ∷ t ∷ more) e ∙ append_assoc a b (close_paren ∷ t ∷ more)) in
        record {
          inner = j;
          names = names_of w.fields;
          next = t;
          more = more;
          frame = ap frame_at all ∙ frame_is w.id a j i (fields_not_id (names_of w.fields) w.fields b (t ∷ more) h);
          read = heads_are_read p (names_of w.fields) w.fields b (t ∷ more) of.types h w.imports_first w.one_start w.distinct;
        }
