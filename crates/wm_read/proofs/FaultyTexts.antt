-- A text with a lexical error writes no module. Under a profile without floats, the atoms of a module are identifiers,
-- numbers and keywords.
use Rattle.std.proofs.Common.{◌≡◌, ℕ, Bool, true, false, List, [], ◌∷◌, ◌++◌, refl, sym, ap, subst, ◌∙◌, inl, inr, append_assoc}
use Rattle.wm_syntax.specs.Profiles.{HasMode}
use Rattle.wm_tokens.specs.Fields.{WritesMode}
use Rattle.std.proofs.lemmas.List.{append-nil}
use Rattle.std.specs.List.{AllByRecursion}
use Rattle.std.specs.Prelude.{IsTrue, codes, filter_map, map}
use Rattle.wm_syntax.specs.Spelling.{Form, Each, ◌▸◌}
use Rattle.wm_syntax.specs.Types.{Signature}
use Rattle.wm_syntax.specs.declared.modules.ImportDesc.{ImportDesc}
use Rattle.wm_syntax.specs.declared.modules.ImportDesc.TheVariants.{Func, Table, Memory, Global}
use Rattle.wm_syntax.specs.declared.profile.Profile.{Profile}
use Rattle.wm_syntax.specs.declared.profile.Feature.TheVariants.{Floats}
use Rattle.wm_syntax.specs.Modules.{Module}
use Rattle.wm_syntax.specs.Profiles.{has, HasConst, HasFunction, HasGlobal, HasInstructions, IsOf}
use Rattle.wm_syntax.proofs.ProfileLaws.{all_append}
use Rattle.wm_tokens.specs.Tokens.{Token, open_paren, close_paren, string, atom, Blank, LastSpace, AreTokens}
use Rattle.wm_tokens.specs.TokenFaults.{IsAmong, LeadsTo, FirstFault}
use Rattle.wm_tokens.specs.TokenFaults as lead
use Rattle.wm_tokens.specs.Identifiers.{Id, WritesId, Resolves}
use Rattle.wm_tokens.specs.Written.{Paren, WritesGroups, WritesResults, Names, Scope, TypeUse, WritesInstructions, ids_of}
use Rattle.wm_tokens.specs.Fields.{Field, type_field, import_field, function_field, table_field, memory_field, global_field, export_field, start_field, element_field, segment_field, WritesName, WritesSignature, WritesLimits, WritesTableType, WritesGlobalType, WritesConst, WritesDesc, WritesExport, WritesFunctions, WritesStrings, WritesField, Writes, function_of, global_of, element_of, segment_of, names_of}
use Rattle.wm_read.specs.Spellings.{IsTextOf, replaced}
use Rattle.wm_tokens.specs.declared.faults.TextWhy.{TextWhy}
use Rattle.wm_read.specs.declared.spellings.Spellings.{Spellings}
use Rattle.wm_read.specs.declared.spellings.Spellings.TheVariants.{Standard, Older}
use Rattle.wm_bodies.specs.exact.Reading.{is_word}
use Rattle.wm_tokens.specs.inner.Places.{HasNoFloat, over_blank}
use Rattle.wm_tokens.proofs.Ahead.{ahead_last}
use Rattle.wm_read.proofs.OlderWords.{stays_or_word}
use Rattle.wm_tokens.proofs.Places.{lead_steps, moved, no_tokens, steps_any}
use Rattle.wm_tokens.proofs.Whole.{ahead_nil}
use Rattle.wm_read.proofs.WrittenForms.{Closed, keeps_then, keeps_paren, keeps_id, keeps_groups, keeps_results, keeps_index, keeps_use, keeps_instructions, keeps_limits, keeps_table_type, keeps_global_type, keeps_const, keeps_name, keeps_export, keeps_element, keeps_segment}

-- each token is one without floats
abbrev Plain : List Token → Type 0
Plain = AllByRecursion (IsAmong false)

abbrev IsPlain : List ℕ → Type 0
IsPlain a = IsAmong false (atom a)

plain_join : (f g : List Token) → Plain f → Plain g → Plain (f ++ g)
plain_join = all_append (IsAmong false)

plain_word : (a : List ℕ) → is_word a ≡ true → IsPlain a
plain_word [] h = absurd (let f : false ≡ true = h in cc)
plain_word (c ∷ a) h = inr (inr (inr h))

closed : Closed Plain IsPlain
closed = record {
  nil = tt;
  join = plain_join;
  one = λ a h. (h, tt);
  text = λ b. (tt, tt);
  paren = λ w f h p. (tt, (h, plain_join f (close_paren ∷ []) p (tt, tt)));
  word = plain_word;
  identifier = λ a h. inr (inl h);
  number = λ a h. inr (inr (inl h));
}

-- ---- the tokens that write a module

module _ (p : Profile) (none : has p Floats ≡ false) where
  float : IsTrue (has p Floats) → (a : List ℕ) → IsPlain a
  float h a = absurd (let f : false ≡ true = sym none ∙ h in cc)

  abbrev AllPlain : Form Token → Type 0
  AllPlain P = (f : List Token) → P f → Plain f

  then : (P Q : Form Token) → AllPlain P → AllPlain Q → AllPlain (P ▸ Q)
  then = keeps_then Plain IsPlain closed p float

  paren : (w : List ℕ) → is_word w ≡ true → (P : Form Token) → AllPlain P → AllPlain (Paren w P)
  paren = keeps_paren Plain IsPlain closed p float

  plain_id : (id : Id) → AllPlain (WritesId id)
  plain_id = keeps_id Plain IsPlain closed p float

  plain_signature : (t : Signature) → AllPlain (WritesSignature t)
  plain_signature t f (ps, is, h) =
      paren (codes "func") refl (WritesGroups (codes "param") ps ▸ WritesResults t.results)
      (then (WritesGroups (codes "param") ps) (WritesResults t.results) (keeps_groups Plain IsPlain closed p float (codes "param") refl ps) (keeps_results Plain IsPlain closed p float t.results)) f h

  plain_desc : (names : Names) (id : Id) (d : ImportDesc) → AllPlain (WritesDesc names id d)
  plain_desc names id (Func x) f (ps, h) =
      paren (codes "func") refl (WritesId id ▸ TypeUse names x ps) (then (WritesId id) (TypeUse names x ps) (plain_id id) (keeps_use Plain IsPlain closed p float names x ps)) f h
  plain_desc names id (Table l) f h =
      paren (codes "table") refl (WritesId id ▸ WritesTableType l) (then (WritesId id) (WritesTableType l) (plain_id id) (keeps_table_type Plain IsPlain closed p float l)) f h
  plain_desc names id (Memory l) f h =
      paren (codes "memory") refl (WritesId id ▸ WritesLimits l) (then (WritesId id) (WritesLimits l) (plain_id id) (keeps_limits Plain IsPlain closed p float l)) f h
  plain_desc names id (Global g) f h =
      paren (codes "global") refl (WritesId id ▸ WritesGlobalType g.var g.ty)
      (then (WritesId id) (WritesGlobalType g.var g.ty) (plain_id id) (keeps_global_type Plain IsPlain closed p float g.var g.ty)) f h

  -- its instructions are of the profile
  abbrev IsFine : Field → Type 0
  IsFine (function_field id f) = HasInstructions p f.body
  IsFine (global_field id g) = HasConst p g.init
  IsFine (element_field e) = HasMode p e.mode
  IsFine (segment_field s) = HasMode p s.mode
  IsFine _ = Unit {0}

  plain_field : (names : Names) (x : Field) → IsFine x → AllPlain (WritesField names x)
  plain_field names (type_field id t) fine f h =
      paren (codes "type") refl (WritesId id ▸ WritesSignature t) (then (WritesId id) (WritesSignature t) (plain_id id) (plain_signature t)) f h
  plain_field names (import_field id i) fine f h =
      paren (codes "import") refl (WritesName i.module_name ▸ WritesName i.item_name ▸ WritesDesc names id i.desc)
      (then (WritesName i.module_name) (WritesName i.item_name ▸ WritesDesc names id i.desc) (keeps_name Plain IsPlain closed p float i.module_name)
      (then (WritesName i.item_name) (WritesDesc names id i.desc) (keeps_name Plain IsPlain closed p float i.item_name) (plain_desc names id i.desc))) f h
  plain_field names (function_field id x) fine f (params, locals, is, lt, distinct, h) =
      let scope : Scope = record { names = names; locals = ids_of (params ++ locals) } in
      paren (codes "func") refl (WritesId id ▸ TypeUse names x.type_index params ▸ WritesGroups (codes "local") locals ▸ WritesInstructions scope [] x.body)
      (then (WritesId id) (TypeUse names x.type_index params ▸ WritesGroups (codes "local") locals ▸ WritesInstructions scope [] x.body) (plain_id id)
      (then (TypeUse names x.type_index params) (WritesGroups (codes "local") locals ▸ WritesInstructions scope [] x.body) (keeps_use Plain IsPlain closed p float names x.type_index params)
      (then (WritesGroups (codes "local") locals) (WritesInstructions scope [] x.body) (keeps_groups Plain IsPlain closed p float (codes "local") refl locals)
      (keeps_instructions Plain IsPlain closed p float scope [] x.body fine)))) f h
  plain_field names (table_field id l) fine f h =
      paren (codes "table") refl (WritesId id ▸ WritesTableType l) (then (WritesId id) (WritesTableType l) (plain_id id) (keeps_table_type Plain IsPlain closed p float l)) f h
  plain_field names (memory_field id l) fine f h =
      paren (codes "memory") refl (WritesId id ▸ WritesLimits l) (then (WritesId id) (WritesLimits l) (plain_id id) (keeps_limits Plain IsPlain closed p float l)) f h
  plain_field names (global_field id g) fine f h =
      paren (codes "global") refl (WritesId id ▸ WritesGlobalType g.ty.var g.ty.ty ▸ WritesConst names g.init)
      (then (WritesId id) (WritesGlobalType g.ty.var g.ty.ty ▸ WritesConst names g.init) (plain_id id)
      (then (WritesGlobalType g.ty.var g.ty.ty) (WritesConst names g.init) (keeps_global_type Plain IsPlain closed p float g.ty.var g.ty.ty) (keeps_const Plain IsPlain closed p float names g.init fine))) f h
  plain_field names (export_field e) fine f h =
      paren (codes "export") refl (WritesName e.name ▸ WritesExport names e.kind e.index) (keeps_export Plain IsPlain closed p float names e) f h
  plain_field names (start_field x) fine f h =
      paren (codes "start") refl (Resolves names.functions x) (keeps_index Plain IsPlain closed p float names.functions x) f h
  plain_field names (element_field e) fine f h =
      paren (codes "elem") refl (WritesMode names names.tables e.mode ▸ WritesFunctions names.functions e.mode e.functions)
      (keeps_element Plain IsPlain closed p float names e fine) f h
  plain_field names (segment_field s) fine f h =
      paren (codes "data") refl (WritesMode names names.memories s.mode ▸ WritesStrings s.bytes)
      (keeps_segment Plain IsPlain closed p float names s fine) f h

  plain_fields : (names : Names) (fields : List Field) → AllByRecursion IsFine fields → AllPlain (Each (WritesField names) fields)
  plain_fields names [] fine f e = subst Plain (sym e) tt
  plain_fields names (x ∷ fields) fine f (a, b, e, u, v) =
      subst Plain (sym e) (plain_join a b (plain_field names x fine.0 a u) (plain_fields names fields fine.1 b v))

  all_fine : (fields : List Field) → AllByRecursion (HasFunction p) (filter_map function_of fields) → AllByRecursion (HasGlobal p) (filter_map global_of fields)
      → AllByRecursion (λ e. HasMode p e.mode) (filter_map element_of fields) → AllByRecursion (λ s. HasMode p s.mode) (filter_map segment_of fields) → AllByRecursion IsFine fields
  all_fine [] f g e s = tt
  all_fine (type_field id t ∷ fields) f g e s = (tt, all_fine fields f g e s)
  all_fine (import_field id i ∷ fields) f g e s = (tt, all_fine fields f g e s)
  all_fine (function_field id x ∷ fields) f g e s = (f.0.1, all_fine fields f.1 g e s)
  all_fine (table_field id l ∷ fields) f g e s = (tt, all_fine fields f g e s)
  all_fine (memory_field id l ∷ fields) f g e s = (tt, all_fine fields f g e s)
  all_fine (global_field id x ∷ fields) f g e s = (g.0.1, all_fine fields f g.1 e s)
  all_fine (export_field x ∷ fields) f g e s = (tt, all_fine fields f g e s)
  all_fine (start_field x ∷ fields) f g e s = (tt, all_fine fields f g e s)
  all_fine (element_field x ∷ fields) f g e s = (e.0, all_fine fields f g e.1 s)
  all_fine (segment_field x ∷ fields) f g e s = (s.0, all_fine fields f g e s.1)

  written_plain : (k : List Token) (m : Module) → Writes p k m → Plain k
  written_plain k m w =
      let o = subst (IsOf p) (sym w.value) w.instructions in
      paren (codes "module") refl (WritesId w.id ▸ Each (WritesField (names_of w.fields)) w.fields)
      (then (WritesId w.id) (Each (WritesField (names_of w.fields)) w.fields) (plain_id w.id)
      (plain_fields (names_of w.fields) w.fields (all_fine w.fields o.functions o.globals o.elements o.segments))) k w.text

-- an older word is a word
replaced_plain : (s : Spellings) (t : Token) → IsAmong false (replaced s t) → IsAmong false t
replaced_plain Standard t h = h
replaced_plain Older open_paren h = h
replaced_plain Older close_paren h = h
replaced_plain Older (string b) h = h
replaced_plain Older (atom a) h = elim (stays_or_word a) [
  | inl same ↦ subst IsPlain same h
  | inr word ↦ plain_word a word
]

all_replaced_plain : (s : Spellings) (k : List Token) → Plain (map (replaced s) k) → Plain k
all_replaced_plain s [] h = tt
all_replaced_plain s (t ∷ k) h = (replaced_plain s t h.0, all_replaced_plain s k h.1)

-- ---- a text of these tokens has no lexical error

lead_spaces : (text : List ℕ) (parts : List (List ℕ)) (b front back : List ℕ) → LeadsTo false text b → b ≡ front ++ back → Each (λ part x. (x ≡ part) × Blank part) parts front → LeadsTo false text back
lead_spaces text [] b front back l is e = subst (LeadsTo false text) (is ∙ ap (λ (z : List ℕ). z ++ back) e) l
lead_spaces text (part ∷ parts) b front back l is (x, y, e, (same, space), more) =
    let whole : b ≡ part ++ (y ++ back) = is ∙ ap (λ (z : List ℕ). z ++ back) e ∙ append_assoc x y back ∙ ap (λ (z : List ℕ). z ++ (y ++ back)) same in
    lead_spaces text parts (y ++ back) y back (lead.over_blank part l whole space) refl more

lead_tokens : (text : List ℕ) (k : List Token) (b : List ℕ) → LeadsTo false text b → AreTokens k b → Plain k → (rest : List ℕ) × LeadsTo false text rest × LastSpace rest
lead_tokens text [] b l h plain = (b, l, h)
lead_tokens text (t ∷ k) b l (front, back, is, (parts, spaces), (part, rest, cut, token, ends, more)) plain =
    let s = lead_spaces text parts b front back l is spaces in
    lead_tokens text k rest (lead.over_token part t s cut token ends plain.0) more plain.1

no_float : (text rest : List ℕ) → LeadsTo false text rest → LastSpace rest → HasNoFloat text
no_float text rest l (inl (parts, spaces)) =
    ([], lead_steps false text [] (lead_spaces text parts rest rest [] l (sym (append-nil rest)) spaces), inl (sym ahead_nil))
no_float text rest l (inr (x, y, cut, (parts, spaces), line)) =
    ([], over_blank (lead_steps false text y (lead_spaces text parts rest x y l cut spaces)) (sym (ahead_last y line)), inl (sym ahead_nil))

pub no_module : (p : Profile) (s : Spellings) (text : List ℕ) (w : TextWhy) (n : ℕ) (m : Module) → FirstFault (has p Floats) text w n → IsTextOf p s m text → ⊥
no_module p s text w n m first (k, tokens, written) = by (has p Floats) refl first
  where
    by : (b : Bool) → has p Floats ≡ b → FirstFault b text w n → ⊥
    by true is first = no_tokens text w n k first tokens
    by false is first =
        let plain = all_replaced_plain s k (written_plain p is (map (replaced s) k) m written) in
        let l = lead_tokens text k text lead.here tokens.1 plain in
        let no = no_float text l.0 l.1 l.2 in
        no_tokens text w n k (moved false true text no.0 w n no.1 (steps_any text no.0 no.1) no.2 first) tokens
