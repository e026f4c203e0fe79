-- The parentheses of a field's tokens balance, so skipping ends right after the field.
use Rattle.std.proofs.Common.{◌≡◌, ℕ, suc, Bool, true, List, [], ◌∷◌, ◌++◌, refl, ap, ◌∙◌, append_assoc}
use Rattle.wm_syntax.specs.Profiles.{HasMode}
use Rattle.wm_syntax.specs.declared.modules.SegmentMode.TheVariants.{Passive, Active}
use Rattle.wm_syntax.specs.declared.modules.SegmentMode.{SegmentMode}
use Rattle.wm_tokens.specs.Fields.{WritesMode}
use Rattle.std.specs.Prelude.{IsTrue}
use Rattle.wm_syntax.specs.Spelling.{Form, ◌▸◌}
use Rattle.wm_syntax.specs.declared.types.ValType.{ValType}
use Rattle.wm_syntax.specs.declared.types.Const.{Const}
use Rattle.wm_syntax.specs.declared.types.Limits.{Limits}
use Rattle.wm_syntax.specs.declared.profile.Feature.TheVariants.{Floats}
use Rattle.wm_syntax.specs.Instructions.{Instructions}
use Rattle.wm_syntax.specs.Modules.{Export, Element, Segment, constant, empty_module}
use Rattle.wm_syntax.specs.Profiles.{HasInstructions, every, has}
use Rattle.wm_syntax.proofs.ProfileLaws.{every_has_simple, module_of_every}
use Rattle.wm_tokens.specs.Tokens.{Token, open_paren, close_paren, atom}
use Rattle.wm_tokens.specs.Identifiers.{Ids, Resolves}
use Rattle.wm_tokens.specs.Written.{Named, WritesGroups, Names, TypeUse, Scope, WritesInstructions}
use Rattle.wm_tokens.specs.Fields.{WritesName, WritesLimits, WritesTableType, WritesGlobalType, WritesConst, WritesExport, WritesStrings, WritesFunctions}
use Rattle.wm_read.specs.exact.FirstReading.{skip}
use Rattle.wm_bodies.specs.exact.Reading.{is_word}
use Rattle.wm_read.proofs.WrittenForms.{Closed, keeps_then, keeps_groups, keeps_use, keeps_index, keeps_instructions, keeps_limits, keeps_table_type, keeps_global_type, keeps_const, keeps_export, keeps_element, keeps_segment}

abbrev pub Balanced : List Token → Type 0
Balanced f = (n : ℕ) (k : List Token) → skip (suc n) (f ++ k) ≡ skip (suc n) k

abbrev pub AllBalanced : Form Token → Type 0
AllBalanced P = (f : List Token) → P f → Balanced f

-- Any atom.
abbrev Any : List ℕ → Type 0
Any a = Unit {0}

closed : Closed Balanced Any
closed = record {
  nil = λ n k. refl;
  join = λ f g p q n k. ap (skip (suc n)) (append_assoc f g k) ∙ p n (g ++ k) ∙ q n k;
  one = λ a is n k. refl;
  text = λ b n k. refl;
  paren = λ w f is p n k. ap (λ (z : List Token). skip (suc n) (open_paren ∷ atom w ∷ z)) (append_assoc f (close_paren ∷ []) k) ∙ p (suc n) (close_paren ∷ k);
  word = λ w is. tt;
  identifier = λ a is. tt;
  number = λ a is. tt;
}

-- Any float literal, and any instruction.
any : IsTrue (has every Floats) → (a : List ℕ) → Any a
any h a = tt

instructions_of_every : (is : Instructions) → HasInstructions every is
instructions_of_every is = (module_of_every (record empty_module { functions = (record { type_index = 0; locals = []; body = is }) ∷ [] })).functions.0.1

pub balanced_then : (P Q : Form Token) → AllBalanced P → AllBalanced Q → AllBalanced (P ▸ Q)
balanced_then = keeps_then Balanced Any closed every any

pub balanced_groups : (w : List ℕ) → is_word w ≡ true → (all : List Named) → AllBalanced (WritesGroups w all)
balanced_groups = keeps_groups Balanced Any closed every any

pub balanced_use : (names : Names) (x : ℕ) (params : List Named) → AllBalanced (TypeUse names x params)
balanced_use = keeps_use Balanced Any closed every any

pub balanced_instructions : (s : Scope) (labels : Ids) (is : Instructions) → AllBalanced (WritesInstructions s labels is)
balanced_instructions s labels is = keeps_instructions Balanced Any closed every any s labels is (instructions_of_every is)

pub balanced_limits : (l : Limits) → AllBalanced (WritesLimits l)
balanced_limits = keeps_limits Balanced Any closed every any

pub balanced_table_type : (l : Limits) → AllBalanced (WritesTableType l)
balanced_table_type = keeps_table_type Balanced Any closed every any

pub balanced_global_type : (var : Bool) (t : ValType) → AllBalanced (WritesGlobalType var t)
balanced_global_type = keeps_global_type Balanced Any closed every any

pub balanced_const : (names : Names) (x : Const) → AllBalanced (WritesConst names x)
balanced_const names x = keeps_const Balanced Any closed every any names x (every_has_simple (constant x))

pub balanced_export : (names : Names) (e : Export) → AllBalanced (WritesName e.name ▸ WritesExport names e.kind e.index)
balanced_export = keeps_export Balanced Any closed every any

pub balanced_start : (names : Names) (x : ℕ) → AllBalanced (Resolves names.functions x)
balanced_start names x = keeps_index Balanced Any closed every any names.functions x

every_has_mode : (d : SegmentMode) → HasMode every d
every_has_mode Passive = refl
every_has_mode (Active x c) = every_has_simple (constant c)

pub balanced_element : (names : Names) (e : Element) → AllBalanced (WritesMode names names.tables e.mode ▸ WritesFunctions names.functions e.mode e.functions)
balanced_element names e = keeps_element Balanced Any closed every any names e (every_has_mode e.mode)

pub balanced_segment : (names : Names) (s : Segment) → AllBalanced (WritesMode names names.memories s.mode ▸ WritesStrings s.bytes)
balanced_segment names s = keeps_segment Balanced Any closed every any names s (every_has_mode s.mode)
