-- Functions are read exactly as tokens write them.
use Rattle.std.proofs.Common.{◌≡◌, ℕ, ◌<◌, true, List, [], ◌∷◌, ◌++◌, length, Option, Some, None, refl, sym, ap, subst, ◌∙◌, inl, inr, append_assoc}
use Rattle.std.specs.Prelude.{codes, nat_lt, ◌^◌}
use Rattle.std.proofs.lemmas.Bool.{and_from, and_parts, cond-true, lt-ltb, ltb-true}
use Rattle.wm_syntax.specs.Spelling.{Form, Each, ◌▸◌}
use Rattle.wm_syntax.specs.declared.types.ValType.{ValType}
use Rattle.wm_syntax.specs.declared.profile.Profile.{Profile}
use Rattle.wm_syntax.specs.Instructions.{Instructions}
use Rattle.wm_syntax.specs.Modules.{Function}
use Rattle.wm_syntax.specs.Profiles.{HasFunction, HasInstructions}
use Rattle.wm_tokens.specs.Tokens.{Token, open_paren, close_paren, string, atom}
use Rattle.wm_tokens.specs.Identifiers.{AreDistinct}
use Rattle.wm_tokens.specs.Written.{Named, Names, Scope, TypeUse, WritesGroup, WritesGroups, WritesInstructions, ids_of, types_of}
use Rattle.wm_tokens.specs.Fields.{HasDistinct}
use Rattle.wm_bodies.specs.inner.Pieces.{Piece, WritesPieces}
use Rattle.wm_bodies.specs.exact.Reading.{Reader, then_at}
use Rattle.wm_bodies.specs.exact.TypeUses.{instructions_at, named_at}
use Rattle.wm_bodies.specs.exact.NamedUses.{named_use_at}
use Rattle.wm_read.specs.exact.Fields.{all_new, function_at, function_by, function_of, is_function}
use Rattle.wm_tokens.proofs.Basics.{chosen, same_some}
use Rattle.wm_bodies.proofs.BodyTheorem.{law_read, law_written}
use Rattle.wm_read.proofs.DistinctIds.{are_distinct, distinct_new}
use Rattle.wm_bodies.proofs.NamedGroups.{NotGroup, OfGroups, groups_are_read, groups_are_written}
use Rattle.wm_bodies.proofs.NamedUses.{UseEnds, uses_are_read, uses_are_written}
use Rattle.wm_bodies.proofs.PieceLaws.{Follow, piece_follows}
use Rattle.wm_bodies.proofs.Readers.{Sound, Complete, Both, BeginsClose, bind_is, bind_ok, then_complete, then_sound}
use Rattle.wm_bodies.proofs.Trees.{body_flat}
use Rattle.wm_bodies.proofs.TypeUseLaws.{AreOf, KnowsTypes}

abbrev pub scope_of : Names → List Named → List Named → Scope
scope_of names params locals = record { names = names; locals = ids_of (params ++ locals) }

-- A function after its identifier, with locals and instructions of the profile.
abbrev pub FunctionAt : Profile → Names → Function → Form Token
FunctionAt p names f k =
    (params locals : List Named) × (types_of locals ≡ f.locals) × (length f.locals < 2 ^ 32) × AreDistinct (ids_of (params ++ locals))
    × (TypeUse names f.type_index params ▸ WritesGroups (codes "local") locals ▸ WritesInstructions (scope_of names params locals) [] f.body) k
    × HasFunction p f

abbrev IsUse : Names → ℕ × List Named → Form Token
IsUse names y = TypeUse names y.0 y.1

abbrev head_at : (pr : Profile) → Names → Reader ((ℕ × List Named) × List Named)
head_at pr names = then_at (named_use_at pr names) (named_at pr (codes "local"))

pub function_sound : (p : Profile) (names : Names) → HasDistinct names → Sound (function_at p names) (FunctionAt p names)
unfolding function_at
function_sound p names d k f rest e =
    let a = bind_ok (head_at p names k) (λ h. function_by p names h.0.0.0 h.0.0.1 h.0.1 h.1) (f, rest) e in
    let one = then_sound (named_use_at p names) (named_at p (codes "local")) (IsUse names) (OfGroups p (codes "local")) (uses_are_written p names) (groups_are_written p (codes "local")) k a.0.0 a.0.1 a.1 in
    elim (chosen (is_function a.0.0.0.1 a.0.0.1) (function_of a.0.0.0.0 a.0.0.0.1 a.0.0.1 p names a.0.1) None (Some (f, rest)) a.2) [
      | inl t ↦ by a.0.0.0.0 a.0.0.0.1 a.0.0.1 a.0.1 one.0 one.1 one.2 t.0 t.1
      | inr t ↦ absurd (let n : ◌≡◌ {A = Option (Function × List Token)} None (Some (f, rest)) = t.1 in cc)
    ]
  where
    by : (x : ℕ) (params locals : List Named) (j front : List Token) → k ≡ front ++ j → Both (IsUse names) (OfGroups p (codes "local")) ((x, params), locals) front → is_function params locals ≡ true
        → function_of x params locals p names j ≡ Some (f, rest) → (front : List Token) × (k ≡ front ++ rest) × FunctionAt p names f front
    by x params locals j front text (u, v, cut, used, groups) t h =
        let c = and_parts (nat_lt (length (types_of locals)) 0x1_0000_0000) (all_new [] (ids_of (params ++ locals))) t in
        let distinct = are_distinct (ids_of (params ++ locals)) c.1 in
        let b = bind_ok (instructions_at p (scope_of names params locals) j) (λ b. Some (record { type_index = x; locals = types_of locals; body = b.0 }, b.1)) (f, rest) h in
        let g = law_read p (scope_of names params locals) j b.0.1 b.0.0 d distinct b.1 in
        let is : ◌≡◌ {A = Function × List Token} (record { type_index = x; locals = types_of locals; body = b.0.0 }, b.0.1) (f, rest) =
        same_some (record { type_index = x; locals = types_of locals; body = b.0.0 }, b.0.1) (f, rest) b.2 in
        let whole : k ≡ (u ++ (v ++ g.0)) ++ b.0.1 =
        text ∙ ap (λ (z : List Token). front ++ z) (g.2 ∙ ap (λ (z : List Token). g.0 ++ z) (sym g.3)) ∙ ap (λ (z : List Token). z ++ (g.0 ++ b.0.1)) cut
        ∙ append_assoc u v (g.0 ++ b.0.1) ∙ ap (λ (z : List Token). u ++ z) (sym (append_assoc v g.0 b.0.1)) ∙ sym (append_assoc u (v ++ g.0) b.0.1) in (
          u ++ (v ++ g.0),
          whole ∙ ap (λ (z : Function × List Token). (u ++ (v ++ g.0)) ++ z.1) is,
          subst (λ (z : Function × List Token). FunctionAt p names z.0 (u ++ (v ++ g.0))) is
              (params, locals, refl, ltb-true (length (types_of locals)) 0x1_0000_0000 c.0, distinct, (u, v ++ g.0, refl, used, (v, g.0, refl, groups.0, g.4)), (groups.1, g.5)),
        )

-- ---- the tokens after a function

instructions_follow : (p : Profile) (sc : Scope) (s : Instructions) (front rest : List Token) → WritesInstructions sc [] s front → HasInstructions p s → BeginsClose rest → Follow (front ++ rest)
instructions_follow p sc s front rest h g f = let b = body_flat p sc s front h g in by b.2.0 b.2.2
  where
    closes : (k : List Token) → BeginsClose k → Follow k
    closes [] f = absurd f
    closes (open_paren ∷ k) f = absurd f
    closes (close_paren ∷ k) f = tt
    closes (string b ∷ k) f = absurd f
    closes (atom a ∷ k) f = absurd f

    by : (ps : List Piece) → WritesPieces p sc [] ps front → Follow (front ++ rest)
    by [] w = subst (λ (z : List Token). Follow (z ++ rest)) (sym w.1) (closes rest f)
    by (q ∷ ps) (of, (x, y, e, w, more)) = subst Follow (sym (ap (λ (z : List Token). z ++ rest) e ∙ append_assoc x y rest)) (piece_follows sc [] q x (y ++ rest) w)

abbrev HeadEnds : List Token → Type 0
HeadEnds k = NotGroup (codes "local") k × UseEnds k

follow_ends : (k : List Token) → Follow k → HeadEnds k
follow_ends [] f = absurd f
follow_ends (open_paren ∷ k) f = absurd f
follow_ends (close_paren ∷ k) f = (refl, (refl, refl))
follow_ends (string b ∷ k) f = absurd f
follow_ends (atom a ∷ k) f = (refl, (refl, refl))

locals_end : (p : Profile) (ls : List Named) (front rest : List Token) → OfGroups p (codes "local") ls front → HeadEnds rest → UseEnds (front ++ rest)
locals_end p ls front rest ((groups, e, h), of) f = by groups front h
  where
    begins : (group : List Named) (x y : List Token) → WritesGroup (codes "local") group x → UseEnds (x ++ y)
    begins group x y (inl (name, t, g, (a, b, e, w, m))) = subst (λ (z : List Token). UseEnds (z ++ y)) (sym (e ∙ ap (λ (z : List Token). z ++ b) w)) (refl, refl)
    begins group x y (inr (ts, g, (a, b, e, w, m))) = subst (λ (z : List Token). UseEnds (z ++ y)) (sym (e ∙ ap (λ (z : List Token). z ++ b) w)) (refl, refl)

    by : (groups : List (List Named)) (front : List Token) → Each (WritesGroup (codes "local")) groups front → UseEnds (front ++ rest)
    by [] front h = subst (λ (z : List Token). UseEnds (z ++ rest)) (sym h) f.1
    by (g ∷ groups) front (x, y, e, w, more) = subst UseEnds (sym (ap (λ (z : List Token). z ++ rest) e ∙ append_assoc x y rest)) (begins g x (y ++ rest) w)

pub function_complete : (p : Profile) (names : Names) → HasDistinct names → KnowsTypes p names → Complete (function_at p names) (FunctionAt p names) BeginsClose
unfolding function_at
function_complete p names d knows f front rest (params, locals, types, few, distinct, (u, v, e, used, (x, y, e2, groups, body)), of) after =
    let text : front ++ rest ≡ (u ++ x) ++ (y ++ rest) =
    ap (λ (z : List Token). z ++ rest) (e ∙ ap (λ (z : List Token). u ++ z) e2 ∙ sym (append_assoc u x y)) ∙ append_assoc (u ++ x) y rest in
    ap (function_at p names) text
    ∙ bind_is (head_at p names ((u ++ x) ++ (y ++ rest))) (λ h. function_by p names h.0.0.0 h.0.0.1 h.0.1 h.1) (((f.type_index, params), locals), y ++ rest)
    (then_complete (named_use_at p names) (named_at p (codes "local")) (IsUse names) (OfGroups p (codes "local")) UseEnds HeadEnds
    (uses_are_read p names d.types knows) (λ ls a b w g. groups_are_read p (codes "local") ls a b w g.0) (locals_end p)
    ((f.type_index, params), locals) (u ++ x) (y ++ rest) (u, x, refl, used, (groups, subst (AreOf p) (sym types) of.0)) (follow_ends (y ++ rest) (instructions_follow p (scope_of names params locals) f.body y rest body of.1 after)))
    ∙ cond-true (is_function params locals) (function_of f.type_index params locals p names (y ++ rest)) None
    (and_from (nat_lt (length (types_of locals)) 0x1_0000_0000) (all_new [] (ids_of (params ++ locals)))
    (lt-ltb (length (types_of locals)) 0x1_0000_0000 (subst (λ (z : List ValType). length z < 2 ^ 32) (sym types) few)) (distinct_new [] (ids_of (params ++ locals)) distinct))
    ∙ bind_is (instructions_at p (scope_of names params locals) (y ++ rest)) (λ b. Some (record { type_index = f.type_index; locals = types_of locals; body = b.0 }, b.1)) (f.body, rest) (read rest after)
    ∙ ap (λ (z : List ValType). Some (record { type_index = f.type_index; locals = z; body = f.body }, rest)) types
  where
    read : (rest : List Token) → BeginsClose rest → instructions_at p (scope_of names params locals) (y ++ rest) ≡ Some (f.body, rest)
    read [] g = absurd g
    read (open_paren ∷ k) g = absurd g
    read (close_paren ∷ k) g = law_written p (scope_of names params locals) y k f.body d distinct knows body of.1
    read (string b ∷ k) g = absurd g
    read (atom a ∷ k) g = absurd g
