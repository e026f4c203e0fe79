-- A body is read if and only if its tokens write a tree.
use Rattle.std.proofs.Common.{◌≡◌, ℕ, List, [], ◌∷◌, ◌++◌, Some, refl, sym, ap, subst, ◌∙◌}
use Rattle.wm_syntax.specs.declared.instructions.Op.{Op}
use Rattle.wm_syntax.specs.declared.profile.Profile.{Profile}
use Rattle.wm_syntax.specs.Instructions.{Instructions, HasOps}
use Rattle.wm_syntax.specs.Profiles.{HasInstructions}
use Rattle.wm_syntax.specs.inner.Building.{body_in, tree_of}
use Rattle.wm_syntax.proofs.Places.{leads}
use Rattle.wm_tokens.specs.Tokens.{Token, open_paren, close_paren, string, atom}
use Rattle.wm_tokens.specs.Fields.{HasDistinct}
use Rattle.wm_tokens.proofs.Basics.{same_some}
use Rattle.wm_tokens.specs.Written.{Scope, UnnamedTypeUse, WritesInstructions}
use Rattle.wm_bodies.specs.exact.Reading.{Reader, ops_at}
use Rattle.wm_bodies.proofs.Readers.{BeginsClose, Sound, bind_ok, made_is}
use Rattle.wm_bodies.proofs.PieceLaws.{IsScope, ReadsUse}
use Rattle.wm_bodies.proofs.BodyLaws.{ops_sound, ops_complete}
use Rattle.wm_tokens.specs.Identifiers.{AreDistinct}
use Rattle.wm_bodies.specs.exact.TypeUses.{instructions_at, call_use_at as type_use_at}
use Rattle.wm_bodies.proofs.TypeUseLaws.{KnowsTypes, call_sound, reads_use}
use Rattle.wm_bodies.proofs.Trees.{body_flat}
use Rattle.wm_bodies.proofs.Nests.{body_tree}

module _ (use_at : Reader ℕ) (p : Profile) (sc : Scope) (use_sound : Sound use_at (UnnamedTypeUse sc.names)) where
  pub read_is_written : (k rest : List Token) (ops : List Op) → ops_at use_at p sc [] k ≡ Some (ops, rest)
      → (s : Instructions) × (front : List Token) × (k ≡ front ++ rest) × BeginsClose rest × HasOps s ops × WritesInstructions sc [] s front × HasInstructions p s
  read_is_written k rest ops e =
      let g = ops_sound use_at p sc use_sound [] k ops rest e in
      let t = body_tree p sc ops g.1 g.3 in
      (t.0, g.1, g.2, g.0, t.1, t.2, t.3)

module _ (use_at : Reader ℕ) (p : Profile) (sc : Scope) (uses : ReadsUse use_at sc.names) (scope : IsScope sc) where
  pub written_is_read : (s : Instructions) (front rest : List Token) → WritesInstructions sc [] s front → HasInstructions p s → BeginsClose rest
      → (ops : List Op) × HasOps s ops × (ops_at use_at p sc [] (front ++ rest) ≡ Some (ops, rest))
  written_is_read s front rest h g f =
      let t = body_flat p sc s front h g in
      (t.0, t.1, ops_complete use_at p sc uses scope [] tt t.0 front rest t.2 f)

-- With the readers of type uses. For a written text, identifiers are distinct in their spaces and types are of the
-- profile.
pub body_read : (p : Profile) (sc : Scope) (k rest : List Token) (ops : List Op) → ops_at (type_use_at p sc.names) p sc [] k ≡ Some (ops, rest)
    → (s : Instructions) × (front : List Token) × (k ≡ front ++ rest) × BeginsClose rest × HasOps s ops × WritesInstructions sc [] s front × HasInstructions p s
body_read p sc k rest ops e = read_is_written (type_use_at p sc.names) p sc (call_sound p sc.names) k rest ops e

pub body_written : (p : Profile) (sc : Scope) → IsScope sc → AreDistinct sc.names.types → KnowsTypes p sc.names → (s : Instructions) (front rest : List Token) → WritesInstructions sc [] s front → HasInstructions p s → BeginsClose rest
    → (ops : List Op) × HasOps s ops × (ops_at (type_use_at p sc.names) p sc [] (front ++ rest) ≡ Some (ops, rest))
body_written p sc scope d knows s front rest h g f = written_is_read (type_use_at p sc.names) p sc (reads_use p sc.names d knows) scope s front rest h g f

-- ---- as the laws say it

is_scope : (sc : Scope) → HasDistinct sc.names → AreDistinct sc.locals → IsScope sc
is_scope sc d l = record { functions = d.functions; globals = d.globals; locals = l }

closes : (rest : List Token) → BeginsClose rest → (more : List Token) × (rest ≡ close_paren ∷ more)
closes [] h = absurd h
closes (close_paren ∷ k) h = (k, refl)
closes (open_paren ∷ k) h = absurd h
closes (string b ∷ k) h = absurd h
closes (atom a ∷ k) h = absurd h

tree_is : (s : Instructions) (ops : List Op) → HasOps s ops → tree_of ops ≡ s
tree_is s ops h = ap body_in (leads s ops h)

pub law_read : (p : Profile) (sc : Scope) (k rest : List Token) (s : Instructions) → HasDistinct sc.names → AreDistinct sc.locals → instructions_at p sc k ≡ Some (s, rest)
    → (front more : List Token) × (k ≡ front ++ close_paren ∷ more) × (rest ≡ close_paren ∷ more) × WritesInstructions sc [] s front × HasInstructions p s
law_read p sc k rest s d l e =
    let g = bind_ok (ops_at (type_use_at p sc.names) p sc [] k) (λ x. Some (tree_of x.0, x.1)) (s, rest) e in
    let is : ◌≡◌ {A = Instructions × List Token} (tree_of g.0.0, g.0.1) (s, rest) = same_some (tree_of g.0.0, g.0.1) (s, rest) g.2 in
    let b = body_read p sc k g.0.1 g.0.0 g.1 in
    let c = closes g.0.1 b.3 in
    let same : b.0 ≡ s = sym (tree_is b.0 g.0.0 b.4) ∙ ap (λ (z : Instructions × List Token). z.0) is in
    (b.1, c.0, b.2 ∙ ap (λ (z : List Token). b.1 ++ z) c.1, sym (ap (λ (z : Instructions × List Token). z.1) is) ∙ c.1, subst (λ (z : Instructions). WritesInstructions sc [] z b.1) same b.5, subst (HasInstructions p) same b.6)

pub law_written : (p : Profile) (sc : Scope) (front more : List Token) (s : Instructions) → HasDistinct sc.names → AreDistinct sc.locals → KnowsTypes p sc.names → WritesInstructions sc [] s front → HasInstructions p s
    → instructions_at p sc (front ++ close_paren ∷ more) ≡ Some (s, close_paren ∷ more)
law_written p sc front more s d l knows w h =
    let b = body_written p sc (is_scope sc d l) d.types knows s front (close_paren ∷ more) w h tt in
    made_is tree_of (ops_at (type_use_at p sc.names) p sc [] (front ++ close_paren ∷ more)) b.0 (close_paren ∷ more) b.2 ∙ ap (λ (z : Instructions). Some (z, close_paren ∷ more)) (tree_is s b.0 b.1)

-- Tokens write at most one list of instructions.
pub law_one : (p : Profile) (sc : Scope) (front : List Token) (s t : Instructions) → HasDistinct sc.names → AreDistinct sc.locals → KnowsTypes p sc.names → WritesInstructions sc [] s front → HasInstructions p s
    → WritesInstructions sc [] t front → HasInstructions p t → s ≡ t
law_one p sc front s t d l knows w h v g =
    ap (λ (z : Instructions × List Token). z.0) (same_some (s, close_paren ∷ []) (t, close_paren ∷ []) (sym (law_written p sc front [] s d l knows w h) ∙ law_written p sc front [] t d l knows v g))
