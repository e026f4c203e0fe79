-- The types of type fields are read exactly as tokens write them.
use Rattle.std.proofs.Common.{◌≡◌, ℕ, List, [], ◌∷◌, ◌++◌, Some, false, refl, sym, ap, subst, ◌∙◌}
use Rattle.std.specs.Prelude.{codes}
use Rattle.wm_syntax.specs.Spelling.{Form}
use Rattle.wm_syntax.specs.declared.types.ValType.{ValType}
use Rattle.wm_syntax.specs.declared.profile.Profile.{Profile}
use Rattle.wm_syntax.specs.Profiles.{HasSignature}
use Rattle.wm_syntax.specs.Types.{Signature}
use Rattle.wm_tokens.specs.Tokens.{Token, open_paren, close_paren, string, atom}
use Rattle.wm_tokens.specs.Written.{Named, Paren}
use Rattle.wm_tokens.specs.Fields.{WritesSignature}
use Rattle.wm_bodies.specs.exact.Reading.{Reader, then_at, paren_at}
use Rattle.wm_read.specs.exact.Signatures.{signature_of, signature_at}
use Rattle.wm_bodies.specs.exact.NamedUses.{results_at}
use Rattle.wm_bodies.specs.exact.TypeUses.{begins_group, named_at}
use Rattle.wm_bodies.proofs.Readers.{Sound, Complete, Any, Both, BeginsClose, made_sound, made_is, paren_sound, paren_complete, then_sound, then_complete}
use Rattle.wm_bodies.proofs.NamedGroups.{OfGroups, groups_are_written, groups_are_read}
use Rattle.wm_bodies.proofs.NamedUses.{OfResults, results_sound, results_complete, no_param}
use Rattle.wm_bodies.proofs.TypeUseLaws.{AreOf}

abbrev Parts : Profile → List Named × List ValType → Form Token
Parts pr = Both (OfGroups pr (codes "param")) (OfResults pr)

abbrev parts_at : (pr : Profile) → Reader (List Named × List ValType)
parts_at pr = then_at (named_at pr (codes "param")) (results_at pr)

-- A closing parenthesis begins no group.
pub close_no_group : (word : List ℕ) (k : List Token) → BeginsClose k → begins_group word k ≡ false
close_no_group word [] f = refl
close_no_group word (open_paren ∷ k) f = absurd f
close_no_group word (close_paren ∷ k) f = refl
close_no_group word (string b ∷ k) f = refl
close_no_group word (atom a ∷ k) f = refl

parts_sound : (pr : Profile) → Sound (parts_at pr) (Parts pr)
parts_sound pr = then_sound (named_at pr (codes "param")) (results_at pr) (OfGroups pr (codes "param")) (OfResults pr) (groups_are_written pr (codes "param")) (results_sound pr)

parts_complete : (pr : Profile) → Complete (parts_at pr) (Parts pr) BeginsClose
parts_complete pr =
    then_complete (named_at pr (codes "param")) (results_at pr) (OfGroups pr (codes "param")) (OfResults pr) (λ k. begins_group (codes "param") k ≡ false) BeginsClose
    (groups_are_read pr (codes "param")) (λ rs f r h c. results_complete pr rs f r h (close_no_group (codes "result") r c))
    (λ rs f r h c. no_param pr rs f r h (close_no_group (codes "param") r c))

-- a function type of the profile
abbrev pub OfSignature : Profile → Signature → Form Token
OfSignature pr f k = WritesSignature f k × HasSignature pr f

signature_from : (pr : Profile) (x : List Named × List ValType) (front : List Token) → Paren (codes "func") (Parts pr x) front → OfSignature pr (signature_of x) front
signature_from pr x front (a, b, e, w, (c, d, e2, (u, v, e3, ps, rs), l)) = ((x.0, refl, (a, b, e, w, (c, d, e2, (u, v, e3, ps.0, rs.0), l))), (ps.1, rs.1))

pub signature_sound : (pr : Profile) → Sound (signature_at pr) (OfSignature pr)
unfolding signature_at
signature_sound pr =
    made_sound signature_of (paren_at (codes "func") (parts_at pr)) (λ x. Paren (codes "func") (Parts pr x)) (OfSignature pr)
    (paren_sound (codes "func") (parts_at pr) (Parts pr) (parts_sound pr)) (signature_from pr)

pub signature_complete : (pr : Profile) → Complete (signature_at pr) (OfSignature pr) Any
unfolding signature_at
signature_complete pr f front rest ((ps, t, (a, b, e, w, (c, d, e2, (u, v, e3, groups, results), l))), of) any =
    made_is signature_of (paren_at (codes "func") (parts_at pr) (front ++ rest)) (ps, f.results) rest
    (paren_complete (codes "func") (parts_at pr) (Parts pr) (parts_complete pr) (ps, f.results) front rest
    (a, b, e, w, (c, d, e2, (u, v, e3, (groups, subst (AreOf pr) (sym t) of.0), (results, of.1)), l)) tt)
    ∙ ap (λ (z : List ValType). Some (record { params = z; results = f.results }, rest)) t
