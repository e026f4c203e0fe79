-- The exact answer of the reader of a type field's function type (Core spec 6.4.3).
use Rattle.std.specs.Prelude.{List, codes}
use Rattle.wm_syntax.specs.declared.types.ValType.{ValType}
use Rattle.wm_syntax.specs.declared.profile.Profile.{Profile}
use Rattle.wm_syntax.specs.Types.{Signature}
use Rattle.wm_tokens.specs.Written.{Named, types_of}
use Rattle.wm_bodies.specs.exact.Reading.{Reader, made, then_at, paren_at}
use Rattle.wm_bodies.specs.exact.NamedUses.{results_at}
use Rattle.wm_bodies.specs.exact.TypeUses.{named_at}

-- The function type; identifiers of its parameters are ignored.
abbrev pub signature_of : List Named × List ValType → Signature
signature_of x = record { params = types_of x.0; results = x.1 }

unfoldable pub signature_at : Profile → Reader Signature
signature_at p k =
    made signature_of (paren_at (codes "func") (then_at (named_at p (codes "param")) (results_at p)) k)
