-- Parameters and locals of the code as plain values, without their addresses.
use Rattle.std.specs.Prelude.{List, [], ◌∷◌, None, Some, flat_map, replicate}
use Rattle.wm_bodies.specs.declared.named.NamedRun.{NamedRun}
use Rattle.wm_bodies.specs.declared.named.NamedRun.TheVariants.{One, Unnamed}
use Rattle.wm_bodies.specs.declared.named_uses.Params.{Params}
use Rattle.wm_bodies.specs.declared.named_uses.Params.TheVariants.{OfType, Written}
use Rattle.wm_tokens.specs.Written.{Named}
use Rattle.wm_bodies.specs.exact.TypeUses.{unnamed}

-- The items of a run.
abbrev pub named_of : NamedRun → List Named
named_of (One id t) = (Some id.now, t) ∷ []
named_of (Unnamed n t) = replicate n (None, t)

abbrev pub named_list : List NamedRun → List Named
named_list runs = flat_map named_of runs

abbrev pub params_of : Params → List Named
params_of (OfType ts) = unnamed ts.now
params_of (Written ps) = named_list ps.items
