-- A token is present where an identifier is refused, and in a text with `( module id?`.
use Rattle.std.proofs.Common.{◌≡◌, ◌≢◌, true, false, List, [], Option, Some, None, sym, ap, ◌∙◌}
use Rattle.wm_tokens.specs.Tokens.{Token}
use Rattle.wm_tokens.specs.Identifiers.{Id, Ids}
use Rattle.wm_bodies.specs.exact.Reading.{id_at, is_new}
use Rattle.wm_read.specs.exact.TextModules.{frame_at}
use Rattle.wm_tokens.proofs.Basics.{same_some}

pub id_stands : (ids : Ids) (k j : List Token) (id : Id) → Some (id, j) ≡ id_at k → is_new ids id ≡ false → k ≢ []
id_stands ids k j id e old nil =
    let none : ◌≡◌ {A = Id × List Token} (id, j) (None, []) = same_some (id, j) (None, []) (e ∙ ap id_at nil) in
    let f : false ≡ true = sym old ∙ ap (λ (z : Id × List Token). is_new ids z.0) none in cc

pub frame_stands : (k j : List Token) → frame_at k ≡ Some j → k ≢ []
frame_stands k j e nil = let f : ◌≡◌ {A = Option (List Token)} None (Some j) = sym (ap frame_at nil) ∙ e in cc
