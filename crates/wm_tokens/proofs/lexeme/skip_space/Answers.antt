use Rattle.std.proofs.Common.{◌≡◌, ◌≢◌, ℕ, List, refl, sym, ◌∙◌}
use Rattle.wm_tokens.specs.exact.Scan.{ahead, no_more, blank, first, fault}
use Rattle.wm_tokens.specs.inner.Lexemes.{ahead_of, token_of}
use Rattle.wm_tokens.specs.declared.lexeme.Found.{Found}
use Rattle.wm_tokens.specs.declared.lexeme.Found.TheVariants.{Nothing, Blank, First, Fault}
use Rattle.wm_tokens.proofs.Ahead.{no_blank, no_line}
use Rattle.wm_tokens.proofs.lexeme.skip_space.Goals as goal

-- what stands first is no white space
other_found : (f : Found) (b : List ℕ) → ((m : _) → f ≡ Blank m → ⊥) → ahead_of f ≡ ahead b → (r : List ℕ) → blank r ≢ ahead b
other_found Nothing b none is r e = let g : blank r ≡ no_more = e ∙ sym is in cc
other_found (Blank m) b none is r e = none m refl
other_found (First t m) b none is r e = let g : blank r ≡ first (token_of t) m.now = e ∙ sym is in cc
other_found (Fault w) b none is r e = let g : blank r ≡ fault = e ∙ sym is in cc

pub returns-in_default-clause-no_blank : goal.returns-in_default-clause-no_blank
returns-in_default-clause-no_blank c = no_blank c.loop-more.rest.now (other_found c.ahead.result c.loop-more.rest.now c.in_default.not-Blank c.ahead.ensures.found)

pub returns-in_default-clause-no_line : goal.returns-in_default-clause-no_line
returns-in_default-clause-no_line c = no_line c.loop-more.rest.now (other_found c.ahead.result c.loop-more.rest.now c.in_default.not-Blank c.ahead.ensures.found)

pub returns-in_default-clause-passed : goal.returns-in_default-clause-passed
returns-in_default-clause-passed c = let s = c.loop-more.invariant.spaced in (s.space, s.cut, s.last, s.whole)
