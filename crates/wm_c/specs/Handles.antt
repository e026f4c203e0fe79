-- A handle of C: the memory that it owns, and the session that it holds. `None` is a null handle.
use Rattle.std.specs.Prelude.{ℕ, List, Option, Some, None}
use Rattle.wm_syntax.specs.declared.profile.Profile.{Profile}
use Rattle.wm_machine.specs.declared.refusal.Refusal.{Refusal}
use Rattle.wm_rules.specs.declared.policy.Policy.{Policy}
use Rattle.wm_c.specs.declared.answer.Answer.{Answer}
use Rattle.wm_c.specs.declared.session.Session.{Session}
use Rattle.wm_c.specs.Sessions.{HasEnded, HasTaken, IsAt, IsReading, IsOver, StateRanOut, StateRefused}
use base.Fml.{Fml, feq}
use denote.RawPtr.{Ptr, null_ptr}
use denote.RattleType.{RattleType}
use mir.Syntax.{Ty}
use Rattle.std.specs.Box.Ownership.{box_owns}
use Rattle.std.specs.contracts.impls.GlobalAllocator.TheImpl.{ghosts}

-- The condition under which the heap may free a block.
abbrev pub freed_by_heap : Ty → Ptr → Fml
freed_by_heap = ghosts.dealloc_token (record { memory = record { seal = tt } })

-- The ownership of a handle: its pointer is null, or it owns a box with this value.
abbrev pub handle_owns : (Ty → Ptr → Fml) → (R : RattleType) → Ptr → Option R.Denot → Fml
handle_owns holds R p None = feq Ptr p null_ptr
handle_owns holds R p (Some s) = box_owns holds R p s

-- The handle holds a session that has taken these bytes.
abbrev pub Holds : Option Session → Profile → ℕ → Policy → List ℕ → Type 0
Holds None p limit q bytes = ⊥
Holds (Some s) p limit q bytes = HasTaken s p limit q bytes

-- The handle holds a session that has this answer.
abbrev pub HoldsAnswer : Option Session → Answer → Type 0
HoldsAnswer None a = ⊥
HoldsAnswer (Some s) a = HasEnded s a

-- The handle takes no piece: it is null, or its session has its answer.
abbrev pub TakesNothing : Option Session → Type 0
TakesNothing None = Unit {0}
TakesNothing (Some s) = IsOver s.state

-- The handle takes pieces: it holds a session that has no answer yet.
abbrev pub TakesPieces : Option Session → Type 0
TakesPieces None = ⊥
TakesPieces (Some s) = IsReading s.state

-- The handle holds a session that has no answer yet, and whose validator was refused memory.
abbrev pub RanOut : Option Session → Type 0
RanOut None = ⊥
RanOut (Some s) = StateRanOut s.state

-- The handle holds a session that has no answer yet, and whose validator has this refusal.
abbrev pub HoldsRefusal : Option Session → Refusal → Type 0
HoldsRefusal None r = ⊥
HoldsRefusal (Some s) r = StateRefused s.state r

-- The handle holds a session that was refused, or has its answer, at a byte with these numbers of a section, of a
-- member of it, and of a part of the format.
abbrev pub HoldsPlace : Option Session → ℕ × ℕ × ℕ → Type 0
HoldsPlace None n = ⊥
HoldsPlace (Some s) n = IsAt s n
