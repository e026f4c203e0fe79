-- The state of a session: the bytes that it has taken, its refusal, its answer and its place.
use Rattle.std.specs.Prelude.{◌≡◌, ℕ, List, IfSome, Some}
use Rattle.wm_syntax.specs.declared.profile.Profile.{Profile}
use Rattle.wm_syntax.specs.declared.why.Why.TheVariants.{Memory}
use Rattle.wm_machine.specs.declared.refusal.Refusal.{Refusal}
use Rattle.wm_rules.specs.declared.policy.Policy.{Policy}
use Rattle.wm_rules.specs.inner.Validators.{HasRead, refusal_in}
use Rattle.wm_c.specs.declared.answer.Answer.{Answer}
use Rattle.wm_c.specs.declared.session.Session.{Session}
use Rattle.wm_c.specs.declared.session.State.{State}
use Rattle.wm_c.specs.declared.session.State.TheVariants.{Reading, Ended}
use Rattle.wm_c.specs.Answers.{IsAnswerOf}
use Rattle.wm_c.specs.Places.{numbers_in}
use Rattle.wm_c.specs.declared.place.Place.{Place}

-- The state fits these bytes: its validator has read them, or its answer is a right answer to them.
abbrev pub StateTaken : State → Profile → ℕ → Policy → List ℕ → Type 0
StateTaken (Reading v) p limit q bytes = HasRead v p limit q bytes
StateTaken (Ended a) p limit q bytes = IsAnswerOf p limit q bytes a

-- The session has taken these bytes.
abbrev pub HasTaken : Session → Profile → ℕ → Policy → List ℕ → Type 0
HasTaken s p limit q bytes = StateTaken s.state p limit q bytes

-- The session has this answer.
abbrev pub HasEnded : Session → Answer → Type 0
HasEnded s a = s.state ≡ Ended a

-- The session has its answer.
abbrev pub IsOver : State → Type 0
IsOver (Reading v) = ⊥
IsOver (Ended a) = Unit {0}

-- The session has no answer yet.
abbrev pub IsReading : State → Type 0
IsReading (Reading v) = Unit {0}
IsReading (Ended a) = ⊥

-- The session has no answer yet, and its validator has the refusal `Memory`.
abbrev pub StateRanOut : State → Type 0
StateRanOut (Reading v) = IfSome (refusal_in v) (λ r. r.why ≡ Memory)
StateRanOut (Ended a) = ⊥

-- The session has no answer yet, and its validator has this refusal.
abbrev pub StateRefused : State → Refusal → Type 0
StateRefused (Reading v) r = refusal_in v ≡ Some r
StateRefused (Ended a) r = ⊥

-- The session was refused, or has its answer, at a byte with these numbers of a section, of a member of it, and of a
-- part of the format.
abbrev pub StateIsAt : State → Place → ℕ × ℕ × ℕ → Type 0
StateIsAt (Reading v) place n = (r : Refusal) × (refusal_in v ≡ Some r) × (numbers_in place ≡ n)
StateIsAt (Ended a) place n = numbers_in place ≡ n

abbrev pub IsAt : Session → ℕ × ℕ × ℕ → Type 0
IsAt s n = StateIsAt s.state s.place n
