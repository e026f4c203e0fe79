-- How an answer of the code relates to its exact answer: both have the same refusal, unless memory runs out.
use Rattle.std.specs.Prelude.{ℕ, ◌+◌, ◌^◌, ◌≡◌, ◌<◌, ◌≤◌, ◌⊎◌, true, false, nat_le, length, Option, Some}
use Rattle.std.specs.Prelude.{None}
use Rattle.std.specs.Prelude.{Result, Ok, Err}
use Rattle.wm_syntax.specs.declared.why.Why.{Why}
use Rattle.wm_syntax.specs.declared.why.Why.TheVariants.{Align, Index, Memory}
use Rattle.wm_syntax.specs.declared.types.ValType.{ValType}
use Rattle.wm_stacks.specs.declared.stack_entries.Frame.{Frame}
use Rattle.wm_stacks.specs.Stack.{Stack, height_sum}
use Rattle.wm_typing.specs.exact.Ops.{drive_close}
use Rattle.wm_typing.specs.Typing.{Context}
use Rattle.wm_typing.specs.Answers.{Room, stack_weight}

-- The call does this, or fails for this reason, or fails with `Memory`.
abbrev pub Does : {A S : Type 0} → (A → S) → Result S Why → Result A Why → Type 0
Does made r (Ok a) = r ≡ Ok (made a)
Does made r (Err why) = (why ≡ Memory) ⊎ (r ≡ Err why)

-- The item, or this error if there is none.
abbrev pub IsFound : {A : Type 0} → Option A → Why → Result A Why → Type 0
IsFound o why (Ok a) = o ≡ Some a
IsFound o why (Err w) = (o ≡ None) × (w ≡ why)

-- The result is taken and the frame is closed, or the call fails for this reason, whatever `k` would do next.
abbrev pub Closes : Option ValType → Stack → Result Frame Why → Stack → Type 0
Closes t s (Ok f) z = (k : Frame → Stack → Result Stack Why) → drive_close t s k ≡ k f z
Closes t s (Err why) z = (k : Frame → Stack → Result Stack Why) → drive_close t s k ≡ Err why

-- There is at most this much more weight and height.
abbrev pub Adds : ℕ → ℕ → Stack → Stack → Type 0
Adds w h s z = (stack_weight z ≤ stack_weight s + w) × (height_sum z ≤ height_sum s + h)

-- A frame is open, and the stacks have fewer than 2^63 entries together.
abbrev pub CanAct : Stack → Type 0
CanAct s = (0 < length s.frames) × (height_sum s < 2 ^ 63)

-- The answer of a call on the stacks. It does this, or fails for this reason, or fails with `Memory`. `Memory`
-- comes only if there are at least 64 operands or 32 frames. Weight and height grow by at most `w` and `h`.
abbrev pub ActsAs : {A S : Type 0} → (A → S) → Result S Why → ℕ → ℕ → Stack → Stack → Result A Why → Type 0
ActsAs made r w h s z result = Does made r result × Room s result × Adds w h s z

-- `ActsAs` for a call that makes the stacks.
abbrev pub Acts : {A : Type 0} → Result Stack Why → ℕ → ℕ → Stack → Stack → Result A Why → Type 0
Acts r w h s z result = ActsAs (λ _. z) r w h s z result

-- There is a memory, and the alignment is at most the width. Otherwise the error names the first of these that
-- fails.
abbrev pub MayAccess : {A : Type 0} → Context → ℕ → ℕ → Result A Why → Type 0
MayAccess c align width (Ok a) = (c.has_memory ≡ true) × (nat_le (2 ^ align) width ≡ true)
MayAccess c align width (Err w) =
    ((c.has_memory ≡ false) × (w ≡ Index)) ⊎ ((c.has_memory ≡ true) × (nat_le (2 ^ align) width ≡ false)
    × (w ≡ Align))
