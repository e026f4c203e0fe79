-- The ends of whole bodies.
use Rattle.std.proofs.Common.{ℕ, suc, ◌≡◌, ◌≤◌, ◌<◌, ◌+◌, ◌^◌, List, [], ◌∷◌, ◌++◌, length, take, drop, get_or, sym, refl, ap, ◌∙◌, subst, arith, append_assoc, append-nil, length-append, length-drop, take-suc, take-append-drop, take_all}
use Rattle.std.specs.Prelude.{replicate}
use Rattle.std.proofs.lemmas.List.{length-replicate}
use Rattle.wm_syntax.specs.declared.types.ValType.{ValType}
use Rattle.wm_syntax.specs.declared.instructions.Op.{Op}
use Rattle.wm_typing.specs.Typing.{Context}
use Rattle.wm_typing.specs.Contexts.{body_context}
use Rattle.wm_syntax.specs.Modules.{locals_of}
use Rattle.wm_typing.specs.Bodies.{Body}
use Rattle.wm_typing.specs.TypedBodies.{HaveTyping, IsTypedBody}
use Rattle.wm_typing.specs.inner.Checking.{BodyAfter}
use Rattle.wm_typing.proofs.StacksAfterOps.{body_can, ended_none, refused_on, unfinished}

-- the first so many, and the next
pub next_taken : (ops : List Op) (i : ℕ) (d : Op) → i < length ops → take (i + 1) ops ≡ take i ops ++ get_or ops i d ∷ []
next_taken ops i d l = let e : i + 1 ≡ suc i = omega arith in ap (λ n. take n ops) e ∙ take-suc ops i d l

front : (ops : List Op) (i : ℕ) (d : Op) → i < length ops → (take i ops ++ get_or ops i d ∷ []) ++ drop (i + 1) ops ≡ ops
front ops i d l = ap (λ z. z ++ drop (i + 1) ops) (sym (next_taken ops i d l)) ∙ take-append-drop (i + 1) ops

-- an op that was refused
pub refused_at : (c : Context) (ops : List Op) (i : ℕ) (d : Op) → c.labels ≡ c.result ∷ [] → i < length ops
    → (HaveTyping c (take i ops ++ get_or ops i d ∷ []) → ⊥) → IsTypedBody c ops → ⊥
refused_at c ops i d e l n h =
    refused_on c (take i ops ++ get_or ops i d ∷ []) (drop (i + 1) ops) e n (subst (λ z. IsTypedBody c z) (sym (front ops i d l)) h)

ended_by : (c : Context) (xs ys ops : List Op) → c.labels ≡ c.result ∷ [] → xs ++ ys ≡ ops → 0 < length ys → IsTypedBody c xs → IsTypedBody c ops → ⊥
ended_by c xs [] ops e k l h t = omega (arith, l)
ended_by c xs (y ∷ ys) ops e k l h t = ended_none c xs ys y e h (body_can c (xs ++ y ∷ ys) e (subst (λ z. IsTypedBody c z) (sym k) t))

pub ended_at : (c : Context) (ops : List Op) (i : ℕ) (d : Op) → c.labels ≡ c.result ∷ [] → i + 1 < length ops
    → IsTypedBody c (take i ops ++ get_or ops i d ∷ []) → IsTypedBody c ops → ⊥
ended_at c ops i d e l h t =
    let k : i < length ops = omega (arith, l) in
    let m : 0 < length (drop (i + 1) ops) = omega (arith, l, length-drop (i + 1) ops) in
    ended_by c (take i ops ++ get_or ops i d ∷ []) (drop (i + 1) ops) ops e (front ops i d k) m h t

-- the last op
pub last_taken : (ops : List Op) (i : ℕ) (d : Op) → i + 1 ≡ length ops → take i ops ++ get_or ops i d ∷ [] ≡ ops
last_taken ops i d e =
    let l : i < length ops = omega (arith, e) in
    let k : length ops ≤ i + 1 = omega (arith, e) in
    sym (next_taken ops i d l) ∙ take_all (i + 1) ops k

pub whole_taken : (ops : List Op) (i : ℕ) → length ops ≤ i → take i ops ≡ ops
whole_taken ops i l = take_all i ops l

pub open_body : (c : Context) (x : ℕ) (locals : List ValType) (ops : List Op) (b : Body) → BodyAfter c x locals ops b → 0 < length b.state.stacks.frames
    → IsTypedBody (body_context c x locals) ops → ⊥
open_body c x locals ops b a l h = unfinished (body_context c x locals) ops b.state.table b.state.stacks a.keeps l refl h

-- runs of locals
expanded-append : (xs ys : List (ℕ × ValType)) → locals_of (xs ++ ys) ≡ locals_of xs ++ locals_of ys
expanded-append [] ys = refl
expanded-append (r ∷ xs) ys =
    ap (λ z. replicate r.0 r.1 ++ z) (expanded-append xs ys) ∙ sym (append_assoc (replicate r.0 r.1) (locals_of xs) (locals_of ys))

pub next_run : (runs : List (ℕ × ValType)) (i : ℕ) (d : ℕ × ValType) → i < length runs
    → locals_of (take (i + 1) runs) ≡ locals_of (take i runs) ++ replicate (get_or runs i d).0 (get_or runs i d).1
next_run runs i d l =
    let e : i + 1 ≡ suc i = omega arith in
    ap (λ n. locals_of (take n runs)) e ∙ ap locals_of (take-suc runs i d l) ∙ expanded-append (take i runs) (get_or runs i d ∷ [])
    ∙ ap (λ z. locals_of (take i runs) ++ z) (append-nil (replicate (get_or runs i d).0 (get_or runs i d).1))

pub front_shorter : (runs : List (ℕ × ValType)) (i : ℕ) → length (locals_of (take i runs)) ≤ length (locals_of runs)
front_shorter runs i =
    let e : length (locals_of runs) ≡ length (locals_of (take i runs)) + length (locals_of (drop i runs)) =
    ap (λ z. length (locals_of z)) (sym (take-append-drop i runs)) ∙ ap length (expanded-append (take i runs) (drop i runs)) ∙ length-append (locals_of (take i runs)) (locals_of (drop i runs)) in
    omega (arith, e)

longer_by : (runs : List (ℕ × ValType)) (i : ℕ) (d : ℕ × ValType) → i < length runs
    → length (locals_of (take (i + 1) runs)) ≡ length (locals_of (take i runs)) + (get_or runs i d).0
longer_by runs i d l =
    ap length (next_run runs i d l) ∙ length-append (locals_of (take i runs)) (replicate (get_or runs i d).0 (get_or runs i d).1)
    ∙ ap (λ n. length (locals_of (take i runs)) + n) (length-replicate (get_or runs i d).0 (get_or runs i d).1)

-- where the locals so far and those of the next run are too many, so are all
pub front_longer : (runs : List (ℕ × ValType)) (i : ℕ) (d : ℕ × ValType) → i < length runs
    → 2 ^ 32 ≤ length (locals_of (take i runs)) + (get_or runs i d).0 → 2 ^ 32 ≤ length (locals_of runs)
front_longer runs i d l h = let k = front_shorter runs (i + 1) in let e = longer_by runs i d l in omega (arith, h, k, e)

pub front_few : (runs : List (ℕ × ValType)) (i : ℕ) (d : ℕ × ValType) → i < length runs
    → length (locals_of (take i runs)) + (get_or runs i d).0 < 2 ^ 32 → length (locals_of (take (i + 1) runs)) < 2 ^ 32
front_few runs i d l h = let e = longer_by runs i d l in omega (arith, h, e)

pub still_open : {A : Type 0} → (xs : List A) → (xs ≡ [] → ⊥) → 0 < length xs
still_open [] h = absurd (h refl)
still_open (x ∷ xs) h = omega arith
