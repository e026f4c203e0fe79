-- The types that a frame denotes, topmost last.
use Rattle.std.proofs.Common.{ℕ, ◌≡◌, ◌+◌, ◌-◌, Bool, true, false, IsTrue, List, [], ◌∷◌, ◌++◌, length, take, drop, map, reverse, sym, refl, ap, ◌∙◌, subst, arith, length-append, ◌↔◌, inl, inr, ◌⊎◌}
use Rattle.std.proofs.lemmas.List.{reverse-append, reverse-reverse}
use Rattle.std.proofs.Math.Seq.{take-append_seam, drop-append_seam}
use Rattle.wm_syntax.specs.declared.types.ValType.{ValType}
use Rattle.wm_syntax.specs.Instructions.{Instructions}
use Rattle.wm_stacks.specs.declared.stack_entries.Entry.{Entry}
use Rattle.wm_stacks.specs.declared.stack_entries.Frame.{Frame}
use Rattle.wm_stacks.specs.Stack.{fits, AgreeAll, Denotes}
use Rattle.wm_typing.specs.Typing.{Context, Typed}
use Rattle.wm_typing.specs.OpenLists.{head_of, Work, work, at, taken_by}
use Rattle.wm_typing.specs.inner.Frames.{Below, Stands, Meets, AllMeet, Segments, piles_of}
use Rattle.wm_typing.specs.TypedBodies.{DenoteEach}

abbrev Parts : Bool → List Entry → List ValType → Type 0
Parts un es ts = (above : List ValType) × (below : List ValType) × (ts ≡ above ++ below) × AgreeAll es above × Below un below

parts_of : (un : Bool) (es : List Entry) (ts : List ValType) → Stands un es ts → Parts un es ts
parts_of un [] ts h = ([], ts, refl, tt, h)
parts_of un (e ∷ es) [] h = absurd h
parts_of un (e ∷ es) (t ∷ ts) h =
    let r = parts_of un es ts h.1 in (t ∷ r.0, r.1, ap (λ z. t ∷ z) r.2, (h.0, r.3), r.4)

parts_to : (un : Bool) (es : List Entry) (above below : List ValType) → AgreeAll es above → Below un below → Stands un es (above ++ below)
parts_to un [] [] below a b = b
parts_to un [] (u ∷ above) below a b = absurd a
parts_to un (e ∷ es) [] below a b = absurd a
parts_to un (e ∷ es) (u ∷ above) below a b = (a.0, parts_to un es above below a.1 b)

parts_law : (un : Bool) (es : List Entry) (ts : List ValType) → Stands un es ts ↔ Parts un es ts
parts_law un es ts = (parts_of un es ts, λ h. subst (λ z. Stands un es z) (sym h.2) (parts_to un es h.0 h.1 h.3 h.4))

agree_push : (es : List Entry) (ts : List ValType) (e : Entry) (t : ValType) → AgreeAll es ts → IsTrue (fits e t) → AgreeAll (es ++ e ∷ []) (ts ++ t ∷ [])
agree_push [] [] e t a b = (b, tt)
agree_push [] (u ∷ ts) e t a b = absurd a
agree_push (f ∷ es) [] e t a b = absurd a
agree_push (f ∷ es) (u ∷ ts) e t a b = (a.0, agree_push es ts e t a.1 b)

agree_reverse : (es : List Entry) (ts : List ValType) → AgreeAll es ts → AgreeAll (reverse es) (reverse ts)
agree_reverse [] [] a = tt
agree_reverse [] (u ∷ ts) a = absurd a
agree_reverse (f ∷ es) [] a = absurd a
agree_reverse (f ∷ es) (u ∷ ts) a =
    subst (λ z. AgreeAll z (reverse (u ∷ ts))) (sym (reverse-append (f ∷ []) es))
    (subst (λ z. AgreeAll (reverse es ++ f ∷ []) z) (sym (reverse-append (u ∷ []) ts))
    (agree_push (reverse es) (reverse ts) f u (agree_reverse es ts a.1) a.0))

below_shown : (un : Bool) (ts : List ValType) → Below un ts → ((un ≡ true) ⊎ (reverse ts ≡ []))
below_shown true ts h = inl refl
below_shown false ts h = inr (ap reverse h)

shown_below : (un : Bool) (ts : List ValType) → ((un ≡ true) ⊎ (ts ≡ [])) → Below un (reverse ts)
shown_below true ts h = tt
shown_below false ts (inl e) = cc
shown_below false ts (inr e) = ap reverse e

pub shown_law : (f : Frame) (es : List Entry) (types : List ValType) → Stands f.unreachable es (reverse types) ↔ Denotes f (reverse es) types
shown_law f es types =
    let p = parts_law f.unreachable es (reverse types) in (
      λ h. let r = p.0 h in
          (reverse r.1, reverse r.0, sym (reverse-reverse types) ∙ ap reverse r.2 ∙ reverse-append r.0 r.1, agree_reverse es r.0 r.3, below_shown f.unreachable r.1 r.4),
      λ h. p.1 (
        reverse h.1,
        reverse h.0,
        ap reverse h.2 ∙ reverse-append h.0 h.1,
        subst (λ z. AgreeAll z (reverse h.1)) (reverse-reverse es) (agree_reverse (reverse es) h.1 h.3),
        shown_below f.unreachable h.0 h.4,
      ),
    )

-- the entries above a floor, and those under it
cut_at_floor : (n : ℕ) (entries es below : List Entry) → entries ≡ es ++ below → n ≡ length below → length entries - n ≡ length es
cut_at_floor n entries es below e k =
    let l : length entries ≡ length es + length below = ap length e ∙ length-append es below in omega (arith, l, k)

over : (n : ℕ) (entries es below : List Entry) → entries ≡ es ++ below → n ≡ length below → es ≡ take (length entries - n) entries
over n entries es below e k =
    sym (ap (λ z. take z entries) (cut_at_floor n entries es below e k) ∙ ap (λ z. take (length es) z) e ∙ take-append_seam es below)

under : (n : ℕ) (entries es below : List Entry) → entries ≡ es ++ below → n ≡ length below → below ≡ drop (length entries - n) entries
under n entries es below e k =
    sym (ap (λ z. drop z entries) (cut_at_floor n entries es below e k) ∙ ap (λ z. drop (length es) z) e ∙ drop-append_seam es below)

denote_one : (c : Context) (f : Frame) (taken : List ValType) (first s : Instructions) (es : List Entry)
    → Meets c (head_of f) taken (work first s) (record { dead = f.unreachable; entries = es })
    → (types : List ValType) → Typed c s [] (types ++ taken) ↔ Denotes f (reverse es) types
denote_one c f taken first s es m types =
    let d = shown_law f es types in
    let e : types ++ taken ≡ reverse (reverse taken ++ reverse types) =
    sym (reverse-append (reverse taken) (reverse types) ∙ ap (λ z. z ++ reverse (reverse taken)) (reverse-reverse types) ∙ ap (λ z. types ++ z) (reverse-reverse taken)) in
    (λ k. d.0 ((m.1 (reverse types)).0 (subst (λ z. Typed c s [] z) e k)), λ k. subst (λ z. Typed c s [] z) (sym e) ((m.1 (reverse types)).1 (d.1 k)))

pub denote_all : (c : Context) (taken : List ValType) (gs : List Frame) (entries : List Entry) (ess : List (List Entry)) (ws : List Work) → Segments gs entries ess
    → AllMeet c taken (map head_of gs) ws (piles_of gs ess) → DenoteEach c taken gs entries ws
denote_all c taken [] entries [] [] h m = tt
denote_all c taken [] entries [] (w ∷ ws) h m = absurd m
denote_all c taken [] entries (es ∷ ess) ws h m = absurd h
denote_all c taken (g ∷ gs) entries [] ws h m = absurd h
denote_all c taken (g ∷ gs) entries (es ∷ ess) [] h m = absurd m
denote_all c taken (g ∷ gs) entries (es ∷ ess) (work first s ∷ ws) h m = (
  λ types. subst (λ z. Typed (at c (map head_of (g ∷ gs))) s [] (types ++ taken) ↔ Denotes g (reverse z) types) (over g.floor entries es h.0 h.1 h.2)
      (denote_one (at c (map head_of (g ∷ gs))) g taken first s es m.0 types),
  subst (λ z. DenoteEach c (taken_by (head_of g)) gs z ws) (under g.floor entries es h.0 h.1 h.2)
      (denote_all c (taken_by (head_of g)) gs h.0 ess ws h.3 m.1),
)
