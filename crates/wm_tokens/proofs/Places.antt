-- The first lexical error: its name and its offset.
use Rattle.std.proofs.Common.{◌≡◌, ◌≢◌, ℕ, zero, ◌≤◌, ◌+◌, ◌-◌, ◌⊎◌, Bool, true, false, List, [], ◌∷◌, ◌++◌, length, Option, Some, None, refl, sym, ap, subst, ◌∙◌, inl, inr, arith, append_assoc, IsUtf8}
use Rattle.std.specs.Prelude.{Result, Ok, Err, IfErr, ◌==◌, ◌↔◌}
use Rattle.std.specs.Str.{IsValidUpTo}
use Rattle.std.proofs.lemmas.Bool.{cond_both, eqb-true}
use Rattle.std.proofs.lemmas.List.{append-nil}
use Rattle.wm_tokens.specs.Tokens.{Token, open_paren, close_paren, string, atom, LineComment, LastSpace, CommentRest, Tokens}
use Rattle.wm_tokens.specs.TokenFaults.{IsAmong, LeadsTo, BeginsNothing, EndsInComment, EndsInString, HasNoEscape, BeginsFault, IsPlace, FirstFault, IsOfTokens, IsOfEnd, TellsFault}
use Rattle.wm_tokens.specs.TokenFaults as lead
use Rattle.wm_tokens.specs.declared.faults.TextRefusal.{TextRefusal}
use Rattle.wm_tokens.specs.declared.faults.TextWhy.{TextWhy}
use Rattle.wm_tokens.specs.declared.faults.TextWhy.TheVariants.{NotUtf8, BadToken, OpenComment, OpenString, BadEscape}
use Rattle.wm_tokens.specs.declared.scan.Class.{Class}
use Rattle.wm_tokens.specs.declared.scan.Class.TheVariants as k
use Rattle.wm_tokens.specs.declared.scan.Mode.TheVariants as m
use Rattle.wm_tokens.specs.exact.Scan.{after_spaces, ahead, Ahead, no_more, blank, first, fault, ahead_opening, blank_or_fault, string_or_fault, after_comment, string_in, why_in, told, told_by, class_of, is_atom, is_float_alone, has_tokens, is_some}
use Rattle.wm_tokens.specs.inner.Places.{Steps, here, over_blank, over_token, IsFault, IsFloat, HasNoFloat}
use Rattle.wm_tokens.proofs.Ahead.{IsOf, class_law, IsAhead, ahead_is_so, ahead_blank, ahead_last, ahead_token, ahead_40, ahead_34}
use Rattle.wm_tokens.proofs.Comments.{comment_more, comment_front}
use Rattle.wm_tokens.proofs.StringFaults.{Fault, fault_found, open_more, wrong_more}
use Rattle.wm_tokens.proofs.Whole.{ahead_nil, blank_shorter, first_shorter, spaces_along, spaces_within, stand_skip, stand_take, stand_stop, tokens_more}
use Rattle.wm_tokens.proofs.Atoms.{kind_more, float_alone, not_alone}

-- ---- what leads to a fault

-- with floats each token is one
all_among : (t : Token) → IsAmong true t
all_among open_paren = tt
all_among close_paren = tt
all_among (string bytes) = tt
all_among (atom a) = inl refl

pub steps_all : (text : List ℕ) → Steps true text text
steps_all text = here

pub steps_skip : (text b r : List ℕ) → blank r ≡ ahead b → Steps true text b → Steps true text r
steps_skip text b r e h = over_blank h e

pub steps_take : (text b r : List ℕ) (t : Token) → first t r ≡ ahead b → Steps true text b → Steps true text r
steps_take text b r t e h = over_token h e (all_among t)

pub steps_spaces : (text b : List ℕ) → Steps true text b → Steps true text (after_spaces b)
steps_spaces text b h = spaces_along (Steps true text) (steps_skip text) b h

pub steps_within : (floats : Bool) (text rest : List ℕ) → Steps floats text rest → length rest ≤ length text
steps_within floats text rest here = omega arith
steps_within floats text rest (over_blank {r = r} h e) = let le = steps_within floats text r h in let lt = blank_shorter r rest e in omega (arith, le, lt)
steps_within floats text rest (over_token {r = r} {t = t} h e among) = let le = steps_within floats text r h in let lt = first_shorter r rest t e in omega (arith, le, lt)

pub steps_within_true : (text rest : List ℕ) → Steps true text rest → length rest ≤ length text
steps_within_true text rest h = steps_within true text rest h

pub ruleset step_laws = (steps_all, steps_skip, steps_take, steps_spaces, steps_within_true)

-- as the definitions have it: a last line comment alone leads to the end of the text
nil_none : (c : ℕ) (b r : List ℕ) → r ≡ c ∷ b → r ≢ []
nil_none c b r is nil = let f : [] ≡ c ∷ b = sym nil ∙ is in cc

steps_lead : (floats : Bool) (text rest : List ℕ) → rest ≢ [] → Steps floats text rest → LeadsTo floats text rest
steps_lead floats text rest some here = lead.here
steps_lead floats text rest some (over_blank {r = r} h e) = by (subst (IsAhead r) (sym e) (ahead_is_so r)) (λ n. steps_lead floats text r n h)
  where
    by : IsAhead r (blank rest) → (r ≢ [] → LeadsTo floats text r) → LeadsTo floats text rest
    by (c, part, is, inl space) before = lead.over_blank (c ∷ part) (before (nil_none c (part ++ rest) r is)) is space
    by (c, part, is, inr (line, end)) before = absurd (some end)
steps_lead floats text rest some (over_token {r = r} {t = t} h e among) = by (subst (IsAhead r) (sym e) (ahead_is_so r)) (λ n. steps_lead floats text r n h)
  where
    by : IsAhead r (first t rest) → (r ≢ [] → LeadsTo floats text r) → LeadsTo floats text rest
    by (c, part, is, token, ends) before = lead.over_token (c ∷ part) t (before (nil_none c (part ++ rest) r is)) is token ends among

pub lead_steps : (floats : Bool) (text rest : List ℕ) → LeadsTo floats text rest → Steps floats text rest
lead_steps floats text rest lead.here = here
lead_steps floats text rest (lead.over_blank {b = b} part h is space) = over_blank (lead_steps floats text b h) (sym (ap ahead is ∙ ahead_blank part rest space))
lead_steps floats text rest (lead.over_token {b = b} part t h is token ends among) =
    over_token (lead_steps floats text b h) (sym (ap ahead is ∙ ahead_token t part rest token ends)) among

-- ---- where nothing leads on

abbrev Stuck : Bool → List ℕ → Type 0
Stuck floats b = (r : List ℕ) → (blank r ≡ ahead b → ⊥) × ((t : Token) → first t r ≡ ahead b → IsAmong floats t → ⊥)

abbrev Next : Bool → List ℕ → List ℕ → Type 0
Next floats b r = (blank r ≡ ahead b) ⊎ ((t : Token) × (first t r ≡ ahead b) × IsAmong floats t)

stuck_next : (floats : Bool) (b r : List ℕ) → Stuck floats b → Next floats b r → ⊥
stuck_next floats b r stuck (inl e) = (stuck r).0 e
stuck_next floats b r stuck (inr (t, e, among)) = (stuck r).1 t e among

one_next : (floats : Bool) (b r s : List ℕ) → Next floats b r → Next floats b s → r ≡ s
one_next floats b r s (inl e) (inl f) = let g : blank r ≡ blank s = e ∙ sym f in cc
one_next floats b r s (inl e) (inr (t, f, among)) = absurd (let g : blank r ≡ first t s = e ∙ sym f in cc)
one_next floats b r s (inr (t, e, among)) (inl f) = absurd (let g : first t r ≡ blank s = e ∙ sym f in cc)
one_next floats b r s (inr (t, e, among)) (inr (u, f, also)) = let g : first t r ≡ first u s = e ∙ sym f in cc

abbrev Begun : Bool → List ℕ → List ℕ → Type 0
Begun floats b s = (b ≡ s) ⊎ ((r : List ℕ) × Next floats b r × Steps floats r s)

begun : (floats : Bool) (b s : List ℕ) → Steps floats b s → Begun floats b s
begun floats b s here = inl refl
begun floats b s (over_blank {r = r} h e) = by (begun floats b r h)
  where
    by : Begun floats b r → Begun floats b s
    by (inl is) = inr (s, inl (e ∙ ap ahead (sym is)), here)
    by (inr (q, next, more)) = inr (q, next, over_blank more e)
begun floats b s (over_token {r = r} {t = t} h e among) = by (begun floats b r h)
  where
    by : Begun floats b r → Begun floats b s
    by (inl is) = inr (s, inr (t, e ∙ ap ahead (sym is), among), here)
    by (inr (q, next, more)) = inr (q, next, over_token more e among)

-- what is on the way leads to the end of it
on_the_way : (floats : Bool) (text b s : List ℕ) → Steps floats text s → Stuck floats s → Steps floats text b → Steps floats b s
on_the_way floats text b s all stuck here = all
on_the_way floats text b s all stuck (over_blank {r = r} h e) = by (begun floats r s (on_the_way floats text r s all stuck h))
  where
    by : Begun floats r s → Steps floats b s
    by (inl is) = absurd ((stuck b).0 (e ∙ ap ahead is))
    by (inr (q, next, more)) = subst (λ (z : List ℕ). Steps floats z s) (one_next floats r q b next (inl e)) more
on_the_way floats text b s all stuck (over_token {r = r} {t = t} h e among) = by (begun floats r s (on_the_way floats text r s all stuck h))
  where
    by : Begun floats r s → Steps floats b s
    by (inl is) = absurd ((stuck b).1 t (e ∙ ap ahead is) among)
    by (inr (q, next, more)) = subst (λ (z : List ℕ). Steps floats z s) (one_next floats r q b next (inr (t, e, among))) more

pub one_end : (floats : Bool) (text r s : List ℕ) → Steps floats text r → Stuck floats r → Steps floats text s → Stuck floats s → r ≡ s
one_end floats text r s to_r at_r to_s at_s = elim (begun floats r s (on_the_way floats text r s to_s at_s to_r)) [
  | inl is ↦ is
  | inr p ↦ absurd (stuck_next floats r p.0 at_r p.1)
]

-- ---- a fault stands first

fault_stuck : (floats : Bool) (b : List ℕ) → ahead b ≡ fault → Stuck floats b
fault_stuck floats b e r = ((λ f. let g : blank r ≡ fault = f ∙ e in cc), λ t f among. let g : first t r ≡ fault = f ∙ e in cc)

no_last_space : (b : List ℕ) → ahead b ≢ no_more → ((r : List ℕ) → ahead b ≢ blank r) → LastSpace b → ⊥
no_last_space b some on (inl ([], none)) = some (ap ahead none ∙ ahead_nil)
no_last_space b some on (inl (part ∷ parts, (x, y, cut, (is, space), more))) = on y (ap ahead (cut ∙ ap (λ (z : List ℕ). z ++ y) is) ∙ ahead_blank part y space)
no_last_space b some on (inr (x, y, cut, ([], none), line)) = on [] (ap ahead (cut ∙ ap (λ (z : List ℕ). z ++ y) none) ∙ ahead_last y line)
no_last_space b some on (inr (x, y, cut, (part ∷ parts, (u, v, cut2, (is, space), more)), line)) =
    let text : b ≡ part ++ (v ++ y) = cut ∙ ap (λ (z : List ℕ). z ++ y) (cut2 ∙ ap (λ (z : List ℕ). z ++ v) is) ∙ append_assoc part v y in
    on (v ++ y) (ap ahead text ∙ ahead_blank part (v ++ y) space)

begins_nothing : (floats : Bool) (b : List ℕ) → ahead b ≡ fault → BeginsNothing floats b
begins_nothing floats b e = (
  no_last_space b (λ n. let f : fault ≡ no_more = sym e ∙ n in cc) (λ r n. let f : fault ≡ blank r = sym e ∙ n in cc),
  λ part rest is. (
    (λ h. let f : blank rest ≡ fault = sym (ahead_blank part rest h) ∙ ap ahead (sym is) ∙ e in cc),
    (λ t h ends among. let f : first t rest ≡ fault = sym (ahead_token t part rest h ends) ∙ ap ahead (sym is) ∙ e in cc),
  ),
)

fault_some : (b : List ℕ) → fault ≡ ahead b → b ≢ []
fault_some b e nil = let f : fault ≡ no_more = e ∙ ap ahead nil ∙ ahead_nil in cc

-- these are told so
abbrev Told : TextWhy → List ℕ → Type 0
Told w b = (ahead b ≡ fault) × (told b ≡ w)

told_40 : (b : List ℕ) → told (40 ∷ b) ≡ OpenComment
unfolding told class_of
told_40 b = refl

told_34 : (b : List ℕ) → told (34 ∷ b) ≡ why_in m.Plain b
unfolding told class_of
told_34 b = refl

comment_told : (b : List ℕ) → EndsInComment b → Told OpenComment b
comment_told b (inside, is, none) = (ap ahead is ∙ ahead_40 (59 ∷ inside) ∙ by (after_comment zero inside) refl, ap told is ∙ told_40 (59 ∷ inside))
  where
    by : (o : Option (List ℕ)) → after_comment zero inside ≡ o → blank_or_fault (after_comment zero inside) ≡ fault
    by None e = ap blank_or_fault e
    by (Some r) e = let g = comment_front zero inside r e in absurd (none g.0 r g.1 g.2)

comment_found : (b : List ℕ) → ahead_opening b ≡ fault → EndsInComment (40 ∷ b)
comment_found [] e = absurd cc
comment_found (d ∷ b) e = cond_both (d == 59) _ _ (λ x. x ≡ fault → EndsInComment (40 ∷ d ∷ b))
    (λ t e. (b, ap (λ (x : ℕ). 40 ∷ x ∷ b) (eqb-true d 59 t), λ part rest is h. by part rest is h e))
    (λ _ e. absurd cc) e
  where
    by : (part rest : List ℕ) → b ≡ part ++ rest → CommentRest part → blank_or_fault (after_comment zero b) ≡ fault → ⊥
    by part rest is h e = let f : blank rest ≡ fault = sym (ap blank_or_fault (ap (after_comment zero) is ∙ comment_more zero part h rest)) ∙ e in cc

string_told : (w : TextWhy) (b : List ℕ) → (string_in m.Plain b ≡ None) × (why_in m.Plain b ≡ w) → Told w (34 ∷ b)
string_told w b (none, why) = (ahead_34 b ∙ ap string_or_fault none, told_34 b ∙ why)

open_told : (b : List ℕ) → EndsInString b → Told OpenString b
open_told b (q, r, cut, quote, h) = subst (Told OpenString) (sym (cut ∙ ap (λ (z : List ℕ). z ++ r) quote)) (string_told OpenString r (open_more r h))

escape_told : (b : List ℕ) → HasNoEscape b → Told BadEscape b
escape_told b (q, r, cut, quote, h) = subst (Told BadEscape) (sym (cut ∙ ap (λ (z : List ℕ). z ++ r) quote)) (string_told BadEscape r (wrong_more r h))

abbrev Found : List ℕ → Type 0
Found b = ((told b ≡ OpenComment) × EndsInComment b) ⊎ ((told b ≡ OpenString) × EndsInString b) ⊎ ((told b ≡ BadEscape) × HasNoEscape b) ⊎ (told b ≡ BadToken)

string_found : (b : List ℕ) → string_or_fault (string_in m.Plain b) ≡ fault → Found (34 ∷ b)
string_found b e = by (fault_found b (none (string_in m.Plain b) e))
  where
    none : (o : Option (List ℕ × List ℕ)) → string_or_fault o ≡ fault → o ≡ None
    none None e = refl
    none (Some x) e = absurd cc

    by : Fault b → Found (34 ∷ b)
    by (inl (why, h)) = inr (inl (told_34 b ∙ why, (34 ∷ [], b, refl, refl, h)))
    by (inr (inl (why, h))) = inr (inr (inl (told_34 b ∙ why, (34 ∷ [], b, refl, refl, h))))
    by (inr (inr why)) = inr (inr (inr (told_34 b ∙ why)))

told_is : (c : ℕ) (b : List ℕ) (x : Class) → class_of c ≡ x → told (c ∷ b) ≡ told_by x b
unfolding told
told_is c b x e = ap (λ (y : Class). told_by y b) e

found : (b : List ℕ) → ahead b ≡ fault → Found b
found [] e = absurd (let f : no_more ≡ fault = sym ahead_nil ∙ e in cc)
found (c ∷ b) e = by (class_of c) refl (class_law c)
  where
    by : (x : Class) → class_of c ≡ x → IsOf c (class_of c) → Found (c ∷ b)
    by k.Space is h = inr (inr (inr (told_is c b k.Space is)))
    by k.Semicolon is h = inr (inr (inr (told_is c b k.Semicolon is)))
    by k.Opening is h =
        let at : c ≡ 40 = subst (IsOf c) is h in
        inl (told_is c b k.Opening is, subst (λ (x : ℕ). EndsInComment (x ∷ b)) (sym at) (comment_found b (sym (ahead_40 b) ∙ ap (λ (x : ℕ). ahead (x ∷ b)) (sym at) ∙ e)))
    by k.Closing is h = inr (inr (inr (told_is c b k.Closing is)))
    by k.Quote is h =
        let at : c ≡ 34 = subst (IsOf c) is h in
        subst (λ (x : ℕ). Found (x ∷ b)) (sym at) (string_found b (sym (ahead_34 b) ∙ ap (λ (x : ℕ). ahead (x ∷ b)) (sym at) ∙ e))
    by k.Atom is h = inr (inr (inr (told_is c b k.Atom is)))
    by k.Other is h = inr (inr (inr (told_is c b k.Other is)))

begins : (floats : Bool) (b : List ℕ) → ahead b ≡ fault → BeginsFault floats (told b) b
begins floats b e = by (found b e)
  where
    by : Found b → BeginsFault floats (told b) b
    by (inl (is, h)) = subst (λ (w : TextWhy). BeginsFault floats w b) (sym is) h
    by (inr (inl (is, h))) = subst (λ (w : TextWhy). BeginsFault floats w b) (sym is) h
    by (inr (inr (inl (is, h)))) = subst (λ (w : TextWhy). BeginsFault floats w b) (sym is) h
    by (inr (inr (inr is))) = subst (λ (w : TextWhy). BeginsFault floats w b) (sym is) (
      begins_nothing floats b e,
      (λ h. let f : OpenComment ≡ BadToken = sym (comment_told b h).1 ∙ is in cc),
      (λ h. let f : OpenString ≡ BadToken = sym (open_told b h).1 ∙ is in cc),
      (λ h. let f : BadEscape ≡ BadToken = sym (escape_told b h).1 ∙ is in cc),
    )

-- ---- one fault

abbrev Three : List ℕ → Type 0
Three b = EndsInComment b ⊎ EndsInString b ⊎ HasNoEscape b

abbrev Named : Bool → TextWhy → List ℕ → Type 0
Named floats w b = (Three b × Told w b) ⊎ ((w ≡ BadToken) × (Three b → ⊥) × BeginsNothing floats b)

named : (floats : Bool) (w : TextWhy) (b : List ℕ) → BeginsFault floats w b → Named floats w b
named floats OpenComment b h = inl (inl h, comment_told b h)
named floats OpenString b h = inl (inr (inl h), open_told b h)
named floats BadEscape b h = inl (inr (inr h), escape_told b h)
named floats BadToken b (nothing, comment, unended, escape) = inr (refl, none, nothing)
  where
    none : Three b → ⊥
    none (inl h) = comment h
    none (inr (inl h)) = unended h
    none (inr (inr h)) = escape h
named floats _ b h = absurd h

one_name : (floats : Bool) (v w : TextWhy) (b : List ℕ) → BeginsFault floats v b → BeginsFault floats w b → v ≡ w
one_name floats v w b g h = by (named floats v b g) (named floats w b h)
  where
    by : Named floats v b → Named floats w b → v ≡ w
    by (inl (x, (e, p))) (inl (y, (f, q))) = sym p ∙ q
    by (inl (x, p)) (inr (q, none, nothing)) = absurd (none x)
    by (inr (p, none, nothing)) (inl (y, q)) = absurd (none y)
    by (inr (p, none, nothing)) (inr (q, also, nor)) = p ∙ sym q

begins_stuck : (floats : Bool) (w : TextWhy) (b : List ℕ) → BeginsFault floats w b → Stuck floats b
begins_stuck floats w b h = by (named floats w b h)
  where
    by : Named floats w b → Stuck floats b
    by (inl (three, (e, is))) = fault_stuck floats b e
    by (inr (is, none, (space, nothing))) = λ r. (
      (λ e. over_space r (subst (IsAhead b) (sym e) (ahead_is_so b))),
      (λ t e among. let g = subst (IsAhead b) (sym e) (ahead_is_so b) in (nothing (g.0 ∷ g.1) r g.2).1 t g.3 g.4 among),
    )
      where
        over_space : (r : List ℕ) → IsAhead b (blank r) → ⊥
        over_space r (c, part, is, inl h) = (nothing (c ∷ part) r is).0 h
        over_space r (c, part, is, inr (line, end)) =
            let whole : b ≡ c ∷ part = is ∙ ap (λ (z : List ℕ). c ∷ part ++ z) end ∙ append-nil (c ∷ part) in
            space (inr ([], b, refl, ([], refl), subst LineComment (sym whole) line))

pub nothing_begins : (floats : Bool) (w : TextWhy) (b : List ℕ) → BeginsFault floats w b → BeginsNothing floats b
nothing_begins floats w b h = by (named floats w b h)
  where
    by : Named floats w b → BeginsNothing floats b
    by (inl (three, (e, is))) = begins_nothing floats b e
    by (inr (is, none, nothing)) = nothing

-- the place goes by the rest
place_same : (w : TextWhy) (text rest : List ℕ) (x y : ℕ) → IsPlace w text rest x → IsPlace w text rest y → x ≡ y
place_same OpenComment text rest x y p q = p ∙ sym q
place_same OpenString text rest x y p q = p ∙ sym q
place_same NotUtf8 text rest x y p q = omega (arith, p, q)
place_same _ text rest x y p q = omega (arith, p, q)

pub one_fault : (floats : Bool) (text : List ℕ) (v w : TextWhy) (x y : ℕ) → FirstFault floats text v x → FirstFault floats text w y → (v ≡ w) × (x ≡ y)
one_fault floats text v w x y g h =
    let same : g.rest ≡ h.rest = one_end floats text g.rest h.rest (lead_steps floats text g.rest g.leads) (begins_stuck floats v g.rest g.fault)
    (lead_steps floats text h.rest h.leads) (begins_stuck floats w h.rest h.fault) in
    let name : v ≡ w = one_name floats v w h.rest (subst (BeginsFault floats v) same g.fault) h.fault in
    (name, place_same w text h.rest x y (subst (λ (z : List ℕ). IsPlace w text z x) same (subst (λ (z : TextWhy). IsPlace z text g.rest x) name g.place)) h.place)

-- ---- and no tokens

fault_ahead : (w : TextWhy) (b : List ℕ) → BeginsFault true w b → ahead b ≡ fault
fault_ahead w b h = by (named true w b h) (begins_stuck true w b h)
  where
    by : Named true w b → Stuck true b → ahead b ≡ fault
    by (inl (three, (e, is))) stuck = e
    by (inr (is, none, (space, nothing))) stuck = at (ahead b) refl (ahead_is_so b)
      where
        at : (f : Ahead) → ahead b ≡ f → IsAhead b f → ahead b ≡ fault
        at no_more e h = absurd (space (inl ([], h)))
        at (blank r) e h = absurd ((stuck r).0 (sym e))
        at (first t r) e h = absurd ((stuck r).1 t (sym e) (all_among t))
        at fault e h = e

steps_has : (floats : Bool) (text rest : List ℕ) → Steps floats text rest → has_tokens rest ≡ has_tokens text
steps_has floats text rest here = refl
steps_has floats text rest (over_blank {r = r} h e) = sym (stand_skip r rest e) ∙ steps_has floats text r h
steps_has floats text rest (over_token {r = r} {t = t} h e among) = sym (stand_take r rest t e) ∙ steps_has floats text r h

pub no_tokens : (text : List ℕ) (w : TextWhy) (n : ℕ) (k : List Token) → FirstFault true text w n → Tokens text k → ⊥
no_tokens text w n k g t =
    let none : has_tokens g.rest ≡ false = stand_stop g.rest (sym (fault_ahead w g.rest g.fault)) in
    let f : true ≡ false = sym (ap is_some (tokens_more k text t.1)) ∙ sym (steps_has true text g.rest (lead_steps true text g.rest g.leads)) ∙ none in cc

-- ---- where floats are no tokens

pub steps_any : (text rest : List ℕ) → Steps false text rest → Steps true text rest
steps_any text rest here = here
steps_any text rest (over_blank {r = r} h e) = over_blank (steps_any text r h) e
steps_any text rest (over_token {r = r} {t = t} h e among) = over_token (steps_any text r h) e (all_among t)

-- a fault is one with floats or without
any_begins : (f g : Bool) (w : TextWhy) (b : List ℕ) → ahead b ≡ fault → BeginsFault f w b → BeginsFault g w b
any_begins f g OpenComment b e h = h
any_begins f g OpenString b e h = h
any_begins f g BadEscape b e h = h
any_begins f g BadToken b e (nothing, comment, unended, escape) = (begins_nothing g b e, comment, unended, escape)
any_begins f g _ b e h = absurd h

-- at a place that is reached with floats and without, the first fault is one with or without
pub moved : (f g : Bool) (text rest : List ℕ) (w : TextWhy) (n : ℕ) → Steps f text rest → Steps g text rest → (no_more ≡ ahead rest) ⊎ (fault ≡ ahead rest) → FirstFault f text w n → FirstFault g text w n
moved f g text rest w n to too (inl none) h =
    let same : h.rest ≡ rest = one_end f text h.rest rest (lead_steps f text h.rest h.leads) (begins_stuck f w h.rest h.fault) to
    (λ r. ((λ e. let f : blank r ≡ no_more = e ∙ sym none in cc), λ t e among. let f : first t r ≡ no_more = e ∙ sym none in cc)) in
    absurd (over (named f w rest (subst (BeginsFault f w) same h.fault)))
  where
    over : Named f w rest → ⊥
    over (inl (three, (e, is))) = let f : no_more ≡ fault = none ∙ e in cc
    over (inr (is, not_three, (space, nothing))) = space (inl ([], subst (IsAhead rest) (sym none) (ahead_is_so rest)))
moved f g text rest w n to too (inr stop) h =
    let same : h.rest ≡ rest = one_end f text h.rest rest (lead_steps f text h.rest h.leads) (begins_stuck f w h.rest h.fault) to (fault_stuck f rest (sym stop)) in
    record {
      rest = rest;
      utf8 = h.utf8;
      leads = steps_lead g text rest (fault_some rest stop) too;
      fault = any_begins f g w rest (sym stop) (subst (BeginsFault f w) same h.fault);
      place = subst (λ (z : List ℕ). IsPlace w text z n) same h.place;
    }

float_first : (text : List ℕ) (at : ℕ) → IsUtf8 text → IsFloat text at → FirstFault false text BadToken at
float_first text at u (rest, more, a, steps, is, alone, place) = record {
  rest = rest;
  utf8 = u;
  leads = steps_lead false text rest (λ nil. let f : first (atom a) more ≡ no_more = is ∙ ap ahead nil ∙ ahead_nil in cc) steps;
  fault = (nothing, not_told OpenComment (λ g. comment_told rest g), not_told OpenString (λ g. open_told rest g), not_told BadEscape (λ g. escape_told rest g));
  place = place;
}
  where
    not_told : {X : Type 0} (v : TextWhy) → (X → Told v rest) → X → ⊥
    not_told v tells x = let f : first (atom a) more ≡ fault = is ∙ (tells x).0 in cc

    nothing : BeginsNothing false rest
    nothing = (
      no_last_space rest (λ e. let f : first (atom a) more ≡ no_more = is ∙ e in cc) (λ r e. let f : first (atom a) more ≡ blank r = is ∙ e in cc),
      λ part r cut. (
        (λ space. let f : first (atom a) more ≡ blank r = is ∙ ap ahead cut ∙ ahead_blank part r space in cc),
        (λ t token ends among.
            let f : first (atom a) more ≡ first t r = is ∙ ap ahead cut ∙ ahead_token t part r token ends in
            let same : t ≡ atom a = cc in
            alone (subst (IsAmong false) same among)),
      ),
    )

-- ---- what is told

of_tokens : (floats : Bool) (w : TextWhy) (b : List ℕ) → BeginsFault floats w b → IsOfTokens w
of_tokens floats OpenComment b h = tt
of_tokens floats OpenString b h = tt
of_tokens floats BadEscape b h = tt
of_tokens floats BadToken b h = tt
of_tokens floats _ b h = h

pub tells_first : (floats : Bool) (text : List ℕ) (why : TextWhy) (at : ℕ) → FirstFault floats text why at → TellsFault floats text why at
tells_first floats text why at g w n = (
  (λ h. let same = one_fault floats text why w at n g h in (of_tokens floats w h.rest h.fault, same.0, same.1)),
  (λ p. subst (λ (v : TextWhy). FirstFault floats text v n) p.1 (subst (FirstFault floats text why) p.2 g)),
)

pub float_told : (text : List ℕ) (at : ℕ) → IsUtf8 text → IsFloat text at → TellsFault false text BadToken at
float_told text at u h = tells_first false text BadToken at (float_first text at u h)

pub no_float_told : (text : List ℕ) (why : TextWhy) (at : ℕ) → HasNoFloat text → TellsFault true text why at → TellsFault false text why at
no_float_told text why at (rest, steps, end) tells w n = (
  (λ h. (tells w n).0 (moved false true text rest w n steps (steps_any text rest steps) end h)),
  (λ p. moved true false text rest w n (steps_any text rest steps) steps end ((tells w n).1 p)),
)

plain_skip : (text b r : List ℕ) → blank r ≡ ahead b → Steps false text b → Steps false text r
plain_skip text b r e h = over_blank h e

-- ---- at the end of the text

none_left : (b : List ℕ) → length b ≡ 0 → b ≡ []
none_left [] e = refl
none_left (c ∷ b) e = absurd (omega (arith, e))

pub fault_end : (floats : Bool) (text : List ℕ) (w : TextWhy) (n : ℕ) → FirstFault floats text w n → n ≡ length text → IsOfEnd w
fault_end floats text w n g end = by w g.fault g.place
  where
    by : (w : TextWhy) → BeginsFault floats w g.rest → IsPlace w text g.rest n → IsOfEnd w
    by OpenComment h place = tt
    by OpenString h place = tt
    by BadToken h place = absurd ((subst (BeginsNothing floats) (none_left g.rest (omega (arith, place, end))) h.0).0 (inl ([], refl)))
    by BadEscape (q, r, cut, quote, h) place =
        absurd (let f : [] ≡ 34 ∷ r = sym (none_left g.rest (omega (arith, place, end))) ∙ cut ∙ ap (λ (z : List ℕ). z ++ r) quote in cc)
    by _ h place = absurd h

pub float_end : (text : List ℕ) (at : ℕ) → IsFloat text at → at ≢ length text
float_end text at (rest, more, a, steps, is, alone, place) end =
    let f : first (atom a) more ≡ no_more = is ∙ ap ahead (none_left rest (omega (arith, place, end))) ∙ ahead_nil in cc

-- ---- as the code finds it

pub place_within : (w : TextWhy) (text rest : List ℕ) (x : ℕ) → IsPlace w text rest x → x ≤ length text
place_within OpenComment text rest x p = omega (arith, p)
place_within OpenString text rest x p = omega (arith, p)
place_within NotUtf8 text rest x p = omega (arith, p)
place_within _ text rest x p = omega (arith, p)

pub place_front : (w : TextWhy) (text rest : List ℕ) (x : ℕ) → w ≢ OpenComment → w ≢ OpenString → x + length rest ≡ length text → IsPlace w text rest x
place_front OpenComment text rest x c s p = absurd (c refl)
place_front OpenString text rest x c s p = absurd (s refl)
place_front NotUtf8 text rest x c s p = p
place_front _ text rest x c s p = p

pub fault_first : (text : List ℕ) (e : TextRefusal) → IsUtf8 text → IsFault text e → FirstFault true text e.why e.at
fault_first text e u (rest, steps, is, why, place) = record {
  rest = rest;
  utf8 = u;
  leads = steps_lead true text rest (fault_some rest is) steps;
  fault = subst (λ (w : TextWhy). BeginsFault true w rest) (sym why) (begins true rest (sym is));
  place = place;
}

fault_named : (text : List ℕ) (e : TextRefusal) → IsFault text e → e.why ≢ NotUtf8
fault_named text e (rest, steps, is, why, place) none = by (found rest (sym is))
  where
    by : Found rest → ⊥
    by (inl (named, h)) = let f : NotUtf8 ≡ OpenComment = sym none ∙ why ∙ named in cc
    by (inr (inl (named, h))) = let f : NotUtf8 ≡ OpenString = sym none ∙ why ∙ named in cc
    by (inr (inr (inl (named, h)))) = let f : NotUtf8 ≡ BadEscape = sym none ∙ why ∙ named in cc
    by (inr (inr (inr named))) = let f : NotUtf8 ≡ BadToken = sym none ∙ why ∙ named in cc

-- where a text is UTF-8, what is found is its first fault
pub utf8_err : (text : List ℕ) (r : Result (Unit {0}) TextRefusal) → IsUtf8 text → IfErr r (λ e. IsFault text e) → IfErr r (λ e. (e.why ≡ NotUtf8) ↔ (¬ (IsUtf8 text)))
utf8_err text (Ok x) u h = tt
utf8_err text (Err e) u h = ((λ none. absurd (fault_named text e h none)), λ n. absurd (n u))

pub first_err : (text : List ℕ) (r : Result (Unit {0}) TextRefusal) → IsUtf8 text → IfErr r (λ e. IsFault text e) → IfErr r (λ e. e.why ≢ NotUtf8 → FirstFault true text e.why e.at)
first_err text (Ok x) u h = tt
first_err text (Err e) u h = λ _. fault_first text e u h

pub at_err : (text : List ℕ) (r : Result (Unit {0}) TextRefusal) → IfErr r (λ e. IsFault text e) → IfErr r (λ e. e.at ≤ length text)
at_err text (Ok x) h = tt
at_err text (Err e) h = place_within e.why text h.0 e.at h.4

pub utf8_at_err : (text : List ℕ) (r : Result (Unit {0}) TextRefusal) → IfErr r (λ e. IsFault text e) → IfErr r (λ e. e.why ≡ NotUtf8 → IsValidUpTo text e.at)
utf8_at_err text (Ok x) h = tt
utf8_at_err text (Err e) h = λ none. absurd (fault_named text e h none)

pub plain_all : (text : List ℕ) → Steps false text text
plain_all text = here

pub plain_blank : (text b r : List ℕ) → blank r ≡ ahead b → Steps false text b → Steps false text (after_spaces r)
plain_blank text b r e h = spaces_along (Steps false text) (plain_skip text) r (over_blank h e)

pub plain_spaces : (text : List ℕ) → Steps false text (after_spaces text)
plain_spaces text = spaces_along (Steps false text) (plain_skip text) text here

pub plain_take : (text b r : List ℕ) (t : Token) → first t r ≡ ahead b → IsAmong false t → Steps false text b → Steps false text (after_spaces r)
plain_take text b r t e among h = spaces_along (Steps false text) (plain_skip text) r (over_token h e among)

-- the atom that stands first is one
atom_first : (b a r : List ℕ) → first (atom a) r ≡ ahead b → is_atom a ≡ true
atom_first b a r e = let g = subst (IsAhead b) (sym e) (ahead_is_so b) in kind_more a g.3.1.1

pub plain_atom_take : (text b r a : List ℕ) → first (atom a) r ≡ ahead b → is_float_alone a ≡ false → Steps false text b → Steps false text (after_spaces r)
plain_atom_take text b r a e n h = plain_take text b r (atom a) e (not_alone a (atom_first b a r e) n) h

pub float_here : (text b r a : List ℕ) (at : ℕ) → first (atom a) r ≡ ahead b → is_float_alone a ≡ true → Steps false text b → at ≡ length text - length b → IsFloat text at
float_here text b r a at e alone h place = (b, r, a, h, e, float_alone a alone, let le = steps_within false text b h in omega (arith, le, place))

pub none_at_end : (text b : List ℕ) → no_more ≡ ahead b → Steps false text b → HasNoFloat text
none_at_end text b e h = (b, h, inl e)

pub none_at_fault : (text b : List ℕ) → fault ≡ ahead b → Steps false text b → HasNoFloat text
none_at_fault text b e h = (b, h, inr e)

pub ruleset float_laws = (plain_all, plain_blank, plain_spaces, plain_take, plain_atom_take, none_at_end, none_at_fault, blank_shorter, first_shorter, spaces_within)
