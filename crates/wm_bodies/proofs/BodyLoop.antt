-- The loop over the pieces of a body.
use Rattle.std.proofs.Common.{◌≡◌, ℕ, ◌<◌, ◌≤◌, List, [], ◌∷◌, ◌++◌, length, Option, Some, None, refl, sym, ap, subst, ◌∙◌, arith}
use Rattle.wm_syntax.specs.declared.instructions.Op.{Op}
use Rattle.wm_syntax.specs.declared.profile.Profile.{Profile}
use Rattle.wm_tokens.specs.Tokens.{Token, open_paren, close_paren, string, atom}
use Rattle.wm_tokens.specs.declared.faults.TextWhy.{TextWhy}
use Rattle.wm_tokens.specs.declared.faults.TextWhy.TheVariants.{Expected}
use Rattle.wm_bodies.specs.inner.Views.{Fails}
use Rattle.wm_bodies.specs.exact.TypeUses.{call_use_at, instructions_at}
use Rattle.wm_bodies.specs.inner.Bodies.{CanTake, IsOver}
use Rattle.wm_syntax.specs.Instructions.{Instructions}
use Rattle.wm_syntax.specs.inner.Building.{Place, at, start, place_after, if_placed, body_at, body_in}
use Rattle.wm_syntax.proofs.Places.{after_append}
use Rattle.wm_tokens.specs.Written.{Scope}
use Rattle.wm_bodies.specs.inner.Pieces.{Open, Opened, Piece, after, piece_ops}
use Rattle.wm_bodies.specs.exact.Reading.{Reader, ◌>>=◌, piece_at, ops_at}
use Rattle.wm_tokens.proofs.Basics.{same_some}
use Rattle.wm_bodies.proofs.BuiltBodies.{IsNext, is_next, takes, whole}
use Rattle.wm_bodies.proofs.PieceLaws.{piece_sound}
use Rattle.wm_bodies.proofs.Readers.{bind_is}
use Rattle.wm_bodies.proofs.TypeUseLaws.{call_sound}
use Rattle.wm_bodies.proofs.BodyLaws.{ops_step, shorter}

-- the body that ops lead a builder to from its place, and what follows
abbrev pub body_from : Place → Option (List Op × List Token) → Option (Instructions × List Token)
body_from place read = read >>= λ x. Some (body_in (place_after place x.0), x.1)

regroup : (p q : Place) (ops : List Op) (o : Option (List Op × List Token)) → place_after p ops ≡ Some q → body_from p (o >>= λ y. Some (ops ++ y.0, y.1)) ≡ body_from q o
regroup p q ops None e = refl
regroup p q ops (Some x) e = ap (λ (z : Option Place). Some (body_in z, x.1)) (after_append ops x.0 p ∙ ap (λ (z : Option Place). if_placed z (λ r. place_after r x.0)) e)

abbrev Use : (pr : Profile) → Scope → Reader ℕ
Use pr sc = call_use_at pr sc.names

-- one piece further
pub body_more : (p : Profile) (sc : Scope) (place next : Place) (bs : Opened) (w : List ℕ) (j k left : List Token) (q : Piece) → j ≡ atom w ∷ k → piece_at (call_use_at p sc.names) p sc bs w k ≡ Some (q, left)
    → place_after place (piece_ops q) ≡ Some next → body_from place (ops_at (call_use_at p sc.names) p sc bs j) ≡ body_from next (ops_at (call_use_at p sc.names) p sc (after bs q) left)
body_more p sc place next bs w j k left q t e g =
    ap (λ (z : List Token). body_from place (ops_at (Use p sc) p sc bs z)) t
    ∙ ap (body_from place) (ops_step (Use p sc) p sc (call_sound p sc.names) bs w k ∙ bind_is (piece_at (Use p sc) p sc bs w k) _ (q, left) e)
    ∙ regroup place next (piece_ops q) (ops_at (Use p sc) p sc (after bs q) left) g

pub body_fail : (p : Profile) (sc : Scope) (place : Place) (bs : Opened) (w : List ℕ) (j k : List Token) → j ≡ atom w ∷ k → piece_at (call_use_at p sc.names) p sc bs w k ≡ None → body_from place (ops_at (call_use_at p sc.names) p sc bs j) ≡ None
body_fail p sc place bs w j k t e =
    ap (λ (z : List Token). body_from place (ops_at (Use p sc) p sc bs z)) t
    ∙ ap (body_from place) (ops_step (Use p sc) p sc (call_sound p sc.names) bs w k ∙ ap (λ (o : Option (Piece × List Token)). o >>= λ x. ops_at (Use p sc) p sc (after bs x.0) x.1 >>= λ y. Some (piece_ops x.0 ++ y.0, y.1)) e)

pub body_over : (p : Profile) (sc : Scope) (place : Place) (s : Instructions) (bs : Opened) (j k : List Token) → bs ≡ [] → j ≡ close_paren ∷ k → place ≡ at [] s
    → body_from place (ops_at (call_use_at p sc.names) p sc bs j) ≡ Some (s, j)
unfolding ops_at
body_over p sc place s bs j k e t g =
    ap (λ (z : Opened). body_from place (ops_at (Use p sc) p sc z j)) e ∙ ap (λ (z : List Token). body_from place (ops_at (Use p sc) p sc [] z)) t
    ∙ ap (λ (z : Place). Some (body_at z, close_paren ∷ k)) g ∙ ap (λ (z : List Token). Some (s, z)) (sym t)

pub body_begin : (p : Profile) (sc : Scope) (bs : Opened) (j : List Token) → bs ≡ [] → body_from start (ops_at (call_use_at p sc.names) p sc bs j) ≡ instructions_at p sc j
body_begin p sc bs j e = ap (λ (z : Opened). body_from start (ops_at (Use p sc) p sc z j)) e

abbrev pub IsStop : List Token → Type 0
IsStop (atom a ∷ k) = ⊥
IsStop (close_paren ∷ k) = ⊥
IsStop _ = Unit {0}

pub body_stop : (p : Profile) (sc : Scope) (place : Place) (bs : Opened) (j : List Token) → IsStop j → body_from place (ops_at (call_use_at p sc.names) p sc bs j) ≡ None
unfolding ops_at
body_stop p sc place [] [] h = refl
body_stop p sc place (b ∷ bs) [] h = refl
body_stop p sc place [] (open_paren ∷ k) h = refl
body_stop p sc place (b ∷ bs) (open_paren ∷ k) h = refl
body_stop p sc place bs (close_paren ∷ k) h = absurd h
body_stop p sc place [] (string s ∷ k) h = refl
body_stop p sc place (b ∷ bs) (string s ∷ k) h = refl
body_stop p sc place bs (atom a ∷ k) h = absurd h

pub body_open : (p : Profile) (sc : Scope) (place : Place) (b : Open) (bs cs : Opened) (j k : List Token) → bs ≡ b ∷ cs → j ≡ close_paren ∷ k → body_from place (ops_at (call_use_at p sc.names) p sc bs j) ≡ None
unfolding ops_at
body_open p sc place b bs cs j k e t = ap (λ (z : Opened). body_from place (ops_at (call_use_at p sc.names) p sc z j)) e ∙ ap (λ (z : List Token). body_from place (ops_at (call_use_at p sc.names) p sc (b ∷ cs) z)) t

pub body_smaller : (p : Profile) (sc : Scope) (bs : Opened) (w : List ℕ) (j k left : List Token) (q : Piece) → j ≡ atom w ∷ k → piece_at (call_use_at p sc.names) p sc bs w k ≡ Some (q, left) → length left < length j
body_smaller p sc bs w j k left q t e = let s : length j ≡ length {A = Token} (atom w ∷ k) = ap length t in let u : length left ≤ length k = shorter (call_use_at p sc.names) p sc (call_sound p sc.names) bs w k q left e in omega arith

pub fails_by : {Y : Type 0} (w : TextWhy) (read : Option Y) → w ≡ Expected → read ≡ None → Fails w read
fails_by w read e n = subst (λ (z : TextWhy). Fails z read) (sym e) n

-- ---- the builder and the open blocks

next_of : (p : Profile) (sc : Scope) (bs : Opened) (w : List ℕ) (k left : List Token) (q : Piece) → piece_at (call_use_at p sc.names) p sc bs w k ≡ Some (q, left) → IsNext bs q
next_of p sc bs w k left q e = let g = piece_sound (Use p sc) sc (call_sound p sc.names) p bs w k q left e in is_next sc bs q (atom w ∷ g.0) g.2.0

pub body_can : (p : Profile) (sc : Scope) (place : Place) (bs : Opened) (w : List ℕ) (k left : List Token) (q : Piece) → IsOver place bs → piece_at (call_use_at p sc.names) p sc bs w k ≡ Some (q, left) → CanTake place (piece_ops q)
unfolding CanTake
body_can p sc place bs w k left q h e = let t = takes place bs q h (next_of p sc bs w k left q e) in (t.0, t.1)

pub body_still : (p : Profile) (sc : Scope) (place next : Place) (bs cs : Opened) (w : List ℕ) (k left : List Token) (q : Piece) → IsOver place bs → piece_at (call_use_at p sc.names) p sc bs w k ≡ Some (q, left)
    → place_after place (piece_ops q) ≡ Some next → cs ≡ after bs q → IsOver next cs
body_still p sc place next bs cs w k left q h e g c =
    let t = takes place bs q h (next_of p sc bs w k left q e) in
    subst (IsOver next) (sym c) (subst (λ (z : Place). IsOver z (after bs q)) (same_some t.0 next (sym t.1 ∙ g)) t.2)

pub body_start : (bs : Opened) → bs ≡ [] → IsOver start bs
body_start bs e = subst (IsOver start) (sym e) refl

pub body_whole : (place : Place) (bs : Opened) → IsOver place bs → bs ≡ [] → (s : Instructions) × (place ≡ at [] s)
body_whole place bs h e = whole place bs h e

pub ruleset body_laws = (body_more, body_fail, body_over, body_stop, body_open, body_smaller, body_begin, body_can, body_still, body_start, body_whole)
