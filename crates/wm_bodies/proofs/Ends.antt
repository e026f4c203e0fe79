-- A token is present where a reader gives a refusal other than `Expected`.
use Rattle.std.proofs.Common.{◌≡◌, ◌≢◌, ℕ, suc, ◌≤◌, List, [], ◌∷◌, length, Option, Some, None, sym, ap, ◌∙◌, arith}
use Rattle.std.specs.Prelude.{codes}
use Rattle.wm_syntax.specs.Opcodes.{load, store}
use Rattle.wm_syntax.specs.declared.instructions.LoadOp.{LoadOp}
use Rattle.wm_syntax.specs.declared.instructions.LoadOp.TheVariants as l
use Rattle.wm_syntax.specs.declared.instructions.StoreOp.{StoreOp}
use Rattle.wm_syntax.specs.declared.instructions.StoreOp.TheVariants as s
use Rattle.wm_tokens.specs.Tokens.{Token, open_paren, close_paren, string, atom}
use Rattle.wm_tokens.specs.Identifiers.{Ids}
use Rattle.wm_bodies.specs.exact.Reading.{open_at, atom_at, word_of, index_of, paren_at, key_at, exponent_of}
use Rattle.wm_tokens.specs.exact.Scan.{lexed}
use Rattle.wm_tokens.proofs.Basics.{same_some}
use Rattle.wm_bodies.proofs.Readers.{bind_ok}
use Rattle.wm_tokens.proofs.Whole.{ahead_ends, ahead_nil}

pub nothing_left : (b : List ℕ) → length b ≡ 0 → lexed b ≡ []
nothing_left [] e = ahead_ends [] (sym ahead_nil)
nothing_left (c ∷ b) e = absurd (omega (arith, e))

-- ---- a token is present where one was read

pub atom_stands : {X : Type 0} (read : List ℕ → Option X) (k : List Token) (x : X × List Token) → atom_at read k ≡ Some x → k ≢ []
atom_stands {X} read k x e nil = let f : ◌≡◌ {A = Option (X × List Token)} None (Some x) = sym (ap (atom_at read) nil) ∙ e in cc

pub open_stands : (k : List Token) (x : Unit {0} × List Token) → open_at k ≡ Some x → k ≢ []
open_stands k x e nil = let f : ◌≡◌ {A = Option (Unit {0} × List Token)} None (Some x) = sym (ap open_at nil) ∙ e in cc

-- A key whose number is no power of two is present, since its default is one.
pub align_stands : (key : List ℕ) (width n : ℕ) (k j : List Token) → key_at key width k ≡ Some (n, j) → exponent_of width ≢ None → None ≡ exponent_of n → k ≢ []
align_stands key width n k j e some none nil =
    let same : ◌≡◌ {A = ℕ × List Token} (width, []) (n, j) = same_some (width, []) (n, j) (sym (ap (key_at key width) nil) ∙ e) in
    some (ap (λ (z : ℕ × List Token). exponent_of z.0) same ∙ sym none)

-- ---- an index of a type use is its third token

opened : (k : List Token) (x : Unit {0} × List Token) → open_at k ≡ Some x → length k ≡ suc (length x.1)
opened [] x e = absurd cc
opened (open_paren ∷ k) x e = ap (λ (z : Unit {0} × List Token). suc (length z.1)) (same_some (tt, k) x e)
opened (close_paren ∷ k) x e = absurd cc
opened (string b ∷ k) x e = absurd cc
opened (atom a ∷ k) x e = absurd cc

taken : {X : Type 0} (read : List ℕ → Option X) (k : List Token) (x : X × List Token) → atom_at read k ≡ Some x → length k ≡ suc (length x.1)
taken read [] x e = absurd cc
taken read (open_paren ∷ k) x e = absurd cc
taken read (close_paren ∷ k) x e = absurd cc
taken read (string b ∷ k) x e = absurd cc
taken {X} read (atom a ∷ k) x e =
    let g = bind_ok (read a) (λ y. Some (y, k)) x e in
    ap (λ (z : X × List Token). suc (length z.1)) (same_some (g.0, k) x g.2)

pub index_stands : (ids : Ids) (k : List Token) (x : ℕ × List Token) → paren_at (codes "type") (atom_at (index_of ids)) k ≡ Some x → 3 ≤ length k
index_stands ids k x e =
    let o = bind_ok (open_at k) _ x e in
    let w = bind_ok (atom_at (word_of (codes "type")) o.0.1) _ x o.2 in
    let i = bind_ok (atom_at (index_of ids) w.0.1) _ x w.2 in
    omega (arith, opened k o.0 o.1, taken (word_of (codes "type")) o.0.1 w.0 w.1, taken (index_of ids) w.0.1 i.0 i.1)

-- ---- widths of accesses are powers of two

byte : exponent_of 1 ≢ None
unfolding exponent_of
byte e = let f : ◌≡◌ {A = Option ℕ} (Some 0) None = e in cc

two_bytes : exponent_of 2 ≢ None
unfolding exponent_of
two_bytes e = let f : ◌≡◌ {A = Option ℕ} (Some 1) None = e in cc

four_bytes : exponent_of 4 ≢ None
unfolding exponent_of
four_bytes e = let f : ◌≡◌ {A = Option ℕ} (Some 2) None = e in cc

eight_bytes : exponent_of 8 ≢ None
unfolding exponent_of
eight_bytes e = let f : ◌≡◌ {A = Option ℕ} (Some 3) None = e in cc

load_width_is : (op : LoadOp) → exponent_of (load op).width ≢ None
load_width_is l.I32Load = four_bytes
load_width_is l.I64Load = eight_bytes
load_width_is l.F32Load = four_bytes
load_width_is l.F64Load = eight_bytes
load_width_is l.I32Load8S = byte
load_width_is l.I32Load8U = byte
load_width_is l.I32Load16S = two_bytes
load_width_is l.I32Load16U = two_bytes
load_width_is l.I64Load8S = byte
load_width_is l.I64Load8U = byte
load_width_is l.I64Load16S = two_bytes
load_width_is l.I64Load16U = two_bytes
load_width_is l.I64Load32S = four_bytes
load_width_is l.I64Load32U = four_bytes

store_width_is : (op : StoreOp) → exponent_of (store op).width ≢ None
store_width_is s.I32Store = four_bytes
store_width_is s.I64Store = eight_bytes
store_width_is s.F32Store = four_bytes
store_width_is s.F64Store = eight_bytes
store_width_is s.I32Store8 = byte
store_width_is s.I32Store16 = two_bytes
store_width_is s.I64Store8 = byte
store_width_is s.I64Store16 = two_bytes
store_width_is s.I64Store32 = four_bytes

pub load_width : (op : LoadOp) (n : ℕ) → n ≡ (load op).width → exponent_of n ≢ None
load_width op n e none = load_width_is op (ap exponent_of (sym e) ∙ none)

pub store_width : (op : StoreOp) (n : ℕ) → n ≡ (store op).width → exponent_of n ≢ None
store_width op n e none = store_width_is op (ap exponent_of (sym e) ∙ none)
