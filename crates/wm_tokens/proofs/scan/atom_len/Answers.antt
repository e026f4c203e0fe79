use Rattle.std.proofs.Common.{◌≡◌, ℕ, ◌<◌, ◌+◌, List, true, get_or, inr, arith, below_more, sym, ◌∙◌}
use Rattle.wm_tokens.specs.Tokens.{is_id_char}
use Rattle.wm_tokens.proofs.Atoms.{atom_at}
use Rattle.wm_tokens.proofs.scan.atom_len.Goals as goal

abbrev Known : List ℕ → ℕ → Type 0
Known b n = (k : ℕ) → k < n → is_id_char (get_or b k 0) ≡ true

one_more : (b : List ℕ) (n m : ℕ) → m ≡ n + 1 → Known b n → is_id_char (get_or b n 0) ≡ true → Known b m
one_more b n m s h e k lt = below_more (λ j. is_id_char (get_or b j 0) ≡ true) n h e k (omega (arith, s, lt))

pub returns-then-not-is_id_char-clause-atom : goal.returns-then-not-is_id_char-clause-atom
returns-then-not-is_id_char-clause-atom c = atom_at c.args.text.now c.loop-i.i (omega arith) c.loop-i.invariant.known (inr (sym c.is_id_char.ensures ∙ c.if-not-is_id_char.true))

pub returns-then-not-is_id_char-2-clause-atom : goal.returns-then-not-is_id_char-2-clause-atom
returns-then-not-is_id_char-2-clause-atom c =
    atom_at c.args.text.now (c.loop-i.i + 1) (omega arith) (one_more c.args.text.now c.loop-i.i (c.loop-i.i + 1) (omega arith) c.loop-i.invariant.known (sym c.is_id_char.ensures ∙ c.if-not-is_id_char.false))
    (inr (sym c.is_id_char-in-loop-i.ensures ∙ c.if-not-is_id_char-2.true))

pub returns-then-not-is_id_char-3-clause-atom : goal.returns-then-not-is_id_char-3-clause-atom
returns-then-not-is_id_char-3-clause-atom c =
    let known1 = one_more c.args.text.now c.loop-i.i (c.loop-i.i + 1) (omega arith) c.loop-i.invariant.known (sym c.is_id_char.ensures ∙ c.if-not-is_id_char.false) in
    let known2 = one_more c.args.text.now (c.loop-i.i + 1) (c.loop-i.i + 2) (omega arith) known1 (sym c.is_id_char-in-loop-i.ensures ∙ c.if-not-is_id_char-2.false) in
    atom_at c.args.text.now (c.loop-i.i + 2) (omega arith) known2 (inr (sym c.is_id_char-in-loop-i-2.ensures ∙ c.if-not-is_id_char-3.true))

pub returns-then-not-is_id_char-4-clause-atom : goal.returns-then-not-is_id_char-4-clause-atom
returns-then-not-is_id_char-4-clause-atom c =
    let known1 = one_more c.args.text.now c.loop-i.i (c.loop-i.i + 1) (omega arith) c.loop-i.invariant.known (sym c.is_id_char.ensures ∙ c.if-not-is_id_char.false) in
    let known2 = one_more c.args.text.now (c.loop-i.i + 1) (c.loop-i.i + 2) (omega arith) known1 (sym c.is_id_char-in-loop-i.ensures ∙ c.if-not-is_id_char-2.false) in
    let known3 = one_more c.args.text.now (c.loop-i.i + 2) (c.loop-i.i + 3) (omega arith) known2 (sym c.is_id_char-in-loop-i-2.ensures ∙ c.if-not-is_id_char-3.false) in
    atom_at c.args.text.now (c.loop-i.i + 3) (omega arith) known3 (inr (sym c.is_id_char-in-loop-i-3.ensures ∙ c.if-not-is_id_char-4.true))

pub loop-i-preserved : goal.loop-i-preserved
loop-i-preserved c =
    let known1 = one_more c.args.text.now c.loop-i.i (c.loop-i.i + 1) (omega arith) c.loop-i.invariant.known (sym c.is_id_char.ensures ∙ c.if-not-is_id_char.false) in
    let known2 = one_more c.args.text.now (c.loop-i.i + 1) (c.loop-i.i + 2) (omega arith) known1 (sym c.is_id_char-in-loop-i.ensures ∙ c.if-not-is_id_char-2.false) in
    let known3 = one_more c.args.text.now (c.loop-i.i + 2) (c.loop-i.i + 3) (omega arith) known2 (sym c.is_id_char-in-loop-i-2.ensures ∙ c.if-not-is_id_char-3.false) in
    record { within = omega arith; known = one_more c.args.text.now (c.loop-i.i + 3) (c.loop-i.i + 4) (omega arith) known3 (sym c.is_id_char-in-loop-i-3.ensures ∙ c.if-not-is_id_char-4.false) }
