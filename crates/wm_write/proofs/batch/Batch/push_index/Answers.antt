use Rattle.std.proofs.Common.{◌+◌, ◌/◌, ◌%◌, ◌++◌, ◌∷◌, [], ◌∙◌, ap, append_assoc, arith, sym, List, ℕ}
use Rattle.std.proofs.lemmas.Fmt.{decimal_digit, decimal_step}
use Rattle.wm_write.proofs.batch.Batch.push_index.Goals as goal

pub returns-then-n-lt10-clause-text : goal.returns-then-n-lt10-clause-text
returns-then-n-lt10-clause-text c =
    c.push_byte.ensures
    ∙ (ap (λ (z : List ℕ). z ++ (48 + c.args.n) ∷ []) c.push.ensures
    ∙ (append_assoc c.args.self.now c.args.front.now ((48 + c.args.n) ∷ [])
    ∙ ap (λ (z : List ℕ). c.args.self.now ++ (c.args.front.now ++ z)) (sym (decimal_digit c.args.n c.if-n-lt10.true))))

pub returns-then-n-lt100-clause-text : goal.returns-then-n-lt100-clause-text
returns-then-n-lt100-clause-text c =
    let n = c.args.n in
    let digits = decimal_step n c.if-n-lt10.false (omega arith) ∙ ap (λ (z : List ℕ). z ++ (48 + n % 10) ∷ []) (decimal_digit (n / 10) (omega (arith, c.if-n-lt100.true))) in
    c.push_two.ensures
    ∙ (ap (λ (z : List ℕ). z ++ (48 + n / 10) ∷ (48 + n % 10) ∷ []) c.push.ensures
    ∙ (append_assoc c.args.self.now c.args.front.now ((48 + n / 10) ∷ (48 + n % 10) ∷ [])
    ∙ ap (λ (z : List ℕ). c.args.self.now ++ (c.args.front.now ++ z)) (sym digits)))
