use Rattle.std.proofs.Common.{◌≡◌, ◌-◌, ◌++◌, [], List, ℕ, length, drop, ap, arith, append-nil, length-drop, ◌∙◌}
use Rattle.std.proofs.lemmas.List.{drop_all}
use borrow.Rule.Slice.PartMut.{post_of}
use Rattle.wm_c.proofs.Words.{behind}
use Rattle.wm_c.proofs.names.append.Goals as goal

pub returns-then-n-to : goal.returns-then-n-to
returns-then-n-to c front before e is =
    let n = c.args.n in let to = c.args.to.now in let k = length to - n in
    let none : post_of n k to ≡ [] = drop_all k (drop n to) (omega (arith, length-drop n to)) in
    behind n k front c.args.word.now before to _ e is c.if-n-to.true (omega arith) (ap (λ (xs : List ℕ). c.write.new.to ++ xs) none ∙ append-nil c.write.new.to ∙ c.write.ensures)
