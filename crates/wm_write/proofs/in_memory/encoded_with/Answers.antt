use Rattle.wm_write.proofs.in_memory.encoded_with.Goals as goal

pub returns-in-Ok-clause-too_large : goal.returns-in-Ok-clause-too_large
returns-in-Ok-clause-too_large c = (λ e f. cc, λ n. let e = c.in-Ok.ensures.too_large.1 n in cc)
