use Rattle.std.proofs.Common.{inl, inr, arith, sym, ◌∙◌}
use Rattle.wm_tokens.proofs.PlainAtoms.{number_cut}
use Rattle.wm_tokens.proofs.scan.plain_number.Goals as goal
use Rattle.wm_tokens.proofs.scan.plain_number.Goals.{else-n-text-via-then-n-text+else-is_id_char, else-n-text-via-else-n-text}

pub returns : goal.returns
returns c =
    number_cut c.args.text.now _ _ c.digits_len-n.result c.digits_len-n.ensures.within (omega (arith, c.if-n-eq0.false)) c.digits_len-n.ensures.digits
    (elim c.else-n-text.branch [
      | else-n-text-via-then-n-text+else-is_id_char w ↦ inr (sym w.is_id_char.ensures ∙ w.if-is_id_char.false)
      | else-n-text-via-else-n-text w ↦ inl (omega (arith, w.if-n-text.false, c.digits_len-n.ensures.within))
    ])
    c.split_at.ensures.front c.split_at.ensures.back
