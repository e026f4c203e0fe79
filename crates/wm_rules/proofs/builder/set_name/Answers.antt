use Rattle.std.proofs.Common.{◌∙◌, Ok, Err, ap, cond, sym}
use Rattle.std.proofs.lemmas.Bool.{false_from_ne_true}
use Rattle.std.proofs.lemmas.Str.{IsUtf8-from_is_utf8, is_utf8-from_IsUtf8}
use Rattle.wm_syntax.specs.declared.why.Why.TheVariants.{BadUtf8}
use Rattle.wm_rules.proofs.builder.set_name.Goals as goal

pub returns-in_default : goal.returns-in_default
returns-in_default c = λ ne. ap (λ b. cond b (Ok c.args.bytes.now) (Err BadUtf8)) (false_from_ne_true _ (λ e. c.in_default.ensures.cases.0 (IsUtf8-from_is_utf8 _ e)))

pub returns-in-Ok-from_str : goal.returns-in-Ok-from_str
returns-in-Ok-from_str c =
    ap (λ b. cond b (Ok c.args.bytes.now) (Err BadUtf8)) (is_utf8-from_IsUtf8 _ c.in-Ok.ensures.cases.1) ∙ ap Ok (sym (c.in-Ok-from_str.ensures.ok ∙ c.in-Ok.ensures.cases.0))
