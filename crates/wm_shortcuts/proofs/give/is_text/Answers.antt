use Rattle.std.specs.Str.{is_utf8}
use Rattle.std.proofs.lemmas.Bool.Decides.{same_from_decides}
use Rattle.std.proofs.lemmas.Str.{IsUtf8-from_is_utf8, is_utf8-from_IsUtf8}
use Rattle.wm_shortcuts.proofs.give.is_text.Goals as goal

pub returns : goal.returns
returns c = same_from_decides c.is_name.result (is_utf8 c.args.bytes.now) c.is_name.ensures (IsUtf8-from_is_utf8 c.args.bytes.now, is_utf8-from_IsUtf8 c.args.bytes.now)
