use Rattle.wm_write.proofs.PrintedWords.{no_types, sent_map, sent_same, some_types}
use Rattle.wm_write.specs.Layout.{type_word}
use Rattle.wm_write.proofs.print.tokens.put_types.Goals as goal

pub returns-then-is_empty : goal.returns-then-is_empty
returns-then-is_empty g c = λ before word is. no_types before word c.args.types.now _ c.if-is_empty.ensures

pub returns : goal.returns
returns g c = λ before word is.
    some_types before word c.args.types.now _ _ _ _ c.if-is_empty.ensures (sent_same _ _ _ _ is c.put_bytes.ensures)
    (sent_map type_word c.args.types.now _ _ c.put_each.ensures) c.put_bytes-2.ensures
