-- The reasons why a text is refused, as they are printed.
use Rattle.std.specs.Prelude.{ℕ, List, codes}
use Rattle.wm_tokens.specs.declared.faults.TextWhy.{TextWhy}
use Rattle.wm_tokens.specs.declared.faults.TextWhy.TheVariants.{NotUtf8, BadToken, OpenComment, OpenString}
use Rattle.wm_tokens.specs.declared.faults.TextWhy.TheVariants.{BadEscape, Expected, UnknownWord, BadInteger}
use Rattle.wm_tokens.specs.declared.faults.TextWhy.TheVariants.{BadFloat}
use Rattle.wm_tokens.specs.declared.faults.TextWhy.TheVariants.{BadName, UnknownId, RepeatedId, TypeUse}
use Rattle.wm_tokens.specs.declared.faults.TextWhy.TheVariants.{ImportPlace, SecondStart, NotConst, BadAlign}
use Rattle.wm_tokens.specs.declared.faults.TextWhy.TheVariants.{LabelEnd, TooManyLocals, Float, Memory}

abbrev pub text_name_of : TextWhy → List ℕ
text_name_of NotUtf8 = codes "NotUtf8"
text_name_of BadToken = codes "BadToken"
text_name_of OpenComment = codes "OpenComment"
text_name_of OpenString = codes "OpenString"
text_name_of BadEscape = codes "BadEscape"
text_name_of Expected = codes "Expected"
text_name_of UnknownWord = codes "UnknownWord"
text_name_of BadInteger = codes "BadInteger"
text_name_of BadFloat = codes "BadFloat"
text_name_of BadName = codes "BadName"
text_name_of UnknownId = codes "UnknownId"
text_name_of RepeatedId = codes "RepeatedId"
text_name_of TypeUse = codes "TypeUse"
text_name_of ImportPlace = codes "ImportPlace"
text_name_of SecondStart = codes "SecondStart"
text_name_of NotConst = codes "NotConst"
text_name_of BadAlign = codes "BadAlign"
text_name_of LabelEnd = codes "LabelEnd"
text_name_of TooManyLocals = codes "TooManyLocals"
text_name_of Float = codes "Float"
text_name_of Memory = codes "Memory"
