-- The printed names of the refusals.
use Rattle.std.specs.Prelude.{ℕ, List, codes}
use Rattle.wm_syntax.specs.declared.why.Why.{Why}
use Rattle.wm_syntax.specs.declared.why.Why.TheVariants.{Magic, Version, SectionId, SectionOrder, SectionEnd}
use Rattle.wm_syntax.specs.declared.why.Why.TheVariants.{BadNumber, BadUtf8, BadByte, Float, BadOpcode}
use Rattle.wm_syntax.specs.declared.why.Why.TheVariants.{Truncated, CodeCount, DataCount, BodyEnd, TooManyLocals, Index}
use Rattle.wm_syntax.specs.declared.why.Why.TheVariants.{Mismatch, Arity, Limits, Second, DuplicateExport}
use Rattle.wm_syntax.specs.declared.why.Why.TheVariants.{StartType, NotConst, Immutable, Align, ElsePlace}
use Rattle.wm_syntax.specs.declared.why.Why.TheVariants.{TooLong, Memory, ManyFunctions, ManyLocals, Deep}

abbrev pub name_of : Why → List ℕ
name_of Magic = codes "Magic"
name_of Version = codes "Version"
name_of SectionId = codes "SectionId"
name_of SectionOrder = codes "SectionOrder"
name_of SectionEnd = codes "SectionEnd"
name_of BadNumber = codes "BadNumber"
name_of BadUtf8 = codes "BadUtf8"
name_of BadByte = codes "BadByte"
name_of Float = codes "Float"
name_of BadOpcode = codes "BadOpcode"
name_of Truncated = codes "Truncated"
name_of CodeCount = codes "CodeCount"
name_of DataCount = codes "DataCount"
name_of BodyEnd = codes "BodyEnd"
name_of TooManyLocals = codes "TooManyLocals"
name_of Index = codes "Index"
name_of Mismatch = codes "Type"
name_of Arity = codes "Arity"
name_of Limits = codes "Limits"
name_of Second = codes "Second"
name_of DuplicateExport = codes "DuplicateExport"
name_of StartType = codes "StartType"
name_of NotConst = codes "NotConst"
name_of Immutable = codes "Immutable"
name_of Align = codes "Align"
name_of ElsePlace = codes "ElsePlace"
name_of TooLong = codes "TooLong"
name_of Memory = codes "Memory"
name_of ManyFunctions = codes "ManyFunctions"
name_of ManyLocals = codes "ManyLocals"
name_of Deep = codes "Deep"
