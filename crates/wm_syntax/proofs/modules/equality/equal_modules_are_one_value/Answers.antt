use Rattle.wm_syntax.specs.Values.{value_of}
use Rattle.wm_syntax.specs.inner.Equality.{same_decides, module_code}
use Rattle.wm_syntax.proofs.modules.equality.equal_modules_are_one_value.Goals as goal

pub returns : goal.returns
returns c = λ m n. same_decides module_code (value_of m) (value_of n)
