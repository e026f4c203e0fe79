-- A loaded module is not too large.
use Rattle.std.proofs.Common.{Err, ap, subst, sym}
use Rattle.wm_rules.specs.inner.Loaders.{module_in}
use Rattle.wm_syntax.specs.Values.{value_of}
use Rattle.wm_write.specs.Canon.{Fits}
use Rattle.wm_write.proofs.SegmentFronts.{valid_fits}
use Rattle.wm_c.proofs.convert.canonical.Goals as goal

pub out_of_memory-requires : goal.out_of_memory-requires
out_of_memory-requires c = λ e.
    c.in-Err.ensures.too_large.0 (ap Err e) (subst (λ m. Fits (value_of m)) (sym c.module.ensures.value)
    (valid_fits c.args.asked.profile (value_of (module_in c.in_ok-checked.checked)) c.args.bytes.now c.in_ok-checked.ensures.loads.valid c.in_ok-checked.ensures.loads.spelled.1))
