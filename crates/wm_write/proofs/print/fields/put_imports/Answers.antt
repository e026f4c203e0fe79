use Rattle.std.proofs.Common.{◌<◌, ◌^◌, ap, arith, length}
use Rattle.wm_write.proofs.PrintedImports.{few_places, imports_more, next_places}
use Rattle.wm_write.proofs.Writes.{sent_none}
use Rattle.wm_write.proofs.print.fields.put_imports.Goals as goal

pub loop-import-init : goal.loop-import-init
loop-import-init g c = record { before = c.none-before.ensures; sent = sent_none _ }

pub count-requires : goal.count-requires
count-requires g c =
    let few : length c.args.imports.now < 2 ^ 64 = omega arith in
    few_places c.args.imports.now c.loop-import.import-index c.loop-import.before c.loop-import-test.true few c.loop-import.invariant.before

pub loop-import-preserved : goal.loop-import-preserved
loop-import-preserved g c = record {
  before =
      next_places c.args.imports.now c.loop-import.import-index c.import-item.result c.import.inside.desc c.loop-import.before c.count.new.self
      c.loop-import-test.true c.import-item.is (ap (λ v. v.desc) c.import.view_is) c.loop-import.invariant.before c.count.ensures;
  sent =
      imports_more c.args.imports.now c.loop-import.import-index c.import-item.result c.loop-import.before _ _ _ c.loop-import-test.true c.import-item.is
      c.loop-import.invariant.before c.loop-import.invariant.sent c.put_import.ensures;
}
