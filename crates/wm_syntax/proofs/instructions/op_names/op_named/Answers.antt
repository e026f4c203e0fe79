use Rattle.std.proofs.Common.{◌<◌, ◌+◌, ◌-◌, ◌/◌, ap, ◌∙◌, arith}
use Rattle.wm_syntax.specs.exact.ByteTable.{class_under}
use Rattle.wm_syntax.proofs.NamedOps.{named_says}
use Rattle.wm_syntax.proofs.NameSearch.{below_more, above_more, search_found, search_none, compared}
use Rattle.wm_syntax.proofs.instructions.op_names.op_named.Goals as goal

pub loop-low-preserved-in-Less : goal.loop-low-preserved-in-Less
loop-low-preserved-in-Less c =
    let i = c.loop-low.invariant in let mid = c.loop-low.low + (c.loop-low.high - c.loop-low.low) / 2 in
    let lt : mid < c.loop-low.high = omega (arith, c.loop-low-test.true) in
    record {
      order = omega (arith, lt);
      size = omega (arith, lt, i.size);
      below = below_more c.args.word.now mid (omega (arith, lt, i.size)) (compared c.args.word.now c.name_of.result.now c.code_at-code.result mid c.cmp.result _ c.code_at-code.ensures c.name_of.ensures.exact c.cmp.ensures c.in-Less.is);
      above = i.above;
    }

pub loop-low-preserved : goal.loop-low-preserved
loop-low-preserved c =
    let i = c.loop-low.invariant in let mid = c.loop-low.low + (c.loop-low.high - c.loop-low.low) / 2 in
    let lt : mid < c.loop-low.high = omega (arith, c.loop-low-test.true) in
    record {
      order = omega (arith, lt);
      size = omega (arith, lt, i.size);
      below = i.below;
      above = above_more c.args.word.now mid (omega (arith, lt, i.size)) (compared c.args.word.now c.name_of.result.now c.code_at-code.result mid c.cmp.result _ c.code_at-code.ensures c.name_of.ensures.exact c.cmp.ensures c.in-Greater.is);
    }

pub returns-in-Equal : goal.returns-in-Equal
returns-in-Equal c =
    let i = c.loop-low.invariant in let mid = c.loop-low.low + (c.loop-low.high - c.loop-low.low) / 2 in
    let lt : mid < c.loop-low.high = omega (arith, c.loop-low-test.true) in
    let says = named_says c.args.profile c.args.word.now _
    (c.op_with.ensures ∙ ap (class_under c.args.profile) c.code_at-code.ensures
    ∙ search_found c.args.profile c.args.word.now mid (omega (arith, lt, i.size)) (compared c.args.word.now c.name_of.result.now c.code_at-code.result mid c.cmp.result _ c.code_at-code.ensures c.name_of.ensures.exact c.cmp.ensures c.in-Equal.is)) in
    record { found = says.0; only = says.1; exact = says.2 }

pub returns : goal.returns
returns c =
    let says = named_says c.args.profile c.args.word.now _
    (search_none c.args.profile c.args.word.now c.loop-low.low c.loop-low.high c.loop-low.invariant.below c.loop-low.invariant.above c.loop-low-test.false) in
    record { found = says.0; only = says.1; exact = says.2 }
