use Rattle.std.proofs.Common.{◌≢◌, slice_get}
use Rattle.wm_syntax.specs.declared.instructions.Op.TheVariants.{End}
use Rattle.wm_typing.specs.Contexts.{in_function}
use Rattle.wm_typing.specs.exact.Effects.{effect_of}
use Rattle.wm_typing.specs.exact.Ops.{labels_of, within_frames}
use Rattle.wm_typing.proofs.OpenFrames.{label_stays, simple_stays}
use Rattle.wm_typing.proofs.ops.take_op.Goals as goal

pub returns-in-Simple-clause-stays : goal.returns-in-Simple-clause-stays
returns-in-Simple-clause-stays c =
    let f = c.args.function.now in
    simple_stays (effect_of (within_frames (in_function c.args.context.now f.type_index f.result c.args.declared.now.types) c.args.stacks.now.frames) c.in-Simple.op) c.args.stacks.now c.simple.new.stacks c.simple.result (c.args.op ≢ End)
    c.requires.can_act.0 c.simple.ensures.acts.0

pub returns-in-Some-clause-stays : goal.returns-in-Some-clause-stays
returns-in-Some-clause-stays c = λ _. label_stays (slice_get (labels_of c.args.stacks.now.frames) c.in-Label.depth) c.in-Some.reading c.args.stacks.now c.read_label.new.stacks c.in_ok-table.field-0 c.requires.can_act.0 c.in_ok-table.ensures.0
