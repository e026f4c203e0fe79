use Rattle.std.proofs.Common.{◌∙◌, List, ℕ, Some, inl, refl, subst}
use Rattle.std.specs.Io.Iter.{split_byte, split_known_bytes}
use Rattle.wm_command.specs.Several.{IsRightAt}
use Rattle.wm_command.specs.declared.status.Status.TheVariants.{Io}
use Rattle.wm_command.proofs.SeveralLemmas.{listed_all, listed_cut, listed_more, listed_none}
use Rattle.wm_command.proofs.list.follow_list.Goals as goal

pub loop-before-init : goal.loop-before-init
loop-before-init g c =
    let right = λ (name : List ℕ). IsRightAt (g.O.Opens.held_at c.args.files.now) c.args.line.now (Some name) in
    (c.split-names.ensures.byte, listed_none right c.args.end (g.B.Read.remaining c.args.reader) (split_known_bytes g.B.Read.remaining c.split-names.result) c.args.progress.worst c.split-names.ensures.bytes c.requires)

pub returns-in-Some-Err : goal.returns-in-Some-Err
returns-in-Some-Err g c =
    let right = λ (name : List ℕ). IsRightAt (g.O.Opens.held_at c.args.files.now) c.args.line.now (Some name) in
    listed_cut right c.args.end (g.B.Read.remaining c.args.reader) (split_known_bytes g.B.Read.remaining c.loop-before.names) c.loop-before.progress.worst c.end_of_list.result c.greater_of.result c.loop-before.invariant.1 c.end_of_list.ensures c.greater_of.ensures

pub returns-in-None : goal.returns-in-None
returns-in-None g c =
    let right = λ (name : List ℕ). IsRightAt (g.O.Opens.held_at c.args.files.now) c.args.line.now (Some name) in
    listed_all right c.args.end (g.B.Read.remaining c.args.reader) (split_known_bytes g.B.Read.remaining c.loop-before.names) c.loop-before.progress.worst c.loop-before.invariant.1 c.in-None.ensures.steps.2

pub returns-in-Err : goal.returns-in-Err
returns-in-Err g c =
    let right = λ (name : List ℕ). IsRightAt (g.O.Opens.held_at c.args.files.now) c.args.line.now (Some name) in
    listed_cut right c.args.end (g.B.Read.remaining c.args.reader) (split_known_bytes g.B.Read.remaining c.loop-before.names) c.loop-before.progress.worst Io c.greater_of-in-Err.result c.loop-before.invariant.1 (inl refl) c.greater_of-in-Err.ensures

pub loop-before-preserved : goal.loop-before-preserved
loop-before-preserved g c =
    let right = λ (name : List ℕ). IsRightAt (g.O.Opens.held_at c.args.files.now) c.args.line.now (Some name) in
    let steps = c.in-Some-Ok.ensures.steps in
    let piece = rw c.in-Some-Ok.field-0-is at steps.2 in
    let known = split_known_bytes g.B.Read.remaining in (
      steps.1 ∙ c.loop-before.invariant.0,
      listed_more right c.args.end (split_byte c.loop-before.names) (g.B.Read.remaining c.args.reader) (known c.loop-before.names) (known c.next.new.self) c.in-Some-Ok.name.items c.loop-before.progress.worst c.in-Ok.ensures.0 c.in-Ok.next.worst c.loop-before.invariant.1
          c.loop-before.invariant.0 piece.0 piece.1 (subst (λ n. right n c.in-Ok.ensures.0) c.deref.ensures.value c.in-Ok.ensures.1) c.in-Ok.ensures.2,
    )

pub returns : goal.returns
returns g c =
    let right = λ (name : List ℕ). IsRightAt (g.O.Opens.held_at c.args.files.now) c.args.line.now (Some name) in
    listed_cut right c.args.end (g.B.Read.remaining c.args.reader) (split_known_bytes g.B.Read.remaining c.loop-before.names) c.loop-before.progress.worst Io c.greater_of-2.result c.loop-before.invariant.1 (inl refl) c.greater_of-2.ensures
