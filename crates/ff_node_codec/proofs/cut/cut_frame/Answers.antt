use Rattle.std.proofs.Common.{◌≡◌}
use Rattle.ff_filter.specs.declared.step.Given.{Given}
use Rattle.ff_filter.specs.Joins.{Flow, one, before, joined}
use Rattle.ff_filter.specs.Made.{made_of}
use Rattle.ff_trim.specs.Cuts.{kept}
use Rattle.ff_trim.specs.laws.Taps.{runs_of}
use Rattle.ff_node_codec.proofs.CutSteps.{frame_left, if_ok}
use Rattle.ff_node_codec.proofs.cut.cut_frame.Goals as goal

pub returns-clause-left : goal.returns-clause-left
returns-clause-left c =
    let head = c.args.head.now in
    let frame = c.args.frame in
    if_ok c.step.result
    (λ (given : Given). (t : Flow) → runs_of c.of-own.result (before frame t) ≡ joined (made_of given.item given.after) (runs_of c.step.new.self t))
    (λ (given : Given). made_of given.item given.after ≡ kept head c.args.cut (one frame))
    (λ given made. frame_left head c.args.cut frame c.of-own.result c.step.new.self given.item given.after c.of-own.ensures.runs made)
    c.step.ensures.made
