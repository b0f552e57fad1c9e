use Rattle.std.proofs.Common.{ℕ, List, ◌++◌, subst}
use Rattle.ff_avi.specs.laws.Cuts.{Cuts}
use Rattle.ff_node_demux.proofs.DemuxSteps.{past_min}
use Rattle.ff_node_avi.proofs.reader.feed_piece.Goals as goal

pub returns-clause-cuts : goal.returns-clause-cuts
returns-clause-cuts c = λ head used fed n cuts.
    let rest = past_min c.args.skip.now c.args.piece.now c.min-over.result c.min-over.ensures in
    subst (λ (xs : List ℕ). Cuts c.feed.new.self head used (fed ++ xs) n) rest (c.in-Ok.ensures.ok head used fed n cuts)
