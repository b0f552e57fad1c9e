use Rattle.std.proofs.Common.{ℕ, List, ◌++◌, subst}
use Rattle.ff_node_demux.proofs.DemuxSteps.{past_min}
use Rattle.ff_node_demux.proofs.reading.feed_piece.Goals as goal

pub returns-clause-cuts : goal.returns-clause-cuts
returns-clause-cuts g c = λ head fed n cuts.
    let rest = past_min c.args.skip.now c.args.piece.now c.min-over.result c.min-over.ensures in
    subst (λ (xs : List ℕ). g.C.PacketCut.is.cuts c.feed.new.self head (fed ++ xs) n) rest (c.in-Ok.ensures.ok head fed n cuts)
