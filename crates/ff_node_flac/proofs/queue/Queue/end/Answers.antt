use Rattle.ff_node_flac.proofs.Gathers.{ended_now}
use Rattle.ff_node_flac.proofs.queue.Queue.end.Goals as goal

pub returns-clause-still : goal.returns-clause-still
returns-clause-still c fed done g =
    let q = c.args.self.now in
    ended_now q.blocks c.end.new.self q.cut.items q.codes.items q.counter q.given fed done g c.requires c.end.ensures.ended (c.end.ensures.cuts fed _ g.cuts)
