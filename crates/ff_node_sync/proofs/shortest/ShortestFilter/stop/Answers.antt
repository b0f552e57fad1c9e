use Rattle.std.proofs.Common.{sym, subst, set}
use Rattle.ff_node_sync.specs.Lines.{Line, line_of, lines_of, lanes_of}
use Rattle.ff_node_sync.specs.laws.Moves.{IsStopped}
use Rattle.ff_node_sync.proofs.Moving.{line_there, port_there, replaced, set_lanes, stopped_by}
use Rattle.ff_node_sync.proofs.shortest.ShortestFilter.stop.Goals as goal

pub returns : goal.returns
returns c =
    let ss = c.args.self.now.sides.items in
    let p = c.args.port in
    let n = c.stop.new.self in
    let j = c.index_mut.result.now in
    let lt = port_there ss p c.requires.there in
    record {
      stopped = stopped_by (lanes_of ss) (lanes_of (set ss p n)) (lines_of ss) (lines_of (set ss p n)) p (line_of n)
          (set_lanes ss p n j lt c.index_mut.ensures.value c.stop.ensures.head) (replaced ss p n lt)
          (subst (λ (l : Line). IsStopped l (line_of n)) (sym (line_there ss p j lt c.index_mut.ensures.value)) c.stop.ensures.stopped);
    }
