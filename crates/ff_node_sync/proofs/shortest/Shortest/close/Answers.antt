use Rattle.std.proofs.Common.{sym, subst, set}
use Rattle.ff_node_sync.specs.Lines.{Line, line_of, line_at, lines_of}
use Rattle.ff_node_sync.specs.laws.Moves.{IsEnded}
use Rattle.ff_node_sync.proofs.Moving.{line_there, replaced, set_lanes}
use Rattle.ff_node_sync.proofs.shortest.Shortest.close.Goals as goal

pub returns-clause-closed : goal.returns-clause-closed
returns-clause-closed c =
    let ss = c.args.self.now.sides.items in
    let n = c.end.new.self in
    let r = replaced ss c.args.p n c.requires.there in
    record {
      long = r.long;
      here = subst (λ (l : Line). IsEnded l (line_at (lines_of (set ss c.args.p n)) c.args.p))
          (sym (line_there ss c.args.p c.index_mut.result.now c.requires.there c.index_mut.ensures.value))
          (subst (λ (l : Line). IsEnded (line_of c.index_mut.result.now) l) (sym r.here) c.end.ensures.ended);
      others = r.others;
    }

pub returns-clause-lanes : goal.returns-clause-lanes
returns-clause-lanes c = set_lanes c.args.self.now.sides.items c.args.p c.end.new.self c.index_mut.result.now c.requires.there c.index_mut.ensures.value
    c.end.ensures.head
