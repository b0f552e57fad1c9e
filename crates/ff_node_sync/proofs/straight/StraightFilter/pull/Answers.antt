use Rattle.std.proofs.Common.{sym, subst, set}
use Rattle.ff_node_sync.specs.Lines.{Line, line_of, lines_of, lanes_of}
use Rattle.ff_node_sync.specs.laws.Straights.{IsGiven, IsHeld}
use Rattle.ff_node_sync.proofs.Moving.{line_there, port_there, replaced, set_lanes}
use Rattle.ff_node_sync.proofs.Straightening.{gave_straight, waits_straight}
use Rattle.ff_node_sync.proofs.straight.StraightFilter.pull.Goals as goal

pub returns-clause-gives : goal.returns-clause-gives
returns-clause-gives c x e =
    let ss = c.args.self.now.sides.items in
    let p = c.args.port in
    let n = c.pull.new.self in
    let j = c.index_mut.result.now in
    let lt = port_there ss p c.requires.there in
    gave_straight (lanes_of ss) (lanes_of (set ss p n)) (lines_of ss) (lines_of (set ss p n)) p (line_of n)
    (set_lanes ss p n j lt c.index_mut.ensures.value c.pull.ensures.head) (replaced ss p n lt) x
    (subst (λ (l : Line). IsGiven l (line_of n) x) (sym (line_there ss p j lt c.index_mut.ensures.value)) (c.pull.ensures.gives x (cc (e))))

pub returns-clause-waits : goal.returns-clause-waits
returns-clause-waits c e =
    let ss = c.args.self.now.sides.items in
    let p = c.args.port in
    let n = c.pull.new.self in
    let j = c.index_mut.result.now in
    let lt = port_there ss p c.requires.there in
    waits_straight (lanes_of ss) (lanes_of (set ss p n)) (lines_of ss) (lines_of (set ss p n)) p (line_of n)
    (set_lanes ss p n j lt c.index_mut.ensures.value c.pull.ensures.head) (replaced ss p n lt)
    (subst (λ (l : Line). IsHeld l (line_of n)) (sym (line_there ss p j lt c.index_mut.ensures.value)) (c.pull.ensures.waits (cc (e))))
