use Rattle.std.proofs.Common.{◌∙◌, sym, ap, subst, set, List}
use Rattle.ff_stream.specs.declared.item.Lane.{Lane}
use Rattle.ff_filter.specs.Made.{is_over}
use Rattle.ff_filter.specs.Views.{Same}
use Rattle.ff_node_sync.specs.Lines.{Line, line_of, lines_of, lanes_of}
use Rattle.ff_node_sync.specs.laws.Straights.{straight_view}
use Rattle.ff_node_sync.specs.laws.Moves.{Takes}
use Rattle.ff_node_sync.proofs.Moving.{line_there, port_there, replaced, set_lanes, set_same}
use Rattle.ff_node_sync.proofs.Straightening.{self_same, fed_straight}
use Rattle.ff_node_sync.proofs.straight.StraightFilter.feed.Goals as goal

pub feed-requires : goal.feed-requires
feed-requires c =
    let ss = c.args.self.now.sides.items in
    record {
      «open» = ap (λ (l : Line). is_over l.after) (sym (line_there ss c.args.port c.index_mut.result.now (port_there ss c.args.port c.requires.there)
          c.index_mut.ensures.value)) ∙ c.requires.open_before;
    }

pub returns-in-Ok-clause-fed : goal.returns-in-Ok-clause-fed
returns-in-Ok-clause-fed c =
    let ss = c.args.self.now.sides.items in
    let p = c.args.port in
    let n = c.feed.new.self in
    let j = c.index_mut.result.now in
    let lt = port_there ss p c.requires.there in
    fed_straight (lanes_of ss) (lanes_of (set ss p n)) (lines_of ss) (lines_of (set ss p n)) p (line_of n)
    (set_lanes ss p n j lt c.index_mut.ensures.value c.feed.ensures.head) (replaced ss p n lt) c.args.item c.requires.open_before
    (subst (λ (l : Line). Takes l (line_of n) c.args.item) (sym (line_there ss p j lt c.index_mut.ensures.value)) c.in-Ok.ensures.takes)

pub returns-in-Err-clause-unchanged : goal.returns-in-Err-clause-unchanged
returns-in-Err-clause-unchanged c =
    let ss = c.args.self.now.sides.items in
    let p = c.args.port in
    let n = c.feed.new.self in
    let j = c.index_mut.result.now in
    let lt = port_there ss p c.requires.there in
    let lanes = set_lanes ss p n j lt c.index_mut.ensures.value c.feed.ensures.head in
    let lines = set_same ss p n j lt c.index_mut.ensures.value c.in-Err.ensures.unchanged in
    subst (λ (ls : List Line). Same (straight_view (lanes_of ss) (lines_of ss)) (straight_view (lanes_of (set ss p n)) ls)) (sym lines)
    (subst (λ (ls : List Lane). Same (straight_view (lanes_of ss) (lines_of ss)) (straight_view ls (lines_of ss))) (sym lanes) (self_same (lanes_of ss) (lines_of ss)))
