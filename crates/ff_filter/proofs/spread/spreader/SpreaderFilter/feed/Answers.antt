use Rattle.std.proofs.Common.{sym, ◌∙◌}
use Rattle.ff_filter.proofs.Stepping.{closing-none}
use Rattle.ff_filter.proofs.SpreadLemmas.Spreading.{spread_fed_ok}
use Rattle.ff_filter.proofs.spread.spreader.SpreaderFilter.feed.Goals as goal

pub returns-in-None-clause-fed : goal.returns-in-None-clause-fed
returns-in-None-clause-fed g c =
    let m = c.args.self.now in
    let open_item = closing-none c.args.item (sym c.closing_of.ensures ∙ c.in-None.is) in
    spread_fed_ok (g.S.Share.lane_in m.share) (g.S.Share.lanes_out m.share) (g.S.Share.shared m.share) c.spread.result m.outlets.items c.spread.new.outlets.items m.after c.args._port c.args.item
    m.count c.spread.ensures.count c.requires.there c.requires.open_before open_item (λ q. g.met.S.Share.goes_on m.share q c.args.item open_item) c.spread.ensures.put
