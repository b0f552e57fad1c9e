use Rattle.ff_filter.specs.laws.spread.Lines.{lines}
use Rattle.ff_filter.proofs.SpreadLemmas.Spreading.{spread_gave}
use Rattle.ff_filter.proofs.spread.spreader.SpreaderFilter.pull.Goals as goal

pub returns-clause-gives : goal.returns-clause-gives
returns-clause-gives g c x e =
    let m = c.args.self.now in
    spread_gave (g.S.Share.lane_in m.share) (g.S.Share.lanes_out m.share) (g.S.Share.shared m.share) (lines m.outlets.items) (lines c.take_from.new.outlets.items) m.after c.args.port
    c.requires.there c.take_from.ensures.others x (c.take_from.ensures.gives x (cc (e))) c.take_from.ensures.stopped
