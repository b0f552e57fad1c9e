use Rattle.std.proofs.Common.{rules}
use Rattle.ff_filter.proofs.SpreadLemmas.Spreading.{spread_exactly}
use Rattle.ff_filter.proofs.spread.spreader.Spreader.is_spent.Goals as goal

pub returns-clause-exact : goal.returns-clause-exact
returns-clause-exact g c =
    let m = c.args.self.now in
    spread_exactly (g.S.Share.lane_in m.share) (g.S.Share.lanes_out m.share) (g.S.Share.shared m.share) m.outlets.items m.after m.count _ (search rules)
