use Rattle.ff_trim.specs.laws.Taps.{ways_of}
use Rattle.ff_trim.proofs.Moving.{fed_cut, same_cut, on_ok, on_err}
use Rattle.ff_trim.proofs.cutting.CuttingFilter.feed.Goals as goal

pub returns-clause-fed : goal.returns-clause-fed
returns-clause-fed g c = on_ok c.feed.result c.feed.ensures.fed
    (λ f. fed_cut (g.F.Filter.view c.args.self.now.filter) (g.F.Filter.view c.feed.new.self) (ways_of c.args.self.now.taps.items) c.args.self.now.tied c.args.port c.args.item f)

pub returns-clause-unchanged : goal.returns-clause-unchanged
returns-clause-unchanged g c = on_err c.feed.result c.feed.ensures.unchanged
    (λ s. same_cut (g.F.Filter.view c.args.self.now.filter) (g.F.Filter.view c.feed.new.self) (ways_of c.args.self.now.taps.items) c.args.self.now.tied s)
