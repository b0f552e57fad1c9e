use Rattle.std.proofs.Common.{Bool, ◌||◌, sym, subst}
use Rattle.ff_node_filter.specs.Tasks.{Stands}
use Rattle.ff_node_filter.specs.laws.StandLaws.{feeds, stays}
use Rattle.ff_net.specs.Pasts.{fed}
use Rattle.ff_node_filter.proofs.alone.AloneMachine.feed.Goals as goal

pub returns-in-Ok-clause-accepted : goal.returns-in-Ok-clause-accepted
returns-in-Ok-clause-accepted g c past s o v =
    let before = g.F.Filter.view c.args.self.now.filter in
    let after = g.F.Filter.view c.feed.new.self in
    subst (λ (b : Bool). Stands after (c.args.self.now.hurt || b) c.args.self.now.long (fed past c.args.port c.args.item)) (sym c.is_break-breaks.ensures)
    (feeds before after c.args.self.now.hurt c.args.self.now.long past s c.args.port c.args.item c.requires o v c.in-Ok.ensures.fed)

pub returns-in-Err-clause-unchanged : goal.returns-in-Err-clause-unchanged
returns-in-Err-clause-unchanged g c past s = stays (g.F.Filter.view c.args.self.now.filter) (g.F.Filter.view c.feed.new.self) c.args.self.now.hurt c.args.self.now.long past s c.in-Err.ensures.unchanged
