use Rattle.std.proofs.Common.{ap}
use Rattle.ff_node_codec.specs.Spreads.{Line}
use Rattle.ff_node_codec.proofs.LineSteps.{line_set_same, line_set_other, set_count}
use Rattle.ff_node_codec.proofs.SpreadSteps.{stopped_at}
use Rattle.ff_node_codec.proofs.spread.Spread.stop.Goals as goal

pub returns-clause-stopped : goal.returns-clause-stopped
returns-clause-stopped c lane_in lane_out f past s =
    let m = c.args.self.now in
    let rs = m.outs.items in
    let p = c.args.port in
    stopped_at lane_in lane_out f _ _ m.closed m.damage past s p _ _ c.requires (set_count rs p _)
    (ap (λ (l : Line). l.stopped) (line_set_same rs p _ c.requires)) (λ q n. line_set_other rs p q _ n)
