use Rattle.std.proofs.Common.{subst}
use Rattle.ff_node_codec.specs.declared.step.Step.{Step}
use Rattle.ff_node_codec.specs.laws.Steps.{IsStepFor}
use Rattle.ff_node_codec.proofs.SpreadSteps.{passed_at}
use Rattle.ff_node_codec.proofs.spread.Spread.follow.Goals as goal

pub returns-in-Passes-clause-accepted : goal.returns-in-Passes-clause-accepted
returns-in-Passes-clause-accepted c lane_in lane_out f port x e lt h past s o v =
    let m = c.args.self.now in
    let k = subst (λ (t : Step). IsStepFor f x t) c.in-Passes.is h in
    passed_at lane_in lane_out f _ _ m.closed m.damage past s port x e lt o v k.puts k.damage

pub returns-in-Ok-clause-accepted : goal.returns-in-Ok-clause-accepted
returns-in-Ok-clause-accepted c lane_in lane_out f port x e lt h past s o v =
    let k = subst (λ (t : Step). IsStepFor f x t) c.in-Puts.is h in
    c.in-Ok.ensures.accepted lane_in lane_out f port x e lt k.puts k.damage k.once past s o v
