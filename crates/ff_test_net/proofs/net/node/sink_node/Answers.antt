use Rattle.std.proofs.Common.{[], ◌∷◌, ap, ◌∙◌}
use Rattle.ff_net_threads.specs.declared.links.ends.InEnd.{InEnd}
use Rattle.ff_test_machines.specs.declared.plain.Plain.TheVariants.{Relay}
use Rattle.ff_test_machines.specs.Packets.{byte_lane}
use Rattle.ff_test_net.proofs.NetLemmas.Chains.{at_ports, sink_machine}
use Rattle.ff_test_net.proofs.net.node.sink_node.Goals as goal

pub returns-clause-new : goal.returns-clause-new
returns-clause-new c =
    let sink = c.in_ok-sink.ensures in
    at_ports _ _ _ _ _ _ _ _ _ _ (Relay c.in_ok-sink.sink) _ c.in_ok-vec.ensures.items c.new-2.ensures.items (c.in_ok-vec-2.ensures.items ∙ ap (λ (e : InEnd). e ∷ []) c.new-3.ensures) c.new-4.ensures.items c.in_ok-node.ensures.new
    (sink_machine (byte_lane c.args.tb) c.lane_of.result c.in_ok-sink.sink c.lane_of.ensures sink.fresh sink.ins sink.outs)
