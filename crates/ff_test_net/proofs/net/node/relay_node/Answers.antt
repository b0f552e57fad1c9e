use Rattle.std.proofs.Common.{[], ◌∷◌, ap, ◌∙◌}
use Rattle.ff_net_threads.specs.declared.links.ends.InEnd.{InEnd}
use Rattle.ff_net_threads.specs.declared.links.ends.OutEnd.{OutEnd}
use Rattle.ff_test_machines.specs.declared.plain.Plain.TheVariants.{Relay}
use Rattle.ff_test_machines.specs.Packets.{byte_lane}
use Rattle.ff_test_net.proofs.NetLemmas.Chains.{at_ports, relay_machine}
use Rattle.ff_test_net.proofs.net.node.relay_node.Goals as goal

pub returns-clause-new : goal.returns-clause-new
returns-clause-new c =
    let relay = c.in_ok-relay.ensures in
    at_ports _ _ _ _ _ _ _ _ _ _ (Relay c.in_ok-relay.relay) _ c.in_ok-vec.ensures.items c.in_ok-vec-2.ensures.items (c.in_ok-vec-3.ensures.items ∙ ap (λ (e : InEnd). e ∷ []) c.new-2.ensures) (c.in_ok-vec-4.ensures.items ∙ ap (λ (e : OutEnd). e ∷ []) c.new-3.ensures) c.in_ok-node.ensures.new
    (relay_machine (byte_lane c.args.tb) c.lane_of.result c.args.limit c.in_ok-relay.relay c.lane_of.ensures relay.fresh relay.ins relay.outs)
