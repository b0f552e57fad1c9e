use Rattle.std.proofs.Common.{[], ◌∷◌, ap, ◌∙◌}
use Rattle.ff_net_threads.specs.declared.links.ends.OutEnd.{OutEnd}
use Rattle.ff_test_machines.specs.declared.plain.Plain.TheVariants.{Source}
use Rattle.ff_test_machines.specs.Packets.{byte_lane, byte_packets}
use Rattle.ff_test_net.proofs.NetLemmas.Chains.{at_ports, packets_valid, source_machine}
use Rattle.ff_test_net.proofs.net.node.source_node.Goals as goal

pub returns-clause-new : goal.returns-clause-new
returns-clause-new c =
    let items = c.in_ok-items.items.items in
    let fresh = c.new-source.ensures.fresh (packets_valid c.lane_of.result c.args.tb c.args.count items c.lane_of.ensures c.in_ok-items.ensures c.requires.base c.requires.few) in
    at_ports _ _ _ _ _ _ _ _ _ _ (Source c.new-source.result) _ c.new.ensures.items c.in_ok-vec.ensures.items c.new-2.ensures.items (c.in_ok-vec-2.ensures.items ∙ ap (λ (e : OutEnd). e ∷ []) c.new-3.ensures) c.in_ok-node.ensures.new
    (source_machine (byte_lane c.args.tb) c.lane_of.result items (byte_packets c.args.count) c.new-source.result c.lane_of.ensures c.in_ok-items.ensures fresh c.new-source.ensures.outs)
