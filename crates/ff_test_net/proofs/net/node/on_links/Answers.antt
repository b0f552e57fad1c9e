use Rattle.std.proofs.Common.{◌≡◌, ◌∙◌, [], ◌∷◌}
use Rattle.ff_stream.specs.declared.item.Lane.{Lane}
use Rattle.ff_net.specs.laws.Nodes.{in_wires_of, out_wires_of}
use Rattle.ff_net.specs.laws.Worlds.{lanes_of}
use Rattle.ff_test_machines.specs.Packets.{byte_lane}
use Rattle.ff_test_net.proofs.NetLemmas.Chains.{begins}
use Rattle.ff_test_net.proofs.net.node.on_links.Goals as goal

pub returns-in-Ok-clause-new : goal.returns-in-Ok-clause-new
returns-in-Ok-clause-new c task new =
    let lane : Lane = byte_lane c.args.tb in
    let one = c.lane_of.ensures in
    let two = c.lane_of-2.ensures in
    let all : c.lane_of.result ∷ c.lane_of-2.result ∷ [] ≡ lane ∷ lane ∷ [] = cc (one, two) in
    let lanes : lanes_of c.in_ok-wires.wires ≡ lane ∷ lane ∷ [] = c.in_ok-wires.ensures.lanes ∙ (c.in_ok-lanes.ensures.items ∙ all) in
    let made = c.new-in-Ok.ensures in
    let node = c.in-Ok.ensures in
    record {
      behind = made.lawful task (begins lane c.args.ports.in_wires.items c.args.ports.out_wires.items c.args.ports.ins.items c.args.ports.outs.items c.args.machine c.in-Ok.node c.in_ok-wires.wires task new c.requires.ends node.machine node.ins node.outs lanes (node.fresh task new.begins) c.in_ok-wires.ensures.fresh);
      lanes_are = made.lanes ∙ lanes;
      in_wires_are = (λ i. in_wires_of (made.node i)) ∙ node.ins;
      out_wires_are = (λ i. out_wires_of (made.node i)) ∙ node.outs;
      ins_are = made.ins;
      outs_are = made.outs;
    }
