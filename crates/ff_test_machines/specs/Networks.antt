-- A network of five machines: a source, one that repeats its items on two outputs, one that stops early, one that joins
-- what these two give, and a sink.
use Rattle.std.specs.Prelude.{◌≡◌, ℕ, List, map}
use Rattle.ff_stream.specs.declared.item.Lane.{Lane}
use Rattle.ff_net.specs.declared.node.Node.{Node}
use Rattle.ff_net.specs.laws.Nodes.{machine_of, in_wires_of, out_wires_of}
use Rattle.ff_test_machines.specs.declared.plain.Plain.{Plain}
use Rattle.ff_test_machines.specs.Plains.{plain_view}

-- a node on these wires, all of one lane
pub record Fits (lane : Lane) (ins outs : List ℕ) (node : Node Plain) : Type 0 where
  pub ins_are : in_wires_of node ≡ ins
  pub outs_are : out_wires_of node ≡ outs
  pub in_lanes_are : (plain_view (machine_of node)).in_lanes ≡ map (λ w. lane) ins
  pub out_lanes_are : (plain_view (machine_of node)).out_lanes ≡ map (λ w. lane) outs
