-- One relay between two wires.
use Rattle.std.proofs.Common.{◌≡◌, ℕ, ◌<◌, List, [], ◌∷◌, map, length, slice_index_or, replicate, ap, sym, ◌∙◌, subst, arith, Option, Some}
use Rattle.ff_stream.specs.declared.item.Lane.{Lane}
use Rattle.ff_net.specs.declared.node.Node.{Node}
use Rattle.ff_net.specs.declared.wires.Wires.{Wires}
use Rattle.ff_net.specs.Ways.{lane_at}
use Rattle.ff_net.specs.laws.Worlds.{lanes_of}
use Rattle.ff_net.specs.laws.Nodes.{AreApart, HaveLanes, IsShaped, in_wires_of, out_wires_of}
use Rattle.ff_net.specs.laws.Serial.{AreShaped}
use Rattle.ff_test_machines.specs.declared.relay.Relay.{Relay}
use Rattle.ff_test_machines.specs.Kinds.{relay_view}
use Rattle.ff_test_machines.specs.Trials.{relay_ins, relay_outs}

single : (w : ℕ) (ws : List ℕ) → ws ≡ w ∷ [] → AreApart ws
single w ws e p q plt qlt same =
    let one : length ws ≡ 1 = ap length e in
    let a : p < length ws = plt in
    let b : q < length ws = qlt in
    omega (arith, one, a, b)

has : (w : ℕ) (ws : List ℕ) (l : Lane) (ports lanes : List Lane) → ws ≡ w ∷ [] → ports ≡ l ∷ [] → lane_at lanes w ≡ Some l → HaveLanes ws ports lanes
has w ws l ports lanes e f g = record {
  lanes_are = ap (λ (vs : List ℕ). map (lane_at lanes) vs) e ∙ (ap (λ (o : Option Lane). o ∷ []) g ∙ ap (λ (ls : List Lane). map Some ls) (sym f));
  apart = single w ws e;
}

pub one_shaped : (node : Node Relay) (nodes : List (Node Relay)) (wires : Wires) (l : Lane) → nodes ≡ node ∷ [] → in_wires_of node ≡ 0 ∷ [] → out_wires_of node ≡ 1 ∷ [] → node.machine.lane ≡ l → length node.machine.outs.items ≡ 1 → lanes_of wires ≡ l ∷ l ∷ [] → AreShaped relay_view nodes wires
one_shaped node nodes wires l is i o lane one lanes =
    let shaped : IsShaped relay_view node wires = record {
      ins = has 0 (in_wires_of node) l (relay_ins node.machine) (lanes_of wires) i (ap (λ (x : Lane). x ∷ []) lane) (ap (λ (ls : List Lane). lane_at ls 0) lanes);
      outs = has 1 (out_wires_of node) l (relay_outs node.machine) (lanes_of wires) o (ap (λ (n : ℕ). replicate n node.machine.lane) one ∙ ap (λ (x : Lane). x ∷ []) lane) (ap (λ (ls : List Lane). lane_at ls 1) lanes);
    } in
    let count : length nodes ≡ 1 = ap length is in
    record {
      each = λ k d lt. let zero_k : k ≡ 0 = omega (arith, count, lt) in
          subst (λ (n : Node Relay). IsShaped relay_view n wires) (sym (ap (λ (j : ℕ). slice_index_or nodes j d) zero_k ∙ ap (λ (ns : List (Node Relay)). slice_index_or ns 0 d) is)) shaped;
      ins_apart = λ j k w d jlt klt a b. omega (arith, count, jlt, klt);
      outs_apart = λ j k w d jlt klt a b. omega (arith, count, jlt, klt);
    }

shape_on : (node : Node Relay) (wires wires' : Wires) → lanes_of wires' ≡ lanes_of wires → IsShaped relay_view node wires → IsShaped relay_view node wires'
shape_on node wires wires' same s = record {
  ins = subst (λ (ls : List Lane). HaveLanes (in_wires_of node) (relay_ins node.machine) ls) (sym same) s.ins;
  outs = subst (λ (ls : List Lane). HaveLanes (out_wires_of node) (relay_outs node.machine) ls) (sym same) s.outs;
}

-- wires that keep their lanes fit as before
pub shaped_on : (nodes : List (Node Relay)) (wires wires' : Wires) → lanes_of wires' ≡ lanes_of wires → AreShaped relay_view nodes wires → AreShaped relay_view nodes wires'
shaped_on nodes wires wires' same s = record {
  each = λ k d lt. shape_on (slice_index_or nodes k d) wires wires' same (s.each k d lt);
  ins_apart = s.ins_apart;
  outs_apart = s.outs_apart;
}
