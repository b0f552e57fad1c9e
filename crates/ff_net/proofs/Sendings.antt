-- What is sent and fed is valid, and what was closed by what was fed stays closed.
use Rattle.std.proofs.Common.{◌≡◌, ℕ, false, ◌<◌, List, length, refl, sym, subst, Option, Some}
use Rattle.ff_stream.specs.declared.item.Item.{Item}
use Rattle.ff_stream.specs.declared.item.Item.TheVariants.{Broken}
use Rattle.ff_stream.specs.declared.item.Lane.{Lane}
use Rattle.ff_stream.specs.Items.{with_item}
use Rattle.ff_stream.specs.Ports.{stream_at, AllBelow}
use Rattle.ff_net.specs.declared.node.Node.{Node}
use Rattle.ff_net.specs.declared.wires.Wires.{Wires}
use Rattle.ff_net.specs.Ways.{Flow, lane_at, IsValidOn, AreValid}
use Rattle.ff_net.specs.Pasts.{Past, due, fed}
use Rattle.ff_net.specs.laws.Ports.{in_at, out_at}
use Rattle.ff_net.specs.laws.Worlds.{Wire, Stand, lanes_of, take_on}
use Rattle.ff_net.specs.laws.Nodes.{HeldIs, NodeStands, HaveLanes, in_wires_of, out_wires_of}
use Rattle.ff_net.specs.laws.Views.{View}
use Rattle.ff_net.proofs.Flows.{valid_on_below, broken_valid_on, given_below, fed_valid, AreUnits}
use Rattle.ff_net.proofs.PortSteps.{out_lane, in_lane, out_wire_there}
use Rattle.ff_net.proofs.Moments.{with_wire_same}

module _ {M : Type 0} (view : M → View) (node : Node M) (wires : Wires) (world : ℕ → Wire) (past : Past) (p : ℕ) (ins outs : List Lane)
    (stand : Stand wires world) (was : NodeStands view node world past) (valid : AreValid ins past.got) (keeps : (ss : List Flow) → AreValid ins ss → AreValid outs (past.task.means ss)) where
  pub sent_valid : (x : Item) → AreUnits past → AllBelow past.gave (due past) → HaveLanes (out_wires_of node) outs (lanes_of wires) → p < length node.outs.items → (out_at node.outs.items p).done ≡ false → (out_at node.outs.items p).held ≡ Some x
      → IsValidOn (lane_at (lanes_of wires) (out_at node.outs.items p).wire) (with_item (world (out_at node.outs.items p).wire).sent x)
  sent_valid x are given shaped there busy held =
      let gave : with_item (world (out_at node.outs.items p).wire).sent x ≡ stream_at past.gave p = subst (λ (h : Option Item). HeldIs h (world (out_at node.outs.items p).wire).sent (stream_at past.gave p)) held ((was.outs p there).held busy) in
      let on_port : IsValidOn (lane_at outs p) (stream_at past.gave p) = valid_on_below (lane_at outs p) (stream_at past.gave p) (stream_at (past.task.means past.got) p) (given_below past are given p) (keeps past.got valid p) in
      subst (λ (s : Flow). IsValidOn (lane_at (lanes_of wires) (out_at node.outs.items p).wire) s) (sym gave)
      (subst (λ (l : Option Lane). IsValidOn l (stream_at past.gave p)) (sym (out_lane node.outs.items outs (lanes_of wires) shaped p there)) on_port)

  pub broken_valid : HaveLanes (out_wires_of node) outs (lanes_of wires) → p < length node.outs.items → IsValidOn (lane_at (lanes_of wires) (out_at node.outs.items p).wire) (with_item (world (out_at node.outs.items p).wire).sent Broken)
  broken_valid shaped there = broken_valid_on (lanes_of wires) (out_at node.outs.items p).wire (world (out_at node.outs.items p).wire).sent _ (out_wire_there node.outs.items outs (lanes_of wires) shaped p there) refl (stand.valid (out_at node.outs.items p).wire)

  -- what is fed after it was taken is valid
  pub taken_valid : (x : Item) (wires' : Wires) → Stand wires' (take_on world (in_at node.ins.items p).wire x) → lanes_of wires' ≡ lanes_of wires → HaveLanes (in_wires_of node) ins (lanes_of wires) → p < length node.ins.items → stream_at past.got p ≡ (world (in_at node.ins.items p).wire).taken
      → AreValid ins (fed past p x).got
  taken_valid x wires' later same shaped there got =
      let w = (in_at node.ins.items p).wire in
      let at : take_on world w x w ≡ record { sent = (world w).sent; taken = with_item (world w).taken x; finished = (world w).finished } = with_wire_same world w _ w refl in
      let now : IsValidOn (lane_at (lanes_of wires') w) (take_on world w x w).taken = valid_on_below (lane_at (lanes_of wires') w) (take_on world w x w).taken (take_on world w x w).sent (later.ordered w) (later.valid w) in
      let on_wire : IsValidOn (lane_at (lanes_of wires) w) (with_item (world w).taken x) = subst (λ (ls : List Lane). IsValidOn (lane_at ls w) (with_item (world w).taken x)) same (subst (λ (u : Wire). IsValidOn (lane_at (lanes_of wires') w) u.taken) at now) in
      let on_port : IsValidOn (lane_at ins p) (with_item (world w).taken x) = subst (λ (l : Option Lane). IsValidOn l (with_item (world w).taken x)) (in_lane node.ins.items ins (lanes_of wires) shaped p there) on_wire in
      fed_valid ins past p x valid (subst (λ (s : Flow). IsValidOn (lane_at ins p) (with_item s x)) (sym got) on_port)
