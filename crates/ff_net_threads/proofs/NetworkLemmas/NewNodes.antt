-- Nodes on new links are lawful.
use Rattle.std.proofs.Common.{◌≡◌, ℕ, ◌<◌, All, true, List, length, slice_index_or, Some, refl, ap, sym, ◌∙◌, subst}
use Rattle.ff_stream.specs.declared.item.Lane.{Lane}
use Rattle.ff_link.specs.laws.Views.{new_sender, new_receiver}
use Rattle.ff_net.specs.declared.node.Node.{Node}
use Rattle.ff_net.specs.declared.wires.Wires.{Wires}
use Rattle.ff_net.specs.Pasts.{Task, IsIn, start}
use Rattle.ff_net.specs.laws.Views.{View}
use Rattle.ff_net.specs.Ways.{lane_at}
use Rattle.ff_net.specs.laws.Worlds.{Stand, fresh, lanes_of, sizes_of}
use Rattle.ff_net.specs.laws.Nodes.{NodeStands, HaveLanes, machine_of, in_wires_of, out_wires_of}
use Rattle.ff_net_threads.specs.declared.links.ends.InEnd.{InEnd}
use Rattle.ff_net_threads.specs.declared.links.ends.OutEnd.{OutEnd}
use Rattle.ff_net_threads.specs.declared.links.linked.Linked.{Linked}
use Rattle.ff_net_threads.specs.laws.links.Ends.{claims_of, in_end_at, in_link, out_link}
use Rattle.ff_net_threads.specs.laws.links.Nodes.{AreWired, IsWired, IsBeginning, Behind, node_of, lanes_on, wires_on, ins_of, outs_of}
use Rattle.ff_net_threads.specs.laws.network.Nodes.{FitsWires, IsNewIn, IsNewOut, AreNewIns, AreNewOuts, IsLinked}
use Rattle.ff_net_threads.specs.laws.network.Tables.{NewLinks}

moved_lanes : (ws ws' : List ℕ) (ports ports' lanes lanes' : List Lane) → ws ≡ ws' → ports ≡ ports' → lanes ≡ lanes' → HaveLanes ws' ports' lanes' → HaveLanes ws ports lanes
moved_lanes ws ws' ports ports' lanes lanes' e f g h =
    subst (λ (vs : List ℕ). HaveLanes vs ports lanes) (sym e) (subst (λ (ls : List Lane). HaveLanes ws' ls lanes) (sym f) (subst (λ (ls : List Lane). HaveLanes ws' ports' ls) (sym g) h))

in_link_is : (new : NewLinks) (end : InEnd) → IsNewIn new end → in_link end ≡ Some (new.link end.wire)
in_link_is new end h = ap (λ (e : InEnd). in_link e) h.is

out_link_is : (new : NewLinks) (end : OutEnd) → IsNewOut new end → out_link end ≡ Some (new.link end.wire)
out_link_is new end h = ap (λ (e : OutEnd). out_link e) h.is

out_room_is : (new : NewLinks) (end : OutEnd) → IsNewOut new end → end.sender.room ≡ new.size
out_room_is new end h = ap (λ (e : OutEnd). e.sender.room) h.is

out_claims_are : (new : NewLinks) (end : OutEnd) → IsNewOut new end → claims_of end ≡ new.claims
out_claims_are new end h = ap (λ (e : OutEnd). claims_of e) h.is ∙ h.claims_are

module _ {M : Type 0} (view : M → View) (new : NewLinks) (in_wires out_wires : List ℕ) (ins : List InEnd) (outs : List OutEnd) (machine : M) (fits : FitsWires view new.lanes in_wires out_wires machine) (new_ins : AreNewIns new in_wires ins) (new_outs : AreNewOuts new out_wires outs) where
  -- a new node, before its ends are joined to it
  module _ (node : Node M) (wires : Wires) (lanes_are : new.lanes ≡ lanes_of wires) (stood : Stand wires (λ w. fresh)) (ins_are : in_wires_of node ≡ in_wires) (outs_are : out_wires_of node ≡ out_wires) (machine_is : machine_of node ≡ machine) where
    pub new_wired : AreWired view node wires ins outs
    new_wired = record {
      shaped = record {
        ins = moved_lanes (in_wires_of node) in_wires (view node.machine).in_lanes (view machine).in_lanes (lanes_of wires) new.lanes ins_are (ap (λ (m : M). (view m).in_lanes) machine_is) (sym lanes_are) fits.in_lanes;
        outs = moved_lanes (out_wires_of node) out_wires (view node.machine).out_lanes (view machine).out_lanes (lanes_of wires) new.lanes outs_are (ap (λ (m : M). (view m).out_lanes) machine_is) (sym lanes_are) fits.out_lanes;
      };
      apart = λ w a b. fits.apart w (subst (λ (ws : List ℕ). IsIn w ws) ins_are a) (subst (λ (ws : List ℕ). IsIn w ws) outs_are b);
      in_wires = new_ins.wires_are ∙ sym ins_are;
      out_wires = new_outs.wires_are ∙ sym outs_are;
    }

    pub new_begin : new.claims ≡ true → (task : Task) → NodeStands view node (λ w. fresh) (start task) → IsBeginning view task node wires ins outs
    new_begin vouched task h = record {
      shaped = new_wired.shaped;
      apart = new_wired.apart;
      in_wires = new_wired.in_wires;
      out_wires = new_wired.out_wires;
      node_new = h;
      wires_new = stood;
      ins_new = λ p lt. (let n = new_ins.each p lt in (new_receiver (new.link (in_end_at ins p).wire) n.lane new.size, n.is, refl, n.claims_are ∙ vouched, ap (λ (ls : List Lane). lane_at ls (in_end_at ins p).wire) (sym lanes_are) ∙ n.lane_is));
      outs_new = λ q d lt. (let n = new_outs.each q d lt in (new_sender (new.link (slice_index_or outs q d).wire) n.lane new.size, n.is, refl, ap (λ (ls : List Lane). lane_at ls (slice_index_or outs q d).wire) (sym lanes_are) ∙ n.lane_is));
    }

  pub new_linked : (l : Linked M) → machine_of (node_of l) ≡ machine → in_wires_of (node_of l) ≡ in_wires → out_wires_of (node_of l) ≡ out_wires → lanes_on l ≡ new.lanes → All (λ n. n ≡ 1) (sizes_of (wires_on l)) → ins_of l ≡ ins → outs_of l ≡ outs → IsWired view l
      → (new.claims ≡ true → (task : Task) → (view machine).stands (start task) → Behind view task l) → IsLinked view new in_wires out_wires machine l
  new_linked l machine_is ins_are outs_are lanes_are of_one ends_in ends_out wired begin = record {
    machine_is = machine_is;
    ins_are = ins_are;
    outs_are = outs_are;
    lanes_are = lanes_are;
    of_one = of_one;
    in_links = λ p lt. subst (λ (es : List InEnd). in_link (in_end_at es p) ≡ Some (new.link (in_end_at es p).wire)) (sym ends_in) (in_link_is new (in_end_at ins p) (new_ins.each p (subst (λ (es : List InEnd). p < length es) ends_in lt)));
    out_links = λ q d lt. subst (λ (es : List OutEnd). out_link (slice_index_or es q d) ≡ Some (new.link (slice_index_or es q d).wire)) (sym ends_out) (out_link_is new (slice_index_or outs q d) (new_outs.each q d (subst (λ (es : List OutEnd). q < length es) ends_out lt)));
    rooms = λ q d lt. subst (λ (es : List OutEnd). (slice_index_or es q d).sender.room ≡ new.size) (sym ends_out) (out_room_is new (slice_index_or outs q d) (new_outs.each q d (subst (λ (es : List OutEnd). q < length es) ends_out lt)));
    starts = begin;
    wired = wired;
    lawful = λ some. record {
      wired = wired;
      vouched = λ q d lt c.
          let there : q < length outs = subst (λ (es : List OutEnd). q < length es) ends_out lt in
          let here : claims_of (slice_index_or outs q d) ≡ true = subst (λ (es : List OutEnd). claims_of (slice_index_or es q d) ≡ true) ends_out c in
          let vouched : new.claims ≡ true = sym (out_claims_are new (slice_index_or outs q d) (new_outs.each q d there)) ∙ here in
          let b = some vouched in
          (b.0, begin vouched b.0 b.1);
    };
  }
