-- New nodes are lawful.
use Rattle.std.proofs.Common.{◌≡◌, true, ℕ, zero, suc, ◌<◌, ◌≤◌, ◌^◌, List, [], ◌∷◌, length, map, slice_index_or, replicate, refl, ap, sym, subst, ◌∙◌, arith, inl, inr, Some}
use Rattle.ff_stream.specs.declared.item.Lane.{Lane}
use Rattle.ff_stream.specs.declared.item.Item.{Item}
use Rattle.ff_stream.specs.Lanes.{IsValid}
use Rattle.ff_stream.specs.Stream.{whole_stream}
use Rattle.ff_time.specs.Fraction.{Fraction}
use Rattle.ff_test_machines.specs.Packets.{IsWhole, byte_lane, byte_packets}
use Rattle.ff_test_machines.proofs.Stream.{valid}
use Rattle.ff_link.specs.laws.Views.{Link, Sending, Receiving}
use Rattle.ff_net.specs.declared.node.Node.{Node}
use Rattle.ff_net.specs.declared.wires.Wires.{Wires}
use Rattle.ff_net.specs.Pasts.{Task, IsIn, start}
use Rattle.ff_net.specs.Ways.{lane_at}
use Rattle.ff_net.specs.laws.Worlds.{Stand, fresh, lanes_of}
use Rattle.ff_net.specs.laws.Nodes.{NodeStands, HaveLanes, IsOf, in_wires_of, out_wires_of, machine_of}
use Rattle.ff_sched.specs.laws.Passing.{Scheduler}
use Rattle.ff_net_threads.specs.declared.links.ends.InEnd.{InEnd}
use Rattle.ff_net_threads.specs.declared.links.ends.OutEnd.{OutEnd}
use Rattle.ff_net_threads.specs.declared.links.linked.Linked.{Linked}
use Rattle.ff_net_threads.specs.laws.links.Ends.{in_link, out_link, in_end_at, new_in, new_out}
use Rattle.ff_net_threads.specs.laws.links.Nodes.{Behind, IsBeginning, node_of, lanes_on, ins_of, outs_of}
use Rattle.ff_net_threads.specs.laws.links.Runs.{AllLawful, AllOf, AllRan}
use Rattle.ff_net_threads.proofs.LinksLemmas.After.{linked_after}
use Rattle.ff_test_machines.specs.declared.plain.Plain.{Plain}
use Rattle.ff_test_machines.specs.declared.plain.Plain.TheVariants.{Source, Relay}
use Rattle.ff_test_machines.specs.declared.source.Source.{Source as SourceOf}
use Rattle.ff_test_machines.specs.declared.relay.Relay.{Relay as RelayOf}
use Rattle.ff_test_machines.specs.Starts.{list_task, relay_task, source_stands, relay_stands}
use Rattle.ff_test_machines.specs.Trials.{source_outs, relay_ins, relay_outs}
use Rattle.ff_test_machines.specs.Networks.{Fits}
use Rattle.ff_test_machines.specs.Plains.{plain_view}
use Rattle.ff_test_machines.proofs.Networks.{have, fits_shaped, no_wires, one_wire}
use Rattle.ff_test_net.specs.net.Chains.{IsNewSender, IsNewReceiver, IsNewMachine, AreNewEnds, IsNewNode, IsChain, sink_task, chain_tasks, chain_ins, chain_outs}

abbrev two : Lane → List Lane
two lane = lane ∷ lane ∷ []

-- what is asked of one end
abbrev InIsNew : Lane → InEnd → Type 0
InIsNew lane end = (r : Receiving) × (end ≡ new_in end.wire r) × (r.taken ≡ []) × (r.link.claims ≡ true) × (lane_at (two lane) end.wire ≡ Some r.lane)

abbrev OutIsNew : Lane → OutEnd → Type 0
OutIsNew lane end = (s : Sending) × (end ≡ new_out end.wire s) × (s.sent ≡ []) × (lane_at (two lane) end.wire ≡ Some s.lane)

only_in : (lane : Lane) (w : ℕ) (r : Receiving) → lane_at (two lane) w ≡ Some lane → IsNewReceiver lane r → (p : ℕ) → p < length (new_in w r ∷ []) → InIsNew lane (in_end_at (new_in w r ∷ []) p)
only_in lane w r at new zero lt = (r, refl, new.none_taken, new.claims, at ∙ ap (λ (l : Lane). Some l) (sym new.lane_is))
only_in lane w r at new (suc p) lt = absurd (omega arith)

only_out : (lane : Lane) (w : ℕ) (s : Sending) → lane_at (two lane) w ≡ Some lane → IsNewSender lane s → (q : ℕ) (d : OutEnd) → q < length (new_out w s ∷ []) → OutIsNew lane (slice_index_or (new_out w s ∷ []) q d)
only_out lane w s at new zero d lt = (s, refl, new.none_sent, at ∙ ap (λ (l : Lane). Some l) (sym new.lane_is))
only_out lane w s at new (suc q) d lt = absurd (omega arith)

pub apart_0_1 : (w : ℕ) → IsIn w (0 ∷ []) → IsIn w (1 ∷ []) → ⊥
apart_0_1 w (inl a) (inl b) = omega (arith, a, b)
apart_0_1 w (inl a) (inr i) = i
apart_0_1 w (inr i) o = i

pub source_ends : (lane : Lane) (s : Sending) → IsNewSender lane s → AreNewEnds lane [] (0 ∷ []) [] (new_out 0 s ∷ [])
source_ends lane s new = record {
  ins_on = refl;
  outs_on = refl;
  ins_apart = no_wires;
  outs_apart = one_wire 0;
  apart = λ w i o. i;
  in_wires = refl;
  out_wires = refl;
  ins_new = λ p lt. absurd (omega arith);
  outs_new = only_out lane 0 s refl new;
}

pub relay_ends : (lane : Lane) (r : Receiving) (s : Sending) → IsNewReceiver lane r → IsNewSender lane s → AreNewEnds lane (0 ∷ []) (1 ∷ []) (new_in 0 r ∷ []) (new_out 1 s ∷ [])
relay_ends lane r s new new' = record {
  ins_on = refl;
  outs_on = refl;
  ins_apart = one_wire 0;
  outs_apart = one_wire 1;
  apart = apart_0_1;
  in_wires = refl;
  out_wires = refl;
  ins_new = only_in lane 0 r refl new;
  outs_new = only_out lane 1 s refl new';
}

pub sink_ends : (lane : Lane) (r : Receiving) → IsNewReceiver lane r → AreNewEnds lane (1 ∷ []) [] (new_in 1 r ∷ []) []
sink_ends lane r new = record {
  ins_on = refl;
  outs_on = refl;
  ins_apart = one_wire 1;
  outs_apart = no_wires;
  apart = λ w i o. o;
  in_wires = refl;
  out_wires = refl;
  ins_new = only_in lane 1 r refl new;
  outs_new = λ q d lt. absurd (omega arith);
}

-- the packets of a source, and the end
packets_whole : (tb : Fraction) (n : ℕ) → IsWhole tb → n ≤ 2 ^ 20 → IsValid (byte_lane tb) (whole_stream (byte_packets n))
packets_whole tb n w few = (let v = valid tb n w few in record { shape = v.shape; few = v.few; in_time = v.in_time })

pub packets_valid : (lane : Lane) (tb : Fraction) (n : ℕ) (items : List Item) → lane ≡ byte_lane tb → items ≡ byte_packets n → IsWhole tb → n ≤ 2 ^ 20 → IsValid lane (whole_stream items)
packets_valid lane tb n items l i w few = subst (λ (xs : List Item). IsValid lane (whole_stream xs)) (sym i) (subst (λ (x : Lane). IsValid x (whole_stream (byte_packets n))) (sym l) (packets_whole tb n w few))

-- a new node on new wires is at its beginning
pub begins : (lane : Lane) (ins outs : List ℕ) (in_ends : List InEnd) (out_ends : List OutEnd) (m : Plain) (node : Node Plain) (wires : Wires) (task : Task) → IsNewMachine task lane ins outs m
    → AreNewEnds lane ins outs in_ends out_ends → machine_of node ≡ m → in_wires_of node ≡ ins → out_wires_of node ≡ outs → lanes_of wires ≡ lane ∷ lane ∷ []
    → NodeStands plain_view node (λ w. fresh) (start task) → Stand wires (λ w. fresh)
    → IsBeginning plain_view task node wires in_ends out_ends
begins lane ins outs in_ends out_ends m node wires task new ends machine i o lanes stands stand =
    let fits : Fits lane ins outs node = record {
      ins_are = i;
      outs_are = o;
      in_lanes_are = ap (λ (x : Plain). (plain_view x).in_lanes) machine ∙ new.in_lanes;
      out_lanes_are = ap (λ (x : Plain). (plain_view x).out_lanes) machine ∙ new.out_lanes;
    } in
    let in_have : HaveLanes ins (map (λ w. lane) ins) (lanes_of wires) = subst (λ (ls : List Lane). HaveLanes ins (map (λ w. lane) ins) ls) (sym lanes) (have ins lane (two lane) ends.ins_on ends.ins_apart) in
    let out_have : HaveLanes outs (map (λ w. lane) outs) (lanes_of wires) = subst (λ (ls : List Lane). HaveLanes outs (map (λ w. lane) outs) ls) (sym lanes) (have outs lane (two lane) ends.outs_on ends.outs_apart) in
    record {
      shaped = fits_shaped lane ins outs node wires fits in_have out_have;
      apart = λ w a b. ends.apart w (subst (λ (ws : List ℕ). IsIn w ws) i a) (subst (λ (ws : List ℕ). IsIn w ws) o b);
      in_wires = ends.in_wires ∙ sym i;
      out_wires = ends.out_wires ∙ sym o;
      node_new = stands;
      wires_new = stand;
      ins_new = λ p lt. (let h = ends.ins_new p lt in (h.0, h.1, h.2, h.3, ap (λ (ls : List Lane). lane_at ls (in_end_at in_ends p).wire) lanes ∙ h.4));
      outs_new = λ q d lt. (let h = ends.outs_new q d lt in (h.0, h.1, h.2, ap (λ (ls : List Lane). lane_at ls (slice_index_or out_ends q d).wire) lanes ∙ h.3));
    }

pub at_ports : (task : Task) (lane : Lane) (iw ow iw' ow' : List ℕ) (ie ie' : List InEnd) (oe oe' : List OutEnd) (m : Plain) (l : Linked Plain) → iw ≡ iw' → ow ≡ ow' → ie ≡ ie' → oe ≡ oe'
    → ((t : Task) → IsNewMachine t lane iw ow m → IsNewNode t lane iw ow ie oe l) → IsNewMachine task lane iw' ow' m → IsNewNode task lane iw' ow' ie' oe' l
at_ports task lane iw ow iw' ow' ie ie' oe oe' m l e f g h make new =
    let made = make task (record {
      begins = new.begins;
      in_lanes = new.in_lanes ∙ ap (λ (ws : List ℕ). map (λ w. lane) ws) (sym e);
      out_lanes = new.out_lanes ∙ ap (λ (ws : List ℕ). map (λ w. lane) ws) (sym f);
    }) in
    record {
      behind = made.behind;
      lanes_are = made.lanes_are;
      in_wires_are = made.in_wires_are ∙ e;
      out_wires_are = made.out_wires_are ∙ f;
      ins_are = made.ins_are ∙ g;
      outs_are = made.outs_are ∙ h;
    }

pub source_machine : (lane l : Lane) (items xs : List Item) (m : SourceOf) → l ≡ lane → items ≡ xs → source_stands m (start (list_task 0 items)) → source_outs m ≡ l ∷ [] → IsNewMachine (list_task 0 xs) lane [] (0 ∷ []) (Source m)
source_machine lane l items xs m e i fresh outs = record {
  begins = subst (λ (ys : List Item). source_stands m (start (list_task 0 ys))) i fresh;
  in_lanes = refl;
  out_lanes = outs ∙ ap (λ (x : Lane). x ∷ []) e;
}

pub relay_machine : (lane l : Lane) (limit : ℕ) (m : RelayOf) → l ≡ lane → relay_stands m (start (relay_task limit 1)) → relay_ins m ≡ l ∷ [] → relay_outs m ≡ replicate 1 l → IsNewMachine (relay_task limit 1) lane (0 ∷ []) (1 ∷ []) (Relay m)
relay_machine lane l limit m e fresh ins outs = record {
  begins = fresh;
  in_lanes = ins ∙ ap (λ (x : Lane). x ∷ []) e;
  out_lanes = outs ∙ ap (λ (x : Lane). x ∷ []) e;
}

pub sink_machine : (lane l : Lane) (m : RelayOf) → l ≡ lane → relay_stands m (start sink_task) → relay_ins m ≡ l ∷ [] → relay_outs m ≡ replicate 0 l → IsNewMachine sink_task lane (1 ∷ []) [] (Relay m)
sink_machine lane l m e fresh ins outs = record {
  begins = fresh;
  in_lanes = ins ∙ ap (λ (x : Lane). x ∷ []) e;
  out_lanes = outs;
}

at_three : (P : ℕ → Linked Plain → Type 0) (a b c : Linked Plain) → P 0 a → P 1 b → P 2 c → (k : ℕ) (d : Linked Plain) → k < 3 → P k (slice_index_or (a ∷ b ∷ c ∷ []) k d)
at_three P a b c x y z zero d lt = x
at_three P a b c x y z (suc zero) d lt = y
at_three P a b c x y z (suc (suc zero)) d lt = z
at_three P a b c x y z (suc (suc (suc k))) d lt = absurd (omega arith)

module _ (count limit : ℕ) (lane : Lane) (a b c : Linked Plain) (s s' : Sending) (r r' : Receiving) (first : IsNewNode (list_task 0 (byte_packets count)) lane [] (0 ∷ []) [] (new_out 0 s ∷ []) a) (second : IsNewNode (relay_task limit 1) lane (0 ∷ []) (1 ∷ []) (new_in 0 r ∷ []) (new_out 1 s' ∷ []) b) (third : IsNewNode sink_task lane (1 ∷ []) [] (new_in 1 r' ∷ []) [] c) where
  abbrev links : ℕ → Link
  links zero = s.link
  links (suc w) = s'.link

  abbrev InsLinked : List InEnd → Type 0
  InsLinked ends = (p : ℕ) → p < length ends → in_link (in_end_at ends p) ≡ Some (links (in_end_at ends p).wire)

  abbrev OutsLinked : List OutEnd → Type 0
  OutsLinked ends = (q : ℕ) (e : OutEnd) → q < length ends → out_link (slice_index_or ends q e) ≡ Some (links (slice_index_or ends q e).wire)

  in_one : (w : ℕ) (x : Receiving) → x.link ≡ links w → InsLinked (new_in w x ∷ [])
  in_one w x e zero lt = ap (λ (l : Link). Some l) e
  in_one w x e (suc p) lt = absurd (omega arith)

  out_one : (w : ℕ) (x : Sending) → x.link ≡ links w → OutsLinked (new_out w x ∷ [])
  out_one w x e zero d lt = ap (λ (l : Link). Some l) e
  out_one w x e (suc q) d lt = absurd (omega arith)

  ins_at : s.link ≡ r.link → s'.link ≡ r'.link → (k : ℕ) (d : Linked Plain) → k < 3 → InsLinked (ins_of (slice_index_or (a ∷ b ∷ c ∷ []) k d))
  ins_at e e' zero d lt = subst (λ (es : List InEnd). InsLinked es) (sym first.ins_are) (λ p plt. absurd (omega arith))
  ins_at e e' (suc zero) d lt = subst (λ (es : List InEnd). InsLinked es) (sym second.ins_are) (in_one 0 r (sym e))
  ins_at e e' (suc (suc zero)) d lt = subst (λ (es : List InEnd). InsLinked es) (sym third.ins_are) (in_one 1 r' (sym e'))
  ins_at e e' (suc (suc (suc k))) d lt = absurd (omega arith)

  outs_at : (k : ℕ) (d : Linked Plain) → k < 3 → OutsLinked (outs_of (slice_index_or (a ∷ b ∷ c ∷ []) k d))
  outs_at zero d lt = subst (λ (es : List OutEnd). OutsLinked es) (sym first.outs_are) (out_one 0 s refl)
  outs_at (suc zero) d lt = subst (λ (es : List OutEnd). OutsLinked es) (sym second.outs_are) (out_one 1 s' refl)
  outs_at (suc (suc zero)) d lt = subst (λ (es : List OutEnd). OutsLinked es) (sym third.outs_are) (λ q e qlt. absurd (omega arith))
  outs_at (suc (suc (suc k))) d lt = absurd (omega arith)

  pub chain_is : s.link ≡ r.link → s'.link ≡ r'.link → IsChain (chain_tasks count limit) lane (a ∷ b ∷ c ∷ [])
  chain_is e e' = record {
    three = refl;
    behind = at_three (λ k l. Behind plain_view (chain_tasks count limit k) l) a b c first.behind second.behind third.behind;
    lanes = at_three (λ k l. lanes_on l ≡ lane ∷ lane ∷ []) a b c first.lanes_are second.lanes_are third.lanes_are;
    ins = at_three (λ k l. in_wires_of (node_of l) ≡ chain_ins k) a b c first.in_wires_are second.in_wires_are third.in_wires_are;
    outs = at_three (λ k l. out_wires_of (node_of l) ≡ chain_outs k) a b c first.out_wires_are second.out_wires_are third.out_wires_are;
    links = links;
    linked = record {
      ins = λ k p d klt plt. ins_at e e' k d klt p plt;
      outs = λ k q d o klt qlt. outs_at k d klt q o qlt;
    };
  }

pub three_of : (cell : Scheduler) (a b c : Linked Plain) → IsOf plain_view cell (node_of a) → IsOf plain_view cell (node_of b) → IsOf plain_view cell (node_of c) → AllOf plain_view cell (a ∷ b ∷ c ∷ [])
three_of cell a b c x y z = record { each = at_three (λ k l. IsOf plain_view cell (node_of l)) a b c x y z }

abbrev Run : List (Linked Plain) → List (Linked Plain) → Type 0
Run olds news = AllRan plain_view olds news

pub chain_lawful : (tasks : ℕ → Task) (lane : Lane) (ls : List (Linked Plain)) → IsChain tasks lane ls → AllLawful plain_view ls
chain_lawful tasks lane ls h = record { each = λ k d lt. (let b = h.behind k d lt in record { wired = b.wired; vouched = λ q e there claims. (tasks k, b) }) }

-- a run keeps the chain
pub chain_after : (tasks : ℕ → Task) (lane : Lane) (olds news : List (Linked Plain)) → IsChain tasks lane olds → Run olds news → IsChain tasks lane news
chain_after tasks lane olds news h r = record {
  three = r.0 ∙ h.three;
  behind = λ k d lt. (let lt' = subst (λ (n : ℕ). k < n) r.0 lt in (r.1 k d lt').0.goes (tasks k) (h.behind k d lt'));
  lanes = λ k d lt. (let lt' = subst (λ (n : ℕ). k < n) r.0 lt in (r.1 k d lt').0.lanes_same ∙ h.lanes k d lt');
  ins = λ k d lt. (let lt' = subst (λ (n : ℕ). k < n) r.0 lt in (r.1 k d lt').0.ins_same ∙ h.ins k d lt');
  outs = λ k d lt. (let lt' = subst (λ (n : ℕ). k < n) r.0 lt in (r.1 k d lt').0.outs_same ∙ h.outs k d lt');
  links = h.links;
  linked = linked_after plain_view h.links olds news h.linked r;
}
