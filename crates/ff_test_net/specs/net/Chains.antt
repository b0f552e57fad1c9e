-- Nodes over new links.
use Rattle.std.specs.Prelude.{◌≡◌, true, ℕ, zero, suc, ◌<◌, List, [], ◌∷◌, length, map, slice_index_or, Some, None, Option}
use Rattle.ff_stream.specs.declared.item.Lane.{Lane}
use Rattle.ff_stream.specs.Ports.{stream_at}
use Rattle.ff_stream.specs.Stream.{whole_stream}
use Rattle.ff_test_machines.specs.Packets.{byte_packets}
use Rattle.ff_link.specs.laws.Views.{Link, Sending, Receiving}
use Rattle.ff_net.specs.Pasts.{Past, Task, IsIn, start}
use Rattle.ff_net.specs.laws.Nodes.{AreApart, IsSound, in_wires_of, out_wires_of}
use Rattle.ff_net.specs.Ways.{lane_at}
use Rattle.ff_net_threads.specs.declared.links.ends.InEnd.{InEnd}
use Rattle.ff_net_threads.specs.declared.links.ends.OutEnd.{OutEnd}
use Rattle.ff_net_threads.specs.declared.links.linked.Linked.{Linked}
use Rattle.ff_net_threads.specs.laws.links.Ends.{in_end_at, new_in, new_out}
use Rattle.ff_net_threads.specs.laws.links.Nodes.{Behind, in_ends_wires, out_ends_wires, node_of, lanes_on, ins_of, outs_of}
use Rattle.ff_net_threads.specs.laws.links.Settling.{AreLinked}
use Rattle.ff_test_machines.specs.declared.plain.Plain.{Plain}
use Rattle.ff_test_machines.specs.Relays.{stopped_at}
use Rattle.ff_test_machines.specs.Starts.{list_task, relay_task}
use Rattle.ff_test_machines.specs.Plains.{plain_view}

-- the two ends of new links of this lane
pub record IsNewSender (lane : Lane) (s : Sending) : Type 0 where
  pub lane_is : s.lane ≡ lane
  pub none_sent : s.sent ≡ []

pub record IsNewReceiver (lane : Lane) (r : Receiving) : Type 0 where
  pub lane_is : r.lane ≡ lane
  pub none_taken : r.taken ≡ []
  pub claims : r.link.claims ≡ true

-- a machine is at the start of this task, and has these lanes
pub record IsNewMachine (task : Task) (lane : Lane) (ins outs : List ℕ) (m : Plain) : Type 0 where
  pub begins : (plain_view m).stands (start task)
  pub in_lanes : (plain_view m).in_lanes ≡ map (λ w. lane) ins
  pub out_lanes : (plain_view m).out_lanes ≡ map (λ w. lane) outs

-- new ends at two wires of this lane
pub record AreNewEnds (lane : Lane) (ins outs : List ℕ) (in_ends : List InEnd) (out_ends : List OutEnd) : Type 0 where
  pub ins_on : map (lane_at (lane ∷ lane ∷ [])) ins ≡ map (λ w. Some lane) ins
  pub outs_on : map (lane_at (lane ∷ lane ∷ [])) outs ≡ map (λ w. Some lane) outs
  pub ins_apart : AreApart ins
  pub outs_apart : AreApart outs
  pub apart : (w : ℕ) → IsIn w ins → IsIn w outs → ⊥
  pub in_wires : in_ends_wires in_ends ≡ ins
  pub out_wires : out_ends_wires out_ends ≡ outs
  pub ins_new : (p : ℕ) → p < length in_ends → (r : Receiving) × (in_end_at in_ends p ≡ new_in (in_end_at in_ends p).wire r) × (r.taken ≡ []) × (r.link.claims ≡ true) × (lane_at (lane ∷ lane ∷ []) (in_end_at in_ends p).wire ≡ Some r.lane)
  pub outs_new : (q : ℕ) (d : OutEnd) → q < length out_ends → (s : Sending) × (slice_index_or out_ends q d ≡ new_out (slice_index_or out_ends q d).wire s) × (s.sent ≡ []) × (lane_at (lane ∷ lane ∷ []) (slice_index_or out_ends q d).wire ≡ Some s.lane)

-- this task is behind a node at these wires, with these ends
pub record IsNewNode (task : Task) (lane : Lane) (in_wires out_wires : List ℕ) (ins : List InEnd) (outs : List OutEnd) (l : Linked Plain) : Type 0 where
  pub behind : Behind plain_view task l
  pub lanes_are : lanes_on l ≡ lane ∷ lane ∷ []
  pub in_wires_are : in_wires_of (node_of l) ≡ in_wires
  pub out_wires_are : out_wires_of (node_of l) ≡ out_wires
  pub ins_are : ins_of l ≡ ins
  pub outs_are : outs_of l ≡ outs

-- a sink keeps all
abbrev pub sink_task : Task
sink_task = relay_task 18446744073709551615 0

-- the wires of the nodes of a chain, by number
abbrev pub chain_ins : ℕ → List ℕ
chain_ins zero = []
chain_ins (suc zero) = 0 ∷ []
chain_ins (suc (suc k)) = 1 ∷ []

abbrev pub chain_outs : ℕ → List ℕ
chain_outs zero = 0 ∷ []
chain_outs (suc zero) = 1 ∷ []
chain_outs (suc (suc k)) = []

-- and their tasks: to give so many packets, to let the first through, and to keep these
abbrev pub chain_tasks : ℕ → ℕ → ℕ → Task
chain_tasks count limit zero = list_task 0 (byte_packets count)
chain_tasks count limit (suc zero) = relay_task limit 1
chain_tasks count limit (suc (suc k)) = sink_task

-- three nodes in a chain, with these tasks behind them
pub record IsChain (tasks : ℕ → Task) (lane : Lane) (ls : List (Linked Plain)) : Type 0 where
  pub three : length ls ≡ 3
  pub behind : (k : ℕ) (d : Linked Plain) → k < length ls → Behind plain_view (tasks k) (slice_index_or ls k d)
  pub lanes : (k : ℕ) (d : Linked Plain) → k < length ls → lanes_on (slice_index_or ls k d) ≡ lane ∷ lane ∷ []
  pub ins : (k : ℕ) (d : Linked Plain) → k < length ls → in_wires_of (node_of (slice_index_or ls k d)) ≡ chain_ins k
  pub outs : (k : ℕ) (d : Linked Plain) → k < length ls → out_wires_of (node_of (slice_index_or ls k d)) ≡ chain_outs k
  pub links : ℕ → Link
  pub linked : AreLinked links ls

-- no node has a fault
pub record AllSound (ls : List (Linked Plain)) : Type 0 where
  pub each : (k : ℕ) (d : Linked Plain) → k < length ls → IsSound plain_view (node_of (slice_index_or ls k d))

-- a sink was fed the first packets, and the end behind them where so many were there
pub record WasFed (count limit : ℕ) (m : Plain) : Type 0 where
  pub past : Past
  pub stands : (plain_view m).stands past
  pub task_is : past.task ≡ sink_task
  pub got : stream_at past.got 0 ≡ stopped_at limit (whole_stream (byte_packets count))
