-- Nodes whose links are settled.
use Rattle.std.specs.Prelude.{◌≡◌, ℕ, zero, suc, ◌<◌, ◌⊎◌, List, [], ◌∷◌, length, slice_index_or, map, Option, None, Some, ◌+◌, ◌≤◌}
use mathlib.Core.List.{IsPrefix}
use Rattle.ff_stream.specs.declared.item.Item.{Item}
use Rattle.ff_stream.specs.declared.item.Lane.{Lane}
use Rattle.ff_link.specs.laws.Views.{Link, Sending}
use Rattle.ff_link.specs.declared.answers.Settled.{Settled}
use Rattle.ff_net.specs.declared.node.Node.{Node}
use Rattle.ff_net.specs.Pasts.{Task, IsIn}
use Rattle.ff_net.specs.laws.Nodes.{AreApart, IsSound, in_wires_of, machine_of, out_wires_of, pass_of}
use Rattle.ff_sched.specs.laws.Passing.{Passing}
use Rattle.ff_net.specs.declared.fault.Fault.{Fault}
use Rattle.ff_net.specs.declared.fault.Fault.TheVariants.{NoMemory}
use Rattle.ff_net.specs.laws.Views.{View}
use Rattle.ff_net_threads.specs.declared.links.ends.InEnd.{InEnd}
use Rattle.ff_net_threads.specs.declared.links.ends.OutEnd.{OutEnd}
use Rattle.ff_net_threads.specs.declared.links.linked.Linked.{Linked}
use Rattle.ff_net_threads.specs.laws.links.Ends.{taken_of, in_link, out_link, in_end_at}
use Rattle.ff_net_threads.specs.laws.links.Nodes.{Behind, HasEnded, in_ends_wires, out_ends_wires, node_of, lanes_on, ins_of, outs_of}

-- the nodes, as they are on wires of their own
abbrev pub nodes_of : {M : Type 0} → List (Linked M) → List (Node M)
nodes_of ls = map node_of ls

-- their passes
abbrev pub passes_in : {M : Type 0} → List (Linked M) → List Passing
passes_in ls = map (λ l. pass_of (node_of l)) ls

-- with these tasks something can be behind each
abbrev pub AllBehind : {M : Type 0} → (M → View) → (ℕ → Task) → List (Linked M) → Type 0
AllBehind view tasks [] = Unit {0}
AllBehind view tasks (l ∷ ls) = Behind view (tasks zero) l × AllBehind view (λ k. tasks (suc k)) ls

-- the link of this number leads from one of the nodes, or to one
abbrev pub IsOutOf : {M : Type 0} → List (Linked M) → ℕ → Type 0
IsOutOf [] w = ⊥
IsOutOf (l ∷ ls) w = IsIn w (out_wires_of l.node) ⊎ IsOutOf ls w

abbrev pub IsInOf : {M : Type 0} → List (Linked M) → ℕ → Type 0
IsInOf [] w = ⊥
IsInOf (l ∷ ls) w = IsIn w (in_wires_of l.node) ⊎ IsInOf ls w

-- no link leads from two nodes, or to two, and all have the same links
abbrev pub AreJoined : {M : Type 0} → List Lane → List (Linked M) → Type 0
AreJoined lanes [] = Unit {0}
AreJoined lanes (l ∷ ls) = (lanes_on l ≡ lanes) × ((w : ℕ) → IsIn w (out_wires_of l.node) → IsOutOf ls w → ⊥) × ((w : ℕ) → IsIn w (in_wires_of l.node) → IsInOf ls w → ⊥) × AreJoined lanes ls

-- no link leads from two nodes, or to two; all have the same links, and have ended
abbrev pub AreMeeting : {M : Type 0} → List Lane → List (Linked M) → Type 0
AreMeeting lanes [] = Unit {0}
AreMeeting lanes (l ∷ ls) = HasEnded l × (lanes_on l ≡ lanes) × ((w : ℕ) → IsIn w (out_wires_of l.node) → IsOutOf ls w → ⊥) × ((w : ℕ) → IsIn w (in_wires_of l.node) → IsInOf ls w → ⊥) × AreMeeting lanes ls

-- these items were sent over the link of this number by one of these ends
abbrev pub WasSentIn : List (List OutEnd) → ℕ → List Item → Type 0
WasSentIn [] w xs = ⊥
WasSentIn (es ∷ ess) w xs = ((q : ℕ) × (q < length es) × ((d : OutEnd) → ((slice_index_or es q d).wire ≡ w) × ((slice_index_or es q d).sender.sent ≡ xs))) ⊎ WasSentIn ess w xs

-- and by one of the nodes
abbrev pub WasSent : {M : Type 0} → List (Linked M) → ℕ → List Item → Type 0
WasSent ls w xs = WasSentIn (map outs_of ls) w xs

-- what these nodes took over their links is the beginning of what was sent there
abbrev pub AreFed : {M : Type 0} → List (Linked M) → List (Linked M) → Type 0
AreFed all [] = Unit {0}
AreFed all (l ∷ ls) = ((p : ℕ) → p < length (ins_of l) → (xs : List Item) × IsPrefix (taken_of (in_end_at (ins_of l) p)) xs × WasSent all (in_end_at (ins_of l) p).wire xs) × AreFed all ls

-- the ends of the nodes that send
abbrev pub ends_of : {M : Type 0} → List (Linked M) → List (List OutEnd)
ends_of ls = map outs_of ls

-- the links by number: each end of a node has the link of its wire's number
pub record AreLinked {M : Type 0} (links : ℕ → Link) (ls : List (Linked M)) : Type 0 where
  pub ins : (k p : ℕ) (d : Linked M) → k < length ls → p < length (ins_of (slice_index_or ls k d)) → in_link (in_end_at (ins_of (slice_index_or ls k d)) p) ≡ Some (links (in_end_at (ins_of (slice_index_or ls k d)) p).wire)
  pub outs : (k q : ℕ) (d : Linked M) (e : OutEnd) → k < length ls → q < length (outs_of (slice_index_or ls k d)) → out_link (slice_index_or (outs_of (slice_index_or ls k d)) q e) ≡ Some (links (slice_index_or (outs_of (slice_index_or ls k d)) q e).wire)

-- each node has ended
pub record AllEnded {M : Type 0} (ls : List (Linked M)) : Type 0 where
  pub each : (k : ℕ) (d : Linked M) → k < length ls → HasEnded (slice_index_or ls k d)

-- one of these ends sends over the link of this number, by this sender
abbrev pub IsSenderIn : List (List OutEnd) → ℕ → Sending → Type 0
IsSenderIn [] w s = ⊥
IsSenderIn (es ∷ ess) w s = ((q : ℕ) × (q < length es) × ((d : OutEnd) → ((slice_index_or es q d).wire ≡ w) × ((slice_index_or es q d).sender ≡ s))) ⊎ IsSenderIn ess w s

-- each sender in the table is one of these ends', at the number of its link
pub record IsTable (all : List (List OutEnd)) (links : ℕ → Link) (table : List (Option Sending)) : Type 0 where
  pub each : (w : ℕ) (d : Option Sending) (s : Sending) → w < length table → slice_index_or table w d ≡ Some s → IsSenderIn all w s × (s.link ≡ links w)

-- an end took the beginning of what one of these ends sent over its link
abbrev pub IsFed : List (List OutEnd) → InEnd → Type 0
IsFed all end = (xs : List Item) × IsPrefix (taken_of end) xs × WasSentIn all end.wire xs

-- the link of an end that took is settled, with one of these ends as the one that sent
pub record IsSettled (all : List (List OutEnd)) (settled : List Settled) (end : InEnd) : Type 0 where
  pub sender : Sending
  pub is_sender : IsSenderIn all end.wire sender
  -- what was taken is the beginning of what was sent, and the rest is at most the link's size
  pub in_order : IsPrefix (taken_of end) sender.sent
  pub within : length sender.sent ≤ length (taken_of end) + sender.room
  -- and this is noted at the number of the link
  pub noted : (d : Settled) → slice_index_or settled end.wire d ≡ record { sent = length sender.sent; taken = length (taken_of end) }

-- and so is that of each end of the nodes
pub record AllSettled {M : Type 0} (settled : List Settled) (ls : List (Linked M)) : Type 0 where
  pub each : (k p : ℕ) (d : Linked M) → k < length ls → p < length (ins_of (slice_index_or ls k d)) → IsSettled (ends_of ls) settled (in_end_at (ins_of (slice_index_or ls k d)) p)

-- the fault of a node: its machine's, where that has one, else want of memory, if it was refused memory
pub record IsFaultOf {M : Type 0} (view : M → View) (node : Node M) (fault : Option Fault) : Type 0 where
  pub sound : fault ≡ None → IsSound view node
  pub none : IsSound view node → fault ≡ None
  pub machine : (c : Fault) → (view (machine_of node)).fault ≡ Some c → fault ≡ Some c
  pub refused : (view (machine_of node)).fault ≡ None → (IsSound view node → ⊥) → fault ≡ Some NoMemory

-- the faults of nodes, by their numbers
pub record AreFaultsOf {M : Type 0} (view : M → View) (nodes : List (Node M)) (faults : List (Option Fault)) : Type 0 where
  pub as_many : length faults ≡ length nodes
  pub each : (k : ℕ) (d : Node M) (e : Option Fault) → k < length nodes → IsFaultOf view (slice_index_or nodes k d) (slice_index_or faults k e)

-- the table has a sender at this number
pub record HasSender (table : List (Option Sending)) (w : ℕ) : Type 0 where
  pub sender : Sending
  pub is : (d : Option Sending) → slice_index_or table w d ≡ Some sender

-- no link leads to two ends of the nodes, and each that leads to a node has a number below this and leads from an earlier node
pub record ComeAfter {M : Type 0} (links : ℕ) (ls : List (Linked M)) : Type 0 where
  pub apart : (k : ℕ) (d : Linked M) → k < length ls → AreApart (in_ends_wires (ins_of (slice_index_or ls k d)))
  pub once : (j k w : ℕ) (d : Linked M) → j < length ls → k < length ls → IsIn w (in_ends_wires (ins_of (slice_index_or ls j d))) → IsIn w (in_ends_wires (ins_of (slice_index_or ls k d))) → j ≡ k
  pub there : (k w : ℕ) (d : Linked M) → k < length ls → IsIn w (in_ends_wires (ins_of (slice_index_or ls k d))) → w < links
  pub earlier : (k w : ℕ) (d : Linked M) → k < length ls → IsIn w (in_ends_wires (ins_of (slice_index_or ls k d))) → (j : ℕ) × (j < k) × IsIn w (out_ends_wires (outs_of (slice_index_or ls j d)))
