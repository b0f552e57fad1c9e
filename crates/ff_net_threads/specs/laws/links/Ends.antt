-- How the ends of links stand to the wires of a node.
use Rattle.std.specs.Prelude.{◌≡◌, ℕ, ◌⊎◌, Bool, true, false, List, [], Option, None, Some, is_some, slice_index_or, slice_set, ◌∷◌}
use Rattle.ff_stream.specs.declared.item.Item.{Item}
use Rattle.ff_stream.specs.declared.item.Lane.{Lane}
use Rattle.ff_stream.specs.Stream.{still_open, LiesBelow}
use Rattle.ff_stream.specs.Items.{with_item}
use Rattle.ff_stream.specs.Ports.{IsClosed}
use Rattle.ff_link.specs.laws.Sendings.{stream_of, IsSending}
use Rattle.ff_link.specs.laws.Views.{Link, Sending, Receiving, Ended}
use Rattle.ff_net.specs.declared.wires.Wires.{Wires}
use Rattle.ff_net.specs.Ways.{lane_at, IsValidOn}
use Rattle.ff_net.specs.Pasts.{Past}
use Rattle.ff_net.specs.laws.Worlds.{Wire, Stand, lanes_of}
use Rattle.ff_net.specs.laws.Nodes.{HeldIs}
use Rattle.ff_net.specs.laws.Steps.{Course}
use Rattle.ff_net_threads.specs.declared.links.ends.InEnd.{InEnd}
use Rattle.ff_net_threads.specs.declared.links.ends.OutEnd.{OutEnd}

-- all that was taken from the link
abbrev pub taken_in : Option Receiving → Option Ended → List Item
taken_in (Some r) f = r.taken
taken_in None (Some f) = f.taken
taken_in None None = []

abbrev pub taken_of : InEnd → List Item
taken_of end = taken_in end.taking end.finished

abbrev pub link_in : Option Receiving → Option Ended → Option Link
link_in (Some r) f = Some r.link
link_in None (Some f) = Some f.link
link_in None None = None

-- which link it is
abbrev pub in_link : InEnd → Option Link
in_link end = link_in end.taking end.finished

abbrev pub out_link : OutEnd → Option Link
out_link end = Some end.sender.link

-- an end that takes: until the node has finished its wire, what was sent on the wire, with the item that is held, is
-- what was taken from the link
pub record InEndStands (end : InEnd) (lane : Option Lane) (wire : Wire) : Type 0 where
  pub carried : wire.finished ≡ false → HeldIs end.held wire.sent (stream_of (taken_of end))
  pub lying : (x : Item) → end.held ≡ Some x → (wire.sent.mark ≡ still_open) × IsValidOn lane (with_item wire.sent x)
  pub below : LiesBelow wire.sent (stream_of (taken_of end))
  pub going : (r : Receiving) → end.taking ≡ Some r → (lane ≡ Some r.lane) × (r.link.claims ≡ true)
  pub shut : end.taking ≡ None → wire.finished ≡ true

-- an end that sends: until the link is closed or its receiver has finished, what was sent over the link, with the item
-- that is held, is what was taken from the wire; the node is told by its wire that the receiver has finished
pub record OutEndStands (end : OutEnd) (lane : Option Lane) (wire : Wire) : Type 0 where
  pub lane_is : lane ≡ Some end.sender.lane
  pub sending : IsSending end.sender.lane end.sender.sent
  pub carried : end.done ≡ false → HeldIs end.held (stream_of end.sender.sent) wire.taken
  pub unclosed : end.done ≡ false → (stream_of end.sender.sent).mark ≡ still_open
  pub below : LiesBelow (stream_of end.sender.sent) wire.taken
  pub listening : end.done ≡ false → wire.finished ≡ false
  pub done : end.done ≡ true → IsClosed (stream_of end.sender.sent) ⊎ ((is_some end.sender.told ≡ true) × (wire.finished ≡ true))

-- whether what this end sends is claimed to be valid
abbrev pub claims_of : OutEnd → Bool
claims_of end = end.sender.link.claims

-- something can be behind the wires at which this end stands
pub record CanPour (wires : Wires) (end : OutEnd) : Type 0 where
  pub world : ℕ → Wire
  pub stand : Stand wires world
  pub fits : OutEndStands end (lane_at (lanes_of wires) end.wire) (world end.wire)

-- something can be behind the wires now that goes on from this world, and at a wire this holds
pub record OnWires (ins outs : List ℕ) (wires : Wires) (world : ℕ → Wire) (past : Past) (holds : Wire → Type 0) (w : ℕ) : Type 0 where
  pub now : ℕ → Wire
  pub stand : Stand wires now
  pub fits : holds (now w)
  pub course : Course ins outs world now past past

-- the end of a new link
abbrev pub new_in : ℕ → Receiving → InEnd
new_in wire r = record { wire = wire; taking = Some r; finished = None; held = None }

abbrev pub new_out : ℕ → Sending → OutEnd
new_out wire s = record { wire = wire; sender = s; held = None; done = false }

-- the end of this number, with one that does nothing where there is none
abbrev pub no_in : InEnd
no_in = record { wire = 0; taking = None; finished = None; held = None }

abbrev pub in_end_at : List InEnd → ℕ → InEnd
in_end_at ends p = slice_index_or ends p no_in

-- one end drew
pub record Draws (wires wires' : Wires) (ends ends' : List InEnd) (p : ℕ) : Type 0 where
  pub end : InEnd
  pub set : ends' ≡ slice_set ends p end
  pub wire : end.wire ≡ (in_end_at ends p).wire
  pub link : in_link end ≡ in_link (in_end_at ends p)
  pub stands : (world : ℕ → Wire) (past : Past) → Stand wires world → InEndStands (in_end_at ends p) (lane_at (lanes_of wires) (in_end_at ends p).wire) (world (in_end_at ends p).wire)
      → OnWires [] ((in_end_at ends p).wire ∷ []) wires' world past (InEndStands end (lane_at (lanes_of wires) (in_end_at ends p).wire)) (in_end_at ends p).wire

-- one end poured
pub record Pours (wires wires' : Wires) (ends ends' : List OutEnd) (q : ℕ) : Type 0 where
  pub old : OutEnd
  pub is : (d : OutEnd) → slice_index_or ends q d ≡ old
  pub end : OutEnd
  pub set : ends' ≡ slice_set ends q end
  pub wire : end.wire ≡ old.wire
  pub link : out_link end ≡ out_link old
  pub stands : (world : ℕ → Wire) (past : Past) → Stand wires world → OutEndStands old (lane_at (lanes_of wires) old.wire) (world old.wire)
      → OnWires (old.wire ∷ []) [] wires' world past (OutEndStands end (lane_at (lanes_of wires) old.wire)) old.wire
