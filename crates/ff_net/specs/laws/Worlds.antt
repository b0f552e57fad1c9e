-- What the wires of one thread have behind them.
use Rattle.std.specs.Prelude.{◌≡◌, ℕ, Bool, true, false, ◌<◌, ◌≤◌, ◌==◌, if◌then◌else◌, List, [], map, length, slice_index_or}
use Rattle.ff_stream.specs.declared.item.Item.{Item}
use Rattle.ff_stream.specs.declared.item.Lane.{Lane}
use Rattle.ff_stream.specs.Stream.{LiesBelow}
use Rattle.ff_stream.specs.Items.{with_item, Leads}
use Rattle.ff_stream.specs.Ports.{nothing}
use Rattle.ff_net.specs.declared.wires.Queue.{Queue}
use Rattle.ff_net.specs.declared.wires.Wires.{Wires}
use Rattle.ff_net.specs.Ways.{Flow, lane_at, IsValidOn}

-- what was sent on a wire, what was taken from it, and whether its receiver has finished
pub record Wire : Type 0 where
  pub sent : Flow
  pub taken : Flow
  pub finished : Bool

-- a wire on which nothing was done
abbrev pub fresh : Wire
fresh = record { sent = nothing; taken = nothing; finished = false }

-- what was sent is what was taken, followed by the content
pub record QueueStands (queue : Queue) (wire : Wire) : Type 0 where
  pub leads : Leads wire.taken queue.content.items wire.sent
  pub finished : queue.finished ≡ wire.finished

abbrev pub lanes_in : List Queue → List Lane
lanes_in queues = map (λ q. q.lane) queues

-- the lanes of the wires
abbrev pub lanes_of : Wires → List Lane
lanes_of wires = lanes_in wires.queues.items

-- how many items each wire takes
abbrev pub sizes_in : List Queue → List ℕ
sizes_in queues = map (λ q. q.size) queues

abbrev pub sizes_of : Wires → List ℕ
sizes_of wires = sizes_in wires.queues.items

pub record QueuesStand (queues : List Queue) (world : ℕ → Wire) : Type 0 where
  pub each : (w : ℕ) (d : Queue) → w < length queues → QueueStands (slice_index_or queues w d) (world w)
  pub ordered : (w : ℕ) → LiesBelow (world w).taken (world w).sent
  pub valid : (w : ℕ) → IsValidOn (lane_at (lanes_in queues) w) (world w).sent

-- the wires can be where they are after this was sent and taken
abbrev pub Stand : Wires → (ℕ → Wire) → Type 0
Stand wires world = QueuesStand wires.queues.items world

abbrev pub with_wire : (ℕ → Wire) → ℕ → Wire → ℕ → Wire
with_wire world w wire v = if v == w then wire else world v

abbrev pub put_on : (ℕ → Wire) → ℕ → Item → ℕ → Wire
put_on world w x = with_wire world w (record { sent = with_item (world w).sent x; taken = (world w).taken; finished = (world w).finished })

abbrev pub take_on : (ℕ → Wire) → ℕ → Item → ℕ → Wire
take_on world w x = with_wire world w (record { sent = (world w).sent; taken = with_item (world w).taken x; finished = (world w).finished })

abbrev pub finish_on : (ℕ → Wire) → ℕ → ℕ → Wire
finish_on world w = with_wire world w (record { sent = (world w).sent; taken = (world w).taken; finished = true })

-- the wire isn't finished, and has as many items as it takes, at least one
pub record IsFull (wires : Wires) (w : ℕ) : Type 0 where
  pub as_many : (d : Queue) → length (slice_index_or wires.queues.items w d).content.items ≡ (slice_index_or wires.queues.items w d).size
  pub some : (d : Queue) → 1 ≤ (slice_index_or wires.queues.items w d).size
  pub goes_on : (d : Queue) → (slice_index_or wires.queues.items w d).finished ≡ false

-- the wire isn't finished, and has fewer items than it takes
pub record HasRoom (wires : Wires) (w : ℕ) : Type 0 where
  pub fewer : (d : Queue) → length (slice_index_or wires.queues.items w d).content.items < (slice_index_or wires.queues.items w d).size
  pub goes_on : (d : Queue) → (slice_index_or wires.queues.items w d).finished ≡ false

abbrev pub IsEmpty : Wires → ℕ → Type 0
IsEmpty wires w = (d : Queue) → (slice_index_or wires.queues.items w d).content.items ≡ []

-- the receiver has finished
abbrev pub IsFinished : Wires → ℕ → Type 0
IsFinished wires w = (d : Queue) → (slice_index_or wires.queues.items w d).finished ≡ true
