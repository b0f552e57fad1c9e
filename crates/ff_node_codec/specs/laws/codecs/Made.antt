-- What codecs owe to whoever runs them.
use Rattle.std.specs.Prelude.{◌≡◌, Option, IfSome, IsSomeAnd}
use Rattle.ff_frame.specs.declared.packet.Pkt.{Pkt}
use Rattle.ff_frame.specs.declared.head.StreamHead.{StreamHead}
use Rattle.ff_stream.specs.declared.item.Item.{Item}
use Rattle.ff_stream.specs.declared.item.Item.TheVariants.{Packet}
use Rattle.ff_stream.specs.declared.item.Lane.{Lane}
use Rattle.ff_stream.specs.declared.item.Lane.TheVariants.{Frames, Packets}
use Rattle.ff_frame.specs.Heads.{base_of_head}
use Rattle.ff_stream.specs.Lanes.{FitsLane, StartsAfter}
use Rattle.ff_stream.specs.Times.{HasTime, start_of, end_of}

-- an item that was made of another fits its lane, and starts and ends when that does
pub record IsMadeOf (lane : Lane) (before after : Item) : Type 0 where
  pub fits : FitsLane lane after
  pub timed : HasTime after
  pub starts : start_of after ≡ start_of before
  pub ends : end_of after ≡ end_of before

-- a packet of the lane is taken, and so is its frame, if it has one
pub record IsDecoded (head : StreamHead) (packet : Pkt) (Taken : Type 0) (frame : Option Item) : Type 0 where
  pub taken : Taken
  pub made : IfSome frame (IsMadeOf (Frames head) (Packet packet))

-- a frame of the lane is taken, and has a packet
pub record IsEncoded (head : StreamHead) (frame : Item) (Taken : Type 0) (packet : Option Pkt) : Type 0 where
  pub taken : Taken
  pub made : IsSomeAnd packet (λ p. IsMadeOf (Packets head) frame (Packet p))

-- the times of a stream of one head are those of a stream of another: they have one time base, and what starts after
-- something in the one does in the other
pub record HasSameTimes (before after : StreamHead) : Type 0 where
  pub base : base_of_head after ≡ base_of_head before
  pub apart : (x y : Item) → StartsAfter before x y → StartsAfter after x y
