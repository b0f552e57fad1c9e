-- A stream of packets of one byte each, and senders that send it.
use Rattle.std.specs.Prelude.{◌≡◌, ◌≤◌, ◌^◌, true, ℕ, zero, suc, ◌%◌, pos, List, [], ◌∷◌, ◌++◌}
use Rattle.ff_time.specs.Fraction.{Fraction}
use Rattle.ff_frame.specs.declared.head.Codec.TheVariants.{PcmU8}
use Rattle.ff_frame.specs.declared.head.StreamHead.TheVariants.{Audio}
use Rattle.ff_stream.specs.declared.item.Item.{Item}
use Rattle.ff_stream.specs.declared.item.Item.TheVariants.{Packet}
use Rattle.ff_stream.specs.declared.item.Lane.{Lane}
use Rattle.ff_stream.specs.declared.item.Lane.TheVariants.{Packets}
use Rattle.ff_frame.specs.Packet.{packet_at}
use Rattle.ff_link.specs.laws.Views.{Sending}

-- one second over a whole number
pub record IsWhole (tb : Fraction) : Type 0 where
  pub one : tb.num ≡ 1
  pub some : 1 ≤ tb.den

abbrev pub byte_lane : Fraction → Lane
byte_lane tb = Packets (Audio tb 8000 8 1 PcmU8)

-- the packet at this place
abbrev pub byte_packet : ℕ → Item
byte_packet n = Packet (packet_at (pos n) (pos 1) 0 (n % 256 ∷ []))

-- the first so many packets
abbrev pub byte_packets : ℕ → List Item
byte_packets zero = []
byte_packets (suc n) = byte_packets n ++ byte_packet n ∷ []

-- the sender of such a lane, after so many of its packets
pub record Sent (n : ℕ) (s : Sending) : Type 0 where
  pub tb : Fraction
  pub whole : IsWhole tb
  pub claims : s.link.claims ≡ true
  pub lane : s.lane ≡ byte_lane tb
  pub packets : s.sent ≡ byte_packets n

-- it may still go on
pub record IsGoing (s : Sending) : Type 0 where
  pub count : ℕ
  pub few : count ≤ 2 ^ 20
  pub after : Sent count s
