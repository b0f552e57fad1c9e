-- Items that a codec takes.
use Rattle.ff_frame.specs.declared.packet.Pkt.{Pkt}
use Rattle.ff_stream.specs.declared.item.Item.{Item}
use Rattle.ff_stream.specs.declared.item.Item.TheVariants.{Audio, Video, Packet, Trailer, End, Broken}

-- of a packet, that it is taken; nothing of other items
abbrev pub IsTakenPacket : (Pkt → Type 0) → Item → Type 0
IsTakenPacket takes (Audio f) = Unit {0}
IsTakenPacket takes (Video f) = Unit {0}
IsTakenPacket takes (Packet p) = takes p
IsTakenPacket takes (Trailer t) = Unit {0}
IsTakenPacket takes End = Unit {0}
IsTakenPacket takes Broken = Unit {0}

-- of an item that doesn't close a stream, that it is taken
abbrev pub IsTakenFrame : (Item → Type 0) → Item → Type 0
IsTakenFrame takes (Audio f) = takes (Audio f)
IsTakenFrame takes (Video f) = takes (Video f)
IsTakenFrame takes (Packet p) = takes (Packet p)
IsTakenFrame takes (Trailer t) = takes (Trailer t)
IsTakenFrame takes End = Unit {0}
IsTakenFrame takes Broken = Unit {0}
