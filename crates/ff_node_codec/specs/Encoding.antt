-- Encoding, as what a part of a run means: the packet of each frame.
use Rattle.std.specs.Prelude.{[], ◌∷◌, List, Option, None, Some, false}
use Rattle.ff_frame.specs.declared.packet.Pkt.{Pkt}
use Rattle.ff_stream.specs.declared.item.Item.{Item}
use Rattle.ff_stream.specs.declared.item.Item.TheVariants.{Packet}
use Rattle.ff_stream.specs.Ports.{stream_at}
use Rattle.ff_net.specs.declared.fault.Fault.{Fault}
use Rattle.ff_net.specs.Ways.{Flow}
use Rattle.ff_net.specs.Pasts.{Task, no_events}
use Rattle.ff_node_codec.specs.Making.{Outcome, gives, passes, made_stream}

abbrev pub packet_or_nothing : Option Pkt → Outcome
packet_or_nothing (Some packet) = gives (Packet packet)
packet_or_nothing None = passes

-- each frame of the lane has a packet; what has none gives nothing
abbrev pub encoded_item : (Item → Option Pkt) → Item → Outcome
encoded_item made x = packet_or_nothing (made x)

-- a packet of each frame, with the frames' mark
abbrev pub encoded : (Item → Option Pkt) → Flow → Flow
encoded made frames = made_stream (encoded_item made) frames

abbrev pub no_cause : List Flow → Option Fault
no_cause ss = None

-- no source, and no fault of its own
abbrev pub enc_task : (Item → Option Pkt) → Task
enc_task made = record { means = λ ss. encoded made (stream_at ss 0) ∷ []; cause = no_cause; source = None; tells = no_events }
