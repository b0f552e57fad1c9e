-- What a muxer tells of an output stream, by the whole stream of packets that it was fed.
use Rattle.std.specs.Prelude.{◌≡◌, ℕ, ◌+◌, ◌<◌, ◌==◌, Bool, false, List, [], ◌∷◌, ◌++◌, filter, map, length}
use Rattle.ff_time.specs.Fraction.{Fraction}
use Rattle.ff_frame.specs.declared.packet.Pkt.{Pkt}
use Rattle.ff_frame.specs.declared.event.Event.{Event}
use Rattle.ff_frame.specs.declared.event.Event.TheVariants.{Grant, Sent, Finished, Best, Exited}
use Rattle.ff_frame.specs.declared.head.StreamHead.{StreamHead}
use Rattle.ff_stream.specs.declared.item.Lane.TheVariants.{Packets}
use Rattle.ff_stream.specs.Lanes.{IsValid}
use Rattle.ff_stream.specs.Ports.{IsClosed}
use Rattle.ff_node_mux.specs.merge.Merges.{packets_of}
use Rattle.ff_node_mux.specs.merge.Queues.{base_at}
use Rattle.ff_net.specs.Pasts.{Feed}
use Rattle.ff_net.specs.Ways.{Flow}
use Rattle.ff_node_mux.specs.laws.Feeding.{feeds_of, feeds_at}
use Rattle.ff_node_mux.specs.Telling.{micros_of, mux_tells}

-- that a packet was sent to the output stream of this number: when it is decoded, in microseconds
abbrev pub sent : ℕ → Fraction → Pkt → Event
sent stream base packet = Sent stream (micros_of base packet.dts)

-- the events of an output stream, the one of this number, of a stream of packets that has closed: each packet as it was sent, in
-- order, and then that the output stream has finished
abbrev pub stream_events : ℕ → Fraction → Flow → List Event
stream_events stream base s = map (sent stream base) (packets_of s.items) ++ Finished stream ∷ []

abbrev pub is_event_of : ℕ → Event → Bool
is_event_of stream (Grant k) = false
is_event_of stream (Sent j t) = j == stream
is_event_of stream (Finished j) = j == stream
is_event_of stream (Best g i) = false
is_event_of stream (Exited k) = false

-- among these events those of the output stream of this number
abbrev pub events_of : ℕ → List Event → List Event
events_of stream events = filter (is_event_of stream) events

-- of a valid stream that a muxer was fed to its end it has these to tell, whatever it was fed on its other inputs
abbrev pub ToldOfStreams : Type 0
ToldOfStreams = (first p : ℕ) (bases : List Fraction) (head : StreamHead) (s : Flow) (feeds : List Feed) → p < length bases
    → IsValid (Packets head) s → IsClosed s → feeds_at p feeds ≡ feeds_of p s
    → events_of (first + p) (mux_tells first bases feeds) ≡ stream_events (first + p) (base_at bases p) s

-- with one input these are all its events
abbrev pub ToldOfOne : Type 0
ToldOfOne = (first : ℕ) (base : Fraction) (feeds : List Feed)
    → events_of first (mux_tells first (base ∷ []) feeds) ≡ mux_tells first (base ∷ []) feeds
