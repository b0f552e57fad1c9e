-- How many bytes are written of a valid stream of linear PCM: a way carries at most 2^40 packets, each of at most 65,535 blocks of at
-- most 32 bytes. So a format whose packets are written as they stand needs no limit below that.
use Rattle.std.specs.Prelude.{◌≡◌, ℕ, ◌^◌, ◌<◌, true, [], ◌∷◌, None}
use Rattle.ff_format.specs.Layouts.{Layout, fits}
use Rattle.ff_frame.specs.Heads.{base_of_head, IsHead, IsPcmCoded}
use Rattle.ff_frame.specs.declared.head.StreamHead.{StreamHead}
use Rattle.ff_frame.specs.declared.packet.Pkt.{Pkt}
use Rattle.ff_net.specs.Ways.{Flow}
use Rattle.ff_stream.specs.Lanes.{IsValid}
use Rattle.ff_stream.specs.declared.item.Lane.TheVariants.{Packets}
use Rattle.ff_node_mux.specs.Muxing.{mixed, mux_cause, size_for}

-- the format writes packets as they stand
abbrev pub WritesBodies : Layout → Type 0
WritesBodies layout = (stream : ℕ) (packet : Pkt) → layout.text stream packet ≡ packet.bytes

-- They are fewer than 2^62 bytes,
abbrev pub PcmIsShort : Type 0
PcmIsShort = (layout : Layout) (head : StreamHead) (s : Flow) → WritesBodies layout → IsPcmCoded head → IsHead head → IsValid (Packets head) s
    → size_for layout (mixed (base_of_head head ∷ []) (s ∷ [])) < 2 ^ 62

-- and a format that holds so many is never too small for them.
abbrev pub PcmFits : Type 0
PcmFits = (layout : Layout) (head : StreamHead) (s : Flow) → WritesBodies layout → IsPcmCoded head → IsHead head → IsValid (Packets head) s
    → fits layout.longest (2 ^ 62) ≡ true → mux_cause layout (base_of_head head ∷ []) (s ∷ []) ≡ None
