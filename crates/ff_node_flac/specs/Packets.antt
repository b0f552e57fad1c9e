-- The packets that blocks of sound are coded in (RFC 9639, section 9), and what is told of them once all were coded.
use Rattle.std.specs.Prelude.{ℕ, zero, suc, take, drop, ◌+◌, ◌/◌, pos, ◌&&◌, nat_le, if◌then◌else◌, Bool, true, false, List, [], ◌∷◌, ◌++◌, length, Option, None, Some}
use Rattle.ff_bits.specs.Bits.{value_of}
use Rattle.ff_frame.specs.declared.audio.AFrame.{AFrame}
use Rattle.ff_frame.specs.declared.packet.Pkt.{Pkt}
use Rattle.ff_frame.specs.Packet.{packet_at}
use Rattle.ff_stream.specs.declared.item.Item.{Item}
use Rattle.ff_stream.specs.declared.item.Item.TheVariants.{Packet, Trailer}
use Rattle.ff_pcm.specs.Depth.{at_depth}
use Rattle.ff_flac_subframe.specs.rice.Least.{least}
use Rattle.ff_flac_enc.specs.Layout.{Layout}
use Rattle.ff_flac_enc.specs.Frame.{candidates, subframe_bits_of, spelled}
use Rattle.ff_flac_enc.specs.Totals.{Added, added, sample_frames, totals_of}

-- sound of 4 to 24 bits keeps its depth, and other sound is coded at 24
abbrev pub coded_bits : ℕ → ℕ
coded_bits bits = if nat_le 4 bits && nat_le bits 24 then bits else 24

-- a frame of sound at the depth that is coded
abbrev pub at_coded : AFrame → AFrame
at_coded f = at_depth (coded_bits f.bits) f

-- so many bytes of bits
unfoldable pub octets : ℕ → List Bool → List ℕ
octets zero bits = []
octets (suc count) bits = value_of (take 8 bits) ∷ octets count (drop 8 bits)

-- the bytes of whole bytes' bits
abbrev pub whole_bytes : List Bool → List ℕ
whole_bytes bits = octets (length bits / 8) bits

abbrev pub spelled_bytes : AFrame → ℕ → Option Layout → List ℕ
spelled_bytes a number None = []
spelled_bytes a number (Some y) = whole_bytes (spelled a number y)

-- the bytes of a block with this number: the first of the shortest ways to write it
unfoldable pub block_bytes : AFrame → ℕ → List ℕ
block_bytes a number = spelled_bytes a number (least (subframe_bits_of a) (candidates a))

-- its packet: the block's time, its number of sample frames, and its bytes
abbrev pub packet_of : AFrame → ℕ → Pkt
packet_of a number = packet_at a.pts (pos (sample_frames a)) 0 (block_bytes a number)

-- the packets of blocks, numbered from the first one's number on
abbrev pub packets_from : ℕ → List AFrame → List Item
packets_from number [] = []
packets_from number (b ∷ bs) = Packet (packet_of b number) ∷ packets_from (number + 1) bs

-- the blocks, and how many bytes each was coded in
abbrev pub added_from : ℕ → List AFrame → List Added
added_from number [] = []
added_from number (b ∷ bs) = added b (length (block_bytes b number)) ∷ added_from (number + 1) bs

-- the totals of all blocks, where all came
abbrev pub trailer_of : Bool → List AFrame → List Item
trailer_of true blocks = Trailer (totals_of (added_from 0 blocks)) ∷ []
trailer_of false blocks = []

-- the packets of blocks, and the totals behind them where all came
abbrev pub items_of : Bool → List AFrame → List Item
items_of ended blocks = packets_from 0 blocks ++ trailer_of ended blocks
