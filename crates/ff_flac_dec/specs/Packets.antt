-- The frames behind the head, one after the other (RFC 9639, section 9).
use Rattle.std.specs.Prelude.{ℕ, zero, suc, ◌+◌, ◌-◌, ◌/◌, if◌then◌else◌, pos, List, [], ◌∷◌, take, length, Option, Some, None}
use Rattle.ff_bits.specs.Bits.{bits}
use Rattle.ff_bits.specs.Reading.{Answer, Done, More, Bad}
use Rattle.ff_frame.specs.Packet.{packet_at}
use Rattle.ff_frame.specs.declared.packet.Pkt.{Pkt}
use Rattle.ff_flac_frame.specs.declared.stream.FlacStream.{FlacStream}
use Rattle.ff_flac_frame.specs.Frame.{Frame, frame}
use Rattle.ff_flac_dec.specs.declared.front.Front.{Front}
use Rattle.ff_flac_dec.specs.declared.front.Front.TheVariants.{Wait, Other, Whole}
use Rattle.ff_flac_dec.specs.declared.head.FlacHead.{FlacHead}
use Rattle.ff_flac_dec.specs.Streams.{stream_of}
use Rattle.ff_flac_dec.specs.Trailers.{are_tags}

-- of so many bytes, a frame with what it leaves; or some bytes more make one, or none do
abbrev pub front_as : ℕ → Answer Frame → Front
front_as count (Done f rest) = Whole (count - length rest / 8) f.header.block
front_as count More = Wait
front_as count Bad = Other

-- what some bytes begin with
unfoldable pub unit : FlacStream → List ℕ → Front
unit s bs = front_as (length bs) (frame s (bits bs))

-- The packets of frames one behind the other: so many bytes are passed over, and then a frame begins, with this sample frame.
abbrev pub packets_from : FlacStream → ℕ → ℕ → ℕ → List ℕ → List Pkt
packets_from s skip at first [] = []
packets_from s (suc skip) at first (b ∷ bs) = packets_from s skip (at + 1) first bs
packets_from s zero at first (b ∷ bs) =
    elim (unit s (b ∷ bs)) [ Wait ↦ [] | Other ↦ [] | Whole len block ↦ packet_at (pos first) (pos block) at (take len (b ∷ bs)) ∷ packets_from s (len - 1) (at + 1) (first + block) bs ]

-- the offset at which no frame begins, or one begins that is not whole; None where the last frame ends with the input, or tags alone are
-- behind it
abbrev pub broken_from : FlacStream → ℕ → ℕ → List ℕ → Option ℕ
broken_from s skip at [] = None
broken_from s (suc skip) at (b ∷ bs) = broken_from s skip (at + 1) bs
broken_from s zero at (b ∷ bs) =
    elim (unit s (b ∷ bs)) [ Wait ↦ Some at | Other ↦ if are_tags (b ∷ bs) then None else Some at | Whole len block ↦ broken_from s (len - 1) (at + 1) bs ]

-- the packets in what follows the head, and where no further frame begins
abbrev pub demuxed : FlacHead → List ℕ → List Pkt
demuxed head rest = packets_from (stream_of head.head) 0 head.start 0 rest

abbrev pub broken_at : FlacHead → List ℕ → Option ℕ
broken_at head rest = broken_from (stream_of head.head) 0 head.start rest
