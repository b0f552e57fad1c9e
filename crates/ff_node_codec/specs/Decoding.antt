-- Decoding, as what a part of a run means: the frame of each packet, up to the first that has none; and then cut.
use Rattle.std.specs.Prelude.{ℕ, Option, None, Some}
use Rattle.ff_frame.specs.declared.packet.Pkt.{Pkt}
use Rattle.ff_time.specs.declared.cut.TimeCut.{TimeCut}
use Rattle.ff_frame.specs.declared.head.StreamHead.{StreamHead}
use Rattle.ff_stream.specs.declared.item.Item.{Item}
use Rattle.ff_stream.specs.declared.item.Item.TheVariants.{Audio, Video, Packet, Trailer, End, Broken}
use Rattle.ff_stream.specs.Stream.{Mark, still_open, whole, broken}
use Rattle.ff_trim.specs.Cuts.{cut}
use Rattle.ff_net.specs.Ways.{Flow}
use Rattle.ff_net.specs.Pasts.{Task}
use Rattle.ff_node_codec.specs.Making.{Outcome, gives, passes, breaks, Making, damage_in, made_stream}
use Rattle.ff_node_codec.specs.Spreads.{spread_task}

-- a packet without a frame is damage at its place
abbrev pub frame_or_damage : Pkt → Option Item → Outcome
frame_or_damage packet (Some frame) = gives frame
frame_or_damage packet None = breaks packet.pos

-- a packet gives its frame; what stands behind the packets, about the whole stream, gives nothing
abbrev pub decoded_item : (Pkt → Option Item) → Item → Outcome
decoded_item made (Audio f) = passes
decoded_item made (Video f) = passes
decoded_item made (Packet p) = frame_or_damage p (made p)
decoded_item made (Trailer t) = passes
decoded_item made End = passes
decoded_item made Broken = passes

-- the frames of the packets before the first that has none: broken there, and else with the packets' mark
abbrev pub decoded : (Pkt → Option Item) → Flow → Flow
decoded made packets = made_stream (decoded_item made) packets

-- where what is left of a damaged stream is broken, it is so by the damage
abbrev pub if_broken : Mark → Option ℕ → Option ℕ
if_broken still_open d = None
if_broken whole d = None
if_broken broken d = d

-- the frames, cut; damage behind the end of the cut is none of it
abbrev pub cut_frames : StreamHead → (Pkt → Option Item) → TimeCut → Making
cut_frames head made c = record {
  stream = λ packets. cut head c (decoded made packets);
  damage = λ packets. if_broken (cut head c (decoded made packets)).mark (damage_in (decoded_item made) packets.items);
}

-- The frames of a stream of this head, cut, on each of so many outputs. The fault is the first packet that has none, where the cut
-- isn't over before it.
abbrev pub dec_task : StreamHead → (Pkt → Option Item) → TimeCut → ℕ → Task
dec_task head made c outputs = spread_task outputs (cut_frames head made c)
