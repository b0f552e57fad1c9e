-- What decoding makes of what a lane of packets carries.
use Rattle.std.specs.Prelude.{Option, None, Some, IfSome, refl}
use Rattle.ff_frame.specs.declared.packet.Pkt.{Pkt}
use Rattle.ff_frame.specs.declared.head.StreamHead.{StreamHead}
use Rattle.ff_frame.specs.declared.head.StreamHead.TheVariants.{Audio as AudioHead, Video as VideoHead}
use Rattle.ff_stream.specs.declared.item.Item.{Item}
use Rattle.ff_stream.specs.declared.item.Item.TheVariants.{Audio, Video, Packet, Trailer, End, Broken}
use Rattle.ff_stream.specs.declared.item.Lane.TheVariants.{Frames, Packets}
use Rattle.ff_stream.specs.Items.{Closes}
use Rattle.ff_stream.specs.Lanes.{FitsPackets}
use Rattle.ff_node_codec.specs.laws.codecs.Made.{IsMadeOf, IsDecoded}
use Rattle.ff_node_codec.specs.Decoding.{frame_or_damage, decoded_item}
use Rattle.ff_node_codec.specs.Spreads.{IsOutcomeOf, Carries}
use Rattle.ff_node_codec.specs.laws.Taken.{IsTakenPacket}

module _ (head : StreamHead) (takes : Pkt → Type 0) (made : Pkt → Option Item)
    (law : (p : Pkt) → FitsPackets head (Packet p) → IsDecoded head p (takes p) (made p)) where
  by_frame : (p : Pkt) (x : Option Item) → IfSome x (IsMadeOf (Frames head) (Packet p)) → IsOutcomeOf (Frames head) (Packet p) (frame_or_damage p x)
  by_frame p (Some x) m = (m, tt)
  by_frame p None m = tt

  outcome : (x : Item) → FitsPackets head x → IsOutcomeOf (Frames head) x (decoded_item made x)
  outcome (Audio f) t = λ h. no_sound head t
    where
      no_sound : (h : StreamHead) → FitsPackets h (Audio f) → ⊥
      no_sound (AudioHead tb rate bits channels codec) e = e
      no_sound (VideoHead tb format width height sar_num sar_den) e = e
  outcome (Video f) t = λ h. no_picture head t
    where
      no_picture : (h : StreamHead) → FitsPackets h (Video f) → ⊥
      no_picture (AudioHead tb rate bits channels codec) e = e
      no_picture (VideoHead tb format width height sar_num sar_den) e = e
  outcome (Packet p) t = by_frame p (made p) (law p t).made
  outcome (Trailer x) t = λ h. h
  outcome End t = λ h. h
  outcome Broken t = λ h. h

  -- decoding takes a lane of packets to the lane of their frames
  pub decoding_carries : Carries (Packets head) (Frames head) (decoded_item made)
  decoding_carries = record { base = refl; apart = λ x y a. a; made = outcome }

  -- what the lane carries is taken
  pub taken_packet : (x : Item) → ((Closes x → ⊥) → FitsPackets head x) → IsTakenPacket takes x
  taken_packet (Audio f) fits = tt
  taken_packet (Video f) fits = tt
  taken_packet (Packet p) fits = (law p (fits (λ c. c))).taken
  taken_packet (Trailer t) fits = tt
  taken_packet End fits = tt
  taken_packet Broken fits = tt
