-- What encoding makes of what a lane of frames carries.
use Rattle.std.specs.Prelude.{◌≡◌, List, [], ◌∷◌, Option, None, Some, IsSomeAnd, refl}
use Rattle.ff_frame.specs.declared.packet.Pkt.{Pkt}
use Rattle.ff_frame.specs.declared.head.StreamHead.{StreamHead}
use Rattle.ff_frame.specs.declared.head.StreamHead.TheVariants.{Audio as AudioHead, Video as VideoHead}
use Rattle.ff_stream.specs.declared.item.Item.{Item}
use Rattle.ff_stream.specs.declared.item.Item.TheVariants.{Audio, Video, Packet, Trailer, End, Broken}
use Rattle.ff_stream.specs.declared.item.Lane.TheVariants.{Frames, Packets}
use Rattle.ff_stream.specs.Items.{Closes}
use Rattle.ff_stream.specs.Lanes.{FitsFrames}
use Rattle.ff_stream.specs.Times.{HasTime}
use Rattle.ff_node_codec.specs.laws.codecs.Made.{HasSameTimes, IsMadeOf, IsEncoded}
use Rattle.ff_node_codec.specs.Encoding.{packet_or_nothing, encoded_item}
use Rattle.ff_node_codec.specs.Making.{or_damage, damage_in}
use Rattle.ff_node_codec.specs.Spreads.{IsOutcomeOf, Carries}
use Rattle.ff_node_codec.specs.laws.Taken.{IsTakenFrame}

-- a frame has a time
frame_timed : (head : StreamHead) (x : Item) → FitsFrames head x → HasTime x
frame_timed head (Audio f) t = tt
frame_timed head (Video f) t = tt
frame_timed head (Packet p) t = tt
frame_timed (AudioHead tb rate bits channels codec) (Trailer x) t = t
frame_timed (VideoHead tb format width height sar_num sar_den) (Trailer x) t = t
frame_timed (AudioHead tb rate bits channels codec) End t = t
frame_timed (VideoHead tb format width height sar_num sar_den) End t = t
frame_timed (AudioHead tb rate bits channels codec) Broken t = t
frame_timed (VideoHead tb format width height sar_num sar_den) Broken t = t

module _ (head coded : StreamHead) (takes : Item → Type 0) (made : Item → Option Pkt) (times : HasSameTimes head coded)
    (law : (x : Item) → FitsFrames head x → IsEncoded coded x (takes x) (made x)) where
  by_packet : (x : Item) (p : Option Pkt) → HasTime x → IsSomeAnd p (λ q. IsMadeOf (Packets coded) x (Packet q))
      → IsOutcomeOf (Packets coded) x (packet_or_nothing p)
  by_packet x (Some p) t m = (m, t)
  by_packet x None t m = absurd m

  -- encoding takes a lane of frames to the lane of their packets
  pub encoding_carries : Carries (Frames head) (Packets coded) (encoded_item made)
  encoding_carries = record {
    base = times.base;
    apart = times.apart;
    made = λ x t. by_packet x (made x) (frame_timed head x t) (law x t).made;
  }

  -- what the lane carries is taken
  pub taken_frame : (x : Item) → ((Closes x → ⊥) → FitsFrames head x) → IsTakenFrame takes x
  taken_frame (Audio f) fits = (law (Audio f) (fits (λ c. c))).taken
  taken_frame (Video f) fits = (law (Video f) (fits (λ c. c))).taken
  taken_frame (Packet p) fits = (law (Packet p) (fits (λ c. c))).taken
  taken_frame (Trailer t) fits = (law (Trailer t) (fits (λ c. c))).taken
  taken_frame End fits = tt
  taken_frame Broken fits = tt

-- encoding breaks nothing off
pub no_damage : (made : Item → Option Pkt) (xs : List Item) → damage_in (encoded_item made) xs ≡ None
no_damage made [] = refl
no_damage made (x ∷ xs) = by (made x) (no_damage made xs)
  where
    by : (p : Option Pkt) → damage_in (encoded_item made) xs ≡ None → or_damage (packet_or_nothing p) (damage_in (encoded_item made) xs) ≡ None
    by (Some p) e = e
    by None e = e
