-- When a stream is valid for the way that carries it.
use Rattle.std.specs.Prelude.{◌≡◌, ◌^◌, ◌≤◌, pos, ◌<ℤ◌, ◌≤ℤ◌, List, [], ◌∷◌, length, All}
use Rattle.ff_time.specs.Fraction.{Fraction}
use Rattle.ff_frame.specs.declared.head.StreamHead.{StreamHead}
use Rattle.ff_frame.specs.declared.head.StreamHead.TheVariants.{Audio as AudioHead, Video as VideoHead}
use Rattle.ff_frame.specs.Heads.{base_of_head, IsFrameOf, IsPictureOf}
use Rattle.ff_frame.specs.Codecs.{IsFlacCodec, IsSoundPacket}
use Rattle.ff_frame.specs.Video.{frame_size}
use Rattle.ff_stream.specs.declared.item.Item.{Item}
use Rattle.ff_stream.specs.declared.item.Item.TheVariants.{Audio, Video, Packet, Trailer, End, Broken}
use Rattle.ff_stream.specs.declared.item.Lane.{Lane}
use Rattle.ff_stream.specs.declared.item.Lane.TheVariants.{Frames, Packets}
use Rattle.ff_stream.specs.Stream.{Stream}
use Rattle.ff_stream.specs.Times.{HasTime, start_of, end_of, ticks, IsInTime}

abbrev pub head_of : Lane → StreamHead
head_of (Frames head) = head
head_of (Packets head) = head

-- the time base of a way's times
abbrev pub base_of : Lane → Fraction
base_of lane = base_of_head (head_of lane)

abbrev pub FitsFrames : StreamHead → Item → Type 0
FitsFrames (AudioHead tb rate bits channels codec) (Audio f) = IsFrameOf rate bits channels f
FitsFrames (AudioHead tb rate bits channels codec) (Video f) = ⊥
FitsFrames (AudioHead tb rate bits channels codec) (Packet p) = ⊥
FitsFrames (AudioHead tb rate bits channels codec) (Trailer t) = ⊥
FitsFrames (AudioHead tb rate bits channels codec) End = ⊥
FitsFrames (AudioHead tb rate bits channels codec) Broken = ⊥
FitsFrames (VideoHead tb format width height sar_num sar_den) (Audio f) = ⊥
FitsFrames (VideoHead tb format width height sar_num sar_den) (Video f) = IsPictureOf format width height f
FitsFrames (VideoHead tb format width height sar_num sar_den) (Packet p) = ⊥
FitsFrames (VideoHead tb format width height sar_num sar_den) (Trailer t) = ⊥
FitsFrames (VideoHead tb format width height sar_num sar_den) End = ⊥
FitsFrames (VideoHead tb format width height sar_num sar_den) Broken = ⊥

-- a packet of raw video holds the planes of one frame; only FLAC's packets have a trailer behind them
abbrev pub FitsPackets : StreamHead → Item → Type 0
FitsPackets (AudioHead tb rate bits channels codec) (Audio f) = ⊥
FitsPackets (AudioHead tb rate bits channels codec) (Video f) = ⊥
FitsPackets (AudioHead tb rate bits channels codec) (Packet p) = (p.dts ≡ p.pts) × IsSoundPacket codec channels p
FitsPackets (AudioHead tb rate bits channels codec) (Trailer t) = IsFlacCodec codec
FitsPackets (AudioHead tb rate bits channels codec) End = ⊥
FitsPackets (AudioHead tb rate bits channels codec) Broken = ⊥
FitsPackets (VideoHead tb format width height sar_num sar_den) (Audio f) = ⊥
FitsPackets (VideoHead tb format width height sar_num sar_den) (Video f) = ⊥
FitsPackets (VideoHead tb format width height sar_num sar_den) (Packet p) = (p.dts ≡ p.pts) × (length p.bytes ≡ frame_size format width height)
FitsPackets (VideoHead tb format width height sar_num sar_den) (Trailer t) = ⊥
FitsPackets (VideoHead tb format width height sar_num sar_den) End = ⊥
FitsPackets (VideoHead tb format width height sar_num sar_den) Broken = ⊥

-- the way carries this item; an item that closes a stream is none of its items
abbrev pub FitsLane : Lane → Item → Type 0
FitsLane (Frames head) x = FitsFrames head x
FitsLane (Packets head) x = FitsPackets head x

-- of sound, an item starts at or after the end of the one before; pictures may overlap
abbrev pub StartsAfter : StreamHead → Item → Item → Type 0
StartsAfter (AudioHead tb rate bits channels codec) before after = end_of before ≤ℤ start_of after
StartsAfter (VideoHead tb format width height sar_num sar_den) before after = Unit {0}

-- one item behind another: nothing stands behind a trailer, which has no time itself; else starts rise, and ends never fall
pub record Follows (lane : Lane) (before after : Item) : Type 0 where
  pub timed : HasTime before
  pub starts : HasTime after → start_of before <ℤ start_of after
  pub ends : HasTime after → end_of before ≤ℤ end_of after
  pub apart : HasTime after → StartsAfter (head_of lane) before after

-- each item follows the one before
abbrev pub InOrder : Lane → List Item → Type 0
InOrder lane [] = Unit {0}
InOrder lane (x ∷ []) = Unit {0}
InOrder lane (x ∷ y ∷ xs) = Follows lane x y × InOrder lane (y ∷ xs)

-- an item by itself: it fits the way, its time isn't negative, and it ends after its start, where it has a time
pub record IsItemFor (lane : Lane) (x : Item) : Type 0 where
  pub fits : FitsLane lane x
  pub not_negative : pos 0 ≤ℤ start_of x
  pub lasts : HasTime x → start_of x <ℤ end_of x

-- items as a way carries them, however many and however long
pub record AreInShape (lane : Lane) (xs : List Item) : Type 0 where
  pub each : All (IsItemFor lane) xs
  pub in_order : InOrder lane xs

-- the end of this item is at most 1,000,000,000 seconds
abbrev pub EndsInTime : Lane → Item → Type 0
EndsInTime lane x = IsInTime (base_of lane) (ticks (end_of x))

-- valid: the items are as the way carries them, at most 2^40, and all end in time
pub record IsValid (lane : Lane) (s : Stream Item) : Type 0 where
  pub shape : AreInShape lane s.items
  pub few : length s.items ≤ 2 ^ 40
  pub in_time : All (EndsInTime lane) s.items
