-- What the data needs to know of the streams of a head.
use Rattle.std.specs.Prelude.{ℕ, ◌==◌, nat_lt, if◌then◌else◌, List, Option, Some, None}
use Rattle.std.specs.List.{list_any}
use Rattle.ff_frame.specs.Video.{frame_size}
use Rattle.ff_frame.specs.declared.head.StreamHead.{StreamHead}
use Rattle.ff_frame.specs.declared.head.StreamHead.TheVariants.{Audio, Video}
use Rattle.ff_pcm.specs.body.Packets.{block_of}
use Rattle.ff_avi.specs.declared.head.AviHead.{AviHead}
use Rattle.ff_avi.specs.declared.lane.Lane.{Lane}
use Rattle.ff_avi.specs.declared.lane.Lanes.{Lanes}

-- the bytes of a picture; of sound 0, as `block_of` of pictures is
abbrev pub picture_size : StreamHead → ℕ
picture_size (Audio base speed bits channels codec) = 0
picture_size (Video base format width height sar_num sar_den) = frame_size format width height

abbrev pub size_of : (StreamHead → ℕ) → Option StreamHead → ℕ
size_of size None = 0
size_of size (Some stream) = size stream

-- the first of two streams that has a size, and whether its number is among those used
abbrev pub lane_with : ℕ → ℕ → List ℕ → Lane
lane_with first second used =
    if nat_lt 0 first then record { stream = 0; size = first; is_used = list_any (λ k. k == 0) used }
    else record { stream = 1; size = second; is_used = list_any (λ k. k == 1) used }

abbrev pub lane_in : (StreamHead → ℕ) → AviHead → List ℕ → Lane
lane_in size head used = lane_with (size head.first) (size_of size head.second) used

-- the lanes of a head of which the streams of these numbers are used
abbrev pub lanes_of : AviHead → List ℕ → Lanes
lanes_of head used = record { pictures = lane_in picture_size head used; sound = lane_in block_of head used }
