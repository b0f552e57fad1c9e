-- Raw video: a packet is the planes of one frame.
use Rattle.std.specs.Prelude.{◌≡◌, List, ℕ}
use Rattle.ff_frame.specs.Frame.{video_frame}
use Rattle.ff_frame.specs.Video.{IsVideo}
use Rattle.ff_frame.specs.declared.head.StreamHead.{StreamHead}
use Rattle.ff_frame.specs.declared.head.StreamHead.TheVariants.{Audio, Video}
use Rattle.ff_frame.specs.declared.packet.Pkt.{Pkt}
use Rattle.ff_frame.specs.declared.video.VFrame.{VFrame}

-- the head is of video, and these bytes are the planes of one frame of it
abbrev pub HasFrame : StreamHead → List ℕ → Type 0
HasFrame (Audio tb rate bits channels codec) bytes = ⊥
HasFrame (Video tb format width height sar_num sar_den) bytes = IsVideo format width height bytes

-- the frame of a packet: its times, and its bytes as planes
abbrev pub IsFrameIn : StreamHead → Pkt → VFrame → Type 0
IsFrameIn (Audio tb rate bits channels codec) packet frame = ⊥
IsFrameIn (Video tb format width height sar_num sar_den) packet frame = frame ≡ video_frame packet.pts packet.duration format width height packet.bytes
