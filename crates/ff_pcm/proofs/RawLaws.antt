-- Raw video and back.
use Rattle.std.proofs.Common.{◌≡◌, ap}
use Rattle.ff_frame.specs.declared.head.StreamHead.{StreamHead}
use Rattle.ff_frame.specs.declared.head.StreamHead.TheVariants.{Audio, Video}
use Rattle.ff_frame.specs.declared.packet.Pkt.{Pkt}
use Rattle.ff_frame.specs.declared.video.VFrame.{VFrame}
use Rattle.ff_pcm.specs.laws.Raw.{IsFrameIn}

pub planes_back : (head : StreamHead) (packet : Pkt) (frame : VFrame) → IsFrameIn head packet frame → frame.planes ≡ packet.bytes
planes_back (Audio tb rate bits channels codec) packet frame h = absurd h
planes_back (Video tb format width height sar_num sar_den) packet frame h = ap (λ (f : VFrame). f.planes) h
