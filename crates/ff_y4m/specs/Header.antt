-- What is written: a line of parameters, and frames each with a line of its own (yuv4mpeg(5)).
use Rattle.std.specs.Prelude.{ℕ, List, [], ◌++◌, map, codes, decimal}
use Rattle.std.specs.List.{flat_map}
use Rattle.ff_frame.specs.declared.packet.Pkt.{Pkt}
use Rattle.ff_frame.specs.declared.video.Format.{Format}
use Rattle.ff_frame.specs.declared.video.Format.TheVariants.{C420, C422, C444, Mono}
use Rattle.ff_frame.specs.declared.head.StreamHead.{StreamHead}
use Rattle.ff_frame.specs.declared.head.StreamHead.TheVariants.{Audio, Video}

abbrev pub IsVideoHead : StreamHead → Type 0
IsVideoHead (Audio tb rate bits channels codec) = ⊥
IsVideoHead (Video tb format width height sar_num sar_den) = Unit {0}

-- the name of a format; that of 4:2:0 says where the samples of colour lie, too
abbrev pub format_name : Format → List ℕ
format_name C420 = codes "420jpeg"
format_name C422 = codes "422"
format_name C444 = codes "444"
format_name Mono = codes "mono"

-- the sides of a picture
unfoldable pub sides : ℕ → ℕ → List ℕ
sides width height = codes "YUV4MPEG2 W" ++ decimal width ++ codes " H" ++ decimal height

-- two numbers behind a letter
unfoldable pub ratio : List ℕ → ℕ → ℕ → List ℕ
ratio letter num den = letter ++ decimal num ++ codes ":" ++ decimal den

-- the first line: frames a second, which is the time base turned over, no fields but frames, and the aspect as it is held
abbrev pub header : StreamHead → List ℕ
header (Audio tb rate bits channels codec) = []
header (Video tb format width height sar_num sar_den) =
    sides width height ++ ratio (codes " F") tb.den tb.num ++ ratio (codes " Ip A") sar_num sar_den ++ codes " C" ++ format_name format ++ codes "\n"

-- the line of a frame
abbrev pub frame_line : List ℕ
frame_line = codes "FRAME\n"

-- the frames of some packets
abbrev pub frames : List Pkt → List ℕ
frames packets = flat_map (λ (p : Pkt). frame_line ++ p.bytes) packets

-- the file of some packets
abbrev pub written : StreamHead → List Pkt → List ℕ
written head packets = header head ++ frames packets

-- the planes of packets
abbrev pub planes_of : List Pkt → List (List ℕ)
planes_of packets = map (λ (p : Pkt). p.bytes) packets
