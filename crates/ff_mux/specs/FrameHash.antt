-- The lines on a stream in a framehash file, and its columns (ffmpeg's framehash muxer, version 2).
use Rattle.std.specs.Prelude.{ℕ, ◌==◌, ◌&&◌, if◌then◌else◌, List, ◌++◌, codes, decimal}
use Rattle.ff_lists.specs.Text.{right, line}
use Rattle.ff_time.specs.Fraction.{Fraction}
use Rattle.ff_frame.specs.Codecs.{codec_name}
use Rattle.ff_frame.specs.declared.head.StreamHead.{StreamHead}
use Rattle.ff_frame.specs.declared.head.StreamHead.TheVariants.{Audio, Video}

abbrev pub layout_name : ℕ → List ℕ
layout_name channels =
    if channels == 1 then codes "mono"
    else if channels == 2 then codes "stereo"
    else decimal channels ++ codes " channels"

-- a time base as a text
abbrev pub base_name : Fraction → List ℕ
base_name base = decimal base.num ++ codes "/" ++ decimal base.den

-- columns and rows as a text
abbrev pub size_name : ℕ → ℕ → List ℕ
size_name width height = decimal width ++ codes "x" ++ decimal height

-- the aspect of a sample as a text, 0:0 as 0/1
abbrev pub aspect_name : ℕ → ℕ → List ℕ
aspect_name num den = if num == 0 && den == 0 then codes "0/1" else base_name (record { num = num; den = den })

-- the line that stream i has this value of a property
unfoldable pub about : List ℕ → ℕ → List ℕ → List ℕ
about property i value = line (codes "#" ++ property ++ codes " " ++ decimal i ++ codes ": " ++ value)

-- the lines on stream i
abbrev pub stream_lines : ℕ → StreamHead → List ℕ
stream_lines i (Audio tb rate bits channels codec) =
    about (codes "tb") i (base_name tb)
    ++ about (codes "media_type") i (codes "audio")
    ++ about (codes "codec_id") i (codec_name codec)
    ++ about (codes "sample_rate") i (decimal rate)
    ++ about (codes "channel_layout_name") i (layout_name channels)
stream_lines i (Video tb format width height sar_num sar_den) =
    about (codes "tb") i (base_name tb)
    ++ about (codes "media_type") i (codes "video")
    ++ about (codes "codec_id") i (codes "rawvideo")
    ++ about (codes "dimensions") i (size_name width height)
    ++ about (codes "sar") i (aspect_name sar_num sar_den)

-- the line after those on the streams, over the columns of the packets
unfoldable pub columns : List ℕ
columns = line (codes "#stream#, dts,        pts, duration,     size, hash")

-- a further column of a packet's line, with a text at its right
unfoldable pub column : ℕ → List ℕ → List ℕ
column width text = codes ", " ++ right width text
