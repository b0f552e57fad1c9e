-- What is read of a file that was written (yuv4mpeg(5)).
use Rattle.std.specs.Prelude.{◌≡◌, ℕ, ◌^◌, ◌<◌, ◌==◌, ◌||◌, if◌then◌else◌, List, ◌++◌, drop, length, None, Ok, All}
use Rattle.ff_time.specs.Fraction.{IsBase}
use Rattle.ff_frame.specs.Video.{frame_size, IsSide}
use Rattle.ff_frame.specs.declared.packet.Pkt.{Pkt}
use Rattle.ff_frame.specs.declared.head.StreamHead.{StreamHead}
use Rattle.ff_frame.specs.declared.head.StreamHead.TheVariants.{Audio, Video}
use Rattle.ff_y4m.specs.declared.head.Y4mHead.{Y4mHead}
use Rattle.ff_y4m.specs.Packets.{demuxed, broken_at}
use Rattle.ff_y4m.specs.Header.{header, written, planes_of}
use Rattle.ff_y4m.specs.Heads.{head as head_read}

-- video of 1 to 16,384 columns and rows, with a time base and the aspect of a sample in numbers of 32 bits
abbrev pub IsPictures : StreamHead → Type 0
IsPictures (Audio tb rate bits channels codec) = ⊥
IsPictures (Video tb format width height sar_num sar_den) = IsSide width × IsSide height × IsBase tb × (sar_num < 2 ^ 32) × (sar_den < 2 ^ 32)

-- an aspect as it is read again: 0:0 where one of its numbers is 0
abbrev pub aspect_again : ℕ → ℕ → ℕ × ℕ
aspect_again num den = if num == 0 || den == 0 then (0, 0) else (num, den)

abbrev pub head_again : StreamHead → StreamHead
head_again (Audio tb rate bits channels codec) = Audio tb rate bits channels codec
head_again (Video tb format width height sar_num sar_den) = Video tb format width height (aspect_again sar_num sar_den).0 (aspect_again sar_num sar_den).1

-- the bytes of a frame's planes
abbrev pub planes_size : StreamHead → ℕ
planes_size (Audio tb rate bits channels codec) = 0
planes_size (Video tb format width height sar_num sar_den) = frame_size format width height

-- what a file says that begins with the header of this stream
abbrev pub says : StreamHead → Y4mHead
says head = record { head = head_again head; start = length (header head); frame_bytes = planes_size head }

-- A header is read again as its stream, whatever follows.
abbrev pub HeadersAreRead : Type 0
HeadersAreRead = (head : StreamHead) (rest : List ℕ) → IsPictures head → head_read (header head ++ rest) ≡ Ok (says head)

-- So is that of a whole file,
abbrev pub FilesAreRead : Type 0
FilesAreRead = (head : StreamHead) (packets : List Pkt) → IsPictures head → head_read (written head packets) ≡ Ok (says head)

-- and its frames have the planes that were written, with nothing behind them.
abbrev pub FramesAreRead : Type 0
FramesAreRead = (head : StreamHead) (packets : List Pkt) → All (λ (p : Pkt). length p.bytes ≡ planes_size head) packets
    → (planes_of (demuxed (says head) (drop (length (header head)) (written head packets))) ≡ planes_of packets)
    × (broken_at (says head) (drop (length (header head)) (written head packets)) ≡ None)
