-- The frames behind the head: each a line, `FRAME` and perhaps parameters, and the planes (yuv4mpeg(5), "Frame Format").
use Rattle.std.specs.Prelude.{◌≡◌, ℕ, zero, suc, ◌+◌, ◌≤◌, nat_lt, not, if◌then◌else◌, pos, List, [], ◌∷◌, codes, take, drop, length, Option, Some, None}
use Rattle.ff_time.specs.Fraction.{IsBase}
use Rattle.ff_frame.specs.Heads.{base_of_head}
use Rattle.ff_frame.specs.Packet.{packet_at}
use Rattle.ff_frame.specs.Video.{frame_size, IsSide}
use Rattle.ff_frame.specs.declared.packet.Pkt.{Pkt}
use Rattle.ff_frame.specs.declared.head.StreamHead.{StreamHead}
use Rattle.ff_frame.specs.declared.head.StreamHead.TheVariants.{Audio, Video}
use Rattle.ff_y4m.specs.declared.head.Y4mHead.{Y4mHead}
use Rattle.ff_y4m.specs.declared.frame.Front.{Front}
use Rattle.ff_y4m.specs.declared.frame.Front.TheVariants.{Wait, Other, Frame}
use Rattle.ff_y4m.specs.Lines.{begins, line_end, longest_line}

-- what a frame begins with
abbrev pub frame_word : List ℕ
frame_word = codes "FRAME"

-- of so many bytes, with a line that ends there, and planes of this size
abbrev pub line_unit : ℕ → ℕ → Option ℕ → Front
line_unit size count None = Wait
line_unit size count (Some n) = if nat_lt n longest_line then (if nat_lt count (n + 1 + size) then Wait else Frame n) else Other

-- what some bytes begin with: a whole frame, whose line has so many bytes before its line feed; none; or more bytes decide
unfoldable pub unit : ℕ → List ℕ → Front
unit size bs = if not (begins frame_word bs) then Other else line_unit size (length bs) (line_end longest_line bs)

-- packet number n, of a frame at this offset: the planes, behind a line of so many bytes and its line feed
abbrev pub packet_in : ℕ → ℕ → ℕ → ℕ → List ℕ → Pkt
packet_in size at n line bs = packet_at (pos n) (pos 1) at (take size (drop (line + 1) bs))

-- The packets of frames one behind the other, the first with this number: so many bytes are passed over, and then a frame begins.
abbrev pub packets_from : ℕ → ℕ → ℕ → ℕ → List ℕ → List Pkt
packets_from size skip at n [] = []
packets_from size (suc skip) at n (b ∷ bs) = packets_from size skip (at + 1) n bs
packets_from size zero at n (b ∷ bs) =
    elim (unit size (b ∷ bs)) [ Wait ↦ [] | Other ↦ [] | Frame line ↦ packet_in size at n line (b ∷ bs) ∷ packets_from size (line + size) (at + 1) (n + 1) bs ]

-- the offset at which no frame begins, or one begins that is not whole; None where the last frame ends with the input
abbrev pub broken_from : ℕ → ℕ → ℕ → List ℕ → Option ℕ
broken_from size skip at [] = None
broken_from size (suc skip) at (b ∷ bs) = broken_from size skip (at + 1) bs
broken_from size zero at (b ∷ bs) =
    elim (unit size (b ∷ bs)) [ Wait ↦ Some at | Other ↦ Some at | Frame line ↦ broken_from size (line + size) (at + 1) bs ]

-- the packets in what follows the head, and where no further frame begins
abbrev pub demuxed : Y4mHead → List ℕ → List Pkt
demuxed head rest = packets_from head.frame_bytes 0 head.start 0 rest

abbrev pub broken_at : Y4mHead → List ℕ → Option ℕ
broken_at head rest = broken_from head.frame_bytes 0 head.start rest

-- video of 1 to 16,384 columns and rows, with frames of this size
abbrev pub IsStream : StreamHead → ℕ → Type 0
IsStream (Audio tb rate bits channels codec) size = ⊥
IsStream (Video tb format width height sar_num sar_den) size = IsSide width × IsSide height × (size ≡ frame_size format width height)

-- what is true of every head that is read
pub record IsHead (head : Y4mHead) : Type 0 where
  pub stream : IsStream head.head head.frame_bytes
  pub base : IsBase (base_of_head head.head)
  pub start : head.start ≤ 1024
