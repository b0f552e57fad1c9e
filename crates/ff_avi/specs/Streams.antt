-- The list of one stream, `strl`: first its header, `strh`, then its format, `strf` (AVI RIFF File Reference, AVISTREAMHEADER,
-- BITMAPINFOHEADER and WAVEFORMATEX). All numbers are little-endian, and places count from the first byte of a list or chunk.
use Rattle.std.specs.Prelude.{ℕ, ◌+◌, ◌%◌, ◌^◌, ◌==◌, ◌&&◌, ◌||◌, nat_lt, not, Bool, true, false, if◌then◌else◌, List, take, drop, length, Option, Some, None}
use Rattle.std.specs.Prelude.{Result, Ok, Err, codes}
use Rattle.std.specs.Str.{bytes_eq}
use Rattle.ff_time.specs.Fraction.{Fraction}
use Rattle.ff_frame.specs.declared.head.StreamHead.{StreamHead}
use Rattle.ff_frame.specs.declared.head.StreamHead.TheVariants.{Audio as Sound, Video as Pictures}
use Rattle.ff_frame.specs.declared.video.Format.TheVariants.{C420}
use Rattle.ff_frame.specs.Sizes.{is_side}
use Rattle.ff_reader.specs.declared.fault.HeadFault.{HeadFault}
use Rattle.ff_reader.specs.declared.fault.HeadFault.TheVariants.{Damaged, Unsupported}
use Rattle.ff_reader.specs.declared.step.Step.TheVariants.{Wait, Decide, Skip}
use Rattle.ff_y4m.specs.Numbers.{lowest}
use Rattle.ff_wav.specs.Chunks.{ChunkStep, number_32, format_chunk}
use Rattle.ff_avi.specs.declared.head.AviState.{AviState}
use Rattle.ff_avi.specs.declared.kind.StreamKind.{StreamKind}
use Rattle.ff_avi.specs.declared.kind.StreamKind.TheVariants.{Video, Audio}

-- a size with its pad byte, which follows an odd number of bytes
abbrev pub padded : ℕ → ℕ
padded size = size + size % 2

-- the four bytes at a place
abbrev pub word : ℕ → List ℕ → List ℕ
word place bs = take 4 (drop place bs)

-- where the size of a list or chunk stands
abbrev pub chunk_size : ℕ
chunk_size = 4

-- where, in the list of a stream, the id of `strh` stands, its size and its data; in the data the kind comes first
abbrev pub header_id : ℕ
header_id = 12

abbrev pub header_size : ℕ
header_size = 16

abbrev pub stream_kind : ℕ
stream_kind = 20

abbrev pub scale : ℕ
scale = 40

abbrev pub rate : ℕ
rate = 44

-- where the fields of pictures stand in `strf`
abbrev pub columns : ℕ
columns = 12

abbrev pub rows : ℕ
rows = 16

abbrev pub compression : ℕ
compression = 24

-- which of its streams are known
abbrev pub is_pictures : Option StreamHead → Bool
is_pictures None = false
is_pictures (Some (Sound base speed bits channels codec)) = false
is_pictures (Some (Pictures base format width height sar_num sar_den)) = true

abbrev pub is_sound : Option StreamHead → Bool
is_sound None = false
is_sound (Some (Sound base speed bits channels codec)) = true
is_sound (Some (Pictures base format width height sar_num sar_den)) = false

abbrev pub has_pictures : AviState → Bool
has_pictures known = is_pictures known.first || is_pictures known.second

abbrev pub has_sound : AviState → Bool
has_sound known = is_sound known.first || is_sound known.second

-- ---- the header

-- the time base of pictures, scale over rate in lowest terms: neither is 0, and then both are below 2^31
unfoldable pub base_in : ℕ → ℕ → ℕ → Result Fraction HeadFault
base_in at num den =
    if num == 0 then Err (Unsupported (at + scale))
    else if den == 0 then Err (Unsupported (at + rate))
    else if not (nat_lt (lowest num den).num (2 ^ 31)) then Err (Unsupported (at + scale))
    else if not (nat_lt (lowest num den).den (2 ^ 31)) then Err (Unsupported (at + rate))
    else Ok (lowest num den)

abbrev pub video_kind : Result Fraction HeadFault → Result StreamKind HeadFault
video_kind (Ok base) = Ok (Video base)
video_kind (Err fault) = Err fault

-- What `strh` says in the list that begins the bytes. A file has at most one stream of pictures and one of sound.
unfoldable pub header_of : AviState → ℕ → List ℕ → Result StreamKind HeadFault
header_of known at bs =
    if bytes_eq (word stream_kind bs) (codes "vids") && not (has_pictures known) then video_kind (base_in at (number_32 scale bs) (number_32 rate bs))
    else if bytes_eq (word stream_kind bs) (codes "auds") && not (has_sound known) then Ok Audio
    else Err (Unsupported (at + stream_kind))

-- ---- the format

-- a stream, or the fault for which there is none; None: more bytes are wanted
abbrev pub Told : Type 0
Told = Option (Result StreamHead HeadFault)

-- pictures of 4:2:0 with 1 to 16,384 columns and rows, whose aspect isn't known; each field is unsupported at its place
unfoldable pub pictures_of : ℕ → Fraction → ℕ → ℕ → List ℕ → Result StreamHead HeadFault
pictures_of at base width height code =
    if not (is_side width) then Err (Unsupported (at + columns))
    else if not (is_side height) then Err (Unsupported (at + rows))
    else if not (bytes_eq code (codes "I420") || bytes_eq code (codes "IYUV")) then Err (Unsupported (at + compression))
    else Ok (Pictures base C420 width height 0 0)

-- what `strf` says that begins the bytes, of pictures: 40 bytes at least
unfoldable pub pictures_in : ℕ → Fraction → List ℕ → Told
pictures_in at base bs =
    if nat_lt (number_32 chunk_size bs) 40 then Some (Err (Damaged at))
    else if nat_lt (length bs) 48 then None
    else Some (pictures_of at base (number_32 columns bs) (number_32 rows bs) (word compression bs))

-- of sound: what a WAV's `fmt ` chunk says
abbrev pub told_by : ChunkStep → Told
told_by Wait = None
told_by (Decide (Ok found)) = Some (Ok found.head)
told_by (Decide (Err fault)) = Some (Err fault)
told_by (Skip size None) = None
told_by (Skip size (Some head)) = Some (Ok head)

abbrev pub format_in : ℕ → StreamKind → List ℕ → Told
format_in at (Video base) bs = pictures_in at base bs
format_in at Audio bs = told_by (format_chunk None at bs)

-- ---- the list

-- the place of `strf`, behind `strh`
abbrev pub format_place : List ℕ → ℕ
format_place bs = stream_kind + padded (number_32 header_size bs)

-- behind this header: the first 8 bytes of `strf` lie within the list
abbrev pub behind_header : ℕ → ℕ → Result StreamKind HeadFault → List ℕ → Told
behind_header at place (Err fault) bs = Some (Err fault)
behind_header at place (Ok kind) bs =
    if nat_lt (number_32 chunk_size bs) place then Some (Err (Damaged at))
    else if nat_lt (length bs) (place + 8) then None
    else if not (bytes_eq (word place bs) (codes "strf")) then Some (Err (Damaged at))
    else format_in (at + place) kind (drop place bs)

-- What the list of a stream says that begins the bytes, at offset at of the input. So do the first 8 bytes of `strh`, which has 56
-- bytes of data at least.
unfoldable pub stream_in : AviState → ℕ → List ℕ → Told
stream_in known at bs =
    if nat_lt (number_32 chunk_size bs) 12 then Some (Err (Damaged at))
    else if nat_lt (length bs) 20 then None
    else if not (bytes_eq (word header_id bs) (codes "strh")) || nat_lt (number_32 header_size bs) 56 then Some (Err (Damaged at))
    else if nat_lt (length bs) 76 then None
    else behind_header at (format_place bs) (header_of known at bs) bs
