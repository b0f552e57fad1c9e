-- The chunks of a RIFF WAVE (RIFF, "WAVE form definition") and of an RF64 (EBU Tech 3306), one at a time. All numbers are
-- little-endian.
use Rattle.std.specs.Prelude.{ℕ, ◌+◌, ◌*◌, ◌/◌, ◌%◌, ◌^◌, ◌==◌, ◌&&◌, ◌||◌, nat_lt, nat_le, not, if◌then◌else◌, List, take, length, slice_index, Option, Some, None, Result, Ok, Err, codes}
use Rattle.std.specs.Str.{bytes_eq}
use Rattle.ff_frame.specs.declared.head.StreamHead.{StreamHead}
use Rattle.ff_frame.specs.declared.head.StreamHead.TheVariants.{Audio}
use Rattle.ff_frame.specs.declared.head.Codec.{Codec}
use Rattle.ff_frame.specs.declared.head.Codec.TheVariants.{PcmU8, PcmS16le, PcmS24le, PcmS32le}
use Rattle.ff_pcm.specs.declared.body.head.PcmHead.{PcmHead as WavHead}
use Rattle.ff_reader.specs.declared.fault.HeadFault.{HeadFault}
use Rattle.ff_reader.specs.declared.fault.HeadFault.TheVariants.{Damaged, Unsupported}
use Rattle.ff_reader.specs.declared.step.Step.{Step}
use Rattle.ff_reader.specs.declared.step.Step.TheVariants.{Wait, Decide, Skip}

-- what a chunk does to the reading of a head: where it is passed over, this is the stream's head from there on
abbrev pub ChunkStep : Type 0
ChunkStep = Step WavHead (Option StreamHead)

-- a chunk is 8 bytes, its size, and a pad byte where the size is odd
abbrev pub passed : ℕ → Option StreamHead → ChunkStep
passed size format = Skip (7 + size + size % 2) format

-- where the fields of a `fmt ` chunk stand, from the chunk's first byte (RIFF, "WAVE format chunk")
abbrev pub chunk_size : ℕ
chunk_size = 4

abbrev pub format_tag : ℕ
format_tag = 8

abbrev pub channel_count : ℕ
channel_count = 10

abbrev pub sample_rate : ℕ
sample_rate = 12

abbrev pub block_align : ℕ
block_align = 20

abbrev pub bits_per_sample : ℕ
bits_per_sample = 22

abbrev pub sub_format : ℕ
sub_format = 32

-- the tags of linear PCM and of the extensible form, whose identifier begins with the tag that it extends
abbrev pub tag_pcm : ℕ
tag_pcm = 1

abbrev pub tag_extensible : ℕ
tag_extensible = 0xFFFE

-- the number of two bytes at a place, of four and of eight
abbrev pub number_16 : ℕ → List ℕ → ℕ
number_16 i bs = slice_index bs i + 256 * slice_index bs (i + 1)

abbrev pub number_32 : ℕ → List ℕ → ℕ
number_32 i bs = number_16 i bs + 65536 * number_16 (i + 2) bs

abbrev pub number_64 : ℕ → List ℕ → ℕ
number_64 i bs = number_32 i bs + 4294967296 * number_32 (i + 4) bs

-- 8 bits are unsigned, the others signed
abbrev pub codec_of : ℕ → Codec
codec_of bits =
    if bits == 8 then PcmU8
    else if bits == 16 then PcmS16le
    else if bits == 24 then PcmS24le
    else PcmS32le

-- sound with one tick a sample frame
abbrev pub stream_of : ℕ → ℕ → ℕ → StreamHead
stream_of channels rate bits = Audio (record { num = 1; den = rate }) rate bits channels (codec_of bits)

-- what the fields say that follow the tag; each is unsupported at its place, in this order
unfoldable pub format_of : ℕ → ℕ → ℕ → ℕ → ℕ → Result StreamHead HeadFault
format_of at channels rate block bits =
    if not (nat_le 1 channels && nat_le channels 8) then Err (Unsupported (at + channel_count))
    else if not (nat_le 1 rate && nat_lt rate (2 ^ 31)) then Err (Unsupported (at + sample_rate))
    else if not (bits == 8 || bits == 16 || bits == 24 || bits == 32) then Err (Unsupported (at + bits_per_sample))
    else if not (block == channels * (bits / 8)) then Err (Unsupported (at + block_align))
    else Ok (stream_of channels rate bits)

abbrev pub step_of : ℕ → Result StreamHead HeadFault → ChunkStep
step_of size (Ok format) = passed size (Some format)
step_of size (Err end) = Decide (Err end)

-- the fields after the tag of a `fmt ` chunk that begins the bytes
abbrev pub fields : ℕ → List ℕ → ChunkStep
fields at bs = step_of (number_32 chunk_size bs)
    (format_of at (number_16 channel_count bs) (number_32 sample_rate bs) (number_16 block_align bs) (number_16 bits_per_sample bs))

-- a `fmt ` chunk whose first 16 bytes are there
unfoldable pub tagged : ℕ → List ℕ → ChunkStep
tagged at bs =
    if number_16 format_tag bs == tag_extensible then
    if nat_lt (number_32 chunk_size bs) 40 then Decide (Err (Damaged at))
    else if nat_lt (length bs) 48 then Wait
    else if not (number_16 sub_format bs == tag_pcm) then Decide (Err (Unsupported (at + sub_format)))
    else fields at bs
    else if not (number_16 format_tag bs == tag_pcm) then Decide (Err (Unsupported (at + format_tag)))
    else fields at bs

-- the first `fmt ` counts
unfoldable pub format_chunk : Option StreamHead → ℕ → List ℕ → ChunkStep
format_chunk (Some format) at bs = passed (number_32 chunk_size bs) (Some format)
format_chunk None at bs =
    if nat_lt (number_32 chunk_size bs) 16 then Decide (Err (Damaged at))
    else if nat_lt (length bs) 24 then Wait
    else tagged at bs

-- how many bytes of the body a size means, where 2^32 - 1 stands for another; None: all to the end of the input, as 0 does
abbrev pub body_len : Option ℕ → ℕ → Option ℕ
body_len large size = if size == 0 then None else if size == 0xFFFFFFFF then large else Some size

-- the same of a size of 64 bits, of which all ones mean to the end, too
abbrev pub large_len : ℕ → Option ℕ
large_len size = if size == 0 || size == 0xFFFFFFFFFFFFFFFF then None else Some size

abbrev pub data_chunk : Option ℕ → Option StreamHead → ℕ → List ℕ → ChunkStep
data_chunk large None at bs = Decide (Err (Damaged at))
data_chunk large (Some format) at bs = Decide (Ok (record { head = format; start = at + 8; len = body_len large (number_32 chunk_size bs) }))

-- what the chunk does that begins the bytes, at offset at of the input
unfoldable pub chunk : Option ℕ → Option StreamHead → ℕ → List ℕ → ChunkStep
chunk large format at bs =
    if nat_lt (length bs) 8 then Wait
    else if bytes_eq (take 4 bs) (codes "data") then data_chunk large format at bs
    else if bytes_eq (take 4 bs) (codes "fmt ") then format_chunk format at bs
    else passed (number_32 chunk_size bs) format

-- ---- RF64

-- What the chunks so far say. None: nothing yet, and `ds64` comes first. Else the size of the body where its chunk says
-- 2^32 - 1, and the stream's head after `fmt `.
abbrev pub WavState : Type 0
WavState = Option (Option ℕ × Option StreamHead)

-- what a chunk does where the sizes of 64 bits may be known
abbrev pub WavStep : Type 0
WavStep = Step WavHead WavState

-- where the body's size stands in `ds64`, from the chunk's first byte (EBU Tech 3306, "ds64")
abbrev pub large_size : ℕ
large_size = 16

-- the first chunk of an RF64: `ds64`, of at least 28 bytes
unfoldable pub sizes_chunk : ℕ → List ℕ → WavStep
sizes_chunk at bs =
    if nat_lt (length bs) 8 then Wait
    else if not (bytes_eq (take 4 bs) (codes "ds64")) || nat_lt (number_32 chunk_size bs) 28 then Decide (Err (Damaged at))
    else if nat_lt (length bs) 24 then Wait
    else Skip (7 + number_32 chunk_size bs + number_32 chunk_size bs % 2) (Some (large_len (number_64 large_size bs), None))

-- the size that was told stays
abbrev pub known : Option ℕ → ChunkStep → WavStep
known large Wait = Wait
known large (Decide found) = Decide found
known large (Skip size format) = Skip size (Some (large, format))

-- what the next chunk does
abbrev pub unit : WavState → ℕ → List ℕ → WavStep
unit None at bs = sizes_chunk at bs
unit (Some (large, format)) at bs = known large (chunk large format at bs)
