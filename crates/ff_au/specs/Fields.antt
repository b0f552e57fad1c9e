-- The fields of an AU, those after the mark `.snd`: numbers of 32 bits, the highest byte first. Then annotation follows, up to the data
-- offset, which isn't read.
use Rattle.std.specs.Prelude.{ℕ, ◌+◌, ◌*◌, ◌^◌, ◌==◌, ◌&&◌, nat_lt, nat_le, not, if◌then◌else◌, List, length, slice_index, Option, Some, None, Result, Ok, Err, ⊤}
use Rattle.ff_frame.specs.Codecs.{sample_bytes}
use Rattle.ff_frame.specs.declared.head.StreamHead.{StreamHead}
use Rattle.ff_frame.specs.declared.head.StreamHead.TheVariants.{Audio}
use Rattle.ff_frame.specs.declared.head.Codec.{Codec}
use Rattle.ff_frame.specs.declared.head.Codec.TheVariants.{PcmS8, PcmS16be, PcmS24be, PcmS32be}
use Rattle.ff_pcm.specs.declared.body.head.PcmHead.{PcmHead as AuHead}
use Rattle.ff_reader.specs.declared.fault.HeadFault.{HeadFault}
use Rattle.ff_reader.specs.declared.fault.HeadFault.TheVariants.{Damaged, Unsupported}
use Rattle.ff_reader.specs.declared.step.Step.{Step}
use Rattle.ff_reader.specs.declared.step.Step.TheVariants.{Wait, Decide}

-- what the fields do to the reading of a head; before them nothing is known
abbrev pub FieldsStep : Type 0
FieldsStep = Step AuHead ⊤

-- where each stands, from the first byte after the mark
abbrev pub data_offset : ℕ
data_offset = 0

abbrev pub data_size : ℕ
data_size = 4

abbrev pub encoding : ℕ
encoding = 8

abbrev pub sample_rate : ℕ
sample_rate = 12

abbrev pub channel_count : ℕ
channel_count = 16

-- the number of two bytes at a place, and of four
abbrev pub number_16 : ℕ → List ℕ → ℕ
number_16 i bs = 256 * slice_index bs i + slice_index bs (i + 1)

abbrev pub number_32 : ℕ → List ℕ → ℕ
number_32 i bs = 65536 * number_16 i bs + number_16 (i + 2) bs

-- the encodings 2, 3, 4 and 5 are linear PCM of 8, 16, 24 and 32 bits
abbrev pub codec_of : ℕ → Codec
codec_of n =
    if n == 2 then PcmS8
    else if n == 3 then PcmS16be
    else if n == 4 then PcmS24be
    else PcmS32be

-- audio with one tick a sample frame
abbrev pub stream_of : Codec → ℕ → ℕ → StreamHead
stream_of codec rate channels = Audio (record { num = 1; den = rate }) rate (8 * sample_bytes codec) channels codec

-- a body of 2^32 - 1 bytes goes to the end of the input; one of 0 bytes is empty
abbrev pub body_len : ℕ → Option ℕ
body_len size = if size == 0xFFFFFFFF then None else Some size

-- what the fields say at this offset of the input; each fault is at its field, in this order
unfoldable pub head_of : ℕ → ℕ → ℕ → ℕ → ℕ → ℕ → Result AuHead HeadFault
head_of at start size coding rate channels =
    if nat_lt start 24 then Err (Damaged at)
    else if nat_lt (2 ^ 28) start then Err (Unsupported at)
    else if not (nat_le 2 coding && nat_le coding 5) then Err (Unsupported (at + encoding))
    else if not (nat_le 1 rate && nat_lt rate (2 ^ 31)) then Err (Unsupported (at + sample_rate))
    else if not (nat_le 1 channels && nat_le channels 8) then Err (Unsupported (at + channel_count))
    else Ok (record { head = stream_of (codec_of coding) rate channels; start = start; len = body_len size })

-- a fault is told at once, a head once so many bytes of the input are there that the body can begin
abbrev pub told_at : ℕ → Result AuHead HeadFault → FieldsStep
told_at there (Ok head) = if nat_lt there head.start then Wait else Decide (Ok head)
told_at there (Err fault) = Decide (Err fault)

-- what the fields do that begin the bytes, at this offset of the input
unfoldable pub fields : ⊤ → ℕ → List ℕ → FieldsStep
fields known at bs =
    if nat_lt (length bs) 20 then Wait
    else told_at (at + length bs)
    (head_of at (number_32 data_offset bs) (number_32 data_size bs) (number_32 encoding bs) (number_32 sample_rate bs) (number_32 channel_count bs))
