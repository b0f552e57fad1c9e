-- The header that is written (RIFF WAVE; the extensible form of `fmt ` for more than 2 channels or 16 bits; RF64: EBU Tech 3306).
use Rattle.std.specs.Prelude.{ℕ, ◌+◌, ◌-◌, ◌*◌, ◌/◌, ◌%◌, ◌^◌, ◌<◌, ◌==◌, ◌&&◌, nat_le, Bool, if◌then◌else◌, List, [], ◌∷◌, ◌++◌, codes, replicate}
use Rattle.std.specs.Int.{w16, w32, w64, to_le_bytes}
use Rattle.ff_format.specs.declared.format.Rf64.{Rf64 as Mode}
use Rattle.ff_format.specs.declared.format.Rf64.TheVariants.{Never, Auto, Always}
use Rattle.ff_frame.specs.Codecs.{sample_bytes}
use Rattle.ff_frame.specs.declared.head.StreamHead.{StreamHead}
use Rattle.ff_frame.specs.declared.head.StreamHead.TheVariants.{Audio, Video}
use Rattle.ff_pcm.specs.body.Packets.{block_of}
use Rattle.ff_wav.specs.declared.header.HeaderForm.{HeaderForm}
use Rattle.ff_wav.specs.declared.header.HeaderForm.TheVariants.{Riff, RiffWithRoom, Rf64}
use Rattle.ff_wav.specs.declared.header.Sizes.{Sizes}
use Rattle.ff_wav.specs.Limits.{longest_riff}
use Rattle.ff_wav.specs.declared.put.WavPut.{WavPut}

-- numbers in two, four and eight bytes, the lowest byte first
unfoldable pub le_16 : ℕ → List ℕ
le_16 n = to_le_bytes w16 n

unfoldable pub le_32 : ℕ → List ℕ
le_32 n = to_le_bytes w32 n

unfoldable pub le_64 : ℕ → List ℕ
le_64 n = to_le_bytes w64 n

-- a short `fmt ` serves at most 2 channels of at most 16 bits
abbrev pub is_plain : ℕ → ℕ → Bool
is_plain channels bits = nat_le channels 2 && nat_le bits 16

-- the mask of the speakers: the middle one, left and right, or none said
abbrev pub mask_of : ℕ → ℕ
mask_of channels = if channels == 1 then 4 else if channels == 2 then 3 else 0

-- channels, rate, bytes a second (the lowest 32 bits), bytes of a block, bits
unfoldable pub fields_of : ℕ → ℕ → ℕ → ℕ → List ℕ
fields_of channels rate block bits = le_16 channels ++ le_32 rate ++ le_32 (rate * block % 2 ^ 32) ++ le_16 block ++ le_16 bits

-- the identifier of linear PCM in the extensible form
unfoldable pub pcm_guid : List ℕ
pcm_guid = 1 ∷ 0 ∷ 0 ∷ 0 ∷ 0 ∷ 0 ∷ 0x10 ∷ 0 ∷ 0x80 ∷ 0 ∷ 0 ∷ 0xaa ∷ 0 ∷ 0x38 ∷ 0x9b ∷ 0x71 ∷ []

-- size of the extension, bits that count, mask, identifier
unfoldable pub extension : ℕ → ℕ → List ℕ
extension channels bits = le_16 22 ++ le_16 bits ++ le_32 (mask_of channels) ++ pcm_guid

-- the words of a header
unfoldable pub riff : List ℕ
riff = codes "RIFF"

unfoldable pub rf64 : List ℕ
rf64 = codes "RF64"

unfoldable pub wave : List ℕ
wave = codes "WAVE"

unfoldable pub format_id : List ℕ
format_id = codes "fmt "

unfoldable pub data_id : List ℕ
data_id = codes "data"

unfoldable pub ds64_id : List ℕ
ds64_id = codes "ds64"

unfoldable pub junk_id : List ℕ
junk_id = codes "JUNK"

unfoldable pub zeros : List ℕ
zeros = replicate 28 0

-- the body of `fmt ` and its size before it
unfoldable pub plain_format : ℕ → ℕ → ℕ → ℕ → List ℕ
plain_format channels rate block bits = le_32 16 ++ le_16 1 ++ fields_of channels rate block bits

unfoldable pub long_format : ℕ → ℕ → ℕ → ℕ → List ℕ
long_format channels rate block bits = le_32 40 ++ le_16 0xFFFE ++ fields_of channels rate block bits ++ extension channels bits

abbrev pub format_bytes : ℕ → ℕ → ℕ → ℕ → List ℕ
format_bytes channels rate block bits = if is_plain channels bits then plain_format channels rate block bits else long_format channels rate block bits

-- sizes of 64 bits: of the file behind its first 8 bytes, of the body, and the number of sample frames; the table behind them is empty
unfoldable pub ds64 : Sizes → List ℕ
ds64 sizes = ds64_id ++ le_32 28 ++ le_64 sizes.file ++ le_64 sizes.body ++ le_64 sizes.frames ++ le_32 0

-- a chunk that is passed over, of the same length
unfoldable pub junk : List ℕ
junk = junk_id ++ le_32 28 ++ zeros

-- a size of 32 bits in whose place `ds64` has one
abbrev pub all_ones : ℕ
all_ones = 0xFFFFFFFF

-- what stands before `fmt `
abbrev pub opening : HeaderForm → Sizes → List ℕ
opening Riff sizes = riff ++ le_32 sizes.file ++ wave
opening RiffWithRoom sizes = riff ++ le_32 sizes.file ++ wave ++ junk
opening Rf64 sizes = rf64 ++ le_32 all_ones ++ wave ++ ds64 sizes

-- the body's size, in 32 bits
abbrev pub data_size : HeaderForm → Sizes → ℕ
data_size Riff sizes = sizes.body
data_size RiffWithRoom sizes = sizes.body
data_size Rf64 sizes = all_ones

-- the header of a form with these sizes; a stream of video has none
abbrev pub header : HeaderForm → StreamHead → Sizes → List ℕ
header form (Audio base rate bits channels codec) sizes =
    opening form sizes ++ format_id ++ format_bytes channels rate (channels * sample_bytes codec) bits ++ data_id ++ le_32 (data_size form sizes)
header form (Video tb format width height sar_num sar_den) sizes = []

-- the sizes fit in it
abbrev pub HasRoom : HeaderForm → Sizes → Type 0
HasRoom Riff sizes = (sizes.file < 2 ^ 32) × (sizes.body < 2 ^ 32)
HasRoom RiffWithRoom sizes = (sizes.file < 2 ^ 32) × (sizes.body < 2 ^ 32)
HasRoom Rf64 sizes = (sizes.file < 2 ^ 64) × (sizes.body < 2 ^ 64)

-- how long it is
abbrev pub room_of : HeaderForm → ℕ
room_of Riff = 0
room_of RiffWithRoom = 36
room_of Rf64 = 36

abbrev pub header_len : HeaderForm → StreamHead → ℕ
header_len form (Audio base rate bits channels codec) = (if is_plain channels bits then 44 else 68) + room_of form
header_len form (Video tb format width height sar_num sar_den) = 0

-- ---- the header of a body of so many bytes, which one pad byte follows where it is odd

-- the file's length less 8
abbrev pub file_size : HeaderForm → StreamHead → ℕ → ℕ
file_size form head size = header_len form head - 8 + size + size % 2

abbrev pub sizes_in : HeaderForm → StreamHead → ℕ → Sizes
sizes_in form head size = record { file = file_size form head size; body = size; frames = size / block_of head }

-- the form of the header: with auto RF64 where a size doesn't fit in 32 bits
abbrev pub form_of : Mode → StreamHead → ℕ → HeaderForm
form_of Never head size = Riff
form_of Auto head size = if nat_le size longest_riff && nat_le (file_size RiffWithRoom head size) all_ones then RiffWithRoom else Rf64
form_of Always head size = Rf64

abbrev pub header_of : Mode → StreamHead → ℕ → List ℕ
header_of mode head size = header (form_of mode head size) head (sizes_in (form_of mode head size) head size)

-- the form before its sizes are known, and the header without them
abbrev pub first_form : Mode → HeaderForm
first_form Never = Riff
first_form Auto = RiffWithRoom
first_form Always = Rf64

abbrev pub first_header : Mode → StreamHead → List ℕ
first_header mode head = header (first_form mode) head (record { file = 0; body = 0; frames = 0 })

-- of a stream, whose sizes are never known: all ones in 32 bits, and 0 in 64 bits where it has them
abbrev pub streamed_sizes : Mode → Sizes
streamed_sizes Never = record { file = all_ones; body = all_ones; frames = 0 }
streamed_sizes Auto = record { file = all_ones; body = all_ones; frames = 0 }
streamed_sizes Always = record { file = 0; body = 0; frames = 0 }

abbrev pub streamed_header : Mode → StreamHead → List ℕ
streamed_header mode head = header (first_form mode) head (streamed_sizes mode)

-- what a writer writes a header for, in which mode, and how many bytes of the body were counted
abbrev pub written_head : WavPut → StreamHead
written_head put = put.head

abbrev pub written_mode : WavPut → Mode
written_mode put = put.mode

abbrev pub body_size : WavPut → ℕ
body_size put = put.size
