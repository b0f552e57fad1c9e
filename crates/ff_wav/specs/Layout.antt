-- How WAV is written, and that the header has the same length with any sizes.
use Rattle.std.proofs.Common.{◌≡◌, ℕ, ◌+◌, ◌≤◌, true, List, ◌++◌, length, Some, refl, sym, ◌∙◌, arith, length-append}
use Rattle.std.specs.Prelude.{◌*◌, nat_le, Bool, false, ◌&&◌, if◌then◌else◌, Option}
use Rattle.ff_format.specs.Formats.{same_order, signed_so, taken_by, takes_coding}
use Rattle.ff_format.specs.Layouts.{Layout, bytes_in, finished, stream_of}
use Rattle.ff_format.specs.Outputs.{OutputFormat, WritesTaken, IsAlone, layout_of_first}
use Rattle.ff_format.specs.declared.format.Rf64.{Rf64 as Mode}
use Rattle.ff_format.specs.declared.format.Rf64.TheVariants.{Never, Auto, Always}
use Rattle.ff_format.specs.declared.format.FileFormat.TheVariants as format
use Rattle.ff_frame.specs.Codecs.{coding_of, sample_bytes}
use Rattle.ff_frame.specs.declared.coding.ByteOrder.{ByteOrder}
use Rattle.ff_frame.specs.declared.coding.ByteOrder.TheVariants.{LittleEndian, BigEndian}
use Rattle.ff_frame.specs.declared.coding.PcmDepth.{PcmDepth}
use Rattle.ff_frame.specs.declared.coding.PcmDepth.TheVariants.{Bits8, Bits16, Bits24, Bits32}
use Rattle.ff_wav.specs.Codecs.{IsWavCoded, IsWavCoding, IsWavForm, IsWavSign}
use Rattle.ff_frame.specs.declared.coding.Coding.{Coding}
use Rattle.ff_frame.specs.declared.coding.Coding.TheVariants.{Pcm, Flac, RawVideo}
use Rattle.ff_frame.specs.declared.head.StreamHead.{StreamHead}
use Rattle.ff_frame.specs.declared.head.StreamHead.TheVariants.{Audio, Video}
use Rattle.ff_frame.specs.declared.packet.Pkt.{Pkt}
use Rattle.ff_frame.specs.declared.totals.Totals.{Totals}
use Rattle.ff_wav.specs.Limits.{longest_of, longest_riff}
use Rattle.ff_wav.specs.Header.{le_32, le_64, riff, rf64, wave, junk_id, zeros, junk, ds64_id, ds64, format_id, data_id, format_bytes, opening, data_size, header, header_of, first_header, streamed_header, sizes_in, file_size, all_ones}
use Rattle.ff_wav.specs.declared.header.HeaderForm.{HeaderForm}
use Rattle.ff_wav.specs.declared.header.HeaderForm.TheVariants.{Riff, RiffWithRoom, Rf64}
use Rattle.ff_wav.specs.declared.header.Sizes.{Sizes}
use Rattle.ff_wav.specs.Written.{pad_of, file_of, streamed_file}

-- a header without sizes, the packets as they stand, a byte 0 behind an odd number, and the header with its sizes
abbrev pub wav_layout : Mode → StreamHead → Layout
wav_layout mode head = record {
  header = first_header mode head;
  text = λ stream packet. packet.bytes;
  tail = λ packets. pad_of (length (bytes_in packets));
  last = λ n totals. Some (0, header_of mode head n);
  longest = Some (longest_of mode);
}

-- to a stream: the header of one, and the packets as they stand
abbrev pub wav_layout_in : Bool → Mode → StreamHead → Layout
wav_layout_in true mode head = stream_of (streamed_header mode head)
wav_layout_in false mode head = wav_layout mode head

sign_taken : (depth : PcmDepth) (sign : Bool) → signed_so false depth sign ≡ true → IsWavSign depth sign
sign_taken Bits8 true e = cc
sign_taken Bits8 false e = tt
sign_taken Bits16 true e = tt
sign_taken Bits16 false e = cc
sign_taken Bits24 true e = tt
sign_taken Bits24 false e = cc
sign_taken Bits32 true e = tt
sign_taken Bits32 false e = cc

form_taken : (depth : PcmDepth) (sign : Bool) (order : ByteOrder) → (same_order LittleEndian order && signed_so false depth sign) ≡ true
    → IsWavForm depth sign order
form_taken depth sign LittleEndian e = sign_taken depth sign e
form_taken depth sign BigEndian e = cc

wav_taken : (coding : Coding) (rate : ℕ) → takes_coding (taken_by format.Wav).sound coding rate ≡ true → IsWavCoding coding
wav_taken (Pcm form) rate e = form_taken form.depth form.signed form.order e
wav_taken Flac rate e = cc
wav_taken RawVideo rate e = cc

-- one stream of WAV's linear PCM
abbrev pub wav_format : OutputFormat
wav_format = record { CanWrite = IsAlone IsWavCoded; layout = λ options heads. layout_of_first (wav_layout_in options.streamed options.rf64) heads }

-- and it can write what its row takes
pub wav_writes : WritesTaken (taken_by format.Wav) wav_format
wav_writes = record {
  sound = λ tb rate bits channels codec some few depth e. wav_taken (coding_of codec) rate e;
  pictures = λ tb f width height sar_num sar_den e. cc;
  several = λ heads some few. absurd (omega (arith, some, few));
}

-- The finished file is the one that the header defines.
abbrev pub WavsAreFiles : Type 0
WavsAreFiles = (mode : Mode) (head : StreamHead) (totals : Option Totals) (packets : List (ℕ × Pkt)) → length (bytes_in packets) ≤ longest_of mode
    → finished (wav_layout mode head) totals packets ≡ Some (file_of mode head (bytes_in packets))

-- That of a stream is its header and the packets, however many.
abbrev pub StreamedWavsAreFiles : Type 0
StreamedWavsAreFiles = (mode : Mode) (head : StreamHead) (totals : Option Totals) (packets : List (ℕ × Pkt))
    → finished (wav_layout_in true mode head) totals packets ≡ Some (streamed_file mode head (bytes_in packets))

-- ---- headers with other sizes

-- what stands before `fmt ` is as long with and without its sizes
opening_length : (form : HeaderForm) (sizes other : Sizes) → length (opening form sizes) ≡ length (opening form other)
unfolding riff rf64 wave junk junk_id zeros ds64 ds64_id le_32 le_64
opening_length Riff sizes other = refl
opening_length RiffWithRoom sizes other = refl
opening_length Rf64 sizes other = refl

-- as long as where the sizes of 64 bits stand
room_length : (sizes other : Sizes) → length (opening RiffWithRoom sizes) ≡ length (opening Rf64 other)
unfolding riff rf64 wave junk junk_id zeros ds64 ds64_id le_32 le_64
room_length sizes other = refl

four : (n : ℕ) → length (le_32 n) ≡ 4
unfolding le_32
four n = refl

-- two texts of five parts, of which the first and the last are as long
parts : (a a' b c d y y' : List ℕ) → length a ≡ length a' → length y ≡ length y' → length (a ++ b ++ c ++ d ++ y) ≡ length (a' ++ b ++ c ++ d ++ y')
parts a a' b c d y y' e f = omega (
  arith,
  e,
  f,
  length-append (a ++ b ++ c ++ d) y,
  length-append (a ++ b ++ c) d,
  length-append (a ++ b) c,
  length-append a b,
  length-append (a' ++ b ++ c ++ d) y',
  length-append (a' ++ b ++ c) d,
  length-append (a' ++ b) c,
  length-append a' b,
)

same_length : (form other_form : HeaderForm) (sizes other : Sizes) (head : StreamHead) → length (opening form sizes) ≡ length (opening other_form other)
    → length (header form head sizes) ≡ length (header other_form head other)
same_length form other_form sizes other (Audio base rate bits channels codec) e =
    parts (opening form sizes) (opening other_form other) format_id (format_bytes channels rate (channels * sample_bytes codec) bits) data_id
    (le_32 (data_size form sizes)) (le_32 (data_size other_form other)) e (four (data_size form sizes) ∙ sym (four (data_size other_form other)))
same_length form other_form sizes other (Video tb format width height sar_num sar_den) e = refl

abbrev no_sizes : Sizes
no_sizes = record { file = 0; body = 0; frames = 0 }

auto_length : (fits : Bool) (sizes : HeaderForm → Sizes) (head : StreamHead)
    → length (header (if fits then RiffWithRoom else Rf64) head (sizes (if fits then RiffWithRoom else Rf64))) ≡ length (header RiffWithRoom head no_sizes)
auto_length true sizes head = same_length RiffWithRoom RiffWithRoom (sizes RiffWithRoom) no_sizes head (opening_length RiffWithRoom (sizes RiffWithRoom) no_sizes)
auto_length false sizes head = same_length Rf64 RiffWithRoom (sizes Rf64) no_sizes head (sym (room_length no_sizes (sizes Rf64)))

-- the header with its sizes is as long as the one without them
pub last_length : (mode : Mode) (head : StreamHead) (n : ℕ) → length (header_of mode head n) ≡ length (first_header mode head)
last_length Never head n = same_length Riff Riff (sizes_in Riff head n) no_sizes head (opening_length Riff (sizes_in Riff head n) no_sizes)
last_length Auto head n = auto_length (nat_le n longest_riff && nat_le (file_size RiffWithRoom head n) all_ones) (λ form. sizes_in form head n) head
last_length Always head n = same_length Rf64 Rf64 (sizes_in Rf64 head n) no_sizes head (opening_length Rf64 (sizes_in Rf64 head n) no_sizes)

pub wav_inside : (mode : Mode) (head : StreamHead) (n : ℕ) → 0 + length (header_of mode head n) ≤ length (first_header mode head)
wav_inside mode head n = omega (arith, last_length mode head n)
