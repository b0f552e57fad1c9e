-- The formats of files, a row each: its names, and what an output of it takes.
use Rattle.std.specs.Prelude.{◌≡◌, ℕ, ◌≤◌, nat_le, Bool, true, false, if◌then◌else◌, cond, ◌&&◌, ◌==◌, not, List, [], ◌∷◌, codes, length, Option, None, Some, refl}
use Rattle.std.specs.Str.{bytes_eq}
use Rattle.std.proofs.Common.{arith}
use Rattle.ff_frame.specs.Codecs.{coding_of, depth_bytes}
use Rattle.ff_frame.specs.declared.coding.ByteOrder.{ByteOrder}
use Rattle.ff_frame.specs.declared.coding.ByteOrder.TheVariants.{LittleEndian, BigEndian}
use Rattle.ff_frame.specs.declared.coding.Coding.{Coding}
use Rattle.ff_frame.specs.declared.coding.Coding.TheVariants as coding
use Rattle.ff_frame.specs.declared.coding.PcmDepth.{PcmDepth}
use Rattle.ff_frame.specs.declared.coding.PcmDepth.TheVariants.{Bits8, Bits16, Bits24, Bits32}
use Rattle.ff_frame.specs.declared.coding.PcmForm.{PcmForm}
use Rattle.ff_frame.specs.declared.head.Codec.{Codec}
use Rattle.ff_frame.specs.declared.head.Codec.TheVariants as codec
use Rattle.ff_frame.specs.declared.hash.HashKind.{HashKind}
use Rattle.ff_frame.specs.declared.hash.HashKind.TheVariants.{Sha256, Md5}
use Rattle.ff_format.specs.declared.format.FileFormat.{FileFormat}
use Rattle.ff_format.specs.declared.format.FileFormat.TheVariants as format
use Rattle.ff_format.specs.declared.format.SoundTaken.{SoundTaken}
use Rattle.ff_format.specs.declared.format.SoundTaken.TheVariants.{Nothing, Pcm, PcmIn, PcmOf, Flac}
use Rattle.ff_format.specs.declared.format.Taken.{Taken}

abbrev pub format_name : FileFormat → List ℕ
format_name format.Wav = codes "wav"
format_name format.Au = codes "au"
format_name format.Flac = codes "flac"
format_name format.Y4m = codes "yuv4mpegpipe"
format_name format.Avi = codes "avi"
format_name format.U8 = codes "u8"
format_name format.S8 = codes "s8"
format_name format.S16le = codes "s16le"
format_name format.S16be = codes "s16be"
format_name format.S24le = codes "s24le"
format_name format.S24be = codes "s24be"
format_name format.S32le = codes "s32le"
format_name format.S32be = codes "s32be"
format_name format.RawVideo = codes "rawvideo"
format_name format.FrameHash = codes "framehash"
format_name format.FrameMd5 = codes "framemd5"
format_name format.FrameCrc = codes "framecrc"
format_name format.Hash = codes "hash"
format_name format.Md5 = codes "md5"
format_name format.StreamHash = codes "streamhash"
format_name format.Crc = codes "crc"
format_name format.Null = codes "null"

-- whether an input may have it
abbrev pub is_read : FileFormat → Bool
is_read format.Wav = true
is_read format.Au = true
is_read format.Flac = true
is_read format.Y4m = true
is_read format.Avi = true
is_read _ = false

-- whether an output may have it
abbrev pub is_written : FileFormat → Bool
is_written format.Avi = false
is_written _ = true

-- each format with its name, how the names of its files end (empty where no ending tells it), and whether an input and an
-- output may have it
abbrev pub file_formats : List (List ℕ × List ℕ × FileFormat × Bool × Bool)
file_formats =
    (format_name format.Wav, codes ".wav", format.Wav, is_read format.Wav, is_written format.Wav) ∷
    (format_name format.Au, codes ".au", format.Au, is_read format.Au, is_written format.Au) ∷
    (format_name format.Flac, codes ".flac", format.Flac, is_read format.Flac, is_written format.Flac) ∷
    (format_name format.Y4m, codes ".y4m", format.Y4m, is_read format.Y4m, is_written format.Y4m) ∷
    (format_name format.Avi, [], format.Avi, is_read format.Avi, is_written format.Avi) ∷
    (format_name format.U8, [], format.U8, is_read format.U8, is_written format.U8) ∷
    (format_name format.S8, [], format.S8, is_read format.S8, is_written format.S8) ∷
    (format_name format.S16le, [], format.S16le, is_read format.S16le, is_written format.S16le) ∷
    (format_name format.S16be, [], format.S16be, is_read format.S16be, is_written format.S16be) ∷
    (format_name format.S24le, [], format.S24le, is_read format.S24le, is_written format.S24le) ∷
    (format_name format.S24be, [], format.S24be, is_read format.S24be, is_written format.S24be) ∷
    (format_name format.S32le, [], format.S32le, is_read format.S32le, is_written format.S32le) ∷
    (format_name format.S32be, [], format.S32be, is_read format.S32be, is_written format.S32be) ∷
    (format_name format.RawVideo, [], format.RawVideo, is_read format.RawVideo, is_written format.RawVideo) ∷
    (format_name format.FrameHash, [], format.FrameHash, is_read format.FrameHash, is_written format.FrameHash) ∷
    (format_name format.FrameMd5, [], format.FrameMd5, is_read format.FrameMd5, is_written format.FrameMd5) ∷
    (format_name format.FrameCrc, [], format.FrameCrc, is_read format.FrameCrc, is_written format.FrameCrc) ∷
    (format_name format.Hash, [], format.Hash, is_read format.Hash, is_written format.Hash) ∷
    (format_name format.Md5, [], format.Md5, is_read format.Md5, is_written format.Md5) ∷
    (format_name format.StreamHash, [], format.StreamHash, is_read format.StreamHash, is_written format.StreamHash) ∷
    (format_name format.Crc, [], format.Crc, is_read format.Crc, is_written format.Crc) ∷
    (format_name format.Null, [], format.Null, is_read format.Null, is_written format.Null) ∷
    []

-- the first line of this name
abbrev pub line_named : List (List ℕ × List ℕ × FileFormat × Bool × Bool) → List ℕ → Option (List ℕ × List ℕ × FileFormat × Bool × Bool)
line_named [] word = None
line_named (line ∷ list) word = if bytes_eq line.0 word then Some line else line_named list word

-- each format's line is found by its name, which is short
pub found : (f : FileFormat) → (ending : List ℕ) × (line_named file_formats (format_name f) ≡ Some (format_name f, ending, f, is_read f, is_written f))
found format.Wav = (codes ".wav", refl)
found format.Au = (codes ".au", refl)
found format.Flac = (codes ".flac", refl)
found format.Y4m = (codes ".y4m", refl)
found format.Avi = ([], refl)
found format.U8 = ([], refl)
found format.S8 = ([], refl)
found format.S16le = ([], refl)
found format.S16be = ([], refl)
found format.S24le = ([], refl)
found format.S24be = ([], refl)
found format.S32le = ([], refl)
found format.S32be = ([], refl)
found format.RawVideo = ([], refl)
found format.FrameHash = ([], refl)
found format.FrameMd5 = ([], refl)
found format.FrameCrc = ([], refl)
found format.Hash = ([], refl)
found format.Md5 = ([], refl)
found format.StreamHash = ([], refl)
found format.Crc = ([], refl)
found format.Null = ([], refl)

pub short_name : (f : FileFormat) → length (format_name f) ≤ 32
short_name format.Wav = omega arith
short_name format.Au = omega arith
short_name format.Flac = omega arith
short_name format.Y4m = omega arith
short_name format.Avi = omega arith
short_name format.U8 = omega arith
short_name format.S8 = omega arith
short_name format.S16le = omega arith
short_name format.S16be = omega arith
short_name format.S24le = omega arith
short_name format.S24be = omega arith
short_name format.S32le = omega arith
short_name format.S32be = omega arith
short_name format.RawVideo = omega arith
short_name format.FrameHash = omega arith
short_name format.FrameMd5 = omega arith
short_name format.FrameCrc = omega arith
short_name format.Hash = omega arith
short_name format.Md5 = omega arith
short_name format.StreamHash = omega arith
short_name format.Crc = omega arith
short_name format.Null = omega arith

-- ---- what an output takes: WAV linear PCM with the lowest byte first, unsigned where a sample has one byte and signed else, AU signed
-- linear PCM with the highest byte first, FLAC what is coded so, YUV4MPEG2 and raw video pictures, a format of samples its own codec,
-- each of one stream; digests any linear PCM and pictures, of up to 16 streams, and so does null

-- sound that is coded so, and no other
abbrev pub sound_alone : Coding → SoundTaken
sound_alone (coding.Pcm form) = PcmOf form
sound_alone coding.Flac = Nothing
sound_alone coding.RawVideo = Nothing

abbrev pub samples_alone : Codec → Taken
samples_alone c = record { sound = sound_alone (coding_of c); pictures = false; codec = c; streams = 1 }

abbrev pub taken_by : FileFormat → Taken
taken_by format.Wav = record { sound = PcmIn LittleEndian false; pictures = false; codec = codec.PcmS16le; streams = 1 }
taken_by format.Au = record { sound = PcmIn BigEndian true; pictures = false; codec = codec.PcmS16be; streams = 1 }
taken_by format.Flac = record { sound = Flac; pictures = false; codec = codec.Flac; streams = 1 }
taken_by format.Y4m = record { sound = Nothing; pictures = true; codec = codec.PcmS16le; streams = 1 }
taken_by format.Avi = record { sound = Nothing; pictures = false; codec = codec.PcmS16le; streams = 0 }
taken_by format.U8 = samples_alone codec.PcmU8
taken_by format.S8 = samples_alone codec.PcmS8
taken_by format.S16le = samples_alone codec.PcmS16le
taken_by format.S16be = samples_alone codec.PcmS16be
taken_by format.S24le = samples_alone codec.PcmS24le
taken_by format.S24be = samples_alone codec.PcmS24be
taken_by format.S32le = samples_alone codec.PcmS32le
taken_by format.S32be = samples_alone codec.PcmS32be
taken_by format.RawVideo = record { sound = Nothing; pictures = true; codec = codec.PcmS16le; streams = 1 }
taken_by format.FrameHash = record { sound = Pcm; pictures = true; codec = codec.PcmS16le; streams = 16 }
taken_by format.FrameMd5 = record { sound = Pcm; pictures = true; codec = codec.PcmS16le; streams = 16 }
taken_by format.FrameCrc = record { sound = Pcm; pictures = true; codec = codec.PcmS16le; streams = 16 }
taken_by format.Hash = record { sound = Pcm; pictures = true; codec = codec.PcmS16le; streams = 16 }
taken_by format.Md5 = record { sound = Pcm; pictures = true; codec = codec.PcmS16le; streams = 16 }
taken_by format.StreamHash = record { sound = Pcm; pictures = true; codec = codec.PcmS16le; streams = 16 }
taken_by format.Crc = record { sound = Pcm; pictures = true; codec = codec.PcmS16le; streams = 16 }
taken_by format.Null = record { sound = Pcm; pictures = true; codec = codec.PcmS16le; streams = 16 }

-- whether an output of it is a file; what null takes goes nowhere
abbrev pub has_file : FileFormat → Bool
has_file format.Null = false
has_file _ = true

-- the digest where none is asked for, of a format that has one
abbrev pub default_hash : FileFormat → HashKind
default_hash format.FrameMd5 = Md5
default_hash format.Md5 = Md5
default_hash _ = Sha256

abbrev pub is_some_sound : SoundTaken → Bool
is_some_sound Nothing = false
is_some_sound Pcm = true
is_some_sound (PcmIn order signed_bytes) = true
is_some_sound (PcmOf form) = true
is_some_sound Flac = true

abbrev pub same_order : ByteOrder → ByteOrder → Bool
same_order LittleEndian LittleEndian = true
same_order LittleEndian BigEndian = false
same_order BigEndian LittleEndian = false
same_order BigEndian BigEndian = true

abbrev pub same_form : PcmForm → PcmForm → Bool
same_form a b = same_order a.order b.order && depth_bytes a.depth == depth_bytes b.depth && cond a.signed b.signed (not b.signed)

-- samples of this depth are signed so: those of one byte as told, longer ones always
abbrev pub signed_so : Bool → PcmDepth → Bool → Bool
signed_so true Bits8 signed = signed
signed_so false Bits8 signed = not signed
signed_so bytes Bits16 signed = signed
signed_so bytes Bits24 signed = signed
signed_so bytes Bits32 signed = signed

-- sound that is coded so, of this rate, is among it
abbrev pub takes_coding : SoundTaken → Coding → ℕ → Bool
takes_coding Nothing coding rate = false
takes_coding Pcm (coding.Pcm form) rate = true
takes_coding Pcm coding.Flac rate = false
takes_coding Pcm coding.RawVideo rate = false
takes_coding (PcmIn order signed_bytes) (coding.Pcm form) rate = same_order order form.order && signed_so signed_bytes form.depth form.signed
takes_coding (PcmIn order signed_bytes) coding.Flac rate = false
takes_coding (PcmIn order signed_bytes) coding.RawVideo rate = false
takes_coding (PcmOf own) (coding.Pcm form) rate = same_form own form
takes_coding (PcmOf own) coding.Flac rate = false
takes_coding (PcmOf own) coding.RawVideo rate = false
takes_coding Flac (coding.Pcm form) rate = false
takes_coding Flac coding.Flac rate = nat_le rate 1048575
takes_coding Flac coding.RawVideo rate = false

abbrev pub takes_sound : SoundTaken → Codec → ℕ → Bool
takes_sound taken c rate = takes_coding taken (coding_of c) rate
