-- The generated inputs: of n seconds, a WAV file and a YUV4MPEG2 file.
use Rattle.std.specs.Prelude.{ℕ, zero, suc, ◌+◌, ◌*◌, ◌%◌, ℤ, pos, ◌-ℤ◌, List, [], ◌∷◌, ◌++◌}
use Rattle.std.specs.Int.{w16, to_le_bytes, cast_unsigned}
use Rattle.ff_format.specs.declared.format.Rf64.TheVariants.{Never}
use Rattle.ff_time.specs.Fraction.{Fraction}
use Rattle.ff_frame.specs.declared.head.Codec.TheVariants.{PcmS16le}
use Rattle.ff_frame.specs.declared.head.StreamHead.{StreamHead}
use Rattle.ff_frame.specs.declared.head.StreamHead.TheVariants.{Audio, Video}
use Rattle.ff_frame.specs.declared.video.Format.TheVariants.{C420}
use Rattle.ff_wav.specs.Written.{file_of}
use Rattle.ff_y4m.specs.Header.{header, frame_line}

-- so many parts of a second
abbrev pub part_of_a_second : ℕ → Fraction
part_of_a_second parts = record { num = 1; den = parts }

-- 16 bits on two channels, 8,000 sample frames a second
abbrev pub sound_head : StreamHead
sound_head = Audio (part_of_a_second 8000) 8000 16 2 PcmS16le

-- sample i of channel c
abbrev pub sample : ℕ → ℕ → ℤ
sample i c = pos ((i * 37 + c * 101) % 4001) -ℤ pos 2000

-- a sample in two bytes, the lowest first
abbrev pub sample_bytes : ℤ → List ℕ
sample_bytes x = to_le_bytes w16 (cast_unsigned w16 x)

-- the bytes of the first n sample frames
abbrev pub sound : ℕ → List ℕ
sound zero = []
sound (suc n) = sound n ++ (sample_bytes (sample n 0) ++ sample_bytes (sample n 1))

abbrev pub generated_wav : ℕ → List ℕ
generated_wav n = file_of Never sound_head (sound (8000 * n))

-- 16 columns and 8 rows of 4:2:0, 25 pictures a second
abbrev pub picture_head : StreamHead
picture_head = Video (part_of_a_second 25) C420 16 8 1 1

-- the first k bytes of picture f
abbrev pub picture : ℕ → ℕ → List ℕ
picture f zero = []
picture f (suc k) = picture f k ++ ((f * 7 + k * 3) % 256) ∷ []

-- its planes: 128 bytes of Y, 32 of U and 32 of V
unfoldable pub planes : ℕ → List ℕ
planes f = picture f 192

-- the first n pictures, each behind its line
abbrev pub pictures : ℕ → List ℕ
pictures zero = []
pictures (suc n) = pictures n ++ (frame_line ++ planes n)

abbrev pub generated_y4m : ℕ → List ℕ
generated_y4m n = header picture_head ++ pictures (25 * n)
