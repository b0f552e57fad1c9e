-- Linear PCM: the samples that bytes stand for.
use Rattle.std.specs.Prelude.{◌≡◌, ℕ, zero, suc, ◌+◌, ◌-◌, ◌*◌, ◌/◌, ◌^◌, ◌<◌, Bool, true, false, ℤ, pos, ◌-ℤ◌, List, length, map, slice_index, slice_index_or}
use Rattle.std.specs.List.{range_with_len}
use Rattle.ff_bits.specs.Integers.{signed}
use Rattle.ff_frame.specs.Codecs.{coding_of, depth_bytes, sample_bytes}
use Rattle.ff_frame.specs.declared.coding.ByteOrder.{ByteOrder}
use Rattle.ff_frame.specs.declared.coding.ByteOrder.TheVariants.{LittleEndian, BigEndian}
use Rattle.ff_frame.specs.declared.coding.Coding.{Coding}
use Rattle.ff_frame.specs.declared.coding.Coding.TheVariants.{Pcm, Flac, RawVideo}
use Rattle.ff_frame.specs.declared.coding.PcmDepth.{PcmDepth}
use Rattle.ff_frame.specs.declared.head.Codec.{Codec}

-- the number that so many bytes write from a place on, the lowest first: each byte counts 256 times the one before it
abbrev pub number : ℕ → ℕ → List ℕ → ℕ
number zero place bytes = 0
number (suc count) place bytes = slice_index bytes place + 256 * number count (place + 1) bytes

-- the same with the highest first: each byte counts 256 times the one behind it
abbrev pub high_number : ℕ → ℕ → List ℕ → ℕ
high_number zero place bytes = 0
high_number (suc count) place bytes = 256 * high_number count place bytes + slice_index bytes (place + count)

-- the number that so many bytes write from a place on, in this order
abbrev pub number_in : ByteOrder → ℕ → ℕ → List ℕ → ℕ
number_in LittleEndian count place bytes = number count place bytes
number_in BigEndian count place bytes = high_number count place bytes

-- the sample that a number of so many bits is: signed in two's complement, else counted from the middle of its range
abbrev pub value_of : Bool → ℕ → ℕ → ℤ
value_of true bits n = signed bits n
value_of false bits n = pos n -ℤ pos (2 ^ (bits - 1))

-- the bits of a PCM codec's samples
abbrev pub depth : Codec → ℕ
depth codec = 8 * sample_bytes codec

-- sample number k, of this depth, signed or not, in this order of bytes
abbrev pub sample_in : PcmDepth → Bool → ByteOrder → List ℕ → ℕ → ℤ
sample_in bits sign order bytes k = value_of sign (8 * depth_bytes bits) (number_in order (depth_bytes bits) (depth_bytes bits * k) bytes)

-- sample number k; what is said of codings that aren't PCM is never used
abbrev pub coded_sample : Coding → List ℕ → ℕ → ℤ
coded_sample (Pcm form) bytes k = sample_in form.depth form.signed form.order bytes k
coded_sample Flac bytes k = pos 0
coded_sample RawVideo bytes k = pos 0

abbrev pub sample_at : Codec → List ℕ → ℕ → ℤ
sample_at codec bytes k = coded_sample (coding_of codec) bytes k

-- the samples of some bytes
abbrev pub samples_of : Codec → List ℕ → List ℤ
samples_of codec bytes = map (sample_at codec bytes) (range_with_len 0 (length bytes / sample_bytes codec))

-- these bytes, and no byte more, stand for these samples
pub record StandFor (codec : Codec) (bytes : List ℕ) (samples : List ℤ) : Type 0 where
  pub size : length bytes ≡ sample_bytes codec * length samples
  pub each : (k : ℕ) → k < length samples → slice_index_or samples k (pos 0) ≡ sample_at codec bytes k
