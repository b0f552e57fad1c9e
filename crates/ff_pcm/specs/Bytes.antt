-- Linear PCM: the bytes that stand for samples.
use Rattle.std.specs.Prelude.{ℕ, zero, suc, ◌+◌, ◌-◌, ◌*◌, ◌/◌, ◌%◌, ◌^◌, Bool, true, false, ℤ, pos, negsuc, List, [], ◌∷◌, ◌++◌}
use Rattle.std.specs.List.{flat_map}
use Rattle.ff_bits.specs.Integers.{unsigned, number_bytes}
use Rattle.ff_frame.specs.Codecs.{coding_of, depth_bytes}
use Rattle.ff_frame.specs.declared.coding.ByteOrder.{ByteOrder}
use Rattle.ff_frame.specs.declared.coding.ByteOrder.TheVariants.{LittleEndian, BigEndian}
use Rattle.ff_frame.specs.declared.coding.Coding.{Coding}
use Rattle.ff_frame.specs.declared.coding.Coding.TheVariants.{Pcm, Flac, RawVideo}
use Rattle.ff_frame.specs.declared.head.Codec.{Codec}

-- counted from a middle
abbrev pub from_middle : ℕ → ℤ → ℕ
from_middle middle (pos n) = middle + n
from_middle middle (negsuc n) = middle - (n + 1)

-- the number of so many bits that a sample is written as
abbrev pub number_of : Bool → ℕ → ℤ → ℕ
number_of true bits sample = unsigned bits sample
number_of false bits sample = from_middle (2 ^ (bits - 1)) sample

-- so many bytes of a number, the highest first
abbrev pub high_bytes : ℕ → ℕ → List ℕ
high_bytes zero n = []
high_bytes (suc count) n = high_bytes count (n / 256) ++ (n % 256 ∷ [])

-- so many bytes of a number, in this order
abbrev pub bytes_in : ByteOrder → ℕ → ℕ → List ℕ
bytes_in LittleEndian count n = number_bytes count n
bytes_in BigEndian count n = high_bytes count n

-- the bytes of some samples, one behind another; what is said of codings that aren't PCM is never used
abbrev pub coded_bytes : Coding → List ℤ → List ℕ
coded_bytes (Pcm form) samples = flat_map (λ sample. bytes_in form.order (depth_bytes form.depth) (number_of form.signed (8 * depth_bytes form.depth) sample)) samples
coded_bytes Flac samples = []
coded_bytes RawVideo samples = []

abbrev pub bytes_of : Codec → List ℤ → List ℕ
bytes_of codec samples = coded_bytes (coding_of codec) samples
