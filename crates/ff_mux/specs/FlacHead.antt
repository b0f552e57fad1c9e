-- What stands before the frames of a FLAC file that is written (RFC 9639, sections 6, 8 and 8.2).
use Rattle.std.specs.Prelude.{ℕ, ◌+◌, ◌-◌, ◌*◌, ◌^◌, ◌<◌, ◌≤◌, nat_lt, if◌then◌else◌, List, [], ◌∷◌, ◌++◌, codes, take, replicate}
use Rattle.std.specs.Int.{bytes_high_first}
use Rattle.ff_frame.specs.Codecs.{IsFlacCodec}
use Rattle.ff_frame.specs.declared.head.StreamHead.{StreamHead}
use Rattle.ff_frame.specs.declared.head.StreamHead.TheVariants.{Audio, Video}
use Rattle.ff_frame.specs.declared.totals.Totals.{Totals}

-- STREAMINFO has room for this rate, these bits and these channels
pub record HasRoom (rate bits channels : ℕ) : Type 0 where
  pub small_rate : rate < 2 ^ 20
  pub some_bits : 4 ≤ bits
  pub few_bits : bits ≤ 24
  pub some_channels : 1 ≤ channels
  pub few_channels : channels ≤ 8

-- it has room for sound of this head
abbrev pub HasRoomFor : StreamHead → Type 0
HasRoomFor (Audio tb rate bits channels codec) = HasRoom rate bits channels
HasRoomFor (Video tb format width height sar_num sar_den) = ⊥

-- a head of sound whose codec is FLAC
abbrev pub IsFlacCoded : StreamHead → Type 0
IsFlacCoded (Audio tb rate bits channels codec) = IsFlacCodec codec
IsFlacCoded (Video tb format width height sar_num sar_den) = ⊥

-- a FLAC file can hold packets of a stream of this head
abbrev pub CanHold : StreamHead → Type 0
CanHold head = IsFlacCoded head × HasRoomFor head

-- a number in so many bits; 0, which says that it isn't known, where it has more
abbrev pub told : ℕ → ℕ → ℕ
told bits n = if nat_lt n (2 ^ bits) then n else 0

-- the rate in 20 bits, the channels less one in 3, the bits less one in 5 and the number of sample frames in 36
abbrev pub sound_of : ℕ → ℕ → ℕ → ℕ → ℕ
sound_of rate bits channels samples = rate * 2 ^ 44 + (channels - 1) * 2 ^ 41 + (bits - 1) * 2 ^ 36 + told 36 samples

-- the 16 bytes of the digest
abbrev pub digest_of : Totals → List ℕ
digest_of totals = take 16 totals.md5

-- the 34 bytes of STREAMINFO: the least and the greatest block, both of 4,096 sample frames, the least and the greatest size of a
-- frame, the sound, and the digest of its samples
unfoldable pub stream_info : ℕ → ℕ → ℕ → Totals → List ℕ
stream_info rate bits channels totals =
    bytes_high_first 2 4096
    ++ bytes_high_first 2 4096
    ++ bytes_high_first 3 (told 24 totals.min_frame)
    ++ bytes_high_first 3 (told 24 totals.max_frame)
    ++ bytes_high_first 8 (sound_of rate bits channels totals.samples)
    ++ digest_of totals

-- that of a stream with this head
abbrev pub info_of : StreamHead → Totals → List ℕ
info_of (Audio tb rate bits channels codec) totals = stream_info rate bits channels totals
info_of (Video tb format width height sar_num sar_den) totals = []

-- where it stands: behind the mark, and the head of the last block of metadata, which has 34 bytes
abbrev pub info_at : ℕ
info_at = 8

unfoldable pub before_info : List ℕ
before_info = codes "fLaC" ++ (0x80 ∷ 0 ∷ 0 ∷ 34 ∷ [])

-- of a stream of which the sizes of frames, the number of sample frames and the digest aren't known
abbrev pub unknown : Totals
unknown = record { min_frame = 0; max_frame = 0; samples = 0; md5 = replicate 16 0 }

-- what stands before the frames
abbrev pub flac_start : StreamHead → Totals → List ℕ
flac_start head totals = before_info ++ info_of head totals
