-- The metadata blocks before the frames (RFC 9639, section 8), one at a time. All numbers are big-endian.
use Rattle.std.specs.Prelude.{ℕ, ◌+◌, ◌*◌, ◌/◌, ◌%◌, ◌^◌, ◌==◌, ◌&&◌, nat_lt, nat_le, not, Bool, if◌then◌else◌, List, length, slice_index, Option, Some, None, Ok, Err}
use Rattle.ff_frame.specs.declared.head.StreamHead.{StreamHead}
use Rattle.ff_frame.specs.declared.head.StreamHead.TheVariants.{Audio}
use Rattle.ff_frame.specs.declared.head.Codec.TheVariants.{Flac}
use Rattle.ff_flac_dec.specs.declared.head.FlacHead.{FlacHead}
use Rattle.ff_flac_dec.specs.declared.head.HeadState.{HeadState}
use Rattle.ff_flac_dec.specs.declared.head.HeadState.TheVariants.{Blocks}
use Rattle.ff_reader.specs.declared.fault.HeadFault.TheVariants.{Damaged, Unsupported}
use Rattle.ff_reader.specs.declared.step.Step.{Step}
use Rattle.ff_reader.specs.declared.step.Step.TheVariants.{Wait, Decide, Skip}

-- what a metadata block does to the reading of a head: where it is passed over, this is known from there on
abbrev pub BlockStep : Type 0
BlockStep = Step FlacHead HeadState

-- the number of three bytes at a place
abbrev pub number_24 : ℕ → List ℕ → ℕ
number_24 i bs = 65536 * slice_index bs i + 256 * slice_index bs (i + 1) + slice_index bs (i + 2)

-- a block's type; the bit before it says that the block is the last (section 8.1)
abbrev pub kind_of : List ℕ → ℕ
kind_of bs = slice_index bs 0 % 128

abbrev pub is_last : List ℕ → Bool
is_last bs = nat_le 128 (slice_index bs 0)

-- the fields of STREAMINFO that say what the frames are: 20 bits of rate, 3 of channels less one, 5 of bits less one (section 8.2)
abbrev pub rate_in : List ℕ → ℕ
rate_in bs = number_24 14 bs / 16 % 2 ^ 20

abbrev pub channels_in : List ℕ → ℕ
channels_in bs = slice_index bs 16 / 2 % 8 + 1

abbrev pub bits_in : List ℕ → ℕ
bits_in bs = 16 * (slice_index bs 16 % 2) + slice_index bs 17 / 16 + 1

-- sound with one tick a sample frame
abbrev pub sound_of : ℕ → ℕ → ℕ → StreamHead
sound_of rate bits channels = Audio (record { num = 1; den = rate }) rate bits channels Flac

-- a block is 4 bytes and its size; the head ends behind the last one, which is there whole
abbrev pub closes : ℕ → StreamHead → ℕ → List ℕ → BlockStep
closes size head at bs =
    if not (is_last bs) then Skip (3 + size) (Blocks (Some head))
    else if nat_lt (length bs) (4 + size) then Wait
    else Decide (Ok (record { head = head; start = at + 4 + size }))

-- the first block is STREAMINFO, of 34 bytes; once these are there, a field is unsupported at the byte in which it begins
unfoldable pub info : ℕ → List ℕ → BlockStep
info at bs =
    if not (kind_of bs == 0 && number_24 1 bs == 34) then Decide (Err (Damaged at))
    else if nat_lt (length bs) 38 then Wait
    else if rate_in bs == 0 then Decide (Err (Unsupported (at + 14)))
    else if not (nat_le 4 (bits_in bs) && nat_le (bits_in bs) 24) then Decide (Err (Unsupported (at + 16)))
    else closes 34 (sound_of (rate_in bs) (bits_in bs) (channels_in bs)) at bs

-- another one is passed over, but for a second STREAMINFO and the type that is forbidden
unfoldable pub other : StreamHead → ℕ → List ℕ → BlockStep
other head at bs =
    if kind_of bs == 0 then Decide (Err (Damaged at))
    else if kind_of bs == 127 then Decide (Err (Damaged at))
    else closes (number_24 1 bs) head at bs

abbrev pub after : Option StreamHead → ℕ → List ℕ → BlockStep
after None at bs = info at bs
after (Some head) at bs = other head at bs

-- what the block does that begins the bytes, at offset at of the input, behind this head: nothing before its type and its length are there
unfoldable pub block : Option StreamHead → ℕ → List ℕ → BlockStep
block format at bs = if nat_lt (length bs) 4 then Wait else after format at bs
