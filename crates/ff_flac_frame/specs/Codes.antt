-- What the codes of a frame stand for (RFC 9639, sections 9.1 and 9.2), and which of them a stream allows.
use Rattle.ff_flac_frame.specs.declared.subframe.SubKind.{SubKind}
use Rattle.ff_flac_frame.specs.declared.subframe.SubKind.TheVariants.{Constant, Verbatim, Fixed, Lpc}
use Rattle.std.specs.Prelude.{ℕ, ◌+◌, ◌-◌, ◌/◌, ◌%◌, ◌^◌, Bool, true, false, not, ◌&&◌, ◌||◌, ◌==◌, nat_lt, nat_le, if◌then◌else◌, List, [], ◌∷◌, ◌++◌, replicate, slice_index}
use Rattle.ff_bits.specs.Bits.{value_of}

-- any value
abbrev pub any : ℕ → Bool
any v = true

abbrev pub equal : ℕ → ℕ → Bool
equal w v = v == w

abbrev pub below : ℕ → ℕ → Bool
below limit v = nat_lt v limit

-- the sync code: thirteen ones and two zeros (section 9.1)
abbrev pub sync : ℕ
sync = value_of (replicate 13 true ++ replicate 2 false)

abbrev pub not_zero : ℕ → Bool
not_zero v = not (v == 0)

-- the block size of codes 1 to 5 and 8 to 15 (section 9.1.1)
abbrev pub block_table : List ℕ
block_table = 0 ∷ 192 ∷ 576 ∷ 1152 ∷ 2304 ∷ 4608 ∷ 0 ∷ 0 ∷ 256 ∷ 512 ∷ 1024 ∷ 2048 ∷ 4096 ∷ 8192 ∷ 16384 ∷ 32768 ∷ []

-- the rate of codes 1 to 11 (section 9.1.2)
abbrev pub rate_table : List ℕ
rate_table = 0 ∷ 88200 ∷ 176400 ∷ 192000 ∷ 8000 ∷ 16000 ∷ 22050 ∷ 24000 ∷ 32000 ∷ 44100 ∷ 48000 ∷ 96000 ∷ []

-- a rate code under which this rate can be written
unfoldable pub rate_fits : ℕ → ℕ → Bool
rate_fits rate code =
    if code == 0 then true
    else (if nat_lt code 12 then rate == slice_index rate_table code
    else (if code == 12 then (rate % 1000 == 0) && nat_lt (rate / 1000) 256
    else (if code == 13 then nat_lt rate 65536
    else (if code == 14 then (rate % 10 == 0) && nat_lt (rate / 10) 65536
    else false))))

-- the channel codes of two channels of which one is their difference (section 9.1.3)
abbrev pub left_side : ℕ
left_side = 8

abbrev pub side_right : ℕ
side_right = 9

abbrev pub mid_side : ℕ
mid_side = 10

-- Under a lower code each channel stands alone.
abbrev pub is_alone : ℕ → Bool
is_alone code = nat_lt code left_side

-- a channel code of so many channels
unfoldable pub form_fits : ℕ → ℕ → Bool
form_fits channels code = (is_alone code && (code + 1 == channels)) || ((nat_le left_side code && nat_le code mid_side) && (channels == 2))

-- a depth code of this depth (section 9.1.4)
unfoldable pub depth_fits : ℕ → ℕ → Bool
depth_fits bits code =
    if code == 0 then true else (if code == 1 then bits == 8 else (if code == 2 then bits == 12 else
    (if code == 4 then bits == 16 else (if code == 5 then bits == 20 else (if code == 6 then bits == 24 else (if code == 7 then bits == 32 else false))))))

-- what a subframe of this type code is (section 9.2.1)
unfoldable pub kind_of : ℕ → SubKind
kind_of code = if code == 0 then Constant else (if code == 1 then Verbatim else (if nat_lt code 32 then Fixed else Lpc))

-- how many samples a predictor of this type code looks back
unfoldable pub order_of : ℕ → ℕ
order_of kind = if nat_lt kind 8 then 0 else (if nat_lt kind 32 then kind - 8 else kind - 31)

-- the type code of a subframe in a block of this size
unfoldable pub kind_fits : ℕ → ℕ → Bool
kind_fits block kind = (nat_lt kind 2 || ((nat_lt 7 kind && nat_lt kind 13) || nat_lt 31 kind)) && nat_le (order_of kind) block

-- how many samples stand before the residuals, or in their place
unfoldable pub warm_count : ℕ → ℕ → ℕ
warm_count block kind = if kind == 0 then 1 else (if kind == 1 then block else order_of kind)

-- a partition order: the block is divisible, and a partition is as long as the predictor's order at least
unfoldable pub order_fits : ℕ → ℕ → ℕ → Bool
order_fits block order p = nat_lt p 16 && ((block % 2 ^ p == 0) && nat_le order (block / 2 ^ p))

-- the depth of each channel's subframe
unfoldable pub depths : ℕ → ℕ → ℕ → List ℕ
depths form channels bits =
    if is_alone form then replicate channels bits
    else (if form == side_right then (bits + 1) ∷ bits ∷ [] else bits ∷ (bits + 1) ∷ [])
